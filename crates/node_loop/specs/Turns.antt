-- Part of the statement: what turns of a node are.
use Rattle.std.specs.Prelude.{Bool, true, false, ◌||◌, ◌≡◌, ℕ, ◌+◌, ◌<◌, ◌≤◌, IsTrue, Option, None, Some, List, [], ◌∷◌, ◌++◌, length, get_or}
use Rattle.zen_link.specs.Told.{counted, most_connections}
use Rattle.policy_model.specs.declared.settings.Settings.{Settings}
use Rattle.policy_model.specs.Entries.{Life}
use Rattle.zen_link.specs.declared.link.Input.{Input}
use Rattle.zen_link.specs.declared.link.Traffic.{Traffic}
use Rattle.node_loop.specs.declared.connection.Connection.{Connection}
use Rattle.node_loop.specs.declared.connection.Connection.TheVariants.{Fresh}
use Rattle.node_loop.specs.declared.node.End.{End}
use Rattle.node_loop.specs.declared.node.End.TheVariants as ends
use Rattle.zen_link.specs.declared.link.Input.TheVariants.{Stop}
use Rattle.zen_link.specs.Streams.{Appended}
use Rattle.policy_model.specs.declared.events.Event.TheVariants.{Start}
use Rattle.node_loop.specs.Happenings.{Happening, Comes, Makes}
use Rattle.node_loop.specs.Intakes.{Intake, Read, Unread, Refused, Intakes, NoIntakes, Then, followed, inputs_in}
use Rattle.node_loop.specs.Connections.{reading_of, bytes_of, made_by, makes, course_from, last_made}
use Rattle.node_loop.specs.Reports.{Output}
use Rattle.policy_model.specs.Entries.{Entry}
use Rattle.node_loop.specs.WritesAndSends.{WritesAndSends, CutShort, goes_on}

-- each connection's reader holds what its bytes leave
abbrev pub Reads : List Connection → Intakes → Type 0
Reads readings intakes = (conn : ℕ) → conn < most_connections → get_or readings conn Fresh ≡ reading_of (bytes_of conn intakes)

abbrev pub is_stop : Option End → Bool
is_stop (Some ends.Stop) = true
is_stop end = false

abbrev pub is_unsaid : End → Bool
is_unsaid ends.Write = true
is_unsaid ends.Memory = true
is_unsaid end = false

abbrev pub is_stop_input : Input → Bool
is_stop_input Stop = true
is_stop_input input = false

-- the link gave Stop
abbrev pub has_stop : List Intake → Bool
has_stop [] = false
has_stop (Read input ∷ is) = is_stop_input input || has_stop is
has_stop (Unread conn bytes ∷ is) = has_stop is
has_stop (Refused ∷ is) = has_stop is

-- how often the link was asked: once for each intake, and once more where it failed
abbrev pub asks_of : Option End → List Intake → ℕ
asks_of (Some ends.Link) taken = length taken + 1
asks_of end taken = length taken

-- a count of calls rose by so many, or to the end of its type
abbrev pub HasRisen : (was now more : ℕ) → Type 0
HasRisen was now more = counted now 0 ≡ counted was more

-- the last part of these
abbrev pub IsRestOf : List Happening → List Happening → Type 0
IsRestOf rest whole = (prefix : List Happening) × (prefix ++ rest ≡ whole)

module _ {X : Type 0} (output : X → Output) (text : Life → Entry → List ℕ) (s : Settings) (life : Life) (intakes : Intakes)
    (end : Option End) (out_was out_now : Option (List ℕ)) (was now : Option (List (Traffic X))) (stands : Life → Type 0)
    (readings : List Connection) where
  -- what a node that stood for a life and for inputs did at one more input, that was taken before
  pub record TakesIn (input : Input) : Type 0 where
    pub intake : Intake
    pub is : inputs_in intake ≡ input ∷ []
    pub tells : WritesAndSends output text s life (makes (made_by intakes intake)) end out_was out_now was now stands
    pub reads : Reads readings (Then intakes intake)

  -- What it did at further ones, that it took, with so many calls of the link at most. Where it ended within an input, what is left is a
  -- rest of what the last one made.
  pub record Turns (asked_was asked_now turns : ℕ) : Type 0 where
    pub taken : List Intake
    pub tells : WritesAndSends output text s life (course_from intakes taken) end out_was out_now was now stands
    pub last : IsRestOf tells.left (last_made [] intakes taken)
    pub reads : Reads readings (followed intakes taken)
    pub asked : HasRisen asked_was asked_now (asks_of end taken)
    pub at_most : length taken ≤ turns
    pub every : IsTrue (goes_on end) → length taken ≡ turns
    pub stop : is_stop end ≡ has_stop taken

-- a text was written whole, or not whole where this is the end
abbrev pub Says : Option End → (out_was out_now : Option (List ℕ)) → List ℕ → Type 0
Says None out_was out_now text = Appended out_was out_now text
Says (Some end) out_was out_now text = (is_unsaid end ≡ true) × CutShort end out_was out_now text

module _ {X : Type 0} (output : X → Output) (text : Life → Entry → List ℕ) (s : Settings) (life : Life) (end : End) where
  -- What a node did after the line of its opening: Start and what the inputs bring. What is left is a rest of what the last input made, or
  -- of Start.
  pub record ServesOn (out_was out_now : Option (List ℕ)) (was now : Option (List (Traffic X))) (stands : Life → Type 0)
      (asked_was asked_now turns : ℕ) : Type 0 where
    pub taken : List Intake
    pub tells : WritesAndSends output text s life (Makes (Comes Start) ∷ course_from NoIntakes taken) (Some end) out_was out_now was now
        stands
    pub last : IsRestOf tells.left (last_made (Comes Start ∷ []) NoIntakes taken)
    pub asked : HasRisen asked_was asked_now (asks_of (Some end) taken)
    pub at_most : length taken ≤ turns
    pub every : end ≡ ends.Turns → length taken ≡ turns
    pub stop : is_stop (Some end) ≡ has_stop taken

  -- What a node did that was just opened: it writes the line of its opening, and goes on where that is written whole.
  pub data Serves (out_was out_now : Option (List ℕ)) (was now : Option (List (Traffic X))) (stands : Life → Type 0)
      (asked_was asked_now turns : ℕ) (opening : List ℕ) : Type 0 where
    Unopened : is_unsaid end ≡ true → CutShort end out_was out_now opening → now ≡ was → asked_now ≡ asked_was → stands life
        → Serves out_was out_now was now stands asked_was asked_now turns opening
    Served : (out_mid : Option (List ℕ)) → Appended out_was out_mid opening
        → ServesOn out_mid out_now was now stands asked_was asked_now turns
        → Serves out_was out_now was now stands asked_was asked_now turns opening
