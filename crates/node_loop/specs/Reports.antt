-- Part of the statement: what the entries of a node's life stand for, and what of them leaves the node.
use Rattle.std.specs.Prelude.{◌≡◌, ℕ, if◌then◌else◌, List, [], ◌∷◌, ◌++◌}
use Rattle.zen_link.specs.declared.link.Traffic.{Traffic}
use Rattle.zen_link.specs.declared.link.Traffic.TheVariants.{Took, Gave, Dropped}
use Rattle.wire_frames.specs.declared.frame.Frame.{Frame}
use Rattle.master_tasks.specs.declared.waiting.Outgoing.{Outgoing}
use Rattle.policy_model.specs.declared.settings.Settings.{Settings}
use Rattle.policy_model.specs.Events.{Item}
use Rattle.policy_model.specs.Entries.{Entry, Did, Bad, Gone, NoMemory, Life, Lived, frames_of, replies_of}
use Rattle.policy_model.specs.Entries as entry
use Rattle.policy_model.specs.Follows.{EntryFollows, has_fault}
use Rattle.node_loop.specs.Happenings.{Happening, Comes, Faulty, Ends, Unread, Refused, Mark, Takes, Makes}

-- the life with these entries
abbrev pub lived : Life → List Entry → Life
lived life [] = life
lived life (e ∷ es) = lived (Lived life e) es

-- each of them is what the policy says next
abbrev pub EntriesFollow : Settings → Life → List Entry → Type 0
EntriesFollow s life [] = Unit {0}
EntriesFollow s life (e ∷ es) = EntryFollows s life e × EntriesFollow s (Lived life e) es

-- an entry stands for what happened; an event that found no memory has an entry that says that alone
abbrev pub StandsFor : Entry → Happening → Type 0
StandsFor (Did event items) (Comes e) = e ≡ event
StandsFor NoMemory (Comes e) = Unit {0}
StandsFor NoMemory Refused = Unit {0}
StandsFor (Bad conn fault) (Faulty c f) = (c ≡ conn) × (f ≡ fault)
StandsFor (Gone conn) (Ends c) = c ≡ conn
StandsFor (entry.Unread conn) (Unread c) = c ≡ conn
StandsFor e happening = ⊥

abbrev pub happened_in : Mark → List Happening
happened_in (Takes input) = []
happened_in (Makes happening) = happening ∷ []

-- the entries stand for a prefix of what happened, one for one, and this is left of it
abbrev pub Reported : List Happening → List Entry → List Happening → Type 0
Reported happened [] left = left ≡ happened
Reported [] (e ∷ es) left = ⊥
Reported (h ∷ hs) (e ∷ es) left = StandsFor e h × Reported hs es left

-- the lines of entries, each written in the light of the life so far
abbrev pub text_of : (text : Life → Entry → List ℕ) → Life → List Entry → List ℕ
text_of text life [] = []
text_of text life (e ∷ es) = text life e ++ text_of text (Lived life e) es

-- frames and replies that leave a node together
pub record Output : Type 0 where
  pub frames : List Frame
  pub replies : List Outgoing

abbrev pub output_of : List Item → Output
output_of items = record { frames = frames_of items; replies = replies_of items }

-- what a link is given for an entry: what an event that was not struck sends, or which connection is dropped
abbrev pub moves_in : Entry → List (Traffic Output)
moves_in (Did event items) = if has_fault items then [] else Gave (output_of items) ∷ []
moves_in (Bad conn fault) = Dropped conn ∷ []
moves_in (entry.Unread conn) = Dropped conn ∷ []
moves_in e = []

-- what goes over a link in the course of a run: each input, and after it what is given for the entries of what it made
abbrev pub moves_of : List Mark → List Entry → List (Traffic Output)
moves_of [] es = []
moves_of (Takes input ∷ marks) es = Took input ∷ moves_of marks es
moves_of (Makes happening ∷ marks) [] = moves_of marks []
moves_of (Makes happening ∷ marks) (e ∷ es) = moves_in e ++ moves_of marks es

-- an entry of no event
abbrev pub IsIdle : Entry → Type 0
IsIdle (Did event items) = ⊥
IsIdle e = Unit {0}
