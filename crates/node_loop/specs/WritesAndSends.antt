-- Part of the statement: what a node writes and sends of what happened to it.
use Rattle.std.specs.Prelude.{◌≡◌, ℕ, ◌≤◌, Bool, true, false, IsTrue, Option, None, Some, List, [], ◌++◌, map, length}
use Rattle.std.specs.List.{flat_map}
use Rattle.zen_disk.specs.Faults.{Rose}
use Rattle.zen_link.specs.Streams.{Appended, AppendedPrefix}
use Rattle.policy_model.specs.declared.settings.Settings.{Settings}
use Rattle.policy_model.specs.Entries.{Life}
use Rattle.policy_model.specs.Follows.{is_struck, starts_next}
use Rattle.zen_link.specs.declared.link.Traffic.{Traffic}
use Rattle.zen_link.specs.declared.link.Traffic.TheVariants.{Took, Gave, Dropped}
use Rattle.node_loop.specs.declared.node.End.{End}
use Rattle.node_loop.specs.declared.node.End.TheVariants as ends
use Rattle.node_loop.specs.Happenings.{Happening, Mark}
use Rattle.node_loop.specs.Reports.{Output, lived, EntriesFollow, happened_in, Reported, text_of, moves_of}
use Rattle.policy_model.specs.Entries.{Entry}

-- the node was started, and its disk has not failed
pub record IsUp (life : Life) : Type 0 where
  pub started : starts_next life ≡ false
  pub unstruck : is_struck life ≡ false

-- the node was just opened
pub record IsOpened (life : Life) : Type 0 where
  pub unstarted : starts_next life ≡ true
  pub unstruck : is_struck life ≡ false

-- a run with this end reports all that happened, since it did not end within an input, and leaves its node up
abbrev pub does_all : Option End → Bool
does_all None = true
does_all (Some ends.Stop) = true
does_all (Some ends.Turns) = true
does_all (Some ends.Write) = false
does_all (Some ends.Disk) = false
does_all (Some ends.Link) = true
does_all (Some ends.Memory) = false

-- and writes each report whole
abbrev pub says_all : Option End → Bool
says_all None = true
says_all (Some ends.Stop) = true
says_all (Some ends.Turns) = true
says_all (Some ends.Write) = false
says_all (Some ends.Disk) = true
says_all (Some ends.Link) = true
says_all (Some ends.Memory) = false

abbrev pub goes_on : Option End → Bool
goes_on None = true
goes_on (Some end) = false

-- what was sent, seen as frames and replies
abbrev pub seen : {X : Type 0} → (X → Output) → Traffic X → Traffic Output
seen output (Took input) = Took input
seen output (Gave x) = Gave (output x)
seen output (Dropped conn) = Dropped conn

-- what was told has grown by these
pub record GrownBy {X : Type 0} (output : X → Output) (was : Option (List (Traffic X))) (all : List (Traffic X))
    (moves : List (Traffic Output)) : Type 0 where
  pub before : List (Traffic X)
  pub told : was ≡ Some before
  pub grown : map (seen output) all ≡ map (seen output) before ++ moves

-- where it is told now, it was told, and these have come since
abbrev pub Grows : {X : Type 0} → (X → Output) → Option (List (Traffic X)) → Option (List (Traffic X)) → List (Traffic Output) → Type 0
Grows output was now moves = (all : List (Traffic _)) → now ≡ Some all → GrownBy output was all moves

-- A run of a node that lived so far. All that happened in its course is reported as the policy says, or a prefix of it where
-- the run ended within an input. The lines of what is said are written whole, and it is sent; what is unsaid is at most one
-- entry, which the node lived but of which only a part was written, none where memory ran out and not all where the sink
-- failed, and nothing is sent for it. A run that the disk ended ends with an event that the disk struck.
pub record WritesAndSends {X : Type 0} (output : X → Output) (text : Life → Entry → List ℕ) (s : Settings) (life : Life)
    (course : List Mark)
    (end : Option End) (out_was out_now : Option (List ℕ)) (was now : Option (List (Traffic X))) (stands : Life → Type 0) : Type 0 where
  pub said : List Entry
  pub unsaid : List Entry
  pub left : List Happening
  pub part : List ℕ
  pub rest : List ℕ
  pub reports : Reported (flat_map happened_in course) (said ++ unsaid) left
  pub follows : EntriesFollow s life (said ++ unsaid)
  pub lives : stands (lived life (said ++ unsaid))
  pub up : IsTrue (does_all end) → IsUp (lived life (said ++ unsaid))
  pub all_done : IsTrue (does_all end) → left ≡ []
  pub all_said : IsTrue (says_all end) → unsaid ≡ []
  pub at_most_one : length unsaid ≤ 1
  pub cut : part ++ rest ≡ text_of text (lived life said) unsaid
  pub silent : end ≡ Some ends.Memory → part ≡ []
  pub short : end ≡ Some ends.Write → rest ≡ [] → ⊥
  pub written : Appended out_was out_now (text_of text life said ++ part)
  pub told : Grows output was now (moves_of course said)
  pub struck : end ≡ Some ends.Disk → is_struck (lived life (said ++ unsaid)) ≡ true

-- A text was not written whole: nothing of it where memory ran out, and where the sink failed a prefix that is not all of it.
pub record CutShort (end : End) (out_was out_now : Option (List ℕ)) (text : List ℕ) : Type 0 where
  pub prefix : AppendedPrefix out_was out_now text
  pub silent : end ≡ ends.Memory → prefix.prefix ≡ []
  pub short : end ≡ ends.Write → prefix.rest ≡ [] → ⊥

-- An end comes only where the count of faults of its object rose; the counts never fall.
pub record HasCauses (end : Option End) (disk_was disk_now out_was out_now link_was link_now : ℕ) : Type 0 where
  pub disk_later : disk_was ≤ disk_now
  pub out_later : out_was ≤ out_now
  pub link_later : link_was ≤ link_now
  pub write : end ≡ Some ends.Write → Rose out_was out_now
  pub disk : end ≡ Some ends.Disk → Rose disk_was disk_now
  pub link : end ≡ Some ends.Link → Rose link_was link_now
