-- Part of the statement: when a node's life follows the policy.
use Rattle.std.specs.Prelude.{◌≡◌, Bool, true, false, ◌||◌, ◌⊎◌, Option, List, [], ◌∷◌, ◌++◌}
use Rattle.world_model.specs.declared.acts.Act.{Act}
use Rattle.world_model.specs.declared.acts.Act.TheVariants.{Open}
use Rattle.world_model.specs.declared.acts.Outcome.{Outcome}
use Rattle.world_model.specs.declared.acts.Outcome.TheVariants.{Answered, Disk, Crashed}
use Rattle.world_model.specs.declared.acts.ActReply.TheVariants.{Taken}
use Rattle.world_model.specs.declared.acts.Message.{Message}
use Rattle.world_model.specs.Replies.{writes}
use Rattle.world_model.specs.Histories.{ContinuesUnlessFirst}
use Rattle.policy_model.specs.declared.settings.Settings.{Settings}
use Rattle.policy_model.specs.Events.{Event, Start, Item, Begins, Acts, Sends, Replies, Log, And, acts_of}
use Rattle.policy_model.specs.Entries.{Entry, Did, Life, NotBegun, Opened, Lived, log_of}
use Rattle.policy_model.specs.Views.{view_of}
use Rattle.policy_model.specs.Rules.{next_of}

-- the disk failed, or the node crashed
abbrev pub is_fault : Outcome → Bool
is_fault (Answered reply) = false
is_fault (Disk kept) = true
is_fault (Crashed kept) = true

-- what stays of an item where its event does not come to its end: no frame and no reply
abbrev pub without_output : Item → List Item
without_output (Sends frame) = []
without_output (Replies answer) = []
without_output i = i ∷ []

-- the event's items up to an act that writes and would be taken, at which the disk failed or the node crashed
pub data IsStruck : List Item → List Item → Type 0 where
  Here : (act : Act) (sends : Option Message) (wins : Bool) (rest : List Item) (fault : Outcome)
      → writes act ≡ true → is_fault fault ≡ true
      → IsStruck (Acts act (Answered (Taken sends wins)) ∷ rest) (Acts act fault ∷ [])
  Later : (i : Item) (rest left : List Item) → IsStruck rest left → IsStruck (i ∷ rest) (without_output i ++ left)

abbrev pub has_fault : List Item → Bool
has_fault [] = false
has_fault (Acts act outcome ∷ is) = is_fault outcome || has_fault is
has_fault (i ∷ is) = has_fault is

-- the last event was struck: only an opening comes next
abbrev pub is_struck : Life → Bool
is_struck NotBegun = false
is_struck (Opened life found) = false
is_struck (Lived life (Did event items)) = has_fault items
is_struck (Lived life entry) = is_struck life

-- no event came since the opening: the start comes next
abbrev pub starts_next : Life → Bool
starts_next NotBegun = true
starts_next (Opened life found) = true
starts_next (Lived life (Did event items)) = false
starts_next (Lived life entry) = starts_next life

abbrev pub is_start : Event → Bool
is_start Start = true
is_start event = false

module _ (s : Settings) where
  -- what the node does at this event
  abbrev pub items_of : Log → Event → List Item
  items_of l event = next_of s (view_of s (And l (Begins event))) event

  pub record IsNext (life : Life) (event : Event) (items : List Item) : Type 0 where
    pub up : is_struck life ≡ false
    pub start : is_start event ≡ starts_next life
    pub does : (items ≡ items_of (log_of life) event) ⊎ IsStruck (items_of (log_of life) event) items

  abbrev pub EntryFollows : Life → Entry → Type 0
  EntryFollows life (Did event items) = IsNext life event items
  EntryFollows life entry = is_struck life ≡ false

  -- at each event the node does what the rules say, and each opening finds what was kept
  abbrev pub Follows : Life → Type 0
  Follows NotBegun = Unit {0}
  Follows (Opened life found) = Follows life × ContinuesUnlessFirst (acts_of (log_of life)) (Open found)
  Follows (Lived life entry) = Follows life × EntryFollows life entry
