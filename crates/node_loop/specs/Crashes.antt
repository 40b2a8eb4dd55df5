-- Part of the statement: what a crash may leave while entries are lived, and after them.
use Rattle.std.specs.Prelude.{◌≡◌, ◌≤◌, ℕ, Bool, true, false, ◌||◌, Option, Some, List, [], ◌∷◌}
use Rattle.cluster_state.specs.declared.state.Kept.{Kept}
use Rattle.state_journal.specs.Changes.{IsEither}
use Rattle.world_model.specs.Acts.{NodeHistory, NoActs, Then, is_crashed}
use Rattle.world_model.specs.NodeState.{durable_of}
use Rattle.coordinator.specs.CoreActs.{IsAlong}
use Rattle.policy_model.specs.declared.settings.Settings.{Settings}
use Rattle.policy_model.specs.Events.{acts_of}
use Rattle.policy_model.specs.Entries.{Life, Lived, Entry, Did, Gone, Bad, NoMemory, Unread, log_of}
use Rattle.policy_model.specs.Follows.{is_struck}
use Rattle.policy_model.specs.Struck.{settled_acts}
use Rattle.zen_disk.specs.Faults.{Rose}
use Rattle.zen_disk.specs.Moments.{LeavesOnly}
use Rattle.node_loop.specs.Reports.{IsIdle, lived}

-- at some moment of an event: the record of the acts so far, without the act in hand or with it kept
abbrev pub IsLeftBy : Life → Entry → Option Kept → Type 0
IsLeftBy life (Did event items) found = IsAlong (acts_of (log_of life)) items found
IsLeftBy life e found = ⊥

-- an act was shown at which the node crashed
abbrev pub has_crashed : NodeHistory → Bool
has_crashed NoActs = false
has_crashed (Then g act outcome) = is_crashed outcome || has_crashed g

module _ {C : Type 0} (stands_for : C → Settings → Life → Type 0) (told : Type 0) (moment : C → ℕ)
    (left_since : C → ℕ → Option Kept → Type 0) (s : Settings) where
  -- A node that stood for a life became one that stands for it with one more entry. A crash at any moment between leaves the record of the
  -- acts before this entry and of some first acts of it, the last of these kept or not.
  pub record Passes (old now : C) (life : Life) (e : Entry) : Type 0 where
    pub stands : stands_for now s (Lived life e)
    pub any_moment : told → LeavesOnly moment left_since old now (IsLeftBy life e)

  -- one entry after the other, each from where the one before it led, and after the last one nothing more
  abbrev pub Along : (old now : C) → Life → List Entry → Type 0
  Along old now life [] = told → LeavesOnly moment left_since old now (λ found. ⊥)
  Along old now life (e ∷ es) = (mid : C) × Passes old mid life e × Along mid now (Lived life e) es

-- A node that stood for one life stands for another, to which some entries lead, and came there by one entry after the other. An entry is
-- struck only where the disk failed meanwhile, and at no act the node is said to have crashed.
pub record Holds {C : Type 0} (stands_for : C → Settings → Life → Type 0) (told : Type 0) (moment : C → ℕ)
    (left_since : C → ℕ → Option Kept → Type 0) (faults : C → ℕ)
    (old now : C) (s : Settings) (life new : Life) : Type 0 where
  pub stands : stands_for now s new
  pub entries : List Entry
  pub reached : lived life entries ≡ new
  pub along : Along stands_for told moment left_since s old now life entries
  pub later : faults old ≤ faults now
  pub struck : is_struck life ≡ false → is_struck new ≡ true → Rose (faults old) (faults now)
  pub uncrashed : has_crashed (acts_of (log_of new)) ≡ has_crashed (acts_of (log_of life))

-- ---- after the last entry

-- the record of these acts; where the last one was struck, with it counted as not kept or as kept
abbrev pub IsRecordOf : (struck : Bool) → NodeHistory → Option Kept → Type 0
IsRecordOf false g found = found ≡ Some (durable_of g)
IsRecordOf true g found = IsEither (durable_of (settled_acts false g)) (durable_of (settled_acts true g)) found

-- the record that a node leaves that has lived this
abbrev pub IsLastRecord : Life → Option Kept → Type 0
IsLastRecord life found = IsRecordOf (is_struck life) (acts_of (log_of life)) found

-- There is a moment, not after now, since which a crash leaves nothing but the last record. It is now, unless the last event
-- was struck.
pub record LeavesLast {C : Type 0} (moment : C → ℕ) (left_since : C → ℕ → Option Kept → Type 0) (now : C) (life : Life) : Type 0 where
  pub since : ℕ
  pub past : since ≤ moment now
  pub at_once : is_struck life ≡ false → since ≡ moment now
  pub only : (found : Option Kept) → left_since now since found → IsLastRecord life found

-- an entry of no event changes nothing of it
pub last_idle : {C : Type 0} (moment : C → ℕ) (left_since : C → ℕ → Option Kept → Type 0) (now : C) (life : Life) (e : Entry) → IsIdle e
    → LeavesLast moment left_since now life → LeavesLast moment left_since now (Lived life e)
last_idle moment left_since now life (Did event items) is l = absurd is
last_idle moment left_since now life (Gone conn) is l = record { since = l.since; past = l.past; at_once = l.at_once; only = l.only }
last_idle moment left_since now life (Bad conn fault) is l = record { since = l.since; past = l.past; at_once = l.at_once; only = l.only }
last_idle moment left_since now life NoMemory is l = record { since = l.since; past = l.past; at_once = l.at_once; only = l.only }
last_idle moment left_since now life (Unread conn) is l = record { since = l.since; past = l.past; at_once = l.at_once; only = l.only }
