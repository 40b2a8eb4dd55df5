-- For the contracts inside: what the crash clauses of a node over its link say of runs that ended or were killed, as statements.
use Rattle.std.specs.Prelude.{◌≡◌, ◌≤◌, ◌⊎◌, ℕ, Bool, true, false, Option, Some, List, [], ◌∷◌, ◌++◌}
use Rattle.voting_config.specs.Ids.{Id}
use Rattle.cluster_state.specs.declared.state.Kept.{Kept}
use Rattle.zen_disk.specs.declared.disks.Disks.{Ghosts as Disks}
use Rattle.world_model.specs.NodeState.{durable_of}
use Rattle.world_model.specs.Histories.{node_history}
use Rattle.policy_model.specs.declared.settings.Settings.{Settings}
use Rattle.policy_model.specs.declared.events.Event.{Event}
use Rattle.policy_model.specs.Events.{Item, acts_of, added, And, Begins}
use Rattle.policy_model.specs.Entries.{Entry, Life, Lived, Did, log_of, frames_of, replies_of}
use Rattle.policy_model.specs.Follows.{Follows, is_struck, has_fault, items_of}
use Rattle.policy_model.specs.Struck.{settled_items}
use Rattle.system_laws.specs.Systems.{System, Runs, run_of, history_of, IsSystem, IsDoneOf}
use Rattle.system_laws.specs.Restarts.{IsKilled}
use Rattle.node_loop.specs.Crashes.{IsLeftBy, IsLastRecord}
use Rattle.node_loop.specs.Reports.{lived}
use Rattle.node_loop.specs.Running.{StoodOn, HoldsOn}

-- what a crash leaves at a moment of an event of a node's run is what a kill within this event leaves
abbrev pub LawCrashIsKill : Type 0
LawCrashIsKill =
    (initial : List Id) (h : System) → IsSystem initial h
    → (n : Id) (s : Settings) (life : Life) → run_of h n ≡ Runs s life
    → (event : Event) (items : List Item) → Follows s (Lived life (Did event items))
    → (found : Kept) → IsLeftBy life (Did event items) (Some found) → IsKilled h n event found

-- From one life to another some entries were lived, and within the next one, an event, the node was killed: this was done of it, with no
-- frame and no reply sent, and the record is what the node then kept.
pub record IsCutBetween (s : Settings) (life new : Life) (found : Option Kept) : Type 0 where
  pub prefix : List Entry
  pub event : Event
  pub items : List Item
  pub rest : List Entry
  pub goes : lived life (prefix ++ Did event items ∷ rest) ≡ new
  pub done : List Item
  pub did : IsDoneOf (items_of s (log_of (lived life prefix)) event) done
  pub silent : frames_of done ≡ []
  pub unanswered : replies_of done ≡ []
  pub kept : found ≡ Some (durable_of (acts_of (added (And (log_of (lived life prefix)) (Begins event)) done)))

-- What a crash leaves at a moment of a run: it might have left that before the run, or a node leaves it that was killed within the run.
abbrev pub LawMomentIsCut : {D : Type 0} → Disks D → Type 0
LawMomentIsCut d =
    (opened back : _) (s : Settings) (life new : Life) → Follows s new → HoldsOn d opened back s life new → d.told
    → (t : ℕ) (found : Option Kept) → t ≤ d.moment opened → StoodOn d back t found
    → StoodOn d opened t found ⊎ IsCutBetween s life new found

-- the last event met a fault: it counts as kept or as not kept, and the record is that of all acts then
pub record IsSettledAs (s : Settings) (life : Life) (event : Event) (items : List Item) (found : Kept) : Type 0 where
  pub kept : Bool
  pub follows : Follows s (Lived life (Did event (settled_items kept items)))
  pub record_is : found ≡ durable_of (acts_of (log_of (Lived life (Did event (settled_items kept items)))))

-- the record that a run leaves that has ended: that of all acts of its node, the last one kept or not where it was struck
pub record IsEnd (h : System) (n : Id) (s : Settings) (life : Life) (found : Kept) : Type 0 where
  pub unstruck : is_struck life ≡ false → found ≡ durable_of (node_history (history_of h) n)
  pub struck : (before : Life) (event : Event) (items : List Item) → life ≡ Lived before (Did event items) → has_fault items ≡ true
      → IsSettledAs s before event items found

abbrev pub LawEndIsKept : Type 0
LawEndIsKept =
    (initial : List Id) (h : System) → IsSystem initial h
    → (n : Id) (s : Settings) (life : Life) → run_of h n ≡ Runs s life → Follows s life
    → (found : Kept) → IsLastRecord life (Some found) → IsEnd h n s life found
