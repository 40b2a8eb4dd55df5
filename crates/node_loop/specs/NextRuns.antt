-- For the contracts inside: how a run of a node begins after one that ended or was killed, as statements.
use Rattle.std.specs.Prelude.{◌≡◌, ◌≢◌, Bool, true, false, Some, List, []}
use Rattle.voting_config.specs.Ids.{Id}
use Rattle.cluster_state.specs.declared.state.Kept.{Kept}
use Rattle.policy_model.specs.declared.settings.Settings.{Settings}
use Rattle.policy_model.specs.declared.events.Event.{Event}
use Rattle.policy_model.specs.Events.{Item}
use Rattle.policy_model.specs.Entries.{Life, Lived, Did}
use Rattle.policy_model.specs.Follows.{Follows, is_struck, has_fault}
use Rattle.policy_model.specs.Struck.{settled_items}
use Rattle.system_laws.specs.Systems.{System, Lives, Dies, Runs, run_of, frames_sent, WasSent, MayStart, IsSystem}
use Rattle.node_loop.specs.Crashes.{IsLeftBy, IsLastRecord}

-- this is a system, and a run of these settings may begin in it with this record
pub record MayGoOn (initial : List Id) (h : System) (s : Settings) (found : Kept) : Type 0 where
  pub system : IsSystem initial h
  pub starts : MayStart initial h s found

-- a run of the same node, whose settings name first voters as the system does, or none
pub record IsNextOf (initial : List Id) (n : Id) (next : Settings) : Type 0 where
  pub me : next.me ≡ n
  pub named : next.initial ≢ [] → next.initial ≡ initial

-- the same with the last event, at which the disk failed, settled: the act is kept, or it is not kept
pub record GoesOnSettled (initial : List Id) (before : System) (n : Id) (event : Event) (items : List Item) (next : Settings) (found : Kept) : Type 0 where
  pub kept : Bool
  pub goes_on : MayGoOn initial (Lives before n (Did event (settled_items kept items))) next found

-- After a run that has ended the next one may begin with each record that its disk may leave: where its last event met a fault, in the
-- system in which that is settled.
pub record GoesOnAfter (initial : List Id) (h : System) (n : Id) (life : Life) (next : Settings) (found : Kept) : Type 0 where
  pub unstruck : is_struck life ≡ false → MayGoOn initial h next found
  pub struck : (before : System) (event : Event) (items : List Item) → h ≡ Lives before n (Did event items) → has_fault items ≡ true
      → GoesOnSettled initial before n event items next found

abbrev pub LawNextAfterEnd : Type 0
LawNextAfterEnd =
    (initial : List Id) (h : System) → IsSystem initial h
    → (n : Id) (s : Settings) (life : Life) → run_of h n ≡ Runs s life → Follows s life
    → (found : Kept) → IsLastRecord life (Some found)
    → (next : Settings) → IsNextOf initial n next → GoesOnAfter initial h n life next found

-- the node was killed within the event, of which it had done this
pub record GoesOnKilled (initial : List Id) (h : System) (n : Id) (event : Event) (next : Settings) (found : Kept) : Type 0 where
  pub done : List Item
  pub goes_on : MayGoOn initial (Dies h n event done) next found

-- after a run that was killed within an event, whose frame was sent if it is one, the next one may begin with each record that was left then
abbrev pub LawNextAfterKill : Type 0
LawNextAfterKill =
    (initial : List Id) (h : System) → IsSystem initial h
    → (n : Id) (s : Settings) (life : Life) → run_of h n ≡ Runs s life
    → (event : Event) (items : List Item) → Follows s (Lived life (Did event items)) → WasSent (frames_sent h) event
    → (found : Kept) → IsLeftBy life (Did event items) (Some found)
    → (next : Settings) → IsNextOf initial n next → GoesOnKilled initial h n event next found
