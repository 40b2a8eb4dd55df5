-- For the contracts inside: that what was acknowledged stays, as statements.
use Rattle.std.specs.Prelude.{◌≡◌, true, ◌⊎◌, List}
use Rattle.std.specs.List.{Contains}
use Rattle.voting_config.specs.Ids.{Id, has}
use Rattle.cluster_state.specs.declared.state.Kept.{Kept}
use Rattle.world_model.specs.Acts.{NodeHistory}
use Rattle.world_model.specs.Restarts.{IsAlone}
use Rattle.world_model.specs.Safety.{Published, published, IsCommitted, IsAtMost}
use Rattle.schedule_text.specs.declared.schedule.Schedule.{Schedule}
use Rattle.policy_model.specs.declared.settings.Settings.{Settings}
use Rattle.policy_model.specs.declared.events.Event.{Event}
use Rattle.policy_model.specs.Events.{Item, Log}
use Rattle.policy_model.specs.Entries.{Life, Lived, Did, log_of}
use Rattle.replay_node.specs.Clusters.{settings_of, replayed_history, replayed_life}
use Rattle.client_guarantees.specs.Lasting.{IsPartOf, Lasts, AckLasts}
use Rattle.client_guarantees.specs.InTime.{AcksAreInOrder}
use Rattle.system_laws.specs.Systems.{System, Nothing, Starts, Lives, Dies, Runs, run_of, history_of, IsSystem}
use Rattle.system_laws.specs.RestartedSystems.{IsSystemFrom}
use Rattle.cluster_replay.specs.Laws.{IsWellFormed}

-- ---- schedules of whole nodes

-- some node of the schedule, of these settings, had seen and done this at some moment
pub record HadSeenIn (schedule : Schedule) (s : Settings) (moment : Log) : Type 0 where
  pub node : Id
  pub is_node : has node schedule.nodes ≡ true
  pub settings : s ≡ settings_of schedule.nodes schedule.initial schedule.voting_only schedule.second node
  pub part : IsPartOf moment (log_of (replayed_life schedule node))

-- Each published state whose id is not below that of a committed one was made of it, by states that nodes of the schedule made, and has
-- under each key what their requests say.
abbrev pub LawClusterSettingsLast : Type 0
LawClusterSettingsLast =
    (schedule : Schedule) → IsWellFormed schedule
    → (c : Published) → IsCommitted (replayed_history schedule) c
    → (p : Published) → Contains (published (replayed_history schedule)) p → IsAtMost c.state p.state
    → Lasts (HadSeenIn schedule) (replayed_history schedule) c.state p.state

-- so what an ack says is there in each published state from its id on, until a later request changes it
abbrev pub LawClusterAcksLast : Type 0
LawClusterAcksLast =
    (schedule : Schedule) → IsWellFormed schedule
    → (s : Settings) (life : Life) → AckLasts (HadSeenIn schedule) (replayed_history schedule) s life

-- and acks of the second profile are in order of time
abbrev pub LawClusterAcksAreInOrder : Type 0
LawClusterAcksAreInOrder =
    (schedule : Schedule) → IsWellFormed schedule
    → (s : Settings) (before_run : NodeHistory) (life : Life)
    → AcksAreInOrder (HadSeenIn schedule) (replayed_history schedule) s before_run life

-- ---- systems

-- The run of this node, of these settings, had seen and done this before an event, or as far as it came within the event.
pub record IsSeenIn (h : System) (node : Id) (event : Event) (items : List Item) (s : Settings) (moment : Log) : Type 0 where
  pub life : Life
  pub runs : run_of h node ≡ Runs s life
  pub part : IsPartOf moment (log_of (Lived life (Did event items)))

-- so had some run of the system at some moment, also one that was killed within an event
abbrev pub HadSeen : System → Settings → Log → Type 0
HadSeen Nothing s moment = ⊥
HadSeen (Starts h settings found) s moment = HadSeen h s moment
HadSeen (Lives h node (Did event items)) s moment = IsSeenIn h node event items s moment ⊎ HadSeen h s moment
HadSeen (Lives h node entry) s moment = HadSeen h s moment
HadSeen (Dies h node event items) s moment = IsSeenIn h node event items s moment ⊎ HadSeen h s moment

-- Each published state whose id is not below that of a committed one was made of it, by states that runs of the system made, and has under
-- each key what their requests say.
abbrev pub LawSystemSettingsLast : Type 0
LawSystemSettingsLast =
    (initial : List Id) (h : System) → IsSystem initial h
    → (c : Published) → IsCommitted (history_of h) c → (p : Published) → Contains (published (history_of h)) p → IsAtMost c.state p.state
    → Lasts (HadSeen h) (history_of h) c.state p.state

-- so what an ack says is there in each published state from its id on, until a later request changes it
abbrev pub LawSystemAcksLast : Type 0
LawSystemAcksLast = (initial : List Id) (h : System) → IsSystem initial h → (s : Settings) (life : Life) → AckLasts (HadSeen h) (history_of h) s life

-- and acks of the second profile are in order of time
abbrev pub LawSystemAcksAreInOrder : Type 0
LawSystemAcksAreInOrder =
    (initial : List Id) (h : System) → IsSystem initial h
    → (s : Settings) (before_run : NodeHistory) (life : Life) → AcksAreInOrder (HadSeen h) (history_of h) s before_run life

-- ---- from the restart of one node on, of what is committed and acked since

abbrev pub LawRestartedSettingsLast : Type 0
LawRestartedSettingsLast =
    (first : Id) (kept : Kept) (h : System) → IsAlone first kept → IsSystemFrom first kept h
    → (c : Published) → IsCommitted (history_of h) c → (p : Published) → Contains (published (history_of h)) p → IsAtMost c.state p.state
    → Lasts (HadSeen h) (history_of h) c.state p.state

abbrev pub LawRestartedAcksLast : Type 0
LawRestartedAcksLast =
    (first : Id) (kept : Kept) (h : System) → IsAlone first kept → IsSystemFrom first kept h
    → (s : Settings) (life : Life) → AckLasts (HadSeen h) (history_of h) s life

abbrev pub LawRestartedAcksAreInOrder : Type 0
LawRestartedAcksAreInOrder =
    (first : Id) (kept : Kept) (h : System) → IsAlone first kept → IsSystemFrom first kept h
    → (s : Settings) (before_run : NodeHistory) (life : Life) → AcksAreInOrder (HadSeen h) (history_of h) s before_run life
