-- For the contracts inside: one node of a cluster by itself: its life, what it did and its disk; what each line makes of it, sends and
-- writes.
use Rattle.std.specs.Prelude.{ℕ, List, [], ◌++◌, if◌then◌else◌}
use Rattle.voting_config.specs.Ids.{Id}
use Rattle.zen_disk.specs.declared.orders.Order.{Order}
use Rattle.zen_disk.specs.declared.orders.Way.{Way}
use Rattle.wire_frames.specs.declared.frame.Frame.{Frame}
use Rattle.trace_text.specs.Trace.{down_line}
use Rattle.replay_node.specs.NodeDisk.{CallsEnd, Done, Failed, CrashedIn, opening}
use Rattle.replay_node.specs.NodeLines.{after_stop, restart_text}
use Rattle.replay_node.specs.NodeWorld.{NodeWorld, after_opening, after_order, found_at, needs_opening}
use Rattle.world_model.specs.Settled.{is_kept}
use Rattle.policy_model.specs.declared.settings.Settings.{Settings}
use Rattle.policy_model.specs.declared.events.Event.{Event}
use Rattle.policy_model.specs.declared.events.Event.TheVariants.{Start}
use Rattle.policy_model.specs.Entries.{Life, Opened, frames_of}
use Rattle.policy_model.specs.Events.{Item}
use Rattle.replay_node.specs.Clusters.{Cluster}
use Rattle.replay_node.specs.Course.{settled_life}
use Rattle.replay_node.specs.Worlds.{node_world}
use Rattle.schedule_replay.specs.ClusterTrace.{items_text}
use Rattle.schedule_replay.specs.EventEnds.{own_course, own_life}

pub record Own : Type 0 where
  pub life : Life
  pub node : NodeWorld

-- one node of a cluster
abbrev pub own_in : Cluster → Id → Own
own_in c n = record { life = c.lives n; node = node_world c.world n }

abbrev pub own_opened : Own → Own
own_opened own = record {
  life = Opened (settled_life (is_kept own.node.acts (found_at own.node)) own.life) (found_at own.node);
  node = after_opening own.node;
}

-- ---- a crash between two events, and orders

abbrev pub own_crash : Way → Own → Own
own_crash way own = record own { node = after_stop way own.node }

abbrev pub own_order : Order → Own → Own
own_order order own = record own { node = after_order order own.node }

module _ (s : Settings) where
  -- ---- an event

  abbrev pub own_items : Own → Event → List Item
  own_items own event = (own_course s own.life own.node event).items

  abbrev pub own_event : Own → Event → Own
  own_event own event = record { life = own_life s own.life own.node event; node = (own_course s own.life own.node event).node }

  abbrev pub own_results : (count : ℕ) → Own → Event → List ℕ
  own_results count own event = items_text count s.me own.node.acts (own_items own event)

  abbrev pub own_event_if_up : Event → Own → Own
  own_event_if_up event own = if needs_opening own.node then own else own_event own event

  abbrev pub own_frames_if_up : Event → Own → List Frame
  own_frames_if_up event own = if needs_opening own.node then [] else frames_of (own_items own event)

  abbrev pub own_results_if_up : Event → (count : ℕ) → Own → List ℕ
  own_results_if_up event count own = if needs_opening own.node then down_line s.me else own_results count own event

  -- ---- a restart: the first event follows an opening that succeeds

  abbrev pub own_opened_by : CallsEnd → Own → Own
  own_opened_by Done own = own_event (own_opened own) Start
  own_opened_by Failed own = record own { node = after_opening own.node }
  own_opened_by (CrashedIn way) own = record own { node = after_opening own.node }

  abbrev pub own_started_frames : CallsEnd → Own → List Frame
  own_started_frames Done own = frames_of (own_items (own_opened own) Start)
  own_started_frames Failed own = []
  own_started_frames (CrashedIn way) own = []

  abbrev pub own_started_results : CallsEnd → (count : ℕ) → Own → List ℕ
  own_started_results Done count own = own_results count (own_opened own) Start
  own_started_results Failed count own = []
  own_started_results (CrashedIn way) count own = []

  abbrev pub own_restart : Own → Own
  own_restart own = if needs_opening own.node then own_opened_by (opening own.node.disk).ended own else own

  abbrev pub own_restart_frames : Own → List Frame
  own_restart_frames own = if needs_opening own.node then own_started_frames (opening own.node.disk).ended own else []

  abbrev pub own_restart_results : (count : ℕ) → Own → List ℕ
  own_restart_results count own =
      restart_text s.me own.node ++ (if needs_opening own.node then own_started_results (opening own.node.disk).ended count own else [])
