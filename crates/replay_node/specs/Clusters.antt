-- Part of the statement: whole nodes, which do what the policy says: their one history, the life of each and the frames that they sent.
use Rattle.std.specs.Prelude.{◌-◌, ℕ, Bool, true, cond, Option, None, Some, List, [], ◌∷◌, ◌++◌, slice_get, if◌then◌else◌}
use Rattle.voting_config.specs.Ids.{Id, same, without_id}
use Rattle.cluster_state.specs.declared.state.Kept.{Kept}
use Rattle.zen_disk.specs.declared.orders.Order.TheVariants.{Stop, Fault}
use Rattle.wire_frames.specs.declared.frame.Frame.{Frame}
use Rattle.schedule_text.specs.declared.schedule.Line.{Line}
use Rattle.schedule_text.specs.declared.schedule.Line.TheVariants as line
use Rattle.schedule_text.specs.declared.schedule.Schedule.{Schedule}
use Rattle.world_model.specs.Histories.{History}
use Rattle.replay_node.specs.NodeDisk.{CallsEnd, Done, Failed, CrashedIn, opening}
use Rattle.replay_node.specs.NodeWorld.{NodeWorld, found_at, needs_opening}
use Rattle.world_model.specs.Settled.{is_kept}
use Rattle.replay_node.specs.Worlds.{World, fresh_world, node_world, crashed, ordered, opened}
use Rattle.policy_model.specs.declared.settings.Settings.{Settings}
use Rattle.policy_model.specs.declared.events.Event.{Event}
use Rattle.policy_model.specs.declared.events.Event.TheVariants.{Start, Tick, Frame as FrameCame, Client as LineCame, Disconnected as PeerGone}
use Rattle.policy_model.specs.Entries.{Life, NotBegun, Opened, Lived, Did, log_of, frames_of}
use Rattle.policy_model.specs.Follows.{items_of}
use Rattle.replay_node.specs.Course.{Course, played, settled_life}

-- what all nodes did, their disks and which are down; the life of each; and all frames that were sent, the oldest first
pub record Cluster : Type 0 where
  pub world : World
  pub lives : Id → Life
  pub frames : List Frame

-- a node knows all others, in ascending order, the initial names, and who is voting-only
abbrev pub settings_of : (nodes initial voting_only : List Id) (second : Bool) → Id → Settings
settings_of nodes initial voting_only second n =
    record { me = n; peers = without_id n nodes; initial = initial; voting_only = voting_only; policy = record { shrink = true; second = second } }

abbrev pub with_life : (Id → Life) → Id → Life → Id → Life
with_life lives n life = λ m. cond (same n m) life (lives m)

-- ---- what one node does; its settings name it

module _ (s : Settings) where
  -- the node as the acts and its disk show it
  abbrev pub own_world : Cluster → NodeWorld
  own_world c = node_world c.world s.me

  -- the life and the items of an event
  abbrev pub event_course : Cluster → Event → Course
  event_course c event = played s.me c.world (items_of s (log_of (c.lives s.me)) event)

  abbrev pub event_done : Cluster → Event → Course → Cluster
  event_done c event course = record {
    world = course.world;
    lives = with_life c.lives s.me (Lived (c.lives s.me) (Did event course.items));
    frames = c.frames ++ frames_of course.items;
  }

  -- the node does what the policy says, as far as its disk lets it
  abbrev pub after_event : Cluster → Event → Cluster
  after_event c event = event_done c event (event_course c event)

  -- a node that is down or halted does nothing
  abbrev pub after_event_if_up : Cluster → Event → Cluster
  after_event_if_up c event = if needs_opening (own_world c) then c else after_event c event

  -- a frame that was sent to the node; one for another node is not handed over
  abbrev pub after_frame : Cluster → Option Frame → Cluster
  after_frame c None = c
  after_frame c (Some frame) = if same frame.to s.me then after_event_if_up c (FrameCame frame) else c

  -- the life of a node that was opened and found a record: whether its last act was kept is known from then on
  abbrev pub life_opened : Cluster → Life
  life_opened c =
      let found : Kept = found_at (own_world c) in
      Opened (settled_life (is_kept (own_world c).acts found) (c.lives s.me)) found

  abbrev pub with_opened : Cluster → Cluster
  with_opened c = record c { world = opened c.world s.me; lives = with_life c.lives s.me (life_opened c) }

  -- an opening by the end of its device calls; the first event follows one that succeeds
  abbrev pub opened_by : CallsEnd → Cluster → Cluster
  opened_by Done c = after_event (with_opened c) Start
  opened_by Failed c = record c { world = opened c.world s.me }
  opened_by (CrashedIn way) c = record c { world = opened c.world s.me }

  abbrev pub after_restart : Cluster → Cluster
  after_restart c = if needs_opening (own_world c) then opened_by (opening (own_world c).disk).ended c else c

  -- a node whose journal was opened on an empty disk
  abbrev pub first_life : Life
  first_life = Lived NotBegun (Did Start (items_of s (log_of NotBegun) Start))

-- the frame of this number, where it has been sent
abbrev pub frame_at : Cluster → ℕ → Option Frame
frame_at c number = slice_get c.frames (number - 1)

-- ---- a schedule

module _ (nodes initial voting_only : List Id) (second : Bool) where
  abbrev pub fresh_cluster : Cluster
  fresh_cluster = record { world = fresh_world; lives = λ n. first_life (settings_of nodes initial voting_only second n); frames = [] }

  -- a line of level core, which no schedule of level node has, leaves all as it is
  abbrev pub after : Cluster → Line → Cluster
  after c (line.Tick n now word) = after_event_if_up (settings_of nodes initial voting_only second n) c (Tick now word)
  after c (line.Client n bytes) = after_event_if_up (settings_of nodes initial voting_only second n) c (LineCame 0 bytes)
  after c (line.Disconnect n peer) = after_event_if_up (settings_of nodes initial voting_only second n) c (PeerGone peer)
  after c (line.Deliver n number) = after_frame (settings_of nodes initial voting_only second n) c (frame_at c number)
  after c (line.Crash n way) = record c { world = crashed c.world n way }
  after c (line.Restart n) = after_restart (settings_of nodes initial voting_only second n) c
  after c (line.Fuse n count way) = record c { world = ordered c.world n (Stop count way) }
  after c (line.Fail n count) = record c { world = ordered c.world n (Fault count) }
  after c (line.Boot n) = c
  after c (line.StartJoin n candidate term) = c
  after c (line.Value n version text config) = c

  abbrev pub replayed_from : Cluster → List Line → Cluster
  replayed_from c [] = c
  replayed_from c (l ∷ ls) = replayed_from (after c l) ls

-- all nodes after the schedule
abbrev pub replayed : Schedule → Cluster
replayed s = replayed_from s.nodes s.initial s.voting_only s.second (fresh_cluster s.nodes s.initial s.voting_only s.second) s.lines

abbrev pub replayed_history : Schedule → History
replayed_history s = (replayed s).world.history

abbrev pub replayed_life : Schedule → Id → Life
replayed_life s n = (replayed s).lives n
