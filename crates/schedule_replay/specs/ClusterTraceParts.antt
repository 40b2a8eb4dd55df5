-- Part of the statement: the parts of the trace of a schedule of whole nodes. They need not be read: ClusterLaws says what `cluster_parts`
-- are.
use Rattle.std.specs.Prelude.{ℕ, Bool, Option, None, Some, List, [], ◌∷◌, ◌++◌, length, map, if◌then◌else◌}
use Rattle.voting_config.specs.Ids.{Id, same}
use Rattle.wire_frames.specs.declared.frame.Frame.{Frame}
use Rattle.world_model.specs.Histories.{History, Next, node_history, sent}
use Rattle.schedule_text.specs.declared.schedule.Line.{Line}
use Rattle.schedule_text.specs.declared.schedule.Line.TheVariants as line
use Rattle.schedule_text.specs.declared.schedule.Schedule.{Schedule}
use Rattle.trace_text.specs.Published.{last_published}
use Rattle.policy_model.specs.declared.settings.Settings.{Settings}
use Rattle.policy_model.specs.declared.events.Event.{Event}
use Rattle.policy_model.specs.declared.events.Event.TheVariants.{Start, Tick, Frame as FrameCame, Client as LineCame, Disconnected as PeerGone}
use Rattle.policy_model.specs.declared.events.Deed.{Deed}
use Rattle.policy_model.specs.declared.events.Deed.TheVariants as deed
use Rattle.policy_model.specs.Events.{Item}
use Rattle.policy_model.specs.Entries.{deeds_of, drops_of, frames_of, replies_of}
use Rattle.replay_node.specs.NodeDisk.{CallsEnd, Done, Failed, CrashedIn, opening}
use Rattle.replay_node.specs.NodeWorld.{needs_opening}
use Rattle.replay_node.specs.Clusters.{Cluster, after, event_course, frame_at, fresh_cluster, own_world, settings_of, with_opened}
use Rattle.schedule_replay.specs.Parts.{Echo, Did, WasDown, WentDown, Unsent}
use Rattle.schedule_replay.specs.ActShown.{act_shown}
use Rattle.schedule_replay.specs.TraceParts.{restart_part}
use Rattle.schedule_replay.specs.ClusterParts.{ClusterPart, Shared, ModeChanged, Dropped, Framed, Replied, Misrouted}
use Rattle.schedule_replay.specs.ClusterShown.{numbered_frames}

-- ---- an event

-- acts and changes of mode, where all nodes did this before
abbrev pub policy_parts : History → Id → List Deed → List ClusterPart
policy_parts h n [] = []
policy_parts h n (deed.Act act o ∷ ss) =
    Shared (Did (act_shown (length (sent h)) (last_published (node_history h n)) n act o)) ∷ policy_parts (Next h n act o) n ss
policy_parts h n (deed.Mode mode term ∷ ss) = ModeChanged n mode term ∷ policy_parts h n ss

abbrev pub items_parts : History → (count : ℕ) → Id → List Item → List ClusterPart
items_parts h count n items =
    policy_parts h n (deeds_of items)
    ++ map (Dropped n) (drops_of items)
    ++ map Framed (numbered_frames count (frames_of items))
    ++ map (Replied n) (replies_of items)

module _ (s : Settings) where
  abbrev pub event_parts : Cluster → Event → List ClusterPart
  event_parts c event = items_parts c.world.history (length c.frames) s.me (event_course s c event).items

  abbrev pub event_parts_if_up : Cluster → Event → List ClusterPart
  event_parts_if_up c event = if needs_opening (own_world s c) then Shared (WasDown s.me) ∷ [] else event_parts c event

  abbrev pub frame_parts : Cluster → Option Frame → List ClusterPart
  frame_parts c None = (if needs_opening (own_world s c) then Shared (WasDown s.me) else Shared Unsent) ∷ []
  frame_parts c (Some frame) =
      if needs_opening (own_world s c) then Shared (WasDown s.me) ∷ []
      else (if same frame.to s.me then event_parts c (FrameCame frame) else Misrouted ∷ [])

  abbrev pub start_parts : CallsEnd → Cluster → List ClusterPart
  start_parts Done c = event_parts (with_opened s c) Start
  start_parts Failed c = []
  start_parts (CrashedIn way) c = []

  abbrev pub restart_parts : Cluster → List ClusterPart
  restart_parts c =
      Shared (restart_part c.world s.me)
      ∷ (if needs_opening (own_world s c) then start_parts (opening (own_world s c).disk).ended c else [])

-- ---- lines

module _ (nodes initial voting_only : List Id) (second : Bool) where
  abbrev pub line_parts : Cluster → Line → List ClusterPart
  line_parts c (line.Tick n now word) = event_parts_if_up (settings_of nodes initial voting_only second n) c (Tick now word)
  line_parts c (line.Client n bytes) = event_parts_if_up (settings_of nodes initial voting_only second n) c (LineCame 0 bytes)
  line_parts c (line.Disconnect n peer) = event_parts_if_up (settings_of nodes initial voting_only second n) c (PeerGone peer)
  line_parts c (line.Deliver n number) = frame_parts (settings_of nodes initial voting_only second n) c (frame_at c number)
  line_parts c (line.Crash n way) = (if c.world.down n then Shared (WasDown n) else Shared (WentDown n)) ∷ []
  line_parts c (line.Restart n) = restart_parts (settings_of nodes initial voting_only second n) c
  line_parts c (line.Fuse n count way) = []
  line_parts c (line.Fail n count) = []
  line_parts c (line.Boot n) = []
  line_parts c (line.StartJoin n candidate term) = []
  line_parts c (line.Value n version text config) = []

  abbrev pub parts_from : Cluster → List Line → List ClusterPart
  parts_from c [] = []
  parts_from c (l ∷ ls) = Shared (Echo l) ∷ (line_parts c l ++ parts_from (after nodes initial voting_only second c l) ls)

abbrev pub cluster_parts : Schedule → List ClusterPart
cluster_parts s = parts_from s.nodes s.initial s.voting_only s.second (fresh_cluster s.nodes s.initial s.voting_only s.second) s.lines
