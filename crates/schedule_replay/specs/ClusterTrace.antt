-- Part of the statement: the trace of a schedule of whole nodes.
use Rattle.std.specs.Prelude.{ℕ, Bool, Option, None, Some, List, [], ◌∷◌, ◌++◌, length, codes, if◌then◌else◌}
use Rattle.voting_config.specs.Ids.{Id, same}
use Rattle.wire_frames.specs.declared.frame.Frame.{Frame}
use Rattle.world_model.specs.Acts.{NodeHistory}
use Rattle.schedule_text.specs.Lines.{line_text}
use Rattle.schedule_text.specs.declared.schedule.Line.{Line}
use Rattle.schedule_text.specs.declared.schedule.Line.TheVariants as line
use Rattle.schedule_text.specs.declared.schedule.Schedule.{Schedule}
use Rattle.trace_text.specs.Published.{last_published}
use Rattle.trace_text.specs.Trace.{down_line}
use Rattle.replay_node.specs.Clusters.{Cluster, after, event_course, frame_at, fresh_cluster, own_world, settings_of, with_opened}
use Rattle.replay_node.specs.NodeDisk.{CallsEnd, Done, Failed, CrashedIn, opening}
use Rattle.replay_node.specs.NodeLines.{restart_text, stop_text}
use Rattle.replay_node.specs.NodeWorld.{needs_opening}
use Rattle.replay_node.specs.Worlds.{node_world}
use Rattle.policy_model.specs.declared.settings.Settings.{Settings}
use Rattle.policy_model.specs.declared.events.Event.{Event}
use Rattle.policy_model.specs.declared.events.Event.TheVariants.{Start, Tick, Frame as FrameCame, Client as LineCame, Disconnected as PeerGone}
use Rattle.policy_model.specs.Events.{Item}
use Rattle.policy_model.specs.Entries.{deeds_of, drops_of, frames_of, replies_of}
use Rattle.event_text.specs.Events.{event_results}

-- what a node that did these acts before shows of the items of an event, after so many frames
abbrev pub items_text : (count : ℕ) → Id → NodeHistory → List Item → List ℕ
items_text count n g items = event_results count n (last_published g) (deeds_of items) (drops_of items) (frames_of items) (replies_of items)

module _ (s : Settings) where
  abbrev pub event_shown : Cluster → Event → List ℕ
  event_shown c event = items_text (length c.frames) s.me (own_world s c).acts (event_course s c event).items

  -- a node that is down or halted takes nothing
  abbrev pub event_shown_if_up : Cluster → Event → List ℕ
  event_shown_if_up c event = if needs_opening (own_world s c) then down_line s.me else event_shown c event

  -- a frame that is handed over, where it was sent, and to this node
  abbrev pub frame_shown : Cluster → Option Frame → List ℕ
  frame_shown c None = if needs_opening (own_world s c) then down_line s.me else codes "unsent\n"
  frame_shown c (Some frame) =
      if needs_opening (own_world s c) then down_line s.me
      else (if same frame.to s.me then event_shown c (FrameCame frame) else codes "misrouted\n")

  -- what the first event writes after an opening that ended so
  abbrev pub start_shown : CallsEnd → Cluster → List ℕ
  start_shown Done c = event_shown (with_opened s c) Start
  start_shown Failed c = []
  start_shown (CrashedIn way) c = []

  abbrev pub restart_shown : Cluster → List ℕ
  restart_shown c =
      restart_text s.me (own_world s c)
      ++ (if needs_opening (own_world s c) then start_shown (opening (own_world s c).disk).ended c else [])

module _ (nodes initial voting_only : List Id) (second : Bool) where
  -- what a line writes after its echo; a line of level core, which no schedule of level node has, writes nothing
  abbrev pub line_shown : Cluster → Line → List ℕ
  line_shown c (line.Tick n now word) = event_shown_if_up (settings_of nodes initial voting_only second n) c (Tick now word)
  line_shown c (line.Client n bytes) = event_shown_if_up (settings_of nodes initial voting_only second n) c (LineCame 0 bytes)
  line_shown c (line.Disconnect n peer) = event_shown_if_up (settings_of nodes initial voting_only second n) c (PeerGone peer)
  line_shown c (line.Deliver n number) = frame_shown (settings_of nodes initial voting_only second n) c (frame_at c number)
  line_shown c (line.Crash n way) = stop_text n (node_world c.world n)
  line_shown c (line.Restart n) = restart_shown (settings_of nodes initial voting_only second n) c
  line_shown c (line.Fuse n count way) = []
  line_shown c (line.Fail n count) = []
  line_shown c (line.Boot n) = []
  line_shown c (line.StartJoin n candidate term) = []
  line_shown c (line.Value n version text config) = []

  abbrev pub trace_line : Cluster → Line → List ℕ
  trace_line c l = codes "> " ++ line_text l ++ codes "\n" ++ line_shown c l

  abbrev pub trace_from : Cluster → List Line → List ℕ
  trace_from c [] = []
  trace_from c (l ∷ ls) = trace_line c l ++ trace_from (after nodes initial voting_only second c l) ls

abbrev pub trace : Schedule → List ℕ
trace s = trace_from s.nodes s.initial s.voting_only s.second (fresh_cluster s.nodes s.initial s.voting_only s.second) s.lines
