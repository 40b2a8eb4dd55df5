-- Part of the statement: the parts of the trace of a schedule. They need not be read: TraceLaws says what `trace_parts` are.
use Rattle.std.specs.Prelude.{Option, None, Some, List, [], ◌∷◌, ◌++◌, length, if◌then◌else◌}
use Rattle.voting_config.specs.Ids.{Id}
use Rattle.cluster_state.specs.declared.state.Kept.{Kept}
use Rattle.world_model.specs.declared.acts.Act.{Act}
use Rattle.world_model.specs.declared.acts.Act.TheVariants.{Bootstrap, StartJoin, Value}
use Rattle.world_model.specs.declared.acts.Message.{Message}
use Rattle.world_model.specs.Histories.{node_history, sent}
use Rattle.schedule_text.specs.declared.schedule.Line.{Line}
use Rattle.schedule_text.specs.declared.schedule.Line.TheVariants as line
use Rattle.schedule_text.specs.declared.schedule.Schedule.{Schedule}
use Rattle.replay_node.specs.NodeDisk.{CallsEnd, Done, Failed, CrashedIn, opening}
use Rattle.replay_node.specs.NodeWorld.{outcome_at, found_at, needs_opening}
use Rattle.trace_text.specs.Published.{last_published}
use Rattle.replay_node.specs.Sent.{taking}
use Rattle.replay_node.specs.Worlds.{World, fresh_world, node_world}
use Rattle.schedule_replay.specs.Replayed.{after, message_at, value_with}
use Rattle.schedule_replay.specs.Parts.{TracePart, Echo, Did, Opened, WasDown, WasUp, WentDown, DiskFailed, Unsent}
use Rattle.schedule_replay.specs.ActShown.{act_shown}

abbrev pub act_part : World → Id → Act → TracePart
act_part w n act =
    Did (act_shown (length (sent w.history)) (last_published (node_history w.history n)) n act (outcome_at n (node_world w n) act))

abbrev pub act_parts : World → Id → Act → List TracePart
act_parts w n act = (if w.down n then WasDown n else act_part w n act) ∷ []

abbrev pub delivery_parts : World → Id → Option Message → List TracePart
delivery_parts w n None = (if w.down n then WasDown n else Unsent) ∷ []
delivery_parts w n (Some message) = act_parts w n (taking message)

abbrev pub opening_part : CallsEnd → Id → Kept → TracePart
opening_part Done n found = Opened n found
opening_part Failed n found = DiskFailed n
opening_part (CrashedIn way) n found = WentDown n

abbrev pub restart_part : World → Id → TracePart
restart_part w n =
    if needs_opening (node_world w n)
    then opening_part (opening (w.disks n)).ended n (found_at (node_world w n))
    else WasUp n

abbrev pub line_parts : List Id → World → Line → List TracePart
line_parts initial w (line.Boot n) = act_parts w n (Bootstrap initial)
line_parts initial w (line.StartJoin n candidate term) = act_parts w n (StartJoin candidate term)
line_parts initial w (line.Value n version text config) = act_parts w n (Value version config (value_with text))
line_parts initial w (line.Deliver n number) = delivery_parts w n (message_at w number)
line_parts initial w (line.Crash n way) = (if w.down n then WasDown n else WentDown n) ∷ []
line_parts initial w (line.Restart n) = restart_part w n ∷ []
line_parts initial w (line.Fuse n count way) = []
line_parts initial w (line.Fail n count) = []
line_parts initial w (line.Tick n now word) = []
line_parts initial w (line.Client n bytes) = []
line_parts initial w (line.Disconnect n peer) = []

abbrev pub parts_from : List Id → World → List Line → List TracePart
parts_from initial w [] = []
parts_from initial w (l ∷ ls) = Echo l ∷ (line_parts initial w l ++ parts_from initial (after initial w l) ls)

abbrev pub trace_parts : Schedule → List TracePart
trace_parts s = parts_from s.initial fresh_world s.lines
