-- Part of the statement: the trace of a schedule.
use Rattle.std.specs.Prelude.{ℕ, Option, None, Some, List, [], ◌∷◌, ◌++◌, length, codes, if◌then◌else◌}
use Rattle.voting_config.specs.Ids.{Id}
use Rattle.world_model.specs.declared.acts.Act.{Act}
use Rattle.world_model.specs.declared.acts.Act.TheVariants.{Bootstrap, StartJoin, Value}
use Rattle.world_model.specs.declared.acts.Message.{Message}
use Rattle.world_model.specs.Histories.{sent}
use Rattle.schedule_text.specs.declared.schedule.Line.{Line}
use Rattle.schedule_text.specs.declared.schedule.Line.TheVariants as line
use Rattle.schedule_text.specs.declared.schedule.Schedule.{Schedule}
use Rattle.schedule_text.specs.Lines.{line_text}
use Rattle.trace_text.specs.Trace.{down_line}
use Rattle.replay_node.specs.Did.{act_results}
use Rattle.replay_node.specs.NodeLines.{stop_text, restart_text}
use Rattle.replay_node.specs.Sent.{taking}
use Rattle.replay_node.specs.Worlds.{World, fresh_world, node_world}
use Rattle.schedule_replay.specs.Replayed.{after, message_at, value_with}

-- what an act of a node writes
abbrev pub results_of : World → Id → Act → List ℕ
results_of w n act = act_results (length (sent w.history)) n (node_world w n) act

-- what taking a message writes, where it was sent
abbrev pub delivery_results : World → Id → Option Message → List ℕ
delivery_results w n None = if w.down n then down_line n else codes "unsent\n"
delivery_results w n (Some message) = results_of w n (taking message)

-- what a line writes after its echo; a line of level node, which no schedule of level core has, writes nothing
abbrev pub line_results : List Id → World → Line → List ℕ
line_results initial w (line.Boot n) = results_of w n (Bootstrap initial)
line_results initial w (line.StartJoin n candidate term) = results_of w n (StartJoin candidate term)
line_results initial w (line.Value n version text config) = results_of w n (Value version config (value_with text))
line_results initial w (line.Deliver n number) = delivery_results w n (message_at w number)
line_results initial w (line.Crash n way) = stop_text n (node_world w n)
line_results initial w (line.Restart n) = restart_text n (node_world w n)
line_results initial w (line.Fuse n count way) = []
line_results initial w (line.Fail n count) = []
line_results initial w (line.Tick n now word) = []
line_results initial w (line.Client n bytes) = []
line_results initial w (line.Disconnect n peer) = []

abbrev pub trace_line : List Id → World → Line → List ℕ
trace_line initial w l = codes "> " ++ line_text l ++ codes "\n" ++ line_results initial w l

abbrev pub trace_from : List Id → World → List Line → List ℕ
trace_from initial w [] = []
trace_from initial w (l ∷ ls) = trace_line initial w l ++ trace_from initial (after initial w l) ls

abbrev pub trace : Schedule → List ℕ
trace s = trace_from s.initial fresh_world s.lines
