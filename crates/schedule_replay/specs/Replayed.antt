-- Part of the statement: the one history of a schedule.
use Rattle.std.specs.Prelude.{◌-◌, ℕ, Option, None, Some, List, [], ◌∷◌, slice_get, codes}
use Rattle.voting_config.specs.Ids.{Id}
use Rattle.cluster_state.specs.declared.state.ClusterValue.{ClusterValue}
use Rattle.cluster_state.specs.Initial.{empty_value}
use Rattle.zen_disk.specs.declared.orders.Order.TheVariants.{Stop, Fault}
use Rattle.world_model.specs.declared.acts.Act.TheVariants.{Bootstrap, StartJoin, Value}
use Rattle.world_model.specs.declared.acts.Message.{Message}
use Rattle.world_model.specs.Histories.{History, sent}
use Rattle.schedule_text.specs.declared.schedule.Line.{Line}
use Rattle.schedule_text.specs.declared.schedule.Line.TheVariants as line
use Rattle.schedule_text.specs.declared.schedule.Schedule.{Schedule}
use Rattle.replay_node.specs.Sent.{taking}
use Rattle.replay_node.specs.Worlds.{World, fresh_world, did_unless_down, crashed, ordered, restarted}

-- the value that has this text as its one setting, under the key v
abbrev pub value_with : List ℕ → ClusterValue
value_with text = record empty_value { settings = (codes "v", text) ∷ [] }

-- the message of this number, where it has been sent
abbrev pub message_at : World → ℕ → Option Message
message_at w number = slice_get (sent w.history) (number - 1)

abbrev pub took_some : World → Id → Option Message → World
took_some w n None = w
took_some w n (Some message) = did_unless_down w n (taking message)

-- a line of level node, which no schedule of level core has, leaves all as it is
abbrev pub after : List Id → World → Line → World
after initial w (line.Boot n) = did_unless_down w n (Bootstrap initial)
after initial w (line.StartJoin n candidate term) = did_unless_down w n (StartJoin candidate term)
after initial w (line.Value n version text config) = did_unless_down w n (Value version config (value_with text))
after initial w (line.Deliver n number) = took_some w n (message_at w number)
after initial w (line.Crash n way) = crashed w n way
after initial w (line.Restart n) = restarted w n
after initial w (line.Fuse n count way) = ordered w n (Stop count way)
after initial w (line.Fail n count) = ordered w n (Fault count)
after initial w (line.Tick n now word) = w
after initial w (line.Client n bytes) = w
after initial w (line.Disconnect n peer) = w

abbrev pub replayed_from : List Id → World → List Line → World
replayed_from initial w [] = w
replayed_from initial w (l ∷ ls) = replayed_from initial (after initial w l) ls

abbrev pub replayed : Schedule → History
replayed s = (replayed_from s.initial fresh_world s.lines).history
