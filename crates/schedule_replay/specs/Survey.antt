-- Part of the statement: where a schedule leaves its nodes.
use Rattle.std.specs.Prelude.{Bool, true, false, ◌||◌, Option, None, Some, if◌then◌else◌}
use Rattle.voting_config.specs.Ids.{Id}
use Rattle.zen_disk.specs.declared.orders.Armed.{Armed}
use Rattle.schedule_text.specs.declared.schedule.Schedule.{Schedule}
use Rattle.replay_node.specs.NodeWorld.{NodeWorld, needs_opening}
use Rattle.replay_node.specs.Worlds.{World, fresh_world, node_world}
use Rattle.schedule_replay.specs.Replayed.{replayed_from}
use Rattle.rescue_plan.specs.declared.answer.UpNode.{UpNode}
use Rattle.rescue_plan.specs.Rescue.{up_at}
use Rattle.schedule_replay.specs.declared.surveyed.SurveyedNode.{SurveyedNode}

abbrev pub is_some : {X : Type 0} → Option X → Bool
is_some None = false
is_some (Some x) = true

-- all nodes after the lines of a schedule
abbrev pub world_after : Schedule → World
world_after s = replayed_from s.initial fresh_world s.lines

-- an order has not come yet
abbrev pub is_armed : Armed → Bool
is_armed armed = is_some armed.stop || is_some armed.fault

-- what is known of a node, unless it is down or its disk has failed
abbrev pub up_if : Id → NodeWorld → Option UpNode
up_if me w = if needs_opening w then None else Some (up_at me w.acts)

abbrev pub surveyed_at : Id → NodeWorld → SurveyedNode
surveyed_at me w = record { id = me; up = up_if me w; armed = is_armed w.disk.armed }

abbrev pub surveyed : World → Id → SurveyedNode
surveyed w n = surveyed_at n (node_world w n)
