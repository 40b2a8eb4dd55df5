-- Part of the statement: how the replay of a schedule goes on with the lines of a plan.
use Rattle.std.specs.Prelude.{◌≡◌, ◌≤◌, true, false, Ok, List, ◌++◌, length}
use Rattle.voting_config.specs.Ids.{Id, IsIdSet, has}
use Rattle.world_model.specs.Histories.{sent}
use Rattle.schedule_text.specs.Limits.{most_lines}
use Rattle.schedule_text.specs.Spelled.{IsSchedule}
use Rattle.schedule_text.specs.declared.level.Level.TheVariants.{Core}
use Rattle.schedule_text.specs.declared.schedule.Line.{Line}
use Rattle.schedule_text.specs.declared.schedule.Schedule.{Schedule}
use Rattle.zen_disk.specs.Armed.{nothing_armed}
use Rattle.replay_node.specs.NodeWorld.{needs_opening}
use Rattle.replay_node.specs.Worlds.{World, node_world}
use Rattle.rescue_plan.specs.declared.answer.Plan.{Plan}
use Rattle.rescue_plan.specs.Planning.{planned}
use Rattle.rescue_plan.specs.Rescue.{ups, IsRescued}
use Rattle.rescue_plan.specs.Lines.{lines_done}
use Rattle.schedule_replay.specs.Replayed.{replayed, value_with}
use Rattle.schedule_replay.specs.Survey.{world_after}

-- the node is up and runs, and no order of its disk is left
pub record IsFree (w : World) (n : Id) : Type 0 where
  pub runs : needs_opening (node_world w n) ≡ false
  pub armed : (w.disks n).armed ≡ nothing_armed

-- the schedule with more lines
abbrev pub with_lines : Schedule → List Line → Schedule
with_lines s lines = record s { lines = s.lines ++ lines }

-- With the lines of a plan the schedule is still one of level core, its history is the one before, gone on with by the acts of the plan,
-- and it is rescued: by `IsRescued` the node of the plan is a winner of its term, and a state of its term and version is committed.
pub record GoesOn (s : Schedule) (us : List Id) (p : Plan) : Type 0 where
  pub schedule : IsSchedule Core (with_lines s p.lines)
  pub history : replayed (with_lines s p.lines) ≡ lines_done value_with (replayed s) p.lines
  pub rescued : IsRescued s.initial (replayed s) (replayed (with_lines s p.lines)) us p

-- after every schedule of level core, for some of its nodes that are up, run and have no order left
abbrev pub LawGoesOn : Type 0
LawGoesOn =
    (s : Schedule) → IsSchedule Core s → length s.lines ≤ most_lines
    → (us : List Id) → IsIdSet us → ((u : Id) → has u us ≡ true → has u s.nodes ≡ true)
    → ((u : Id) → has u us ≡ true → IsFree (world_after s) u)
    → (p : Plan) → planned (ups (replayed s) us) (length (sent (replayed s))) ≡ Ok p → GoesOn s us p
