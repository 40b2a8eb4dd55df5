-- For the contracts inside: that the history of a schedule is legal. The contract of `run` says it of its schedule.
use Rattle.std.specs.Prelude.{◌≡◌, []}
use Rattle.std.specs.List.{AllByRecursion}
use Rattle.voting_config.specs.Ids.{IsIdSet}
use Rattle.world_model.specs.Histories.{IsLegal}
use Rattle.schedule_text.specs.declared.level.Level.TheVariants.{Core}
use Rattle.schedule_text.specs.declared.schedule.Schedule.{Schedule}
use Rattle.schedule_text.specs.Lines.{FitsLine}
use Rattle.schedule_replay.specs.Replayed.{replayed}

-- the initial configuration is a set of ids, which is not empty unless there is no line, and the lines are
-- of level core and of the schedule's nodes
pub record IsWellFormed (s : Schedule) : Type 0 where
  pub initial : IsIdSet s.initial
  pub fit : AllByRecursion (FitsLine Core s.nodes) s.lines
  pub named : s.initial ≡ [] → s.lines ≡ []

-- whatever the lines crash, fail and restart, and wherever in a device call
abbrev pub LawReplayIsLegal : Type 0
LawReplayIsLegal = (s : Schedule) → IsWellFormed s → IsLegal s.initial (replayed s)
