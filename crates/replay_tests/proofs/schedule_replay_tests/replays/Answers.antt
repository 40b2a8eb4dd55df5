use Rattle.std.proofs.Common.{ℕ, List}
use Rattle.std.specs.List.{AllByRecursion}
use Rattle.schedule_text.specs.Lines.{FitsLine}
use Rattle.schedule_text.specs.Spelled.{Spells, Nothing, Text, Nobody}
use Rattle.schedule_text.specs.declared.level.Level.TheVariants.{Node}
use Rattle.schedule_text.specs.declared.schedule.Schedule.{Schedule}
use Rattle.replay_tests.proofs.schedule_replay_tests.replays.Goals as goal

-- the lines of a schedule that was read are of level node and of its nodes
spells_fit : (bytes : List ℕ) (s : Schedule) → Spells Node bytes s → AllByRecursion (FitsLine Node s.nodes) s.lines
spells_fit _ _ Nothing = tt
spells_fit _ _ (Text s is within) = is.lines
spells_fit _ _ (Nobody s level none is within) = is.lines

pub is_summed_up-requires : goal.is_summed_up-requires
is_summed_up-requires c = spells_fit _ c.in-Ok.schedule c.in-Ok.ensures.found
