-- Part of the statement: the schedules of a number.
use Rattle.std.specs.Prelude.{ℕ, ◌≤◌, List, length}
use Rattle.schedule_text.specs.Spelled.{Spells, schedule_text}
use Rattle.schedule_text.specs.declared.level.Level.TheVariants.{Core}
use Rattle.schedule_text.specs.declared.schedule.Line.{Line}
use Rattle.schedule_text.specs.declared.schedule.Schedule.{Schedule}
use Rattle.world_model.specs.Histories.{sent}
use Rattle.schedule_generator.specs.Generated.{generated_by, generated_from}
use Rattle.schedule_generator.specs.Laws.{most_steps}
use Rattle.schedule_replay.specs.Replayed.{replayed}

-- how many messages are sent as these lines are replayed
abbrev pub count_sent : List Line → ℕ
count_sent lines = length (sent (replayed (generated_from lines)))

-- so many lines, each of which is drawn by what was sent in the lines before it
abbrev pub generated : (number steps : ℕ) → Schedule
generated number steps = generated_by count_sent number steps

-- the text of each generated schedule spells it
abbrev pub LawGenerated : Type 0
LawGenerated = (number steps : ℕ) → steps ≤ most_steps → Spells Core (schedule_text (generated number steps)) (generated number steps)
