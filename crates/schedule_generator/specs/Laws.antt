-- For the contracts inside: what holds of every generated schedule, as a statement.
use Rattle.std.specs.Prelude.{ℕ, ◌≤◌, List, length}
use Rattle.schedule_text.specs.Spelled.{Spells, schedule_text}
use Rattle.schedule_text.specs.declared.level.Level.TheVariants.{Core}
use Rattle.schedule_text.specs.declared.schedule.Line.{Line}
use Rattle.schedule_generator.specs.Generated.{generated_by}

-- how many steps a schedule has at most
abbrev pub most_steps : ℕ
most_steps = 100000

-- its text spells it, where each line sends one message at most
abbrev pub LawGeneratedIsSpelled : Type 0
LawGeneratedIsSpelled =
    (messages : List Line → ℕ) → ((lines : List Line) → messages lines ≤ length lines)
    → (number steps : ℕ) → steps ≤ most_steps
    → Spells Core (schedule_text (generated_by messages number steps)) (generated_by messages number steps)
