-- Part of the statement: which line is the first bad one, by the schedules that there are.
use Rattle.std.specs.Prelude.{◌≡◌, ◌↔◌, ℕ, zero, suc, ◌-◌, ◌==◌, List, [], ◌∷◌, Some, if◌then◌else◌}
use Rattle.voting_config.specs.Lists.{line_feed}
use Rattle.schedule_text.specs.declared.fault.WhyBad.{WhyBad}
use Rattle.schedule_text.specs.declared.level.Level.{Level}
use Rattle.schedule_text.specs.declared.schedule.Schedule.{Schedule}
use Rattle.schedule_text.specs.Reading.{fault_of}
use Rattle.schedule_text.specs.Spelled.{Spells}

-- the first n lines of a text, with their line feeds
abbrev pub first_lines : ℕ → List ℕ → List ℕ
first_lines zero bytes = []
first_lines (suc n) [] = []
first_lines (suc n) (b ∷ bs) = b ∷ first_lines (if b == line_feed then n else suc n) bs

-- some schedule's text has the same first n lines
abbrev pub BeginsSchedule : Level → ℕ → List ℕ → Type 0
BeginsSchedule level n bytes = (text : List ℕ) × (s : Schedule) × Spells level text s × (first_lines n text ≡ first_lines n bytes)

-- Some schedule's text has the same lines before this one, and none has the same lines up to it.
pub record IsFirstBad (level : Level) (line : ℕ) (bytes : List ℕ) : Type 0 where
  pub before : BeginsSchedule level (line - 1) bytes
  pub here : BeginsSchedule level line bytes → ⊥

-- A fault names a line exactly where it is the first bad one.
abbrev pub LawFirstBadLine : Type 0
LawFirstBadLine = (level : Level) (bytes : List ℕ) (line : ℕ)
    → ((why : WhyBad) × (fault_of level bytes ≡ Some (record { line = line; why = why }))) ↔ IsFirstBad level line bytes
