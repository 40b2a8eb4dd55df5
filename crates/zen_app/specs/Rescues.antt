-- Part of the statement: what the lines that are written bring about, and what the command answers to bytes.
use Rattle.std.specs.Prelude.{◌≡◌, Result, Ok, Err, Some, List, ℕ, ◌++◌, length}
use Rattle.voting_config.specs.Ids.{Id}
use Rattle.schedule_text.specs.Reading.{fault_of}
use Rattle.schedule_text.specs.Spelled.{Spells}
use Rattle.schedule_text.specs.declared.level.Level.TheVariants.{Core}
use Rattle.schedule_text.specs.declared.schedule.Schedule.{Schedule}
use Rattle.rescue_plan.specs.declared.answer.Plan.{Plan}
use Rattle.schedule_replay.specs.GoesOn.{GoesOn, with_lines}
use Rattle.zen_app.specs.Choosing.{lines_text, rescue_of}
use Rattle.zen_app.specs.declared.refusals.NoAnswer.{NoAnswer}
use Rattle.zen_app.specs.declared.refusals.NoAnswer.TheVariants.{Bad, Refused, Memory}

-- The bytes of the schedule and then the lines of the plan are the schedule with these lines. Its history is the one before, gone on with
-- by the acts of the plan, and with them the node of the plan is a winner of its term, and a state of its term and version is committed.
pub record IsRescue (bytes : List ℕ) (ids : List Id) (s : Schedule) (p : Plan) : Type 0 where
  pub spelled : Spells Core (bytes ++ lines_text p.lines) (with_lines s p.lines)
  pub goes_on : GoesOn s ids p

-- ---- an answer to bytes

-- the bytes are a schedule, and this text is the lines of the plan
pub record HasPlan (bytes : List ℕ) (ids : List Id) (text : List ℕ) : Type 0 where
  pub schedule : Schedule
  pub plan : Plan
  pub spelled : Spells Core bytes schedule
  pub planned : rescue_of (length bytes) schedule ids ≡ Ok plan
  pub text_is : text ≡ lines_text plan.lines

-- the bytes are no schedule, or one of which there is no rescue
abbrev pub NoneFor : (bytes : List ℕ) → (ids : List Id) → NoAnswer → Type 0
NoneFor bytes ids (Bad bad) = (fault_of Core bytes ≡ Some bad) × ((s : Schedule) → Spells Core bytes s → ⊥)
NoneFor bytes ids (Refused why) = (s : Schedule) × Spells Core bytes s × (rescue_of (length bytes) s ids ≡ Err why)
NoneFor bytes ids Memory = Unit {0}

abbrev pub AnswersTo : {T : Type 0} → (T → List ℕ) → (bytes : List ℕ) → (ids : List Id) → Result T NoAnswer → Type 0
AnswersTo view bytes ids (Ok text) = HasPlan bytes ids (view text)
AnswersTo view bytes ids (Err none) = NoneFor bytes ids none
