-- Part of the statement: what a run of `rescue` does.
use Rattle.std.specs.Prelude.{◌≡◌, ℕ, ◌⊎◌, Option, Some, Result, Ok, Err, List, [], length}
use Rattle.voting_config.specs.Ids.{Id}
use Rattle.zen_disk.specs.Faults.{Rose}
use Rattle.zen_link.specs.Streams.{Appended, AppendedPrefix}
use Rattle.schedule_text.specs.Spelled.{Spells}
use Rattle.schedule_text.specs.declared.level.Level.TheVariants.{Core}
use Rattle.schedule_text.specs.declared.schedule.Schedule.{Schedule}
use Rattle.rescue_plan.specs.declared.answer.Plan.{Plan}
use Rattle.zen_app.specs.Choosing.{lines_text, rescue_of}
use Rattle.zen_app.specs.Misspelled.{Refused, RefusedPrefix}
use Rattle.zen_app.specs.Reading.{unread_of}
use Rattle.zen_app.specs.RescueText.{no_rescue_line}
use Rattle.zen_app.specs.Rescues.{IsRescue}
use Rattle.zen_link.specs.Views.{SourceView, SinkView}
use Rattle.zen_app.specs.declared.refusals.NoRescue.{NoRescue}
use Rattle.zen_app.specs.declared.status.Status.{Status}
use Rattle.zen_app.specs.declared.status.Status.TheVariants as exit

-- the bytes are a schedule by which these nodes go on by this plan, and its lines do what `IsRescue` says
pub record Planned (bytes : List ℕ) (ids : List Id) : Type 0 where
  pub schedule : Schedule
  pub plan : Plan
  pub spelled : Spells Core bytes schedule
  pub planned : rescue_of (length bytes) schedule ids ≡ Ok plan
  pub rescue : IsRescue bytes ids schedule plan

-- the bytes are a schedule after which there is no rescue of these nodes, for this first reason
pub record Unplanned (bytes : List ℕ) (ids : List Id) : Type 0 where
  pub schedule : Schedule
  pub why : NoRescue
  pub spelled : Spells Core bytes schedule
  pub refused : rescue_of (length bytes) schedule ids ≡ Err why

-- what each status says, where the input held these bytes: just the lines of the plan were written, or just why there is none
abbrev pub RescueEnds : (ids : List Id) → (bytes : List ℕ) → (left_now : Option (List ℕ)) → (was now : Option (List ℕ)) → Status → Type 0
RescueEnds ids bytes left_now was now exit.Ok = (left_now ≡ Some [])
    × ((p : Planned bytes ids) × Appended was now (lines_text p.plan.lines))
RescueEnds ids bytes left_now was now exit.RescueRefused = (left_now ≡ Some [])
    × ((u : Unplanned bytes ids) × Appended was now (no_rescue_line u.why))
RescueEnds ids bytes left_now was now exit.BadSchedule = (left_now ≡ Some (unread_of bytes)) × Refused Core bytes was now
RescueEnds ids bytes left_now was now exit.NoMemory = Appended was now []
RescueEnds ids bytes left_now was now exit.WriteFault =
    (left_now ≡ Some (unread_of bytes))
    × (((p : Planned bytes ids) × AppendedPrefix was now (lines_text p.plan.lines))
    ⊎ (((u : Unplanned bytes ids) × AppendedPrefix was now (no_rescue_line u.why))
    ⊎ RefusedPrefix Core bytes was now))
RescueEnds ids bytes left_now was now exit.ReadFault = Appended was now []
RescueEnds ids bytes left_now was now other = ⊥

-- a plan is written, or why there is none, unless memory runs out
abbrev pub EndsBy : Result Plan NoRescue → Status → Type 0
EndsBy (Ok p) status = (status ≡ exit.Ok) ⊎ (status ≡ exit.NoMemory)
EndsBy (Err why) status = (status ≡ exit.RescueRefused) ⊎ (status ≡ exit.NoMemory)

-- how a rescue of these nodes ends, where the input held these bytes
pub record Rescues (ids : List Id) (bytes : List ℕ) (source source_now : SourceView) (sink sink_now : SinkView)
    (status : Status) : Type 0 where
  pub ended : RescueEnds ids bytes source_now.left sink.written sink_now.written status
  -- a schedule, with no fault counted, is answered, unless memory runs out
  pub complete : (s : Schedule) → Spells Core bytes s → (Rose source.faults source_now.faults → ⊥) → (Rose sink.faults sink_now.faults → ⊥)
      → EndsBy (rescue_of (length bytes) s ids) status

-- the statuses with which a rescue ends
abbrev pub MayEndRescue : Status → Type 0
MayEndRescue exit.Ok = Unit {0}
MayEndRescue exit.RescueRefused = Unit {0}
MayEndRescue exit.BadSchedule = Unit {0}
MayEndRescue exit.NoMemory = Unit {0}
MayEndRescue exit.ReadFault = Unit {0}
MayEndRescue exit.WriteFault = Unit {0}
MayEndRescue other = ⊥

-- A run of `rescue --up`: with status `Ok` the bytes read and then those written are a schedule, whose history is that of the bytes read,
-- gone on with by the acts of the plan, in which a node wins a new term and a new state is committed.
pub record RescueRun (ids : List Id) (source source_now : SourceView) (sink sink_now : SinkView) (status : Status) : Type 0 where
  pub ends : MayEndRescue status
  -- where the source tells its bytes
  pub rescues : (bytes : List ℕ) → source.left ≡ Some bytes → Rescues ids bytes source source_now sink sink_now status
