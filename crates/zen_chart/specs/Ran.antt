-- Part of the statement of `zen_chart`: how a run of the program ends. `Ran` is the contract of `run`.
use Rattle.std.specs.Prelude.{◌≡◌, ℕ, ◌≤◌, ◌⊎◌, Bool, true, false, Option, Some, Result, Ok, Err, List, [], codes}
use Rattle.zen_disk.specs.Faults.{Rose}
use Rattle.zen_link.specs.Streams.{Appended, AppendedPrefix}
use Rattle.trace_reader.specs.declared.fault.BadTrace.{BadTrace}
use Rattle.trace_reader.specs.declared.said.TraceLine.{TraceLine}
use Rattle.trace_reader.specs.Printed.{bad_line}
use Rattle.trace_reader.specs.Reading.{trace_at}
use Rattle.sequence_chart.specs.Chart.{Draws}
use Rattle.zen_link.specs.Reading.{ReadsAtMost}
use Rattle.zen_chart.specs.Reading.{most_read, unread_of}
use Rattle.zen_link.specs.Views.{SourceView, SinkView}
use Rattle.zen_chart.specs.declared.status.Status.{Status}
use Rattle.zen_chart.specs.declared.status.Status.TheVariants as exit

abbrev pub usage_line : List ℕ
usage_line = codes "zen_chart: usage\n"

-- ---- what was written

-- the bytes are a trace, and its picture was written and nothing else
pub record Drawn (bytes : List ℕ) (was now : Option (List ℕ)) : Type 0 where
  pub lines : List TraceLine
  pub read : trace_at bytes ≡ Ok lines
  pub picture : List ℕ
  pub draws : Draws lines picture
  pub written : Appended was now picture

-- the same, but only a prefix of the picture was written
pub record DrawnPrefix (bytes : List ℕ) (was now : Option (List ℕ)) : Type 0 where
  pub lines : List TraceLine
  pub read : trace_at bytes ≡ Ok lines
  pub picture : List ℕ
  pub draws : Draws lines picture
  pub written : AppendedPrefix was now picture

-- the bytes are no trace, and which line is the first bad one and why was written
pub record Refused (bytes : List ℕ) (was now : Option (List ℕ)) : Type 0 where
  pub bad : BadTrace
  pub fault : trace_at bytes ≡ Err bad
  pub written : Appended was now (bad_line bad)

-- the same, but only a prefix of that line was written
pub record RefusedPrefix (bytes : List ℕ) (was now : Option (List ℕ)) : Type 0 where
  pub bad : BadTrace
  pub fault : trace_at bytes ≡ Err bad
  pub written : AppendedPrefix was now (bad_line bad)

-- ---- how a run ends

-- What each status says, where the input held these bytes. So a trace ends with `Ok` and any other input with `BadTrace`, unless memory ran
-- out or a count of faults rose.
abbrev pub DrawEnds : (bytes : List ℕ) → (left_now : Option (List ℕ)) → (was now : Option (List ℕ)) → Status → Type 0
DrawEnds bytes left_now was now exit.Ok = (left_now ≡ Some []) × Drawn bytes was now
DrawEnds bytes left_now was now exit.BadTrace = (left_now ≡ Some (unread_of bytes)) × Refused bytes was now
DrawEnds bytes left_now was now exit.NoMemory = Appended was now []
DrawEnds bytes left_now was now exit.WriteFault = (left_now ≡ Some (unread_of bytes))
    × (DrawnPrefix bytes was now ⊎ RefusedPrefix bytes was now)
DrawEnds bytes left_now was now exit.ReadFault = Appended was now []
DrawEnds bytes left_now was now exit.Usage = ⊥

-- the status with which no run ends that was given no words
abbrev pub MayEndDraw : Status → Type 0
MayEndDraw exit.Usage = ⊥
MayEndDraw other = Unit {0}

-- a run that was given no words
pub record DrawRun (source source_now : SourceView) (sink sink_now : SinkView) (status : Status) : Type 0 where
  pub ends : MayEndDraw status
  -- where the source tells its bytes
  pub draws : (bytes : List ℕ) → source.left ≡ Some bytes → DrawEnds bytes source_now.left sink.written sink_now.written status

-- how a run ends that was given words
abbrev pub RefusesWords : (was now : Option (List ℕ)) → Status → Type 0
RefusesWords was now exit.Usage = Appended was now usage_line
RefusesWords was now exit.WriteFault = AppendedPrefix was now usage_line
RefusesWords was now other = ⊥

-- What a run does, by whether there are words. Where there are, it leaves the source as it was.
abbrev pub Does : (has_words : Bool) → (source source_now : SourceView) → (sink sink_now : SinkView) → Status → Type 0
Does true source source_now sink sink_now status = RefusesWords sink.written sink_now.written status × (source_now ≡ source)
Does false source source_now sink sink_now status = DrawRun source source_now sink sink_now status

-- The whole clause: of what the source and the sink told before the run and after it, and of the status.
pub record Ran (has_words : Bool) (source source_now : SourceView) (sink sink_now : SinkView) (status : Status) : Type 0 where
  pub does : Does has_words source source_now sink sink_now status
  -- at most one byte more is read than a trace has
  pub read_at_most : ReadsAtMost most_read source.left source_now.left
  pub read_fault : status ≡ exit.ReadFault → Rose source.faults source_now.faults
  pub write_fault : status ≡ exit.WriteFault → Rose sink.faults sink_now.faults
  pub read_later : source.faults ≤ source_now.faults
  pub wrote_later : sink.faults ≤ sink_now.faults
