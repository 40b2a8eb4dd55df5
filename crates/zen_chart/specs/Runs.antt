-- For the contracts inside: what the parts of `run` say.
use Rattle.std.specs.Prelude.{◌≡◌, ℕ, ◌≤◌, ◌⊎◌, Option, List, []}
use Rattle.zen_disk.specs.Faults.{Rose}
use Rattle.zen_link.specs.Streams.{Appended, AppendedPrefix}
use Rattle.zen_chart.specs.Ran.{DrawRun, RefusesWords}
use Rattle.zen_link.specs.Reading.{ReadsAtMost}
use Rattle.zen_chart.specs.Reading.{most_read}
use Rattle.zen_link.specs.Views.{SourceView, SinkView}
use Rattle.zen_chart.specs.declared.status.Status.{Status}
use Rattle.zen_chart.specs.declared.status.Status.TheVariants as exit

-- words where there are to be none
pub record UsageRun (was now : Option (List ℕ)) (wrote wrote_now : ℕ) (status : Status) : Type 0 where
  pub refuses : RefusesWords was now status
  pub write_fault : status ≡ exit.WriteFault → Rose wrote wrote_now
  pub not_read : status ≡ exit.ReadFault → ⊥
  pub later : wrote ≤ wrote_now

-- the line of a bad trace
pub record Refusal (was now : Option (List ℕ)) (wrote wrote_now : ℕ) (line : List ℕ) (status : Status) : Type 0 where
  pub refused : (status ≡ exit.BadTrace) ⊎ ((status ≡ exit.WriteFault) ⊎ (status ≡ exit.NoMemory))
  pub whole : status ≡ exit.BadTrace → Appended was now line
  pub cut : status ≡ exit.WriteFault → AppendedPrefix was now line × Rose wrote wrote_now
  pub nothing : status ≡ exit.NoMemory → Appended was now []
  pub later : wrote ≤ wrote_now

-- an input drawn or refused, and the faults that were met
pub record DrawEnded (source source_now : SourceView) (sink sink_now : SinkView) (status : Status) : Type 0 where
  pub run : DrawRun source source_now sink sink_now status
  pub read_at_most : ReadsAtMost most_read source.left source_now.left
  pub read_fault : status ≡ exit.ReadFault → Rose source.faults source_now.faults
  pub write_fault : status ≡ exit.WriteFault → Rose sink.faults sink_now.faults
  pub read_later : source.faults ≤ source_now.faults
  pub wrote_later : sink.faults ≤ sink_now.faults
