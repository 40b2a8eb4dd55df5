-- How a run ends, from how its parts ended.
use Rattle.std.proofs.Common.{◌≡◌, ℕ, ◌≤◌, Option, None, Some, Result, Ok, Err, List, [], length, refl, sym, ◌∙◌, ap, subst, inl, inr, ◌⊎◌, arith}
use Rattle.zen_disk.specs.Faults.{Rose}
use Rattle.zen_link.specs.Streams.{Appended, AppendedPrefix}
use Rattle.trace_reader.specs.declared.fault.BadTrace.{BadTrace}
use Rattle.trace_reader.specs.declared.said.TraceLine.{TraceLine}
use Rattle.trace_reader.specs.Printed.{bad_line}
use Rattle.trace_reader.specs.Reading.{trace_at}
use Rattle.sequence_chart.specs.Chart.{Draws}
use Rattle.zen_chart.specs.Ran.{DrawEnds, MayEndDraw}
use Rattle.zen_link.specs.Reading.{IsInput, ReadsAtMost}
use Rattle.zen_chart.specs.Reading.{most_read, unread_of}
use Rattle.zen_chart.specs.Runs.{DrawEnded, Refusal}
use Rattle.zen_link.specs.Views.{SourceView, SinkView}
use Rattle.zen_chart.specs.declared.status.Status.{Status}
use Rattle.zen_chart.specs.declared.status.Status.TheVariants as exit
use Rattle.zen_chart.proofs.Enough.{read_enough, trace_short}
use Rattle.zen_link.proofs.Inputs.{none_left}

module _ (source source_now : SourceView) (sink sink_now : SinkView) (at_most : ReadsAtMost most_read source.left source_now.left)
    (read_later : source.faults ≤ source_now.faults) (wrote_later : sink.faults ≤ sink_now.faults) (bytes : List ℕ) (input : IsInput most_read source.left source_now.left bytes) where
  ended : (status : Status) → MayEndDraw status → (status ≡ exit.ReadFault → Rose source.faults source_now.faults) → (status ≡ exit.WriteFault → Rose sink.faults sink_now.faults)
      → ((bs : List ℕ) → source.left ≡ Some bs → DrawEnds bs source_now.left sink.written sink_now.written status) → DrawEnded source source_now sink sink_now status
  ended status may read_fault write_fault draws = record {
    run = record { ends = may; draws = draws };
    read_at_most = at_most;
    read_fault = read_fault;
    write_fault = write_fault;
    read_later = read_later;
    wrote_later = wrote_later;
  }

  told : (bs : List ℕ) → source.left ≡ Some bs → IsInput most_read (Some bs) source_now.left bytes
  told bs e = subst (λ (l : Option (List ℕ)). IsInput most_read l source_now.left bytes) e input

  -- what was read is what the input held
  whole : (bs : List ℕ) (r : Result (List TraceLine) BadTrace) → source.left ≡ Some bs → trace_at bytes ≡ r → trace_at bs ≡ r
  whole bs r e read = sym (ap trace_at (told bs e).0 ∙ read_enough bs) ∙ read

  pub drawn : (lines : List TraceLine) (picture : List ℕ) → trace_at bytes ≡ Ok lines → Draws lines picture → Appended sink.written sink_now.written picture → DrawEnded source source_now sink sink_now exit.Ok
  drawn lines picture read draws written = ended exit.Ok tt (λ e. absurd cc) (λ e. absurd cc) (λ bs e.
      let is = whole bs (Ok lines) e read in (
        (told bs e).1 ∙ ap (λ (left : List ℕ). Some left) (none_left most_read bs (omega (arith, trace_short bs lines is))),
        record { lines = lines; read = is; picture = picture; draws = draws; written = written },
      ))

  pub cut_short : (lines : List TraceLine) (picture : List ℕ) → trace_at bytes ≡ Ok lines → Draws lines picture → AppendedPrefix sink.written sink_now.written picture → Rose sink.faults sink_now.faults
      → DrawEnded source source_now sink sink_now exit.WriteFault
  cut_short lines picture read draws written rose = ended exit.WriteFault tt (λ e. absurd cc) (λ _. rose) (λ bs e. (
    (told bs e).1,
    inl (record { lines = lines; read = whole bs (Ok lines) e read; picture = picture; draws = draws; written = written }),
  ))

  pub refused : (status : Status) (bad : BadTrace) → trace_at bytes ≡ Err bad → Refusal sink.written sink_now.written sink.faults sink_now.faults (bad_line bad) status → DrawEnded source source_now sink sink_now status
  refused status bad read refusal = from refusal.refused
    where
      from : (status ≡ exit.BadTrace) ⊎ ((status ≡ exit.WriteFault) ⊎ (status ≡ exit.NoMemory)) → DrawEnded source source_now sink sink_now status
      from (inl is) =
          subst (λ (x : Status). DrawEnded source source_now sink sink_now x) (sym is)
          (ended exit.BadTrace tt (λ e. absurd cc) (λ e. absurd cc) (λ bs e. ((told bs e).1, record { bad = bad; fault = whole bs (Err bad) e read; written = refusal.whole is })))
      from (inr (inl is)) =
          subst (λ (x : Status). DrawEnded source source_now sink sink_now x) (sym is)
          (ended exit.WriteFault tt (λ e. absurd cc) (λ _. (refusal.cut is).1) (λ bs e. ((told bs e).1, inr (record { bad = bad; fault = whole bs (Err bad) e read; written = (refusal.cut is).0 }))))
      from (inr (inr is)) =
          subst (λ (x : Status). DrawEnded source source_now sink sink_now x) (sym is)
          (ended exit.NoMemory tt (λ e. absurd cc) (λ e. absurd cc) (λ bs e. refusal.nothing is))
