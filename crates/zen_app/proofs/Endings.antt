-- How a run ends, from how its parts ended.
use Rattle.std.proofs.Common.{◌≡◌, ℕ, ◌≤◌, Option, Some, List, [], length, take, refl, sym, ◌∙◌, ap, subst, arith, inl, inr, ◌⊎◌, append-nil}
use Rattle.std.proofs.lemmas.List.{take_all, length-take}
use Rattle.zen_disk.specs.Faults.{Rose}
use Rattle.zen_link.specs.Streams.{Appended, AppendedPrefix}
use Rattle.schedule_text.specs.declared.fault.BadSchedule.{BadSchedule}
use Rattle.schedule_text.specs.declared.level.Level.{Level}
use Rattle.schedule_text.specs.declared.schedule.Schedule.{Schedule}
use Rattle.schedule_text.specs.Limits.{most_bytes}
use Rattle.schedule_text.specs.Reading.{fault_of}
use Rattle.schedule_text.specs.FirstBad.{IsFirstBad}
use Rattle.schedule_text.specs.Printed.{bad_line}
use Rattle.schedule_text.specs.Spelled.{Spells}
use Rattle.schedule_text.proofs.ScheduleLaws.{one_schedule}
use Rattle.schedule_text.proofs.FirstBadLaws.{law_first_bad_line}
use Rattle.zen_link.specs.Reading.{ReadsAtMost, IsInput}
use Rattle.zen_app.specs.Reading.{most_read, read_of}
use Rattle.zen_app.specs.Ran.{MayEndReplay, Replays}
use Rattle.zen_link.specs.Views.{SourceView, SinkView}
use Rattle.schedule_replay.specs.Levels.{trace_at}
use Rattle.zen_app.specs.SafeTrace.{IsSafeTraceAt}
use Rattle.zen_app.specs.Runs.{ReplayEnded}
use Rattle.zen_app.specs.Refusing.{Refusal}
use Rattle.zen_app.specs.declared.status.Status.{Status}
use Rattle.zen_app.specs.declared.status.Status.TheVariants as exit
use Rattle.zen_link.proofs.Inputs.{none_left}
use Rattle.zen_app.proofs.Spelled.{spells_short, spells_safe_trace}

-- ---- of what was read

-- all of the input was read, where that is no longer than a schedule
pub all_read : (left : List ℕ) (now : Option (List ℕ)) (bytes : List ℕ) → IsInput most_read (Some left) now bytes → length bytes ≤ most_bytes → (bytes ≡ left) × (now ≡ Some [])
all_read left now bytes r short =
    let long : length (take most_read left) ≤ most_bytes = subst (λ (l : List ℕ). length l ≤ most_bytes) r.0 short in
    let low : length left ≤ most_bytes = omega (arith, long, length-take most_read left) in
    (r.0 ∙ take_all most_read left (omega (arith, low)), r.1 ∙ ap (λ (x : List ℕ). Some x) (none_left most_read left (omega (arith, low))))

module _ (level : Level) where
  spells_left : (left : List ℕ) (now : Option (List ℕ)) (bytes : List ℕ) (s : Schedule) → IsInput most_read (Some left) now bytes → Spells level bytes s → Spells level left s × (now ≡ Some [])
  spells_left left now bytes s r spelled =
      let all = all_read left now bytes r (spells_short level bytes s spelled) in
      (subst (λ (l : List ℕ). Spells level l s) all.0 spelled, all.1)

  -- what the input spells is spelled by what was read
  pub spells_read : (left : List ℕ) (now : Option (List ℕ)) (bytes : List ℕ) (s : Schedule) → IsInput most_read (Some left) now bytes → Spells level left s → Spells level bytes s
  spells_read left now bytes s r spelled =
      let short = spells_short level left s spelled in
      let is : bytes ≡ left = r.0 ∙ take_all most_read left (omega (arith, short)) in
      subst (λ (l : List ℕ). Spells level l s) (sym is) spelled

-- ---- of what was written

whole_prefix : (was now : Option (List ℕ)) (bytes : List ℕ) → Appended was now bytes → AppendedPrefix was now bytes
whole_prefix was now bytes written = record { prefix = bytes; rest = []; whole = append-nil bytes; appended = written }

no_prefix : (was now : Option (List ℕ)) (bytes : List ℕ) → Appended was now [] → AppendedPrefix was now bytes
no_prefix was now bytes written = record { prefix = []; rest = bytes; whole = refl; appended = written }

module _ (level : Level) where
  -- a prefix of the trace of the schedule that the bytes spell, where they spell one
  abbrev IsTraced : List ℕ → (was now : Option (List ℕ)) → Type 0
  IsTraced bytes was now = (s : Schedule) → Spells level bytes s → AppendedPrefix was now (trace_at level s) × IsSafeTraceAt level s

  traced : (bytes : List ℕ) (was now : Option (List ℕ)) (s : Schedule) → Spells level bytes s → AppendedPrefix was now (trace_at level s) → IsTraced bytes was now
  traced bytes was now s spelled written t other = (subst (λ (x : Schedule). AppendedPrefix was now (trace_at level x)) (one_schedule level bytes s t spelled other) written, spells_safe_trace level bytes t other)

  traced_nothing : (bytes : List ℕ) (was now : Option (List ℕ)) → Appended was now [] → IsTraced bytes was now
  traced_nothing bytes was now written s spelled = (no_prefix was now (trace_at level s) written, spells_safe_trace level bytes s spelled)

-- ---- how a replay ends

module _ (level : Level) (source source_now : SourceView) (sink sink_now : SinkView) (at_most : ReadsAtMost most_read source.left source_now.left)
    (read_later : source.faults ≤ source_now.faults) (wrote_later : sink.faults ≤ sink_now.faults) where
  ended : (status : Status) → MayEndReplay status → (status ≡ exit.ReadFault → Rose source.faults source_now.faults) → (status ≡ exit.WriteFault → Rose sink.faults sink_now.faults)
      → ((bytes : List ℕ) → source.left ≡ Some bytes → Replays level bytes source source_now sink sink_now status) → ReplayEnded level source source_now sink sink_now status
  ended status may read_fault write_fault replays = record {
    run = record { ends = may; replays = replays };
    read_at_most = at_most;
    read_fault = read_fault;
    write_fault = write_fault;
    read_later = read_later;
    wrote_later = wrote_later;
  }

  pub read_failed : Appended sink.written sink_now.written [] → Rose source.faults source_now.faults → ReplayEnded level source source_now sink sink_now exit.ReadFault
  read_failed nothing rose = ended exit.ReadFault tt (λ _. rose) (λ e. absurd cc) (λ bs e. record {
    ended = nothing;
    traced = traced_nothing level bs sink.written sink_now.written nothing;
    complete = λ t sp r w. absurd (r rose);
  })

  -- memory ran out before anything was written
  pub no_memory : Appended sink.written sink_now.written [] → ReplayEnded level source source_now sink sink_now exit.NoMemory
  no_memory nothing = ended exit.NoMemory tt (λ e. absurd cc) (λ e. absurd cc) (λ bs e. record {
    ended = inr nothing;
    traced = traced_nothing level bs sink.written sink_now.written nothing;
    complete = λ t sp r w. inr refl;
  })

  module _ (bytes : List ℕ) (input : IsInput most_read source.left source_now.left bytes) where
    told : (bs : List ℕ) → source.left ≡ Some bs → IsInput most_read (Some bs) source_now.left bytes
    told bs e = subst (λ (l : Option (List ℕ)). IsInput most_read l source_now.left bytes) e input

    left_of : (bs : List ℕ) (s : Schedule) → source.left ≡ Some bs → Spells level bytes s → Spells level bs s × (source_now.left ≡ Some [])
    left_of bs s e spelled = spells_left level bs source_now.left bytes s (told bs e) spelled

    pub succeeded : (s : Schedule) → Spells level bytes s → Appended sink.written sink_now.written (trace_at level s) → ReplayEnded level source source_now sink sink_now exit.Ok
    succeeded s spelled written = ended exit.Ok tt (λ e. absurd cc) (λ e. absurd cc) (λ bs e. let l = left_of bs s e spelled in record {
      ended = (l.1, record { schedule = s; spelled = l.0; written = written; safe_trace = spells_safe_trace level bs s l.0 });
      traced = traced level bs sink.written sink_now.written s l.0 (whole_prefix sink.written sink_now.written (trace_at level s) written);
      complete = λ t sp r w. inl refl;
    })

    pub cut_short : (s : Schedule) → Spells level bytes s → AppendedPrefix sink.written sink_now.written (trace_at level s) → Rose sink.faults sink_now.faults → ReplayEnded level source source_now sink sink_now exit.WriteFault
    cut_short s spelled written rose = ended exit.WriteFault tt (λ e. absurd cc) (λ _. rose) (λ bs e. let l = left_of bs s e spelled in record {
      ended = ((told bs e).1, inl (record { schedule = s; spelled = l.0; written = written; safe_trace = spells_safe_trace level bs s l.0 }));
      traced = traced level bs sink.written sink_now.written s l.0 written;
      complete = λ t sp r w. absurd (w rose);
    })

    pub out_of_memory : (s : Schedule) → Spells level bytes s → AppendedPrefix sink.written sink_now.written (trace_at level s) → ReplayEnded level source source_now sink sink_now exit.NoMemory
    out_of_memory s spelled written = ended exit.NoMemory tt (λ e. absurd cc) (λ e. absurd cc) (λ bs e. let l = left_of bs s e spelled in record {
      ended = inl (record { schedule = s; spelled = l.0; written = written; safe_trace = spells_safe_trace level bs s l.0 });
      traced = traced level bs sink.written sink_now.written s l.0 written;
      complete = λ t sp r w. inr refl;
    })

    pub bad : (status : Status) (bad : BadSchedule) → fault_of level bytes ≡ Some bad → ((s : Schedule) → Spells level bytes s → ⊥) → Refusal sink.written sink_now.written sink.faults sink_now.faults (bad_line bad) exit.BadSchedule status
        → ReplayEnded level source source_now sink sink_now status
    bad status b fault none refusal = from refusal.refused
      where
        told_fault : (bs : List ℕ) → source.left ≡ Some bs → fault_of level (read_of bs) ≡ Some b
        told_fault bs e = subst (λ (l : List ℕ). fault_of level l ≡ Some b) (told bs e).0 fault

        first_bad : (bs : List ℕ) → source.left ≡ Some bs → IsFirstBad level b.line (read_of bs)
        first_bad bs e = (law_first_bad_line level (read_of bs) b.line).0 (b.why, told_fault bs e)

        no_schedule : {A : Type 0} (bs : List ℕ) (s : Schedule) → source.left ≡ Some bs → Spells level bs s → A
        no_schedule bs s e spelled = absurd (none s (spells_read level bs source_now.left bytes s (told bs e) spelled))

        from : (status ≡ exit.BadSchedule) ⊎ ((status ≡ exit.WriteFault) ⊎ (status ≡ exit.NoMemory)) → ReplayEnded level source source_now sink sink_now status
        from (inl is) =
            subst (λ (x : Status). ReplayEnded level source source_now sink sink_now x) (sym is)
            (ended exit.BadSchedule tt (λ e. absurd cc) (λ e. absurd cc) (λ bs e. record {
              ended = ((told bs e).1, record { bad = b; fault = told_fault bs e; first = first_bad bs e; written = refusal.whole is });
              traced = λ s sp. no_schedule bs s e sp;
              complete = λ s sp r w. no_schedule bs s e sp;
            }))
        from (inr (inl is)) =
            subst (λ (x : Status). ReplayEnded level source source_now sink sink_now x) (sym is)
            (ended exit.WriteFault tt (λ e. absurd cc) (λ _. (refusal.cut is).1) (λ bs e. record {
              ended = ((told bs e).1, inr (record { bad = b; fault = told_fault bs e; first = first_bad bs e; written = (refusal.cut is).0 }));
              traced = λ s sp. no_schedule bs s e sp;
              complete = λ s sp r w. no_schedule bs s e sp;
            }))
        from (inr (inr is)) =
            subst (λ (x : Status). ReplayEnded level source source_now sink sink_now x) (sym is) (no_memory (refusal.nothing is))
