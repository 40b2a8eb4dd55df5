-- How a run of `rescue` ends, from how its parts ended.
use Rattle.std.proofs.Common.{◌≡◌, ℕ, ◌+◌, ◌<◌, ◌≤◌, Option, Some, Result, Ok, Err, List, [], length, refl, sym, subst, arith, inl, inr, ◌⊎◌}
use Rattle.std.specs.List.{AllByRecursion}
use Rattle.voting_config.specs.Ids.{Id, IsIdSet}
use Rattle.zen_disk.specs.Faults.{Rose}
use Rattle.zen_link.specs.Reading.{ReadsAtMost, IsInput}
use Rattle.zen_link.specs.Streams.{Appended, AppendedPrefix}
use Rattle.schedule_text.specs.Limits.{most_lines}
use Rattle.schedule_text.specs.Lines.{FitsLine}
use Rattle.schedule_text.specs.Printed.{bad_line}
use Rattle.schedule_text.specs.Reading.{fault_of}
use Rattle.schedule_text.specs.FirstBad.{IsFirstBad}
use Rattle.schedule_text.specs.Spelled.{Spells, Nothing, Text, Nobody}
use Rattle.schedule_text.specs.declared.fault.BadSchedule.{BadSchedule}
use Rattle.schedule_text.specs.declared.level.Level.TheVariants.{Core}
use Rattle.schedule_text.specs.declared.schedule.Schedule.{Schedule}
use Rattle.schedule_text.proofs.FirstBadLaws.{law_first_bad_line}
use Rattle.schedule_text.proofs.ScheduleLaws.{one_schedule}
use Rattle.rescue_plan.specs.declared.answer.Plan.{Plan}
use Rattle.zen_app.specs.Choosing.{lines_text, rescue_of}
use Rattle.zen_app.specs.Reading.{most_read, read_of}
use Rattle.zen_app.specs.Refusing.{Refusal}
use Rattle.zen_app.specs.RescueRuns.{EndsBy, MayEndRescue, Planned, Rescues, Unplanned}
use Rattle.zen_app.specs.RescueText.{no_rescue_line}
use Rattle.zen_app.specs.Rescues.{HasPlan, NoneFor}
use Rattle.zen_app.specs.Runs.{RescueEnded}
use Rattle.zen_link.specs.Views.{SourceView, SinkView}
use Rattle.zen_app.specs.declared.refusals.NoAnswer.TheVariants.{Bad, Refused}
use Rattle.zen_app.specs.declared.refusals.NoRescue.{NoRescue}
use Rattle.zen_app.specs.declared.status.Status.{Status}
use Rattle.zen_app.specs.declared.status.Status.TheVariants as exit
use Rattle.zen_app.proofs.Endings.{all_read, spells_read}
use Rattle.zen_app.proofs.Rescued.{count_lines, is_rescued}
use Rattle.zen_app.proofs.Spelled.{spells_short}

-- the header is two lines
pub spells_few : (bytes : List ℕ) (s : Schedule) → Spells Core bytes s → 2 + length s.lines ≤ most_lines
spells_few _ _ Nothing = omega arith
spells_few _ _ (Text s is within) = omega (arith, within.count, count_lines s is.voting_only is.second)
spells_few _ _ (Nobody s at none is within) = absurd (cc)

-- its lines are of level core and of its nodes
pub spells_fit : (bytes : List ℕ) (s : Schedule) → Spells Core bytes s → AllByRecursion (FitsLine Core s.nodes) s.lines
spells_fit _ _ Nothing = tt
spells_fit _ _ (Text s is within) = is.lines
spells_fit _ _ (Nobody s at none is within) = is.lines

-- a plan, or none, by whatever schedule the bytes spell
by_plan : (r : Result Plan NoRescue) (p : Plan) (status : Status) → r ≡ Ok p → (status ≡ exit.Ok) ⊎ (status ≡ exit.NoMemory) → EndsBy r status
by_plan r p status is ends = subst (λ (x : Result Plan NoRescue). EndsBy x status) (sym is) ends

by_none : (r : Result Plan NoRescue) (why : NoRescue) (status : Status) → r ≡ Err why → (status ≡ exit.RescueRefused) ⊎ (status ≡ exit.NoMemory) → EndsBy r status
by_none r why status is ends = subst (λ (x : Result Plan NoRescue). EndsBy x status) (sym is) ends

without_memory : (r : Result Plan NoRescue) → EndsBy r exit.NoMemory
without_memory (Ok p) = inr refl
without_memory (Err why) = inr refl

module _ (ids : List Id) (source source_now : SourceView) (sink sink_now : SinkView) (at_most : ReadsAtMost most_read source.left source_now.left)
    (read_later : source.faults ≤ source_now.faults) (wrote_later : sink.faults ≤ sink_now.faults) where
  abbrev Ended : Status → Type 0
  Ended status = RescueEnded ids source source_now sink sink_now status

  ended : (status : Status) → MayEndRescue status → (status ≡ exit.ReadFault → Rose source.faults source_now.faults) → (status ≡ exit.WriteFault → Rose sink.faults sink_now.faults)
      → ((bytes : List ℕ) → source.left ≡ Some bytes → Rescues ids bytes source source_now sink sink_now status) → Ended status
  ended status may read_fault write_fault rescues = record {
    run = record { ends = may; rescues = rescues };
    read_at_most = at_most;
    read_fault = read_fault;
    write_fault = write_fault;
    read_later = read_later;
    wrote_later = wrote_later;
  }

  pub read_failed : Appended sink.written sink_now.written [] → Rose source.faults source_now.faults → Ended exit.ReadFault
  read_failed nothing rose = ended exit.ReadFault tt (λ _. rose) (λ e. absurd cc) (λ bs e. record { ended = nothing; complete = λ s sp r w. absurd (r rose) })

  -- memory ran out before anything was written
  pub no_memory : Appended sink.written sink_now.written [] → Ended exit.NoMemory
  no_memory nothing = ended exit.NoMemory tt (λ e. absurd cc) (λ e. absurd cc) (λ bs e. record { ended = nothing; complete = λ s sp r w. without_memory (rescue_of (length bs) s ids) })

  module _ (set : IsIdSet ids) (some : 0 < length ids) (bytes : List ℕ) (input : IsInput most_read source.left source_now.left bytes) where
    told : (bs : List ℕ) → source.left ≡ Some bs → IsInput most_read (Some bs) source_now.left bytes
    told bs e = subst (λ (l : Option (List ℕ)). IsInput most_read l source_now.left bytes) e input

    whole : (bs : List ℕ) (s : Schedule) → source.left ≡ Some bs → Spells Core bytes s → (bytes ≡ bs) × (source_now.left ≡ Some [])
    whole bs s e spelled = all_read bs source_now.left bytes (told bs e) (spells_short Core bytes s spelled)

    planned_by : (text bs : List ℕ) → source.left ≡ Some bs → HasPlan bytes ids text → (p : Planned bs ids) × (text ≡ lines_text p.plan.lines)
    planned_by text bs e r =
        let all = whole bs r.schedule e r.spelled in
        let spelled : Spells Core bs r.schedule = subst (λ (b : List ℕ). Spells Core b r.schedule) all.0 r.spelled in
        let planned : rescue_of (length bs) r.schedule ids ≡ Ok r.plan = subst (λ (b : List ℕ). rescue_of (length b) r.schedule ids ≡ Ok r.plan) all.0 r.planned in
        (record { schedule = r.schedule; plan = r.plan; spelled = spelled; planned = planned; rescue = is_rescued bs r.schedule spelled ids set some r.plan planned }, r.text_is)

    pub done : (text : List ℕ) → HasPlan bytes ids text → Appended sink.written sink_now.written text → Ended exit.Ok
    done text r written = ended exit.Ok tt (λ e. absurd cc) (λ e. absurd cc) (λ bs e.
        let p = planned_by text bs e r in
        record {
          ended = ((whole bs r.schedule e r.spelled).1, (p.0, subst (Appended sink.written sink_now.written) p.1 written));
          complete = λ s sp no_read no_write.
              by_plan (rescue_of (length bs) s ids) p.0.plan exit.Ok
              (subst (λ (x : Schedule). rescue_of (length bs) x ids ≡ Ok p.0.plan) (one_schedule Core bs p.0.schedule s p.0.spelled sp) p.0.planned) (inl refl);
        })

    pub cut : (text : List ℕ) → HasPlan bytes ids text → AppendedPrefix sink.written sink_now.written text → Rose sink.faults sink_now.faults → Ended exit.WriteFault
    cut text r written rose = ended exit.WriteFault tt (λ e. absurd cc) (λ _. rose) (λ bs e.
        let p = planned_by text bs e r in
        record {
          ended = ((told bs e).1, inl (p.0, subst (AppendedPrefix sink.written sink_now.written) p.1 written));
          complete = λ s sp no_read no_write. absurd (no_write rose);
        })

    pub refused : (why : NoRescue) (status : Status) → NoneFor bytes ids (Refused why) → Refusal sink.written sink_now.written sink.faults sink_now.faults (no_rescue_line why) exit.RescueRefused status → Ended status
    refused why status none w = from w.refused
      where
        unplanned : (bs : List ℕ) → source.left ≡ Some bs → (u : Unplanned bs ids) × (u.why ≡ why) × (source_now.left ≡ Some [])
        unplanned bs e =
            let all = whole bs none.0 e none.1 in (
              record {
                schedule = none.0;
                why = why;
                spelled = subst (λ (b : List ℕ). Spells Core b none.0) all.0 none.1;
                refused = subst (λ (b : List ℕ). rescue_of (length b) none.0 ids ≡ Err why) all.0 none.2;
              },
              refl,
              all.1,
            )

        from : (status ≡ exit.RescueRefused) ⊎ ((status ≡ exit.WriteFault) ⊎ (status ≡ exit.NoMemory)) → Ended status
        from (inl is) = subst Ended (sym is) (ended exit.RescueRefused tt (λ e. absurd cc) (λ e. absurd cc) (λ bs e.
            let u = unplanned bs e in
            record {
              ended = (u.2, (u.0, subst (λ (x : NoRescue). Appended sink.written sink_now.written (no_rescue_line x)) (sym u.1) (w.whole is)));
              complete = λ s sp no_read no_write.
                  by_none (rescue_of (length bs) s ids) u.0.why exit.RescueRefused
                  (subst (λ (x : Schedule). rescue_of (length bs) x ids ≡ Err u.0.why) (one_schedule Core bs u.0.schedule s u.0.spelled sp) u.0.refused) (inl refl);
            }))
        from (inr (inl is)) = subst Ended (sym is) (ended exit.WriteFault tt (λ e. absurd cc) (λ _. (w.cut is).1) (λ bs e.
            let u = unplanned bs e in
            record {
              ended = ((told bs e).1, inr (inl (u.0, subst (λ (x : NoRescue). AppendedPrefix sink.written sink_now.written (no_rescue_line x)) (sym u.1) (w.cut is).0)));
              complete = λ s sp no_read no_write. absurd (no_write (w.cut is).1);
            }))
        from (inr (inr is)) = subst Ended (sym is) (no_memory (w.nothing is))

    pub bad : (b : BadSchedule) (status : Status) → NoneFor bytes ids (Bad b) → Refusal sink.written sink_now.written sink.faults sink_now.faults (bad_line b) exit.BadSchedule status → Ended status
    bad b status none w = from w.refused
      where
        told_fault : (bs : List ℕ) → source.left ≡ Some bs → fault_of Core (read_of bs) ≡ Some b
        told_fault bs e = subst (λ (l : List ℕ). fault_of Core l ≡ Some b) (told bs e).0 none.0

        first_bad : (bs : List ℕ) → source.left ≡ Some bs → IsFirstBad Core b.line (read_of bs)
        first_bad bs e = (law_first_bad_line Core (read_of bs) b.line).0 (b.why, told_fault bs e)

        no_schedule : {A : Type 0} (bs : List ℕ) (s : Schedule) → source.left ≡ Some bs → Spells Core bs s → A
        no_schedule bs s e spelled = absurd (none.1 s (spells_read Core bs source_now.left bytes s (told bs e) spelled))

        from : (status ≡ exit.BadSchedule) ⊎ ((status ≡ exit.WriteFault) ⊎ (status ≡ exit.NoMemory)) → Ended status
        from (inl is) = subst Ended (sym is) (ended exit.BadSchedule tt (λ e. absurd cc) (λ e. absurd cc) (λ bs e. record {
          ended = ((told bs e).1, record { bad = b; fault = told_fault bs e; first = first_bad bs e; written = w.whole is });
          complete = λ s sp no_read no_write. no_schedule bs s e sp;
        }))
        from (inr (inl is)) = subst Ended (sym is) (ended exit.WriteFault tt (λ e. absurd cc) (λ _. (w.cut is).1) (λ bs e. record {
          ended = ((told bs e).1, inr (inr (record { bad = b; fault = told_fault bs e; first = first_bad bs e; written = (w.cut is).0 })));
          complete = λ s sp no_read no_write. no_schedule bs s e sp;
        }))
        from (inr (inr is)) = subst Ended (sym is) (no_memory (w.nothing is))
