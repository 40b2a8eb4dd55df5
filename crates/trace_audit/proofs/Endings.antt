-- How an audit ends, from how its parts ended.
use Rattle.std.proofs.Common.{◌≡◌, ℕ, ◌≤◌, Option, Some, Result, Ok, Err, List, [], length, take, refl, sym, ◌∙◌, ap, subst, arith, inl, inr, ◌⊎◌}
use Rattle.std.proofs.lemmas.List.{take_all, length-take}
use Rattle.agreement.proofs.Laws.{safe_of_legal}
use Rattle.zen_disk.specs.Faults.{Rose}
use Rattle.zen_link.specs.Streams.{Appended, AppendedPrefix}
use Rattle.zen_link.specs.Reading.{ReadsAtMost, IsInput}
use Rattle.zen_link.proofs.Inputs.{none_left}
use Rattle.world_model.specs.Safety.{IsSafe}
use Rattle.recorded_trace.specs.declared.fault.BadTrace.{BadTrace}
use Rattle.recorded_trace.specs.Reading.{Recording, most_bytes, recording_of}
use Rattle.recorded_trace.proofs.Sizes.{recording_short}
use Rattle.trace_audit.specs.declared.reporting.Finding.{Finding}
use Rattle.trace_audit.specs.declared.reporting.Finding.TheVariants as finding
use Rattle.trace_audit.specs.declared.reporting.Report.{Report}
use Rattle.trace_audit.specs.declared.verdict.Verdict.{Verdict}
use Rattle.trace_audit.specs.declared.verdict.Winner.{Winner}
use Rattle.trace_audit.specs.declared.verdict.Verdict.TheVariants.{Legal, NotLegal}
use Rattle.trace_audit.specs.Printed.{verdict_text, bad_line}
use Rattle.trace_audit.specs.Reports.{finding_of, end_of, IsReport}
use Rattle.trace_audit.specs.Traced.{traced}
use Rattle.trace_audit.specs.Verdicts.{IsRight}
use Rattle.trace_audit.specs.Runs.{most_audited, FoundLegal, FoundBroken, FoundBad, EndsWith, Audited}
use Rattle.trace_audit.specs.declared.running.AuditEnd.{AuditEnd}
use Rattle.trace_audit.specs.declared.running.AuditEnd.TheVariants as end

-- ---- what was found

-- all of the input was read, where that is a recorded trace
all_read : (left : List ℕ) (now : Option (List ℕ)) (bytes : List ℕ) (trace : Recording) → IsInput most_audited (Some left) now bytes → recording_of bytes ≡ Ok trace → (recording_of left ≡ Ok trace) × (now ≡ Some [])
all_read left now bytes trace r e =
    let short : length (take most_audited left) ≤ most_bytes = subst (λ (l : List ℕ). length l ≤ most_bytes) r.0 (recording_short bytes trace e) in
    let low : length left ≤ most_bytes = omega (arith, short, length-take most_audited left) in
    let is : bytes ≡ left = r.0 ∙ take_all most_audited left (omega (arith, low)) in
    (subst (λ (l : List ℕ). recording_of l ≡ Ok trace) is e, r.1 ∙ ap (λ (x : List ℕ). Some x) (none_left most_audited left (omega (arith, low))))

is_safe : (trace : Recording) (n : ℕ) (ws : List Winner) (c : ℕ) → IsRight trace (Legal n ws c) → IsSafe trace.initial (traced trace.entries)
is_safe trace n ws c right = (safe_of_legal trace.initial (traced trace.entries) right.0).0

-- what the verdict on a trace says
abbrev Found : List ℕ → Verdict → (List ℕ → Type 0) → Type 0
Found bytes (Legal n ws c) Says = FoundLegal bytes Says
Found bytes (NotLegal line clause) Says = FoundBroken bytes Says

found : (bytes : List ℕ) (trace : Recording) (v : Verdict) (Says : List ℕ → Type 0) → recording_of bytes ≡ Ok trace → IsRight trace v → Says (verdict_text v) → Found bytes v Says
found bytes trace (Legal n ws c) Says read right says = record { trace = trace; read = read; entries = n; winners = ws; committed = c; right = right; safe = is_safe trace n ws c right; says = says }
found bytes trace (NotLegal line clause) Says read right says = record { trace = trace; read = read; line = line; clause = clause; right = right; says = says }

found_bad : (left : List ℕ) (now : Option (List ℕ)) (bytes : List ℕ) (bad : BadTrace) (Says : List ℕ → Type 0) → IsInput most_audited (Some left) now bytes → recording_of bytes ≡ Err bad → Says (bad_line bad) → FoundBad left Says
found_bad left now bytes bad Says r e says = record { bad = bad; read = subst (λ (l : List ℕ). recording_of l ≡ Err bad) r.0 e; says = says }

-- ---- the end

no_read_fault : {A : Type 0} (f : Finding) → end_of f ≡ end.ReadFault → A
no_read_fault finding.Legal e = absurd cc
no_read_fault finding.NotLegal e = absurd cc
no_read_fault finding.BadTrace e = absurd cc

no_write_fault : {A : Type 0} (f : Finding) → end_of f ≡ end.WriteFault → A
no_write_fault finding.Legal e = absurd cc
no_write_fault finding.NotLegal e = absurd cc
no_write_fault finding.BadTrace e = absurd cc

module _ (left left_now : Option (List ℕ)) (read read_now : ℕ) (was now : Option (List ℕ)) (wrote wrote_now : ℕ) (at_most : ReadsAtMost most_audited left left_now)
    (read_later : read ≤ read_now) (wrote_later : wrote ≤ wrote_now) where
  ended : (e : AuditEnd) → (e ≡ end.ReadFault → Rose read read_now) → (e ≡ end.WriteFault → Rose wrote wrote_now)
      → ((bytes : List ℕ) → left ≡ Some bytes → EndsWith e bytes left_now was now) → Audited left left_now read read_now was now wrote wrote_now e
  ended e read_fault write_fault audits = record {
    audits = audits;
    read_at_most = at_most;
    read_fault = read_fault;
    write_fault = write_fault;
    read_later = read_later;
    wrote_later = wrote_later;
  }

  pub audit_unread : Appended was now [] → Rose read read_now → Audited left left_now read read_now was now wrote wrote_now end.ReadFault
  audit_unread nothing rose = ended end.ReadFault (λ e. rose) (λ e. absurd cc) (λ bs e. nothing)

  pub audit_no_memory : Appended was now [] → Audited left left_now read read_now was now wrote wrote_now end.NoMemory
  audit_no_memory nothing = ended end.NoMemory (λ e. absurd cc) (λ e. absurd cc) (λ bs e. nothing)

  module _ (bytes : List ℕ) (input : IsInput most_audited left left_now bytes) (r : Report) where
    told : (bs : List ℕ) → left ≡ Some bs → IsInput most_audited (Some bs) left_now bytes
    told bs e = subst (λ (l : Option (List ℕ)). IsInput most_audited l left_now bytes) e input

    -- ---- the whole text was written

    by_verdict : (bs : List ℕ) (trace : Recording) (v : Verdict) → IsInput most_audited (Some bs) left_now bytes → recording_of bytes ≡ Ok trace → IsRight trace v → Appended was now (verdict_text v) → EndsWith (end_of (finding_of v)) bs left_now was now
    by_verdict bs trace (Legal n ws c) i e right w = let all = all_read bs left_now bytes trace i e in (all.1, found bs trace (Legal n ws c) (Appended was now) all.0 right w)
    by_verdict bs trace (NotLegal line clause) i e right w = let all = all_read bs left_now bytes trace i e in (all.1, found bs trace (NotLegal line clause) (Appended was now) all.0 right w)

    by_report : (bs : List ℕ) (answer : Result Recording BadTrace) → IsInput most_audited (Some bs) left_now bytes → recording_of bytes ≡ answer → IsReport r answer → Appended was now r.text → EndsWith (end_of r.finding) bs left_now was now
    by_report bs (Ok trace) i e k w =
        subst (λ (x : Report). Appended was now x.text → EndsWith (end_of x.finding) bs left_now was now) (sym k.2) (by_verdict bs trace k.0 i e k.1) w
    by_report bs (Err bad) i e is w =
        subst (λ (x : Report). Appended was now x.text → EndsWith (end_of x.finding) bs left_now was now) (sym is) (λ t. (i.1, found_bad bs left_now bytes bad (Appended was now) i e t)) w

    pub audited : IsReport r (recording_of bytes) → Appended was now r.text → Audited left left_now read read_now was now wrote wrote_now (end_of r.finding)
    audited is w = ended (end_of r.finding) (no_read_fault r.finding) (no_write_fault r.finding) (λ bs e. by_report bs (recording_of bytes) (told bs e) refl is w)

    -- ---- a prefix of it was written

    abbrev Cut : List ℕ → Type 0
    Cut bs = FoundLegal bs (AppendedPrefix was now) ⊎ (FoundBroken bs (AppendedPrefix was now) ⊎ FoundBad bs (AppendedPrefix was now))

    cut_verdict : (bs : List ℕ) (trace : Recording) (v : Verdict) → IsInput most_audited (Some bs) left_now bytes → recording_of bytes ≡ Ok trace → IsRight trace v → AppendedPrefix was now (verdict_text v) → Cut bs
    cut_verdict bs trace (Legal n ws c) i e right w = inl (found bs trace (Legal n ws c) (AppendedPrefix was now) (all_read bs left_now bytes trace i e).0 right w)
    cut_verdict bs trace (NotLegal line clause) i e right w = inr (inl (found bs trace (NotLegal line clause) (AppendedPrefix was now) (all_read bs left_now bytes trace i e).0 right w))

    cut_report : (bs : List ℕ) (answer : Result Recording BadTrace) → IsInput most_audited (Some bs) left_now bytes → recording_of bytes ≡ answer → IsReport r answer → AppendedPrefix was now r.text → Cut bs
    cut_report bs (Ok trace) i e k w = cut_verdict bs trace k.0 i e k.1 (subst (λ (x : Report). AppendedPrefix was now x.text) k.2 w)
    cut_report bs (Err bad) i e is w = inr (inr (found_bad bs left_now bytes bad (AppendedPrefix was now) i e (subst (λ (x : Report). AppendedPrefix was now x.text) is w)))

    pub audit_cut : IsReport r (recording_of bytes) → AppendedPrefix was now r.text → Rose wrote wrote_now → Audited left left_now read read_now was now wrote wrote_now end.WriteFault
    audit_cut is w rose = ended end.WriteFault (λ e. absurd cc) (λ e. rose) (λ bs e. ((told bs e).1, cut_report bs (recording_of bytes) (told bs e) refl is w))
