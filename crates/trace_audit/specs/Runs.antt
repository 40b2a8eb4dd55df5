-- Part of the statement: how the audit of an input ends: what was found in what was read, and what was written.
use Rattle.std.specs.Prelude.{◌≡◌, ◌⊎◌, ℕ, ◌+◌, ◌≤◌, Option, Some, Ok, Err, List, [], take, drop}
use Rattle.zen_disk.specs.Faults.{Rose}
use Rattle.zen_link.specs.Reading.{ReadsAtMost}
use Rattle.zen_link.specs.Streams.{Appended, AppendedPrefix}
use Rattle.world_model.specs.Safety.{IsSafe}
use Rattle.recorded_trace.specs.declared.fault.BadTrace.{BadTrace}
use Rattle.recorded_trace.specs.Reading.{Recording, most_bytes, recording_of}
use Rattle.trace_audit.specs.declared.clause.Clause.{Clause}
use Rattle.trace_audit.specs.declared.verdict.Winner.{Winner}
use Rattle.trace_audit.specs.declared.verdict.Verdict.TheVariants.{Legal, NotLegal}
use Rattle.trace_audit.specs.Printed.{verdict_text, bad_line}
use Rattle.trace_audit.specs.Traced.{traced}
use Rattle.trace_audit.specs.Verdicts.{IsRight}
use Rattle.trace_audit.specs.declared.running.AuditEnd.{AuditEnd}
use Rattle.trace_audit.specs.declared.running.AuditEnd.TheVariants as end

-- how many bytes are read at most: one more than a recorded trace has, which shows that it is too long
abbrev pub most_audited : ℕ
most_audited = most_bytes + 1

-- The bytes record a legal history, and that very history is safe: no term has two winners, committed states of one version are equal, each
-- descends from every earlier committed one, and no node forgets what it answered for. This text says so, with the history's numbers and
-- winners.
pub record FoundLegal (bytes : List ℕ) (Says : List ℕ → Type 0) : Type 0 where
  pub trace : Recording
  pub read : recording_of bytes ≡ Ok trace
  pub entries : ℕ
  pub winners : List Winner
  pub committed : ℕ
  pub right : IsRight trace (Legal entries winners committed)
  pub safe : IsSafe trace.initial (traced trace.entries)
  pub says : Says (verdict_text (Legal entries winners committed))

-- the bytes record a history that is not legal; this text says which line is the first that is not, and which clause it breaks first
pub record FoundBroken (bytes : List ℕ) (Says : List ℕ → Type 0) : Type 0 where
  pub trace : Recording
  pub read : recording_of bytes ≡ Ok trace
  pub line : ℕ
  pub clause : Clause
  pub right : IsRight trace (NotLegal line clause)
  pub says : Says (verdict_text (NotLegal line clause))

-- what was read of the bytes is no recorded trace; this text says which line is the first bad one, and why
pub record FoundBad (bytes : List ℕ) (Says : List ℕ → Type 0) : Type 0 where
  pub bad : BadTrace
  pub read : recording_of (take most_audited bytes) ≡ Err bad
  pub says : Says (bad_line bad)

-- what each end says, where the input held these bytes
abbrev pub EndsWith : AuditEnd → (bytes : List ℕ) → (left_now : Option (List ℕ)) → (was now : Option (List ℕ)) → Type 0
EndsWith end.Legal bytes left_now was now = (left_now ≡ Some []) × FoundLegal bytes (Appended was now)
EndsWith end.NotLegal bytes left_now was now = (left_now ≡ Some []) × FoundBroken bytes (Appended was now)
EndsWith end.BadTrace bytes left_now was now = (left_now ≡ Some (drop most_audited bytes)) × FoundBad bytes (Appended was now)
EndsWith end.WriteFault bytes left_now was now =
    (left_now ≡ Some (drop most_audited bytes))
    × (FoundLegal bytes (AppendedPrefix was now) ⊎ (FoundBroken bytes (AppendedPrefix was now) ⊎ FoundBad bytes (AppendedPrefix was now)))
EndsWith end.NoMemory bytes left_now was now = Appended was now []
EndsWith end.ReadFault bytes left_now was now = Appended was now []

-- How the audit of an input ends: what the source told was left of it and the count of its faults, what the sink told was written and the
-- count of its.
pub record Audited (left left_now : Option (List ℕ)) (read read_now : ℕ) (was now : Option (List ℕ)) (wrote wrote_now : ℕ) (e : AuditEnd)
    : Type 0 where
  -- where the source tells its bytes
  pub audits : (bytes : List ℕ) → left ≡ Some bytes → EndsWith e bytes left_now was now
  pub read_at_most : ReadsAtMost most_audited left left_now
  pub read_fault : e ≡ end.ReadFault → Rose read read_now
  pub write_fault : e ≡ end.WriteFault → Rose wrote wrote_now
  pub read_later : read ≤ read_now
  pub wrote_later : wrote ≤ wrote_now
