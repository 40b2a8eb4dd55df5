-- What is answered by a call that writes to a journal.
use Rattle.std.proofs.Common.{◌≡◌, ◌≤◌, refl, sym, ◌∙◌, Ok, Err, true, false}
use Rattle.zen_disk.specs.declared.disks.Disks.{Ghosts}
use Rattle.zen_disk.specs.Faults.{Rose}
use Rattle.gate_log.specs.Appends.{Answers}
use Rattle.gate_log.specs.declared.error.AppendError.TheVariants.{Disk}
use Rattle.gate_log.specs.declared.log.GateLog.{GateLog}

module _ {D T : Type 0} (disks : Ghosts D) where
  -- the disk was called, and did its part
  pub done : (old new : GateLog D disks) (x : T) → old.stopped ≡ false → new.stopped ≡ false → disks.faults old.disk ≤ disks.faults new.disk
      → Answers disks old new (Ok x)
  done old new x running runs later = record {
    stopped = (λ is. absurd (cc is), λ on. absurd (let e = sym running ∙ on in cc e));
    cause = λ is. absurd (cc is);
    later = later;
    stops = λ is. absurd (cc is);
    goes_on = runs;
    refused = λ is. absurd (cc is);
  }

  -- the disk failed
  pub failed : (old new : GateLog D disks) → old.stopped ≡ false → new.stopped ≡ true → disks.faults old.disk ≤ disks.faults new.disk
      → Rose (disks.faults old.disk) (disks.faults new.disk) → Answers {T = T} disks old new (Err Disk)
  failed old new running stops later rose = record {
    stopped = (λ is. absurd (cc is), λ on. absurd (let e = sym running ∙ on in cc e));
    cause = λ is. rose;
    later = later;
    stops = λ is. stops;
    goes_on = tt;
    refused = λ is other. absurd (other refl);
  }
