use Rattle.std.proofs.Common.{true, sym, subst}
use Rattle.gate_log.specs.Calls.{both_opening_calls}
use Rattle.zen_disk.specs.Runs.{CallsMade}
use Rattle.journal_inspection.proofs.Ends.{opens_all, opens_first}
use Rattle.journal_inspection.proofs.showing.show.Goals as goal

pub returns-in-Ok-clause-calls : goal.returns-in-Ok-clause-calls
returns-in-Ok-clause-calls g c t =
    opens_all g.D.Disks c.args.disk c.into_disk.result c.kept.result.now c.records.result c.report_of-shown.result c.report_of-shown.ensures
    (subst (λ back. CallsMade g.D.Disks.moves (both_opening_calls (g.D.Disks.seen c.args.disk)) c.args.disk back true) (sym c.into_disk.ensures) (c.in-Ok.ensures.ran t))

pub returns-in-Err-NotAJournal-clause-calls : goal.returns-in-Err-NotAJournal-clause-calls
returns-in-Err-NotAJournal-clause-calls g c t =
    opens_first g.D.Disks c.args.disk c.in-Err-NotAJournal.disk c.in-Err-NotAJournal.why c.refusal.result c.refusal.ensures
    (rw c.in-Err-NotAJournal.field-0-is at (c.in-Err-NotAJournal.ensures.ran_err t))
