use Rattle.std.proofs.Common.{◌∙◌, ◌∷◌, ◌++◌, [], ap, reverse, arith}
use Rattle.zen_disk.specs.UndoLog.{past_by}
use Rattle.zen_disk.specs.declared.undo_log.LoggedWrite.{LoggedWrite}
use Rattle.zen_disk.proofs.Logged.{write_more}
use Rattle.zen_disk.proofs.undo_log.UndoLog.note_write.Goals as goal

pub returns-clause-ok : goal.returns-clause-ok
returns-clause-ok c =
    let log = c.args.self.now in
    let write : LoggedWrite = record { at = c.args.at; len = c.args.len; start = c.len-start.result; syncs = log.syncs } in
    let pushed = c.in-Ok.ensures.items ∙ ap (λ (w : LoggedWrite). log.writes.items ++ w ∷ []) c.in_ok-write.ensures in
    (λ i. past_by (reverse (pushed i)) (c.in_ok-append.ensures.ok i))
    ∙ write_more log.writes.items log.replaced.items c.args.replaced.now write (omega (arith, c.len-start.ensures))
