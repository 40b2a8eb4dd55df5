use Rattle.std.proofs.Common.{ap}
use Rattle.zen_disk.specs.UndoLog.{past_in}
use Rattle.zen_disk.proofs.UndoLogLemmas.{settled_within}
use Rattle.zen_disk.proofs.memory.MemDisksDisks.sync.Goals as goal

pub returns-in-Ok-clause-crash : goal.returns-in-Ok-clause-crash
returns-in-Ok-clause-crash c x are =
    let file = c.args.self.now.zero in
    let new = c.settle.new.self in
    let same = ap (λ v. v.items) c.settle.ensures.bytes in
    let within = settled_within (past_in file.log) (past_in new.log) file.bytes.items new.bytes.items x.zero same c.in-Ok.ensures.noted in
    (within are.0, are.1)

pub returns-in-Ok-settle-clause-crash : goal.returns-in-Ok-settle-clause-crash
returns-in-Ok-settle-clause-crash c x are =
    let file = c.args.self.now.one in
    let new = c.settle-in-One.new.self in
    let same = ap (λ v. v.items) c.settle-in-One.ensures.bytes in
    let within = settled_within (past_in file.log) (past_in new.log) file.bytes.items new.bytes.items x.one same c.in-Ok-settle.ensures.noted in
    (are.0, within are.1)
