use Rattle.node_tool.proofs.OnDisks.{old_or_new}
use Rattle.node_tool.proofs.using.use_on.Goals as goal

pub returns-in-Ok-clause-any_moment : goal.returns-in-Ok-clause-any_moment
returns-in-Ok-clause-any_moment g c told = old_or_new g.D.Disks c.args.tool c.args.journal.now c.apply.new.journal c.in-Ok.ensures.ends.0 (c.apply.ensures.any_moment told)

pub returns-in-Err-Disk-clause-any_moment : goal.returns-in-Err-Disk-clause-any_moment
returns-in-Err-Disk-clause-any_moment g c told =
    old_or_new g.D.Disks c.args.tool c.args.journal.now c.apply.new.journal (rw c.in-Err-Disk.field-0-is at c.in-Err-Disk.ensures.ends).0 (c.apply.ensures.any_moment told)
