use Rattle.std.proofs.Common.{false, refl}
use Rattle.node_audit.proofs.Nodes.{disk_halts}
use Rattle.node_audit.proofs.node.Node.ended.Goals as goal

pub returns-in_ok-strike-in-Disk : goal.returns-in_ok-strike-in-Disk
returns-in_ok-strike-in-Disk c = λ g reply st up w m me is.
    let own = rw c.in-Running.is at st in
    rw c.in-Disk.is (record { halted = disk_halts g c.args.act.now false c.requires; up = refl; struck = (c.in_ok-strike-in-Disk.ensures g own false).0 })

pub returns-in_ok-strike-in-Crashed : goal.returns-in_ok-strike-in-Crashed
returns-in_ok-strike-in-Crashed c = λ g reply st up w m me is.
    let own = rw c.in-Running.is at st in
    rw c.in-Crashed.is (record { down = refl; struck = (c.in_ok-strike-in-Crashed.ensures g own false).1 })
