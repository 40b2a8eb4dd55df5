use Rattle.std.proofs.Common.{◌≡◌, ap, sym, subst, ◌∙◌}
use Rattle.std.proofs.lemmas.Result.{on_ok_weaker}
use Rattle.replay_node.specs.NodeDisk.{MemFuse}
use Rattle.replay_node.specs.Stands.{Journal}
use Rattle.replay_node.proofs.Nodes.{CrashedAs}
use Rattle.schedule_replay.proofs.Openings.{crash_done}
use Rattle.schedule_replay.proofs.cluster.node.ClusterNode.crash.Goals as goal

pub returns-in-Open : goal.returns-in-Open
returns-in-Open c =
    let node = c.in-Open.node in
    let done = c.crashed.ensures in
    let same : c.into_disk.result ≡ node.core.keeper.log.disk = c.into_disk.ensures ∙ ap (λ (j : Journal). j.log.disk) c.into_keeper.ensures in
    let by : CrashedAs c.into_disk.result c.crashed.result c.args.way = record { armed = done.armed; up = done.up; files = done.files; left = done.left } in
    on_ok_weaker c.write_crashed.result (λ text frames s own stands. crash_done s own c.args.way c.args.self.now node c.crashed.result frames c.args.text.now c.write_crashed.new.text (sym c.in-Open.ensures)
    (subst (λ (f : MemFuse). CrashedAs f c.crashed.result c.args.way) same by) text stands) c.write_crashed.ensures
