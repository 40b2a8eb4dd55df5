use Rattle.std.proofs.Common.{◌≡◌, ap, sym, subst, ◌∙◌}
use Rattle.std.proofs.lemmas.Result.{on_ok_weaker}
use Rattle.replay_node.specs.NodeDisk.{MemFuse}
use Rattle.replay_node.specs.Stands.{Journal}
use Rattle.replay_node.proofs.Nodes.{CrashedAs, crash_open}
use Rattle.replay_node.proofs.node.ReplayNode.crash.Goals as goal

pub returns-in-Open : goal.returns-in-Open
returns-in-Open c =
    let state = c.in-Open.state in
    let done = c.crashed.ensures in
    let same : c.into_disk.result ≡ state.keeper.log.disk = c.into_disk.ensures ∙ ap (λ (j : Journal). j.log.disk) c.into_keeper.ensures in
    let by : CrashedAs c.into_disk.result c.crashed.result c.args.way = record { armed = done.armed; up = done.up; files = done.files; left = done.left } in
    on_ok_weaker c.write_crashed.result (crash_open c.args.self.now state c.args.way c.crashed.result c.args.text.now c.write_crashed.new.text (sym c.in-Open.ensures) (subst (λ (f : MemFuse). CrashedAs f c.crashed.result c.args.way) same by)) c.write_crashed.ensures
