use Rattle.std.proofs.Common.{◌≡◌, ap, sym, subst, true, false, ◌∙◌}
use Rattle.std.proofs.lemmas.Result.{on_ok_weaker}
use Rattle.replay_node.specs.NodeDisk.{MemFuse}
use Rattle.replay_node.specs.NodeWorld.{NodeWorld, needs_opening}
use Rattle.replay_node.specs.Opens.{ClosedStands}
use Rattle.replay_node.specs.Stands.{Journal, NodeStands, is_up}
use Rattle.replay_node.proofs.Opened.{restarts, down_needs, halted, open_needs, stays_up, up_needs_none}
use Rattle.replay_node.proofs.node.ReplayNode.restart.Goals as goal

pub returns-then-is_up-clause-done : goal.returns-then-is_up-clause-done
returns-then-is_up-clause-done c =
    let up : is_up c.args.self.now.slot ≡ true = sym c.is_up.ensures ∙ c.if-is_up.true in
    on_ok_weaker c.write_up_line.result (stays_up c.args.self.now c.args.text.now c.write_up_line.new.text up) c.write_up_line.ensures

pub returns-then-is_up-clause-finds : goal.returns-then-is_up-clause-finds
returns-then-is_up-clause-finds c =
    let up : is_up c.args.self.now.slot ≡ true = sym c.is_up.ensures ∙ c.if-is_up.true in
    on_ok_weaker c.write_up_line.result (λ e w stands needs. absurd (cc (needs, up_needs_none c.args.self.now up w stands))) c.write_up_line.ensures

pub returns-in-Down-clause-done : goal.returns-in-Down-clause-done
returns-in-Down-clause-done c =
    let old = c.args.self.now in
    let opened = c.open.ensures in
    on_ok_weaker c.open.result (restarts old c.open.new.self c.in-Down.fuse c.args.text.now c.open.new.text opened.me opened.published (down_needs old c.in-Down.fuse (sym c.in-Down.ensures))) opened.opens

pub returns-in-Open-clause-done : goal.returns-in-Open-clause-done
returns-in-Open-clause-done c =
    let old = c.args.self.now in
    let state = c.in-Open.state in
    let opened = c.open-in-Open.ensures in
    let stopped : state.keeper.log.stopped ≡ true = halted old.slot state c.in-Open.ensures (sym c.is_up.ensures ∙ c.if-is_up.false) in
    let same : c.into_disk.result ≡ state.keeper.log.disk = c.into_disk.ensures ∙ ap (λ (j : Journal). j.log.disk) c.into_keeper.ensures in
    let needs = subst (λ (f : MemFuse). (w : NodeWorld) → NodeStands old w → (needs_opening w ≡ true) × ClosedStands f w) (sym same) (open_needs old state (sym c.in-Open.ensures) stopped) in
    on_ok_weaker c.open-in-Open.result (restarts old c.open-in-Open.new.self c.into_disk.result c.args.text.now c.open-in-Open.new.text opened.me opened.published needs) opened.opens

pub open-requires-in-Open : goal.open-requires-in-Open
open-requires-in-Open c =
    let old = c.args.self.now in
    let state = c.in-Open.state in
    let stopped : state.keeper.log.stopped ≡ true = halted old.slot state c.in-Open.ensures (sym c.is_up.ensures ∙ c.if-is_up.false) in
    let same : c.into_disk.result ≡ state.keeper.log.disk = c.into_disk.ensures ∙ ap (λ (j : Journal). j.log.disk) c.into_keeper.ensures in
    let there = open_needs old state (sym c.in-Open.ensures) stopped c.requires.0 c.requires.1 in
    (c.requires.0, subst (λ (f : MemFuse). ClosedStands f c.requires.0) (sym same) there.1)
