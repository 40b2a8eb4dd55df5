use Rattle.std.proofs.Common.{◌∙◌, ap}
use Rattle.world_model.specs.declared.acts.Act.TheVariants.{Bootstrap}
use Rattle.replay_node.specs.Published.{state_published}
use Rattle.replay_node.proofs.Nodes.{open_does}
use Rattle.replay_node.proofs.node.ReplayNode.set_initial.Goals as goal

pub returns : goal.returns
returns c =
    let old = c.args.self.now in
    let closed = c.close.ensures in
    let did = c.in_ok-did.ensures in
    open_does old c.close.new.self c.in-Open.state c.set_initial.new.state (Bootstrap c.args.initial.now) c.in_ok-did.did closed.me closed.slot (did.text (state_published old.published)) (λ g o is was. ap state_published closed.published ∙ was) c.in-Open.is did.does
