use Rattle.std.proofs.Common.{◌∙◌, ap, sym}
use Rattle.replay_node.specs.Published.{state_published}
use Rattle.replay_node.specs.Sent.{message_of, taking}
use Rattle.replay_node.proofs.Nodes.{open_does, taking_none}
use Rattle.replay_node.proofs.node.ReplayNode.deliver.Goals as goal

pub returns : goal.returns
returns c =
    let old = c.args.self.now in
    let closed = c.close.ensures in
    let did = c.in_ok-did.ensures in
    let message = message_of c.args.message.now in
    open_does old c.close.new.self c.in-Open.state c.deliver.new.state (taking message) c.in_ok-did.did closed.me closed.slot did.text (λ g o is was. ap state_published closed.published ∙ was ∙ sym (taking_none message g o)) c.in-Open.is did.does
