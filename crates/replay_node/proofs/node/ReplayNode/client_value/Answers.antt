use Rattle.std.proofs.Common.{◌≡◌, ◌∙◌, ap, subst, IfSome}
use Rattle.std.specs.Prelude.{Option}
use Rattle.cluster_state.specs.Initial.{empty_value}
use Rattle.world_model.specs.declared.acts.Act.TheVariants.{Value}
use Rattle.world_model.specs.declared.acts.Outcome.{Outcome}
use Rattle.trace_text.specs.Published.{published_by}
use Rattle.replay_node.specs.Published.{state_published}
use Rattle.replay_node.specs.StateDoes.{Closes}
use Rattle.replay_node.specs.declared.node.Slot.{Slot}
use Rattle.replay_node.proofs.Nodes.{Publishes, open_does}
use Rattle.replay_node.proofs.node.ReplayNode.client_value.Goals as goal

pub returns : goal.returns
returns c =
    let old = c.args.self.now in
    let new = c.close.new.self in
    let act = Value c.args.version c.args.config.now (record empty_value { settings = c.args.settings }) in
    let d = c.in_ok-did.did in
    let did = c.in_ok-did.ensures in
    let kept = c.in_ok-remember.ensures in
    let closed = c.close.ensures in
    let closing = subst (λ (x : Slot). Closes x d new.slot) kept.slot closed.slot in
    let publishes : Publishes old new act d = λ g o is was.
    let published = subst (λ (x : Option Outcome). IfSome x (λ (p : Outcome). state_published c.remember.new.self.published ≡ published_by p (state_published old.published))) is kept.published in
    ap state_published closed.published ∙ published ∙ ap (published_by o) was in
    open_does old new c.in-Open.state c.client_value.new.state act d (closed.me ∙ kept.me) closing (did.text (state_published old.published)) publishes c.in-Open.is did.does
