use Rattle.std.proofs.Common.{◌∙◌, subst, sym}
use Rattle.std.proofs.lemmas.Result.{IfOk-weaker}
use Rattle.cluster_state.specs.States.{IsFit}
use Rattle.replay_node.proofs.Kept.{read_bytes}
use Rattle.replay_node.proofs.packed.read_again.Goals as goal

pub returns-clause-state : goal.returns-clause-state
returns-clause-state c = IfOk-weaker c.decode.result _ _ (λ s is. is ∙ read_bytes _ c.of_checked-view.result c.of_checked-view.ensures) c.decode.ensures

pub returns-clause-fit : goal.returns-clause-fit
returns-clause-fit c = IfOk-weaker c.decode.result _ _ (λ s is. subst IsFit (sym is) c.bytes.ensures.fit) c.decode.ensures
