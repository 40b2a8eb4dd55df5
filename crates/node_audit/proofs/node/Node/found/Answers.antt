use Rattle.std.proofs.Common.{◌∙◌, ap}
use Rattle.std.proofs.lemmas.Result.{IfOk-weaker}
use Rattle.world_model.specs.Settled.{is_kept}
use Rattle.node_audit.specs.declared.running.Running.{Running}
use Rattle.node_audit.specs.Standing.{seen, kept_by}
use Rattle.node_audit.proofs.Nodes.{found_running}
use Rattle.node_audit.proofs.node.Node.found.Goals as goal

pub returns-in-Running : goal.returns-in-Running
returns-in-Running c = λ g s.
    let own = rw c.in-Running.is at s in
    IfOk-weaker c.kept.result _ _ (λ k e. e ∙ ap (λ (r : Running). kept_by (seen r)) (c.deref.ensures ∙ c.running.view_is) ∙ found_running c.in-Running.running g (is_kept g c.args.shown.now) own) c.kept.ensures
