use Rattle.std.proofs.Common.{None, ◌∙◌, ap}
use Rattle.std.proofs.lemmas.Result.{IfOk-weaker}
use Rattle.node_audit.specs.declared.node.Struck.{Struck}
use Rattle.node_audit.specs.Standing.{seen}
use Rattle.node_audit.proofs.Nodes.{strikes}
use Rattle.node_audit.proofs.node.strike.Goals as goal

pub returns : goal.returns
returns c = λ g s. IfOk-weaker c.of.result _ _
    (λ x e kept. strikes g c.args.act.now (seen c.into_inner-running.result) (seen c.take.new.self) x c.requires (ap seen (c.into_inner-running.ensures ∙ c.running.view_is) ∙ s.fields) (c.in_ok-take.ensures None)
    (ap (λ (z : Struck). z.before) e ∙ c.in_ok-before.ensures) (ap (λ (z : Struck). z.after) e ∙ c.in_ok-after.ensures) kept)
    c.of.ensures
