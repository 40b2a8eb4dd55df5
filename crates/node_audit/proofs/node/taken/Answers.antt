use Rattle.std.proofs.Common.{sym, ◌∙◌, subst}
use Rattle.node_audit.specs.declared.running.Running.{Running}
use Rattle.node_audit.specs.Standing.{StandsRunning}
use Rattle.node_audit.proofs.Nodes.{takes}
use Rattle.node_audit.proofs.node.taken.Goals as goal

pub returns : goal.returns
returns c = λ g s sends.
    let own = subst (λ (r : Running). StandsRunning r g) (sym (c.deref_mut.ensures.value ∙ c.running.view_is)) s in
    takes c.deref_mut.result.now c.take.new.self g c.args.act.now sends c.args.wins c.requires own (c.in_ok-take.ensures sends)
