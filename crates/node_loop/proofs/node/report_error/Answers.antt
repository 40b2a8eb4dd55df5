use Rattle.node_loop.proofs.Leaving.{carried}
use Rattle.node_loop.proofs.node.report_error.Goals as goal

pub returns-in-Memory-clause-says : goal.returns-in-Memory-clause-says
returns-in-Memory-clause-says g c old s life event told up fails =
    let same = rw c.in-Memory.is at fails in
    carried g.S.EventNode s g.S.EventNode.output (g.S.EventNode.text s) old c.args.inner.now c.args.inner.now life life _ _ _ _ _ _ same
    (c.report_no_memory.ensures.says s life event told up same.stands)
