use Rattle.std.proofs.Common.{refl, ◌∙◌}
use Rattle.node_loop.proofs.Appending.{cut_none, cut_part}
use Rattle.node_loop.proofs.node.report_opening.Goals as goal

pub returns-in_default-clause-says : goal.returns-in_default-clause-says
returns-in_default-clause-says g c s life stands opened = (refl, cut_none (g.O.Sink.written c.args.out.now) (g.S.EventNode.opening s life))

pub returns-in_default-write_all-clause-says : goal.returns-in_default-write_all-clause-says
returns-in_default-write_all-clause-says g c s life stands opened =
    (refl, cut_part _ _ _ (rw (c.as_bytes.ensures ∙ c.in-Ok.ensures s life stands opened) at c.in_default-write_all.ensures.part))
