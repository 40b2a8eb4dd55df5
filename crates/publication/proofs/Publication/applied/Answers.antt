use Rattle.std.proofs.Common.{◌∙◌}
use Rattle.publication.proofs.Laggards.{applied-stands}
use Rattle.publication.proofs.Publication.applied.Goals as goal

pub returns-clause-calls : goal.returns-clause-calls
returns-clause-calls c = λ calls stands. applied-stands _ c.args.source c.remove.new.self calls c.remove.ensures (c.self.view_is ∙ stands)
