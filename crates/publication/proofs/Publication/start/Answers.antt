use Rattle.std.proofs.Common.{refl}
use Rattle.publication.proofs.Laggards.{filter-all}
use Rattle.publication.proofs.Publication.start.Goals as goal

pub returns : goal.returns
returns c = rw (c.of-laggards.ensures, c.to_set-targets.ensures, c.new.ensures, filter-all c.args.targets.now) refl
