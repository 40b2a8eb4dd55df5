use Rattle.world_model.proofs.Literally.{literal_is}
use Rattle.world_model.proofs.laws.law_literal.Goals as goal

pub returns : goal.returns
returns c = literal_is
