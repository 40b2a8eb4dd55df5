use Rattle.world_model.proofs.Parents.{parent_named}
use Rattle.world_model.proofs.laws.law_parent.Goals as goal

pub returns : goal.returns
returns c = parent_named
