use Rattle.world_model.proofs.Forgetting.{was_bare}
use Rattle.world_model.proofs.laws.law_bare.Goals as goal

pub returns : goal.returns
returns c = was_bare
