use Rattle.world_model.proofs.Forgetting.{forgotten}
use Rattle.world_model.proofs.laws.law_forget.Goals as goal

pub returns : goal.returns
returns c = forgotten
