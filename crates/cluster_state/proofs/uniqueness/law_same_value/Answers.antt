use Rattle.cluster_state.proofs.Sameness.{same_value-says, same_value-iff}
use Rattle.cluster_state.proofs.uniqueness.law_same_value.Goals as goal

pub returns : goal.returns
returns c = λ v w. (same_value-says v w, same_value-iff v w)
