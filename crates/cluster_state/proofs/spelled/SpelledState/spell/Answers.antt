use Rattle.std.proofs.Common.{ℕ, List, ◌∷◌, ap, ◌∙◌}
use Rattle.sha2.specs.Sha256.{sha256}
use Rattle.cluster_state.specs.Digests.{accepted_tag}
use Rattle.cluster_state.specs.States.{state}
use Rattle.cluster_state.proofs.StateLaws.{state_law}
use Rattle.cluster_state.proofs.Whole.{whole_again}
use Rattle.cluster_state.proofs.spelled.SpelledState.spell.Goals as goal

pub invariant_of-result : goal.invariant_of-result
invariant_of-result c = (
  whole_again state state_law c.in_ok-bytes.bytes.items c.args.state c.in_ok-bytes.ensures,
  c.digest_of-digest.ensures ∙ ap (λ (b : List ℕ). sha256 (accepted_tag ∷ b)) (c.deref.ensures.value ∙ c.in_ok-bytes.ensures.1),
  c.in_ok-json.ensures,
)
