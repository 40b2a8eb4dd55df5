-- The text of an answered state.
use Rattle.std.proofs.Common.{◌≡◌, refl, ap, ℕ, Bool, false, ◌||◌, codes}
use Rattle.serde_json.specs.Written.{compact_text, has_float}
use Rattle.cluster_state.specs.declared.state.ClusterState.{ClusterState}
use Rattle.cluster_state.specs.Json.{state_json}
use Rattle.cluster_state.proofs.JsonLaws.{no_float}
use Rattle.client_lines.specs.Replies.{beside_id, state_reply, text_of}

pub state_reply-no_float : (id : ℕ) (state : ClusterState) → has_float (state_reply id state) ≡ false
state_reply-no_float id state = ap (λ (b : Bool). b || false) (no_float state)

pub state_reply-text : (id : ℕ) (state : ClusterState) → compact_text (state_reply id state) ≡ text_of (beside_id id (codes "state") (state_json state))
unfolding beside_id text_of
state_reply-text id state = refl
