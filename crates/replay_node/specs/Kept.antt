-- For the contracts inside: a publish request that is kept as the bytes of its state.
use Rattle.std.specs.Prelude.{ℕ, List}
use Rattle.voting_config.specs.Ids.{Id}
use Rattle.cluster_state.specs.States.{state, whole}
use Rattle.cluster_state.specs.Viewed.{state_in}
use Rattle.cluster_state.specs.declared.messages.PublishRequest.{PublishRequest}

-- the request of this node whose state these bytes spell
abbrev pub request_in : Id → List ℕ → PublishRequest
request_in source bytes = record { source = source; state = state_in (whole (state.at bytes)) }
