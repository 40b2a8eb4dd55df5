-- For the contracts inside: what is made ready for a bootstrap.
use Rattle.std.specs.Prelude.{◌≡◌, not, Option, None, Some, IfSome, List}
use Rattle.voting_config.specs.Ids.{Id}
use Rattle.bootstrap.specs.Decisions.{decision_of}
use Rattle.cluster_state.specs.Initial.{initial_state}
use Rattle.cluster_state.specs.JoinCheck.{is_empty}
use Rattle.peer_finder.specs.Peers.{answered_set}
use Rattle.policy_model.specs.declared.settings.Settings.{Settings}
use Rattle.policy_model.specs.Views.{View}
use Rattle.coordinator.specs.declared.plan.FirstState.{FirstState}

abbrev pub config_in : Option FirstState → Option (List Id)
config_in None = None
config_in (Some first) = Some first.config

-- there is the initial state of the configuration that the node decides on, if it does
pub record IsPlannedFirst (s : Settings) (v : View) (first : Option FirstState) : Type 0 where
  pub decided : decision_of s.initial (answered_set v.finder) s.me (not (is_empty v.node.accepted.config)) ≡ config_in first
  pub is_ready : IfSome first (λ f. f.ready.state ≡ initial_state f.config)
