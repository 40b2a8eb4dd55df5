use Rattle.std.proofs.Common.{ap, sym, ◌∙◌}
use Rattle.voting_config.proofs.Sets.{same_config_is}
use Rattle.cluster_state.specs.declared.state.ClusterState.{ClusterState}
use Rattle.coordinator.proofs.coordinator.Coordinator.plan_finish.Goals as goal

pub plan_committed-requires : goal.plan_committed-requires
plan_committed-requires g c =
    same_config_is c.committed-committed.result.now c.accepted-accepted.result.now.config (sym c.is_same_list.ensures ∙ c.if-is_same_list.true)
    ∙ ap (λ (s : ClusterState). s.config) c.accepted-accepted.ensures.accepted
