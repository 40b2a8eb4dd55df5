use Rattle.std.proofs.Common.{◌≡◌, Bool, List, [], length, drop, ap, ◌∙◌, arith}
use Rattle.std.specs.Prelude.{filter}
use Rattle.std.proofs.lemmas.List.{length-drop, nil_from_length}
use Rattle.voting_config.specs.Ids.{Id}
use Rattle.cluster_state.specs.declared.state.ClusterState.{ClusterState}
use Rattle.policy_model.specs.Elections.{comes_first}
use Rattle.coordinator.specs.Views.{view_in}
use Rattle.coordinator.proofs.coordinator.Coordinator.rank.Goals as goal

pub returns-clause-count : goal.returns-clause-count
returns-clause-count g c =
    let first : Id → Bool = λ id. comes_first c.args.self.now.settings (view_in g.K.Keeper c.args.self.now) id in
    let voters : List Id = c.as_slice-voters.result.now in
    let gone : drop c.loop-id.id-index voters ≡ [] = nil_from_length (drop c.loop-id.id-index voters) (omega (arith, length-drop c.loop-id.id-index voters)) in
    let none : length (filter first (drop c.loop-id.id-index voters)) ≡ 0 = ap (λ (ids : List Id). length (filter first ids)) gone in
    let whole : c.loop-id.rank ≡ length (filter first voters) = omega (arith, c.loop-id.invariant.0, none) in
    whole ∙ ap (λ (ids : List Id). length (filter first ids)) (c.as_slice-voters.ensures.value ∙ ap (λ (a : ClusterState). a.config) c.accepted.ensures.accepted)
