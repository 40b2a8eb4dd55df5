use Rattle.std.proofs.Common.{◌≡◌, ℕ, refl, ap, ◌∙◌}
use Rattle.cluster_state.specs.declared.messages.PublishRequest.{PublishRequest}
use Rattle.cluster_state.specs.declared.state.ClusterState.{ClusterState}
use Rattle.cluster_state.specs.declared.state.StateId.{StateId}
use Rattle.cluster_state.specs.States.{id_of}
use Rattle.world_model.specs.NodeState.{NodeState}
use Rattle.world_model.specs.declared.acts.Act.TheVariants as act
use Rattle.coordinator.specs.Views.{view_in}
use Rattle.coordinator.proofs.OneAct.{makes_act, value_did}
use Rattle.coordinator.proofs.coordinator.Coordinator.act_value.Goals as goal

pub returns-clause-does : goal.returns-clause-does
returns-clause-does g c =
    let version_is : c.id-id.result.version ≡ c.args.request.state.version = ap (λ (i : StateId). i.version) c.id-id.ensures ∙ ap (λ (s : ClusterState). s.version) c.deref.ensures in
    let id_is : c.id-id.result ≡ record { term = (g.K.Keeper.record_of c.args.self.now.core.keeper).term; version = c.args.request.state.version } =
    c.id-id.ensures ∙ ap (λ (s : ClusterState). id_of s) c.deref.ensures ∙ ap (λ (n : ℕ). let i : StateId = record { term = n; version = c.args.request.state.version } in i) (ap (λ (r : PublishRequest). r.state.term) c.requires.request) in
    let did = value_did g.K.Keeper c.args.self.now.core c.take_value-answer.new.self c.args.request.state.version c.id-id.result.version c.args.config c.deref-2.result.now c.args.value c.args.request c.take_value-answer.result c.outcome_of_value-outcome.result version_is c.deref-2.ensures c.requires.request c.outcome_of_value-outcome.ensures.value c.outcome_of_value-outcome.ensures.told (c.take_value-answer.ensures.act c.args.value) (c.take_value-answer.ensures.wrote c.args.value) (c.take_value-answer.ensures.any_moment c.args.value) in
    makes_act g.K.Keeper c.args.self.now _ (act.Value c.args.request.state.version c.args.config c.args.value) c.outcome_of_value-outcome.result c.outcome_of_value-outcome.result _ _ c.requires.ready refl did refl refl refl
    (ap (λ (n : NodeState). record (view_in g.K.Keeper c.args.self.now) { node = n; publication = c.begin_publication.new.publication; followers = c.begin_publication.new.followers }) did.acts.at.after
    ∙ rw (c.begin_publication.ensures.publication, c.begin_publication.ensures.followers, c.was_taken-taken.ensures, c.deref-3.ensures, id_is) refl) (rw version_is at c.act.ensures.shown)
