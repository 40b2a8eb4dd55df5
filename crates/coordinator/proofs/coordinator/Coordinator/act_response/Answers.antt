use Rattle.std.proofs.Common.{refl, ap, ◌∙◌, subst}
use Rattle.world_model.specs.NodeState.{NodeState}
use Rattle.world_model.specs.declared.acts.Act.TheVariants as act
use Rattle.coord_state.specs.Outcomes.{IsReported}
use Rattle.coordinator.specs.Views.{view_in}
use Rattle.coordinator.proofs.OneAct.{makes_act, sent_now}
use Rattle.coordinator.proofs.coordinator.Coordinator.act_response.Goals as goal

pub returns-clause-does : goal.returns-clause-does
returns-clause-does g c =
    makes_act g.K.Keeper c.args.self.now _ (act.Response c.args.response.now) _ c.outcome_of-outcome.result _ _ c.requires.ready refl (record { acts = c.publish_response.ensures.act; wrote = c.publish_response.ensures.wrote; any_moment = c.publish_response.ensures.any_moment; told = subst IsReported c.outcome_of-outcome.ensures.value c.outcome_of-outcome.ensures.told }) c.outcome_of-outcome.ensures.value refl refl
    (ap (λ (n : NodeState). record (view_in g.K.Keeper c.args.self.now) { node = n; publication = c.count_response.new.publication }) c.publish_response.ensures.act.at.after
    ∙ rw (c.count_response.ensures, c.was_taken.ensures, c.has_sent-commits.ensures, c.outcome_of-outcome.ensures.value) refl) c.act.ensures.shown

pub returns-clause-commits : goal.returns-clause-commits
returns-clause-commits g c =
    sent_now g.K.Keeper c.args.self.now _ (act.Response c.args.response.now) _ c.outcome_of-outcome.result _ c.requires.ready refl (record { acts = c.publish_response.ensures.act; wrote = c.publish_response.ensures.wrote; any_moment = c.publish_response.ensures.any_moment; told = subst IsReported c.outcome_of-outcome.ensures.value c.outcome_of-outcome.ensures.told }) c.outcome_of-outcome.ensures.value c.has_sent-commits.ensures
