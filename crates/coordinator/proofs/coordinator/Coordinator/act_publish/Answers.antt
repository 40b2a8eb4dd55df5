use Rattle.std.proofs.Common.{refl, subst}
use Rattle.world_model.specs.declared.acts.Act.TheVariants as act
use Rattle.coord_state.specs.Outcomes.{IsReported}
use Rattle.coordinator.proofs.OneAct.{ends_act, plain_view, taken_act}
use Rattle.coordinator.proofs.coordinator.Coordinator.act_publish.Goals as goal

pub returns-clause-does : goal.returns-clause-does
returns-clause-does g c =
    ends_act g.K.Keeper c.args.self.now _ (act.Publish (record { source = c.args.source; state = c.args.state.state })) _ c.outcome_of-outcome.result c.verdict-verdict.result _ _ c.requires.ready (record { acts = c.publish_request.ensures.act; wrote = c.publish_request.ensures.wrote; any_moment = c.publish_request.ensures.any_moment; told = subst IsReported c.outcome_of-outcome.ensures.value c.outcome_of-outcome.ensures.told }) c.outcome_of-outcome.ensures.value c.outcome_of-outcome.ensures.told refl refl
    (plain_view g.K.Keeper c.args.self.now _ (act.Publish (record { source = c.args.source; state = c.args.state.state })) _ (record { acts = c.publish_request.ensures.act; wrote = c.publish_request.ensures.wrote; any_moment = c.publish_request.ensures.any_moment; told = subst IsReported c.outcome_of-outcome.ensures.value c.outcome_of-outcome.ensures.told }) refl) (rw c.requires.entry at c.act.ensures.shown) c.verdict-verdict.ensures

pub returns-clause-taken : goal.returns-clause-taken
returns-clause-taken g c =
    taken_act g.K.Keeper c.args.self.now _ (act.Publish (record { source = c.args.source; state = c.args.state.state })) _ c.outcome_of-outcome.result c.verdict-verdict.result c.requires.ready (record { acts = c.publish_request.ensures.act; wrote = c.publish_request.ensures.wrote; any_moment = c.publish_request.ensures.any_moment; told = subst IsReported c.outcome_of-outcome.ensures.value c.outcome_of-outcome.ensures.told }) c.outcome_of-outcome.ensures.value c.verdict-verdict.ensures
