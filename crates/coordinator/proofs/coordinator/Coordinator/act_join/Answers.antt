use Rattle.std.proofs.Common.{refl, subst}
use Rattle.world_model.specs.declared.acts.Act.TheVariants as act
use Rattle.coord_state.specs.Outcomes.{IsReported}
use Rattle.coordinator.proofs.OneAct.{makes_act, taken_now, won_now, plain_view}
use Rattle.coordinator.proofs.coordinator.Coordinator.act_join.Goals as goal

pub returns-clause-does : goal.returns-clause-does
returns-clause-does g c =
    makes_act g.K.Keeper c.args.self.now _ (act.TakeJoin c.args.join.now) _ c.outcome_of-outcome.result _ _ c.requires.ready refl (record { acts = c.join.ensures.act; wrote = c.join.ensures.wrote; any_moment = c.join.ensures.any_moment; told = subst IsReported c.outcome_of-outcome.ensures.value c.outcome_of-outcome.ensures.told }) c.outcome_of-outcome.ensures.value refl refl
    (plain_view g.K.Keeper c.args.self.now _ (act.TakeJoin c.args.join.now) _ (record { acts = c.join.ensures.act; wrote = c.join.ensures.wrote; any_moment = c.join.ensures.any_moment; told = subst IsReported c.outcome_of-outcome.ensures.value c.outcome_of-outcome.ensures.told }) refl) c.act.ensures.shown

pub returns-clause-taken : goal.returns-clause-taken
returns-clause-taken g c =
    taken_now g.K.Keeper c.args.self.now _ (act.TakeJoin c.args.join.now) _ c.outcome_of-outcome.result _ c.requires.ready refl (record { acts = c.join.ensures.act; wrote = c.join.ensures.wrote; any_moment = c.join.ensures.any_moment; told = subst IsReported c.outcome_of-outcome.ensures.value c.outcome_of-outcome.ensures.told }) c.outcome_of-outcome.ensures.value c.was_taken.ensures

pub returns-clause-wins : goal.returns-clause-wins
returns-clause-wins g c =
    won_now g.K.Keeper c.args.self.now _ (act.TakeJoin c.args.join.now) _ c.outcome_of-outcome.result _ c.requires.ready refl (record { acts = c.join.ensures.act; wrote = c.join.ensures.wrote; any_moment = c.join.ensures.any_moment; told = subst IsReported c.outcome_of-outcome.ensures.value c.outcome_of-outcome.ensures.told }) c.outcome_of-outcome.ensures.value c.has_won.ensures
