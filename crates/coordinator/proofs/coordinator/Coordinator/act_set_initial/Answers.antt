use Rattle.std.proofs.Common.{refl, subst}
use Rattle.world_model.specs.declared.acts.Act.TheVariants as act
use Rattle.coord_state.specs.Outcomes.{IsReported, initial_outcome}
use Rattle.coordinator.specs.CoreActs.{Acted}
use Rattle.coordinator.proofs.OneAct.{ends_act, plain_view, taken_act}
use Rattle.coordinator.proofs.coordinator.Coordinator.act_set_initial.Goals as goal

pub returns-clause-does : goal.returns-clause-does
returns-clause-does g c =
    let did : Acted g.K.Keeper c.args.self.now.core c.set_initial.new.self (act.Bootstrap c.args.first.config) (initial_outcome c.set_initial.result) =
    record { acts = rw c.requires.first at c.set_initial.ensures.act; wrote = rw c.requires.first at c.set_initial.ensures.wrote; any_moment = rw c.requires.first at c.set_initial.ensures.any_moment; told = subst IsReported c.outcome_of-outcome.ensures.value c.outcome_of-outcome.ensures.told } in
    ends_act g.K.Keeper c.args.self.now _ (act.Bootstrap c.args.first.config) _ c.outcome_of-outcome.result c.verdict-verdict.result _ _ c.requires.ready did c.outcome_of-outcome.ensures.value c.outcome_of-outcome.ensures.told refl refl
    (plain_view g.K.Keeper c.args.self.now _ (act.Bootstrap c.args.first.config) _ did refl) c.act.ensures.shown c.verdict-verdict.ensures

pub returns-clause-taken : goal.returns-clause-taken
returns-clause-taken g c =
    taken_act g.K.Keeper c.args.self.now _ (act.Bootstrap c.args.first.config) _ c.outcome_of-outcome.result c.verdict-verdict.result c.requires.ready (record { acts = rw c.requires.first at c.set_initial.ensures.act; wrote = rw c.requires.first at c.set_initial.ensures.wrote; any_moment = rw c.requires.first at c.set_initial.ensures.any_moment; told = subst IsReported c.outcome_of-outcome.ensures.value c.outcome_of-outcome.ensures.told }) c.outcome_of-outcome.ensures.value c.verdict-verdict.ensures
