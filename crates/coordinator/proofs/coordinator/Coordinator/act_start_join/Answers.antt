use Rattle.std.proofs.Common.{refl, ap, ◌∙◌, subst}
use Rattle.world_model.specs.NodeState.{NodeState}
use Rattle.world_model.specs.declared.acts.Act.TheVariants as act
use Rattle.coord_state.specs.Outcomes.{IsReported}
use Rattle.coordinator.specs.Views.{view_in}
use Rattle.coordinator.proofs.OneAct.{ends_act, taken_act}
use Rattle.coordinator.proofs.coordinator.Coordinator.act_start_join.Goals as goal

pub returns-clause-does : goal.returns-clause-does
returns-clause-does g c =
    ends_act g.K.Keeper c.args.self.now _ (act.StartJoin c.args.candidate c.args.term) _ c.outcome_of-outcome.result c.verdict-verdict.result _ _ c.requires.ready (record { acts = c.start_join.ensures.act; wrote = c.start_join.ensures.wrote; any_moment = c.start_join.ensures.any_moment; told = subst IsReported c.outcome_of-outcome.ensures.value c.outcome_of-outcome.ensures.told }) c.outcome_of-outcome.ensures.value c.outcome_of-outcome.ensures.told refl refl
    (ap (λ (n : NodeState). record (view_in g.K.Keeper c.args.self.now) { node = n; deadline = c.wait_anew.new.deadline; round = c.wait_anew.new.round }) c.start_join.ensures.act.at.after
    ∙ rw (c.wait_anew.ensures.deadline, c.wait_anew.ensures.round, c.yields.ensures, c.outcome_of-outcome.ensures.value) refl)
    c.act.ensures.shown c.verdict-verdict.ensures

pub returns-clause-taken : goal.returns-clause-taken
returns-clause-taken g c =
    taken_act g.K.Keeper c.args.self.now _ (act.StartJoin c.args.candidate c.args.term) _ c.outcome_of-outcome.result c.verdict-verdict.result c.requires.ready (record { acts = c.start_join.ensures.act; wrote = c.start_join.ensures.wrote; any_moment = c.start_join.ensures.any_moment; told = subst IsReported c.outcome_of-outcome.ensures.value c.outcome_of-outcome.ensures.told }) c.outcome_of-outcome.ensures.value c.verdict-verdict.ensures
