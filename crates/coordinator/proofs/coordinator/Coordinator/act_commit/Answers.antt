use Rattle.std.proofs.Common.{refl, ap, ◌∙◌, subst}
use Rattle.world_model.specs.NodeState.{NodeState}
use Rattle.world_model.specs.declared.acts.Act.TheVariants as act
use Rattle.coord_state.specs.Outcomes.{IsReported}
use Rattle.coordinator.specs.Views.{view_in}
use Rattle.coordinator.proofs.OneAct.{ends_act, taken_act}
use Rattle.coordinator.proofs.coordinator.Coordinator.act_commit.Goals as goal

pub returns-clause-does : goal.returns-clause-does
returns-clause-does g c =
    ends_act g.K.Keeper c.args.self.now _ (act.Commit c.args.commit.now) _ c.outcome_of-outcome.result c.verdict-verdict.result _ _ c.requires.ready (record { acts = c.commit.ensures.act; wrote = c.commit.ensures.wrote; any_moment = c.commit.ensures.any_moment; told = subst IsReported c.outcome_of-outcome.ensures.value c.outcome_of-outcome.ensures.told }) c.outcome_of-outcome.ensures.value c.outcome_of-outcome.ensures.told refl refl
    (ap (λ (n : NodeState). record (view_in g.K.Keeper c.args.self.now) { node = n; lost_leader = c.finish.new.lost_leader; applied = c.finish.new.applied; publication = c.finish.new.publication; followers = c.finish.new.followers }) c.commit.ensures.act.at.after
    ∙ rw (c.finish.ensures.applied, c.finish.ensures.publication, c.finish.ensures.followers, c.finish.ensures.lost, c.was_taken.ensures, c.outcome_of-outcome.ensures.value, c.id-accepted.ensures, c.accepted.ensures.accepted) refl)
    c.act.ensures.shown c.verdict-verdict.ensures

pub returns-clause-taken : goal.returns-clause-taken
returns-clause-taken g c =
    taken_act g.K.Keeper c.args.self.now _ (act.Commit c.args.commit.now) _ c.outcome_of-outcome.result c.verdict-verdict.result c.requires.ready (record { acts = c.commit.ensures.act; wrote = c.commit.ensures.wrote; any_moment = c.commit.ensures.any_moment; told = subst IsReported c.outcome_of-outcome.ensures.value c.outcome_of-outcome.ensures.told }) c.outcome_of-outcome.ensures.value c.verdict-verdict.ensures
