use Rattle.std.proofs.Common.{refl, ◌≡◌, List, ap, subst}
use Rattle.voting_config.specs.Ids.{Id}
use Rattle.cluster_state.specs.declared.state.ClusterState.{ClusterState}
use Rattle.coord_state.specs.declared.coord.CoordState.{CoordState}
use Rattle.world_model.specs.declared.acts.Act.TheVariants as act
use Rattle.world_model.specs.declared.acts.Outcome.{Outcome}
use Rattle.replay_node.specs.Did.{outcome_of}
use Rattle.replay_node.specs.Stands.{Journal}
use Rattle.replay_node.proofs.StateSteps.{Step, taken_does, told_does}
use Rattle.replay_node.proofs.state.set_initial.Goals as goal

-- the state that is made ready is the one of these nodes
same_step : (old new : CoordState Journal) (config initial : List Id) (o : Outcome) → config ≡ initial → Step old new (act.Bootstrap config) o → Step old new (act.Bootstrap initial) o
same_step old new config initial o same step = subst (λ (c : List Id). Step old new (act.Bootstrap c) o) same step

pub returns-in-Ok-clause-does : goal.returns-in-Ok-clause-does
returns-in-Ok-clause-does c =
    taken_does c.args.state.now c.set_initial.new.self (act.Bootstrap c.args.initial.now) _ c.sends.result refl
    (same_step _ _ _ _ _ (ap (λ (s : ClusterState). s.config) c.in_ok-initial.ensures) (record { acts = c.in-Ok.ensures.act; wrote = c.in-Ok.ensures.wrote; any_moment = c.in-Ok.ensures.any_moment tt }))
    (ap outcome_of c.sends.ensures)

pub returns-in-Err-clause-does : goal.returns-in-Err-clause-does
returns-in-Err-clause-does c =
    told_does c.args.state.now c.set_initial.new.self (act.Bootstrap c.args.initial.now) c.not_taken.result _ refl c.not_taken.ensures
    (same_step _ _ _ _ _ (ap (λ (s : ClusterState). s.config) c.in_ok-initial.ensures) (record { acts = c.in-Err.ensures.act; wrote = c.in-Err.ensures.wrote; any_moment = c.in-Err.ensures.any_moment tt }))
    c.ended.result c.ended.ensures
