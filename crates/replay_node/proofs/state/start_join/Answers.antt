use Rattle.std.proofs.Common.{refl, ap}
use Rattle.world_model.specs.declared.acts.Act.TheVariants as act
use Rattle.replay_node.specs.Did.{outcome_of}
use Rattle.replay_node.proofs.StateSteps.{taken_does, told_does}
use Rattle.replay_node.proofs.state.start_join.Goals as goal

pub returns-in-Ok-clause-does : goal.returns-in-Ok-clause-does
returns-in-Ok-clause-does c =
    taken_does c.args.state.now c.start_join.new.self (act.StartJoin c.args.candidate c.args.term) _ c.sends.result refl
    (record { acts = c.in-Ok.ensures.act; wrote = c.in-Ok.ensures.wrote; any_moment = c.in-Ok.ensures.any_moment tt }) (ap outcome_of c.sends.ensures)

pub returns-in-Err-clause-does : goal.returns-in-Err-clause-does
returns-in-Err-clause-does c =
    told_does c.args.state.now c.start_join.new.self (act.StartJoin c.args.candidate c.args.term) c.not_taken.result _ refl c.not_taken.ensures
    (record { acts = c.in-Err.ensures.act; wrote = c.in-Err.ensures.wrote; any_moment = c.in-Err.ensures.any_moment tt }) c.ended.result c.ended.ensures
