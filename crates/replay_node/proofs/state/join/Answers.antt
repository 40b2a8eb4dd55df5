use Rattle.std.proofs.Common.{refl}
use Rattle.world_model.specs.declared.acts.Act.TheVariants as act
use Rattle.replay_node.proofs.StateSteps.{taken_does, told_does}
use Rattle.replay_node.proofs.state.join.Goals as goal

pub returns-in-Ok-clause-does : goal.returns-in-Ok-clause-does
returns-in-Ok-clause-does c =
    taken_does c.args.state.now c.join.new.self (act.TakeJoin c.args.join.now) _ c.counted.result refl
    (record { acts = c.in-Ok.ensures.act; wrote = c.in-Ok.ensures.wrote; any_moment = c.in-Ok.ensures.any_moment tt }) c.counted.ensures.outcome

pub returns-in-Err-clause-does : goal.returns-in-Err-clause-does
returns-in-Err-clause-does c =
    told_does c.args.state.now c.join.new.self (act.TakeJoin c.args.join.now) c.not_taken.result _ refl c.not_taken.ensures
    (record { acts = c.in-Err.ensures.act; wrote = c.in-Err.ensures.wrote; any_moment = c.in-Err.ensures.any_moment tt }) c.ended.result c.ended.ensures
