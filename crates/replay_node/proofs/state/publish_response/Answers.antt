use Rattle.std.proofs.Common.{refl}
use Rattle.world_model.specs.declared.acts.Act.TheVariants as act
use Rattle.replay_node.proofs.StateSteps.{told_does}
use Rattle.replay_node.proofs.state.publish_response.Goals as goal

pub returns-in-Err-clause-does : goal.returns-in-Err-clause-does
returns-in-Err-clause-does c =
    told_does c.args.state.now c.publish_response.new.self (act.Response c.args.response.now) c.not_taken.result _ refl c.not_taken.ensures
    (record { acts = c.in-Err.ensures.act; wrote = c.in-Err.ensures.wrote; any_moment = c.in-Err.ensures.any_moment tt }) c.ended.result c.ended.ensures
