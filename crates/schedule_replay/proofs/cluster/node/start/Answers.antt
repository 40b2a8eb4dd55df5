use Rattle.std.proofs.Common.{subst}
use Rattle.policy_model.specs.declared.events.Event.TheVariants.{Start}
use Rattle.policy_model.specs.Entries.{NotBegun}
use Rattle.replay_node.specs.NodeWorld.{fresh_node}
use Rattle.schedule_replay.specs.EventEnds.{Ends}
use Rattle.schedule_replay.specs.declared.cluster.stepping.Ended.{Ended}
use Rattle.schedule_replay.proofs.cluster.node.start.Goals as goal

pub step-requires-clause-ready : goal.step-requires-clause-ready
step-requires-clause-ready c = c.requires.1.ready

pub returns-in-Whole : goal.returns-in-Whole
returns-in-Whole c =
    let ends = subst (λ (e : Ended). Ends c.args.node.now c.step.new.node Start e) c.in-Whole.is c.in_ok-ended.ensures in
    λ s stands. (ends s NotBegun fresh_node stands).stands
