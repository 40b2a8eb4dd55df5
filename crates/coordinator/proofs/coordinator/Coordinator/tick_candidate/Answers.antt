use Rattle.std.proofs.Common.{true}
use Rattle.policy_model.specs.Elections.{waits_for_election}
use Rattle.coordinator.proofs.Composing.{ends_rule, fails_before, ready_then}
use Rattle.coordinator.proofs.coordinator.Coordinator.tick_candidate.Goals as goal

pub wait_for_election-requires-clause-ready : goal.wait_for_election-requires-clause-ready
wait_for_election-requires-clause-ready g c =
    ready_then g.K.Keeper c.args.self.now c.find_peers.new.self _ c.requires.ready c.in-Ok.ensures.does.goes

pub returns-in-Ok-clause-does : goal.returns-in-Ok-clause-does
returns-in-Ok-clause-does g c =
    ends_rule g.K.Keeper c.args.self.now c.find_peers.new.self c.wait_for_election.new.self _ _ _ _ (λ s v. waits_for_election s v c.args.word) true c.in-Ok.ensures.does c.wait_for_election.ensures.does

pub returns-in-Err-clause-does : goal.returns-in-Err-clause-does
returns-in-Err-clause-does g c =
    fails_before g.K.Keeper c.args.self.now c.find_peers.new.self _ _ _ _ c.in-Err.ensures.does
