use Rattle.std.proofs.Common.{rules, not}
use Rattle.voting_config.specs.Ids.{same}
use Rattle.fault_checks.specs.declared.followers.Follower.{Follower}
use Rattle.fault_checks.specs.Followers.{Disconnected}
use Rattle.fault_checks.proofs.Ascending.{ascends-filter}
use Rattle.fault_checks.proofs.Standing.{stands-Then}
use Rattle.fault_checks.proofs.followers.FollowerChecks.disconnected.Goals as goal

pub invariant_of-self : goal.invariant_of-self
invariant_of-self c =
    rw (c.others_of-self-inside.ensures, c.as_slice.ensures.value) (ascends-filter (λ (f : Follower). not (same f.id c.args.id)) c.self.inside.watched.items c.self.invariant)

pub returns-clause-calls : goal.returns-clause-calls
returns-clause-calls c = λ calls stands. stands-Then c.args.self.now _ (Disconnected c.args.id) (search rules) calls stands
