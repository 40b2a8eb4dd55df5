use Rattle.std.proofs.Common.{rules}
use Rattle.fault_checks.specs.Followers.{Watched}
use Rattle.fault_checks.proofs.Ascending.{ids_of-watched}
use Rattle.fault_checks.proofs.Standing.{stands-Then}
use Rattle.fault_checks.proofs.followers.FollowerChecks.watch.Goals as goal

pub invariant_of-self : goal.invariant_of-self
invariant_of-self c =
    rw (c.watched_from-self-inside.ensures, ids_of-watched c.as_slice.result.now c.as_slice-2.result.now c.args.now, c.as_slice-2.ensures.value)
    c.as_slice-2.ensures.is_set.ascending

pub returns-clause-calls : goal.returns-clause-calls
returns-clause-calls c = λ calls stands. stands-Then c.args.self.now _ (Watched c.args.members.now c.args.now) (search rules) calls stands
