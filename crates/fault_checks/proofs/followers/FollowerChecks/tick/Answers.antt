use Rattle.std.proofs.Common.{◌≡◌, rules, true}
use Rattle.voting_config.specs.Ids.{ascends}
use Rattle.fault_checks.specs.Followers.{Ticked, ids_of}
use Rattle.fault_checks.proofs.Ascending.{ascends-stayed, ask-apart-checks, ask-apart-lag, checks-apart-lag}
use Rattle.fault_checks.proofs.Standing.{stands-Then}
use Rattle.fault_checks.proofs.followers.FollowerChecks.tick.Goals as goal

pub invariant_of-self : goal.invariant_of-self
invariant_of-self c =
    rw (c.ticked-self-inside.ensures, c.as_slice-2.ensures.value) (ascends-stayed c.self.inside.watched.items c.args.now c.self.invariant)

up : (c : goal.After-self-1) → ascends (ids_of c.as_slice.result.now) ≡ true
up c = rw c.as_slice.ensures.value c.self.invariant

pub returns-clause-ask_no_checks : goal.returns-clause-ask_no_checks
returns-clause-ask_no_checks c =
    rw (c.tick_of-checked.ensures.ask, c.tick_of-checked.ensures.checks) (ask-apart-checks c.as_slice.result.now c.args.now (up c))

pub returns-clause-ask_no_lag : goal.returns-clause-ask_no_lag
returns-clause-ask_no_lag c =
    rw (c.tick_of-checked.ensures.ask, c.tick_of-checked.ensures.lag) (ask-apart-lag c.as_slice.result.now c.args.now (up c))

pub returns-clause-checks_no_lag : goal.returns-clause-checks_no_lag
returns-clause-checks_no_lag c =
    rw (c.tick_of-checked.ensures.checks, c.tick_of-checked.ensures.lag) (checks-apart-lag c.as_slice.result.now c.args.now (up c))

pub returns-clause-calls : goal.returns-clause-calls
returns-clause-calls c = λ calls stands. stands-Then c.args.self.now _ (Ticked c.args.now) (search rules) calls stands
