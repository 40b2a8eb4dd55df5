use Rattle.std.proofs.Common.{refl}
use Rattle.fault_checks.specs.declared.followers.Follower.{Follower}
use Rattle.fault_checks.specs.Followers.{Finished, behind_finished}
use Rattle.fault_checks.proofs.Ascending.{ids_of-map}
use Rattle.fault_checks.proofs.Standing.{stands-Then}
use Rattle.voting_config.proofs.Refilled.{refill-map}
use Rattle.fault_checks.proofs.followers.FollowerChecks.finished.Goals as goal

pub invariant_of-self : goal.invariant_of-self
invariant_of-self c =
    let whole = refill-map (λ (f : Follower). record f { behind = behind_finished f.behind f.applied c.self.inside.finished c.args.id c.args.now }) c.self.inside.watched.items c.as_mut_slice.result.now c.finish_all.new.watched c.as_mut_slice.ensures.value c.finish_all.ensures in
    rw (whole, ids_of-map (λ (f : Follower). record f { behind = behind_finished f.behind f.applied c.self.inside.finished c.args.id c.args.now }) c.self.inside.watched.items (λ f. refl)) c.self.invariant

pub returns-clause-now : goal.returns-clause-now
returns-clause-now c =
    let whole = refill-map (λ (f : Follower). record f { behind = behind_finished f.behind f.applied c.self.inside.finished c.args.id c.args.now }) c.self.inside.watched.items c.as_mut_slice.result.now c.finish_all.new.watched c.as_mut_slice.ensures.value c.finish_all.ensures in
    rw (← c.self.view_is) (rw whole refl)

pub returns-clause-calls : goal.returns-clause-calls
returns-clause-calls c = λ calls stands. stands-Then c.args.self.now _ (Finished c.args.id c.args.now) (returns-clause-now c) calls stands
