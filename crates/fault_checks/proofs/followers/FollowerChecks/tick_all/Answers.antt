use Rattle.std.proofs.Common.{◌≡◌, true, refl, subst, sym}
use Rattle.std.specs.List.{list_all}
use Rattle.fault_checks.specs.declared.followers.Follower.{Follower}
use Rattle.fault_checks.specs.Checks.{ticked_at}
use Rattle.fault_checks.specs.Followers.{Followers, Ticked, stays}
use Rattle.fault_checks.proofs.Ascending.{ids_of-map}
use Rattle.fault_checks.proofs.Keeping.{all_stayed}
use Rattle.fault_checks.proofs.Standing.{stands-Then}
use Rattle.voting_config.proofs.Refilled.{refill-map}
use Rattle.fault_checks.proofs.followers.FollowerChecks.tick_all.Goals as goal

pub invariant_of-self : goal.invariant_of-self
invariant_of-self c =
    let whole = refill-map (λ (f : Follower). record f { check = ticked_at f.check c.args.now }) c.self.inside.watched.items c.as_mut_slice.result.now c.tick_each.new.watched c.as_mut_slice.ensures.value c.tick_each.ensures in
    rw (whole, ids_of-map (λ (f : Follower). record f { check = ticked_at f.check c.args.now }) c.self.inside.watched.items (λ f. refl)) c.self.invariant

pub returns-clause-now : goal.returns-clause-now
returns-clause-now c =
    let whole = refill-map (λ (f : Follower). record f { check = ticked_at f.check c.args.now }) c.self.inside.watched.items c.as_mut_slice.result.now c.tick_each.new.watched c.as_mut_slice.ensures.value c.tick_each.ensures in
    let stay : list_all (λ (f : Follower). stays f c.args.now) c.self.inside.watched.items ≡ true = subst (λ (fs : Followers). list_all (λ (f : Follower). stays f c.args.now) fs.watched ≡ true) (sym c.self.view_is) c.requires in
    rw (← c.self.view_is) (rw (whole, all_stayed c.self.inside.watched.items c.args.now stay) refl)

pub returns-clause-calls : goal.returns-clause-calls
returns-clause-calls c = λ calls stands. stands-Then c.args.self.now _ (Ticked c.args.now) (returns-clause-now c) calls stands
