use Rattle.std.proofs.Common.{◌≡◌, ◌∙◌, ap, sym, List, map, true}
use Rattle.voting_config.specs.Ids.{ascends, without_id}
use Rattle.fault_checks.specs.declared.followers.Follower.{Follower}
use Rattle.fault_checks.specs.Followers.{Followers, ids_of, watched_or_new}
use Rattle.fault_checks.proofs.Others.{watched_again}
use Rattle.fault_checks.proofs.followers.FollowerChecks.watch_others.Goals as goal

pub returns-then-are_others : goal.returns-then-are_others
returns-then-are_others c =
    let fs = c.args.self.now.watched in
    let watched_is : c.as_slice.result.now ≡ fs = c.as_slice.ensures.value ∙ ap (λ (f : Followers). f.watched) c.self.view_is in
    let same : ids_of fs ≡ without_id c.args.me c.args.members.now =
    ap ids_of (sym watched_is) ∙ c.are_others.ensures c.if-are_others.true ∙ ap (without_id c.args.me) c.as_slice-2.ensures.value in
    let up : ascends (ids_of fs) ≡ true = ap (λ (f : Followers). ascends (ids_of f.watched)) (sym c.self.view_is) ∙ c.self.invariant in
    let again : fs ≡ map (λ id. watched_or_new fs id c.args.now) (without_id c.args.me c.args.members.now) =
    sym (watched_again fs c.args.now up) ∙ ap (map (λ id. watched_or_new fs id c.args.now)) same in
    record { now = ap (λ (ws : List Follower). record c.args.self.now { watched = ws }) again }
