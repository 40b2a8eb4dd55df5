use Rattle.std.proofs.Common.{◌≡◌, ◌∙◌, ap, true, nat_eq, List, arith}
use Rattle.std.proofs.lemmas.Bool.{and_from}
use Rattle.std.proofs.lemmas.Bool.Decides.{nat_tests}
use Rattle.voting_config.specs.Ids.{Id, same_config}
use Rattle.cluster_state.proofs.Sameness.{same_value-itself}
use Rattle.master_tasks.specs.NextState.{is_accepted}
use Rattle.master_tasks.proofs.Sameness.{same_config-itself}
use Rattle.master_tasks.proofs.tasks.accepted_stays.Goals as goal

pub returns : goal.returns
unfolding is_accepted
returns c = λ h.
    let accepted = c.args.accepted.now in
    let term : nat_eq accepted.term c.args.term ≡ true = grind (arith, nat_tests, c.if-accepted-term.false) in
    let config = ap (λ (ids : List Id). same_config ids accepted.config) (c.keeps_config.ensures h) ∙ same_config-itself accepted.config in
    and_from _ _ (and_from _ _ term (same_value-itself accepted.value)) config
