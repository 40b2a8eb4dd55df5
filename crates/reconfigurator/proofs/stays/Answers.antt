use Rattle.std.proofs.Common.{ℕ, ◌≤◌, sym, subst, ◌∙◌, arith}
use Rattle.std.proofs.lemmas.Bool.Decides.{nat_tests}
use Rattle.voting_config.proofs.Sets.{same_config_is}
use Rattle.reconfigurator.specs.Targets.{size_of}
use Rattle.reconfigurator.proofs.Staying.{stay}
use Rattle.reconfigurator.proofs.stays.Goals as goal

pub returns : goal.returns
returns c = λ h.
    let config = c.args.config.now in
    let same = same_config_is c.args.members.now config (sym c.is_same.ensures ∙ c.if-not-is_same.false) in
    let taken : c.len-count.result ≤ c.size.result = grind (arith, nat_tests, h) in
    let fits : c.len-count.result ≤ size_of c.len-count.result c.len-count.result c.len-count.result c.args.shrink =
    subst (λ (n : ℕ). c.len-count.result ≤ n) c.size.ensures.value taken in
    let all = subst (λ (n : ℕ). n ≤ size_of n n n c.args.shrink) c.len-count.ensures.value fits in
    stay c.args.members.now c.args.votes.now c.args.excluded.now config c.args.master c.args.shrink same
    (sym c.have_voted.ensures ∙ c.if-not-have_voted.false) c.as_slice.ensures.is_set.ascending
    (sym c.contains.ensures ∙ c.if-not-contains.false) (sym c.meets.ensures ∙ c.if-meets.false) all
