-- Where nothing is new, the next state is the accepted one.
use Rattle.std.proofs.Common.{◌≡◌, not, ◌&&◌, true, nat_eq, List, [], ◌∷◌, refl, arith}
use Rattle.std.proofs.lemmas.Bool.{and_from, and_parts}
use Rattle.std.proofs.lemmas.Cmp.{nat_list_eq_equiv}
use Rattle.std.proofs.lemmas.Bool.Decides.{nat_tests}
use Rattle.voting_config.specs.Ids.{Id, same_config}
use Rattle.voting_config.proofs.Sets.{same_config_is}
use Rattle.cluster_state.specs.Same.{same_value}
use Rattle.cluster_state.proofs.Sameness.{same_value-says}
use Rattle.master_tasks.specs.Queue.{Tasks}
use Rattle.master_tasks.specs.NextState.{Leader, StaysAccepted, is_accepted, makes_anew, is_nothing_new, next_config, next_value, processed_by}

pub same_config-itself : (ids : List Id) → same_config ids ids ≡ true
same_config-itself [] = refl
same_config-itself (id ∷ ids) = and_from _ _ (nat_list_eq_equiv.refl id) (same_config-itself ids)

pub stays_accepted : (l : Leader) (t : Tasks) → is_nothing_new l t ≡ true → StaysAccepted l t
unfolding is_nothing_new is_accepted
stays_accepted l t h =
    let whole = and_parts (not (makes_anew l.policy t.additions (processed_by l t).anew)) (is_accepted l.term l.accepted (next_config l t) (next_value l t)) h in
    let prefix = and_parts (nat_eq l.accepted.term l.term && same_value (next_value l t) l.accepted.value) (same_config (next_config l t) l.accepted.config) whole.1 in
    let parts = and_parts (nat_eq l.accepted.term l.term) (same_value (next_value l t) l.accepted.value) prefix.0 in
    let tested : nat_eq l.accepted.term l.term ≡ true = parts.0 in
    record {
      term = grind (arith, nat_tests, tested);
      value = same_value-says (next_value l t) l.accepted.value parts.1;
      config = same_config_is (next_config l t) l.accepted.config prefix.1;
    }
