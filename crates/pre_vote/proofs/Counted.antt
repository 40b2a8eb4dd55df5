-- The voters of a round are those whose newest answer counts.
use Rattle.std.proofs.Common.{◌≡◌, Bool, true, false, not, ◌&&◌, ◌||◌, Some, List, refl, sym, ◌∙◌, ap, cond}
use Rattle.std.specs.Cmp.Lexicographic.{same_text}
use Rattle.voting_config.specs.Ids.{Id, has, same, with_id, without_id}
use Rattle.voting_config.proofs.Sorted.{has-with_id}
use Rattle.cluster_state.specs.StateIds.{is_fresher}
use Rattle.pre_vote.specs.Calls.{Calls, Start, Add, node_of, last_of, is_vote, voters_of}
use Rattle.pre_vote.specs.Laws.{Answer, newest_of, counts}
use Rattle.voting_config.proofs.Sets.{same_flipped, has-without_id}

-- who is among the voters after an answer
chosen : (vote mine : Bool) (x q : Id) (voters : List Id) → same x q ≡ mine → has q (cond vote (with_id x voters) (without_id x voters)) ≡ cond mine vote (has q voters)
chosen true mine x q voters e = has-with_id q x voters ∙ ap (λ b. b || has q voters) e ∙ either mine (has q voters)
  where
    either : (m h : Bool) → (m || h) ≡ cond m true h
    either true h = refl
    either false h = refl
chosen false mine x q voters e = has-without_id q x voters ∙ ap (λ b. has q voters && not b) e ∙ either mine (has q voters)
  where
    either : (m h : Bool) → (h && not m) ≡ cond m false h
    either true true = refl
    either true false = refl
    either false true = refl
    either false false = refl

pub counted : (calls : Calls) (q : Id) → has q (voters_of calls) ≡ (same q (node_of calls) || counts (last_of calls) (newest_of calls q))
counted (Start me last term) q = ap (λ b. b || false) (same_flipped me q)
counted (Add before x term last) q =
    let answer : Answer = record { source = x; last = last } in
    elim (same x q) as (λ b. same x q ≡ b → has q (voters_of (Add before x term last)) ≡ (same q (node_of before) || counts (last_of before) (cond b (Some answer) (newest_of before q)))) [
      | true ↦ λ e.
          chosen (is_vote (node_of before) (last_of before) x last) true x q (voters_of before) e
          ∙ ap (λ (i : Id). same i (node_of before) || not (is_fresher last (last_of before))) (same_text x q (sym e))
      | false ↦ λ e. chosen (is_vote (node_of before) (last_of before) x last) false x q (voters_of before) e ∙ counted before q
    ] refl
