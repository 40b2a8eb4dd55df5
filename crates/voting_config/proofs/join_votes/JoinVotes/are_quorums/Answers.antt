use Rattle.std.proofs.Common.{◌≡◌, ◌≤◌, ◌/◌, Bool, ◌&&◌, true, false, List, length, ap, sym, subst, ◌∙◌}
use Rattle.voting_config.specs.Ids.{Id, ascends, is_quorum_of}
use Rattle.voting_config.specs.Rosters.{are_distinct, ids_at, is_quorum_mask}
use Rattle.voting_config.specs.declared.mask.Mask.{Mask}
use Rattle.voting_config.proofs.Rosters.{ascends-set_of}
use Rattle.voting_config.proofs.Counting.{is_quorum, too_few}
use Rattle.voting_config.proofs.join_votes.JoinVotes.are_quorums.Goals as goal
use Rattle.voting_config.proofs.join_votes.JoinVotes.are_quorums.Goals.{then-is_quorum, else-is_quorum}

pub returns-then-len-committed-clause-value : goal.returns-then-len-committed-clause-value
returns-then-len-committed-clause-value c =
    let config : List Id = c.args.committed.now in
    let votes : List Id = c.args.self.now in
    let votes_ascend : ascends votes ≡ true = subst (λ (l : List Id). ascends l ≡ true) c.self.view_is (ascends-set_of (ids_at c.self.inside.roster c.self.inside.word)) in
    let half : length votes ≤ length config / 2 = rw c.len.ensures at c.if-len-committed.true in
    too_few config votes c.requires.committed.ascending votes_ascend half (is_quorum_of c.args.current.now votes)

pub returns-clause-value : goal.returns-clause-value
returns-clause-value c =
    let votes = c.self.inside.word in
    let counts : Mask → Bool = λ (m : Mask). is_quorum_mask votes m.word (length m.config) in
    let first : c.is_quorum.result ≡ is_quorum_of c.args.committed.now c.args.self.now =
    c.is_quorum.ensures.value ∙ ap counts c.stand_for.ensures
    ∙ is_quorum _ _ _ _ _ _ c.self.invariant c.args.committed.now (subst (λ (m : Mask). are_distinct m.config ≡ true) c.stand_for.ensures c.is_quorum.ensures.distinct)
    ∙ ap (is_quorum_of c.args.committed.now) c.self.view_is in
    elim c.if-is_quorum.branch [
      | then-is_quorum w ↦
          w.result-is
          ∙ w.is_quorum-then-is_quorum.ensures.value ∙ ap counts c.stand_for-2.ensures
          ∙ is_quorum _ _ _ _ _ _ c.self.invariant c.args.current.now (subst (λ (m : Mask). are_distinct m.config ≡ true) c.stand_for-2.ensures w.is_quorum-then-is_quorum.ensures.distinct)
          ∙ ap (is_quorum_of c.args.current.now) c.self.view_is
          ∙ sym (ap (λ b. b && is_quorum_of c.args.current.now c.args.self.now) (sym first ∙ w.if-is_quorum.true))
      | else-is_quorum w ↦
          let no : c.if-is_quorum.result ≡ false = cc (w.result-is, w.if-is_quorum.false) in
          no ∙ sym (ap (λ b. b && is_quorum_of c.args.current.now c.args.self.now) (sym first ∙ w.if-is_quorum.false))
    ]
