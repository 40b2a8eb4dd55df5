use Rattle.std.proofs.Common.{Bool, ◌≡◌, ◌+◌, ◌&&◌, false, cond, List, ap, sym, ◌∙◌}
use Rattle.voting_config.specs.Ids.{Id, is_quorum_of}
use Rattle.cluster_state.specs.StateIds.{is_fresher}
use Rattle.pre_vote.specs.declared.rounds.Added.TheVariants.{Counted, Fresher, Quorum}
use Rattle.pre_vote.proofs.rounds.PreVotes.add.Goals as goal
use Rattle.pre_vote.proofs.rounds.PreVotes.add.Goals.{then-is_quorum_with_state, else-is_quorum_with_state}

pub returns-after-is_quorum_with_state-clause-answer : goal.returns-after-is_quorum_with_state-clause-answer
returns-after-is_quorum_with_state-clause-answer c =
    let quorum : List Id → Bool = λ (voters : List Id). is_quorum_of c.args.committed.now voters && is_quorum_of c.args.accepted.now voters in
    let old : is_fresher c.args.last c.self.inside.last ≡ false = sym c.is_fresher.ensures ∙ c.if-is_fresher.false in
    let elected : quorum c.is_quorum_with_state.new.self ≡ c.is_quorum_with_state.result = ap quorum c.is_quorum_with_state.ensures.same ∙ sym c.is_quorum_with_state.ensures.value in
    let answer = Quorum (c.self.inside.greatest + 1) in
    elim c.if-is_quorum_with_state.branch [
      | then-is_quorum_with_state w ↦
          w.result-is ∙ sym (ap (λ b. cond b Fresher (cond (quorum c.is_quorum_with_state.new.self) answer Counted)) old ∙ ap (λ b. cond b answer Counted) (elected ∙ w.if-is_quorum_with_state.true))
      | else-is_quorum_with_state w ↦
          w.result-is ∙ sym (ap (λ b. cond b Fresher (cond (quorum c.is_quorum_with_state.new.self) answer Counted)) old ∙ ap (λ b. cond b answer Counted) (elected ∙ w.if-is_quorum_with_state.false))
    ]
