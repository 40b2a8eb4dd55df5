use Rattle.std.proofs.Common.{length, ◌∙◌}
use Rattle.voting_config.specs.Ids.{is_quorum_of}
use Rattle.voting_config.specs.Rosters.{is_quorum_mask}
use Rattle.voting_config.proofs.Rosters.{distinct_of}
use Rattle.voting_config.proofs.Counting.{is_quorum}
use Rattle.voting_config.proofs.join_votes.JoinVotes.is_quorum_of.Goals as goal

pub returns : goal.returns
returns c =
    let members = c.as_slice-members.result.now in
    c.quorum_mask.ensures
    ∙ (λ i. is_quorum_mask c.self.inside.word (c.mask_of_ids.ensures.value i) (length members))
    ∙ is_quorum _ _ _ _ _ _ c.self.invariant members (distinct_of members (rw (← c.as_slice-members.ensures.value) at c.as_slice-members.ensures.is_set.ascending))
    ∙ (λ i. is_quorum_of (c.as_slice-members.ensures.value i) (c.self.view_is i))
