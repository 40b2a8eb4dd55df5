use Rattle.std.proofs.Common.{◌≡◌, List, ap, sym, ◌∙◌}
use Rattle.voting_config.specs.Ids.{Id, with_id}
use Rattle.voting_config.specs.Rosters.{marked, mask_of}
use Rattle.voting_config.proofs.Counting.{anew_view}
use Rattle.voting_config.proofs.join_votes.JoinVotes.add_anew.Goals as goal

pub returns : goal.returns
returns c =
    let ids = c.put.new.self in
    let is : ids ≡ with_id c.args.source (marked c.self.inside.roster c.self.inside.word) = c.put.ensures ∙ ap (with_id c.args.source) (c.sources-votes.ensures ∙ sym c.self.view_is) in
    ap (marked c.of-self-inside.result) c.mask-self-inside.ensures.value
    ∙ ap (λ (l : List Id). marked l (mask_of l ids)) c.of-self-inside.ensures.value
    ∙ anew_view c.args.source c.self.inside.roster c.self.inside.word ids is
    ∙ c.put.ensures ∙ ap (with_id c.args.source) c.sources-votes.ensures
