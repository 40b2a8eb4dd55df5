use Rattle.std.proofs.Common.{ap, sym, ◌∙◌}
use Rattle.voting_config.specs.Ids.{without_id}
use Rattle.voting_config.specs.Rosters.{marked}
use Rattle.voting_config.proofs.Counting.{taken_out, taken_out_view, off_view}
use Rattle.voting_config.proofs.join_votes.JoinVotes.remove.Goals as goal

pub invariant_of-self : goal.invariant_of-self
invariant_of-self c =
    rw c.without_bit-self-inside.ensures (taken_out _ _ _ _ _ _ c.self.invariant c.in-Some.place)

pub returns-in-Some : goal.returns-in-Some
returns-in-Some c =
    ap (marked c.self.inside.roster) c.without_bit-self-inside.ensures
    ∙ taken_out_view _ _ _ _ _ _ c.self.invariant c.args.source c.in-Some.place (sym c.place.ensures.value ∙ c.in-Some.is)
    ∙ ap (without_id c.args.source) c.self.view_is

pub returns-in_default : goal.returns-in_default
returns-in_default c =
    sym c.self.view_is
    ∙ off_view _ _ _ _ _ _ c.self.invariant c.args.source (sym c.place.ensures.value ∙ c.in_default.is)
    ∙ ap (without_id c.args.source) c.self.view_is
