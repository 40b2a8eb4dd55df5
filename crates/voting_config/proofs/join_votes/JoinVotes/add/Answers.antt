use Rattle.std.proofs.Common.{ap, sym, ◌∙◌}
use Rattle.voting_config.specs.Ids.{with_id}
use Rattle.voting_config.specs.Rosters.{marked}
use Rattle.voting_config.proofs.Counting.{known, known_view, added, added_view}
use Rattle.voting_config.proofs.join_votes.JoinVotes.add.Goals as goal

pub invariant_of-self : goal.invariant_of-self
invariant_of-self c =
    rw c.with_bit-self-inside.ensures (known _ _ _ _ _ _ c.self.invariant c.args.source c.in-Some.place (sym c.place.ensures.value ∙ c.in-Some.is))

pub returns-in-Some : goal.returns-in-Some
returns-in-Some c =
    ap (marked c.self.inside.roster) c.with_bit-self-inside.ensures
    ∙ known_view _ _ _ _ _ _ c.self.invariant c.args.source c.in-Some.place (sym c.place.ensures.value ∙ c.in-Some.is)
    ∙ ap (with_id c.args.source) c.self.view_is

pub invariant_of-self-in-Ok : goal.invariant_of-self-in-Ok
invariant_of-self-in-Ok c =
    rw (c.mend.ensures, c.mend-in-Ok.ensures, c.with_bit-self-inside-in-Ok.ensures)
    (added _ _ _ _ _ _ c.self.invariant c.args.source c.admit.new.self c.in-Ok.place (sym c.place.ensures.value ∙ c.in_default.is) c.in-Ok.ensures.ok c.in-Ok.ensures.place c.admit.ensures.is_roster)

pub returns-in-Ok : goal.returns-in-Ok
returns-in-Ok c =
    ap (marked c.admit.new.self) c.with_bit-self-inside-in-Ok.ensures
    ∙ added_view _ _ _ _ _ _ c.self.invariant c.args.source c.admit.new.self c.in-Ok.place (sym c.place.ensures.value ∙ c.in_default.is) c.in-Ok.ensures.ok c.in-Ok.ensures.place c.admit.ensures.is_roster
    ∙ ap (with_id c.args.source) c.self.view_is
