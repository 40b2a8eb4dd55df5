use Rattle.std.proofs.Common.{ap, sym, ◌∙◌}
use Rattle.voting_config.specs.Ids.{without_id}
use Rattle.voting_config.specs.Rosters.{marked}
use Rattle.voting_config.proofs.Tallies.{removed, removed_view, unseen_view}
use Rattle.voting_config.proofs.tally.Tally.remove.Goals as goal

pub invariant_of-self : goal.invariant_of-self
invariant_of-self c =
    rw c.without_bit-self-inside.ensures (removed _ _ c.self.invariant c.args.id c.in-Some.place (sym c.place.ensures.value ∙ c.in-Some.is))

pub returns-in-None : goal.returns-in-None
returns-in-None c =
    sym c.self.view_is ∙ unseen_view _ _ c.self.invariant c.args.id (sym c.place.ensures.value ∙ c.in-None.is) ∙ ap (without_id c.args.id) c.self.view_is

pub returns-in-Some : goal.returns-in-Some
returns-in-Some c =
    ap (marked c.self.inside.roster) c.without_bit-self-inside.ensures
    ∙ removed_view _ _ c.self.invariant c.args.id c.in-Some.place (sym c.place.ensures.value ∙ c.in-Some.is)
    ∙ ap (without_id c.args.id) c.self.view_is
