use Rattle.std.proofs.Common.{ap, ◌∙◌}
use Rattle.voting_config.specs.Ids.{with_id}
use Rattle.voting_config.specs.Rosters.{marked}
use Rattle.voting_config.proofs.Tallies.{added, added_view}
use Rattle.voting_config.proofs.tally.Tally.add.Goals as goal

pub invariant_of-self : goal.invariant_of-self
invariant_of-self c =
    rw c.with_bit-self-inside.ensures (added _ _ c.self.invariant c.args.id c.admit.new.self c.in-Ok.place c.in-Ok.ensures.ok c.in-Ok.ensures.place c.in-Ok.ensures.is_roster)

pub returns-in-Ok : goal.returns-in-Ok
returns-in-Ok c =
    ap (marked c.admit.new.self) c.with_bit-self-inside.ensures
    ∙ added_view _ _ c.self.invariant c.args.id c.admit.new.self c.in-Ok.place c.in-Ok.ensures.ok c.in-Ok.ensures.place c.in-Ok.ensures.is_roster
    ∙ ap (with_id c.args.id) c.self.view_is
