use Rattle.std.proofs.Common.{◌∙◌}
use Rattle.coordinator.proofs.Going.{asks_as}
use Rattle.coordinator.proofs.coordinator.Coordinator.ask_successor.Goals as goal

pub returns : goal.returns
returns g c =
    asks_as g.K.Keeper c.args.self.now _ _ c.in-Some-first_among.id c.in-Some.publication c.first_among.result c.members.result.now c.sources-responders.result c.in-Some.is c.first_among.ensures (c.members.ensures ∙ c.committed.ensures) (c.sources-responders.ensures ∙ c.responders.ensures) c.in-Some-first_among.is c.ask_members.ensures
