use Rattle.std.proofs.Common.{ap, ◌∙◌, length}
use Rattle.voting_config.proofs.Tallies.{counted}
use Rattle.voting_config.proofs.tally.Tally.len.Goals as goal

pub returns : goal.returns
returns c = counted _ _ c.self.invariant ∙ ap length c.self.view_is
