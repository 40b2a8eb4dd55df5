use Rattle.voting_config.proofs.SameIds.{held_same}
use Rattle.voting_config.proofs.node_id.NodeIdPartialEq.eq.Goals as goal

pub returns : goal.returns
returns c = rw (← c.self.view_is, ← c.other.view_is) (held_same c.self.inside.bytes c.other.inside.bytes c.self.invariant c.other.invariant)
