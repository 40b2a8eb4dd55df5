use Rattle.std.proofs.Common.{◌≡◌, take}
use Rattle.voting_config.specs.Ids.{set_of}
use Rattle.voting_config.proofs.node_set.NodeSet.of.Given as goal

abbrev pub invariant-loop-id : goal.invariant-loop-id
invariant-loop-id l = l.set ≡ set_of (take l.id-index l.ids)
