use Rattle.std.proofs.Common.{◌≡◌, take}
use Rattle.voting_config.specs.Ids.{union}
use Rattle.voting_config.proofs.node_set.NodeSet.union.Given as goal

abbrev pub invariant-loop-id : goal.invariant-loop-id
invariant-loop-id l = l.both ≡ union l.fn.self (take l.id-index l.ids)
