use Rattle.std.proofs.Common.{◌≡◌, take}
use Rattle.voting_config.specs.Ids.{union}
use Rattle.reconfigurator.proofs.take_first.Given as goal

abbrev pub invariant-loop-id : goal.invariant-loop-id
invariant-loop-id l = l.taken ≡ union l.fn.taken (take l.id-index l.ids)
