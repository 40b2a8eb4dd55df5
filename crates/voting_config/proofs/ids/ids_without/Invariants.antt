use Rattle.std.proofs.Common.{◌≡◌, take}
use Rattle.voting_config.specs.Ids.{outside}
use Rattle.voting_config.proofs.ids.ids_without.Given as goal

abbrev pub invariant-loop-id : goal.invariant-loop-id
invariant-loop-id l = l.kept ≡ outside (take l.id-index l.ids) l.others
