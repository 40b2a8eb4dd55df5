use Rattle.std.proofs.Common.{◌≡◌, take, fold}
use Rattle.voting_config.specs.Ids.{with_room}
use Rattle.master_tasks.proofs.members.join.Given as goal

abbrev pub invariant-loop-id : goal.invariant-loop-id
invariant-loop-id l = l.members ≡ fold with_room l.initial.members (take l.id-index l.ids)
