use Rattle.std.proofs.Common.{◌≡◌, true, drop}
use Rattle.voting_config.specs.Ids.{has}
use Rattle.schedule_replay.proofs.places.place_of.Given as goal

abbrev pub invariant-loop-i : goal.invariant-loop-i
invariant-loop-i l = has l.n (drop l.i l.ids) ≡ true
