use Rattle.std.proofs.Common.{◌≡◌, take}
use Rattle.voting_config.specs.Rosters.{marked}
use Rattle.voting_config.proofs.roster.Roster.marked.Given as goal

abbrev pub invariant-loop-place : goal.invariant-loop-place
invariant-loop-place l = l.set ≡ marked (take l.place l.ids) l.word
