use Rattle.std.proofs.Common.{◌≡◌, take}
use Rattle.voting_config.specs.Rosters.{mask_of}
use Rattle.voting_config.proofs.roster.Roster.mask_of_ids.Given as goal

abbrev pub invariant-loop-place : goal.invariant-loop-place
invariant-loop-place l = l.word ≡ mask_of (take l.place l.ids) l.set
