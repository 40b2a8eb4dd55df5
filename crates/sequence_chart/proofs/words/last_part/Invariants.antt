use Rattle.std.proofs.Common.{◌≡◌, ◌∷◌}
use Rattle.voting_config.specs.Lists.{left_in, parts_in}
use Rattle.sequence_chart.specs.Words.{last_in, last_part}
use Rattle.sequence_chart.proofs.words.last_part.Given as goal

abbrev pub invariant-loop-rest : goal.invariant-loop-rest
invariant-loop-rest l = last_in (l.part ∷ parts_in l.at l.rest) ≡ last_part l.at l.bytes

abbrev pub decreases-loop-rest : goal.decreases-loop-rest
decreases-loop-rest l = left_in l.rest
