use Rattle.std.proofs.Common.{◌≡◌}
use Rattle.std.specs.List.{list_any}
use Rattle.voting_config.specs.Lists.{parts_of, parts_in, left_in}
use Rattle.node_trial.specs.Ends.{is_win}
use Rattle.node_trial.proofs.ends.has_won.Given as goal

abbrev pub decreases-loop-rest : goal.decreases-loop-rest
decreases-loop-rest l = left_in l.rest

abbrev pub invariant-loop-rest : goal.invariant-loop-rest
invariant-loop-rest l = list_any is_win (parts_of 10 l.output) ≡ list_any is_win (parts_in 10 l.rest)
