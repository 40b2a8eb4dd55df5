use Rattle.schedule_generator.specs.Standing.{StandsBefore}
use Rattle.replay_tests.proofs.zen_app_tests.rescues.drawn.Given as goal

abbrev pub invariant-loop-step : goal.invariant-loop-step
invariant-loop-step l = StandsBefore l.generator 7 l.step
