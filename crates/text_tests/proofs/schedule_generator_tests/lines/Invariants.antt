use Rattle.std.proofs.Common.{◌≡◌}
use Rattle.schedule_generator.specs.Standing.{StandsBefore}
use Rattle.text_tests.proofs.schedule_generator_tests.lines.Given as goal

abbrev pub invariant-loop-step : goal.invariant-loop-step
invariant-loop-step l = StandsBefore l.generator l.fn.number l.step
