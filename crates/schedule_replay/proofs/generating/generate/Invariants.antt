use Rattle.trace_summary.specs.Tallies.{Tallies}
use Rattle.schedule_generator.specs.Generated.{lines_by}
use Rattle.schedule_generator.specs.Standing.{StandsBefore}
use Rattle.schedule_replay.specs.Generated.{count_sent}
use Rattle.schedule_replay.specs.Tallied.{Tallied}
use Rattle.schedule_replay.proofs.generating.generate.Given as goal

abbrev pub invariant-steps : goal.invariant-steps
invariant-steps l =
    StandsBefore l.generator l.number l.counter
    × Tallied Tallies l.header.nodes l.header.initial l.replayer.nodes.items l.replayer.sent l.tally (lines_by count_sent l.number l.counter)
