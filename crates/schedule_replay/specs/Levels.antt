-- Part of the statement: the trace of a schedule, by its level.
use Rattle.std.specs.Prelude.{ℕ, List}
use Rattle.schedule_text.specs.declared.level.Level.{Level}
use Rattle.schedule_text.specs.declared.level.Level.TheVariants.{Core, Node}
use Rattle.schedule_text.specs.declared.schedule.Schedule.{Schedule}
use Rattle.schedule_replay.specs.ClusterTrace.{trace as node_trace}
use Rattle.schedule_replay.specs.Trace.{trace as core_trace}

abbrev pub trace_at : Level → Schedule → List ℕ
trace_at Core s = core_trace s
trace_at Node s = node_trace s
