-- For the contracts inside: the answer that a request gets for each reason.
use Rattle.std.specs.Prelude.{Option}
use Rattle.cluster_state.specs.declared.reply.Answer.{Answer}
use Rattle.master_tasks.specs.declared.waiting.Waiting.{Waiting}
use Rattle.master_tasks.specs.declared.answering.Decision.{Decision}
use Rattle.master_tasks.specs.declared.answering.Decision.TheVariants as decision
use Rattle.master_tasks.specs.Answering.{failed, committed_in, timed_out, nothing_new}

abbrev pub decided : Decision → Waiting → Option Answer
decided (decision.Failed term) w = failed term w
decided (decision.Committed id) w = committed_in id w
decided (decision.Late committed now) w = timed_out committed.now now w
decided (decision.NothingNew committed id) w = nothing_new committed.now id w
