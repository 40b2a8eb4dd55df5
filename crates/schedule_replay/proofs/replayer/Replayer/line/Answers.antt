use Rattle.std.proofs.lemmas.Result.{on_ok_weaker}
use Rattle.schedule_replay.proofs.Lines.{this_line, writes_line}
use Rattle.schedule_replay.proofs.replayer.Replayer.line.Goals as goal

pub returns-in-Deliver : goal.returns-in-Deliver
returns-in-Deliver c = record {
  done = on_ok_weaker c.deliver.result (λ does. writes_line c.args.schedule.now.nodes c.args.schedule.now.initial _ _ _ _ _ _ _ c.args.line.now c.in_ok-write_echo.ensures (this_line c.args.schedule.now.nodes c.args.schedule.now.initial _ _ _ _ _ _ c.args.line.now _ c.in-Deliver.is does)) c.deliver.ensures.done;
}

pub returns : goal.returns
returns c = record {
  done = on_ok_weaker c.other_line.result (λ does. writes_line c.args.schedule.now.nodes c.args.schedule.now.initial _ _ _ _ _ _ _ c.args.line.now c.in_ok-write_echo.ensures does) c.other_line.ensures.done;
}
