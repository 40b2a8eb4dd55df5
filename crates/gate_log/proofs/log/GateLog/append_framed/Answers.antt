use Rattle.gate_log.proofs.Settled.{is_frame}
use Rattle.gate_log.proofs.log.GateLog.append_framed.Goals as goal

pub keep-requires-clause-frame : goal.keep-requires-clause-frame
keep-requires-clause-frame g c =
    (c.requires.0, is_frame c.requires.0 c.args.frame.now c.requires.1 c.if-frame-gt-MAX_FRAME.false, c.requires.2)

pub returns-clause-appends : goal.returns-clause-appends
returns-clause-appends g c body is plain =
    c.keep.ensures.appends body (is_frame body c.args.frame.now is c.if-frame-gt-MAX_FRAME.false) plain
