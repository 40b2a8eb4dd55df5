use Rattle.std.proofs.Common.{subst, sym, ℕ, List}
use Rattle.gate_log.specs.Journal.{IsFrame}
use Rattle.gate_log.proofs.log.GateLog.append_small.Goals as goal

pub keep-requires-clause-frame : goal.keep-requires-clause-frame
keep-requires-clause-frame g c =
    (c.args.body.now, subst (λ (l : List ℕ). IsFrame c.args.body.now l) (sym c.deref.ensures.0) c.small_frame-frame.ensures, c.requires.plain)
