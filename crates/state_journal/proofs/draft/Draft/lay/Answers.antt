use Rattle.std.proofs.Common.{◌+◌, ◌++◌, ◌∙◌, length, refl, arith}
use Rattle.sha2.specs.Sha256.{sha256}
use Rattle.state_journal.proofs.Frames.{laid_frame}
use Rattle.state_journal.proofs.draft.Draft.lay.Goals as goal

pub returns-clause-frame : goal.returns-clause-frame
returns-clause-frame c =
    let before = c.args.before.now in
    let state = c.args.self.now.state in
    let after = c.args.after.now in
    laid_frame before state after (sha256 (before ++ (state ++ after))) c.deref.result.now c.args.tail.now c.put_around.new.self.frame (length before + c.len.result + length after + 32)
    refl (omega (arith, c.len.ensures)) (c.deref.ensures.0 ∙ c.head_of-head.ensures) c.requires.tail c.put_around.ensures.frame
