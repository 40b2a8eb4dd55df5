use Rattle.std.proofs.Common.{◌≡◌, ◌∙◌}
use Rattle.state_journal.proofs.Frames.{generation_frame}
use Rattle.state_journal.proofs.draft.Draft.lay_generation.Goals as goal

pub returns-clause-frame : goal.returns-clause-frame
returns-clause-frame c =
    let after = c.set_bytes-members in
    let lent : c.as_slice-after.result.now ≡ after.result.items = c.as_slice-after.ensures.value in
    generation_frame c.to_be_bytes-e.result c.to_be_bytes-t.result c.args.self.now.state c.as_slice-after.result.now c.lay.new.self.frame c.args.epoch c.args.term c.args.committed.now
    c.to_be_bytes-e.ensures c.to_be_bytes-t.ensures (lent ∙ after.ensures.items)
    c.lay.ensures.frame
