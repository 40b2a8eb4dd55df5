use Rattle.std.proofs.Common.{◌++◌, ap, subst, ◌∙◌}
use Rattle.cluster_state.specs.declared.state.Kept.{Kept}
use Rattle.zen_disk.specs.Fuse.{FuseMoves}
use Rattle.zen_disk.specs.MemDisks.{MemMoves, read_of}
use Rattle.zen_disk.specs.Moments.{LeavesOnly}
use Rattle.state_journal.specs.Journal.{FoundAsSome}
use Rattle.state_journal.specs.Opening.{handed_back, IsWhyOf, RanUntil}
use Rattle.state_journal.specs.declared.error.OpenError.{OpenError}
use Rattle.trace_text.specs.Trace.{record_line}
use Rattle.replay_node.specs.NodeDisk.{MemFuse, MayLeave}
use Rattle.replay_node.proofs.Opened.{moment_of, left_of, no_fault, opens, stays}
use Rattle.replay_node.proofs.node.ReplayNode.open.Goals as goal

pub unreachable-requires : goal.unreachable-requires
unreachable-requires c =
    let why = subst (λ (e : OpenError MemFuse). IsWhyOf (read_of c.args.fuse.disk) e) c.in-Err-NotAJournal.field-0-is (c.in-Err-NotAJournal.ensures.why tt) in
    no_fault c.args.self.now.me c.args.fuse c.requires.0 c.requires.1 c.in-Err-NotAJournal.field-0-0 why

pub returns-in-Ok-clause-opens : goal.returns-in-Ok-clause-opens
returns-in-Ok-clause-opens c = λ w closed.
    let me = c.args.self.now.me in
    let opened = c.in-Ok.ensures in
    let over = c.new.ensures in
    let text = c.in_ok-write_record-in-Ok.ensures ∙ ap (λ (k : Kept). c.args.text.now ++ record_line me k.term k.accepted k.committed) c.kept.ensures.kept in
    opens me c.args.fuse w closed c.in-Ok.journal (record { found = opened.found tt; runs = opened.runs; ran = opened.ran tt }) c.new.result c.args.text.now c.write_record.new.text
    (record { me_is = over.me; keeper = over.keeper; stands = over.stands }) text

pub returns-clause-opens : goal.returns-clause-opens
returns-clause-opens c =
    let fuse = c.args.fuse in
    let failed = c.in-Err-Disk.ensures in
    let run = subst (λ (e : OpenError MemFuse). LeavesOnly moment_of left_of fuse (handed_back e) (FoundAsSome (MayLeave fuse))) c.in-Err-Disk.field-0-is (failed.any_moment_err tt) in
    let ran = subst (λ (e : OpenError MemFuse). RanUntil (FuseMoves MemMoves) (read_of fuse.disk) fuse e) c.in-Err-Disk.field-0-is (failed.ran_err tt) in
    λ w closed. stays c.args.self.now.me fuse w closed c.in-Err-Disk.fuse run ran c.args.text.now c.stay_down.new.text c.in_ok-stay_down-in-Err-Disk.field-0 c.in_ok-stay_down-in-Err-Disk.ensures
