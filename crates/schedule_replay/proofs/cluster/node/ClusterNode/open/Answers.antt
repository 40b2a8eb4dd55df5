use Rattle.std.proofs.Common.{◌≡◌, ap, subst, ◌++◌, ◌∙◌}
use Rattle.std.proofs.lemmas.Result.{on_ok_weaker}
use Rattle.cluster_state.specs.declared.state.Kept.{Kept}
use Rattle.zen_disk.specs.Fuse.{FuseMoves}
use Rattle.zen_disk.specs.MemDisks.{MemMoves, read_of}
use Rattle.zen_disk.specs.Moments.{LeavesOnly}
use Rattle.state_journal.specs.Journal.{FoundAsSome}
use Rattle.state_journal.specs.Opening.{handed_back, IsWhyOf, RanUntil}
use Rattle.state_journal.specs.declared.error.OpenError.{OpenError}
use Rattle.trace_text.specs.Trace.{record_line}
use Rattle.replay_node.specs.NodeDisk.{MemFuse, MayLeave}
use Rattle.replay_node.specs.Opens.{StaysDown}
use Rattle.replay_node.proofs.Opened.{JustOpened, moment_of, left_of, no_fault, stays}
use Rattle.policy_model.specs.declared.settings.Settings.{Settings}
use Rattle.replay_node.specs.Clusters.{settings_of}
use Rattle.schedule_replay.specs.Openings.{OverJournal}
use Rattle.schedule_replay.specs.Own.{Own, own_opened}
use Rattle.schedule_replay.proofs.Openings.{closed_again, opened_stands, started}
use Rattle.schedule_replay.proofs.cluster.node.ClusterNode.open.Goals as goal

pub unreachable-requires : goal.unreachable-requires
unreachable-requires c =
    let why = subst (λ (e : OpenError MemFuse). IsWhyOf (read_of c.args.fuse.disk) e) c.in-Err-NotAJournal.field-0-is (c.in-Err-NotAJournal.ensures.why tt) in
    no_fault c.args.self.now.me c.args.fuse c.requires.0.node c.requires.1.closed c.in-Err-NotAJournal.field-0-0 why

pub event-requires-clause-stands : goal.event-requires-clause-stands
event-requires-clause-stands c =
    let s : Settings = settings_of c.args.ids.now c.args.initial.now c.args.voting_only.now c.args.second c.args.self.now.me in
    let own : Own = c.requires.0 in
    let over : OverJournal s c.in-Ok.journal c.node_over.result = subst (λ (t : Settings). OverJournal t c.in-Ok.journal c.node_over.result) c.in_ok-settings-in-Ok.ensures c.node_over.ensures in
    let is : JustOpened c.args.fuse c.in-Ok.journal = record { found = c.in-Ok.ensures.found tt; runs = c.in-Ok.ensures.runs; ran = c.in-Ok.ensures.ran tt } in
    (s, own_opened own, opened_stands s c.args.self.now c.args.fuse own c.requires.1 c.in-Ok.journal is c.node_over.result over)

pub returns-in-Ok : goal.returns-in-Ok
returns-in-Ok c =
    let old = c.args.self.now in
    let s : Settings = settings_of c.args.ids.now c.args.initial.now c.args.voting_only.now c.args.second old.me in
    let over : OverJournal s c.in-Ok.journal c.node_over.result = subst (λ (t : Settings). OverJournal t c.in-Ok.journal c.node_over.result) c.in_ok-settings-in-Ok.ensures c.node_over.ensures in
    let is : JustOpened c.args.fuse c.in-Ok.journal = record { found = c.in-Ok.ensures.found tt; runs = c.in-Ok.ensures.runs; ran = c.in-Ok.ensures.ran tt } in
    let text : c.write_record.new.text ≡ c.args.text.now ++ record_line old.me c.in-Ok.journal.kept.term c.in-Ok.journal.kept.accepted c.in-Ok.journal.kept.committed =
    c.in_ok-write_record-in-Ok.ensures ∙ ap (λ (k : Kept). c.args.text.now ++ record_line old.me k.term k.accepted k.committed) c.kept.ensures.kept in
    on_ok_weaker c.event.result (λ does own closed. started s old c.args.fuse own closed c.in-Ok.journal is c.node_over.result over c.event.new.self c.args.frames.now.items c.event.new.frames.items c.args.text.now c.write_record.new.text c.event.new.text text
    (does s (own_opened own) (opened_stands s old c.args.fuse own closed c.in-Ok.journal is c.node_over.result over))) c.event.ensures

pub returns : goal.returns
returns c =
    let old = c.args.self.now in
    let s : Settings = settings_of c.args.ids.now c.args.initial.now c.args.voting_only.now c.args.second old.me in
    let fuse = c.args.fuse in
    let failed = c.in-Err-Disk.ensures in
    let run = subst (λ (e : OpenError MemFuse). LeavesOnly moment_of left_of fuse (handed_back e) (FoundAsSome (MayLeave fuse))) c.in-Err-Disk.field-0-is (failed.any_moment_err tt) in
    let ran = subst (λ (e : OpenError MemFuse). RanUntil (FuseMoves MemMoves) (read_of fuse.disk) fuse e) c.in-Err-Disk.field-0-is (failed.ran_err tt) in
    let again : MemFuse = c.in_ok-stay_down-in-Err-Disk.field-0 in
    let down : StaysDown c.in-Err-Disk.fuse.struck old.me c.in-Err-Disk.fuse again c.args.text.now c.stay_down.new.text =
    subst (λ (f : MemFuse). StaysDown f.struck old.me f again c.args.text.now c.stay_down.new.text) c.in-Err-Disk.fuse-is c.in_ok-stay_down-in-Err-Disk.ensures in
    λ own closed. closed_again s old fuse own closed again c.args.frames.now.items c.args.text.now c.stay_down.new.text
    (stays old.me fuse own.node closed.closed c.in-Err-Disk.fuse run ran c.args.text.now c.stay_down.new.text again down)
