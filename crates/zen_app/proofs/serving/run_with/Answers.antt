use Rattle.std.proofs.Common.{false, Some, Err, refl, sym, ap, subst, ◌∙◌}
use Rattle.zen_host.specs.HostCalls.{OpensDisk, OpensLink, and_call}
use Rattle.policy_model.specs.Entries.{NotBegun, Opened}
use Rattle.policy_model.proofs.Locals.{life_local}
use Rattle.node_loop.specs.Reporting.{sent_of}
use Rattle.node_loop.specs.Texts.{opening_text}
use Rattle.zen_app.specs.NodeRuns.{NodeRun, settings_by}
use Rattle.zen_link.specs.Views.{SinkView}
use Rattle.zen_app.proofs.NodeLives.{serves_on, opened_leaves}
use Rattle.zen_app.proofs.NodeStages.{view_by, causes_since, rose_within, link_noted, unopened, unlinked, serving_writes, served}
use Rattle.zen_app.proofs.serving.run_with.Goals as goal
use Rattle.zen_link.proofs.Appending.{appended_none}

pub returns-in-Err-open-clause-run : goal.returns-in-Err-open-clause-run
returns-in-Err-open-clause-run g c =
    let view = view_by g.H.Host.calls g.H.Host.disk_ready g.H.Host.disk_back g.H.Host.link_ready g.H.Host.link_back g.H.Host.held g.H.Host.faults in
    let sink : SinkView = record { written = g.H.Out.Sink.written c.args.out.now; faults = g.H.Out.Sink.faults c.args.out.now } in
    let sink_now : SinkView = record { written = g.H.Out.Sink.written c.refuse_journal.new.out; faults = g.H.Out.Sink.faults c.refuse_journal.new.out } in
    let gave = c.in-Ok-open_disk.ensures in
    unopened g.H.Disk.Disks g.L.Link c.args.words.now (view c.args.host.now) (view c.refuse_journal.new.host) sink sink_now c.in-Ok-open_disk.disk c.in-Err-open.error c.refuse_journal.result
    (record { same = λ x is. gave.given x is; fresh = gave.fresh }) c.in-Err-open.ensures.why c.in-Err-open.ensures.any_moment_err c.in-Err-open.ensures.ran_err c.refuse_journal.ensures.refused
    (c.refuse_journal.ensures.calls ∙ gave.call ∙ ap (λ dir. and_call (g.H.Host.calls c.args.host.now) (OpensDisk dir false)) c.as_str.ensures)
    c.refuse_journal.ensures.back (record { ready = c.refuse_journal.ensures.link_ready ∙ gave.link_ready; back = c.refuse_journal.ensures.link_back ∙ gave.link_back }) c.in-Err-open.ensures.cause

pub returns-in-Err-open_link-clause-run : goal.returns-in-Err-open_link-clause-run
returns-in-Err-open_link-clause-run g c =
    let view = view_by g.H.Host.calls g.H.Host.disk_ready g.H.Host.disk_back g.H.Host.link_ready g.H.Host.link_back g.H.Host.held g.H.Host.faults in
    let sink : SinkView = record { written = g.H.Out.Sink.written c.args.out.now; faults = g.H.Out.Sink.faults c.args.out.now } in
    let gave = c.in-Ok-open_disk.ensures in
    let asked = gave.call ∙ ap (λ dir. and_call (g.H.Host.calls c.args.host.now) (OpensDisk dir false)) c.as_str.ensures in
    subst (λ status. NodeRun g.H.Disk.Disks g.L.Link c.args.words.now (view c.args.host.now) (view c.close_disk.new.self) sink sink status) (sym c.refusal-in-Err-open_link.ensures)
    (unlinked g.H.Disk.Disks g.L.Link c.args.words.now (view c.args.host.now) (view c.close_disk.new.self) sink sink c.in-Ok-open_disk.disk c.in-Ok-open.node.inner.node.core.keeper.log.disk c.in-Ok-open.node.inner.node.core.keeper.kept c.in-Err-open_link.error
    (record { same = λ x is. gave.given x is; fresh = gave.fresh }) (record {
      found = c.in-Ok-open.ensures.found;
      any_moment = c.in-Ok-open.ensures.any_moment;
      leaves = opened_leaves g.H.Disk.Disks g.met.H.Disk.Disks.counts_now c.in-Ok-open.node.inner.node.core.keeper.log.disk c.in-Ok-open.node.inner.node.core.keeper.kept (λ t. let last = (c.in-Ok-open.ensures.stands NotBegun tt).leaves t in record { since = last.since; past = last.past; at_once = last.at_once; only = last.only });
    })
    (link_noted g.row.L.Denot _ _ _ _ _ _ c.in-Err-open_link.error asked c.close_disk.ensures.calls c.settings-2.ensures c.in-Err-open_link.ensures.call)
    (λ is. rose_within _ _ _ _ gave.later (c.in-Err-open_link.ensures.failed (ap (λ e. Err e) is)) c.close_disk.ensures.faults)
    (appended_none sink.written) (c.close_disk.ensures.back ∙ ap (λ x. Some x) c.into_disk.ensures) (c.close_disk.ensures.link_back ∙ c.in-Err-open_link.ensures.back ∙ gave.link_back))

pub returns-clause-run : goal.returns-clause-run
returns-clause-run g c =
    let view = view_by g.H.Host.calls g.H.Host.disk_ready g.H.Host.disk_back g.H.Host.link_ready g.H.Host.link_back g.H.Host.held g.H.Host.faults in
    let sink : SinkView = record { written = g.H.Out.Sink.written c.args.out.now; faults = g.H.Out.Sink.faults c.args.out.now } in
    let sink_now : SinkView = record { written = g.H.Out.Sink.written c.write_end.new.out; faults = g.H.Out.Sink.faults c.write_end.new.out } in
    let gave = c.in-Ok-open_disk.ensures in
    let node = c.in-Ok-open.node in
    let kept = node.inner.node.core.keeper.kept in
    let opened = node.inner.node.core.keeper.log.disk in
    let s = settings_by c.args.words.now in
    let life = Opened NotBegun kept in
    let stands = rw c.in-Ok.ensures at (c.in-Ok-open.ensures.stands NotBegun tt) in
    let asked = gave.call ∙ ap (λ dir. and_call (g.H.Host.calls c.args.host.now) (OpensDisk dir false)) c.as_str.ensures in
    let causes = causes_since (Some c.run-disk.result.1) _ _ _ _ _ _ _ c.in-Ok-open.ensures.later c.run-disk.ensures.causes in
    served g.H.Disk.Disks g.L.Link c.args.words.now (view c.args.host.now) (view c.close_disk-2.new.self) sink sink_now c.write_end.result (record {
      given = c.in-Ok-open_disk.disk;
      is_given = record { same = λ x is. gave.given x is; fresh = gave.fresh };
      opened = opened;
      kept = kept;
      opens = record {
        found = c.in-Ok-open.ensures.found;
        any_moment = c.in-Ok-open.ensures.any_moment;
        leaves = opened_leaves g.H.Disk.Disks g.met.H.Disk.Disks.counts_now opened kept (λ t. let last = stands.leaves t in record { since = last.since; past = last.past; at_once = last.at_once; only = last.only });
      };
      link = c.in-Ok-open_link.link;
      is_link = record { same = λ x is. c.in-Ok-open_link.ensures.given x (gave.link_ready ∙ is); fresh = c.in-Ok-open_link.ensures.fresh };
      asked = c.close_disk-2.ensures.calls ∙ c.close_link.ensures.calls ∙ c.in-Ok-open_link.ensures.call ∙ ap (λ t. and_call (g.H.Host.calls c.open_disk.new.self) (OpensLink t false)) c.settings-2.ensures
          ∙ ap (λ calls. and_call calls (OpensLink c.args.words.now.link false)) asked;
      back = c.run-disk.result.0;
      is_back = c.close_disk-2.ensures.back;
      link_now = c.run-disk.new.link;
      is_link_back = c.close_disk-2.ensures.link_back ∙ c.close_link.ensures.back;
      end = c.run-disk.result.1;
      served = g.H.Out.Sink.written c.run-disk.new.out;
      wrote = g.H.Out.Sink.faults c.run-disk.new.out;
      serves = rw c.requires at (serves_on g.H.Disk.Disks g.met.H.Disk.Disks.counts_now sent_of (g.W.History.lines s) s kept opened c.run-disk.result.0 c.run-disk.result.1 _ _ _ _ _ _ c.args.words.now.turns (opening_text s life) life_local
          (c.run-disk.ensures.serves s life stands (record { unstarted = refl; unstruck = refl }) c.in-Ok-open.ensures.reads));
      causes = causes;
      ends = c.write_end.ensures.ends;
    }) c.write_end.ensures.later
    (λ h. serving_writes _ _ _ _ _ _ _ _ _ _ _ c.write_end.ensures.ends causes c.write_end.ensures.later c.write_end.ensures.write h)
