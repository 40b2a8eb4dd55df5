-- How a run of the program ends, by its command.
use Rattle.std.proofs.Common.{◌≡◌, ℕ, ◌≤◌, Option, None, Some, List, [], ◌∷◌, refl, sym, ◌∙◌, subst, arith, inl, inr}
use Rattle.zen_disk.specs.Faults.{Rose}
use Rattle.zen_disk.specs.declared.disks.Disks.{Ghosts as Disks}
use Rattle.zen_link.specs.declared.link.Link.{Ghosts as Links}
use Rattle.command_line.specs.declared.command.NodeWords.{NodeWords}
use Rattle.coordinator.specs.declared.step.Sealed.{Sealed}
use Rattle.schedule_text.specs.declared.level.Level.{Level}
use Rattle.command_line.specs.declared.command.ProgramCommand.{ProgramCommand}
use Rattle.command_line.specs.declared.command.ProgramCommand.TheVariants.{Replay, Inspect, Node, Generate, Trial, Rescue, UnsafeBootstrap, DetachCluster, Audit}
use Rattle.command_line.specs.Commands.{command_of}
use Rattle.journal_inspection.specs.declared.inspecting.Inspection.{Inspection}
use Rattle.journal_inspection.specs.declared.inspecting.Inspection.TheVariants as end
use Rattle.journal_inspection.specs.declared.showing.Shown.TheVariants as shown
use Rattle.zen_host.specs.Views.{HostView}
use Rattle.journal_inspection.specs.Inspects.{LeavesLinks, Asked, Opened, EndsWith, IsComplete}
use Rattle.zen_app.specs.Codes.{status_of}
use Rattle.zen_link.specs.Reading.{ReadsAtMost}
use Rattle.zen_link.proofs.Appending.{appended_none}
use Rattle.zen_app.specs.NodeFaults.{Failed, NodeFaults}
use Rattle.command_line.specs.declared.command.TrialWords.{TrialWords}
use Rattle.schedule_text.specs.declared.level.Level.TheVariants.{Core}
use Rattle.schedule_text.specs.Spelled.{schedule_text}
use Rattle.schedule_generator.specs.Laws.{most_steps}
use Rattle.schedule_replay.specs.Generated.{generated}
use Rattle.schedule_replay.specs.Levels.{trace_at}
use Rattle.trace_summary.specs.Printed.{summary_text}
use Rattle.trace_summary.specs.Summaries.{summary_of}
use Rattle.zen_host.specs.HostCalls.{HostCall}
use Rattle.zen_host.specs.declared.host.HostError.TheVariants as host_error
use Rattle.node_tool.specs.declared.tool.Tool.TheVariants as tool
use Rattle.node_trial.specs.declared.node.TrialNode.TheVariants as node
use Rattle.node_trial.specs.declared.running.TrialEnd.{TrialEnd}
use Rattle.node_trial.specs.declared.running.TrialEnd.TheVariants as trial
use Rattle.node_trial.specs.Trials.{Tried}
use Rattle.trace_audit.specs.declared.running.AuditEnd.{AuditEnd}
use Rattle.trace_audit.specs.declared.running.AuditEnd.TheVariants as audit
use Rattle.trace_audit.specs.Runs.{Audited}
use Rattle.trace_audit.proofs.Endings.{audit_no_memory}
use Rattle.zen_app.specs.Codes.{status_of_trial, status_of_audit}
use Rattle.zen_app.specs.NodeRuns.{NodeRun, Undisked, SaysLine}
use Rattle.zen_app.specs.Runs.{ReplayEnded, RescueEnded}
use Rattle.zen_app.specs.RescueRuns.{MayEndRescue, RescueRun}
use Rattle.zen_app.specs.SafeTrace.{IsSafeTraceAt}
use Rattle.zen_app.specs.TrialRuns.{TrialRun, trial_by}
use Rattle.zen_app.specs.Ran.{MayEndReplay, ReplayRun, AuditRun, Does, most_by, Ran}
use Rattle.zen_link.specs.Views.{SourceView, SinkView}
use Rattle.voting_config.specs.Ids.{Id}
use Rattle.zen_app.specs.declared.status.Status.{Status}
use Rattle.zen_app.specs.declared.status.Status.TheVariants as exit
use Rattle.zen_app.proofs.Endings.{no_memory}
use Rattle.zen_app.proofs.NodeStages.{said_line}
use Rattle.zen_app.proofs.ToolRunning.{nothing_used}
use Rattle.zen_app.proofs.RescueEndings.{no_memory as no_memory_to_rescue}
use Rattle.zen_app.specs.Runs.{IsWithin}
use Rattle.zen_app.proofs.WordBounds.{OfSome, all_within, words_within}
use Rattle.schedule_replay.proofs.Sending.{generated_spelled}
use Rattle.zen_app.proofs.Spelled.{spells_safe_trace}

none_taken : (most : ℕ) (left : Option (List ℕ)) → ReadsAtMost most left left
none_taken most None = refl
none_taken most (Some left) = (0, omega arith, refl)

no_read_fault : (e : Inspection) → status_of e ≡ exit.ReadFault → ⊥
no_read_fault end.Done h = absurd cc
no_read_fault end.NotAJournal h = absurd cc
no_read_fault end.NoMemory h = absurd cc
no_read_fault end.WriteFault h = absurd cc
no_read_fault end.DiskFault h = absurd cc
no_read_fault end.HostFault h = absurd cc

no_link_fault : (e : Inspection) → status_of e ≡ exit.LinkFault → ⊥
no_link_fault end.Done h = absurd cc
no_link_fault end.NotAJournal h = absurd cc
no_link_fault end.NoMemory h = absurd cc
no_link_fault end.WriteFault h = absurd cc
no_link_fault end.DiskFault h = absurd cc
no_link_fault end.HostFault h = absurd cc

-- no trial ends with any other status
trial_no : (other : Status) (e : TrialEnd) → status_of_trial e ≡ other → (exit.Ok ≡ other → ⊥) → (exit.TrialFailed ≡ other → ⊥) → (exit.NoMemory ≡ other → ⊥) → (exit.WriteFault ≡ other → ⊥) → (exit.HostFault ≡ other → ⊥) → ⊥
trial_no other trial.Done is ok failed memory write host = ok is
trial_no other trial.TrialFailed is ok failed memory write host = failed is
trial_no other trial.NoMemory is ok failed memory write host = memory is
trial_no other trial.WriteFault is ok failed memory write host = write is
trial_no other trial.HostFault is ok failed memory write host = host is

-- each generated schedule is spelled by its text, so its trace is safe
generated_safe : (number steps : ℕ) → steps ≤ most_steps → IsSafeTraceAt Core (generated number steps)
generated_safe number steps few = spells_safe_trace Core (schedule_text (generated number steps)) (generated number steps) (generated_spelled number steps few)

-- no memory was found before the first child was started
nothing_tried : (w : TrialWords) (calls : Option (List HostCall)) (written : Option (List ℕ)) → Tried (trial_by w) calls calls written written trial.NoMemory
nothing_tried w calls written = inl (record {
  error = host_error.Memory;
  is_end = refl;
  unstarted = record {
    started = [];
    next = node.A;
    later = node.B ∷ node.C ∷ [];
    are_nodes = refl;
    children = [];
    begun = calls;
    starts = refl;
    refused = calls;
    refuses = refl;
    killed = refl;
  };
  nothing = appended_none written;
})

no_replay : (level : Level) (source : SourceView) (sink : SinkView) → ReplayRun level source source sink sink exit.NoMemory
no_replay level source sink = (no_memory level source source sink sink (none_taken _ source.left) (omega arith) (omega arith) (appended_none sink.written)).run

no_rescue : (ids : List Id) (source : SourceView) (sink : SinkView) → RescueRun ids source source sink sink exit.NoMemory
no_rescue ids source sink = (no_memory_to_rescue ids source source sink sink (none_taken _ source.left) (omega arith) (omega arith) (appended_none sink.written)).run

no_audit : (source : SourceView) (sink : SinkView) → AuditRun source source sink sink exit.NoMemory
no_audit source sink = record {
  end = audit.NoMemory;
  is_status = refl;
  audited = audit_no_memory source.left source.left source.faults source.faults sink.written sink.written sink.faults sink.faults (none_taken _ source.left) (omega arith) (omega arith) (appended_none sink.written);
}

-- no audit ends with another status
audit_no : (other : Status) (e : AuditEnd) → status_of_audit e ≡ other → (exit.Ok ≡ other → ⊥) → (exit.NotLegal ≡ other → ⊥) → (exit.BadTrace ≡ other → ⊥) → (exit.NoMemory ≡ other → ⊥) → (exit.ReadFault ≡ other → ⊥) → (exit.WriteFault ≡ other → ⊥) → ⊥
audit_no other audit.Legal is ok broken bad memory read write = ok is
audit_no other audit.NotLegal is ok broken bad memory read write = broken is
audit_no other audit.BadTrace is ok broken bad memory read write = bad is
audit_no other audit.NoMemory is ok broken bad memory read write = memory is
audit_no other audit.ReadFault is ok broken bad memory read write = read is
audit_no other audit.WriteFault is ok broken bad memory read write = write is

-- which end a fault of the input, or of the output, was
audit_unread : (e : AuditEnd) → status_of_audit e ≡ exit.ReadFault → e ≡ audit.ReadFault
audit_unread audit.Legal h = absurd cc
audit_unread audit.NotLegal h = absurd cc
audit_unread audit.BadTrace h = absurd cc
audit_unread audit.NoMemory h = absurd cc
audit_unread audit.ReadFault h = refl
audit_unread audit.WriteFault h = absurd cc

audit_unwritten : (e : AuditEnd) → status_of_audit e ≡ exit.WriteFault → e ≡ audit.WriteFault
audit_unwritten audit.Legal h = absurd cc
audit_unwritten audit.NotLegal h = absurd cc
audit_unwritten audit.BadTrace h = absurd cc
audit_unwritten audit.NoMemory h = absurd cc
audit_unwritten audit.ReadFault h = absurd cc
audit_unwritten audit.WriteFault h = refl

-- no rescue ends with any of these statuses
no_rescue_ends : (status other : Status) → MayEndRescue status → status ≡ other → (MayEndRescue other → ⊥) → ⊥
no_rescue_ends status other may is not = not (subst MayEndRescue is may)

-- no replay ends with any of these statuses
no_replay_ends : (status other : Status) → MayEndReplay status → status ≡ other → (MayEndReplay other → ⊥) → ⊥
no_replay_ends status other may is not = not (subst MayEndReplay is may)

module _ {D L : Type 0} (d : Disks D) (l : Links L Sealed) where
  write_rose : (host host_now : HostView D L) (was now : Option (List ℕ)) (wrote wrote_now : ℕ) (e : Inspection) → EndsWith d host host_now was now wrote wrote_now e → status_of e ≡ exit.WriteFault → Rose wrote wrote_now
  write_rose host host_now was now wrote wrote_now end.Done ended h = absurd cc
  write_rose host host_now was now wrote wrote_now end.NotAJournal ended h = absurd cc
  write_rose host host_now was now wrote wrote_now end.NoMemory ended h = absurd cc
  write_rose host host_now was now wrote wrote_now end.WriteFault ended h = ended.3
  write_rose host host_now was now wrote wrote_now end.DiskFault ended h = absurd cc
  write_rose host host_now was now wrote wrote_now end.HostFault ended h = absurd cc

  host_rose : (host host_now : HostView D L) (was now : Option (List ℕ)) (wrote wrote_now : ℕ) (e : Inspection) → EndsWith d host host_now was now wrote wrote_now e → status_of e ≡ exit.HostFault → Rose host.faults host_now.faults
  host_rose host host_now was now wrote wrote_now end.Done ended h = absurd cc
  host_rose host host_now was now wrote wrote_now end.NotAJournal ended h = absurd cc
  host_rose host host_now was now wrote wrote_now end.NoMemory ended h = absurd cc
  host_rose host host_now was now wrote wrote_now end.WriteFault ended h = absurd cc
  host_rose host host_now was now wrote wrote_now end.DiskFault ended h = absurd cc
  host_rose host host_now was now wrote wrote_now end.HostFault ended h = ended.0

  disk_failed : (host host_now : HostView D L) → Opened d host host_now shown.Disk → Failed d.faults host_now.disk_back
  disk_failed host host_now opened = record { given_back = opened.back; is_back = opened.is_back; rose = subst (λ (n : ℕ). Rose n (d.faults opened.back)) opened.fresh opened.shows }

  disk_rose : (host host_now : HostView D L) (was now : Option (List ℕ)) (wrote wrote_now : ℕ) (e : Inspection) → EndsWith d host host_now was now wrote wrote_now e → status_of e ≡ exit.DiskFault → Failed d.faults host_now.disk_back
  disk_rose host host_now was now wrote wrote_now end.Done ended h = absurd cc
  disk_rose host host_now was now wrote wrote_now end.NotAJournal ended h = absurd cc
  disk_rose host host_now was now wrote wrote_now end.NoMemory ended h = absurd cc
  disk_rose host host_now was now wrote wrote_now end.WriteFault ended h = absurd cc
  disk_rose host host_now was now wrote wrote_now end.DiskFault ended h = disk_failed host host_now ended.0
  disk_rose host host_now was now wrote wrote_now end.HostFault ended h = absurd cc

  -- no memory for the words
  nothing_done : (source : SourceView) (sink : SinkView) (host : HostView D L) (o : Option ProgramCommand) → OfSome IsWithin o → Does d l source source sink sink host host exit.NoMemory o
  nothing_done source sink host None within = (appended_none sink.written, refl, refl)
  nothing_done source sink host (Some (Replay level)) within = (no_replay level source sink, refl)
  nothing_done source sink host (Some (Inspect dir)) within = (
    record {
      end = end.NoMemory;
      is_status = refl;
      asked = inl refl;
      ended = (inl (record { calls = refl; back = refl }), appended_none sink.written);
      complete = λ disk is t kept found no_host no_write no_disk. inr refl;
      links = record { ready = refl; back = refl };
    },
    refl,
  )
  nothing_done source sink host (Some (Generate number steps)) within = (record { says = appended_none sink.written; safe_trace = generated_safe number steps within }, refl, refl)
  nothing_done source sink host (Some (Trial words)) within = (
    record {
      end = trial.NoMemory;
      is_status = refl;
      tried = nothing_tried words host.calls sink.written;
      disk_ready = refl;
      disk_back = refl;
      links = record { ready = refl; back = refl };
    },
    refl,
  )
  nothing_done source sink host (Some (UnsafeBootstrap id dir)) within = (nothing_used d (tool.UnsafeBootstrap id) dir host sink, refl)
  nothing_done source sink host (Some (DetachCluster dir)) within = (nothing_used d tool.DetachCluster dir host sink, refl)
  nothing_done source sink host (Some (Node words)) within = (
    record {
      came = Undisked (record { asked = inl (refl, refl); written = appended_none sink.written; back = refl; links = record { ready = refl; back = refl } });
      complete = λ disk is t kept found no_host no_write no_disk no_link. inr (inr refl);
    },
    refl,
  )
  nothing_done source sink host (Some (Rescue ids)) within = (no_rescue ids source sink, refl)
  nothing_done source sink host (Some Audit) within = (no_audit source sink, refl)

  pub ran_without_memory : (words : List (List ℕ)) (source : SourceView) (sink : SinkView) (host : HostView D L) → Ran d l words source source sink sink host host exit.NoMemory
  ran_without_memory words source sink host = record {
    does = nothing_done source sink host (command_of words) (all_within words);
    read_at_most = none_taken _ source.left;
    read_fault = λ e. absurd cc;
    write_fault = λ e. absurd cc;
    disk_fault = λ e. absurd cc;
    link_fault = λ e. absurd cc;
    host_fault = λ e. absurd cc;
    read_later = omega arith;
    wrote_later = omega arith;
    host_later = omega arith;
    children = refl;
  }

  pub ran_inspect : (words : List (List ℕ)) (source : SourceView) (sink sink_now : SinkView) (host host_now : HostView D L) (status : Status) (dir : List ℕ) (e : Inspection) → command_of words ≡ Some (Inspect dir) → status ≡ status_of e
      → Asked dir host.calls host_now.calls e → EndsWith d host host_now sink.written sink_now.written sink.faults sink_now.faults e
      → IsComplete d host host_now sink.faults sink_now.faults e → LeavesLinks host host_now → host_now.held ≡ host.held → sink.faults ≤ sink_now.faults → host.faults ≤ host_now.faults
      → Ran d l words source source sink sink_now host host_now status
  ran_inspect words source sink sink_now host host_now status dir e is is_status asked ended complete links children wrote_later host_later = record {
    does = subst (λ (o : Option ProgramCommand). Does d l source source sink sink_now host host_now status o) (sym is)
        (record { end = e; is_status = is_status; asked = asked; ended = ended; complete = complete; links = links }, refl);
    read_at_most = none_taken _ source.left;
    read_fault = λ h. absurd (no_read_fault e (sym is_status ∙ h));
    write_fault = λ h. write_rose host host_now sink.written sink_now.written sink.faults sink_now.faults e ended (sym is_status ∙ h);
    link_fault = λ h. absurd (no_link_fault e (sym is_status ∙ h));
    disk_fault = λ h. disk_rose host host_now sink.written sink_now.written sink.faults sink_now.faults e ended (sym is_status ∙ h);
    host_fault = λ h. host_rose host host_now sink.written sink_now.written sink.faults sink_now.faults e ended (sym is_status ∙ h);
    read_later = omega arith;
    wrote_later = wrote_later;
    host_later = host_later;
    children = children;
  }

  pub ran_node : (words : List (List ℕ)) (source : SourceView) (sink sink_now : SinkView) (host host_now : HostView D L) (status : Status) (w : NodeWords) → command_of words ≡ Some (Node w)
      → NodeRun d l w host host_now sink sink_now status → NodeFaults d.faults l.faults host_now.disk_back host_now.link_back host.faults host_now.faults sink.faults sink_now.faults status
      → host_now.held ≡ host.held → Ran d l words source source sink sink_now host host_now status
  ran_node words source sink sink_now host host_now status w is run faults children = record {
    does = subst (λ (o : Option ProgramCommand). Does d l source source sink sink_now host host_now status o) (sym is) (run, refl);
    read_at_most = none_taken _ source.left;
    read_fault = λ e. absurd (faults.read_fault e);
    write_fault = faults.write_fault;
    disk_fault = faults.disk_fault;
    link_fault = faults.link_fault;
    host_fault = faults.host_fault;
    read_later = omega arith;
    wrote_later = faults.wrote_later;
    host_later = faults.host_later;
    children = children;
  }

  -- what a command does that is the use of a tool on a folder
  pub ran_tool : (words : List (List ℕ)) (source : SourceView) (sink sink_now : SinkView) (host host_now : HostView D L) (status : Status) (c : ProgramCommand) → command_of words ≡ Some c
      → Does d l source source sink sink_now host host_now status (Some c)
      → NodeFaults d.faults l.faults host_now.disk_back host_now.link_back host.faults host_now.faults sink.faults sink_now.faults status
      → host_now.held ≡ host.held → Ran d l words source source sink sink_now host host_now status
  ran_tool words source sink sink_now host host_now status c is does faults children = record {
    does = subst (λ (o : Option ProgramCommand). Does d l source source sink sink_now host host_now status o) (sym is) does;
    read_at_most = none_taken _ source.left;
    read_fault = λ e. absurd (faults.read_fault e);
    write_fault = faults.write_fault;
    disk_fault = faults.disk_fault;
    link_fault = faults.link_fault;
    host_fault = faults.host_fault;
    read_later = omega arith;
    wrote_later = faults.wrote_later;
    host_later = faults.host_later;
    children = children;
  }

  pub ran_generate : (words : List (List ℕ)) (source : SourceView) (sink sink_now : SinkView) (host : HostView D L) (status : Status) (number steps : ℕ) → command_of words ≡ Some (Generate number steps)
      → SaysLine (summary_text (summary_of (trace_at Core (generated number steps)))) exit.Ok sink.written sink_now.written status → (status ≡ exit.WriteFault → Rose sink.faults sink_now.faults) → sink.faults ≤ sink_now.faults
      → Ran d l words source source sink sink_now host host status
  ran_generate words source sink sink_now host status number steps is says write later =
      let faults = said_line d.faults l.faults host.disk_back host.link_back host.faults host.faults sink.faults sink_now.faults later (omega arith) _ exit.Ok sink.written sink_now.written status says (λ e. absurd cc) (λ e. absurd cc) (λ e. absurd cc) (λ e. absurd cc) write in
      record {
        does = subst (λ (o : Option ProgramCommand). Does d l source source sink sink_now host host status o) (sym is) (record { says = says; safe_trace = generated_safe number steps (words_within words (Generate number steps) is) }, refl, refl);
        read_at_most = none_taken _ source.left;
        read_fault = λ e. absurd (faults.read_fault e);
        write_fault = faults.write_fault;
        disk_fault = faults.disk_fault;
        link_fault = faults.link_fault;
        host_fault = faults.host_fault;
        read_later = omega arith;
        wrote_later = later;
        host_later = omega arith;
        children = refl;
      }

  pub ran_trial : (words : List (List ℕ)) (source : SourceView) (sink sink_now : SinkView) (host host_now : HostView D L) (status : Status) (w : TrialWords) → command_of words ≡ Some (Trial w) → TrialRun w host host_now sink sink_now status
      → host_now.held ≡ host.held → (status ≡ exit.HostFault → Rose host.faults host_now.faults) → (status ≡ exit.WriteFault → Rose sink.faults sink_now.faults) → host.faults ≤ host_now.faults → sink.faults ≤ sink_now.faults
      → Ran d l words source source sink sink_now host host_now status
  ran_trial words source sink sink_now host host_now status w is run children host_fault write_fault host_later wrote_later = record {
    does = subst (λ (o : Option ProgramCommand). Does d l source source sink sink_now host host_now status o) (sym is) (run, refl);
    read_at_most = none_taken _ source.left;
    read_fault = λ e. absurd (trial_no exit.ReadFault run.end (sym run.is_status ∙ e) (λ h. absurd cc) (λ h. absurd cc) (λ h. absurd cc) (λ h. absurd cc) (λ h. absurd cc));
    write_fault = write_fault;
    disk_fault = λ e. absurd (trial_no exit.DiskFault run.end (sym run.is_status ∙ e) (λ h. absurd cc) (λ h. absurd cc) (λ h. absurd cc) (λ h. absurd cc) (λ h. absurd cc));
    link_fault = λ e. absurd (trial_no exit.LinkFault run.end (sym run.is_status ∙ e) (λ h. absurd cc) (λ h. absurd cc) (λ h. absurd cc) (λ h. absurd cc) (λ h. absurd cc));
    host_fault = host_fault;
    read_later = omega arith;
    wrote_later = wrote_later;
    host_later = host_later;
    children = children;
  }

  pub ran_replay : (words : List (List ℕ)) (source source_now : SourceView) (sink sink_now : SinkView) (host : HostView D L) (status : Status) (level : Level) → command_of words ≡ Some (Replay level)
      → ReplayEnded level source source_now sink sink_now status → Ran d l words source source_now sink sink_now host host status
  ran_replay words source source_now sink sink_now host status level is ended = record {
    does = subst (λ (o : Option ProgramCommand). Does d l source source_now sink sink_now host host status o) (sym is) (ended.run, refl);
    read_at_most = subst (λ (o : Option ProgramCommand). ReadsAtMost (most_by o) source.left source_now.left) (sym is) ended.read_at_most;
    read_fault = ended.read_fault;
    write_fault = ended.write_fault;
    disk_fault = λ e. absurd (no_replay_ends status exit.DiskFault ended.run.ends e (λ none. none));
    link_fault = λ e. absurd (no_replay_ends status exit.LinkFault ended.run.ends e (λ none. none));
    host_fault = λ e. absurd (no_replay_ends status exit.HostFault ended.run.ends e (λ none. none));
    read_later = ended.read_later;
    wrote_later = ended.wrote_later;
    host_later = omega arith;
    children = refl;
  }

  pub ran_rescue : (words : List (List ℕ)) (source source_now : SourceView) (sink sink_now : SinkView) (host : HostView D L) (status : Status) (ids : List Id) → command_of words ≡ Some (Rescue ids)
      → RescueEnded ids source source_now sink sink_now status → Ran d l words source source_now sink sink_now host host status
  ran_rescue words source source_now sink sink_now host status ids is ended = record {
    does = subst (λ (o : Option ProgramCommand). Does d l source source_now sink sink_now host host status o) (sym is) (ended.run, refl);
    read_at_most = subst (λ (o : Option ProgramCommand). ReadsAtMost (most_by o) source.left source_now.left) (sym is) ended.read_at_most;
    read_fault = ended.read_fault;
    write_fault = ended.write_fault;
    disk_fault = λ e. absurd (no_rescue_ends status exit.DiskFault ended.run.ends e (λ none. none));
    link_fault = λ e. absurd (no_rescue_ends status exit.LinkFault ended.run.ends e (λ none. none));
    host_fault = λ e. absurd (no_rescue_ends status exit.HostFault ended.run.ends e (λ none. none));
    read_later = ended.read_later;
    wrote_later = ended.wrote_later;
    host_later = omega arith;
    children = refl;
  }

  pub ran_audit : (words : List (List ℕ)) (source source_now : SourceView) (sink sink_now : SinkView) (host : HostView D L) (status : Status) (e : AuditEnd) → command_of words ≡ Some Audit → status ≡ status_of_audit e
      → Audited source.left source_now.left source.faults source_now.faults sink.written sink_now.written sink.faults sink_now.faults e → Ran d l words source source_now sink sink_now host host status
  ran_audit words source source_now sink sink_now host status e is is_status audited = record {
    does = subst (λ (o : Option ProgramCommand). Does d l source source_now sink sink_now host host status o) (sym is) (record { end = e; is_status = is_status; audited = audited }, refl);
    read_at_most = subst (λ (o : Option ProgramCommand). ReadsAtMost (most_by o) source.left source_now.left) (sym is) audited.read_at_most;
    read_fault = λ h. audited.read_fault (audit_unread e (sym is_status ∙ h));
    write_fault = λ h. audited.write_fault (audit_unwritten e (sym is_status ∙ h));
    disk_fault = λ h. absurd (audit_no exit.DiskFault e (sym is_status ∙ h) (λ k. absurd cc) (λ k. absurd cc) (λ k. absurd cc) (λ k. absurd cc) (λ k. absurd cc) (λ k. absurd cc));
    link_fault = λ h. absurd (audit_no exit.LinkFault e (sym is_status ∙ h) (λ k. absurd cc) (λ k. absurd cc) (λ k. absurd cc) (λ k. absurd cc) (λ k. absurd cc) (λ k. absurd cc));
    host_fault = λ h. absurd (audit_no exit.HostFault e (sym is_status ∙ h) (λ k. absurd cc) (λ k. absurd cc) (λ k. absurd cc) (λ k. absurd cc) (λ k. absurd cc) (λ k. absurd cc));
    read_later = audited.read_later;
    wrote_later = audited.wrote_later;
    host_later = omega arith;
    children = refl;
  }
