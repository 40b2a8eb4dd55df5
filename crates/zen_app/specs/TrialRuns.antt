-- Part of the statement: what a run of `trial` does.
use Rattle.std.specs.Prelude.{◌≡◌}
use Rattle.command_line.specs.declared.command.TrialWords.{TrialWords}
use Rattle.zen_host.specs.Views.{HostView}
use Rattle.journal_inspection.specs.Inspects.{LeavesLinks}
use Rattle.node_trial.specs.declared.running.TrialEnd.{TrialEnd}
use Rattle.node_trial.specs.Nodes.{ToldTrial}
use Rattle.node_trial.specs.Trials.{Tried}
use Rattle.zen_app.specs.Codes.{status_of_trial}
use Rattle.zen_link.specs.Views.{SinkView}
use Rattle.zen_app.specs.declared.status.Status.{Status}

-- what is tried by the words
abbrev pub trial_by : TrialWords → ToldTrial
trial_by w = record { program = w.program; dir = w.dir; port = w.port; turns = w.turns }

-- the calls that were made, and what was written; no disk and no link was given or given back
pub record TrialRun {D L : Type 0} (w : TrialWords) (host host_now : HostView D L) (sink sink_now : SinkView)
    (status : Status) : Type 0 where
  pub end : TrialEnd
  pub is_status : status ≡ status_of_trial end
  pub tried : Tried (trial_by w) host.calls host_now.calls sink.written sink_now.written end
  pub disk_ready : host_now.disk_ready ≡ host.disk_ready
  pub disk_back : host_now.disk_back ≡ host.disk_back
  pub links : LeavesLinks host host_now
