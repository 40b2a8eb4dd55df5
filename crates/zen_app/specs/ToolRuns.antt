-- Part of the statement: what a run of `unsafe-bootstrap` or `detach-cluster` does.
use Rattle.std.specs.Prelude.{◌≡◌, ℕ, List}
use Rattle.zen_disk.specs.declared.disks.Disks.{Ghosts as Disks}
use Rattle.zen_host.specs.Views.{HostView}
use Rattle.journal_inspection.specs.Inspects.{LeavesLinks}
use Rattle.node_tool.specs.Runs.{Asked, EndsWith, IsComplete}
use Rattle.node_tool.specs.declared.running.ToolEnd.{ToolEnd}
use Rattle.node_tool.specs.declared.tool.Tool.{Tool}
use Rattle.zen_app.specs.Codes.{status_of_tool}
use Rattle.zen_link.specs.Views.{SinkView}
use Rattle.zen_app.specs.declared.status.Status.{Status}

-- What the host was asked, what the tool made of the disk that it gave and what was written of it, and that a record is changed or refused
-- where nothing fails. With status 0 whatever a crash leaves of the disk that is given back stands for the new record, with ToolRefused for
-- the old one; and at any moment a crash leaves what might have been found before, or the new record (`Used`).
pub record ToolRun {D L : Type 0} (d : Disks D) (tool : Tool) (dir : List ℕ) (host host_now : HostView D L) (sink sink_now : SinkView)
    (status : Status) : Type 0 where
  pub end : ToolEnd
  pub is_status : status ≡ status_of_tool end
  pub asked : Asked dir host.calls host_now.calls end
  pub ended : EndsWith d tool host host_now sink.written sink_now.written sink.faults sink_now.faults end
  pub complete : IsComplete d tool host host_now sink.faults sink_now.faults end
  pub links : LeavesLinks host host_now
