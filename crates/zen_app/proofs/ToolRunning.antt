-- How a run of a tool ends, and which faults it met.
use Rattle.std.proofs.Common.{◌≡◌, ℕ, ◌≤◌, Option, List, refl, sym, subst, inl}
use Rattle.zen_disk.specs.Faults.{Rose}
use Rattle.zen_disk.specs.declared.disks.Disks.{Ghosts as Disks}
use Rattle.zen_link.proofs.Appending.{appended_none}
use Rattle.zen_host.specs.Views.{HostView}
use Rattle.node_tool.specs.Runs.{Used, EndsWith}
use Rattle.node_tool.specs.declared.running.ToolEnd.{ToolEnd}
use Rattle.node_tool.specs.declared.running.ToolEnd.TheVariants as end
use Rattle.node_tool.specs.declared.tool.Tool.{Tool}
use Rattle.node_tool.specs.declared.using.Tooled.TheVariants as tooled
use Rattle.zen_app.specs.Codes.{status_of_tool}
use Rattle.zen_app.specs.NodeFaults.{Failed, NodeFaults}
use Rattle.zen_app.specs.ToolRuns.{ToolRun}
use Rattle.zen_link.specs.Views.{SinkView}
use Rattle.zen_app.specs.declared.status.Status.{Status}
use Rattle.zen_app.specs.declared.status.Status.TheVariants as exit

module _ {D L : Type 0} (d : Disks D) (tool : Tool) where
  -- no memory was found before the host was asked
  pub nothing_used : (dir : List ℕ) (host : HostView D L) (sink : SinkView) → ToolRun d tool dir host host sink sink exit.NoMemory
  nothing_used dir host sink = record {
    end = end.NoMemory;
    is_status = refl;
    asked = inl refl;
    ended = (inl (record { calls = refl; back = refl }), appended_none sink.written);
    complete = λ disk ready t kept found no_host no_write no_disk. inl refl;
    links = record { ready = refl; back = refl };
  }

module _ {D L : Type 0} (d : Disks D) (link_faults : L → ℕ) (tool : Tool) (host host_now : HostView D L) (was now : Option (List ℕ)) (wrote wrote_now : ℕ) (wrote_later : wrote ≤ wrote_now) (host_later : host.faults ≤ host_now.faults) where
  disk_failed : Used d tool host host_now tooled.Disk → Failed d.faults host_now.disk_back
  disk_failed u = record { given_back = u.back; is_back = u.is_back; rose = subst (λ (n : ℕ). Rose n (d.faults u.back)) u.fresh u.uses }

  -- a status names the object that failed
  tool_faults : (e : ToolEnd) → EndsWith d tool host host_now was now wrote wrote_now e
      → NodeFaults d.faults link_faults host_now.disk_back host_now.link_back host.faults host_now.faults wrote wrote_now (status_of_tool e)
  tool_faults end.Done ended = record {
    read_fault = λ h. absurd cc;
    write_fault = λ h. absurd cc;
    disk_fault = λ h. absurd cc;
    link_fault = λ h. absurd cc;
    host_fault = λ h. absurd cc;
    wrote_later = wrote_later;
    host_later = host_later;
  }
  tool_faults end.Refused ended = record {
    read_fault = λ h. absurd cc;
    write_fault = λ h. absurd cc;
    disk_fault = λ h. absurd cc;
    link_fault = λ h. absurd cc;
    host_fault = λ h. absurd cc;
    wrote_later = wrote_later;
    host_later = host_later;
  }
  tool_faults end.NotAJournal ended = record {
    read_fault = λ h. absurd cc;
    write_fault = λ h. absurd cc;
    disk_fault = λ h. absurd cc;
    link_fault = λ h. absurd cc;
    host_fault = λ h. absurd cc;
    wrote_later = wrote_later;
    host_later = host_later;
  }
  tool_faults end.NoMemory ended = record {
    read_fault = λ h. absurd cc;
    write_fault = λ h. absurd cc;
    disk_fault = λ h. absurd cc;
    link_fault = λ h. absurd cc;
    host_fault = λ h. absurd cc;
    wrote_later = wrote_later;
    host_later = host_later;
  }
  tool_faults end.WriteFault ended = record {
    read_fault = λ h. absurd cc;
    write_fault = λ h. ended.3;
    disk_fault = λ h. absurd cc;
    link_fault = λ h. absurd cc;
    host_fault = λ h. absurd cc;
    wrote_later = wrote_later;
    host_later = host_later;
  }
  tool_faults end.DiskFault ended = record {
    read_fault = λ h. absurd cc;
    write_fault = λ h. absurd cc;
    disk_fault = λ h. disk_failed ended.0;
    link_fault = λ h. absurd cc;
    host_fault = λ h. absurd cc;
    wrote_later = wrote_later;
    host_later = host_later;
  }
  tool_faults end.HostFault ended = record {
    read_fault = λ h. absurd cc;
    write_fault = λ h. absurd cc;
    disk_fault = λ h. absurd cc;
    link_fault = λ h. absurd cc;
    host_fault = λ h. ended.0;
    wrote_later = wrote_later;
    host_later = host_later;
  }

  pub faults_by : (e : ToolEnd) (status : Status) → status ≡ status_of_tool e → EndsWith d tool host host_now was now wrote wrote_now e
      → NodeFaults d.faults link_faults host_now.disk_back host_now.link_back host.faults host_now.faults wrote wrote_now status
  faults_by e status is ended = subst (NodeFaults d.faults link_faults host_now.disk_back host_now.link_back host.faults host_now.faults wrote wrote_now) (sym is) (tool_faults e ended)
