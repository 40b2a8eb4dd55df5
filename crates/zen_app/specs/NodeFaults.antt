-- Part of the statement: what the parts of a run of `node` say of faults.
use Rattle.std.specs.Prelude.{◌≡◌, ◌≤◌, ℕ, Option, Some}
use Rattle.zen_disk.specs.Faults.{Rose}
use Rattle.zen_host.specs.declared.host.HostError.{HostError}
use Rattle.zen_host.specs.declared.host.HostError.TheVariants as host
use Rattle.zen_app.specs.declared.status.Status.{Status}
use Rattle.zen_app.specs.declared.status.Status.TheVariants as exit

-- the disk or the link that was given back last has counted a fault; a host gives one that has counted none
pub record Failed {X : Type 0} (count : X → ℕ) (back : Option X) : Type 0 where
  pub given_back : X
  pub is_back : back ≡ Some given_back
  pub rose : Rose 0 (count given_back)

-- ---- not part of the statement

-- the status where a host refused
abbrev pub status_by : HostError → Status
status_by host.Failed = exit.HostFault
status_by host.Memory = exit.NoMemory

-- a status names the object that failed
pub record NodeFaults {D L : Type 0} (disk_faults : D → ℕ) (link_faults : L → ℕ) (disk_back : Option D) (link_back : Option L)
    (host host_now sink sink_now : ℕ) (status : Status) : Type 0 where
  pub read_fault : status ≡ exit.ReadFault → ⊥
  pub write_fault : status ≡ exit.WriteFault → Rose sink sink_now
  pub disk_fault : status ≡ exit.DiskFault → Failed disk_faults disk_back
  pub link_fault : status ≡ exit.LinkFault → Failed link_faults link_back
  pub host_fault : status ≡ exit.HostFault → Rose host host_now
  pub wrote_later : sink ≤ sink_now
  pub host_later : host ≤ host_now
