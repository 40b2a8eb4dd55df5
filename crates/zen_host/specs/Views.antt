-- Part of the statement: what a host tells, as one value.
use Rattle.std.specs.Prelude.{ℕ, Option, List}
use Rattle.zen_host.specs.HostCalls.{HostCall}
use Rattle.zen_host.specs.declared.host.Host.{Ghosts as Hosts}

-- What a host tells: the calls made, the disk and the link that it has ready and those that were given back last; how many children are
-- held, which were spawned and given neither to a wait nor to a kill; and how many faults there were.
pub record HostView (D L : Type 0) : Type 0 where
  pub calls : Option (List HostCall)
  pub disk_ready : Option D
  pub disk_back : Option D
  pub link_ready : Option L
  pub link_back : Option L
  pub held : ℕ
  pub faults : ℕ

abbrev pub host_view : {H In Out Disk Link Child Sent : Type 0} → Hosts H In Out Disk Link Child Sent → H → HostView Disk Link
host_view h host = record {
  calls = h.calls host;
  disk_ready = h.disk_ready host;
  disk_back = h.disk_back host;
  link_ready = h.link_ready host;
  link_back = h.link_back host;
  held = h.held host;
  faults = h.faults host;
}
