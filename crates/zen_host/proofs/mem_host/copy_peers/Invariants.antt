use Rattle.std.proofs.Common.{◌≡◌, take, map}
use Rattle.zen_host.specs.HostCalls.{told_peer}
use Rattle.zen_host.proofs.mem_host.copy_peers.Given as goal

abbrev pub invariant-loop-peer : goal.invariant-loop-peer
invariant-loop-peer l = map told_peer l.copies.items ≡ map told_peer (take l.peer-index l.peers)
