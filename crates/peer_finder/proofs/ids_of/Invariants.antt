use Rattle.std.proofs.Common.{◌≡◌, ◌++◌, length, drop}
use Rattle.peer_finder.specs.Peers.{ids_of}
use Rattle.peer_finder.proofs.ids_of.Given as goal

abbrev pub invariant-loop-peer : goal.invariant-loop-peer
invariant-loop-peer l =
    (l.ids.items ++ ids_of (drop l.peer-index l.peers) ≡ ids_of l.peers) × (length l.ids.items ≡ l.peer-index)
