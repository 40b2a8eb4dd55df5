use Rattle.std.proofs.Common.{◌≡◌, ◌++◌, map, take, drop}
use Rattle.peer_finder.specs.declared.Peer.{Peer}
use Rattle.peer_finder.specs.Peers.{unanswered}
use Rattle.peer_finder.proofs.forget_one.Given as goal

abbrev pub invariant-loop-peer : goal.invariant-loop-peer
invariant-loop-peer l =
    let f : Peer → Peer = λ (p : Peer). unanswered l.id p in
    map f l.initial.peer-items ≡ take l.peer-index l.peer-items ++ map f (drop l.peer-index l.peer-items)
