use Rattle.std.proofs.Common.{◌≡◌, drop}
use Rattle.peer_finder.specs.Peers.{answer_in}
use Rattle.peer_finder.proofs.answer_among.Given as goal

abbrev pub invariant-loop-peer : goal.invariant-loop-peer
invariant-loop-peer l = answer_in (drop l.peer-index l.peers) l.id ≡ answer_in l.peers l.id
