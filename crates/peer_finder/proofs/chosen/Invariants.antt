use Rattle.std.proofs.Common.{◌≡◌, ◌≤◌, ◌++◌, length, drop}
use Rattle.std.specs.Prelude.{filter}
use Rattle.peer_finder.specs.declared.Peer.{Peer}
use Rattle.peer_finder.specs.Choices.{is_chosen}
use Rattle.peer_finder.proofs.chosen.Given as goal

abbrev pub invariant-loop-peer : goal.invariant-loop-peer
invariant-loop-peer l =
    (l.kept.items ++ filter (λ (p : Peer). is_chosen l.choice p) (drop l.peer-index l.peers) ≡ filter (λ (p : Peer). is_chosen l.choice p) l.peers)
    × (length l.kept.items ≤ l.peer-index)
