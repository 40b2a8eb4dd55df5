use Rattle.std.proofs.Common.{◌≡◌, drop}
use Rattle.std.specs.List.{list_any}
use Rattle.voting_config.specs.Ids.{same}
use Rattle.command_line.proofs.lists.has_peer.Given as goal

abbrev pub invariant-loop-peer : goal.invariant-loop-peer
invariant-loop-peer l = list_any (λ p. same p.id l.id) l.peers ≡ list_any (λ p. same p.id l.id) (drop l.peer-index l.peers)
