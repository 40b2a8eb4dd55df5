use Rattle.std.proofs.Common.{arith}
use Rattle.peer_finder.specs.declared.Peer.{Peer}
use Rattle.peer_finder.specs.Peers.{unanswered}
use Rattle.voting_config.proofs.Refilled.{map-step}
use Rattle.peer_finder.proofs.forget_one.Goals as goal

pub loop-peer-preserved : goal.loop-peer-preserved
loop-peer-preserved c =
    map-step (λ (p : Peer). unanswered c.args.id p) _ c.loop-peer.peer-items c.loop-peer.peer-index c.peer-item.result c.unanswered.result (omega arith) c.unanswered.ensures c.loop-peer.invariant
