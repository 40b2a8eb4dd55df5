use Rattle.std.proofs.Common.{arith}
use Rattle.peer_finder.specs.declared.Peer.{Peer}
use Rattle.peer_finder.specs.Peers.{with_answer}
use Rattle.voting_config.proofs.Refilled.{map-step}
use Rattle.peer_finder.proofs.answer_all.Goals as goal

pub loop-peer-preserved : goal.loop-peer-preserved
loop-peer-preserved c =
    map-step (λ (p : Peer). with_answer c.args.id c.args.master p) _ c.loop-peer.peer-items c.loop-peer.peer-index c.peer-item.result c.with_answer.result (omega arith) c.with_answer.ensures c.loop-peer.invariant
