use Rattle.std.proofs.Common.{add-zero, refl, sym, ◌∙◌}
use Rattle.peer_finder.specs.declared.Peer.{Peer}
use Rattle.peer_finder.specs.Peers.{Disconnected, unanswered}
use Rattle.peer_finder.proofs.Members.{stands-Then, ids_of-unanswered}
use Rattle.voting_config.proofs.Refilled.{refill-map}
use Rattle.peer_finder.proofs.PeerFinder.disconnected.Goals as goal

pub invariant_of-self : goal.invariant_of-self
invariant_of-self c =
    let whole = refill-map (λ (p : Peer). unanswered c.args.id p) c.self.inside.peers.items c.as_mut_slice.result.now c.forget_one.new.peers c.as_mut_slice.ensures.value c.forget_one.ensures in
    rw whole (c.self.invariant ∙ sym (ids_of-unanswered c.args.id c.self.inside.peers.items))

pub returns-clause-now : goal.returns-clause-now
returns-clause-now c =
    let whole = refill-map (λ (p : Peer). unanswered c.args.id p) c.self.inside.peers.items c.as_mut_slice.result.now c.forget_one.new.peers c.as_mut_slice.ensures.value c.forget_one.ensures in
    rw (← c.self.view_is) (rw (whole, add-zero) refl)

pub returns-clause-calls : goal.returns-clause-calls
returns-clause-calls c = λ calls stands. stands-Then c.args.self.now _ (Disconnected c.args.id c.args.now) (returns-clause-now c) calls stands
