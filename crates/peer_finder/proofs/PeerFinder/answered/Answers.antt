use Rattle.std.proofs.Common.{refl, sym, ◌∙◌}
use Rattle.peer_finder.specs.declared.Peer.{Peer}
use Rattle.peer_finder.specs.Peers.{Answered, with_answer}
use Rattle.peer_finder.proofs.Members.{stands-Then, ids_of-with_answer}
use Rattle.voting_config.proofs.Refilled.{refill-map}
use Rattle.peer_finder.proofs.PeerFinder.answered.Goals as goal

pub invariant_of-self : goal.invariant_of-self
invariant_of-self c =
    let whole = refill-map (λ (p : Peer). with_answer c.args.id c.args.master p) c.self.inside.peers.items c.as_mut_slice.result.now c.answer_all.new.peers c.as_mut_slice.ensures.value c.answer_all.ensures in
    rw whole (c.self.invariant ∙ sym (ids_of-with_answer c.args.id c.args.master c.self.inside.peers.items))

pub returns-clause-now : goal.returns-clause-now
returns-clause-now c =
    let whole = refill-map (λ (p : Peer). with_answer c.args.id c.args.master p) c.self.inside.peers.items c.as_mut_slice.result.now c.answer_all.new.peers c.as_mut_slice.ensures.value c.answer_all.ensures in
    rw (← c.self.view_is) (rw whole refl)

pub returns-clause-calls : goal.returns-clause-calls
returns-clause-calls c = λ calls stands. stands-Then c.args.self.now _ (Answered c.args.id c.args.master) (returns-clause-now c) calls stands
