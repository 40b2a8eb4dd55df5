use Rattle.std.proofs.Common.{◌∙◌, ap, List}
use Rattle.peer_finder.specs.declared.Peer.{Peer}
use Rattle.peer_finder.specs.Peers.{answer_in}
use Rattle.peer_finder.proofs.Members.{answer_in-known}
use Rattle.peer_finder.proofs.PeerFinder.found.Goals as goal

pub returns-clause-calls : goal.returns-clause-calls
returns-clause-calls c = λ calls stands.
    c.answer_among.ensures
    ∙ ap (λ (ps : List Peer). answer_in ps c.args.id) c.as_slice.ensures.value
    ∙ answer_in-known _ c.args.id calls (c.self.view_is ∙ stands)
