use Rattle.std.proofs.Common.{◌∙◌}
use Rattle.peer_finder.proofs.Members.{known-stands}
use Rattle.peer_finder.proofs.PeerFinder.known.Goals as goal

pub returns-clause-calls : goal.returns-clause-calls
returns-clause-calls c = λ calls stands. c.as_slice.ensures.value ∙ c.self.invariant ∙ known-stands _ calls (c.self.view_is ∙ stands)
