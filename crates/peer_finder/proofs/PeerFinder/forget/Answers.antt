use Rattle.std.proofs.Common.{rules}
use Rattle.peer_finder.specs.Peers.{Forgotten}
use Rattle.peer_finder.proofs.Members.{stands-Then}
use Rattle.peer_finder.proofs.PeerFinder.forget.Goals as goal

pub returns-clause-calls : goal.returns-clause-calls
returns-clause-calls c = λ calls stands. stands-Then c.args.self.now _ (Forgotten c.args.id) (search rules) calls stands
