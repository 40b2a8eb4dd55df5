use Rattle.std.proofs.Common.{rules}
use Rattle.peer_finder.specs.Peers.{Held}
use Rattle.peer_finder.proofs.Members.{stands-Then}
use Rattle.peer_finder.proofs.PeerFinder.hold.Goals as goal

pub returns-clause-calls : goal.returns-clause-calls
returns-clause-calls c = λ calls stands. stands-Then c.args.self.now _ (Held c.args.now c.args.wait) (search rules) calls stands
