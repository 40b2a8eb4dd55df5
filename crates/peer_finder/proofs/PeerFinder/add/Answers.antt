use Rattle.std.proofs.Common.{rules}
use Rattle.peer_finder.specs.Peers.{Added}
use Rattle.peer_finder.proofs.Members.{stands-Then}
use Rattle.peer_finder.proofs.PeerFinder.add.Goals as goal

pub returns-then-eq-clause-calls : goal.returns-then-eq-clause-calls
returns-then-eq-clause-calls c = λ calls stands. stands-Then c.args.self.now _ (Added c.args.id) (search rules) calls stands

pub returns-clause-calls : goal.returns-clause-calls
returns-clause-calls c = λ calls stands. stands-Then c.args.self.now _ (Added c.args.id) (search rules) calls stands
