use Rattle.std.proofs.Common.{◌≡◌, take, map}
use Rattle.zen_app.proofs.serving.ids.Given as goal

abbrev pub invariant-loop-peer : goal.invariant-loop-peer
invariant-loop-peer l = l.ids.items ≡ map (λ p. p.id) (take l.peer-index l.peers)
