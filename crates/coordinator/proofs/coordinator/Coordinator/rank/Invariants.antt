use Rattle.std.proofs.Common.{◌≡◌, ◌≤◌, ◌+◌, length, drop}
use Rattle.std.specs.Prelude.{filter}
use Rattle.policy_model.specs.Elections.{comes_first}
use Rattle.coordinator.specs.Views.{view_in}
use Rattle.coordinator.proofs.coordinator.Coordinator.rank.Given as goal

abbrev pub invariant-loop-id : goal.invariant-loop-id
invariant-loop-id g l =
    (l.rank + length (filter (λ id. comes_first l.self.settings (view_in g.K.Keeper l.self) id) (drop l.id-index l.voters)) ≡ length (filter (λ id. comes_first l.self.settings (view_in g.K.Keeper l.self) id) l.voters))
    × (l.rank ≤ l.id-index)
