use Rattle.std.proofs.Common.{rules, ◌≡◌}
use Rattle.coordinator.specs.Views.{view_in}
use Rattle.coordinator.proofs.Planning.{planned_first}
use Rattle.coordinator.proofs.coordinator.Coordinator.plan_bootstrap.Goals as goal

pub returns-in_ok-first-in-Some : goal.returns-in_ok-first-in-Some
returns-in_ok-first-in-Some g c =
    let first = c.in_ok-first-in-Some.first in
    let config : first.config ≡ c.in-Some.config = search rules in
    planned_first c.args.self.now.settings (view_in g.K.Keeper c.args.self.now) first c.in-Some.config c.answered_set-known.result c.accepted.result.now c.is_empty-has_config.result c.decide.result c.answered_set-known.ensures.value c.accepted.ensures.accepted c.is_empty-has_config.ensures c.decide.ensures c.in-Some.is config (search rules)
