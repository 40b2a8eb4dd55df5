use Rattle.std.proofs.Common.{true}
use Rattle.coordinator.specs.Views.{view_in}
use Rattle.policy_model.specs.Doing.{raises_term}
use Rattle.policy_model.specs.Checks.{follows_checker}
use Rattle.coordinator.proofs.Composing.{ends_rule, fails_before}
use Rattle.coordinator.proofs.coordinator.Coordinator.follow_later.Goals as goal

pub returns-in-Ok : goal.returns-in-Ok
returns-in-Ok g c =
    record { does = ends_rule g.K.Keeper c.args.self.now c.raise_term.new.self c.follow_checker.new.self _ _ _ _ (λ s v. follows_checker s v c.args.leader) true c.in-Ok.ensures.does c.follow_checker.ensures.does }

pub returns-in-Err : goal.returns-in-Err
returns-in-Err g c =
    record { does = fails_before g.K.Keeper c.args.self.now c.raise_term.new.self _ _ (raises_term c.args.self.now.settings (view_in g.K.Keeper c.args.self.now) c.args.leader c.args.term) _ c.in-Err.ensures.does }
