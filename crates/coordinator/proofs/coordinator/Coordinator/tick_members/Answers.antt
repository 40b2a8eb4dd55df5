use Rattle.std.proofs.Common.{true}
use Rattle.policy_model.specs.Checks.{checks_followers}
use Rattle.coordinator.proofs.Composing.{ends_rule}
use Rattle.coordinator.proofs.coordinator.Coordinator.tick_members.Goals as goal

pub returns-clause-does : goal.returns-clause-does
returns-clause-does g c =
    ends_rule g.K.Keeper c.args.self.now c.time_out_exclusions.new.self c.check_followers.new.self _ _ _ _ checks_followers true c.time_out_exclusions.ensures.does c.check_followers.ensures.does
