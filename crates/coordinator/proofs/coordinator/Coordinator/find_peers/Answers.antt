use Rattle.std.proofs.Common.{true}
use Rattle.coordinator.specs.Views.{view_in}
use Rattle.policy_model.specs.Discovery.{asks_peers}
use Rattle.policy_model.specs.Elections.{bootstraps}
use Rattle.coordinator.proofs.Composing.{ends_rule, fails_before}
use Rattle.coordinator.proofs.Discovering.{asks_kept}
use Rattle.coordinator.proofs.coordinator.Coordinator.find_peers.Goals as goal

pub ask_peers-requires-clause-asks : goal.ask_peers-requires-clause-asks
ask_peers-requires-clause-asks g c =
    asks_kept g.K.Keeper c.args.self.now c.bootstrap.new.self c.args.asks c.bootstrap.ensures.rest c.requires.asks

pub returns-in-Ok-clause-does : goal.returns-in-Ok-clause-does
returns-in-Ok-clause-does g c =
    ends_rule g.K.Keeper c.args.self.now c.bootstrap.new.self c.ask_peers.new.self _ _ _ _ asks_peers true c.in-Ok.ensures.does c.ask_peers.ensures.does

pub returns-in-Err-clause-does : goal.returns-in-Err-clause-does
returns-in-Err-clause-does g c =
    fails_before g.K.Keeper c.args.self.now c.bootstrap.new.self _ _ (bootstraps c.args.self.now.settings (view_in g.K.Keeper c.args.self.now)) _ c.in-Err.ensures.does
