use Rattle.std.proofs.Common.{true}
use Rattle.policy_model.specs.Discovery.{answers_peers}
use Rattle.coordinator.proofs.Composing.{ends_rule}
use Rattle.coordinator.proofs.coordinator.Coordinator.on_peers_ask.Goals as goal

pub returns : goal.returns
returns g c =
    record { does = ends_rule g.K.Keeper c.args.self.now c.meet.new.self c.meet.new.self _ _ _ _ (λ s v. answers_peers s v c.args.from) true (c.meet.ensures.does c.args.out.now) c.answer_peers.ensures.does }
