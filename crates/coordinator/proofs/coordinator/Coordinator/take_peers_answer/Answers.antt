use Rattle.std.specs.Prelude.{is_ok}
use Rattle.policy_model.specs.Discovery.{hears_peer}
use Rattle.coordinator.proofs.Composing.{ends_rule, ready_then}
use Rattle.coordinator.proofs.coordinator.Coordinator.take_peers_answer.Goals as goal

pub hear_peer-requires-clause-ready : goal.hear_peer-requires-clause-ready
hear_peer-requires-clause-ready g c =
    ready_then g.K.Keeper c.args.self.now c.meet.new.self _ c.requires.ready (c.meet.ensures.does c.args.out.now).goes

pub returns : goal.returns
returns g c =
    record { does = ends_rule g.K.Keeper c.args.self.now c.meet.new.self c.hear_peer.new.self _ _ _ _ (λ s v. hears_peer s v c.args.answer.now.from c.args.answer.now.master c.args.answer.now.term) (is_ok c.hear_peer.result) (c.meet.ensures.does c.args.out.now) c.hear_peer.ensures.does }
