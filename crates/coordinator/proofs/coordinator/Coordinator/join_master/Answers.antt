use Rattle.std.specs.Prelude.{is_ok}
use Rattle.policy_model.specs.Discovery.{seeks_master}
use Rattle.coordinator.proofs.Composing.{ends_rule, ready_then}
use Rattle.coordinator.proofs.coordinator.Coordinator.join_master.Goals as goal

pub seek_master-requires-clause-ready : goal.seek_master-requires-clause-ready
seek_master-requires-clause-ready g c =
    ready_then g.K.Keeper c.args.self.now c.hear.new.self _ c.requires.ready (c.hear.ensures.does c.args.out.now).goes

pub returns-clause-does : goal.returns-clause-does
returns-clause-does g c =
    ends_rule g.K.Keeper c.args.self.now c.hear.new.self c.seek_master.new.self _ _ _ _ (λ s v. seeks_master s v c.args.answer.now.from c.args.answer.now.master c.args.answer.now.term) (is_ok c.seek_master.result) (c.hear.ensures.does c.args.out.now) c.seek_master.ensures.does
