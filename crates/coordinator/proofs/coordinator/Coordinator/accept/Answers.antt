use Rattle.std.proofs.Common.{sym, ap, ◌∙◌}
use Rattle.cluster_state.specs.declared.state.ClusterState.{ClusterState}
use Rattle.cluster_state.specs.States.{id_of}
use Rattle.coordinator.proofs.Accepting.{accepts_taken, accepts_refused, accepts_struck}
use Rattle.coordinator.proofs.coordinator.Coordinator.accept.Goals as goal

pub returns-in-Err : goal.returns-in-Err
returns-in-Err g c =
    record { does = accepts_struck g.K.Keeper c.args.self.now c.act_publish.new.self _ _ c.args.p c.args.state.state c.in-Err.ensures.does }

pub returns-then-taken : goal.returns-then-taken
returns-then-taken g c =
    record { does = accepts_taken g.K.Keeper c.args.self.now c.act_publish.new.self c.respond.new.self _ _ _ c.args.p c.args.state.state _ (c.id-id.ensures ∙ ap (λ (x : ClusterState). id_of x) (c.deref.ensures ∙ c.requires.entry)) (sym c.in-Ok.ensures.taken ∙ c.if-taken.true) c.in-Ok.ensures.does c.respond.ensures.does }

pub returns-else-taken : goal.returns-else-taken
returns-else-taken g c =
    record { does = accepts_refused g.K.Keeper c.args.self.now c.act_publish.new.self _ _ c.args.p c.args.state.state (sym c.in-Ok.ensures.taken ∙ c.if-taken.false) c.in-Ok.ensures.does }
