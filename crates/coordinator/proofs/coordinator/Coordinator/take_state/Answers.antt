use Rattle.std.proofs.Common.{ap, ◌∙◌}
use Rattle.std.specs.Prelude.{is_ok}
use Rattle.cluster_state.specs.declared.state.ClusterState.{ClusterState}
use Rattle.coordinator.proofs.Accepting.{published_whole, published_struck}
use Rattle.coordinator.proofs.Composing.{ready_then}
use Rattle.coordinator.proofs.coordinator.Coordinator.take_state.Goals as goal

pub accept-requires-clause-ready : goal.accept-requires-clause-ready
accept-requires-clause-ready g c =
    ready_then g.K.Keeper c.args.self.now c.raise_term.new.self _ c.requires.ready c.in-Ok.ensures.does.goes

pub returns-in-Err : goal.returns-in-Err
returns-in-Err g c =
    record { does = published_struck g.K.Keeper c.args.self.now c.raise_term.new.self _ _ c.args.p c.args.state.state _ (ap (λ (x : ClusterState). x.term) (c.deref.ensures ∙ c.requires.entry)) c.in-Err.ensures.does }

pub returns-in-Ok : goal.returns-in-Ok
returns-in-Ok g c =
    record { does = published_whole g.K.Keeper c.args.self.now c.raise_term.new.self c.accept.new.self _ _ _ c.args.p c.args.state.state _ (is_ok c.accept.result) (ap (λ (x : ClusterState). x.term) (c.deref.ensures ∙ c.requires.entry)) c.in-Ok.ensures.does c.accept.ensures.does }
