use Rattle.std.proofs.Common.{◌≡◌, ◌∙◌, List, ap}
use Rattle.voting_config.specs.Ids.{Id, outside}
use Rattle.coord_state.specs.StandsFor.{fields_of}
use Rattle.policy_model.specs.NextState.{may_respond}
use Rattle.coordinator.proofs.Reaching.{both_are, first_is_none}
use Rattle.coordinator.proofs.coordinator.Coordinator.may_commit.Goals as goal

pub returns-then-is_quorum : goal.returns-then-is_quorum
returns-then-is_quorum g c =
    let targets = c.args.publication.now.targets in
    let removals = c.args.self.now.tasks.removals in
    let gone : c.without-gone.result ≡ outside removals c.args.publication.now.responders =
    c.without-gone.ensures ∙ ap (λ (l : List Id). outside l c.sources-responders.result) c.removals.ensures ∙ ap (λ (l : List Id). outside removals l) (c.sources-responders.ensures ∙ c.responders.ensures) in
    let left : c.without-left.result ≡ may_respond c.args.publication.now removals =
    c.without-left.ensures ∙ ap (λ (l : List Id). outside l c.without-gone.result) c.targets.ensures ∙ ap (λ (l : List Id). outside targets l) gone in
    let node = fields_of g.K.Keeper c.args.self.now.core in
    both_are node.committed node.published_config (may_respond c.args.publication.now removals) _ _ _ _ _ c.committed.ensures c.published.ensures.config left c.is_quorum.ensures c.if-is_quorum.true c.is_quorum-then-is_quorum.ensures

pub returns-else-is_quorum : goal.returns-else-is_quorum
returns-else-is_quorum g c =
    let targets = c.args.publication.now.targets in
    let removals = c.args.self.now.tasks.removals in
    let gone : c.without-gone.result ≡ outside removals c.args.publication.now.responders =
    c.without-gone.ensures ∙ ap (λ (l : List Id). outside l c.sources-responders.result) c.removals.ensures ∙ ap (λ (l : List Id). outside removals l) (c.sources-responders.ensures ∙ c.responders.ensures) in
    let left : c.without-left.result ≡ may_respond c.args.publication.now removals =
    c.without-left.ensures ∙ ap (λ (l : List Id). outside l c.without-gone.result) c.targets.ensures ∙ ap (λ (l : List Id). outside targets l) gone in
    let node = fields_of g.K.Keeper c.args.self.now.core in
    first_is_none node.committed node.published_config (may_respond c.args.publication.now removals) _ _ _ c.committed.ensures left c.is_quorum.ensures c.if-is_quorum.false
