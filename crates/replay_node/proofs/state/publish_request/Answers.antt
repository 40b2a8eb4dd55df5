use Rattle.std.proofs.Common.{refl, ◌≡◌, Err, ap, subst, rules}
use Rattle.cluster_state.specs.declared.messages.PublishRequest.{PublishRequest}
use Rattle.cluster_state.specs.declared.state.ClusterState.{ClusterState}
use Rattle.coord_state.specs.Checks.{Foretells}
use Rattle.coord_state.specs.StandsFor.{fields_of}
use Rattle.coord_state.specs.declared.coord.CoordState.{CoordState}
use Rattle.world_model.specs.declared.acts.Act.TheVariants as act
use Rattle.world_model.specs.declared.acts.Outcome.{Outcome}
use Rattle.world_model.specs.Replies.{reply_at}
use Rattle.replay_node.specs.Did.{outcome_of}
use Rattle.replay_node.specs.Stands.{Journal, journal_ghosts}
use Rattle.replay_node.proofs.StateSteps.{Step, taken_does, told_does, refused_step}
use Rattle.replay_node.proofs.state.publish_request.Goals as goal

-- the request that is taken is the one that was published
same_step : (old new : CoordState Journal) (taken published : PublishRequest) (o : Outcome) → taken ≡ published → Step old new (act.Publish taken) o → Step old new (act.Publish published) o
same_step old new taken published o same step = subst (λ (r : PublishRequest). Step old new (act.Publish r) o) same step

pub returns-in-Err-clause-does : goal.returns-in-Err-clause-does
returns-in-Err-clause-does c =
    let old = c.args.state.now in
    let request = c.args.publication.now in
    let shown : c.deref.result.now ≡ request.state = search rules in
    let told =
    subst (λ (s : ClusterState). Foretells (Err c.in-Err.error) (reply_at old.me (fields_of journal_ghosts old) (act.Publish (record { source = request.source; state = s })))) shown (c.in-Err.ensures request.source) in
    told_does old old (act.Publish request) c.not_taken.result _ refl c.not_taken.ensures (refused_step old request c.in-Err.error told) c.ended.result c.ended.ensures

pub returns-in-Ok-clause-does : goal.returns-in-Ok-clause-does
returns-in-Ok-clause-does c =
    taken_does c.args.state.now c.publish_request.new.self (act.Publish c.args.publication.now) _ c.sends.result refl
    (same_step _ _ _ c.args.publication.now _ (λ i. record { source = c.source.ensures i; state = c.in_ok-ready.ensures i })
    (record { acts = c.in-Ok.ensures.act; wrote = c.in-Ok.ensures.wrote; any_moment = c.in-Ok.ensures.any_moment tt }))
    (ap outcome_of c.sends.ensures)

pub returns-in-Err-publish_request-clause-does : goal.returns-in-Err-publish_request-clause-does
returns-in-Err-publish_request-clause-does c =
    told_does c.args.state.now c.publish_request.new.self (act.Publish c.args.publication.now) c.not_taken-in-Err-publish_request.result _ refl c.not_taken-in-Err-publish_request.ensures
    (same_step _ _ _ c.args.publication.now _ (λ i. record { source = c.source.ensures i; state = c.in_ok-ready.ensures i })
    (record { acts = c.in-Err-publish_request.ensures.act; wrote = c.in-Err-publish_request.ensures.wrote; any_moment = c.in-Err-publish_request.ensures.any_moment tt }))
    c.ended-in-Err-publish_request.result c.ended-in-Err-publish_request.ensures
