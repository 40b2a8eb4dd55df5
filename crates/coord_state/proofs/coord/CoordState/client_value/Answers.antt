use Rattle.std.proofs.Common.{◌≡◌, ◌∙◌, ap, subst, sym, refl, List, arith}
use Rattle.voting_config.specs.Ids.{Id}
use Rattle.cluster_state.specs.declared.state.ClusterState.{ClusterState}
use Rattle.cluster_state.specs.declared.messages.PublishRequest.{PublishRequest}
use Rattle.world_model.specs.declared.acts.Act.TheVariants as act
use Rattle.world_model.specs.declared.acts.ActReply.TheVariants.{Refused}
use Rattle.world_model.specs.declared.acts.Cause.TheVariants.{Value as ValueRefused}
use Rattle.world_model.specs.declared.acts.Outcome.TheVariants.{Answered}
use Rattle.coord_state.specs.Outcomes.{sends_request}
use Rattle.coord_state.specs.StandsFor.{Acts, acts, fields_of, request_of}
use Rattle.coord_state.proofs.Values.{refused_value}
use Rattle.coord_state.proofs.coord.CoordState.client_value.Goals as goal

pub returns-clause-act : goal.returns-clause-act
returns-clause-act g c =
    let old = c.args.self.now in
    let new = c.begin_value.new.self in
    let request = c.in_ok-request.request in
    let is_config : c.deref.result.now.config ≡ c.args.config =
    ap (λ (s : ClusterState). s.config) c.deref.ensures ∙ ap (λ (r : PublishRequest). r.state.config) c.in_ok-request.ensures in
    subst (λ (r : PublishRequest). Acts g.K.Keeper old new (act.Value c.args.version c.args.config c.args.value) (Answered (sends_request r))) (sym c.in_ok-request.ensures)
    (subst (λ (config : List Id). Acts g.K.Keeper old new (act.Value c.args.version config c.args.value) (Answered (sends_request (request_of g.K.Keeper old c.args.version config c.args.value)))) is_config
    (c.begin_value.ensures.act c.args.value))

pub returns-in-Err-clause-act : goal.returns-in-Err-clause-act
returns-in-Err-clause-act g c =
    let old = c.args.self.now in
    let answers =
    refused_value old.me (fields_of g.K.Keeper old) c.args.version c.args.config c.args.value c.in-Err.cause (sym c.stopped.ensures ∙ c.if-stopped.false) (sym c.value_check.ensures ∙ c.in-Err.is) in
    acts g.K.Keeper old old (act.Value c.args.version c.args.config c.args.value) (Answered (Refused (ValueRefused c.in-Err.cause))) refl
    (record { me = refl; answers = answers; after = refl; runs = refl; later = omega arith; fault = λ is. cc })
