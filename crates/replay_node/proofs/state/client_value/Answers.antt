use Rattle.std.proofs.Common.{◌≡◌, ◌≤◌, ◌<◌, arith, ℕ, Bool, true, false, cond, not, nat_eq, nat_le, nat_lt, Option, Some, List, refl, ap, ◌∙◌}
use Rattle.std.proofs.lemmas.Bool.{leb-false, ltb-false, eqb-true, not-false}
use Rattle.cluster_state.specs.Field.{last_number}
use Rattle.voting_config.specs.Ids.{Id}
use Rattle.cluster_state.specs.Initial.{empty_value}
use Rattle.cluster_state.specs.Settings.{Setting}
use Rattle.cluster_state.specs.declared.messages.PublishRequest.{PublishRequest}
use Rattle.cluster_state.specs.declared.state.ClusterValue.{ClusterValue}
use Rattle.coord_state.specs.StandsFor.{fields_of, request_of}
use Rattle.world_model.specs.declared.acts.Act.TheVariants as act
use Rattle.world_model.specs.declared.acts.Message.{Message}
use Rattle.world_model.specs.declared.acts.Message.TheVariants.{Publish as PublishMessage}
use Rattle.world_model.specs.declared.acts.ActReply.{ActReply}
use Rattle.world_model.specs.declared.acts.ActReply.TheVariants.{Taken, Stopped}
use Rattle.world_model.specs.NodeState.{NodeState}
use Rattle.world_model.specs.Replies.{reply_at}
use Rattle.world_model.proofs.Guards.{past}
use Rattle.coord_state.specs.declared.coord.CoordState.{CoordState}
use Rattle.world_model.specs.declared.acts.Outcome.TheVariants.{Answered}
use Rattle.replay_node.specs.Did.{outcome_of}
use Rattle.replay_node.specs.Sent.{message_of}
use Rattle.replay_node.specs.Stands.{Journal, journal_ghosts}
use Rattle.replay_node.proofs.StateSteps.{taken_does, told_does}
use Rattle.replay_node.proofs.state.client_value.Goals as goal

-- past a test, where the act was taken

running : (b : Bool) (r : ActReply) (s : Option Message) (w : Bool) → Taken s w ≡ cond b Stopped r → Taken s w ≡ r
running true r s w h = cc
running false r s w h = h

-- the version of a value that is published
version_fits : (me : Id) (p : NodeState) (version : ℕ) (config : List Id) (value : ClusterValue) (request : PublishRequest)
    → Taken (Some (PublishMessage request)) false ≡ reply_at me p (act.Value version config value) → version ≤ last_number
version_fits me p version config value request h =
    let a = running p.halted _ _ _ h in
    let b = past (not p.election_won) _ _ _ _ a in
    let c = past (not (nat_eq p.published_version p.accepted.version)) _ _ _ _ b.1 in
    let d = past (nat_le version p.published_version) _ _ _ _ c.1 in
    let e = past (nat_lt last_number version) _ _ _ _ d.1 in
    ltb-false _ _ e.0

-- the value that has these settings and nothing else
abbrev with_settings : List Setting → ClusterValue
with_settings settings = record empty_value { settings = settings }

pub publication-requires-clause-version : goal.publication-requires-clause-version
publication-requires-clause-version c =
    let old = c.args.state.now in
    let request = request_of journal_ghosts old c.args.version c.args.config.now (with_settings c.args.settings) in
    version_fits old.me (fields_of journal_ghosts old) c.args.version c.args.config.now (with_settings c.args.settings) request (c.in-Ok.ensures.act (with_settings c.args.settings)).at.answers

-- its version is above that of the accepted state
version_above : (me : Id) (p : NodeState) (version : ℕ) (config : List Id) (value : ClusterValue) (request : PublishRequest)
    → Taken (Some (PublishMessage request)) false ≡ reply_at me p (act.Value version config value) → p.accepted.version < version
version_above me p version config value request h =
    let a = running p.halted _ _ _ h in
    let b = past (not p.election_won) _ _ _ _ a in
    let c = past (not (nat_eq p.published_version p.accepted.version)) _ _ _ _ b.1 in
    let d = past (nat_le version p.published_version) _ _ _ _ c.1 in
    let settled = eqb-true _ _ (not-false _ c.0) in
    let above = leb-false _ _ d.0 in
    omega (arith, settled, above)

pub publication-requires-clause-above : goal.publication-requires-clause-above
publication-requires-clause-above c =
    let old = c.args.state.now in
    let request = request_of journal_ghosts old c.args.version c.args.config.now (with_settings c.args.settings) in
    let same : (fields_of journal_ghosts c.take_value.new.self).accepted ≡ (fields_of journal_ghosts old).accepted = ap (λ (s : CoordState Journal). (fields_of journal_ghosts s).accepted) c.in-Ok.ensures.same in
    let above = version_above old.me (fields_of journal_ghosts old) c.args.version c.args.config.now (with_settings c.args.settings) request (c.in-Ok.ensures.act (with_settings c.args.settings)).at.answers in
    rw same above

pub returns-in-Err-clause-does : goal.returns-in-Err-clause-does
returns-in-Err-clause-does c =
    told_does c.args.state.now c.take_value.new.self (act.Value c.args.version c.args.config.now (with_settings c.args.settings)) c.not_taken.result _ refl c.not_taken.ensures
    (record { acts = c.in-Err.ensures.act (with_settings c.args.settings); wrote = c.in-Err.ensures.wrote (with_settings c.args.settings); any_moment = c.in-Err.ensures.any_moment (with_settings c.args.settings) tt }) c.ended.result c.ended.ensures

pub returns-in_ok-sent-in-Ok-clause-does : goal.returns-in_ok-sent-in-Ok-clause-does
returns-in_ok-sent-in-Ok-clause-does c =
    let old = c.args.state.now in
    let new = c.take_value.new.self in
    let published = λ (state : CoordState Journal). PublishMessage (request_of journal_ghosts state c.args.version c.args.config.now (with_settings c.args.settings)) in
    let sent : message_of c.in_ok-sent-in-Ok.sent ≡ published old = c.in_ok-sent-in-Ok.ensures ∙ ap published c.in-Ok.ensures.same in
    taken_does old new (act.Value c.args.version c.args.config.now (with_settings c.args.settings)) (Taken (Some (published old)) false) c.sends.result refl
    (record { acts = c.in-Ok.ensures.act (with_settings c.args.settings); wrote = c.in-Ok.ensures.wrote (with_settings c.args.settings); any_moment = c.in-Ok.ensures.any_moment (with_settings c.args.settings) tt })
    (ap outcome_of c.sends.ensures ∙ ap (λ (m : Message). Some (Answered (Taken (Some m) false))) sent)
