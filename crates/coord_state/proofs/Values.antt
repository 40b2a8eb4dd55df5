-- A value that is refused.
use Rattle.std.proofs.Common.{◌≡◌, ℕ, List, Bool, true, false, refl, sym, ap, ◌∙◌}
use Rattle.std.specs.Prelude.{cond, not, ◌&&◌, nat_eq, nat_le, nat_lt, Result, Ok, Err, Some}
use Rattle.voting_config.specs.Ids.{Id, is_quorum_of, same_config}
use Rattle.cluster_state.specs.Field.{last_number}
use Rattle.cluster_state.specs.declared.state.ClusterValue.{ClusterValue}
use Rattle.cluster_state.specs.declared.causes.ValueCause.{ValueCause}
use Rattle.cluster_state.specs.declared.causes.ValueCause.TheVariants as value_cause
use Rattle.world_model.specs.declared.acts.ActReply.{ActReply}
use Rattle.world_model.specs.declared.acts.ActReply.TheVariants.{Refused, Stopped, Taken}
use Rattle.world_model.specs.declared.acts.Act.TheVariants.{Value}
use Rattle.world_model.specs.declared.acts.Cause.TheVariants.{Value as ValueRefused}
use Rattle.world_model.specs.declared.acts.Message.TheVariants.{Publish as PublishMessage}
use Rattle.world_model.specs.NodeState.{NodeState}
use Rattle.world_model.specs.Replies.{after_check, id_of, reply_at, value_reply}
use Rattle.coord_state.specs.Checks.{value_checked}

-- a reply behind six checks is what follows the first cause of them
behind_checks : (a b c d e f : Bool) (u v w x y z : ValueCause) (reply : ActReply)
    → cond a (Refused (ValueRefused u)) (cond b (Refused (ValueRefused v)) (cond c (Refused (ValueRefused w)) (cond d (Refused (ValueRefused x)) (cond e (Refused (ValueRefused y)) (cond f (Refused (ValueRefused z)) reply)))))
    ≡ after_check ValueRefused (cond a (Err u) (cond b (Err v) (cond c (Err w) (cond d (Err x) (cond e (Err y) (cond f (Err z) (Ok tt))))))) reply
behind_checks true b c d e f u v w x y z reply = refl
behind_checks false true c d e f u v w x y z reply = refl
behind_checks false false true d e f u v w x y z reply = refl
behind_checks false false false true e f u v w x y z reply = refl
behind_checks false false false false true f u v w x y z reply = refl
behind_checks false false false false false true u v w x y z reply = refl
behind_checks false false false false false false u v w x y z reply = refl

-- the cause that the check of a value finds is the one that a node answers
pub refused_value : (me : Id) (p : NodeState) (version : ℕ) (config : List Id) (value : ClusterValue) (cause : ValueCause) → p.halted ≡ false → value_checked p version config ≡ Err cause
    → Refused (ValueRefused cause) ≡ reply_at me p (Value version config value)
refused_value me p version config value cause runs is =
    let accepted = p.accepted in
    let reply =
    Taken
    (Some
    (PublishMessage (record { source = me; state = record { term = p.term; version = version; parent = Some (id_of accepted); config = config; committed = p.committed; value = value } })))
    false in
    let checks =
    behind_checks (not p.election_won) (not (nat_eq p.published_version accepted.version)) (nat_le version p.published_version) (nat_lt last_number version) (not (same_config config accepted.config) && not (same_config p.committed accepted.config))
    (not (is_quorum_of config p.join_votes)) value_cause.NotWon (value_cause.NotAccepted p.published_version accepted.version) (value_cause.VersionNotGreater p.published_version version) (value_cause.VersionTooLarge version) value_cause.Reconfiguring
    value_cause.NoJoinQuorum reply in
    sym (ap (λ (h : Bool). cond h Stopped (value_reply me p version config value)) runs ∙ checks ∙ ap (λ (r : Result (Unit {0}) ValueCause). after_check ValueRefused r reply) is)
