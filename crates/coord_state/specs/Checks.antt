-- For the contracts inside: the first cause that refuses a new value, and whether a state that is published would be refused.
use Rattle.std.specs.Prelude.{◌≡◌, ℕ, List, true, cond, not, ◌&&◌, Result, Ok, Err, nat_le, nat_lt, nat_eq}
use Rattle.voting_config.specs.Ids.{Id, is_quorum_of, same_config}
use Rattle.cluster_state.specs.Field.{last_number}
use Rattle.cluster_state.specs.declared.state.ClusterState.{ClusterState}
use Rattle.cluster_state.specs.declared.state.Kept.{Kept}
use Rattle.cluster_state.specs.declared.causes.PublishCause.{PublishCause}
use Rattle.cluster_state.specs.declared.causes.PublishCause.TheVariants.{TermMismatch, VersionNotGreater}
use Rattle.cluster_state.specs.declared.causes.ValueCause.{ValueCause}
use Rattle.cluster_state.specs.declared.causes.ValueCause.TheVariants as value_cause
use Rattle.world_model.specs.declared.acts.Cause.TheVariants.{Publish as PublishRefused}
use Rattle.world_model.specs.declared.acts.ActReply.{ActReply}
use Rattle.world_model.specs.declared.acts.ActReply.TheVariants.{Refused, Stopped}
use Rattle.world_model.specs.NodeState.{NodeState}
use Rattle.world_model.specs.Replies.{is_taken}
use Rattle.coord_state.specs.declared.coord.ActError.{ActError}
use Rattle.coord_state.specs.declared.coord.ActError.TheVariants as error

-- the first cause that refuses a new value of a version with a configuration
abbrev pub value_checked : NodeState → ℕ → List Id → Result (Unit {0}) ValueCause
value_checked p version config =
    cond (not p.election_won) (Err value_cause.NotWon)
    (cond (not (nat_eq p.published_version p.accepted.version)) (Err (value_cause.NotAccepted p.published_version p.accepted.version))
    (cond (nat_le version p.published_version) (Err (value_cause.VersionNotGreater p.published_version version))
    (cond (nat_lt last_number version) (Err (value_cause.VersionTooLarge version))
    (cond (not (same_config config p.accepted.config) && not (same_config p.committed p.accepted.config)) (Err value_cause.Reconfiguring)
    (cond (not (is_quorum_of config p.join_votes)) (Err value_cause.NoJoinQuorum)
    (Ok tt))))))

-- the first cause that refuses a state, by what the node keeps
abbrev pub publish_checked : Kept → ClusterState → Result (Unit {0}) PublishCause
publish_checked kept s =
    cond (not (nat_eq kept.term s.term)) (Err (TermMismatch kept.term s.term))
    (cond (nat_eq s.term kept.accepted.term && nat_le s.version kept.accepted.version)
    (Err (VersionNotGreater kept.accepted.version s.version))
    (Ok tt))

-- the answer says whether a publication is taken, and how it is refused
abbrev pub Foretells : Result (Unit {0}) (ActError PublishCause (Unit {0})) → ActReply → Type 0
Foretells (Ok u) reply = is_taken reply ≡ true
Foretells (Err (error.Stopped u)) reply = reply ≡ Stopped
Foretells (Err (error.Refused cause u)) reply = reply ≡ Refused (PublishRefused cause)
Foretells (Err error.Disk) reply = ⊥
