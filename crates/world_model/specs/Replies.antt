-- Part of the statement: what an act answers: the first cause that refuses it, or what it sends.
use Rattle.std.specs.Prelude.{◌≡◌, ℕ, Bool, true, false, cond, not, ◌&&◌, Option, None, Some, Result, Ok, Err, List, nat_le, nat_lt, nat_eq}
use Rattle.cluster_state.specs.Field.{last_number}
use Rattle.voting_config.specs.Ids.{Id, with_id, same, is_quorum_of, same_config}
pub use Rattle.cluster_state.specs.JoinCheck.{is_empty}
unfoldable pub use Rattle.cluster_state.specs.JoinCheck.{join_checked}
pub use Rattle.cluster_state.specs.States.{id_of}
use Rattle.cluster_state.specs.declared.state.ClusterValue.{ClusterValue}
use Rattle.cluster_state.specs.declared.causes.StartCause.{StartCause}
use Rattle.cluster_state.specs.declared.messages.Join.{Join}
use Rattle.cluster_state.specs.declared.messages.PublishRequest.{PublishRequest}
use Rattle.cluster_state.specs.declared.messages.PublishResponse.{PublishResponse}
use Rattle.cluster_state.specs.declared.messages.ApplyCommit.{ApplyCommit}
use Rattle.cluster_state.specs.declared.causes.InitialCause.TheVariants as initial_cause
use Rattle.cluster_state.specs.declared.causes.StartCause.TheVariants as start_cause
use Rattle.cluster_state.specs.declared.causes.ValueCause.TheVariants as value_cause
use Rattle.cluster_state.specs.declared.causes.PublishCause.TheVariants as publish_cause
use Rattle.cluster_state.specs.declared.causes.ResponseCause.TheVariants as response_cause
use Rattle.cluster_state.specs.declared.causes.CommitCause.TheVariants as commit_cause
use Rattle.world_model.specs.Acts.{Act, Outcome, NodeHistory, ActReply, Message, Cause, Bootstrap, StartJoin, TakeJoin, Value, Publish, Response, Commit, Open, Taken, Refused, Stopped, Answered, Disk, Crashed, JoinMessage, PublishMessage, ResponseMessage, CommitMessage, InitialRefused, StartRefused, JoinRefused, ValueRefused, PublishRefused, ResponseRefused, CommitRefused}
use Rattle.world_model.specs.NodeState.{NodeState, node_state}

-- a quorum that elects: of the committed configuration and of the accepted one
abbrev pub elects : NodeState → List Id → Bool
elects p votes = is_quorum_of p.committed votes && is_quorum_of p.accepted.config votes

-- a quorum that commits: of the committed configuration and of the published one
abbrev pub commits : NodeState → List Id → Bool
commits p acks = is_quorum_of p.committed acks && is_quorum_of p.published_config acks

abbrev pub bootstrap_reply : NodeState → List Id → ActReply
bootstrap_reply p config =
    cond (not (is_empty p.accepted.config)) (Refused (InitialRefused initial_cause.AlreadySet))
    (cond (is_empty config) (Refused (InitialRefused initial_cause.EmptyConfig))
    (Taken None false))

-- the reply, unless a cause refuses the act
abbrev pub after_check : {C : Type 0} → (C → Cause) → Result (Unit {0}) C → ActReply → ActReply
after_check cause_of (Ok u) reply = reply
after_check cause_of (Err cause) reply = Refused (cause_of cause)

-- the join that a node sends
abbrev pub join_from : Id → NodeState → Id → ℕ → Join
join_from me p candidate term =
    record { source = me; target = candidate; term = term; last_term = p.accepted.term; last_version = p.accepted.version }

abbrev pub start_checked : NodeState → ℕ → Result (Unit {0}) StartCause
start_checked p term =
    cond (nat_le term p.term) (Err (start_cause.TermNotGreater p.term term))
    (cond (nat_lt last_number term) (Err (start_cause.TermTooLarge term))
    (Ok tt))

abbrev pub start_reply : Id → NodeState → Id → ℕ → ActReply
start_reply me p candidate term =
    after_check StartRefused (start_checked p term) (Taken (Some (JoinMessage (join_from me p candidate term))) false)

abbrev pub join_reply : Id → NodeState → Join → ActReply
join_reply me p j =
    after_check JoinRefused (join_checked me p.term (id_of p.accepted) p.accepted.config p.started_join j)
    (Taken None (not p.election_won && elects p (with_id j.source p.join_votes)))

abbrev pub value_reply : Id → NodeState → ℕ → List Id → ClusterValue → ActReply
value_reply me p version config value =
    cond (not p.election_won) (Refused (ValueRefused value_cause.NotWon))
    (cond (not (nat_eq p.published_version p.accepted.version))
    (Refused (ValueRefused (value_cause.NotAccepted p.published_version p.accepted.version)))
    (cond (nat_le version p.published_version) (Refused (ValueRefused (value_cause.VersionNotGreater p.published_version version)))
    (cond (nat_lt last_number version) (Refused (ValueRefused (value_cause.VersionTooLarge version)))
    (cond (not (same_config config p.accepted.config) && not (same_config p.committed p.accepted.config))
    (Refused (ValueRefused value_cause.Reconfiguring))
    (cond (not (is_quorum_of config p.join_votes)) (Refused (ValueRefused value_cause.NoJoinQuorum))
    (Taken (Some (PublishMessage
    (record {
      source = me;
      state = record {
        term = p.term;
        version = version;
        parent = Some (id_of p.accepted);
        config = config;
        committed = p.committed;
        value = value;
      };
    }))) false))))))

abbrev pub publish_reply : Id → NodeState → PublishRequest → ActReply
publish_reply me p r =
    cond (not (nat_eq p.term r.state.term)) (Refused (PublishRefused (publish_cause.TermMismatch p.term r.state.term)))
    (cond (nat_eq r.state.term p.accepted.term && nat_le r.state.version p.accepted.version)
    (Refused (PublishRefused (publish_cause.VersionNotGreater p.accepted.version r.state.version)))
    (Taken (Some (ResponseMessage (record { source = me; target = r.source; term = r.state.term; version = r.state.version }))) false))

abbrev pub commit_sent : Id → NodeState → PublishResponse → Option Message
commit_sent me p r =
    cond (commits p (with_id r.source p.publish_votes)) (Some (CommitMessage (record { source = me; term = r.term; version = r.version })))
    None

abbrev pub response_reply : Id → NodeState → PublishResponse → ActReply
response_reply me p r =
    cond (not (same r.target me)) (Refused (ResponseRefused (response_cause.NotForMe r.target)))
    (cond (not p.election_won) (Refused (ResponseRefused response_cause.NotWon))
    (cond (not (nat_eq p.term r.term)) (Refused (ResponseRefused (response_cause.TermMismatch p.term r.term)))
    (cond (not (nat_eq p.published_version r.version))
    (Refused (ResponseRefused (response_cause.VersionMismatch p.published_version r.version)))
    (Taken (commit_sent me p r) false))))

abbrev pub commit_reply : NodeState → ApplyCommit → ActReply
commit_reply p c =
    cond (not (nat_eq p.term c.term)) (Refused (CommitRefused (commit_cause.TermMismatch p.term c.term)))
    (cond (not (nat_eq p.accepted.term c.term)) (Refused (CommitRefused (commit_cause.AcceptedTermMismatch p.accepted.term c.term)))
    (cond (not (nat_eq p.accepted.version c.version)) (Refused (CommitRefused (commit_cause.VersionMismatch p.accepted.version c.version)))
    (cond (p.election_won && not (nat_eq p.accepted.version p.published_version))
    (Refused (CommitRefused (commit_cause.Publishing p.accepted.version p.published_version)))
    (Taken None false))))

abbrev pub unless_halted : NodeState → ActReply → ActReply
unless_halted p reply = cond p.halted Stopped reply

-- what a node that is this answers to an act
abbrev pub reply_at : Id → NodeState → Act → ActReply
reply_at me p (Bootstrap config) = unless_halted p (bootstrap_reply p config)
reply_at me p (StartJoin candidate term) = unless_halted p (start_reply me p candidate term)
reply_at me p (TakeJoin join) = unless_halted p (join_reply me p join)
reply_at me p (Value version config value) = unless_halted p (value_reply me p version config value)
reply_at me p (Publish request) = unless_halted p (publish_reply me p request)
reply_at me p (Response response) = unless_halted p (response_reply me p response)
reply_at me p (Commit commit) = unless_halted p (commit_reply p commit)
reply_at me p (Open found) = Taken None false

-- what a node answers to an act after its acts so far
abbrev pub reply_of : Id → NodeHistory → Act → ActReply
reply_of me g act = reply_at me (node_state g) act

-- the acts that write to the disk
abbrev pub writes : Act → Bool
writes (Bootstrap config) = true
writes (StartJoin candidate term) = true
writes (Publish request) = true
writes (Commit commit) = true
writes (TakeJoin join) = false
writes (Value version config value) = false
writes (Response response) = false
writes (Open found) = false

abbrev pub is_taken : ActReply → Bool
is_taken (Taken sends wins) = true
is_taken (Refused cause) = false
is_taken Stopped = false

-- the outcome is what a node that is p answers, or a fault or a crash where it would take the act
abbrev pub IsOutcomeAt : Id → NodeState → Act → Outcome → Type 0
IsOutcomeAt me p act (Answered reply) = reply ≡ reply_at me p act
IsOutcomeAt me p act (Disk kept) = (is_taken (reply_at me p act) ≡ true) × (writes act ≡ true)
IsOutcomeAt me p act (Crashed kept) = (is_taken (reply_at me p act) ≡ true) × (writes act ≡ true)

-- the same after its acts so far
abbrev pub IsOutcome : Id → NodeHistory → Act → Outcome → Type 0
IsOutcome me g act outcome = IsOutcomeAt me (node_state g) act outcome
