-- What an act sends that is taken.
use Rattle.std.proofs.Common.{◌≡◌, ℕ, Bool, true, false, not, cond, ◌&&◌, None, Some, Result, Ok, Err, List, [], ◌∷◌, ◌++◌, refl, sym, subst, arith}
use Rattle.std.specs.Prelude.{nat_lt, nat_le, nat_eq}
use Rattle.std.specs.List.{Contains}
use Rattle.std.proofs.lemmas.List.Elements.{Contains-append_right}
use Rattle.cluster_state.specs.Field.{last_number}
use Rattle.voting_config.specs.Ids.{Id, same, same_config, with_id, is_quorum_of}
use Rattle.cluster_state.specs.States.{id_of}
use Rattle.cluster_state.specs.declared.state.ClusterState.{ClusterState}
use Rattle.cluster_state.specs.declared.state.ClusterValue.{ClusterValue}
use Rattle.cluster_state.specs.declared.state.StateId.{StateId}
use Rattle.world_model.specs.declared.acts.Act.TheVariants.{StartJoin, Value, Publish, Response}
use Rattle.world_model.specs.declared.acts.Message.{Message}
use Rattle.world_model.specs.declared.acts.Message.TheVariants.{Join as JoinMessage, Publish as PublishMessage, Response as ResponseMessage, Commit as CommitMessage}
use Rattle.world_model.specs.declared.acts.Cause.{Cause}
use Rattle.world_model.specs.declared.acts.Cause.TheVariants.{Start as StartRefused, Value as ValueRefused, Publish as PublishRefused, Response as ResponseRefused}
use Rattle.cluster_state.specs.declared.causes.ValueCause.TheVariants as value_cause
use Rattle.cluster_state.specs.declared.causes.PublishCause.TheVariants as publish_cause
use Rattle.cluster_state.specs.declared.causes.ResponseCause.TheVariants as response_cause
use Rattle.world_model.specs.declared.acts.ActReply.{ActReply}
use Rattle.world_model.specs.declared.acts.ActReply.TheVariants.{Taken, Refused, Stopped}
use Rattle.world_model.specs.declared.acts.Outcome.TheVariants.{Answered}
use Rattle.world_model.specs.NodeState.{NodeState}
use Rattle.world_model.specs.Replies.{reply_at, is_taken, after_check, start_checked, start_reply, value_reply, publish_reply, response_reply, commits}
use Rattle.world_model.specs.Histories.{sent_by}
use Rattle.policy_model.specs.Joins.{join_from}
use Rattle.policy_model.specs.Publications.{commits_now}

unless-halted : (b : Bool) (r : ActReply) (ns : List Message) → (is_taken r ≡ true → sent_by (Answered r) ≡ ns) → is_taken (cond b Stopped r) ≡ true → sent_by (Answered (cond b Stopped r)) ≡ ns
unless-halted true r ns f e = absurd (cc)
unless-halted false r ns f e = f e

unless-refused : (b : Bool) (c : Cause) (r : ActReply) (ns : List Message) → (is_taken r ≡ true → sent_by (Answered r) ≡ ns) → is_taken (cond b (Refused c) r) ≡ true → sent_by (Answered (cond b (Refused c) r)) ≡ ns
unless-refused true c r ns f e = absurd (cc)
unless-refused false c r ns f e = f e

unless-checked : {C : Type 0} (cause_of : C → Cause) (k : Result (Unit {0}) C) (r : ActReply) (ns : List Message) → (is_taken r ≡ true → sent_by (Answered r) ≡ ns) → is_taken (after_check cause_of k r) ≡ true → sent_by (Answered (after_check cause_of k r)) ≡ ns
unless-checked cause_of (Ok u) r ns f e = f e
unless-checked cause_of (Err c) r ns f e = absurd (cc)

pub known : (ms ns : List Message) (m : Message) → ns ≡ m ∷ [] → Contains (ms ++ ns) m
known ms ns m e = subst (λ (xs : List Message). Contains (ms ++ xs) m) (sym e) (Contains-append_right ms (m ∷ []) m (0, omega arith, refl))

pub start-sends : (me : Id) (p : NodeState) (c : Id) (t : ℕ) → is_taken (reply_at me p (StartJoin c t)) ≡ true → sent_by (Answered (reply_at me p (StartJoin c t))) ≡ JoinMessage (join_from me c t (id_of p.accepted)) ∷ []
start-sends me p c t e =
    let m : Message = JoinMessage (join_from me c t (id_of p.accepted)) in
    unless-halted p.halted (start_reply me p c t) (m ∷ []) (unless-checked StartRefused (start_checked p t) (Taken (Some m) false) (m ∷ []) (λ h. refl)) e

pub value-sends : (me : Id) (p : NodeState) (version : ℕ) (config : List Id) (value : ClusterValue) → is_taken (reply_at me p (Value version config value)) ≡ true
    → sent_by (Answered (reply_at me p (Value version config value))) ≡ PublishMessage (record { source = me; state = record { term = p.term; version = version; parent = Some (id_of p.accepted); config = config; committed = p.committed; value = value } }) ∷ []
value-sends me p version config value e =
    let m : Message = PublishMessage (record { source = me; state = record { term = p.term; version = version; parent = Some (id_of p.accepted); config = config; committed = p.committed; value = value } }) in
    let f : ActReply = Taken (Some m) false in
    let r5 : ActReply = cond (not (is_quorum_of config p.join_votes)) (Refused (ValueRefused value_cause.NoJoinQuorum)) f in
    let r4 : ActReply = cond (not (same_config config p.accepted.config) && not (same_config p.committed p.accepted.config)) (Refused (ValueRefused value_cause.Reconfiguring)) r5 in
    let r3 : ActReply = cond (nat_lt last_number version) (Refused (ValueRefused (value_cause.VersionTooLarge version))) r4 in
    let r2 : ActReply = cond (nat_le version p.published_version) (Refused (ValueRefused (value_cause.VersionNotGreater p.published_version version))) r3 in
    let r1 : ActReply = cond (not (nat_eq p.published_version p.accepted.version)) (Refused (ValueRefused (value_cause.NotAccepted p.published_version p.accepted.version))) r2 in
    unless-halted p.halted (value_reply me p version config value) (m ∷ [])
    (unless-refused (not p.election_won) (ValueRefused value_cause.NotWon) r1 (m ∷ [])
    (unless-refused (not (nat_eq p.published_version p.accepted.version)) (ValueRefused (value_cause.NotAccepted p.published_version p.accepted.version)) r2 (m ∷ [])
    (unless-refused (nat_le version p.published_version) (ValueRefused (value_cause.VersionNotGreater p.published_version version)) r3 (m ∷ [])
    (unless-refused (nat_lt last_number version) (ValueRefused (value_cause.VersionTooLarge version)) r4 (m ∷ [])
    (unless-refused (not (same_config config p.accepted.config) && not (same_config p.committed p.accepted.config)) (ValueRefused value_cause.Reconfiguring) r5 (m ∷ [])
    (unless-refused (not (is_quorum_of config p.join_votes)) (ValueRefused value_cause.NoJoinQuorum) f (m ∷ []) (λ h. refl))))))) e

pub publish-sends : (me : Id) (p : NodeState) (source : Id) (state : ClusterState) → is_taken (reply_at me p (Publish (record { source = source; state = state }))) ≡ true
    → sent_by (Answered (reply_at me p (Publish (record { source = source; state = state })))) ≡ ResponseMessage (record { source = me; target = source; term = state.term; version = state.version }) ∷ []
publish-sends me p source state e =
    let m : Message = ResponseMessage (record { source = me; target = source; term = state.term; version = state.version }) in
    let f : ActReply = Taken (Some m) false in
    let r1 : ActReply = cond (nat_eq state.term p.accepted.term && nat_le state.version p.accepted.version) (Refused (PublishRefused (publish_cause.VersionNotGreater p.accepted.version state.version))) f in
    unless-halted p.halted (publish_reply me p (record { source = source; state = state })) (m ∷ [])
    (unless-refused (not (nat_eq p.term state.term)) (PublishRefused (publish_cause.TermMismatch p.term state.term)) r1 (m ∷ [])
    (unless-refused (nat_eq state.term p.accepted.term && nat_le state.version p.accepted.version) (PublishRefused (publish_cause.VersionNotGreater p.accepted.version state.version)) f (m ∷ []) (λ h. refl))) e

-- a response that commits

commits-halted : (b : Bool) (r : ActReply) (ns : List Message) → (commits_now r ≡ true → sent_by (Answered r) ≡ ns) → commits_now (cond b Stopped r) ≡ true → sent_by (Answered (cond b Stopped r)) ≡ ns
commits-halted true r ns f e = absurd (cc)
commits-halted false r ns f e = f e

commits-refused : (b : Bool) (c : Cause) (r : ActReply) (ns : List Message) → (commits_now r ≡ true → sent_by (Answered r) ≡ ns) → commits_now (cond b (Refused c) r) ≡ true → sent_by (Answered (cond b (Refused c) r)) ≡ ns
commits-refused true c r ns f e = absurd (cc)
commits-refused false c r ns f e = f e

commits-some : (b : Bool) (m : Message) → commits_now (Taken (cond b (Some m) None) false) ≡ true → sent_by (Answered (Taken (cond b (Some m) None) false)) ≡ m ∷ []
commits-some true m e = refl
commits-some false m e = absurd (cc)

pub response-sends : (me : Id) (p : NodeState) (source : Id) (id : StateId) → commits_now (reply_at me p (Response (record { source = source; target = me; term = id.term; version = id.version }))) ≡ true
    → sent_by (Answered (reply_at me p (Response (record { source = source; target = me; term = id.term; version = id.version })))) ≡ CommitMessage (record { source = me; term = id.term; version = id.version }) ∷ []
response-sends me p source id e =
    let m : Message = CommitMessage (record { source = me; term = id.term; version = id.version }) in
    let f : ActReply = Taken (cond (commits p (with_id source p.publish_votes)) (Some m) None) false in
    let r3 : ActReply = cond (not (nat_eq p.published_version id.version)) (Refused (ResponseRefused (response_cause.VersionMismatch p.published_version id.version))) f in
    let r2 : ActReply = cond (not (nat_eq p.term id.term)) (Refused (ResponseRefused (response_cause.TermMismatch p.term id.term))) r3 in
    let r1 : ActReply = cond (not p.election_won) (Refused (ResponseRefused response_cause.NotWon)) r2 in
    commits-halted p.halted (response_reply me p (record { source = source; target = me; term = id.term; version = id.version })) (m ∷ [])
    (commits-refused (not (same me me)) (ResponseRefused (response_cause.NotForMe me)) r1 (m ∷ [])
    (commits-refused (not p.election_won) (ResponseRefused response_cause.NotWon) r2 (m ∷ [])
    (commits-refused (not (nat_eq p.term id.term)) (ResponseRefused (response_cause.TermMismatch p.term id.term)) r3 (m ∷ [])
    (commits-refused (not (nat_eq p.published_version id.version)) (ResponseRefused (response_cause.VersionMismatch p.published_version id.version)) f (m ∷ [])
    (commits-some (commits p (with_id source p.publish_votes)) m))))) e
