-- What a legal history holds can be read from a line, where what its nodes did of their own accord can: their numbers have 64 bits, their lists are
-- sets, and their values are within the limits.
use Rattle.std.proofs.Common.{◌≡◌, ℕ, zero, suc, Bool, true, false, cond, not, ◌&&◌, max, None, Some, Result, Ok, Err, List, [], ◌∷◌, refl, sym, subst, inl, inr, IsTrue, arith}
use Rattle.std.specs.Prelude.{nat_eq, nat_le, nat_lt, Contains}
use Rattle.std.proofs.lemmas.List.Elements.{Contains-append_cases}
use Rattle.voting_config.specs.Ids.{Id, is_id, same, same_config, is_quorum_of, with_id}
use Rattle.cluster_state.specs.Field.{last_number}
use Rattle.cluster_state.specs.Initial.{empty_value, initial_state}
use Rattle.cluster_state.specs.JoinCheck.{is_empty, join_checked}
use Rattle.cluster_state.specs.States.{id_of, value as value_field}
use Rattle.cluster_state.specs.declared.causes.JoinCause.{JoinCause}
use Rattle.cluster_state.specs.declared.causes.JoinCause.TheVariants as join_cause
use Rattle.cluster_state.specs.declared.causes.StartCause.{StartCause}
use Rattle.cluster_state.specs.declared.causes.StartCause.TheVariants as start_cause
use Rattle.cluster_state.specs.declared.messages.Join.{Join}
use Rattle.cluster_state.specs.declared.messages.PublishResponse.{PublishResponse}
use Rattle.world_model.specs.declared.acts.Act.{Act}
use Rattle.world_model.specs.declared.acts.Act.TheVariants.{Bootstrap, StartJoin, TakeJoin, Value, Publish, Response, Commit, Open}
use Rattle.world_model.specs.declared.acts.Cause.TheVariants.{Start as StartRefused, Join as JoinRefused}
use Rattle.world_model.specs.declared.acts.Message.{Message}
use Rattle.world_model.specs.declared.acts.Message.TheVariants.{Join as JoinMessage, Publish as PublishMessage, Response as ResponseMessage, Commit as CommitMessage}
use Rattle.world_model.specs.declared.acts.ActReply.{ActReply}
use Rattle.world_model.specs.declared.acts.ActReply.TheVariants.{Taken, Refused, Stopped}
use Rattle.world_model.specs.declared.acts.Outcome.{Outcome}
use Rattle.world_model.specs.declared.acts.Outcome.TheVariants.{Answered, Disk, Crashed}
use Rattle.world_model.specs.Acts.{NodeHistory, NoActs, Then, is_effective, is_first, is_ok, wins}
use Rattle.world_model.specs.Histories.{History, NoEntries, Next, node_history, sent, sent_by, is_opening, IsLegal, IsSourced}
use Rattle.world_model.specs.NodeState.{node_state, term_of, accepted_of, committed_of, published_version_of, durable_of}
use Rattle.world_model.specs.Replies.{elects, commits, join_from, start_checked, after_check, commit_sent, reply_of, IsOutcome}
use Rattle.world_model.specs.Settled.{settled_entry, settled_for}
use Rattle.trace_text.specs.Endings.{ending_of}
use Rattle.replay_node.specs.Sent.{taking}
use Rattle.recorded_trace.specs.declared.kind.Kind.TheVariants as kind
use Rattle.line_laws.specs.Fits.{IsSmall, FitsJoin, FitsStart, FitsCause}
use Rattle.line_laws.specs.Readable.{IsListed, IsReadable, IsReadableState, IsReadableRecord, EndsAs, kind_of, refuses}

chosen : {X : Type 0} (P : X → Type 0) (b : Bool) (x y : X) → P x → P y → P (cond b x y)
chosen P true x y p q = p
chosen P false x y p q = q

-- ---- the node

-- its acts can be read
abbrev pub AreReadable : NodeHistory → Type 0
AreReadable NoActs = Unit {0}
AreReadable (Then g act o) = AreReadable g × IsReadable act

none_listed : IsListed []
none_listed = (omega arith, refl, tt)

empty_fits : value_field.Fits empty_value
empty_fits = (tt, (none_listed, ((omega arith, refl, tt), (omega arith, refl, tt))))

initial_readable : (config : List Id) → IsListed config → IsReadableState (initial_state config)
initial_readable config h = record { numbers = ((omega arith, omega arith), tt); config = h; committed = h; value = empty_fits }

small_max : (x y : ℕ) → IsSmall x → IsSmall y → IsSmall (max x y)
small_max x y a b = omega (arith, a, b)

term_small : (g : NodeHistory) → AreReadable g → IsSmall (term_of g)
term_small NoActs r = omega arith
term_small (Then g (StartJoin candidate term) o) r = chosen IsSmall (is_effective o) (max term (term_of g)) (term_of g) (small_max term (term_of g) r.1.1 (term_small g r.0)) (term_small g r.0)
term_small (Then g (Open found) o) r = chosen IsSmall (is_first g) found.term (term_of g) r.1.term (term_small g r.0)
term_small (Then g (Bootstrap config) o) r = term_small g r.0
term_small (Then g (TakeJoin join) o) r = term_small g r.0
term_small (Then g (Value version config value) o) r = term_small g r.0
term_small (Then g (Publish request) o) r = term_small g r.0
term_small (Then g (Response response) o) r = term_small g r.0
term_small (Then g (Commit commit) o) r = term_small g r.0

accepted_readable : (g : NodeHistory) → AreReadable g → IsReadableState (accepted_of g)
accepted_readable NoActs r = initial_readable [] none_listed
accepted_readable (Then g (Bootstrap config) o) r = chosen IsReadableState (is_effective o) (initial_state config) (accepted_of g) (initial_readable config r.1) (accepted_readable g r.0)
accepted_readable (Then g (Publish request) o) r = chosen IsReadableState (is_effective o) request.state (accepted_of g) r.1.1 (accepted_readable g r.0)
accepted_readable (Then g (Open found) o) r = chosen IsReadableState (is_first g) found.accepted (accepted_of g) r.1.accepted (accepted_readable g r.0)
accepted_readable (Then g (StartJoin candidate term) o) r = accepted_readable g r.0
accepted_readable (Then g (TakeJoin join) o) r = accepted_readable g r.0
accepted_readable (Then g (Value version config value) o) r = accepted_readable g r.0
accepted_readable (Then g (Response response) o) r = accepted_readable g r.0
accepted_readable (Then g (Commit commit) o) r = accepted_readable g r.0

committed_listed : (g : NodeHistory) → AreReadable g → IsListed (committed_of g)
committed_listed NoActs r = none_listed
committed_listed (Then g (Bootstrap config) o) r = chosen IsListed (is_effective o) config (committed_of g) r.1 (committed_listed g r.0)
committed_listed (Then g (Publish request) o) r = chosen IsListed (is_effective o) request.state.committed (committed_of g) r.1.1.committed (committed_listed g r.0)
committed_listed (Then g (Commit commit) o) r = chosen IsListed (is_effective o) (accepted_of g).config (committed_of g) (accepted_readable g r.0).config (committed_listed g r.0)
committed_listed (Then g (Open found) o) r = chosen IsListed (is_first g) found.committed (committed_of g) r.1.committed (committed_listed g r.0)
committed_listed (Then g (StartJoin candidate term) o) r = committed_listed g r.0
committed_listed (Then g (TakeJoin join) o) r = committed_listed g r.0
committed_listed (Then g (Value version config value) o) r = committed_listed g r.0
committed_listed (Then g (Response response) o) r = committed_listed g r.0

published_small : (g : NodeHistory) → AreReadable g → IsSmall (published_version_of g)
published_small NoActs r = omega arith
published_small (Then g (StartJoin candidate term) o) r = chosen IsSmall (is_ok o) 0 (published_version_of g) (omega arith) (published_small g r.0)
published_small (Then g (TakeJoin join) o) r = chosen IsSmall (wins o) (accepted_of g).version (published_version_of g) (accepted_readable g r.0).numbers.0.1 (published_small g r.0)
published_small (Then g (Value version config value) o) r = chosen IsSmall (is_ok o) version (published_version_of g) r.1.0 (published_small g r.0)
published_small (Then g (Open found) o) r = omega arith
published_small (Then g (Bootstrap config) o) r = published_small g r.0
published_small (Then g (Publish request) o) r = published_small g r.0
published_small (Then g (Response response) o) r = published_small g r.0
published_small (Then g (Commit commit) o) r = published_small g r.0

pub durable_readable : (g : NodeHistory) → AreReadable g → IsReadableRecord (durable_of g)
durable_readable g r = record { term = term_small g r; accepted = accepted_readable g r; committed = committed_listed g r }

-- ---- what it answers

-- the reply to an act can be read: its cause, and the message that it sends
abbrev pub IsReadableReply : Act → ActReply → Type 0
IsReadableReply act (Taken None wins) = Unit {0}
IsReadableReply act (Taken (Some message) wins) = IsReadable (taking message)
IsReadableReply act (Refused cause) = FitsCause cause × (refuses cause ≡ kind_of act)
IsReadableReply act Stopped = Unit {0}

pick : (act : Act) (b : Bool) (x y : ActReply) → IsReadableReply act x → IsReadableReply act y → IsReadableReply act (cond b x y)
pick act b x y p q = chosen (IsReadableReply act) b x y p q

-- a cause is one of these, where there is one
abbrev Refuses : {C : Type 0} → (C → Type 0) → Result (Unit {0}) C → Type 0
Refuses P (Ok u) = Unit {0}
Refuses P (Err c) = P c

unless : {C : Type 0} (P : C → Type 0) (b : Bool) (c : C) (r : Result (Unit {0}) C) → P c → Refuses P r → Refuses P (cond b (Err c) r)
unless P true c r p q = p
unless P false c r p q = q

start_causes : (g : NodeHistory) (term : ℕ) → AreReadable g → IsSmall term → Refuses FitsStart (start_checked (node_state g) term)
start_causes g term r small =
    unless FitsStart (nat_le term (term_of g)) (start_cause.TermNotGreater (term_of g) term) _ (term_small g r, small)
    (unless FitsStart (nat_lt last_number term) (start_cause.TermTooLarge term) (Ok tt) small tt)

join_causes : (me : Id) (g : NodeHistory) (j : Join) → AreReadable g → IsReadable (TakeJoin j)
    → Refuses FitsJoin (join_checked me (term_of g) (id_of (accepted_of g)) (accepted_of g).config (node_state g).started_join j)
unfolding join_checked
join_causes me g j r h =
    let a = accepted_of g in
    let numbers = (accepted_readable g r).numbers.0 in
    unless FitsJoin (not (same j.target me)) (join_cause.NotForMe j.target) _ h.1
    (unless FitsJoin (not (nat_eq (term_of g) j.term)) (join_cause.TermMismatch (term_of g) j.term) _ (term_small g r, h.2)
    (unless FitsJoin (not (node_state g).started_join) join_cause.NotStarted _ tt
    (unless FitsJoin (nat_lt a.term j.last_term) (join_cause.FresherTerm a.term j.last_term) _ (numbers.0, h.3.0)
    (unless FitsJoin (nat_eq a.term j.last_term && nat_lt a.version j.last_version) (join_cause.FresherVersion a.version j.last_version) _ (numbers.1, h.3.1)
    (unless FitsJoin (is_empty a.config) join_cause.NoConfig (Ok tt) tt tt)))))

start_checks : (act : Act) (r : Result (Unit {0}) StartCause) (reply : ActReply) → kind_of act ≡ kind.StartJoin → Refuses FitsStart r → IsReadableReply act reply → IsReadableReply act (after_check StartRefused r reply)
start_checks act (Ok u) reply k e p = p
start_checks act (Err c) reply k e p = (e, sym k)

join_checks : (act : Act) (r : Result (Unit {0}) JoinCause) (reply : ActReply) → kind_of act ≡ kind.Join → Refuses FitsJoin r → IsReadableReply act reply → IsReadableReply act (after_check JoinRefused r reply)
join_checks act (Ok u) reply k e p = p
join_checks act (Err c) reply k e p = (e, sym k)

commit_readable : (me : Id) (g : NodeHistory) (r : PublishResponse) → IsTrue (is_id me) → IsReadable (Response r) → IsReadableReply (Response r) (Taken (commit_sent me (node_state g) r) false)
commit_readable me g r good h = from (commits (node_state g) (with_id r.source (node_state g).publish_votes))
  where
    from : (b : Bool) → IsReadableReply (Response r) (Taken (cond b (Some (CommitMessage (record { source = me; term = r.term; version = r.version }))) None) false)
    from true = (good, h.2)
    from false = tt

reply_readable : (me : Id) (g : NodeHistory) (act : Act) → IsTrue (is_id me) → AreReadable g → IsReadable act → IsReadableReply act (reply_of me g act)
reply_readable me g (Bootstrap config) good r h =
    let a : Act = Bootstrap config in
    pick a (node_state g).halted Stopped _ tt
    (pick a (not (is_empty (accepted_of g).config)) _ _ (tt, refl)
    (pick a (is_empty config) _ (Taken None false) (tt, refl) tt))
reply_readable me g (StartJoin candidate term) good r h =
    let a : Act = StartJoin candidate term in
    pick a (node_state g).halted Stopped _ tt
    (start_checks a (start_checked (node_state g) term) (Taken (Some (JoinMessage (join_from me (node_state g) candidate term))) false) refl (start_causes g term r h.1) (good, h.0, h.1, (accepted_readable g r).numbers.0))
reply_readable me g (TakeJoin j) good r h =
    let a : Act = TakeJoin j in
    let p = node_state g in
    pick a p.halted Stopped _ tt
    (join_checks a (join_checked me p.term (id_of p.accepted) p.accepted.config p.started_join j) (Taken None (not p.election_won && elects p (with_id j.source p.join_votes))) refl (join_causes me g j r h) tt)
reply_readable me g (Value version config value) good r h =
    let a : Act = Value version config value in
    let p = node_state g in
    let now = published_small g r in
    let accepted = accepted_readable g r in
    pick a p.halted Stopped _ tt
    (pick a (not p.election_won) _ _ (tt, refl)
    (pick a (not (nat_eq p.published_version p.accepted.version)) _ _ ((now, accepted.numbers.0.1), refl)
    (pick a (nat_le version p.published_version) _ _ ((now, h.0), refl)
    (pick a (nat_lt last_number version) _ _ (h.0, refl)
    (pick a (not (same_config config p.accepted.config) && not (same_config p.committed p.accepted.config)) _ _ (tt, refl)
    (pick a (not (is_quorum_of config p.join_votes)) _ _ (tt, refl)
    (good, record { numbers = ((term_small g r, h.0), accepted.numbers.0); config = h.1; committed = committed_listed g r; value = h.2 })))))))
reply_readable me g (Publish request) good r h =
    let a : Act = Publish request in
    let p = node_state g in
    let numbers = h.1.numbers.0 in
    pick a p.halted Stopped _ tt
    (pick a (not (nat_eq p.term request.state.term)) _ _ ((term_small g r, numbers.0), refl)
    (pick a (nat_eq request.state.term p.accepted.term && nat_le request.state.version p.accepted.version) _ _ (((accepted_readable g r).numbers.0.1, numbers.1), refl)
    (good, h.0, numbers)))
reply_readable me g (Response response) good r h =
    let a : Act = Response response in
    let p = node_state g in
    pick a p.halted Stopped _ tt
    (pick a (not (same response.target me)) _ _ (h.1, refl)
    (pick a (not p.election_won) _ _ (tt, refl)
    (pick a (not (nat_eq p.term response.term)) _ _ ((term_small g r, h.2.0), refl)
    (pick a (not (nat_eq p.published_version response.version)) _ _ ((published_small g r, h.2.1), refl)
    (commit_readable me g response good h)))))
reply_readable me g (Commit commit) good r h =
    let a : Act = Commit commit in
    let p = node_state g in
    let accepted = (accepted_readable g r).numbers.0 in
    pick a p.halted Stopped _ tt
    (pick a (not (nat_eq p.term commit.term)) _ _ ((term_small g r, h.1.0), refl)
    (pick a (not (nat_eq p.accepted.term commit.term)) _ _ ((accepted.0, h.1.0), refl)
    (pick a (not (nat_eq p.accepted.version commit.version)) _ _ ((accepted.1, h.1.1), refl)
    (pick a (p.election_won && not (nat_eq p.accepted.version p.published_version)) _ (Taken None false) ((accepted.1, published_small g r), refl) tt))))
reply_readable me g (Open found) good r h = tt

-- ---- all nodes

abbrev pub AllReadable : History → Type 0
AllReadable NoEntries = Unit {0}
AllReadable (Next h n act o) = AllReadable h × IsTrue (is_id n) × IsReadable act

pub own_readable : (h : History) (m : Id) → AllReadable h → AreReadable (node_history h m)
own_readable NoEntries m r = tt
own_readable (Next h n act o) m r = chosen AreReadable (same n m) (Then (node_history h m) act o) (node_history h m) (own_readable h m r.0, r.2) (own_readable h m r.0)

-- whichever acts were kept
settled_entry_readable : (k : Bool) (h s : History) (n : Id) (act : Act) (o : Outcome) → AllReadable h → AllReadable s → IsTrue (is_id n) → IsReadable act → AllReadable (settled_entry k h s n act o)
settled_entry_readable k h s n act (Disk was) a b good r = (a, good, r)
settled_entry_readable k h s n act (Crashed was) a b good r = (a, good, r)
settled_entry_readable k h s n act (Answered reply) a b good r = (chosen AllReadable (is_opening act) h s a b, good, r)

pub settled_readable : (n : Id) (k : Bool) (h : History) → AllReadable h → AllReadable (settled_for n k h)
settled_readable n k NoEntries r = tt
settled_readable n k (Next h node act o) r =
    let rest = settled_readable n k h r.0 in
    chosen AllReadable (same node n) (settled_entry k h (settled_for n k h) node act o) (Next (settled_for n k h) node act o) (settled_entry_readable k h (settled_for n k h) node act o r.0 rest r.1 r.2) (rest, r.1, r.2)

-- ---- the messages

abbrev CanBeTaken : Message → Type 0
CanBeTaken m = IsReadable (taking m)

none : (m : Message) → Contains {X = Message} [] m → ⊥
none m c = omega (arith, c.1)

only : (s m : Message) → Contains (s ∷ []) m → s ≡ m
only s m (zero, few, e) = e
only s m (suc k, few, e) = absurd (omega (arith, few))

by_readable : (me : Id) (g : NodeHistory) (act : Act) (o : Outcome) → IsOutcome me g act o → IsReadableReply act (reply_of me g act) → (m : Message) → Contains (sent_by o) m → CanBeTaken m
by_readable me g act (Answered (Taken (Some s) w)) is r m c = subst CanBeTaken (only s m c) (subst (IsReadableReply act) (sym is) r)
by_readable me g act (Answered (Taken None w)) is r m c = absurd (none m c)
by_readable me g act (Answered (Refused cause)) is r m c = absurd (none m c)
by_readable me g act (Answered Stopped) is r m c = absurd (none m c)
by_readable me g act (Disk kept) is r m c = absurd (none m c)
by_readable me g act (Crashed kept) is r m c = absurd (none m c)

pub sent_readable : (initial : List Id) (h : History) → IsLegal initial h → AllReadable h → (m : Message) → Contains (sent h) m → CanBeTaken m
sent_readable initial NoEntries l r m c = absurd (none m c)
sent_readable initial (Next h n act o) l r m c =
    elim (Contains-append_cases (sent h) (sent_by o) m c) [
      | inl before ↦ sent_readable initial h l.0 r.0 m before
      | inr now ↦ by_readable n (node_history h n) act o l.1.follows.follows (reply_readable n (node_history h n) act r.1 (own_readable h n r.0) r.2) m now
    ]

-- ---- how an act ends

pub ends_as : (initial : List Id) (h : History) (n : Id) (act : Act) (o : Outcome) → IsLegal initial (Next h n act o) → AllReadable h → IsTrue (is_id n) → IsReadable act → EndsAs act (ending_of o)
ends_as initial h n act (Answered (Taken s w)) l r good can = tt
ends_as initial h n act (Answered (Refused cause)) l r good can = subst (IsReadableReply act) (sym l.1.follows.follows) (reply_readable n (node_history h n) act good (own_readable h n r) can)
ends_as initial h n act (Answered Stopped) l r good can = tt
ends_as initial h n act (Disk kept) l r good can = tt
ends_as initial h n act (Crashed kept) l r good can = tt

-- ---- an act that may happen

-- what its node does of its own accord can be read
abbrev pub IsGivenAct : Act → Type 0
IsGivenAct (StartJoin candidate term) = IsReadable (StartJoin candidate term)
IsGivenAct (Value version config value) = IsReadable (Value version config value)
IsGivenAct other = Unit {0}

pub act_readable : (initial : List Id) (h : History) (act : Act) → IsListed initial → IsLegal initial h → AllReadable h → is_opening act ≡ false → IsSourced initial (sent h) act → IsGivenAct act → IsReadable act
act_readable initial h (Bootstrap config) set l r shut s g = subst IsListed (sym s.0) set
act_readable initial h (StartJoin candidate term) set l r shut s g = g
act_readable initial h (TakeJoin join) set l r shut s g = sent_readable initial h l r (JoinMessage join) s
act_readable initial h (Value version config value) set l r shut s g = g
act_readable initial h (Publish request) set l r shut s g = sent_readable initial h l r (PublishMessage request) s
act_readable initial h (Response response) set l r shut s g = sent_readable initial h l r (ResponseMessage response) s
act_readable initial h (Commit commit) set l r shut s g = sent_readable initial h l r (CommitMessage commit) s
act_readable initial h (Open found) set l r shut s g = absurd cc

pub message_readable : (initial : List Id) (h : History) (n : Id) (act : Act) (o : Outcome) → IsLegal initial (Next h n act o) → AllReadable h → IsTrue (is_id n) → IsReadable act → (m : Message) → Contains (sent_by o) m → IsReadable (taking m)
message_readable initial h n act o l r good can m c = by_readable n (node_history h n) act o l.1.follows.follows (reply_readable n (node_history h n) act good (own_readable h n r) can) m c
