-- What a history is without the parents of its states: the same acts may happen, with the same answers.
use Rattle.std.proofs.Common.{◌≡◌, max, Bool, true, false, cond, ◌||◌, None, Some, List, [], ◌∷◌, ◌++◌, refl, sym, ◌∙◌, ap, subst, arith, ◌⊎◌, inl, inr}
use Rattle.std.specs.Prelude.{Contains}
use Rattle.std.proofs.lemmas.List.Elements.{Contains-append_cases, Contains-append_left, Contains-append_right}
use Rattle.voting_config.specs.Ids.{Id, same, with_id}
use Rattle.cluster_state.specs.declared.messages.PublishRequest.{PublishRequest}
use Rattle.world_model.specs.Acts.{Act, Outcome, NodeHistory, Message, Bootstrap, StartJoin, TakeJoin, Value, Publish, Response, Commit, Open, NoActs, Then, Taken, Refused, Stopped, Answered, Disk, Crashed, JoinMessage, PublishMessage, ResponseMessage, CommitMessage, is_ok, is_effective, wins, is_disk, is_first, is_opening}
use Rattle.world_model.specs.NodeState.{NodeState, node_state, durable_of, term_of, accepted_of, committed_of, started_join_of, join_votes_of, election_won_of, published_version_of, published_config_of, publish_votes_of, halted_of, initial_state}
use Rattle.world_model.specs.Replies.{reply_at, writes, is_taken, IsOutcome, IsOutcomeAt}
use Rattle.world_model.specs.Histories.{History, NoEntries, Next, node_history, sent, sent_by, is_down, Continues, IsSourced, MayFollow, MayHappen}
use Rattle.world_model.specs.Bare.{bare_state, bare_kept, bare_message, bare_act, bare_outcome, bare_history, WasLegal, GoesOn}
use Rattle.world_model.proofs.Legal.{one_of, none_of}

-- The parts of an outcome.

pub same_ok : (o : Outcome) → is_ok (bare_outcome o) ≡ is_ok o
same_ok (Answered (Taken (Some m) w)) = refl
same_ok (Answered (Taken None w)) = refl
same_ok (Answered (Refused c)) = refl
same_ok (Answered Stopped) = refl
same_ok (Disk kept) = refl
same_ok (Crashed kept) = refl

pub same_effect : (o : Outcome) → is_effective (bare_outcome o) ≡ is_effective o
same_effect (Answered (Taken (Some m) w)) = refl
same_effect (Answered (Taken None w)) = refl
same_effect (Answered (Refused c)) = refl
same_effect (Answered Stopped) = refl
same_effect (Disk kept) = refl
same_effect (Crashed kept) = refl

pub same_wins : (o : Outcome) → wins (bare_outcome o) ≡ wins o
same_wins (Answered (Taken (Some m) w)) = refl
same_wins (Answered (Taken None w)) = refl
same_wins (Answered (Refused c)) = refl
same_wins (Answered Stopped) = refl
same_wins (Disk kept) = refl
same_wins (Crashed kept) = refl

same_disk : (o : Outcome) → is_disk (bare_outcome o) ≡ is_disk o
same_disk (Answered (Taken (Some m) w)) = refl
same_disk (Answered (Taken None w)) = refl
same_disk (Answered (Refused c)) = refl
same_disk (Answered Stopped) = refl
same_disk (Disk kept) = refl
same_disk (Crashed kept) = refl

bare_twice : (m : Message) → bare_message (bare_message m) ≡ bare_message m
bare_twice (JoinMessage j) = refl
bare_twice (PublishMessage r) = refl
bare_twice (ResponseMessage r) = refl
bare_twice (CommitMessage c) = refl

bare_outcome_twice : (o : Outcome) → bare_outcome (bare_outcome o) ≡ bare_outcome o
bare_outcome_twice (Answered (Taken (Some m) w)) = ap (λ (n : Message). Answered (Taken (Some n) w)) (bare_twice m)
bare_outcome_twice (Answered (Taken None w)) = refl
bare_outcome_twice (Answered (Refused c)) = refl
bare_outcome_twice (Answered Stopped) = refl
bare_outcome_twice (Disk kept) = refl
bare_outcome_twice (Crashed kept) = refl

-- The acts of one node.

abbrev pub bare_deeds : NodeHistory → NodeHistory
bare_deeds NoActs = NoActs
bare_deeds (Then g a o) = Then (bare_deeds g) (bare_act a) (bare_outcome o)

abbrev pub bare_at : NodeState → NodeState
bare_at p = record p { accepted = bare_state p.accepted }

pub deeds_bare : (h : History) (n : Id) → node_history (bare_history h) n ≡ bare_deeds (node_history h n)
deeds_bare NoEntries n = refl
deeds_bare (Next h m a o) n = from (same m n) (deeds_bare h n)
  where
    from : (b : Bool) → node_history (bare_history h) n ≡ bare_deeds (node_history h n)
        → cond b (Then (node_history (bare_history h) n) (bare_act a) (bare_outcome o)) (node_history (bare_history h) n) ≡ bare_deeds (cond b (Then (node_history h n) a o) (node_history h n))
    from true e = ap (λ (g : NodeHistory). Then g (bare_act a) (bare_outcome o)) e
    from false e = e

cond_out : {A B : Type 0} (b : Bool) (f : A → B) (x y : A) → cond b (f x) (f y) ≡ f (cond b x y)
cond_out true f x y = refl
cond_out false f x y = refl

first_bare : (g : NodeHistory) → is_first (bare_deeds g) ≡ is_first g
first_bare NoActs = refl
first_bare (Then g a o) = refl

pub term_bare : (g : NodeHistory) → term_of (bare_deeds g) ≡ term_of g
term_bare NoActs = refl
term_bare (Then g (StartJoin c t) o) = λ i. cond (same_effect o i) (max t (term_bare g i)) (term_bare g i)
term_bare (Then g (Open found) o) = λ i. cond (first_bare g i) found.term (term_bare g i)
term_bare (Then g a o) = term_bare g

pub accepted_bare : (g : NodeHistory) → accepted_of (bare_deeds g) ≡ bare_state (accepted_of g)
accepted_bare NoActs = refl
accepted_bare (Then g (Bootstrap c) o) = (λ i. cond (same_effect o i) (initial_state c) (accepted_bare g i)) ∙ cond_out (is_effective o) bare_state (initial_state c) (accepted_of g)
accepted_bare (Then g (Publish r) o) = (λ i. cond (same_effect o i) (bare_state r.state) (accepted_bare g i)) ∙ cond_out (is_effective o) bare_state r.state (accepted_of g)
accepted_bare (Then g (Open found) o) = (λ i. cond (first_bare g i) (bare_state found.accepted) (accepted_bare g i)) ∙ cond_out (is_first g) bare_state found.accepted (accepted_of g)
accepted_bare (Then g a o) = accepted_bare g

committed_bare : (g : NodeHistory) → committed_of (bare_deeds g) ≡ committed_of g
committed_bare NoActs = refl
committed_bare (Then g (Bootstrap c) o) = λ i. cond (same_effect o i) c (committed_bare g i)
committed_bare (Then g (Publish r) o) = λ i. cond (same_effect o i) r.state.committed (committed_bare g i)
committed_bare (Then g (Commit c) o) = λ i. cond (same_effect o i) (accepted_bare g i).config (committed_bare g i)
committed_bare (Then g (Open found) o) = λ i. cond (first_bare g i) found.committed (committed_bare g i)
committed_bare (Then g a o) = committed_bare g

started_bare : (g : NodeHistory) → started_join_of (bare_deeds g) ≡ started_join_of g
started_bare NoActs = refl
started_bare (Then g (StartJoin c t) o) = λ i. same_ok o i || started_bare g i
started_bare (Then g (Open found) o) = refl
started_bare (Then g a o) = started_bare g

join_votes_bare : (g : NodeHistory) → join_votes_of (bare_deeds g) ≡ join_votes_of g
join_votes_bare NoActs = refl
join_votes_bare (Then g (StartJoin c t) o) = λ i. cond (same_ok o i) [] (join_votes_bare g i)
join_votes_bare (Then g (TakeJoin j) o) = λ i. cond (same_ok o i) (with_id j.source (join_votes_bare g i)) (join_votes_bare g i)
join_votes_bare (Then g (Open found) o) = refl
join_votes_bare (Then g a o) = join_votes_bare g

won_bare : (g : NodeHistory) → election_won_of (bare_deeds g) ≡ election_won_of g
won_bare NoActs = refl
won_bare (Then g (StartJoin c t) o) = λ i. cond (same_ok o i) false (won_bare g i)
won_bare (Then g (TakeJoin j) o) = λ i. same_wins o i || won_bare g i
won_bare (Then g (Open found) o) = refl
won_bare (Then g a o) = won_bare g

version_bare : (g : NodeHistory) → published_version_of (bare_deeds g) ≡ published_version_of g
version_bare NoActs = refl
version_bare (Then g (StartJoin c t) o) = λ i. cond (same_ok o i) 0 (version_bare g i)
version_bare (Then g (TakeJoin j) o) = λ i. cond (same_wins o i) (accepted_bare g i).version (version_bare g i)
version_bare (Then g (Value v c x) o) = λ i. cond (same_ok o i) v (version_bare g i)
version_bare (Then g (Open found) o) = refl
version_bare (Then g a o) = version_bare g

config_bare : (g : NodeHistory) → published_config_of (bare_deeds g) ≡ published_config_of g
config_bare NoActs = refl
config_bare (Then g (StartJoin c t) o) = λ i. cond (same_ok o i) (accepted_bare g i).config (config_bare g i)
config_bare (Then g (Value v c x) o) = λ i. cond (same_ok o i) c (config_bare g i)
config_bare (Then g (Open found) o) = refl
config_bare (Then g a o) = config_bare g

publish_votes_bare : (g : NodeHistory) → publish_votes_of (bare_deeds g) ≡ publish_votes_of g
publish_votes_bare NoActs = refl
publish_votes_bare (Then g (StartJoin c t) o) = λ i. cond (same_ok o i) [] (publish_votes_bare g i)
publish_votes_bare (Then g (Value v c x) o) = λ i. cond (same_ok o i) [] (publish_votes_bare g i)
publish_votes_bare (Then g (Response r) o) = λ i. cond (same_ok o i) (with_id r.source (publish_votes_bare g i)) (publish_votes_bare g i)
publish_votes_bare (Then g (Open found) o) = refl
publish_votes_bare (Then g a o) = publish_votes_bare g

halted_bare : (g : NodeHistory) → halted_of (bare_deeds g) ≡ halted_of g
halted_bare NoActs = refl
halted_bare (Then g (Open found) o) = refl
halted_bare (Then g a o) = λ i. same_disk o i || halted_bare g i

pub down_bare : (g : NodeHistory) → is_down (bare_deeds g) ≡ is_down g
down_bare NoActs = refl
down_bare (Then g a (Answered (Taken (Some m) w))) = refl
down_bare (Then g a (Answered (Taken None w))) = refl
down_bare (Then g a (Answered (Refused c))) = refl
down_bare (Then g a (Answered Stopped)) = refl
down_bare (Then g a (Disk kept)) = refl
down_bare (Then g a (Crashed kept)) = refl

pub state_bare : (g : NodeHistory) → node_state (bare_deeds g) ≡ bare_at (node_state g)
state_bare g = λ i. record {
  term = term_bare g i;
  accepted = accepted_bare g i;
  committed = committed_bare g i;
  started_join = started_bare g i;
  join_votes = join_votes_bare g i;
  election_won = won_bare g i;
  published_version = version_bare g i;
  published_config = config_bare g i;
  publish_votes = publish_votes_bare g i;
  halted = halted_bare g i;
}

pub durable_bare : (g : NodeHistory) → durable_of (bare_deeds g) ≡ bare_kept (durable_of g)
durable_bare g = λ i. record { term = term_bare g i; accepted = accepted_bare g i; committed = committed_bare g i }

-- the answers are the same
pub reply_bare : (me : Id) (p : NodeState) (a : Act) → reply_at me (bare_at p) (bare_act a) ≡ reply_at me p a
reply_bare me p (Bootstrap c) = refl
reply_bare me p (StartJoin c t) = refl
reply_bare me p (TakeJoin j) = refl
reply_bare me p (Value v c x) = refl
reply_bare me p (Publish r) = refl
reply_bare me p (Response r) = refl
reply_bare me p (Commit c) = refl
reply_bare me p (Open found) = refl

pub writes_bare : (a : Act) → writes (bare_act a) ≡ writes a
writes_bare (Bootstrap c) = refl
writes_bare (StartJoin c t) = refl
writes_bare (TakeJoin j) = refl
writes_bare (Value v c x) = refl
writes_bare (Publish r) = refl
writes_bare (Response r) = refl
writes_bare (Commit c) = refl
writes_bare (Open found) = refl

pub opening_bare : (a : Act) → is_opening (bare_act a) ≡ is_opening a
opening_bare (Bootstrap c) = refl
opening_bare (StartJoin c t) = refl
opening_bare (TakeJoin j) = refl
opening_bare (Value v c x) = refl
opening_bare (Publish r) = refl
opening_bare (Response r) = refl
opening_bare (Commit c) = refl
opening_bare (Open found) = refl

outcome_at_bare : (me : Id) (p : NodeState) (a : Act) (o : Outcome) → IsOutcomeAt me p a o → IsOutcomeAt me (bare_at p) (bare_act a) o
outcome_at_bare me p a (Answered r) f = f ∙ sym (reply_bare me p a)
outcome_at_bare me p a (Disk kept) f = (ap is_taken (reply_bare me p a) ∙ f.0, writes_bare a ∙ f.1)
outcome_at_bare me p a (Crashed kept) f = (ap is_taken (reply_bare me p a) ∙ f.0, writes_bare a ∙ f.1)

pub outcome_bare : (me : Id) (g : NodeHistory) (a : Act) (o : Outcome) → IsOutcome me g a o → IsOutcome me (bare_deeds g) (bare_act a) o
outcome_bare me g a o f = subst (λ (p : NodeState). IsOutcomeAt me p (bare_act a) o) (sym (state_bare g)) (outcome_at_bare me (node_state g) a o f)

follow_bare : (me : Id) (g : NodeHistory) (a : Act) (o : Outcome) → MayFollow me g a o → MayFollow me (bare_deeds g) (bare_act a) o
follow_bare me g a o m = record {
  follows = outcome_bare me g a o m.follows;
  up = λ d. opening_bare a ∙ m.up (sym (down_bare g) ∙ d);
}

continue_bare : (g : NodeHistory) (a : Act) → Continues g a → Continues (bare_deeds g) (bare_act a)
continue_bare g (Open found) c = ap bare_kept c ∙ sym (durable_bare g)
continue_bare g (Bootstrap config) c = tt
continue_bare g (StartJoin candidate term) c = tt
continue_bare g (TakeJoin join) c = tt
continue_bare g (Value version config value) c = tt
continue_bare g (Publish request) c = tt
continue_bare g (Response response) c = tt
continue_bare g (Commit commit) c = tt

-- The messages of a history.

sent_by_bare : (o : Outcome) (m : Message) → Contains (sent_by o) m → Contains (sent_by (bare_outcome o)) (bare_message m)
sent_by_bare (Answered (Taken (Some n) w)) m c = subst (λ (x : Message). Contains (bare_message n ∷ []) (bare_message x)) (one_of n m c) (0, (omega arith), refl)
sent_by_bare (Answered (Taken None w)) m c = none_of m c
sent_by_bare (Answered (Refused cause)) m c = none_of m c
sent_by_bare (Answered Stopped) m c = none_of m c
sent_by_bare (Disk kept) m c = none_of m c
sent_by_bare (Crashed kept) m c = none_of m c

pub sent_bare : (h : History) (m : Message) → Contains (sent h) m → Contains (sent (bare_history h)) (bare_message m)
sent_bare NoEntries m c = none_of m c
sent_bare (Next h n a o) m c = from (Contains-append_cases (sent h) (sent_by o) m c) (sent_bare h m)
  where
    from : Contains (sent h) m ⊎ Contains (sent_by o) m → (Contains (sent h) m → Contains (sent (bare_history h)) (bare_message m)) → Contains (sent (bare_history h) ++ sent_by (bare_outcome o)) (bare_message m)
    from (inl k) r = Contains-append_left (sent (bare_history h)) (sent_by (bare_outcome o)) (bare_message m) (r k)
    from (inr k) r = Contains-append_right (sent (bare_history h)) (sent_by (bare_outcome o)) (bare_message m) (sent_by_bare o m k)

source_bare : (initial : List Id) (h : History) (a : Act) → IsSourced initial (sent h) a → IsSourced initial (sent (bare_history h)) (bare_act a)
source_bare initial h (Bootstrap config) s = s
source_bare initial h (TakeJoin join) s = sent_bare h (JoinMessage join) s
source_bare initial h (Publish request) s = sent_bare h (PublishMessage request) s
source_bare initial h (Response response) s = sent_bare h (ResponseMessage response) s
source_bare initial h (Commit commit) s = sent_bare h (CommitMessage commit) s
source_bare initial h (StartJoin candidate term) s = tt
source_bare initial h (Value version config value) s = tt
source_bare initial h (Open found) s = tt

-- what may happen may happen without parents
pub may_bare : (initial : List Id) (h : History) (n : Id) (a : Act) (o : Outcome) → MayHappen initial h n a o → MayHappen initial (bare_history h) n (bare_act a) o
may_bare initial h n a o m = record {
  follows = subst (λ (g : NodeHistory). MayFollow n g (bare_act a) o) (sym (deeds_bare h n)) (follow_bare n (node_history h n) a o m.follows);
  continues = subst (λ (g : NodeHistory). Continues g (bare_act a)) (sym (deeds_bare h n)) (continue_bare (node_history h n) a m.continues);
  sourced = source_bare initial h a m.sourced;
}

-- what was legal before states had parents stays so
was_still : (initial : List Id) (h : History) → WasLegal initial h → WasLegal initial (bare_history h)
was_still initial NoEntries l = tt
was_still initial (Next h n a o) l = (
  was_still initial h l.0,
  record { outcome_now = l.1.outcome_now; may_happen = may_bare initial h n a l.1.outcome_now l.1.may_happen; is_bare = ap bare_outcome l.1.is_bare ∙ bare_outcome_twice l.1.outcome_now },
)

pub forgotten : (initial : List Id) (p h : History) → WasLegal initial p → GoesOn initial p h → WasLegal initial (bare_history h)
forgotten initial p NoEntries l g = tt
forgotten initial p (Next h n a o) l (inl e) = was_still initial (Next h n a o) (subst (WasLegal initial) e l)
forgotten initial p (Next h n a o) l (inr g) = (
  forgotten initial p h l g.0,
  record { outcome_now = o; may_happen = may_bare initial h n a o g.1; is_bare = refl },
)

-- Before states had parents no state had one.

sent_by_was_bare : (o now : Outcome) (m : Message) → o ≡ bare_outcome now → Contains (sent_by o) m → bare_message m ≡ m
sent_by_was_bare o (Answered (Taken (Some n) w)) m e c =
    let is = one_of (bare_message n) m (subst (λ (x : Outcome). Contains (sent_by x) m) e c) in
    subst (λ (x : Message). bare_message x ≡ x) is (bare_twice n)
sent_by_was_bare o (Answered (Taken None w)) m e c = none_of m (subst (λ (x : Outcome). Contains (sent_by x) m) e c)
sent_by_was_bare o (Answered (Refused cause)) m e c = none_of m (subst (λ (x : Outcome). Contains (sent_by x) m) e c)
sent_by_was_bare o (Answered Stopped) m e c = none_of m (subst (λ (x : Outcome). Contains (sent_by x) m) e c)
sent_by_was_bare o (Disk kept) m e c = none_of m (subst (λ (x : Outcome). Contains (sent_by x) m) e c)
sent_by_was_bare o (Crashed kept) m e c = none_of m (subst (λ (x : Outcome). Contains (sent_by x) m) e c)

sent_was_bare : (initial : List Id) (h : History) → WasLegal initial h → (m : Message) → Contains (sent h) m → bare_message m ≡ m
sent_was_bare initial NoEntries l m c = none_of m c
sent_was_bare initial (Next h n a o) l m c = from (Contains-append_cases (sent h) (sent_by o) m c) (sent_was_bare initial h l.0 m)
  where
    from : Contains (sent h) m ⊎ Contains (sent_by o) m → (Contains (sent h) m → bare_message m ≡ m) → bare_message m ≡ m
    from (inl k) r = r k
    from (inr k) r = sent_by_was_bare o l.1.outcome_now m l.1.is_bare k

pub request_is : (q r : PublishRequest) → PublishMessage q ≡ PublishMessage r → q ≡ r
request_is q r e = cc

act_was_bare : (initial : List Id) (h : History) (n : Id) (a : Act) (o : Outcome) → ((m : Message) → Contains (sent h) m → bare_message m ≡ m) → bare_history h ≡ h → MayHappen initial h n a o → bare_act a ≡ a
act_was_bare initial h n (Publish r) o all same m = ap Publish (request_is _ _ (all (PublishMessage r) m.sourced))
act_was_bare initial h n (Open found) o all same m =
    let kept : bare_kept (durable_of (node_history h n)) ≡ durable_of (node_history h n) = sym (durable_bare (node_history h n)) ∙ ap durable_of (sym (deeds_bare h n) ∙ ap (λ (x : History). node_history x n) same) in
    ap Open (ap bare_kept m.continues ∙ kept ∙ sym m.continues)
act_was_bare initial h n (Bootstrap c) o all same m = refl
act_was_bare initial h n (StartJoin c t) o all same m = refl
act_was_bare initial h n (TakeJoin j) o all same m = refl
act_was_bare initial h n (Value v c x) o all same m = refl
act_was_bare initial h n (Response r) o all same m = refl
act_was_bare initial h n (Commit c) o all same m = refl

pub was_bare : (initial : List Id) (h : History) → WasLegal initial h → bare_history h ≡ h
was_bare initial NoEntries l = refl
was_bare initial (Next h n a o) l =
    let before = was_bare initial h l.0 in
    let act = act_was_bare initial h n a l.1.outcome_now (sent_was_bare initial h l.0) before l.1.may_happen in
    let outcome : bare_outcome o ≡ o = ap bare_outcome l.1.is_bare ∙ bare_outcome_twice l.1.outcome_now ∙ sym l.1.is_bare in
    λ i. Next (before i) n (act i) (outcome i)
