-- A history from before states had parents is a legal history, read without the parents.
use Rattle.std.proofs.Common.{◌≡◌, List, None, Some, refl, sym, ◌∙◌, ap, subst, arith, ◌⊎◌, inl, inr}
use Rattle.std.specs.Prelude.{Contains}
use Rattle.std.proofs.lemmas.List.Elements.{Contains-append_cases, Contains-append_left, Contains-append_right}
use Rattle.voting_config.specs.Ids.{Id}
use Rattle.cluster_state.specs.declared.messages.Join.{Join}
use Rattle.cluster_state.specs.declared.messages.PublishResponse.{PublishResponse}
use Rattle.cluster_state.specs.declared.messages.ApplyCommit.{ApplyCommit}
use Rattle.world_model.specs.Acts.{Act, Outcome, NodeHistory, Message, Bootstrap, StartJoin, TakeJoin, Value, Publish, Response, Commit, Open, Taken, Refused, Stopped, Answered, Disk, Crashed, JoinMessage, PublishMessage, ResponseMessage, CommitMessage}
use Rattle.world_model.specs.NodeState.{NodeState, node_state, durable_of}
use Rattle.world_model.specs.Replies.{is_taken, IsOutcomeAt}
use Rattle.world_model.specs.Histories.{History, NoEntries, Next, node_history, sent, sent_by, Continues, IsSourced, IsLegal, MayFollow, MayHappen}
use Rattle.world_model.specs.Bare.{bare_request, bare_message, bare_act, bare_outcome, bare_history, WasLegal}
use Rattle.world_model.proofs.Legal.{one_of, none_of}
use Rattle.world_model.proofs.Forgetting.{bare_at, bare_deeds, deeds_bare, state_bare, durable_bare, down_bare, reply_bare, writes_bare, opening_bare, request_is}

-- a message that was sent, of which this is what is left without parents
pub record SentAs (h : History) (m : Message) : Type 0 where
  pub message : Message
  pub is_sent : Contains (sent h) message
  pub is : bare_message message ≡ m

sent_by_from : (o : Outcome) (m : Message) → Contains (sent_by (bare_outcome o)) m → (n : Message) × Contains (sent_by o) n × (bare_message n ≡ m)
sent_by_from (Answered (Taken (Some n) w)) m c = (n, (0, (omega arith), refl), one_of (bare_message n) m c)
sent_by_from (Answered (Taken None w)) m c = none_of m c
sent_by_from (Answered (Refused cause)) m c = none_of m c
sent_by_from (Answered Stopped) m c = none_of m c
sent_by_from (Disk kept) m c = none_of m c
sent_by_from (Crashed kept) m c = none_of m c

pub sent_as : (h : History) (m : Message) → Contains (sent (bare_history h)) m → SentAs h m
sent_as NoEntries m c = none_of m c
sent_as (Next h n a o) m c = from (Contains-append_cases (sent (bare_history h)) (sent_by (bare_outcome o)) m c) (sent_as h m)
  where
    from : Contains (sent (bare_history h)) m ⊎ Contains (sent_by (bare_outcome o)) m → (Contains (sent (bare_history h)) m → SentAs h m) → SentAs (Next h n a o) m
    from (inl k) r = let v = r k in record { message = v.message; is_sent = Contains-append_left (sent h) (sent_by o) v.message v.is_sent; is = v.is }
    from (inr k) r = let v = sent_by_from o m k in record { message = v.0; is_sent = Contains-append_right (sent h) (sent_by o) v.0 v.1; is = v.2 }

join_is : (m : Message) (j : Join) → bare_message m ≡ JoinMessage j → m ≡ JoinMessage j
join_is (JoinMessage k) j e = e
join_is (PublishMessage r) j e = absurd cc
join_is (ResponseMessage r) j e = absurd cc
join_is (CommitMessage c) j e = absurd cc

response_is : (m : Message) (r : PublishResponse) → bare_message m ≡ ResponseMessage r → m ≡ ResponseMessage r
response_is (JoinMessage j) r e = absurd cc
response_is (PublishMessage q) r e = absurd cc
response_is (ResponseMessage q) r e = e
response_is (CommitMessage c) r e = absurd cc

commit_is : (m : Message) (c : ApplyCommit) → bare_message m ≡ CommitMessage c → m ≡ CommitMessage c
commit_is (JoinMessage j) c e = absurd cc
commit_is (PublishMessage r) c e = absurd cc
commit_is (ResponseMessage r) c e = absurd cc
commit_is (CommitMessage d) c e = e

pub commit_as : (h : History) (c : ApplyCommit) → Contains (sent (bare_history h)) (CommitMessage c) → Contains (sent h) (CommitMessage c)
commit_as h c k = let m = sent_as h (CommitMessage c) k in subst (λ (x : Message). Contains (sent h) x) (commit_is m.message c m.is) m.is_sent

-- an act that may come, of which this is what is left without parents
pub record ActAs (initial : List Id) (h : History) (n : Id) (a : Act) : Type 0 where
  pub act : Act
  pub is : bare_act act ≡ a
  pub continues : Continues (node_history h n) act
  pub sourced : IsSourced initial (sent h) act

act_as : (initial : List Id) (h : History) (n : Id) (a : Act) → Continues (node_history (bare_history h) n) a → IsSourced initial (sent (bare_history h)) a → ActAs initial h n a
act_as initial h n (Bootstrap c) k s = record { act = Bootstrap c; is = refl; continues = tt; sourced = s }
act_as initial h n (StartJoin c t) k s = record { act = StartJoin c t; is = refl; continues = tt; sourced = tt }
act_as initial h n (TakeJoin j) k s =
    let m = sent_as h (JoinMessage j) s in
    record { act = TakeJoin j; is = refl; continues = tt; sourced = subst (λ (x : Message). Contains (sent h) x) (join_is m.message j m.is) m.is_sent }
act_as initial h n (Value v c x) k s = record { act = Value v c x; is = refl; continues = tt; sourced = tt }
act_as initial h n (Publish r) k s = let m = sent_as h (PublishMessage r) s in from m.message m.is_sent m.is
  where
    from : (m : Message) → Contains (sent h) m → bare_message m ≡ PublishMessage r → ActAs initial h n (Publish r)
    from (PublishMessage q) c e = record { act = Publish q; is = ap Publish (request_is (bare_request q) r e); continues = tt; sourced = c }
    from (JoinMessage j) c e = absurd cc
    from (ResponseMessage q) c e = absurd cc
    from (CommitMessage q) c e = absurd cc
act_as initial h n (Response r) k s =
    let m = sent_as h (ResponseMessage r) s in
    record { act = Response r; is = refl; continues = tt; sourced = subst (λ (x : Message). Contains (sent h) x) (response_is m.message r m.is) m.is_sent }
act_as initial h n (Commit c) k s = record { act = Commit c; is = refl; continues = tt; sourced = commit_as h c s }
act_as initial h n (Open found) k s =
    let kept : durable_of (node_history (bare_history h) n) ≡ durable_of (bare_deeds (node_history h n)) = ap durable_of (deeds_bare h n) in
    record { act = Open (durable_of (node_history h n)); is = ap Open (sym (k ∙ kept ∙ durable_bare (node_history h n))); continues = refl; sourced = tt }

outcome_at_back : (me : Id) (p : NodeState) (a : Act) (o : Outcome) → IsOutcomeAt me (bare_at p) (bare_act a) o → IsOutcomeAt me p a o
outcome_at_back me p a (Answered r) f = f ∙ reply_bare me p a
outcome_at_back me p a (Disk kept) f = (sym (ap is_taken (reply_bare me p a)) ∙ f.0, sym (writes_bare a) ∙ f.1)
outcome_at_back me p a (Crashed kept) f = (sym (ap is_taken (reply_bare me p a)) ∙ f.0, sym (writes_bare a) ∙ f.1)

follow_back : (me : Id) (g : NodeHistory) (a : Act) (o : Outcome) → MayFollow me (bare_deeds g) (bare_act a) o → MayFollow me g a o
follow_back me g a o m = record {
  follows = outcome_at_back me (node_state g) a o (subst (λ (p : NodeState). IsOutcomeAt me p (bare_act a) o) (state_bare g) m.follows);
  up = λ d. sym (opening_bare a) ∙ m.up (down_bare g ∙ d);
}

may_back : (initial : List Id) (h : History) (n : Id) (a : Act) (o : Outcome) → MayHappen initial (bare_history h) n (bare_act a) o → Continues (node_history h n) a → IsSourced initial (sent h) a → MayHappen initial h n a o
may_back initial h n a o m continues sourced = record {
  follows = follow_back n (node_history h n) a o (subst (λ (g : NodeHistory). MayFollow n g (bare_act a) o) (deeds_bare h n) m.follows);
  continues = continues;
  sourced = sourced;
}

pub remembered : (initial : List Id) (h : History) → WasLegal initial h → (k : History) × IsLegal initial k × (bare_history k ≡ h)
remembered initial NoEntries l = (NoEntries, tt, refl)
remembered initial (Next h n a o) l =
    let before = remembered initial h l.0 in
    let k : History = before.0 in
    let now : Outcome = l.1.outcome_now in
    let may = subst (λ (x : History). MayHappen initial x n a now) (sym before.2) l.1.may_happen in
    let c = act_as initial k n a may.continues may.sourced in
    let is_bare = l.1.is_bare in (
      Next k n c.act now,
      (before.1, may_back initial k n c.act now (subst (λ (x : Act). MayHappen initial (bare_history k) n x now) (sym c.is) may) c.continues c.sourced),
      λ i. Next (before.2 i) n (c.is i) (sym is_bare i),
    )
