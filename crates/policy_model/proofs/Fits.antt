-- From what is within the limits a node sends and becomes only what is.
use Rattle.std.proofs.Common.{◌≡◌, ℕ, ◌+◌, ◌≤◌, ◌<◌, ◌^◌, Bool, true, false, not, cond, ◌&&◌, Option, None, Some, Result, Ok, Err, List, [], ◌∷◌, ◌++◌, refl, sym, ◌∙◌, arith}
use Rattle.std.specs.Prelude.{if◌then◌else◌, max, is_some, nat_le, nat_lt, nat_eq}
use Rattle.std.specs.List.{flat_map, AllByRecursion}
use Rattle.std.proofs.lemmas.Bool.Decides.{nat_tests}
use Rattle.cluster_state.specs.Field.{last_number}
use Rattle.fault_checks.specs.Followers.{ids_of}
use Rattle.voting_config.specs.Ids.{Id, has, before, same, same_config, is_quorum_of, has_room}
use Rattle.bootstrap.specs.Decisions.{decision_of}
use Rattle.election_clock.specs.Delays.{is_due}
use Rattle.peer_finder.specs.Peers.{answered_set}
use Rattle.cluster_state.specs.JoinCheck.{is_empty}
use Rattle.cluster_state.specs.declared.causes.StartCause.TheVariants as start_cause
use Rattle.cluster_state.specs.declared.causes.ValueCause.TheVariants as value_cause
use Rattle.cluster_state.specs.declared.reply.LineFault.{LineFault}
use Rattle.cluster_state.specs.declared.request.Request.{Request}
use Rattle.cluster_state.specs.declared.state.ClusterState.{ClusterState}
use Rattle.cluster_state.specs.declared.state.ClusterValue.{ClusterValue}
use Rattle.cluster_state.specs.declared.state.Kept.{Kept}
use Rattle.cluster_state.specs.declared.state.StateId.{StateId}
use Rattle.cluster_state.specs.declared.messages.PublishRequest.{PublishRequest}
use Rattle.cluster_state.specs.Initial.{initial_state}
use Rattle.cluster_state.specs.Puts.{bad_setting_of}
use Rattle.cluster_state.specs.Settings.{IsSettings}
use Rattle.cluster_state.specs.StateIds.{is_above_parent}
use Rattle.cluster_state.specs.States.{IsFit, IsFitValue, id_of}
use Rattle.cluster_state.proofs.JsonLaws.{ascending_keys}
use Rattle.wire_frames.specs.declared.frame.Frame.{Frame}
use Rattle.wire_frames.specs.declared.frame.WireMessage.{WireMessage}
use Rattle.wire_frames.specs.declared.frame.WireMessage.TheVariants as message
use Rattle.wire_frames.specs.Messages.{IsFitId, IsFitMessage}
use Rattle.wire_frames.specs.Frames.{IsFitFrame}
use Rattle.client_lines.specs.Reading.{line_request}
use Rattle.pre_vote.specs.declared.rounds.Added.{Added}
use Rattle.pre_vote.specs.declared.rounds.Added.TheVariants.{Counted, Fresher, Quorum}
use Rattle.pre_vote.specs.declared.replies.Reply.{Reply as PreVoteReply}
use Rattle.pre_vote.specs.declared.replies.Reply.TheVariants.{Answer as PreVoteAnswer, Refused as PreVoteRefused}
use Rattle.pre_vote.specs.Rounds.{Round}
use Rattle.fault_checks.specs.declared.leader.LeaderTick.{LeaderTick}
use Rattle.fault_checks.specs.declared.leader.LeaderTick.TheVariants.{Quiet, Ask, Lost}
use Rattle.fault_checks.specs.Leaders.{LeaderCheck, leader_tick}
use Rattle.master_tasks.specs.declared.waiting.Outgoing.{Outgoing}
use Rattle.master_tasks.specs.declared.waiting.Waiting.{Waiting}
use Rattle.master_tasks.specs.Answering.{timed_out, committed_in, applied_in}
use Rattle.master_tasks.specs.Fitting.{HaveGoodSettings}
use Rattle.master_tasks.specs.NextState.{next_answers, is_nothing_new}
use Rattle.master_tasks.specs.Queue.{Tasks, is_full_of, arriving, to_be_added}
use Rattle.master_tasks.proofs.Limits.{fits_next, good_after, good_left, good_offered}
use Rattle.world_model.specs.declared.acts.Act.{Act}
use Rattle.world_model.specs.declared.acts.Act.TheVariants.{Bootstrap, StartJoin, TakeJoin, Value, Publish, Response, Commit, Open}
use Rattle.world_model.specs.declared.acts.Cause.{Cause}
use Rattle.world_model.specs.declared.acts.Cause.TheVariants.{Start as StartRefused, Value as ValueRefused}
use Rattle.world_model.specs.declared.acts.Message.{Message as SentMessage}
use Rattle.world_model.specs.declared.acts.Message.TheVariants.{Publish as PublishSent}
use Rattle.world_model.specs.declared.acts.Outcome.TheVariants.{Answered}
use Rattle.world_model.specs.declared.acts.ActReply.{ActReply}
use Rattle.world_model.specs.declared.acts.ActReply.TheVariants.{Taken, Refused, Stopped}
use Rattle.world_model.specs.Acts.{is_effective}
use Rattle.world_model.specs.NodeState.{NodeState}
use Rattle.world_model.specs.Replies.{reply_at, is_taken, after_check, start_checked, start_reply, value_reply, publish_reply}
use Rattle.policy_model.specs.declared.settings.Settings.{Settings}
use Rattle.policy_model.specs.Events.{Mode, Candidate, Leader, Follower, Event, Start, Tick, FrameCame, LineCame, PeerGone, DropCause, Note, Met, Heard, PeersAsked, ElectionOff, ElectionSet, RoundBegun, RoundAnswered, RoundEnded, Joined, FollowersChecked, FollowerAnswered, LeaderChecked, LeaderAnswered, Queued, ExclusionsTimedOut, CommitAcked, AppliedAnswered, StateMade, HandedOver, PeerLost, LeaderLost, Item, Opens, Begins, Acts, ChangesMode, Drops, Sends, Replies, Notes}
use Rattle.policy_model.specs.Entries.{frames_in, put_frame, by_receiver}
use Rattle.policy_model.specs.Parts.{all_to_be_added, round_answered, published_id}
use Rattle.policy_model.specs.LookBacks.{yields}
use Rattle.policy_model.specs.Views.{View, master_now}
use Rattle.policy_model.specs.Moves.{opened, moved, moved_all}
use Rattle.policy_model.specs.Doing as doing
use Rattle.policy_model.specs.NextState as next
use Rattle.policy_model.specs.Elections as elections
use Rattle.policy_model.specs.Discovery as discovery
use Rattle.policy_model.specs.Joins as joins
use Rattle.policy_model.specs.Publications as publications
use Rattle.policy_model.specs.Checks as checks
use Rattle.policy_model.specs.Requests as requests
use Rattle.policy_model.specs.Rules as rules
use Rattle.policy_model.specs.Disconnects as disconnects
use Rattle.policy_model.specs.Fitting.{IsFitRound, AreFit, IsFitView, IsFitKept, IsFitEvent, HoldsSettings, EventHoldsSettings, StaysFit}
use Rattle.policy_model.proofs.Sweeps.{moved_all-append, moved_all-replies}

-- ---- items that are no acts

-- a note holds what a node may hold
abbrev FitNote : Note → Type 0
FitNote (RoundAnswered source term last) = term ≤ 2 ^ 62
FitNote (Queued conn request) = bad_setting_of request.ask ≡ None
FitNote n = Unit {0}

abbrev FitItem : Item → Type 0
FitItem (ChangesMode mode term) = Unit {0}
FitItem (Drops member cause) = Unit {0}
FitItem (Sends frame) = IsFitFrame frame
FitItem (Replies answer) = Unit {0}
FitItem (Notes note) = FitNote note
FitItem i = ⊥

data AreSound : List Item → Type 0 where
  Silent : AreSound []
  Also : (i : Item) (is : List Item) → FitItem i → AreSound is → AreSound (i ∷ is)

sound-append : (xs ys : List Item) → AreSound xs → AreSound ys → AreSound (xs ++ ys)
sound-append xs ys Silent r = r
sound-append xs ys (Also i is e q) r = Also i (is ++ ys) e (sound-append is ys q r)

sound-if : (b : Bool) (xs ys : List Item) → AreSound xs → AreSound ys → AreSound (if b then xs else ys)
sound-if true xs ys q r = q
sound-if false xs ys q r = r

sound-when : (b : Bool) (xs ys : List Item) → (b ≡ true → AreSound xs) → AreSound ys → AreSound (if b then xs else ys)
sound-when true xs ys q r = q refl
sound-when false xs ys q r = r

-- ---- what one more item makes of a node

-- who is to come or to go makes no request
pub waiting-added : (t : Tasks) (ids : List Id) → (all_to_be_added t ids).waiting ≡ t.waiting
waiting-added t [] = refl
waiting-added t (id ∷ ids) = waiting-added (to_be_added t id) ids

with_waiting : (node : NodeState) (applied : StateId) (round : Option Round) (ws more : List Waiting) → AreFit node applied round ws → HaveGoodSettings more → AreFit node applied round more
with_waiting node applied round ws more f good =
    record { term = f.term; accepted = f.accepted; older = f.older; settings = f.settings; applied_id = f.applied_id; terms = f.terms; good = good }

with_round : (node : NodeState) (applied : StateId) (round now : Option Round) (ws : List Waiting) → AreFit node applied round ws → IsFitRound now → AreFit node applied now ws
with_round node applied round now ws f terms =
    record { term = f.term; accepted = f.accepted; older = f.older; settings = f.settings; applied_id = f.applied_id; terms = terms; good = f.good }

greater : (m n : ℕ) → m ≤ 2 ^ 62 → n ≤ 2 ^ 62 → max m n ≤ 2 ^ 62
greater m n h k = omega (arith, h, k)

answered-fits : (round : Option Round) (source : Id) (term : ℕ) (last : StateId) → IsFitRound round → term ≤ 2 ^ 62 → IsFitRound (round_answered round source term last)
answered-fits None source term last f h = tt
answered-fits (Some r) source term last f h = greater term r.greatest h f

module _ (s : Settings) where
  note-fits : (v : View) (n : Note) → IsFitView v → FitNote n → IsFitView (moved s v (Notes n))
  note-fits v (Met ids) f e = f
  note-fits v (Heard peer master) f e = f
  note-fits v PeersAsked f e = f
  note-fits v ElectionOff f e = f
  note-fits v (ElectionSet word) f e = f
  note-fits v (RoundBegun word) f e = with_round v.node v.applied v.round _ v.tasks.waiting f f.term
  note-fits v (RoundAnswered source term last) f e = with_round v.node v.applied v.round _ v.tasks.waiting f (answered-fits v.round source term last f.terms e)
  note-fits v RoundEnded f e = with_round v.node v.applied v.round None v.tasks.waiting f tt
  note-fits v (Joined ids) f e = with_waiting v.node v.applied v.round v.tasks.waiting _ f (rw (waiting-added v.tasks ids) f.good)
  note-fits v FollowersChecked f e = f
  note-fits v (FollowerAnswered from good applied) f e = f
  note-fits v LeaderChecked f e = f
  note-fits v (LeaderAnswered good) f e = f
  note-fits v (Queued conn request) f e = with_waiting v.node v.applied v.round v.tasks.waiting _ f (good_offered v.tasks (arriving conn v.moment request) f.good e)
  note-fits v ExclusionsTimedOut f e = with_waiting v.node v.applied v.round v.tasks.waiting _ f (good_left (timed_out v.node.committed v.moment) v.tasks.waiting f.good)
  note-fits v CommitAcked f e = with_waiting v.node v.applied v.round v.tasks.waiting _ f (good_left (committed_in (published_id v.node)) v.tasks.waiting f.good)
  note-fits v AppliedAnswered f e = with_waiting v.node v.applied v.round v.tasks.waiting _ f (good_left (applied_in v.node.committed v.node.accepted) v.tasks.waiting f.good)
  note-fits v StateMade f e = with_waiting v.node v.applied v.round v.tasks.waiting _ f (good_after (master_now s v) v.tasks f.good)
  note-fits v HandedOver f e = f
  note-fits v (PeerLost id) f e = f
  note-fits v LeaderLost f e = f

  item-fits : (v : View) (i : Item) → IsFitView v → FitItem i → IsFitView (moved s v i)
  item-fits v (ChangesMode Candidate term) f e = record { term = f.term; accepted = f.accepted; older = f.older; settings = f.settings; applied_id = f.applied_id; terms = tt; good = tt }
  item-fits v (ChangesMode Leader term) f e = f
  item-fits v (ChangesMode (Follower leader) term) f e = f
  item-fits v (Drops member cause) f e = f
  item-fits v (Sends frame) f e = f
  item-fits v (Replies answer) f e = f
  item-fits v (Notes note) f e = note-fits v note f e
  item-fits v (Opens found) f e = absurd e
  item-fits v (Begins event) f e = absurd e
  item-fits v (Acts act o) f e = absurd e

-- ---- acts

unless-halted : (b : Bool) (r : ActReply) (P : Type 0) → (is_taken r ≡ true → P) → is_taken (cond b Stopped r) ≡ true → P
unless-halted true r P f e = absurd (cc)
unless-halted false r P f e = f e

unless-refused : (b : Bool) (c : Cause) (r : ActReply) (P : Type 0) → (b ≡ false → is_taken r ≡ true → P) → is_taken (cond b (Refused c) r) ≡ true → P
unless-refused true c r P f e = absurd (cc)
unless-refused false c r P f e = f refl e

start-checked : (p : NodeState) (t : ℕ) (r : ActReply) → is_taken (after_check StartRefused (start_checked p t) r) ≡ true → t ≤ 2 ^ 62
start-checked p t r =
    elim (nat_le t p.term) as (λ b. is_taken (after_check StartRefused (cond b (Err (start_cause.TermNotGreater p.term t)) (cond (nat_lt last_number t) (Err (start_cause.TermTooLarge t)) (Ok tt))) r) ≡ true → t ≤ 2 ^ 62) [
      | true ↦ λ e. absurd (cc)
      | false ↦ elim (nat_lt last_number t) as (λ b. nat_lt last_number t ≡ b → is_taken (after_check StartRefused (cond b (Err (start_cause.TermTooLarge t)) (Ok tt)) r) ≡ true → t ≤ 2 ^ 62) [
        | true ↦ λ h e. absurd (cc)
        | false ↦ λ h e. grind (arith, nat_tests)
      ] refl
    ]

-- a join that is started is of a term within the limits
pub started-fits : (me : Id) (p : NodeState) (c : Id) (t : ℕ) → is_taken (reply_at me p (StartJoin c t)) ≡ true → t ≤ 2 ^ 62
started-fits me p c t e = unless-halted p.halted (start_reply me p c t) (t ≤ 2 ^ 62) (start-checked p t _) e

-- a value that is taken is of a version within the limits
pub value-fits : (me : Id) (p : NodeState) (version : ℕ) (config : List Id) (value : ClusterValue) → is_taken (reply_at me p (Value version config value)) ≡ true → version ≤ 2 ^ 62
value-fits me p version config value e =
    let P : Type 0 = version ≤ 2 ^ 62 in
    let r3 : ActReply =
    cond (not (same_config config p.accepted.config) && not (same_config p.committed p.accepted.config)) (Refused (ValueRefused value_cause.Reconfiguring))
    (cond (not (is_quorum_of config p.join_votes)) (Refused (ValueRefused value_cause.NoJoinQuorum))
    (Taken (Some (published me p version config value)) false))
    in
    let r2 : ActReply = cond (nat_lt last_number version) (Refused (ValueRefused (value_cause.VersionTooLarge version))) r3 in
    let r1 : ActReply = cond (nat_le version p.published_version) (Refused (ValueRefused (value_cause.VersionNotGreater p.published_version version))) r2 in
    let r0 : ActReply = cond (not (nat_eq p.published_version p.accepted.version)) (Refused (ValueRefused (value_cause.NotAccepted p.published_version p.accepted.version))) r1 in
    unless-halted p.halted (value_reply me p version config value) P
    (unless-refused (not p.election_won) (ValueRefused value_cause.NotWon) r0 P (λ a.
    unless-refused (not (nat_eq p.published_version p.accepted.version)) (ValueRefused (value_cause.NotAccepted p.published_version p.accepted.version)) r1 P (λ b.
    unless-refused (nat_le version p.published_version) (ValueRefused (value_cause.VersionNotGreater p.published_version version)) r2 P (λ c.
    unless-refused (nat_lt last_number version) (ValueRefused (value_cause.VersionTooLarge version)) r3 P (λ d taken. grind (arith, nat_tests)))))) e
  where
    published : Id → NodeState → ℕ → List Id → ClusterValue → SentMessage
    published me p version config value = PublishSent (record { source = me; state = record { term = p.term; version = version; parent = Some (id_of p.accepted); config = config; committed = p.committed; value = value } })

-- a published state that is taken is of the node's term
published-term : (me : Id) (p : NodeState) (r : PublishRequest) → is_taken (reply_at me p (Publish r)) ≡ true → r.state.term ≤ p.term
published-term me p r e =
    let P : Type 0 = r.state.term ≤ p.term in
    unless-halted p.halted (publish_reply me p r) P (unless-refused (not (nat_eq p.term r.state.term)) _ _ P (λ a taken. grind (arith, nat_tests))) e

taken-effective : (r : ActReply) → is_effective (Answered r) ≡ is_taken r
taken-effective (Taken sends wins) = refl
taken-effective (Refused cause) = refl
taken-effective Stopped = refl

-- what an act may bring a node to accept
abbrev FitAct : Act → Type 0
FitAct (Publish request) = IsFit request.state × IsSettings request.state.value.settings
FitAct (Open found) = ⊥
FitAct act = Unit {0}

fit-term : (b : Bool) (m n : ℕ) → (b ≡ true → m ≤ 2 ^ 62) → n ≤ 2 ^ 62 → cond b m n ≤ 2 ^ 62
fit-term true m n f h = f refl
fit-term false m n f h = h

fit-state : (b : Bool) (x y : ClusterState) → IsFit x → IsFit y → IsFit (cond b x y)
fit-state true x y f g = f
fit-state false x y f g = g

older-state : (b : Bool) (x y : ClusterState) (t : ℕ) → (b ≡ true → x.term ≤ t) → y.term ≤ t → (cond b x y).term ≤ t
older-state true x y t f h = f refl
older-state false x y t f h = h

older-term : (b : Bool) (accepted t term : ℕ) → accepted ≤ term → accepted ≤ cond b (max t term) term
older-term true accepted t term h = omega (arith, h)
older-term false accepted t term h = h

settled : (b : Bool) (x y : ClusterState) → IsSettings x.value.settings → IsSettings y.value.settings → IsSettings (cond b x y).value.settings
settled true x y f g = f
settled false x y f g = g

fit-id : (b : Bool) (x y : StateId) → IsFitId x → IsFitId y → IsFitId (if b then x else y)
fit-id true x y f g = f
fit-id false x y f g = g

pub initial-fits : (config : List Id) → IsFit (initial_state config)
initial-fits config = record { term = omega arith; version = omega arith; parent = tt; above_parent = refl; value = record { exclusions = omega arith; settings = record { few = omega arith; each = tt } } }

pub no_settings : IsSettings []
no_settings = record { ascending = refl; texts = refl }

none-fits : (b : Bool) (r : Option Round) → IsFitRound r → IsFitRound (cond b None r)
none-fits true r f = tt
none-fits false r f = f

id-fits : (x : ClusterState) → IsFit x → IsFitId (id_of x)
id-fits x f = record { term = f.term; version = f.version }

-- a state of no lower term and a greater version is above another one
pub above-accepted : (x : ClusterState) (t v : ℕ) → x.term ≤ t → x.version < v → is_above_parent (record { term = t; version = v }) (Some (id_of x)) ≡ true
above-accepted x t v h k = grind (arith, nat_tests)

module _ (s : Settings) where
  act-fits : (v : View) (act : Act) → IsFitView v → FitAct act → IsFitView (doing.after_act s v act)
  act-fits v (Bootstrap config) f e = record {
    term = f.term;
    accepted = fit-state _ (initial_state config) v.node.accepted (initial-fits config) f.accepted;
    older = older-state _ (initial_state config) v.node.accepted v.node.term (λ h. omega arith) f.older;
    settings = settled _ (initial_state config) v.node.accepted no_settings f.settings;
    applied_id = f.applied_id;
    terms = f.terms;
    good = f.good;
  }
  act-fits v (StartJoin candidate term) f e = record {
    term = fit-term _ (max term v.node.term) v.node.term (λ h. greater term v.node.term (started-fits s.me v.node candidate term (sym (taken-effective (reply_at s.me v.node (StartJoin candidate term))) ∙ h)) f.term) f.term;
    accepted = f.accepted;
    older = older-term _ v.node.accepted.term term v.node.term f.older;
    settings = f.settings;
    applied_id = f.applied_id;
    terms = none-fits (yields s v.lost_leader candidate (Answered (reply_at s.me v.node (StartJoin candidate term)))) v.round f.terms;
    good = f.good;
  }
  act-fits v (TakeJoin join) f e = record { term = f.term; accepted = f.accepted; older = f.older; settings = f.settings; applied_id = f.applied_id; terms = f.terms; good = f.good }
  act-fits v (Value version config value) f e = record { term = f.term; accepted = f.accepted; older = f.older; settings = f.settings; applied_id = f.applied_id; terms = f.terms; good = f.good }
  act-fits v (Publish request) f e = record {
    term = f.term;
    accepted = fit-state _ request.state v.node.accepted e.0 f.accepted;
    older = older-state _ request.state v.node.accepted v.node.term (λ h. published-term s.me v.node request (sym (taken-effective (reply_at s.me v.node (Publish request))) ∙ h)) f.older;
    settings = settled _ request.state v.node.accepted e.1 f.settings;
    applied_id = f.applied_id;
    terms = f.terms;
    good = f.good;
  }
  act-fits v (Response response) f e = record { term = f.term; accepted = f.accepted; older = f.older; settings = f.settings; applied_id = f.applied_id; terms = f.terms; good = f.good }
  act-fits v (Commit commit) f e = record {
    term = f.term;
    accepted = f.accepted;
    older = f.older;
    settings = f.settings;
    applied_id = fit-id _ (id_of v.node.accepted) v.applied (id-fits v.node.accepted f.accepted) f.applied_id;
    terms = f.terms;
    good = f.good;
  }
  act-fits v (Open found) f e = absurd e

  -- ---- how items are put together

  abbrev SentFit : Item → Type 0
  SentFit (Sends frame) = IsFitFrame frame
  SentFit i = Unit {0}

  record Fit (v : View) (is : List Item) : Type 0 where
    pub sent : AllByRecursion SentFit is
    pub after : IsFitView (moved_all s v is)

  fit-none : (v : View) → IsFitView v → Fit v []
  fit-none v f = record { sent = tt; after = f }

  sent-item : (i : Item) → FitItem i → SentFit i
  sent-item (Sends frame) e = e
  sent-item (ChangesMode mode term) e = tt
  sent-item (Drops member cause) e = tt
  sent-item (Replies answer) e = tt
  sent-item (Notes note) e = tt
  sent-item (Opens found) e = tt
  sent-item (Begins event) e = tt
  sent-item (Acts act o) e = tt

  fit-item : (v : View) (i : Item) (is : List Item) → IsFitView v → FitItem i → (IsFitView (moved s v i) → Fit (moved s v i) is) → Fit v (i ∷ is)
  fit-item v i is f e rest = let r = rest (item-fits s v i f e) in record { sent = (sent-item i e, r.sent); after = r.after }

  fit-act : (v : View) (act : Act) (is : List Item) → IsFitView v → FitAct act → (IsFitView (doing.after_act s v act) → Fit (doing.after_act s v act) is) → Fit v (doing.act_now s v act ∷ is)
  fit-act v act is f e rest = let r = rest (act-fits v act f e) in record { sent = (tt, r.sent); after = r.after }

  fit-sound : (v : View) (is : List Item) → IsFitView v → AreSound is → Fit v is
  fit-sound v xs f Silent = fit-none v f
  fit-sound v xs f (Also i is e q) = fit-item v i is f e (λ g. fit-sound (moved s v i) is g q)

  each-append : (xs ys : List Item) → AllByRecursion SentFit xs → AllByRecursion SentFit ys → AllByRecursion SentFit (xs ++ ys)
  each-append [] ys h k = k
  each-append (x ∷ xs) ys h k = (h.0, each-append xs ys h.1 k)

  fit-append : (v : View) (xs ys : List Item) → Fit v xs → (IsFitView (moved_all s v xs) → Fit (moved_all s v xs) ys) → Fit v (xs ++ ys)
  fit-append v xs ys a b = let c = b a.after in record { sent = each-append xs ys a.sent c.sent; after = rw (moved_all-append s v xs ys) c.after }

  fit-then : (v : View) (xs : List Item) (rule : View → List Item) → Fit v xs → ((u : View) → IsFitView u → Fit u (rule u)) → Fit v (doing.then_rule s v xs rule)
  fit-then v xs rule a b = fit-append v xs (rule (moved_all s v xs)) a (b (moved_all s v xs))

  fit-if : (v : View) (b : Bool) (xs ys : List Item) → (b ≡ true → Fit v xs) → Fit v ys → Fit v (if b then xs else ys)
  fit-if v true xs ys q r = q refl
  fit-if v false xs ys q r = r

  -- ---- changes of mode

  sound-sends : (ids : List Id) (m : WireMessage) → IsFitMessage m → AreSound (doing.send_all s ids m)
  sound-sends [] m e = Silent
  sound-sends (x ∷ xs) m e = Also _ _ e (sound-sends xs m e)

  sound-replies : (answers : List Outgoing) → AreSound (doing.reply_all s answers)
  sound-replies [] = Silent
  sound-replies (x ∷ xs) = Also _ _ tt (sound-replies xs)

  sound-drops : (ids : List Id) (cause : DropCause) → AreSound (checks.drop_all ids cause)
  sound-drops [] cause = Silent
  sound-drops (x ∷ xs) cause = Also _ _ tt (sound-drops xs cause)

  sound-becomes_candidate : (v : View) → AreSound (doing.becomes_candidate s v)
  sound-becomes_candidate v = sound-append _ _ (sound-if (doing.is_leader v.mode) _ _ (sound-replies _) Silent) (Also _ _ tt Silent)

  sound-becomes_candidate_once : (v : View) → AreSound (doing.becomes_candidate_once s v)
  sound-becomes_candidate_once v = sound-if (doing.is_candidate v.mode) _ _ Silent (sound-becomes_candidate v)

  sound-becomes_follower : (v : View) (p : Id) → AreSound (doing.becomes_follower s v p)
  sound-becomes_follower v p =
      sound-if (doing.follows_node v.mode p) _ _ Silent
      (sound-append _ _ (sound-if (doing.is_leader v.mode) _ _ (sound-becomes_candidate v) Silent) (Also _ _ tt Silent))

  fit-on_start_join : (v : View) (c : Id) (t : ℕ) → IsFitView v → Fit v (doing.on_start_join s v c t)
  fit-on_start_join v c t f =
      fit-act v (StartJoin c t) _ f tt (λ g.
      fit-if _ (doing.takes s v (StartJoin c t)) _ _
      (λ e. fit-sound _ _ g (Also _ _ (started-fits s.me v.node c t e, id-fits v.node.accepted f.accepted) (sound-becomes_candidate_once (doing.after_act s v (StartJoin c t)))))
      (fit-none _ g))

  fit-raises_term : (v : View) (c : Id) (t : ℕ) → IsFitView v → Fit v (doing.raises_term s v c t)
  fit-raises_term v c t f = fit-if v (nat_lt v.node.term t) _ _ (λ e. fit-on_start_join v c t f) (fit-none v f)

  -- ---- the next state

  next-fits : (v : View) → IsFitView v → IsFitValue (next.value_now s v)
  next-fits v f = fits_next (master_now s v) v.tasks f.accepted.value (ascending_keys [] v.node.accepted.value.settings refl f.settings.ascending) f.good

  fit-publishes : (v made : View) → IsFitView v → IsFitView made → Fit made (next.publishes s v made)
  fit-publishes v made f g =
      fit-act made (next.value_act s v) _ g tt (λ h.
      fit-if _ (doing.takes s made (next.value_act s v)) _ _
      (λ e. fit-sound _ _ h
      (sound-sends _ _ (record {
        term = f.term;
        version = value-fits s.me made.node (v.node.accepted.version + 1) (next.config_now s v) (next.value_now s v) e;
        parent = id-fits v.node.accepted f.accepted;
        above_parent = above-accepted v.node.accepted v.node.term (v.node.accepted.version + 1) f.older (omega arith);
        value = next-fits v f;
      })))
      (fit-sound _ _ h (sound-becomes_candidate (doing.after_act s made (next.value_act s v)))))

  fit-makes_state : (v : View) → IsFitView v → Fit v (next.makes_state s v)
  fit-makes_state v f =
      let answers = next_answers (master_now s v) v.tasks in
      fit-append v (doing.reply_all s answers) _ (fit-sound v _ f (sound-replies answers))
      (rw (moved_all-replies s v answers) (λ g.
      fit-item v (Notes StateMade) _ f tt (λ h.
      fit-if _ (is_nothing_new (master_now s v) v.tasks) _ _ (λ e. fit-none _ h) (fit-publishes v _ f h))))

  sound-asks_successor : (v : View) (o : Option Id) → AreSound (next.asks_successor s v o)
  sound-asks_successor v None = Silent
  sound-asks_successor v (Some id) = sound-when (nat_le (v.node.term + 1) last_number) _ _ (λ e. sound-sends _ _ (grind (arith, nat_tests))) Silent

  sound-hands_over : (v : View) → AreSound (next.hands_over s v)
  sound-hands_over v = sound-if (is_due v.handover_due v.moment) _ _ (Also _ _ tt (sound-asks_successor v (next.successor_of s v))) Silent

  sound-asks_votes : (v : View) → AreSound (next.asks_votes s v)
  sound-asks_votes v = Also _ _ tt (sound-asks_successor v (Some s.me))

  fit-leads_on : (v : View) → IsFitView v → Fit v (next.leads_on s v)
  fit-leads_on v f = fit-if v (next.wants_votes s v) _ _ (λ e. fit-sound v _ f (sound-asks_votes v)) (fit-makes_state v f)

  fit-goes_on : (v : View) → IsFitView v → Fit v (next.goes_on s v)
  fit-goes_on v f =
      fit-if v (doing.is_leader v.mode && not (next.is_in_flight v.publication)) _ _
      (λ e. fit-if v (doing.may_win s v) _ _ (λ w. fit-leads_on v f) (fit-sound v _ f (sound-hands_over v))) (fit-none v f)

  -- ---- elections

  fit-takes_config : (v : View) (o : Option (List Id)) → IsFitView v → Fit v (elections.takes_config s v o)
  fit-takes_config v None f = fit-none v f
  fit-takes_config v (Some config) f = fit-act v (Bootstrap config) [] f tt (λ g. fit-none _ g)

  sound-stands : (v : View) (term : ℕ) → AreSound (elections.stands_for_election s v term)
  sound-stands v term = Also _ _ tt (sound-when (nat_le term last_number) _ _ (λ e. sound-sends _ _ (grind (arith, nat_tests))) Silent)

  sound-begins_round : (v : View) (word : ℕ) → AreSound (elections.begins_round s v word)
  sound-begins_round v word =
      Also _ _ tt (sound-append _ _ (sound-sends _ message.PreVoteAsk tt) (sound-if _ _ _ (sound-stands v (v.node.term + 1)) Silent))

  sound-waits_until : (v : View) (word : ℕ) (o : Option ℕ) → AreSound (elections.waits_until s v word o)
  sound-waits_until v word None = Also _ _ tt Silent
  sound-waits_until v word (Some deadline) = sound-if _ _ _ (sound-begins_round v word) Silent

  sound-waits : (v : View) (word : ℕ) → AreSound (elections.waits_for_election s v word)
  sound-waits v word = sound-if _ _ _ (sound-waits_until v word v.deadline) (Also _ _ tt Silent)

  sound-pre_vote_reply : (v : View) (p : Id) (r : PreVoteReply) → IsFitView v → AreSound (elections.pre_vote_reply s v p r)
  sound-pre_vote_reply v p PreVoteAnswer f = Also _ _ (f.term, id-fits v.node.accepted f.accepted) Silent
  sound-pre_vote_reply v p (PreVoteRefused leader) f = Also _ _ tt Silent

  sound-goes_to_election : (v : View) (a : Added) → AreSound (elections.goes_to_election s v a)
  sound-goes_to_election v Counted = Silent
  sound-goes_to_election v Fresher = Silent
  sound-goes_to_election v (Quorum term) = sound-stands v term

  sound-on_pre_vote_answer : (v : View) (round : Option Round) (p : Id) (term : ℕ) (last : StateId) → term ≤ 2 ^ 62 → AreSound (elections.on_pre_vote_answer s v round p term last)
  sound-on_pre_vote_answer v None p term last e = Silent
  sound-on_pre_vote_answer v (Some r) p term last e = sound-if _ _ _ (Also _ _ e (sound-goes_to_election v _)) Silent

  -- ---- discovery

  sound-asks_peers : (v : View) → AreSound (discovery.asks_peers s v)
  sound-asks_peers v = sound-if (is_due v.finder.due v.moment) _ _ (Also _ _ tt (sound-sends _ _ tt)) Silent

  fit-asked_for_peers : (v : View) (p : Id) (ids : List Id) → IsFitView v → Fit v (discovery.on_peers_ask s v p ids)
  fit-asked_for_peers v p ids f = fit-sound v _ f (Also _ _ tt (Also _ _ f.term Silent))

  fit-seeks_master : (v : View) (p : Id) (master : Option Id) (term : ℕ) → IsFitView v → Fit v (discovery.seeks_master s v p master term)
  fit-seeks_master v p master term f =
      fit-if v (discovery.is_node master p) _ _
      (λ e. fit-if v (nat_lt v.node.term term) _ _ (λ d. fit-on_start_join v p term f) (fit-sound v _ f (Also _ _ f.term Silent))) (fit-none v f)

  fit-hears_peer : (v : View) (p : Id) (master : Option Id) (term : ℕ) → IsFitView v → Fit v (discovery.hears_peer s v p master term)
  fit-hears_peer v p master term f =
      fit-if v (doing.is_candidate v.mode) _ _ (λ e. fit-item v _ _ f tt (λ g. fit-seeks_master _ p master term g)) (fit-none v f)

  fit-told_peers : (v : View) (p : Id) (master : Option Id) (term : ℕ) (ids : List Id) → IsFitView v → Fit v (discovery.on_peers_answer s v p master term ids)
  fit-told_peers v p master term ids f = fit-item v _ _ f tt (λ g. fit-hears_peer _ p master term g)

  -- ---- joins

  fit-leads : (v : View) → IsFitView v → Fit v (joins.leads s v)
  fit-leads v f = fit-item v _ _ f tt (λ g. fit-item _ _ _ g tt (λ h. fit-goes_on _ h))

  fit-takes_member : (v : View) (p : Id) → IsFitView v → Fit v (joins.takes_member s v p)
  fit-takes_member v p f = fit-item v _ _ f tt (λ g. fit-goes_on _ g)

  fit-after_join : (v after : View) (act : Act) (p : Id) → IsFitView after → Fit after (joins.after_join s v after act p)
  fit-after_join v after act p f =
      fit-if after (joins.wins_now (doing.reply_now s v act)) _ _ (λ e. fit-leads after f)
      (fit-if after (doing.takes s v act && doing.is_leader after.mode) _ _ (λ e. fit-takes_member after p f) (fit-none after f))

  fit-takes_join : (v : View) (p : Id) (term : ℕ) (last : StateId) → IsFitView v → Fit v (joins.takes_join s v p term last)
  fit-takes_join v p term last f =
      let act : Act = TakeJoin (joins.join_from p s.me term last) in
      fit-if v (has_room v.node.join_votes p) _ _ (λ e. fit-act v act _ f tt (λ g. fit-after_join v (doing.after_act s v act) act p g)) (fit-none v f)

  fit-joined : (v : View) (p : Id) (term : ℕ) (last : StateId) → IsFitView v → Fit v (joins.on_join s v p term last)
  fit-joined v p term last f =
      fit-if v (doing.is_voting_only s s.me) _ _ (λ e. fit-none v f)
      (fit-then v _ (λ u. joins.takes_join s u p term last) (fit-raises_term v s.me term f) (λ u g. fit-takes_join u p term last g))

  fit-asked_to_join : (v : View) (p : Id) (term : ℕ) → IsFitView v → Fit v (joins.on_join_ask s v p term)
  fit-asked_to_join v p term f =
      fit-if v (not (doing.is_leader v.mode)) _ _ (λ e. fit-none v f)
      (fit-if v (nat_le term v.node.term) _ _ (λ e. fit-takes_member v p f) (fit-on_start_join v s.me term f))

  -- ---- publications

  fit-accepts : (v : View) (p : Id) (state : ClusterState) → IsFitView v → IsFit state → IsSettings state.value.settings → Fit v (publications.accepts s v p state)
  fit-accepts v p state f fit settings =
      let act : Act = Publish (record { source = p; state = state }) in
      fit-act v act _ f (fit, settings) (λ g.
      fit-if _ (doing.takes s v act) _ _
      (λ e. fit-sound _ _ g (Also _ _ (id-fits state fit) (sound-if (same p s.me) _ _ Silent (sound-becomes_follower (doing.after_act s v act) p)))) (fit-none _ g))

  fit-published_to : (v : View) (p : Id) (state : ClusterState) → IsFitView v → IsFit state → IsSettings state.value.settings → Fit v (publications.on_publish s v p state)
  fit-published_to v p state f fit settings =
      fit-then v _ (λ u. publications.accepts s u p state) (fit-raises_term v p state.term f) (λ u g. fit-accepts u p state g fit settings)

  sound-sends_commit : (v : View) (sent : Bool) (p : Id) (id : StateId) → IsFitId id → AreSound (publications.sends_commit s v sent p id)
  sound-sends_commit v sent p id e =
      sound-if sent _ _ (Also _ _ e Silent) (sound-append _ _ (sound-append _ _ (sound-sends _ _ e) (sound-replies _)) (Also _ _ tt Silent))

  fit-on_response : (v : View) (p : Id) (id : StateId) → IsFitView v → IsFitId id → Fit v (publications.on_response s v p id)
  fit-on_response v p id f e =
      let act : Act = Response (record { source = p; target = s.me; term = id.term; version = id.version }) in
      fit-if v (doing.is_leader v.mode && is_some v.publication && has_room v.node.publish_votes p) _ _
      (λ b. fit-act v act _ f tt (λ g.
      fit-sound _ _ g (sound-if _ _ _ (sound-sends_commit (doing.after_act s v act) (publications.is_commit_sent v.publication) p id e) Silent))) (fit-none v f)

  sound-answers_applied : (v : View) → AreSound (publications.answers_applied s v)
  sound-answers_applied v = sound-append _ _ (sound-replies _) (Also _ _ tt Silent)

  fit-told_commit : (v : View) (p : Id) (id : StateId) → IsFitView v → Fit v (publications.on_commit s v p id)
  fit-told_commit v p id f =
      let act : Act = Commit (record { source = p; term = id.term; version = id.version }) in
      let after : View = doing.after_act s v act in
      fit-act v act _ f tt (λ g.
      fit-if after (doing.takes s v act && doing.is_leader after.mode) _ _
      (λ e. fit-then after _ (next.goes_on s) (fit-sound after _ g (sound-answers_applied after)) fit-goes_on) (fit-none after g))

  -- ---- checks

  sound-checks_followers : (v : View) → IsFitView v → AreSound (checks.checks_followers s v)
  sound-checks_followers v f = sound-append _ _ (sound-append _ _ (sound-drops _ _) (sound-drops _ _)) (Also _ _ tt (sound-sends _ _ f.term))

  sound-does_check : (v : View) (leader : Id) (t : LeaderTick) → IsFitView v → AreSound (checks.does_check s v leader t)
  sound-does_check v leader Quiet f = Silent
  sound-does_check v leader Ask f = Also _ _ f.term Silent
  sound-does_check v leader Lost f = sound-becomes_candidate v

  fit-checks_leader : (v : View) (leader : Id) (c : Option LeaderCheck) → IsFitView v → Fit v (checks.checks_leader s v leader c)
  fit-checks_leader v leader None f = fit-none v f
  fit-checks_leader v leader (Some c) f = fit-item v _ _ f tt (λ g. fit-sound _ _ g (sound-does_check (moved s v (Notes LeaderChecked)) leader (leader_tick c v.moment) g))

  sound-answers_leader : (v : View) (p : Id) (good : Bool) → IsFitView v → AreSound (checks.answers_leader s v p good)
  sound-answers_leader v p good f = Also _ _ (f.term, f.applied_id) Silent

  fit-follows_checker : (v : View) (p : Id) → IsFitView v → Fit v (checks.follows_checker s v p)
  fit-follows_checker v p f =
      fit-if v (doing.is_second s) _ _ (λ e. fit-sound v _ f (sound-answers_leader v p (doing.follows_node v.mode p) f))
      (fit-if v (doing.is_leader v.mode) _ _ (λ e. fit-sound v _ f (sound-answers_leader v p false f))
      (fit-then v _ (λ u. checks.answers_leader s u p true) (fit-sound v _ f (sound-becomes_follower v p)) (λ u g. fit-sound u _ g (sound-answers_leader u p true g))))

  fit-checked_by_leader : (v : View) (p : Id) (term : ℕ) → IsFitView v → Fit v (checks.on_follower_check s v p term)
  fit-checked_by_leader v p term f =
      fit-if v (nat_lt term v.node.term) _ _ (λ e. fit-sound v _ f (sound-answers_leader v p false f))
      (fit-then v _ (λ u. checks.follows_checker s u p) (fit-raises_term v p term f) (λ u g. fit-follows_checker u p g))

  sound-answered_by_follower : (v : View) (p : Id) (good : Bool) (applied : StateId) → AreSound (checks.on_follower_answer s v p good applied)
  sound-answered_by_follower v p good applied = sound-if (doing.is_leader v.mode) _ _ (Also _ _ tt Silent) Silent

  sound-answered_by_leader : (v : View) (p : Id) (good : Bool) → AreSound (checks.on_leader_answer s v p good)
  sound-answered_by_leader v p good = sound-if (doing.follows_node v.mode p) _ _ (Also _ _ tt Silent) Silent

  -- ---- requests

  sound-times_out : (v : View) → AreSound (requests.times_out_exclusions s v)
  sound-times_out v = sound-append _ _ (sound-replies _) (Also _ _ tt Silent)

  fit-queues : (v : View) (conn : ℕ) (request : Request) (bad : Option ℕ) → bad_setting_of request.ask ≡ bad → IsFitView v → Fit v (requests.queues s v conn request bad)
  fit-queues v conn request (Some length) e f = fit-sound v _ f (Also _ _ tt Silent)
  fit-queues v conn request None e f =
      fit-if v (is_full_of v.tasks) _ _ (λ b. fit-sound v _ f (Also _ _ tt Silent)) (fit-item v (Notes (Queued conn request)) _ f e (λ g. fit-goes_on _ g))

  fit-line : (v : View) (conn : ℕ) (read : Result Request LineFault) → IsFitView v → Fit v (requests.takes_line s v conn read)
  fit-line v conn (Err fault) f = fit-sound v _ f (Also _ _ tt Silent)
  fit-line v conn (Ok request) f =
      fit-if v (doing.is_leader v.mode) _ _ (λ e. fit-queues v conn request (bad_setting_of request.ask) refl f) (fit-sound v _ f (Also _ _ tt Silent))

  -- ---- events

  fit-candidate : (v : View) (word : ℕ) → IsFitView v → Fit v (rules.ticks_candidate s v word)
  fit-candidate v word f =
      fit-then v _ (λ u. elections.waits_for_election s u word)
      (fit-then v _ (discovery.asks_peers s) (fit-takes_config v (decision_of s.initial (answered_set v.finder) s.me (not (is_empty v.node.accepted.config))) f) (λ u g. fit-sound u _ g (sound-asks_peers u)))
      (λ u g. fit-sound u _ g (sound-waits u word))

  fit-leader : (v : View) → IsFitView v → Fit v (rules.ticks_leader s v)
  fit-leader v f =
      fit-if v (rules.gives_up s v) _ _ (λ e. fit-sound v _ f (sound-becomes_candidate v))
      (fit-then v _ (next.goes_on s)
      (fit-then v _ (checks.checks_followers s) (fit-sound v _ f (sound-times_out v)) (λ u g. fit-sound u _ g (sound-checks_followers u g)))
      fit-goes_on)

  fit-ticks : (v : View) (word : ℕ) (m : Mode) → IsFitView v → Fit v (rules.ticks s v word m)
  fit-ticks v word Candidate f = fit-candidate v word f
  fit-ticks v word Leader f = fit-leader v f
  fit-ticks v word (Follower leader) f = fit-checks_leader v leader v.leader_check f

  fit-message : (v : View) (p : Id) (m : WireMessage) → IsFitView v → IsFitMessage m → HoldsSettings m → Fit v (rules.takes_message s v p m)
  fit-message v p (message.StartJoin candidate term) f e h = fit-on_start_join v candidate term f
  fit-message v p (message.Join term last) f e h = fit-joined v p term last f
  fit-message v p (message.Publish state) f e h = fit-published_to v p state f e h
  fit-message v p (message.Response id) f e h = fit-on_response v p id f e
  fit-message v p (message.Commit id) f e h = fit-told_commit v p id f
  fit-message v p (message.JoinAsk term) f e h = fit-asked_to_join v p term f
  fit-message v p (message.PeersAsk known) f e h = fit-asked_for_peers v p known f
  fit-message v p (message.PeersAnswer master term known) f e h = fit-told_peers v p master term known f
  fit-message v p message.PreVoteAsk f e h = fit-sound v _ f (sound-pre_vote_reply v p _ f)
  fit-message v p (message.PreVoteAnswer term last) f e h = fit-sound v _ f (sound-on_pre_vote_answer v v.round p term last e.0)
  fit-message v p (message.PreVoteRefuse leader) f e h = fit-sound v _ f (Also _ _ tt Silent)
  fit-message v p (message.FollowerCheck term) f e h = fit-checked_by_leader v p term f
  fit-message v p (message.FollowerAnswer good term applied) f e h = fit-sound v _ f (sound-answered_by_follower v p good applied)
  fit-message v p (message.LeaderCheck term) f e h = fit-sound v _ f (Also _ _ tt Silent)
  fit-message v p (message.LeaderAnswer good) f e h = fit-sound v _ f (sound-answered_by_leader v p good)

  fit-stands_anew : (v : View) → IsFitView v → Fit v (disconnects.stands_anew s v)
  fit-stands_anew v f =
      fit-then v _ (λ u. elections.stands_for_election s u (u.node.term + 1)) (fit-sound v _ f (sound-becomes_candidate v))
      (λ u g. fit-sound u _ g (sound-stands u (u.node.term + 1)))

  fit-loses : (v : View) (p : Id) (m : Mode) → IsFitView v → Fit v (disconnects.loses s v p m)
  fit-loses v p Candidate f = fit-sound v _ f (sound-if _ _ _ (Also _ _ tt Silent) Silent)
  fit-loses v p Leader f =
      fit-if v (has p (ids_of v.followers.watched)) _ _
      (λ e. fit-then v (disconnects.drops_follower s p) (disconnects.goes_on_with_rest s) (fit-sound v _ f (Also _ _ tt (Also _ _ tt Silent)))
      (λ u g. fit-if u (disconnects.keeps_quorum s u) _ _ (λ k. fit-goes_on u g) (fit-stands_anew u g)))
      (fit-none v f)
  fit-loses v p (Follower leader) f = fit-if v (same leader p) _ _ (λ e. fit-sound v _ f (sound-append _ _ (sound-becomes_candidate v) (Also _ _ tt Silent))) (fit-none v f)

  fit-next : (v : View) (event : Event) → IsFitView v → IsFitEvent event → EventHoldsSettings event → Fit v (rules.next_of s v event)
  fit-next v Start f e h = fit-sound v _ f (Also _ _ tt (Also _ _ tt Silent))
  fit-next v (Tick now word) f e h = fit-ticks v word v.mode f
  fit-next v (FrameCame frame) f e h = fit-if v (same frame.to s.me) _ _ (λ b. fit-message v frame.from frame.message f e h) (fit-none v f)
  fit-next v (LineCame conn line) f e h = fit-line v conn (line_request line) f
  fit-next v (PeerGone peer) f e h = fit-loses v peer v.mode f

  -- ---- frames by receiver

  frames-fit : (is : List Item) → AllByRecursion SentFit is → AllByRecursion IsFitFrame (flat_map frames_in is)
  frames-fit [] h = tt
  frames-fit (Sends frame ∷ is) h = (h.0, frames-fit is h.1)
  frames-fit (Opens found ∷ is) h = frames-fit is h.1
  frames-fit (Begins event ∷ is) h = frames-fit is h.1
  frames-fit (Acts act o ∷ is) h = frames-fit is h.1
  frames-fit (ChangesMode mode term ∷ is) h = frames-fit is h.1
  frames-fit (Drops member cause ∷ is) h = frames-fit is h.1
  frames-fit (Replies answer ∷ is) h = frames-fit is h.1
  frames-fit (Notes note ∷ is) h = frames-fit is h.1

  put-fits : (f : Frame) (gs : List Frame) → IsFitFrame f → AllByRecursion IsFitFrame gs → AllByRecursion IsFitFrame (put_frame f gs)
  put-fits f [] e h = (e, tt)
  put-fits f (g ∷ gs) e h =
      elim (before g.to f.to) as (λ b. AllByRecursion IsFitFrame (if b then g ∷ put_frame f gs else f ∷ g ∷ gs)) [
        | true ↦ (h.0, put-fits f gs e h.1)
        | false ↦ (e, h)
      ]

  sorted-fit : (fs : List Frame) → AllByRecursion IsFitFrame fs → AllByRecursion IsFitFrame (by_receiver fs)
  sorted-fit [] h = tt
  sorted-fit (f ∷ fs) h = put-fits f (by_receiver fs) h.0 (sorted-fit fs h.1)

-- at each event
pub stays_fit : (s : Settings) (v : View) (event : Event) → IsFitView v → IsFitEvent event → EventHoldsSettings event → StaysFit s v (rules.next_of s v event)
stays_fit s v event f e h =
    let all = fit-next s v event f e h in
    record { frames = sorted-fit s _ (frames-fit s _ all.sent); after = all.after }

pub opened_fit : (s : Settings) (found : Kept) → IsFitKept found → IsFitView (opened s found)
opened_fit s found f = record {
  term = f.term;
  accepted = f.accepted;
  older = f.older;
  settings = f.settings;
  applied_id = record { term = omega arith; version = omega arith };
  terms = tt;
  good = tt;
}
