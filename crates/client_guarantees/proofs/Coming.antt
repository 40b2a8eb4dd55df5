-- Requests are queued only as their lines come.
use Rattle.std.proofs.Common.{◌≡◌, ℕ, ◌+◌, Bool, true, false, true≢false, not, Option, None, Some, Result, Ok, Err, List, [], ◌∷◌, ◌++◌, refl, sym, subst, ◌⊎◌, inl, inr}
use Rattle.std.specs.Prelude.{if◌then◌else◌}
use Rattle.std.specs.List.{Contains}
use Rattle.voting_config.specs.Ids.{Id, same}
use Rattle.bootstrap.specs.Decisions.{decision_of}
use Rattle.cluster_state.specs.JoinCheck.{is_empty}
use Rattle.cluster_state.specs.declared.state.ClusterState.{ClusterState}
use Rattle.cluster_state.specs.declared.state.StateId.{StateId}
use Rattle.cluster_state.specs.declared.reply.LineFault.{LineFault}
use Rattle.cluster_state.specs.declared.request.Request.{Request}
use Rattle.cluster_state.specs.Puts.{bad_setting_of}
use Rattle.client_lines.specs.Reading.{line_request}
use Rattle.wire_frames.specs.declared.frame.WireMessage.{WireMessage}
use Rattle.wire_frames.specs.declared.frame.WireMessage.TheVariants as message
use Rattle.fault_checks.specs.declared.leader.LeaderTick.{LeaderTick}
use Rattle.fault_checks.specs.declared.leader.LeaderTick.TheVariants.{Quiet, Ask, Lost}
use Rattle.fault_checks.specs.Leaders.{LeaderCheck, leader_tick}
use Rattle.pre_vote.specs.Replies.{reply_to}
use Rattle.pre_vote.specs.Rounds.{Round}
use Rattle.pre_vote.specs.declared.rounds.Added.{Added}
use Rattle.pre_vote.specs.declared.rounds.Added.TheVariants.{Counted, Fresher, Quorum}
use Rattle.pre_vote.specs.declared.replies.Reply.{Reply as PreVoteReply}
use Rattle.pre_vote.specs.declared.replies.Reply.TheVariants.{Answer as PreVoteAnswer, Refused as PreVoteRefused}
use Rattle.peer_finder.specs.Peers.{answered_set}
use Rattle.master_tasks.specs.Queue.{is_full_of}
use Rattle.master_tasks.specs.declared.waiting.Waiting.{Waiting}
use Rattle.master_tasks.specs.declared.waiting.Outgoing.{Outgoing}
use Rattle.policy_model.specs.declared.settings.Settings.{Settings}
use Rattle.policy_model.specs.declared.events.Mode.{Mode}
use Rattle.policy_model.specs.declared.events.Mode.TheVariants.{Candidate, Leader, Follower}
use Rattle.policy_model.specs.declared.events.Event.{Event}
use Rattle.policy_model.specs.declared.events.Event.TheVariants.{Start, Tick, Frame as FrameCame, Client as LineCame, Disconnected as PeerGone}
use Rattle.policy_model.specs.declared.events.DropCause.{DropCause}
use Rattle.policy_model.specs.Events.{Met, Heard, PeersAsked, ElectionOff, ElectionSet, RoundBegun, RoundAnswered, RoundEnded, Joined, FollowersChecked, FollowerAnswered, LeaderChecked, LeaderAnswered, Queued, ExclusionsTimedOut, CommitAcked, AppliedAnswered, StateMade, HandedOver, PeerLost, LeaderLost, Item, Opens, Begins, Acts, ChangesMode, Drops, Sends, Replies, Notes, Log, And, added}
use Rattle.policy_model.specs.Entries.{Life, NotBegun, Opened, Lived, Did, Gone, Bad, NoMemory, Unread, log_of}
use Rattle.policy_model.specs.Follows.{Follows, IsNext, IsStruck, Here, Later, without_output, items_of}
use Rattle.policy_model.specs.Views.{View, view_of}
use Rattle.policy_model.specs.Doing as doing
use Rattle.policy_model.specs.NextState as next
use Rattle.policy_model.specs.Elections as elections
use Rattle.policy_model.specs.Discovery as discovery
use Rattle.policy_model.specs.Joins as joins
use Rattle.policy_model.specs.Publications as publications
use Rattle.policy_model.specs.Checks as checks
use Rattle.policy_model.specs.Requests as requests
use Rattle.policy_model.specs.Rules as rules
use Rattle.policy_model.specs.Disconnects as disconnects
use Rattle.client_guarantees.specs.Processed.{processed_of, CameBy, CameIn}
use Rattle.client_guarantees.proofs.Queued.{WasQueued, processed_was_queued}

abbrev is_queueing : Item → Bool
is_queueing (Notes (Queued conn request)) = true
is_queueing i = false

-- the items queue only such requests
data Queues (P : ℕ → Request → Type 0) : List Item → Type 0 where
  Ends : Queues P []
  Other : (i : Item) (is : List Item) → is_queueing i ≡ false → Queues P is → Queues P (i ∷ is)
  Asked : (conn : ℕ) (request : Request) (is : List Item) → P conn request → Queues P is → Queues P (Notes (Queued conn request) ∷ is)

module _ (P : ℕ → Request → Type 0) where
  q-append : (xs ys : List Item) → Queues P xs → Queues P ys → Queues P (xs ++ ys)
  q-append xs ys Ends r = r
  q-append xs ys (Other i is e q) r = Other i (is ++ ys) e (q-append is ys q r)
  q-append xs ys (Asked c a is p q) r = Asked c a (is ++ ys) p (q-append is ys q r)

  q-if : (b : Bool) (xs ys : List Item) → Queues P xs → Queues P ys → Queues P (if b then xs else ys)
  q-if true xs ys q r = q
  q-if false xs ys q r = r

  q-then : (s : Settings) (v : View) (xs : List Item) (rule : View → List Item) → Queues P xs → ((u : View) → Queues P (rule u)) → Queues P (doing.then_rule s v xs rule)
  q-then s v xs rule q f = q-append xs _ q (f _)

  q-sends : (s : Settings) (ids : List Id) (m : WireMessage) → Queues P (doing.send_all s ids m)
  q-sends s [] m = Ends
  q-sends s (x ∷ xs) m = Other _ _ refl (q-sends s xs m)

  q-replies : (s : Settings) (answers : List Outgoing) → Queues P (doing.reply_all s answers)
  q-replies s [] = Ends
  q-replies s (x ∷ xs) = Other _ _ refl (q-replies s xs)

  q-drops : (ids : List Id) (cause : DropCause) → Queues P (checks.drop_all ids cause)
  q-drops [] cause = Ends
  q-drops (x ∷ xs) cause = Other _ _ refl (q-drops xs cause)

  module _ (s : Settings) where
    q-becomes_candidate : (v : View) → Queues P (doing.becomes_candidate s v)
    q-becomes_candidate v = search (q-append, q-if, q-replies, Ends, Other)

    q-becomes_candidate_once : (v : View) → Queues P (doing.becomes_candidate_once s v)
    q-becomes_candidate_once v = search (q-if, q-becomes_candidate, Ends)

    q-on_start_join : (v : View) (c : Id) (t : ℕ) → Queues P (doing.on_start_join s v c t)
    q-on_start_join v c t = search (q-if, q-becomes_candidate_once, Ends, Other)

    q-raises_term : (v : View) (c : Id) (t : ℕ) → Queues P (doing.raises_term s v c t)
    q-raises_term v c t = search (q-if, q-on_start_join, Ends)

    q-becomes_follower : (v : View) (p : Id) → Queues P (doing.becomes_follower s v p)
    q-becomes_follower v p = search (q-append, q-if, q-becomes_candidate, Ends, Other)

    q-publishes : (v made : View) → Queues P (next.publishes s v made)
    q-publishes v made = search (q-if, q-sends, q-becomes_candidate, Other)

    q-makes_state : (v : View) → Queues P (next.makes_state s v)
    q-makes_state v = search (q-append, q-if, q-replies, q-publishes, Ends, Other)

    q-asks_successor : (v : View) (o : Option Id) → Queues P (next.asks_successor s v o)
    q-asks_successor v None = Ends
    q-asks_successor v (Some id) = search (q-if, q-sends, Ends)

    q-hands_over : (v : View) → Queues P (next.hands_over s v)
    q-hands_over v = search (q-if, q-asks_successor, Ends, Other)

    q-asks_votes : (v : View) → Queues P (next.asks_votes s v)
    q-asks_votes v = search (q-asks_successor, Other)

    q-leads_on : (v : View) → Queues P (next.leads_on s v)
    q-leads_on v = search (q-if, q-asks_votes, q-makes_state)

    q-goes_on : (v : View) → Queues P (next.goes_on s v)
    q-goes_on v = search (q-if, q-leads_on, q-hands_over, Ends)

    -- joins
    q-leads : (v : View) → Queues P (joins.leads s v)
    q-leads v = q-then s v _ (next.goes_on s) (Other _ _ refl (Other _ _ refl Ends)) q-goes_on

    q-takes_member : (v : View) (p : Id) → Queues P (joins.takes_member s v p)
    q-takes_member v p = q-then s v _ (next.goes_on s) (Other _ _ refl Ends) q-goes_on

    q-takes_join : (v : View) (p : Id) (t : ℕ) (last : StateId) → Queues P (joins.takes_join s v p t last)
    q-takes_join v p t last = search (q-if, q-leads, q-takes_member, Ends, Other)

    q-joined : (v : View) (p : Id) (t : ℕ) (last : StateId) → Queues P (joins.on_join s v p t last)
    q-joined v p t last = q-if (doing.is_voting_only s s.me) [] _ Ends (q-then s v _ (λ u. joins.takes_join s u p t last) (q-raises_term v s.me t) (λ u. q-takes_join u p t last))

    q-asked_to_join : (v : View) (p : Id) (t : ℕ) → Queues P (joins.on_join_ask s v p t)
    q-asked_to_join v p t = search (q-if, q-takes_member, q-on_start_join, Ends)

    -- publications
    q-accepts : (v : View) (p : Id) (state : ClusterState) → Queues P (publications.accepts s v p state)
    q-accepts v p state = search (q-if, q-becomes_follower, Ends, Other)

    q-published_to : (v : View) (p : Id) (state : ClusterState) → Queues P (publications.on_publish s v p state)
    q-published_to v p state = q-then s v _ (λ u. publications.accepts s u p state) (q-raises_term v p state.term) (λ u. q-accepts u p state)

    q-first_commit : (v : View) (id : StateId) → Queues P (publications.sends_first_commit s v id)
    q-first_commit v id = q-append _ _ (q-append _ _ (q-sends s _ _) (q-replies s _)) (Other _ _ refl Ends)

    q-sends_commit : (v : View) (sent : Bool) (p : Id) (id : StateId) → Queues P (publications.sends_commit s v sent p id)
    q-sends_commit v sent p id = search (q-if, q-first_commit, Ends, Other)

    q-on_response : (v : View) (p : Id) (id : StateId) → Queues P (publications.on_response s v p id)
    q-on_response v p id = search (q-if, q-sends_commit, Ends, Other)

    q-answers_applied : (v : View) → Queues P (publications.answers_applied s v)
    q-answers_applied v = q-append _ _ (q-replies s _) (Other _ _ refl Ends)

    q-told_commit : (v : View) (p : Id) (id : StateId) → Queues P (publications.on_commit s v p id)
    q-told_commit v p id = search (q-append, q-if, q-answers_applied, q-goes_on, Ends, Other)

    -- discovery
    q-seeks_master : (v : View) (p : Id) (master : Option Id) (t : ℕ) → Queues P (discovery.seeks_master s v p master t)
    q-seeks_master v p master t = search (q-if, q-on_start_join, Ends, Other)

    q-hears_peer : (v : View) (p : Id) (master : Option Id) (t : ℕ) → Queues P (discovery.hears_peer s v p master t)
    q-hears_peer v p master t = search (q-if, q-seeks_master, Ends, Other)

    q-asks_peers : (v : View) → Queues P (discovery.asks_peers s v)
    q-asks_peers v = search (q-if, q-sends, Ends, Other)

    -- checks
    q-checks_followers : (v : View) → Queues P (checks.checks_followers s v)
    q-checks_followers v = search (q-append, q-drops, q-sends, Other)

    q-does_check : (v : View) (leader : Id) (t : LeaderTick) → Queues P (checks.does_check s v leader t)
    q-does_check v leader Quiet = Ends
    q-does_check v leader Ask = Other _ _ refl Ends
    q-does_check v leader Lost = q-becomes_candidate v

    q-checks_leader : (v : View) (leader : Id) (o : Option LeaderCheck) → Queues P (checks.checks_leader s v leader o)
    q-checks_leader v leader None = Ends
    q-checks_leader v leader (Some c) = q-then s v _ (λ u. checks.does_check s u leader (leader_tick c v.moment)) (Other _ _ refl Ends) (λ u. q-does_check u leader (leader_tick c v.moment))

    q-follows_checker : (v : View) (p : Id) → Queues P (checks.follows_checker s v p)
    q-follows_checker v p = search (q-append, q-if, q-becomes_follower, Ends, Other)

    q-checked_by_leader : (v : View) (p : Id) (t : ℕ) → Queues P (checks.on_follower_check s v p t)
    q-checked_by_leader v p t = search (q-append, q-if, q-raises_term, q-follows_checker, Ends, Other)

    -- elections
    q-stands_for_election : (v : View) (t : ℕ) → Queues P (elections.stands_for_election s v t)
    q-stands_for_election v t = search (q-if, q-sends, Ends, Other)

    q-begins_round : (v : View) (word : ℕ) → Queues P (elections.begins_round s v word)
    q-begins_round v word = search (q-append, q-if, q-sends, q-stands_for_election, Ends, Other)

    q-waits_until : (v : View) (word : ℕ) (o : Option ℕ) → Queues P (elections.waits_until s v word o)
    q-waits_until v word None = Other _ _ refl Ends
    q-waits_until v word (Some d) = search (q-if, q-begins_round, Ends)

    q-waits_for_election : (v : View) (word : ℕ) → Queues P (elections.waits_for_election s v word)
    q-waits_for_election v word = search (q-if, q-waits_until, Ends, Other)

    q-pre_vote_reply : (v : View) (p : Id) (r : PreVoteReply) → Queues P (elections.pre_vote_reply s v p r)
    q-pre_vote_reply v p PreVoteAnswer = Other _ _ refl Ends
    q-pre_vote_reply v p (PreVoteRefused leader) = Other _ _ refl Ends

    q-goes_to_election : (v : View) (a : Added) → Queues P (elections.goes_to_election s v a)
    q-goes_to_election v Counted = Ends
    q-goes_to_election v Fresher = Ends
    q-goes_to_election v (Quorum t) = q-stands_for_election v t

    q-on_pre_vote_answer : (v : View) (round : Option Round) (p : Id) (t : ℕ) (last : StateId) → Queues P (elections.on_pre_vote_answer s v round p t last)
    q-on_pre_vote_answer v None p t last = Ends
    q-on_pre_vote_answer v (Some r) p t last = search (q-if, q-goes_to_election, Ends, Other)

    q-takes_config : (v : View) (o : Option (List Id)) → Queues P (elections.takes_config s v o)
    q-takes_config v None = Ends
    q-takes_config v (Some config) = Other _ _ refl Ends

    -- ticks
    q-times_out : (v : View) → Queues P (requests.times_out_exclusions s v)
    q-times_out v = q-append _ _ (q-replies s _) (Other _ _ refl Ends)

    q-ticks_leader : (v : View) → Queues P (rules.ticks_leader s v)
    q-ticks_leader v = q-if (rules.gives_up s v) _ _ (q-becomes_candidate v) (q-then s v _ (next.goes_on s) (q-then s v _ (checks.checks_followers s) (q-times_out v) q-checks_followers) q-goes_on)

    q-ticks_candidate : (v : View) (word : ℕ) → Queues P (rules.ticks_candidate s v word)
    q-ticks_candidate v word =
        q-then s v _ (λ u. elections.waits_for_election s u word)
        (q-then s v _ (discovery.asks_peers s) (q-takes_config v (decision_of s.initial (answered_set v.finder) s.me (not (is_empty v.node.accepted.config)))) q-asks_peers)
        (λ u. q-waits_for_election u word)

    q-ticks : (v : View) (word : ℕ) (m : Mode) → Queues P (rules.ticks s v word m)
    q-ticks v word Candidate = q-ticks_candidate v word
    q-ticks v word Leader = q-ticks_leader v
    q-ticks v word (Follower leader) = q-checks_leader v leader v.leader_check

    q-stands_anew : (v : View) → Queues P (disconnects.stands_anew s v)
    q-stands_anew v =
        q-then s v _ (λ u. elections.stands_for_election s u (u.node.term + 1)) (q-becomes_candidate v)
        (λ u. q-stands_for_election u (u.node.term + 1))

    q-loses : (v : View) (p : Id) (m : Mode) → Queues P (disconnects.loses s v p m)
    q-loses v p Candidate = q-if _ _ [] (Other _ _ refl Ends) Ends
    q-loses v p Leader =
        q-if _ _ []
        (q-then s v (disconnects.drops_follower s p) (disconnects.goes_on_with_rest s) (Other _ _ refl (Other _ _ refl Ends))
        (λ u. q-if (disconnects.keeps_quorum s u) _ _ (q-goes_on u) (q-stands_anew u)))
        Ends
    q-loses v p (Follower leader) = q-if (same leader p) _ [] (q-append _ _ (q-becomes_candidate v) (Other _ _ refl Ends)) Ends

    q-message : (v : View) (p : Id) (m : WireMessage) → Queues P (rules.takes_message s v p m)
    q-message v p (message.StartJoin candidate t) = q-on_start_join v candidate t
    q-message v p (message.Join t last) = q-joined v p t last
    q-message v p (message.Publish state) = q-published_to v p state
    q-message v p (message.Response id) = q-on_response v p id
    q-message v p (message.Commit id) = q-told_commit v p id
    q-message v p (message.JoinAsk t) = q-asked_to_join v p t
    q-message v p (message.PeersAsk known) = Other _ _ refl (Other _ _ refl Ends)
    q-message v p (message.PeersAnswer master t known) = q-then s v _ (λ u. discovery.hears_peer s u p master t) (Other _ _ refl Ends) (λ u. q-hears_peer u p master t)
    q-message v p message.PreVoteAsk = q-pre_vote_reply v p (reply_to p (doing.leader_of s.me v.mode))
    q-message v p (message.PreVoteAnswer t last) = q-on_pre_vote_answer v v.round p t last
    q-message v p (message.PreVoteRefuse leader) = Other _ _ refl Ends
    q-message v p (message.FollowerCheck t) = q-checked_by_leader v p t
    q-message v p (message.FollowerAnswer good t applied) = q-if (doing.is_leader v.mode) _ [] (Other _ _ refl Ends) Ends
    q-message v p (message.LeaderCheck t) = Other _ _ refl Ends
    q-message v p (message.LeaderAnswer good) = q-if (doing.follows_node v.mode p) _ [] (Other _ _ refl Ends) Ends

    q-queues : (v : View) (conn : ℕ) (r : Request) (o : Option ℕ) → P conn r → Queues P (requests.queues s v conn r o)
    q-queues v conn r (Some length) p = Other _ _ refl Ends
    q-queues v conn r None p = q-if (is_full_of v.tasks) _ _ (Other _ _ refl Ends) (q-then s v _ (next.goes_on s) (Asked conn r [] p Ends) q-goes_on)

    q-line : (v : View) (conn : ℕ) (r : Result Request LineFault) → ((a : Request) → r ≡ Ok a → P conn a) → Queues P (requests.takes_line s v conn r)
    q-line v conn (Err e) p = Other _ _ refl Ends
    q-line v conn (Ok a) p = q-if (doing.is_leader v.mode) _ _ (q-queues v conn a (bad_setting_of a.ask) (p a refl)) (Other _ _ refl Ends)

-- each event queues only what came by it
next_queues : (s : Settings) (v : View) (e : Event) → Queues (CameBy e) (rules.next_of s v e)
next_queues s v Start = Other _ _ refl (Other _ _ refl Ends)
next_queues s v (Tick now word) = q-ticks (CameBy (Tick now word)) s v word v.mode
next_queues s v (FrameCame frame) = q-if (CameBy (FrameCame frame)) (same frame.to s.me) _ [] (q-message (CameBy (FrameCame frame)) s v frame.from frame.message) Ends
next_queues s v (PeerGone peer) = q-loses (CameBy (PeerGone peer)) s v peer v.mode
next_queues s v (LineCame conn line) = q-line (CameBy (LineCame conn line)) s v conn (line_request line) (λ a e. (refl, e))

-- ---- the log

abbrev pub Fits : (ℕ → Request → Type 0) → Item → Type 0
Fits P (Notes (Queued conn request)) = P conn request
Fits P i = Unit {0}

abbrev pub AllFit : (ℕ → Request → Type 0) → List Item → Type 0
AllFit P [] = Unit {0}
AllFit P (i ∷ is) = Fits P i × AllFit P is

fits_other : (P : ℕ → Request → Type 0) (i : Item) → is_queueing i ≡ false → Fits P i
fits_other P (Opens found) e = tt
fits_other P (Begins event) e = tt
fits_other P (Acts act o) e = tt
fits_other P (ChangesMode mode term) e = tt
fits_other P (Drops member cause) e = tt
fits_other P (Sends frame) e = tt
fits_other P (Replies answer) e = tt
fits_other P (Notes (Met ids)) e = tt
fits_other P (Notes (Heard peer master)) e = tt
fits_other P (Notes PeersAsked) e = tt
fits_other P (Notes ElectionOff) e = tt
fits_other P (Notes (ElectionSet word)) e = tt
fits_other P (Notes (RoundBegun word)) e = tt
fits_other P (Notes (RoundAnswered source term last)) e = tt
fits_other P (Notes RoundEnded) e = tt
fits_other P (Notes (Joined ids)) e = tt
fits_other P (Notes FollowersChecked) e = tt
fits_other P (Notes (FollowerAnswered from good applied)) e = tt
fits_other P (Notes LeaderChecked) e = tt
fits_other P (Notes (LeaderAnswered good)) e = tt
fits_other P (Notes (Queued conn request)) e = absurd (true≢false e)
fits_other P (Notes ExclusionsTimedOut) e = tt
fits_other P (Notes CommitAcked) e = tt
fits_other P (Notes AppliedAnswered) e = tt
fits_other P (Notes StateMade) e = tt
fits_other P (Notes HandedOver) e = tt
fits_other P (Notes (PeerLost id)) e = tt
fits_other P (Notes LeaderLost) e = tt

all_fit : (P : ℕ → Request → Type 0) (is : List Item) → Queues P is → AllFit P is
all_fit P xs Ends = tt
all_fit P xs (Other i is e q) = (fits_other P i e, all_fit P is q)
all_fit P xs (Asked conn request is p q) = (p, all_fit P is q)

left_fits : (P : ℕ → Request → Type 0) (i : Item) (left : List Item) → Fits P i → AllFit P left → AllFit P (without_output i ++ left)
left_fits P (Opens found) left f a = (f, a)
left_fits P (Begins event) left f a = (f, a)
left_fits P (Acts act o) left f a = (f, a)
left_fits P (ChangesMode mode term) left f a = (f, a)
left_fits P (Drops member cause) left f a = (f, a)
left_fits P (Sends frame) left f a = a
left_fits P (Replies answer) left f a = a
left_fits P (Notes note) left f a = (f, a)

struck_fits : (P : ℕ → Request → Type 0) (is left : List Item) → IsStruck is left → AllFit P is → AllFit P left
struck_fits P is left (Here act sends wins rest fault w e) a = (tt, tt)
struck_fits P is left (Later i rest after k) a = left_fits P i after a.0 (struck_fits P rest after k a.1)

one_queued : (P : ℕ → Request → Type 0) (l : Log) (i : Item) (conn : ℕ) (request : Request) → Fits P i → WasQueued (And l i) conn request → P conn request ⊎ WasQueued l conn request
one_queued P l (Opens found) c r f q = absurd q
one_queued P l (Begins event) c r f q = inr q
one_queued P l (Acts act o) c r f q = inr q
one_queued P l (ChangesMode mode term) c r f q = inr q
one_queued P l (Drops member cause) c r f q = inr q
one_queued P l (Sends frame) c r f q = inr q
one_queued P l (Replies answer) c r f q = inr q
one_queued P l (Notes (Met ids)) c r f q = inr q
one_queued P l (Notes (Heard peer master)) c r f q = inr q
one_queued P l (Notes PeersAsked) c r f q = inr q
one_queued P l (Notes ElectionOff) c r f q = inr q
one_queued P l (Notes (ElectionSet word)) c r f q = inr q
one_queued P l (Notes (RoundBegun word)) c r f q = inr q
one_queued P l (Notes (RoundAnswered source term last)) c r f q = inr q
one_queued P l (Notes RoundEnded) c r f q = inr q
one_queued P l (Notes (Joined ids)) c r f q = inr q
one_queued P l (Notes FollowersChecked) c r f q = inr q
one_queued P l (Notes (FollowerAnswered from good applied)) c r f q = inr q
one_queued P l (Notes LeaderChecked) c r f q = inr q
one_queued P l (Notes (LeaderAnswered good)) c r f q = inr q
one_queued P l (Notes (Queued conn request)) c r f (inl e) = inl (subst (λ (x : ℕ). P x r) e.0 (subst (λ (x : Request). P conn x) e.1 f))
one_queued P l (Notes (Queued conn request)) c r f (inr q) = inr q
one_queued P l (Notes ExclusionsTimedOut) c r f q = inr q
one_queued P l (Notes CommitAcked) c r f q = inr q
one_queued P l (Notes AppliedAnswered) c r f q = inr q
one_queued P l (Notes StateMade) c r f q = inr q
one_queued P l (Notes HandedOver) c r f q = inr q
one_queued P l (Notes (PeerLost id)) c r f q = inr q
one_queued P l (Notes LeaderLost) c r f q = inr q

pub all_queued : (P : ℕ → Request → Type 0) (l : Log) (is : List Item) (conn : ℕ) (request : Request) → AllFit P is → WasQueued (added l is) conn request → P conn request ⊎ WasQueued l conn request
all_queued P l [] conn request a q = inr q
all_queued P l (i ∷ is) conn request a q = from (all_queued P (And l i) is conn request a.1 q)
  where
    from : P conn request ⊎ WasQueued (And l i) conn request → P conn request ⊎ WasQueued l conn request
    from (inl p) = inl p
    from (inr k) = one_queued P l i conn request a.0 k

pub event_fits : (s : Settings) (life : Life) (e : Event) (is : List Item) → IsNext s life e is → AllFit (CameBy e) is
event_fits s life e is n = by n.does
  where
    does : AllFit (CameBy e) (items_of s (log_of life) e)
    does = all_fit (CameBy e) (items_of s (log_of life) e) (next_queues s (view_of s (And (log_of life) (Begins e))) e)

    by : (is ≡ items_of s (log_of life) e) ⊎ IsStruck (items_of s (log_of life) e) is → AllFit (CameBy e) is
    by (inl same) = subst (AllFit (CameBy e)) (sym same) does
    by (inr struck) = struck_fits (CameBy e) (items_of s (log_of life) e) is struck does

queued_came : (s : Settings) (life : Life) (conn : ℕ) (request : Request) → Follows s life → WasQueued (log_of life) conn request → CameIn life conn request
queued_came s NotBegun conn request f q = absurd q
queued_came s (Opened life found) conn request f q = absurd q
queued_came s (Lived life (Did e is)) conn request f q =
    from (all_queued (CameBy e) (And (log_of life) (Begins e)) is conn request (event_fits s life e is f.1) q) (queued_came s life conn request f.0)
  where
    from : CameBy e conn request ⊎ WasQueued (log_of life) conn request → (WasQueued (log_of life) conn request → CameIn life conn request) → CameIn (Lived life (Did e is)) conn request
    from (inl c) k = inl c
    from (inr w) k = inr (k w)
queued_came s (Lived life (Gone c)) conn request f q = queued_came s life conn request f.0 q
queued_came s (Lived life (Bad c fault)) conn request f q = queued_came s life conn request f.0 q
queued_came s (Lived life (Unread c)) conn request f q = queued_came s life conn request f.0 q
queued_came s (Lived life NoMemory) conn request f q = queued_came s life conn request f.0 q

pub processed_came : (s : Settings) (life : Life) → Follows s life → (w : Waiting) → Contains (processed_of s (log_of life)) w → CameIn life w.conn w.request
processed_came s life f w c = queued_came s life w.conn w.request f (processed_was_queued s (log_of life) w c)
