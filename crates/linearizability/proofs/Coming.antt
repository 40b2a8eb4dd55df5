-- An event queues at most one request, that of its line: so the number of a request tells the event at which its line came.
use Rattle.std.proofs.Common.{◌≡◌, ℕ, Bool, true, false, Option, None, Some, Result, Ok, Err, List, [], ◌∷◌, ◌++◌, refl, sym, subst, ◌⊎◌, inl, inr}
use Rattle.std.specs.Prelude.{if◌then◌else◌}
use Rattle.voting_config.specs.Ids.{Id}
use Rattle.cluster_state.specs.declared.reply.LineFault.{LineFault}
use Rattle.cluster_state.specs.declared.request.Request.{Request}
use Rattle.cluster_state.specs.Puts.{bad_setting_of}
use Rattle.client_lines.specs.Reading.{line_request}
use Rattle.wire_frames.specs.declared.frame.WireMessage.{WireMessage}
use Rattle.master_tasks.specs.Queue.{is_full_of}
use Rattle.master_tasks.specs.declared.waiting.Outgoing.{Outgoing}
use Rattle.policy_model.specs.declared.settings.Settings.{Settings}
use Rattle.policy_model.specs.declared.events.Event.{Event}
use Rattle.policy_model.specs.declared.events.Event.TheVariants.{Start, Tick, Frame as FrameCame, Client as LineCame, Disconnected as PeerGone}
use Rattle.policy_model.specs.Events.{Met, Heard, PeersAsked, ElectionOff, ElectionSet, RoundBegun, RoundAnswered, RoundEnded, Joined, FollowersChecked, FollowerAnswered, LeaderChecked, LeaderAnswered, Queued, ExclusionsTimedOut, CommitAcked, AppliedAnswered, StateMade, HandedOver, PeerLost, LeaderLost, Item, Opens, Begins, Acts, ChangesMode, Drops, Sends, Replies, Notes, Log, And, added}
use Rattle.policy_model.specs.Entries.{Life, NotBegun, Opened, Lived, Did, Gone, Bad, NoMemory, Unread, log_of}
use Rattle.policy_model.specs.Follows.{Follows, is_struck, is_start, starts_next, items_of}
use Rattle.policy_model.specs.Views.{View, view_of}
use Rattle.policy_model.specs.Moves.{moved}
use Rattle.policy_model.specs.Doing as doing
use Rattle.policy_model.specs.NextState as next
use Rattle.policy_model.specs.Requests as requests
use Rattle.client_guarantees.specs.Processed.{CameBy}
use Rattle.client_guarantees.specs.InTime.{CameAfter}
use Rattle.client_guarantees.proofs.Coming.{AllFit, event_fits}
use Rattle.system_laws.specs.Systems.{IsDoneOf, Killed, InAct, Also, Unsent, Unanswered}
use Rattle.system_laws.proofs.Done.{event-done}
use Rattle.linearizability.proofs.Numbers.{queued_in, WasQueuedAs}

-- ---- nothing is queued by what a leader does when it goes on

abbrev Nothing : ℕ → Request → Type 0
Nothing conn request = ⊥

abbrev None_queued : List Item → Type 0
None_queued is = AllFit Nothing is

n-append : (xs ys : List Item) → None_queued xs → None_queued ys → None_queued (xs ++ ys)
n-append [] ys q r = r
n-append (x ∷ xs) ys q r = (q.0, n-append xs ys q.1 r)

n-if : (b : Bool) (xs ys : List Item) → None_queued xs → None_queued ys → None_queued (if b then xs else ys)
n-if true xs ys q r = q
n-if false xs ys q r = r

n-sends : (s : Settings) (ids : List Id) (m : WireMessage) → None_queued (doing.send_all s ids m)
n-sends s [] m = tt
n-sends s (x ∷ xs) m = (tt, n-sends s xs m)

n-replies : (s : Settings) (answers : List Outgoing) → None_queued (doing.reply_all s answers)
n-replies s [] = tt
n-replies s (x ∷ xs) = (tt, n-replies s xs)

module _ (s : Settings) where
  n-becomes_candidate : (v : View) → None_queued (doing.becomes_candidate s v)
  n-becomes_candidate v = search (n-append, n-if, n-replies)

  n-publishes : (v made : View) → None_queued (next.publishes s v made)
  n-publishes v made = search (n-if, n-sends, n-becomes_candidate)

  n-makes_state : (v : View) → None_queued (next.makes_state s v)
  n-makes_state v = search (n-append, n-if, n-replies, n-publishes)

  n-asks_successor : (v : View) (o : Option Id) → None_queued (next.asks_successor s v o)
  n-asks_successor v None = tt
  n-asks_successor v (Some id) = search (n-if, n-sends)

  n-hands_over : (v : View) → None_queued (next.hands_over s v)
  n-hands_over v = search (n-if, n-asks_successor)

  n-asks_votes : (v : View) → None_queued (next.asks_votes s v)
  n-asks_votes v = search (n-asks_successor)

  n-leads_on : (v : View) → None_queued (next.leads_on s v)
  n-leads_on v = search (n-if, n-asks_votes, n-makes_state)

  n-goes_on : (v : View) → None_queued (next.goes_on s v)
  n-goes_on v = search (n-if, n-leads_on, n-hands_over)

-- ---- an event

-- the first item that queues is so, and no other one does
abbrev QueuesOnce : (ℕ → Request → Type 0) → List Item → Type 0
QueuesOnce P [] = Unit {0}
QueuesOnce P (Notes (Queued conn request) ∷ is) = P conn request × None_queued is
QueuesOnce P (i ∷ is) = QueuesOnce P is

o-none : (P : ℕ → Request → Type 0) (is : List Item) → None_queued is → QueuesOnce P is
o-none P [] q = tt
o-none P (Opens found ∷ is) q = o-none P is q.1
o-none P (Begins event ∷ is) q = o-none P is q.1
o-none P (Acts act o ∷ is) q = o-none P is q.1
o-none P (ChangesMode mode term ∷ is) q = o-none P is q.1
o-none P (Drops member cause ∷ is) q = o-none P is q.1
o-none P (Sends frame ∷ is) q = o-none P is q.1
o-none P (Replies answer ∷ is) q = o-none P is q.1
o-none P (Notes (Met ids) ∷ is) q = o-none P is q.1
o-none P (Notes (Heard peer master) ∷ is) q = o-none P is q.1
o-none P (Notes PeersAsked ∷ is) q = o-none P is q.1
o-none P (Notes ElectionOff ∷ is) q = o-none P is q.1
o-none P (Notes (ElectionSet word) ∷ is) q = o-none P is q.1
o-none P (Notes (RoundBegun word) ∷ is) q = o-none P is q.1
o-none P (Notes (RoundAnswered source term last) ∷ is) q = o-none P is q.1
o-none P (Notes RoundEnded ∷ is) q = o-none P is q.1
o-none P (Notes (Joined ids) ∷ is) q = o-none P is q.1
o-none P (Notes FollowersChecked ∷ is) q = o-none P is q.1
o-none P (Notes (FollowerAnswered from good applied) ∷ is) q = o-none P is q.1
o-none P (Notes LeaderChecked ∷ is) q = o-none P is q.1
o-none P (Notes (LeaderAnswered good) ∷ is) q = o-none P is q.1
o-none P (Notes (Queued conn request) ∷ is) q = absurd q.0
o-none P (Notes ExclusionsTimedOut ∷ is) q = o-none P is q.1
o-none P (Notes CommitAcked ∷ is) q = o-none P is q.1
o-none P (Notes AppliedAnswered ∷ is) q = o-none P is q.1
o-none P (Notes StateMade ∷ is) q = o-none P is q.1
o-none P (Notes HandedOver ∷ is) q = o-none P is q.1
o-none P (Notes (PeerLost id) ∷ is) q = o-none P is q.1
o-none P (Notes LeaderLost ∷ is) q = o-none P is q.1

o-if : (P : ℕ → Request → Type 0) (b : Bool) (xs ys : List Item) → QueuesOnce P xs → QueuesOnce P ys → QueuesOnce P (if b then xs else ys)
o-if P true xs ys q r = q
o-if P false xs ys q r = r

o-queues : (P : ℕ → Request → Type 0) (s : Settings) (v : View) (conn : ℕ) (r : Request) (o : Option ℕ) → P conn r → QueuesOnce P (requests.queues s v conn r o)
o-queues P s v conn r (Some length) p = tt
o-queues P s v conn r None p = o-if P (is_full_of v.tasks) _ _ tt (p, n-goes_on s (moved s v (Notes (Queued conn r))))

o-line : (P : ℕ → Request → Type 0) (s : Settings) (v : View) (conn : ℕ) (r : Result Request LineFault) → ((a : Request) → r ≡ Ok a → P conn a) → QueuesOnce P (requests.takes_line s v conn r)
o-line P s v conn (Err e) p = tt
o-line P s v conn (Ok a) p = o-if P (doing.is_leader v.mode) _ _ (o-queues P s v conn a (bad_setting_of a.ask) (p a refl)) tt

-- where no line came nothing is queued
fits-nothing : (e : Event) → ((conn : ℕ) (request : Request) → CameBy e conn request → ⊥) → (is : List Item) → AllFit (CameBy e) is → None_queued is
fits-nothing e never [] a = tt
fits-nothing e never (Opens found ∷ is) a = (tt, fits-nothing e never is a.1)
fits-nothing e never (Begins event ∷ is) a = (tt, fits-nothing e never is a.1)
fits-nothing e never (Acts act o ∷ is) a = (tt, fits-nothing e never is a.1)
fits-nothing e never (ChangesMode mode term ∷ is) a = (tt, fits-nothing e never is a.1)
fits-nothing e never (Drops member cause ∷ is) a = (tt, fits-nothing e never is a.1)
fits-nothing e never (Sends frame ∷ is) a = (tt, fits-nothing e never is a.1)
fits-nothing e never (Replies answer ∷ is) a = (tt, fits-nothing e never is a.1)
fits-nothing e never (Notes (Met ids) ∷ is) a = (tt, fits-nothing e never is a.1)
fits-nothing e never (Notes (Heard peer master) ∷ is) a = (tt, fits-nothing e never is a.1)
fits-nothing e never (Notes PeersAsked ∷ is) a = (tt, fits-nothing e never is a.1)
fits-nothing e never (Notes ElectionOff ∷ is) a = (tt, fits-nothing e never is a.1)
fits-nothing e never (Notes (ElectionSet word) ∷ is) a = (tt, fits-nothing e never is a.1)
fits-nothing e never (Notes (RoundBegun word) ∷ is) a = (tt, fits-nothing e never is a.1)
fits-nothing e never (Notes (RoundAnswered source term last) ∷ is) a = (tt, fits-nothing e never is a.1)
fits-nothing e never (Notes RoundEnded ∷ is) a = (tt, fits-nothing e never is a.1)
fits-nothing e never (Notes (Joined ids) ∷ is) a = (tt, fits-nothing e never is a.1)
fits-nothing e never (Notes FollowersChecked ∷ is) a = (tt, fits-nothing e never is a.1)
fits-nothing e never (Notes (FollowerAnswered from good applied) ∷ is) a = (tt, fits-nothing e never is a.1)
fits-nothing e never (Notes LeaderChecked ∷ is) a = (tt, fits-nothing e never is a.1)
fits-nothing e never (Notes (LeaderAnswered good) ∷ is) a = (tt, fits-nothing e never is a.1)
fits-nothing e never (Notes (Queued conn request) ∷ is) a = absurd (never conn request a.0)
fits-nothing e never (Notes ExclusionsTimedOut ∷ is) a = (tt, fits-nothing e never is a.1)
fits-nothing e never (Notes CommitAcked ∷ is) a = (tt, fits-nothing e never is a.1)
fits-nothing e never (Notes AppliedAnswered ∷ is) a = (tt, fits-nothing e never is a.1)
fits-nothing e never (Notes StateMade ∷ is) a = (tt, fits-nothing e never is a.1)
fits-nothing e never (Notes HandedOver ∷ is) a = (tt, fits-nothing e never is a.1)
fits-nothing e never (Notes (PeerLost id) ∷ is) a = (tt, fits-nothing e never is a.1)
fits-nothing e never (Notes LeaderLost ∷ is) a = (tt, fits-nothing e never is a.1)

event-once : (s : Settings) (life : Life) (e : Event) → AllFit (CameBy e) (items_of s (log_of life) e) → QueuesOnce (CameBy e) (items_of s (log_of life) e)
event-once s life Start a = o-none (CameBy Start) (items_of s (log_of life) Start) (fits-nothing Start (λ c r k. k) (items_of s (log_of life) Start) a)
event-once s life (Tick now word) a = o-none (CameBy (Tick now word)) (items_of s (log_of life) (Tick now word)) (fits-nothing (Tick now word) (λ c r k. k) (items_of s (log_of life) (Tick now word)) a)
event-once s life (FrameCame frame) a = o-none (CameBy (FrameCame frame)) (items_of s (log_of life) (FrameCame frame)) (fits-nothing (FrameCame frame) (λ c r k. k) (items_of s (log_of life) (FrameCame frame)) a)
event-once s life (PeerGone peer) a = o-none (CameBy (PeerGone peer)) (items_of s (log_of life) (PeerGone peer)) (fits-nothing (PeerGone peer) (λ c r k. k) (items_of s (log_of life) (PeerGone peer)) a)
event-once s life (LineCame conn line) a =
    o-line (CameBy (LineCame conn line)) s (view_of s (And (log_of life) (Begins (LineCame conn line)))) conn (line_request line) (λ r e. (refl, e))

-- what was done of it
done-none : (is done : List Item) → IsDoneOf is done → None_queued is → None_queued done
done-none is done (Killed x) q = tt
done-none is done (InAct act sends wins rest fault w f) q = (tt, tt)
done-none is done (Also i rest some d) q = (q.0, done-none rest some d q.1)
done-none is done (Unsent frame rest some d) q = done-none rest some d q.1
done-none is done (Unanswered answer rest some d) q = done-none rest some d q.1

done-once : (P : ℕ → Request → Type 0) (is done : List Item) → IsDoneOf is done → QueuesOnce P is → QueuesOnce P done
done-once P is done (Killed x) q = tt
done-once P is done (InAct act sends wins rest fault w f) q = tt
done-once P is done (Also (Opens found) rest some d) q = done-once P rest some d q
done-once P is done (Also (Begins event) rest some d) q = done-once P rest some d q
done-once P is done (Also (Acts act o) rest some d) q = done-once P rest some d q
done-once P is done (Also (ChangesMode mode term) rest some d) q = done-once P rest some d q
done-once P is done (Also (Drops member cause) rest some d) q = done-once P rest some d q
done-once P is done (Also (Sends frame) rest some d) q = done-once P rest some d q
done-once P is done (Also (Replies answer) rest some d) q = done-once P rest some d q
done-once P is done (Also (Notes (Met ids)) rest some d) q = done-once P rest some d q
done-once P is done (Also (Notes (Heard peer master)) rest some d) q = done-once P rest some d q
done-once P is done (Also (Notes PeersAsked) rest some d) q = done-once P rest some d q
done-once P is done (Also (Notes ElectionOff) rest some d) q = done-once P rest some d q
done-once P is done (Also (Notes (ElectionSet word)) rest some d) q = done-once P rest some d q
done-once P is done (Also (Notes (RoundBegun word)) rest some d) q = done-once P rest some d q
done-once P is done (Also (Notes (RoundAnswered source term last)) rest some d) q = done-once P rest some d q
done-once P is done (Also (Notes RoundEnded) rest some d) q = done-once P rest some d q
done-once P is done (Also (Notes (Joined ids)) rest some d) q = done-once P rest some d q
done-once P is done (Also (Notes FollowersChecked) rest some d) q = done-once P rest some d q
done-once P is done (Also (Notes (FollowerAnswered from good applied)) rest some d) q = done-once P rest some d q
done-once P is done (Also (Notes LeaderChecked) rest some d) q = done-once P rest some d q
done-once P is done (Also (Notes (LeaderAnswered good)) rest some d) q = done-once P rest some d q
done-once P is done (Also (Notes (Queued conn request)) rest some d) q = (q.0, done-none rest some d q.1)
done-once P is done (Also (Notes ExclusionsTimedOut) rest some d) q = done-once P rest some d q
done-once P is done (Also (Notes CommitAcked) rest some d) q = done-once P rest some d q
done-once P is done (Also (Notes AppliedAnswered) rest some d) q = done-once P rest some d q
done-once P is done (Also (Notes StateMade) rest some d) q = done-once P rest some d q
done-once P is done (Also (Notes HandedOver) rest some d) q = done-once P rest some d q
done-once P is done (Also (Notes (PeerLost id)) rest some d) q = done-once P rest some d q
done-once P is done (Also (Notes LeaderLost) rest some d) q = done-once P rest some d q
done-once P is done (Unsent frame rest some d) q = done-once P rest some d q
done-once P is done (Unanswered answer rest some d) q = done-once P rest some d q

-- ---- the log

-- where nothing is queued
none-queued : (l : Log) (is : List Item) (n conn : ℕ) (request : Request) → None_queued is → WasQueuedAs (added l is) n conn request → WasQueuedAs l n conn request
none-queued l [] n c r q w = w
none-queued l (Opens found ∷ is) n c r q w = absurd (none-queued (And l (Opens found)) is n c r q.1 w)
none-queued l (Begins event ∷ is) n c r q w = none-queued (And l (Begins event)) is n c r q.1 w
none-queued l (Acts act o ∷ is) n c r q w = none-queued (And l (Acts act o)) is n c r q.1 w
none-queued l (ChangesMode mode term ∷ is) n c r q w = none-queued (And l (ChangesMode mode term)) is n c r q.1 w
none-queued l (Drops member cause ∷ is) n c r q w = none-queued (And l (Drops member cause)) is n c r q.1 w
none-queued l (Sends frame ∷ is) n c r q w = none-queued (And l (Sends frame)) is n c r q.1 w
none-queued l (Replies answer ∷ is) n c r q w = none-queued (And l (Replies answer)) is n c r q.1 w
none-queued l (Notes (Met ids) ∷ is) n c r q w = none-queued (And l (Notes (Met ids))) is n c r q.1 w
none-queued l (Notes (Heard peer master) ∷ is) n c r q w = none-queued (And l (Notes (Heard peer master))) is n c r q.1 w
none-queued l (Notes PeersAsked ∷ is) n c r q w = none-queued (And l (Notes PeersAsked)) is n c r q.1 w
none-queued l (Notes ElectionOff ∷ is) n c r q w = none-queued (And l (Notes ElectionOff)) is n c r q.1 w
none-queued l (Notes (ElectionSet word) ∷ is) n c r q w = none-queued (And l (Notes (ElectionSet word))) is n c r q.1 w
none-queued l (Notes (RoundBegun word) ∷ is) n c r q w = none-queued (And l (Notes (RoundBegun word))) is n c r q.1 w
none-queued l (Notes (RoundAnswered source term last) ∷ is) n c r q w = none-queued (And l (Notes (RoundAnswered source term last))) is n c r q.1 w
none-queued l (Notes RoundEnded ∷ is) n c r q w = none-queued (And l (Notes RoundEnded)) is n c r q.1 w
none-queued l (Notes (Joined ids) ∷ is) n c r q w = none-queued (And l (Notes (Joined ids))) is n c r q.1 w
none-queued l (Notes FollowersChecked ∷ is) n c r q w = none-queued (And l (Notes FollowersChecked)) is n c r q.1 w
none-queued l (Notes (FollowerAnswered from good applied) ∷ is) n c r q w = none-queued (And l (Notes (FollowerAnswered from good applied))) is n c r q.1 w
none-queued l (Notes LeaderChecked ∷ is) n c r q w = none-queued (And l (Notes LeaderChecked)) is n c r q.1 w
none-queued l (Notes (LeaderAnswered good) ∷ is) n c r q w = none-queued (And l (Notes (LeaderAnswered good))) is n c r q.1 w
none-queued l (Notes (Queued conn request) ∷ is) n c r q w = absurd q.0
none-queued l (Notes ExclusionsTimedOut ∷ is) n c r q w = none-queued (And l (Notes ExclusionsTimedOut)) is n c r q.1 w
none-queued l (Notes CommitAcked ∷ is) n c r q w = none-queued (And l (Notes CommitAcked)) is n c r q.1 w
none-queued l (Notes AppliedAnswered ∷ is) n c r q w = none-queued (And l (Notes AppliedAnswered)) is n c r q.1 w
none-queued l (Notes StateMade ∷ is) n c r q w = none-queued (And l (Notes StateMade)) is n c r q.1 w
none-queued l (Notes HandedOver ∷ is) n c r q w = none-queued (And l (Notes HandedOver)) is n c r q.1 w
none-queued l (Notes (PeerLost id) ∷ is) n c r q w = none-queued (And l (Notes (PeerLost id))) is n c r q.1 w
none-queued l (Notes LeaderLost ∷ is) n c r q w = none-queued (And l (Notes LeaderLost)) is n c r q.1 w

-- the request of an event has the number of those that were queued before the event
once-queued : (P : ℕ → Request → Type 0) (l : Log) (is : List Item) (n conn : ℕ) (request : Request) → QueuesOnce P is → WasQueuedAs (added l is) n conn request
    → ((n ≡ queued_in l) × P conn request) ⊎ WasQueuedAs l n conn request
once-queued P l [] n c r q w = inr w
once-queued P l (Opens found ∷ is) n c r q w = from (once-queued P (And l (Opens found)) is n c r q w)
  where
    from : ((n ≡ queued_in l) × P c r) ⊎ ⊥ → ((n ≡ queued_in l) × P c r) ⊎ WasQueuedAs l n c r
    from (inl k) = inl k
    from (inr k) = absurd k
once-queued P l (Begins event ∷ is) n c r q w = once-queued P (And l (Begins event)) is n c r q w
once-queued P l (Acts act o ∷ is) n c r q w = once-queued P (And l (Acts act o)) is n c r q w
once-queued P l (ChangesMode mode term ∷ is) n c r q w = once-queued P (And l (ChangesMode mode term)) is n c r q w
once-queued P l (Drops member cause ∷ is) n c r q w = once-queued P (And l (Drops member cause)) is n c r q w
once-queued P l (Sends frame ∷ is) n c r q w = once-queued P (And l (Sends frame)) is n c r q w
once-queued P l (Replies answer ∷ is) n c r q w = once-queued P (And l (Replies answer)) is n c r q w
once-queued P l (Notes (Met ids) ∷ is) n c r q w = once-queued P (And l (Notes (Met ids))) is n c r q w
once-queued P l (Notes (Heard peer master) ∷ is) n c r q w = once-queued P (And l (Notes (Heard peer master))) is n c r q w
once-queued P l (Notes PeersAsked ∷ is) n c r q w = once-queued P (And l (Notes PeersAsked)) is n c r q w
once-queued P l (Notes ElectionOff ∷ is) n c r q w = once-queued P (And l (Notes ElectionOff)) is n c r q w
once-queued P l (Notes (ElectionSet word) ∷ is) n c r q w = once-queued P (And l (Notes (ElectionSet word))) is n c r q w
once-queued P l (Notes (RoundBegun word) ∷ is) n c r q w = once-queued P (And l (Notes (RoundBegun word))) is n c r q w
once-queued P l (Notes (RoundAnswered source term last) ∷ is) n c r q w = once-queued P (And l (Notes (RoundAnswered source term last))) is n c r q w
once-queued P l (Notes RoundEnded ∷ is) n c r q w = once-queued P (And l (Notes RoundEnded)) is n c r q w
once-queued P l (Notes (Joined ids) ∷ is) n c r q w = once-queued P (And l (Notes (Joined ids))) is n c r q w
once-queued P l (Notes FollowersChecked ∷ is) n c r q w = once-queued P (And l (Notes FollowersChecked)) is n c r q w
once-queued P l (Notes (FollowerAnswered from good applied) ∷ is) n c r q w = once-queued P (And l (Notes (FollowerAnswered from good applied))) is n c r q w
once-queued P l (Notes LeaderChecked ∷ is) n c r q w = once-queued P (And l (Notes LeaderChecked)) is n c r q w
once-queued P l (Notes (LeaderAnswered good) ∷ is) n c r q w = once-queued P (And l (Notes (LeaderAnswered good))) is n c r q w
once-queued P l (Notes (Queued conn request) ∷ is) n c r q w = from (none-queued (And l (Notes (Queued conn request))) is n c r q.1 w)
  where
    from : WasQueuedAs (And l (Notes (Queued conn request))) n c r → ((n ≡ queued_in l) × P c r) ⊎ WasQueuedAs l n c r
    from (inl k) = inl (k.0, subst (λ (x : ℕ). P x r) k.1.0 (subst (λ (x : Request). P conn x) k.1.1 q.0))
    from (inr k) = inr k
once-queued P l (Notes ExclusionsTimedOut ∷ is) n c r q w = once-queued P (And l (Notes ExclusionsTimedOut)) is n c r q w
once-queued P l (Notes CommitAcked ∷ is) n c r q w = once-queued P (And l (Notes CommitAcked)) is n c r q w
once-queued P l (Notes AppliedAnswered ∷ is) n c r q w = once-queued P (And l (Notes AppliedAnswered)) is n c r q w
once-queued P l (Notes StateMade ∷ is) n c r q w = once-queued P (And l (Notes StateMade)) is n c r q w
once-queued P l (Notes HandedOver ∷ is) n c r q w = once-queued P (And l (Notes HandedOver)) is n c r q w
once-queued P l (Notes (PeerLost id) ∷ is) n c r q w = once-queued P (And l (Notes (PeerLost id))) is n c r q w
once-queued P l (Notes LeaderLost ∷ is) n c r q w = once-queued P (And l (Notes LeaderLost)) is n c r q w

pub event-fits : (s : Settings) (life : Life) (e : Event) → is_struck life ≡ false → is_start e ≡ starts_next life → AllFit (CameBy e) (items_of s (log_of life) e)
event-fits s life e up start = event_fits s life e (items_of s (log_of life) e) (record { up = up; start = start; does = inl refl })

-- of what was done of an event of a run
pub event-queued : (s : Settings) (life : Life) (e : Event) (done : List Item) → AllFit (CameBy e) (items_of s (log_of life) e) → IsDoneOf (items_of s (log_of life) e) done
    → (n conn : ℕ) (request : Request) → WasQueuedAs (added (And (log_of life) (Begins e)) done) n conn request
    → ((n ≡ queued_in (log_of life)) × CameBy e conn request) ⊎ WasQueuedAs (log_of life) n conn request
event-queued s life e done a d n conn request w =
    once-queued (CameBy e) (And (log_of life) (Begins e)) done n conn request (done-once (CameBy e) (items_of s (log_of life) e) done d (event-once s life e a)) w

-- ---- a life

-- the request of this number came when this had been the life so far
pub record CameAs (life : Life) (n conn : ℕ) (request : Request) : Type 0 where
  pub so_far : Life
  pub came : CameAfter life conn request so_far
  pub number : queued_in (log_of so_far) ≡ n

came-later : (life : Life) (event : Event) (items : List Item) (n conn : ℕ) (request : Request) → CameAs life n conn request → CameAs (Lived life (Did event items)) n conn request
came-later life event items n conn request c = record { so_far = c.so_far; came = inr c.came; number = c.number }

pub came_as : (s : Settings) (life : Life) → Follows s life → (n conn : ℕ) (request : Request)
    → WasQueuedAs (log_of life) n conn request → CameAs life n conn request
came_as s NotBegun f n conn request w = absurd w
came_as s (Opened life found) f n conn request w = absurd w
came_as s (Lived life (Did e is)) f n conn request w =
    from (event-queued s life e is (event-fits s life e f.1.up f.1.start) (event-done s life e is f.1) n conn request w) (came_as s life f.0 n conn request)
  where
    from : ((n ≡ queued_in (log_of life)) × CameBy e conn request) ⊎ WasQueuedAs (log_of life) n conn request → (WasQueuedAs (log_of life) n conn request → CameAs life n conn request)
        → CameAs (Lived life (Did e is)) n conn request
    from (inl c) k = record { so_far = life; came = inl (c.1, refl); number = sym c.0 }
    from (inr q) k = came-later life e is n conn request (k q)
came_as s (Lived life (Gone c)) f n conn request w = let k = came_as s life f.0 n conn request w in record { so_far = k.so_far; came = k.came; number = k.number }
came_as s (Lived life (Bad c fault)) f n conn request w = let k = came_as s life f.0 n conn request w in record { so_far = k.so_far; came = k.came; number = k.number }
came_as s (Lived life NoMemory) f n conn request w = let k = came_as s life f.0 n conn request w in record { so_far = k.so_far; came = k.came; number = k.number }
came_as s (Lived life (Unread c)) f n conn request w = let k = came_as s life f.0 n conn request w in record { so_far = k.so_far; came = k.came; number = k.number }
