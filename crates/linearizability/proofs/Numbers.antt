-- The requests of a run are numbered as they are queued, so that each is one of its own: of two moments at which states are made no request of a
-- number is taken at both.
use Rattle.std.proofs.Common.{◌≡◌, ◌<◌, ◌≤◌, ◌+◌, ℕ, Bool, true, false, true≢false, Option, List, [], ◌∷◌, ◌++◌, refl, sym, ◌∙◌, ap, subst, arith, ◌⊎◌, inl, inr}
use Rattle.std.specs.Prelude.{fold, is_none, if◌then◌else◌}
use Rattle.std.proofs.lemmas.List.{append_assoc, append-nil}
use Rattle.cluster_state.specs.States.{id_of}
use Rattle.cluster_state.specs.declared.reply.Answer.{Answer}
use Rattle.cluster_state.specs.declared.request.Request.{Request}
use Rattle.cluster_state.specs.declared.state.ClusterState.{ClusterState}
use Rattle.cluster_state.specs.declared.state.ClusterValue.{ClusterValue}
use Rattle.cluster_state.specs.declared.state.StateId.{StateId}
use Rattle.voting_config.specs.Ids.{Id}
use Rattle.world_model.specs.declared.acts.Act.TheVariants.{Bootstrap, StartJoin, TakeJoin, Value, Publish, Response, Commit, Open}
use Rattle.world_model.specs.declared.acts.ActReply.TheVariants.{Taken, Refused, Stopped}
use Rattle.world_model.specs.declared.acts.Outcome.{Outcome}
use Rattle.world_model.specs.declared.acts.Outcome.TheVariants.{Answered, Disk, Crashed}
use Rattle.master_tasks.specs.declared.waiting.Waiting.{Waiting}
use Rattle.master_tasks.specs.Queue.{Tasks, arriving}
use Rattle.master_tasks.specs.Answering.{left_by, timed_out, committed_in, applied_in, nothing_new}
use Rattle.master_tasks.specs.Processing.{Processing, AnsweredAtOnce, Makes, processing_once, value_after, Processed, before_all, and_then, with_next, processed_all}
use Rattle.master_tasks.specs.NextState.{Leader as NextMaster, value_before, processed_by, is_nothing_new, tasks_after}
use Rattle.policy_model.specs.declared.settings.Settings.{Settings}
use Rattle.policy_model.specs.declared.events.Mode.TheVariants.{Candidate, Leader, Follower}
use Rattle.policy_model.specs.Events.{Met, Heard, PeersAsked, ElectionOff, ElectionSet, RoundBegun, RoundAnswered, RoundEnded, Joined, FollowersChecked, FollowerAnswered, LeaderChecked, LeaderAnswered, Queued, ExclusionsTimedOut, CommitAcked, AppliedAnswered, StateMade, HandedOver, PeerLost, LeaderLost, Opens, Begins, Acts, ChangesMode, Drops, Sends, Replies, Notes, Log, NoItems, And}
use Rattle.policy_model.specs.Parts.{published_id}
use Rattle.policy_model.specs.LookBacks.{node_of, moment_of, tasks_of, master_of}
use Rattle.policy_model.proofs.Fits.{waiting-added}
use Rattle.client_guarantees.specs.Lasting.{IsPartOf}
use Rattle.client_guarantees.specs.Processed.{processed_by_this, processed_from, processed_into_next}

-- ---- the queue, with numbers

-- how many requests had been queued
abbrev pub queued_in : Log → ℕ
queued_in NoItems = 0
queued_in (And l (Notes (Queued conn request))) = queued_in l + 1
queued_in (And l i) = queued_in l

-- a request that waits, and how many had been queued before it
pub record Numbered : Type 0 where
  pub number : ℕ
  pub request : Waiting

abbrev pub requests_of : List Numbered → List Waiting
requests_of [] = []
requests_of (t ∷ ts) = t.request ∷ requests_of ts

abbrev pub marked : Numbered → Numbered
marked t = record { number = t.number; request = record t.request { processed = true } }

abbrev pub left_of : (Waiting → Option Answer) → List Numbered → List Numbered
left_of decide [] = []
left_of decide (t ∷ ts) = if is_none (decide t.request) then t ∷ left_of decide ts else left_of decide ts

-- those that wait on when a state is made, and those of them that are processed into it
abbrev pub waits_by : Numbered → Processing → List Numbered
waits_by t (AnsweredAtOnce answer) = []
waits_by t (Makes value) = marked t ∷ []

abbrev pub wait_from : Bool → ClusterState → ClusterValue → List Numbered → List Numbered
wait_from second accepted value [] = []
wait_from second accepted value (t ∷ ts) =
    waits_by t (processing_once second accepted value t.request)
    ++ wait_from second accepted (value_after value (processing_once second accepted value t.request)) ts

abbrev pub taken_by : Numbered → Processing → List Numbered
taken_by t (AnsweredAtOnce answer) = []
taken_by t (Makes value) = if t.request.processed then [] else marked t ∷ []

abbrev pub taken_from : Bool → ClusterState → ClusterValue → List Numbered → List Numbered
taken_from second accepted value [] = []
taken_from second accepted value (t ∷ ts) =
    taken_by t (processing_once second accepted value t.request)
    ++ taken_from second accepted (value_after value (processing_once second accepted value t.request)) ts

abbrev pub wait_after : NextMaster → Tasks → List Numbered → List Numbered
wait_after m t ts =
    if is_nothing_new m t
    then left_of (nothing_new m.committed (id_of m.accepted)) (wait_from m.policy.second m.accepted (value_before m.me t m.accepted.value) ts)
    else wait_from m.policy.second m.accepted (value_before m.me t m.accepted.value) ts

abbrev pub numbered_of : Settings → Log → List Numbered
numbered_of s NoItems = []
numbered_of s (And l (Opens found)) = []
numbered_of s (And l (Notes (Queued conn request))) =
    numbered_of s l ++ record { number = queued_in l; request = arriving conn (moment_of l) request } ∷ []
numbered_of s (And l (Notes ExclusionsTimedOut)) = left_of (timed_out (node_of l).committed (moment_of l)) (numbered_of s l)
numbered_of s (And l (Notes CommitAcked)) = left_of (committed_in (published_id (node_of l))) (numbered_of s l)
numbered_of s (And l (Notes AppliedAnswered)) = left_of (applied_in (node_of l).committed (node_of l).accepted) (numbered_of s l)
numbered_of s (And l (Notes StateMade)) = wait_after (master_of s l) (tasks_of s l) (numbered_of s l)
numbered_of s (And l (ChangesMode Candidate term)) = []
numbered_of s (And l i) = numbered_of s l

-- those that are processed into the state that is made at this moment
abbrev pub into_next : Settings → Log → List Numbered
into_next s m =
    taken_from (master_of s m).policy.second (master_of s m).accepted (value_before (master_of s m).me (tasks_of s m) (master_of s m).accepted.value)
    (numbered_of s m)

-- how many requests had been queued when a state was made last
abbrev pub queued_before : Log → ℕ
queued_before NoItems = 0
queued_before (And l (Notes StateMade)) = queued_in l
queued_before (And l i) = queued_before l

-- ---- they are the requests that wait

requests-append : (xs ys : List Numbered) → requests_of (xs ++ ys) ≡ requests_of xs ++ requests_of ys
requests-append [] ys = refl
requests-append (x ∷ xs) ys = ap (λ (zs : List Waiting). x.request ∷ zs) (requests-append xs ys)

requests-left : (decide : Waiting → Option Answer) (ts : List Numbered) → requests_of (left_of decide ts) ≡ left_by decide (requests_of ts)
requests-left decide [] = refl
requests-left decide (t ∷ ts) = from (is_none (decide t.request)) (requests-left decide ts)
  where
    from : (b : Bool) → requests_of (left_of decide ts) ≡ left_by decide (requests_of ts)
        → requests_of (if b then t ∷ left_of decide ts else left_of decide ts) ≡ (if b then t.request ∷ left_by decide (requests_of ts) else left_by decide (requests_of ts))
    from true e = ap (λ (zs : List Waiting). t.request ∷ zs) e
    from false e = e

value_is : (p : Processed) (w : Waiting) (x : Processing) → (and_then p w x).value ≡ value_after p.value x
value_is p w (AnsweredAtOnce a) = refl
value_is p w (Makes made) = refl

waiting_is : (p : Processed) (t : Numbered) (x : Processing) → (and_then p t.request x).waiting ≡ p.waiting ++ requests_of (waits_by t x)
waiting_is p t (AnsweredAtOnce a) = sym (append-nil p.waiting)
waiting_is p t (Makes made) = refl

requests-wait : (second : Bool) (accepted : ClusterState) (p : Processed) (ts : List Numbered)
    → (fold (with_next second accepted) p (requests_of ts)).waiting ≡ p.waiting ++ requests_of (wait_from second accepted p.value ts)
requests-wait second accepted p [] = sym (append-nil p.waiting)
requests-wait second accepted p (t ∷ ts) =
    let x = processing_once second accepted p.value t.request in
    requests-wait second accepted (and_then p t.request x) ts
    ∙ ap (λ (v : ClusterValue). (and_then p t.request x).waiting ++ requests_of (wait_from second accepted v ts)) (value_is p t.request x)
    ∙ ap (λ (ws : List Waiting). ws ++ requests_of (wait_from second accepted (value_after p.value x) ts)) (waiting_is p t x)
    ∙ append_assoc p.waiting (requests_of (waits_by t x)) (requests_of (wait_from second accepted (value_after p.value x) ts))
    ∙ ap (λ (ws : List Waiting). p.waiting ++ ws) (sym (requests-append (waits_by t x) (wait_from second accepted (value_after p.value x) ts)))

requests-after : (m : NextMaster) (t : Tasks) (ts : List Numbered) → requests_of ts ≡ t.waiting → requests_of (wait_after m t ts) ≡ (tasks_after m t).waiting
unfolding tasks_after processed_by
requests-after m t ts e = from (is_nothing_new m t)
  where
    xs : List Numbered
    xs = wait_from m.policy.second m.accepted (value_before m.me t m.accepted.value) ts

    ws : List Waiting
    ws = (processed_all m.policy.second m.accepted (value_before m.me t m.accepted.value) t.waiting).waiting

    same : requests_of xs ≡ ws
    same =
        sym (requests-wait m.policy.second m.accepted (before_all (value_before m.me t m.accepted.value)) ts)
        ∙ ap (λ (l : List Waiting). (fold (with_next m.policy.second m.accepted) (before_all (value_before m.me t m.accepted.value)) l).waiting) e

    from : (b : Bool) → requests_of (if b then left_of (nothing_new m.committed (id_of m.accepted)) xs else xs)
        ≡ (if b then left_by (nothing_new m.committed (id_of m.accepted)) ws else ws)
    from true = requests-left (nothing_new m.committed (id_of m.accepted)) xs ∙ ap (left_by (nothing_new m.committed (id_of m.accepted))) same
    from false = same

requests-taken_by : (t : Numbered) (x : Processing) → requests_of (taken_by t x) ≡ processed_by_this t.request x
requests-taken_by t (AnsweredAtOnce a) = refl
requests-taken_by t (Makes made) = from t.request.processed
  where
    from : (b : Bool) → requests_of (if b then [] else marked t ∷ []) ≡ (if b then [] else record t.request { processed = true } ∷ [])
    from true = refl
    from false = refl

requests-taken : (second : Bool) (accepted : ClusterState) (value : ClusterValue) (ts : List Numbered)
    → requests_of (taken_from second accepted value ts) ≡ processed_from second accepted value (requests_of ts)
requests-taken second accepted value [] = refl
requests-taken second accepted value (t ∷ ts) =
    let x = processing_once second accepted value t.request in
    requests-append (taken_by t x) (taken_from second accepted (value_after value x) ts)
    ∙ ap (λ (ws : List Waiting). ws ++ requests_of (taken_from second accepted (value_after value x) ts)) (requests-taken_by t x)
    ∙ ap (λ (ws : List Waiting). processed_by_this t.request x ++ ws) (requests-taken second accepted (value_after value x) ts)

pub requests-numbered : (s : Settings) (l : Log) → requests_of (numbered_of s l) ≡ (tasks_of s l).waiting
requests-numbered s NoItems = refl
requests-numbered s (And l (Opens found)) = refl
requests-numbered s (And l (ChangesMode Candidate term)) = refl
requests-numbered s (And l (Begins event)) = requests-numbered s l
requests-numbered s (And l (Acts act o)) = requests-numbered s l
requests-numbered s (And l (ChangesMode Leader term)) = requests-numbered s l
requests-numbered s (And l (ChangesMode (Follower leader) term)) = requests-numbered s l
requests-numbered s (And l (Drops member cause)) = requests-numbered s l
requests-numbered s (And l (Sends frame)) = requests-numbered s l
requests-numbered s (And l (Replies answer)) = requests-numbered s l
requests-numbered s (And l (Notes (Met ids))) = requests-numbered s l
requests-numbered s (And l (Notes (Heard peer master))) = requests-numbered s l
requests-numbered s (And l (Notes PeersAsked)) = requests-numbered s l
requests-numbered s (And l (Notes ElectionOff)) = requests-numbered s l
requests-numbered s (And l (Notes (ElectionSet word))) = requests-numbered s l
requests-numbered s (And l (Notes (RoundBegun word))) = requests-numbered s l
requests-numbered s (And l (Notes (RoundAnswered source term last))) = requests-numbered s l
requests-numbered s (And l (Notes RoundEnded)) = requests-numbered s l
requests-numbered s (And l (Notes FollowersChecked)) = requests-numbered s l
requests-numbered s (And l (Notes (FollowerAnswered from good applied))) = requests-numbered s l
requests-numbered s (And l (Notes LeaderChecked)) = requests-numbered s l
requests-numbered s (And l (Notes (LeaderAnswered good))) = requests-numbered s l
requests-numbered s (And l (Notes HandedOver)) = requests-numbered s l
requests-numbered s (And l (Notes (PeerLost id))) = requests-numbered s l
requests-numbered s (And l (Notes LeaderLost)) = requests-numbered s l
requests-numbered s (And l (Notes (Joined ids))) = requests-numbered s l ∙ sym (waiting-added (tasks_of s l) ids)
requests-numbered s (And l (Notes (Queued conn request))) =
    requests-append (numbered_of s l) (record { number = queued_in l; request = arriving conn (moment_of l) request } ∷ [])
    ∙ ap (λ (ws : List Waiting). ws ++ arriving conn (moment_of l) request ∷ []) (requests-numbered s l)
requests-numbered s (And l (Notes ExclusionsTimedOut)) =
    requests-left (timed_out (node_of l).committed (moment_of l)) (numbered_of s l) ∙ ap (left_by (timed_out (node_of l).committed (moment_of l))) (requests-numbered s l)
requests-numbered s (And l (Notes CommitAcked)) =
    requests-left (committed_in (published_id (node_of l))) (numbered_of s l) ∙ ap (left_by (committed_in (published_id (node_of l)))) (requests-numbered s l)
requests-numbered s (And l (Notes AppliedAnswered)) =
    requests-left (applied_in (node_of l).committed (node_of l).accepted) (numbered_of s l)
    ∙ ap (left_by (applied_in (node_of l).committed (node_of l).accepted)) (requests-numbered s l)
requests-numbered s (And l (Notes StateMade)) = requests-after (master_of s l) (tasks_of s l) (numbered_of s l) (requests-numbered s l)

-- those that are processed into the next state are those with their numbers
pub requests-into_next : (s : Settings) (m : Log) → requests_of (into_next s m) ≡ processed_into_next (master_of s m) (tasks_of s m)
unfolding processed_into_next
requests-into_next s m =
    let l = master_of s m in
    requests-taken l.policy.second l.accepted (value_before l.me (tasks_of s m) l.accepted.value) (numbered_of s m)
    ∙ ap (processed_from l.policy.second l.accepted (value_before l.me (tasks_of s m) l.accepted.value)) (requests-numbered s m)

-- ---- numbers ascend

-- what holds of each
abbrev pub Every : (Numbered → Type 0) → List Numbered → Type 0
Every P [] = Unit {0}
Every P (t ∷ ts) = P t × Every P ts

pub every-map : (P Q : Numbered → Type 0) → ((t : Numbered) → P t → Q t) → (ts : List Numbered) → Every P ts → Every Q ts
every-map P Q f [] e = tt
every-map P Q f (t ∷ ts) e = (f t e.0, every-map P Q f ts e.1)

every-append : (P : Numbered → Type 0) (xs ys : List Numbered) → Every P xs → Every P ys → Every P (xs ++ ys)
every-append P [] ys e f = f
every-append P (x ∷ xs) ys e f = (e.0, every-append P xs ys e.1 f)

-- each number is below those behind it
abbrev pub AreAscending : List Numbered → Type 0
AreAscending [] = Unit {0}
AreAscending (t ∷ ts) = Every (λ u. t.number < u.number) ts × AreAscending ts

ascending-last : (ts : List Numbered) (t : Numbered) → AreAscending ts → Every (λ u. u.number < t.number) ts → AreAscending (ts ++ t ∷ [])
ascending-last [] t a e = (tt, tt)
ascending-last (x ∷ xs) t a e = (every-append (λ u. x.number < u.number) xs (t ∷ []) a.0 (e.0, tt), ascending-last xs t a.1 e.1)

-- what holds of a request whether or not it is marked
abbrev Marks : (Numbered → Type 0) → Type 0
Marks P = (t : Numbered) → P t → P (marked t)

every-left : (P : Numbered → Type 0) (decide : Waiting → Option Answer) (ts : List Numbered) → Every P ts → Every P (left_of decide ts)
every-left P decide [] e = tt
every-left P decide (t ∷ ts) e = from (is_none (decide t.request)) (every-left P decide ts e.1)
  where
    from : (b : Bool) → Every P (left_of decide ts) → Every P (if b then t ∷ left_of decide ts else left_of decide ts)
    from true k = (e.0, k)
    from false k = k

every-waits : (P : Numbered → Type 0) → Marks P → (t : Numbered) (x : Processing) → P t → Every P (waits_by t x)
every-waits P m t (AnsweredAtOnce a) p = tt
every-waits P m t (Makes made) p = (m t p, tt)

every-wait : (P : Numbered → Type 0) → Marks P → (second : Bool) (accepted : ClusterState) (value : ClusterValue) (ts : List Numbered) → Every P ts → Every P (wait_from second accepted value ts)
every-wait P m second accepted value [] e = tt
every-wait P m second accepted value (t ∷ ts) e =
    let x = processing_once second accepted value t.request in
    every-append P (waits_by t x) _ (every-waits P m t x e.0) (every-wait P m second accepted (value_after value x) ts e.1)

every-taken_by : (P Q : Numbered → Type 0) → ((t : Numbered) → P t → t.request.processed ≡ false → Q (marked t)) → (t : Numbered) (x : Processing) → P t → Every Q (taken_by t x)
every-taken_by P Q m t (AnsweredAtOnce a) p = tt
every-taken_by P Q m t (Makes made) p = from t.request.processed refl
  where
    from : (b : Bool) → t.request.processed ≡ b → Every Q (if b then [] else marked t ∷ [])
    from true e = tt
    from false e = (m t p e, tt)

every-taken : (P Q : Numbered → Type 0) → ((t : Numbered) → P t → t.request.processed ≡ false → Q (marked t)) → (second : Bool) (accepted : ClusterState) (value : ClusterValue) (ts : List Numbered)
    → Every P ts → Every Q (taken_from second accepted value ts)
every-taken P Q m second accepted value [] e = tt
every-taken P Q m second accepted value (t ∷ ts) e =
    let x = processing_once second accepted value t.request in
    every-append Q (taken_by t x) _ (every-taken_by P Q m t x e.0) (every-taken P Q m second accepted (value_after value x) ts e.1)

ascending-left : (decide : Waiting → Option Answer) (ts : List Numbered) → AreAscending ts → AreAscending (left_of decide ts)
ascending-left decide [] a = tt
ascending-left decide (t ∷ ts) a = from (is_none (decide t.request)) (ascending-left decide ts a.1)
  where
    from : (b : Bool) → AreAscending (left_of decide ts) → AreAscending (if b then t ∷ left_of decide ts else left_of decide ts)
    from true k = (every-left (λ u. t.number < u.number) decide ts a.0, k)
    from false k = k

ascending-wait : (second : Bool) (accepted : ClusterState) (value : ClusterValue) (ts : List Numbered) → AreAscending ts → AreAscending (wait_from second accepted value ts)
ascending-wait second accepted value [] a = tt
ascending-wait second accepted value (t ∷ ts) a = from (processing_once second accepted value t.request) (λ made. ascending-wait second accepted made ts a.1)
  where
    from : (x : Processing) → ((made : ClusterValue) → AreAscending (wait_from second accepted made ts)) → AreAscending (waits_by t x ++ wait_from second accepted (value_after value x) ts)
    from (AnsweredAtOnce answer) k = k value
    from (Makes made) k = (every-wait (λ u. t.number < u.number) (λ u l. l) second accepted made ts a.0, k made)

ascending-taken : (second : Bool) (accepted : ClusterState) (value : ClusterValue) (ts : List Numbered) → AreAscending ts → AreAscending (taken_from second accepted value ts)
ascending-taken second accepted value [] a = tt
ascending-taken second accepted value (t ∷ ts) a = from (processing_once second accepted value t.request) (λ made. ascending-taken second accepted made ts a.1)
  where
    by : (b : Bool) (made : ClusterValue) → AreAscending (taken_from second accepted made ts) → AreAscending ((if b then [] else marked t ∷ []) ++ taken_from second accepted made ts)
    by true made k = k
    by false made k = (every-taken (λ u. t.number < u.number) (λ u. t.number < u.number) (λ u l e. l) second accepted made ts a.0, k)

    from : (x : Processing) → ((made : ClusterValue) → AreAscending (taken_from second accepted made ts)) → AreAscending (taken_by t x ++ taken_from second accepted (value_after value x) ts)
    from (AnsweredAtOnce answer) k = k value
    from (Makes made) k = by t.request.processed made (k made)

ascending-after : (m : NextMaster) (t : Tasks) (ts : List Numbered) → AreAscending ts → AreAscending (wait_after m t ts)
ascending-after m t ts a = from (is_nothing_new m t) (ascending-wait m.policy.second m.accepted (value_before m.me t m.accepted.value) ts a)
  where
    xs : List Numbered
    xs = wait_from m.policy.second m.accepted (value_before m.me t m.accepted.value) ts

    from : (b : Bool) → AreAscending xs → AreAscending (if b then left_of (nothing_new m.committed (id_of m.accepted)) xs else xs)
    from true k = ascending-left (nothing_new m.committed (id_of m.accepted)) xs k
    from false k = k

-- ---- what is so of those that wait

-- the request of this number was queued by this connection
abbrev pub WasQueuedAs : Log → ℕ → ℕ → Request → Type 0
WasQueuedAs NoItems n conn request = ⊥
WasQueuedAs (And l (Opens found)) n conn request = ⊥
WasQueuedAs (And l (Notes (Queued c r))) n conn request = ((n ≡ queued_in l) × ((c ≡ conn) × (r ≡ request))) ⊎ WasQueuedAs l n conn request
WasQueuedAs (And l i) n conn request = WasQueuedAs l n conn request

-- its number is below what was queued; the request was queued so; and where it is not processed it was queued since a state was made last
abbrev IsSound : Log → Numbered → Type 0
IsSound l t = (t.number < queued_in l) × (WasQueuedAs l t.number t.request.conn t.request.request × (t.request.processed ≡ false → queued_before l ≤ t.number))

abbrev AreSound : Settings → Log → Type 0
AreSound s l = Every (IsSound l) (numbered_of s l) × AreAscending (numbered_of s l)

-- those of which one more is queued
more-queued : (l : Log) (conn : ℕ) (request : Request) (t : Numbered) → IsSound l t → IsSound (And l (Notes (Queued conn request))) t
more-queued l conn request t k = let low = k.0 in ((omega (arith, low)), (inr k.1.0, k.1.1))

before-queued : (l : Log) → queued_before l ≤ queued_in l
before-queued NoItems = omega arith
before-queued (And l (Opens found)) = before-queued l
before-queued (And l (ChangesMode Candidate term)) = before-queued l
before-queued (And l (Begins event)) = before-queued l
before-queued (And l (Acts act o)) = before-queued l
before-queued (And l (ChangesMode Leader term)) = before-queued l
before-queued (And l (ChangesMode (Follower leader) term)) = before-queued l
before-queued (And l (Drops member cause)) = before-queued l
before-queued (And l (Sends frame)) = before-queued l
before-queued (And l (Replies answer)) = before-queued l
before-queued (And l (Notes (Met ids))) = before-queued l
before-queued (And l (Notes (Heard peer master))) = before-queued l
before-queued (And l (Notes PeersAsked)) = before-queued l
before-queued (And l (Notes ElectionOff)) = before-queued l
before-queued (And l (Notes (ElectionSet word))) = before-queued l
before-queued (And l (Notes (RoundBegun word))) = before-queued l
before-queued (And l (Notes (RoundAnswered source term last))) = before-queued l
before-queued (And l (Notes RoundEnded)) = before-queued l
before-queued (And l (Notes FollowersChecked)) = before-queued l
before-queued (And l (Notes (FollowerAnswered from good applied))) = before-queued l
before-queued (And l (Notes LeaderChecked)) = before-queued l
before-queued (And l (Notes (LeaderAnswered good))) = before-queued l
before-queued (And l (Notes HandedOver)) = before-queued l
before-queued (And l (Notes (PeerLost id))) = before-queued l
before-queued (And l (Notes LeaderLost)) = before-queued l
before-queued (And l (Notes (Joined ids))) = before-queued l
before-queued (And l (Notes ExclusionsTimedOut)) = before-queued l
before-queued (And l (Notes CommitAcked)) = before-queued l
before-queued (And l (Notes AppliedAnswered)) = before-queued l
before-queued (And l (Notes (Queued conn request))) = let k = before-queued l in omega (arith, k)
before-queued (And l (Notes StateMade)) = omega arith

-- once a state is made each is processed
made-sound : (l : Log) (t : Numbered) → IsSound l t → IsSound (And l (Notes StateMade)) (marked t)
made-sound l t k = (k.0, (k.1.0, λ e. absurd (true≢false e)))

sound : (s : Settings) (l : Log) → AreSound s l
sound s NoItems = (tt, tt)
sound s (And l (Opens found)) = (tt, tt)
sound s (And l (ChangesMode Candidate term)) = (tt, tt)
sound s (And l (Begins event)) = sound s l
sound s (And l (Acts act o)) = sound s l
sound s (And l (ChangesMode Leader term)) = sound s l
sound s (And l (ChangesMode (Follower leader) term)) = sound s l
sound s (And l (Drops member cause)) = sound s l
sound s (And l (Sends frame)) = sound s l
sound s (And l (Replies answer)) = sound s l
sound s (And l (Notes (Met ids))) = sound s l
sound s (And l (Notes (Heard peer master))) = sound s l
sound s (And l (Notes PeersAsked)) = sound s l
sound s (And l (Notes ElectionOff)) = sound s l
sound s (And l (Notes (ElectionSet word))) = sound s l
sound s (And l (Notes (RoundBegun word))) = sound s l
sound s (And l (Notes (RoundAnswered source term last))) = sound s l
sound s (And l (Notes RoundEnded)) = sound s l
sound s (And l (Notes FollowersChecked)) = sound s l
sound s (And l (Notes (FollowerAnswered from good applied))) = sound s l
sound s (And l (Notes LeaderChecked)) = sound s l
sound s (And l (Notes (LeaderAnswered good))) = sound s l
sound s (And l (Notes HandedOver)) = sound s l
sound s (And l (Notes (PeerLost id))) = sound s l
sound s (And l (Notes LeaderLost)) = sound s l
sound s (And l (Notes (Joined ids))) = sound s l
sound s (And l (Notes (Queued conn request))) =
    let k = sound s l in
    let t : Numbered = record { number = queued_in l; request = arriving conn (moment_of l) request } in
    let below = before-queued l in (
      every-append (IsSound (And l (Notes (Queued conn request)))) (numbered_of s l) (t ∷ []) (every-map (IsSound l) (IsSound (And l (Notes (Queued conn request)))) (more-queued l conn request) (numbered_of s l) k.0)
          (((omega arith), (inl (refl, (refl, refl)), λ e. below)), tt),
      ascending-last (numbered_of s l) t k.1 (every-map (IsSound l) (λ u. u.number < queued_in l) (λ u m. m.0) (numbered_of s l) k.0),
    )
sound s (And l (Notes ExclusionsTimedOut)) =
    let k = sound s l in (every-left (IsSound l) (timed_out (node_of l).committed (moment_of l)) (numbered_of s l) k.0, ascending-left (timed_out (node_of l).committed (moment_of l)) (numbered_of s l) k.1)
sound s (And l (Notes CommitAcked)) =
    let k = sound s l in (every-left (IsSound l) (committed_in (published_id (node_of l))) (numbered_of s l) k.0, ascending-left (committed_in (published_id (node_of l))) (numbered_of s l) k.1)
sound s (And l (Notes AppliedAnswered)) =
    let k = sound s l in
    (every-left (IsSound l) (applied_in (node_of l).committed (node_of l).accepted) (numbered_of s l) k.0, ascending-left (applied_in (node_of l).committed (node_of l).accepted) (numbered_of s l) k.1)
sound s (And l (Notes StateMade)) =
    let k = sound s l in
    (every-made (master_of s l) (tasks_of s l) (numbered_of s l) k.0, ascending-after (master_of s l) (tasks_of s l) (numbered_of s l) k.1)
  where
    waits : (t : Numbered) (x : Processing) → IsSound l t → Every (IsSound (And l (Notes StateMade))) (waits_by t x)
    waits t (AnsweredAtOnce a) p = tt
    waits t (Makes made) p = (made-sound l t p, tt)

    wait : (second : Bool) (accepted : ClusterState) (value : ClusterValue) (ts : List Numbered) → Every (IsSound l) ts → Every (IsSound (And l (Notes StateMade))) (wait_from second accepted value ts)
    wait second accepted value [] e = tt
    wait second accepted value (t ∷ ts) e =
        let x = processing_once second accepted value t.request in
        every-append (IsSound (And l (Notes StateMade))) (waits_by t x) _ (waits t x e.0) (wait second accepted (value_after value x) ts e.1)

    every-made : (m : NextMaster) (t : Tasks) (ts : List Numbered) → Every (IsSound l) ts → Every (IsSound (And l (Notes StateMade))) (wait_after m t ts)
    every-made m t ts e = from (is_nothing_new m t) (wait m.policy.second m.accepted (value_before m.me t m.accepted.value) ts e)
      where
        xs : List Numbered
        xs = wait_from m.policy.second m.accepted (value_before m.me t m.accepted.value) ts

        from : (b : Bool) → Every (IsSound (And l (Notes StateMade))) xs → Every (IsSound (And l (Notes StateMade))) (if b then left_of (nothing_new m.committed (id_of m.accepted)) xs else xs)
        from true k = every-left (IsSound (And l (Notes StateMade))) (nothing_new m.committed (id_of m.accepted)) xs k
        from false k = k

-- ---- those that are taken

-- what is so of a request that is processed at this moment: it was queued so, before, and since a state was made last
abbrev pub IsTakenAt : Log → Numbered → Type 0
IsTakenAt m t = (t.number < queued_in m) × ((queued_before m ≤ t.number) × WasQueuedAs m t.number t.request.conn t.request.request)

pub taken-sound : (s : Settings) (m : Log) → Every (IsTakenAt m) (into_next s m)
taken-sound s m =
    every-taken (IsSound m) (IsTakenAt m) (λ t k e. (k.0, (k.1.1 e, k.1.0))) (master_of s m).policy.second (master_of s m).accepted (value_before (master_of s m).me (tasks_of s m) (master_of s m).accepted.value)
    (numbered_of s m) (sound s m).0

pub taken-ascend : (s : Settings) (m : Log) → AreAscending (into_next s m)
taken-ascend s m =
    ascending-taken (master_of s m).policy.second (master_of s m).accepted (value_before (master_of s m).me (tasks_of s m) (master_of s m).accepted.value) (numbered_of s m) (sound s m).1

-- ---- those that are processed into a state that is published

-- A request that was processed into the state of this id.
pub record Tagged : Type 0 where
  pub id : StateId
  pub numbered : Numbered

abbrev pub tagged_all : StateId → List Numbered → List Tagged
tagged_all id [] = []
tagged_all id (t ∷ ts) = record { id = id; numbered = t } ∷ tagged_all id ts

abbrev pub numbered_all : List Tagged → List Numbered
numbered_all [] = []
numbered_all (t ∷ ts) = t.numbered ∷ numbered_all ts

-- those that were processed into a state that was made in this event and is not published yet
abbrev pub made_of : Settings → Log → List Numbered
made_of s NoItems = []
made_of s (And l (Opens found)) = []
made_of s (And l (Begins event)) = []
made_of s (And l (Notes StateMade)) = into_next s l
made_of s (And l (Acts (Value version config value) o)) = []
made_of s (And l i) = made_of s l

-- those that were processed into the states that the run has published, in order
abbrev pub taken_of : Settings → Log → List Tagged
taken_of s NoItems = []
taken_of s (And l (Opens found)) = []
taken_of s (And l (Acts (Value version config value) (Answered (Taken sends wins)))) =
    taken_of s l ++ tagged_all (record { term = (node_of l).term; version = version }) (made_of s l)
taken_of s (And l i) = taken_of s l

pub numbered-tagged : (id : StateId) (ts : List Numbered) → numbered_all (tagged_all id ts) ≡ ts
numbered-tagged id [] = refl
numbered-tagged id (t ∷ ts) = ap (λ (us : List Numbered). t ∷ us) (numbered-tagged id ts)

pub numbered-append : (xs ys : List Tagged) → numbered_all (xs ++ ys) ≡ numbered_all xs ++ numbered_all ys
numbered-append [] ys = refl
numbered-append (x ∷ xs) ys = ap (λ (zs : List Numbered). x.numbered ∷ zs) (numbered-append xs ys)

every-parts : (P : Numbered → Type 0) (xs ys : List Numbered) → Every P (xs ++ ys) → Every P xs × Every P ys
every-parts P [] ys e = (tt, e)
every-parts P (x ∷ xs) ys e = let rest = every-parts P xs ys e.1 in ((e.0, rest.0), rest.1)

ascending-first : (xs ys : List Numbered) → AreAscending (xs ++ ys) → AreAscending xs
ascending-first [] ys a = tt
ascending-first (x ∷ xs) ys a = ((every-parts (λ u. x.number < u.number) xs ys a.0).0, ascending-first xs ys a.1)

ascending-both : (n : ℕ) (xs ys : List Numbered) → AreAscending xs → AreAscending ys → Every (λ t. t.number < n) xs → Every (λ t. n ≤ t.number) ys → AreAscending (xs ++ ys)
ascending-both n [] ys a b low high = b
ascending-both n (x ∷ xs) ys a b low high =
    let k = low.0 in
    (every-append (λ u. x.number < u.number) xs ys a.0 (every-map (λ u. n ≤ u.number) (λ u. x.number < u.number) (λ u h. omega (arith, h, k)) ys high), ascending-both n xs ys a.1 b low.1 high)

-- what a request that was processed is: below those that are queued since, and queued so
abbrev pub IsOlder : Log → Numbered → Type 0
IsOlder l t = (t.number < queued_before l) × WasQueuedAs l t.number t.request.conn t.request.request

abbrev AreOlder : Settings → Log → Type 0
AreOlder s l =
    Every (IsOlder l) (numbered_all (taken_of s l) ++ made_of s l) × AreAscending (numbered_all (taken_of s l) ++ made_of s l)

older-first : (l : Log) (xs ys : List Numbered) → Every (IsOlder l) (xs ++ ys) × AreAscending (xs ++ ys) → Every (IsOlder l) (xs ++ []) × AreAscending (xs ++ [])
older-first l xs ys k =
    (subst (Every (IsOlder l)) (sym (append-nil xs)) (every-parts (IsOlder l) xs ys k.0).0, subst AreAscending (sym (append-nil xs)) (ascending-first xs ys k.1))

older-taken : (l : Log) (id : StateId) (ts : List Tagged) (made : List Numbered) → Every (IsOlder l) (numbered_all ts ++ made) × AreAscending (numbered_all ts ++ made)
    → Every (IsOlder l) (numbered_all (ts ++ tagged_all id made) ++ []) × AreAscending (numbered_all (ts ++ tagged_all id made) ++ [])
older-taken l id ts made k =
    let same : numbered_all ts ++ made ≡ numbered_all (ts ++ tagged_all id made) ++ [] =
    sym (append-nil (numbered_all (ts ++ tagged_all id made)) ∙ numbered-append ts (tagged_all id made) ∙ ap (λ (us : List Numbered). numbered_all ts ++ us) (numbered-tagged id made)) in
    (subst (Every (IsOlder l)) same k.0, subst AreAscending same k.1)

-- a value, by what became of it
older-value : (s : Settings) (l : Log) (version : ℕ) (config : List Id) (value : ClusterValue) (o : Outcome) → AreOlder s l → AreOlder s (And l (Acts (Value version config value) o))
older-value s l version config value (Answered (Taken sends wins)) k = older-taken l (record { term = (node_of l).term; version = version }) (taken_of s l) (made_of s l) k
older-value s l version config value (Answered (Refused cause)) k = older-first l (numbered_all (taken_of s l)) (made_of s l) k
older-value s l version config value (Answered Stopped) k = older-first l (numbered_all (taken_of s l)) (made_of s l) k
older-value s l version config value (Disk kept) k = older-first l (numbered_all (taken_of s l)) (made_of s l) k
older-value s l version config value (Crashed kept) k = older-first l (numbered_all (taken_of s l)) (made_of s l) k

pub older : (s : Settings) (l : Log) → AreOlder s l
older s NoItems = (tt, tt)
older s (And l (Opens found)) = (tt, tt)
older s (And l (Begins event)) = older-first l (numbered_all (taken_of s l)) (made_of s l) (older s l)
older s (And l (Acts (Value version config value) o)) = older-value s l version config value o (older s l)
older s (And l (Acts (Bootstrap config) o)) = older s l
older s (And l (Acts (StartJoin candidate term) o)) = older s l
older s (And l (Acts (TakeJoin join) o)) = older s l
older s (And l (Acts (Publish publish) o)) = older s l
older s (And l (Acts (Response response) o)) = older s l
older s (And l (Acts (Commit commit) o)) = older s l
older s (And l (Acts (Open found) o)) = older s l
older s (And l (ChangesMode Candidate term)) = older s l
older s (And l (ChangesMode Leader term)) = older s l
older s (And l (ChangesMode (Follower leader) term)) = older s l
older s (And l (Drops member cause)) = older s l
older s (And l (Sends frame)) = older s l
older s (And l (Replies answer)) = older s l
older s (And l (Notes (Met ids))) = older s l
older s (And l (Notes (Heard peer master))) = older s l
older s (And l (Notes PeersAsked)) = older s l
older s (And l (Notes ElectionOff)) = older s l
older s (And l (Notes (ElectionSet word))) = older s l
older s (And l (Notes (RoundBegun word))) = older s l
older s (And l (Notes (RoundAnswered source term last))) = older s l
older s (And l (Notes RoundEnded)) = older s l
older s (And l (Notes FollowersChecked)) = older s l
older s (And l (Notes (FollowerAnswered from good applied))) = older s l
older s (And l (Notes LeaderChecked)) = older s l
older s (And l (Notes (LeaderAnswered good))) = older s l
older s (And l (Notes HandedOver)) = older s l
older s (And l (Notes (PeerLost id))) = older s l
older s (And l (Notes LeaderLost)) = older s l
older s (And l (Notes (Joined ids))) = older s l
older s (And l (Notes ExclusionsTimedOut)) = older s l
older s (And l (Notes CommitAcked)) = older s l
older s (And l (Notes AppliedAnswered)) = older s l
older s (And l (Notes (Queued conn request))) =
    let k = older s l in
    (every-map (IsOlder l) (IsOlder (And l (Notes (Queued conn request)))) (λ t o. (o.0, inr o.1)) (numbered_all (taken_of s l) ++ made_of s l) k.0, k.1)
older s (And l (Notes StateMade)) =
    let k = older-first l (numbered_all (taken_of s l)) (made_of s l) (older s l) in
    let ts = numbered_all (taken_of s l) in
    let same = append-nil ts in
    let before = before-queued l in
    let old : Every (IsOlder l) ts = subst (Every (IsOlder l)) same k.0 in
    let ascend : AreAscending ts = subst AreAscending same k.1 in (
      every-append (IsOlder (And l (Notes StateMade))) ts (into_next s l)
          (every-map (IsOlder l) (IsOlder (And l (Notes StateMade))) (λ t o. let low = o.0 in ((omega (arith, low, before)), o.1)) ts old)
          (every-map (IsTakenAt l) (IsOlder (And l (Notes StateMade))) (λ t h. (h.0, h.1.1)) (into_next s l) (taken-sound s l)),
      ascending-both (queued_before l) ts (into_next s l) ascend (taken-ascend s l) (every-map (IsOlder l) (λ t. t.number < queued_before l) (λ t o. o.0) ts old)
          (every-map (IsTakenAt l) (λ t. queued_before l ≤ t.number) (λ t h. h.1.0) (into_next s l) (taken-sound s l)),
    )
