-- What a node published last never goes back, so a request's line came when it was at most what it is now.
use Rattle.std.proofs.Common.{◌≡◌, ◌<◌, ℕ, Bool, true, false, true≢false, not, ◌&&◌, cond, max, List, refl, sym, ◌∙◌, ap, subst, arith, ◌⊎◌, inl, inr}
use Rattle.std.proofs.lemmas.Bool.{both_ways}
use Rattle.std.proofs.lemmas.Bool.Decides.{nat_tests}
use Rattle.voting_config.specs.Ids.{Id}
use Rattle.cluster_state.specs.declared.state.StateId.{StateId}
use Rattle.cluster_state.specs.declared.request.Request.{Request}
use Rattle.cluster_state.specs.declared.state.ClusterValue.{ClusterValue}
use Rattle.master_tasks.specs.declared.waiting.Waiting.{Waiting}
use Rattle.master_tasks.specs.NextState.{next_value}
use Rattle.world_model.specs.declared.acts.Act.{Act}
use Rattle.world_model.specs.declared.acts.Act.TheVariants.{Bootstrap, StartJoin, TakeJoin, Value, Publish, Response, Commit, Open}
use Rattle.world_model.specs.declared.acts.ActReply.{ActReply}
use Rattle.world_model.specs.declared.acts.ActReply.TheVariants.{Taken, Refused, Stopped}
use Rattle.world_model.specs.declared.acts.Outcome.TheVariants.{Answered}
use Rattle.world_model.specs.Acts.{NodeHistory, Then, is_opening}
use Rattle.world_model.specs.Histories.{History}
use Rattle.world_model.proofs.Moments.{Begins as IsBeginning}
use Rattle.world_model.specs.NodeState.{NodeState, node_state, term_of, election_won_of}
use Rattle.world_model.specs.Replies.{reply_at, reply_of}
use Rattle.world_model.proofs.Guards.{start_guard, join_guard, value_guard}
use Rattle.policy_model.specs.declared.settings.Settings.{Settings}
use Rattle.policy_model.specs.declared.events.Event.{Event}
use Rattle.policy_model.specs.Events.{Item, Log, NoItems, Opens, Begins, Acts, ChangesMode, Drops, Sends, Replies, Notes, And, added, acts_of}
use Rattle.policy_model.specs.Entries.{Life, NotBegun, Opened, Lived, Did, Gone, Bad, NoMemory, Unread, log_of}
use Rattle.policy_model.specs.LookBacks.{node_of, master_of, tasks_of}
use Rattle.policy_model.specs.Views.{View, view_of}
use Rattle.policy_model.specs.Moves.{moved, is_own, view_of-And}
use Rattle.policy_model.specs.Local.{IsAnswered, ByAct, ByQuiet, Ended, is_quiet}
use Rattle.policy_model.specs.Follows.{Follows, IsNext, IsStruck, is_struck, items_of}
use Rattle.policy_model.proofs.Answering.{answered-next}
use Rattle.policy_model.proofs.Standing.{own-quiet}
use Rattle.policy_model.proofs.Locals.{struck_fault}
use Rattle.client_guarantees.specs.Processed.{processed_into_next, CameBy, CameIn, CameAt, last_id}
use Rattle.client_guarantees.specs.Lasting.{IsPartOf}
use Rattle.client_guarantees.specs.InTime.{CameAfter, IsPublishedSince, HasPlace}
use Rattle.client_guarantees.proofs.Folding.{IsAmong}
use Rattle.client_guarantees.proofs.Telling.{Basis, Up}
use Rattle.client_guarantees.proofs.Queued.{WasQueued}
use Rattle.client_guarantees.proofs.Coming.{all_queued, event_fits}

pub up-same : (a : StateId) → Up a a
up-same a = inr (refl, (omega arith))

pub up-trans : (a b c : StateId) → Up a b → Up b c → Up a c
up-trans a b c (inl l) (inl m) = inl (omega (arith, l, m))
up-trans a b c (inl l) (inr m) = inl (omega (arith, l, m.0))
up-trans a b c (inr l) (inl m) = inl (omega (arith, l.0, m))
up-trans a b c (inr l) (inr m) = inr ((m.0 ∙ l.0), (omega (arith, l.1, m.1)))

-- ---- an act

more_than : (a b : ℕ) → a < b → a < max b a
more_than a b l = grind (arith, nat_tests)

won_first : (b c : Bool) → true ≡ (not b && c) → b ≡ false
won_first false c e = refl
won_first true c e = absurd (true≢false e)

same_node : (p q : NodeState) → p.term ≡ q.term → p.election_won ≡ q.election_won → p.published_version ≡ q.published_version → Up (last_id p) (last_id q)
same_node p q t w v = subst (Up (last_id p)) (λ i. record { term = t i; version = cond (w i) (v i) 0 }) (up-same (last_id p))

pub up-act : (me : Id) (g : NodeHistory) (act : Act) (r : ActReply) → is_opening act ≡ false → r ≡ reply_of me g act → Up (last_id (node_state g)) (last_id (node_state (Then g act (Answered r))))
up-act me g (Bootstrap config) r o e = up-same (last_id (node_state g))
up-act me g (StartJoin candidate term) (Taken s w) o e = inl (more_than (term_of g) term (start_guard me g candidate term s w e).above)
up-act me g (StartJoin candidate term) (Refused c) o e = up-same (last_id (node_state g))
up-act me g (StartJoin candidate term) Stopped o e = up-same (last_id (node_state g))
up-act me g (TakeJoin j) (Taken s false) o e = same_node (node_state g) (node_state (Then g (TakeJoin j) (Answered (Taken s false)))) refl refl refl
up-act me g (TakeJoin j) (Taken s true) o e = rw (won_first (election_won_of g) _ (join_guard me g j s true e).flag) (inr (refl, (omega arith)))
up-act me g (TakeJoin j) (Refused c) o e = up-same (last_id (node_state g))
up-act me g (TakeJoin j) Stopped o e = up-same (last_id (node_state g))
up-act me g (Value version config value) (Taken s w) o e =
    let k = value_guard me g version config value s w e in
    let above = k.above in
    rw k.won (inr (refl, (omega (arith, above))))
up-act me g (Value version config value) (Refused c) o e = up-same (last_id (node_state g))
up-act me g (Value version config value) Stopped o e = up-same (last_id (node_state g))
up-act me g (Publish request) r o e = up-same (last_id (node_state g))
up-act me g (Response response) r o e = up-same (last_id (node_state g))
up-act me g (Commit commit) r o e = up-same (last_id (node_state g))
up-act me g (Open found) r o e = absurd (true≢false o)

-- ---- an event

pub quiet_acts : (l : Log) (i : Item) → is_quiet i ≡ true → acts_of (And l i) ≡ acts_of l
quiet_acts l (Opens found) e = absurd (true≢false (sym e))
quiet_acts l (Begins event) e = refl
quiet_acts l (Acts act o) e = absurd (true≢false (sym e))
quiet_acts l (ChangesMode mode term) e = refl
quiet_acts l (Drops member cause) e = refl
quiet_acts l (Sends frame) e = refl
quiet_acts l (Replies answer) e = refl
quiet_acts l (Notes note) e = refl

up-items : (s : Settings) (l : Log) (v : View) (is : List Item) → IsAnswered s v is → v ≡ view_of s l → Up (last_id (node_of l)) (last_id (node_of (added l is)))
up-items s l v xs (Ended w) e = up-same (last_id (node_of l))
up-items s l v xs (ByAct w act is o a) e =
    let i : Item = Acts act (Answered (reply_at s.me w.node act)) in
    let own : is_own i ≡ true = rw o refl in
    up-trans (last_id (node_of l)) (last_id (node_of (And l i))) (last_id (node_of (added (And l i) is)))
    (up-act s.me (acts_of l) act (reply_at s.me w.node act) o (ap (λ (x : View). reply_at s.me x.node act) e))
    (up-items s (And l i) (moved s w i) is a (ap (λ (x : View). moved s x i) e ∙ sym (view_of-And s l i own)))
up-items s l v xs (ByQuiet w i is q a) e =
    subst (λ (g : NodeHistory). Up (last_id (node_state g)) (last_id (node_of (added (And l i) is)))) (quiet_acts l i q)
    (up-items s (And l i) (moved s w i) is a (ap (λ (x : View). moved s x i) e ∙ sym (view_of-And s l i (own-quiet i q))))

up-event : (s : Settings) (life : Life) (e : Event) (is : List Item) → IsNext s life e is → is_struck (Lived life (Did e is)) ≡ false → Up (last_id (node_of (log_of life))) (last_id (node_of (log_of (Lived life (Did e is)))))
up-event s life e is n u = by n.does
  where
    by : (is ≡ items_of s (log_of life) e) ⊎ IsStruck (items_of s (log_of life) e) is → Up (last_id (node_of (log_of life))) (last_id (node_of (log_of (Lived life (Did e is)))))
    by (inl same) =
        subst (λ (x : List Item). Up (last_id (node_of (log_of life))) (last_id (node_of (added (And (log_of life) (Begins e)) x)))) (sym same)
        (up-items s (And (log_of life) (Begins e)) (view_of s (And (log_of life) (Begins e))) (items_of s (log_of life) e) (answered-next s (view_of s (And (log_of life) (Begins e))) e) refl)
    by (inr struck) = absurd (both_ways _ u (struck_fault (items_of s (log_of life) e) is struck))

-- ---- a life

-- what the node had published last as the last event began
abbrev pub low_of : Life → StateId
low_of NotBegun = last_id (node_of (log_of NotBegun))
low_of (Opened life found) = last_id (node_of (log_of (Opened life found)))
low_of (Lived life (Did event items)) = last_id (node_of (log_of life))
low_of (Lived life entry) = low_of life

-- the log as the last event began
abbrev pub begun_of : Life → Log
begun_of NotBegun = NoItems
begun_of (Opened life found) = log_of (Opened life found)
begun_of (Lived life (Did event items)) = log_of life
begun_of (Lived life entry) = begun_of life

-- such a line came when this had been the life so far
pub record CameSince (life : Life) (conn : ℕ) (request : Request) : Type 0 where
  pub so_far : Life
  pub came : CameAfter life conn request so_far
  pub begins : IsBeginning (acts_of (log_of so_far)) (acts_of (begun_of life))

-- at such a moment of the life, when the node was so, it processed the request into this value
pub record WasProcessed (s : Settings) (life : Life) (w : Waiting) (node : NodeState) (value : ClusterValue) : Type 0 where
  pub moment : Log
  pub part : IsPartOf moment (log_of life)
  pub is_node : node_of moment ≡ node
  pub is_value : next_value (master_of s moment) (tasks_of s moment) ≡ value
  pub is_among : IsAmong (processed_into_next (master_of s moment) (tasks_of s moment)) w

-- the state of this id was published after the request's line came, and the request has its place in it or below it
pub record IsNew (h : History) (s : Settings) (g : NodeHistory) (life : Life) (w : Waiting) (id : StateId) : Type 0 where
  pub since : IsPublishedSince h s g life w.conn w.request id
  pub place : HasPlace h s g life w since.as_published.state

abbrev pub basis : History → Settings → NodeHistory → Life → Basis
basis h s g life = record { came = CameSince life; low = low_of life; processed = WasProcessed s life; anew = IsNew h s g life }

pub came_in : (life : Life) (conn : ℕ) (request : Request) (so_far : Life) → CameAfter life conn request so_far → CameIn life conn request
came_in NotBegun conn request so_far c = absurd c
came_in (Opened life found) conn request so_far c = absurd c
came_in (Lived life (Did event items)) conn request so_far (inl c) = inl c.0
came_in (Lived life (Did event items)) conn request so_far (inr c) = inr (came_in life conn request so_far c)
came_in (Lived life (Gone n)) conn request so_far c = came_in life conn request so_far c
came_in (Lived life (Bad n fault)) conn request so_far c = came_in life conn request so_far c
came_in (Lived life NoMemory) conn request so_far c = came_in life conn request so_far c
came_in (Lived life (Unread n)) conn request so_far c = came_in life conn request so_far c

-- in a life that goes on
since_later : (h : History) (s : Settings) (g : NodeHistory) (life now : Life) (conn : ℕ) (request : Request) (id : StateId)
    → ((so_far : Life) → CameAfter life conn request so_far → CameAfter now conn request so_far)
    → IsPublishedSince h s g life conn request id → IsPublishedSince h s g now conn request id
since_later h s g life now conn request id f p = record {
  so_far = p.so_far;
  came = f p.so_far p.came;
  as_published = p.as_published;
  is_in = p.is_in;
  publisher = p.publisher;
  is_id = p.is_id;
  not_yet = p.not_yet;
}

-- what a life has as its parts a longer one has
pub record GoesOn (life now : Life) : Type 0 where
  pub came : (conn : ℕ) (request : Request) (so_far : Life) → CameAfter life conn request so_far → CameAfter now conn request so_far
  pub parts : (m : Log) → IsPartOf m (log_of life) → IsPartOf m (log_of now)

pub new_later : (h : History) (s : Settings) (g : NodeHistory) (life now : Life) (w : Waiting) (id : StateId) → GoesOn life now → IsNew h s g life w id → IsNew h s g now w id
unfolding since_later
new_later h s g life now w id k n = record {
  since = since_later h s g life now w.conn w.request id (k.came w.conn w.request) n.since;
  place = record {
    id = n.place.id;
    since = since_later h s g life now w.conn w.request n.place.id (k.came w.conn w.request) n.place.since;
    into = record {
      moment = n.place.into.moment;
      part = k.parts n.place.into.moment n.place.into.part;
      requests = n.place.into.requests;
      made = n.place.into.made;
      is_among = n.place.into.is_among;
    };
    descends = n.place.descends;
  };
}

low-below : (s : Settings) (life : Life) → Follows s life → is_struck life ≡ false → Up (low_of life) (last_id (node_of (log_of life)))
low-below s NotBegun f u = up-same (last_id (node_of (log_of NotBegun)))
low-below s (Opened life found) f u = up-same (last_id (node_of (log_of (Opened life found))))
low-below s (Lived life (Did e is)) f u = up-event s life e is f.1 u
low-below s (Lived life (Gone c)) f u = low-below s life f.0 u
low-below s (Lived life (Bad c fault)) f u = low-below s life f.0 u
low-below s (Lived life NoMemory) f u = low-below s life f.0 u
low-below s (Lived life (Unread c)) f u = low-below s life f.0 u

pub record CameOver (life : Life) (conn : ℕ) (request : Request) : Type 0 where
  pub newest : StateId
  pub came : CameAt life conn request newest
  pub below : Up newest (low_of life)

-- a request that is queued came when the node had published no more than as the last event began
pub came_over : (s : Settings) (life : Life) → Follows s life → (conn : ℕ) (request : Request) → WasQueued (log_of life) conn request → CameOver life conn request
came_over s NotBegun f conn request q = absurd q
came_over s (Opened life found) f conn request q = absurd q
came_over s (Lived life (Did e is)) f conn request q =
    from (all_queued (CameBy e) (And (log_of life) (Begins e)) is conn request (event_fits s life e is f.1) q) (came_over s life f.0 conn request)
  where
    from : CameBy e conn request ⊎ WasQueued (log_of life) conn request → (WasQueued (log_of life) conn request → CameOver life conn request) → CameOver (Lived life (Did e is)) conn request
    from (inl c) k = record { newest = last_id (node_of (log_of life)); came = inl (c, refl); below = up-same (last_id (node_of (log_of life))) }
    from (inr w) k =
        let o = k w in
        record { newest = o.newest; came = inr o.came; below = up-trans o.newest (low_of life) (last_id (node_of (log_of life))) o.below (low-below s life f.0 f.1.up) }
came_over s (Lived life (Gone c)) f conn request q = let o = came_over s life f.0 conn request q in record { newest = o.newest; came = o.came; below = o.below }
came_over s (Lived life (Bad c fault)) f conn request q = let o = came_over s life f.0 conn request q in record { newest = o.newest; came = o.came; below = o.below }
came_over s (Lived life NoMemory) f conn request q = let o = came_over s life f.0 conn request q in record { newest = o.newest; came = o.came; below = o.below }
came_over s (Lived life (Unread c)) f conn request q = let o = came_over s life f.0 conn request q in record { newest = o.newest; came = o.came; below = o.below }
