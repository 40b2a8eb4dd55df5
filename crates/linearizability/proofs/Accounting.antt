-- What a system has taken, event by event.
use Rattle.std.proofs.Common.{◌≡◌, ◌≢◌, ◌+◌, Bool, true, false, true≢false, cond, List, ◌++◌, refl, sym, ◌∙◌, ap, subst, arith, inl, inr}
use Rattle.std.specs.List.{Contains}
use Rattle.std.proofs.lemmas.List.{append-nil}
use Rattle.voting_config.specs.Ids.{Id, same}
use Rattle.voting_config.proofs.Sets.{same_is, same_self}
use Rattle.cluster_state.specs.declared.state.ClusterState.{ClusterState}
use Rattle.cluster_state.specs.declared.state.Kept.{Kept}
use Rattle.world_model.specs.declared.acts.Act.TheVariants.{Value}
use Rattle.world_model.specs.declared.acts.ActReply.TheVariants.{Taken}
use Rattle.world_model.specs.declared.acts.Outcome.TheVariants.{Answered}
use Rattle.world_model.specs.Acts.{Then}
use Rattle.world_model.specs.Histories.{History, node_history, IsPrefix}
use Rattle.world_model.specs.Safety.{Published, published}
use Rattle.world_model.proofs.Legal.{IsGrounded, deeds_begin, prefix_self}
use Rattle.world_model.proofs.Moments.{begins_trans}
use Rattle.policy_model.specs.declared.settings.Settings.{Settings}
use Rattle.policy_model.specs.declared.events.Event.{Event}
use Rattle.policy_model.specs.Events.{Item}
use Rattle.policy_model.specs.Entries.{Entry, Did, Life, NotBegun, Opened, Lived, log_of}
use Rattle.system_laws.specs.Systems.{System, Starts, Lives, Dies, Run, Down, Runs, lives_on, run_of, history_of}
use Rattle.system_laws.proofs.Done.{event-done}
use Rattle.system_laws.proofs.RunsKept.{AreGoing}
use Rattle.linearizability.specs.Linearizations.{Operation, Came, RunsOn}
use Rattle.linearizability.proofs.Numbers.{Tagged, taken_of}
use Rattle.linearizability.proofs.Moments.{size, upto-self, upto-prefix, came-smaller, was_on}
use Rattle.linearizability.proofs.Accounts.{EachOf, IsIn, each-in, each-map, each-all, in-left, Op, IsOp, HasOp, WithNumber, IsWithin, Account, Counts}
use Rattle.linearizability.proofs.Eventful.{counted}

-- ---- where nothing is taken

-- all else as it was
moved-op : (h after : System) (now all : History) → IsPrefix now all → ((o : Operation) → Came h o → Came after o) → (k : Op) → IsOp h now k → IsOp after all k
moved-op h after now all i later k o = record {
  came = later k.operation o.came;
  run = o.run;
  inner = o.inner;
  version = o.version;
  config = o.config;
  value = o.value;
  sends = o.sends;
  wins = o.wins;
  took = begins_trans (Then o.inner (Value o.version o.config o.value) (Answered (Taken o.sends o.wins))) (node_history now k.operation.node) (node_history all k.operation.node) o.took (deeds_begin now all k.operation.node i);
  is_id = o.is_id;
  before = o.before;
}

moved-has : (h after : System) (n : Id) (ops : List Op) → ((c : System) → RunsOn c n h → RunsOn c n after) → (t : Tagged) → HasOp h n ops t → HasOp after n ops t
moved-has h after n ops on t k = record {
  op = k.op;
  is_in = k.is_in;
  is_id = k.is_id;
  is_number = k.is_number;
  is_node = k.is_node;
  is_conn = k.is_conn;
  is_request = k.is_request;
  on = on k.op.operation.came k.on;
}

more-has : (h : System) (n : Id) (ops new : List Op) (t : Tagged) → HasOp h n ops t → HasOp h n (ops ++ new) t
more-has h n ops new t k = record {
  op = k.op;
  is_in = in-left ops new k.op k.is_in;
  is_id = k.is_id;
  is_number = k.is_number;
  is_node = k.is_node;
  is_conn = k.is_conn;
  is_request = k.is_request;
  on = k.on;
}

-- a line came before all that has happened
not-now : (h after : System) (o : Operation) → Came h o → size after ≡ size h + 1 → o.came ≢ after
not-now h after o c bigger e =
    let low = came-smaller h o c in
    let same_size : size o.came ≡ size after = ap size e in
    absurd (omega (arith, low, same_size, bigger))

-- ---- a run begins

pub started : (h : System) (s : Settings) (found : Kept) → Account h → Account (Starts h s found)
started h s found a = record {
  ops = a.ops;
  each = each-map (IsOp h (history_of h)) (IsOp (Starts h s found) (history_of (Starts h s found))) a.ops (λ k i o. moved-op h (Starts h s found) (history_of h) (history_of (Starts h s found)) (inr (prefix_self (history_of h))) (λ o c. c) k o) a.each;
  once = a.once;
  within = each-map (IsWithin h) (IsWithin (Starts h s found)) a.ops (λ k i w. stays k (each-in (IsOp h (history_of h)) a.ops k a.each i).came w) a.within;
  current = λ n t life e. by n t life (same s.me n) refl e;
  folds = λ p c. a.folds p (subst (λ (ps : List Published). Contains ps p) (append-nil (published (history_of h))) c);
}
  where
    other : (n : Id) → same s.me n ≡ false → s.me ≢ n
    other n off one = true≢false (sym (subst (λ (x : Id). same s.me x ≡ true) one (same_self s.me)) ∙ off)

    stays : (k : Op) → Came h k.operation → IsWithin h k → IsWithin (Starts h s found) k
    stays k came w (inl e) t life r = absurd (not-now h (Starts h s found) k.operation came refl e)
    stays k came w (inr x) t life r = from (same s.me k.operation.node) refl r
      where
        from : (b : Bool) → same s.me k.operation.node ≡ b → cond b (Runs s (Opened NotBegun found)) (run_of h k.operation.node) ≡ Runs t life → WithNumber (taken_of t (log_of life)) k.number
        from true is q = absurd (x.0 (same_is s.me k.operation.node is))
        from false is q = w x.1 t life q

    by : (n : Id) (t : Settings) (life : Life) (b : Bool) → same s.me n ≡ b → cond b (Runs s (Opened NotBegun found)) (run_of h n) ≡ Runs t life → EachOf (HasOp (Starts h s found) n a.ops) (taken_of t (log_of life))
    by n t life true is e =
        let opened : Opened NotBegun found ≡ life = cc in
        subst (λ (x : Life). EachOf (HasOp (Starts h s found) n a.ops) (taken_of t (log_of x))) opened tt
    by n t life false is e =
        each-map (HasOp h n a.ops) (HasOp (Starts h s found) n a.ops) (taken_of t (log_of life)) (λ u i k. moved-has h (Starts h s found) n a.ops (λ c r. inr (other n is, r)) u k) (a.current n t life e)

pub started-ops : (h : System) (s : Settings) (found : Kept) (a : Account h) → (started h s found a).ops ≡ a.ops
unfolding started
started-ops h s found a = refl

-- ---- an entry of no event

pub idled : (h : System) (m : Id) (entry : Entry) → ((life : Life) → log_of (Lived life entry) ≡ log_of life) → ((o : Operation) → Came h o → Came (Lives h m entry) o)
    → history_of (Lives h m entry) ≡ history_of h → Account h → Account (Lives h m entry)
idled h m entry logs later same_history a = record {
  ops = a.ops;
  each = each-map (IsOp h (history_of h)) (IsOp (Lives h m entry) (history_of (Lives h m entry))) a.ops (λ k i o. moved-op h (Lives h m entry) (history_of h) (history_of (Lives h m entry)) (upto-prefix h (Lives h m entry) (inr (upto-self h))) later k o) a.each;
  once = a.once;
  within = each-map (IsWithin h) (IsWithin (Lives h m entry)) a.ops (λ k i w. stays k (each-in (IsOp h (history_of h)) a.ops k a.each i).came w) a.within;
  current = λ n t life e. by n t life (same m n) e;
  folds = λ p c. a.folds p (subst (λ (x : History). Contains (published x) p) same_history c);
}
  where
    stays : (k : Op) → Came h k.operation → IsWithin h k → IsWithin (Lives h m entry) k
    stays k came w (inl e) t life r = absurd (not-now h (Lives h m entry) k.operation came refl e)
    stays k came w (inr x) t life r = from (same m k.operation.node) r
      where
        from : (b : Bool) → cond b (lives_on (run_of h k.operation.node) entry) (run_of h k.operation.node) ≡ Runs t life → WithNumber (taken_of t (log_of life)) k.number
        from true q =
            let v = was_on (run_of h k.operation.node) entry t life q in
            subst (λ (y : Life). WithNumber (taken_of t (log_of y)) k.number) (sym v.is) (rw (logs v.before) (w x t v.before v.was))
        from false q = w x t life q

    by : (n : Id) (t : Settings) (life : Life) (b : Bool) → cond b (lives_on (run_of h n) entry) (run_of h n) ≡ Runs t life → EachOf (HasOp (Lives h m entry) n a.ops) (taken_of t (log_of life))
    by n t life true e =
        let v = was_on (run_of h n) entry t life e in
        subst (λ (y : Life). EachOf (HasOp (Lives h m entry) n a.ops) (taken_of t (log_of y))) (sym v.is)
        (rw (logs v.before) (each-map (HasOp h n a.ops) (HasOp (Lives h m entry) n a.ops) (taken_of t (log_of v.before)) (λ u i k. moved-has h (Lives h m entry) n a.ops (λ c r. inr r) u k) (a.current n t v.before v.was)))
    by n t life false e = each-map (HasOp h n a.ops) (HasOp (Lives h m entry) n a.ops) (taken_of t (log_of life)) (λ u i k. moved-has h (Lives h m entry) n a.ops (λ c r. inr r) u k) (a.current n t life e)

pub idled-ops : (h : System) (m : Id) (entry : Entry) (logs : (life : Life) → log_of (Lived life entry) ≡ log_of life) (later : (o : Operation) → Came h o → Came (Lives h m entry) o)
    (same_history : history_of (Lives h m entry) ≡ history_of h) (a : Account h) → (idled h m entry logs later same_history a).ops ≡ a.ops
unfolding idled
idled-ops h m entry logs later same_history a = refl

-- ---- an event

module _ (h : System) (n : Id) (e : Event) (items : List Item) (s : Settings) (life : Life) (runs : run_of h n ≡ Runs s life) (a : Account h) where
  -- the run lives on
  pub lives-account : Counts (Lives h n (Did e items)) (history_of (Lives h n (Did e items))) n (taken_of s (log_of (Lived life (Did e items)))) a.ops → Account (Lives h n (Did e items))
  lives-account c = record {
    ops = a.ops ++ c.new;
    each = c.each;
    once = c.once;
    within = each-all (IsWithin (Lives h n (Did e items))) (a.ops ++ c.new) (λ k i r t now q. stays k i r t now (same n k.operation.node) refl q);
    current = λ m t now q. by m t now (same n m) refl q;
    folds = c.folds;
  }
    where
      -- the run that lives on is this one
      here : (m : Id) (t : Settings) (now : Life) → same n m ≡ true → lives_on (run_of h m) (Did e items) ≡ Runs t now → Runs s (Lived life (Did e items)) ≡ Runs t now
      here m t now is q = ap (λ (x : Run). lives_on x (Did e items)) (sym runs ∙ ap (run_of h) (same_is n m is)) ∙ q

      stays : (k : Op) → IsIn (a.ops ++ c.new) k → RunsOn k.operation.came k.operation.node (Lives h n (Did e items)) → (t : Settings) (now : Life) (b : Bool) → same n k.operation.node ≡ b
          → cond b (lives_on (run_of h k.operation.node) (Did e items)) (run_of h k.operation.node) ≡ Runs t now → WithNumber (taken_of t (log_of now)) k.number
      stays k i r t now true is q =
          let one = here k.operation.node t now is q in
          let settings : s ≡ t = cc in
          let lived : Lived life (Did e items) ≡ now = cc in
          subst (λ (x : Life). WithNumber (taken_of t (log_of x)) k.number) lived
          (subst (λ (x : Settings). WithNumber (taken_of x (log_of (Lived life (Did e items)))) k.number) settings
          (c.own k i (sym (same_is n k.operation.node is)) (subst (λ (m : Id). RunsOn k.operation.came m (Lives h n (Did e items))) (sym (same_is n k.operation.node is)) r)))
      stays k i r t now false off q = old (c.others k i off) r
        where
          old : IsIn a.ops k → RunsOn k.operation.came k.operation.node (Lives h n (Did e items)) → WithNumber (taken_of t (log_of now)) k.number
          old j (inl x) = absurd (not-now h (Lives h n (Did e items)) k.operation (each-in (IsOp h (history_of h)) a.ops k a.each j).came refl x)
          old j (inr x) = each-in (IsWithin h) a.ops k a.within j x t now q

      by : (m : Id) (t : Settings) (now : Life) (b : Bool) → same n m ≡ b → cond b (lives_on (run_of h m) (Did e items)) (run_of h m) ≡ Runs t now
          → EachOf (HasOp (Lives h n (Did e items)) m (a.ops ++ c.new)) (taken_of t (log_of now))
      by m t now true is q =
          let one = here m t now is q in
          let settings : s ≡ t = cc in
          let lived : Lived life (Did e items) ≡ now = cc in
          subst (λ (x : Life). EachOf (HasOp (Lives h n (Did e items)) m (a.ops ++ c.new)) (taken_of t (log_of x))) lived
          (subst (λ (x : Settings). EachOf (HasOp (Lives h n (Did e items)) m (a.ops ++ c.new)) (taken_of x (log_of (Lived life (Did e items))))) settings
          (subst (λ (x : Id). EachOf (HasOp (Lives h n (Did e items)) x (a.ops ++ c.new)) (taken_of s (log_of (Lived life (Did e items))))) (same_is n m is) c.has))
      by m t now false off q =
          each-map (HasOp h m a.ops) (HasOp (Lives h n (Did e items)) m (a.ops ++ c.new)) (taken_of t (log_of now))
          (λ u i k. more-has (Lives h n (Did e items)) m a.ops c.new u (moved-has h (Lives h n (Did e items)) m a.ops (λ c r. inr r) u k)) (a.current m t now q)

  pub lives-ops : (c : Counts (Lives h n (Did e items)) (history_of (Lives h n (Did e items))) n (taken_of s (log_of (Lived life (Did e items)))) a.ops) → (lives-account c).ops ≡ a.ops ++ c.new
  unfolding lives-account
  lives-ops c = refl

  -- it is killed
  pub dies-account : Counts (Dies h n e items) (history_of (Dies h n e items)) n (taken_of s (log_of (Lived life (Did e items)))) a.ops → Account (Dies h n e items)
  dies-account c = record {
    ops = a.ops ++ c.new;
    each = c.each;
    once = c.once;
    within = each-all (IsWithin (Dies h n e items)) (a.ops ++ c.new) (λ k i r t now q. stays k i r t now (same n k.operation.node) refl q);
    current = λ m t now q. by m t now (same n m) q;
    folds = c.folds;
  }
    where
      stays : (k : Op) → IsIn (a.ops ++ c.new) k → RunsOn k.operation.came k.operation.node (Dies h n e items) → (t : Settings) (now : Life) (b : Bool) → same n k.operation.node ≡ b
          → cond b Down (run_of h k.operation.node) ≡ Runs t now → WithNumber (taken_of t (log_of now)) k.number
      stays k i r t now true is q = absurd (let none : Down ≡ Runs t now = q in cc)
      stays k i r t now false off q = old (c.others k i off) r
        where
          old : IsIn a.ops k → RunsOn k.operation.came k.operation.node (Dies h n e items) → WithNumber (taken_of t (log_of now)) k.number
          old j (inl x) = absurd (not-now h (Dies h n e items) k.operation (each-in (IsOp h (history_of h)) a.ops k a.each j).came refl x)
          old j (inr x) = each-in (IsWithin h) a.ops k a.within j x t now q

      by : (m : Id) (t : Settings) (now : Life) (b : Bool) → cond b Down (run_of h m) ≡ Runs t now → EachOf (HasOp (Dies h n e items) m (a.ops ++ c.new)) (taken_of t (log_of now))
      by m t now true q = absurd (let none : Down ≡ Runs t now = q in cc)
      by m t now false q =
          each-map (HasOp h m a.ops) (HasOp (Dies h n e items) m (a.ops ++ c.new)) (taken_of t (log_of now))
          (λ u i k. more-has (Dies h n e items) m a.ops c.new u (moved-has h (Dies h n e items) m a.ops (λ c r. inr r) u k)) (a.current m t now q)

  pub dies-ops : (c : Counts (Dies h n e items) (history_of (Dies h n e items)) n (taken_of s (log_of (Lived life (Did e items)))) a.ops) → (dies-account c).ops ≡ a.ops ++ c.new
  unfolding dies-account
  dies-ops c = refl

module _ (root : ClusterState) where
  -- what is so at the end of an event of a run that lives on
  pub counted-lives : (h : System) (n : Id) (e : Event) (items : List Item) (going : AreGoing (Lives h n (Did e items))) → IsGrounded root (history_of (Lives h n (Did e items))) → (a : Account h)
      → Counts (Lives h n (Did e items)) (history_of (Lives h n (Did e items))) n (taken_of going.1.settings (log_of (Lived going.1.life (Did e items)))) a.ops
  counted-lives h n e items going G a =
      counted root h going.0 n going.1.settings going.1.life going.1.runs e items (event-done going.1.settings going.1.life e items going.1.follows.1) going.1.follows.1.up going.1.follows.1.start
      (Lives h n (Did e items)) (upto-prefix h (Lives h n (Did e items)) (inr (upto-self h))) G (λ o l. inl l) (λ o c. inr c) (λ c m r. inr r) (λ c m r. r) a

  -- and of one that is killed within it
  pub counted-dies : (h : System) (n : Id) (e : Event) (items : List Item) (going : AreGoing (Dies h n e items)) → IsGrounded root (history_of (Dies h n e items)) → (a : Account h)
      → Counts (Dies h n e items) (history_of (Dies h n e items)) n (taken_of going.1.settings (log_of (Lived going.1.life (Did e items)))) a.ops
  counted-dies h n e items going G a =
      counted root h going.0 n going.1.settings going.1.life going.1.runs e items going.1.did going.1.up going.1.start
      (Dies h n e items) (upto-prefix h (Dies h n e items) (inr (upto-self h))) G (λ o l. inl l) (λ o c. inr c) (λ c m r. inr r) (λ c m r. r) a
