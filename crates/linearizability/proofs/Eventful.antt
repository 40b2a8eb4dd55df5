-- What an event adds to what a system has taken.
use Rattle.std.proofs.Common.{◌≡◌, ◌≢◌, ◌<◌, ℕ, Bool, true, false, true≢false, Option, List, [], ◌∷◌, ◌++◌, refl, sym, ◌∙◌, ap, subst, arith, ◌⊎◌, inl, inr}
use Rattle.std.specs.List.{Contains}
use Rattle.std.proofs.lemmas.List.{append_assoc, append-nil}
use Rattle.voting_config.specs.Ids.{Id, same}
use Rattle.voting_config.proofs.Sets.{same_is, same_self}
use Rattle.cluster_state.specs.States.{id_of}
use Rattle.cluster_state.specs.declared.state.ClusterState.{ClusterState}
use Rattle.cluster_state.specs.declared.state.ClusterValue.{ClusterValue}
use Rattle.cluster_state.specs.declared.state.StateId.{StateId}
use Rattle.master_tasks.specs.declared.waiting.Waiting.{Waiting}
use Rattle.master_tasks.specs.NextState.{next_value}
use Rattle.world_model.specs.declared.acts.Act.{Act}
use Rattle.world_model.specs.declared.acts.Act.TheVariants.{Value}
use Rattle.world_model.specs.declared.acts.ActReply.TheVariants.{Taken}
use Rattle.world_model.specs.declared.acts.Message.{Message}
use Rattle.world_model.specs.declared.acts.Outcome.{Outcome}
use Rattle.world_model.specs.declared.acts.Outcome.TheVariants.{Answered}
use Rattle.world_model.specs.Acts.{NodeHistory, NoActs, Then}
use Rattle.world_model.specs.NodeState.{NodeState, node_state, term_of, durable_of}
use Rattle.world_model.specs.Histories.{History, node_history, IsPrefix}
use Rattle.world_model.specs.Local.{then_run, OpensWith}
use Rattle.world_model.specs.Safety.{Published, published}
use Rattle.world_model.proofs.Legal.{IsGrounded, deeds_begin, grounded_before, system_of_grounded, prefix_self}
use Rattle.world_model.proofs.Moments.{Begins as IsBeginning, begins_trans}
use Rattle.policy_model.specs.declared.settings.Settings.{Settings}
use Rattle.policy_model.specs.declared.events.Event.{Event}
use Rattle.policy_model.specs.Events.{Item, Begins, Log, And, added, acts_of}
use Rattle.policy_model.specs.Entries.{Life, log_of}
use Rattle.policy_model.specs.Follows.{is_struck, is_start, starts_next, items_of}
use Rattle.policy_model.specs.LookBacks.{node_of, tasks_of, master_of}
use Rattle.client_guarantees.specs.Asked.{setting_under, setting_after, setting_after_all}
use Rattle.client_guarantees.specs.Processed.{CameBy}
use Rattle.client_guarantees.proofs.Backing.{IsPublishedAt, unique, value_published}
use Rattle.client_guarantees.proofs.Folding.{last_setting_stands}
use Rattle.client_guarantees.proofs.Running.{begins-run, begins-within, node-within}
use Rattle.system_laws.specs.Messages.{comes_with}
use Rattle.system_laws.specs.Systems.{System, Runs, run_of, history_of, then_acts, IsDoneOf}
use Rattle.system_laws.proofs.Done.{event-meant, done-own}
use Rattle.system_laws.proofs.RunsKept.{AreGoing, own-acts, opens-added, IsNow, is-now, runs-now}
use Rattle.system_laws.proofs.Stepping.{others-stay}
use Rattle.linearizability.specs.Linearizations.{Operation, IsLineOf, Came, RunsOn}
use Rattle.linearizability.proofs.Numbers.{queued_in, queued_before, Numbered, requests_of, Every, every-map, AreAscending, WasQueuedAs, Tagged, tagged_all, numbered_all, into_next, taken_of, requests-into_next, taken-ascend, older, numbered-append, numbered-tagged, made_of}
use Rattle.linearizability.proofs.Coming.{event-fits, event-queued, came_as, CameAs}
use Rattle.linearizability.proofs.Moments.{size, came-smaller, came-upto, came-node, upto-prefix, runs_on-self, came_at}
use Rattle.linearizability.proofs.Taken.{TookValue, IsUntaken, IsTaken, Takes, Untaken, OneTaken, event-takes}
use Rattle.linearizability.proofs.Accounts.{EachOf, IsIn, each-in, each-map, each-append, in-left, in-right, in-parts, Op, one-number, IsOp, HasOp, WithNumber, IsWithin, AreOnce, once-append, select, select-append, select-none, select-all, after_ops, Folds, Account, Counts, IsPublishedBy, published_as, published_back}

-- an act after some others is one of these, or one of the run
data IsSplit (g before r : NodeHistory) (a : Act) (o : Outcome) : Type 0 where
  Earlier : IsBeginning (Then g a o) before → IsSplit g before r a o
  InRun : (inner : NodeHistory) → g ≡ then_run before inner → IsBeginning (Then inner a o) r → IsSplit g before r a o

split-run : (g before r : NodeHistory) (a : Act) (o : Outcome) → IsBeginning (Then g a o) (then_run before r) → IsSplit g before r a o
split-run g before NoActs a o b = Earlier b
split-run g before (Then r c u) a o (inl e) =
    let acts : g ≡ then_run before r = cc in
    let same : a ≡ c = cc in
    let ends : o ≡ u = cc in
    InRun r acts (inl (λ i. Then r (same i) (ends i)))
split-run g before (Then r c u) a o (inr b) = from (split-run g before r a o b)
  where
    from : IsSplit g before r a o → IsSplit g before (Then r c u) a o
    from (Earlier k) = Earlier k
    from (InRun inner e k) = InRun inner e (inr k)

-- the number of each that was taken before is below those behind
ascending-cross : (ts : List Tagged) (xs : List Numbered) (t : Tagged) → AreAscending (numbered_all ts ++ xs) → IsIn ts t → Every (λ y. t.numbered.number < y.number) xs
ascending-cross [] xs t a i = absurd i
ascending-cross (u ∷ ts) xs t a (inl e) = subst (λ (v : Tagged). Every (λ y. v.numbered.number < y.number) xs) (sym e) (behind (λ y. u.numbered.number < y.number) (numbered_all ts) xs a.0)
  where
    behind : (P : Numbered → Type 0) (ys zs : List Numbered) → Every P (ys ++ zs) → Every P zs
    behind P [] zs e = e
    behind P (y ∷ ys) zs e = behind P ys zs e.1
ascending-cross (u ∷ ts) xs t a (inr i) = ascending-cross ts xs t a.1 i

every-here : (P : Numbered → Type 0) (xs ys : List Numbered) → Every P (xs ++ ys) → Every P xs
every-here P [] ys e = tt
every-here P (x ∷ xs) ys e = (e.0, every-here P xs ys e.1)

every-behind : (P : Numbered → Type 0) (xs ys : List Numbered) → Every P (xs ++ ys) → Every P ys
every-behind P [] ys e = e
every-behind P (x ∷ xs) ys e = every-behind P xs ys e.1

-- An event of a run of the node n, of which so much was done. `after` is all that has happened then.
module _ (root : ClusterState) (h : System) (going : AreGoing h) (n : Id) (s : Settings) (life : Life) (runs : run_of h n ≡ Runs s life)
    (e : Event) (done : List Item) (d : IsDoneOf (items_of s (log_of life) e) done) (up : is_struck life ≡ false) (start : is_start e ≡ starts_next life)
    (after : System) (prefix : IsPrefix (history_of h) (then_acts (history_of h) n done)) (grounded : IsGrounded root (then_acts (history_of h) n done))
    (line : (o : Operation) → IsLineOf h n e o → Came after o) (later : (o : Operation) → Came h o → Came after o)
    (on : (c : System) (m : Id) → RunsOn c m h → RunsOn c m after) (back : (c : System) (m : Id) → RunsOn c m after → (c ≡ after) ⊎ RunsOn c m h) where
  abbrev all : History
  all = then_acts (history_of h) n done

  abbrev begun : Log
  begun = And (log_of life) (Begins e)

  abbrev ended : Log
  ended = added begun done

  now : IsNow (node_history (history_of h) n) n s life
  now = is-now (history_of h) n (run_of h n) s life runs (runs-now [] h going n)

  acts : node_history all n ≡ then_run now.before (acts_of ended)
  acts = own-acts (history_of h) n now.before begun done (done-own s (comes_with e) [] _ _ done (event-meant s life e) d) now.acts

  opens : now.before ≢ NoActs → OpensWith (durable_of now.before) (acts_of ended)
  opens some = opens-added (durable_of now.before) begun done (now.opens some)

  -- ---- what was there before

  same-op : (k : Op) → IsOp h (history_of h) k → IsOp after all k
  same-op k o = record {
    came = later k.operation o.came;
    run = o.run;
    inner = o.inner;
    version = o.version;
    config = o.config;
    value = o.value;
    sends = o.sends;
    wins = o.wins;
    took = begins_trans (Then o.inner (Value o.version o.config o.value) (Answered (Taken o.sends o.wins))) (node_history (history_of h) k.operation.node) (node_history all k.operation.node) o.took (deeds_begin (history_of h) all k.operation.node prefix);
    is_id = o.is_id;
    before = o.before;
  }

  -- a run that goes on at the end had gone on before
  still-on : (k : Op) → Came h k.operation → RunsOn k.operation.came k.operation.node after → RunsOn k.operation.came k.operation.node h
  still-on k came r = from (back k.operation.came k.operation.node r)
    where
      from : (k.operation.came ≡ after) ⊎ RunsOn k.operation.came k.operation.node h → RunsOn k.operation.came k.operation.node h
      from (inr x) = x
      from (inl x) =
          let low = came-smaller after k.operation (later k.operation came) in
          let same_size : size k.operation.came ≡ size after = ap size x in
          absurd (omega (arith, low, same_size))

  -- a state that another node published, or this one before, was published before
  old-state : (p : Published) → Contains (published all) p → (b : IsPublishedBy p (node_history all p.publisher))
      → (same n p.publisher ≡ true → TookValue b.inner b.version b.config p.state.value b.sends b.wins (node_history (history_of h) n)) → Contains (published (history_of h)) p
  old-state p c b own = published_back root (history_of h) all grounded prefix p c b (from (same n p.publisher) refl)
    where
      from : (x : Bool) → same n p.publisher ≡ x → TookValue b.inner b.version b.config p.state.value b.sends b.wins (node_history (history_of h) p.publisher)
      from true is = subst (λ (m : Id). TookValue b.inner b.version b.config p.state.value b.sends b.wins (node_history (history_of h) m)) (same_is n p.publisher is) (own is)
      from false is = subst (TookValue b.inner b.version b.config p.state.value b.sends b.wins) (others-stay (history_of h) n p.publisher done is) b.took

  -- what the run took before the event the history had then
  in-history : (g : NodeHistory) (v : ℕ) (c : List Id) (x : ClusterValue) (m : Option Message) (w : Bool) → TookValue g v c x m w (node_history all n)
      → ((inner : NodeHistory) → g ≡ then_run now.before inner → TookValue inner v c x m w (acts_of ended) → TookValue inner v c x m w (acts_of (log_of life)) ⊎ ⊥) → TookValue g v c x m w (node_history (history_of h) n)
  in-history g v c x m w took none = from (split-run g now.before (acts_of ended) (Value v c x) (Answered (Taken m w)) (subst (TookValue g v c x m w) acts took))
    where
      by : (inner : NodeHistory) → g ≡ then_run now.before inner → TookValue inner v c x m w (acts_of (log_of life)) ⊎ ⊥ → TookValue g v c x m w (node_history (history_of h) n)
      by inner e (inl k) =
          subst (TookValue g v c x m w) (sym now.acts)
          (subst (λ (y : NodeHistory). TookValue y v c x m w (then_run now.before (acts_of (log_of life)))) (sym e) (begins-within now.before (Then inner (Value v c x) (Answered (Taken m w))) (acts_of (log_of life)) k))
      by inner e (inr k) = absurd k

      from : IsSplit g now.before (acts_of ended) (Value v c x) (Answered (Taken m w)) → TookValue g v c x m w (node_history (history_of h) n)
      from (Earlier k) = subst (TookValue g v c x m w) (sym now.acts) (begins_trans (Then g (Value v c x) (Answered (Taken m w))) now.before (then_run now.before (acts_of (log_of life))) k (begins-run now.before (acts_of (log_of life))))
      from (InRun inner e k) = by inner e (none inner e k)

  -- ---- the account at the end of the event

  abbrev Counted : Account h → Type 0
  Counted a = Counts after all n (taken_of s ended) a.ops

  lift-op : (ops new : List Op) (t : Tagged) → HasOp h n ops t → HasOp after n (ops ++ new) t
  lift-op ops new t k = record {
    op = k.op;
    is_in = in-left ops new k.op k.is_in;
    is_id = k.is_id;
    is_number = k.is_number;
    is_node = k.is_node;
    is_conn = k.is_conn;
    is_request = k.is_request;
    on = on k.op.operation.came n k.on;
  }

  more-op : (ops new : List Op) (t : Tagged) → HasOp after n new t → HasOp after n (ops ++ new) t
  more-op ops new t k = record {
    op = k.op;
    is_in = in-right ops new k.op k.is_in;
    is_id = k.is_id;
    is_number = k.is_number;
    is_node = k.is_node;
    is_conn = k.is_conn;
    is_request = k.is_request;
    on = k.on;
  }

  -- the run had a request of this number
  had-number : (a : Account h) (k : Op) → IsIn a.ops k → k.operation.node ≡ n → RunsOn k.operation.came n after → WithNumber (taken_of s (log_of life)) k.number
  had-number a k i node r =
      let o = each-in (IsOp h (history_of h)) a.ops k a.each i in
      let here : RunsOn k.operation.came k.operation.node after = subst (λ (m : Id). RunsOn k.operation.came m after) (sym node) r in
      each-in (IsWithin h) a.ops k a.within i (still-on k o.came here) s life (ap (run_of h) node ∙ runs)

  -- ---- where nothing was taken

  counted-none : (a : Account h) → IsUntaken s begun done → Counted a
  counted-none a u = record {
    new = [];
    each = subst (EachOf (IsOp after all)) (sym (append-nil a.ops)) (each-map (IsOp h (history_of h)) (IsOp after all) a.ops (λ k i o. same-op k o) a.each);
    once = subst AreOnce (sym (append-nil a.ops)) a.once;
    own = λ k i node r.
        let t = had-number a k (subst (λ (ks : List Op). IsIn ks k) (append-nil a.ops) i) node r in
        record { tagged = t.tagged; is_in = subst (λ (ts : List Tagged). IsIn ts t.tagged) (sym u.same) t.is_in; is_number = t.is_number };
    others = λ k i e. subst (λ (ks : List Op). IsIn ks k) (append-nil a.ops) i;
    has = subst (EachOf (HasOp after n (a.ops ++ []))) (sym u.same) (each-map (HasOp h n a.ops) (HasOp after n (a.ops ++ [])) (taken_of s (log_of life)) (λ t i k. lift-op a.ops [] t k) (a.current n s life runs));
    folds = λ p c key.
        subst (λ (ks : List Op). setting_under key p.state.value.settings ≡ after_ops key (setting_under key p.parent.value.settings) (select (id_of p.state) ks)) (sym (append-nil a.ops))
        (a.folds p (old p c (published_as root all grounded p c)) key);
  }
    where
      old : (p : Published) → Contains (published all) p → IsPublishedBy p (node_history all p.publisher) → Contains (published (history_of h)) p
      old p c b =
          old-state p c b (λ is.
          in-history b.inner b.version b.config p.state.value b.sends b.wins
          (subst (λ (m : Id). TookValue b.inner b.version b.config p.state.value b.sends b.wins (node_history all m)) (sym (same_is n p.publisher is)) b.took)
          (λ inner e k. inl (u.none inner b.version b.config p.state.value b.sends b.wins k)))

  -- ---- where a state was published

  -- the line of a request that was queued in the run
  pub record Line (x : Numbered) : Type 0 where
    pub moment : System
    pub came : Came after (record { came = moment; node = n; conn = x.request.conn; request = x.request.request })
    pub on_here : RunsOn moment n after
    pub so_far : Life
    pub runs_there : run_of moment n ≡ Runs s so_far
    pub is_number : queued_in (log_of so_far) ≡ x.number
    pub part : IsPrefix (history_of moment) (history_of h)

  line-of : (x : Numbered) → WasQueuedAs ended x.number x.request.conn x.request.request → Line x
  line-of x w = from (event-queued s life e done (event-fits s life e up start) d x.number x.request.conn x.request.request w)
    where
      before : CameAs life x.number x.request.conn x.request.request → Line x
      before c =
          let at = came_at h n s life runs x.request.conn x.request.request c.so_far c.came in
          record {
            moment = at.moment;
            came = later (record { came = at.moment; node = n; conn = x.request.conn; request = x.request.request }) at.came;
            on_here = on at.moment n at.on;
            so_far = c.so_far;
            runs_there = at.runs;
            is_number = c.number;
            part = upto-prefix at.moment h (came-upto h (record { came = at.moment; node = n; conn = x.request.conn; request = x.request.request }) at.came);
          }

      from : ((x.number ≡ queued_in (log_of life)) × CameBy e x.request.conn x.request.request) ⊎ WasQueuedAs (log_of life) x.number x.request.conn x.request.request → Line x
      from (inl k) = record {
        moment = h;
        came = line (record { came = h; node = n; conn = x.request.conn; request = x.request.request }) (record { came = refl; node = refl; line = k.1 });
        on_here = on h n (runs_on-self h n);
        so_far = life;
        runs_there = runs;
        is_number = sym k.0;
        part = prefix_self (history_of h);
      }
      from (inr q) = before (came_as s life now.follows x.number x.request.conn x.request.request q)

  module _ (a : Account h) (t : IsTaken s begun done) where
    abbrev id : StateId
    id = record { term = (node_of t.moment).term; version = t.version }

    abbrev xs : List Numbered
    xs = into_next s t.moment

    inner-node : node_state (then_run now.before (acts_of t.moment)) ≡ node_of t.moment
    inner-node =
        node-within now.before (acts_of ended) (acts_of t.moment) (Value t.version t.config (next_value (master_of s t.moment) (tasks_of s t.moment))) (Answered (Taken t.sends t.wins)) opens refl t.took

    abbrev g : NodeHistory
    g = then_run now.before (acts_of t.moment)

    took : TookValue g t.version t.config (next_value (master_of s t.moment) (tasks_of s t.moment)) t.sends t.wins (node_history all n)
    took =
        subst (TookValue g t.version t.config (next_value (master_of s t.moment) (tasks_of s t.moment)) t.sends t.wins) (sym acts)
        (begins-within now.before (Then (acts_of t.moment) (Value t.version t.config (next_value (master_of s t.moment) (tasks_of s t.moment))) (Answered (Taken t.sends t.wins))) (acts_of ended) t.took)

    is_id : id ≡ record { term = term_of g; version = t.version }
    is_id = λ i. record { term = sym (ap (λ (q : NodeState). q.term) inner-node) i; version = t.version }

    abbrev op-of : (x : Numbered) → Line x → Op
    op-of x l = record { id = id; number = x.number; operation = record { came = l.moment; node = n; conn = x.request.conn; request = x.request.request } }

    abbrev ops-of : (ys : List Numbered) → Every Line ys → List Op
    ops-of [] ls = []
    ops-of (y ∷ ys) ls = op-of y ls.0 ∷ ops-of ys ls.1

    -- the line came before the state was made
    begins-inner : (m : System) → IsPrefix (history_of m) (history_of h) → IsBeginning (node_history (history_of m) n) g
    begins-inner m i =
        begins_trans (node_history (history_of m) n) (node_history (history_of h) n) g (deeds_begin (history_of m) (history_of h) n i)
        (subst (λ (y : NodeHistory). IsBeginning y g) (sym now.acts) (begins-within now.before (acts_of (log_of life)) (acts_of t.moment) t.since))

    is-op : (x : Numbered) (l : Line x) → IsOp after all (op-of x l)
    is-op x l = record {
      came = l.came;
      run = record { settings = s; so_far = l.so_far; runs = l.runs_there; is_number = l.is_number };
      inner = g;
      version = t.version;
      config = t.config;
      value = next_value (master_of s t.moment) (tasks_of s t.moment);
      sends = t.sends;
      wins = t.wins;
      took = took;
      is_id = is_id;
      before = begins-inner l.moment l.part;
    }

    -- what is so of a new one
    pub record IsNewOp (k : Op) : Type 0 where
      pub is : IsOp after all k
      pub node : k.operation.node ≡ n
      pub on_here : RunsOn k.operation.came n after
      pub of_id : k.id ≡ id
      pub tagged : WithNumber (tagged_all id xs) k.number

    new-ops : (ys : List Numbered) (ls : Every Line ys) → ((y : Numbered) → IsIn ys y → IsIn xs y) → EachOf IsNewOp (ops-of ys ls)
    new-ops [] ls f = tt
    new-ops (y ∷ ys) ls f = (
      record { is = is-op y ls.0; node = refl; on_here = ls.0.on_here; of_id = refl; tagged = record { tagged = record { id = id; numbered = y }; is_in = tag-in xs y (f y (inl refl)); is_number = refl } },
      new-ops ys ls.1 (λ z i. f z (inr i)),
    )
      where
        tag-in : (zs : List Numbered) (z : Numbered) → IsIn zs z → IsIn (tagged_all id zs) (record { id = id; numbered = z })
        tag-in [] z i = absurd i
        tag-in (w ∷ zs) z (inl e) = inl (ap (λ (q : Numbered). record { id = id; numbered = q }) e)
        tag-in (w ∷ zs) z (inr i) = inr (tag-in zs z i)

    above-ops : (b : ℕ) (ys : List Numbered) (ls : Every Line ys) → Every (λ y. b < y.number) ys → EachOf (λ (k : Op). b < k.number) (ops-of ys ls)
    above-ops b [] ls e = tt
    above-ops b (y ∷ ys) ls e = (e.0, above-ops b ys ls.1 e.1)

    once-ops : (ys : List Numbered) (ls : Every Line ys) → EachOf IsNewOp (ops-of ys ls) → AreAscending ys → AreOnce (ops-of ys ls)
    once-ops [] ls f u = tt
    once-ops (y ∷ ys) ls f u = ((λ j i same_came. apart j i same_came), once-ops ys ls.1 f.1 u.1)
      where
        apart : (j : Op) → IsIn (ops-of ys ls.1) j → j.operation.came ≢ ls.0.moment
        apart j i same_came =
            let k = each-in IsNewOp (ops-of ys ls.1) j f.1 i in
            let above = each-in (λ (q : Op). y.number < q.number) (ops-of ys ls.1) j (above-ops y.number ys ls.1 u.0) i in
            let one : j.number ≡ y.number = one-number j (op-of y ls.0) k.is.run f.0.is.run same_came k.node in
            absurd (omega (arith, above, one))

    lines : (ys : List Numbered) → Every (λ y. WasQueuedAs ended y.number y.request.conn y.request.request) ys → Every Line ys
    lines [] w = tt
    lines (y ∷ ys) w = (line-of y w.0, lines ys w.1)

    -- the numbers of the run
    taken-all : numbered_all (taken_of s ended) ++ made_of s ended ≡ numbered_all (taken_of s begun) ++ (xs ++ made_of s ended)
    taken-all =
        ap (λ (ts : List Tagged). numbered_all ts ++ made_of s ended) t.more
        ∙ ap (λ (zs : List Numbered). zs ++ made_of s ended) (numbered-append (taken_of s begun) (tagged_all id xs) ∙ ap (λ (zs : List Numbered). numbered_all (taken_of s begun) ++ zs) (numbered-tagged id xs))
        ∙ append_assoc (numbered_all (taken_of s begun)) xs (made_of s ended)

    abbrev IsOlderHere : Numbered → Type 0
    IsOlderHere y = (y.number < queued_before ended) × WasQueuedAs ended y.number y.request.conn y.request.request

    abbrev IsQueuedHere : Numbered → Type 0
    IsQueuedHere y = WasQueuedAs ended y.number y.request.conn y.request.request

    queued-all : Every IsQueuedHere xs
    queued-all =
        every-map IsOlderHere IsQueuedHere (λ y k. k.1) xs
        (every-here IsOlderHere xs (made_of s ended) (every-behind IsOlderHere (numbered_all (taken_of s begun)) (xs ++ made_of s ended) (subst (Every IsOlderHere) taken-all (older s ended).0)))

    abbrev new : List Op
    new = ops-of xs (lines xs queued-all)

    are-new : EachOf IsNewOp new
    are-new = new-ops xs (lines xs queued-all) (λ y i. i)

    -- each new number is above those that were taken before
    new-above : (u : Tagged) → IsIn (taken_of s begun) u → (k : Op) → IsIn new k → u.numbered.number < k.number
    new-above u i k j =
        each-in (λ (q : Op). u.numbered.number < q.number) new k
        (above-ops u.numbered.number xs (lines xs queued-all)
        (every-here (λ y. u.numbered.number < y.number) xs (made_of s ended) (ascending-cross (taken_of s begun) (xs ++ made_of s ended) u (subst AreAscending taken-all (older s ended).1) i)))
        j

    -- a request of before and a new one are two
    crossed : (k j : Op) → IsIn a.ops k → IsIn new j → j.operation.came ≢ k.operation.came
    crossed k j i l same_came =
        let o = each-in (IsOp h (history_of h)) a.ops k a.each i in
        let w = each-in IsNewOp new j are-new l in
        let node : k.operation.node ≡ n = sym (came-node after j.operation k.operation w.is.came (later k.operation o.came) same_came) ∙ w.node in
        let r : RunsOn k.operation.came n after = subst (λ (c : System). RunsOn c n after) same_came w.on_here in
        let was = had-number a k i node r in
        let above = new-above was.tagged was.is_in j l in
        let one : j.number ≡ k.number = one-number j k w.is.run o.run same_came (w.node ∙ sym node) in
        let same_number = was.is_number in
        absurd (omega (arith, above, one, same_number))

    has-new : (ys : List Numbered) (ls : Every Line ys) → EachOf (HasOp after n (ops-of ys ls)) (tagged_all id ys)
    has-new [] ls = tt
    has-new (y ∷ ys) ls = (
      record { op = op-of y ls.0; is_in = inl refl; is_id = refl; is_number = refl; is_node = refl; is_conn = refl; is_request = refl; on = ls.0.on_here },
      each-map (HasOp after n (ops-of ys ls.1)) (HasOp after n (op-of y ls.0 ∷ ops-of ys ls.1)) (tagged_all id ys) (λ u i k. more-op (op-of y ls.0 ∷ []) (ops-of ys ls.1) u k) (has-new ys ls.1),
    )

    asks-new : (key : List ℕ) (o : Option (List ℕ)) (ys : List Numbered) (ls : Every Line ys) → after_ops key o (ops-of ys ls) ≡ setting_after_all key o (requests_of ys)
    asks-new key o [] ls = refl
    asks-new key o (y ∷ ys) ls = asks-new key (setting_after key o y.request.request.ask) ys ls.1

    -- the state that was published
    at : IsPublishedAt all n g t.version t.config (next_value (master_of s t.moment) (tasks_of s t.moment))
    at = value_published all root (system_of_grounded root all grounded) n g t.version t.config (next_value (master_of s t.moment) (tasks_of s t.moment)) t.sends t.wins took

    at-id : id_of at.as_published.state ≡ id
    at-id = ap id_of at.is_state ∙ sym is_id

    not-before : (p : Published) → Contains (published (history_of h)) p → id_of p.state ≢ id
    not-before p c same_id_ =
        at.not_yet (history_of h) prefix
        (subst (λ (y : NodeHistory). IsBeginning y g) (sym now.acts) (begins-within now.before (acts_of (log_of life)) (acts_of t.moment) t.since))
        p c (same_id_ ∙ is_id)

    -- ids of before are others
    old-ids : (k : Op) → IsIn a.ops k → k.id ≢ id
    old-ids k i e' =
        let o = each-in (IsOp h (history_of h)) a.ops k a.each i in
        let was = value_published (history_of h) root (system_of_grounded root (history_of h) (grounded_before root (history_of h) all grounded prefix)) k.operation.node o.inner o.version o.config o.value o.sends o.wins o.took in
        not-before was.as_published was.is_in (ap id_of was.is_state ∙ sym o.is_id ∙ e')

    fold-new : (p : Published) → Contains (published all) p → id_of p.state ≡ id → (key : List ℕ)
        → setting_under key p.state.value.settings ≡ after_ops key (setting_under key p.parent.value.settings) (select (id_of p.state) (a.ops ++ new))
    fold-new p c same_state key =
        let one = (unique all root (system_of_grounded root all grounded)).same p at.as_published c at.is_in (same_state ∙ sym at-id) in
        let chosen : select (id_of p.state) (a.ops ++ new) ≡ new =
        ap (λ (x : StateId). select x (a.ops ++ new)) same_state
        ∙ select-append id a.ops new
        ∙ ap (λ (ks : List Op). ks ++ select id new) (select-none id a.ops old-ids)
        ∙ select-all id new (λ k i. (each-in IsNewOp new k are-new i).of_id)
        in
        let value : p.state.value ≡ next_value (master_of s t.moment) (tasks_of s t.moment) = ap (λ (q : Published). q.state.value) one ∙ ap (λ (q : ClusterState). q.value) at.is_state in
        let parent : p.parent ≡ (node_of t.moment).accepted = ap (λ (q : Published). q.parent) one ∙ at.parent ∙ ap (λ (q : NodeState). q.accepted) inner-node in
        ap (λ (v : ClusterValue). setting_under key v.settings) value
        ∙ last_setting_stands (master_of s t.moment) (tasks_of s t.moment) key
        ∙ ap (λ (ws : List Waiting). setting_after_all key (setting_under key (node_of t.moment).accepted.value.settings) ws) (sym (requests-into_next s t.moment))
        ∙ sym (asks-new key (setting_under key (node_of t.moment).accepted.value.settings) xs (lines xs queued-all))
        ∙ ap (λ (q : ClusterState). after_ops key (setting_under key q.value.settings) new) (sym parent)
        ∙ ap (after_ops key (setting_under key p.parent.value.settings)) (sym chosen)

    fold-old : (p : Published) → Contains (published (history_of h)) p → (key : List ℕ)
        → setting_under key p.state.value.settings ≡ after_ops key (setting_under key p.parent.value.settings) (select (id_of p.state) (a.ops ++ new))
    fold-old p c key =
        let chosen : select (id_of p.state) (a.ops ++ new) ≡ select (id_of p.state) a.ops =
        select-append (id_of p.state) a.ops new
        ∙ ap (λ (ks : List Op). select (id_of p.state) a.ops ++ ks) (select-none (id_of p.state) new (λ k i e'. not-before p c (sym e' ∙ (each-in IsNewOp new k are-new i).of_id)))
        ∙ append-nil (select (id_of p.state) a.ops)
        in
        a.folds p c key ∙ ap (after_ops key (setting_under key p.parent.value.settings)) (sym chosen)

    folds-all : Folds all (a.ops ++ new)
    folds-all p c = from (published_as root all grounded p c)
      where
        -- an act of this event is the one
        own-act : (b : IsPublishedBy p (node_history all p.publisher)) → (id_of p.state ≡ id) ⊎ Contains (published (history_of h)) p
        own-act b = by (same n p.publisher) refl
          where
            here : same n p.publisher ≡ true → IsSplit b.inner now.before (acts_of ended) (Value b.version b.config p.state.value) (Answered (Taken b.sends b.wins))
            here is =
                split-run b.inner now.before (acts_of ended) (Value b.version b.config p.state.value) (Answered (Taken b.sends b.wins))
                (subst (TookValue b.inner b.version b.config p.state.value b.sends b.wins) acts
                (subst (λ (m : Id). TookValue b.inner b.version b.config p.state.value b.sends b.wins (node_history all m)) (sym (same_is n p.publisher is)) b.took))

            earlier : same n p.publisher ≡ true → TookValue b.inner b.version b.config p.state.value b.sends b.wins (node_history (history_of h) n) → Contains (published (history_of h)) p
            earlier is k = old-state p c b (λ same'. k)

            inside : same n p.publisher ≡ true → (inner : NodeHistory) → b.inner ≡ then_run now.before inner
                → TookValue inner b.version b.config p.state.value b.sends b.wins (acts_of begun) ⊎ (Then inner (Value b.version b.config p.state.value) (Answered (Taken b.sends b.wins)) ≡ Then (acts_of t.moment) (Value t.version t.config (next_value (master_of s t.moment) (tasks_of s t.moment))) (Answered (Taken t.sends t.wins)))
                → (id_of p.state ≡ id) ⊎ Contains (published (history_of h)) p
            inside is inner e' (inl k) =
                inr (earlier is (subst (TookValue b.inner b.version b.config p.state.value b.sends b.wins) (sym now.acts)
                (subst (λ (y : NodeHistory). TookValue y b.version b.config p.state.value b.sends b.wins (then_run now.before (acts_of (log_of life)))) (sym e')
                (begins-within now.before (Then inner (Value b.version b.config p.state.value) (Answered (Taken b.sends b.wins))) (acts_of (log_of life)) k))))
            inside is inner e' (inr k) =
                let same_inner : inner ≡ acts_of t.moment = cc in
                let same_version : b.version ≡ t.version = cc in
                inl (b.is_id ∙ (λ i. record { term = term_of ((e' ∙ ap (then_run now.before) same_inner) i); version = same_version i }) ∙ sym is_id)

            split : same n p.publisher ≡ true → IsSplit b.inner now.before (acts_of ended) (Value b.version b.config p.state.value) (Answered (Taken b.sends b.wins)) → (id_of p.state ≡ id) ⊎ Contains (published (history_of h)) p
            split is (Earlier k) =
                inr (earlier is (subst (TookValue b.inner b.version b.config p.state.value b.sends b.wins) (sym now.acts)
                (begins_trans (Then b.inner (Value b.version b.config p.state.value) (Answered (Taken b.sends b.wins))) now.before (then_run now.before (acts_of (log_of life))) k (begins-run now.before (acts_of (log_of life))))))
            split is (InRun inner e' k) = inside is inner e' (t.one inner b.version b.config p.state.value b.sends b.wins k)

            by : (x : Bool) → same n p.publisher ≡ x → (id_of p.state ≡ id) ⊎ Contains (published (history_of h)) p
            by true is = split is (here is)
            by false is = inr (old-state p c b (λ same'. absurd (true≢false (sym same' ∙ is))))

        which : (id_of p.state ≡ id) ⊎ Contains (published (history_of h)) p → (key : List ℕ)
            → setting_under key p.state.value.settings ≡ after_ops key (setting_under key p.parent.value.settings) (select (id_of p.state) (a.ops ++ new))
        which (inl same_state) key = fold-new p c same_state key
        which (inr old) key = fold-old p old key

        from : IsPublishedBy p (node_history all p.publisher) → (key : List ℕ)
            → setting_under key p.state.value.settings ≡ after_ops key (setting_under key p.parent.value.settings) (select (id_of p.state) (a.ops ++ new))
        from b = which (own-act b)

    counted-taken : Counted a
    counted-taken = record {
      new = new;
      each = each-append (IsOp after all) a.ops new (each-map (IsOp h (history_of h)) (IsOp after all) a.ops (λ k i o. same-op k o) a.each) (each-map IsNewOp (IsOp after all) new (λ k i w. w.is) are-new);
      once = once-append a.ops new a.once (once-ops xs (lines xs queued-all) are-new (taken-ascend s t.moment)) crossed;
      own = λ k i node r. own-number k (in-parts a.ops new k i) node r;
      others = λ k i off. other k (in-parts a.ops new k i) off;
      has = subst (EachOf (HasOp after n (a.ops ++ new))) (sym t.more) (each-append (HasOp after n (a.ops ++ new)) (taken_of s begun) (tagged_all id xs)
          (each-map (HasOp h n a.ops) (HasOp after n (a.ops ++ new)) (taken_of s begun) (λ u i k. lift-op a.ops new u k) (a.current n s life runs))
          (each-map (HasOp after n new) (HasOp after n (a.ops ++ new)) (tagged_all id xs) (λ u i k. more-op a.ops new u k) (has-new xs (lines xs queued-all))));
      folds = folds-all;
    }
      where
        own-number : (k : Op) → IsIn a.ops k ⊎ IsIn new k → k.operation.node ≡ n → RunsOn k.operation.came n after → WithNumber (taken_of s ended) k.number
        own-number k (inl i) node r =
            let was = had-number a k i node r in
            record { tagged = was.tagged; is_in = subst (λ (ts : List Tagged). IsIn ts was.tagged) (sym t.more) (in-left (taken_of s begun) (tagged_all id xs) was.tagged was.is_in); is_number = was.is_number }
        own-number k (inr i) node r =
            let was = (each-in IsNewOp new k are-new i).tagged in
            record { tagged = was.tagged; is_in = subst (λ (ts : List Tagged). IsIn ts was.tagged) (sym t.more) (in-right (taken_of s begun) (tagged_all id xs) was.tagged was.is_in); is_number = was.is_number }

        other : (k : Op) → IsIn a.ops k ⊎ IsIn new k → same n k.operation.node ≡ false → IsIn a.ops k
        other k (inl i) off = i
        other k (inr i) off =
            let node = (each-in IsNewOp new k are-new i).node in
            absurd (true≢false (sym (subst (λ (m : Id). same n m ≡ true) (sym node) (same_self n)) ∙ off))

  pub counted : (a : Account h) → Counted a
  counted a = from (event-takes s life e done d)
    where
      from : Takes s begun done → Counted a
      from (Untaken u) = counted-none a u
      from (OneTaken t) = counted-taken a t
