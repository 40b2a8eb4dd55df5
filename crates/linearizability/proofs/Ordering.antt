-- The order of all requests that were processed into a state and into those of which it was made.
use Rattle.std.proofs.Common.{◌≡◌, ◌≢◌, ℕ, Bool, true, false, Option, List, [], ◌∷◌, ◌++◌, refl, sym, ◌∙◌, ap, subst, arith, ◌⊎◌, inl, inr}
use Rattle.std.specs.Prelude.{if◌then◌else◌}
use Rattle.std.specs.List.{Contains}
use Rattle.std.proofs.lemmas.Bool.{both_ways}
use Rattle.std.proofs.lemmas.List.{append_assoc}
use Rattle.cluster_state.specs.States.{id_of}
use Rattle.cluster_state.specs.declared.request.Ask.{Ask}
use Rattle.cluster_state.specs.declared.request.Ask.TheVariants as ask
use Rattle.cluster_state.specs.declared.state.ClusterState.{ClusterState}
use Rattle.cluster_state.specs.declared.state.StateId.{StateId}
use Rattle.world_model.specs.Histories.{History}
use Rattle.world_model.specs.Safety.{Published, published, Descends, Itself, Child, IsAtMost}
use Rattle.world_model.proofs.Facts.{Facts}
use Rattle.world_model.proofs.StateIds.{IsBelow}
use Rattle.agreement.proofs.Elections.{descends_parent}
use Rattle.agreement.proofs.Lineage.{descends_id, parent_below, root_lowest}
use Rattle.agreement.proofs.Terms.{agree_terms}
use Rattle.client_guarantees.specs.Asked.{setting_under, setting_after}
use Rattle.client_guarantees.proofs.Backing.{IsUnique}
use Rattle.linearizability.proofs.Accounts.{IsIn, in-parts, same_id, same_id-is, same_id-self, Op, AreOnce, once-append, select, after_ops, Folds}

-- ---- some of the requests

abbrev pub kept : (Op → Bool) → List Op → List Op
kept f [] = []
kept f (k ∷ ks) = if f k then k ∷ kept f ks else kept f ks

in-kept : (f : Op → Bool) (ks : List Op) (k : Op) → IsIn ks k → f k ≡ true → IsIn (kept f ks) k
in-kept f [] k i e = absurd i
in-kept f (j ∷ ks) k i e = from (f j) refl i (λ x. in-kept f ks k x e)
  where
    from : (b : Bool) → f j ≡ b → (k ≡ j) ⊎ IsIn ks k → (IsIn ks k → IsIn (kept f ks) k) → IsIn (if b then j ∷ kept f ks else kept f ks) k
    from true t (inl same) rest = inl same
    from true t (inr x) rest = inr (rest x)
    from false t (inl same) rest = absurd (both_ways (f j) t (ap f (sym same) ∙ e))
    from false t (inr x) rest = rest x

kept-in : (f : Op → Bool) (ks : List Op) (k : Op) → IsIn (kept f ks) k → IsIn ks k × (f k ≡ true)
kept-in f [] k i = absurd i
kept-in f (j ∷ ks) k i = from (f j) refl i (λ x. kept-in f ks k x)
  where
    from : (b : Bool) → f j ≡ b → IsIn (if b then j ∷ kept f ks else kept f ks) k → (IsIn (kept f ks) k → IsIn ks k × (f k ≡ true)) → IsIn (j ∷ ks) k × (f k ≡ true)
    from true t (inl same) rest = (inl same, ap f same ∙ t)
    from true t (inr x) rest = let r = rest x in (inr r.0, r.1)
    from false t x rest = let r = rest x in (inr r.0, r.1)

once-kept : (f : Op → Bool) (ks : List Op) → AreOnce ks → AreOnce (kept f ks)
once-kept f [] o = tt
once-kept f (k ∷ ks) o = from (f k) (once-kept f ks o.1)
  where
    from : (b : Bool) → AreOnce (kept f ks) → AreOnce (if b then k ∷ kept f ks else kept f ks)
    from true r = ((λ j i. o.0 j (kept-in f ks j i).0), r)
    from false r = r

-- of requests that came at one moment there is one
once-apart : (ks : List Op) → AreOnce ks → (k j : Op) → IsIn ks k → IsIn ks j → j.operation.came ≡ k.operation.came → j ≡ k
once-apart [] o k j i l e = absurd i
once-apart (x ∷ ks) o k j (inl a) (inl b) e = b ∙ sym a
once-apart (x ∷ ks) o k j (inl a) (inr b) e = absurd (o.0 j b (e ∙ ap (λ (y : Op). y.operation.came) a))
once-apart (x ∷ ks) o k j (inr a) (inl b) e = absurd (o.0 k a (sym e ∙ ap (λ (y : Op). y.operation.came) b))
once-apart (x ∷ ks) o k j (inr a) (inr b) e = once-apart ks o.1 k j a b e

-- those of one id
abbrev has_id : StateId → Op → Bool
has_id id k = same_id k.id id

select-kept : (id : StateId) (ks : List Op) → select id ks ≡ kept (has_id id) ks
select-kept id [] = refl
select-kept id (k ∷ ks) = from (same_id k.id id) (select-kept id ks)
  where
    from : (b : Bool) → select id ks ≡ kept (has_id id) ks → (if b then k ∷ select id ks else select id ks) ≡ (if b then k ∷ kept (has_id id) ks else kept (has_id id) ks)
    from true e = ap (λ (zs : List Op). k ∷ zs) e
    from false e = e

in-select : (id : StateId) (ks : List Op) (k : Op) → IsIn ks k → k.id ≡ id → IsIn (select id ks) k
in-select id ks k i e =
    subst (λ (zs : List Op). IsIn zs k) (sym (select-kept id ks)) (in-kept (has_id id) ks k i (ap (λ (x : StateId). same_id x id) e ∙ same_id-self id))

select-in : (id : StateId) (ks : List Op) (k : Op) → IsIn (select id ks) k → IsIn ks k × (k.id ≡ id)
select-in id ks k i =
    let r = kept-in (has_id id) ks k (subst (λ (zs : List Op). IsIn zs k) (select-kept id ks) i) in
    (r.0, same_id-is k.id id r.1)

once-select : (id : StateId) (ks : List Op) → AreOnce ks → AreOnce (select id ks)
once-select id ks o = subst AreOnce (sym (select-kept id ks)) (once-kept (has_id id) ks o)

-- ---- reads

abbrev asks_read : Ask → Bool
asks_read (ask.Put key text) = false
asks_read (ask.Remove key) = false
asks_read (ask.Exclude ids) = false
asks_read (ask.Clear wait) = false
asks_read ask.State = true

abbrev asks_other : Ask → Bool
asks_other (ask.Put key text) = true
asks_other (ask.Remove key) = true
asks_other (ask.Exclude ids) = true
asks_other (ask.Clear wait) = true
asks_other ask.State = false

abbrev pub is_read : Op → Bool
is_read k = asks_read k.operation.request.ask

abbrev pub is_other : Op → Bool
is_other k = asks_other k.operation.request.ask

one_of_both : (a : Ask) → (asks_read a ≡ true) ⊎ (asks_other a ≡ true)
one_of_both (ask.Put key text) = inr refl
one_of_both (ask.Remove key) = inr refl
one_of_both (ask.Exclude ids) = inr refl
one_of_both (ask.Clear wait) = inr refl
one_of_both ask.State = inl refl

not_both : (a : Ask) → asks_read a ≡ true → asks_other a ≡ true → ⊥
not_both (ask.Put key text) e f = both_ways _ refl e
not_both (ask.Remove key) e f = both_ways _ refl e
not_both (ask.Exclude ids) e f = both_ways _ refl e
not_both (ask.Clear wait) e f = both_ways _ refl e
not_both ask.State e f = both_ways _ refl f

-- a read leaves a setting
read-keeps : (key : List ℕ) (o : Option (List ℕ)) (a : Ask) → asks_read a ≡ true → setting_after key o a ≡ o
read-keeps key o (ask.Put k text) e = absurd (both_ways _ refl e)
read-keeps key o (ask.Remove k) e = absurd (both_ways _ refl e)
read-keeps key o (ask.Exclude ids) e = refl
read-keeps key o (ask.Clear wait) e = refl
read-keeps key o ask.State e = refl

not_other : (a : Ask) → asks_other a ≡ false → asks_read a ≡ true
not_other (ask.Put key text) e = absurd (both_ways _ e refl)
not_other (ask.Remove key) e = absurd (both_ways _ e refl)
not_other (ask.Exclude ids) e = absurd (both_ways _ e refl)
not_other (ask.Clear wait) e = absurd (both_ways _ e refl)
not_other ask.State e = refl

pub after-append : (key : List ℕ) (o : Option (List ℕ)) (xs ys : List Op) → after_ops key o (xs ++ ys) ≡ after_ops key (after_ops key o xs) ys
after-append key o [] ys = refl
after-append key o (x ∷ xs) ys = after-append key (setting_after key o x.operation.request.ask) xs ys

-- so do some
after-reads : (key : List ℕ) (o : Option (List ℕ)) (ks : List Op) → ((k : Op) → IsIn ks k → is_read k ≡ true) → after_ops key o ks ≡ o
after-reads key o [] f = refl
after-reads key o (k ∷ ks) f =
    after-reads key (setting_after key o k.operation.request.ask) ks (λ j i. f j (inr i)) ∙ read-keeps key o k.operation.request.ask (f k (inl refl))

after-others : (key : List ℕ) (o : Option (List ℕ)) (ks : List Op) → after_ops key o (kept is_other ks) ≡ after_ops key o ks
after-others key o [] = refl
after-others key o (k ∷ ks) = from (is_other k) refl (λ x. after-others key x ks)
  where
    from : (b : Bool) → is_other k ≡ b → ((x : Option (List ℕ)) → after_ops key x (kept is_other ks) ≡ after_ops key x ks)
        → after_ops key o (if b then k ∷ kept is_other ks else kept is_other ks) ≡ after_ops key (setting_after key o k.operation.request.ask) ks
    from true e rest = rest (setting_after key o k.operation.request.ask)
    from false e rest = rest o ∙ ap (λ (x : Option (List ℕ)). after_ops key x ks) (sym (read-keeps key o k.operation.request.ask (not_other k.operation.request.ask e)))

-- ---- those of one state: what sets, then the reads

abbrev pub into : List Op → Published → List Op
into ops p = kept is_other (select (id_of p.state) ops) ++ kept is_read (select (id_of p.state) ops)

into-in : (ops : List Op) (p : Published) (k : Op) → IsIn (into ops p) k → IsIn ops k × (k.id ≡ id_of p.state)
into-in ops p k i = from (in-parts (kept is_other (select (id_of p.state) ops)) (kept is_read (select (id_of p.state) ops)) k i)
  where
    from : IsIn (kept is_other (select (id_of p.state) ops)) k ⊎ IsIn (kept is_read (select (id_of p.state) ops)) k → IsIn ops k × (k.id ≡ id_of p.state)
    from (inl x) = select-in (id_of p.state) ops k (kept-in is_other (select (id_of p.state) ops) k x).0
    from (inr x) = select-in (id_of p.state) ops k (kept-in is_read (select (id_of p.state) ops) k x).0

once-into : (ops : List Op) (p : Published) → AreOnce ops → AreOnce (into ops p)
once-into ops p o =
    let all = once-select (id_of p.state) ops o in
    once-append (kept is_other (select (id_of p.state) ops)) (kept is_read (select (id_of p.state) ops))
    (once-kept is_other (select (id_of p.state) ops) all) (once-kept is_read (select (id_of p.state) ops) all) (λ k j i l e.
    let a = kept-in is_other (select (id_of p.state) ops) k i in
    let b = kept-in is_read (select (id_of p.state) ops) j l in
    let same : j ≡ k = once-apart (select (id_of p.state) ops) all k j a.0 b.0 e in
    not_both k.operation.request.ask (ap is_read (sym same) ∙ b.1) a.1)

after-into : (key : List ℕ) (o : Option (List ℕ)) (ops : List Op) (p : Published) → after_ops key o (into ops p) ≡ after_ops key o (select (id_of p.state) ops)
after-into key o ops p =
    after-append key o (kept is_other (select (id_of p.state) ops)) (kept is_read (select (id_of p.state) ops))
    ∙ after-reads key (after_ops key o (kept is_other (select (id_of p.state) ops))) (kept is_read (select (id_of p.state) ops)) (λ k i. (kept-in is_read (select (id_of p.state) ops) k i).1)
    ∙ after-others key o (select (id_of p.state) ops)

-- ---- a state and those of which it was made, down to the first one

abbrev pub IsChain : History → ClusterState → ClusterState → List Published → Type 0
IsChain h base state [] = state ≡ base
IsChain h base state (p ∷ ps) = (state ≡ p.state) × (Contains (published h) p × IsChain h base p.parent ps)

pub record Chain (h : History) (base state : ClusterState) : Type 0 where
  pub states : List Published
  pub is : IsChain h base state states

pub chain_of : (h : History) (base state : ClusterState) → Descends h base state → Chain h base state
chain_of h base state Itself = record { states = []; is = refl }
chain_of h base state (Child p is_in d) = let rest = chain_of h base p.parent d in record { states = p ∷ rest.states; is = (refl, (is_in, rest.is)) }

chain-in : (h : History) (base state : ClusterState) (ps : List Published) → IsChain h base state ps → (q : Published) → IsIn ps q → Contains (published h) q × Descends h q.state state
chain-in h base state [] c q i = absurd i
chain-in h base state (p ∷ ps) c q (inl e) =
    (subst (Contains (published h)) (sym e) c.1.0, subst (Descends h q.state) (sym c.0) (subst (λ (y : Published). Descends h y.state p.state) (sym e) Itself))
chain-in h base state (p ∷ ps) c q (inr i) =
    let rest = chain-in h base p.parent ps c.1.1 q i in
    (rest.0, subst (Descends h q.state) (sym c.0) (Child p c.1.0 rest.1))

-- all that were processed into them, in the order in which they were made
abbrev pub order_of : List Op → List Published → List Op
order_of ops [] = []
order_of ops (p ∷ ps) = order_of ops ps ++ into ops p

-- a request of the order was processed into one of them
pub record IsOrdered (ops : List Op) (ps : List Published) (k : Op) : Type 0 where
  pub state : Published
  pub is_state : IsIn ps state
  pub is_in : IsIn ops k
  pub is_id : k.id ≡ id_of state.state

pub ordered : (ops : List Op) (ps : List Published) (k : Op) → IsIn (order_of ops ps) k → IsOrdered ops ps k
ordered ops [] k i = absurd i
ordered ops (p ∷ ps) k i = from (in-parts (order_of ops ps) (into ops p) k i) (λ x. ordered ops ps k x)
  where
    from : IsIn (order_of ops ps) k ⊎ IsIn (into ops p) k → (IsIn (order_of ops ps) k → IsOrdered ops ps k) → IsOrdered ops (p ∷ ps) k
    from (inl x) rest = let r = rest x in record { state = r.state; is_state = inr r.is_state; is_in = r.is_in; is_id = r.is_id }
    from (inr x) rest = let r = into-in ops p k x in record { state = p; is_state = inl refl; is_in = r.0; is_id = r.1 }

-- ---- a place in a list

record Split (ks : List Op) (k : Op) : Type 0 where
  earlier : List Op
  later : List Op
  is : ks ≡ earlier ++ k ∷ later

split : (ks : List Op) (k : Op) → IsIn ks k → Split ks k
split [] k i = absurd i
split (x ∷ ks) k (inl e) = record { earlier = []; later = ks; is = ap (λ (y : Op). y ∷ ks) (sym e) }
split (x ∷ ks) k (inr i) = let r = split ks k i in record { earlier = x ∷ r.earlier; later = r.later; is = ap (λ (zs : List Op). x ∷ zs) r.is }

before-in : (xs ys : List Op) (k : Op) → IsIn xs k → IsIn (xs ++ ys) k
before-in [] ys k i = absurd i
before-in (x ∷ xs) ys k (inl e) = inl e
before-in (x ∷ xs) ys k (inr i) = inr (before-in xs ys k i)

-- ---- where a request stands in the order

-- a request that was processed into this state or one of which it was made
pub record IsOlder (h : History) (ops : List Op) (p : Published) (j : Op) : Type 0 where
  pub state : Published
  pub is_published : Contains (published h) state
  pub is_in : IsIn ops j
  pub is_id : j.id ≡ id_of state.state
  pub descends : Descends h state.state p.state

-- so were those that stand before it; and where it is a read, these leave what the state has
pub record Stands (h : History) (root : ClusterState) (ops : List Op) (ps : List Published) (p : Published) (k : Op) : Type 0 where
  pub earlier : List Op
  pub later : List Op
  pub is_there : order_of ops ps ≡ earlier ++ k ∷ later
  pub before : (j : Op) → IsIn earlier j → IsOlder h ops p j
  pub shown : is_read k ≡ true → (key : List ℕ) → after_ops key (setting_under key root.value.settings) earlier ≡ setting_under key p.state.value.settings

-- ---- the order

module _ (h : History) (root : ClusterState) (facts : Facts h root) (one : IsUnique h) where
  -- what the state was made of is among them
  pub chain-has : (state : ClusterState) (ps : List Published) → IsChain h root state ps → (q : Published) → Contains (published h) q → Descends h q.state state → IsIn ps q
  chain-has state [] c q i d = absurd (lower (descends_id facts (subst (Descends h q.state) c d)))
    where
      lower : IsAtMost q.state root → ⊥
      lower (inl l) = let above = root_lowest facts q i in absurd (omega (arith, l, above))
      lower (inr l) = let above = root_lowest facts q i in let same = l.0 in absurd (omega (arith, same, above))
  chain-has state (p ∷ ps) c q i d = from (same_id (id_of q.state) (id_of p.state)) refl (λ e. chain-has p.parent ps c.1.1 q i e)
    where
      from : (b : Bool) → same_id (id_of q.state) (id_of p.state) ≡ b → (Descends h q.state p.parent → IsIn ps q) → IsIn (p ∷ ps) q
      from true e rest = inl (one.same q p i c.1.0 (same_id-is (id_of q.state) (id_of p.state) e))
      from false e rest =
          inr (rest (descends_parent facts p c.1.0 (agree_terms facts p.state.term).one_state q.state (subst (Descends h q.state) c.0 d)
          (λ same. both_ways (same_id (id_of q.state) (id_of p.state)) e (ap (λ (x : ClusterState). same_id (id_of x) (id_of p.state)) (sym same) ∙ same_id-self (id_of p.state)))))

  -- a state is not what its parent was made of
  not-older : (p q : Published) → Contains (published h) p → Descends h q.state p.parent → id_of q.state ≢ id_of p.state
  not-older p q i d same = no (descends_id facts d) (parent_below facts p i)
    where
      term : q.state.term ≡ p.state.term
      term = ap (λ (x : StateId). x.term) same

      version : q.state.version ≡ p.state.version
      version = ap (λ (x : StateId). x.version) same

      no : IsAtMost q.state p.parent → IsBelow p.parent p.state → ⊥
      no (inl a) (inl b) = absurd (omega (arith, a, b, term))
      no (inl a) (inr b) = let k = b.0 in absurd (omega (arith, a, k, term))
      no (inr a) (inl b) = let k = a.0 in absurd (omega (arith, k, b, term))
      no (inr a) (inr b) = let k = a.1 in let l = b.1 in absurd (omega (arith, k, l, version))

  -- no line is there twice
  pub once-order : (ops : List Op) → AreOnce ops → (state : ClusterState) (ps : List Published) → IsChain h root state ps → AreOnce (order_of ops ps)
  once-order ops o state [] c = tt
  once-order ops o state (p ∷ ps) c =
      once-append (order_of ops ps) (into ops p) (once-order ops o p.parent ps c.1.1) (once-into ops p o) (λ k j i l e.
      let a = ordered ops ps k i in
      let b = into-in ops p j l in
      let same : j ≡ k = once-apart ops o k j a.is_in b.0 e in
      let d = chain-in h root p.parent ps c.1.1 a.state a.is_state in
      not-older p a.state c.1.0 d.1 (sym a.is_id ∙ ap (λ (y : Op). y.id) (sym same) ∙ b.1))

  module _ (ops : List Op) (folds : Folds h ops) where
    -- what they leave of a setting is what the state has
    pub after-order : (key : List ℕ) (state : ClusterState) (ps : List Published) → IsChain h root state ps
        → after_ops key (setting_under key root.value.settings) (order_of ops ps) ≡ setting_under key state.value.settings
    after-order key state [] c = ap (λ (x : ClusterState). setting_under key x.value.settings) (sym c)
    after-order key state (p ∷ ps) c =
        after-append key (setting_under key root.value.settings) (order_of ops ps) (into ops p)
        ∙ ap (λ (x : Option (List ℕ)). after_ops key x (into ops p)) (after-order key p.parent ps c.1.1)
        ∙ after-into key (setting_under key p.parent.value.settings) ops p
        ∙ sym (folds p c.1.0 key)
        ∙ ap (λ (x : ClusterState). setting_under key x.value.settings) (sym c.0)

    -- of the last of these states
    at-last : (p : Published) (ps : List Published) → Contains (published h) p → IsChain h root p.parent ps → (k : Op) → IsIn ops k → k.id ≡ id_of p.state → Stands h root ops (p ∷ ps) p k
    at-last p ps i c k is_in is_id = from (one_of_both k.operation.request.ask)
      where
        all : List Op
        all = select (id_of p.state) ops

        chosen : IsIn all k
        chosen = in-select (id_of p.state) ops k is_in is_id

        older : (earlier later : List Op) → order_of ops (p ∷ ps) ≡ earlier ++ k ∷ later → (j : Op) → IsIn earlier j → IsOlder h ops p j
        older earlier later e j x =
            let o = ordered ops (p ∷ ps) j (subst (λ (zs : List Op). IsIn zs j) (sym e) (before-in earlier (k ∷ later) j x)) in
            let d = chain-in h root p.state (p ∷ ps) (refl, (i, c)) o.state o.is_state in
            record { state = o.state; is_published = d.0; is_in = o.is_in; is_id = o.is_id; descends = d.1 }

        from : (is_read k ≡ true) ⊎ (is_other k ≡ true) → Stands h root ops (p ∷ ps) p k
        from (inr other) =
            let s = split (kept is_other all) k (in-kept is_other all k chosen other) in
            let there : order_of ops (p ∷ ps) ≡ (order_of ops ps ++ s.earlier) ++ k ∷ (s.later ++ kept is_read all) =
            ap (λ (zs : List Op). order_of ops ps ++ (zs ++ kept is_read all)) s.is
            ∙ ap (λ (zs : List Op). order_of ops ps ++ zs) (append_assoc s.earlier (k ∷ s.later) (kept is_read all))
            ∙ sym (append_assoc (order_of ops ps) s.earlier (k ∷ (s.later ++ kept is_read all))) in
            record {
              earlier = order_of ops ps ++ s.earlier;
              later = s.later ++ kept is_read all;
              is_there = there;
              before = older (order_of ops ps ++ s.earlier) (s.later ++ kept is_read all) there;
              shown = λ read. absurd (not_both k.operation.request.ask read other);
            }
        from (inl read) =
            let s = split (kept is_read all) k (in-kept is_read all k chosen read) in
            let there : order_of ops (p ∷ ps) ≡ ((order_of ops ps ++ kept is_other all) ++ s.earlier) ++ k ∷ s.later =
            ap (λ (zs : List Op). order_of ops ps ++ (kept is_other all ++ zs)) s.is
            ∙ sym (append_assoc (order_of ops ps) (kept is_other all) (s.earlier ++ k ∷ s.later))
            ∙ sym (append_assoc (order_of ops ps ++ kept is_other all) s.earlier (k ∷ s.later)) in
            record {
              earlier = (order_of ops ps ++ kept is_other all) ++ s.earlier;
              later = s.later;
              is_there = there;
              before = older ((order_of ops ps ++ kept is_other all) ++ s.earlier) s.later there;
              shown = λ is key.
                  after-append key (setting_under key root.value.settings) (order_of ops ps ++ kept is_other all) s.earlier
                  ∙ after-reads key (after_ops key (setting_under key root.value.settings) (order_of ops ps ++ kept is_other all)) s.earlier
                  (λ j x. (kept-in is_read all j (subst (λ (zs : List Op). IsIn zs j) (sym s.is) (before-in s.earlier (k ∷ s.later) j x))).1)
                  ∙ after-append key (setting_under key root.value.settings) (order_of ops ps) (kept is_other all)
                  ∙ ap (λ (x : Option (List ℕ)). after_ops key x (kept is_other all)) (after-order key p.parent ps c)
                  ∙ after-others key (setting_under key p.parent.value.settings) all
                  ∙ sym (folds p i key);
            }

    pub stands : (state : ClusterState) (ps : List Published) → IsChain h root state ps → (p : Published) → IsIn ps p → (k : Op) → IsIn ops k → k.id ≡ id_of p.state → Stands h root ops ps p k
    stands state [] c p x k is_in is_id = absurd x
    stands state (q ∷ ps) c p (inl e) k is_in is_id =
        subst (λ (y : Published). Stands h root ops (q ∷ ps) y k) (sym e) (at-last q ps c.1.0 c.1.1 k is_in (is_id ∙ ap (λ (y : Published). id_of y.state) e))
    stands state (q ∷ ps) c p (inr x) k is_in is_id =
        let s = stands q.parent ps c.1.1 p x k is_in is_id in
        record {
          earlier = s.earlier;
          later = s.later ++ into ops q;
          is_there = ap (λ (zs : List Op). zs ++ into ops q) s.is_there ∙ append_assoc s.earlier (k ∷ s.later) (into ops q);
          before = s.before;
          shown = s.shown;
        }
