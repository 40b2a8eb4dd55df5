-- The newest of the committed states, and what had happened by a moment had happened.
use Rattle.std.proofs.Common.{◌≡◌, ◌<◌, ◌≤◌, Bool, true, false, ◌&&◌, List, [], ◌∷◌, refl, sym, ◌∙◌, ap, subst, arith, ◌⊎◌, inl, inr}
use Rattle.std.specs.Prelude.{nat_eq}
use Rattle.std.specs.List.{Contains}
use Rattle.std.proofs.lemmas.Bool.{and_parts, eqb-true, eq-eqb, both_ways, cases_lt}
use Rattle.std.proofs.lemmas.List.Elements.{Contains-append_cases, Contains-append_right}
use Rattle.voting_config.specs.Ids.{same}
use Rattle.voting_config.proofs.Sets.{same_is, same_self}
use Rattle.cluster_state.specs.declared.state.ClusterState.{ClusterState}
use Rattle.world_model.specs.declared.acts.Message.{Message}
use Rattle.world_model.specs.declared.acts.Message.TheVariants.{Join as JoinMessage, Publish as PublishMessage, Response as ResponseMessage, Commit as CommitMessage}
use Rattle.world_model.specs.Histories.{History, Next, sent, sent_by, IsPrefix}
use Rattle.world_model.specs.Safety.{Published, published, IsCommitted, Descends, Itself, Child, IsAtMost}
use Rattle.world_model.proofs.Legal.{listed, is_listed, one_of, none_of, prefix_trans}
use Rattle.world_model.proofs.StateIds.{at_most_self, at_most_trans}
use Rattle.linearizability.proofs.Accounts.{IsIn, published_within}

-- ---- what a list has

pub contains-in : {A : Type 0} (xs : List A) (x : A) → Contains xs x → IsIn xs x
contains-in [] x c = none_of x c
contains-in (y ∷ ys) x c = from (Contains-append_cases (y ∷ []) ys x c) (λ k. contains-in ys x k)
  where
    from : Contains (y ∷ []) x ⊎ Contains ys x → (Contains ys x → IsIn ys x) → IsIn (y ∷ ys) x
    from (inl k) rest = inl (sym (one_of y x k))
    from (inr k) rest = inr (rest k)

in-contains : {A : Type 0} (xs : List A) (x : A) → IsIn xs x → Contains xs x
in-contains [] x i = absurd i
in-contains (y ∷ ys) x (inl e) = (0, (omega arith), sym e)
in-contains (y ∷ ys) x (inr i) = Contains-append_right (y ∷ []) ys x (in-contains ys x i)

-- ---- by a moment

sent-within : (q h : History) → IsPrefix q h → (m : Message) → Contains (sent q) m → Contains (sent h) m
sent-within q h i m c =
    let at = listed sent (λ x n a o. sent_by o) refl (λ x n a o. refl) q m c in
    is_listed sent (λ x n a o. sent_by o) refl (λ x n a o. refl) h m at.before at.node at.act at.outcome
    (prefix_trans (Next at.before at.node at.act at.outcome) q h at.is_in i) at.adds

pub committed-within : (q h : History) → IsPrefix q h → (c : Published) → IsCommitted q c → IsCommitted h c
committed-within q h i c k = (
  published_within q h i c k.0,
  sent-within q h i (CommitMessage (record { source = c.publisher; term = c.state.term; version = c.state.version })) k.1,
)

pub descends-within : (q h : History) → IsPrefix q h → (a b : ClusterState) → Descends q a b → Descends h a b
descends-within q h i a b Itself = Itself
descends-within q h i a b (Child p is_in d) = Child p (published_within q h i p is_in) (descends-within q h i a p.parent d)

-- ---- whether a state is committed

abbrev commit_of : Published → Message
commit_of p = CommitMessage (record { source = p.publisher; term = p.state.term; version = p.state.version })

abbrev is_commit_of : Published → Message → Bool
is_commit_of p (CommitMessage c) = same c.source p.publisher && (nat_eq c.term p.state.term && nat_eq c.version p.state.version)
is_commit_of p (JoinMessage join) = false
is_commit_of p (PublishMessage request) = false
is_commit_of p (ResponseMessage response) = false

commit-is : (p : Published) (m : Message) → is_commit_of p m ≡ true → m ≡ commit_of p
commit-is p (CommitMessage c) e =
    let a = and_parts (same c.source p.publisher) (nat_eq c.term p.state.term && nat_eq c.version p.state.version) e in
    let b = and_parts (nat_eq c.term p.state.term) (nat_eq c.version p.state.version) a.1 in
    λ i. CommitMessage (record { source = same_is c.source p.publisher a.0 i; term = eqb-true c.term p.state.term b.0 i; version = eqb-true c.version p.state.version b.1 i })
commit-is p (JoinMessage join) e = absurd (both_ways _ refl e)
commit-is p (PublishMessage request) e = absurd (both_ways _ refl e)
commit-is p (ResponseMessage response) e = absurd (both_ways _ refl e)

commit-self : (p : Published) → is_commit_of p (commit_of p) ≡ true
commit-self p = rw (same_self p.publisher) (rw (eq-eqb p.state.term p.state.term refl) (rw (eq-eqb p.state.version p.state.version refl) refl))

commit-sent : (p : Published) (ms : List Message) → Contains ms (commit_of p) ⊎ (Contains ms (commit_of p) → ⊥)
commit-sent p [] = inr (λ c. none_of (commit_of p) c)
commit-sent p (m ∷ ms) = from (is_commit_of p m) refl (commit-sent p ms)
  where
    neither : is_commit_of p m ≡ false → (Contains ms (commit_of p) → ⊥) → Contains (m ∷ []) (commit_of p) ⊎ Contains ms (commit_of p) → ⊥
    neither off never (inl k) = both_ways (is_commit_of p m) off (ap (is_commit_of p) (one_of m (commit_of p) k) ∙ commit-self p)
    neither off never (inr k) = never k

    from : (b : Bool) → is_commit_of p m ≡ b → Contains ms (commit_of p) ⊎ (Contains ms (commit_of p) → ⊥) → Contains (m ∷ ms) (commit_of p) ⊎ (Contains (m ∷ ms) (commit_of p) → ⊥)
    from true e rest = inl (0, (omega arith), commit-is p m e)
    from false e (inl c) = inl (Contains-append_right (m ∷ []) ms (commit_of p) c)
    from false e (inr never) = inr (λ c. neither e never (Contains-append_cases (m ∷ []) ms (commit_of p) c))

-- ---- the newest

at_most_one : (a b : ClusterState) → IsAtMost a b ⊎ IsAtMost b a
at_most_one a b = from (cases_lt a.term b.term) (cases_lt b.term a.term) (cases_lt a.version b.version)
  where
    from : (a.term < b.term) ⊎ (b.term ≤ a.term) → (b.term < a.term) ⊎ (a.term ≤ b.term) → (a.version < b.version) ⊎ (b.version ≤ a.version) → IsAtMost a b ⊎ IsAtMost b a
    from (inl l) y z = inl (inl l)
    from (inr l) (inl m) z = inr (inl m)
    from (inr l) (inr m) (inl v) = inl (inr ((omega (arith, l, m)), (omega (arith, v))))
    from (inr l) (inr m) (inr v) = inr (inr ((omega (arith, l, m)), v))

-- of these published states none is committed, or this one and none above it
pub data Newest (h : History) (ps : List Published) : Type 0 where
  None_committed : ((c : Published) → IsIn ps c → IsCommitted h c → ⊥) → Newest h ps
  Is_newest : (newest : Published) → IsCommitted h newest → ((c : Published) → IsIn ps c → IsCommitted h c → IsAtMost c.state newest.state) → Newest h ps

newest-in : (h : History) (ps : List Published) → ((p : Published) → IsIn ps p → Contains (published h) p) → Newest h ps
newest-in h [] f = None_committed (λ c i k. i)
newest-in h (p ∷ ps) f = from (commit-sent p (sent h)) (newest-in h ps (λ q i. f q (inr i)))
  where
    first : (c : Published) → (c ≡ p) ⊎ IsIn ps c → (Q : Published → Type 0) → Q p → (IsIn ps c → Q c) → Q c
    first c (inl e) Q here rest = subst Q (sym e) here
    first c (inr i) Q here rest = rest i

    over : (m : Published) → IsCommitted h p → IsCommitted h m → ((c : Published) → IsIn ps c → IsCommitted h c → IsAtMost c.state m.state) → IsAtMost p.state m.state ⊎ IsAtMost m.state p.state → Newest h (p ∷ ps)
    over m a b low (inl l) = Is_newest m b (λ c i k. first c i (λ (x : Published). IsAtMost x.state m.state) l (λ x. low c x k))
    over m a b low (inr l) = Is_newest p a (λ c i k. first c i (λ (x : Published). IsAtMost x.state p.state) (at_most_self p.state) (λ x. at_most_trans c.state m.state p.state (low c x k) l))

    from : Contains (sent h) (commit_of p) ⊎ (Contains (sent h) (commit_of p) → ⊥) → Newest h ps → Newest h (p ∷ ps)
    from (inl c) (None_committed none) = Is_newest p (f p (inl refl), c) (λ q i k. first q i (λ (x : Published). IsAtMost x.state p.state) (at_most_self p.state) (λ x. absurd (none q x k)))
    from (inl c) (Is_newest m is low) = over m (f p (inl refl), c) is low (at_most_one p.state m.state)
    from (inr never) (None_committed none) = None_committed (λ q i k. first q i (λ (x : Published). IsCommitted h x → ⊥) (λ y. never y.1) (λ x y. none q x y) k)
    from (inr never) (Is_newest m is low) = Is_newest m is (λ q i k. first q i (λ (x : Published). IsCommitted h x → IsAtMost x.state m.state) (λ y. absurd (never y.1)) (λ x y. low q x y) k)

pub newest : (h : History) → Newest h (published h)
newest h = newest-in h (published h) (λ p i. in-contains (published h) p i)
