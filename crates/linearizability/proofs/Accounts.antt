-- What a system has taken: of all its published states the requests that were processed into them, each with the line by which it came.
use Rattle.std.proofs.Common.{◌≡◌, ◌≢◌, ℕ, Bool, true, false, ◌&&◌, Option, Some, List, [], ◌∷◌, ◌++◌, refl, sym, ◌∙◌, ap, subst, ◌⊎◌, inl, inr}
use Rattle.std.specs.Prelude.{nat_eq, if◌then◌else◌}
use Rattle.std.specs.List.{Contains}
use Rattle.std.proofs.lemmas.Bool.{both_ways, and_parts, eqb-true, eq-eqb}
use Rattle.voting_config.specs.Ids.{Id, same}
use Rattle.cluster_state.specs.States.{id_of}
use Rattle.cluster_state.specs.declared.state.ClusterState.{ClusterState}
use Rattle.cluster_state.specs.declared.state.ClusterValue.{ClusterValue}
use Rattle.cluster_state.specs.declared.state.StateId.{StateId}
use Rattle.world_model.specs.declared.acts.Act.{Act}
use Rattle.world_model.specs.declared.acts.ActReply.TheVariants.{Taken}
use Rattle.world_model.specs.declared.acts.Message.{Message}
use Rattle.world_model.specs.declared.acts.Message.TheVariants.{Publish as PublishMessage}
use Rattle.world_model.specs.declared.acts.Outcome.{Outcome}
use Rattle.world_model.specs.declared.acts.Outcome.TheVariants.{Answered}
use Rattle.world_model.specs.Acts.{NodeHistory, Then}
use Rattle.world_model.specs.NodeState.{accepted_of, term_of}
use Rattle.world_model.specs.Histories.{History, Next, node_history, IsPrefix}
use Rattle.world_model.specs.Replies.{IsOutcome}
use Rattle.world_model.specs.Safety.{Published, published, published_by}
use Rattle.world_model.proofs.Legal.{IsGrounded, listed, is_listed, prefix_trans, one_of, none_of, act_begins, grounded_before, system_of_grounded}
use Rattle.world_model.proofs.Moments.{Begins as IsBeginning}
use Rattle.world_model.proofs.System.{origin}
use Rattle.policy_model.specs.declared.settings.Settings.{Settings}
use Rattle.client_guarantees.specs.Asked.{setting_under, setting_after}
use Rattle.client_guarantees.proofs.Backing.{unique, value_published}
use Rattle.policy_model.specs.Entries.{Life, log_of}
use Rattle.system_laws.specs.Systems.{System, Runs, run_of, history_of}
use Rattle.linearizability.specs.Linearizations.{Operation, Came, RunsOn}
use Rattle.linearizability.proofs.Numbers.{queued_in, Tagged, taken_of}
use Rattle.linearizability.proofs.Taken.{TookValue}

-- ---- lists

abbrev pub EachOf : {A : Type 0} → (A → Type 0) → List A → Type 0
EachOf P [] = Unit {0}
EachOf P (x ∷ xs) = P x × EachOf P xs

abbrev pub IsIn : {A : Type 0} → List A → A → Type 0
IsIn [] x = ⊥
IsIn (y ∷ ys) x = (x ≡ y) ⊎ IsIn ys x

pub each-in : {A : Type 0} (P : A → Type 0) (xs : List A) (x : A) → EachOf P xs → IsIn xs x → P x
each-in P [] x e i = absurd i
each-in P (y ∷ ys) x e (inl same) = subst P (sym same) e.0
each-in P (y ∷ ys) x e (inr i) = each-in P ys x e.1 i

pub each-map : {A : Type 0} (P Q : A → Type 0) → (xs : List A) → ((x : A) → IsIn xs x → P x → Q x) → EachOf P xs → EachOf Q xs
each-map P Q [] f e = tt
each-map P Q (x ∷ xs) f e = (f x (inl refl) e.0, each-map P Q xs (λ y i p. f y (inr i) p) e.1)

pub each-append : {A : Type 0} (P : A → Type 0) (xs ys : List A) → EachOf P xs → EachOf P ys → EachOf P (xs ++ ys)
each-append P [] ys e f = f
each-append P (x ∷ xs) ys e f = (e.0, each-append P xs ys e.1 f)

pub each-all : {A : Type 0} (P : A → Type 0) (xs : List A) → ((x : A) → IsIn xs x → P x) → EachOf P xs
each-all P [] f = tt
each-all P (x ∷ xs) f = (f x (inl refl), each-all P xs (λ y i. f y (inr i)))

pub in-left : {A : Type 0} (xs ys : List A) (x : A) → IsIn xs x → IsIn (xs ++ ys) x
in-left [] ys x i = absurd i
in-left (y ∷ xs) ys x (inl e) = inl e
in-left (y ∷ xs) ys x (inr i) = inr (in-left xs ys x i)

pub in-right : {A : Type 0} (xs ys : List A) (x : A) → IsIn ys x → IsIn (xs ++ ys) x
in-right [] ys x i = i
in-right (y ∷ xs) ys x i = inr (in-right xs ys x i)

pub in-parts : {A : Type 0} (xs ys : List A) (x : A) → IsIn (xs ++ ys) x → IsIn xs x ⊎ IsIn ys x
in-parts [] ys x i = inr i
in-parts (y ∷ xs) ys x (inl e) = inl (inl e)
in-parts (y ∷ xs) ys x (inr i) = from (in-parts xs ys x i)
  where
    from : IsIn xs x ⊎ IsIn ys x → IsIn (y ∷ xs) x ⊎ IsIn ys x
    from (inl k) = inl (inr k)
    from (inr k) = inr k

-- ---- ids

abbrev pub same_id : StateId → StateId → Bool
same_id a b = nat_eq a.term b.term && nat_eq a.version b.version

pub same_id-is : (a b : StateId) → same_id a b ≡ true → a ≡ b
same_id-is a b e =
    let parts = and_parts (nat_eq a.term b.term) (nat_eq a.version b.version) e in
    λ i. record { term = eqb-true a.term b.term parts.0 i; version = eqb-true a.version b.version parts.1 i }

pub same_id-self : (a : StateId) → same_id a a ≡ true
same_id-self a = rw (eq-eqb a.term a.term refl) (rw (eq-eqb a.version a.version refl) refl)

-- ---- operations

-- a request that was processed into the published state of this id, and its line; and which of the run's requests it was
pub record Op : Type 0 where
  pub id : StateId
  pub number : ℕ
  pub operation : Operation

-- the line came in a run that had queued so many requests
pub record HasRun (k : Op) : Type 0 where
  pub settings : Settings
  pub so_far : Life
  pub runs : run_of k.operation.came k.operation.node ≡ Runs settings so_far
  pub is_number : queued_in (log_of so_far) ≡ k.number

-- two requests of one moment are one
pub one-number : (j k : Op) → HasRun j → HasRun k → j.operation.came ≡ k.operation.came → j.operation.node ≡ k.operation.node → j.number ≡ k.number
one-number j k a b came node =
    let runs : Runs a.settings a.so_far ≡ Runs b.settings b.so_far =
    sym a.runs ∙ ap (λ (x : System). run_of x j.operation.node) came ∙ ap (run_of k.operation.came) node ∙ b.runs in
    let so_far : a.so_far ≡ b.so_far = cc in
    sym a.is_number ∙ ap (λ (x : Life). queued_in (log_of x)) so_far ∙ b.is_number

-- the line came in the system, and its node published the state later, by this history
pub record IsOp (h : System) (all : History) (k : Op) : Type 0 where
  pub came : Came h k.operation
  pub run : HasRun k
  pub inner : NodeHistory
  pub version : ℕ
  pub config : List Id
  pub value : ClusterValue
  pub sends : Option Message
  pub wins : Bool
  pub took : TookValue inner version config value sends wins (node_history all k.operation.node)
  pub is_id : k.id ≡ record { term = term_of inner; version = version }
  pub before : IsBeginning (node_history (history_of k.operation.came) k.operation.node) inner

-- a request of a run, among these
pub record HasOp (h : System) (n : Id) (ops : List Op) (t : Tagged) : Type 0 where
  pub op : Op
  pub is_in : IsIn ops op
  pub is_id : op.id ≡ t.id
  pub is_number : op.number ≡ t.numbered.number
  pub is_node : op.operation.node ≡ n
  pub is_conn : op.operation.conn ≡ t.numbered.request.conn
  pub is_request : op.operation.request ≡ t.numbered.request.request
  pub on : RunsOn op.operation.came n h

-- a request of this number, among these
pub record WithNumber (ts : List Tagged) (number : ℕ) : Type 0 where
  pub tagged : Tagged
  pub is_in : IsIn ts tagged
  pub is_number : tagged.numbered.number ≡ number

-- where the run in which the line came still goes on, it is the run's
abbrev pub IsWithin : System → Op → Type 0
IsWithin h k =
    RunsOn k.operation.came k.operation.node h → (s : Settings) (life : Life) → run_of h k.operation.node ≡ Runs s life → WithNumber (taken_of s (log_of life)) k.number

-- no line is there twice
abbrev pub AreOnce : List Op → Type 0
AreOnce [] = Unit {0}
AreOnce (k ∷ ks) = ((j : Op) → IsIn ks j → j.operation.came ≢ k.operation.came) × AreOnce ks

pub once-append : (xs ys : List Op) → AreOnce xs → AreOnce ys → ((k j : Op) → IsIn xs k → IsIn ys j → j.operation.came ≢ k.operation.came) → AreOnce (xs ++ ys)
once-append [] ys a b f = b
once-append (x ∷ xs) ys a b f = ((λ j i. from j (in-parts xs ys j i)), once-append xs ys a.1 b (λ k j i l. f k j (inr i) l))
  where
    from : (j : Op) → IsIn xs j ⊎ IsIn ys j → j.operation.came ≢ x.operation.came
    from j (inl i) = a.0 j i
    from j (inr i) = f x j (inl refl) i

-- those of one id, in order
abbrev pub select : StateId → List Op → List Op
select id [] = []
select id (k ∷ ks) = if same_id k.id id then k ∷ select id ks else select id ks

pub select-append : (id : StateId) (xs ys : List Op) → select id (xs ++ ys) ≡ select id xs ++ select id ys
select-append id [] ys = refl
select-append id (x ∷ xs) ys = from (same_id x.id id) (select-append id xs ys)
  where
    from : (b : Bool) → select id (xs ++ ys) ≡ select id xs ++ select id ys
        → (if b then x ∷ select id (xs ++ ys) else select id (xs ++ ys)) ≡ (if b then x ∷ select id xs else select id xs) ++ select id ys
    from true e = ap (λ (zs : List Op). x ∷ zs) e
    from false e = e

pub select-none : (id : StateId) (ks : List Op) → ((k : Op) → IsIn ks k → k.id ≢ id) → select id ks ≡ []
select-none id [] f = refl
select-none id (k ∷ ks) f = from (same_id k.id id) refl (select-none id ks (λ j i. f j (inr i)))
  where
    from : (b : Bool) → same_id k.id id ≡ b → select id ks ≡ [] → (if b then k ∷ select id ks else select id ks) ≡ []
    from true e r = absurd (f k (inl refl) (same_id-is k.id id e))
    from false e r = r

pub select-all : (id : StateId) (ks : List Op) → ((k : Op) → IsIn ks k → k.id ≡ id) → select id ks ≡ ks
select-all id [] f = refl
select-all id (k ∷ ks) f = from (same_id k.id id) refl (select-all id ks (λ j i. f j (inr i)))
  where
    from : (b : Bool) → same_id k.id id ≡ b → select id ks ≡ ks → (if b then k ∷ select id ks else select id ks) ≡ k ∷ ks
    from true e r = ap (λ (zs : List Op). k ∷ zs) r
    from false e r = absurd (both_ways (same_id k.id id) e (ap (λ (x : StateId). same_id x id) (f k (inl refl)) ∙ same_id-self id))

-- what a setting is after them
abbrev pub after_ops : List ℕ → Option (List ℕ) → List Op → Option (List ℕ)
after_ops key o [] = o
after_ops key o (k ∷ ks) = after_ops key (setting_after key o k.operation.request.ask) ks

-- each published state has of its parent's settings what its requests leave
abbrev pub Folds : History → List Op → Type 0
Folds all ops =
    (p : Published) → Contains (published all) p → (key : List ℕ)
    → setting_under key p.state.value.settings ≡ after_ops key (setting_under key p.parent.value.settings) (select (id_of p.state) ops)

-- all that a system has taken
pub record Account (h : System) : Type 0 where
  pub ops : List Op
  pub each : EachOf (IsOp h (history_of h)) ops
  pub once : AreOnce ops
  pub within : EachOf (IsWithin h) ops
  pub current : (n : Id) (s : Settings) (life : Life) → run_of h n ≡ Runs s life → EachOf (HasOp h n ops) (taken_of s (log_of life))
  pub folds : Folds (history_of h) ops

-- what there is at the end of an event of this node: of its run these were taken
pub record Counts (after : System) (all : History) (n : Id) (taken : List Tagged) (ops : List Op) : Type 0 where
  pub new : List Op
  pub each : EachOf (IsOp after all) (ops ++ new)
  pub once : AreOnce (ops ++ new)
  pub own : (k : Op) → IsIn (ops ++ new) k → k.operation.node ≡ n → RunsOn k.operation.came n after → WithNumber taken k.number
  pub others : (k : Op) → IsIn (ops ++ new) k → same n k.operation.node ≡ false → IsIn ops k
  pub has : EachOf (HasOp after n (ops ++ new)) taken
  pub folds : Folds all (ops ++ new)

-- ---- by which act a state was published

pub record IsPublishedBy (p : Published) (g : NodeHistory) : Type 0 where
  pub inner : NodeHistory
  pub version : ℕ
  pub config : List Id
  pub sends : Option Message
  pub wins : Bool
  pub took : TookValue inner version config p.state.value sends wins g
  pub parent : p.parent ≡ accepted_of inner
  pub is_id : id_of p.state ≡ record { term = term_of inner; version = version }

published_so : (before : History) (n : Id) (a : Act) (o : Outcome) (g : Id → NodeHistory) (p : Published) → IsOutcome n (node_history before n) a o → IsBeginning (Then (node_history before n) a o) (g n)
    → Contains (published_by before n o) p → IsPublishedBy p (g p.publisher)
published_so before n a (Answered (Taken (Some (PublishMessage r)) w)) g p f b c =
    let from = origin n (node_history before n) a (PublishMessage r) w f in
    subst (λ (x : Published). IsPublishedBy x (g x.publisher)) (one_of _ p c) (record {
      inner = node_history before n;
      version = r.state.version;
      config = r.state.config;
      sends = Some (PublishMessage r);
      wins = w;
      took = subst (λ (x : Act). IsBeginning (Then (node_history before n) x (Answered (Taken (Some (PublishMessage r)) w))) (g n)) from.act_is b;
      parent = refl;
      is_id = λ i. record { term = from.term_is i; version = r.state.version };
    })
published_so before n a o g p f b c = none_of p c

pub published_as : (root : ClusterState) (h : History) → IsGrounded root h → (p : Published) → Contains (published h) p → IsPublishedBy p (node_history h p.publisher)
published_as root h G p c =
    let at = listed published (λ q n a o. published_by q n o) refl (λ q n a o. refl) h p c in
    let may = (grounded_before root (Next at.before at.node at.act at.outcome) h G at.is_in).1 in
    published_so at.before at.node at.act at.outcome (node_history h) p may.follows.follows (act_begins at.before h at.node at.act at.outcome at.is_in) at.adds

pub published_within : (q h : History) → IsPrefix q h → (p : Published) → Contains (published q) p → Contains (published h) p
published_within q h i p c =
    let at = listed published (λ x n a o. published_by x n o) refl (λ x n a o. refl) q p c in
    is_listed published (λ x n a o. published_by x n o) refl (λ x n a o. refl) h p at.before at.node at.act at.outcome
    (prefix_trans (Next at.before at.node at.act at.outcome) q h at.is_in i) at.adds

-- what was published by an act that was done before was published before
pub published_back : (root : ClusterState) (h all : History) → IsGrounded root all → IsPrefix h all → (p : Published) → Contains (published all) p → (b : IsPublishedBy p (node_history all p.publisher))
    → TookValue b.inner b.version b.config p.state.value b.sends b.wins (node_history h p.publisher) → Contains (published h) p
published_back root h all G i p c b took =
    let was = value_published h root (system_of_grounded root h (grounded_before root h all G i)) p.publisher b.inner b.version b.config p.state.value b.sends b.wins took in
    let one = (unique all root (system_of_grounded root all G)).same was.as_published p (published_within h all i was.as_published was.is_in) c (ap id_of was.is_state ∙ sym b.is_id) in
    subst (Contains (published h)) one was.is_in
