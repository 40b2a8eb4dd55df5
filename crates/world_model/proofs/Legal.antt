-- A legal history, as a system of nodes: the acts of each node, and the moments of the history.
use Rattle.std.proofs.Common.{◌≡◌, ◌≢◌, ℕ, ◌<◌, Bool, true, false, cond, Some, List, [], ◌∷◌, ◌++◌, refl, sym, ◌∙◌, ap, subst, arith, ◌⊎◌, inl, inr}
use Rattle.voting_config.specs.Ids.{Id, same}
use Rattle.cluster_state.specs.declared.state.ClusterState.{ClusterState}
use Rattle.cluster_state.specs.declared.state.Kept.{Kept}
use Rattle.world_model.specs.Acts.{StartJoin, Value, Act, Outcome, NodeHistory, Message, Bootstrap, TakeJoin, Publish, Response, Commit, Open, NoActs, Then, Taken, Answered, JoinMessage, PublishMessage, ResponseMessage, CommitMessage, source_of}
use Rattle.world_model.specs.NodeState.{durable_of, initial_state, empty_state}
use Rattle.world_model.proofs.Moments.{Begins, begins_self, IsSent, sent_later}
use Rattle.world_model.proofs.System.{IsGround, IsFrom, IsExecution, IsSystem, sent_at}
use Rattle.std.proofs.Common.{◌++◌, length}
use Rattle.std.proofs.lemmas.List.Elements.{Contains-append_cases, Contains-append_left, Contains-append_right}
use Rattle.std.specs.Prelude.{Contains, slice_index_or, zero, suc}
use Rattle.world_model.specs.Histories.{MayFollow, History, NoEntries, Next, node_history, sent, sent_by, Continues, IsSourced, IsLegal, IsPrefix}
use Rattle.voting_config.proofs.Sets.{same_is, same_self}
use Rattle.world_model.proofs.System.{Opens, Sourced, Origin}

pub one_of : {X : Type 0} (y x : X) → Contains (y ∷ []) x → y ≡ x
one_of {X} y x c = from c.0 c.1 c.2
  where
    from : (k : ℕ) → k < length (y ∷ []) → slice_index_or (y ∷ []) k x ≡ x → y ≡ x
    from zero h e = e
    from (suc k) h e = absurd (omega arith)

pub none_of : {X A : Type 0} (x : X) → Contains {X = X} [] x → A
none_of x c = absurd (omega (arith, c.1))

-- The beginnings of a history.

pub prefix_self : (h : History) → IsPrefix h h
prefix_self NoEntries = refl
prefix_self (Next h n a o) = inl refl

pub prefix_trans : (p q h : History) → IsPrefix p q → IsPrefix q h → IsPrefix p h
prefix_trans p q NoEntries i k = subst (λ (x : History). IsPrefix p x) k i
prefix_trans p q (Next h n a o) i (inl e) = subst (λ (x : History). IsPrefix p x) e i
prefix_trans p q (Next h n a o) i (inr k) = inr (prefix_trans p q h i k)

pub prefix_before : (p h : History) (n : Id) (a : Act) (o : Outcome) → IsPrefix (Next p n a o) h → IsPrefix p h
prefix_before p h n a o i = prefix_trans p (Next p n a o) h (inr (prefix_self p)) i

-- the acts of a node in a beginning begin its acts
pub deeds_begin : (p h : History) (n : Id) → IsPrefix p h → Begins (node_history p n) (node_history h n)
deeds_begin p NoEntries n i = ap (λ (x : History). node_history x n) i
deeds_begin p (Next h m a o) n (inl e) = subst (λ (x : History). Begins (node_history p n) (node_history x n)) e (begins_self (node_history p n))
deeds_begin p (Next h m a o) n (inr i) = both (same m n) (deeds_begin p h n i)
  where
    both : (b : Bool) → Begins (node_history p n) (node_history h n) → Begins (node_history p n) (cond b (Then (node_history h n) a o) (node_history h n))
    both true k = inr k
    both false k = k

pub own_deeds : (p : History) (n : Id) (a : Act) (o : Outcome) → node_history (Next p n a o) n ≡ Then (node_history p n) a o
own_deeds p n a o = ap (λ (b : Bool). cond b (Then (node_history p n) a o) (node_history p n)) (same_self n)

-- an act of the history is an act of its node
pub act_begins : (p h : History) (n : Id) (a : Act) (o : Outcome) → IsPrefix (Next p n a o) h → Begins (Then (node_history p n) a o) (node_history h n)
act_begins p h n a o i = subst (λ (g : NodeHistory). Begins g (node_history h n)) (own_deeds p n a o) (deeds_begin (Next p n a o) h n i)

-- and each act of a node is one of the history
pub record Moment (h : History) (n : Id) (g : NodeHistory) (a : Act) (o : Outcome) : Type 0 where
  pub before : History
  pub is_in : IsPrefix (Next before n a o) h
  pub deeds_are : node_history before n ≡ g

pub moment : (h : History) (n : Id) (g : NodeHistory) (a : Act) (o : Outcome) → Begins (Then g a o) (node_history h n) → Moment h n g a o
moment NoEntries n g a o b = cc
moment (Next h m c u) n g a o b = from (same m n) refl b (moment h n g a o)
  where
    from : (t : Bool) → same m n ≡ t → Begins (Then g a o) (cond t (Then (node_history h n) c u) (node_history h n)) → (Begins (Then g a o) (node_history h n) → Moment h n g a o) → Moment (Next h m c u) n g a o
    from true e (inl k) r =
        let node = same_is m n e in
        let act : a ≡ c = cc in
        let outcome : o ≡ u = cc in
        record { before = h; is_in = inl (λ i. Next h (sym node i) (act i) (outcome i)); deeds_are = cc }
    from true e (inr k) r = let v = r k in record { before = v.before; is_in = inr v.is_in; deeds_are = v.deeds_are }
    from false e k r = let v = r k in record { before = v.before; is_in = inr v.is_in; deeds_are = v.deeds_are }

-- What is listed along a history: each act adds to the list.

pub record Listed {X : Type 0} (add : History → Id → Act → Outcome → List X) (h : History) (x : X) : Type 0 where
  pub before : History
  pub node : Id
  pub act : Act
  pub outcome : Outcome
  pub is_in : IsPrefix (Next before node act outcome) h
  pub adds : Contains (add before node act outcome) x

module _ {X : Type 0} (list : History → List X) (add : History → Id → Act → Outcome → List X)
    (empty : list NoEntries ≡ []) (more : (h : History) (n : Id) (a : Act) (o : Outcome) → list (Next h n a o) ≡ list h ++ add h n a o) where
  pub listed : (h : History) (x : X) → Contains (list h) x → Listed add h x
  listed NoEntries x c = none_of x (subst (λ (l : List X). Contains l x) empty c)
  listed (Next h n a o) x c = from (Contains-append_cases (list h) (add h n a o) x (subst (λ (l : List X). Contains l x) (more h n a o) c)) (listed h x)
    where
      from : Contains (list h) x ⊎ Contains (add h n a o) x → (Contains (list h) x → Listed add h x) → Listed add (Next h n a o) x
      from (inl k) r = let v = r k in record { before = v.before; node = v.node; act = v.act; outcome = v.outcome; is_in = inr v.is_in; adds = v.adds }
      from (inr k) r = record { before = h; node = n; act = a; outcome = o; is_in = inl refl; adds = k }

  pub is_listed : (h : History) (x : X) (p : History) (n : Id) (a : Act) (o : Outcome) → IsPrefix (Next p n a o) h → Contains (add p n a o) x → Contains (list h) x
  is_listed NoEntries x p n a o i c = cc
  is_listed (Next h m b u) x p n a o (inl e) c =
      subst (λ (k : History). Contains (list k) x) e
      (subst (λ (l : List X). Contains l x) (sym (more p n a o)) (Contains-append_right (list p) (add p n a o) x c))
  is_listed (Next h m b u) x p n a o (inr i) c =
      subst (λ (l : List X). Contains l x) (sym (more h m b u)) (Contains-append_left (list h) (add h m b u) x (is_listed h x p n a o i c))

-- Messages of a history.

pub origin_source : (me : Id) (g : NodeHistory) (a : Act) (m : Message) → Origin me g a m → source_of m ≡ me
origin_source me g a (JoinMessage j) o = o.source_is
origin_source me g a (PublishMessage r) o = o.source_is
origin_source me g a (ResponseMessage r) o = o.source_is
origin_source me g a (CommitMessage c) o = o.source_is

-- what an act sends is its outcome's message
sent_by_is : (o : Outcome) (m : Message) → Contains (sent_by o) m → (flag : Bool) × (o ≡ Answered (Taken (Some m) flag))
sent_by_is (Answered (Taken (Some n) w)) m c = (w, ap (λ (x : Message). Answered (Taken (Some x) w)) (one_of n m c))
sent_by_is o m c = none_of m c

-- a message of the history was sent by some node
pub sent_from : (h : History) (m : Message) → Contains (sent h) m → (k : Id) × IsSent (node_history h k) m
sent_from h m c =
    let l = listed sent (λ p n a o. sent_by o) refl (λ p n a o. refl) h m c in
    let s = sent_by_is l.outcome m l.adds in
    (l.node, record { before = node_history l.before l.node; act = l.act; flag = s.0; is_in = subst (λ (o : Outcome). Begins (Then (node_history l.before l.node) l.act o) (node_history h l.node)) s.1 (act_begins _ _ _ _ _ l.is_in) })

-- and each message of a node is one of the history
pub sent_to : (h : History) (k : Id) (m : Message) → IsSent (node_history h k) m → Contains (sent h) m
sent_to h k m s =
    let v = moment h k s.before s.act (Answered (Taken (Some m) s.flag)) s.is_in in
    is_listed sent (λ p n a o. sent_by o) refl (λ p n a o. refl) h m v.before k s.act (Answered (Taken (Some m) s.flag)) v.is_in (0, (omega arith), refl)

-- A history whose openings begin on grounds, from root on. Legal histories are such, and those that a restarted node begins.

abbrev pub IsSourcedFrom : ClusterState → List Message → Act → Type 0
IsSourcedFrom root messages (Bootstrap config) = (initial_state config ≡ root) × (config ≢ [])
IsSourcedFrom root messages (TakeJoin join) = Contains messages (JoinMessage join)
IsSourcedFrom root messages (Publish request) = Contains messages (PublishMessage request)
IsSourcedFrom root messages (Response response) = Contains messages (ResponseMessage response)
IsSourcedFrom root messages (Commit commit) = Contains messages (CommitMessage commit)
IsSourcedFrom root messages (StartJoin candidate term) = Unit {0}
IsSourcedFrom root messages (Value version config value) = Unit {0}
IsSourcedFrom root messages (Open found) = Unit {0}

pub record MayCome (root : ClusterState) (h : History) (node : Id) (act : Act) (outcome : Outcome) : Type 0 where
  pub follows : MayFollow node (node_history h node) act outcome
  pub opens : Opens root (node_history h node) act
  pub sourced : IsSourcedFrom root (sent h) act

abbrev pub IsGrounded : ClusterState → History → Type 0
IsGrounded root NoEntries = Unit {0}
IsGrounded root (Next h node act outcome) = IsGrounded root h × MayCome root h node act outcome

module _ (root : ClusterState) (h : History) where
  -- a message that was sent before is from the node that it names
  from_sent : (p : History) (n : Id) → IsPrefix p h → ((k : Id) → IsExecution (node_history h) root k (node_history p k)) → (m : Message) → Contains (sent p) m → IsFrom (node_history h) n (node_history p n) (source_of m) m
  from_sent p n i execution m c =
      let s = sent_from p m c in
      let at = sent_at (node_history h) root s.0 (node_history p s.0) m (execution s.0) s.1 in
      let source = origin_source s.0 at.before at.act m at.origin_is in
      let here = subst (λ (k : Id). IsSent (node_history p k) m) (sym source) s.1 in
      record {
        is_sent = sent_later _ (node_history h (source_of m)) m (deeds_begin p h (source_of m) i) here;
        own = λ e. subst (λ (k : Id). IsSent (node_history p k) m) e here;
      }

  sourced : (p : History) (n : Id) → IsPrefix p h → ((k : Id) → IsExecution (node_history h) root k (node_history p k)) → (a : Act) → IsSourcedFrom root (sent p) a → Sourced (node_history h) root n (node_history p n) a
  sourced p n i execution (Bootstrap config) s = s
  sourced p n i execution (TakeJoin j) s = from_sent p n i execution (JoinMessage j) s
  sourced p n i execution (Publish r) s = from_sent p n i execution (PublishMessage r) s
  sourced p n i execution (Response r) s = from_sent p n i execution (ResponseMessage r) s
  sourced p n i execution (Commit c) s = from_sent p n i execution (CommitMessage c) s
  sourced p n i execution a s = tt

  execution_so_far : (p : History) → IsGrounded root p → IsPrefix p h → (n : Id) → IsExecution (node_history h) root n (node_history p n)
  execution_so_far NoEntries l i n = tt
  execution_so_far (Next p m a o) l i n = from (same m n) refl (execution_so_far p l.0 (prefix_before p h m a o i))
    where
      from : (b : Bool) → same m n ≡ b → ((k : Id) → IsExecution (node_history h) root k (node_history p k)) → IsExecution (node_history h) root n (cond b (Then (node_history p n) a o) (node_history p n))
      from false e execution = execution n
      from true e execution =
          let may = subst (λ (k : Id). MayCome root p k a o) (same_is m n e) l.1 in
          (execution n, record { follows = may.follows; opens = may.opens; sourced = sourced p n (prefix_before p h m a o i) execution a may.sourced })

-- such a history is a system
pub system_of_grounded : (root : ClusterState) (h : History) → IsGrounded root h → IsSystem (node_history h) root
system_of_grounded root h l = execution_so_far root h h l (prefix_self h)

pub grounded_before : (root : ClusterState) (p h : History) → IsGrounded root h → IsPrefix p h → IsGrounded root p
grounded_before root p NoEntries l i = subst (λ (x : History). IsGrounded root x) (sym i) l
grounded_before root p (Next h n a o) l (inl e) = subst (λ (x : History). IsGrounded root x) (sym e) l
grounded_before root p (Next h n a o) l (inr i) = grounded_before root p h l.0 i

-- Legal histories.

-- the first record of a node in a legal history
ground : (initial : List Id) (found : Kept) → found ≡ durable_of NoActs → IsGround (initial_state initial) found
ground initial found e =
    let same : found.accepted ≡ empty_state = ap (λ (k : Kept). k.accepted) e in
    let term : found.accepted.term ≡ 0 = ap (λ (k : Kept). k.accepted.term) e in
    record {
      accepted = inl same;
      older = omega arith;
      held = λ r. inl (ap (λ (k : Kept). k.committed) e ∙ sym (ap (λ (s : ClusterState). s.committed) same) ∙ ap (λ (s : ClusterState). s.committed) r);
    }

opens : (initial : List Id) (g : NodeHistory) (a : Act) → Continues g a → Opens (initial_state initial) g a
opens initial NoActs (Open found) c = ground initial found c
opens initial (Then g b o) (Open found) c = c
opens initial g a c = tt

sourced_from : (initial : List Id) (messages : List Message) (a : Act) → IsSourced initial messages a → IsSourcedFrom (initial_state initial) messages a
sourced_from initial messages (Bootstrap config) s = (ap initial_state s.0, λ e. s.1 (sym s.0 ∙ e))
sourced_from initial messages a s = s

pub grounded_of_legal : (initial : List Id) (h : History) → IsLegal initial h → IsGrounded (initial_state initial) h
grounded_of_legal initial NoEntries l = tt
grounded_of_legal initial (Next h n a o) l = (
  grounded_of_legal initial h l.0,
  record { follows = l.1.follows; opens = opens initial (node_history h n) a l.1.continues; sourced = sourced_from initial (sent h) a l.1.sourced },
)

pub system_of_legal : (initial : List Id) (h : History) → IsLegal initial h → IsSystem (node_history h) (initial_state initial)
system_of_legal initial h l = system_of_grounded (initial_state initial) h (grounded_of_legal initial h l)
