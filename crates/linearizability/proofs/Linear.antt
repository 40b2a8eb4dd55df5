-- One order of all requests: where each reply has its place, as a map of registers would give it, and none is behind what came after it.
use Rattle.std.proofs.Common.{◌≡◌, ◌<◌, ℕ, Option, List, [], ◌∷◌, ◌++◌, refl, sym, ◌∙◌, ap, subst, arith, ◌⊎◌, inl, inr}
use Rattle.std.specs.List.{Contains, All}
use Rattle.std.proofs.lemmas.List.Elements.{All-nil, All-cons}
use Rattle.cluster_state.specs.States.{id_of}
use Rattle.cluster_state.specs.Settings.{Setting}
use Rattle.cluster_state.specs.declared.reply.Answer.{Answer}
use Rattle.cluster_state.specs.declared.reply.Answer.TheVariants as answer
use Rattle.cluster_state.specs.declared.request.Ask.{Ask}
use Rattle.cluster_state.specs.declared.request.Request.{Request}
use Rattle.cluster_state.specs.declared.state.ClusterState.{ClusterState}
use Rattle.world_model.specs.Acts.{NodeHistory}
use Rattle.world_model.specs.Histories.{History, node_history, IsPrefix}
use Rattle.world_model.specs.Safety.{Published, published, IsCommitted, Descends, Itself, IsAtMost, IsSafeFrom}
use Rattle.world_model.proofs.Facts.{Facts}
use Rattle.world_model.proofs.FactsHold.{facts_of_system}
use Rattle.world_model.proofs.Legal.{IsGrounded, system_of_grounded}
use Rattle.world_model.proofs.Moments.{Begins as IsBeginning}
use Rattle.agreement.specs.Agree.{DescendsFromCommitted}
use Rattle.agreement.proofs.Lineage.{descends_trans, descends_id}
use Rattle.policy_model.specs.declared.settings.Settings.{Settings}
use Rattle.policy_model.specs.declared.events.Event.{Event}
use Rattle.policy_model.specs.Entries.{Life, NotBegun, Lived, Did, Gone, Bad, NoMemory, Unread}
use Rattle.client_guarantees.specs.Asked.{setting_under, setting_after}
use Rattle.client_guarantees.specs.Processed.{CameBy}
use Rattle.client_guarantees.specs.InTime.{IsMadeAbove, IsPublishedSince, IsSettled, AnswersFollowTime}
use Rattle.client_guarantees.proofs.Backing.{IsPublishedAt, IsUnique, unique, value_published}
use Rattle.system_laws.specs.Systems.{System, Nothing, Starts, Lives, Dies, history_of}
use Rattle.linearizability.specs.Linearizations.{Operation, Came, Response, Sent, IsUpTo, Precedes, IsReplyTo, register_after, IsRight, IsDone, AreApart, HasItsPlace, IsLinearization, IsLinearizable}
use Rattle.linearizability.proofs.Moments.{upto-prefix, came-upto}
use Rattle.linearizability.proofs.Accounts.{IsIn, each-in, Op, IsOp, AreOnce, after_ops, Account}
use Rattle.linearizability.proofs.Newest.{contains-in, committed-within, descends-within, Newest, None_committed, Is_newest, newest}
use Rattle.linearizability.proofs.Ordering.{chain_of, Chain, order_of, ordered, chain-has, once-order, Stands, IsOlder, stands}
use Rattle.linearizability.proofs.Places.{Speaks}

-- ---- the requests as clients know them

abbrev operations_of : List Op → List Operation
operations_of [] = []
operations_of (k ∷ ks) = k.operation ∷ operations_of ks

operations-append : (xs ys : List Op) → operations_of (xs ++ ys) ≡ operations_of xs ++ operations_of ys
operations-append [] ys = refl
operations-append (x ∷ xs) ys = ap (λ (zs : List Operation). x.operation ∷ zs) (operations-append xs ys)

record IsOneOf (ks : List Op) (o : Operation) : Type 0 where
  op : Op
  is_in : IsIn ks op
  is : op.operation ≡ o

one-of-them : (ks : List Op) (o : Operation) → IsIn (operations_of ks) o → IsOneOf ks o
one-of-them [] o i = absurd i
one-of-them (k ∷ ks) o (inl e) = record { op = k; is_in = inl refl; is = sym e }
one-of-them (k ∷ ks) o (inr i) = let r = one-of-them ks o i in record { op = r.op; is_in = inr r.is_in; is = r.is }

all-came : (h : System) (ks : List Op) → ((k : Op) → IsIn ks k → Came h k.operation) → All (λ o. Came h o) (operations_of ks)
all-came h [] f = All-nil (λ o. Came h o)
all-came h (k ∷ ks) f = All-cons (λ o. Came h o) k.operation (operations_of ks) (f k (inl refl)) (all-came h ks (λ j i. f j (inr i)))

apart : (ks : List Op) → AreOnce ks → AreApart (operations_of ks)
apart [] o = tt
apart (k ∷ ks) o = (
  (λ p c e. let r = one-of-them ks p (contains-in (operations_of ks) p c) in o.0 r.op r.is_in (ap (λ (x : Operation). x.came) r.is ∙ e)),
  apart ks o.1,
)

registers : (key : List ℕ) (o : Option (List ℕ)) (ks : List Op) → after_ops key o ks ≡ register_after key o (operations_of ks)
registers key o [] = refl
registers key o (k ∷ ks) = registers key (setting_after key o k.operation.request.ask) ks

-- ---- the line of a request

record IsRead (conn : ℕ) (request : Request) : Type 0 where
  event : Event
  line : CameBy event conn request

line-of : (h : System) (o : Operation) → Came h o → IsRead o.conn o.request
line-of Nothing o c = absurd c
line-of (Starts h s found) o c = line-of h o c
line-of (Lives h n (Did event items)) o (inl l) = record { event = event; line = l.line }
line-of (Lives h n (Did event items)) o (inr c) = line-of h o c
line-of (Lives h n (Gone conn)) o c = line-of h o c
line-of (Lives h n (Bad conn fault)) o c = line-of h o c
line-of (Lives h n NoMemory) o c = line-of h o c
line-of (Lives h n (Unread conn)) o c = line-of h o c
line-of (Dies h n event items) o (inl l) = record { event = event; line = l.line }
line-of (Dies h n event items) o (inr c) = line-of h o c

-- ---- what a reply tells

-- the state is committed, or one that was made of it
record IsKnown (h : History) (state : ClusterState) : Type 0 where
  committed : Published
  is_committed : IsCommitted h committed
  descends : Descends h state committed.state

known : (h : History) (state : ClusterState) (asked : Ask) (a : Answer) → IsDone a → Speaks h state asked a → IsKnown h state
known h state asked (answer.Acked id) done s = record { committed = s.acked; is_committed = s.is_committed; descends = s.descends }
known h state asked (answer.State shown) done s =
    let c = s.committed in
    record {
      committed = c.as_published;
      is_committed = c.is_committed;
      descends = subst (Descends h state) (s.same ∙ sym c.is_state) Itself;
    }
known h state asked other done s = absurd done

-- A reply to a request that was processed into this published state, as it is known by then.
pub record IsPlaced (h : System) (ops : List Op) (r : Response) : Type 0 where
  pub op : Op
  pub is_in : IsIn ops op
  pub replied : IsReplyTo op.operation r
  pub sent : IsUpTo r.sent h
  pub as_published : Published
  pub is_published : Contains (published (history_of h)) as_published
  pub is_id : id_of as_published.state ≡ op.id
  pub speaks : Speaks (history_of r.sent) as_published.state op.operation.request.ask r.answer

-- ---- the order

module _ (h : System) (root : ClusterState) (grounded : IsGrounded root (history_of h)) (safe : IsSafeFrom root (history_of h)) (descends : DescendsFromCommitted (history_of h))
    (follow : AnswersFollowTime (history_of h)) (a : Account h) where
  facts : Facts (history_of h) root
  facts = facts_of_system (history_of h) root (system_of_grounded root (history_of h) grounded)

  one : IsUnique (history_of h)
  one = unique (history_of h) root (system_of_grounded root (history_of h) grounded)

  -- the state of a request is above each one that was committed as its line came
  above : (k : Op) → IsOp h (history_of h) k → (q : Published) → k.id ≡ id_of q.state → IsSettled (history_of h) q.state
      → (c : Published) → IsCommitted (history_of k.operation.came) c → IsMadeAbove (history_of h) c.state q.state
  above k o q is_id settled c committed =
      follow s before life k.operation.conn k.operation.request k.id since q.state (sym is_id) settled (history_of k.operation.came)
      (record { part = upto-prefix k.operation.came h (came-upto h k.operation o.came); acts = refl }) c committed
    where
      s : Settings
      s = record o.run.settings { me = k.operation.node }

      before : NodeHistory
      before = node_history (history_of k.operation.came) k.operation.node

      line : IsRead k.operation.conn k.operation.request
      line = line-of h k.operation o.came

      life : Life
      life = Lived NotBegun (Did line.event [])

      was : IsPublishedAt (history_of h) k.operation.node o.inner o.version o.config o.value
      was = value_published (history_of h) root (system_of_grounded root (history_of h) grounded) k.operation.node o.inner o.version o.config o.value o.sends o.wins o.took

      since : IsPublishedSince (history_of h) s before life k.operation.conn k.operation.request k.id
      since = record {
        so_far = NotBegun;
        came = inl (line.line, refl);
        as_published = was.as_published;
        is_in = was.is_in;
        publisher = was.publisher;
        is_id = ap id_of was.is_state ∙ sym o.is_id;
        not_yet = λ moment m p i e. was.not_yet moment m.part (subst (λ (x : NodeHistory). IsBeginning x o.inner) (sym m.acts) o.before) p i (e ∙ o.is_id);
      }

  not-both : (c q : ClusterState) → IsMadeAbove (history_of h) c q → IsAtMost q c → ⊥
  not-both c q m low = no m.above low
    where
      no : (c.term < q.term) ⊎ ((q.term ≡ c.term) × (c.version < q.version)) → IsAtMost q c → ⊥
      no (inl x) (inl y) = absurd (omega (arith, x, y))
      no (inl x) (inr y) = let e = y.0 in absurd (omega (arith, x, e))
      no (inr x) (inl y) = let e = x.0 in absurd (omega (arith, e, y))
      no (inr x) (inr y) = let u = x.1 in let v = y.1 in absurd (omega (arith, u, v))

  abbrev first : List Setting
  first = root.value.settings

  right : (ps : List Published) (p : Published) (k : Op) (st : Stands (history_of h) root a.ops ps p k) (g : History) (x : Answer) → IsDone x → Speaks g p.state k.operation.request.ask x
      → IsRight first (operations_of st.earlier) k.operation x
  right ps p k st g (answer.Acked id) done s = s.no_read
  right ps p k st g (answer.State shown) done s = (
    s.is_read,
    (λ key.
        ap (λ (y : ClusterState). setting_under key y.value.settings) (sym s.same)
        ∙ sym (st.shown (rw s.is_read refl) key)
        ∙ registers key (setting_under key first) st.earlier),
  )
  right ps p k st g other done s = absurd done

  module _ (newest : Published) (is_newest : IsCommitted (history_of h) newest) (last : (c : Published) → IsCommitted (history_of h) c → IsAtMost c.state newest.state)
      (chain : Chain (history_of h) root newest.state) where
    has-its-place : (r : Response) → IsDone r.answer → IsPlaced h a.ops r → HasItsPlace first (operations_of (order_of a.ops chain.states)) r
    has-its-place r done pl = record {
      earlier = operations_of there.earlier;
      operation = pl.op.operation;
      later = operations_of there.later;
      is_there = ap operations_of there.is_there ∙ operations-append there.earlier (pl.op ∷ there.later);
      replied = pl.replied;
      right = right chain.states pl.as_published pl.op there (history_of r.sent) r.answer done pl.speaks;
      in_time = λ o c before. late o (one-of-them there.earlier o (contains-in (operations_of there.earlier) o c)) before;
    }
      where
        k : IsKnown (history_of r.sent) pl.as_published.state
        k = known (history_of r.sent) pl.as_published.state pl.op.operation.request.ask r.answer done pl.speaks

        prefix : IsPrefix (history_of r.sent) (history_of h)
        prefix = upto-prefix r.sent h pl.sent

        committed : IsCommitted (history_of h) k.committed
        committed = committed-within (history_of r.sent) (history_of h) prefix k.committed k.is_committed

        to-committed : Descends (history_of h) pl.as_published.state k.committed.state
        to-committed = descends-within (history_of r.sent) (history_of h) prefix pl.as_published.state k.committed.state k.descends

        to-newest : Descends (history_of h) pl.as_published.state newest.state
        to-newest = descends_trans (descends newest k.committed is_newest.0 committed (last k.committed committed)) to-committed

        there : Stands (history_of h) root a.ops chain.states pl.as_published pl.op
        there =
            stands (history_of h) root facts one a.ops a.folds newest.state chain.states chain.is pl.as_published
            (chain-has (history_of h) root facts one newest.state chain.states chain.is pl.as_published pl.is_published to-newest) pl.op pl.is_in (sym pl.is_id)

        late : (o : Operation) → IsOneOf there.earlier o → Precedes r o → ⊥
        late o x before =
            let old : IsOlder (history_of h) a.ops pl.as_published x.op = there.before x.op x.is_in in
            let to : Descends (history_of h) old.state.state k.committed.state = descends_trans to-committed old.descends in
            let came : IsUpTo r.sent x.op.operation.came = subst (λ (y : Operation). IsUpTo r.sent y.came) (sym x.is) before in
            not-both k.committed.state old.state.state
            (above x.op (each-in (IsOp h (history_of h)) a.ops x.op a.each old.is_in) old.state old.is_id
            (record { as_published = k.committed; is_committed = committed; descends = to }) k.committed
            (committed-within (history_of r.sent) (history_of x.op.operation.came) (upto-prefix r.sent x.op.operation.came came) k.committed k.is_committed))
            (descends_id facts to)

    ordering : ((r : Response) → Sent h r → IsDone r.answer → IsPlaced h a.ops r) → IsLinearization h first (operations_of (order_of a.ops chain.states))
    ordering placed = record {
      came = all-came h (order_of a.ops chain.states) (λ k i. (each-in (IsOp h (history_of h)) a.ops k a.each (ordered a.ops chain.states k i).is_in).came);
      once = apart (order_of a.ops chain.states) (once-order (history_of h) root facts one a.ops a.once newest.state chain.states chain.is);
      replies = λ r s done. has-its-place r done (placed r s done);
    }

  pub linear : ((r : Response) → Sent h r → IsDone r.answer → IsPlaced h a.ops r) → IsLinearizable h root.value.settings
  linear placed = from (newest (history_of h))
    where
      nothing : ((c : Published) → IsIn (published (history_of h)) c → IsCommitted (history_of h) c → ⊥) → (r : Response) → IsDone r.answer → IsPlaced h a.ops r → ⊥
      nothing none r done pl =
          let k = known (history_of r.sent) pl.as_published.state pl.op.operation.request.ask r.answer done pl.speaks in
          let c = committed-within (history_of r.sent) (history_of h) (upto-prefix r.sent h pl.sent) k.committed k.is_committed in
          none k.committed (contains-in (published (history_of h)) k.committed c.0) c

      from : Newest (history_of h) (published (history_of h)) → IsLinearizable h root.value.settings
      from (None_committed none) = record {
        order = [];
        is = record { came = All-nil (λ o. Came h o); once = tt; replies = λ r s done. absurd (nothing none r done (placed r s done)) };
      }
      from (Is_newest m is low) =
          let chain : Chain (history_of h) root m.state = chain_of (history_of h) root m.state (safe.from_root m is) in
          record {
            order = operations_of (order_of a.ops chain.states);
            is = ordering m is (λ c k. low c (contains-in (published (history_of h)) c k.0) k) chain placed;
          }
