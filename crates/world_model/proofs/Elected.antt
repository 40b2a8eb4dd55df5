-- The wins of a node and the states that it published.
use Rattle.std.proofs.Common.{◌≡◌, ◌≤◌, ◌<◌, Bool, true, false, Option, Some, refl, sym, ◌∙◌, ap, subst, arith, ◌⊎◌, inl, inr}
use Rattle.std.proofs.lemmas.Bool.{and_parts, not-true}
use Rattle.voting_config.specs.Ids.{Id, with_id}
use Rattle.cluster_state.specs.declared.state.ClusterState.{ClusterState}
use Rattle.cluster_state.specs.declared.messages.Join.{Join}
use Rattle.cluster_state.specs.declared.messages.PublishRequest.{PublishRequest}
use Rattle.world_model.specs.Acts.{Act, NodeHistory, Message, TakeJoin, Value, Then, PublishMessage}
use Rattle.world_model.specs.NodeState.{node_state, term_of, accepted_of, join_votes_of, election_won_of}
use Rattle.world_model.specs.Replies.{elects}
use Rattle.world_model.proofs.Guards.{Joined, join_guard}
use Rattle.world_model.proofs.Moments.{Begins, begins_before, acts_order, IsSent}
use Rattle.world_model.proofs.System.{IsExecution, IsSystem, execution_before, IsUp, taken_up, PublishBy, sent_at}
use Rattle.world_model.proofs.Rounds.{ok, WonAt, won_later, WonIn, won_has_win, fresh, last_values}

-- the moment b of a win, with what is known then
pub record Winning (D : Id → NodeHistory) (root : ClusterState) (n : Id) (b : NodeHistory) : Type 0 where
  pub join : Join
  pub sends : Option Message
  pub flag : Bool
  pub is_in : Begins (Then b (TakeJoin join) (ok sends flag)) (D n)
  pub execution : IsExecution D root n b
  pub now : IsExecution D root n (Then b (TakeJoin join) (ok sends flag))
  pub up : IsUp b
  pub guard : Joined n b join sends flag
  pub not_yet : election_won_of b ≡ false
  pub quorums : elects (node_state b) (with_id join.source (join_votes_of b)) ≡ true

-- the moment before a state was published, with what is known then
pub record Valuing (D : Id → NodeHistory) (root : ClusterState) (n : Id) (r : PublishRequest) : Type 0 where
  pub before : NodeHistory
  pub flag : Bool
  pub is_in : Begins (Then before (Value r.state.version r.state.config r.state.value) (ok (Some (PublishMessage r)) flag)) (D n)
  pub execution : IsExecution D root n before
  pub now : IsExecution D root n (Then before (Value r.state.version r.state.config r.state.value) (ok (Some (PublishMessage r)) flag))
  pub up : IsUp before
  pub act : Act
  pub by : PublishBy n before r act

module _ (D : Id → NodeHistory) (root : ClusterState) (W : IsSystem D root) (n : Id) where
  pub winning : (b : NodeHistory) → WonAt b (D n) → Winning D root n b
  winning b w =
      let both = execution_before D root n _ (D n) (W n) w.is_in in
      let guard = join_guard n b w.join w.sends w.flag both.1.follows.follows in
      let won = and_parts _ _ (sym guard.flag ∙ w.is_win) in
      record {
        join = w.join;
        sends = w.sends;
        flag = w.flag;
        is_in = w.is_in;
        execution = both.0;
        now = both;
        guard = guard;
        up = taken_up n b (TakeJoin w.join) _ both.1.follows refl guard.runs;
        not_yet = not-true _ won.0;
        quorums = won.1;
      }

  pub valuing_at : (g : NodeHistory) (a : Act) (r : PublishRequest) (flag : Bool) → Begins (Then g a (ok (Some (PublishMessage r)) flag)) (D n) → PublishBy n g r a → (v : Valuing D root n r) × (v.before ≡ g)
  valuing_at g a r flag h by =
      let is_in = subst (λ (x : Act). Begins (Then g x (ok (Some (PublishMessage r)) flag)) (D n)) by.act_is h in
      let both = execution_before D root n _ (D n) (W n) is_in in (
        record {
          before = g;
          flag = flag;
          is_in = is_in;
          execution = both.0;
          now = both;
          up = taken_up n g (Value r.state.version r.state.config r.state.value) _ both.1.follows refl by.runs;
          act = a;
          by = by;
        },
        refl,
      )

  pub valuing : (r : PublishRequest) → IsSent (D n) (PublishMessage r) → Valuing D root n r
  valuing r s =
      let at = sent_at D root n (D n) (PublishMessage r) (W n) s in
      (valuing_at at.before at.act r at.flag at.is_in at.origin_is).0

  pub win_once : (b c : NodeHistory) → WonAt b (D n) → WonAt c (D n) → term_of b ≡ term_of c → b ≡ c
  win_once b c v w e = from (acts_order b c (D n) _ _ _ _ v.is_in w.is_in)
    where
      later : (b c : NodeHistory) (v : WonAt b (D n)) → WonAt c (D n) → Begins (Then b (TakeJoin v.join) (ok v.sends v.flag)) c → term_of b < term_of c
      later b c v w h =
          let k = winning c w in
          (fresh D root W n c k.execution k.up k.guard.started k.not_yet).0 b (record { join = v.join; sends = v.sends; flag = v.flag; is_in = h; is_win = v.is_win })

      from : (Then b (TakeJoin v.join) (ok v.sends v.flag) ≡ Then c (TakeJoin w.join) (ok w.sends w.flag))
          ⊎ (Begins (Then b (TakeJoin v.join) (ok v.sends v.flag)) c ⊎ Begins (Then c (TakeJoin w.join) (ok w.sends w.flag)) b) → b ≡ c
      from (inl h) = cc
      from (inr (inl h)) = let less = later b c v w h in absurd (omega arith)
      from (inr (inr h)) = let less = later c b w v h in absurd (omega arith)

  -- a later value of the term has a greater version
  value_later : (q r : PublishRequest) (v : Valuing D root n r) → IsSent v.before (PublishMessage q) → q.state.term ≡ r.state.term → q.state.version < r.state.version
  value_later q r v s e =
      let w = won_has_win D root W n v.before v.execution v.up v.by.won in
      let l = last_values D root W n v.before v.execution v.up v.by.won w.before w.won w.same_term in
      let k = l.within q s (e ∙ v.by.term_is) in
      omega (arith, k.1, v.by.above)

  -- two publications of one term: one, or in order
  value_order : (q r : PublishRequest) (u : Valuing D root n q) (v : Valuing D root n r) → ((u.before ≡ v.before) × (q ≡ r)) ⊎ (IsSent v.before (PublishMessage q) ⊎ IsSent u.before (PublishMessage r))
  value_order q r u v = from (acts_order _ _ (D n) _ _ _ _ u.is_in v.is_in)
    where
      from : (Then u.before (Value q.state.version q.state.config q.state.value) (ok (Some (PublishMessage q)) u.flag) ≡ Then v.before (Value r.state.version r.state.config r.state.value) (ok (Some (PublishMessage r)) v.flag))
          ⊎ (Begins (Then u.before (Value q.state.version q.state.config q.state.value) (ok (Some (PublishMessage q)) u.flag)) v.before
          ⊎ Begins (Then v.before (Value r.state.version r.state.config r.state.value) (ok (Some (PublishMessage r)) v.flag)) u.before)
          → ((u.before ≡ v.before) × (q ≡ r)) ⊎ (IsSent v.before (PublishMessage q) ⊎ IsSent u.before (PublishMessage r))
      from (inl h) = inl ((cc), (cc))
      from (inr (inl h)) = inr (inl (record { before = u.before; act = Value q.state.version q.state.config q.state.value; flag = u.flag; is_in = h }))
      from (inr (inr h)) = inr (inr (record { before = v.before; act = Value r.state.version r.state.config r.state.value; flag = v.flag; is_in = h }))

  pub value_once : (q r : PublishRequest) (u : Valuing D root n q) (v : Valuing D root n r) → q.state.term ≡ r.state.term → q.state.version ≡ r.state.version → (u.before ≡ v.before) × (q ≡ r)
  value_once q r u v e i = from (value_order q r u v)
    where
      from : ((u.before ≡ v.before) × (q ≡ r)) ⊎ (IsSent v.before (PublishMessage q) ⊎ IsSent u.before (PublishMessage r)) → (u.before ≡ v.before) × (q ≡ r)
      from (inl h) = h
      from (inr (inl h)) = let less = value_later q r v h e in absurd (omega arith)
      from (inr (inr h)) = let less = value_later r q u h (sym e) in absurd (omega arith)

  pub value_gap : (p q : PublishRequest) (u : Valuing D root n p) (v : Valuing D root n q) → p.state.term ≡ q.state.term → q.state.version < p.state.version
      → ((accepted_of u.before).term ≡ p.state.term) × (q.state.version ≤ (accepted_of u.before).version)
  value_gap p q u v e less = from (value_order p q u v)
    where
      follows : (w : WonIn u.before (term_of u.before) (accepted_of u.before)) → (accepted_of w.before).version < (accepted_of u.before).version
          → (accepted_of u.before ≡ accepted_of w.before) ⊎ ((accepted_of u.before).term ≡ term_of u.before) → (accepted_of u.before).term ≡ p.state.term
      follows w h (inl k) = let same : (accepted_of u.before).version ≡ (accepted_of w.before).version = ap (λ (s : ClusterState). s.version) k in absurd (omega arith)
      follows w h (inr k) = k ∙ sym u.by.term_is

      from : ((u.before ≡ v.before) × (p ≡ q)) ⊎ (IsSent v.before (PublishMessage p) ⊎ IsSent u.before (PublishMessage q)) → ((accepted_of u.before).term ≡ p.state.term) × (q.state.version ≤ (accepted_of u.before).version)
      from (inl h) = let same : p.state.version ≡ q.state.version = ap (λ (r : PublishRequest). r.state.version) h.1 in absurd (omega arith)
      from (inr (inl h)) = let more = value_later p q v h e in absurd (omega arith)
      from (inr (inr h)) =
          let w = won_has_win D root W n u.before u.execution u.up u.by.won in
          let l = last_values D root W n u.before u.execution u.up u.by.won w.before w.won w.same_term in
          let k = l.within q h (sym e ∙ u.by.term_is) in
          (follows w (omega (arith, k.0, k.1, u.by.settled)) w.follows, omega (arith, k.1, u.by.settled))

  -- what is published in a term is above the state on which the term was won
  pub value_above_win : (b : NodeHistory) (r : PublishRequest) → WonAt b (D n) → IsSent (D n) (PublishMessage r) → r.state.term ≡ term_of b → (accepted_of b).version < r.state.version
  value_above_win b r w s e =
      let v = valuing r s in
      let x = won_has_win D root W n v.before v.execution v.up v.by.won in
      let l = last_values D root W n v.before v.execution v.up v.by.won x.before x.won x.same_term in
      let one = win_once x.before b (won_later x.before v.before (D n) (begins_before _ _ _ _ v.is_in) x.won) w (x.same_term ∙ sym v.by.term_is ∙ e) in
      let same : (accepted_of x.before).version ≡ (accepted_of b).version = ap (λ (g : NodeHistory). (accepted_of g).version) one in
      omega (arith, l.low, v.by.above)
