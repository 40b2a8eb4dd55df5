-- The joins of a node: one a term, each telling of all that it had accepted.
use Rattle.std.proofs.Common.{◌≡◌, ◌≤◌, ◌<◌, Bool, Option, Some, refl, subst, arith, ◌⊎◌, inl, inr}
use Rattle.voting_config.specs.Ids.{Id}
use Rattle.cluster_state.specs.declared.state.ClusterState.{ClusterState}
use Rattle.cluster_state.specs.declared.messages.Join.{Join}
use Rattle.cluster_state.specs.declared.messages.PublishRequest.{PublishRequest}
use Rattle.world_model.specs.Acts.{Act, NodeHistory, Message, StartJoin, Publish, Then, Taken, Answered, JoinMessage}
use Rattle.world_model.specs.NodeState.{term_of, accepted_of}
use Rattle.world_model.specs.Safety.{IsIdAtMost}
use Rattle.world_model.proofs.Guards.{publish_guard}
use Rattle.world_model.proofs.Moments.{Begins, begins_before, acts_order, IsSent}
use Rattle.world_model.proofs.System.{IsExecution, IsSystem, execution_before, sent_at}
use Rattle.world_model.proofs.Durable.{term_grows, accepted_grows}

-- g answered the publication
pub record Took (g : NodeHistory) (request : PublishRequest) : Type 0 where
  pub before : NodeHistory
  pub sends : Option Message
  pub flag : Bool
  pub is_in : Begins (Then before (Publish request) (Answered (Taken sends flag))) g

-- g started the join
pub record JoinedAt (g : NodeHistory) (j : Join) : Type 0 where
  pub before : NodeHistory
  pub flag : Bool
  pub is_in : Begins (Then before (StartJoin j.target j.term) (Answered (Taken (Some (JoinMessage j)) flag))) g
  pub above : term_of before < j.term
  pub last_term_is : j.last_term ≡ (accepted_of before).term
  pub last_version_is : j.last_version ≡ (accepted_of before).version

module _ (D : Id → NodeHistory) (root : ClusterState) (W : IsSystem D root) where
  pub joined_at : (k : Id) (j : Join) → IsSent (D k) (JoinMessage j) → JoinedAt (D k) j
  joined_at k j s =
      let at = sent_at D root k (D k) (JoinMessage j) (W k) s in
      record {
        before = at.before;
        flag = at.flag;
        is_in = subst (λ (a : Act). Begins (Then at.before a (Answered (Taken (Some (JoinMessage j)) at.flag))) (D k)) at.origin_is.act_is at.is_in;
        above = at.origin_is.above;
        last_term_is = at.origin_is.last_term_is;
        last_version_is = at.origin_is.last_version_is;
      }

  -- after a join the term is at least the join's
  after_join : (k : Id) (j : Join) (m : JoinedAt (D k) j) (q : NodeHistory) → IsExecution D root k q → Begins (Then m.before (StartJoin j.target j.term) (Answered (Taken (Some (JoinMessage j)) m.flag))) q → j.term ≤ term_of q
  after_join k j m q f b =
      let grown = term_grows _ q b refl in
      omega arith

  pub join_once : (n : Id) (j k : Join) → IsSent (D n) (JoinMessage j) → IsSent (D n) (JoinMessage k) → j.term ≡ k.term → j.target ≡ k.target
  join_once n j k s t e =
      let m = joined_at n j s in
      let o = joined_at n k t in
      from m o (acts_order _ _ (D n) _ _ _ _ m.is_in o.is_in)
    where
      from : (m : JoinedAt (D n) j) (o : JoinedAt (D n) k)
          → (Then m.before (StartJoin j.target j.term) (Answered (Taken (Some (JoinMessage j)) m.flag)) ≡ Then o.before (StartJoin k.target k.term) (Answered (Taken (Some (JoinMessage k)) o.flag)))
          ⊎ (Begins (Then m.before (StartJoin j.target j.term) (Answered (Taken (Some (JoinMessage j)) m.flag))) o.before
          ⊎ Begins (Then o.before (StartJoin k.target k.term) (Answered (Taken (Some (JoinMessage k)) o.flag))) m.before)
          → j.target ≡ k.target
      from m o (inl h) = cc
      from m o (inr (inl h)) = absurd (omega (arith, after_join n j m o.before (execution_before D root n _ (D n) (W n) (begins_before _ _ _ _ o.is_in)) h, o.above))
      from m o (inr (inr h)) = absurd (omega (arith, after_join n k o m.before (execution_before D root n _ (D n) (W n) (begins_before _ _ _ _ m.is_in)) h, m.above))

  pub join_carries : (n : Id) (r : PublishRequest) (j : Join) → Took (D n) r → IsSent (D n) (JoinMessage j) → r.state.term < j.term → IsIdAtMost r.state.term r.state.version j.last_term j.last_version
  join_carries n r j t s less =
      let m = joined_at n j s in
      from m (acts_order _ _ (D n) _ _ _ _ t.is_in m.is_in)
    where
      from : (m : JoinedAt (D n) j)
          → (Then t.before (Publish r) (Answered (Taken t.sends t.flag)) ≡ Then m.before (StartJoin j.target j.term) (Answered (Taken (Some (JoinMessage j)) m.flag)))
          ⊎ (Begins (Then t.before (Publish r) (Answered (Taken t.sends t.flag))) m.before
          ⊎ Begins (Then m.before (StartJoin j.target j.term) (Answered (Taken (Some (JoinMessage j)) m.flag))) t.before)
          → IsIdAtMost r.state.term r.state.version j.last_term j.last_version
      from m (inl h) = cc
      from m (inr (inl h)) =
          let grown = accepted_grows D root W n _ m.before (execution_before D root n _ (D n) (W n) (begins_before _ _ _ _ m.is_in)) h refl in
          rw (m.last_term_is, m.last_version_is) grown
      from m (inr (inr h)) =
          let both = execution_before D root n _ (D n) (W n) t.is_in in
          let grown = after_join n j m t.before both.0 h in
          let guard = publish_guard n t.before r _ _ both.1.follows.follows in
          absurd (omega (arith, guard.now))
