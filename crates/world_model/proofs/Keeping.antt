-- A node never loses a term or a state that it answered for.
use Rattle.std.proofs.Common.{◌≡◌, ◌≢◌, ℕ, ◌≤◌, ◌<◌, Bool, false, cond, Option, List, [], refl, sym, ap, subst, arith, ◌⊎◌, inl, inr}
use Rattle.std.proofs.lemmas.Bool.{cond_both, cases_order}
use Rattle.voting_config.specs.Ids.{Id}
use Rattle.cluster_state.specs.declared.state.ClusterState.{ClusterState}
use Rattle.cluster_state.specs.declared.state.Kept.{Kept}
use Rattle.cluster_state.specs.declared.messages.PublishRequest.{PublishRequest}
use Rattle.world_model.specs.Acts.{Act, Outcome, NodeHistory, Message, Bootstrap, StartJoin, Publish, Open, NoActs, Then, Taken, Answered, is_effective, is_first}
use Rattle.world_model.specs.NodeState.{term_of, accepted_of, durable_of, initial_state}
use Rattle.world_model.specs.Histories.{MayFollow}
use Rattle.world_model.proofs.Guards.{boot_guard, publish_guard, kept_is_taken}
use Rattle.world_model.proofs.Moments.{Begins, begins_self, begins_before, done_is_not_first}
use Rattle.world_model.proofs.System.{IsExecution, IsSystem}
use Rattle.world_model.proofs.Durable.{term_grows, request_named}
use Rattle.world_model.proofs.StateIds.{IsBelow}
use Rattle.world_model.specs.Histories.{History, Next, node_history, IsLocal, IsLegal, ContinuesUnlessFirst}
use Rattle.world_model.specs.Safety.{IsAtMost, HoldsState, Holds, HoldsAll, HoldsAnswers}
use Rattle.world_model.specs.Local.{NamesConfigs}
use Rattle.world_model.proofs.System.{Opens}
use Rattle.world_model.proofs.Legal.{IsGrounded, system_of_grounded, grounded_before, grounded_of_legal}

-- what holds once the node accepted the publication of s
pub record Since (s : ClusterState) (term : ℕ) (accepted : ClusterState) : Type 0 where
  pub below : accepted.term ≤ term
  pub named : accepted.config ≢ []
  pub held : (accepted ≡ s) ⊎ IsBelow s accepted

-- a newer state is above what was held
newer_held : (s a x : ClusterState) (now : ℕ) → (a ≡ s) ⊎ IsBelow s a → x.term ≡ now → (x.term ≡ a.term → a.version < x.version) → a.term ≤ now
    → (x ≡ s) ⊎ IsBelow s x
newer_held s a x now h e newer below = inr (from h (cases_order a.term x.term))
  where
    from : (a ≡ s) ⊎ IsBelow s a → ((a.term ≡ x.term) ⊎ ((a.term < x.term) ⊎ (x.term < a.term)))
        → IsBelow s x
    from k (inr (inr m)) = absurd (omega arith)
    from (inl k) (inl m) =
        let term : a.term ≡ s.term = ap (λ (y : ClusterState). y.term) k in
        let version : a.version ≡ s.version = ap (λ (y : ClusterState). y.version) k in
        let more = newer (sym m) in
        inr ((omega arith), (omega arith))
    from (inl k) (inr (inl m)) = let term : a.term ≡ s.term = ap (λ (y : ClusterState). y.term) k in inl (omega arith)
    from (inr (inl k)) (inl m) = inl (omega arith)
    from (inr (inl k)) (inr (inl m)) = inl (omega arith)
    from (inr (inr k)) (inl m) = let more = newer (sym m) in inr ((omega (arith, k.0)), (omega (arith, k.1)))
    from (inr (inr k)) (inr (inl m)) = inl (omega (arith, k.0))

-- one more act
since_step : (me : Id) (g : NodeHistory) (a : Act) (o : Outcome) (s : ClusterState) → MayFollow me g a o → NamesConfigs (Then g a o) → is_first g ≡ false
    → Since s (term_of g) (accepted_of g) → Since s (term_of (Then g a o)) (accepted_of (Then g a o))
since_step me g (Bootstrap c) o s m n h i =
    cond_both (is_effective o) (initial_state c) (accepted_of g) (Since s (term_of g))
    (λ e. let k = kept_is_taken me g (Bootstrap c) o m.follows e in absurd (i.named (boot_guard me g c k.0 k.1 k.2).empty))
    (λ e. i)
since_step me g (StartJoin c t) o s m n h i =
    let grown = term_grows g (Then g (StartJoin c t) o) (inr (begins_self g)) h in
    record { below = omega (arith, i.below); named = i.named; held = i.held }
since_step me g (Publish r) o s m n h i =
    cond_both (is_effective o) r.state (accepted_of g) (Since s (term_of g))
    (λ e.
    let k = kept_is_taken me g (Publish r) o m.follows e in
    let guard = publish_guard me g r k.0 k.1 k.2 in
    record { below = omega (arith, guard.now); named = n.1 e; held = newer_held s (accepted_of g) r.state (term_of g) i.held guard.now guard.newer i.below })
    (λ e. i)
since_step me g (Open found) o s m n h i =
    subst (λ (b : Bool). Since s (cond b found.term (term_of g)) (cond b found.accepted (accepted_of g))) (sym h) i
since_step me g a o s m n h i = i

names_before : (g : NodeHistory) (a : Act) (o : Outcome) → NamesConfigs (Then g a o) → NamesConfigs g
names_before g (Publish r) o n = n.0
names_before g a o n = n

-- from the acceptance on
since : (me : Id) (p : NodeHistory) (r : PublishRequest) (s : Option Message) (w : Bool) (g : NodeHistory) → IsLocal me g → NamesConfigs g → Begins (Then p (Publish r) (Answered (Taken s w))) g
    → Since r.state (term_of g) (accepted_of g)
since me p r s w NoActs l n b = cc
since me p r s w (Then g a o) l n (inl e) =
    subst (λ (x : NodeHistory). Since r.state (term_of x) (accepted_of x)) e
    (let here : IsLocal me (Then p (Publish r) (Answered (Taken s w))) = subst (IsLocal me) (sym e) l in
    let named : NamesConfigs (Then p (Publish r) (Answered (Taken s w))) = subst NamesConfigs (sym e) n in
    let guard = publish_guard me p r s w here.1.follows in
    record { below = omega (arith, guard.now); named = named.1 refl; held = inl refl })
since me p r s w (Then g a o) l n (inr b) =
    since_step me g a o r.state l.1 n (done_is_not_first p g _ _ b) (since me p r s w g l.0 (names_before g a o n) b)

holds_state : (g : NodeHistory) (s : ClusterState) → Since s (term_of g) (accepted_of g) → HoldsState (durable_of g) s
holds_state g s i = (at_least i.held, equal i.held)
  where
    at_least : (accepted_of g ≡ s) ⊎ IsBelow s (accepted_of g) → IsAtMost s (accepted_of g)
    at_least (inl e) = inr (ap (λ (x : ClusterState). x.term) e, (let v : (accepted_of g).version ≡ s.version = ap (λ (x : ClusterState). x.version) e in omega arith))
    at_least (inr (inl h)) = inl h
    at_least (inr (inr h)) = inr (h.0, (omega (arith, h.1)))

    equal : (accepted_of g ≡ s) ⊎ IsBelow s (accepted_of g) → (accepted_of g).term ≡ s.term → (accepted_of g).version ≡ s.version → accepted_of g ≡ s
    equal (inl e) t v = e
    equal (inr (inl h)) t v = absurd (omega arith)
    equal (inr (inr h)) t v = absurd (omega (arith, h.1))

-- what was answered for is kept
keeps : (me : Id) (p : NodeHistory) (a : Act) (o : Outcome) (g : NodeHistory) → IsLocal me g → NamesConfigs g → Begins (Then p a o) g → Holds (durable_of g) a o
keeps me p (StartJoin c t) (Answered (Taken s w)) g l n b = let grown = term_grows _ g b refl in omega arith
keeps me p (Publish r) (Answered (Taken s w)) g l n b = holds_state g r.state (since me p r s w g l n b)
keeps me p a o g l n b = tt

keeps_all : (me : Id) (p g : NodeHistory) → IsLocal me g → NamesConfigs g → Begins p g → HoldsAll (durable_of g) p
keeps_all me NoActs g l n b = tt
keeps_all me (Then p a o) g l n b = (keeps_all me p g l n (begins_before p g a o b), keeps me p a o g l n b)

pub kept_alone : (me : Id) (g : NodeHistory) → IsLocal me g → NamesConfigs g → HoldsAll (durable_of g) g
kept_alone me g l n = keeps_all me g g l n (begins_self g)

-- In a system each node acts by itself as it may, and accepts only states with a configuration.

continues : (root : ClusterState) (g : NodeHistory) (a : Act) → Opens root g a → ContinuesUnlessFirst g a
continues root NoActs a o = tt
continues root (Then g b u) (Open found) o = o
continues root (Then g b u) a o = tt

pub local_of_execution : (D : Id → NodeHistory) (root : ClusterState) (me : Id) (g : NodeHistory) → IsExecution D root me g → IsLocal me g
local_of_execution D root me NoActs f = tt
local_of_execution D root me (Then g a o) f = (local_of_execution D root me g f.0, f.1.follows, continues root g a f.1.opens)

names_of_execution : (D : Id → NodeHistory) (root : ClusterState) (W : IsSystem D root) (me : Id) (g : NodeHistory) → IsExecution D root me g → NamesConfigs g
names_of_execution D root W me NoActs f = tt
names_of_execution D root W me (Then g (Publish r) o) f = (names_of_execution D root W me g f.0, λ e. request_named D root W r.source r f.1.sourced.is_sent)
names_of_execution D root W me (Then g a o) f = names_of_execution D root W me g f.0

pub kept_in_system : (D : Id → NodeHistory) (root : ClusterState) (W : IsSystem D root) (me : Id) (g : NodeHistory) → IsExecution D root me g → HoldsAll (durable_of g) g
kept_in_system D root W me g f = kept_alone me g (local_of_execution D root me g f) (names_of_execution D root W me g f)

opened_holds : (root : ClusterState) (g : NodeHistory) (found : Kept) → Opens root g (Open found) → HoldsAll (durable_of g) g → HoldsAll found g
opened_holds root NoActs found o held = tt
opened_holds root (Then g a u) found o held = subst (λ (r : Kept). HoldsAll r (Then g a u)) (sym o) held

-- at each moment of a history, and at each opening
pub kept_grounded : (root : ClusterState) (h : History) → IsGrounded root h → HoldsAnswers h
kept_grounded root h l = record {
  kept = λ node p i. now p node (grounded_before root p h l i);
  opened = λ node p found o i.
      let last = grounded_before root (Next p node (Open found) o) h l i in
      opened_holds root (node_history p node) found last.1.opens (now p node last.0);
}
  where
    now : (p : History) (node : Id) → IsGrounded root p → HoldsAll (durable_of (node_history p node)) (node_history p node)
    now p node grounded =
        let W = system_of_grounded root p grounded in
        kept_in_system (node_history p) root W node (node_history p node) (W node)

pub kept : (initial : List Id) (h : History) → IsLegal initial h → HoldsAnswers h
kept initial h l = kept_grounded (initial_state initial) h (grounded_of_legal initial h l)
