-- The order of ids, and what is decided: of ids of nodes, of states, and whether a commit was sent.
use Rattle.std.proofs.Common.{◌≡◌, ℕ, ◌<◌, ◌≤◌, ◌⊎◌, inl, inr, Bool, true, false, List, [], ◌∷◌, refl, sym, ◌∙◌, ap, subst, arith}
use Rattle.std.specs.List.{Contains}
use Rattle.std.specs.Cmp.Lexicographic.{bytes_decides}
use Rattle.std.proofs.lemmas.Bool.{cases_eq, cases_lt, false≢true}
use Rattle.std.proofs.lemmas.List.Elements.{Contains-append_left, Contains-append_right, Contains-append_cases, Contains-push, Contains-push_cases}
use Rattle.voting_config.specs.Ids.{Id, same}
use Rattle.cluster_state.specs.declared.state.ClusterState.{ClusterState}
use Rattle.cluster_state.specs.declared.messages.ApplyCommit.{ApplyCommit}
use Rattle.world_model.specs.declared.acts.Message.{Message}
use Rattle.world_model.specs.declared.acts.Message.TheVariants.{Join as JoinMessage, Publish as PublishMessage, Response as ResponseMessage, Commit as CommitMessage}
use Rattle.world_model.specs.Histories.{History, sent}
use Rattle.world_model.specs.Safety.{IsAtMost}
use Rattle.world_model.proofs.Facts.{HasSentCommit}
use Rattle.world_model.proofs.StateIds.{IsBelow}

-- states that are the same have one term and one version
pub same_terms : {r s : ClusterState} → r ≡ s → r.term ≡ s.term
same_terms same = ap (λ (x : ClusterState). x.term) same

pub same_versions : {r s : ClusterState} → r ≡ s → r.version ≡ s.version
same_versions same = ap (λ (x : ClusterState). x.version) same

pub at_most_from_below : (r s : ClusterState) → IsBelow r s → IsAtMost r s
at_most_from_below r s (inl a) = inl a
at_most_from_below r s (inr a) = inr (omega arith)

-- the order is total, and it is decided
pub at_most_or_below : (r s : ClusterState) → IsAtMost r s ⊎ IsBelow s r
at_most_or_below r s = cases (cases_lt r.term s.term) (cases_eq s.term r.term) (cases_lt s.version r.version)
  where
    cases : (r.term < s.term) ⊎ (s.term ≤ r.term) → (s.term ≡ r.term) ⊎ (s.term ≡ r.term → ⊥) → (s.version < r.version) ⊎ (r.version ≤ s.version) → IsAtMost r s ⊎ IsBelow s r
    cases (inl a) b c = inl (inl a)
    cases (inr a) (inl b) (inl c) = inr (inr (sym b, c))
    cases (inr a) (inl b) (inr c) = inl (inr (b, c))
    cases (inr a) (inr b) c = inr (inl (omega arith))

pub not_below : (r s : ClusterState) → IsAtMost r s → IsBelow s r → ⊥
not_below r s a b = omega arith

pub at_most_term : (r s : ClusterState) → IsAtMost r s → r.term ≤ s.term
at_most_term r s a = omega arith

-- the order is antisymmetric
pub same_id : (r s : ClusterState) → IsAtMost r s → IsAtMost s r → (r.term ≡ s.term) × (r.version ≡ s.version)
same_id r s a b = omega arith

-- whether two ids of nodes are the same
pub decide_id : (x y : Id) → (x ≡ y) ⊎ (x ≡ y → ⊥)
decide_id x y = go (same x y) refl
  where
    go : (b : Bool) → same x y ≡ b → (x ≡ y) ⊎ (x ≡ y → ⊥)
    go true e = inl ((bytes_decides x y).0 e)
    go false e = inr (λ s. false≢true (sym e ∙ (bytes_decides x y).1 s))

-- whether a list has an element, where equality with it is decided
pub decide_contains : {X : Type 0} (x : X) → ((y : X) → (y ≡ x) ⊎ (y ≡ x → ⊥)) → (ys : List X) → Contains ys x ⊎ (Contains ys x → ⊥)
decide_contains x decide [] = inr (λ c. absurd (omega (arith, c.1)))
decide_contains x decide (y ∷ ys) = step (decide y) (decide_contains x decide ys)
  where
    step : (y ≡ x) ⊎ (y ≡ x → ⊥) → Contains ys x ⊎ (Contains ys x → ⊥) → Contains (y ∷ ys) x ⊎ (Contains (y ∷ ys) x → ⊥)
    step (inl e) c = inl (subst (λ z. Contains (z ∷ ys) x) (sym e) (Contains-append_left (x ∷ []) ys x (Contains-push [] x)))
    step (inr e) (inl c) = inl (Contains-append_right (y ∷ []) ys x c)
    step (inr e) (inr c) = inr (λ d.
        elim (Contains-append_cases (y ∷ []) ys x d) [
          | inl here ↦ elim (Contains-push_cases [] y x here) [ inl none ↦ absurd (omega (arith, none.1)) | inr is ↦ e is ]
          | inr there ↦ c there
        ])

decide_commit : (c d : ApplyCommit) → (c ≡ d) ⊎ (c ≡ d → ⊥)
decide_commit c d = go (decide_id c.source d.source) (cases_eq c.term d.term) (cases_eq c.version d.version)
  where
    go : (c.source ≡ d.source) ⊎ (c.source ≡ d.source → ⊥) → (c.term ≡ d.term) ⊎ (c.term ≡ d.term → ⊥) → (c.version ≡ d.version) ⊎ (c.version ≡ d.version → ⊥) → (c ≡ d) ⊎ (c ≡ d → ⊥)
    go (inl a) (inl b) (inl e) = inl (λ i. record { source = a i; term = b i; version = e i })
    go (inl a) (inl b) (inr n) = inr (λ p. n (ap (λ x. x.version) p))
    go (inl a) (inr n) e = inr (λ p. n (ap (λ x. x.term) p))
    go (inr n) b e = inr (λ p. n (ap (λ x. x.source) p))

decide_message : (c : ApplyCommit) (m : Message) → (m ≡ CommitMessage c) ⊎ (m ≡ CommitMessage c → ⊥)
decide_message c (JoinMessage j) = inr (λ e. cc)
decide_message c (PublishMessage r) = inr (λ e. cc)
decide_message c (ResponseMessage r) = inr (λ e. cc)
decide_message c (CommitMessage d) =
    elim (decide_commit d c) [
      | inl e ↦ inl (ap CommitMessage e)
      | inr n ↦ inr (λ e. n (the_commit e))
    ]
  where
    the_commit : CommitMessage d ≡ CommitMessage c → d ≡ c
    the_commit e = cc

-- whether node has sent the commit of this id
pub decide_sent_commit : (h : History) (node : Id) (term version : ℕ) → HasSentCommit h node term version ⊎ (HasSentCommit h node term version → ⊥)
decide_sent_commit h node term version = decide_contains _ (decide_message _) (sent h)
