-- What a node answers, where no cause refuses the act.
use Rattle.std.proofs.Common.{◌≡◌, ◌≢◌, ℕ, ◌<◌, ◌≤◌, true, false, not, ◌&&◌, None, Some, List, [], ◌∷◌, refl, sym, ◌∙◌, ap, arith, nat_le, nat_lt, nat_eq, ◌⊎◌, inl, inr}
use Rattle.std.proofs.lemmas.Bool.Decides.{nat_tests}
use Rattle.voting_config.specs.Ids.{Id, same, with_id, is_quorum_of, same_config}
use Rattle.cluster_state.specs.declared.state.ClusterValue.{ClusterValue}
use Rattle.cluster_state.specs.declared.messages.Join.{Join}
use Rattle.cluster_state.specs.declared.messages.PublishRequest.{PublishRequest}
use Rattle.cluster_state.specs.declared.messages.PublishResponse.{PublishResponse}
use Rattle.world_model.specs.declared.acts.Act.TheVariants.{StartJoin, TakeJoin, Value, Publish, Response}
use Rattle.world_model.specs.declared.acts.Message.TheVariants.{Join as JoinMessage, Publish as PublishMessage, Response as ResponseMessage}
use Rattle.world_model.specs.declared.acts.ActReply.TheVariants.{Taken}
use Rattle.world_model.specs.Acts.{NodeHistory}
use Rattle.world_model.specs.NodeState.{node_state, term_of, accepted_of, committed_of, started_join_of, join_votes_of, election_won_of, published_version_of, halted_of}
use Rattle.cluster_state.specs.Field.{last_number}
use Rattle.world_model.specs.Replies.{id_of, is_empty, elects, reply_of, join_checked, join_from, commit_sent}
use Rattle.voting_config.proofs.Sets.{same_self}

le_no : (a b : ℕ) → a < b → nat_le b a ≡ false
le_no a b h = grind (arith, nat_tests)

lt_no : (a b : ℕ) → a ≤ b → nat_lt b a ≡ false
lt_no a b h = grind (arith, nat_tests)

eq_yes : (a b : ℕ) → a ≡ b → nat_eq a b ≡ true
eq_yes a b h = grind (arith, nat_tests)

pub start_taken : (me : Id) (g : NodeHistory) (m : Id) (t : ℕ) → halted_of g ≡ false → term_of g < t → t ≤ last_number → reply_of me g (StartJoin m t) ≡ Taken (Some (JoinMessage (join_from me (node_state g) m t))) false
start_taken me g m t s a b = rw (s, le_no _ _ a, lt_no _ _ b) refl

same_config_self : (c : List Id) → same_config c c ≡ true
same_config_self [] = refl
same_config_self (x ∷ xs) = rw (same_self x) (same_config_self xs)

not_empty : (c : List Id) → c ≢ [] → is_empty c ≡ false
not_empty [] h = absurd (h refl)
not_empty (x ∷ xs) h = refl

older_no : (a b v w : ℕ) → (b < a) ⊎ ((a ≡ b) × (w ≤ v)) → (nat_lt a b ≡ false) × ((nat_eq a b && nat_lt v w) ≡ false)
older_no a b v w (inl h) = (lt_no _ _ (omega arith), rw (eq_no a b h) refl)
  where
    eq_no : (a b : ℕ) → b < a → nat_eq a b ≡ false
    eq_no a b h = grind (arith, nat_tests)
older_no a b v w (inr h) = (lt_no _ _ (omega arith), rw (eq_yes a b h.0, lt_no w v h.1) refl)

pub join_taken : (me : Id) (g : NodeHistory) (j : Join) → halted_of g ≡ false → j.target ≡ me → term_of g ≡ j.term → started_join_of g ≡ true
    → (j.last_term < (accepted_of g).term) ⊎ (((accepted_of g).term ≡ j.last_term) × (j.last_version ≤ (accepted_of g).version)) → (accepted_of g).config ≢ []
    → reply_of me g (TakeJoin j) ≡ Taken None (not (election_won_of g) && elects (node_state g) (with_id j.source (join_votes_of g)))
unfolding join_checked
join_taken me g j s a t st o n =
    let older = older_no _ _ _ _ o in
    rw (s, ap (λ x. same x me) a ∙ same_self me, eq_yes _ _ t, st, older.0, older.1, not_empty _ n) refl

pub value_taken : (me : Id) (g : NodeHistory) (v : ℕ) (c : List Id) (x : ClusterValue) → halted_of g ≡ false → election_won_of g ≡ true → published_version_of g ≡ (accepted_of g).version → published_version_of g < v → v ≤ last_number
    → c ≡ (accepted_of g).config → is_quorum_of c (join_votes_of g) ≡ true
    → reply_of me g (Value v c x) ≡ Taken (Some (PublishMessage (record { source = me; state = record { term = term_of g; version = v; parent = Some (id_of (accepted_of g)); config = c; committed = committed_of g; value = x } }))) false
value_taken me g v c x s w e a b k q =
    rw (s, w, eq_yes _ _ e, le_no _ _ a, lt_no _ _ b, ap (λ y. same_config c y) (sym k) ∙ same_config_self c, q) refl

pub publish_taken : (me : Id) (g : NodeHistory) (r : PublishRequest) → halted_of g ≡ false → term_of g ≡ r.state.term → (accepted_of g).term < r.state.term
    → reply_of me g (Publish r) ≡ Taken (Some (ResponseMessage (record { source = me; target = r.source; term = r.state.term; version = r.state.version }))) false
publish_taken me g r s t o = rw (s, eq_yes _ _ t, eq_no _ _ o) refl
  where
    eq_no : (a b : ℕ) → a < b → nat_eq b a ≡ false
    eq_no a b h = grind (arith, nat_tests)

pub response_taken : (me : Id) (g : NodeHistory) (r : PublishResponse) → halted_of g ≡ false → r.target ≡ me → election_won_of g ≡ true → term_of g ≡ r.term → published_version_of g ≡ r.version
    → reply_of me g (Response r) ≡ Taken (commit_sent me (node_state g) r) false
response_taken me g r s a w t v = rw (s, ap (λ x. same x me) a ∙ same_self me, w, eq_yes _ _ t, eq_yes _ _ v) refl
