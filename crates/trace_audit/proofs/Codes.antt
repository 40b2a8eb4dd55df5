-- Bytes that tell what they are of, whatever follows.
use Rattle.std.proofs.Common.{◌≡◌, ℕ, zero, suc, ◌+◌, ◌/◌, ◌%◌, ◌<◌, ◌≤◌, ◌⊎◌, Option, None, Some, List, [], ◌∷◌, ◌++◌, length, take, drop, refl, sym, ◌∙◌, ap, arith, append_assoc, inl, inr}
use Rattle.std.specs.List.{flat_map}
use Rattle.std.proofs.lemmas.Bool.{cases_lt, le-ltb, lt-ltb}
use Rattle.std.proofs.lemmas.List.{take_at, drop_at}
use Rattle.std.proofs.lemmas.List.Concat.{flat_map-cons}
use Rattle.voting_config.specs.Ids.{Id, most_ids}
use Rattle.cluster_state.specs.Field.{optional_spelling}
use Rattle.cluster_state.specs.Fields.{id, ids}
use Rattle.cluster_state.specs.Settings.{Setting}
use Rattle.cluster_state.specs.declared.state.ClusterState.{ClusterState}
use Rattle.cluster_state.specs.declared.state.StateId.{StateId}
use Rattle.trace_audit.specs.Contents.{sevens, number_bytes, text_bytes, setting_bytes, settings_bytes, numbers_bytes, parent_bytes, contents_bytes}

-- ---- the bytes of a number

small : (most n : ℕ) → n < 128 → sevens most n ≡ n ∷ []
small zero n h = refl
small (suc most) n h = rw (lt-ltb n 128 h) refl

large : (most n : ℕ) → 128 ≤ n → sevens (suc most) n ≡ (n % 128 + 128) ∷ sevens most (n / 128)
large most n h = rw (le-ltb n 128 h) refl

-- a number has no more sevens than itself, so more are as good
enough : (most more n : ℕ) → n ≤ most → n ≤ more → sevens most n ≡ sevens more n
enough zero more n h k = sym (small more n (omega (arith, h)))
enough (suc most) zero n h k = small (suc most) n (omega (arith, k))
enough (suc most) (suc more) n h k = from (cases_lt n 128) (enough most more (n / 128))
  where
    from : (n < 128) ⊎ (128 ≤ n) → (n / 128 ≤ most → n / 128 ≤ more → sevens most (n / 128) ≡ sevens more (n / 128)) → sevens (suc most) n ≡ sevens (suc more) n
    from (inl lt) deeper = small (suc most) n lt ∙ sym (small (suc more) n lt)
    from (inr le) deeper = large most n le ∙ ap (λ (t : List ℕ). (n % 128 + 128) ∷ t) (deeper (omega arith) (omega arith)) ∙ sym (large more n le)

pub number_small : (n : ℕ) → n < 128 → number_bytes n ≡ n ∷ []
unfolding number_bytes
number_small n h = small n n h

pub number_large : (n : ℕ) → 128 ≤ n → number_bytes n ≡ (n % 128 + 128) ∷ number_bytes (n / 128)
unfolding number_bytes
number_large zero h = absurd (omega (arith, h))
number_large (suc m) h = large m (suc m) h ∙ ap (λ (t : List ℕ). (suc m % 128 + 128) ∷ t) (enough m (suc m / 128) (suc m / 128) (omega arith) (omega arith))

-- ---- codes

-- from the bytes of a value and what follows them both are told
pub record IsCode {A : Type 0} (spell : A → List ℕ) : Type 0 where
  pub tells : (x y : A) (r s : List ℕ) → spell x ++ r ≡ spell y ++ s → (x ≡ y) × (r ≡ s)

pub whole : {A : Type 0} (spell : A → List ℕ) → IsCode spell → (x y : A) → spell x ≡ spell y → x ≡ y
whole spell code x y e = (code.tells x y [] [] (ap (λ (t : List ℕ). t ++ []) e)).0

parts : (x y : ℕ) (xs ys : List ℕ) → x ∷ xs ≡ y ∷ ys → (x ≡ y) × (xs ≡ ys)
parts x y xs ys e = (cc, cc)

abbrev one : ℕ → List ℕ
one n = n ∷ []

-- ---- a number

module _ (n m : ℕ) (r s : List ℕ) where
  number_by : (128 ≤ n → number_bytes (n / 128) ++ r ≡ number_bytes (m / 128) ++ s → (n / 128 ≡ m / 128) × (r ≡ s)) → number_bytes n ++ r ≡ number_bytes m ++ s → (n ≡ m) × (r ≡ s)
  number_by deeper e = from (cases_lt n 128) (cases_lt m 128)
    where
      seen : (a b : List ℕ) → number_bytes n ≡ a → number_bytes m ≡ b → a ++ r ≡ b ++ s
      seen a b p q = ap (λ (t : List ℕ). t ++ r) (sym p) ∙ e ∙ ap (λ (t : List ℕ). t ++ s) q

      from : (n < 128) ⊎ (128 ≤ n) → (m < 128) ⊎ (128 ≤ m) → (n ≡ m) × (r ≡ s)
      from (inl a) (inl b) = parts n m r s (seen (n ∷ []) (m ∷ []) (number_small n a) (number_small m b))
      from (inl a) (inr b) = absurd (omega (arith, a, (parts _ _ _ _ (seen (n ∷ []) ((m % 128 + 128) ∷ number_bytes (m / 128)) (number_small n a) (number_large m b))).0))
      from (inr a) (inl b) = absurd (omega (arith, b, (parts _ _ _ _ (seen ((n % 128 + 128) ∷ number_bytes (n / 128)) (m ∷ []) (number_large n a) (number_small m b))).0))
      from (inr a) (inr b) =
          let p = parts (n % 128 + 128) (m % 128 + 128) (number_bytes (n / 128) ++ r) (number_bytes (m / 128) ++ s) (seen _ _ (number_large n a) (number_large m b)) in
          let q = deeper a p.1 in (omega (arith, p.0, q.0), q.1)

number_up_to : (bound n m : ℕ) (r s : List ℕ) → n ≤ bound → number_bytes n ++ r ≡ number_bytes m ++ s → (n ≡ m) × (r ≡ s)
number_up_to zero n m r s h = number_by n m r s (λ le. absurd (omega (arith, h, le)))
number_up_to (suc bound) n m r s h = number_by n m r s (λ le. number_up_to bound (n / 128) (m / 128) r s (omega (arith, h, le)))

number_code : IsCode number_bytes
number_code = record { tells = λ n m r s. number_up_to n n m r s (omega arith) }

byte_code : IsCode one
byte_code = record { tells = parts }

-- ---- put together

ends : (x y r s : List ℕ) → length x ≡ length y → x ++ r ≡ y ++ s → (x ≡ y) × (r ≡ s)
ends x y r s l e = (
  sym (take_at x r (length x) refl) ∙ ap (take (length x)) e ∙ take_at y s (length x) (sym l),
  sym (drop_at x r (length x) refl) ∙ ap (drop (length x)) e ∙ drop_at y s (length x) (sym l),
)

-- one after the other
both_code : {A B : Type 0} (f : A → List ℕ) (g : B → List ℕ) → IsCode f → IsCode g → IsCode (λ (p : A × B). f p.0 ++ g p.1)
both_code f g cf cg = record {
  tells = λ x y r s e.
      let p = cf.tells x.0 y.0 (g x.1 ++ r) (g y.1 ++ s) (sym (append_assoc (f x.0) (g x.1) r) ∙ e ∙ append_assoc (f y.0) (g y.1) s) in
      let q = cg.tells x.1 y.1 r s p.1 in (λ i. (p.0 i, q.0 i), q.1);
}

-- a length and so many bytes
sized_code : (count : ℕ → List ℕ) → IsCode count → IsCode (λ (t : List ℕ). count (length t) ++ t)
sized_code count code = record {
  tells = λ x y r s e.
      let p = code.tells (length x) (length y) (x ++ r) (y ++ s) (sym (append_assoc (count (length x)) x r) ∙ e ∙ append_assoc (count (length y)) y s) in
      ends x y r s p.0 p.1;
}

each : {A : Type 0} (f : A → List ℕ) → IsCode f → (xs ys : List A) (r s : List ℕ) → length xs ≡ length ys → flat_map f xs ++ r ≡ flat_map f ys ++ s → (xs ≡ ys) × (r ≡ s)
each f code [] [] r s l e = (refl, e)
each f code [] (y ∷ ys) r s l e = absurd (omega (arith, l))
each f code (x ∷ xs) [] r s l e = absurd (omega (arith, l))
each f code (x ∷ xs) (y ∷ ys) r s l e =
    let whole =
    sym (append_assoc (f x) (flat_map f xs) r) ∙ ap (λ (t : List ℕ). t ++ r) (sym (flat_map-cons f x xs)) ∙ e ∙ ap (λ (t : List ℕ). t ++ s) (flat_map-cons f y ys)
    ∙ append_assoc (f y) (flat_map f ys) s in
    let p = code.tells x y (flat_map f xs ++ r) (flat_map f ys ++ s) whole in
    let q = each f code xs ys r s (omega (arith, l)) p.1 in (λ i. p.0 i ∷ q.0 i, q.1)

-- a count and so many of them
counted_code : {A : Type 0} (count : ℕ → List ℕ) (f : A → List ℕ) → IsCode count → IsCode f → IsCode (λ (xs : List A). count (length xs) ++ flat_map f xs)
counted_code count f counts code = record {
  tells = λ x y r s e.
      let whole = sym (append_assoc (count (length x)) (flat_map f x) r) ∙ e ∙ append_assoc (count (length y)) (flat_map f y) s in
      let p = counts.tells (length x) (length y) (flat_map f x ++ r) (flat_map f y ++ s) whole in
      each f code x y r s p.0 p.1;
}

-- a 0, or a 1 and the value
maybe : {A : Type 0} (f : A → List ℕ) → IsCode f → (x y : Option A) (r s : List ℕ) → optional_spelling f x ++ r ≡ optional_spelling f y ++ s → (x ≡ y) × (r ≡ s)
maybe f code None None r s e = (refl, (parts 0 0 r s e).1)
maybe f code None (Some y) r s e = absurd cc
maybe f code (Some x) None r s e = absurd cc
maybe f code (Some x) (Some y) r s e = let p = code.tells x y r s (parts 1 1 (f x ++ r) (f y ++ s) e).1 in (ap Some p.0, p.1)

optional_code : {A : Type 0} (f : A → List ℕ) → IsCode f → IsCode (optional_spelling f)
optional_code f code = record { tells = maybe f code }

-- ---- the contents of a state

id_code : IsCode id.spelling
id_code = sized_code one byte_code

ids_code : IsCode (ids most_ids).spelling
ids_code = counted_code one id.spelling byte_code id_code

setting_code : IsCode setting_bytes
setting_code = both_code text_bytes text_bytes (sized_code number_bytes number_code) (sized_code number_bytes number_code)

settings_code : IsCode settings_bytes
settings_code = counted_code number_bytes setting_bytes number_code setting_code

numbers_code : IsCode numbers_bytes
numbers_code = record {
  tells = λ x y r s e.
      let p = (both_code number_bytes number_bytes number_code number_code).tells (x.term, x.version) (y.term, y.version) r s e in
      (λ i. record { term = (p.0 i).0; version = (p.0 i).1 }, p.1);
}

-- two states of one id and of the same contents
pub same_contents : (a b : ClusterState) → a.term ≡ b.term → a.version ≡ b.version → contents_bytes a ≡ contents_bytes b → a ≡ b
same_contents a b term version e =
    let set = (ids most_ids).spelling in
    let c1 = both_code parent_bytes set (optional_code numbers_bytes numbers_code) ids_code in
    let c2 = both_code _ set c1 ids_code in
    let c3 = both_code _ (optional_spelling id.spelling) c2 (optional_code id.spelling id_code) in
    let c4 = both_code _ set c3 ids_code in
    let c5 = both_code _ set c4 ids_code in
    let c6 = both_code _ settings_bytes c5 settings_code in
    let all : (x : ClusterState) → ((((((Option StateId × List Id) × List Id) × Option Id) × List Id) × List Id) × List Setting) = λ x.
    ((((((x.parent, x.config), x.committed), x.value.master), x.value.members), x.value.exclusions), x.value.settings) in
    let p = whole _ c6 (all a) (all b) e in
    λ i. record {
      term = term i;
      version = version i;
      parent = (p i).0.0.0.0.0.0;
      config = (p i).0.0.0.0.0.1;
      committed = (p i).0.0.0.0.1;
      value = record { master = (p i).0.0.0.1; members = (p i).0.0.1; exclusions = (p i).0.1; settings = (p i).1 };
    }
