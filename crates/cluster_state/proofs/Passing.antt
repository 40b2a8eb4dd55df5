-- Passing over element after element, as a loop does that keeps the last one alone.
use Rattle.std.proofs.Common.{◌≡◌, ℕ, ◌-◌, ◌+◌, ◌<◌, Bool, true, false, List, [], ◌∷◌, ◌++◌, Option, Some, Result, Ok, Err, refl, ◌∙◌}
use Rattle.voting_config.specs.Ids.{Id, before, comes_after}
use Rattle.cluster_state.specs.declared.fault.FieldError.{FieldError}
use Rattle.cluster_state.specs.declared.fault.FieldError.TheVariants.{NotOrdered}
use Rattle.cluster_state.specs.Settings.{Setting, comes_after_keys}
use Rattle.cluster_state.specs.Field.{elements_at}
use Rattle.cluster_state.specs.Passing.{is_after_last}
use Rattle.cluster_state.proofs.Loop.{goes_on, ends, stops}

pub comes_after-end : (x y : Id) (prefix : List Id) → comes_after x (prefix ++ y ∷ []) ≡ before y x
comes_after-end x y [] = refl
comes_after-end x y (z ∷ []) = refl
comes_after-end x y (z ∷ w ∷ prefix) = comes_after-end x y (w ∷ prefix)

pub comes_after_keys-end : (s t : Setting) (prefix : List Setting) → comes_after_keys s (prefix ++ t ∷ []) ≡ before t.0 s.0
comes_after_keys-end s t [] = refl
comes_after_keys-end s t (u ∷ []) = refl
comes_after_keys-end s t (u ∷ v ∷ prefix) = comes_after_keys-end s t (v ∷ prefix)

-- what is passed so far: these are not kept, but whether a next one comes after them is told by the last
pub record HasPassed {A : Type 0} (after : A → List A → Bool) (one : List ℕ → Result (A × List ℕ) FieldError) (key : A → Id) (count i : ℕ) (last : Option Id) (bytes start : List ℕ) : Type 0 where
  pub prefix : List A
  pub is_last : (x : A) → after x prefix ≡ is_after_last last (key x)
  pub so_far : elements_at after one (count - i) prefix bytes ≡ elements_at after one count [] start

module _ {A : Type 0} (after : A → List A → Bool) (one : List ℕ → Result (A × List ℕ) FieldError) (key : A → Id) where
  pub passed_more : (count i : ℕ) (last : Option Id) (bytes rest start : List ℕ) (x : A) → HasPassed after one key count i last bytes start
      → i < count → one bytes ≡ Ok (x, rest) → is_after_last last (key x) ≡ true → ((y : A) (prefix : List A) → after y (prefix ++ x ∷ []) ≡ before (key x) (key y))
      → HasPassed after one key count (i + 1) (Some (key x)) rest start
  passed_more count i last bytes rest start x h lt is_read above law = record {
    prefix = h.prefix ++ x ∷ [];
    is_last = λ y. law y h.prefix;
    so_far = goes_on after one count i h.prefix bytes rest x _ lt is_read (h.is_last x ∙ above) h.so_far;
  }

  pub passed_ends : (count i : ℕ) (last : Option Id) (bytes start : List ℕ) (e : FieldError) → HasPassed after one key count i last bytes start
      → i < count → one bytes ≡ Err e → elements_at after one count [] start ≡ Err e
  passed_ends count i last bytes start e h lt is_read = ends after one count i h.prefix bytes e _ lt is_read h.so_far

  pub passed_stops : (count i : ℕ) (last : Option Id) (bytes rest start : List ℕ) (x : A) → HasPassed after one key count i last bytes start
      → i < count → one bytes ≡ Ok (x, rest) → is_after_last last (key x) ≡ false → elements_at after one count [] start ≡ Err NotOrdered
  passed_stops count i last bytes rest start x h lt is_read below = stops after one count i h.prefix bytes rest x _ lt is_read (h.is_last x ∙ below) h.so_far
