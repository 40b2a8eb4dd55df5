-- The first line feed of a text.
use Rattle.std.proofs.Common.{◌≡◌, ℕ, ◌<◌, Bool, true, false, nat_lt, List, length, Some, None, position, refl, ◌∙◌, ap, arith}
use Rattle.std.specs.Prelude.{slice_index}
use Rattle.std.specs.List.{position_or_len}
use Rattle.std.proofs.lemmas.Bool.{cond-true, cond-false, le-ltb, lt-ltb}
use Rattle.std.proofs.lemmas.List.Sums.{position_or_len_is}
use Rattle.memchr.specs.Find.{Nowhere, NoneBefore, Passes, is_byte}

abbrev is_feed : ℕ → Bool
is_feed = is_byte 10

fails : (bytes : List ℕ) (i k : ℕ) → Nowhere (Passes is_feed bytes) 0 i → k < i → is_feed (slice_index bytes k) ≡ false
fails bytes i k none within =
    elim (is_feed (slice_index bytes k)) as (λ b. is_feed (slice_index bytes k) ≡ b → b ≡ false) [
      | true ↦ λ e. absurd (none k (omega arith) within e)
      | false ↦ λ e. refl
    ] refl

pub found : (bytes : List ℕ) (i : ℕ) → NoneBefore (Passes is_feed bytes) 0 (length bytes) i → Passes is_feed bytes i → position is_feed bytes ≡ Some i
found bytes i first here =
    let is : position_or_len is_feed bytes ≡ i = position_or_len_is is_feed bytes i 0 (omega (arith, first.high)) (λ k within. fails bytes i k first.before within) (λ _. here) in
    cond-true (nat_lt (position_or_len is_feed bytes) (length bytes)) (Some (position_or_len is_feed bytes)) None (lt-ltb _ _ (omega (arith, first.high))) ∙ ap (λ n. Some n) is

pub nowhere : (bytes : List ℕ) → Nowhere (Passes is_feed bytes) 0 (length bytes) → position is_feed bytes ≡ None
nowhere bytes none =
    let is : position_or_len is_feed bytes ≡ length bytes = position_or_len_is is_feed bytes (length bytes) 0 (omega arith) (λ k within. fails bytes (length bytes) k none within) (λ within. absurd (omega (arith, within))) in
    cond-false (nat_lt (position_or_len is_feed bytes) (length bytes)) (Some (position_or_len is_feed bytes)) None (le-ltb _ _ (omega arith))
