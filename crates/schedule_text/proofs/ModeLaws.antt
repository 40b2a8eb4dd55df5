-- A mode that is read is the one that was spelled, and what is spelled is read again.
use Rattle.std.proofs.Common.{◌≡◌, ℕ, ◌+◌, ◌-◌, ◌*◌, ◌/◌, ◌%◌, ◌<◌, ◌≤◌, Bool, true, false, cond, ◌&&◌, List, [], ◌∷◌, ◌++◌, length, take, get_or, Result, Ok, Err, refl, sym, ap, subst, ◌∙◌, arith, inl, inr}
use Rattle.std.specs.Prelude.{nat_le, nat_lt, ◌==◌, codes}
use Rattle.std.specs.Str.{bytes_eq}
use Rattle.std.specs.Cmp.Lexicographic.{same_text}
use Rattle.std.proofs.Math.Seq.{drop-cons}
use Rattle.std.proofs.lemmas.Bool.{and_parts, and_from, cases_lt, cond-true, cond-false, lt-ltb, le-ltb}
use Rattle.std.proofs.lemmas.Bool.Decides.{nat_tests}
use Rattle.std.proofs.lemmas.List.{drop_all, take-append-drop}
use Rattle.zen_disk.specs.declared.orders.Way.{Way}
use Rattle.zen_disk.specs.declared.orders.Way.TheVariants.{Lost, Kept, Torn}
use Rattle.schedule_text.specs.declared.fault.WhyBad.{WhyBad}
use Rattle.schedule_text.specs.declared.fault.WhyBad.TheVariants as why
use Rattle.schedule_text.specs.Words.{◌>>=◌, is_digit, hex_byte, hex_at, byte_at, mode_text, torn_at, mode_at, FitsMode, mode}
use Rattle.schedule_text.proofs.WordLaws.{is_plain, IsWord, bind_ok, want_ok, ok_is}

abbrev done : {A : Type 0} → A → Result A WhyBad
done x = Ok x

-- ---- digits

record IsHex (b n : ℕ) : Type 0 where
  byte : b ≡ hex_byte n
  below : n < 16

below_ten : (n : ℕ) → n < 10 → hex_byte n ≡ 48 + n
below_ten n h = cond-true (nat_lt n 10) (48 + n) (97 + (n - 10)) (lt-ltb n 10 h)

from_ten : (n : ℕ) → 10 ≤ n → hex_byte n ≡ 97 + (n - 10)
from_ten n h = cond-false (nat_lt n 10) (48 + n) (97 + (n - 10)) (le-ltb n 10 h)

abbrev is_letter : ℕ → Bool
is_letter b = nat_le 97 b && nat_le b 102

-- a byte between two others
between : (low high b : ℕ) → (nat_le low b && nat_le b high) ≡ true → (low ≤ b) × (b ≤ high)
between low high b h =
    let parts = and_parts (nat_le low b) _ h in
    (grind (arith, nat_tests, parts.0), grind (arith, nat_tests, parts.1))

is_between : (low high b : ℕ) → low ≤ b → b ≤ high → (nat_le low b && nat_le b high) ≡ true
is_between low high b h k = and_from (nat_le low b) (nat_le b high) (grind (arith, nat_tests)) (grind (arith, nat_tests))

digit_hex : (b n : ℕ) → is_digit b ≡ true → b - 48 ≡ n → IsHex b n
digit_hex b n h e =
    let bounds = between 48 57 b h in
    record { byte = omega (arith, bounds, e, below_ten n (omega (arith, bounds, e))); below = omega (arith, bounds, e) }

letter_hex : (b n : ℕ) → is_letter b ≡ true → b - 97 + 10 ≡ n → IsHex b n
letter_hex b n h e =
    let bounds = between 97 102 b h in
    record { byte = omega (arith, bounds, e, from_ten n (omega (arith, bounds, e))); below = omega (arith, bounds, e) }

letter_takes : (b n : ℕ) → cond (is_letter b) (done (b - 97 + 10)) (Err why.Mode) ≡ Ok n → IsHex b n
letter_takes b n e =
    let got = want_ok (is_letter b) why.Mode (Ok (b - 97 + 10)) n e in
    letter_hex b n got.0 (ok_is (b - 97 + 10) n got.1)

hex_takes : (b n : ℕ) → hex_at b ≡ Ok n → IsHex b n
hex_takes b n =
    elim (is_digit b) as (λ t. is_digit b ≡ t → cond t (done (b - 48)) (cond (is_letter b) (done (b - 97 + 10)) (Err why.Mode)) ≡ Ok n → IsHex b n) [
      | true ↦ λ h e. digit_hex b n h (ok_is (b - 48) n e)
      | false ↦ λ h e. letter_takes b n e
    ] refl

digit_again : (n : ℕ) → n < 10 → hex_at (48 + n) ≡ Ok n
digit_again n h =
    let same : 48 + n - 48 ≡ n = omega arith in
    cond-true (is_digit (48 + n)) (done (48 + n - 48)) _ (is_between 48 57 (48 + n) (omega arith) (omega arith)) ∙ ap (λ k. done k) same

letter_again : (n : ℕ) → 10 ≤ n → n < 16 → hex_at (97 + (n - 10)) ≡ Ok n
letter_again n h k =
    let b = 97 + (n - 10) in
    let same : b - 97 + 10 ≡ n = omega arith in
    let other : is_digit b ≡ false = grind (arith, nat_tests) in
    cond-false (is_digit b) (done (b - 48)) _ other ∙ cond-true (is_letter b) (done (b - 97 + 10)) _ (is_between 97 102 b (omega arith) (omega arith)) ∙ ap (λ k. done k) same

hex_again : (n : ℕ) → n < 16 → hex_at (hex_byte n) ≡ Ok n
hex_again n h = elim (cases_lt n 10) [
  | inl lt ↦ ap hex_at (below_ten n lt) ∙ digit_again n lt
  | inr le ↦ ap hex_at (from_ten n le) ∙ letter_again n le h
]

hex_plain : (n : ℕ) → n < 16 → nat_lt 32 (hex_byte n) ≡ true
hex_plain n h = elim (cases_lt n 10) [
  | inl lt ↦ ap (nat_lt 32) (below_ten n lt) ∙ lt-ltb 32 (48 + n) (omega arith)
  | inr le ↦ ap (nat_lt 32) (from_ten n le) ∙ lt-ltb 32 (97 + (n - 10)) (omega arith)
]

-- ---- two digits

high_of : (h l : ℕ) → l < 16 → (h * 16 + l) / 16 ≡ h
high_of h l k = omega arith

low_of : (h l : ℕ) → l < 16 → (h * 16 + l) % 16 ≡ l
low_of h l k = omega arith

record IsByte (high low : ℕ) (w : Way) : Type 0 where
  spelled : codes "torn:" ++ high ∷ low ∷ [] ≡ mode_text w
  fits : FitsMode w

two_bytes : (high low a b : ℕ) → high ≡ a → low ≡ b → codes "torn:" ++ high ∷ low ∷ [] ≡ codes "torn:" ++ a ∷ b ∷ []
two_bytes high low a b e f = ap (λ x. codes "torn:" ++ x ∷ low ∷ []) e ∙ ap (λ x. codes "torn:" ++ a ∷ x ∷ []) f

byte_made : (high low h l : ℕ) → IsHex high h → IsHex low l → IsByte high low (Torn (h * 16 + l))
byte_made high low h l a b = record {
  spelled = two_bytes high low _ _ (a.byte ∙ ap hex_byte (sym (high_of h l b.below))) (b.byte ∙ ap hex_byte (sym (low_of h l b.below)));
  fits = omega (arith, a.below, b.below);
}

byte_takes : (high low : ℕ) (w : Way) → byte_at high low ≡ Ok w → IsByte high low w
byte_takes high low w e =
    let last = λ (h l : ℕ). done (Torn (h * 16 + l)) in
    let first = bind_ok (hex_at high) (λ h. hex_at low >>= last h) w e in
    let second = bind_ok (hex_at low) (last first.0) w first.2 in
    let made = byte_made high low first.0 second.0 (hex_takes high first.0 first.1) (hex_takes low second.0 second.1) in
    subst (λ (v : Way). IsByte high low v) (ok_is (Torn (first.0 * 16 + second.0)) w second.2) made

byte_again : (x : ℕ) → x < 256 → byte_at (hex_byte (x / 16)) (hex_byte (x % 16)) ≡ Ok (Torn x)
byte_again x h =
    let whole : x / 16 * 16 + x % 16 ≡ x = omega arith in
    rw (hex_again (x / 16) (omega arith), hex_again (x % 16) (omega arith), whole) refl

-- ---- modes

-- a word of seven bytes, by the first five and the others
seven : (w : List ℕ) → length w ≡ 7 → w ≡ take 5 w ++ get_or w 5 0 ∷ get_or w 6 0 ∷ []
seven w h =
    let sixth = drop-cons w 5 0 (omega arith) in
    let seventh = drop-cons w 6 0 (omega arith) in
    let end = drop_all 7 w (omega arith) in
    sym (take-append-drop 5 w) ∙ ap (λ t. take 5 w ++ t) (sixth ∙ ap (λ t. get_or w 5 0 ∷ t) (seventh ∙ ap (λ t. get_or w 6 0 ∷ t) end))

abbrev Spells : List ℕ → Way → Type 0
Spells bytes w = (bytes ≡ mode_text w) × FitsMode w

torn_takes : (bytes : List ℕ) (w : Way) → torn_at bytes ≡ Ok w → Spells bytes w
torn_takes bytes w e =
    let got = want_ok (length bytes == 7 && bytes_eq (take 5 bytes) (codes "torn:")) why.Mode (byte_at (get_or bytes 5 0) (get_or bytes 6 0)) w e in
    let parts = and_parts (length bytes == 7) _ got.0 in
    let size : length bytes ≡ 7 = grind (arith, nat_tests, parts.0) in
    let prefix = same_text (take 5 bytes) (codes "torn:") (sym parts.1) in
    let byte = byte_takes (get_or bytes 5 0) (get_or bytes 6 0) w got.1 in
    (seven bytes size ∙ ap (λ t. t ++ get_or bytes 5 0 ∷ get_or bytes 6 0 ∷ []) prefix ∙ byte.spelled, byte.fits)

-- the word is this one, or another
word_chosen : (bytes name : List ℕ) (v w : Way) (other : Result Way WhyBad) → Spells name v → (other ≡ Ok w → Spells bytes w) → cond (bytes_eq bytes name) (Ok v) other ≡ Ok w → Spells bytes w
word_chosen bytes name v w other this that =
    elim (bytes_eq bytes name) as (λ b. bytes_eq bytes name ≡ b → cond b (Ok v) other ≡ Ok w → Spells bytes w) [
      | true ↦ λ e k. subst (λ (u : Way). Spells bytes u) (ok_is v w k) (same_text bytes name (sym e) ∙ this.0, this.1)
      | false ↦ λ e k. that k
    ] refl

mode_takes : (bytes : List ℕ) (w : Way) → mode_at bytes ≡ Ok w → Spells bytes w
mode_takes bytes w e = word_chosen bytes (codes "none") Lost w _ (refl, tt) (word_chosen bytes (codes "all") Kept w _ (refl, tt) (torn_takes bytes w)) e

mode_again : (w : Way) → FitsMode w → mode_at (mode_text w) ≡ Ok w
mode_again Lost f = refl
mode_again Kept f = refl
mode_again (Torn x) f = byte_again x f

mode_plain : (w : Way) → FitsMode w → is_plain (mode_text w) ≡ true
mode_plain Lost f = refl
mode_plain Kept f = refl
mode_plain (Torn x) f = and_from _ _ (hex_plain (x / 16) (omega arith)) (and_from _ _ (hex_plain (x % 16) (omega arith)) refl)

pub mode_law : IsWord mode
mode_law = record { takes = mode_takes; again = mode_again; plain = mode_plain }
