-- Lines cut at their spaces, and numbers and ids read back.
use Rattle.std.proofs.Common.{◌≡◌, ℕ, true, false, not, ◌&&◌, Result, Ok, Err, List, ◌∷◌, ◌++◌, refl, sym, ap, ◌∙◌, codes, decimal, append_assoc, IsTrue}
use Rattle.std.specs.Prelude.{nat_lt, nat_le, ◌==◌, length}
use Rattle.std.specs.Str.{bytes_eq}
use Rattle.std.specs.Cmp.Lexicographic.{same_text}
use Rattle.std.proofs.lemmas.Bool.{and_parts}
use Rattle.voting_config.specs.Ids.{Id, is_id, is_id_byte}
use Rattle.schedule_text.specs.declared.fault.WhyBad.{WhyBad}
use Rattle.schedule_text.specs.declared.fault.WhyBad.TheVariants as why
use Rattle.schedule_text.specs.Words.{is_digit}
use Rattle.schedule_text.specs.Lines.{any_number, word_and_rest, words_of}
use Rattle.schedule_text.proofs.WordLaws.{lacks, all_weaker, split_first, id_plain}
use Rattle.schedule_text.proofs.LineLaws.{rest_is}
use Rattle.line_laws.specs.Fits.{IsSmall}
use Rattle.line_laws.proofs.Plain.{spaceless, number_again, number_digits}

abbrev pub done : {A : Type 0} → A → Result A WhyBad
done x = Ok x

-- one word, two words and what stands behind them
pub spaced : (n rest : List ℕ) → (n ++ codes " ") ++ rest ≡ n ++ 32 ∷ rest
spaced n rest = append_assoc n (codes " ") rest

pub spaced_twice : (n w rest : List ℕ) → (((n ++ codes " ") ++ w) ++ codes " ") ++ rest ≡ n ++ 32 ∷ (w ++ 32 ∷ rest)
spaced_twice n w rest =
    append_assoc ((n ++ codes " ") ++ w) (codes " ") rest ∙ append_assoc (n ++ codes " ") w (32 ∷ rest) ∙ append_assoc n (codes " ") (w ++ 32 ∷ rest)

pub onward : (xs n ys zs : List ℕ) → xs ≡ n ++ 32 ∷ ys → xs ++ zs ≡ n ++ 32 ∷ (ys ++ zs)
onward xs n ys zs e = ap (λ (t : List ℕ). t ++ zs) e ∙ append_assoc n (32 ∷ ys) zs

pub first_and_rest : (w rest : List ℕ) → lacks 32 w ≡ true → word_and_rest (words_of (w ++ 32 ∷ rest)) ≡ done (w, rest)
first_and_rest w rest h = ap word_and_rest (split_first 32 w rest h) ∙ rest_is w rest

pub id_lacks : (n : Id) → IsTrue (is_id n) → lacks 32 n ≡ true
id_lacks n h = spaceless n (id_plain n h)

-- ---- bytes that stand in no id, and in no number

pub id_without : (c : ℕ) → ((b : ℕ) → is_id_byte b ≡ true → not (b == c) ≡ true) → (n : Id) → IsTrue (is_id n) → lacks c n ≡ true
id_without c f n h = all_weaker is_id_byte (λ b. not (b == c)) f n (and_parts (nat_lt 0 (length n) && nat_le (length n) 32) _ h).1

pub number_without : (c : ℕ) → ((b : ℕ) → is_digit b ≡ true → not (b == c) ≡ true) → (x : ℕ) → lacks c (decimal x) ≡ true
number_without c f x = all_weaker is_digit (λ b. not (b == c)) f (decimal x) (number_digits x)

-- ---- a number is no word of letters

wrong : (k : ℕ) → done k ≡ Err why.Number → ⊥
wrong k e = cc

pub not_word : (k : ℕ) (w : List ℕ) → IsSmall k → any_number.at w ≡ Err why.Number → bytes_eq (decimal k) w ≡ false
not_word k w small bad =
    elim (bytes_eq (decimal k) w) as (λ b. bytes_eq (decimal k) w ≡ b → b ≡ false) [
      | true ↦ λ e. let other : any_number.at (decimal k) ≡ Err why.Number = ap any_number.at (same_text (decimal k) w (sym e)) ∙ bad in absurd (wrong k (sym (number_again k small) ∙ other))
      | false ↦ λ e. refl
    ] refl
