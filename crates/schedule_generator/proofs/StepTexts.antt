-- The text of a step is of the form that a setting has.
use Rattle.std.proofs.Common.{◌≡◌, ℕ, ◌^◌, ◌<◌, ◌≤◌, true, List, length, refl, arith, rules, ◌&&◌}
use Rattle.std.specs.Prelude.{nat_lt, nat_le, decimal, if◌then◌else◌, Option, Some, None}
use Rattle.std.specs.List.{list_all}
use Rattle.std.proofs.lemmas.Bool.{and_from}
use Rattle.std.proofs.lemmas.Bool.Decides.{nat_tests}
use Rattle.std.proofs.lemmas.Fmt.{digits_decimal, length-decimal-le}
use Rattle.std.proofs.lemmas.Str.Parse.{IsNumeralModel, numerals_by_fold}
use Rattle.voting_config.specs.Ids.{is_id, is_id_byte}
use Rattle.schedule_text.specs.Words.{is_digit, value_from}
use Rattle.schedule_text.proofs.WordLaws.{all_weaker}
use Rattle.schedule_generator.specs.Drawn.{text_of}

digits : IsNumeralModel (λ ds. list_all is_digit ds ≡ true) (value_from 0)
digits = numerals_by_fold _ (search rules) value_from (search rules)

digit_in_id : (b : ℕ) → is_digit b ≡ true → is_id_byte b ≡ true
digit_in_id b h = grind (arith, nat_tests)

pub decimal_short : (n : ℕ) → n < 2 ^ 64 → length (decimal n) ≤ 20
decimal_short n h = length-decimal-le 20 n (omega arith) (omega arith) h

sized : (t : List ℕ) → 0 < length t → length t ≤ 32 → (nat_lt 0 (length t) && nat_le (length t) 32) ≡ true
sized t some few = and_from (nat_lt 0 (length t)) (nat_le (length t) 32) (grind (arith, nat_tests)) (grind (arith, nat_tests))

pub is_text : (step : ℕ) → step < 2 ^ 64 → is_id (text_of step) ≡ true
is_text step h =
    and_from (nat_lt 0 (length (text_of step)) && nat_le (length (text_of step)) 32) (list_all is_id_byte (text_of step))
    (sized (text_of step) (omega arith) (omega (arith, decimal_short step h)))
    (and_from (is_id_byte 115) _ refl (all_weaker is_digit is_id_byte digit_in_id (decimal step) (digits_decimal digits step h)))

-- an id is found to be one
pub found : (t : List ℕ) (r : Option (List ℕ)) → is_id t ≡ true → r ≡ (if is_id t then Some t else None) → r ≡ Some t
found t r is h = rw is at h
