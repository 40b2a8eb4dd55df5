-- Reading numbers.
use Rattle.std.proofs.Common.{◌≡◌, refl, ap, ℕ, ◌^◌, ◌<◌, true, false, ◌&&◌, length, Some, Result, Ok, Err, rules}
use Rattle.std.proofs.lemmas.Bool.{false_from_ne_true}
use Rattle.std.specs.Prelude.{nat_lt}
use Rattle.std.specs.Bool.{Decides}
use Rattle.std.specs.List.{list_all}
use Rattle.std.specs.Char.{is_ascii_digit}
use Rattle.std.specs.Result.{result_ok, OkIff}
use Rattle.std.specs.Str.Parse.{digits_value, ParsesUnsigned}
use Rattle.std.proofs.lemmas.Bool.Decides.{Decides-and, Decides-ltb}
use Rattle.std.proofs.lemmas.Str.Parse.{IsNumeralModel, numerals_by_value, parse_digits}
use Rattle.command_line.specs.Given.{Text}
use Rattle.command_line.specs.Values.{has_leading_zero, number_of}

own : IsNumeralModel (λ ds. list_all is_ascii_digit ds ≡ true) (digits_value 10)
own = numerals_by_value (λ ds. list_all is_ascii_digit ds ≡ true) (search rules)

fits : (t : Text) → Decides (nat_lt 0 (length t) && nat_lt (digits_value 10 t) (2 ^ 64)) ((0 < length t) × (digits_value 10 t < 2 ^ 64))
fits t = Decides-and _ _ (Decides-ltb 0 (length t)) (Decides-ltb (digits_value 10 t) (2 ^ 64))

pub is_number : {E : Type 0} (t : Text) (r : Result ℕ E) → ParsesUnsigned 64 10 t r → list_all is_ascii_digit t ≡ true → has_leading_zero t ≡ false → result_ok r ≡ number_of t
is_number {E} t r h digits begins = go r (parse_digits own 64 t r h digits)
  where
    go : (r : Result ℕ E) → OkIff r ((0 < length t) × (digits_value 10 t < 2 ^ 64)) (digits_value 10 t) → result_ok r ≡ number_of t
    go (Ok x) q = rw (digits, begins, (fits t).1 q.0) (ap (λ (n : ℕ). Some n) q.1)
    go (Err e) q = rw (digits, begins, false_from_ne_true _ (λ z. q ((fits t).0 z))) refl
