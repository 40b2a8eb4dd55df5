-- Part of the statement: the values of options, by their kinds.
use Rattle.std.specs.Prelude.{ℕ, ◌^◌, ◌==◌, ◌&&◌, ◌||◌, Bool, false, not, if◌then◌else◌, length, codes, nat_le, nat_lt, Option, Some, None, is_some, option_and_then}
use Rattle.std.specs.Char.{is_ascii_digit}
use Rattle.std.specs.List.{list_all, list_any}
use Rattle.std.specs.Option.{option_map_or}
use Rattle.std.specs.Str.{bytes_eq}
use Rattle.std.specs.Str.Parse.{digits_value}
use Rattle.clap.specs.Lexer.{strip_byte}
use Rattle.voting_config.specs.Ids.{Id, is_id}
use Rattle.command_line.specs.Given.{Text, is_hyphened}

infixl 10 ◌>>=◌
abbrev pub ◌>>=◌ : {A B : Type 0} → Option A → (A → Option B) → Option B
o >>= f = option_and_then f o

-- what stands with each name
abbrev pub Look : Type 0
Look = Text → Option Text

-- a text that is not empty and does not begin with a hyphen
abbrev pub plain_text : Text → Option Text
plain_text t = if is_hyphened t || length t == 0 then None else Some t

-- the value of this option, which is such a text
abbrev pub text_at : Text → Look → Option Text
text_at name look = look name >>= plain_text

-- whether this flag is set
abbrev pub is_set : Text → Look → Bool
is_set name look = option_map_or (λ t. bytes_eq t (codes "true")) (look name) false

abbrev pub id_of : Text → Option Id
id_of t = if is_id t then Some t else None

-- a text without a comma
abbrev pub address_of : Text → Option Text
address_of t = if list_any (λ b. b == 44) t then None else Some t

-- a zero before other bytes
abbrev pub has_leading_zero : Text → Bool
has_leading_zero t = is_some (strip_byte 48 t) && nat_lt 1 (length t)

-- decimal digits alone, without a zero before others, of a number of 64 bits
abbrev pub is_number : Text → Bool
is_number t = list_all is_ascii_digit t && (not (has_leading_zero t) && (nat_lt 0 (length t) && nat_lt (digits_value 10 t) (2 ^ 64)))

abbrev pub number_of : Text → Option ℕ
number_of t = if is_number t then Some (digits_value 10 t) else None

-- such a number within bounds
abbrev pub number_within : ℕ → ℕ → Text → Option ℕ
number_within least most t = number_of t >>= λ n. if nat_le least n && nat_le n most then Some n else None
