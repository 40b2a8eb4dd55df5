-- Part of the statement: the words of a line: how each kind is spelled, and what a word is read as.
use Rattle.std.specs.Prelude.{ℕ, ◌+◌, ◌-◌, ◌*◌, ◌/◌, ◌%◌, ◌<◌, ◌≤◌, ◌==◌, Bool, false, not, ◌&&◌, ◌||◌, Result, Ok, Err, List, [], ◌∷◌, ◌++◌, length, take, get_or, codes, decimal, IsTrue, nat_le, nat_lt, if◌then◌else◌}
use Rattle.std.specs.List.{list_all}
use Rattle.std.specs.Str.{bytes_eq}
use Rattle.voting_config.specs.Ids.{Id, are_among, has, is_id}
use Rattle.voting_config.specs.Lists.{are_ids_after, items_of, list_text}
use Rattle.zen_disk.specs.declared.orders.Way.{Way}
use Rattle.zen_disk.specs.declared.orders.Way.TheVariants.{Lost, Kept, Torn}
use Rattle.schedule_text.specs.declared.fault.WhyBad.{WhyBad}
use Rattle.schedule_text.specs.declared.fault.WhyBad.TheVariants as why

infixl 10 ◌>>=◌
abbrev pub ◌>>=◌ : {A B : Type 0} → Result A WhyBad → (A → Result B WhyBad) → Result B WhyBad
(Ok x) >>= f = f x
(Err e) >>= f = Err e

-- A kind of word: how a value is spelled, what a word is read as, and which values have a spelling.
pub record Word (A : Type 0) : Type 1 where
  pub spelling : A → List ℕ
  pub at : List ℕ → Result A WhyBad
  pub Fits : A → Type 0

-- a word that stands for itself, where it passes the test
abbrev pub itself : (List ℕ → Bool) → WhyBad → Word (List ℕ)
itself good bad = record {
  spelling = λ w. w;
  at = λ w. if good w then Ok w else Err bad;
  Fits = λ w. IsTrue (good w);
}

-- a listed node
abbrev pub listed : List Id → Word Id
listed ids = itself (λ w. has w ids) why.Id

-- 1 to 32 bytes of those of an id
abbrev pub text : Word (List ℕ)
text = itself is_id why.Text

-- ---- numbers

abbrev pub is_digit : ℕ → Bool
is_digit b = nat_le 48 b && nat_le b 57

-- the number that these digits say, after this one
abbrev pub value_from : ℕ → List ℕ → ℕ
value_from n [] = n
value_from n (b ∷ bs) = value_from (n * 10 + (b - 48)) bs

-- digits, without a zero before others
abbrev pub is_decimal : List ℕ → Bool
is_decimal [] = false
is_decimal (b ∷ bs) = list_all is_digit (b ∷ bs) && (not (b == 48) || length bs == 0)

-- a decimal number within bounds
abbrev pub number : ℕ → ℕ → Word ℕ
number low high = record {
  spelling = decimal;
  at = λ w. if is_decimal w && nat_le low (value_from 0 w) && nat_le (value_from 0 w) high then Ok (value_from 0 w) else Err why.Number;
  Fits = λ n. (low ≤ n) × (n ≤ high);
}

-- ---- lists

-- a list of ids, which passes the test
abbrev pub list : (List Id → Bool) → Word (List Id)
list good = record {
  spelling = list_text;
  at = λ w. if are_ids_after [] (items_of w) && good (items_of w) then Ok (items_of w) else Err why.List;
  Fits = λ xs. IsTrue (are_ids_after [] xs && good xs);
}

-- some of the listed nodes
abbrev pub config : List Id → Word (List Id)
config ids = list (are_among ids)

abbrev pub is_some_list : List Id → Bool
is_some_list xs = nat_lt 0 (length xs)

-- ---- modes

-- a digit of hexadecimal, by its number, and what a byte is read as
abbrev pub hex_byte : ℕ → ℕ
hex_byte n = if nat_lt n 10 then 48 + n else 97 + (n - 10)

abbrev pub hex_at : ℕ → Result ℕ WhyBad
hex_at b = if is_digit b then Ok (b - 48) else (if nat_le 97 b && nat_le b 102 then Ok (b - 97 + 10) else Err why.Mode)

-- a byte in two digits
abbrev pub byte_text : ℕ → List ℕ
byte_text x = hex_byte (x / 16) ∷ hex_byte (x % 16) ∷ []

abbrev pub byte_at : ℕ → ℕ → Result Way WhyBad
byte_at high low = hex_at high >>= λ h. hex_at low >>= λ l. Ok (Torn (h * 16 + l))

-- what a stop leaves
abbrev pub mode_text : Way → List ℕ
mode_text Lost = codes "none"
mode_text Kept = codes "all"
mode_text (Torn x) = codes "torn:" ++ byte_text x

abbrev pub torn_at : List ℕ → Result Way WhyBad
torn_at w = if length w == 7 && bytes_eq (take 5 w) (codes "torn:") then byte_at (get_or w 5 0) (get_or w 6 0) else Err why.Mode

abbrev pub mode_at : List ℕ → Result Way WhyBad
mode_at w =
    if bytes_eq w (codes "none") then Ok Lost
    else (if bytes_eq w (codes "all") then Ok Kept
    else torn_at w)

abbrev pub FitsMode : Way → Type 0
FitsMode Lost = Unit {0}
FitsMode Kept = Unit {0}
FitsMode (Torn x) = x < 256

abbrev pub mode : Word Way
mode = record {
  spelling = mode_text;
  at = mode_at;
  Fits = FitsMode;
}
