-- Part of the statement of `zen_chart`: what of a line is shown, and how it is escaped.
use Rattle.std.specs.Prelude.{ℕ, ◌/◌, ◌%◌, ◌==◌, nat_eq, ◌&&◌, Result, Ok, Err, List, [], ◌∷◌, ◌++◌, length, take, drop, get_or, codes, decimal, nat_le, nat_lt, if◌then◌else◌}
use Rattle.std.specs.List.{flat_map, join_with_byte, starts_with}
use Rattle.schedule_text.specs.declared.fault.WhyBad.{WhyBad}
use Rattle.schedule_text.specs.Words.{hex_byte}
use Rattle.voting_config.specs.Lists.{parts_of, comma}
use Rattle.schedule_text.specs.Lines.{any_number}

-- ---- parts

-- what stands before the first byte c: all where there is none
abbrev pub before : ℕ → List ℕ → List ℕ
before c bytes = get_or (parts_of c bytes) 0 []

-- what stands after the first byte c: nothing where there is none
abbrev pub behind : ℕ → List ℕ → List ℕ
behind c bytes = join_with_byte c (drop 1 (parts_of c bytes))

-- the last of some parts
abbrev pub last_in : List (List ℕ) → List ℕ
last_in [] = []
last_in (x ∷ []) = x
last_in (x ∷ y ∷ more) = last_in (y ∷ more)

-- what stands after the last byte c: all where there is none
abbrev pub last_part : ℕ → List ℕ → List ℕ
last_part c bytes = last_in (parts_of c bytes)

-- ---- states

abbrev pub colon : ℕ
colon = 58

abbrev pub open_brace : ℕ
open_brace = 123

abbrev pub close_brace : ℕ
close_brace = 125

-- the parent of a state written as JSON, and what stands after it: no colon stands before it but those after `committed`, `config` and
-- `parent`
abbrev pub from_parent : List ℕ → List ℕ
from_parent json = behind colon (behind colon (behind colon json))

-- what stands after the parent: where it is an object, after its closing brace
abbrev pub behind_parent : List ℕ → List ℕ
behind_parent parent = if starts_with nat_eq parent (open_brace ∷ []) then behind close_brace parent else parent

-- the word where a state has its term, which comes after the next colon
abbrev pub term_word : List ℕ → List ℕ
term_word json = before comma (behind colon (behind_parent (from_parent json)))

-- and where it has its version, its last member
abbrev pub version_word : List ℕ → List ℕ
version_word json = before close_brace (last_part colon json)

abbrev pub id_by : Result ℕ WhyBad → Result ℕ WhyBad → List ℕ
id_by (Ok term) (Ok version) = decimal term ++ (codes "/" ++ decimal version)
id_by (Ok term) (Err e) = codes "{..}"
id_by (Err e) version = codes "{..}"

-- A state is shown by its term and version, any other object as `{..}`.
abbrev pub short_json : List ℕ → List ℕ
short_json json = id_by (any_number.at (term_word json)) (any_number.at (version_word json))

abbrev pub short_behind : List ℕ → List ℕ
short_behind [] = []
short_behind (b ∷ bs) = short_json (b ∷ bs)

-- words of a trace, with the JSON at their end short
abbrev pub short_words : List ℕ → List ℕ
short_words words = before open_brace words ++ short_behind (behind open_brace words)

-- ---- texts

-- a text, or where it is too long its first bytes and two dots
abbrev pub capped : ℕ → List ℕ → List ℕ
capped most text = if nat_lt most (length text) then take most text ++ codes ".." else text

-- a byte in two digits, between brackets that are no ASCII
abbrev pub byte_name : ℕ → List ℕ
byte_name b = codes "&#x27e8;" ++ (hex_byte (b / 16) ∷ hex_byte (b % 16) ∷ codes "&#x27e9;")

-- A printable byte of ASCII stands for itself, but for those that XML has names for; each other one is shown by its number.
abbrev pub escaped_byte : ℕ → List ℕ
escaped_byte b =
    if b == 38 then codes "&amp;"
    else (if b == 60 then codes "&lt;"
    else (if b == 62 then codes "&gt;"
    else (if nat_le 32 b && nat_lt b 127 then b ∷ []
    else byte_name b)))

-- bytes as text of XML
abbrev pub escaped : List ℕ → List ℕ
escaped bytes = flat_map escaped_byte bytes
