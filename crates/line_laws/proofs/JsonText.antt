-- The JSON that is written is UTF-8, and is read back as the value that it was written for.
use Rattle.std.proofs.Common.{◌≡◌, ◌≤◌, Bool, true, false, Some, [], ◌∷◌, ◌++◌, decimal, refl, sym, ap, ◌∙◌, append-nil}
use Rattle.std.specs.Prelude.{option_and_then}
use Rattle.std.specs.Str.{IsUtf8}
use Rattle.std.proofs.lemmas.Str.{IsUtf8-append, IsUtf8-nil, IsUtf8-from_ascii}
use Rattle.std.proofs.lemmas.Fmt.{IsAscii-decimal}
use Rattle.json.specs.Json as json
use Rattle.json.specs.Lex.{tokens}
use Rattle.json.specs.Print.{quoted}
use Rattle.json.specs.Tree.{json_tokens, depth, HasNumbers, ItemsHaveNumbers, MembersHaveNumbers}
use Rattle.json.proofs.Printed.Decimals.{IsNumber-decimal}
use Rattle.json.proofs.Printed.Tokens.{tokens-print}
use Rattle.json.proofs.Printed.Trees.{ArePrintable-json_tokens, value-json_tokens}
use Rattle.json.proofs.Printed.Utf8.{IsUtf8-are_ascii, IsUtf8-quoted, IsUtf8-boolean}
use Rattle.serde_json.specs.Data.{Num, unsigned, negative, float, Data, null, boolean, number, string, array, object, Items, no_items, item, Members, no_members, member}
use Rattle.serde_json.specs.Read.{of_json, read, max_depth}
use Rattle.serde_json.specs.Written.{compact_text, items_text, members_text, number_text, comma_if, outline, items_outline, members_outline}
use Rattle.serde_json.proofs.Texts.{print-outline}
use Rattle.line_laws.proofs.Json.{IsCount, counts, items_count, members_count}

-- ---- values whose texts are UTF-8

abbrev mutual
  pub AreTexts : Data → Type 0
  AreTexts null = Unit {0}
  AreTexts (boolean b) = Unit {0}
  AreTexts (number n) = Unit {0}
  AreTexts (string s) = IsUtf8 s
  AreTexts (array ds) = ItemsAreTexts ds
  AreTexts (object ms) = MembersAreTexts ms

  pub ItemsAreTexts : Items → Type 0
  ItemsAreTexts no_items = Unit {0}
  ItemsAreTexts (item d ds) = AreTexts d × ItemsAreTexts ds

  pub MembersAreTexts : Members → Type 0
  MembersAreTexts no_members = Unit {0}
  MembersAreTexts (member k d ms) = IsUtf8 k × AreTexts d × MembersAreTexts ms

comma_utf8 : (later : Bool) → IsUtf8 (comma_if later)
comma_utf8 true = IsUtf8-are_ascii (44 ∷ []) refl
comma_utf8 false = IsUtf8-nil

number_utf8 : (n : Num) → IsCount n → IsUtf8 (number_text n)
number_utf8 (unsigned n) h = IsUtf8-from_ascii (decimal n) (IsAscii-decimal n h)
number_utf8 (negative z) h = absurd h
number_utf8 (float x) h = absurd h

mutual
  pub data_utf8 : (d : Data) → counts d → AreTexts d → IsUtf8 (compact_text d)
  data_utf8 null h t = IsUtf8-are_ascii (110 ∷ 117 ∷ 108 ∷ 108 ∷ []) refl
  data_utf8 (boolean b) h t = IsUtf8-boolean b
  data_utf8 (number n) h t = number_utf8 n h
  data_utf8 (string s) h t = IsUtf8-quoted s t
  data_utf8 (array ds) h t = IsUtf8-append (91 ∷ []) (items_text false ds) (IsUtf8-are_ascii (91 ∷ []) refl) (items_utf8 false ds h t)
  data_utf8 (object ms) h t = IsUtf8-append (123 ∷ []) (members_text false ms) (IsUtf8-are_ascii (123 ∷ []) refl) (members_utf8 false ms h t)

  items_utf8 : (later : Bool) (ds : Items) → items_count ds → ItemsAreTexts ds → IsUtf8 (items_text later ds)
  items_utf8 later no_items h t = IsUtf8-are_ascii (93 ∷ []) refl
  items_utf8 later (item d ds) h t =
      IsUtf8-append (comma_if later) (compact_text d ++ items_text true ds) (comma_utf8 later)
      (IsUtf8-append (compact_text d) (items_text true ds) (data_utf8 d h.0 t.0) (items_utf8 true ds h.1 t.1))

  members_utf8 : (later : Bool) (ms : Members) → members_count ms → MembersAreTexts ms → IsUtf8 (members_text later ms)
  members_utf8 later no_members h t = IsUtf8-are_ascii (125 ∷ []) refl
  members_utf8 later (member k d ms) h t =
      IsUtf8-append (comma_if later) (quoted k ++ 58 ∷ (compact_text d ++ members_text true ms)) (comma_utf8 later)
      (IsUtf8-append (quoted k) (58 ∷ (compact_text d ++ members_text true ms)) (IsUtf8-quoted k t.0)
      (IsUtf8-append (58 ∷ []) (compact_text d ++ members_text true ms) (IsUtf8-are_ascii (58 ∷ []) refl)
      (IsUtf8-append (compact_text d) (members_text true ms) (data_utf8 d h.0 t.1) (members_utf8 true ms h.1 t.2))))

-- ---- what is read

count_number : (n : Num) → IsCount n → HasNumbers (outline (number n))
count_number (unsigned n) h = IsNumber-decimal n h
count_number (negative z) h = absurd h
count_number (float x) h = absurd h

mutual
  numbers : (d : Data) → counts d → HasNumbers (outline d)
  numbers null h = tt
  numbers (boolean b) h = tt
  numbers (number n) h = count_number n h
  numbers (string s) h = tt
  numbers (array ds) h = items_numbers ds h
  numbers (object ms) h = members_numbers ms h

  items_numbers : (ds : Items) → items_count ds → ItemsHaveNumbers (items_outline ds)
  items_numbers no_items h = tt
  items_numbers (item d ds) h = (numbers d h.0, items_numbers ds h.1)

  members_numbers : (ms : Members) → members_count ms → MembersHaveNumbers (members_outline ms)
  members_numbers no_members h = tt
  members_numbers (member k d ms) h = (numbers d h.0, members_numbers ms h.1)

-- the text is read as what its tokens stand for
pub read_back : (d : Data) → counts d → depth (outline d) ≤ max_depth → of_json (outline d) ≡ Some d → read (compact_text d) ≡ Some d
read_back d h shallow same =
    let j = outline d in
    let text : tokens (compact_text d) ≡ json_tokens j ++ [] =
    ap tokens (sym (print-outline d)) ∙ tokens-print (json_tokens j) (ArePrintable-json_tokens j (numbers d h)) ∙ sym (append-nil (json_tokens j)) in
    ap (λ p. option_and_then of_json (option_and_then (λ q. json.if_last q.0 q.1) p)) (ap (json.value max_depth) text ∙ value-json_tokens j max_depth [] shallow) ∙ same
