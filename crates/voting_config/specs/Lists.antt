-- Part of the statement: a set as a text, its ids with commas between them.
use Rattle.std.specs.Prelude.{ℕ, ◌+◌, ◌==◌, Bool, true, ◌&&◌, Option, None, Some, List, [], ◌∷◌, ◌++◌, length, codes, nat_lt, if◌then◌else◌}
use Rattle.std.specs.List.{slice_split, join_with_byte}
use Rattle.std.specs.Str.{bytes_eq}
use Rattle.std.specs.Borrow.{Bor}
use Rattle.voting_config.specs.Ids.{Id, is_id, comes_after, most_ids}

-- the bytes that part words, the items of a list, and lines
abbrev pub space : ℕ
space = 32

abbrev pub comma : ℕ
comma = 44

abbrev pub line_feed : ℕ
line_feed = 10

-- what stands between the bytes c
abbrev pub parts_of : ℕ → List ℕ → List (List ℕ)
parts_of c bytes = slice_split (λ b. b == c) bytes

-- the parts after the first one, where there are some
abbrev pub parts_in : ℕ → Option (Bor (List ℕ)) → List (List ℕ)
parts_in c None = []
parts_in c (Some rest) = parts_of c rest.now

-- how many bytes are left
abbrev pub left_in : Option (Bor (List ℕ)) → ℕ
left_in None = 0
left_in (Some rest) = 1 + length rest.now

-- an id that comes after these, and there is room for it
abbrev pub may_follow : List Id → List ℕ → Bool
may_follow prefix x = is_id x && nat_lt (length prefix) most_ids && comes_after x prefix

-- each is an id that comes after those before it, and no set has more ids
abbrev pub are_ids_after : List Id → List (List ℕ) → Bool
are_ids_after prefix [] = true
are_ids_after prefix (x ∷ xs) = may_follow prefix x && are_ids_after (prefix ++ x ∷ []) xs

-- what stands between the commas of a list
abbrev pub items_of : List ℕ → List (List ℕ)
items_of w = if bytes_eq w (codes "_") then [] else parts_of comma w

-- ids with commas between them
abbrev pub list_text : List Id → List ℕ
list_text [] = codes "_"
list_text (x ∷ xs) = join_with_byte comma (x ∷ xs)

-- the ascending ids that a text lists
abbrev pub listed_ids : List ℕ → Option (List Id)
listed_ids text = if are_ids_after [] (items_of text) then Some (items_of text) else None
