-- Part of the statement: which request a JSON value is.
use Rattle.std.specs.Prelude.{ℕ, ◌==◌, ◌&&◌, Bool, true, false, not, if◌then◌else◌, List, [], ◌∷◌, length, codes, nat_le, Option, Some, None, option_map, option_and_then}
use Rattle.std.specs.Option.{option_map_or}
use Rattle.std.specs.Result.{result_ok}
use Rattle.cluster_state.specs.Field.{last_number}
use Rattle.serde_json.specs.Data.{Data, Items, no_items, item}
use Rattle.serde_json.specs.Events.{members_len, items_len}
use Rattle.serde_json.specs.Find.{get, as_number, as_u64, as_str, as_bool, as_array, as_object}
use Rattle.voting_config.specs.Ids.{Id, has, most_ids, set_of}
use Rattle.voting_config.specs.Parse.{parsed}
use Rattle.cluster_state.specs.declared.request.Request.{Request}
use Rattle.cluster_state.specs.declared.request.Ask.{Ask}
use Rattle.cluster_state.specs.declared.request.Ask.TheVariants.{Put, Remove, Exclude, Clear, State}

infixl 10 ◌>>=◌
abbrev pub ◌>>=◌ : {A B : Type 0} → Option A → (A → Option B) → Option B
o >>= f = option_and_then f o

-- an object with so many members
abbrev pub has_members : ℕ → Data → Bool
has_members count d = option_map_or (λ ms. members_len ms == count) (as_object d) false

-- ---- ids and settings

-- from 0 to 2^62
abbrev pub request_number : ℕ → Option ℕ
request_number n = if nat_le n last_number then Some n else None

abbrev pub id_of : Data → Option ℕ
id_of d = get (codes "id") d >>= as_number >>= as_u64 >>= request_number

abbrev pub text_at : List ℕ → Data → Option (List ℕ)
text_at name d = get name d >>= as_str

abbrev pub put_of : Data → Option Ask
put_of d =
    if has_members 2 d
    then (text_at (codes "key") d >>= λ key. text_at (codes "value") d >>= λ value. Some (Put key value))
    else None

abbrev pub remove_of : Data → Option Ask
remove_of d = if has_members 1 d then option_map Remove (text_at (codes "key") d) else None

-- ---- exclusions

abbrev pub node_id_of : Data → Option Id
node_id_of d = as_str d >>= λ text. result_ok (parsed text)

-- the ids that stand in an array, where each element is one
abbrev pub node_ids_of : Items → Option (List Id)
node_ids_of no_items = Some []
node_ids_of (item d ds) = node_id_of d >>= λ id. option_map (λ ids. id ∷ ids) (node_ids_of ds)

-- no two are the same
abbrev pub are_distinct : List Id → Bool
are_distinct [] = true
are_distinct (x ∷ xs) = not (has x xs) && are_distinct xs

-- distinct ids, few enough for a set
abbrev pub as_set : List Id → Option (List Id)
as_set ids = if are_distinct ids && nat_le (length ids) most_ids then Some (set_of ids) else None

abbrev pub node_set_of : Items → Option (List Id)
node_set_of ds = node_ids_of ds >>= as_set

-- 1 to 64 distinct ids
abbrev pub exclude_of : Data → Option Ask
exclude_of d = as_array d >>= λ ds. if items_len ds == 0 then None else option_map Exclude (node_set_of ds)

-- with no word on it, the client waits
abbrev pub clear_of : Data → Option Ask
clear_of d =
    if has_members 0 d then Some (Clear true)
    else (if has_members 1 d then option_map Clear (get (codes "wait_for_removal") d >>= as_bool)
    else None)

-- ---- requests

abbrev pub state_of : Data → Option Ask
state_of d = if has_members 0 d then Some State else None

-- what is asked, by the name under which it stands
abbrev pub ask_of : Data → Option Ask
ask_of d =
    option_map_or put_of (get (codes "put") d)
    (option_map_or remove_of (get (codes "remove") d)
    (option_map_or exclude_of (get (codes "exclude") d)
    (option_map_or clear_of (get (codes "clear") d)
    (option_map_or state_of (get (codes "state") d) None))))

-- an object of two members: the id, and one thing that is asked
abbrev pub request_of : Data → Option Request
request_of d =
    if has_members 2 d
    then (id_of d >>= λ id. ask_of d >>= λ ask. Some (record { id = id; ask = ask }))
    else None
