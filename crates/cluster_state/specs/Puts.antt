-- Part of the statement: which settings a client may put.
use Rattle.std.specs.Prelude.{ℕ, ◌==◌, ◌||◌, List, length, nat_lt, Option, Some, None, if◌then◌else◌}
use Rattle.cluster_state.specs.Fields.{most_key_bytes, most_value_bytes}
use Rattle.cluster_state.specs.declared.request.Ask.{Ask}
use Rattle.cluster_state.specs.declared.request.Ask.TheVariants.{Put, Remove, Exclude, Clear, State}

-- the length of a key that is empty or too long, else of a value that is too long
abbrev pub bad_length : List ℕ → List ℕ → Option ℕ
bad_length key value =
    if (length key == 0) || nat_lt most_key_bytes (length key) then Some (length key)
    else (if nat_lt most_value_bytes (length value) then Some (length value) else None)

abbrev pub bad_setting_of : Ask → Option ℕ
bad_setting_of (Put key value) = bad_length key value
bad_setting_of (Remove key) = None
bad_setting_of (Exclude ids) = None
bad_setting_of (Clear wait_for_removal) = None
bad_setting_of State = None
