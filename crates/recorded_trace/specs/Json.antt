-- Part of the statement: which state, and which value, a JSON value is. An object has exactly its keys, in any order; of a key that stands
-- twice the last one counts.
use Rattle.std.specs.Prelude.{ℕ, ◌==◌, Bool, false, if◌then◌else◌, List, [], ◌∷◌, ◌++◌, codes, Option, Some, None, option_map, option_and_then, ok_or, Result}
use Rattle.std.specs.Option.{option_map_or, is_some}
use Rattle.std.specs.Str.{is_utf8}
use Rattle.serde_json.specs.Data.{Data, Items, no_items, item, Members, no_members, member}
use Rattle.serde_json.specs.Events.{members_len}
use Rattle.serde_json.specs.Find.{get, as_number, as_u64, as_str, as_array, as_object, as_null}
use Rattle.serde_json.specs.Read.{read}
use Rattle.voting_config.specs.Ids.{Id, is_id}
use Rattle.voting_config.specs.Lists.{may_follow}
use Rattle.cluster_state.specs.Settings.{Setting, put_setting}
use Rattle.cluster_state.specs.declared.state.ClusterState.{ClusterState}
use Rattle.cluster_state.specs.declared.state.ClusterValue.{ClusterValue}
use Rattle.cluster_state.specs.declared.state.StateId.{StateId}
use Rattle.schedule_text.specs.declared.fault.WhyBad.{WhyBad}
use Rattle.schedule_text.specs.declared.fault.WhyBad.TheVariants as why

infixl 10 ◌>>?◌
abbrev pub ◌>>?◌ : {A B : Type 0} → Option A → (A → Option B) → Option B
o >>? f = option_and_then f o

-- an object with so many members
abbrev pub has_members : ℕ → Data → Bool
has_members count d = option_map_or (λ ms. members_len ms == count) (as_object d) false

abbrev pub number_at : List ℕ → Data → Option ℕ
number_at name d = get name d >>? as_number >>? as_u64

-- ---- ids

abbrev pub id_in : Data → Option Id
id_in d = as_str d >>? λ text. if is_id text then Some text else None

-- the ids of an array, after these, in their order
abbrev pub ids_after : List Id → Items → Option (List Id)
ids_after prefix no_items = Some prefix
ids_after prefix (item d ds) = id_in d >>? λ id. if may_follow prefix id then ids_after (prefix ++ id ∷ []) ds else None

abbrev pub ids_in : Data → Option (List Id)
ids_in d = as_array d >>? λ ds. ids_after [] ds

abbrev pub ids_of : List ℕ → Data → Option (List Id)
ids_of name d = get name d >>? ids_in

abbrev pub master_in : Data → Option (Option Id)
master_in d = if is_some (as_null d) then Some None else option_map Some (id_in d)

abbrev pub master_of : Data → Option (Option Id)
master_of d = get (codes "master") d >>? master_in

-- ---- settings

abbrev pub settings_after : List Setting → Members → Option (List Setting)
settings_after prefix no_members = Some prefix
settings_after prefix (member key d more) = as_str d >>? λ text. settings_after (put_setting (key, text) prefix) more

abbrev pub settings_in : Data → Option (List Setting)
settings_in d = as_object d >>? λ members. settings_after [] members

abbrev pub settings_of : Data → Option (List Setting)
settings_of d = get (codes "settings") d >>? settings_in

-- ---- values and states

abbrev pub value_in : Data → Option ClusterValue
value_in d =
    if has_members 4 d
    then (ids_of (codes "exclusions") d >>? λ exclusions. master_of d >>? λ master. ids_of (codes "members") d >>? λ members. settings_of d
    >>? λ settings.
    Some (record { master = master; members = members; exclusions = exclusions; settings = settings }))
    else None

abbrev pub value_of : Data → Option ClusterValue
value_of d = get (codes "value") d >>? value_in

abbrev pub state_id_in : Data → Option StateId
state_id_in d =
    if has_members 2 d
    then (number_at (codes "term") d >>? λ term. number_at (codes "version") d >>? λ version. Some
    (record { term = term; version = version }))
    else None

abbrev pub parent_in : Data → Option (Option StateId)
parent_in d = if is_some (as_null d) then Some None else option_map Some (state_id_in d)

abbrev pub parent_of : Data → Option (Option StateId)
parent_of d = get (codes "parent") d >>? parent_in

abbrev pub state_in : Data → Option ClusterState
state_in d =
    if has_members 6 d
    then (ids_of (codes "committed") d >>? λ committed. ids_of (codes "config") d >>? λ config. parent_of d >>? λ parent.
    number_at (codes "term") d >>? λ term. number_at (codes "version") d >>? λ version. value_of d >>? λ value.
    Some (record { term = term; version = version; parent = parent; config = config; committed = committed; value = value }))
    else None

-- ---- texts

-- the JSON value that the bytes are
abbrev pub json_of : List ℕ → Option Data
json_of bytes = if is_utf8 bytes then read bytes else None

abbrev pub shaped : {X : Type 0} → Option X → Result X WhyBad
shaped o = ok_or o why.Text

abbrev pub value_at : List ℕ → Result ClusterValue WhyBad
value_at bytes = shaped (json_of bytes >>? value_in)

abbrev pub state_at : List ℕ → Result ClusterState WhyBad
state_at bytes = shaped (json_of bytes >>? state_in)
