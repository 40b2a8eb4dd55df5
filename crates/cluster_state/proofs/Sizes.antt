-- How long the spelling of a state is at most.
use Rattle.std.proofs.Common.{◌≡◌, ℕ, ◌+◌, ◌*◌, ◌≤◌, List, [], ◌∷◌, ◌++◌, length, Some, None, refl, ap, arith, length-append}
use Rattle.std.specs.Prelude.{Option}
use Rattle.std.specs.List.{flat_map, AllByRecursion}
use Rattle.std.proofs.lemmas.List.Concat.{flat_map-cons}
use Rattle.voting_config.specs.Ids.{Id, most_ids}
use Rattle.cluster_state.specs.declared.state.ClusterState.{ClusterState}
use Rattle.cluster_state.specs.declared.state.ClusterValue.{ClusterValue}
use Rattle.cluster_state.specs.declared.state.StateId.{StateId}
use Rattle.cluster_state.specs.Field.{eight_bytes, two_bytes, optional}
use Rattle.cluster_state.specs.Fields.{id, ids, text_bytes, setting, settings, most_exclusions, most_settings}
use Rattle.cluster_state.specs.Settings.{Setting}
use Rattle.cluster_state.specs.States.{value, state_id, lineage, state, id_of}

pub length-eight : (n : ℕ) → length (eight_bytes n) ≡ 8
unfolding eight_bytes
length-eight n = refl

length-two : (n : ℕ) → length (two_bytes n) ≡ 2
unfolding two_bytes
length-two n = refl

each_id : (xs : List Id) → AllByRecursion id.Fits xs → length (flat_map id.spelling xs) ≤ 33 * length xs
each_id [] fits = omega arith
each_id (x ∷ xs) fits = omega (arith, each_id xs fits.1, fits.0.1, ap length (flat_map-cons id.spelling x xs), length-append (id.spelling x) (flat_map id.spelling xs))

pub ids_short : (limit : ℕ) (xs : List Id) → (ids limit).Fits xs → length ((ids limit).spelling xs) ≤ 1 + 33 * limit
ids_short limit xs fits = omega (arith, fits.0, each_id xs fits.2)

pub optional_short : (o : Option Id) → (optional id).Fits o → length ((optional id).spelling o) ≤ 34
optional_short None fits = omega arith
optional_short (Some x) fits = omega (arith, fits.1)

length-text : (t : List ℕ) → length (text_bytes t) ≡ 2 + length t
length-text t = omega (arith, length-append (two_bytes (length t)) t, length-two (length t))

setting_short : (s : Setting) → setting.Fits s → length (setting.spelling s) ≤ 1156
setting_short s fits = omega (arith, fits.0.1, fits.1.1, length-append (text_bytes s.0) (text_bytes s.1), length-text s.0, length-text s.1)

each_setting : (xs : List Setting) → AllByRecursion setting.Fits xs → length (flat_map setting.spelling xs) ≤ 1156 * length xs
each_setting [] fits = omega arith
each_setting (x ∷ xs) fits = omega (arith, each_setting xs fits.1, setting_short x fits.0, ap length (flat_map-cons setting.spelling x xs), length-append (setting.spelling x) (flat_map setting.spelling xs))

settings_short : (xs : List Setting) → settings.Fits xs → length (settings.spelling xs) ≤ 2 + 1156 * most_settings
settings_short xs fits = omega (arith, fits.0, each_setting xs fits.2, length-append (two_bytes (length xs)) (flat_map setting.spelling xs), length-two (length xs))

pub value_short : (v : ClusterValue) → value.Fits v → length (value.spelling v) ≤ 4737500
value_short v fits =
    omega (
      arith,
      optional_short v.master fits.0,
      ids_short most_ids v.members fits.1.0,
      ids_short most_exclusions v.exclusions fits.1.1.0,
      settings_short v.settings fits.1.1.1,
      length-append ((optional id).spelling v.master) ((ids most_ids).spelling v.members ++ ((ids most_exclusions).spelling v.exclusions ++ settings.spelling v.settings)),
      length-append ((ids most_ids).spelling v.members) ((ids most_exclusions).spelling v.exclusions ++ settings.spelling v.settings),
      length-append ((ids most_exclusions).spelling v.exclusions) (settings.spelling v.settings),
    )

length-state_id : (i : StateId) → length (state_id.spelling i) ≡ 16
length-state_id i = omega (arith, length-append (eight_bytes i.term) (eight_bytes i.version), length-eight i.term, length-eight i.version)

parent_short : (o : Option StateId) → length ((optional state_id).spelling o) ≤ 17
parent_short None = omega arith
parent_short (Some i) = omega (arith, length-state_id i)

lineage_short : (i : StateId) (o : Option StateId) → length (lineage.spelling (i, o)) ≤ 33
lineage_short i o = omega (arith, length-append (state_id.spelling i) ((optional state_id).spelling o), length-state_id i, parent_short o)

pub state_short : (s : ClusterState) → state.Fits s → length (state.spelling s) ≤ 4800000
state_short s fits =
    omega (
      arith,
      lineage_short (id_of s) s.parent,
      ids_short most_ids s.config fits.1.0,
      ids_short most_ids s.committed fits.1.1.0,
      value_short s.value fits.1.1.1,
      length-append (lineage.spelling (id_of s, s.parent)) ((ids most_ids).spelling s.config ++ ((ids most_ids).spelling s.committed ++ value.spelling s.value)),
      length-append ((ids most_ids).spelling s.config) ((ids most_ids).spelling s.committed ++ value.spelling s.value),
      length-append ((ids most_ids).spelling s.committed) (value.spelling s.value),
    )
