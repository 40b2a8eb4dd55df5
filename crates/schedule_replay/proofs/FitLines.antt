-- What the lines of a schedule name fits into the body of a state.
use Rattle.std.proofs.Common.{◌≡◌, ℕ, ◌≤◌, true, ◌&&◌, List, [], length, refl, arith}
use Rattle.std.specs.Prelude.{codes}
use Rattle.std.specs.Str.{is_utf8}
use Rattle.std.proofs.lemmas.Bool.{and_parts}
use Rattle.std.proofs.lemmas.Str.{is_utf8-from_IsUtf8}
use Rattle.voting_config.specs.Ids.{Id, is_id, most_ids, IsIdSet, are_among}
use Rattle.voting_config.proofs.Ascii.{IsUtf8-id}
use Rattle.cluster_state.specs.Fields.{ids}
use Rattle.cluster_state.specs.States.{value as value_field}
use Rattle.cluster_state.proofs.Fitting.{fits_id, fits_ids}
use Rattle.voting_config.specs.Lists.{are_ids_after}
use Rattle.trace_text.proofs.IdLists.{ids_set}
use Rattle.schedule_replay.specs.Replayed.{value_with}

pub set_fits : (xs : List Id) → IsIdSet xs → (ids most_ids).Fits xs
set_fits xs set = fits_ids most_ids xs set set.fits

-- the configuration of a value
pub config_fits : (listed xs : List Id) → (are_ids_after [] xs && are_among listed xs) ≡ true → (ids most_ids).Fits xs
config_fits listed xs e = set_fits xs (ids_set xs (and_parts (are_ids_after [] xs) (are_among listed xs) e).0)

is_text : (x : Id) → is_id x ≡ true → is_utf8 x ≡ true
is_text x is = is_utf8-from_IsUtf8 x (IsUtf8-id x is)

-- and its text
pub text_fits : (text : List ℕ) → is_id text ≡ true → value_field.Fits (value_with text)
text_fits text is =
    let sized = fits_id text is in
    let key : is_utf8 (codes "v") ≡ true = is_text (codes "v") refl in
    let long : length text ≤ 1024 = omega (arith, sized.1) in
    (tt, ((omega arith, refl, tt), ((omega arith, refl, tt), (omega arith, refl, (((omega arith, omega arith, key), (omega arith, long, is_text text is)), tt)))))
