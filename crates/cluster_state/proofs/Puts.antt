-- A setting that no client is refused is within the limits of a state.
use Rattle.std.proofs.Common.{◌≡◌, ℕ, List, None, arith}
use Rattle.std.proofs.lemmas.Bool.Decides.{nat_tests}
use Rattle.cluster_state.specs.Fields.{IsFitSetting}
use Rattle.cluster_state.specs.Puts.{bad_length}

pub IsFitSetting-bad_length : (key value : List ℕ) → bad_length key value ≡ None → IsFitSetting (key, value)
IsFitSetting-bad_length key value good = record {
  key = grind (arith, nat_tests);
  short_key = grind (arith, nat_tests);
  short_value = grind (arith, nat_tests);
}
