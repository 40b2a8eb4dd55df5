-- What bytes are as JSON.
use Rattle.std.proofs.Common.{◌≡◌, refl, sym, ℕ, Bool, true, false, cond, List, None, Some}
use Rattle.std.specs.Str.{is_utf8, IsUtf8}
use Rattle.std.proofs.lemmas.Str.{IsUtf8-from_is_utf8, is_utf8-from_IsUtf8}
use Rattle.serde_json.specs.Data.{Data}
use Rattle.serde_json.specs.Read.{read}
use Rattle.recorded_trace.specs.Json.{json_of}

none_by : (bytes : List ℕ) (b : Bool) → is_utf8 bytes ≡ b → (IsUtf8 bytes → read bytes ≡ None) → cond b (read bytes) None ≡ None
none_by bytes true e h = h (IsUtf8-from_is_utf8 bytes e)
none_by bytes false e h = refl

-- no value is read where no text is
pub json_none : (bytes : List ℕ) → (IsUtf8 bytes → read bytes ≡ None) → None ≡ json_of bytes
json_none bytes h = sym (none_by bytes (is_utf8 bytes) refl h)

pub json_some : (bytes : List ℕ) (d : Data) → IsUtf8 bytes → read bytes ≡ Some d → Some d ≡ json_of bytes
json_some bytes d u e = sym (rw (is_utf8-from_IsUtf8 bytes u) e)
