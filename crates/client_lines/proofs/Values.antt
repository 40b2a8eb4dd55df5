-- What bytes are as JSON.
use Rattle.std.proofs.Common.{◌≡◌, refl, ℕ, Bool, true, false, cond, List, None, Err}
use Rattle.std.specs.Prelude.{ok_or}
use Rattle.std.specs.Str.{is_utf8, IsUtf8}
use Rattle.std.proofs.lemmas.Str.{IsUtf8-from_is_utf8}
use Rattle.serde_json.specs.Read.{read}
use Rattle.cluster_state.specs.declared.reply.LineFault.TheVariants.{NotJson}
use Rattle.client_lines.specs.Reading.{json_of}

none_by : (bytes : List ℕ) (b : Bool) → is_utf8 bytes ≡ b → (IsUtf8 bytes → read bytes ≡ None) → cond b (read bytes) None ≡ None
none_by bytes true e h = h (IsUtf8-from_is_utf8 bytes e)
none_by bytes false e h = refl

-- no value is read where no text is
pub json_of-none : (bytes : List ℕ) → (IsUtf8 bytes → read bytes ≡ None) → ok_or (json_of bytes) NotJson ≡ Err NotJson
json_of-none bytes h = let e : json_of bytes ≡ None = none_by bytes (is_utf8 bytes) refl h in rw e refl
