-- For the contracts inside: what a reader's error says of the bytes.
use Rattle.std.specs.Prelude.{◌≡◌, ℕ, List, Result, Ok, Err}
use Rattle.cluster_state.specs.declared.fault.FieldError.{FieldError}
use Rattle.cluster_state.specs.declared.fault.ReadError.{ReadError}
use Rattle.cluster_state.specs.declared.fault.ReadError.TheVariants as reading
use Rattle.cluster_state.specs.declared.fault.StateFault.{StateFault}
use Rattle.cluster_state.specs.declared.fault.StateFault.TheVariants as state
use Rattle.cluster_state.specs.declared.fault.DecodeError.{DecodeError}
use Rattle.cluster_state.specs.declared.fault.DecodeError.TheVariants as decoding

abbrev pub decoding_of : ReadError → DecodeError
decoding_of reading.Memory = decoding.Memory
decoding_of (reading.Field f) = decoding.Fault (state.Field f)

-- What a reader returned, and the bytes that it left, are what reading gives.
abbrev pub Reads : {X Y : Type 0} → (X → Y) → Result X FieldError → List ℕ → Result (Y × List ℕ) FieldError → Type 0
Reads view (Ok x) rest read = read ≡ Ok (view x, rest)
Reads view (Err e) rest read = read ≡ Err e

-- The same, unless memory ran out.
abbrev pub Fails : {Y : Type 0} → ReadError → Result Y FieldError → Type 0
Fails reading.Memory read = Unit {0}
Fails (reading.Field f) read = read ≡ Err f

abbrev pub ReadsInMemory : {X : Type 0} → Result X ReadError → List ℕ → Result (X × List ℕ) FieldError → Type 0
ReadsInMemory (Ok x) rest read = read ≡ Ok (x, rest)
ReadsInMemory (Err e) rest read = Fails e read

-- What was decoded is what the bytes are, unless memory ran out.
abbrev pub FailsToDecode : {X : Type 0} → DecodeError → Result X StateFault → Type 0
FailsToDecode decoding.Memory read = Unit {0}
FailsToDecode (decoding.Fault f) read = read ≡ Err f

abbrev pub Decodes : {X : Type 0} → Result X DecodeError → Result X StateFault → Type 0
Decodes (Ok x) read = read ≡ Ok x
Decodes (Err e) read = FailsToDecode e read
