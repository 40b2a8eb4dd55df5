-- For the contracts inside: who sends the frames of a connection, by its first bytes.
use Rattle.std.specs.Prelude.{ℕ, List, drop, Option, Some, None, Result, Ok, Err}
use Rattle.voting_config.specs.Ids.{Id}
use Rattle.cluster_state.specs.declared.fault.FieldError.{FieldError}
use Rattle.cluster_state.specs.Field.{byte_at}
use Rattle.cluster_state.specs.Fields.{id}
use Rattle.wire_frames.specs.declared.frame.Kind.{Kind}
use Rattle.wire_frames.specs.Kinds.{kind_of}

-- the id that was read, if there is one
abbrev pub id_read : Result (Id × List ℕ) FieldError → Option Id
id_read (Ok x) = Some x.0
id_read (Err fault) = None

-- after the byte of a kind stands the sender's id
abbrev pub sender_behind : Option Kind → List ℕ → Option Id
sender_behind None bytes = None
sender_behind (Some kind) bytes = id_read (id.at bytes)

abbrev pub sender_in_body : Result (ℕ × List ℕ) FieldError → Option Id
sender_in_body (Ok byte) = sender_behind (kind_of byte.0) byte.1
sender_in_body (Err fault) = None

-- the sender that these first bytes name, after four bytes of length
abbrev pub sender_of : List ℕ → Option Id
sender_of prefix = sender_in_body (byte_at (drop 4 prefix))
