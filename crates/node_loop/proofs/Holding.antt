-- What a reader holds is short.
use Rattle.std.proofs.Common.{◌≡◌, ℕ, zero, suc, ◌+◌, ◌<◌, ◌≤◌, nat_lt, ◌==◌, Bool, true, false, Result, Ok, Err, List, [], ◌∷◌, length, take, drop, get_or, refl, sym, subst, arith, length-drop, length-take}
use Rattle.std.proofs.lemmas.Bool.{ltb-true, ltb-false}
use Rattle.zen_link.specs.Told.{most_connections}
use Rattle.wire_frames.specs.declared.fault.FrameError.{FrameError}
use Rattle.wire_frames.specs.declared.frame.Frame.{Frame}
use Rattle.wire_frames.specs.Frames.{most_body, frame_of}
use Rattle.wire_frames.specs.Streams.{Stream, read_up, said_length, prefix_of, stream_with_prefix, stream_within, stream}
use Rattle.client_lines.specs.Lines.{cut, rest_of}
use Rattle.node_loop.specs.declared.connection.Connection.{Connection}
use Rattle.node_loop.specs.declared.connection.Connection.TheVariants.{Fresh, Frames, Lines}
use Rattle.node_loop.specs.Intakes.{Intakes}
use Rattle.node_loop.specs.Connections.{reading_of, bytes_of}
use Rattle.node_loop.specs.Turns.{Reads}
use Rattle.node_loop.specs.Limits.{IsShort, HoldsLittle}

-- by what stands at the start: less than a length, too long a length, less than a body, or a body
prefix_holds : (bytes : List ℕ) (after : List ℕ → Stream) (t1 t2 t3 : Bool) (body : Result Frame FrameError)
    → nat_lt (length bytes) 4 ≡ t1 → nat_lt most_body (said_length bytes) ≡ t2 → nat_lt (length (drop 4 bytes)) (said_length bytes) ≡ t3
    → frame_of (take (said_length bytes) (drop 4 bytes)) ≡ body
    → ((rest : List ℕ) → length rest + 4 ≤ length bytes → IsShort (after rest).ending)
    → IsShort (stream_with_prefix (prefix_of bytes) bytes after).ending
prefix_holds bytes after true t2 t3 body e1 e2 e3 e4 later = rw e1 (let short = ltb-true (length bytes) 4 e1 in omega arith)
prefix_holds bytes after false true t3 body e1 e2 e3 e4 later = rw (e1, e2) tt
prefix_holds bytes after false false true body e1 e2 e3 e4 later =
    let fits = ltb-false most_body (said_length bytes) e2 in
    let short = ltb-true (length (drop 4 bytes)) (said_length bytes) e3 in
    rw (e1, e2, e3) (omega (arith, fits, short, length-drop 4 bytes))
prefix_holds bytes after false false false (Err fault) e1 e2 e3 e4 later = rw (e1, e2, e3, e4) tt
prefix_holds bytes after false false false (Ok frame) e1 e2 e3 e4 later =
    let long = ltb-false (length bytes) 4 e1 in
    let rest = drop (said_length bytes) (drop 4 bytes) in
    rw (e1, e2, e3, e4) (later rest (omega (arith, long, length-drop 4 bytes, length-drop (said_length bytes) (drop 4 bytes))))

within_holds : (n : ℕ) (bytes : List ℕ) → length bytes ≤ n → IsShort (stream_within n bytes).ending
within_holds zero bytes few = omega (arith, few)
within_holds (suc n) bytes few =
    prefix_holds bytes (stream_within n) (nat_lt (length bytes) 4) (nat_lt most_body (said_length bytes)) (nat_lt (length (drop 4 bytes)) (said_length bytes)) (frame_of (take (said_length bytes) (drop 4 bytes)))
    refl refl refl refl (λ rest short. within_holds n rest (omega (arith, few, short)))

ending_short : (bytes : List ℕ) → IsShort (stream bytes).ending
unfolding stream
ending_short bytes = within_holds (length bytes) bytes (omega arith)

frames_hold : (bytes : List ℕ) → HoldsLittle (Frames (read_up (stream bytes).ending))
frames_hold bytes = (refl, ending_short bytes)

lines_hold : (bytes : List ℕ) → HoldsLittle (Lines (rest_of bytes))
lines_hold bytes = omega (arith, length-take 8193 (cut bytes).rest)

by_first : (b : ℕ) (bytes : List ℕ) (t : Bool) → (b == 0) ≡ t → HoldsLittle (reading_of (b ∷ bytes))
by_first b bytes true e = rw e (frames_hold (b ∷ bytes))
by_first b bytes false e = rw e (lines_hold (b ∷ bytes))

holds : (bytes : List ℕ) → HoldsLittle (reading_of bytes)
holds [] = tt
holds (b ∷ bytes) = by_first b bytes (b == 0) refl

pub holds_little : (readings : List Connection) (intakes : Intakes) → Reads readings intakes → (conn : ℕ) → conn < most_connections → HoldsLittle (get_or readings conn Fresh)
holds_little readings intakes reads conn low = subst (λ (c : Connection). HoldsLittle c) (sym (reads conn low)) (holds (bytes_of conn intakes))
