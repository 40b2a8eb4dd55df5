-- A stream is the same frames, however it is cut.
use Rattle.std.proofs.Common.{◌≡◌, ℕ, zero, suc, ◌-◌, ◌<◌, ◌≤◌, Bool, true, false, cond, nat_lt, ◌⊎◌, inl, inr, Result, Ok, Err, List, [], ◌∷◌, ◌++◌, length, take, drop, refl, sym, ap, ◌∙◌, arith, append_assoc, length-append, length-drop}
use Rattle.std.proofs.lemmas.Bool.{ltb-false, le-ltb}
use Rattle.std.proofs.lemmas.List.{take-append-le, drop-append-le}
use Rattle.std.specs.Int.{w32, from_be_bytes}
use Rattle.wire_frames.specs.declared.fault.FrameError.{FrameError}
use Rattle.wire_frames.specs.declared.fault.FrameError.TheVariants.{TooLong}
use Rattle.wire_frames.specs.declared.frame.Frame.{Frame}
use Rattle.wire_frames.specs.Frames.{frame_of}
use Rattle.wire_frames.specs.Streams.{Prefix, Unfinished, Faulty, Whole, said_length, prefix_with, prefix_of, Rest, Stream, prepend, stream_with_prefix, stream_within, stream, stream_after, IsStream}

-- what stands at the start, by its three tests
abbrev pub prefix_by : (short too_long unfinished : Bool) → Prefix → Prefix
prefix_by a b c prefix = cond a Unfinished (cond b (Faulty TooLong) (cond c Unfinished prefix))

-- what a whole frame at the start says of the tests
pub record IsWholeBy (a b c : Bool) (read : Result Frame FrameError) (rest : List ℕ) (frame : Frame) (after : List ℕ) : Type 0 where
  pub four : a ≡ false
  pub fits : b ≡ false
  pub there : c ≡ false
  pub body : read ≡ Ok frame
  pub next : rest ≡ after

pub whole_by : (a b c : Bool) (r : Result Frame FrameError) (rest : List ℕ) (frame : Frame) (after : List ℕ) → prefix_by a b c (prefix_with r rest) ≡ Whole frame after → IsWholeBy a b c r rest frame after
whole_by true b c r rest frame after e = absurd cc
whole_by false true c r rest frame after e = absurd cc
whole_by false false true r rest frame after e = absurd cc
whole_by false false false (Err x) rest frame after e = absurd cc
whole_by false false false (Ok f) rest frame after e = record { four = refl; fits = refl; there = refl; body = cc; next = cc }

by_whole : (a b c : Bool) (r : Result Frame FrameError) (rest : List ℕ) (frame : Frame) (after : List ℕ) → IsWholeBy a b c r rest frame after → prefix_by a b c (prefix_with r rest) ≡ Whole frame after
by_whole a b c r rest frame after h = rw (h.four, h.fits, h.there, h.body, h.next) refl

-- what a fault at the start says of the tests
pub record IsBadBody (b c : Bool) (read : Result Frame FrameError) (fault : FrameError) : Type 0 where
  pub fits : b ≡ false
  pub there : c ≡ false
  pub body : read ≡ Err fault

pub record IsFaultyBy (a b c : Bool) (read : Result Frame FrameError) (fault : FrameError) : Type 0 where
  pub four : a ≡ false
  pub cause : ((b ≡ true) × (TooLong ≡ fault)) ⊎ (IsBadBody b c read fault)

pub faulty_by : (a b c : Bool) (r : Result Frame FrameError) (rest : List ℕ) (fault : FrameError) → prefix_by a b c (prefix_with r rest) ≡ Faulty fault → IsFaultyBy a b c r fault
faulty_by true b c r rest fault e = absurd cc
faulty_by false true c r rest fault e = record { four = refl; cause = inl (refl, cc) }
faulty_by false false true r rest fault e = absurd cc
faulty_by false false false (Err x) rest fault e = record { four = refl; cause = inr (record { fits = refl; there = refl; body = cc }) }
faulty_by false false false (Ok f) rest fault e = absurd cc

-- what is there stays there, whatever follows
module _ (bytes more : List ℕ) (four : nat_lt (length bytes) 4 ≡ false) where
  four_bytes_there : 4 ≤ length bytes
  four_bytes_there = ltb-false (length bytes) 4 four

  pub four-append : nat_lt (length (bytes ++ more)) 4 ≡ false
  four-append = le-ltb _ _ (omega (arith, four_bytes_there, length-append bytes more))

  pub said-append : said_length (bytes ++ more) ≡ said_length bytes
  said-append = ap (from_be_bytes w32) (take-append-le 4 bytes more four_bytes_there)

  rest-append : drop 4 (bytes ++ more) ≡ drop 4 bytes ++ more
  rest-append = drop-append-le 4 bytes more four_bytes_there

  there-append : nat_lt (length (drop 4 bytes)) (said_length bytes) ≡ false → nat_lt (length (drop 4 (bytes ++ more))) (said_length (bytes ++ more)) ≡ false
  there-append there = rw (said-append, rest-append) (le-ltb _ _ (omega (arith, ltb-false (length (drop 4 bytes)) (said_length bytes) there, length-append (drop 4 bytes) more)))

  body-append : nat_lt (length (drop 4 bytes)) (said_length bytes) ≡ false → take (said_length (bytes ++ more)) (drop 4 (bytes ++ more)) ≡ take (said_length bytes) (drop 4 bytes)
  body-append there = rw (said-append, rest-append) (take-append-le (said_length bytes) (drop 4 bytes) more (ltb-false (length (drop 4 bytes)) (said_length bytes) there))

  after-append : nat_lt (length (drop 4 bytes)) (said_length bytes) ≡ false → drop (said_length (bytes ++ more)) (drop 4 (bytes ++ more)) ≡ drop (said_length bytes) (drop 4 bytes) ++ more
  after-append there = rw (said-append, rest-append) (drop-append-le (said_length bytes) (drop 4 bytes) more (ltb-false (length (drop 4 bytes)) (said_length bytes) there))

-- a frame at the start stays there, whatever follows
pub whole-append : (bytes more : List ℕ) (frame : Frame) (after : List ℕ) → prefix_of bytes ≡ Whole frame after → prefix_of (bytes ++ more) ≡ Whole frame (after ++ more)
whole-append bytes more frame after e =
    let h = whole_by _ _ _ (frame_of (take (said_length bytes) (drop 4 bytes))) (drop (said_length bytes) (drop 4 bytes)) frame after e in
    by_whole _ _ _ (frame_of (take (said_length (bytes ++ more)) (drop 4 (bytes ++ more)))) (drop (said_length (bytes ++ more)) (drop 4 (bytes ++ more))) frame (after ++ more) (record {
      four = four-append bytes more h.four;
      fits = rw (said-append bytes more h.four) h.fits;
      there = there-append bytes more h.four h.there;
      body = rw (body-append bytes more h.four h.there) h.body;
      next = rw (after-append bytes more h.four h.there) (ap (λ l. l ++ more) h.next);
    })

-- so does a fault
pub faulty-append : (bytes more : List ℕ) (fault : FrameError) → prefix_of bytes ≡ Faulty fault → prefix_of (bytes ++ more) ≡ Faulty fault
faulty-append bytes more fault e =
    let h = faulty_by _ _ _ (frame_of (take (said_length bytes) (drop 4 bytes))) (drop (said_length bytes) (drop 4 bytes)) fault e in
    elim h.cause [
      | inl long ↦ rw (four-append bytes more h.four, said-append bytes more h.four, long.0) (ap Faulty long.1)
      | inr bad ↦ rw (four-append bytes more h.four, there-append bytes more h.four bad.there, body-append bytes more h.four bad.there, said-append bytes more h.four, bad.fits, bad.body) refl
    ]

-- a frame takes four bytes and more
pub whole-shorter : (bytes : List ℕ) (frame : Frame) (after : List ℕ) → prefix_of bytes ≡ Whole frame after → length after < length bytes
whole-shorter bytes frame after e =
    let h = whole_by _ _ _ (frame_of (take (said_length bytes) (drop 4 bytes))) (drop (said_length bytes) (drop 4 bytes)) frame after e in
    let four : 4 ≤ length bytes = ltb-false (length bytes) 4 h.four in
    let size : length after ≡ length bytes - 4 - said_length bytes = rw (sym h.next, length-drop, length-drop) refl in
    omega arith

with_prefix-same : (prefix : Prefix) (bytes : List ℕ) (f g : List ℕ → Stream) → ((frame : Frame) (after : List ℕ) → prefix ≡ Whole frame after → f after ≡ g after) → stream_with_prefix prefix bytes f ≡ stream_with_prefix prefix bytes g
with_prefix-same Unfinished bytes f g h = refl
with_prefix-same (Faulty e) bytes f g h = refl
with_prefix-same (Whole frame rest) bytes f g h = ap (prepend (frame ∷ [])) (h frame rest refl)

-- more steps than bytes change nothing
pub within-enough : (n m : ℕ) (bytes : List ℕ) → length bytes ≤ n → length bytes ≤ m → stream_within n bytes ≡ stream_within m bytes
within-enough zero zero bytes p q = refl
within-enough zero (suc m) [] p q = refl
within-enough zero (suc m) (b ∷ bytes) p q = absurd (omega arith)
within-enough (suc n) zero [] p q = refl
within-enough (suc n) zero (b ∷ bytes) p q = absurd (omega arith)
within-enough (suc n) (suc m) bytes p q =
    with_prefix-same (prefix_of bytes) bytes (stream_within n) (stream_within m) (λ frame after e.
    let shorter = whole-shorter bytes frame after e in
    within-enough n m after (omega arith) (omega arith))

-- the stream is what its start says
pub stream-with_prefix : (bytes : List ℕ) → stream bytes ≡ stream_with_prefix (prefix_of bytes) bytes stream
unfolding stream
stream-with_prefix bytes =
    within-enough (length bytes) (suc (length bytes)) bytes (omega arith) (omega arith)
    ∙ with_prefix-same (prefix_of bytes) bytes (stream_within (length bytes)) (λ after. stream_within (length after) after) (λ frame after e.
    let shorter = whole-shorter bytes frame after e in
    within-enough (length bytes) (length after) after (omega arith) (omega arith))

pub stream-prefix : (bytes : List ℕ) (prefix : Prefix) → prefix_of bytes ≡ prefix → stream bytes ≡ stream_with_prefix prefix bytes stream
stream-prefix bytes prefix e = stream-with_prefix bytes ∙ ap (λ f. stream_with_prefix f bytes stream) e

pub stream-empty : IsStream [] [] (Rest [])
unfolding stream
stream-empty = refl

pub prepend-prepend : (a b : List Frame) (s : Stream) → prepend a (prepend b s) ≡ prepend (a ++ b) s
prepend-prepend a b s = ap (λ xs. let r : Stream = record { frames = xs; ending = s.ending } in r) (sym (append_assoc a b s.frames))

append_within : (n : ℕ) (bytes more : List ℕ) (prefix : Prefix) → length bytes ≤ n → prefix_of bytes ≡ prefix
    → stream (bytes ++ more) ≡ prepend (stream_with_prefix prefix bytes stream).frames (stream_after (stream_with_prefix prefix bytes stream).ending more)
append_within n bytes more Unfinished p e = refl
append_within n bytes more (Faulty x) p e = stream-prefix (bytes ++ more) (Faulty x) (faulty-append bytes more x e)
append_within zero bytes more (Whole frame after) p e = let shorter = whole-shorter bytes frame after e in absurd (omega arith)
append_within (suc n) bytes more (Whole frame after) p e =
    let shorter = whole-shorter bytes frame after e in
    let later = append_within n after more (prefix_of after) (omega arith) refl in
    stream-prefix (bytes ++ more) (Whole frame (after ++ more)) (whole-append bytes more frame after e)
    ∙ ap (prepend (frame ∷ [])) (later ∙ ap (λ s. prepend s.frames (stream_after s.ending more)) (sym (stream-with_prefix after)))
    ∙ prepend-prepend (frame ∷ []) (stream after).frames _

-- what follows goes on from what stands after the frames
pub stream-append : (bytes more : List ℕ) → stream (bytes ++ more) ≡ prepend (stream bytes).frames (stream_after (stream bytes).ending more)
stream-append bytes more =
    append_within (length bytes) bytes more (prefix_of bytes) (omega arith) refl
    ∙ ap (λ s. prepend s.frames (stream_after s.ending more)) (sym (stream-with_prefix bytes))
