-- A stream is what its bytes split into.
use Rattle.std.proofs.Common.{◌≡◌, ℕ, zero, suc, ◌<◌, ◌≤◌, ◌^◌, Bool, true, false, nat_lt, ◌⊎◌, inl, inr, Result, Ok, Err, List, [], ◌∷◌, ◌++◌, length, take, drop, refl, sym, ap, subst, ◌∙◌, arith, append_assoc, length-append}
use Rattle.std.specs.Prelude.{All}
use Rattle.std.proofs.lemmas.Bool.{cases_lt, lt-ltb, ltb-true, ltb-false, le-ltb}
use Rattle.std.proofs.lemmas.List.{take-append-drop, length-take-le, get_or_past}
use Rattle.std.proofs.lemmas.Nat.{be_bytes_4}
use Rattle.cluster_state.proofs.Laws.{IsBytes, IsBytes-rest, IsBytes-take}
use Rattle.wire_frames.specs.declared.fault.FrameError.{FrameError}
use Rattle.wire_frames.specs.declared.frame.Frame.{Frame}
use Rattle.wire_frames.specs.Frames.{most_body, four_bytes, SpellsFrame, frame_of}
use Rattle.wire_frames.specs.Streams.{Prefix, Unfinished, Faulty, Whole, said_length, prefix_with, prefix_of, Ending, Rest, Fault, Stream, prepend, stream_with_prefix, stream, IsStream}
use Rattle.wire_frames.specs.Splits.{IsPartial, BeginsTooLong, BeginsNoFrame, IsEnding, Splits}
use Rattle.wire_frames.proofs.FrameLaws.{frame_takes}
use Rattle.wire_frames.proofs.Cutting.{prefix_by, whole_by, faulty_by, whole-shorter, stream-with_prefix, stream-prefix}
use Rattle.wire_frames.proofs.Spelled.{length-four, said-four, rest-four, prefix-read, first_frame}

-- ---- what splits is the stream

partial_prefix : (bytes : List ℕ) → IsPartial bytes → prefix_of bytes ≡ Unfinished
partial_prefix bytes (inl few) = rw (lt-ltb _ _ few) refl
partial_prefix bytes (inr h) =
    let all = four_bytes h.size ++ h.part in
    let four : nat_lt (length all) 4 ≡ false = le-ltb _ _ (omega (arith, length-append (four_bytes h.size) h.part, length-four h.size)) in
    let said : said_length all ≡ h.size = said-four h.size h.part (omega (arith, h.fits)) in
    let fits : nat_lt most_body h.size ≡ false = le-ltb _ _ h.fits in
    let short : nat_lt (length h.part) h.size ≡ true = lt-ltb _ _ h.short in
    let rest : drop 4 all ≡ h.part = rest-four h.size h.part in
    ap prefix_of h.whole ∙ rw (four, said, fits, rest, short) refl

too_long_prefix : (bytes : List ℕ) (fault : FrameError) → BeginsTooLong bytes fault → prefix_of bytes ≡ Faulty fault
too_long_prefix bytes fault h =
    let all = four_bytes h.size ++ h.more in
    let four : nat_lt (length all) 4 ≡ false = le-ltb _ _ (omega (arith, length-append (four_bytes h.size) h.more, length-four h.size)) in
    let said : said_length all ≡ h.size = said-four h.size h.more h.small in
    let long : nat_lt most_body h.size ≡ true = lt-ltb _ _ h.long in
    ap prefix_of h.whole ∙ rw (four, said, long, h.is) refl

no_frame_prefix : (bytes : List ℕ) (fault : FrameError) → BeginsNoFrame bytes fault → prefix_of bytes ≡ Faulty fault
no_frame_prefix bytes fault h = ap prefix_of h.whole ∙ prefix-read h.body h.more h.fits ∙ ap (λ r. prefix_with r h.more) h.is

ending_prefix : (ending : Ending) (bytes : List ℕ) → IsEnding ending bytes → IsStream bytes [] ending
ending_prefix (Rest rest) bytes h = stream-prefix bytes Unfinished (partial_prefix bytes h.1) ∙ ap (λ l. let s : Stream = record { frames = []; ending = Rest l } in s) h.0
ending_prefix (Fault fault) bytes (inl h) = stream-prefix bytes (Faulty fault) (too_long_prefix bytes fault h)
ending_prefix (Fault fault) bytes (inr h) = stream-prefix bytes (Faulty fault) (no_frame_prefix bytes fault h)

pub stream_of_split : (frames : List Frame) (bytes : List ℕ) (ending : Ending) → Splits bytes frames ending → IsStream bytes frames ending
stream_of_split [] bytes ending h = ending_prefix ending bytes h
stream_of_split (frame ∷ frames) bytes ending h = ap stream h.2 ∙ first_frame frame h.0 h.1 h.3 ∙ ap (prepend (frame ∷ [])) (stream_of_split frames h.1 ending h.4)

-- ---- the stream splits

-- the length that comes first
length_in_front : (bytes : List ℕ) → IsBytes bytes → 4 ≤ length bytes → bytes ≡ four_bytes (said_length bytes) ++ drop 4 bytes
unfolding four_bytes
length_in_front bytes fits long =
    let prefix = be_bytes_4 (take 4 bytes) (said_length bytes) (length-take-le 4 bytes long) (IsBytes-take 4 bytes fits) refl in
    sym (ap (λ l. l ++ drop 4 bytes) prefix ∙ take-append-drop 4 bytes)

said_small : (bytes : List ℕ) → IsBytes bytes → 4 ≤ length bytes → said_length bytes < 2 ^ 32
said_small bytes fits long = let prefix = IsBytes-take 4 bytes fits in omega (arith, prefix 0, prefix 1, prefix 2, prefix 3)

-- the length, the body, and what comes after it
body_in_front : (bytes : List ℕ) → IsBytes bytes → 4 ≤ length bytes → said_length bytes ≤ length (drop 4 bytes)
    → bytes ≡ four_bytes (length (take (said_length bytes) (drop 4 bytes))) ++ (take (said_length bytes) (drop 4 bytes) ++ drop (said_length bytes) (drop 4 bytes))
body_in_front bytes fits long there =
    length_in_front bytes fits long
    ∙ ap (λ n. four_bytes n ++ drop 4 bytes) (sym (length-take-le (said_length bytes) (drop 4 bytes) there))
    ∙ ap (λ l. four_bytes (length (take (said_length bytes) (drop 4 bytes))) ++ l) (sym (take-append-drop (said_length bytes) (drop 4 bytes)))

unfinished_by : (a b c : Bool) (prefix : Result Frame FrameError) (rest : List ℕ) → prefix_by a b c (prefix_with prefix rest) ≡ Unfinished → (a ≡ true) ⊎ ((a ≡ false) × (b ≡ false) × (c ≡ true))
unfinished_by true b c prefix rest e = inl refl
unfinished_by false true c prefix rest e = absurd cc
unfinished_by false false true prefix rest e = inr (refl, refl, refl)
unfinished_by false false false (Ok f) rest e = absurd cc
unfinished_by false false false (Err d) rest e = absurd cc

prefix_partial : (bytes : List ℕ) → IsBytes bytes → prefix_of bytes ≡ Unfinished → IsPartial bytes
prefix_partial bytes fits e =
    elim (unfinished_by _ _ _ (frame_of (take (said_length bytes) (drop 4 bytes))) (drop (said_length bytes) (drop 4 bytes)) e) [
      | inl few ↦ inl (ltb-true _ _ few)
      | inr h ↦ inr (record {
        size = said_length bytes;
        part = drop 4 bytes;
        whole = length_in_front bytes fits (ltb-false (length bytes) 4 h.0);
        fits = ltb-false most_body (said_length bytes) h.1;
        short = ltb-true (length (drop 4 bytes)) (said_length bytes) h.2;
      })
    ]

prefix_fault : (bytes : List ℕ) (fault : FrameError) → IsBytes bytes → prefix_of bytes ≡ Faulty fault → IsEnding (Fault fault) bytes
prefix_fault bytes fault fits e =
    let h = faulty_by _ _ _ (frame_of (take (said_length bytes) (drop 4 bytes))) (drop (said_length bytes) (drop 4 bytes)) fault e in
    let long = ltb-false (length bytes) 4 h.four in
    elim h.cause [
      | inl over ↦ inl (record {
        size = said_length bytes;
        more = drop 4 bytes;
        whole = length_in_front bytes fits long;
        small = said_small bytes fits long;
        long = ltb-true most_body (said_length bytes) over.0;
        is = sym over.1;
      })
      | inr bad ↦
          let there = ltb-false (length (drop 4 bytes)) (said_length bytes) bad.there in
          inr (record {
            body = take (said_length bytes) (drop 4 bytes);
            more = drop (said_length bytes) (drop 4 bytes);
            whole = body_in_front bytes fits long there;
            fits = omega (arith, length-take-le (said_length bytes) (drop 4 bytes) there, ltb-false most_body (said_length bytes) bad.fits);
            is = bad.body;
          })
    ]

-- a frame that comes first
record IsCut (bytes : List ℕ) (frame : Frame) (after : List ℕ) : Type 0 where
  first : List ℕ
  whole : bytes ≡ first ++ after
  spelled : SpellsFrame frame first

prefix_cut : (bytes : List ℕ) (frame : Frame) (after : List ℕ) → IsBytes bytes → prefix_of bytes ≡ Whole frame after → IsCut bytes frame after
prefix_cut bytes frame after fits e =
    let body = take (said_length bytes) (drop 4 bytes) in
    let h = whole_by _ _ _ (frame_of body) (drop (said_length bytes) (drop 4 bytes)) frame after e in
    let long = ltb-false (length bytes) 4 h.four in
    let there = ltb-false (length (drop 4 bytes)) (said_length bytes) h.there in
    let fits_rest = IsBytes-rest bytes (four_bytes (said_length bytes)) (drop 4 bytes) (length_in_front bytes fits long) fits in
    record {
      first = four_bytes (length body) ++ body;
      whole =
          body_in_front bytes fits long there
          ∙ ap (λ l. four_bytes (length body) ++ (body ++ l)) h.next
          ∙ sym (append_assoc (four_bytes (length body)) body after);
      spelled = record { body = body; spelled = frame_takes body frame (IsBytes-take (said_length bytes) (drop 4 bytes) fits_rest) h.body; whole = refl };
    }

abbrev SplitsInto : List ℕ → Stream → Type 0
SplitsInto bytes s = Splits bytes s.frames s.ending

splits_within : (n : ℕ) (bytes : List ℕ) (prefix : Prefix) → length bytes ≤ n → IsBytes bytes → prefix_of bytes ≡ prefix → SplitsInto bytes (stream_with_prefix prefix bytes stream)
splits_within n bytes Unfinished p fits e = (refl, prefix_partial bytes fits e)
splits_within n bytes (Faulty fault) p fits e = prefix_fault bytes fault fits e
splits_within zero bytes (Whole frame after) p fits e = let shorter = whole-shorter bytes frame after e in absurd (omega arith)
splits_within (suc n) bytes (Whole frame after) p fits e =
    let shorter = whole-shorter bytes frame after e in
    let cut = prefix_cut bytes frame after fits e in
    let fits_after = IsBytes-rest bytes cut.first after cut.whole fits in
    let later = splits_within n after (prefix_of after) (omega arith) fits_after refl in
    (cut.first, after, cut.whole, cut.spelled, subst (SplitsInto after) (sym (stream-with_prefix after)) later)

bytes_from_all : (bytes : List ℕ) → All (λ b. b < 2 ^ 8) bytes → IsBytes bytes
bytes_from_all bytes h i =
    elim (cases_lt i (length bytes)) [ inl lt ↦ h i 0 lt | inr le ↦ rw (get_or_past bytes i 0 le) (omega arith) ]

pub split_of_stream : (bytes : List ℕ) (frames : List Frame) (ending : Ending) → All (λ b. b < 2 ^ 8) bytes → IsStream bytes frames ending → Splits bytes frames ending
split_of_stream bytes frames ending all is =
    subst (SplitsInto bytes) (sym (stream-with_prefix bytes) ∙ is) (splits_within (length bytes) bytes (prefix_of bytes) (omega arith) (bytes_from_all bytes all) refl)
