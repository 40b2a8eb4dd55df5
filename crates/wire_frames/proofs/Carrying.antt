-- What a reader gives next, and what is left then.
use Rattle.std.proofs.Common.{◌≡◌, ℕ, ◌<◌, List, [], ◌∷◌, ◌++◌, length, take, drop, Some, None, Result, Ok, Err, sym, ap, subst, ◌∙◌, arith}
use Rattle.std.specs.Prelude.{◌+◌, ◌≤◌, OnOk}
use Rattle.std.specs.declared.alloc.AllocError.{AllocError}
use Rattle.std.proofs.lemmas.List.{append-nil, drop-take, drop-drop, length-drop, drop-append-le}
use Rattle.wire_frames.specs.declared.frame.Frame.{Frame}
use Rattle.wire_frames.specs.declared.fault.FrameError.{FrameError}
use Rattle.wire_frames.specs.declared.buffer.Buffer.{Buffer}
use Rattle.wire_frames.specs.declared.buffer.BodyLength.TheVariants as body
use Rattle.wire_frames.specs.Frames.{frame_of}
use Rattle.wire_frames.specs.Measures.{IsFramed, Measures}
use Rattle.wire_frames.specs.Streams.{Unfinished, Faulty, Whole, prefix_with, prefix_of, Ending, Rest, Fault, Stream, prepend, stream, stream_after, next_in, next_of, after_next, pushed, frames_in, fault_in, read_up, IsCarried}
use Rattle.wire_frames.specs.declared.lent.FrameView.{FrameView}
use Rattle.wire_frames.specs.Buffers.{left_in, Gives}
use Rattle.wire_frames.specs.Views.{shown}
use Rattle.wire_frames.proofs.Cutting.{stream-prefix, stream-append, prepend-prepend}

-- ---- over all that came

-- what comes after bytes of one stream goes on from what is left
carried_push : (came more : List ℕ) (given : List Frame) (left : Stream) → IsCarried came given left → IsCarried (came ++ more) given (pushed left more)
carried_push came more given left h =
    stream-append came more
    ∙ ap (λ s. pushed s more) h
    ∙ sym (prepend-prepend given left.frames (stream_after left.ending more))

pub pushed_on : (r : Result (Unit {0}) AllocError) (old new : Stream) (more : List ℕ) → OnOk r (new ≡ pushed old more)
    → OnOk r ((came : List ℕ) (given : List Frame) → IsCarried came given old → IsCarried (came ++ more) given new)
pushed_on (Ok u) old new more e = λ came given h. rw e (carried_push came more given old h)
pushed_on (Err x) old new more e = tt

gives_on : (given frames : List Frame) (ending : Ending)
    → prepend given (record { frames = frames; ending = ending }) ≡ prepend (given ++ frames_in (next_in frames ending)) (record { frames = drop 1 frames; ending = ending })
gives_on given [] (Rest bytes) = ap (λ fs. prepend fs (record { frames = []; ending = Rest bytes })) (sym (append-nil given))
gives_on given [] (Fault fault) = ap (λ fs. prepend fs (record { frames = []; ending = Fault fault })) (sym (append-nil given))
gives_on given (frame ∷ frames) ending = prepend-prepend given (frame ∷ []) (record { frames = frames; ending = ending })

-- what is given is added to the frames so far
pub carried_next : (came : List ℕ) (given : List Frame) (left : Stream) → IsCarried came given left → IsCarried came (given ++ frames_in (next_of left)) (after_next left)
carried_next came given left h = h ∙ gives_on given left.frames left.ending

-- ---- in the bytes of a buffer

-- more bytes behind those that are left
pushed_behind : (bytes more : List ℕ) (given : ℕ) → given ≤ length bytes → stream (drop given (bytes ++ more)) ≡ pushed (stream (drop given bytes)) more
pushed_behind bytes more given fits = ap stream (drop-append-le given bytes more fits) ∙ stream-append (drop given bytes) more

pub added_behind : (r : Result (Unit {0}) AllocError) (old new more : List ℕ) (given : ℕ) → given ≤ length old → OnOk r (new ≡ old ++ more)
    → OnOk r (stream (drop given new) ≡ pushed (stream (drop given old)) more)
added_behind (Ok u) old new more given fits e = rw e (pushed_behind old more given fits)
added_behind (Err x) old new more given fits e = tt

pub framed : (bytes part : List ℕ) (size : ℕ) (frame : Frame) → Measures (body.Whole size) bytes → part ≡ take size (drop 4 bytes) → frame_of part ≡ Ok frame → IsFramed bytes (4 + size)
framed bytes part size frame m is read =
    let whole : frame_of (take size (drop 4 bytes)) ≡ Ok frame = ap frame_of (sym is) ∙ read in
    record {
      frame = frame;
      long = omega arith;
      within = omega (arith, m.0, m.1, length-drop 4 bytes);
      body = ap frame_of (drop-take 4 size bytes) ∙ whole;
      prefix = m.2 ∙ ap (λ r. prefix_with r (drop size (drop 4 bytes))) whole ∙ ap (Whole frame) (drop-drop size 4 bytes ∙ ap (λ n. drop n bytes) (omega arith));
    }

-- ---- what comes first is given next

module _ (was bytes now : List ℕ) (gone : now ≡ was) (same : bytes ≡ now) where
  prefix_is : prefix_of was ≡ prefix_of bytes
  prefix_is = ap prefix_of (sym gone ∙ sym same)

  pub nothing_next : prefix_of bytes ≡ Unfinished → (next_of (stream was) ≡ None) × (stream now ≡ stream was)
  nothing_next e = (ap next_of (stream-prefix was Unfinished (prefix_is ∙ e)), ap stream gone)

  pub fault_next : (fault : FrameError) → prefix_of bytes ≡ Faulty fault → (next_of (stream was) ≡ Some (Err fault)) × (stream now ≡ stream was)
  fault_next fault e = (ap next_of (stream-prefix was (Faulty fault) (prefix_is ∙ e)), ap stream gone)

pub frame_next : (now : Buffer) (was bytes : List ℕ) → now.bytes.items ≡ was → bytes ≡ now.bytes.items → IsFramed bytes now.given → Gives now (stream was)
frame_next now was bytes gone same h =
    let here : IsFramed now.bytes.items now.given = subst (λ l. IsFramed l now.given) same h in
    let next = stream-prefix was (Whole here.frame (drop now.given now.bytes.items)) (ap prefix_of (sym gone) ∙ here.prefix) in
    record { frame = here.frame; long = here.long; body = here.body; next = ap next_of next; left = sym (ap after_next next) }

-- what is lent is the frame that stood next
pub lent_next : (now : Buffer) (was left : Stream) (v : FrameView) → Gives now was → was ≡ left → frame_of (drop 4 (take now.given now.bytes.items)) ≡ Ok (shown v)
    → (Some (Ok (shown v)) ≡ next_of left) × (left_in now ≡ after_next left)
lent_next now was left v h is e =
    let body = h.body in
    let same : shown v ≡ h.frame = cc in
    subst (λ s. (Some (Ok (shown v)) ≡ next_of s) × (left_in now ≡ after_next s)) is (ap (λ f. Some (Ok f)) same ∙ sym h.next, h.left)

-- ---- frames that are passed over

ends_by : (frames : List Frame) (ending last : Ending) → next_in frames ending ≡ None → ending ≡ last → (None ≡ fault_in last) × (record { frames = frames; ending = ending } ≡ read_up last)
ends_by [] (Rest bytes) last e same = (ap fault_in same, ap read_up same)
ends_by [] (Fault fault) last e same = absurd cc
ends_by (frame ∷ frames) ending last e same = absurd cc

pub ends : (left : Stream) (last : Ending) → next_of left ≡ None → left.ending ≡ last → (None ≡ fault_in last) × (left ≡ read_up last)
ends left last e same = ends_by left.frames left.ending last e same

fails_by : (frames : List Frame) (ending last : Ending) (fault : FrameError) → next_in frames ending ≡ Some (Err fault) → ending ≡ last
    → (Some fault ≡ fault_in last) × (record { frames = frames; ending = ending } ≡ read_up last)
fails_by [] (Rest bytes) last fault e same = absurd cc
fails_by [] (Fault f) last fault e same = let k : fault ≡ f = cc in (ap Some k ∙ ap fault_in same, ap read_up same)
fails_by (frame ∷ frames) ending last fault e same = absurd cc

pub fails : (left : Stream) (last : Ending) (fault : FrameError) → next_of left ≡ Some (Err fault) → left.ending ≡ last → (Some fault ≡ fault_in last) × (left ≡ read_up last)
fails left last fault e same = fails_by left.frames left.ending last fault e same

shorter_by : (frames : List Frame) (ending : Ending) (frame : Frame) → next_in frames ending ≡ Some (Ok frame) → length (drop 1 frames) < length frames
shorter_by [] (Rest bytes) frame e = absurd cc
shorter_by [] (Fault fault) frame e = absurd cc
shorter_by (f ∷ frames) ending frame e = omega arith

pub shorter : (now left : Stream) (frame : Frame) → next_of left ≡ Some (Ok frame) → now ≡ after_next left → length now.frames < length left.frames
shorter now left frame e is = rw is (shorter_by left.frames left.ending frame e)
