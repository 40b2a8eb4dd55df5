-- What a reader of frames gave is what was left in it.
use Rattle.std.proofs.Common.{◌≡◌, List, [], ◌∷◌, ◌++◌, drop, Some, Ok, sym, ap, ◌∙◌, append-nil}
use Rattle.wire_frames.specs.declared.frame.Frame.{Frame}
use Rattle.wire_frames.specs.Streams.{Ending, Rest, Fault, Stream, next_in, next_of}

-- then those that were given are all
pub all_given : (given left all : List Frame) → given ++ left ≡ all → left ≡ [] → given ≡ all
all_given given left all whole none = sym (append-nil given) ∙ ap (λ l. given ++ l) (sym none) ∙ whole

first_in : (frames : List Frame) (ending : Ending) (frame : Frame) → Some (Ok frame) ≡ next_in frames ending → frames ≡ frame ∷ drop 1 frames
first_in [] (Rest bytes) frame e = absurd cc
first_in [] (Fault fault) frame e = absurd cc
first_in (f ∷ frames) ending frame e = let same : f ≡ frame = cc in ap (λ x. x ∷ frames) same

-- a frame is given where it is the first that is left
pub first_left : (left : Stream) (frame : Frame) → Some (Ok frame) ≡ next_of left → left.frames ≡ frame ∷ drop 1 left.frames
first_left left frame e = first_in left.frames left.ending frame e
