-- A spelled frame before other bytes.
use Rattle.std.proofs.Common.{◌≡◌, ℕ, ◌<◌, ◌≤◌, ◌^◌, nat_lt, false, List, [], ◌∷◌, ◌++◌, length, drop, refl, sym, ap, subst, ◌∙◌, arith, append_assoc, length-append}
use Rattle.std.proofs.lemmas.Bool.{le-ltb}
use Rattle.std.proofs.lemmas.List.{take_at, drop_at}
use Rattle.std.proofs.lemmas.Nat.{from_be_bytes-to_be_bytes_4}
use Rattle.std.specs.Int.{w32, from_be_bytes}
use Rattle.wire_frames.specs.declared.frame.Frame.{Frame}
use Rattle.wire_frames.specs.Frames.{most_body, four_bytes, SpellsBody, SpellsFrame, frame_of}
use Rattle.wire_frames.specs.Streams.{Whole, said_length, prefix_with, prefix_of, prepend, stream}
use Rattle.wire_frames.proofs.FrameLaws.{frame_again, one_body}
use Rattle.wire_frames.proofs.Sizes.{body_short}
use Rattle.wire_frames.proofs.Cutting.{stream-prefix}

pub length-four : (n : ℕ) → length (four_bytes n) ≡ 4
unfolding four_bytes
length-four n = refl

from-four : (n : ℕ) → n < 2 ^ 32 → from_be_bytes w32 (four_bytes n) ≡ n
unfolding four_bytes
from-four n h = from_be_bytes-to_be_bytes_4 n h

-- a length, and bytes after it
pub said-four : (size : ℕ) (rest : List ℕ) → size < 2 ^ 32 → said_length (four_bytes size ++ rest) ≡ size
said-four size rest h = ap (from_be_bytes w32) (take_at (four_bytes size) rest 4 (length-four size)) ∙ from-four size h

pub rest-four : (size : ℕ) (rest : List ℕ) → drop 4 (four_bytes size ++ rest) ≡ rest
rest-four size rest = drop_at (four_bytes size) rest 4 (length-four size)

-- the body of a frame is what stands after its length
body_is : (f : Frame) (bytes : List ℕ) (s : SpellsFrame f bytes) → s.body ≡ drop 4 bytes
body_is f bytes s = sym (ap (drop 4) s.whole ∙ rest-four (length s.body) s.body)

pub one_frame : (f g : Frame) (bytes : List ℕ) → SpellsFrame f bytes → SpellsFrame g bytes → f ≡ g
one_frame f g bytes s t =
    let P : List ℕ → Type 0 = SpellsBody g in
    one_body f g s.body s.spelled (subst P (body_is g bytes t ∙ sym (body_is f bytes s)) t.spelled)

-- a body after its length, and bytes after it
pub prefix-read : (body more : List ℕ) → length body ≤ most_body → prefix_of (four_bytes (length body) ++ (body ++ more)) ≡ prefix_with (frame_of body) more
prefix-read body more fits =
    let size = length body in
    let all = four_bytes size ++ (body ++ more) in
    let four : nat_lt (length all) 4 ≡ false = le-ltb _ _ (omega (arith, length-append (four_bytes size) (body ++ more), length-four size)) in
    let said : said_length all ≡ size = said-four size (body ++ more) (omega arith) in
    let rest : drop 4 all ≡ body ++ more = rest-four size (body ++ more) in
    let in_limit : nat_lt most_body size ≡ false = le-ltb _ _ fits in
    let there : nat_lt (length (body ++ more)) size ≡ false = le-ltb _ _ (omega (arith, length-append body more)) in
    rw (four, said, in_limit, rest, there, take_at body more size refl, drop_at body more size refl) refl

pub first_frame : (f : Frame) (bytes more : List ℕ) → SpellsFrame f bytes → stream (bytes ++ more) ≡ prepend (f ∷ []) (stream more)
first_frame f bytes more s =
    let regrouped : bytes ++ more ≡ four_bytes (length s.body) ++ (s.body ++ more) = ap (λ l. l ++ more) s.whole ∙ append_assoc (four_bytes (length s.body)) s.body more in
    let prefix = prefix-read s.body more (omega (arith, body_short f s.body s.spelled)) in
    stream-prefix (bytes ++ more) (Whole f more) (ap prefix_of regrouped ∙ prefix ∙ ap (λ r. prefix_with r more) (frame_again s.body f s.spelled))
