-- Reading, piece by piece.
use Rattle.std.proofs.Common.{◌≡◌, ℕ, ◌+◌, ◌<◌, ◌≤◌, Option, None, Some, List, [], ◌++◌, length, take, drop, refl, sym, ◌∙◌, ap, subst, arith}
use Rattle.std.proofs.Math.Seq.{take-add}
use Rattle.std.proofs.lemmas.List.{take_all, length-drop, drop-drop, nil_from_length}
use Rattle.zen_link.specs.Streams.{Left}
use Rattle.zen_link.specs.Reading.{IsInput, PieceRead, ReadsPiece, IsReadOn, IsReadSoFar}

-- from what a read says
pub piece : (was now : Option (List ℕ)) (before after into prefix : List ℕ) (count : ℕ) → Left was now into count → 0 < length into → count ≤ length into → prefix ≡ take count into → after ≡ before ++ prefix → ReadsPiece was now before after count
piece None now before after into prefix count l some few f e = l
piece (Some left) now before after into prefix count l some few f e = record {
  added = e ∙ ap (λ (x : List ℕ). before ++ x) (f ∙ l.0);
  rest = l.1;
  within = l.2;
  end = λ none. l.3 some none;
}

pub more_read : (left now later : Option (List ℕ)) (before after : List ℕ) (count : ℕ) → IsReadSoFar left now before → IsReadOn now later before after count → IsReadSoFar left later after
more_read None now later before after count so_far on = subst (λ (x : Option (List ℕ)). ReadsPiece x later before after count) so_far on.piece
more_read (Some left) now later before after count so_far on =
    let step : PieceRead (drop (length before) left) later before after count = subst (λ (x : Option (List ℕ)). ReadsPiece x later before after count) so_far.1 on.piece in
    let long : length after ≡ length before + count = on.longer in (
      step.added ∙ ap (λ (x : List ℕ). x ++ take count (drop (length before) left)) so_far.0 ∙ sym (take-add (length before) count left) ∙ ap (λ (n : ℕ). take n left) (sym long),
      step.rest ∙ ap (λ (x : List ℕ). Some x) (drop-drop count (length before) left ∙ ap (λ (n : ℕ). drop n left) (sym long)),
      omega (arith, long, step.within, length-drop (length before) left, so_far.2),
    )

pub none_left : (most : ℕ) (left : List ℕ) → length left ≤ most → drop most left ≡ []
none_left most left short = nil_from_length (drop most left) (omega (arith, length-drop most left, short))

-- nothing is left
pub read_to_end : (most : ℕ) (left now later : Option (List ℕ)) (before after : List ℕ) (count : ℕ) → IsReadSoFar left now before → IsReadOn now later before after count → count ≡ 0 → length before ≤ most → IsInput most left later after
read_to_end most None now later before after count so_far on none few = tt
read_to_end most (Some left) now later before after count so_far on none few =
    let step : PieceRead (drop (length before) left) later before after count = subst (λ (x : Option (List ℕ)). ReadsPiece x later before after count) so_far.1 on.piece in
    let rest : drop (length before) left ≡ [] = step.end none in
    let long : length after ≡ length before + count = on.longer in
    let short : length left ≤ length before = let e : length (drop (length before) left) ≡ 0 = ap (λ (x : List ℕ). length x) rest in omega (arith, e, length-drop (length before) left) in
    let all = more_read (Some left) now later before after count so_far on in
    let whole : after ≡ left = all.0 ∙ take_all (length after) left (omega (arith, long, short)) in (
      whole ∙ sym (take_all most left (omega (arith, short, few))),
      all.1 ∙ ap (λ (x : List ℕ). Some x) (nil_from_length (drop (length after) left) (omega (arith, length-drop (length after) left, long, short)) ∙ sym (none_left most left (omega (arith, short, few)))),
    )

-- as many bytes are read as may be
pub read_enough : (most : ℕ) (left now : Option (List ℕ)) (bytes : List ℕ) → IsReadSoFar left now bytes → length bytes ≡ most → IsInput most left now bytes
read_enough most None now bytes so_far long = tt
read_enough most (Some left) now bytes so_far long = (so_far.0 ∙ ap (λ (n : ℕ). take n left) long, so_far.1 ∙ ap (λ (n : ℕ). Some (drop n left)) long)
