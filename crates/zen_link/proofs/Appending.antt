-- What was written to a sink, piece by piece.
use Rattle.std.proofs.Common.{◌≡◌, ℕ, ◌+◌, ◌<◌, Option, None, Some, List, [], ◌++◌, length, take, drop, sym, ◌∙◌, ap, subst, arith, append_assoc, append-nil}
use Rattle.std.proofs.Math.Seq.{take-add}
use Rattle.std.proofs.lemmas.List.{length-drop, take-append-drop}
use Rattle.zen_link.specs.Streams.{Appended, AppendedPrefix, AppendedPart}

pub appended_more : (a b c : Option (List ℕ)) (xs ys : List ℕ) → Appended a b xs → Appended b c ys → Appended a c (xs ++ ys)
appended_more None b c xs ys g h = subst (λ (x : Option (List ℕ)). Appended x c ys) g h
appended_more (Some was) b c xs ys g h =
    let next = subst (λ (x : Option (List ℕ)). Appended x c ys) g h in
    next ∙ ap (λ (l : List ℕ). Some l) (append_assoc was xs ys)

pub appended_on : (a b c : Option (List ℕ)) (bytes : List ℕ) (at count : ℕ) → Appended a b (take at bytes) → Appended b c (take count (drop at bytes)) → Appended a c (take (at + count) bytes)
appended_on a b c bytes at count g h = subst (λ (l : List ℕ). Appended a c l) (sym (take-add at count bytes)) (appended_more a b c (take at bytes) (take count (drop at bytes)) g h)

pub appended_none : (a : Option (List ℕ)) → Appended a a []
appended_none None = λ i. None
appended_none (Some was) = ap (λ (l : List ℕ). Some l) (sym (append-nil was))

-- a piece, and then a prefix of what follows it
pub prefix_after : (a b c : Option (List ℕ)) (piece rest : List ℕ) → Appended a b piece → AppendedPrefix b c rest → AppendedPrefix a c (piece ++ rest)
prefix_after a b c piece rest g h = record {
  prefix = piece ++ h.prefix;
  rest = h.rest;
  whole = append_assoc piece h.prefix h.rest ∙ ap (λ (l : List ℕ). piece ++ l) h.whole;
  appended = appended_more a b c piece h.prefix g h.appended;
}

-- a prefix of a prefix
pub prefix_within : (a b : Option (List ℕ)) (piece rest all : List ℕ) → piece ++ rest ≡ all → AppendedPrefix a b piece → AppendedPrefix a b all
prefix_within a b piece rest all e h = record {
  prefix = h.prefix;
  rest = h.rest ++ rest;
  whole = sym (append_assoc h.prefix h.rest rest) ∙ ap (λ (l : List ℕ). l ++ rest) h.whole ∙ e;
  appended = h.appended;
}

-- the write of what follows this place was refused
pub part_at : (a b c : Option (List ℕ)) (bytes : List ℕ) (at : ℕ) → at < length bytes → Appended a b (take at bytes) → Appended b c [] → AppendedPart a c bytes
part_at a b c bytes at inside g h = record {
  prefix = record {
    prefix = take at bytes;
    rest = drop at bytes;
    whole = take-append-drop at bytes;
    appended = subst (λ (l : List ℕ). Appended a c l) (append-nil (take at bytes)) (appended_more a b c (take at bytes) [] g h);
  };
  unwritten = λ none. let empty : length (drop at bytes) ≡ 0 = ap (λ (l : List ℕ). length l) none in omega (arith, inside, length-drop at bytes, empty);
}
