-- What a file that is laid out stands for.
use Rattle.std.proofs.Common.{◌≡◌, ◌≢◌, ℕ, zero, suc, ◌+◌, ◌<◌, ◌≤◌, List, [], ◌∷◌, ◌++◌, length, take, drop, get_or, refl, sym, ◌∙◌, ap, inl, inr, arith, append_assoc, length-append, length-drop, take-append-drop, Ok, lit<}
use Rattle.std.specs.Prelude.{All, nat_lt, nat_le, nat_eq, ◌==◌}
use Rattle.std.specs.List.{starts_with}
use lib.Pointwise.{pointwise}
use Rattle.std.specs.Int.{w32, to_be_bytes}
use Rattle.std.proofs.lemmas.Nat.{from_be_bytes-to_be_bytes_4}
use Rattle.std.proofs.lemmas.Bool.{cases_lt, ne_eqb, le-ltb, lt-leb, le-leb, cond-true, cond-false}
use Rattle.std.proofs.lemmas.List.{get_or_at, take_at, drop_at, drop-drop, drop_more, length-take-le, append-nil}
use Rattle.std.proofs.lemmas.List.Elements.{All-nil, All-head, All-tail}
use Rattle.gate_log.specs.Journal.{header, sized, framed, laid, size_at, before_all, bodies_from, bodies_of, IsLaid, most_body}
use Rattle.zen_disk.specs.Disk.{Torn}

pub length-sized : (body : List ℕ) → length (sized body) ≡ 4 + length body
unfolding sized
length-sized body = omega (arith, length-append (to_be_bytes w32 (length body)) body)

pub length-framed : (body : List ℕ) → length (framed body) ≡ length body + 5
unfolding framed
length-framed body = omega (arith, length-append (sized body) (0 ∷ []), length-sized body)

pub size_at-sized : (body tail : List ℕ) → length body ≤ most_body → size_at (sized body ++ tail) ≡ length body
unfolding size_at sized
size_at-sized body tail short = from_be_bytes-to_be_bytes_4 (length body) (omega arith)

pub drop-sized : (body tail : List ℕ) → drop 4 (sized body ++ tail) ≡ body ++ tail
unfolding sized
drop-sized body tail = refl

pub laid-push : (bodies : List (List ℕ)) (body : List ℕ) → laid (bodies ++ body ∷ []) ≡ laid bodies ++ 1 ∷ sized body
unfolding laid
laid-push [] body = ap (λ (l : List ℕ). 1 ∷ l) (append-nil (sized body))
laid-push (first ∷ bodies) body =
    ap (λ (l : List ℕ). 1 ∷ (sized first ++ l)) (laid-push bodies body)
    ∙ ap (λ (l : List ℕ). 1 ∷ l) (sym (append_assoc (sized first) (laid bodies) (1 ∷ sized body)))

pub from_closed : (k p gate : ℕ) (rest : List ℕ) → gate ≢ 1 → bodies_from (suc k) p (gate ∷ rest) ≡ Ok []
unfolding bodies_from
from_closed k p gate rest shut = cond-false (gate == 1) _ _ (ne_eqb gate 1 shut)

pub from_open : (k p : ℕ) (rest body tail : List ℕ) → size_at rest ≡ length body → drop 4 rest ≡ body ++ tail → 4 ≤ length rest
    → length body ≤ most_body → 0 < length tail
    → bodies_from (suc k) p (1 ∷ rest) ≡ before_all body (bodies_from k (p + 5 + length body) tail)
unfolding bodies_from
from_open k p rest body tail size split four short some =
    let long : length rest ≡ 4 + length body + length tail = omega (arith, length-drop 4 rest, ap length split, length-append body tail) in
    let rest_is : drop (4 + size_at rest) rest ≡ tail =
    sym (drop-drop (size_at rest) 4 rest) ∙ ap (λ (l : List ℕ). drop (size_at rest) l) split ∙ drop_at body tail (size_at rest) (sym size) in
    let body_is : take (size_at rest) (drop 4 rest) ≡ body =
    ap (λ (l : List ℕ). take (size_at rest) l) split ∙ take_at body tail (size_at rest) (sym size) in
    cond-false (nat_lt (length rest) 4) _ _ (le-ltb (length rest) 4 four)
    ∙ cond-false (nat_lt most_body (size_at rest)) _ _ (le-ltb most_body (size_at rest) (omega (arith, size)))
    ∙ cond-false (nat_le (length rest) (4 + size_at rest)) _ _ (lt-leb (length rest) (4 + size_at rest) (omega (arith, size, long)))
    ∙ (λ i. before_all (body_is i) (bodies_from k (p + 5 + size i) (rest_is i)))

pub from_laid : (bodies : List (List ℕ)) (k p gate : ℕ) (rest : List ℕ) → All (λ (body : List ℕ). length body ≤ most_body) bodies → gate ≢ 1
    → length bodies < k → bodies_from k p (laid bodies ++ gate ∷ rest) ≡ Ok bodies
unfolding laid
from_laid bodies zero p gate rest short shut fuel = absurd (omega arith)
from_laid [] (suc k) p gate rest short shut fuel = from_closed k p gate rest shut
from_laid (body ∷ bodies) (suc k) p gate rest short shut fuel =
    let here : length body ≤ most_body = All-head (λ (b : List ℕ). length b ≤ most_body) body bodies short in
    let tail = laid bodies ++ gate ∷ rest in
    let regroup : (sized body ++ laid bodies) ++ gate ∷ rest ≡ sized body ++ tail = append_assoc (sized body) (laid bodies) (gate ∷ rest) in
    ap (λ (l : List ℕ). bodies_from (suc k) p (1 ∷ l)) regroup
    ∙ from_open k p (sized body ++ tail) body tail (size_at-sized body tail here) (drop-sized body tail)
    (omega (arith, length-append (sized body) tail, length-sized body)) here (omega (arith, length-append (laid bodies) (gate ∷ rest)))
    ∙ ap (before_all body)
    (from_laid bodies k (p + 5 + length body) gate rest (All-tail (λ (b : List ℕ). length b ≤ most_body) body bodies short) shut (omega arith))

pub fewer : (bodies : List (List ℕ)) → length bodies ≤ length (laid bodies)
unfolding laid
fewer [] = omega arith
fewer (body ∷ bodies) = omega (arith, fewer bodies, length-append (sized body) (laid bodies))

pub nothing_laid : (bodies : List (List ℕ)) → length (laid bodies) ≤ 0 → bodies ≡ []
unfolding laid
nothing_laid [] none = refl
nothing_laid (body ∷ bodies) none = absurd (omega arith)

-- what a file that is laid out is
module _ (bodies : List (List ℕ)) (file : List ℕ) (gate : ℕ) (is : IsLaid bodies file gate) where
  pub split : file ≡ header ++ laid bodies ++ get_or file gate 0 ∷ drop (gate + 1) file
  split =
      sym (take-append-drop gate file) ∙ ap (λ (l : List ℕ). l ++ drop gate file) is.prefix
      ∙ ap (λ (l : List ℕ). header ++ laid bodies ++ l) (drop_more file gate 0 is.inside)

  pub gate_is : gate ≡ 8 + length (laid bodies)
  gate_is = omega (arith, length-take-le gate file (omega (arith, is.inside)), ap length is.prefix, length-append header (laid bodies))

  pub stands_for : bodies_of file ≡ Ok bodies
  unfolding bodies_of
  stands_for =
      let whole = split in
      let first : take 8 file ≡ header = ap (λ (l : List ℕ). take 8 l) whole in
      let rest : drop 8 file ≡ laid bodies ++ get_or file gate 0 ∷ drop (gate + 1) file = ap (λ (l : List ℕ). drop 8 l) whole in
      let at = gate_is in
      let inside = is.inside in
      elim (cases_lt 9 (length file)) [
        | inl long ↦
            cond-false (nat_le (length file) 9) _ _ (lt-leb (length file) 9 long)
            ∙ cond-true (starts_with nat_eq file header) _ _ (ap (λ (l : List ℕ). pointwise nat_eq header l) first)
            ∙ ap (λ (l : List ℕ). bodies_from (length file) 8 l) rest
            ∙ from_laid bodies (length file) 8 (get_or file gate 0) (drop (gate + 1) file) is.short is.closed (omega (arith, fewer bodies))
        | inr brief ↦
            let none : bodies ≡ [] = nothing_laid bodies (omega arith) in
            cond-true (nat_le (length file) 9) _ _ (le-leb (length file) 9 brief) ∙ ap (λ (l : List (List ℕ)). Ok l) (sym none)
      ]

-- a file of these parts is laid out
pub laid_from : (bodies : List (List ℕ)) (file : List ℕ) (gate shut : ℕ) (rest : List ℕ) → All (λ (body : List ℕ). length body ≤ most_body) bodies
    → gate ≡ 8 + length (laid bodies) → file ≡ header ++ laid bodies ++ shut ∷ rest → shut ≢ 1 → IsLaid bodies file gate
laid_from bodies file gate shut rest short at whole closed =
    let size : length (header ++ laid bodies) ≡ gate = omega (arith, length-append header (laid bodies)) in
    let there : get_or file gate 0 ≡ shut = ap (λ (l : List ℕ). get_or l gate 0) whole ∙ get_or_at (header ++ laid bodies) shut rest 0 gate size in
    record {
      short = short;
      prefix = ap (λ (l : List ℕ). take gate l) whole ∙ take_at (header ++ laid bodies) (shut ∷ rest) gate size;
      inside = omega (arith, ap length whole, length-append (header ++ laid bodies) (shut ∷ rest), size);
      closed = λ one. closed (sym there ∙ one);
    }

pub brief : (file : List ℕ) → length file ≤ 9 → bodies_of file ≡ Ok []
unfolding bodies_of
brief file short = cond-true (nat_le (length file) 9) _ _ (le-leb (length file) 9 short)

-- whatever a write of a header leaves, there are no bodies, as before
pub torn_fresh : (old c : List ℕ) → length old ≤ 9 → Torn 0 9 old c → bodies_of c ≡ bodies_of old
torn_fresh old c short torn = brief c (omega (arith, torn.no_longer, short)) ∙ sym (brief old short)

pub fresh_laid : IsLaid [] (header ++ 0 ∷ []) 8
unfolding laid
fresh_laid = record { short = All-nil (λ (b : List ℕ). length b ≤ most_body); prefix = refl; inside = lit< tt; closed = λ no. absurd (omega arith) }
