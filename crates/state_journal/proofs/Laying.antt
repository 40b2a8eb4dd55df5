-- Bytes that are put before others and after them.
use Rattle.std.proofs.Common.{◌≡◌, ℕ, ◌+◌, ◌-◌, ◌≤◌, List, ◌++◌, length, take, drop, sym, ◌∙◌, ap, arith, length-append, append_assoc}
use Rattle.std.proofs.lemmas.List.{take_at, drop_at, take-append-drop, length-take, length-drop}
use Rattle.zen_disk.specs.Disk.{part, written}

-- what is written over bytes that have these lengths
pub written_over : (prefix gone with back : List ℕ) (at : ℕ) → length prefix ≡ at → length gone ≡ length with → written (prefix ++ (gone ++ back)) at with ≡ prefix ++ (with ++ back)
written_over prefix gone with back at here same =
    let before : take at (prefix ++ (gone ++ back)) ≡ prefix = take_at prefix (gone ++ back) at here in
    let after : drop (at + length with) (prefix ++ (gone ++ back)) ≡ back = ap (drop (at + length with)) (sym (append_assoc prefix gone back)) ∙ drop_at (prefix ++ gone) back (at + length with) (omega (arith, length-append prefix gone, here, same)) in
    (λ i. (before i ++ with) ++ after i) ∙ append_assoc prefix with back

-- bytes in four parts and a rest
record Parts (bytes : List ℕ) (start prefix end back : ℕ) : Type 0 where
  before : List ℕ
  head : List ℕ
  middle : List ℕ
  tail : List ℕ
  rest : List ℕ
  is : bytes ≡ before ++ (head ++ (middle ++ (tail ++ rest)))
  at_before : length before ≡ start
  at_head : length head ≡ prefix
  at_middle : length middle ≡ end - 21
  at_tail : length tail ≡ back

parts_of : (bytes : List ℕ) (prefix end back : ℕ) → prefix ≤ 21 → 21 ≤ end → end + back ≤ length bytes → Parts bytes (21 - prefix) prefix end back
parts_of bytes prefix end back low place inside =
    let a = drop (21 - prefix) bytes in
    let b = drop prefix a in
    let c = drop (end - 21) b in
    let la : length a ≡ length bytes - (21 - prefix) = length-drop (21 - prefix) bytes in
    let lb : length b ≡ length a - prefix = length-drop prefix a in
    let lc : length c ≡ length b - (end - 21) = length-drop (end - 21) b in
    record {
      before = take (21 - prefix) bytes;
      head = take prefix a;
      middle = take (end - 21) b;
      tail = take back c;
      rest = drop back c;
      is =
          sym (take-append-drop (21 - prefix) bytes)
          ∙ ap (λ (l : List ℕ). take (21 - prefix) bytes ++ l)
          (sym (take-append-drop prefix a) ∙ ap (λ (l : List ℕ). take prefix a ++ l) (sym (take-append-drop (end - 21) b) ∙ ap (λ (l : List ℕ). take (end - 21) b ++ l) (sym (take-append-drop back c))));
      at_before = omega (arith, length-take (21 - prefix) bytes);
      at_head = omega (arith, length-take prefix a, la);
      at_middle = omega (arith, length-take (end - 21) b, la, lb);
      at_tail = omega (arith, length-take back c, la, lb, lc);
    }

-- what stands after both are put
pub record Surrounded (old new : List ℕ) (head tail : List ℕ) (end : ℕ) : Type 0 where
  pub frame : part (21 - length head) (length head + (end - 21) + length tail) new ≡ head ++ (part 21 (end - 21) old ++ tail)
  pub same : part 21 (end - 21) new ≡ part 21 (end - 21) old

module _ (bytes head : List ℕ) (end : ℕ) (tail : List ℕ) (low : length head ≤ 21) (place : 21 ≤ end) (inside : end + length tail ≤ length bytes) where
  p : Parts bytes (21 - length head) (length head) end (length tail)
  p = parts_of bytes (length head) end (length tail) low place inside

  first : written bytes (21 - length head) head ≡ p.before ++ (head ++ (p.middle ++ (p.tail ++ p.rest)))
  first = ap (λ (l : List ℕ). written l (21 - length head) head) p.is ∙ written_over p.before p.head head (p.middle ++ (p.tail ++ p.rest)) (21 - length head) p.at_before p.at_head

  abbrev prefix : List ℕ
  prefix = p.before ++ (head ++ p.middle)

  regroup : (back : List ℕ) → p.before ++ (head ++ (p.middle ++ back)) ≡ prefix ++ back
  regroup back = ap (λ (l : List ℕ). p.before ++ l) (sym (append_assoc head p.middle back)) ∙ sym (append_assoc p.before (head ++ p.middle) back)

  length-prefix : length prefix ≡ end
  length-prefix = omega (arith, length-append p.before (head ++ p.middle), length-append head p.middle, p.at_before, p.at_middle)

  both : written (written bytes (21 - length head) head) end tail ≡ p.before ++ (head ++ (p.middle ++ (tail ++ p.rest)))
  both =
      ap (λ (l : List ℕ). written l end tail) (first ∙ regroup (p.tail ++ p.rest)) ∙ written_over prefix p.tail tail p.rest end length-prefix p.at_tail ∙ sym (regroup (tail ++ p.rest))

  middle_is : part 21 (end - 21) bytes ≡ p.middle
  middle_is =
      ap (part 21 (end - 21)) (p.is ∙ sym (append_assoc p.before p.head (p.middle ++ (p.tail ++ p.rest))))
      ∙ ap (take (end - 21)) (drop_at (p.before ++ p.head) (p.middle ++ (p.tail ++ p.rest)) 21 (omega (arith, length-append p.before p.head, p.at_before, p.at_head)))
      ∙ take_at p.middle (p.tail ++ p.rest) (end - 21) p.at_middle

  pub surrounded : Surrounded bytes (written (written bytes (21 - length head) head) end tail) head tail end
  surrounded = record {
    frame =
        ap (part (21 - length head) (length head + (end - 21) + length tail)) both
        ∙ ap (take (length head + (end - 21) + length tail)) (drop_at p.before (head ++ (p.middle ++ (tail ++ p.rest))) (21 - length head) p.at_before)
        ∙ ap (take (length head + (end - 21) + length tail)) (ap (λ (l : List ℕ). head ++ l) (sym (append_assoc p.middle tail p.rest)) ∙ sym (append_assoc head (p.middle ++ tail) p.rest))
        ∙ take_at (head ++ (p.middle ++ tail)) p.rest (length head + (end - 21) + length tail) (omega (arith, length-append head (p.middle ++ tail), length-append p.middle tail, p.at_middle))
        ∙ ap (λ (l : List ℕ). head ++ (l ++ tail)) (sym middle_is);
    same =
        ap (part 21 (end - 21)) (both ∙ sym (append_assoc p.before head (p.middle ++ (tail ++ p.rest))))
        ∙ ap (take (end - 21)) (drop_at (p.before ++ head) (p.middle ++ (tail ++ p.rest)) 21 (omega (arith, length-append p.before head, p.at_before)))
        ∙ take_at p.middle (tail ++ p.rest) (end - 21) p.at_middle
        ∙ sym middle_is;
  }
