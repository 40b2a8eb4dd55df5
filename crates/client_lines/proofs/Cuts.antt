-- Bytes cut at their line feeds, one piece after another.
use Rattle.std.proofs.Common.{◌≡◌, refl, sym, ◌∙◌, ap, ℕ, zero, suc, not, Bool, true, false, cond, List, [], ◌∷◌, ◌++◌, map, take}
use Rattle.std.specs.Prelude.{◌==◌}
use Rattle.std.specs.List.{list_all}
use Rattle.std.proofs.lemmas.Bool.{and_parts, and_from, not-true}
use Rattle.client_lines.specs.Lines.{Cut, in_front, cut, kept, lines_of, rest_of}
use Rattle.client_lines.specs.Laws.{CutsAnywhere}

abbrev pub has_no_feed : List ℕ → Bool
has_no_feed xs = list_all (λ b. not (b == 10)) xs

pub is_other : (b : Bool) → b ≡ false → not b ≡ true
is_other true h = cc
is_other false h = refl

-- ---- one byte

pub cut-feed : (b : ℕ) (bytes : List ℕ) → (b == 10) ≡ true → cut (b ∷ bytes) ≡ record { ended = [] ∷ (cut bytes).ended; rest = (cut bytes).rest }
cut-feed b bytes e = ap (λ (c : Bool). cond c (record { ended = [] ∷ (cut bytes).ended; rest = (cut bytes).rest }) (in_front b (cut bytes).ended (cut bytes).rest)) e

cut-other : (b : ℕ) (bytes : List ℕ) → (b == 10) ≡ false → cut (b ∷ bytes) ≡ in_front b (cut bytes).ended (cut bytes).rest
cut-other b bytes e = ap (λ (c : Bool). cond c (record { ended = [] ∷ (cut bytes).ended; rest = (cut bytes).rest }) (in_front b (cut bytes).ended (cut bytes).rest)) e

no_feed_in_front : (b : ℕ) (lines : List (List ℕ)) (rest : List ℕ) → (b == 10) ≡ false → has_no_feed rest ≡ true → has_no_feed (in_front b lines rest).rest ≡ true
no_feed_in_front b [] rest e h = and_from _ _ (is_other (b == 10) e) h
no_feed_in_front b (line ∷ lines) rest e h = h

no_feed_in_rest : (bytes : List ℕ) → has_no_feed (cut bytes).rest ≡ true
no_feed_in_rest [] = refl
no_feed_in_rest (b ∷ bytes) =
    elim (b == 10) as (λ c. (b == 10) ≡ c → has_no_feed (cut (b ∷ bytes)).rest ≡ true) [
      | true ↦ λ e. ap (λ (c : Cut). has_no_feed c.rest) (cut-feed b bytes e) ∙ no_feed_in_rest bytes
      | false ↦ λ e. ap (λ (c : Cut). has_no_feed c.rest) (cut-other b bytes e) ∙ no_feed_in_front b (cut bytes).ended (cut bytes).rest e (no_feed_in_rest bytes)
    ] refl

-- ---- bytes after what is held

abbrev pub held_lines : List ℕ → List (List ℕ) → List (List ℕ)
held_lines xs [] = []
held_lines xs (line ∷ lines) = (xs ++ line) ∷ lines

abbrev pub held_rest : List ℕ → List (List ℕ) → List ℕ → List ℕ
held_rest xs [] rest = xs ++ rest
held_rest xs (line ∷ lines) rest = rest

abbrev pub behind : List ℕ → List (List ℕ) → List ℕ → Cut
behind xs lines rest = record { ended = held_lines xs lines; rest = held_rest xs lines rest }

behind-nil : (lines : List (List ℕ)) (rest : List ℕ) → record { ended = lines; rest = rest } ≡ behind [] lines rest
behind-nil [] rest = refl
behind-nil (line ∷ lines) rest = refl

behind-cons : (x : ℕ) (xs : List ℕ) (lines : List (List ℕ)) (rest : List ℕ) → in_front x (held_lines xs lines) (held_rest xs lines rest) ≡ behind (x ∷ xs) lines rest
behind-cons x xs [] rest = refl
behind-cons x xs (line ∷ lines) rest = refl

pub cut-held : (xs bytes : List ℕ) → has_no_feed xs ≡ true → cut (xs ++ bytes) ≡ behind xs (cut bytes).ended (cut bytes).rest
cut-held [] bytes h = behind-nil (cut bytes).ended (cut bytes).rest
cut-held (x ∷ xs) bytes h =
    let parts : (not (x == 10) ≡ true) × (has_no_feed xs ≡ true) = and_parts (not (x == 10)) (has_no_feed xs) h in
    cut-other x (xs ++ bytes) (not-true (x == 10) parts.0)
    ∙ ap (λ (c : Cut). in_front x c.ended c.rest) (cut-held xs bytes parts.1)
    ∙ behind-cons x xs (cut bytes).ended (cut bytes).rest

-- ---- two pieces

abbrev after : List (List ℕ) → Cut → Cut
after lines c = record { ended = lines ++ c.ended; rest = c.rest }

after-in_front : (b : ℕ) (lines : List (List ℕ)) (rest back : List ℕ) → (b == 10) ≡ false
    → in_front b (lines ++ (cut (rest ++ back)).ended) (cut (rest ++ back)).rest ≡ after (in_front b lines rest).ended (cut ((in_front b lines rest).rest ++ back))
after-in_front b [] rest back e = sym (cut-other b (rest ++ back) e)
after-in_front b (line ∷ lines) rest back e = refl

cut-append : (prefix back : List ℕ) → cut (prefix ++ back) ≡ after (cut prefix).ended (cut ((cut prefix).rest ++ back))
cut-append [] back = refl
cut-append (b ∷ prefix) back =
    elim (b == 10) as (λ c. (b == 10) ≡ c → cut (b ∷ (prefix ++ back)) ≡ after (cut (b ∷ prefix)).ended (cut ((cut (b ∷ prefix)).rest ++ back))) [
      | true ↦ λ e.
          cut-feed b (prefix ++ back) e
          ∙ ap (after ([] ∷ [])) (cut-append prefix back)
          ∙ sym (ap (λ (c : Cut). after c.ended (cut (c.rest ++ back))) (cut-feed b prefix e))
      | false ↦ λ e.
          cut-other b (prefix ++ back) e
          ∙ ap (λ (c : Cut). in_front b c.ended c.rest) (cut-append prefix back)
          ∙ after-in_front b (cut prefix).ended (cut prefix).rest back e
          ∙ sym (ap (λ (c : Cut). after c.ended (cut (c.rest ++ back))) (cut-other b prefix e))
    ] refl

-- ---- what is kept

take-take-append : (n : ℕ) (xs ys : List ℕ) → take n (take n xs ++ ys) ≡ take n (xs ++ ys)
take-take-append zero xs ys = refl
take-take-append (suc n) [] ys = refl
take-take-append (suc n) (x ∷ xs) ys = ap (λ l. x ∷ l) (take-take-append n xs ys)

pub no_feed_in_take : (n : ℕ) (xs : List ℕ) → has_no_feed xs ≡ true → has_no_feed (take n xs) ≡ true
no_feed_in_take zero xs h = refl
no_feed_in_take (suc n) [] h = refl
no_feed_in_take (suc n) (x ∷ xs) h =
    let parts : (not (x == 10) ≡ true) × (has_no_feed xs ≡ true) = and_parts (not (x == 10)) (has_no_feed xs) h in
    and_from _ _ parts.0 (no_feed_in_take n xs parts.1)

kept_lines : (n : ℕ) (xs : List ℕ) (lines : List (List ℕ)) → map (take n) (held_lines (take n xs) lines) ≡ map (take n) (held_lines xs lines)
kept_lines n xs [] = refl
kept_lines n xs (line ∷ lines) = ap (λ l. l ∷ map (take n) lines) (take-take-append n xs line)

kept_rest : (n : ℕ) (xs : List ℕ) (lines : List (List ℕ)) (rest : List ℕ) → take n (held_rest (take n xs) lines rest) ≡ take n (held_rest xs lines rest)
kept_rest n xs [] rest = take-take-append n xs rest
kept_rest n xs (line ∷ lines) rest = refl

lines_of-kept : (xs back : List ℕ) → has_no_feed xs ≡ true → lines_of (kept xs ++ back) ≡ lines_of (xs ++ back)
lines_of-kept xs back h =
    ap (λ (c : Cut). map kept c.ended) (cut-held (kept xs) back (no_feed_in_take 8193 xs h))
    ∙ kept_lines 8193 xs (cut back).ended
    ∙ sym (ap (λ (c : Cut). map kept c.ended) (cut-held xs back h))

rest_of-kept : (xs back : List ℕ) → has_no_feed xs ≡ true → rest_of (kept xs ++ back) ≡ rest_of (xs ++ back)
rest_of-kept xs back h =
    ap (λ (c : Cut). kept c.rest) (cut-held (kept xs) back (no_feed_in_take 8193 xs h))
    ∙ kept_rest 8193 xs (cut back).ended (cut back).rest
    ∙ sym (ap (λ (c : Cut). kept c.rest) (cut-held xs back h))

map-kept-append : (xs ys : List (List ℕ)) → map kept (xs ++ ys) ≡ map kept xs ++ map kept ys
map-kept-append [] ys = refl
map-kept-append (x ∷ xs) ys = ap (λ l. kept x ∷ l) (map-kept-append xs ys)

pub cuts_anywhere : (prefix back : List ℕ) → CutsAnywhere prefix back
cuts_anywhere prefix back = record {
  lines =
      ap (λ (c : Cut). map kept c.ended) (cut-append prefix back)
      ∙ map-kept-append (cut prefix).ended (cut ((cut prefix).rest ++ back)).ended
      ∙ sym (ap (λ l. lines_of prefix ++ l) (lines_of-kept (cut prefix).rest back (no_feed_in_rest prefix)));
  rest =
      ap (λ (c : Cut). kept c.rest) (cut-append prefix back)
      ∙ sym (rest_of-kept (cut prefix).rest back (no_feed_in_rest prefix));
}
