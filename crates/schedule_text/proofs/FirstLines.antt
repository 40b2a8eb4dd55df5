-- The first lines of a text, and two texts that have the same ones.
use Rattle.std.proofs.Common.{◌≡◌, ℕ, zero, suc, ◌≤◌, ◌≢◌, true, false, cond, not, List, [], ◌∷◌, ◌++◌, length, refl, sym, ap, ◌∙◌, append_assoc, arith}
use Rattle.std.specs.Prelude.{◌==◌}
use Rattle.std.specs.List.{list_all, join_with_byte}
use Rattle.std.proofs.lemmas.Bool.{and_parts}
use Rattle.schedule_text.specs.FirstBad.{first_lines}
use Rattle.voting_config.specs.Lists.{parts_of}
use Rattle.schedule_text.specs.Spelled.{with_feeds}
use Rattle.schedule_text.proofs.WordLaws.{lacks, is_false, split_alone, split_first, join_split, parts_not_empty}
use Rattle.schedule_text.proofs.ScheduleLaws.{join_more}

first_none : (n : ℕ) → first_lines n [] ≡ []
first_none zero = refl
first_none (suc n) = refl

-- a line without its line feed
pub first_cut : (n : ℕ) (line : List ℕ) → lacks 10 line ≡ true → first_lines (suc n) line ≡ line
first_cut n [] h = refl
first_cut n (b ∷ bs) h =
    let parts = and_parts (not (b == 10)) _ h in
    ap (λ t. b ∷ first_lines (cond t n (suc n)) bs) (is_false (b == 10) parts.0) ∙ ap (λ t. b ∷ t) (first_cut n bs parts.1)

-- a line and what follows it
pub first_line : (n : ℕ) (line rest : List ℕ) → lacks 10 line ≡ true → first_lines (suc n) (line ++ 10 ∷ rest) ≡ line ++ 10 ∷ first_lines n rest
first_line n [] rest h = refl
first_line n (b ∷ bs) rest h =
    let parts = and_parts (not (b == 10)) _ h in
    ap (λ t. b ∷ first_lines (cond t n (suc n)) (bs ++ 10 ∷ rest)) (is_false (b == 10) parts.0) ∙ ap (λ t. b ∷ t) (first_line n bs rest parts.1)

pub feeds_more : (line : List ℕ) (lines : List (List ℕ)) → with_feeds (line ∷ lines) ≡ line ++ 10 ∷ with_feeds lines
feeds_more line lines = append_assoc line (10 ∷ []) (with_feeds lines)

pub feeds_join : (xs ys : List (List ℕ)) → with_feeds (xs ++ ys) ≡ with_feeds xs ++ with_feeds ys
feeds_join [] ys = refl
feeds_join (x ∷ xs) ys = ap (λ t. (x ++ 10 ∷ []) ++ t) (feeds_join xs ys) ∙ sym (append_assoc (x ++ 10 ∷ []) (with_feeds xs) (with_feeds ys))

pub first_feeds : (lines : List (List ℕ)) (rest : List ℕ) → list_all (lacks 10) lines ≡ true → first_lines (length lines) (with_feeds lines ++ rest) ≡ with_feeds lines
first_feeds [] rest h = refl
first_feeds (x ∷ xs) rest h =
    let parts = and_parts (lacks 10 x) _ h in
    ap (first_lines (suc (length xs))) (append_assoc (x ++ 10 ∷ []) (with_feeds xs) rest ∙ append_assoc x (10 ∷ []) (with_feeds xs ++ rest))
    ∙ first_line (length xs) x (with_feeds xs ++ rest) parts.0
    ∙ ap (λ t. x ++ 10 ∷ t) (first_feeds xs rest parts.1)
    ∙ sym (feeds_more x xs)

-- fewer of the first lines
pub fewer_lines : (n m : ℕ) (bytes : List ℕ) → n ≤ m → first_lines n (first_lines m bytes) ≡ first_lines n bytes
fewer_lines zero m bytes h = refl
fewer_lines (suc n) m [] h = ap (first_lines (suc n)) (first_none m)
fewer_lines (suc n) zero (b ∷ bs) h = absurd (omega (arith, h))
fewer_lines (suc n) (suc m) (b ∷ bs) h =
    elim (b == 10) as (λ t. b ∷ first_lines (cond t n (suc n)) (first_lines (cond t m (suc m)) bs) ≡ b ∷ first_lines (cond t n (suc n)) bs) [
      | true ↦ ap (λ t. b ∷ t) (fewer_lines n m bs (omega (arith, h)))
      | false ↦ ap (λ t. b ∷ t) (fewer_lines (suc n) (suc m) bs h)
    ]

-- ---- two texts with the same first lines

head_is : (a b : List ℕ) (x y : List (List ℕ)) → a ∷ x ≡ b ∷ y → a ≡ b
head_is a b x y e = cc

tail_is : (a b : List ℕ) (x y : List (List ℕ)) → a ∷ x ≡ b ∷ y → x ≡ y
tail_is a b x y e = cc

pub heads : (a b s t : List ℕ) → lacks 10 a ≡ true → lacks 10 b ≡ true → a ++ 10 ∷ s ≡ b ++ 10 ∷ t → (a ≡ b) × (s ≡ t)
heads a b s t h k e =
    let parts : a ∷ parts_of 10 s ≡ b ∷ parts_of 10 t = sym (split_first 10 a s h) ∙ ap (parts_of 10) e ∙ split_first 10 b t k in
    let tails = tail_is a b (parts_of 10 s) (parts_of 10 t) parts in
    (head_is a b (parts_of 10 s) (parts_of 10 t) parts, sym (join_split 10 s) ∙ ap (join_with_byte 10) tails ∙ join_split 10 t)

no_feed : (a b s : List ℕ) → lacks 10 a ≡ true → lacks 10 b ≡ true → a ++ 10 ∷ s ≢ b
no_feed a b s h k e = parts_not_empty 10 s (tail_is a b (parts_of 10 s) [] (sym (split_first 10 a s h) ∙ ap (parts_of 10) e ∙ split_alone 10 b k))

-- parts that begin with this line, and go on as these
pub record SameHead (line : List ℕ) (k : ℕ) (rest parts : List (List ℕ)) : Type 0 where
  pub others : List (List ℕ)
  pub whole : parts ≡ line ∷ others
  pub some : others ≢ []
  pub same : first_lines k (join_with_byte 10 others) ≡ first_lines k (join_with_byte 10 rest)

pub same_head : (k : ℕ) (line : List ℕ) (rest parts : List (List ℕ)) → list_all (lacks 10) parts ≡ true → lacks 10 line ≡ true → parts ≢ [] → rest ≢ []
    → first_lines (suc k) (join_with_byte 10 parts) ≡ first_lines (suc k) (join_with_byte 10 (line ∷ rest)) → SameHead line k rest parts
same_head k line rest [] h l some more e = absurd (some refl)
same_head k line rest (a ∷ []) h l some more e =
    let lack = and_parts (lacks 10 a) _ h in
    absurd (no_feed line a (first_lines k (join_with_byte 10 rest)) l lack.0
    (sym (first_line k line (join_with_byte 10 rest) l) ∙ ap (first_lines (suc k)) (sym (join_more 10 line rest more)) ∙ sym e ∙ first_cut k a lack.0))
same_head k line rest (a ∷ b ∷ bs) h l some more e =
    let lack = and_parts (lacks 10 a) _ h in
    let same = sym (first_line k a (join_with_byte 10 (b ∷ bs)) lack.0) ∙ e ∙ ap (first_lines (suc k)) (join_more 10 line rest more) ∙ first_line k line (join_with_byte 10 rest) l in
    let got = heads a line (first_lines k (join_with_byte 10 (b ∷ bs))) (first_lines k (join_with_byte 10 rest)) lack.0 l same in
    record { others = b ∷ bs; whole = ap (λ t. t ∷ b ∷ bs) got.0; some = λ x. absurd cc; same = got.1 }

-- parts that begin as a line without its line feed
pub same_alone : (line : List ℕ) (parts : List (List ℕ)) → list_all (lacks 10) parts ≡ true → lacks 10 line ≡ true → parts ≢ [] → first_lines 1 (join_with_byte 10 parts) ≡ first_lines 1 line → parts ≡ line ∷ []
same_alone line [] h l some e = absurd (some refl)
same_alone line (a ∷ []) h l some e = ap (λ t. t ∷ []) (sym (first_cut 0 a (and_parts (lacks 10 a) _ h).0) ∙ e ∙ first_cut 0 line l)
same_alone line (a ∷ b ∷ bs) h l some e =
    let lack = and_parts (lacks 10 a) _ h in
    absurd (no_feed a line (first_lines 0 (join_with_byte 10 (b ∷ bs))) lack.0 l (sym (first_line 0 a (join_with_byte 10 (b ∷ bs)) lack.0) ∙ e ∙ first_cut 0 line l))
