-- Where the first word of a line is a verb, and where it is another.
use Rattle.std.proofs.Common.{◌≡◌, ℕ, ◌+◌, ◌-◌, ◌<◌, ◌≤◌, suc, true, false, List, [], ◌∷◌, ◌++◌, length, take, drop, get_or, refl, sym, ap, ◌∙◌, arith, add-one, subst}
use Rattle.std.specs.Prelude.{codes}
use Rattle.std.specs.Str.{bytes_eq}
use Rattle.std.specs.Cmp.Lexicographic.{same_text}
use Rattle.std.specs.List.{join_with_byte}
use Rattle.std.proofs.lemmas.List.{ext_get_or, take_rest, take-append-drop, get_or_append_left, length-append, length-take-le, get_or-take}
use Rattle.std.proofs.lemmas.Slice.Eq.{bytes_eq-Decides}
use Rattle.std.proofs.Math.Seq.{drop-cons, get_or-append_seam}
use Rattle.voting_config.specs.Ids.{Id}
use Rattle.voting_config.specs.Lists.{parts_of}
use Rattle.schedule_text.specs.declared.level.Level.{Level}
use Rattle.schedule_text.specs.declared.level.Level.TheVariants.{Core, Node}
use Rattle.schedule_text.specs.Lines.{deliver_at, line_at, verb_at, words_at}
use Rattle.schedule_text.proofs.Splitting.{words_are}
use Rattle.schedule_text.proofs.WordLaws.{lacks, join_split, split_alone, split_first}

abbrev first : List ℕ → List ℕ
first line = get_or (parts_of 32 line) 0 []

abbrev others : List ℕ → List (List ℕ)
others line = drop 1 (parts_of 32 line)

-- what a line is that begins with the verb
pub record Begins (line verb : List ℕ) : Type 0 where
  pub long : length verb ≤ length line
  pub same : (k : ℕ) → k < length verb → get_or line k 0 ≡ get_or verb k 0
  pub ends : (n : ℕ) → length verb ≡ n → n < length line → get_or line n 0 ≡ 32

joined : (verb : List ℕ) (ws : List (List ℕ)) → Begins (join_with_byte 32 (verb ∷ ws)) verb
joined verb [] = record { long = omega arith; same = λ k within. refl; ends = λ n is past. absurd (omega (arith, is, past)) }
joined verb (w ∷ ws) =
    let rest : List ℕ = join_with_byte 32 (w ∷ ws) in
    record {
      long = omega (arith, length-append verb (32 ∷ rest));
      same = λ k within. get_or_append_left verb (32 ∷ rest) 0 k within;
      ends = λ n is past. rw (← is) (get_or-append_seam verb 32 rest 0);
    }

begins : (line verb : List ℕ) → first line ≡ verb → Begins line verb
begins line verb is =
    let whole : join_with_byte 32 (verb ∷ others line) ≡ line =
    ap (λ (w : List ℕ). join_with_byte 32 (w ∷ others line)) (sym is) ∙ ap (join_with_byte 32) (sym (words_are line)) ∙ join_split 32 line
    in
    subst (λ (l : List ℕ). Begins l verb) whole (joined verb (others line))

-- what does not begin with the verb has another first word
pub is_other : (line verb : List ℕ) → (Begins line verb → ⊥) → bytes_eq (first line) verb ≡ false
is_other line verb not_so =
    elim (bytes_eq (first line) verb) as (λ b. bytes_eq (first line) verb ≡ b → b ≡ false) [
      | true ↦ λ e. absurd (not_so (begins line verb (same_text (first line) verb (sym e))))
      | false ↦ λ e. refl
    ] refl

-- the first word is the verb, and these are the others
abbrev pub IsVerb : (line verb : List ℕ) → List (List ℕ) → Type 0
IsVerb line verb ws = (bytes_eq (first line) verb ≡ true) × (others line ≡ ws)

from_parts : (line verb : List ℕ) (ws : List (List ℕ)) → parts_of 32 line ≡ verb ∷ ws → IsVerb line verb ws
from_parts line verb ws are = (
  ap (λ (ps : List (List ℕ)). bytes_eq (get_or ps 0 []) verb) are ∙ (bytes_eq-Decides verb verb).1 refl,
  ap (λ (ps : List (List ℕ)). drop 1 ps) are,
)

pub alone : (line verb : List ℕ) → lacks 32 verb ≡ true → length line ≡ length verb → ((k : ℕ) → k < length verb → get_or line k 0 ≡ get_or verb k 0) → IsVerb line verb []
alone line verb plain long same =
    let is : line ≡ verb = ext_get_or 0 line verb long (λ k within. same k (omega arith)) in
    from_parts line verb [] (ap (parts_of 32) is ∙ split_alone 32 verb plain)

pub followed : (line verb : List ℕ) (n : ℕ) → length verb ≡ n → lacks 32 verb ≡ true → n < length line → ((k : ℕ) → k < n → get_or line k 0 ≡ get_or verb k 0) → get_or line n 0 ≡ 32
    → IsVerb line verb (parts_of 32 (take (length line - (n + 1)) (drop (n + 1) line)))
followed line verb n long plain past same ends =
    let cut : length (take n line) ≡ n = length-take-le n line (omega arith) in
    let prefix : take n line ≡ verb = ext_get_or 0 (take n line) verb (omega arith) (λ k within. let below : k < n = omega arith in get_or-take n line k 0 below ∙ same k below) in
    let back : drop n line ≡ 32 ∷ drop (n + 1) line = rw add-one (drop-cons line n 0 past ∙ ap (λ b. b ∷ drop (suc n) line) ends) in
    let is : line ≡ verb ++ 32 ∷ drop (n + 1) line = sym (take-append-drop n line) ∙ ap (λ t. t ++ drop n line) prefix ∙ ap (λ t. verb ++ t) back in
    rw (take_rest line (n + 1)) (from_parts line verb (parts_of 32 (drop (n + 1) line)) (ap (parts_of 32) is ∙ split_first 32 verb (drop (n + 1) line) plain))

-- a line that delivers a message, at either level
at_deliver : (level : Level) (ids : List Id) (ws : List (List ℕ)) → verb_at level ids (codes "deliver") ws ≡ deliver_at ids ws
at_deliver Core ids ws = refl
at_deliver Node ids ws = refl

pub delivers : (level : Level) (ids : List Id) (line : List ℕ) (ws : List (List ℕ)) → IsVerb line (codes "deliver") ws → line_at level ids line ≡ deliver_at ids ws
delivers level ids line ws is =
    let words : parts_of 32 line ≡ codes "deliver" ∷ ws =
    words_are line ∙ ap (λ (w : List ℕ). w ∷ others line) (same_text (first line) (codes "deliver") (sym is.0)) ∙ ap (λ (vs : List (List ℕ)). codes "deliver" ∷ vs) is.1
    in
    ap (words_at level ids) words ∙ at_deliver level ids ws
