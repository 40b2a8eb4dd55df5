-- The text of a generated schedule spells it.
use Rattle.std.proofs.Common.{◌≡◌, ℕ, zero, suc, ◌*◌, ◌≤◌, List, [], ◌∷◌, ◌++◌, length, length-append, map, refl, arith, ap, lit≤, lit<}
use Rattle.std.specs.List.{AllByRecursion}
use Rattle.schedule_text.specs.Lines.{FitsLine, line_text}
use Rattle.schedule_text.specs.Limits.{most_line_bytes}
use Rattle.schedule_text.specs.Spelled.{IsSchedule, IsWithin, Spells, Text, schedule_text, text_lines, with_feeds}
use Rattle.schedule_text.specs.declared.level.Level.TheVariants.{Core}
use Rattle.schedule_text.specs.declared.schedule.Line.{Line}
use Rattle.schedule_generator.specs.Generated.{generated_by, line_at, lines_by}
use Rattle.schedule_generator.specs.Laws.{LawGeneratedIsSpelled, most_steps}
use Rattle.schedule_generator.proofs.Fitting.{Good, line_good, nodes}

-- ---- lines that all are good

one_more : (ls : List Line) (l : Line) → AllByRecursion Good ls → Good l → AllByRecursion Good (ls ++ l ∷ [])
one_more [] l h g = (g, tt)
one_more (x ∷ xs) l h g = (h.0, one_more xs l h.1 g)

all_fit : (ls : List Line) → AllByRecursion Good ls → AllByRecursion (FitsLine Core nodes) ls
all_fit [] h = tt
all_fit (l ∷ ls) h = (h.0.fits, all_fit ls h.1)

all_short : (ls : List Line) → AllByRecursion Good ls → AllByRecursion (λ (t : List ℕ). length t ≤ most_line_bytes) (map line_text ls)
all_short [] h = tt
all_short (l ∷ ls) h = (omega (arith, h.0.short), all_short ls h.1)

few_bytes : (ls : List Line) → AllByRecursion Good ls → length (with_feeds (map line_text ls)) ≤ 101 * length ls
few_bytes [] h = lit≤ tt
few_bytes (l ∷ ls) h =
    omega (arith, h.0.short, few_bytes ls h.1, length-append (line_text l ++ 10 ∷ []) (with_feeds (map line_text ls)), length-append (line_text l) (10 ∷ []))

as_many : (ls : List Line) → length (map line_text ls) ≡ length ls
as_many [] = refl
as_many (l ∷ ls) = ap suc (as_many ls)

-- ---- the lines of a schedule

module _ (messages : List Line → ℕ) (few : (lines : List Line) → messages lines ≤ length lines) (number : ℕ) where
  so_many : (steps : ℕ) → length (lines_by messages number steps) ≡ steps
  so_many zero = refl
  so_many (suc steps) =
      let last : Line = line_at number steps (messages (lines_by messages number steps)) in
      omega (arith, so_many steps, length-append (lines_by messages number steps) (last ∷ []))

  pub lines_good : (steps : ℕ) → steps ≤ most_steps → AllByRecursion Good (lines_by messages number steps)
  lines_good zero within = tt
  lines_good (suc steps) within =
      one_more (lines_by messages number steps) _ (lines_good steps (omega arith))
      (line_good steps (omega arith) number (messages (lines_by messages number steps)) (omega (arith, few (lines_by messages number steps), so_many steps)))

  pub spelled : (steps : ℕ) → steps ≤ most_steps → Spells Core (schedule_text (generated_by messages number steps)) (generated_by messages number steps)
  spelled steps within =
      let lines : List Line = lines_by messages number steps in
      let good : AllByRecursion Good lines = lines_good steps within in
      let many : length lines ≡ steps = so_many steps in
      let is : IsSchedule Core (generated_by messages number steps) = record { nodes = refl; some_node = lit< tt; initial = refl; some_initial = lit< tt; listed = refl; voting_only = refl; second = refl; lines = all_fit lines good } in
      let small : IsWithin (text_lines (generated_by messages number steps)) = record {
        bytes = omega (arith, few_bytes lines good);
        count = omega (arith, as_many lines);
        each = (lit≤ tt, (lit≤ tt, all_short lines good));
      } in
      Text (generated_by messages number steps) is small

pub all_spelled : LawGeneratedIsSpelled
all_spelled messages few number steps within = spelled messages few number steps within
