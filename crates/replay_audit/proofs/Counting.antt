-- Lines are counted by their first words.
use Rattle.std.proofs.Common.{◌≡◌, ℕ, ◌+◌, Bool, true, false, cond, ◌&&◌, map, None, Some, Option, Ok, List, [], ◌∷◌, ◌++◌, get_or, refl, sym, ap, ◌∙◌, subst, codes, IsTrue, arith, append_assoc, if◌then◌else◌}
use Rattle.std.specs.Prelude.{count_by, nat_eq}
use Rattle.std.specs.List.{filter, starts_with}
use Rattle.std.specs.Str.{bytes_eq}
use Rattle.std.proofs.lemmas.List.Sums.{sum_by-cons}
use Rattle.voting_config.specs.Ids.{Id}
use Rattle.schedule_text.specs.Lines.{words_of, is_one_line}
use Rattle.schedule_text.proofs.WordLaws.{split_first}
use Rattle.trace_text.specs.declared.ending.Ending.{Ending}
use Rattle.trace_text.specs.declared.ending.Ending.TheVariants as ending
use Rattle.trace_text.specs.Trace.{ending_text}
use Rattle.trace_summary.specs.declared.counts.Counts.{Counts}
use Rattle.trace_summary.specs.Counted.{counts_in, is_act, is_committed, is_crash, is_refused, is_step, is_won, lines_of, no_counts}
use Rattle.recorded_trace.specs.declared.entry.Entry.{Entry}
use Rattle.recorded_trace.specs.Lines.{shown_at}
use Rattle.line_laws.specs.Read.{IsRead, Shows}
use Rattle.line_laws.specs.Read.Shows.{Nothing, Skip, Show}
use Rattle.line_laws.proofs.Traces.{entries_in}
use Rattle.replay_audit.specs.ShownLines.{lines_that}

-- ---- counts of lines

abbrev pub plus : Counts → Counts → Counts
plus c d = record { steps = c.steps + d.steps; acts = c.acts + d.acts; refused = c.refused + d.refused; won = c.won + d.won; committed = c.committed + d.committed; crashes = c.crashes + d.crashes }

-- what a line counts for, by its words
abbrev pub counted : List (List ℕ) → Counts
counted ws =
    let act : Bool = bytes_eq (get_or ws 0 []) (codes "act") in
    record {
      steps = cond (bytes_eq (get_or ws 0 []) (codes ">")) 1 0;
      acts = cond act 1 0;
      refused = cond (act && starts_with nat_eq (get_or ws 2 []) (codes "refused:")) 1 0;
      won = cond (bytes_eq (get_or ws 0 []) (codes "won")) 1 0;
      committed = cond (bytes_eq (get_or ws 0 []) (codes "committed")) 1 0;
      crashes = cond (if act then bytes_eq (get_or ws 2 []) (codes "crashed") else bytes_eq (get_or ws 0 []) (codes "crashed")) 1 0;
    }

first_counts : (kind : List ℕ → Bool) (line : List ℕ) (lines : List (List ℕ)) → count_by kind (line ∷ lines) ≡ cond (kind line) 1 0 + count_by kind lines
first_counts kind line lines = sum_by-cons (λ (l : List ℕ). cond (kind l) 1 0) line lines

line_counts : (line : List ℕ) (lines : List (List ℕ)) → counts_in (line ∷ lines) ≡ plus (counted (words_of line)) (counts_in lines)
line_counts line lines = λ i. record {
  steps = first_counts is_step line lines i;
  acts = first_counts is_act line lines i;
  refused = first_counts is_refused line lines i;
  won = first_counts is_won line lines i;
  committed = first_counts is_committed line lines i;
  crashes = first_counts is_crash line lines i;
}

pub plus_none : (c : Counts) → plus no_counts c ≡ c
plus_none c = λ i. record { steps = none c.steps i; acts = none c.acts i; refused = none c.refused i; won = none c.won i; committed = none c.committed i; crashes = none c.crashes i }
  where
    none : (n : ℕ) → 0 + n ≡ n
    none n = omega arith

pub plus_end : (c : Counts) → plus c no_counts ≡ c
plus_end c = λ i. record { steps = none c.steps i; acts = none c.acts i; refused = none c.refused i; won = none c.won i; committed = none c.committed i; crashes = none c.crashes i }
  where
    none : (n : ℕ) → n + 0 ≡ n
    none n = omega arith

pub plus_assoc : (b c d : Counts) → plus (plus b c) d ≡ plus b (plus c d)
plus_assoc b c d = λ i. record {
  steps = assoc b.steps c.steps d.steps i;
  acts = assoc b.acts c.acts d.acts i;
  refused = assoc b.refused c.refused d.refused i;
  won = assoc b.won c.won d.won i;
  committed = assoc b.committed c.committed d.committed i;
  crashes = assoc b.crashes c.crashes d.crashes i;
}
  where
    assoc : (x y z : ℕ) → (x + y) + z ≡ x + (y + z)
    assoc x y z = omega arith

-- ---- lines that show entries and count

-- a line with this first word, with its line feed, where the words are those of the line
abbrev pub if_first : List ℕ → List (List ℕ) → List ℕ → List (List ℕ)
if_first word ws line = cond (bytes_eq (get_or ws 0 []) word) ((line ++ 10 ∷ []) ∷ []) []

-- these entries, these numbers, these lines `won` and these lines `committed`
pub data Reads : List ℕ → List Entry → Counts → List (List ℕ) → List (List ℕ) → Type 0 where
  NoLine : Reads [] [] no_counts [] []
  Passed : (line more : List ℕ) (es : List Entry) (c : Counts) (vs ss : List (List ℕ)) → IsTrue (is_one_line line) → shown_at line ≡ Ok None → Reads more es c vs ss
      → Reads (line ++ 10 ∷ more) es (plus (counted (words_of line)) c) (if_first (codes "won") (words_of line) line ++ vs) (if_first (codes "committed") (words_of line) line ++ ss)
  Taken : (line more : List ℕ) (e : Entry) (es : List Entry) (c : Counts) (vs ss : List (List ℕ)) → IsTrue (is_one_line line) → shown_at line ≡ Ok (Some e) → Reads more es c vs ss
      → Reads (line ++ 10 ∷ more) (e ∷ es) (plus (counted (words_of line)) c) (if_first (codes "won") (words_of line) line ++ vs) (if_first (codes "committed") (words_of line) line ++ ss)

pub shows : (text : List ℕ) (es : List Entry) (c : Counts) (vs ss : List (List ℕ)) → Reads text es c vs ss → Shows text es
shows _ _ _ _ _ NoLine = Nothing
shows _ _ _ _ _ (Passed line more es c vs ss alone tells rest) = Skip line more es alone tells (shows more es c vs ss rest)
shows _ _ _ _ _ (Taken line more e es c vs ss alone tells rest) = Show line more e es alone tells (shows more es c vs ss rest)

pub sums : (text : List ℕ) (es : List Entry) (c : Counts) (vs ss : List (List ℕ)) → Reads text es c vs ss → counts_in (lines_of text) ≡ c
sums _ _ _ _ _ NoLine = refl
sums _ _ _ _ _ (Passed line more es c vs ss alone tells rest) = ap counts_in (split_first 10 line more alone) ∙ line_counts line (lines_of more) ∙ ap (plus (counted (words_of line))) (sums more es c vs ss rest)
sums _ _ _ _ _ (Taken line more e es c vs ss alone tells rest) = ap counts_in (split_first 10 line more alone) ∙ line_counts line (lines_of more) ∙ ap (plus (counted (words_of line))) (sums more es c vs ss rest)

-- the lines of a kind among a first one and others
first_line : (b : Bool) (line : List ℕ) (lines : List (List ℕ)) → map (λ (l : List ℕ). l ++ codes "\n") (cond b (line ∷ lines) lines) ≡ cond b ((line ++ 10 ∷ []) ∷ []) [] ++ map (λ (l : List ℕ). l ++ codes "\n") lines
first_line true line lines = refl
first_line false line lines = refl

pub wins_are : (text : List ℕ) (es : List Entry) (c : Counts) (vs ss : List (List ℕ)) → Reads text es c vs ss → lines_that is_won text ≡ vs
wins_are _ _ _ _ _ NoLine = refl
wins_are _ _ _ _ _ (Passed line more es c vs ss alone tells rest) =
    ap (λ (ls : List (List ℕ)). map (λ (l : List ℕ). l ++ codes "\n") (filter is_won ls)) (split_first 10 line more alone) ∙ first_line (is_won line) line (filter is_won (lines_of more))
    ∙ ap (λ (xs : List (List ℕ)). if_first (codes "won") (words_of line) line ++ xs) (wins_are more es c vs ss rest)
wins_are _ _ _ _ _ (Taken line more e es c vs ss alone tells rest) =
    ap (λ (ls : List (List ℕ)). map (λ (l : List ℕ). l ++ codes "\n") (filter is_won ls)) (split_first 10 line more alone) ∙ first_line (is_won line) line (filter is_won (lines_of more))
    ∙ ap (λ (xs : List (List ℕ)). if_first (codes "won") (words_of line) line ++ xs) (wins_are more es c vs ss rest)

pub commits_are : (text : List ℕ) (es : List Entry) (c : Counts) (vs ss : List (List ℕ)) → Reads text es c vs ss → lines_that is_committed text ≡ ss
commits_are _ _ _ _ _ NoLine = refl
commits_are _ _ _ _ _ (Passed line more es c vs ss alone tells rest) =
    ap (λ (ls : List (List ℕ)). map (λ (l : List ℕ). l ++ codes "\n") (filter is_committed ls)) (split_first 10 line more alone) ∙ first_line (is_committed line) line (filter is_committed (lines_of more))
    ∙ ap (λ (xs : List (List ℕ)). if_first (codes "committed") (words_of line) line ++ xs) (commits_are more es c vs ss rest)
commits_are _ _ _ _ _ (Taken line more e es c vs ss alone tells rest) =
    ap (λ (ls : List (List ℕ)). map (λ (l : List ℕ). l ++ codes "\n") (filter is_committed ls)) (split_first 10 line more alone) ∙ first_line (is_committed line) line (filter is_committed (lines_of more))
    ∙ ap (λ (xs : List (List ℕ)). if_first (codes "committed") (words_of line) line ++ xs) (commits_are more es c vs ss rest)

pub moved : (text other : List ℕ) (es : List Entry) (c d : Counts) (vs ws ss us : List (List ℕ)) → text ≡ other → c ≡ d → vs ≡ ws → ss ≡ us → Reads text es c vs ss → Reads other es d ws us
moved text other es c d vs ws ss us e f g h r =
    subst (λ (t : List ℕ). Reads t es d ws us) e (subst (λ (k : Counts). Reads text es k ws us) f (subst (λ (xs : List (List ℕ)). Reads text es c xs us) g (subst (λ (xs : List (List ℕ)). Reads text es c vs xs) h r)))

pub both_read : (xs ys : List ℕ) (es fs : List Entry) (c d : Counts) (vs ws ss us : List (List ℕ)) → Reads xs es c vs ss → Reads ys fs d ws us → Reads (xs ++ ys) (es ++ fs) (plus c d) (vs ++ ws) (ss ++ us)
both_read _ ys _ fs _ d _ ws _ us NoLine s = subst (λ (k : Counts). Reads ys fs k ws us) (sym (plus_none d)) s
both_read _ ys _ fs _ d _ ws _ us (Passed line more es c vs ss alone tells rest) s =
    let won = if_first (codes "won") (words_of line) line in
    let committed = if_first (codes "committed") (words_of line) line in
    moved (line ++ 10 ∷ (more ++ ys)) ((line ++ 10 ∷ more) ++ ys) (es ++ fs) _ _ (won ++ (vs ++ ws)) ((won ++ vs) ++ ws) (committed ++ (ss ++ us)) ((committed ++ ss) ++ us)
    (sym (append_assoc line (10 ∷ more) ys)) (sym (plus_assoc (counted (words_of line)) c d)) (sym (append_assoc won vs ws)) (sym (append_assoc committed ss us))
    (Passed line (more ++ ys) (es ++ fs) (plus c d) (vs ++ ws) (ss ++ us) alone tells (both_read more ys es fs c d vs ws ss us rest s))
both_read _ ys _ fs _ d _ ws _ us (Taken line more e es c vs ss alone tells rest) s =
    let won = if_first (codes "won") (words_of line) line in
    let committed = if_first (codes "committed") (words_of line) line in
    moved (line ++ 10 ∷ (more ++ ys)) ((line ++ 10 ∷ more) ++ ys) (e ∷ es ++ fs) _ _ (won ++ (vs ++ ws)) ((won ++ vs) ++ ws) (committed ++ (ss ++ us)) ((committed ++ ss) ++ us)
    (sym (append_assoc line (10 ∷ more) ys)) (sym (plus_assoc (counted (words_of line)) c d)) (sym (append_assoc won vs ws)) (sym (append_assoc committed ss us))
    (Taken line (more ++ ys) e (es ++ fs) (plus c d) (vs ++ ws) (ss ++ us) alone tells (both_read more ys es fs c d vs ws ss us rest s))

-- one line, by the words that it begins with

-- a line that counts for none of a kind is none
none_so : (b : Bool) (line : List ℕ) (n : ℕ) → cond b 1 0 ≡ n → n ≡ 0 → cond b ((line ++ 10 ∷ []) ∷ []) [] ++ [] ≡ []
none_so true line n e z = absurd (let one : 1 ≡ 0 = e ∙ z in cc)
none_so false line n e z = refl

one_so : (b : Bool) (line text : List ℕ) → b ≡ true → text ≡ line ++ codes "\n" → cond b ((line ++ 10 ∷ []) ∷ []) [] ++ [] ≡ text ∷ []
one_so true line text b e = λ i. sym e i ∷ []
one_so false line text b e = absurd (let no_line : false ≡ true = b in cc)

none_at : (b : Bool) (line : List ℕ) → b ≡ false → cond b ((line ++ 10 ∷ []) ∷ []) [] ++ [] ≡ []
none_at false line b = refl
none_at true line b = absurd (let no_line : true ≡ false = b in cc)

pub line_reads : (text : List ℕ) (prefix : List (List ℕ)) (told : Option Entry) (c : Counts) → IsRead text prefix told → ((rest : List (List ℕ)) → counted (prefix ++ rest) ≡ c) → c.won ≡ 0 → c.committed ≡ 0
    → Reads text (entries_in told) c [] []
line_reads text prefix None c r k z y =
    let counts : counted (words_of r.line) ≡ c = ap counted r.words ∙ k r.rest in
    moved (r.line ++ 10 ∷ []) text [] _ c _ [] _ [] (sym r.is) (plus_end (counted (words_of r.line)) ∙ counts)
    (none_so (bytes_eq (get_or (words_of r.line) 0 []) (codes "won")) r.line c.won (ap (λ (d : Counts). d.won) counts) z)
    (none_so (bytes_eq (get_or (words_of r.line) 0 []) (codes "committed")) r.line c.committed (ap (λ (d : Counts). d.committed) counts) y)
    (Passed r.line [] [] no_counts [] [] r.alone r.tells NoLine)
line_reads text prefix (Some e) c r k z y =
    let counts : counted (words_of r.line) ≡ c = ap counted r.words ∙ k r.rest in
    moved (r.line ++ 10 ∷ []) text (e ∷ []) _ c _ [] _ [] (sym r.is) (plus_end (counted (words_of r.line)) ∙ counts)
    (none_so (bytes_eq (get_or (words_of r.line) 0 []) (codes "won")) r.line c.won (ap (λ (d : Counts). d.won) counts) z)
    (none_so (bytes_eq (get_or (words_of r.line) 0 []) (codes "committed")) r.line c.committed (ap (λ (d : Counts). d.committed) counts) y)
    (Taken r.line [] e [] no_counts [] [] r.alone r.tells NoLine)

-- ---- what the lines count for

abbrev pub one_step : Counts
one_step = record no_counts { steps = 1 }

abbrev pub one_win : Counts
one_win = record no_counts { won = 1 }

abbrev pub one_commit : Counts
one_commit = record no_counts { committed = 1 }

abbrev pub one_crash : Counts
one_crash = record no_counts { crashes = 1 }

abbrev pub ended : Ending → Counts
ended ending.Taken = record no_counts { acts = 1 }
ended (ending.Refused cause) = record no_counts { acts = 1; refused = 1 }
ended ending.Stopped = record no_counts { acts = 1 }
ended ending.Disk = record no_counts { acts = 1 }
ended ending.Crashed = record no_counts { acts = 1; crashes = 1 }

pub act_counted : (n : Id) (e : Ending) (rest : List (List ℕ)) → counted (codes "act" ∷ n ∷ ending_text e ∷ rest) ≡ ended e
act_counted n ending.Taken rest = refl
act_counted n (ending.Refused cause) rest = refl
act_counted n ending.Stopped rest = refl
act_counted n ending.Disk rest = refl
act_counted n ending.Crashed rest = refl

pub won_reads : (text : List ℕ) → IsRead text (codes "won" ∷ []) None → Reads text [] one_win (text ∷ []) []
won_reads text r =
    moved (r.line ++ 10 ∷ []) text [] _ one_win _ (text ∷ []) _ [] (sym r.is) (plus_end (counted (words_of r.line)) ∙ ap counted r.words)
    (one_so (bytes_eq (get_or (words_of r.line) 0 []) (codes "won")) r.line text (ap (λ (ws : List (List ℕ)). bytes_eq (get_or ws 0 []) (codes "won")) r.words) r.is)
    (none_at (bytes_eq (get_or (words_of r.line) 0 []) (codes "committed")) r.line (ap (λ (ws : List (List ℕ)). bytes_eq (get_or ws 0 []) (codes "committed")) r.words))
    (Passed r.line [] [] no_counts [] [] r.alone r.tells NoLine)

pub committed_reads : (text : List ℕ) → IsRead text (codes "committed" ∷ []) None → Reads text [] one_commit [] (text ∷ [])
committed_reads text r =
    moved (r.line ++ 10 ∷ []) text [] _ one_commit _ [] _ (text ∷ []) (sym r.is) (plus_end (counted (words_of r.line)) ∙ ap counted r.words)
    (none_at (bytes_eq (get_or (words_of r.line) 0 []) (codes "won")) r.line (ap (λ (ws : List (List ℕ)). bytes_eq (get_or ws 0 []) (codes "won")) r.words))
    (one_so (bytes_eq (get_or (words_of r.line) 0 []) (codes "committed")) r.line text (ap (λ (ws : List (List ℕ)). bytes_eq (get_or ws 0 []) (codes "committed")) r.words) r.is)
    (Passed r.line [] [] no_counts [] [] r.alone r.tells NoLine)

pub ended_none : (e : Ending) → ((ended e).won ≡ 0) × ((ended e).committed ≡ 0)
ended_none ending.Taken = (refl, refl)
ended_none (ending.Refused cause) = (refl, refl)
ended_none ending.Stopped = (refl, refl)
ended_none ending.Disk = (refl, refl)
ended_none ending.Crashed = (refl, refl)
