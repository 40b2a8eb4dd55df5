-- What is read as a recorded trace has no more bytes than one may have.
use Rattle.std.proofs.Common.{◌≡◌, ℕ, ◌+◌, ◌≤◌, Bool, true, false, Option, Result, Ok, Err, List, [], ◌∷◌, ◌++◌, length, refl, sym, ap, subst, arith}
use Rattle.std.specs.Prelude.{nat_lt, if◌then◌else◌}
use Rattle.std.specs.List.{join_with_byte}
use Rattle.std.proofs.lemmas.Bool.{ltb-false}
use Rattle.std.proofs.lemmas.List.{length-append}
use Rattle.schedule_text.proofs.WordLaws.{join_split}
use Rattle.voting_config.specs.Ids.{Id}
use Rattle.voting_config.specs.Lists.{parts_of}
use Rattle.recorded_trace.specs.declared.entry.Entry.{Entry}
use Rattle.recorded_trace.specs.declared.fault.BadTrace.{BadTrace}
use Rattle.recorded_trace.specs.declared.fault.Why.{Why}
use Rattle.recorded_trace.specs.declared.fault.Why.TheVariants as bad
use Rattle.recorded_trace.specs.declared.progress.Progress.{Progress}
use Rattle.recorded_trace.specs.Lines.{header_at, shown_at}
use Rattle.recorded_trace.specs.Reading.{Numbered, Recording, ◌>>>◌, most_bytes, first_progress, after_line, sized, in_line, with_entry, lines_at, parts_read, recording_of}

sized_within : {A : Type 0} (p : Progress) (line : List ℕ) (read : Result A Why) (x : A) → in_line p (sized p line read) ≡ Ok x → p.before + length line + 1 ≤ most_bytes
sized_within p line read x e = from (nat_lt most_bytes (p.before + length line + 1)) refl e
  where
    from : (b : Bool) → nat_lt most_bytes (p.before + length line + 1) ≡ b → in_line p (if b then Err bad.TooBig else read) ≡ Ok x → p.before + length line + 1 ≤ most_bytes
    from true k f = absurd cc
    from false k f = ltb-false most_bytes (p.before + length line + 1) k

lines_within : (p : Progress) (prefix : List Numbered) (parts : List (List ℕ)) (xs : List Numbered) → p.before ≤ most_bytes → lines_at p prefix parts ≡ Ok xs → p.before + length (join_with_byte 10 parts) ≤ most_bytes
lines_within p prefix [] xs k e = omega (arith, k)
lines_within p prefix ([] ∷ []) xs k e = omega (arith, k)
lines_within p prefix ((b ∷ bs) ∷ []) xs k e = absurd cc
lines_within p prefix (line ∷ next ∷ more) xs k e =
    from (in_line p (sized p line (shown_at line))) refl e (λ told room rest. lines_within (after_line p line) (with_entry p prefix told) (next ∷ more) xs room rest)
  where
    from : (r : Result (Option Entry) BadTrace) → in_line p (sized p line (shown_at line)) ≡ r → (r >>> λ told. lines_at (after_line p line) (with_entry p prefix told) (next ∷ more)) ≡ Ok xs
        → ((told : Option Entry) → (after_line p line).before ≤ most_bytes → lines_at (after_line p line) (with_entry p prefix told) (next ∷ more) ≡ Ok xs → (after_line p line).before + length (join_with_byte 10 (next ∷ more)) ≤ most_bytes)
        → p.before + length (line ++ 10 ∷ join_with_byte 10 (next ∷ more)) ≤ most_bytes
    from (Err f) is e again = absurd cc
    from (Ok told) is e again =
        let rest = again told (sized_within p line (shown_at line) told is) e in
        omega (arith, length-append line (10 ∷ join_with_byte 10 (next ∷ more)), rest)

parts_within : (parts : List (List ℕ)) (r : Recording) → parts_read parts ≡ Ok r → length (join_with_byte 10 parts) ≤ most_bytes
parts_within [] r e = absurd cc
parts_within (line ∷ []) r e = absurd cc
parts_within (line ∷ next ∷ more) r e = from (in_line first_progress (sized first_progress line (header_at line))) refl e
  where
    rest : (initial : List Id) (read : Result (List Numbered) BadTrace) → lines_at (after_line first_progress line) [] (next ∷ more) ≡ read → (read >>> λ entries. Ok (let x : Recording = record { initial = initial; entries = entries } in x)) ≡ Ok r
        → (after_line first_progress line).before ≤ most_bytes → (after_line first_progress line).before + length (join_with_byte 10 (next ∷ more)) ≤ most_bytes
    rest initial (Err f) is e k = absurd cc
    rest initial (Ok xs) is e k = lines_within (after_line first_progress line) [] (next ∷ more) xs k is

    from : (h : Result (List Id) BadTrace) → in_line first_progress (sized first_progress line (header_at line)) ≡ h
        → (h >>> λ initial. lines_at (after_line first_progress line) [] (next ∷ more) >>> λ entries. Ok (let x : Recording = record { initial = initial; entries = entries } in x)) ≡ Ok r
        → length (line ++ 10 ∷ join_with_byte 10 (next ∷ more)) ≤ most_bytes
    from (Err f) is e = absurd cc
    from (Ok initial) is e =
        let after = rest initial (lines_at (after_line first_progress line) [] (next ∷ more)) refl e (sized_within first_progress line (header_at line) initial is) in
        omega (arith, length-append line (10 ∷ join_with_byte 10 (next ∷ more)), after)

-- a text that is a recorded trace is not too long
pub recording_short : (bytes : List ℕ) (r : Recording) → recording_of bytes ≡ Ok r → length bytes ≤ most_bytes
recording_short bytes r e = subst (λ (l : List ℕ). length l ≤ most_bytes) (join_split 10 bytes) (parts_within (parts_of 10 bytes) r e)
