-- What an opening and any stops in it make of a node's journal.
use Rattle.std.proofs.Common.{◌≡◌, ◌⊎◌, inl, inr, ℕ, ◌≤◌, ◌<◌, Bool, List, [], ◌∷◌, ◌++◌, length, Ok, Err, None, Some, refl, sym, ◌∙◌, ap, subst, arith, append-nil, if◌then◌else◌}
use Rattle.std.specs.Prelude.{Option, Result, nat_le}
use Rattle.std.proofs.lemmas.Bool.{cases_lt, lt-leb, le-leb}
use Rattle.std.proofs.lemmas.List.{drop_all}
use Rattle.cluster_state.specs.Initial.{empty_record}
use Rattle.cluster_state.specs.declared.state.Kept.{Kept}
use Rattle.zen_disk.specs.DeviceCall.{DeviceCall, Len, Read, Write, Sync}
use Rattle.zen_disk.specs.Disk.{written, Torn}
use Rattle.zen_disk.specs.FileState.{FileState, settled}
use Rattle.zen_disk.specs.Sides.{Sides, Files, on, other}
use Rattle.zen_disk.specs.declared.side.Side.{Side}
use Rattle.zen_disk.specs.declared.side.Side.TheVariants.{Zero, One}
use Rattle.zen_disk.proofs.Files.{torn_written}
use Rattle.gate_log.specs.Calls.{opening_calls, both_opening_calls}
use Rattle.gate_log.specs.Generations.{checked, chosen_of, disorder, epoch_of, generations_of, together, both, with_side}
use Rattle.gate_log.specs.Journal.{header, laid, bodies_of, IsLaid}
use Rattle.gate_log.specs.declared.why.Why.{Why as LogWhy}
use Rattle.gate_log.proofs.Laid.{fresh_laid, stands_for, torn_fresh}
use Rattle.gate_log.proofs.Settled.{one_has, opened_settled, same_stands, zero_has}
use Rattle.state_journal.specs.Journal.{folded_from, found_in, found_of}
use Rattle.replay_node.specs.NodeDisk.{NodeDisk, bytes_read, calls_made, no_files, opening}
use Rattle.replay_node.proofs.FilesLeft.{Since, Nothing, MayBe, Holds, Leaves, Ends, Rest, state_since, states_since, may_read, leaves_read, no_calls, pair, pair_here, pair_there, syncs, counts, reads, writes}
use Rattle.replay_node.proofs.JournalLeft.{IsReadable, StandsWith, StandsWithEither, Runs, both_settled, readable_pair}

readable_on : (side : Side) (kept : Kept) (files : Files) → StandsWith kept files → IsReadable (on side files)
readable_on Zero kept files s = s.zero
readable_on One kept files s = s.one

either_readable_on : (side : Side) (a b : Kept) (files : Files) → StandsWithEither a b files → IsReadable (on side files)
either_readable_on side a b files (inl s) = readable_on side a files s
either_readable_on side a b files (inr s) = readable_on side b files s

-- files that have the same bodies stand for the same
same_shape : (side : Side) (kept : Kept) (file c d : List ℕ) → bodies_of c ≡ bodies_of file → IsReadable c → StandsWith kept (pair side file d)
    → StandsWith kept (pair side c d)
same_shape side kept file c d same readable s =
    let there : IsReadable d = subst IsReadable (pair_there side file d) (readable_on (other side) kept (pair side file d) s) in
    let sides = readable_pair side c d readable there in
    let generations : generations_of (pair side c d) ≡ generations_of (pair side file d) =
    same_stands side (pair side c d) (pair side file d) (ap bodies_of (pair_here side c d) ∙ same ∙ sym (ap bodies_of (pair_here side file d)))
    (pair_there side c d ∙ sym (pair_there side file d)) in
    record { found = ap found_in generations ∙ s.found; zero = sides.0; one = sides.1 }

either_shape : (side : Side) (a b : Kept) (file c d : List ℕ) → bodies_of c ≡ bodies_of file → IsReadable c
    → StandsWithEither a b (pair side file d) → StandsWithEither a b (pair side c d)
either_shape side a b file c d same readable (inl s) = inl (same_shape side a file c d same readable s)
either_shape side a b file c d same readable (inr s) = inr (same_shape side b file c d same readable s)

fresh_is : (old : List ℕ) → length old ≤ 9 → written old 0 (header ++ 0 ∷ []) ≡ header ++ 0 ∷ []
fresh_is old short = ap (λ (l : List ℕ). (header ++ 0 ∷ []) ++ l) (drop_all 9 old short)

-- one side is opened
module _ (side : Side) (there : Since) (a b : Kept) (D : Sides FileState → Type 0) (more : List DeviceCall) (here : Since)
    (holds : Holds side here there (StandsWithEither a b)) where
  abbrev Q : Files → Type 0
  Q = StandsWithEither a b

  abbrev file : List ℕ
  file = (state_since here).read

  -- what the side holds then
  pub record IsOpened (now : List ℕ) : Type 0 where
    pub bodies : List (List ℕ)
    pub gate : ℕ
    pub laid_out : IsLaid bodies now gate
    pub same : bodies_of now ≡ bodies_of (state_since here).read
    pub left : Holds side (Nothing now) there (StandsWithEither a b)

  holds_now : Holds side (Nothing file) there Q
  holds_now c d is may = holds c d (subst (MayBe here) (sym is) (may_read here)) may

  readable : IsReadable file
  readable =
      subst IsReadable (pair_here side file (state_since there).read)
      (either_readable_on side a b (pair side file (state_since there).read) (holds file (state_since there).read (may_read here) (may_read there)))

  abbrev Then : Type 0
  Then = (now : List ℕ) → IsOpened now → Rest Q D more (pair side (settled now) (state_since there))

  -- whatever a write of a header leaves of a short file
  write_left : (short : length file ≤ 9) (c d : List ℕ) → Torn 0 9 file c → MayBe there d → Q (pair side c d)
  write_left short c d torn may =
      either_shape side a b file c d (torn_fresh file c short torn) (inl (omega (arith, torn.no_longer, short))) (holds_now file d refl may)

  prepares : length file ≤ 9 → Then → Rest Q D (Write side 0 (header ++ 0 ∷ []) ∷ Sync side ∷ more) (pair side (settled file) (state_since there))
  prepares short next =
      let now = written file 0 (header ++ 0 ∷ []) in
      let torn : Torn 0 9 file now = torn_written file 0 (header ++ 0 ∷ []) (omega arith) in
      writes side there Q D file 0 (header ++ 0 ∷ []) (omega arith) more (write_left short)
      (next now (record {
        bodies = [];
        gate = 8;
        laid_out = subst (λ (l : List ℕ). IsLaid [] l 8) (sym (fresh_is file short)) fresh_laid;
        same = torn_fresh file now short torn;
        left = λ c d is may. write_left short c d (subst (λ (l : List ℕ). Torn 0 9 file l) (sym is) torn) may;
      }))

  takes : 9 < length file → Then → Rest Q D (Read side 0 (length file) ∷ more) (pair side (settled file) (state_since there))
  takes long next = reads side there Q D (Nothing file) 0 (length file) more holds_now (next file (elim readable [
    | inl short ↦ absurd (omega (arith, long, short))
    | inr laid ↦ record { bodies = laid.0; gate = laid.1; laid_out = laid.2; same = refl; left = holds_now }
  ]))

  abbrev rest : Bool → List DeviceCall
  rest brief =
      ((if brief then Write side 0 (header ++ 0 ∷ []) ∷ Sync side ∷ [] else []) ++ (if brief then [] else Read side 0 (length file) ∷ [])) ++ more

  rest_opens : Then → Rest Q D (rest (nat_le (length file) 9)) (pair side (settled file) (state_since there))
  rest_opens next =
      let Opens : Bool → Type 0 = λ brief. Rest Q D (rest brief) (pair side (settled file) (state_since there)) in
      elim (cases_lt 9 (length file)) [
        | inl long ↦ subst Opens (sym (lt-leb (length file) 9 long)) (takes long next)
        | inr short ↦ subst Opens (sym (le-leb (length file) 9 short)) (prepares short next)
      ]

  opens_side : Then → Rest Q D (opening_calls side file ++ more) (pair side (state_since here) (state_since there))
  opens_side next =
      syncs side there Q D here (Len side ∷ rest (nat_le (length file) 9)) holds
      (counts side there Q D (Nothing file) (rest (nat_le (length file) 9)) holds_now (rest_opens next))

-- two files that are laid out and stand for a record run with it
module _ (zero one : List (List ℕ)) (files : Files) (zero_gate one_gate : ℕ) (zero_laid : IsLaid zero files.zero zero_gate)
    (one_laid : IsLaid one files.one one_gate) (kept : Kept) (found : found_of files ≡ Ok kept) where
  abbrev b : Sides (List (List ℕ))
  b = record { zero = zero; one = one }

  runs_as : (side : Side) (epoch : ℕ) → disorder Zero zero ≡ None → disorder One one ≡ None → chosen_of b ≡ Ok side
      → epoch_of side (on side b) ≡ Some epoch → Runs (both_settled files) kept
  runs_as side epoch zero_ordered one_ordered chosen has =
      let gates : Sides ℕ = record { zero = zero_gate; one = one_gate } in
      record {
        bytes = files;
        generations = record { bodies = b; side = side };
        side = side;
        gate = on side gates;
        other_gate = on (other side) gates;
        epoch = epoch;
        is = refl;
        settled = opened_settled side b files (λ c. c ≡ files) gates epoch zero_laid one_laid zero_ordered one_ordered chosen has (λ c e. e);
        found = found;
      }

  by_chosen : (chosen : Result Side LogWhy) → chosen_of b ≡ chosen → disorder Zero zero ≡ None → disorder One one ≡ None
      → found_in (with_side b chosen) ≡ Ok kept → Runs (both_settled files) kept
  by_chosen (Ok Zero) is zero_ordered one_ordered finds = runs_as Zero _ zero_ordered one_ordered is (zero_has zero)
  by_chosen (Ok One) is zero_ordered one_ordered finds =
      runs_as One _ zero_ordered one_ordered is (one_has (epoch_of Zero zero) (epoch_of One one) is)
  by_chosen (Err why) is zero_ordered one_ordered finds = absurd (cc finds)

  by_order : (first second : Option ℕ) → disorder Zero zero ≡ first → disorder One one ≡ second
      → found_in (both (checked first zero) (checked second one)) ≡ Ok kept → Runs (both_settled files) kept
  by_order None None zero_ordered one_ordered finds = by_chosen (chosen_of b) refl zero_ordered one_ordered finds
  by_order None (Some p) zero_ordered one_ordered finds = absurd (cc finds)
  by_order (Some p) second zero_ordered one_ordered finds = absurd (cc finds)

  laid_run : Runs (both_settled files) kept
  unfolding generations_of
  laid_run =
      by_order (disorder Zero zero) (disorder One one) refl refl
      (sym (ap found_in (λ i. together (stands_for zero files.zero zero_gate zero_laid i) (stands_for one files.one one_gate one_laid i))) ∙ found)

-- and files with the same bodies are found as these
same_found : (files now : Files) → bodies_of now.zero ≡ bodies_of files.zero → bodies_of now.one ≡ bodies_of files.one → found_of now ≡ found_of files
unfolding generations_of
same_found files now zero one = ap found_in (λ i. together (zero i) (one i))

module _ (a b kept : Kept) (since : Sides Since) (left : (c : Files) → MayBe since.zero c.zero → MayBe since.one c.one → StandsWithEither a b c)
    (found : found_of (bytes_read (states_since since)) ≡ Ok kept) where
  abbrev E : Sides FileState → Type 0
  E = λ f. Runs f kept

  first : Holds Zero since.zero since.one (StandsWithEither a b)
  first c d zero one = left (record { zero = c; one = d }) zero one

  module _ (now : List ℕ) (zero : IsOpened Zero since.one a b E (opening_calls One (state_since since.one).read) since.zero first now) where
    second : Holds One since.one (Nothing now) (StandsWithEither a b)
    second c d one is = zero.left d c is one

    last : (also : List ℕ) → IsOpened One (Nothing now) a b E [] since.one second also
        → Rest (StandsWithEither a b) E [] (pair One (settled also) (settled now))
    last also one disk files =
        let bytes : Files = record { zero = now; one = also } in
        let runs : Runs (both_settled bytes) kept =
        laid_run zero.bodies one.bodies bytes zero.gate one.gate zero.laid_out one.laid_out kept
        (same_found (bytes_read (states_since since)) bytes zero.same one.same ∙ found) in
        no_calls disk E (λ f. Leaves f (StandsWithEither a b)) (subst (λ (f : Sides FileState). Runs f kept) (sym files) runs)

    opens_second : Rest (StandsWithEither a b) E (opening_calls One (state_since since.one).read) (pair Zero (settled now) (state_since since.one))
    opens_second =
        subst (λ (calls : List DeviceCall). Rest (StandsWithEither a b) E calls (pair One (state_since since.one) (settled now)))
        (append-nil (opening_calls One (state_since since.one).read))
        (opens_side One (Nothing now) a b E [] since.one second last)

  opens_both : Rest (StandsWithEither a b) E (both_opening_calls (bytes_read (states_since since))) (states_since since)
  opens_both = opens_side Zero since.one a b E (opening_calls One (state_since since.one).read) since.zero first opens_second

-- what an opening finds is one of the two records, and then the journal runs with it
pub record Opening (a b : Kept) (disk : NodeDisk) : Type 0 where
  pub kept : Kept
  pub is : (kept ≡ a) ⊎ (kept ≡ b)
  pub found : found_of (bytes_read disk.files) ≡ Ok kept
  pub ends : Ends (opening disk) (λ f. Runs f kept) (λ f. Leaves f (StandsWithEither a b))

pub opening_ends : (a b : Kept) (disk : NodeDisk) → Leaves disk.files (StandsWithEither a b) → Opening a b disk
opening_ends a b disk now = from (leaves_read disk.files (StandsWithEither a b) now)
  where
    opens : (kept : Kept) → found_of (bytes_read disk.files) ≡ Ok kept → Ends (opening disk) (λ f. Runs f kept) (λ f. Leaves f (StandsWithEither a b))
    opens kept found =
        let there = opens_both a b kept now.since now.left (sym (ap (λ (f : Sides FileState). found_of (bytes_read f)) now.is) ∙ found) disk now.is in
        subst
        (λ (f : Sides FileState). Ends (calls_made disk (both_opening_calls (bytes_read f))) (λ f. Runs f kept) (λ f. Leaves f (StandsWithEither a b)))
        (sym now.is) there

    from : StandsWithEither a b (bytes_read disk.files) → Opening a b disk
    from (inl s) = record { kept = a; is = inl refl; found = s.found; ends = opens a s.found }
    from (inr s) = record { kept = b; is = inr refl; found = s.found; ends = opens b s.found }

-- a journal on two empty files runs
pub empty_stands : StandsWith empty_record (bytes_read no_files)
unfolding generations_of bodies_of folded_from
empty_stands = record { found = refl; zero = inl (omega arith); one = inl (omega arith) }
