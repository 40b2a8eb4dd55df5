-- What an append, a renewal, an opening and any stops in them make of a node's journal.
use Rattle.std.proofs.Common.{◌≡◌, ◌⊎◌, inl, inr, ℕ, ◌+◌, ◌≤◌, ◌<◌, ◌^◌, Bool, true, false, List, [], ◌∷◌, ◌++◌, length, take, drop, get_or, Ok, refl, sym, ◌∙◌, ap, subst, arith, append_assoc, length-append, take-append-drop, if◌then◌else◌}
use Rattle.std.specs.Prelude.{Option, nat_lt}
use Rattle.std.specs.Option.{unwrap_or}
use Rattle.std.proofs.lemmas.Bool.{cases_eq, ltb-true, ltb-false}
use Rattle.std.proofs.lemmas.List.{drop_more, get_or_at, length-take-le}
use Rattle.std.proofs.lemmas.Nat.{from_be_bytes-to_be_bytes_8}
use Rattle.voting_config.specs.Ids.{most_ids}
use Rattle.cluster_state.specs.Field.{eight_bytes}
use Rattle.cluster_state.specs.Fields.{term, ids}
use Rattle.cluster_state.specs.States.{state}
use Rattle.cluster_state.specs.Initial.{empty_record}
use Rattle.cluster_state.specs.declared.state.Kept.{Kept}
use Rattle.zen_disk.specs.DeviceCall.{DeviceCall, Write, Sync}
use Rattle.zen_disk.specs.Disk.{written, part, Torn}
use Rattle.zen_disk.specs.FileState.{FileState, settled}
use Rattle.zen_disk.specs.Sides.{Sides, Files, on, other, put}
use Rattle.zen_disk.specs.declared.side.Side.{Side}
use Rattle.zen_disk.specs.declared.side.Side.TheVariants.{Zero, One}
use Rattle.zen_disk.proofs.Files.{torn_written, part_written}
use Rattle.gate_log.specs.Calls.{LeavesOn, append_calls, renewal_calls}
use Rattle.gate_log.specs.Folded.{found_by}
use Rattle.gate_log.specs.Generations.{Generations, Begins, IsSettledAs, appended, renewed, epoch_in, epoch_of, generations_of, in_use, is_generation, tail_of, standing_in}
use Rattle.gate_log.specs.Journal.{framed, bodies_of, IsBeforeOrAfter, IsReplaced, IsFrame, IsLaid, most_body}
use Rattle.gate_log.specs.Place.{Place, gate_behind, place_of, renews}
use Rattle.gate_log.proofs.Added.{emptied, first_closed, first_is_open, laid_nothing, opened, room, still_closed, torn_behind}
use Rattle.gate_log.proofs.Folded.{append_finds, renewal_finds}
use Rattle.gate_log.proofs.Laid.{gate_is, stands_for}
use Rattle.gate_log.proofs.Settled.{after_it, append_leaves, appended_settled, other_other, renewal_leaves, renewed_settled, standing_is}
use Rattle.state_journal.specs.Bodies.{holds_old, body_of, change_at}
use Rattle.state_journal.specs.Changes.{changed}
use Rattle.state_journal.specs.Drafts.{MayBegin, generation_prefix}
use Rattle.state_journal.specs.Journal.{in_order, found_in, found_of, on_its_side, record_of_bodies}
use Rattle.state_journal.specs.Keeping.{generation_after, keeping_calls, keeping_calls_in, writing_calls}
use Rattle.state_journal.specs.declared.change.Change.{Change}
use Rattle.state_journal.proofs.Beginning.{begins_next, length-generation}
use Rattle.state_journal.proofs.Folds.{folded-push, makes, fold_end}
use Rattle.state_journal.proofs.Found.{appended_reads, in_use_read, on_side_ok, renewed_reads}
use Rattle.cluster_state.proofs.Sizes.{ids_short, length-eight, state_short}
use Rattle.state_journal.proofs.Spelled.{length-body, renewed_is}
use Rattle.state_journal.proofs.Writing.{begun, next_epoch}
use Rattle.replay_node.specs.NodeDisk.{NodeDisk, bytes_read, calls_made}
use Rattle.replay_node.proofs.FilesLeft.{Since, Nothing, MayBe, Leaves, Ends, Rest, state_since, no_calls, pair, pair_here, pair_there, writes}

-- a file of a journal: too short for a body, or laid out
abbrev pub IsReadable : List ℕ → Type 0
IsReadable file = (length file ≤ 9) ⊎ ((bodies : List (List ℕ)) × (gate : ℕ) × IsLaid bodies file gate)

-- an opening of the files finds this record
pub record StandsWith (kept : Kept) (files : Files) : Type 0 where
  pub found : found_of files ≡ Ok kept
  pub zero : IsReadable files.zero
  pub one : IsReadable files.one

abbrev pub StandsWithEither : Kept → Kept → Files → Type 0
StandsWithEither a b files = StandsWith a files ⊎ StandsWith b files

abbrev pub both_settled : Files → Sides FileState
both_settled bytes = record { zero = settled bytes.zero; one = settled bytes.one }

-- the files of a node that runs: all of them is stable, and they are a journal with this record
pub record Runs (files : Sides FileState) (kept : Kept) : Type 0 where
  pub bytes : Files
  pub generations : Generations
  pub side : Side
  pub gate : ℕ
  pub other_gate : ℕ
  pub epoch : ℕ
  pub is : files ≡ both_settled bytes
  pub settled : IsSettledAs generations bytes (λ c. c ≡ bytes) side gate other_gate epoch
  pub found : found_of bytes ≡ Ok kept

-- a change that may be kept next, after which the record may begin a generation
pub record MayKeep (kept : Kept) (change : Change) : Type 0 where
  pub reads : change_at (body_of change) ≡ Ok change
  pub order : in_order kept change ≡ true
  pub short : length (body_of change) ≤ most_body
  pub plain : is_generation (body_of change) ≡ false
  pub begins : MayBegin (changed kept change)

found_as : (files : Files) (g : Generations) (kept : Kept) → generations_of files ≡ Ok g → found_by record_of_bodies g ≡ Ok kept
    → found_of files ≡ Ok kept
found_as files g kept is found = ap found_in is ∙ ap on_its_side found

pub readable_pair : (side : Side) (c d : List ℕ) → IsReadable c → IsReadable d → IsReadable (pair side c d).zero × IsReadable (pair side c d).one
readable_pair Zero c d here there = (here, there)
readable_pair One c d here there = (there, here)

readable_sides : (side : Side) (files : Files) → IsReadable (on side files) → IsReadable (on (other side) files)
    → IsReadable files.zero × IsReadable files.one
readable_sides Zero files here there = (here, there)
readable_sides One files here there = (there, here)

settled_pair : (side : Side) (bytes : Files) → both_settled bytes ≡ pair side (settled (on side bytes)) (settled (on (other side) bytes))
settled_pair Zero bytes = refl
settled_pair One bytes = refl

other_pair : (side : Side) (bytes : Files) → both_settled bytes ≡ pair (other side) (settled (on (other side) bytes)) (settled (on side bytes))
other_pair Zero bytes = refl
other_pair One bytes = refl

pair_settled : (side : Side) (here there : List ℕ) → pair side (settled here) (settled there) ≡ both_settled (pair side here there)
pair_settled Zero here there = refl
pair_settled One here there = refl

-- ---- one body more on a side

-- the file has these bodies, with one more or without it
abbrev IsEitherLaid : List (List ℕ) → List ℕ → List ℕ → Type 0
IsEitherLaid bodies body c = ((gate : ℕ) × IsLaid bodies c gate) ⊎ ((gate : ℕ) × IsLaid (bodies ++ body ∷ []) c gate)

either_counts : (bodies : List (List ℕ)) (body c : List ℕ) → IsEitherLaid bodies body c → IsBeforeOrAfter bodies body c
either_counts bodies body c (inl before) = inl (stands_for bodies c before.0 before.1)
either_counts bodies body c (inr after) = inr (stands_for (bodies ++ body ∷ []) c after.0 after.1)

either_readable : (bodies : List (List ℕ)) (body c : List ℕ) → IsEitherLaid bodies body c → IsReadable c
either_readable bodies body c (inl before) = inr (bodies, before.0, before.1)
either_readable bodies body c (inr after) = inr (bodies ++ body ∷ [], after.0, after.1)

module _ (bodies : List (List ℕ)) (body old : List ℕ) (gate : ℕ) (is : IsLaid bodies old gate) (short : length body ≤ most_body) where
  abbrev frame : List ℕ
  frame = framed body

  abbrev staged : List ℕ
  staged = written old (gate + 1) frame

  abbrev done : List ℕ
  done = written (written old (gate + 1) frame) gate (1 ∷ [])

  framing : IsFrame body frame
  framing = record { short = short; bytes = refl }

  inside_old : gate + 1 ≤ length old
  inside_old = omega (arith, is.inside)

  -- the first write
  first_left : (c : List ℕ) → Torn (gate + 1) (length frame) old c → IsEitherLaid bodies body c
  first_left c torn = inl (gate, torn_behind bodies old c gate (length frame) is torn)

  staged_laid : IsLaid bodies staged gate
  staged_laid = torn_behind bodies old staged gate (length frame) is (torn_written old (gate + 1) frame inside_old)

  behind : part (gate + 1) (length frame) staged ≡ framed body
  behind = part_written old (gate + 1) frame inside_old

  -- and the second
  last_laid : (c : List ℕ) → Torn gate 1 staged c → get_or c gate 0 ≡ 1 → IsLaid (bodies ++ body ∷ []) c (gate + length frame)
  last_laid c torn one = opened bodies body frame staged gate staged_laid framing behind c torn one

  last_left : (c : List ℕ) → Torn gate 1 staged c → IsEitherLaid bodies body c
  last_left c torn = elim (cases_eq (get_or c gate 0) 1) [
    | inl one ↦ inr (gate + length frame, last_laid c torn one)
    | inr closed ↦ inl (gate, still_closed bodies body frame staged gate staged_laid framing behind c torn closed)
  ]

  inside_staged : gate ≤ length staged
  inside_staged = omega (arith, staged_laid.inside)

  done_open : get_or done gate 0 ≡ 1
  done_open =
      ap (λ (l : List ℕ). get_or l gate 0) (append_assoc (take gate staged) (1 ∷ []) (drop (gate + 1) staged))
      ∙ get_or_at (take gate staged) 1 (drop (gate + 1) staged) 0 gate (length-take-le gate staged inside_staged)

  done_laid : IsLaid (bodies ++ body ∷ []) done (gate + length frame)
  done_laid = last_laid done (torn_written staged gate (1 ∷ []) inside_staged) done_open

  adds : (side : Side) (there : Since) (P : Files → Type 0) (D : Sides FileState → Type 0)
      → ((c d : List ℕ) → IsEitherLaid bodies body c → MayBe there d → P (pair side c d))
      → ((files : Sides FileState) → files ≡ pair side (settled done) (state_since there) → D files)
      → Rest P D (append_calls side gate frame) (pair side (settled old) (state_since there))
  adds side there P D left last =
      writes side there P D old (gate + 1) frame inside_old (Write side gate (1 ∷ []) ∷ Sync side ∷ [])
      (λ c d torn may. left c d (first_left c torn) may)
      (writes side there P D staged gate (1 ∷ []) inside_staged [] (λ c d torn may. left c d (last_left c torn) may)
      (λ disk files. no_calls disk D (λ f. Leaves f P) (last disk.files files)))

-- ---- a change

module _ (files : Sides FileState) (kept next : Kept) (runs : Runs files kept) where
  abbrev g : Generations
  g = runs.generations

  abbrev side : Side
  side = runs.side

  -- what is read on the side in use, and on the other
  abbrev used : List ℕ
  used = on runs.side runs.bytes

  abbrev unused : List ℕ
  unused = on (other runs.side) runs.bytes

  abbrev only : Files → Files → Type 0
  only bytes c = c ≡ bytes

  abbrev P : Files → Type 0
  P = StandsWithEither kept next

  abbrev D : Sides FileState → Type 0
  D = λ f. Runs f next

  reads_kept : found_by record_of_bodies g ≡ Ok kept
  reads_kept = on_side_ok _ kept (sym (ap found_in runs.settled.stands) ∙ runs.found)

  in_use_kept : record_of_bodies (in_use g) ≡ Ok kept
  in_use_kept = in_use_read record_of_bodies g.side g.bodies kept reads_kept

  used_readable : IsReadable used
  used_readable = inr (on side g.bodies, runs.gate, runs.settled.here)

  unused_readable : IsReadable unused
  unused_readable = inr (on (other side) g.bodies, runs.other_gate, runs.settled.there)

  -- by what a crash leaves of the generations
  abbrev FindsEither : Files → Type 0
  FindsEither c = (h : Generations) × (generations_of c ≡ Ok h) × ((found_by record_of_bodies h ≡ Ok kept) ⊎ (found_by record_of_bodies h ≡ Ok next))

  stands_by : (c : Files) → IsReadable c.zero × IsReadable c.one → FindsEither c → P c
  stands_by c readable by = elim by.2 [
    | inl old ↦ inl (record { found = found_as c by.0 kept by.1 old; zero = readable.0; one = readable.1 })
    | inr new ↦ inr (record { found = found_as c by.0 next by.1 new; zero = readable.0; one = readable.1 })
  ]

  -- an append
  module _ (body : List ℕ) (plain : is_generation body ≡ false) (short : length body ≤ most_body)
      (with_it : record_of_bodies (in_use g ++ body ∷ []) ≡ Ok next) where
    abbrev longer : List (List ℕ)
    longer = on runs.side runs.generations.bodies ++ body ∷ []

    append_left : (c d : List ℕ) → IsEitherLaid (on side g.bodies) body c → d ≡ unused → P (pair side c d)
    append_left c d laid_out same =
        let now = pair side c d in
        let leaves : LeavesOn side (IsBeforeOrAfter (on side g.bodies) body) runs.bytes now = record {
          here = subst (IsBeforeOrAfter (on side g.bodies) body) (sym (pair_here side c d)) (either_counts (on side g.bodies) body c laid_out);
          there = pair_there side c d ∙ same;
        } in
        let is_appended = append_leaves g runs.bytes (only runs.bytes) side runs.gate runs.other_gate runs.epoch runs.settled body plain now leaves in
        stands_by now (readable_pair side c d (either_readable (on side g.bodies) body c laid_out) (subst IsReadable (sym same) unused_readable))
        (append_finds record_of_bodies g body kept next reads_kept with_it now is_appended)

    append_runs : (new : List ℕ) (gate : ℕ) (f : Sides FileState) → IsLaid longer new gate → f ≡ pair side (settled new) (settled unused) → D f
    append_runs new gate f laid_out same =
        let now = pair side new unused in
        let there : IsLaid longer (on side now) gate = subst (λ (l : List ℕ). IsLaid longer l gate) (sym (pair_here side new unused)) laid_out in
        let settled_now =
        appended_settled g runs.bytes (only runs.bytes) side runs.gate runs.other_gate runs.epoch runs.settled body plain now (only now) gate there
        (pair_there side new unused) (λ c e. e) in
        let active = runs.settled.active in
        let is_new : appended g body ≡ record { bodies = put side longer g.bodies; side = side } =
        λ i. record { bodies = put (active i) (on (active i) g.bodies ++ body ∷ []) g.bodies; side = active i } in
        let reads_next = appended_reads record_of_bodies g body kept next reads_kept with_it in
        record {
          bytes = now;
          generations = record { bodies = put side longer g.bodies; side = side };
          side = side;
          gate = gate;
          other_gate = runs.other_gate;
          epoch = runs.epoch;
          is = same ∙ pair_settled side new unused;
          settled = settled_now;
          found = found_as now _ next settled_now.stands (subst (λ (h : Generations). found_by record_of_bodies h ≡ Ok next) is_new reads_next);
        }

    appends : Rest P D (append_calls side runs.gate (framed body)) (both_settled runs.bytes)
    appends =
        let laid_out = done_laid (on side g.bodies) body used runs.gate runs.settled.here short in
        subst (Rest P D (append_calls side runs.gate (framed body))) (sym (settled_pair side runs.bytes))
        (adds (on side g.bodies) body used runs.gate runs.settled.here short side (Nothing unused) P D append_left
        (λ f same. append_runs _ (runs.gate + length (framed body)) f laid_out same))

  -- a renewal
  module _ (body : List ℕ) (begins_it : Begins runs.epoch body) (short : length body ≤ most_body) (alone : record_of_bodies (body ∷ []) ≡ Ok next) where
    abbrev past : List (List ℕ)
    past = on (other runs.side) runs.generations.bodies

    renewal_left : (c d : List ℕ) → IsReplaced past body c → IsReadable c → d ≡ used → P (pair (other side) c d)
    renewal_left c d left readable same =
        let now = pair (other side) c d in
        let leaves : LeavesOn (other side) (IsReplaced past body) runs.bytes now = record {
          here = subst (IsReplaced past body) (sym (pair_here (other side) c d)) left;
          there = pair_there (other side) c d ∙ same ∙ sym (other_other side runs.bytes);
        } in
        let is_renewed =
        renewal_leaves g runs.bytes (only runs.bytes) side runs.gate runs.other_gate runs.epoch runs.settled body begins_it now leaves in
        stands_by now (readable_pair (other side) c d readable (subst IsReadable (sym same) used_readable))
        (renewal_finds record_of_bodies g body kept next empty_record reads_kept (fold_end 8 false empty_record) alone now is_renewed)

    past_inside : 8 < length unused
    past_inside = room past unused runs.other_gate runs.settled.there

    -- a crash while the first gate is closed
    closing_left : 8 < runs.other_gate → (c d : List ℕ) → Torn 8 1 unused c → d ≡ used → P (pair (other side) c d)
    closing_left some c d torn same =
        let was : get_or unused 8 0 ≡ 1 = first_is_open past unused runs.other_gate runs.settled.there some in
        let inside : 8 < length unused = past_inside in
        elim (cases_eq (get_or c 8 0) 1) [
          | inl one ↦
              let behind : drop 8 c ≡ drop 8 unused =
              drop_more c 8 0 (omega (arith, inside, torn.no_shorter)) ∙ (λ i. (one ∙ sym was) i ∷ torn.after i)
              ∙ sym (drop_more unused 8 0 inside) in
              let unchanged : c ≡ unused = sym (take-append-drop 8 c) ∙ (λ i. torn.before i ++ behind i) ∙ take-append-drop 8 unused in
              renewal_left c d (inl (inl (ap bodies_of unchanged ∙ stands_for past unused runs.other_gate runs.settled.there)))
              (subst IsReadable (sym unchanged) unused_readable) same
          | inr shut ↦
              let none : IsLaid [] c 8 = emptied past unused runs.other_gate runs.settled.there c torn shut in
              renewal_left c d (inl (inr (stands_for [] c 8 none))) (inr ([], 8, none)) same
        ]

    -- and while the body is added after it
    refill_left : (c d : List ℕ) → IsEitherLaid [] body c → d ≡ used → P (pair (other side) c d)
    refill_left c d (inl before) same = renewal_left c d (inl (inr (stands_for [] c before.0 before.1))) (inr ([], before.0, before.1)) same
    refill_left c d (inr after) same = renewal_left c d (inr (stands_for (body ∷ []) c after.0 after.1)) (inr (body ∷ [], after.0, after.1)) same

    renewal_runs : (new : List ℕ) (gate : ℕ) (f : Sides FileState) → IsLaid (body ∷ []) new gate
        → f ≡ pair (other side) (settled new) (settled used) → D f
    renewal_runs new gate f laid_out same =
        let now = pair (other side) new used in
        let here : IsLaid (body ∷ []) (on (other side) now) gate =
        subst (λ (l : List ℕ). IsLaid (body ∷ []) l gate) (sym (pair_here (other side) new used)) laid_out in
        let settled_now =
        renewed_settled g runs.bytes (only runs.bytes) side runs.gate runs.other_gate runs.epoch runs.settled body begins_it now (only now) gate here
        (pair_there (other side) new used ∙ sym (other_other side runs.bytes)) (λ c e. e) in
        let active = runs.settled.active in
        let is_new : renewed g body ≡ after_it g side body =
        λ i. record { bodies = put (other (active i)) (body ∷ []) g.bodies; side = other (active i) } in
        let reads_next = renewed_reads record_of_bodies g body kept next reads_kept alone in
        record {
          bytes = now;
          generations = after_it g side body;
          side = other side;
          gate = gate;
          other_gate = runs.gate;
          epoch = runs.epoch + 1;
          is = same ∙ pair_settled (other side) new used;
          settled = settled_now;
          found = found_as now _ next settled_now.stands (subst (λ (h : Generations). found_by record_of_bodies h ≡ Ok next) is_new reads_next);
        }

    refills : (mid : List ℕ) → IsLaid [] mid 8 → Rest P D (append_calls (other side) 8 (framed body)) (pair (other side) (settled mid) (settled used))
    refills mid none =
        adds [] body mid 8 none short (other side) (Nothing used) P D refill_left
        (λ f same. renewal_runs _ (8 + length (framed body)) f (done_laid [] body mid 8 none short) same)

    abbrev closing : Bool → List DeviceCall
    closing some =
        (if some then Write (other runs.side) 8 (0 ∷ []) ∷ Sync (other runs.side) ∷ [] else []) ++ append_calls (other runs.side) 8 (framed body)

    closes_first : (some : Bool) → nat_lt 8 runs.other_gate ≡ some → Rest P D (closing some) (pair (other side) (settled unused) (settled used))
    closes_first true some =
        let inside : 8 < length unused = past_inside in
        let closed = written unused 8 (0 ∷ []) in
        writes (other side) (Nothing used) P D unused 8 (0 ∷ []) (omega (arith, inside)) (append_calls (other side) 8 (framed body))
        (closing_left (ltb-true 8 runs.other_gate some))
        (refills closed (first_closed past unused closed runs.other_gate runs.settled.there refl))
    closes_first false none = refills unused (laid_nothing past unused runs.other_gate runs.settled.there (ltb-false 8 runs.other_gate none))

    renews_it : Rest P D (renewal_calls (other side) runs.other_gate (framed body)) (both_settled runs.bytes)
    renews_it =
        subst (Rest P D (renewal_calls (other side) runs.other_gate (framed body))) (sym (other_pair side runs.bytes))
        (closes_first (nat_lt 8 runs.other_gate) refl)

  -- where it stands
  abbrev here : Place
  here = record { side = runs.side; gate = runs.gate; other_gate = runs.other_gate; epoch = runs.epoch; tail = tail_of (in_use runs.generations) }

  stands_here : here ≡ place_of (standing_in runs.bytes)
  stands_here =
      let active = sym runs.settled.active in
      let gate : runs.gate ≡ gate_behind (in_use g) =
      gate_is (on side g.bodies) used runs.gate runs.settled.here ∙ ap (λ (s : Side). gate_behind (on s g.bodies)) active in
      let other_gate : runs.other_gate ≡ gate_behind (on (other g.side) g.bodies) =
      gate_is (on (other side) g.bodies) unused runs.other_gate runs.settled.there ∙ ap (λ (s : Side). gate_behind (on (other s) g.bodies)) active in
      let epoch : runs.epoch ≡ unwrap_or (epoch_of g.side (in_use g)) 0 =
      ap (λ (e : Option ℕ). unwrap_or e 0) (sym runs.settled.has_epoch_of) ∙ ap (λ (s : Side). unwrap_or (epoch_of s (on s g.bodies)) 0) active in
      let at_g : here ≡ place_of g =
      λ i. record { side = active i; gate = gate i; other_gate = other_gate i; epoch = epoch i; tail = tail_of (in_use g) } in
      at_g ∙ ap place_of (sym (standing_is g runs.bytes runs.settled.stands))

-- the body that begins the next generation
module _ (p : Place) (next : Kept) (small : p.epoch < 2 ^ 62) (may : MayBegin next) where
  generation_begins : Begins p.epoch (generation_after p next)
  generation_begins =
      subst (Begins p.epoch) (renewed_is (p.epoch + 1) next.term next.accepted next.committed) (begins_next p.epoch next.term (state.spelling next.accepted) next.committed small)

  generation_short : length (generation_after p next) ≤ most_body
  generation_short =
      let prefix = generation_prefix (p.epoch + 1) next.term (state.spelling next.accepted) next.committed in
      omega (
        arith,
        ap length (sym (renewed_is (p.epoch + 1) next.term next.accepted next.committed)),
        length-body prefix,
        length-generation (p.epoch + 1) next.term (state.spelling next.accepted) next.committed,
        state_short next.accepted may.fits,
        ids_short most_ids next.committed may.named,
      )

-- ---- whatever strikes a change, the record is the one before it or the new one

module _ (files : Sides FileState) (kept : Kept) (change : Change) (runs : Runs files kept) (may : MayKeep kept change) where
  abbrev after : Kept
  after = changed kept change

  abbrev EndsWell : List DeviceCall → Type 0
  EndsWell calls = Rest (StandsWithEither kept (changed kept change)) (λ f. Runs f (changed kept change)) calls (both_settled runs.bytes)

  with_it : record_of_bodies (in_use runs.generations ++ body_of change ∷ []) ≡ Ok after
  with_it =
      folded-push (body_of change) kept after (λ at behind. makes at behind kept change may.reads may.order)
      (in_use runs.generations) 8 false empty_record
      (in_use_kept files kept after runs)

  by : (due renewing : Bool) → renews due (here files kept after runs) (body_of change) ≡ renewing
      → EndsWell (writing_calls renewing (here files kept after runs) (body_of change) (generation_after (here files kept after runs) after))
  by due true renewing =
      let p = here files kept after runs in
      let small : runs.epoch < 2 ^ 62 = next_epoch due p (body_of change) renewing in
      renews_it files kept after runs (generation_after p after) (generation_begins p after small may.begins)
      (generation_short p after small may.begins)
      (begun p after small may.begins)
  by due false appending = appends files kept after runs (body_of change) may.plain may.short with_it

  keeps : EndsWell (keeping_calls_in (standing_in runs.bytes) kept change)
  keeps =
      let due = holds_old (in_use (standing_in runs.bytes)) in
      subst (λ (p : Place). EndsWell (keeping_calls due p kept change)) (stands_here files kept after runs)
      (by due (renews due (here files kept after runs) (body_of change)) refl)

pub keep_ends : (disk : NodeDisk) (kept : Kept) (change : Change) → Runs disk.files kept → MayKeep kept change
    → let calls = keeping_calls_in (standing_in (bytes_read disk.files)) kept change in
    Ends (calls_made disk calls) (λ f. Runs f (changed kept change)) (λ f. Leaves f (StandsWithEither kept (changed kept change)))
keep_ends disk kept change runs may =
    let next = changed kept change in
    let D : Files → Type 0 =
    λ read. Ends (calls_made disk (keeping_calls_in (standing_in read) kept change)) (λ f. Runs f next)
    (λ f. Leaves f (StandsWithEither kept next)) in
    subst D (sym (ap bytes_read runs.is)) (keeps disk.files kept change runs may disk runs.is)

pub runs_leaves : (files : Sides FileState) (kept next : Kept) → Runs files kept → Leaves files (StandsWithEither kept next)
runs_leaves files kept next runs = record {
  since = record { zero = Nothing runs.bytes.zero; one = Nothing runs.bytes.one };
  is = runs.is;
  left = λ c zero one.
      let same : runs.bytes ≡ c = λ i. record { zero = sym zero i; one = sym one i } in
      inl (subst (StandsWith kept) same (record { found = runs.found; zero = readable.0; one = readable.1 }));
}
  where
    readable : IsReadable runs.bytes.zero × IsReadable runs.bytes.one
    readable =
        readable_sides runs.side runs.bytes (inr (on runs.side runs.generations.bodies, runs.gate, runs.settled.here))
        (inr (on (other runs.side) runs.generations.bodies, runs.other_gate, runs.settled.there))
