-- What a crash may leave depends on the state of each file alone, so files in the same state may leave the same.
use Rattle.std.proofs.Common.{◌≡◌, ℕ, ◌+◌, ◌≤◌, max, List, [], ◌∷◌, ◌++◌, length, take, drop, sym, ◌∙◌, ap, subst, inl, inr, arith, append_assoc, length-append, length-drop}
use Rattle.std.proofs.lemmas.Bool.{cases_lt}
use Rattle.std.proofs.lemmas.List.{length-take-le, take_at, drop_at, drop_all}
use Rattle.zen_disk.specs.Disk.{Torn}
use Rattle.zen_disk.specs.FileState.{FileState, stable_of, ranges_of, state_of, left_by, both_left_by, settled}
use Rattle.zen_disk.specs.UndoLog.{before, IsUndo, IsProper, IsImage, image-read}
use Rattle.zen_disk.specs.declared.orders.Way.{Way}
use Rattle.zen_disk.specs.declared.orders.Way.TheVariants.{Lost, Kept, Torn as TornTo}
use Rattle.zen_disk.specs.UndoRecord.{Overwrite, UndoRecord, Overwrote, Synced}
use Rattle.zen_disk.specs.MemDisks.{files_of, past_of, read_of}
use Rattle.zen_disk.specs.Sides.{Sides, Files}
use Rattle.zen_disk.specs.UndoOrder.{AreImages, images-read}
use Rattle.zen_disk.specs.declared.memory.MemDisks.{MemDisks}
use Rattle.replay_node.specs.NodeDisk.{MemFuse, MayLeave}

-- a write tears at most its range
torn_back : (w : Overwrite) (read : List ℕ) → IsUndo w read → Torn w.at w.len (before (Overwrote w) read) read
torn_back w read is =
    let at = w.at in
    let end = w.at + w.len in
    let over = w.replaced in
    let old = before (Overwrote w) read in
    let inside : w.at + w.len ≤ length read = is.inside in
    let prefix : length (take at read) ≡ at = length-take-le at read (omega (arith, inside)) in
    let both : length (take at read ++ over) ≡ at + length over = omega (arith, length-append (take at read) over, prefix) in
    let size : length old ≡ at + length over + length (drop end read) = omega (arith, length-append (take at read ++ over) (drop end read), both) in
    let rest : length (drop end read) + end ≡ length read = omega (arith, length-drop end read, inside) in
    let before_is : take at old ≡ take at read =
    ap (λ (l : List ℕ). take at l) (append_assoc (take at read) over (drop end read)) ∙ take_at (take at read) (over ++ drop end read) at prefix in
    let after_is : drop end read ≡ drop end old = elim (cases_lt (length over) w.len) [
      | inl short ↦
          let all : end ≡ length read = is.tail short in
          drop_all end read (omega (arith, all)) ∙ sym (drop_all end old (omega (arith, all, size, rest, short)))
      | inr whole ↦ sym (drop_at (take at read ++ over) (drop end read) end (omega (arith, both, is.no_more, whole)))
    ] in
    let longest : length read ≤ max (length old) end = elim (cases_lt (length over) w.len) [
      | inl short ↦ omega (arith, is.tail short)
      | inr whole ↦ omega (arith, size, rest)
    ] in
    record { before = sym before_is; after = after_is; no_shorter = omega (arith, size, rest, is.no_more); no_longer = longest }

-- a crash leaves the stable bytes, each range torn, the oldest first
abbrev TornBy : List (ℕ × ℕ) → List ℕ → List ℕ → Type 0
TornBy [] stable c = c ≡ stable
TornBy (range ∷ ranges) stable c = (d : List ℕ) × TornBy ranges stable d × Torn range.0 range.1 d c

image_torn : (past : List UndoRecord) (read c : List ℕ) → IsProper past read → IsImage past read c → TornBy (ranges_of past) (stable_of past read) c
image_torn [] read c proper is = is
image_torn (Overwrote w ∷ past) read c proper (inl now) =
    let old = before (Overwrote w) read in
    (old, image_torn past old old proper.1 (image-read past old), subst (λ (l : List ℕ). Torn w.at w.len old l) (sym now) (torn_back w read proper.0))
image_torn (Overwrote w ∷ past) read c proper (inr was) = (was.0, image_torn past (before (Overwrote w) read) was.0 proper.1 was.1, was.2)
image_torn (Synced ∷ past) read c proper is = is

torn_image : (past : List UndoRecord) (read c : List ℕ) → TornBy (ranges_of past) (stable_of past read) c → IsImage past read c
torn_image [] read c torn = torn
torn_image (Overwrote w ∷ past) read c torn = inr (torn.0, torn_image past (before (Overwrote w) read) torn.0 torn.1, torn.2)
torn_image (Synced ∷ past) read c torn = torn

-- the same of one file, by its log and what is read
module _ (past : List UndoRecord) (read : List ℕ) (new_past : List UndoRecord) (new : List ℕ) (proper : IsProper new_past new) (c : List ℕ) where
  same_state : state_of new_past new ≡ state_of past read → IsImage new_past new c → IsImage past read c
  same_state same is = torn_image past read c (subst (λ (s : FileState). TornBy s.ranges s.stable c) same (image_torn new_past new c proper is))

  -- all is stable, so what is read is all that may be left
  all_stable : (bytes : List ℕ) → state_of new_past new ≡ settled bytes → IsImage past read new → IsImage new_past new c → IsImage past read c
  all_stable bytes stable left is =
      let c_is : c ≡ bytes = subst (λ (s : FileState). TornBy s.ranges s.stable c) stable (image_torn new_past new c proper is) in
      let read_is : new ≡ bytes = ap (λ (s : FileState). s.read) stable in
      subst (IsImage past read) (read_is ∙ sym c_is) left

  file_within : (way : Way) → state_of new_past new ≡ left_by way (state_of past read) → IsImage past read new → IsImage new_past new c
      → IsImage past read c
  file_within Lost left now is = all_stable _ left now is
  file_within Kept left now is = same_state left is
  file_within (TornTo x) left now is = all_stable _ left now is

abbrev pub Images : MemDisks → Files → Type 0
Images disk = AreImages (past_of disk) (read_of disk)

pub crash_within : (way : Way) (old new : MemDisks) (c : Files) → files_of new ≡ both_left_by way (files_of old) → Images old (read_of new)
    → Images new c → Images old c
crash_within way old new c left now are =
    let past = past_of old in
    let read = read_of old in
    let zero : state_of (past_of new).zero (read_of new).zero ≡ left_by way (state_of past.zero read.zero) = ap (λ (s : Sides FileState). s.zero) left in
    let one : state_of (past_of new).one (read_of new).one ≡ left_by way (state_of past.one read.one) = ap (λ (s : Sides FileState). s.one) left in (
      file_within past.zero read.zero (past_of new).zero (read_of new).zero new.zero.proper c.zero way zero now.0 are.0,
      file_within past.one read.one (past_of new).one (read_of new).one new.one.proper c.one way one now.1 are.1,
    )

-- what is read may be left
pub images_within : (f : MemFuse) → MayLeave f (read_of f.disk)
images_within f = images-read (past_of f.disk) (read_of f.disk)
