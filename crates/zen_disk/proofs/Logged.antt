-- What a log holds, by its fields.
use Rattle.std.proofs.Common.{◌≡◌, ℕ, List, [], ◌∷◌, ◌++◌, length, reverse, take, drop, ◌∙◌, ap}
use Rattle.std.proofs.lemmas.List.{reverse-append}
use Rattle.std.proofs.Math.Seq.{drop-append_seam, take-append_seam}
use Rattle.zen_disk.specs.UndoLog.{then_syncs, overwrite_by, past_by}
use Rattle.zen_disk.specs.UndoRecord.{Overwrote}
use Rattle.zen_disk.specs.declared.undo_log.LoggedWrite.{LoggedWrite}

-- a write more, over bytes that stand after those of the writes before
pub write_more : (writes : List LoggedWrite) (bytes more : List ℕ) (w : LoggedWrite) → w.start ≡ length bytes
    → past_by (reverse (writes ++ w ∷ [])) (bytes ++ more) ≡ Overwrote (overwrite_by w more) ∷ then_syncs w.syncs (past_by (reverse writes) bytes)
write_more writes bytes more w start =
    ap (λ (l : List LoggedWrite). past_by l (bytes ++ more)) (reverse-append writes (w ∷ []))
    ∙ (λ i. Overwrote (overwrite_by w (over i)) ∷ then_syncs w.syncs (past_by (reverse writes) (before i)))
  where
    over : drop w.start (bytes ++ more) ≡ more
    over = ap (λ (n : ℕ). drop n (bytes ++ more)) start ∙ drop-append_seam bytes more

    before : take w.start (bytes ++ more) ≡ bytes
    before = ap (λ (n : ℕ). take n (bytes ++ more)) start ∙ take-append_seam bytes more
