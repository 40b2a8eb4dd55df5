-- For the contracts inside: what two files in memory may leave after a crash, by the log of each and the order of their records, the newest
-- first.
use Rattle.std.specs.Prelude.{◌⊎◌, ℕ, ◌≤◌, List, [], ◌∷◌, length}
use Rattle.std.proofs.Common.{inl, inr, arith}
use Rattle.zen_disk.specs.Sides.{Sides, Files, on, put}
use Rattle.zen_disk.specs.declared.side.Side.{Side}
use Rattle.zen_disk.specs.UndoLog.{before, IsImage, image-read}
use Rattle.zen_disk.specs.UndoRecord.{UndoRecord}

-- a crash strikes both sides, each as its own log says
abbrev pub AreImages : Sides (List UndoRecord) → Files → Files → Type 0
AreImages past read c = IsImage past.zero read.zero c.zero × IsImage past.one read.one c.one

abbrev pub earlier : List UndoRecord → List UndoRecord
earlier [] = []
earlier (call ∷ past) = past

abbrev pub read_before : List UndoRecord → List ℕ → List ℕ
read_before [] read = read
read_before (call ∷ past) read = before call read

-- both logs without the newest record of one side
abbrev pub past_before : Side → Sides (List UndoRecord) → Sides (List UndoRecord)
past_before side past = put side (earlier (on side past)) past

-- both files as they were before it
abbrev pub files_before : Side → Sides (List UndoRecord) → Files → Files
files_before side past read = put side (read_before (on side past) (on side read)) read

-- A crash after the first t records, or any later one, might have left this.
abbrev pub WereImages : List Side → Sides (List UndoRecord) → Files → ℕ → Files → Type 0
WereImages [] past read t c = AreImages past read c
WereImages (side ∷ order) past read t c =
    AreImages past read c ⊎ ((t ≤ length order) × WereImages order (past_before side past) (files_before side past read) t c)

pub images-read : (past : Sides (List UndoRecord)) (read : Files) → AreImages past read read
images-read past read = (image-read past.zero read.zero, image-read past.one read.one)

pub were-are : (order : List Side) (past : Sides (List UndoRecord)) (read : Files) (t : ℕ) (c : Files) → AreImages past read c
    → WereImages order past read t c
were-are [] past read t c are = are
were-are (side ∷ order) past read t c are = inl are

pub only-last : (order : List Side) (past : Sides (List UndoRecord)) (read : Files) (c : Files)
    → WereImages order past read (length order) c
    → AreImages past read c
only-last [] past read c were = were
only-last (side ∷ order) past read c (inl are) = are
only-last (side ∷ order) past read c (inr were) = absurd (let le : length (side ∷ order) ≤ length order = were.0 in omega arith)
