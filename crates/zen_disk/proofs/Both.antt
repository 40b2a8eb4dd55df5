-- One record more on one of two sides.
use Rattle.std.proofs.Common.{◌≡◌, ℕ, List, [], ◌∷◌, ◌++◌, length, reverse, refl, sym, ◌∙◌, ap, subst, inl, inr, arith}
use Rattle.zen_disk.specs.Disk.{Torn}
use Rattle.zen_disk.specs.Moments.{Elapses, Follows}
use Rattle.zen_disk.specs.Sides.{Sides, Files, on, put, OnSide}
use Rattle.zen_disk.specs.declared.side.Side.{Side}
use Rattle.zen_disk.specs.declared.side.Side.TheVariants.{Zero, One}
use Rattle.zen_disk.specs.UndoLog.{before, IsImage}
use Rattle.zen_disk.specs.UndoOrder.{AreImages, WereImages, past_before, files_before}
use Rattle.zen_disk.specs.UndoRecord.{UndoRecord}
use Rattle.std.proofs.lemmas.List.{reverse-append}
use Rattle.zen_disk.specs.DeviceCall.{Write}
use Rattle.zen_disk.specs.FileState.{FileState, after, after_write}

abbrev Past : Type 0
Past = Sides (List UndoRecord)

-- both logs with one record more on a side
abbrev pub past_more : Side → UndoRecord → Past → Past
past_more side call past = put side (call ∷ on side past) past

-- time goes on by the records of this order
abbrev pub ElapsesTo : List Side → Past → Files → List Side → Past → Files → Type 0
ElapsesTo order past read order' past' read' =
    Elapses (length order) (length order') (WereImages order past read) (WereImages order' past' read') (AreImages past' read')

-- a write on a side, by what it does to the images of both
abbrev pub WritesOn : Side → ℕ → ℕ → Past → Files → Past → Files → Type 0
WritesOn side at n past read past' read' = Follows (OnSide side (Torn at n)) (AreImages past read) (AreImages past' read')

-- what stood before the newest record
back : (side : Side) (past : Past) (read : Files) (call : UndoRecord) (g : List ℕ) → before call g ≡ on side read
    → files_before side (past_more side call past) (put side g read) ≡ read
back Zero past read call g is = λ i. record { zero = is i; one = read.one }
back One past read call g is = λ i. record { zero = read.zero; one = is i }

past_back : (side : Side) (past : Past) (call : UndoRecord) → past_before side (past_more side call past) ≡ past
past_back Zero past call = refl
past_back One past call = refl

pub record_elapses : (side : Side) (order : List Side) (past : Past) (read : Files) (call : UndoRecord) (g : List ℕ) → before call g ≡ on side read
    → ElapsesTo order past read (side ∷ order) (past_more side call past) (put side g read)
record_elapses side order past read call g is =
    let earlier = files_before side (past_more side call past) (put side g read) in
    record {
      later = omega arith;
      soon = omega arith;
      nothing_else = λ t c le were. elim were [
        | inl now ↦ inr now
        | inr then ↦ inl (subst (λ (r : Files). WereImages order past r t c) (back side past read call g is)
            (subst (λ (p : Past). WereImages order p earlier t c) (past_back side past call) then.1))
      ];
      keeps = λ t c le was. inr (
        le,
        subst (λ (p : Past). WereImages order p earlier t c) (sym (past_back side past call))
            (subst (λ (r : Files). WereImages order past r t c) (sym (back side past read call g is)) was),
      );
    }

-- a write on one side, by what it does to the images of its file
pub placed_both : (side : Side) (past : Past) (read : Files) (calls : List UndoRecord) (g : List ℕ) (at n : ℕ)
    → Follows (Torn at n) (IsImage (on side past) (on side read)) (IsImage calls g)
    → WritesOn side at n past read (put side calls past) (put side g read)
placed_both Zero past read calls g at n follows c are =
    let from = follows c.zero are.0 in
    (record { zero = from.0; one = c.one }, (from.1, are.1), record { here = from.2; there = refl })
placed_both One past read calls g at n follows c are =
    let from = follows c.one are.1 in
    (record { zero = c.zero; one = from.0 }, (are.0, from.1), record { here = from.2; there = refl })

pub placed_elapses : (side : Side) (order order' : List Side) (past : Past) (read : Files) (calls : List UndoRecord) (call : UndoRecord) (g : List ℕ)
    → order' ≡ side ∷ order → calls ≡ call ∷ on side past → before call g ≡ on side read
    → ElapsesTo order past read order' (put side calls past) (put side g read)
placed_elapses side order order' past read calls call g order_is calls_is is =
    subst (λ (o : List Side). ElapsesTo order past read o (put side calls past) (put side g read)) (sym order_is)
    (subst (λ (l : List UndoRecord). ElapsesTo order past read (side ∷ order) (put side l past) (put side g read)) (sym calls_is)
    (record_elapses side order past read call g is))

pub order_more : (order : List Side) (side given : Side) (order' : List Side) → order' ≡ order ++ given ∷ [] → given ≡ side
    → reverse order' ≡ side ∷ reverse order
order_more order side given order' is same =
    ap reverse is ∙ reverse-append order (given ∷ []) ∙ ap (λ (s : Side). s ∷ reverse order) same

pub moved : (side given : Side) (old : Sides FileState) (at : ℕ) (bytes : List ℕ) (now : FileState) → given ≡ side
    → now ≡ after_write at bytes (on side old) → put side now old ≡ after old (Write given at bytes)
moved side given old at bytes now same is =
    ap (λ (n : FileState). put side n old) is ∙ ap (λ (s : Side). put s (after_write at bytes (on s old)) old) (sym same)

pub placed_given : (side given : Side) (past : Past) (read : Files) (calls : List UndoRecord) (g : List ℕ) (at n : ℕ) → given ≡ side
    → Follows (Torn at n) (IsImage (on side past) (on side read)) (IsImage calls g)
    → WritesOn given at n past read (put side calls past) (put side g read)
placed_given side given past read calls g at n same follows =
    subst (λ (s : Side). WritesOn s at n past read (put side calls past) (put side g read)) (sym same)
    (placed_both side past read calls g at n follows)
