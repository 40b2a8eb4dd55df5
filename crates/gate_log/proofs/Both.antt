-- What stands on both sides while one of them is written.
use Rattle.std.proofs.Common.{◌≡◌, ℕ, ◌+◌, List, [], length, ◌∙◌, ap, subst, inl, inr}
use Rattle.zen_disk.specs.Disk.{Torn, written}
use Rattle.zen_disk.specs.Moments.{Only, LeavesOnly, joins}
use Rattle.zen_disk.specs.Sides.{Files, on, other, OnlyOn}
use Rattle.zen_disk.specs.declared.side.Side.{Side}
use Rattle.zen_disk.specs.declared.side.Side.TheVariants.{Zero, One}
use Rattle.gate_log.specs.Calls.{TornFrom, LeavesOn}
use Rattle.gate_log.specs.Journal.{IsFrame, IsLaid, IsBeforeOrAfter, IsAsBeforeOrNone, IsReplaced}
use Rattle.gate_log.proofs.Added.{first_leaves, last_leaves}

-- files that agree on both sides are the same
pub same_files : (side : Side) (a b : Files) → on side a ≡ on side b → on (other side) a ≡ on (other side) b → a ≡ b
same_files Zero a b here there = λ i. record { zero = here i; one = there i }
same_files One a b here there = λ i. record { zero = there i; one = here i }

-- a crash leaves what is read on each side
pub only_both : (side : Side) (seen : Files) (outcomes : Files → Type 0) → OnlyOn side (on side seen) outcomes
    → OnlyOn (other side) (on (other side) seen) outcomes → Only seen outcomes
only_both side seen outcomes here there c left = same_files side c seen (here c left) (there c left)

pub only_there : (side : Side) (seen : Files) (outcomes : Files → Type 0) → Only seen outcomes → OnlyOn (other side) (on (other side) seen) outcomes
only_there side seen outcomes only c left = ap (on (other side)) (only c left)

-- what a torn write leaves, by what it leaves on its side
pub leaves_on : (side : Side) (seen mid : Files) (outcomes : Files → Type 0) (at n : ℕ) (P : List ℕ → Type 0) → OnlyOn side (on side mid) outcomes
    → OnlyOn (other side) (on (other side) seen) outcomes
    → ((c : List ℕ) → Torn at n (on side mid) c → P c) → (c : Files) → TornFrom outcomes side at n c → LeavesOn side P seen c
leaves_on side seen mid outcomes at n P here there leaves c from = record {
  here = leaves (on side c) (subst (λ (l : List ℕ). Torn at n l (on side c)) (here from.files from.was) from.torn.here);
  there = from.torn.there ∙ there from.files from.was;
}

-- while a body is added by two writes: after its frame its gate
module _ (side : Side) (seen : Files) (outcomes : Files → Type 0) (bodies : List (List ℕ)) (body frame : List ℕ) (gate : ℕ)
    (laid : IsLaid bodies (on side seen) gate) (only : Only seen outcomes) where
  pub frame_leaves : (c : Files) → TornFrom outcomes side (gate + 1) (length frame) c → LeavesOn side (IsBeforeOrAfter bodies body) seen c
  frame_leaves =
      leaves_on side seen seen outcomes (gate + 1) (length frame) (IsBeforeOrAfter bodies body) (λ f left i. on side (only f left i))
      (only_there side seen outcomes only) (λ f torn. first_leaves bodies body (on side seen) f gate (length frame) laid torn)

  pub adding_leaves : {D : Type 0} (moment : D → ℕ) (left_since : D → ℕ → Files → Type 0) (old middle new : D) (mid : Files) (between : Files → Type 0)
      → IsFrame body frame → LeavesOnly moment left_since old middle (TornFrom outcomes side (gate + 1) (length frame))
      → LeavesOnly moment left_since middle new (TornFrom between side gate 1) → OnlyOn side (on side mid) between
      → ((file : List ℕ) → OnlyOn (other side) file outcomes → OnlyOn (other side) file between) → on side mid ≡ written (on side seen) (gate + 1) frame
      → LeavesOnly moment left_since old new (LeavesOn side (IsBeforeOrAfter bodies body) seen)
  adding_leaves moment left_since old middle new mid between framing first then here still done =
      joins moment left_since old middle new _ _ (LeavesOn side (IsBeforeOrAfter bodies body) seen) first then frame_leaves
      (leaves_on side seen mid between gate 1 (IsBeforeOrAfter bodies body) here (still (on (other side) seen) (only_there side seen outcomes only))
      (λ f torn. last_leaves bodies body frame (on side seen) (on side mid) gate laid framing done f torn))

-- while a side is cleared
pub cleared_leaves : (side : Side) (bodies : List (List ℕ)) (body : List ℕ) (seen c : Files) → LeavesOn side (IsAsBeforeOrNone bodies) seen c
    → LeavesOn side (IsReplaced bodies body) seen c
cleared_leaves side bodies body seen c left = record { here = inl left.here; there = left.there }

-- and then gets a body
pub refilled_leaves : (side : Side) (bodies : List (List ℕ)) (body : List ℕ) (seen mid : Files) → on (other side) mid ≡ on (other side) seen
    → (c : Files) → LeavesOn side (IsBeforeOrAfter [] body) mid c → LeavesOn side (IsReplaced bodies body) seen c
refilled_leaves side bodies body seen mid same c left = record {
  here = elim left.here [ inl none ↦ inl (inr none) | inr new ↦ inr new ];
  there = left.there ∙ same;
}
