-- What an opening has read of both sides.
use Rattle.std.proofs.Common.{◌≡◌, ℕ, ◌+◌, ◌<◌, ◌^◌, List, length, sym, ◌∙◌, ap, subst, arith, Ok, Option, Some, None, Err}
use Rattle.std.specs.Prelude.{Result, Vec}
use Rattle.std.specs.Option.{unwrap_or}
use Rattle.std.specs.declared.alloc.Global.{Global}
use Rattle.zen_disk.specs.Sides.{Sides, Files, on, other, OnlyOn}
use Rattle.zen_disk.specs.declared.side.Side.{Side}
use Rattle.zen_disk.specs.declared.side.Side.TheVariants.{Zero, One}
use Rattle.gate_log.specs.declared.why.Why.{Why}
use Rattle.gate_log.specs.Opened.{lists, generations_in}
use Rattle.gate_log.specs.Journal.{laid, bodies_of, IsLaid}
use Rattle.gate_log.specs.Generations.{Generations, disorder, epoch_of, chosen_by, chosen_of, generations_of, in_use, standing_in, tail_of, IsSettledAs}
use Rattle.gate_log.proofs.Both.{only_both}
use Rattle.gate_log.proofs.Laid.{gate_is, stands_for}
use Rattle.gate_log.proofs.Settled.{generations_by, standing_is, opened_settled, zero_has, one_has, twin_why, epoch_read}

-- the bodies of both sides are in order, and these are their epochs
pub record BothRead (zero one : List (Vec ℕ Global)) (zero_epoch one_epoch : Option ℕ) : Type 0 where
  pub zero_ordered : disorder Zero (lists zero) ≡ None
  pub one_ordered : disorder One (lists one) ≡ None
  pub zero_is : epoch_of Zero (lists zero) ≡ zero_epoch
  pub one_is : epoch_of One (lists one) ≡ one_epoch

-- from what the calls say that read them
pub both_read : {zero one zero_now one_now : List (Vec ℕ Global)} {zero_epoch one_epoch : Option ℕ} → zero_now ≡ zero → one_now ≡ one
    → disorder Zero (lists zero) ≡ None → disorder One (lists one) ≡ None
    → (disorder Zero (lists zero_now) ≡ None → zero_epoch ≡ epoch_of Zero (lists zero_now))
    → (disorder One (lists one_now) ≡ None → one_epoch ≡ epoch_of One (lists one_now)) → BothRead zero one zero_epoch one_epoch
both_read {zero} {one} {zero_now} {one_now} {zero_epoch} {one_epoch} zero_same one_same zero_ordered one_ordered zero_has one_has = record {
  zero_ordered = zero_ordered;
  one_ordered = one_ordered;
  zero_is = epoch_read Zero zero_now zero zero_epoch zero_same zero_ordered zero_has;
  one_is = epoch_read One one_now one one_epoch one_same one_ordered one_has;
}

module _ {zero one : List (Vec ℕ Global)} {zero_epoch one_epoch : Option ℕ} (read : BothRead zero one zero_epoch one_epoch) where
  abbrev sides : Sides (List (List ℕ))
  sides = record { zero = lists zero; one = lists one }

  chosen_as : (chosen : Result Side Why) → chosen_by zero_epoch one_epoch ≡ chosen → chosen_of sides ≡ chosen
  chosen_as chosen is = (λ i. chosen_by (read.zero_is i) (read.one_is i)) ∙ is

  pub read_stands : (side : Side) (files : Files) → bodies_of files.zero ≡ Ok (lists zero) → bodies_of files.one ≡ Ok (lists one)
      → chosen_by zero_epoch one_epoch ≡ Ok side → generations_of files ≡ Ok (generations_in side zero one)
  read_stands side files zero_stands one_stands is =
      generations_by Zero side sides files zero_stands one_stands read.zero_ordered read.one_ordered (chosen_as (Ok side) is)

  pub read_twin : (why : Why) (files : Files) → bodies_of files.zero ≡ Ok (lists zero) → bodies_of files.one ≡ Ok (lists one)
      → chosen_by zero_epoch one_epoch ≡ Err why → generations_of files ≡ Err why
  read_twin why files zero_stands one_stands is =
      twin_why files sides why zero_stands one_stands read.zero_ordered read.one_ordered (chosen_as (Err why) is)

  -- the epoch of the side in use
  pub zero_in_use : (epoch : ℕ) → epoch ≡ unwrap_or zero_epoch 0 → epoch_of Zero (lists zero) ≡ Some epoch
  zero_in_use epoch is = zero_has (lists zero) ∙ ap (λ (e : Option ℕ). Some (unwrap_or e 0)) read.zero_is ∙ ap (λ (n : ℕ). Some n) (sym is)

  pub one_in_use : (epoch : ℕ) → epoch ≡ unwrap_or one_epoch 0 → chosen_by zero_epoch one_epoch ≡ Ok One → epoch_of One (lists one) ≡ Some epoch
  one_in_use epoch is chosen = read.one_is ∙ one_has zero_epoch one_epoch chosen ∙ ap (λ (n : ℕ). Some n) (sym is)

  -- once both sides are prepared, side one last
  module _ (side : Side) (mid new : Files) (gates : Sides ℕ) (is : chosen_by zero_epoch one_epoch ≡ Ok side)
      (zero_laid : IsLaid (lists zero) mid.zero gates.zero) (one_laid : IsLaid (lists one) new.one gates.one) (same : new.zero ≡ mid.zero) where
    pub prepared_stands : generations_of new ≡ Ok (generations_in side zero one)
    prepared_stands =
        read_stands side new (ap bodies_of same ∙ stands_for (lists zero) mid.zero gates.zero zero_laid)
        (stands_for (lists one) new.one gates.one one_laid) is

    pub prepared_settled : (now : Files → Type 0) (epoch : ℕ) → epoch_of side (on side sides) ≡ Some epoch → OnlyOn Zero mid.zero now
        → OnlyOn One new.one now → IsSettledAs (generations_in side zero one) new now side (on side gates) (on (other side) gates) epoch
    prepared_settled now epoch has zero_only one_only =
        opened_settled side sides new now gates epoch (subst (λ (l : List ℕ). IsLaid (lists zero) l gates.zero) (sym same) zero_laid) one_laid
        read.zero_ordered read.one_ordered (chosen_as (Ok side) is) has (only_both One new now one_only (λ f left. zero_only f left ∙ sym same))

-- the offset from which the tail counts
pub counts_from : {vs ws : List (Vec ℕ Global)} {file : List ℕ} {gate : ℕ} (g : Generations) (files : Files) (start : ℕ) → generations_of files ≡ Ok g
    → in_use g ≡ lists ws → vs ≡ ws → IsLaid (lists ws) file gate → gate < 2 ^ 63
    → (8 + length (laid (lists vs)) < 2 ^ 63 → start + tail_of (lists vs) ≡ 8 + length (laid (lists vs)))
    → start + tail_of (in_use (standing_in files)) ≡ gate
counts_from {vs} {ws} {file} {gate} g files start stands used same is low counts =
    let bodies : lists vs ≡ lists ws = ap lists same in
    let size : length (laid (lists vs)) ≡ length (laid (lists ws)) = ap (λ (l : List (List ℕ)). length (laid l)) bodies in
    let at = gate_is (lists ws) file gate is in
    let now : in_use (standing_in files) ≡ lists ws = ap in_use (standing_is g files stands) ∙ used in
    omega (arith, at, size, ap tail_of now, ap tail_of bodies, counts (omega (arith, at, size, low)))
