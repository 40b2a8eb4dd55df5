use Rattle.std.proofs.Common.{◌≡◌, ◌∙◌, List, ℕ, ap, sym, subst, refl, Ok, true}
use Rattle.zen_disk.specs.Moments.{LeavesOnly}
use Rattle.zen_disk.specs.Runs.{CallsMade, ran_on}
use Rattle.zen_disk.specs.Sides.{Sides, on}
use Rattle.zen_disk.specs.declared.side.Side.TheVariants.{Zero, One}
use Rattle.gate_log.specs.Calls.{opening_calls}
use Rattle.gate_log.specs.Journal.{bodies_of}
use Rattle.gate_log.specs.Generations.{chosen_by, StandsAsSome}
use Rattle.gate_log.specs.Opened.{lists}
use Rattle.gate_log.specs.Opening.{IsSideFault, SideRan, RanUntil}
use Rattle.gate_log.proofs.BothRead.{both_read, read_stands, read_twin, zero_in_use, one_in_use, prepared_stands, prepared_settled, counts_from}
use Rattle.gate_log.proofs.Opening.{side_zero_ran, side_one_ran, twin_ran, why_is_twin}
use Rattle.gate_log.proofs.Settled.{settled_from, zero_why, one_why, stands_joins, rose_earlier}
use Rattle.gate_log.proofs.log.GateLog.open.Goals as goal

pub returns-in-Err-clause-why : goal.returns-in-Err-clause-why
returns-in-Err-clause-why g c told =
    c.refused.ensures.why (g.D.Disks.seen c.args.disk) (zero_why (g.D.Disks.seen c.args.disk) c.in-Err.error (c.in-Err.ensures.fault told))

pub returns-in-Err-clause-cause : goal.returns-in-Err-clause-cause
returns-in-Err-clause-cause g c = c.refused.ensures.cause (g.D.Disks.faults c.args.disk) c.in-Err.ensures.cause

pub returns-in-Err-open_side-clause-why : goal.returns-in-Err-open_side-clause-why
returns-in-Err-open_side-clause-why g c told =
    let files = g.D.Disks.seen c.args.disk in
    let e = c.in-Err-open_side.error in
    let fault = subst (λ (l : List ℕ). IsSideFault One l e) c.open_side.ensures.elsewhere (c.in-Err-open_side.ensures.fault told) in
    c.refused-in-Err-open_side.ensures.why files
    (one_why files (lists c.in-Ok.scanned.bodies.items) e (c.in-Ok.ensures.bodies told) c.in-Ok.ensures.ordered fault)

pub returns-in-Err-open_side-clause-cause : goal.returns-in-Err-open_side-clause-cause
returns-in-Err-open_side-clause-cause g c =
    c.refused-in-Err-open_side.ensures.cause (g.D.Disks.faults c.args.disk)
    (rose_earlier (g.D.Disks.faults c.args.disk) (g.D.Disks.faults c.open_side.new.disk)
    (g.D.Disks.faults c.open_side-2.new.disk) c.in-Err-open_side.error c.open_side.ensures.later c.in-Err-open_side.ensures.cause)

pub returns-in-Err-open_side-clause-any_moment_err : goal.returns-in-Err-open_side-clause-any_moment_err
returns-in-Err-open_side-clause-any_moment_err g c told =
    subst (λ d. LeavesOnly g.D.Disks.moment g.D.Disks.left_since c.args.disk d (StandsAsSome (g.D.Disks.may_leave c.args.disk)))
    (sym c.refused-in-Err-open_side.ensures.back)
    (stands_joins g.D.Disks.moment g.D.Disks.left_since c.args.disk c.open_side.new.disk c.open_side-2.new.disk (g.D.Disks.may_leave c.args.disk)
    (g.D.Disks.may_leave c.open_side.new.disk)
    (c.open_side.ensures.any_moment told) (c.open_side-2.ensures.any_moment told) (g.met.D.Disks.counts_now c.open_side.new.disk)
    (g.met.D.Disks.only_now c.args.disk))

pub returns-in-Err-chosen-clause-any_moment_err : goal.returns-in-Err-chosen-clause-any_moment_err
returns-in-Err-chosen-clause-any_moment_err g c told =
    stands_joins g.D.Disks.moment g.D.Disks.left_since c.args.disk c.open_side.new.disk c.open_side-2.new.disk (g.D.Disks.may_leave c.args.disk)
    (g.D.Disks.may_leave c.open_side.new.disk)
    (c.open_side.ensures.any_moment told) (c.open_side-2.ensures.any_moment told) (g.met.D.Disks.counts_now c.open_side.new.disk)
    (g.met.D.Disks.only_now c.args.disk)

pub returns-in-Err-chosen-clause-why : goal.returns-in-Err-chosen-clause-why
returns-in-Err-chosen-clause-why g c told =
    let read =
    both_read c.deref.ensures.value c.deref-2.ensures.value c.in-Ok.ensures.ordered c.in-Ok-open_side.ensures.ordered c.epoch_of-zero_epoch.ensures
    c.epoch_of-one_epoch.ensures in
    read_twin read c.in-Err-chosen.why (g.D.Disks.seen c.args.disk) (c.in-Ok.ensures.bodies told)
    (ap bodies_of (sym c.open_side.ensures.elsewhere) ∙ c.in-Ok-open_side.ensures.bodies told) (sym c.chosen.ensures ∙ c.in-Err-chosen.is)

pub invariant_of-result : goal.invariant_of-result
invariant_of-result g c =
    let read =
    both_read c.deref.ensures.value c.deref-2.ensures.value c.in-Ok.ensures.ordered c.in-Ok-open_side.ensures.ordered c.epoch_of-zero_epoch.ensures
    c.epoch_of-one_epoch.ensures in
    let chosen : chosen_by c.epoch_of-zero_epoch.result c.epoch_of-one_epoch.result ≡ Ok Zero = sym c.chosen.ensures ∙ c.in-Ok-chosen.is ∙ ap Ok c.in-Zero.is in
    let mid = g.D.Disks.seen c.open_side.new.disk in
    let new = g.D.Disks.seen c.open_side-2.new.disk in
    let now = g.D.Disks.may_leave c.open_side-2.new.disk in
    let gates : Sides ℕ = record { zero = c.in-Ok.scanned.gate; one = c.in-Ok-open_side.scanned.gate } in
    let has = zero_in_use read c.unwrap_or.result c.unwrap_or.ensures in
    record {
      limit = c.in-Ok.ensures.limit;
      settled = λ told running.
          settled_from _ new now Zero c.in-Ok.scanned.gate c.in-Ok-open_side.scanned.gate c.unwrap_or.result
          (prepared_settled read Zero mid new gates chosen (c.in-Ok.ensures.laid told) (c.in-Ok-open_side.ensures.laid told)
          c.open_side-2.ensures.elsewhere now c.unwrap_or.result has (c.open_side-2.ensures.still (on Zero mid) c.in-Ok.ensures.durable)
          c.in-Ok-open_side.ensures.durable);
      counted = λ told running.
          counts_from _ new _
          (prepared_stands read Zero mid new gates chosen (c.in-Ok.ensures.laid told) (c.in-Ok-open_side.ensures.laid told) c.open_side-2.ensures.elsewhere)
          refl c.deref-in-Zero.ensures.value (c.in-Ok.ensures.laid told) c.in-Ok.ensures.limit c.start_of.ensures;
    }

pub returns-in-Zero-clause-bodies : goal.returns-in-Zero-clause-bodies
returns-in-Zero-clause-bodies g c told =
    let read =
    both_read c.deref.ensures.value c.deref-2.ensures.value c.in-Ok.ensures.ordered c.in-Ok-open_side.ensures.ordered c.epoch_of-zero_epoch.ensures
    c.epoch_of-one_epoch.ensures in
    read_stands read Zero (g.D.Disks.seen c.args.disk) (c.in-Ok.ensures.bodies told)
    (ap bodies_of (sym c.open_side.ensures.elsewhere) ∙ c.in-Ok-open_side.ensures.bodies told) (sym c.chosen.ensures ∙ c.in-Ok-chosen.is ∙ ap Ok c.in-Zero.is)

pub returns-in-Zero-clause-keeps : goal.returns-in-Zero-clause-keeps
returns-in-Zero-clause-keeps g c told =
    let read =
    both_read c.deref.ensures.value c.deref-2.ensures.value c.in-Ok.ensures.ordered c.in-Ok-open_side.ensures.ordered c.epoch_of-zero_epoch.ensures
    c.epoch_of-one_epoch.ensures in
    let gates : Sides ℕ = record { zero = c.in-Ok.scanned.gate; one = c.in-Ok-open_side.scanned.gate } in
    prepared_stands read Zero (g.D.Disks.seen c.open_side.new.disk) (g.D.Disks.seen c.open_side-2.new.disk) gates
    (sym c.chosen.ensures ∙ c.in-Ok-chosen.is ∙ ap Ok c.in-Zero.is) (c.in-Ok.ensures.laid told) (c.in-Ok-open_side.ensures.laid told)
    c.open_side-2.ensures.elsewhere

pub returns-in-Zero-clause-any_moment : goal.returns-in-Zero-clause-any_moment
returns-in-Zero-clause-any_moment g c told =
    stands_joins g.D.Disks.moment g.D.Disks.left_since c.args.disk c.open_side.new.disk c.open_side-2.new.disk (g.D.Disks.may_leave c.args.disk)
    (g.D.Disks.may_leave c.open_side.new.disk)
    (c.open_side.ensures.any_moment told) (c.open_side-2.ensures.any_moment told) (g.met.D.Disks.counts_now c.open_side.new.disk)
    (g.met.D.Disks.only_now c.args.disk)

pub returns-in-Zero-clause-ran : goal.returns-in-Zero-clause-ran
returns-in-Zero-clause-ran g c told =
    let files = g.D.Disks.seen c.args.disk in
    ran_on g.D.Disks.moves (opening_calls Zero files.zero) (opening_calls One files.one) c.args.disk c.open_side.new.disk c.open_side-2.new.disk true
    (c.in-Ok.ensures.ran told)
    (subst (λ (l : List ℕ). CallsMade g.D.Disks.moves (opening_calls One l) c.open_side.new.disk c.open_side-2.new.disk true) c.open_side.ensures.elsewhere
    (c.in-Ok-open_side.ensures.ran told))

pub invariant_of-result-in-One : goal.invariant_of-result-in-One
invariant_of-result-in-One g c =
    let read =
    both_read c.deref.ensures.value c.deref-2.ensures.value c.in-Ok.ensures.ordered c.in-Ok-open_side.ensures.ordered c.epoch_of-zero_epoch.ensures
    c.epoch_of-one_epoch.ensures in
    let chosen : chosen_by c.epoch_of-zero_epoch.result c.epoch_of-one_epoch.result ≡ Ok One = sym c.chosen.ensures ∙ c.in-Ok-chosen.is ∙ ap Ok c.in-One.is in
    let mid = g.D.Disks.seen c.open_side.new.disk in
    let new = g.D.Disks.seen c.open_side-2.new.disk in
    let now = g.D.Disks.may_leave c.open_side-2.new.disk in
    let gates : Sides ℕ = record { zero = c.in-Ok.scanned.gate; one = c.in-Ok-open_side.scanned.gate } in
    let has = one_in_use read c.unwrap_or-in-One.result c.unwrap_or-in-One.ensures chosen in
    record {
      limit = c.in-Ok-open_side.ensures.limit;
      settled = λ told running.
          settled_from _ new now One c.in-Ok-open_side.scanned.gate c.in-Ok.scanned.gate c.unwrap_or-in-One.result
          (prepared_settled read One mid new gates chosen (c.in-Ok.ensures.laid told) (c.in-Ok-open_side.ensures.laid told)
          c.open_side-2.ensures.elsewhere now c.unwrap_or-in-One.result has (c.open_side-2.ensures.still (on Zero mid) c.in-Ok.ensures.durable)
          c.in-Ok-open_side.ensures.durable);
      counted = λ told running.
          counts_from _ new _
          (prepared_stands read One mid new gates chosen (c.in-Ok.ensures.laid told) (c.in-Ok-open_side.ensures.laid told) c.open_side-2.ensures.elsewhere)
          refl c.deref-in-One.ensures.value (c.in-Ok-open_side.ensures.laid told) c.in-Ok-open_side.ensures.limit c.start_of-in-One.ensures;
    }

pub returns-in-One-clause-bodies : goal.returns-in-One-clause-bodies
returns-in-One-clause-bodies g c told =
    let read =
    both_read c.deref.ensures.value c.deref-2.ensures.value c.in-Ok.ensures.ordered c.in-Ok-open_side.ensures.ordered c.epoch_of-zero_epoch.ensures
    c.epoch_of-one_epoch.ensures in
    read_stands read One (g.D.Disks.seen c.args.disk) (c.in-Ok.ensures.bodies told)
    (ap bodies_of (sym c.open_side.ensures.elsewhere) ∙ c.in-Ok-open_side.ensures.bodies told) (sym c.chosen.ensures ∙ c.in-Ok-chosen.is ∙ ap Ok c.in-One.is)

pub returns-in-One-clause-keeps : goal.returns-in-One-clause-keeps
returns-in-One-clause-keeps g c told =
    let read =
    both_read c.deref.ensures.value c.deref-2.ensures.value c.in-Ok.ensures.ordered c.in-Ok-open_side.ensures.ordered c.epoch_of-zero_epoch.ensures
    c.epoch_of-one_epoch.ensures in
    let gates : Sides ℕ = record { zero = c.in-Ok.scanned.gate; one = c.in-Ok-open_side.scanned.gate } in
    prepared_stands read One (g.D.Disks.seen c.open_side.new.disk) (g.D.Disks.seen c.open_side-2.new.disk) gates
    (sym c.chosen.ensures ∙ c.in-Ok-chosen.is ∙ ap Ok c.in-One.is) (c.in-Ok.ensures.laid told) (c.in-Ok-open_side.ensures.laid told)
    c.open_side-2.ensures.elsewhere

pub returns-in-One-clause-any_moment : goal.returns-in-One-clause-any_moment
returns-in-One-clause-any_moment g c told =
    stands_joins g.D.Disks.moment g.D.Disks.left_since c.args.disk c.open_side.new.disk c.open_side-2.new.disk (g.D.Disks.may_leave c.args.disk)
    (g.D.Disks.may_leave c.open_side.new.disk)
    (c.open_side.ensures.any_moment told) (c.open_side-2.ensures.any_moment told) (g.met.D.Disks.counts_now c.open_side.new.disk)
    (g.met.D.Disks.only_now c.args.disk)

pub returns-in-One-clause-ran : goal.returns-in-One-clause-ran
returns-in-One-clause-ran g c told =
    let files = g.D.Disks.seen c.args.disk in
    ran_on g.D.Disks.moves (opening_calls Zero files.zero) (opening_calls One files.one) c.args.disk c.open_side.new.disk c.open_side-2.new.disk true
    (c.in-Ok.ensures.ran told)
    (subst (λ (l : List ℕ). CallsMade g.D.Disks.moves (opening_calls One l) c.open_side.new.disk c.open_side-2.new.disk true) c.open_side.ensures.elsewhere
    (c.in-Ok-open_side.ensures.ran told))

pub returns-in-Err-clause-ran_err : goal.returns-in-Err-clause-ran_err
returns-in-Err-clause-ran_err g c told =
    let files = g.D.Disks.seen c.args.disk in
    subst (λ e. RanUntil g.D.Disks.moves files c.args.disk e) (sym c.refused.ensures.is)
    (side_zero_ran g.D.Disks.moves files c.args.disk c.open_side.new.disk c.in-Err.error (c.in-Err.ensures.ran_err told))

pub returns-in-Err-open_side-clause-ran_err : goal.returns-in-Err-open_side-clause-ran_err
returns-in-Err-open_side-clause-ran_err g c told =
    let files = g.D.Disks.seen c.args.disk in
    let e = c.in-Err-open_side.error in
    let ran =
    subst (λ (l : List ℕ). SideRan g.D.Disks.moves One l c.open_side.new.disk c.open_side-2.new.disk e) c.open_side.ensures.elsewhere
    (c.in-Err-open_side.ensures.ran_err told) in
    subst (λ r. RanUntil g.D.Disks.moves files c.args.disk r) (sym c.refused-in-Err-open_side.ensures.is)
    (side_one_ran g.D.Disks.moves files c.args.disk c.open_side.new.disk c.open_side-2.new.disk e (c.in-Ok.ensures.ran told) ran)

pub returns-in-Err-chosen-clause-ran_err : goal.returns-in-Err-chosen-clause-ran_err
returns-in-Err-chosen-clause-ran_err g c told =
    let files = g.D.Disks.seen c.args.disk in
    let ran =
    ran_on g.D.Disks.moves (opening_calls Zero files.zero) (opening_calls One files.one) c.args.disk c.open_side.new.disk c.open_side-2.new.disk true
    (c.in-Ok.ensures.ran told)
    (subst (λ (l : List ℕ). CallsMade g.D.Disks.moves (opening_calls One l) c.open_side.new.disk c.open_side-2.new.disk true) c.open_side.ensures.elsewhere
    (c.in-Ok-open_side.ensures.ran told)) in
    twin_ran g.D.Disks.moves files c.args.disk c.open_side-2.new.disk c.in-Err-chosen.why ran
    (why_is_twin c.epoch_of-zero_epoch.result c.epoch_of-one_epoch.result c.in-Err-chosen.why (sym c.chosen.ensures ∙ c.in-Err-chosen.is))
