use Rattle.std.proofs.Common.{◌∙◌, [], ◌∷◌, List, refl, sym, subst, arith, true, false}
use Rattle.std.specs.Prelude.{nat_lt}
use Rattle.std.proofs.lemmas.Bool.{lt-ltb, le-ltb, cond-true, cond-false}
use Rattle.zen_disk.specs.DeviceCall.{DeviceCall, Write, Sync}
use Rattle.zen_disk.specs.Runs.{CallsMade}
use Rattle.zen_disk.specs.Sides.{on, other}
use Rattle.gate_log.proofs.Added.{laid_nothing, room}
use Rattle.gate_log.proofs.Both.{only_both, only_there}
use Rattle.gate_log.proofs.renew.clear.Goals as goal

pub close_first-requires : goal.close_first-requires
close_first-requires g c =
    record { within = λ told. room (c.requires.laid told).0 (on c.args.side (g.D.Disks.seen c.args.disk.now)) c.args.gate (c.requires.laid told).1 }

pub returns-then-gate-le8-clause-emptied : goal.returns-then-gate-le8-clause-emptied
returns-then-gate-le8-clause-emptied g c told =
    laid_nothing (c.requires.laid told).0 (on c.args.side (g.D.Disks.seen c.args.disk.now)) c.args.gate (c.requires.laid told).1
    (omega (arith, c.if-gate-le8.true))

pub returns-then-gate-le8-clause-ran : goal.returns-then-gate-le8-clause-ran
returns-then-gate-le8-clause-ran g c =
    let side = c.args.side in
    subst (λ (calls : List DeviceCall). CallsMade g.D.Disks.moves calls c.args.disk.now c.args.disk.now true)
    (sym (cond-false (nat_lt 8 c.args.gate) (Write side 8 (0 ∷ []) ∷ Sync side ∷ []) [] (le-ltb 8 c.args.gate (omega (arith, c.if-gate-le8.true)))))
    (refl, refl)

pub returns-clause-emptied : goal.returns-clause-emptied
returns-clause-emptied g c told = c.in-Ok.ensures.emptied told (c.requires.laid told).0 c.args.gate (c.requires.laid told).1

pub returns-clause-durable : goal.returns-clause-durable
returns-clause-durable g c only =
    let side = c.args.side in
    let seen = g.D.Disks.seen c.args.disk.now in
    only_both side (g.D.Disks.seen c.close_first.new.disk) (g.D.Disks.may_leave c.close_first.new.disk) c.in-Ok.ensures.durable
    (λ f left. c.close_first.ensures.still (on (other side) seen) (only_there side seen (g.D.Disks.may_leave c.args.disk.now) only) f left
    ∙ sym c.close_first.ensures.elsewhere)

pub returns-in_default-clause-any_moment : goal.returns-in_default-clause-any_moment
returns-in_default-clause-any_moment g c told bodies laid only =
    c.close_first.ensures.any_moment told bodies c.args.gate (omega (arith, c.if-gate-le8.false)) laid only

pub returns-clause-any_moment : goal.returns-clause-any_moment
returns-clause-any_moment g c told bodies laid only =
    c.close_first.ensures.any_moment told bodies c.args.gate (omega (arith, c.if-gate-le8.false)) laid only

pub returns-in_default-clause-ran : goal.returns-in_default-clause-ran
returns-in_default-clause-ran g c =
    let side = c.args.side in
    subst (λ (calls : List DeviceCall). CallsMade g.D.Disks.moves calls c.args.disk.now c.close_first.new.disk false)
    (sym (cond-true (nat_lt 8 c.args.gate) (Write side 8 (0 ∷ []) ∷ Sync side ∷ []) [] (lt-ltb 8 c.args.gate (omega (arith, c.if-gate-le8.false)))))
    c.in_default.ensures.ran

pub returns-clause-ran : goal.returns-clause-ran
returns-clause-ran g c =
    let side = c.args.side in
    subst (λ (calls : List DeviceCall). CallsMade g.D.Disks.moves calls c.args.disk.now c.close_first.new.disk true)
    (sym (cond-true (nat_lt 8 c.args.gate) (Write side 8 (0 ∷ []) ∷ Sync side ∷ []) [] (lt-ltb 8 c.args.gate (omega (arith, c.if-gate-le8.false)))))
    c.in-Ok.ensures.ran
