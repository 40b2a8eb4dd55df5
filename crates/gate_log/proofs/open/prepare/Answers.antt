use Rattle.std.proofs.Common.{refl, ap, ◌∙◌, length, arith, ◌≤◌, true, false}
use Rattle.gate_log.proofs.Opening.{fresh_ran}
use Rattle.zen_disk.specs.Moments.{joins}
use Rattle.zen_disk.specs.Sides.{on}
use Rattle.gate_log.specs.Generations.{StandsAsSome}
use Rattle.gate_log.proofs.Settled.{fresh_stands}
use Rattle.gate_log.proofs.open.prepare.Goals as goal

pub returns-in_default-write_through-clause-any_moment : goal.returns-in_default-write_through-clause-any_moment
returns-in_default-write_through-clause-any_moment g c told =
    let short : length (on c.args.side (g.D.Disks.seen c.args.disk.now)) ≤ 9 = omega (arith, c.in-Ok.ensures.value told, c.if-len-gt9.false) in
    joins g.D.Disks.moment g.D.Disks.left_since c.args.disk.now c.synced_len.new.disk c.write_through.new.disk _ _
    (StandsAsSome (g.D.Disks.may_leave c.args.disk.now)) c.synced_len.ensures.any_moment c.write_through.ensures.any_moment
    (λ f was. (f, was, refl))
    (fresh_stands c.args.side (on c.args.side (g.D.Disks.seen c.args.disk.now)) (g.D.Disks.may_leave c.args.disk.now)
    (g.D.Disks.may_leave c.synced_len.new.disk) short c.synced_len.ensures.within
    (λ f left. c.in-Ok.ensures.durable f left ∙ ap (on c.args.side) c.synced_len.ensures.seen))

pub returns-clause-any_moment : goal.returns-clause-any_moment
returns-clause-any_moment g c told =
    let short : length (on c.args.side (g.D.Disks.seen c.args.disk.now)) ≤ 9 = omega (arith, c.in-Ok.ensures.value told, c.if-len-gt9.false) in
    joins g.D.Disks.moment g.D.Disks.left_since c.args.disk.now c.synced_len.new.disk c.write_through.new.disk _ _
    (StandsAsSome (g.D.Disks.may_leave c.args.disk.now)) c.synced_len.ensures.any_moment c.write_through.ensures.any_moment
    (λ f was. (f, was, refl))
    (fresh_stands c.args.side (on c.args.side (g.D.Disks.seen c.args.disk.now)) (g.D.Disks.may_leave c.args.disk.now)
    (g.D.Disks.may_leave c.synced_len.new.disk) short c.synced_len.ensures.within
    (λ f left. c.in-Ok.ensures.durable f left ∙ ap (on c.args.side) c.synced_len.ensures.seen))

pub returns-in_default-write_through-clause-ran : goal.returns-in_default-write_through-clause-ran
returns-in_default-write_through-clause-ran g c told =
    let short : length (on c.args.side (g.D.Disks.seen c.args.disk.now)) ≤ 9 = omega (arith, c.in-Ok.ensures.value told, c.if-len-gt9.false) in
    fresh_ran g.D.Disks.moves c.args.side
    (on c.args.side (g.D.Disks.seen c.args.disk.now)) c.args.disk.now c.synced_len.new.disk c.write_through.new.disk false short c.in-Ok.ensures.ran
    c.in_default-write_through.ensures.ran

pub returns-clause-ran : goal.returns-clause-ran
returns-clause-ran g c told =
    let short : length (on c.args.side (g.D.Disks.seen c.args.disk.now)) ≤ 9 = omega (arith, c.in-Ok.ensures.value told, c.if-len-gt9.false) in
    fresh_ran g.D.Disks.moves c.args.side
    (on c.args.side (g.D.Disks.seen c.args.disk.now)) c.args.disk.now c.synced_len.new.disk c.write_through.new.disk true short c.in-Ok.ensures.ran
    c.in-Ok-write_through.ensures.ran
