use Rattle.std.proofs.Common.{◌≡◌, ◌∙◌, ◌<◌, ◌++◌, ◌∷◌, [], List, ℕ, ap, refl, sym, subst, length, arith, Ok, true}
use Rattle.std.proofs.lemmas.Result.{IfOk-weaker, IfErr-weaker}
use Rattle.zen_disk.specs.DeviceCall.{Read}
use Rattle.zen_disk.specs.Moments.{leaves_also}
use Rattle.zen_disk.specs.Sides.{on}
use Rattle.gate_log.specs.Generations.{StandsAsSome}
use Rattle.gate_log.specs.Journal.{header, IsLaid}
use Rattle.gate_log.specs.Opened.{lists}
use Rattle.gate_log.proofs.Laid.{brief, fresh_laid, stands_for}
use Rattle.gate_log.proofs.Opening.{read_ran, refused_ran, unread_ran, unread_is_no_fault}
use Rattle.gate_log.proofs.Settled.{stands_joins}
use Rattle.gate_log.proofs.open.open_side.Goals as goal

pub returns-then-len-le9-clause-bodies : goal.returns-then-len-le9-clause-bodies
returns-then-len-le9-clause-bodies g c told =
    brief (on c.args.side (g.D.Disks.seen c.args.disk.now)) (c.in-Ok.ensures.none told c.if-len-le9.true)
    ∙ ap (λ vs. Ok (lists vs)) (sym c.new.ensures.items)

pub returns-then-len-le9-clause-laid : goal.returns-then-len-le9-clause-laid
returns-then-len-le9-clause-laid g c told =
    let side = c.args.side in
    let fresh : on side (g.D.Disks.seen c.prepare.new.disk) ≡ header ++ 0 ∷ [] =
    c.in-Ok.ensures.fresh told (c.in-Ok.ensures.none told c.if-len-le9.true) in
    subst (λ (vs : List _). IsLaid (lists vs) (on side (g.D.Disks.seen c.prepare.new.disk)) 8) (sym c.new.ensures.items)
    (subst (λ (l : List ℕ). IsLaid [] l 8) (sym fresh) fresh_laid)

pub returns-in-Err-clause-fault : goal.returns-in-Err-clause-fault
returns-in-Err-clause-fault g c told =
    unread_is_no_fault g.D.Disks.moves c.args.side (on c.args.side (g.D.Disks.seen c.args.disk.now)) c.prepare.new.disk c.read_all.new.disk c.in-Ok.len
    c.in-Err.error c.in-Err.ensures.unread

pub returns-in-Err-clause-still : goal.returns-in-Err-clause-still
returns-in-Err-clause-still g c file only f left = c.prepare.ensures.still file only f (c.read_all.ensures.crash f left)

pub returns-in-Err-clause-any_moment : goal.returns-in-Err-clause-any_moment
returns-in-Err-clause-any_moment g c told =
    let before = g.D.Disks.may_leave c.args.disk.now in
    let between = g.D.Disks.may_leave c.prepare.new.disk in
    stands_joins g.D.Disks.moment g.D.Disks.left_since c.args.disk.now c.prepare.new.disk c.read_all.new.disk before between
    (c.prepare.ensures.any_moment told)
    (leaves_also g.D.Disks.moment g.D.Disks.left_since c.prepare.new.disk c.read_all.new.disk between (StandsAsSome between) c.read_all.ensures.any_moment
    (λ f was. (f, was, refl))) (g.met.D.Disks.counts_now c.prepare.new.disk) (g.met.D.Disks.only_now c.args.disk.now)

pub returns-in-Err-clause-ran_err : goal.returns-in-Err-clause-ran_err
returns-in-Err-clause-ran_err g c told =
    let side = c.args.side in
    let file = on side (g.D.Disks.seen c.args.disk.now) in
    let long : 9 < length file = c.in-Ok.ensures.which told (omega (arith, c.if-len-le9.false)) in
    let size : c.in-Ok.len ≡ length file = c.in-Ok.ensures.length told ∙ ap length (c.in-Ok.ensures.same told long) in
    unread_ran g.D.Disks.moves side file c.args.disk.now c.prepare.new.disk c.read_all.new.disk c.in-Ok.len c.in-Err.error long size
    (c.in-Ok.ensures.ran told) c.in-Err.ensures.unread

pub returns-clause-bodies : goal.returns-clause-bodies
returns-clause-bodies g c told =
    let file = on c.args.side (g.D.Disks.seen c.args.disk.now) in
    let same : c.deref.result.now ≡ file =
    c.deref.ensures.value ∙ c.in-Ok-read_all.ensures.bytes told
    ∙ c.in-Ok.ensures.same told (c.in-Ok.ensures.which told (omega (arith, c.if-len-le9.false))) in
    IfOk-weaker c.scan_side.result _ _
    (λ s laid. stands_for (lists s.bodies.items) file s.gate (subst (λ (l : List ℕ). IsLaid (lists s.bodies.items) l s.gate) same laid))
    c.scan_side.ensures.ok

pub returns-clause-still : goal.returns-clause-still
returns-clause-still g c file only f left = c.prepare.ensures.still file only f (c.read_all.ensures.crash f left)

pub returns-clause-any_moment : goal.returns-clause-any_moment
returns-clause-any_moment g c told =
    let before = g.D.Disks.may_leave c.args.disk.now in
    let between = g.D.Disks.may_leave c.prepare.new.disk in
    stands_joins g.D.Disks.moment g.D.Disks.left_since c.args.disk.now c.prepare.new.disk c.read_all.new.disk before between
    (c.prepare.ensures.any_moment told)
    (leaves_also g.D.Disks.moment g.D.Disks.left_since c.prepare.new.disk c.read_all.new.disk between (StandsAsSome between) c.read_all.ensures.any_moment
    (λ f was. (f, was, refl))) (g.met.D.Disks.counts_now c.prepare.new.disk) (g.met.D.Disks.only_now c.args.disk.now)

pub returns-clause-ran : goal.returns-clause-ran
returns-clause-ran g c told =
    let side = c.args.side in
    let file = on side (g.D.Disks.seen c.args.disk.now) in
    let long : 9 < length file = c.in-Ok.ensures.which told (omega (arith, c.if-len-le9.false)) in
    let size : c.in-Ok.len ≡ length file = c.in-Ok.ensures.length told ∙ ap length (c.in-Ok.ensures.same told long) in
    IfOk-weaker c.scan_side.result _ _
    (λ s laid. read_ran g.D.Disks.moves side file c.args.disk.now c.prepare.new.disk c.read_all.new.disk true long (c.in-Ok.ensures.ran told)
    (subst (λ (n : ℕ). g.D.Disks.moves c.prepare.new.disk (Read side 0 n) c.read_all.new.disk true) size c.in-Ok-read_all.ensures.moves))
    c.scan_side.ensures.ok

pub returns-clause-ran_err : goal.returns-clause-ran_err
returns-clause-ran_err g c told =
    let side = c.args.side in
    let file = on side (g.D.Disks.seen c.args.disk.now) in
    let long : 9 < length file = c.in-Ok.ensures.which told (omega (arith, c.if-len-le9.false)) in
    let size : c.in-Ok.len ≡ length file = c.in-Ok.ensures.length told ∙ ap length (c.in-Ok.ensures.same told long) in
    IfErr-weaker c.scan_side.result _ _
    (λ e calm. refused_ran g.D.Disks.moves side file c.args.disk.now c.read_all.new.disk e calm
    (read_ran g.D.Disks.moves side file c.args.disk.now c.prepare.new.disk c.read_all.new.disk true long (c.in-Ok.ensures.ran told)
    (subst (λ (n : ℕ). g.D.Disks.moves c.prepare.new.disk (Read side 0 n) c.read_all.new.disk true) size c.in-Ok-read_all.ensures.moves)))
    c.scan_side.ensures.reads
