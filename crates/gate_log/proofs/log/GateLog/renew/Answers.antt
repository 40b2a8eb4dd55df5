use Rattle.std.proofs.Common.{◌≡◌, ◌∙◌, ◌+◌, [], ◌∷◌, length, ap, sym, subst, arith, true, false}
use Rattle.zen_disk.specs.Moments.{leaves_also}
use Rattle.zen_disk.specs.Runs.{CallsMade}
use Rattle.zen_disk.specs.Sides.{on, other}
use Rattle.zen_disk.specs.declared.side.Side.{Side}
use Rattle.gate_log.specs.Journal.{IsLaid}
use Rattle.gate_log.specs.Calls.{renewal_calls}
use Rattle.gate_log.specs.Generations.{standing_in, in_use, tail_of, IsSettledAs}
use Rattle.gate_log.proofs.Both.{only_both, only_there}
use Rattle.gate_log.proofs.Settled.{settled_from, standing_is, renewal_run, renewed_settled, renewed_stands, renewed_list, after_it, is_frame, put_same}
use Rattle.gate_log.proofs.Ordered.{tail_begun}
use Rattle.gate_log.proofs.log.GateLog.renew.Goals as goal

pub write_generation-requires : goal.write_generation-requires
write_generation-requires g c = record {
  laid = λ told.
      let self = c.args.self.now in
      let seen = g.D.Disks.seen self.disk in
      let was = self.settled told c.if-self.false in
      let bodies = on (other self.side) (standing_in seen).bodies in
      (bodies, subst (λ (s : Side). IsLaid bodies (on s seen) self.other_gate) (sym c.other-side.ensures) was.there);
}

pub returns-in_default-clause-any_moment : goal.returns-in_default-clause-any_moment
returns-in_default-clause-any_moment g c told body is begins running =
    let self = c.args.self.now in
    renewal_run _ _ _ _ _ _ _ (self.settled told running) body begins g.D.Disks.moment g.D.Disks.left_since self.disk c.write_generation.new.disk
    c.args.frame.now c.other-side.result (is_frame body c.args.frame.now is c.if-frame-gt-MAX_FRAME.false) c.other-side.ensures
    (c.write_generation.ensures.any_moment told)

pub returns-in_default-clause-list : goal.returns-in_default-clause-list
returns-in_default-clause-list g c told body is begins running =
    let self = c.args.self.now in
    leaves_also g.D.Disks.moment g.D.Disks.left_since self.disk c.write_generation.new.disk _ _
    (renewal_run _ _ _ _ _ _ _ (self.settled told running) body begins g.D.Disks.moment g.D.Disks.left_since self.disk c.write_generation.new.disk
    c.args.frame.now c.other-side.result (is_frame body c.args.frame.now is c.if-frame-gt-MAX_FRAME.false) c.other-side.ensures
    (c.write_generation.ensures.any_moment told))
    (renewed_list (standing_in (g.D.Disks.seen self.disk)) body)

pub returns-clause-any_moment : goal.returns-clause-any_moment
returns-clause-any_moment g c told body is begins running =
    let self = c.args.self.now in
    renewal_run _ _ _ _ _ _ _ (self.settled told running) body begins g.D.Disks.moment g.D.Disks.left_since self.disk c.write_generation.new.disk
    c.args.frame.now c.other-side.result (is_frame body c.args.frame.now is c.if-frame-gt-MAX_FRAME.false) c.other-side.ensures
    (c.write_generation.ensures.any_moment told)

pub returns-clause-list : goal.returns-clause-list
returns-clause-list g c told body is begins running =
    let self = c.args.self.now in
    leaves_also g.D.Disks.moment g.D.Disks.left_since self.disk c.write_generation.new.disk _ _
    (renewal_run _ _ _ _ _ _ _ (self.settled told running) body begins g.D.Disks.moment g.D.Disks.left_since self.disk c.write_generation.new.disk
    c.args.frame.now c.other-side.result (is_frame body c.args.frame.now is c.if-frame-gt-MAX_FRAME.false) c.other-side.ensures
    (c.write_generation.ensures.any_moment told))
    (renewed_list (standing_in (g.D.Disks.seen self.disk)) body)

pub invariant_of-self-2 : goal.invariant_of-self-2
invariant_of-self-2 g c = record {
  limit = omega (arith, c.in-Ok.ensures.limit);
  settled = λ told running.
      let self = c.args.self.now in
      let body = c.requires.0 in
      let seen = g.D.Disks.seen self.disk in
      let new = g.D.Disks.seen c.write_generation.new.disk in
      let now = g.D.Disks.may_leave c.write_generation.new.disk in
      let side = c.other-side.result in
      let was = self.settled told running in
      let size = 8 + length c.args.frame.now in
      let laid =
      subst (λ (s : Side). IsLaid (body ∷ []) (on s new) size) c.other-side.ensures
      (c.in-Ok.ensures.added told body (is_frame body c.args.frame.now c.requires.1 c.if-frame-gt-MAX_FRAME.false)) in
      let same = subst (λ (s : Side). on (other s) new ≡ on (other s) seen) c.other-side.ensures c.write_generation.ensures.elsewhere in
      let there = c.write_generation.ensures.still (on (other side) seen) (only_there side seen (g.D.Disks.may_leave self.disk) was.durable) in
      let only = only_both side new now c.in-Ok.ensures.durable (λ f left. there f left ∙ sym c.write_generation.ensures.elsewhere) in
      settled_from _ new now side size self.gate (self.epoch + 1)
      (subst (λ (s : Side). IsSettledAs (after_it (standing_in seen) self.side body) new now s size self.gate (self.epoch + 1))
      (sym c.other-side.ensures)
      (renewed_settled (standing_in seen) seen
      (g.D.Disks.may_leave self.disk) self.side self.gate self.other_gate self.epoch was body c.requires.2 new now size laid same only));
  counted = λ told running.
      let self = c.args.self.now in
      let body = c.requires.0 in
      let seen = g.D.Disks.seen self.disk in
      let new = g.D.Disks.seen c.write_generation.new.disk in
      let was = self.settled told running in
      let size = 8 + length c.args.frame.now in
      let laid =
      subst (λ (s : Side). IsLaid (body ∷ []) (on s new) size) c.other-side.ensures
      (c.in-Ok.ensures.added told body (is_frame body c.args.frame.now c.requires.1 c.if-frame-gt-MAX_FRAME.false)) in
      let same = subst (λ (s : Side). on (other s) new ≡ on (other s) seen) c.other-side.ensures c.write_generation.ensures.elsewhere in
      let stands =
      renewed_stands (standing_in seen) seen
      (g.D.Disks.may_leave self.disk) self.side self.gate self.other_gate self.epoch was body c.requires.2 new size laid same in
      let now : in_use (standing_in new) ≡ body ∷ [] =
      ap in_use (standing_is _ new stands) ∙ put_same (other (standing_in seen).side) (body ∷ []) (standing_in seen).bodies in
      omega (arith, ap tail_of now, tail_begun body c.requires.2.tagged);
}

pub returns-clause-ok : goal.returns-clause-ok
returns-clause-ok g c told body is begins =
    let self = c.args.self.now in
    let seen = g.D.Disks.seen self.disk in
    let new = g.D.Disks.seen c.write_generation.new.disk in
    let was = self.settled told c.if-self.false in
    let laid =
    subst (λ (s : Side). IsLaid (body ∷ []) (on s new) (8 + length c.args.frame.now)) c.other-side.ensures
    (c.in-Ok.ensures.added told body (is_frame body c.args.frame.now is c.if-frame-gt-MAX_FRAME.false)) in
    let same = subst (λ (s : Side). on (other s) new ≡ on (other s) seen) c.other-side.ensures c.write_generation.ensures.elsewhere in
    standing_is _ new
    (renewed_stands (standing_in seen) seen (g.D.Disks.may_leave self.disk) self.side self.gate self.other_gate self.epoch was body begins new
    (8 + length c.args.frame.now) laid same)

pub returns-in_default-clause-ran : goal.returns-in_default-clause-ran
returns-in_default-clause-ran g c called =
    let self = c.args.self.now in
    subst
    (λ (s : Side). CallsMade g.D.Disks.moves (renewal_calls s self.other_gate c.args.frame.now) self.disk c.write_generation.new.disk false)
    c.other-side.ensures c.in_default.ensures.ran

pub returns-clause-ran : goal.returns-clause-ran
returns-clause-ran g c called =
    let self = c.args.self.now in
    subst
    (λ (s : Side). CallsMade g.D.Disks.moves (renewal_calls s self.other_gate c.args.frame.now) self.disk c.write_generation.new.disk true)
    c.other-side.ensures c.in-Ok.ensures.ran
