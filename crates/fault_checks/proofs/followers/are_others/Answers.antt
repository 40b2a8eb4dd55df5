use Rattle.std.proofs.Common.{◌∙◌, ap, sym, arith}
use Rattle.voting_config.proofs.Sets.{same_is}
use Rattle.fault_checks.specs.declared.followers.Follower.{Follower}
use Rattle.fault_checks.proofs.Others.{not_false, not_true, others-me, others-next}
use Rattle.fault_checks.proofs.followers.are_others.Goals as goal
use Rattle.fault_checks.proofs.followers.are_others.Goals.{then-ne+else-place-watched+else-ne-2, else-ne}

pub loop-member-preserved : goal.loop-member-preserved
loop-member-preserved c =
    elim c.if-ne.branch [
      | then-ne+else-place-watched+else-ne-2 w ↦
          let f = w.index-watched-place.result in
          let is = ap (λ (g : Follower). g.id) w.index-watched-place.is ∙ same_is _ c.member-item.result (not_false _ (sym w.ne-else-place-watched.ensures ∙ w.if-ne-2.false)) in
          rw w.place-is (
            others-next c.args.me c.args.members.now c.loop-member.member-index c.member-item.result c.args.watched.now c.loop-member.place f c.loop-member-test.true c.member-item.is
                (not_true _ (sym c.ne.ensures ∙ w.if-ne.true)) w.if-place-watched.false w.index-watched-place.is is c.loop-member.invariant.0,
            omega (arith, w.if-place-watched.false),
          )
      | else-ne w ↦
          rw w.place-is (
            others-me c.args.me c.args.members.now c.loop-member.member-index c.member-item.result _ c.loop-member-test.true c.member-item.is
                (not_false _ (sym c.ne.ensures ∙ w.if-ne.false)) c.loop-member.invariant.0,
            c.loop-member.invariant.1,
          )
    ]
