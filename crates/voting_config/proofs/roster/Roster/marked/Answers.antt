use Rattle.std.proofs.Common.{sym, ◌∙◌, ap, List, [], ◌≤◌, length, take, true, false, subst, ◌≡◌}
use Rattle.voting_config.specs.Ids.{Id, most_ids, has_room, with_id}
use Rattle.voting_config.specs.Rosters.{marked}
use Rattle.voting_config.proofs.Rosters.{marked_step, marked-room}
use Rattle.voting_config.proofs.roster.Roster.marked.Goals as goal
use Rattle.voting_config.proofs.roster.Roster.marked.Goals.{then-has_bit, else-has_bit}

pub put-requires : goal.put-requires
put-requires c =
    let fits : length c.as_slice-ids.result.now ≤ most_ids = rw c.as_slice-ids.ensures.value c.self.invariant.fits in
    subst (λ (l : List Id). has_room l c.index-ids-place.result ≡ true) (sym c.loop-place.invariant)
    (marked-room c.as_slice-ids.result.now c.args.word c.loop-place.place c.index-ids-place.result c.loop-place-test.true fits)

pub loop-place-preserved : goal.loop-place-preserved
loop-place-preserved c =
    elim c.if-has_bit.branch [
      | then-has_bit w ↦
          w.set-is ∙ w.put.ensures ∙ ap (λ (l : List Id). with_id w.index-ids-place.result l) c.loop-place.invariant
          ∙ ap (λ (x : Id). with_id x (marked (take c.loop-place.place c.as_slice-ids.result.now) c.args.word)) w.index-ids-place.is
          ∙ sym (marked_step c.as_slice-ids.result.now c.args.word c.loop-place.place w.index-ids-place.result c.loop-place-test.true true (sym c.has_bit.ensures ∙ w.if-has_bit.true))
      | else-has_bit w ↦
          w.set-is ∙ c.loop-place.invariant
          ∙ sym (marked_step c.as_slice-ids.result.now c.args.word c.loop-place.place [] c.loop-place-test.true false (sym c.has_bit.ensures ∙ w.if-has_bit.false))
    ]
