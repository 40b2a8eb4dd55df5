use Rattle.std.proofs.Common.{sym, ◌∙◌, ap, List, ◌<◌, ◌^◌, length, true, false, subst}
use Rattle.voting_config.specs.Ids.{Id}
use Rattle.std.specs.Prelude.{bit_or}
use Rattle.voting_config.proofs.Rosters.{mask_step, mask_of-take-lt}
use Rattle.voting_config.proofs.roster.Roster.mask_of_ids.Goals as goal
use Rattle.voting_config.proofs.roster.Roster.mask_of_ids.Goals.{then-is_among, else-is_among}

pub loop-place-preserved : goal.loop-place-preserved
loop-place-preserved c =
    let step = mask_step c.as_slice-ids.result.now c.args.set.now c.loop-place.place c.index-ids-place.result c.loop-place-test.true c.index-ids-place.is in
    elim c.if-is_among.branch [
      | then-is_among w ↦
          w.word-is ∙ w.with_bit-word.ensures ∙ ap (λ n. bit_or n (2 ^ c.loop-place.place)) c.loop-place.invariant
          ∙ sym (step true (sym c.is_among.ensures ∙ w.if-is_among.true))
      | else-is_among w ↦ w.word-is ∙ c.loop-place.invariant ∙ sym (step false (sym c.is_among.ensures ∙ w.if-is_among.false))
    ]

pub returns-clause-fits : goal.returns-clause-fits
returns-clause-fits c =
    subst (λ (l : List Id). c.loop-place.word < 2 ^ length l) (c.as_slice-ids.ensures.value ∙ c.self.view_is)
    (rw c.loop-place.invariant (mask_of-take-lt c.as_slice-ids.result.now c.args.set.now c.loop-place.place))
