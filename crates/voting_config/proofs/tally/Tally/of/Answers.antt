use Rattle.std.proofs.Common.{List, ap, ◌∙◌}
use Rattle.voting_config.specs.Ids.{Id}
use Rattle.voting_config.specs.Rosters.{marked, mask_of}
use Rattle.voting_config.proofs.Tallies.{whole, whole_view}
use Rattle.voting_config.proofs.tally.Tally.of.Goals as goal

pub invariant_of-result : goal.invariant_of-result
invariant_of-result c =
    rw (c.mask-word.ensures.value, ← c.of-roster.ensures.value) (whole c.of-roster.result c.of-roster.ensures.is_roster)

pub returns : goal.returns
returns c =
    ap (marked c.of-roster.result) c.mask-word.ensures.value
    ∙ ap (λ (l : List Id). marked l (mask_of l c.args.ids.now)) c.of-roster.ensures.value
    ∙ whole_view c.args.ids.now c.as_slice.ensures.is_set.ascending
