use Rattle.voting_config.proofs.Sets.{half_is_none}
use Rattle.voting_config.proofs.ids.is_quorum.Goals as goal

pub returns-then-cast-ids : goal.returns-then-cast-ids
returns-then-cast-ids c =
    half_is_none c.args.ids.now c.args.votes.now c.requires c.as_slice-cast.ensures.is_set
    (rw c.as_slice-cast.ensures.value at c.if-cast-ids.true)
