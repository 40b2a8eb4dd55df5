use Rattle.voting_config.proofs.Sets.{union-room}
use Rattle.voting_config.proofs.node_set.NodeSet.union.Goals as goal

pub put-requires : goal.put-requires
put-requires c =
    rw c.loop-id.invariant
    (union-room c.args.self.now c.as_slice-ids.result.now c.loop-id.id-index c.id-item.result c.loop-id-test.true c.id-item.is (rw c.as_slice-ids.ensures.value c.requires))
