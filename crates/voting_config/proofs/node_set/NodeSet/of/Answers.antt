use Rattle.std.proofs.Common.{◌<◌, length, take, arith}
use Rattle.std.proofs.lemmas.Bool.Decides.{nat_tests}
use Rattle.std.proofs.lemmas.List.{length-take}
use Rattle.voting_config.specs.Ids.{most_ids}
use Rattle.voting_config.proofs.Sets.{length-set_of, length-set_of-take}
use Rattle.voting_config.proofs.node_set.NodeSet.of.Goals as goal

pub put-requires : goal.put-requires
put-requires c =
    let few = length-set_of-take c.args.ids.now c.loop-id.id-index in
    let room : length c.loop-id.set < most_ids = rw c.loop-id.invariant (omega (arith, few, c.loop-id-test.true, c.requires)) in
    grind (arith, nat_tests, room)

pub returns-clause-few : goal.returns-clause-few
returns-clause-few c =
    rw c.loop-id.invariant
    (omega (arith, length-set_of (take c.loop-id.id-index c.args.ids.now), length-take c.loop-id.id-index c.args.ids.now))
