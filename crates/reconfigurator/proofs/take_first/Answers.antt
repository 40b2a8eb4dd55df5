use Rattle.std.proofs.Common.{◌<◌, ◌≤◌, ◌+◌, ◌-◌, length, take, arith}
use Rattle.std.proofs.lemmas.Bool.Decides.{nat_tests}
use Rattle.std.proofs.lemmas.List.{length-take}
use Rattle.voting_config.specs.Ids.{most_ids}
use Rattle.reconfigurator.proofs.Taking.{length-union}
use Rattle.reconfigurator.proofs.take_first.Goals as goal

pub put-requires : goal.put-requires
put-requires c =
    let ids = c.args.ids.now in
    let few = length-union c.args.taken.now (take c.loop-id.id-index ids) in
    let room : length c.loop-id.taken < most_ids =
    rw c.loop-id.invariant (omega (arith, few, length-take c.loop-id.id-index ids, c.loop-id-test.true, c.prefix-id-items.ensures.fits, c.requires)) in
    grind (arith, nat_tests, room)

pub returns-clause-fits : goal.returns-clause-fits
returns-clause-fits c =
    let ids = c.args.ids.now in
    let few = length-union c.args.taken.now (take c.loop-id.id-index ids) in
    let fits : length c.loop-id.taken + (c.args.room - length ids) ≤ most_ids =
    rw c.loop-id.invariant (omega (arith, few, length-take c.loop-id.id-index ids, c.loop-id.auto.id-index-end, c.prefix-id-items.ensures.fits, c.requires)) in
    rw (c.saturating_sub.ensures, c.len.ensures.value) fits
