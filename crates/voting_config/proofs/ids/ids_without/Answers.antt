use Rattle.std.proofs.Common.{not, arith, ap, length}
use Rattle.voting_config.specs.Ids.{has}
use Rattle.voting_config.proofs.Kept.{length-filter-take, comes_after-kept}
use Rattle.voting_config.proofs.ids.ids_without.Goals as goal

pub push-requires-clause-room : goal.push-requires-clause-room
push-requires-clause-room c =
    let few = length-filter-take (λ x. not (has x c.args.others.now)) c.args.ids.now c.loop-id.id-index in
    let same_length = ap length c.loop-id.invariant in
    omega (arith, few, same_length, c.requires.fits, c.loop-id-test.true)

pub push-requires-clause-last : goal.push-requires-clause-last
push-requires-clause-last c =
    comes_after-kept (λ x. not (has x c.args.others.now)) c.args.ids.now c.loop-id.kept c.loop-id.id-index c.id-item.result
    c.requires.ascending c.loop-id-test.true c.id-item.is c.loop-id.invariant
