use Rattle.std.proofs.Common.{drop, length-drop, arith}
use Rattle.fault_checks.specs.declared.followers.Follower.{Follower}
use Rattle.fault_checks.specs.Choices.{is_chosen}
use Rattle.fault_checks.proofs.Sets.{length-ids_of-filter, chosen-step}
use Rattle.fault_checks.proofs.followers.chosen.Goals as goal

pub insert_chosen-requires : goal.insert_chosen-requires
insert_chosen-requires c =
    rw c.loop-place.invariant.0
    (omega (arith, length-ids_of-filter (λ (f : Follower). is_chosen c.args.choice f c.args.now) (drop c.loop-place.place c.args.watched.now), length-drop c.loop-place.place c.args.watched.now))

pub loop-place-preserved : goal.loop-place-preserved
loop-place-preserved c = (
  chosen-step (λ (f : Follower). is_chosen c.args.choice f c.args.now) c.args.watched.now c.loop-place.place c.index-watched-place.result c.loop-place.ids c.insert_chosen.new.ids c.requires.ascending c.loop-place-test.true c.loop-place.invariant.1 c.index-watched-place.is c.loop-place.invariant.0 c.insert_chosen.ensures,
  omega arith,
)
