use Rattle.std.proofs.Common.{refl}
use Rattle.schedule_generator.specs.Draws.{seeded}
use Rattle.schedule_generator.proofs.generator.Generator.new.Goals as goal

pub returns : goal.returns
unfolding seeded
returns c = record { step_is = refl; words_are = c.seed_from_u64.ensures }
