-- Part of the statement: the words that a number's generator draws.
use Rattle.std.specs.Prelude.{ℕ, zero, suc}
use Rattle.rand_core.specs.Pcg32Seed.{pcg32_seed}
use Rattle.rand_pcg.specs.Lcg.{Lcg}
use Rattle.rand_pcg.specs.Pcg.{pcg32, pcg32_of_seed}
use Rattle.schedule_generator.specs.declared.drawing.Draw.{Draw}

-- the generator that is made by a number
unfoldable pub seeded : ℕ → Lcg
seeded number = pcg32_of_seed (pcg32_seed 16 number)

-- the next three words
unfoldable pub draw_of : Lcg → Draw
draw_of g = record { first = (pcg32 g).0; second = (pcg32 (pcg32 g).1).0; third = (pcg32 (pcg32 (pcg32 g).1).1).0 }

-- and what is left after them
unfoldable pub after_draw : Lcg → Lcg
after_draw g = (pcg32 (pcg32 (pcg32 g).1).1).1

-- what is left after so many draws of three
abbrev pub after_draws : ℕ → Lcg → Lcg
after_draws zero g = g
after_draws (suc count) g = after_draw (after_draws count g)
