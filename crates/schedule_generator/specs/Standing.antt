-- For the contracts inside: where a generator stands.
use Rattle.std.specs.Prelude.{◌≡◌, ℕ, ◌-◌}
use Rattle.schedule_generator.specs.Draws.{after_draws, seeded}
use Rattle.schedule_generator.specs.declared.generator.Generator.{Generator}

-- before this step of the number's schedules
pub record StandsBefore (g : Generator) (number step : ℕ) : Type 0 where
  pub step_is : g.step ≡ step
  pub words_are : g.words ≡ after_draws (step - 3) (seeded number)
