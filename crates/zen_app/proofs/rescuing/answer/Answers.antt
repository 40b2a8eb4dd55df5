use Rattle.std.proofs.Common.{arith, List, length, ap}
use Rattle.schedule_text.specs.declared.schedule.Line.{Line}
use Rattle.schedule_text.specs.declared.level.Level.TheVariants.{Core}
use Rattle.zen_app.proofs.RescueEndings.{spells_few, spells_fit}
use Rattle.zen_app.proofs.Spelled.{spells_short}
use Rattle.zen_app.proofs.rescuing.answer.Goals as goal

pub plan_after-requires-clause-fits : goal.plan_after-requires-clause-fits
plan_after-requires-clause-fits c = spells_fit c.args.bytes.now c.in-Ok.schedule c.in-Ok.ensures.found

pub plan_after-requires-clause-few : goal.plan_after-requires-clause-few
plan_after-requires-clause-few c = omega (arith, spells_few c.args.bytes.now c.in-Ok.schedule c.in-Ok.ensures.found)

pub text_of-requires-clause-bytes : goal.text_of-requires-clause-bytes
text_of-requires-clause-bytes c = omega (arith, spells_short Core c.args.bytes.now c.in-Ok.schedule c.in-Ok.ensures.found)

pub text_of-requires-clause-lines : goal.text_of-requires-clause-lines
text_of-requires-clause-lines c = omega (arith, spells_few c.args.bytes.now c.in-Ok.schedule c.in-Ok.ensures.found, ap (λ (lines : List Line). length lines) c.as_slice.ensures)
