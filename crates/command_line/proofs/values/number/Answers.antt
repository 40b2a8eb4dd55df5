use Rattle.std.proofs.Common.{◌∙◌, sym}
use Rattle.command_line.proofs.Numbers.{is_number}
use Rattle.command_line.proofs.values.number.Goals as goal

pub returns : goal.returns
returns c = c.ok.ensures.value ∙ is_number c.args.text.now c.parse.result c.parse.ensures.value.0 (sym c.are_digits.ensures ∙ c.if-not-are_digits.false) (sym c.has_leading_zero.ensures ∙ c.if-has_leading_zero.false)
