use Rattle.std.proofs.Common.{◌≡◌, ◌∙◌, sym, ap, subst, true, Option, map, string_bytes}
use Rattle.std.specs.List.{list_all}
use Rattle.std.proofs.lemmas.Result.{err_from_is_err_and}
use Rattle.command_line.specs.Commands.{entered_command, is_fair}
use Rattle.command_line.specs.Answers.{Gives}
use Rattle.command_line.specs.declared.command.ProgramCommand.{ProgramCommand}
use Rattle.command_line.proofs.Whole.{fair_map, unfair_none, err_is, taken_is}
use Rattle.command_line.proofs.reading.read_words.Goals as goal

pub returns-then-not-are_fair : goal.returns-then-not-are_fair
returns-then-not-are_fair c =
    unfair_none (map (λ s. string_bytes s) c.args.words.now) (sym (fair_map (λ s. string_bytes s) c.args.words.now) ∙ sym c.are_fair.ensures ∙ c.if-not-are_fair.true)

pub returns-in_err-matches : goal.returns-in_err-matches
returns-in_err-matches c =
    let fair : list_all is_fair (map (λ s. string_bytes s) c.args.words.now) ≡ true = sym (fair_map (λ s. string_bytes s) c.args.words.now) ∙ sym c.are_fair.ensures ∙ c.if-not-are_fair.false in
    let p = err_from_is_err_and c.from_residual.result c.from_residual.ensures.1 in
    rw (p.1, p.2) (err_is c.in_err-matches.field-0.0 (map (λ s. string_bytes s) c.args.words.now) fair c.in_err-matches.ensures)

pub returns : goal.returns
returns c =
    let fair : list_all is_fair (map (λ s. string_bytes s) c.args.words.now) ≡ true = sym (fair_map (λ s. string_bytes s) c.args.words.now) ∙ sym c.are_fair.ensures ∙ c.if-not-are_fair.false in
    let h = c.in_ok-matches.ensures in
    subst (λ (o : Option ProgramCommand). Gives c.enter.result o) (ap entered_command h.1 ∙ taken_is (map (λ s. string_bytes s) c.args.words.now) fair h.0) c.enter.ensures
