use Rattle.std.proofs.Common.{sym, ◌∙◌}
use Rattle.schedule_text.proofs.Written.{voting_only_written}
use Rattle.schedule_text.proofs.writing.write_voting_only.Goals as goal

pub returns : goal.returns
returns c =
    voting_only_written c.word-2.result c.args.ids.now c.args.text.now c.word.new.self c.ids.new.self c.word-2.new.self (sym c.is_empty.ensures ∙ c.if-is_empty.false) c.in_ok-word.ensures c.in_ok-ids.ensures c.word-2.ensures
