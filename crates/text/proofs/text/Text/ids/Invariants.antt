use Rattle.std.proofs.Common.{◌≡◌, ◌++◌, drop}
use Rattle.text.proofs.Written.{comma_text}
use Rattle.text.proofs.text.Text.ids.Given as goal

abbrev pub invariant-loop-id : goal.invariant-loop-id
invariant-loop-id l = l.self ++ comma_text (drop l.id-index l.others) ≡ l.initial.self ++ comma_text l.others
