use Rattle.std.proofs.Common.{◌≡◌, ◌++◌, drop}
use Rattle.event_text.specs.Events.{replies_text}
use Rattle.event_text.proofs.events.write_replies.Given as goal

abbrev pub invariant-loop-answer : goal.invariant-loop-answer
invariant-loop-answer l = l.text ++ replies_text l.node (drop l.answer-index l.replies) ≡ l.initial.text ++ replies_text l.node l.replies
