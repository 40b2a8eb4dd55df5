use Rattle.std.proofs.Common.{◌≡◌, drop, string_bytes}
use Rattle.std.specs.List.{list_all}
use Rattle.command_line.specs.Commands.{is_fair}
use Rattle.command_line.proofs.reading.are_fair.Given as goal

abbrev pub invariant-loop-word : goal.invariant-loop-word
invariant-loop-word l = list_all (λ w. is_fair (string_bytes w)) l.words ≡ list_all (λ w. is_fair (string_bytes w)) (drop l.word-index l.words)
