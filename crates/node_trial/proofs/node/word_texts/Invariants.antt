use Rattle.std.proofs.Common.{◌≡◌, take, map, string_bytes}
use Rattle.node_trial.specs.Nodes.{told_trial, text_of_word}
use Rattle.node_trial.proofs.node.word_texts.Given as goal

abbrev pub invariant-loop-word : goal.invariant-loop-word
invariant-loop-word l = map string_bytes l.texts.items ≡ map (text_of_word (told_trial l.trial) l.node) (take l.word-index l.words)
