-- Part of the statement of `zen_chart`: what a lifeline shows of a line of its node.
use Rattle.std.specs.Prelude.{ℕ, List, [], ◌++◌, codes}
use Rattle.voting_config.specs.Lists.{space}
use Rattle.trace_reader.specs.declared.said.Said.{Said}
use Rattle.trace_reader.specs.declared.said.Said.TheVariants as said
use Rattle.trace_reader.specs.declared.said.TraceLine.{TraceLine}
use Rattle.sequence_chart.specs.Words.{before, behind, short_words, capped}

-- what stands after the second word
abbrev pub fields : List ℕ → List ℕ
fields line = behind space (behind space line)

-- the first word, and what stands after the second
abbrev pub without_node : List ℕ → List ℕ
without_node line = before space line ++ (codes " " ++ fields line)

-- The words of a label: the lifeline says which node it is.
abbrev pub label_words : List ℕ → Said → List ℕ
label_words line (said.Delivery n k) = []
label_words line (said.Event n) = []
label_words line (said.Sent from to) = []
label_words line (said.Act n e) = short_words (fields line)
label_words line (said.Mode n m t) = fields line
label_words line (said.Committed n) = short_words line
label_words line (said.Won n t) = without_node line
label_words line (said.Opened n) = without_node line
label_words line (said.Dropped n) = without_node line
label_words line (said.Replied n) = without_node line
label_words line other = before space line

-- at most 46 bytes of them, and two dots
abbrev pub label_of : TraceLine → List ℕ
label_of l = capped 46 (label_words l.text l.said)
