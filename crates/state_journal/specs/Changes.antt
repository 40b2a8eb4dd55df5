-- Part of the statement: what a change makes of what a node keeps.
use Rattle.std.specs.Prelude.{◌≡◌, ◌⊎◌, Option, Some}
use Rattle.cluster_state.specs.declared.state.Kept.{Kept}
use Rattle.state_journal.specs.declared.change.Change.{Change}
use Rattle.state_journal.specs.declared.change.Change.TheVariants.{Term, Accepted, Committed, Renewed}

abbrev pub changed : Kept → Change → Kept
changed kept (Term term) = record kept { term = term }
changed kept (Accepted state) = record kept { accepted = state; committed = state.committed }
changed kept Committed = record kept { committed = kept.accepted.config }
changed kept (Renewed generation) = generation.kept

-- what a crash leaves is opened with one of the two records
abbrev pub IsEither : Kept → Kept → Option Kept → Type 0
IsEither before after found = (found ≡ Some before) ⊎ (found ≡ Some after)
