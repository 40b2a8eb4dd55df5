use Rattle.std.proofs.Common.{ℕ, List, [], ◌∷◌, ◌++◌, ap, ◌∙◌}
use Rattle.state_journal.proofs.draft.Draft.lay_accepted.Goals as goal

pub lay-requires-clause-tail : goal.lay-requires-clause-tail
lay-requires-clause-tail c = c.deref.ensures.0 ∙ c.close_of-tail.ensures ∙ ap (λ (l : List ℕ). l ++ 0 ∷ []) c.accepted_digest-digest.ensures
