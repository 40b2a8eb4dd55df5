use Rattle.cluster_state.specs.Fields.{id}
use Rattle.voting_config.specs.Ids.{comes_after}
use Rattle.cluster_state.proofs.Passing.{HasPassed}
use Rattle.cluster_state.proofs.fields.Reader.pass_elements.Given as goal

abbrev pub invariant-loop : goal.invariant-loop
invariant-loop l = HasPassed comes_after id.at (λ x. x) l.count l.counter l.last l.self l.fn.self
