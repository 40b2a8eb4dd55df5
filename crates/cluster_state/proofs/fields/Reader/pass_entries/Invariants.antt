use Rattle.std.specs.Option.{option_copied}
use Rattle.cluster_state.specs.Fields.{setting}
use Rattle.cluster_state.specs.Settings.{comes_after_keys}
use Rattle.cluster_state.proofs.Passing.{HasPassed}
use Rattle.cluster_state.proofs.fields.Reader.pass_entries.Given as goal

abbrev pub invariant-loop : goal.invariant-loop
invariant-loop l = HasPassed comes_after_keys setting.at (λ s. s.0) l.count l.counter (option_copied l.last) l.self l.fn.self
