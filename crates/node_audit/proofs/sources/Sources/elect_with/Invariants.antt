use Rattle.std.proofs.Common.{◌≡◌, take}
use Rattle.std.specs.List.{count_by}
use Rattle.voting_config.specs.Ids.{has, with_id}
use Rattle.node_audit.proofs.sources.Sources.elect_with.Given as goal

abbrev pub invariant-loop-id : goal.invariant-loop-id
invariant-loop-id l = l.present ≡ count_by (λ id. has id (with_id l.source l.self)) (take l.id-index l.config)
