use Rattle.std.proofs.Common.{◌≡◌, ◌≤◌, ◌*◌, length, take}
use Rattle.std.specs.List.{count_by}
use Rattle.voting_config.specs.Ids.{has}
use Rattle.voting_config.proofs.ids.is_quorum.Given as goal

abbrev pub invariant-loop-id : goal.invariant-loop-id
invariant-loop-id l = record {
  counted : l.present ≡ count_by (λ id. has id l.votes) (take l.id-index l.ids);
  few : 2 * l.present ≤ length l.ids;
}
