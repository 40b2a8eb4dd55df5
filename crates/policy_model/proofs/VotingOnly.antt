-- Without voting-only nodes the rules are those of a policy that knows none.
use Rattle.std.proofs.Common.{◌&&◌, not, List, [], ◌∷◌, ap}
use Rattle.std.specs.Prelude.{find, if◌then◌else◌}
use Rattle.voting_config.specs.Ids.{Id, has}
use Rattle.world_model.specs.Replies.{elects}
use Rattle.policy_model.specs.Events.{Notes, ElectionOff}
use Rattle.policy_model.specs.Doing.{may_win}
use Rattle.policy_model.specs.Elections.{free_nodes, waits_until}
use Rattle.policy_model.specs.Joins.{counts_join}
use Rattle.policy_model.specs.NextState.{responders_of}
use Rattle.policy_model.specs.Laws.{LawNoVotingOnly}

pub no_voting_only : LawNoVotingOnly
no_voting_only s none = record {
  waits = λ v word.
      ap (λ (ids : List Id). if not (has s.me ids) && (may_win s v && elects v.node (free_nodes s v)) then waits_until s v word v.deadline else Notes ElectionOff ∷ []) none;
  joined = λ v p term last. ap (λ (ids : List Id). if has s.me ids then [] else counts_join s v p term last) none;
  successor = λ v. ap (λ (ids : List Id). find (λ (id : Id). not (has id ids) && has id v.node.committed) (responders_of v.publication)) none;
}
