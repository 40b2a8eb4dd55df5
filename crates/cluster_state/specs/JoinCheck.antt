-- Part of the statement: when a join is counted.
use Rattle.std.specs.Prelude.{ℕ, Bool, true, false, cond, not, ◌&&◌, Result, Ok, Err, List, [], ◌∷◌, nat_lt, nat_eq}
use Rattle.voting_config.specs.Ids.{Id, same}
use Rattle.cluster_state.specs.declared.state.StateId.{StateId}
use Rattle.cluster_state.specs.declared.messages.Join.{Join}
use Rattle.cluster_state.specs.declared.causes.JoinCause.{JoinCause}
use Rattle.cluster_state.specs.declared.causes.JoinCause.TheVariants as join_cause

abbrev pub is_empty : List Id → Bool
is_empty [] = true
is_empty (x ∷ xs) = false

-- the first cause that refuses a join, by the node's term, its accepted state's id and configuration, and whether it has started a join
unfoldable pub join_checked : Id → ℕ → StateId → List Id → Bool → Join → Result (Unit {0}) JoinCause
join_checked me term accepted config started j =
    cond (not (same j.target me)) (Err (join_cause.NotForMe j.target))
    (cond (not (nat_eq term j.term)) (Err (join_cause.TermMismatch term j.term))
    (cond (not started) (Err join_cause.NotStarted)
    (cond (nat_lt accepted.term j.last_term) (Err (join_cause.FresherTerm accepted.term j.last_term))
    (cond (nat_eq accepted.term j.last_term && nat_lt accepted.version j.last_version)
    (Err (join_cause.FresherVersion accepted.version j.last_version))
    (cond (is_empty config) (Err join_cause.NoConfig)
    (Ok tt))))))
