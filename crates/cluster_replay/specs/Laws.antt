-- For the contracts inside: what holds of each schedule of whole nodes, as statements. The contract of `run` says the same of its schedule.
use Rattle.std.specs.Prelude.{◌≡◌, true, false, Contains}
use Rattle.std.specs.List.{AllByRecursion}
use Rattle.voting_config.specs.Ids.{Id, IsIdSet, has, are_among}
use Rattle.world_model.specs.Histories.{IsLegal}
use Rattle.world_model.specs.Safety.{Win, winners}
use Rattle.schedule_text.specs.declared.schedule.Line.{Line}
use Rattle.schedule_text.specs.declared.schedule.Line.TheVariants as line
use Rattle.schedule_text.specs.declared.schedule.Schedule.{Schedule}
use Rattle.replay_node.specs.Clusters.{settings_of, replayed_history, replayed_life}
use Rattle.client_guarantees.specs.Laws.{IsLifeIn}
use Rattle.client_guarantees.specs.Replies.{RepliesTruly}

abbrev pub node_of : Line → Id
node_of (line.Tick n now word) = n
node_of (line.Client n bytes) = n
node_of (line.Disconnect n peer) = n
node_of (line.Deliver n number) = n
node_of (line.Crash n way) = n
node_of (line.Restart n) = n
node_of (line.Fuse n count way) = n
node_of (line.Fail n count) = n
node_of (line.Boot n) = n
node_of (line.StartJoin n candidate term) = n
node_of (line.Value n version text config) = n

-- the nodes and the initial names are sets of ids, and each line is of one of the nodes, whatever else it says
pub record IsWellFormed (s : Schedule) : Type 0 where
  pub nodes : IsIdSet s.nodes
  pub initial : IsIdSet s.initial
  pub lines : AllByRecursion (λ (l : Line). has (node_of l) s.nodes ≡ true) s.lines

-- the life of each node follows the policy, and the history has its acts
abbrev pub LawLivesFollow : Type 0
LawLivesFollow =
    (s : Schedule) → IsWellFormed s → (n : Id) → has n s.nodes ≡ true
    → IsLifeIn (replayed_history s) (settings_of s.nodes s.initial s.voting_only s.second n) (replayed_life s n)

-- whatever the lines crash, fail and restart, and wherever in a device call
abbrev pub LawClusterReplayIsLegal : Type 0
LawClusterReplayIsLegal = (s : Schedule) → IsWellFormed s → IsLegal s.initial (replayed_history s)

-- where the voting-only nodes are some of the nodes, no winner is one of them
abbrev pub LawVotingOnlyNeverWins : Type 0
LawVotingOnlyNeverWins =
    (s : Schedule) → IsWellFormed s → are_among s.nodes s.voting_only ≡ true
    → (w : Win) → Contains (winners (replayed_history s)) w → has w.node s.voting_only ≡ false

-- Each reply of each node is true of the history. As the schedule may be taken up to the line of its event, it is true by then.
abbrev pub LawClusterRepliesAreTrue : Type 0
LawClusterRepliesAreTrue =
    (s : Schedule) → IsWellFormed s → (n : Id) → has n s.nodes ≡ true
    → RepliesTruly (replayed_history s) (settings_of s.nodes s.initial s.voting_only s.second n) (replayed_life s n)
