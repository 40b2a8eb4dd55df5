-- Part of the statement: what the trace of a schedule of whole nodes shows of its history, as statements.
use Rattle.std.specs.Prelude.{◌≡◌, List, ◌++◌}
use Rattle.voting_config.specs.Ids.{Id}
use Rattle.world_model.specs.Histories.{IsLegal, sent}
use Rattle.schedule_text.specs.declared.schedule.Line.{Line}
use Rattle.schedule_text.specs.declared.schedule.Schedule.{Schedule}
use Rattle.replay_node.specs.Clusters.{replayed, replayed_history, replayed_life}
use Rattle.schedule_replay.specs.Showing.{Shows, Agrees}
use Rattle.schedule_replay.specs.HistoryShown.{history_shown, lines_of, messages_of, numbered}
use Rattle.schedule_replay.specs.ClusterTrace.{trace}
use Rattle.schedule_replay.specs.ClusterParts.{ClusterPart, cluster_text}
use Rattle.schedule_replay.specs.ClusterShown.{core_of, frames_in, numbered_frames, modes_shown, drops_shown, replies_shown, life_modes, life_drops, life_replies}
use Rattle.schedule_replay.specs.ClusterTraceParts.{cluster_parts}

-- The trace is the text of these parts, which echo the lines in order. The history is read off them. They show just the frames that were
-- sent, in order and numbered from 1, and of each node just the changes of mode, the drops and the replies of its life, each in order.
pub record ClusterGivesHistory (s : Schedule) (xs : List ClusterPart) : Type 0 where
  pub text : trace s ≡ cluster_text xs
  pub lines : lines_of (core_of xs) ≡ s.lines
  pub history : history_shown (core_of xs) ≡ replayed_history s
  pub messages : messages_of (core_of xs) ≡ numbered 0 (sent (replayed_history s))
  pub frames : frames_in xs ≡ numbered_frames 0 (replayed s).frames
  pub modes : (n : Id) → modes_shown n xs ≡ life_modes (replayed_life s n)
  pub drops : (n : Id) → drops_shown n xs ≡ life_drops (replayed_life s n)
  pub replies : (n : Id) → replies_shown n xs ≡ life_replies (replayed_life s n)

-- so it is for each schedule
abbrev pub LawClusterTraceGivesHistory : Type 0
LawClusterTraceGivesHistory = (s : Schedule) → ClusterGivesHistory s (cluster_parts s)

-- more lines leave the parts of the lines before as they are
abbrev pub LawClusterPartsGoOn : Type 0
LawClusterPartsGoOn = (s : Schedule) (more : List Line)
    → (rest : List ClusterPart) × (cluster_parts (record s { lines = s.lines ++ more }) ≡ cluster_parts s ++ rest)

-- where the history is legal, the `won` lines are its wins, and the `committed` lines show just the states committed in it
abbrev pub LawClusterTraceShows : Type 0
LawClusterTraceShows = (s : Schedule) → IsLegal s.initial (replayed_history s) → Shows (replayed_history s) (core_of (cluster_parts s))

-- then two `won` lines of one term name one node, and two `committed` lines of one version show one state
abbrev pub LawClusterTraceAgrees : Type 0
LawClusterTraceAgrees = (s : Schedule) → IsLegal s.initial (replayed_history s) → Agrees (core_of (cluster_parts s))
