-- The laws of a schedule of whole nodes.
use Rattle.std.proofs.Common.{List, [], sym, ◌∙◌, ap, subst}
use Rattle.world_model.specs.Histories.{History, NoEntries, sent, IsLegal}
use Rattle.schedule_text.specs.declared.schedule.Schedule.{Schedule}
use Rattle.replay_node.specs.Clusters.{fresh_cluster, replayed, replayed_history}
use Rattle.schedule_replay.specs.Showing.{Shows}
use Rattle.schedule_replay.specs.Parts.{TracePart}
use Rattle.schedule_replay.specs.HistoryShown.{numbered, history_shown}
use Rattle.schedule_replay.specs.ClusterLaws.{LawClusterTraceGivesHistory, LawClusterPartsGoOn, LawClusterTraceShows, LawClusterTraceAgrees}
use Rattle.schedule_replay.specs.ClusterTrace.{trace}
use Rattle.schedule_replay.specs.ClusterShown.{core_of}
use Rattle.schedule_replay.specs.ClusterTraceParts.{cluster_parts}
use Rattle.schedule_replay.proofs.Along.{numbers}
use Rattle.schedule_replay.proofs.Showing.{sound_shows, shown_agrees}
use Rattle.schedule_replay.proofs.Sound.{sound_along}
use Rattle.schedule_replay.proofs.ClusterPieces.{Piece}
use Rattle.schedule_replay.proofs.ClusterReplies.{all_modes, all_drops, all_replies}
use Rattle.schedule_replay.proofs.ClusterTelling.{lines_piece, go_on}

whole : (s : Schedule) → Piece NoEntries [] (replayed_history s) (replayed s).frames (trace s) s.lines (cluster_parts s)
whole s = lines_piece s.nodes s.initial s.voting_only s.second (fresh_cluster s.nodes s.initial s.voting_only s.second) s.lines

pub tells : LawClusterTraceGivesHistory
tells s =
    let p = whole s in
    record {
      text = p.text_is;
      lines = p.lines;
      history = p.history;
      messages = numbers NoEntries (core_of (cluster_parts s)) p.right ∙ ap (λ (h : History). numbered 0 (sent h)) p.history;
      frames = p.frames;
      modes = λ n. all_modes n s.nodes s.initial s.voting_only s.second s.lines;
      drops = λ n. all_drops n s.nodes s.initial s.voting_only s.second s.lines;
      replies = λ n. all_replies n s.nodes s.initial s.voting_only s.second s.lines;
    }

pub goes_on : LawClusterPartsGoOn
goes_on s more = go_on s.nodes s.initial s.voting_only s.second (fresh_cluster s.nodes s.initial s.voting_only s.second) s.lines more

pub shows : LawClusterTraceShows
shows s l =
    let p = whole s in
    let xs : List TracePart = core_of (cluster_parts s) in
    let legal : IsLegal s.initial (history_shown xs) = subst (λ (h : History). IsLegal s.initial h) (sym p.history) l in
    subst (λ (h : History). Shows h xs) p.history (sound_shows s.initial xs (sound_along s.initial NoEntries xs p.right legal) legal)

pub agrees : LawClusterTraceAgrees
agrees s l = shown_agrees s.initial (replayed_history s) (core_of (cluster_parts s)) l (shows s l)
