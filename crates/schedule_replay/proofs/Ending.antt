-- A trace is empty, or ends with a line feed.
use Rattle.std.proofs.Common.{ℕ, Bool, Option, None, Some, List, [], ◌∷◌, ◌++◌, sym, subst, append-nil, append_assoc}
use Rattle.std.specs.Prelude.{codes, decimal}
use Rattle.voting_config.specs.Ids.{Id}
use Rattle.cluster_state.specs.declared.state.ClusterState.{ClusterState}
use Rattle.client_lines.specs.Replies.{reply_text}
use Rattle.event_text.specs.Events.{cause_text}
use Rattle.event_text.specs.Frames.{message_text as frame_text}
use Rattle.event_text.specs.Deeds.{mode_text}
use Rattle.schedule_text.specs.Lines.{line_text}
use Rattle.voting_config.specs.Lists.{list_text}
use Rattle.schedule_text.specs.declared.schedule.Line.{Line}
use Rattle.trace_text.specs.Trace.{act_line, act_text, address_text, committed_text, ending_text, id_text, message_text, state_text}
use Rattle.replay_node.specs.Did.{won_by}
use Rattle.replay_node.specs.Clusters.{Cluster}
use Rattle.replay_node.specs.Worlds.{World}
use Rattle.trace_summary.specs.Tallies.{EndsLine, Empty, Fed}
use Rattle.schedule_replay.specs.Parts.{ActShown, TracePart, Echo, Did, Opened, WasDown, WasUp, WentDown, DiskFailed, Unsent, NumberedMessage, sends_text, part_text, text_of}
use Rattle.schedule_replay.specs.Trace.{trace_from}
use Rattle.schedule_replay.specs.TraceParts.{parts_from}
use Rattle.schedule_replay.specs.ClusterParts.{ClusterPart, Shared, ModeChanged, Dropped, Framed, Replied, Misrouted, shared_text, cluster_part_text, cluster_text}
use Rattle.schedule_replay.specs.ClusterTrace.{trace_from as cluster_trace}
use Rattle.schedule_replay.specs.ClusterTraceParts.{parts_from as cluster_parts}
use Rattle.schedule_replay.proofs.Telling.{steps_text}
use Rattle.schedule_replay.proofs.ClusterTelling.{lines_piece}

both_end : (t u : List ℕ) → EndsLine t → EndsLine u → EndsLine (t ++ u)
both_end t u e Empty = subst EndsLine (sym (append-nil t)) e
both_end t u e (Fed prefix) = subst EndsLine (append_assoc t prefix (10 ∷ [])) (Fed (t ++ prefix))

-- ---- parts

won_ends : (won : Option ℕ) (n : Id) → EndsLine (won_by won n)
won_ends None n = Empty
won_ends (Some term) n = Fed (codes "won " ++ n ++ codes " " ++ decimal term)

committed_ends : (state : Option ClusterState) → EndsLine (committed_text state)
committed_ends None = Empty
committed_ends (Some state) = Fed (codes "committed " ++ state_text state)

sends_end : (sends : Option NumberedMessage) → EndsLine (sends_text sends)
sends_end None = Empty
sends_end (Some m) = Fed (codes "m" ++ decimal m.number ++ codes " " ++ address_text m.message ++ codes " " ++ message_text m.message)

act_ends : (x : ActShown) → EndsLine (act_line x.node x.ending x.act)
act_ends x = Fed (codes "act " ++ x.node ++ codes " " ++ ending_text x.ending ++ codes " " ++ act_text x.act)

step_ends : (x : TracePart) → EndsLine (part_text x)
step_ends (Echo l) = Fed (codes "> " ++ line_text l)
step_ends (Did x) =
    both_end (act_line x.node x.ending x.act) _ (act_ends x)
    (both_end (won_by x.won x.node) _ (won_ends x.won x.node) (both_end (committed_text x.committed) _ (committed_ends x.committed) (sends_end x.sends)))
step_ends (Opened n found) =
    Fed (codes "record " ++ n ++ codes " " ++ decimal found.term ++ codes " " ++ id_text found.accepted.term found.accepted.version ++ codes " " ++ list_text found.accepted.config ++ codes " " ++ list_text found.committed)
step_ends (WasDown n) = Fed (codes "down " ++ n)
step_ends (WasUp n) = Fed (codes "up " ++ n)
step_ends (WentDown n) = Fed (codes "crashed " ++ n)
step_ends (DiskFailed n) = Fed (codes "disk " ++ n)
step_ends Unsent = Fed (codes "unsent")

steps_end : (xs : List TracePart) → EndsLine (text_of xs)
steps_end [] = Empty
steps_end (x ∷ xs) = both_end (part_text x) (text_of xs) (step_ends x) (steps_end xs)

pub trace_ends : (initial : List Id) (w : World) (ls : List Line) → EndsLine (trace_from initial w ls)
trace_ends initial w ls = subst EndsLine (sym (steps_text initial w ls)) (steps_end (parts_from initial w ls))

-- ---- parts of whole nodes

shared_ends : (x : TracePart) → EndsLine (shared_text x)
shared_ends (Did x) =
    both_end (act_line x.node x.ending x.act ++ won_by x.won x.node) _
    (both_end (act_line x.node x.ending x.act) _ (act_ends x) (won_ends x.won x.node)) (committed_ends x.committed)
shared_ends (Echo l) = step_ends (Echo l)
shared_ends (Opened n found) = step_ends (Opened n found)
shared_ends (WasDown n) = step_ends (WasDown n)
shared_ends (WasUp n) = step_ends (WasUp n)
shared_ends (WentDown n) = step_ends (WentDown n)
shared_ends (DiskFailed n) = step_ends (DiskFailed n)
shared_ends Unsent = step_ends Unsent

cluster_step_ends : (x : ClusterPart) → EndsLine (cluster_part_text x)
cluster_step_ends (Shared x) = shared_ends x
cluster_step_ends (ModeChanged n mode term) = Fed (codes "mode " ++ n ++ codes " " ++ mode_text mode ++ codes " " ++ decimal term)
cluster_step_ends (Dropped n d) = Fed (codes "drop " ++ n ++ codes " " ++ d.member ++ codes " " ++ cause_text d.cause)
cluster_step_ends (Framed f) = Fed (codes "m" ++ decimal f.number ++ codes " " ++ f.frame.from ++ codes "->" ++ f.frame.to ++ codes " " ++ frame_text f.frame.message)
cluster_step_ends (Replied n answer) = Fed (codes "reply " ++ n ++ codes " " ++ reply_text answer.reply)
cluster_step_ends Misrouted = Fed (codes "misrouted")

cluster_steps_end : (xs : List ClusterPart) → EndsLine (cluster_text xs)
cluster_steps_end [] = Empty
cluster_steps_end (x ∷ xs) = both_end (cluster_part_text x) (cluster_text xs) (cluster_step_ends x) (cluster_steps_end xs)

pub cluster_trace_ends : (nodes initial voting_only : List Id) (second : Bool) (c : Cluster) (ls : List Line) → EndsLine (cluster_trace nodes initial voting_only second c ls)
cluster_trace_ends nodes initial voting_only second c ls = subst EndsLine (sym (lines_piece nodes initial voting_only second c ls).text_is) (cluster_steps_end (cluster_parts nodes initial voting_only second c ls))
