-- A replay of whole nodes, line by line.
use Rattle.std.proofs.Common.{◌≡◌, ℕ, ◌+◌, ◌<◌, Bool, Option, List, [], ◌++◌, length, drop, get_or, sym, ◌∙◌, ap, subst, append_assoc, append-nil}
use Rattle.voting_config.specs.Ids.{Id}
use Rattle.wire_frames.specs.declared.frame.Frame.{Frame}
use Rattle.schedule_text.specs.declared.schedule.Line.{Line}
use Rattle.zen_link.specs.Streams.{Appended, AppendedPrefix}
use Rattle.zen_link.proofs.Appending.{appended_more, prefix_after, prefix_within}
use Rattle.replay_node.specs.Clusters.{after}
use Rattle.schedule_replay.specs.ClusterStands.{WritesLine}
use Rattle.schedule_replay.specs.ClusterTrace.{trace_from}
use Rattle.schedule_replay.specs.declared.cluster.node.ClusterNode.{ClusterNode}
use Rattle.schedule_replay.specs.ClusterSoFar.{ClusterSoFar}
use Rattle.schedule_replay.specs.SoFar.{HoldsBack}
use Rattle.schedule_replay.proofs.Progress.{left_is}

-- what is left begins with the line in hand
module _ (ids initial voting_only : List Id) (second : Bool) (nodes more : List ClusterNode) (frames sent : List Frame) (was now later : Option (List ℕ)) (held after_held none text : List ℕ) (lines : List Line) (i : ℕ) (line : Line) (all : List ℕ) (within : i < length lines) (is : line ≡ get_or lines i line) (empty : none ≡ []) (m : ClusterSoFar ids initial voting_only second nodes frames was now held (drop i lines) all) (writes : WritesLine ids initial voting_only second nodes more frames sent none text line) where
  abbrev tail : List ℕ
  tail = trace_from ids initial voting_only second (after ids initial voting_only second m.cluster line) (drop (i + 1) lines)

  -- the whole trace, with the text of the line in it
  whole_is : m.prefix ++ (held ++ (text ++ tail)) ≡ all
  whole_is =
      let step = (subst (λ (x : List ℕ). WritesLine ids initial voting_only second nodes more frames sent x text line) empty writes) m.cluster m.stands in
      ap (λ (t : List ℕ). m.prefix ++ (held ++ (t ++ tail))) step.written
      ∙ sym (ap (λ (l : List Line). m.prefix ++ (held ++ trace_from ids initial voting_only second m.cluster l)) (left_is lines i line within is))
      ∙ m.whole

  pub goes_on : HoldsBack now later held after_held text → ClusterSoFar ids initial voting_only second more sent was later after_held (drop (i + 1) lines) all
  goes_on h =
      let step = writes m.cluster m.stands in
      record {
        cluster = after ids initial voting_only second m.cluster line;
        stands = step.stands;
        prefix = m.prefix ++ h.prefix;
        written = appended_more was now later m.prefix h.prefix m.written h.written;
        whole =
            append_assoc m.prefix h.prefix (after_held ++ tail)
            ∙ ap (λ (t : List ℕ). m.prefix ++ t) (sym (append_assoc h.prefix after_held tail) ∙ ap (λ (t : List ℕ). t ++ tail) h.whole ∙ append_assoc held text tail)
            ∙ whole_is;
      }

  pub fails : AppendedPrefix now later (held ++ text) → AppendedPrefix was later all
  fails h =
      let prefix = prefix_within now later (held ++ text) tail (held ++ (text ++ tail)) (append_assoc held text tail) h in
      subst (λ (t : List ℕ). AppendedPrefix was later t) whole_is (prefix_after was now later m.prefix (held ++ (text ++ tail)) m.written prefix)

module _ (ids initial voting_only : List Id) (second : Bool) (nodes : List ClusterNode) (frames : List Frame) (was now later : Option (List ℕ)) (held bytes : List ℕ) (left : List Line) (all : List ℕ) where
  pub stops : bytes ≡ held → ClusterSoFar ids initial voting_only second nodes frames was now held left all → AppendedPrefix now later bytes → AppendedPrefix was later all
  stops e m h =
      let tail : List ℕ = trace_from ids initial voting_only second m.cluster left in
      let prefix = prefix_within now later bytes tail (held ++ tail) (ap (λ (t : List ℕ). t ++ tail) e) h in
      subst (λ (t : List ℕ). AppendedPrefix was later t) m.whole (prefix_after was now later m.prefix (held ++ tail) m.written prefix)

  pub ends : left ≡ [] → bytes ≡ held → ClusterSoFar ids initial voting_only second nodes frames was now held left all → Appended now later bytes → Appended was later all
  ends none e m h =
      let whole : m.prefix ++ bytes ≡ all =
      ap (λ (t : List ℕ). m.prefix ++ t) (e ∙ sym (append-nil held))
      ∙ sym (ap (λ (l : List Line). m.prefix ++ (held ++ trace_from ids initial voting_only second m.cluster l)) none)
      ∙ m.whole
      in
      subst (λ (t : List ℕ). Appended was later t) whole (appended_more was now later m.prefix bytes m.written h)
