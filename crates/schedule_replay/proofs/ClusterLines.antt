-- A line that is done.
use Rattle.std.proofs.Common.{◌≡◌, ◌-◌, ℕ, Bool, true, false, not, Option, None, Some, List, ◌++◌, append_assoc, codes, length, slice_get, slice_set, get_or, take, drop, refl, sym, ◌∙◌, ap, subst, if◌then◌else◌}
use Rattle.std.specs.List.{AllByRecursion}
use Rattle.voting_config.specs.Ids.{Id, same}
use Rattle.wire_frames.specs.declared.frame.Frame.{Frame}
use Rattle.wire_frames.specs.Frames.{IsFitFrame}
use Rattle.schedule_text.specs.declared.schedule.Line.{Line}
use Rattle.schedule_text.specs.Lines.{line_text}
use Rattle.trace_text.specs.Trace.{down_line}
use Rattle.replay_node.specs.Clusters.{Cluster, after, after_event_if_up, after_frame, frame_at, own_world, settings_of}
use Rattle.replay_node.specs.NodeWorld.{needs_opening}
use Rattle.policy_model.specs.declared.settings.Settings.{Settings}
use Rattle.policy_model.specs.declared.events.Event.TheVariants.{Frame as FrameCame}
use Rattle.schedule_replay.specs.ClusterStands.{AllFor, ClusterFor, DoesLine, LineDone, WritesLine}
use Rattle.schedule_replay.specs.Own.{Own, own_in}
use Rattle.schedule_replay.specs.OwnStands.{NodeFor, OwnDone}
use Rattle.schedule_replay.specs.ClusterTrace.{event_shown, event_shown_if_up, frame_shown, line_shown}
use Rattle.schedule_replay.specs.declared.cluster.node.ClusterNode.{ClusterNode}
use Rattle.schedule_replay.proofs.Going.{GoesAs}
use Rattle.schedule_replay.proofs.ClusterMovement.{Looked, after_here, here, returned}
use Rattle.master_tasks.proofs.Limits.{each_append}

-- what the node did is what the line makes of the cluster
module _ (ids initial voting_only : List Id) (second : Bool) (l : List Id) (items lent : List ClusterNode) (frames : List Frame) (n : Id) (place len : ℕ) (looked : Looked ids initial voting_only second l items lent frames n place len) (x d : ClusterNode) where
  abbrev s : Settings
  s = settings_of ids initial voting_only second n

  pub moved : (more : List Frame) (was now : List ℕ) (after_it : Own → Own) (sent : Own → List Frame) (results : ℕ → Own → List ℕ) (later : Cluster → Cluster) (shown : Cluster → List ℕ)
      → ((c : Cluster) → GoesAs n c (later c) (after_it (own_in c n)) (sent (own_in c n)) (shown c) (results (length c.frames) (own_in c n)))
      → ((own : Own) → NodeFor s (get_or lent place x) own false → OwnDone s d (after_it own) frames more (sent own) was now (results (length frames) own))
      → DoesLine ids initial voting_only second items (take len (slice_set lent place d ++ drop (length (slice_set lent place d)) items)) frames more was now later shown
  moved more was now after_it sent results later shown goes does =
      subst (λ (new : List ClusterNode). DoesLine ids initial voting_only second items new frames more was now later shown) (sym (returned ids initial voting_only second l items lent frames n place len looked d)) by
    where
      by : DoesLine ids initial voting_only second items (slice_set items place d) frames more was now later shown
      by c stands =
          let line = goes c in
          let done = does (own_in c n) (here ids initial voting_only second l items lent frames n place len looked x c stands.stand) in
          let count : results (length frames) (own_in c n) ≡ shown c = ap (λ (fs : List Frame). results (length fs) (own_in c n)) stands.frames_sent ∙ line.shows in
          record {
            stands = record {
              stand = after_here ids initial voting_only second l items lent frames n place len looked d c (after_it (own_in c n)) (later c) line.goes done.stands stands.stand;
              frames_sent = done.sent_is ∙ ap (λ (fs : List Frame). fs ++ sent (own_in c n)) stands.frames_sent ∙ line.frames;
              fit = subst (λ (fs : List Frame). AllByRecursion IsFitFrame fs) (sym done.sent_is) (each_append IsFitFrame frames (sent (own_in c n)) stands.fit done.fit);
              ascending = stands.ascending;
            };
            written = done.written ∙ ap (λ (t : List ℕ). was ++ t) count;
          }

-- ---- deliveries

module _ (nodes initial voting_only : List Id) (second : Bool) (n : Id) (all : List ClusterNode) (frames : List Frame) (number : ℕ) where
  -- a line that hands nothing over leaves all as it is
  quiet : (f : Option Frame) (was now : List ℕ) → slice_get frames (number - 1) ≡ f → ((c : Cluster) → AllFor nodes initial voting_only second nodes all c → (after_frame (settings_of nodes initial voting_only second n) c f ≡ c) × (now ≡ was ++ frame_shown (settings_of nodes initial voting_only second n) c f))
      → DoesLine nodes initial voting_only second all all frames frames was now (λ c. after_frame (settings_of nodes initial voting_only second n) c (frame_at c number)) (λ c. frame_shown (settings_of nodes initial voting_only second n) c (frame_at c number))
  quiet f was now at does c s =
      let here : frame_at c number ≡ f = ap (λ (fs : List Frame). slice_get fs (number - 1)) (sym s.frames_sent) ∙ at in
      let done = does c s.stand in
      subst (λ (x : Option Frame). LineDone nodes initial voting_only second all frames (after_frame (settings_of nodes initial voting_only second n) c x) (frame_shown (settings_of nodes initial voting_only second n) c x) was now) (sym here)
      (record { stands = subst (λ (d : Cluster). ClusterFor nodes initial voting_only second all frames d) (sym done.0) s; written = done.1 })

  waits : (b : Bool) → false ≡ not b → b ≡ true
  waits true e = refl
  waits false e = absurd (cc)

  runs : (b : Bool) → true ≡ not b → b ≡ false
  runs true e = absurd (cc)
  runs false e = refl

  -- there is no such frame
  pub unsent_up : (was now : List ℕ) → slice_get frames (number - 1) ≡ None → ((c : Cluster) → AllFor nodes initial voting_only second nodes all c → true ≡ not (needs_opening (own_world (settings_of nodes initial voting_only second n) c))) → now ≡ was ++ codes "unsent\n"
      → DoesLine nodes initial voting_only second all all frames frames was now (λ c. after_frame (settings_of nodes initial voting_only second n) c (frame_at c number)) (λ c. frame_shown (settings_of nodes initial voting_only second n) c (frame_at c number))
  unsent_up was now none up written = quiet None was now none (λ c s.
      (refl, written ∙ sym (ap (λ (b : Bool). was ++ (if b then down_line n else codes "unsent\n")) (runs _ (up c s)))))

  pub misrouted : (frame : Frame) (was now : List ℕ) → slice_get frames (number - 1) ≡ Some frame → ((c : Cluster) → AllFor nodes initial voting_only second nodes all c → true ≡ not (needs_opening (own_world (settings_of nodes initial voting_only second n) c))) → same frame.to n ≡ false → now ≡ was ++ codes "misrouted\n"
      → DoesLine nodes initial voting_only second all all frames frames was now (λ c. after_frame (settings_of nodes initial voting_only second n) c (frame_at c number)) (λ c. frame_shown (settings_of nodes initial voting_only second n) c (frame_at c number))
  misrouted frame was now at up other written = quiet (Some frame) was now at (λ c s. (
    ap (λ (b : Bool). if b then after_event_if_up (settings_of nodes initial voting_only second n) c (FrameCame frame) else c) other,
    written ∙ sym (ap (λ (b : Bool). was ++ (if b then down_line n else (if same frame.to n then event_shown (settings_of nodes initial voting_only second n) c (FrameCame frame) else codes "misrouted\n"))) (runs _ (up c s))
        ∙ ap (λ (b : Bool). was ++ (if b then event_shown (settings_of nodes initial voting_only second n) c (FrameCame frame) else codes "misrouted\n")) other),
  ))

  -- a frame that was sent to the node is handed over
  pub handed_over : (frame : Frame) (new : List ClusterNode) (more : List Frame) (was now : List ℕ) → slice_get frames (number - 1) ≡ Some frame → ((c : Cluster) → AllFor nodes initial voting_only second nodes all c → true ≡ not (needs_opening (own_world (settings_of nodes initial voting_only second n) c)))
      → same frame.to n ≡ true
      → DoesLine nodes initial voting_only second all new frames more was now (λ c. after_event_if_up (settings_of nodes initial voting_only second n) c (FrameCame frame)) (λ c. event_shown_if_up (settings_of nodes initial voting_only second n) c (FrameCame frame))
      → DoesLine nodes initial voting_only second all new frames more was now (λ c. after_frame (settings_of nodes initial voting_only second n) c (frame_at c number)) (λ c. frame_shown (settings_of nodes initial voting_only second n) c (frame_at c number))
  handed_over frame new more was now at up mine does c s =
      let here : frame_at c number ≡ Some frame = ap (λ (fs : List Frame). slice_get fs (number - 1)) (sym s.frames_sent) ∙ at in
      let done = does c s in
      let s' : Settings = settings_of nodes initial voting_only second n in
      let there : after_event_if_up s' c (FrameCame frame) ≡ after_frame s' c (Some frame) = ap (λ (b : Bool). if b then after_event_if_up s' c (FrameCame frame) else c) (sym mine) in
      let shown : event_shown_if_up s' c (FrameCame frame) ≡ frame_shown s' c (Some frame) =
      ap (λ (b : Bool). if needs_opening (own_world s' c) then down_line n else (if b then event_shown s' c (FrameCame frame) else codes "misrouted\n")) (sym mine) in
      subst (λ (x : Option Frame). LineDone nodes initial voting_only second new more (after_frame s' c x) (frame_shown s' c x) was now) (sym here)
      (record {
        stands = subst (λ (d : Cluster). ClusterFor nodes initial voting_only second new more d) there done.stands;
        written = done.written ∙ ap (λ (t : List ℕ). was ++ t) shown;
      })

-- the echo of a line, and then its results, are its part of the trace
pub writes_line : (nodes initial voting_only : List Id) (second : Bool) (old new : List ClusterNode) (frames more : List Frame) (was echoed now : List ℕ) (l lit : Line) → l ≡ lit
    → DoesLine nodes initial voting_only second old new frames more echoed now (λ c. after nodes initial voting_only second c lit) (λ c. line_shown nodes initial voting_only second c lit) → echoed ≡ was ++ (codes "> " ++ line_text l ++ codes "\n") → WritesLine nodes initial voting_only second old new frames more was now l
writes_line nodes initial voting_only second old new frames more was echoed now l lit is does echo c s =
    let here : LineDone nodes initial voting_only second new more (after nodes initial voting_only second c l) (line_shown nodes initial voting_only second c l) echoed now =
    subst (λ (x : Line). LineDone nodes initial voting_only second new more (after nodes initial voting_only second c x) (line_shown nodes initial voting_only second c x) echoed now) (sym is) (does c s)
    in
    record { stands = here.stands; written = here.written ∙ rw echo (simp append_assoc refl) }
