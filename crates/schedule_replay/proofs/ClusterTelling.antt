-- The trace of a schedule of whole nodes is the text of its parts, and the parts tell its history and its frames.
use Rattle.std.proofs.Common.{◌≡◌, ℕ, Bool, true, false, Option, None, Some, List, [], ◌∷◌, ◌++◌, length, refl, sym, ap, subst, append_assoc, codes, ◌∙◌, if◌then◌else◌}
use Rattle.voting_config.specs.Ids.{Id, same}
use Rattle.cluster_state.specs.declared.state.Kept.{Kept}
use Rattle.master_tasks.specs.declared.waiting.Outgoing.{Outgoing}
use Rattle.wire_frames.specs.declared.frame.Frame.{Frame}
use Rattle.world_model.specs.Histories.{History, node_history}
use Rattle.schedule_text.specs.declared.schedule.Line.{Line}
use Rattle.schedule_text.specs.declared.schedule.Line.TheVariants as line
use Rattle.schedule_text.specs.Lines.{line_text}
use Rattle.trace_text.specs.Trace.{crashed_line, down_line, up_line}
use Rattle.event_text.specs.Events.{drop_line, reply_line}
use Rattle.policy_model.specs.declared.settings.Settings.{Settings}
use Rattle.policy_model.specs.declared.events.Event.{Event}
use Rattle.policy_model.specs.declared.events.Event.TheVariants.{Start, Tick, Frame as FrameCame, Client as LineCame, Disconnected as PeerGone}
use Rattle.policy_model.specs.declared.events.MemberDrop.{MemberDrop}
use Rattle.policy_model.specs.Events.{Item, Begins, And}
use Rattle.policy_model.specs.Entries.{log_of, deeds_of, drops_of, frames_of, replies_of}
use Rattle.policy_model.specs.Follows.{items_of}
use Rattle.policy_model.specs.Views.{view_of}
use Rattle.policy_model.proofs.Answering.{answered-next}
use Rattle.replay_node.specs.NodeDisk.{CallsEnd, Done, Failed, CrashedIn, opening}
use Rattle.replay_node.specs.NodeWorld.{found_at, needs_opening, opening_text, after_crash}
use Rattle.replay_node.specs.Worlds.{World, history_opened, node_world, with_node}
use Rattle.replay_node.specs.Clusters.{Cluster, after, after_event, after_event_if_up, after_frame, after_restart, event_course, frame_at, opened_by, own_world, replayed_from, settings_of, with_opened}
use Rattle.schedule_replay.specs.Parts.{Echo, WasDown, WasUp, WentDown, Unsent}
use Rattle.schedule_replay.specs.TraceParts.{opening_part}
use Rattle.schedule_replay.specs.ClusterTrace.{items_text, event_shown, event_shown_if_up, frame_shown, start_shown, restart_shown, line_shown, trace_from}
use Rattle.schedule_replay.specs.ClusterParts.{ClusterPart, Shared, Dropped, Replied, Misrouted, shared_text}
use Rattle.schedule_replay.specs.ClusterTraceParts.{items_parts, event_parts, event_parts_if_up, frame_parts, start_parts, restart_parts, line_parts, parts_from}
use Rattle.schedule_replay.proofs.Right.{opening_right}
use Rattle.schedule_replay.proofs.Telling.{opening_told, opening_no_line}
use Rattle.schedule_replay.proofs.ClusterPieces.{Piece, both, nothing, shared, still, stills, frames_sent}
use Rattle.schedule_replay.proofs.ClusterPlays.{LeadTo, answered_shut, plays_lead, steps_piece}

-- ---- an event

items_piece : (n : Id) (h g : History) (fs : List Frame) (items : List Item) → LeadTo n h (deeds_of items) g
    → Piece h fs g (fs ++ frames_of items) (items_text (length fs) n (node_history h n) items) [] (items_parts h (length fs) n items)
items_piece n h g fs items l =
    let acts = steps_piece n h fs (deeds_of items) g l in
    let drops = stills g fs (drop_line n) (Dropped n) (λ (d : MemberDrop). still g fs (drop_line n d) (Dropped n d) refl refl refl) (drops_of items) in
    let frames = frames_sent g fs (frames_of items) in
    let replies = stills g (fs ++ frames_of items) (reply_line n) (Replied n) (λ (a : Outgoing). still g (fs ++ frames_of items) (reply_line n a) (Replied n a) refl refl refl) (replies_of items) in
    both h g g fs _ _ _ _ [] [] _ _ (both h g g fs _ _ _ _ [] [] _ _ (both h g g fs fs fs _ _ [] [] _ _ acts drops) frames) replies

-- from all nodes before to all nodes after
abbrev PieceOf : Cluster → Cluster → List ℕ → List Line → List ClusterPart → Type 0
PieceOf c d text ls xs = Piece c.world.history c.frames d.world.history d.frames text ls xs

module _ (s : Settings) where
  event_piece : (c : Cluster) (event : Event) → PieceOf c (after_event s c event) (event_shown s c event) [] (event_parts s c event)
  event_piece c event =
      items_piece s.me c.world.history (event_course s c event).world.history c.frames (event_course s c event).items
      (plays_lead s.me c.world (items_of s (log_of (c.lives s.me)) event)
      (answered_shut s (view_of s (And (log_of (c.lives s.me)) (Begins event))) (items_of s (log_of (c.lives s.me)) event) (answered-next s (view_of s (And (log_of (c.lives s.me)) (Begins event))) event)))

  was_down : (c : Cluster) → PieceOf c c (down_line s.me) [] (Shared (WasDown s.me) ∷ [])
  was_down c = shared c.world.history c.world.history c.frames (down_line s.me) [] (WasDown s.me) refl refl tt refl

  if_up : (c : Cluster) (event : Event) → PieceOf c (after_event_if_up s c event) (event_shown_if_up s c event) [] (event_parts_if_up s c event)
  if_up c event = from (needs_opening (own_world s c))
    where
      from : (b : Bool) → PieceOf c (if b then c else after_event s c event) (if b then down_line s.me else event_shown s c event) [] (if b then Shared (WasDown s.me) ∷ [] else event_parts s c event)
      from true = was_down c
      from false = event_piece c event

  frame_piece : (c : Cluster) (f : Option Frame) → PieceOf c (after_frame s c f) (frame_shown s c f) [] (frame_parts s c f)
  frame_piece c None = from (needs_opening (own_world s c))
    where
      from : (b : Bool) → PieceOf c c (if b then down_line s.me else codes "unsent\n") [] ((if b then Shared (WasDown s.me) else Shared Unsent) ∷ [])
      from true = was_down c
      from false = shared c.world.history c.world.history c.frames (codes "unsent\n") [] Unsent refl refl tt refl
  frame_piece c (Some frame) = from (needs_opening (own_world s c)) (same frame.to s.me)
    where
      from : (down own : Bool) → PieceOf c (if own then (if down then c else after_event s c (FrameCame frame)) else c)
          (if down then down_line s.me else (if own then event_shown s c (FrameCame frame) else codes "misrouted\n")) []
          (if down then Shared (WasDown s.me) ∷ [] else (if own then event_parts s c (FrameCame frame) else Misrouted ∷ []))
      from true true = was_down c
      from true false = was_down c
      from false true = event_piece c (FrameCame frame)
      from false false = still c.world.history c.frames (codes "misrouted\n") Misrouted refl refl refl

  -- ---- a restart

  opening_text_is : (n : Id) (end : CallsEnd) (found : Kept) → opening_text end n found ≡ shared_text (opening_part end n found)
  opening_text_is n Done found = refl
  opening_text_is n Failed found = refl
  opening_text_is n (CrashedIn way) found = refl

  opening_piece : (h : History) (fs : List Frame) (n : Id) (end : CallsEnd) (found : Kept) → Piece h fs (history_opened end h n found) fs (opening_text end n found) [] (Shared (opening_part end n found) ∷ [])
  opening_piece h fs n end found =
      shared h (history_opened end h n found) fs (opening_text end n found) [] (opening_part end n found) (opening_text_is n end found) (opening_no_line end n found) (opening_right h n end found)
      (opening_told h n end found)

  -- the first event follows an opening that succeeds
  start_piece : (c : Cluster) (end : CallsEnd) → PieceOf (with_opened s c) (opened_by s end c) (start_shown s end c) [] (start_parts s end c)
  start_piece c Done = event_piece (with_opened s c) Start
  start_piece c Failed = nothing _ c.frames
  start_piece c (CrashedIn way) = nothing _ c.frames

  restart_by : (c : Cluster) (end : CallsEnd) (found : Kept) → end ≡ (opening (c.world.disks s.me)).ended → found ≡ found_at (node_world c.world s.me) → (b : Bool)
      → PieceOf c (if b then opened_by s end c else c)
      ((if b then opening_text end s.me found else up_line s.me) ++ (if b then start_shown s end c else [])) []
      (Shared (if b then opening_part end s.me found else WasUp s.me) ∷ (if b then start_parts s end c else []))
  restart_by c end found e f true =
      let opened = subst (λ (h : History). Piece c.world.history c.frames h c.frames (opening_text end s.me found) [] (Shared (opening_part end s.me found) ∷ []))
      (λ i. history_opened (e i) c.world.history s.me (f i)) (opening_piece c.world.history c.frames s.me end found)
      in
      both _ _ _ c.frames c.frames _ _ _ [] [] (Shared (opening_part end s.me found) ∷ []) _ opened (start_piece c end)
  restart_by c end found e f false =
      both _ _ _ c.frames c.frames _ _ [] [] [] (Shared (WasUp s.me) ∷ []) [] (shared c.world.history c.world.history c.frames (up_line s.me) [] (WasUp s.me) refl refl tt refl)
      (nothing c.world.history c.frames)

  restart_piece : (c : Cluster) → PieceOf c (after_restart s c) (restart_shown s c) [] (restart_parts s c)
  restart_piece c = restart_by c (opening (c.world.disks s.me)).ended (found_at (node_world c.world s.me)) refl refl (needs_opening (own_world s c))

-- ---- the lines

module _ (nodes initial voting_only : List Id) (second : Bool) where
  crash_piece : (c : Cluster) (n : Id) (x : World) → x.history ≡ c.world.history → (b : Bool)
      → PieceOf c (record c { world = if b then c.world else x }) (if b then down_line n else crashed_line n) [] ((if b then Shared (WasDown n) else Shared (WentDown n)) ∷ [])
  crash_piece c n x e true = shared c.world.history c.world.history c.frames (down_line n) [] (WasDown n) refl refl tt refl
  crash_piece c n x e false = shared c.world.history x.history c.frames (crashed_line n) [] (WentDown n) refl refl tt (sym e)

  line_piece : (c : Cluster) (l : Line) → PieceOf c (after nodes initial voting_only second c l) (line_shown nodes initial voting_only second c l) [] (line_parts nodes initial voting_only second c l)
  line_piece c (line.Tick n now word) = if_up (settings_of nodes initial voting_only second n) c (Tick now word)
  line_piece c (line.Client n bytes) = if_up (settings_of nodes initial voting_only second n) c (LineCame 0 bytes)
  line_piece c (line.Disconnect n peer) = if_up (settings_of nodes initial voting_only second n) c (PeerGone peer)
  line_piece c (line.Deliver n number) = frame_piece (settings_of nodes initial voting_only second n) c (frame_at c number)
  line_piece c (line.Crash n way) = crash_piece c n (with_node c.world n c.world.history (after_crash way (node_world c.world n))) refl (c.world.down n)
  line_piece c (line.Restart n) = restart_piece (settings_of nodes initial voting_only second n) c
  line_piece c (line.Fuse n count way) = nothing c.world.history c.frames
  line_piece c (line.Fail n count) = nothing c.world.history c.frames
  line_piece c (line.Boot n) = nothing c.world.history c.frames
  line_piece c (line.StartJoin n candidate term) = nothing c.world.history c.frames
  line_piece c (line.Value n version text config) = nothing c.world.history c.frames

  echo_piece : (c : Cluster) (l : Line) → PieceOf c c (codes "> " ++ line_text l ++ codes "\n") (l ∷ []) (Shared (Echo l) ∷ [])
  echo_piece c l = shared c.world.history c.world.history c.frames (codes "> " ++ line_text l ++ codes "\n") (l ∷ []) (Echo l) refl refl tt refl

  pub lines_piece : (c : Cluster) (ls : List Line) → PieceOf c (replayed_from nodes initial voting_only second c ls) (trace_from nodes initial voting_only second c ls) ls (parts_from nodes initial voting_only second c ls)
  lines_piece c [] = nothing c.world.history c.frames
  lines_piece c (l ∷ ls) =
      let d : Cluster = after nodes initial voting_only second c l in
      let first = both c.world.history c.world.history d.world.history c.frames c.frames d.frames _ _ (l ∷ []) [] (Shared (Echo l) ∷ []) (line_parts nodes initial voting_only second c l) (echo_piece c l) (line_piece c l) in
      both c.world.history d.world.history _ c.frames d.frames _ _ _ (l ∷ []) ls (Shared (Echo l) ∷ line_parts nodes initial voting_only second c l) (parts_from nodes initial voting_only second d ls) first (lines_piece d ls)

  -- ---- more lines

  abbrev GoesOn : List ClusterPart → List ClusterPart → Type 0
  GoesOn old new = (rest : List ClusterPart) × (new ≡ old ++ rest)

  behind : (prefix old new : List ClusterPart) → GoesOn old new → GoesOn (prefix ++ old) (prefix ++ new)
  behind prefix old new g = (g.0, ap (λ x. prefix ++ x) g.1 ∙ sym (append_assoc prefix old g.0))

  pub go_on : (c : Cluster) (ls more : List Line) → GoesOn (parts_from nodes initial voting_only second c ls) (parts_from nodes initial voting_only second c (ls ++ more))
  go_on c [] more = (parts_from nodes initial voting_only second c more, refl)
  go_on c (l ∷ ls) more = behind (Shared (Echo l) ∷ line_parts nodes initial voting_only second c l) _ _ (go_on (after nodes initial voting_only second c l) ls more)
