-- The trace of a schedule of whole nodes is read as its own history, and found legal.
use Rattle.std.proofs.Common.{◌≡◌, ℕ, ◌+◌, ◌≤◌, Bool, true, false, None, Some, Option, List, [], ◌∷◌, ◌++◌, length, map, sym, ap, ◌∙◌, subst, if◌then◌else◌, IsTrue, arith, length-append, append-nil, codes, decimal, refl}
use Rattle.std.specs.List.{AllByRecursion, list_all}
use Rattle.voting_config.specs.Ids.{Id, is_id, has, same, most_ids, IsIdSet}
use Rattle.cluster_state.proofs.Fitting.{fits_ids}
use Rattle.cluster_state.specs.declared.state.ClusterState.{ClusterState}
use Rattle.cluster_state.specs.declared.state.Kept.{Kept}
use Rattle.wire_frames.specs.declared.frame.Frame.{Frame}
use Rattle.world_model.specs.declared.acts.Act.{Act}
use Rattle.world_model.specs.declared.acts.Act.TheVariants.{Bootstrap, StartJoin, TakeJoin, Value, Publish, Response, Commit, Open}
use Rattle.world_model.specs.declared.acts.Outcome.{Outcome}
use Rattle.world_model.specs.Histories.{History, NoEntries, Next, node_history, IsLegal}
use Rattle.schedule_text.specs.declared.level.Level.TheVariants.{Node}
use Rattle.schedule_text.specs.declared.schedule.Line.{Line}
use Rattle.schedule_text.specs.declared.schedule.Line.TheVariants as line
use Rattle.schedule_text.specs.declared.schedule.Schedule.{Schedule}
use Rattle.schedule_text.specs.Lines.{FitsLine, FitsNode}
use Rattle.schedule_text.proofs.WordLaws.{has_id}
use Rattle.trace_text.specs.Endings.{ending_of}
use Rattle.trace_text.specs.Published.{last_published}
use Rattle.trace_text.specs.Trace.{act_line, committed_text}
use Rattle.recorded_trace.specs.declared.entry.Entry.TheVariants.{Acted}
use Rattle.recorded_trace.specs.Reading.{most_bytes}
use Rattle.line_laws.specs.Readable.{IsListed}
use Rattle.line_laws.specs.Read.{header, IsSkipped}
use Rattle.line_laws.proofs.Skips.{event_read, node_read}
use Rattle.policy_model.specs.declared.settings.Settings.{Settings}
use Rattle.policy_model.specs.declared.events.Event.{Event}
use Rattle.policy_model.specs.declared.events.Event.TheVariants.{Start, Tick, Frame as FrameCame, Client as LineCame, Disconnected as PeerGone}
use Rattle.policy_model.specs.declared.events.Deed.{Deed as NodeStep}
use Rattle.policy_model.specs.declared.events.Deed.TheVariants as deed
use Rattle.policy_model.specs.Events.{Item}
use Rattle.policy_model.specs.Entries.{deeds_of, drops_of, frames_of, replies_of}
use Rattle.replay_node.specs.Did.{won_by}
use Rattle.replay_node.specs.NodeDisk.{CallsEnd, Done, Failed, CrashedIn, opening}
use Rattle.replay_node.specs.NodeWorld.{found_at, needs_opening}
use Rattle.replay_node.specs.Worlds.{World, node_world}
use Rattle.replay_node.specs.Clusters.{Cluster, after, event_course, frame_at, fresh_cluster, own_world, replayed, replayed_history, settings_of, with_opened}
use Rattle.schedule_replay.specs.ActShown.{state_committed, won_term}
use Rattle.schedule_replay.specs.Levels.{trace_at}
use Rattle.schedule_replay.specs.Parts.{ActShown, TracePart, Echo, Did, Opened, WasDown, WasUp, WentDown, DiskFailed, Unsent}
use Rattle.schedule_replay.specs.HistoryShown.{history_shown_by, state_in, win_in}
use Rattle.schedule_replay.specs.TraceParts.{opening_part}
use Rattle.schedule_replay.specs.ClusterParts.{NumberedFrame, ClusterPart, Shared, ModeChanged, Dropped, Framed, Replied, Misrouted, act_text, shared_text, cluster_part_text, cluster_text}
use Rattle.schedule_replay.specs.ClusterShown.{core_of, frames_in, numbered_frames}
use Rattle.schedule_replay.specs.ClusterTraceParts.{cluster_parts, event_parts, event_parts_if_up, frame_parts, items_parts, line_parts, policy_parts, restart_parts, start_parts, parts_from}
use Rattle.schedule_replay.proofs.Along.{Along, IsSound}
use Rattle.schedule_replay.proofs.ClusterTelling.{lines_piece}
use Rattle.schedule_replay.proofs.Sound.{sound_along}
use Rattle.cluster_replay.specs.Laws.{IsWellFormed, node_of}
use Rattle.cluster_replay.proofs.Schedules.{cluster_replay_is_legal, fresh_sound}
use Rattle.replay_audit.specs.Audits.{recorded_trace, CanBeAuditedWhole, LawWholeReplayIsRead, LawWholeReplayIsAudited}
use Rattle.replay_audit.proofs.Core.{audits_as, read_as}
use Rattle.replay_audit.proofs.Entries.{entry_in, entries_of, steps_entries}
use Rattle.replay_audit.proofs.Named.{IsNamed, IsNamedAct, named_lines}
use Rattle.replay_audit.proofs.Readable.{AllReadable, IsGivenAct, ends_as}
use Rattle.replay_audit.specs.ShownLines.{state_line, win_line}
use Rattle.replay_audit.proofs.Steps.{IsGiven, committed_counts, counts_of, did_counts, did_readable, line_shows, quiet_shows, state_lines, state_lines_of, state_shows, step_counts, told_readable, won_counts, won_lines, won_lines_of, won_shows}
use Rattle.trace_summary.specs.declared.counts.Counts.{Counts}
use Rattle.trace_summary.specs.Counted.{no_counts}
use Rattle.replay_audit.proofs.Counting.{Reads, both_read, counted, ended, line_reads, moved, plus_assoc, plus_none, shows}
use Rattle.replay_audit.proofs.Counting.Reads.{NoLine}

-- ---- whose the parts are

-- the node of the part has an id, and a line that is echoed is of these nodes
abbrev IsOwn : List Id → ClusterPart → Type 0
IsOwn nodes (Shared (Echo l)) = FitsLine Node nodes l
IsOwn nodes (Shared (Did x)) = IsTrue (is_id x.node)
IsOwn nodes (Shared (Opened n found)) = IsTrue (is_id n)
IsOwn nodes (Shared (WasDown n)) = IsTrue (is_id n)
IsOwn nodes (Shared (WasUp n)) = IsTrue (is_id n)
IsOwn nodes (Shared (WentDown n)) = IsTrue (is_id n)
IsOwn nodes (Shared (DiskFailed n)) = IsTrue (is_id n)
IsOwn nodes (Shared Unsent) = Unit {0}
IsOwn nodes (ModeChanged n mode term) = IsTrue (is_id n)
IsOwn nodes (Dropped n d) = IsTrue (is_id n)
IsOwn nodes (Framed f) = Unit {0}
IsOwn nodes (Replied n answer) = IsTrue (is_id n)
IsOwn nodes Misrouted = Unit {0}

abbrev AreOwn : List Id → List ClusterPart → Type 0
AreOwn nodes xs = AllByRecursion (IsOwn nodes) xs

own_append : (nodes : List Id) (xs ys : List ClusterPart) → AreOwn nodes xs → AreOwn nodes ys → AreOwn nodes (xs ++ ys)
own_append nodes [] ys a b = b
own_append nodes (x ∷ xs) ys a b = (a.0, own_append nodes xs ys a.1 b)

own_map : {A : Type 0} (nodes : List Id) (f : A → ClusterPart) → ((a : A) → IsOwn nodes (f a)) → (items : List A) → AreOwn nodes (map f items)
own_map nodes f h [] = tt
own_map nodes f h (a ∷ items) = (h a, own_map nodes f h items)

own_if : (nodes : List Id) (b : Bool) (xs ys : List ClusterPart) → AreOwn nodes xs → AreOwn nodes ys → AreOwn nodes (if b then xs else ys)
own_if nodes true xs ys p q = p
own_if nodes false xs ys p q = q

own_one : (nodes : List Id) (b : Bool) (x y : ClusterPart) → IsOwn nodes x → IsOwn nodes y → AreOwn nodes ((if b then x else y) ∷ [])
own_one nodes true x y p q = (p, tt)
own_one nodes false x y p q = (q, tt)

own_policy : (nodes : List Id) (h : History) (n : Id) (ss : List NodeStep) → IsTrue (is_id n) → AreOwn nodes (policy_parts h n ss)
own_policy nodes h n [] good = tt
own_policy nodes h n (deed.Act act o ∷ ss) good = (good, own_policy nodes (Next h n act o) n ss good)
own_policy nodes h n (deed.Mode mode term ∷ ss) good = (good, own_policy nodes h n ss good)

own_items : (nodes : List Id) (h : History) (count : ℕ) (n : Id) (items : List Item) → IsTrue (is_id n) → AreOwn nodes (items_parts h count n items)
own_items nodes h count n items good =
    own_append nodes _ (map (Replied n) (replies_of items))
    (own_append nodes _ (map Framed (numbered_frames count (frames_of items)))
    (own_append nodes (policy_parts h n (deeds_of items)) (map (Dropped n) (drops_of items)) (own_policy nodes h n (deeds_of items) good) (own_map nodes (Dropped n) (λ d. good) (drops_of items)))
    (own_map nodes Framed (λ f. tt) (numbered_frames count (frames_of items))))
    (own_map nodes (Replied n) (λ a. good) (replies_of items))

module _ (nodes : List Id) (s : Settings) (good : IsTrue (is_id s.me)) where
  own_event : (c : Cluster) (e : Event) → AreOwn nodes (event_parts s c e)
  own_event c e = own_items nodes c.world.history (length c.frames) s.me (event_course s c e).items good

  own_event_if_up : (c : Cluster) (e : Event) → AreOwn nodes (event_parts_if_up s c e)
  own_event_if_up c e = own_if nodes (needs_opening (own_world s c)) _ _ (good, tt) (own_event c e)

  own_frame : (c : Cluster) (o : Option Frame) → AreOwn nodes (frame_parts s c o)
  own_frame c None = own_one nodes (needs_opening (own_world s c)) (Shared (WasDown s.me)) (Shared Unsent) good tt
  own_frame c (Some f) = own_if nodes (needs_opening (own_world s c)) _ _ (good, tt) (own_if nodes (same f.to s.me) _ _ (own_event c (FrameCame f)) (tt, tt))

  own_opening : (end : CallsEnd) (found : Kept) → IsOwn nodes (Shared (opening_part end s.me found))
  own_opening Done found = good
  own_opening Failed found = good
  own_opening (CrashedIn way) found = good

  own_start : (end : CallsEnd) (c : Cluster) → AreOwn nodes (start_parts s end c)
  own_start Done c = own_event (with_opened s c) Start
  own_start Failed c = tt
  own_start (CrashedIn way) c = tt

  own_restart_step : (w : World) (b : Bool) (x y : TracePart) → IsOwn nodes (Shared x) → IsOwn nodes (Shared y) → IsOwn nodes (Shared (if b then x else y))
  own_restart_step w true x y p q = p
  own_restart_step w false x y p q = q

  own_restart : (c : Cluster) → AreOwn nodes (restart_parts s c)
  own_restart c = (
    own_restart_step c.world (needs_opening (node_world c.world s.me)) _ _ (own_opening (opening (c.world.disks s.me)).ended (found_at (node_world c.world s.me))) good,
    own_if nodes (needs_opening (own_world s c)) _ _ (own_start (opening (own_world s c).disk).ended c) tt,
  )

module _ (nodes initial voting_only : List Id) (second : Bool) (each : IsTrue (list_all is_id nodes)) where
  own_line : (c : Cluster) (l : Line) → FitsNode nodes l → AreOwn nodes (line_parts nodes initial voting_only second c l)
  own_line c (line.Tick n now word) f = own_event_if_up nodes (settings_of nodes initial voting_only second n) (has_id n nodes each f.0) c (Tick now word)
  own_line c (line.Client n bytes) f = own_event_if_up nodes (settings_of nodes initial voting_only second n) (has_id n nodes each f.0) c (LineCame 0 bytes)
  own_line c (line.Disconnect n peer) f = own_event_if_up nodes (settings_of nodes initial voting_only second n) (has_id n nodes each f.0) c (PeerGone peer)
  own_line c (line.Deliver n number) f = own_frame nodes (settings_of nodes initial voting_only second n) (has_id n nodes each f.0) c (frame_at c number)
  own_line c (line.Crash n way) f = let good = has_id n nodes each f.0 in own_one nodes (c.world.down n) (Shared (WasDown n)) (Shared (WentDown n)) good good
  own_line c (line.Restart n) f = own_restart nodes (settings_of nodes initial voting_only second n) (has_id n nodes each f) c
  own_line c (line.Fuse n count way) f = tt
  own_line c (line.Fail n count) f = tt
  own_line c (line.Boot n) f = absurd f
  own_line c (line.StartJoin n candidate term) f = absurd f
  own_line c (line.Value n version text config) f = absurd f

  own_lines : (c : Cluster) (ls : List Line) → AllByRecursion (FitsLine Node nodes) ls → AreOwn nodes (parts_from nodes initial voting_only second c ls)
  own_lines c [] f = tt
  own_lines c (l ∷ ls) f = (f.0, own_append nodes (line_parts nodes initial voting_only second c l) (parts_from nodes initial voting_only second (after nodes initial voting_only second c l) ls) (own_line c l f.0) (own_lines (after nodes initial voting_only second c l) ls f.1))

-- ---- what the parts show

given_act : (act : Act) → IsNamedAct act → IsGivenAct act
given_act (StartJoin candidate term) h = h
given_act (Value version config value) h = h
given_act (Bootstrap config) h = tt
given_act (TakeJoin join) h = tt
given_act (Publish request) h = tt
given_act (Response response) h = tt
given_act (Commit commit) h = tt
given_act (Open found) h = tt

given : (nodes : List Id) (x : TracePart) → IsOwn nodes (Shared x) → IsNamed (Shared x) → IsGiven Node nodes x
given nodes (Echo l) o n = o
given nodes (Did x) o n = (o, given_act x.act n)
given nodes (Opened n found) o m = o
given nodes (WasDown n) o m = o
given nodes (WasUp n) o m = o
given nodes (WentDown n) o m = o
given nodes (DiskFailed n) o m = o
given nodes Unsent o m = tt

some_line : (f : NumberedFrame) → 1 ≤ length (cluster_part_text (Framed f))
some_line f = omega arith

first_frame : (count : ℕ) (f : NumberedFrame) (xs : List NumberedFrame) (fs : List Frame) → f ∷ xs ≡ numbered_frames count fs → (f.number ≡ count + 1) × ((gs : List Frame) × (xs ≡ numbered_frames (count + 1) gs))
first_frame count f xs [] e = absurd cc
first_frame count f xs (g ∷ gs) e = (ap (λ l. number_of l) e, (gs, ap (λ l. rest_of l) e))
  where
    number_of : List NumberedFrame → ℕ
    number_of [] = f.number
    number_of (x ∷ rest) = x.number

    rest_of : List NumberedFrame → List NumberedFrame
    rest_of [] = xs
    rest_of (x ∷ rest) = rest

module _ (initial : List Id) (set : IsListed initial) (nodes : List Id) (ids : IsIdSet nodes) where
  -- an act without its message, which whole nodes show as frames
  act_shows : (h : History) (x : ActShown) → IsSound initial h (Did x) → IsTrue (is_id x.node) → IsGivenAct x.act → AllReadable h → Reads (act_text x) (entry_in (Did x)) (did_counts x) (won_lines x.node x.won) (state_lines x.committed)
  act_shows h x s good given r =
      let o : Outcome = s.right.outcome in
      let can = did_readable initial set h x s given r in
      let legal : IsLegal initial (Next h x.node x.act o) = subst (λ (p : Outcome). IsLegal initial (Next h x.node x.act p)) s.right.tells s.behind in
      let ends = ends_as initial h x.node x.act o legal r good can in
      let committed : Option ClusterState = state_committed o (last_published (node_history h x.node)) in
      let won : Option ℕ = won_term x.act o in
      let e = ending_of o in
      subst (λ (y : ActShown). Reads (act_text y) (entry_in (Did y)) (did_counts y) (won_lines y.node y.won) (state_lines y.committed)) (sym s.right.is_shown)
      (moved _ _ (Acted x.node e x.act ∷ []) _ _ (won_lines x.node won ++ []) (won_lines x.node won) (state_lines committed) (state_lines committed) refl (plus_assoc (ended e) (won_counts won) (committed_counts committed)) (append-nil (won_lines x.node won)) refl
      (both_read (act_line x.node e x.act ++ won_by won x.node) (committed_text committed) (Acted x.node e x.act ∷ []) [] _ (committed_counts committed) (won_lines x.node won) [] [] (state_lines committed)
      (both_read (act_line x.node e x.act) (won_by won x.node) (Acted x.node e x.act ∷ []) [] (ended e) (won_counts won) [] (won_lines x.node won) [] [] (line_shows x.node e x.act good s.right.shut ends can) (won_shows x.node x.act o good))
      (state_shows committed)))

  shared_shows : (h : History) (x : TracePart) → IsSound initial h x → IsGiven Node nodes x → AllReadable h → Reads (shared_text x) (entry_in x) (step_counts x) (map win_line (win_in x)) (map state_line (state_in x))
  shared_shows h (Did x) s g r = act_shows h x s g.0 g.1 r
  shared_shows h (Opened n found) s g r = quiet_shows initial set Node nodes h (Opened n found) refl ids s g r
  shared_shows h (Echo l) s g r = quiet_shows initial set Node nodes h (Echo l) refl ids s g r
  shared_shows h (WasDown n) s g r = quiet_shows initial set Node nodes h (WasDown n) refl ids s g r
  shared_shows h (WasUp n) s g r = quiet_shows initial set Node nodes h (WasUp n) refl ids s g r
  shared_shows h (WentDown n) s g r = quiet_shows initial set Node nodes h (WentDown n) refl ids s g r
  shared_shows h (DiskFailed n) s g r = quiet_shows initial set Node nodes h (DiskFailed n) refl ids s g r
  shared_shows h Unsent s g r = quiet_shows initial set Node nodes h Unsent refl ids s g r

  -- a line that tells nothing of the history, before others
  behind : (text : List ℕ) (verb : List ℕ) (xs : List ClusterPart) → IsSkipped verb text → ((rest : List (List ℕ)) → counted (verb ∷ rest) ≡ no_counts) → Reads (cluster_text xs) (entries_of (core_of xs)) (counts_of (core_of xs)) (won_lines_of (core_of xs)) (state_lines_of (core_of xs))
      → Reads (text ++ cluster_text xs) (entries_of (core_of xs)) (counts_of (core_of xs)) (won_lines_of (core_of xs)) (state_lines_of (core_of xs))
  behind text verb xs skip none rest =
      subst (λ (c : Counts). Reads (text ++ cluster_text xs) (entries_of (core_of xs)) c (won_lines_of (core_of xs)) (state_lines_of (core_of xs))) (plus_none (counts_of (core_of xs)))
      (both_read text (cluster_text xs) [] (entries_of (core_of xs)) no_counts (counts_of (core_of xs)) [] (won_lines_of (core_of xs)) [] (state_lines_of (core_of xs)) (line_reads text (verb ∷ []) None no_counts skip none refl refl) rest)

  steps_show : (h : History) (count : ℕ) (fs : List Frame) (xs : List ClusterPart) → frames_in xs ≡ numbered_frames count fs → Along (IsSound initial) h (core_of xs) → AreOwn nodes xs → AllByRecursion IsNamed xs → AllReadable h → count + length (cluster_text xs) ≤ most_bytes
      → Reads (cluster_text xs) (entries_of (core_of xs)) (counts_of (core_of xs)) (won_lines_of (core_of xs)) (state_lines_of (core_of xs))
  steps_show h count fs [] e a o n r few = NoLine
  steps_show h count fs (Shared x ∷ xs) e a o n r few =
      let g = given nodes x o.0 n.0 in
      both_read (shared_text x) (cluster_text xs) (entry_in x) (entries_of (core_of xs)) (step_counts x) (counts_of (core_of xs)) (map win_line (win_in x)) (won_lines_of (core_of xs)) (map state_line (state_in x)) (state_lines_of (core_of xs)) (shared_shows h x a.0 g r)
      (steps_show (history_shown_by h x) count fs xs e a.1 o.1 n.1 (told_readable initial set Node nodes h x a.0 g r) (omega (arith, few, length-append (shared_text x) (cluster_text xs))))
  steps_show h count fs (ModeChanged m mode term ∷ xs) e a o n r few =
      behind _ (codes "mode") xs (event_read.mode m mode term o.0 n.0) (λ rest. refl) (steps_show h count fs xs e a o.1 n.1 r (omega (arith, few, length-append (cluster_part_text (ModeChanged m mode term)) (cluster_text xs))))
  steps_show h count fs (Dropped m d ∷ xs) e a o n r few =
      behind _ (codes "drop") xs (event_read.drop m d o.0 n.0) (λ rest. refl) (steps_show h count fs xs e a o.1 n.1 r (omega (arith, few, length-append (cluster_part_text (Dropped m d)) (cluster_text xs))))
  steps_show h count fs (Framed f ∷ xs) e a o n r few =
      let first = first_frame count f (frames_in xs) fs e in
      let long = length-append (cluster_part_text (Framed f)) (cluster_text xs) in
      behind _ (codes "m" ++ decimal f.number) xs (event_read.frame f.number f.frame (omega (arith, few, first.0, long, some_line f)) n.0) (λ rest. refl)
      (steps_show h (count + 1) first.1.0 xs first.1.1 a o.1 n.1 r (omega (arith, few, long, some_line f)))
  steps_show h count fs (Replied m answer ∷ xs) e a o n r few =
      behind _ (codes "reply") xs (event_read.reply m answer o.0) (λ rest. refl) (steps_show h count fs xs e a o.1 n.1 r (omega (arith, few, length-append (cluster_part_text (Replied m answer)) (cluster_text xs))))
  steps_show h count fs (Misrouted ∷ xs) e a o n r few =
      behind _ (codes "misrouted") xs node_read.misrouted (λ rest. refl) (steps_show h count fs xs e a o.1 n.1 r (omega (arith, few, length-append (cluster_part_text Misrouted) (cluster_text xs))))

-- ---- the trace

line_node : (nodes : List Id) (l : Line) → FitsNode nodes l → has (node_of l) nodes ≡ true
line_node nodes (line.Tick n now word) f = f.0
line_node nodes (line.Client n bytes) f = f.0
line_node nodes (line.Disconnect n peer) f = f.0
line_node nodes (line.Deliver n number) f = f.0
line_node nodes (line.Crash n way) f = f.0
line_node nodes (line.Restart n) f = f
line_node nodes (line.Fuse n count way) f = f.0
line_node nodes (line.Fail n count) f = f.0
line_node nodes (line.Boot n) f = absurd f
line_node nodes (line.StartJoin n candidate term) f = absurd f
line_node nodes (line.Value n version text config) f = absurd f

lines_node : (nodes : List Id) (ls : List Line) → AllByRecursion (FitsLine Node nodes) ls → AllByRecursion (λ (l : Line). has (node_of l) nodes ≡ true) ls
lines_node nodes [] f = tt
lines_node nodes (l ∷ ls) f = (line_node nodes l f.0, lines_node nodes ls f.1)

pub formed : (s : Schedule) → CanBeAuditedWhole s → IsWellFormed s
formed s w = record { nodes = w.can.nodes; initial = w.can.initial; lines = lines_node s.nodes s.lines w.fit }

pub whole_sound : (s : Schedule) → CanBeAuditedWhole s → Along (IsSound s.initial) NoEntries (core_of (cluster_parts s))
whole_sound s w =
    let p = lines_piece s.nodes s.initial s.voting_only s.second (fresh_cluster s.nodes s.initial s.voting_only s.second) s.lines in
    sound_along s.initial NoEntries (core_of (cluster_parts s)) p.right (subst (λ (h : History). IsLegal s.initial h) (sym p.history) (cluster_replay_is_legal s (formed s w)))

-- the trace by its parts
pub trace_reads : (s : Schedule) → CanBeAuditedWhole s → Reads (trace_at Node s) (entries_of (core_of (cluster_parts s))) (counts_of (core_of (cluster_parts s))) (won_lines_of (core_of (cluster_parts s))) (state_lines_of (core_of (cluster_parts s)))
trace_reads s w =
    let p = lines_piece s.nodes s.initial s.voting_only s.second (fresh_cluster s.nodes s.initial s.voting_only s.second) s.lines in
    let xs = cluster_parts s in
    let listed = fits_ids most_ids s.initial w.can.initial w.can.initial.fits in
    let short : 0 + length (cluster_text xs) ≤ most_bytes = omega (arith, w.can.short, length-append (header s.initial) (trace_at Node s), ap (λ (t : List ℕ). length t) p.text_is) in
    subst (λ (t : List ℕ). Reads t (entries_of (core_of xs)) (counts_of (core_of xs)) (won_lines_of (core_of xs)) (state_lines_of (core_of xs))) (sym p.text_is)
    (steps_show s.initial listed s.nodes w.can.nodes NoEntries 0 (replayed s).frames xs p.frames (whole_sound s w) (own_lines s.nodes s.initial s.voting_only s.second w.can.nodes.each (fresh_cluster s.nodes s.initial s.voting_only s.second) s.lines w.fit)
    (named_lines s.nodes s.initial s.voting_only s.second w.can.nodes w.can.initial (fresh_cluster s.nodes s.initial s.voting_only s.second) s.lines (lines_node s.nodes s.lines w.fit) (fresh_sound s.nodes s.initial s.voting_only s.second w.can.nodes w.can.initial)) tt short)

pub whole_read : LawWholeReplayIsRead
whole_read s w =
    let p = lines_piece s.nodes s.initial s.voting_only s.second (fresh_cluster s.nodes s.initial s.voting_only s.second) s.lines in
    read_as s.initial (trace_at Node s) (entries_of (core_of (cluster_parts s))) (replayed_history s) w.can.initial w.can.some_initial w.can.short (shows _ _ _ _ _ (trace_reads s w))
    (steps_entries s.initial NoEntries (core_of (cluster_parts s)) (whole_sound s w) ∙ p.history)

pub whole_audited : LawWholeReplayIsAudited
whole_audited s w = audits_as (recorded_trace Node s) s.initial (replayed_history s) (cluster_replay_is_legal s (formed s w)) (whole_read s w)
