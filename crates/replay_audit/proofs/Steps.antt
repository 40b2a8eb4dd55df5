-- The lines of each part show its entries.
use Rattle.std.proofs.Common.{◌≡◌, ℕ, ◌+◌, ◌≤◌, Bool, true, false, cond, Option, None, Some, List, [], ◌∷◌, length, refl, sym, ap, subst, IsTrue, arith, length-append, append-nil, codes, decimal, map, ◌++◌}
use Rattle.std.specs.Prelude.{Contains}
use Rattle.std.specs.List.{AllByRecursion}
use Rattle.voting_config.specs.Ids.{Id, is_id, IsIdSet}
use Rattle.cluster_state.specs.declared.state.ClusterState.{ClusterState}
use Rattle.cluster_state.specs.declared.state.Kept.{Kept}
use Rattle.world_model.specs.declared.acts.Act.{Act}
use Rattle.world_model.specs.declared.acts.Act.TheVariants.{Bootstrap, StartJoin, TakeJoin, Value, Publish, Response, Commit, Open}
use Rattle.world_model.specs.declared.acts.Message.{Message}
use Rattle.world_model.specs.declared.acts.Message.TheVariants.{Join as JoinMessage, Publish as PublishMessage, Response as ResponseMessage, Commit as CommitMessage}
use Rattle.world_model.specs.declared.acts.ActReply.TheVariants.{Taken, Refused, Stopped}
use Rattle.world_model.specs.declared.acts.Outcome.{Outcome}
use Rattle.world_model.specs.declared.acts.Outcome.TheVariants.{Answered, Disk, Crashed}
use Rattle.world_model.specs.Acts.{is_opening, wins}
use Rattle.world_model.specs.Histories.{History, Next, node_history, sent, sent_by, IsLegal}
use Rattle.world_model.specs.Settled.{is_kept, settled_for}
use Rattle.world_model.proofs.AllSettled.{settled_sent}
use Rattle.schedule_text.specs.declared.level.Level.{Level}
use Rattle.schedule_text.specs.Lines.{FitsLine}
use Rattle.trace_text.specs.Endings.{ending_of}
use Rattle.trace_text.specs.Published.{last_published}
use Rattle.trace_text.specs.Trace.{act_line, committed_text, ending_text}
use Rattle.recorded_trace.specs.declared.entry.Entry.TheVariants.{Acted}
use Rattle.recorded_trace.specs.Reading.{most_bytes}
use Rattle.line_laws.specs.Fits.{IsSmall, FitsMessage}
use Rattle.line_laws.specs.Read.{recorded}
use Rattle.line_laws.specs.Readable.{IsListed, IsReadable, IsReadableRecord, EndsAs}
use Rattle.line_laws.proofs.Acts.{act_read, record_read}
use Rattle.line_laws.proofs.Skips.{echo_read, shown_read, node_read}
use Rattle.replay_node.specs.Did.{won_by}
use Rattle.replay_node.specs.Sent.{taking}
use Rattle.schedule_replay.specs.ActShown.{act_shown, won_term, state_committed, message_sent}
use Rattle.schedule_replay.specs.Parts.{ActShown, TracePart, Echo, Did, Opened, WasDown, WasUp, WentDown, DiskFailed, Unsent, sends_text, shown_text, part_text, text_of}
use Rattle.schedule_replay.specs.HistoryShown.{outcome_shown, history_shown_by, some_state, some_win, state_in, win_in}
use Rattle.schedule_replay.proofs.Along.{Along, IsSound}
use Rattle.trace_summary.specs.declared.counts.Counts.{Counts}
use Rattle.trace_summary.specs.Counted.{no_counts}
use Rattle.trace_text.specs.declared.ending.Ending.{Ending}
use Rattle.replay_audit.proofs.Counting.{Reads, act_counted, both_read, committed_reads, ended, ended_none, line_reads, moved, one_commit, one_crash, one_step, one_win, plus, plus_end, won_reads}
use Rattle.replay_audit.proofs.Counting.Reads.{NoLine}
use Rattle.replay_audit.specs.ShownLines.{state_line, win_line}
use Rattle.replay_audit.proofs.Entries.{entry_in, entries_of}
use Rattle.replay_audit.proofs.Readable.{AllReadable, IsGivenAct, act_readable, durable_readable, ends_as, message_readable, own_readable, settled_readable}

-- ---- the lines of an act

-- what its lines count for
abbrev pub won_counts : Option ℕ → Counts
won_counts None = no_counts
won_counts (Some term) = one_win

abbrev pub committed_counts : Option ClusterState → Counts
committed_counts None = no_counts
committed_counts (Some state) = one_commit

abbrev pub did_counts : ActShown → Counts
did_counts x = plus (ended x.ending) (plus (won_counts x.won) (committed_counts x.committed))

-- its lines `won` and `committed`
abbrev pub won_lines : Id → Option ℕ → List (List ℕ)
won_lines n o = map win_line (some_win n o)

abbrev pub state_lines : Option ClusterState → List (List ℕ)
state_lines o = map state_line (some_state o)

pub won_shows : (n : Id) (act : Act) (o : Outcome) → IsTrue (is_id n) → Reads (won_by (won_term act o) n) [] (won_counts (won_term act o)) (won_lines n (won_term act o)) []
won_shows n (TakeJoin j) o good = from (wins o)
  where
    from : (b : Bool) → Reads (won_by (cond b (Some j.term) None) n) [] (won_counts (cond b (Some j.term) None)) (won_lines n (cond b (Some j.term) None)) []
    from true = won_reads _ (shown_read.won n j.term good)
    from false = NoLine
won_shows n (Bootstrap config) o good = NoLine
won_shows n (StartJoin candidate term) o good = NoLine
won_shows n (Value version config value) o good = NoLine
won_shows n (Publish request) o good = NoLine
won_shows n (Response response) o good = NoLine
won_shows n (Commit commit) o good = NoLine
won_shows n (Open found) o good = NoLine

pub state_shows : (o : Option ClusterState) → Reads (committed_text o) [] (committed_counts o) [] (state_lines o)
state_shows None = NoLine
state_shows (Some state) = committed_reads _ (shown_read.committed state)

message_fits : (m : Message) → IsReadable (taking m) → FitsMessage m
message_fits (JoinMessage join) h = (h.0, h.1)
message_fits (PublishMessage request) h = h.0
message_fits (ResponseMessage response) h = (h.0, h.1)
message_fits (CommitMessage commit) h = h.0

sends_shows : (number : ℕ) (o : Outcome) → IsSmall number → ((m : Message) → Contains (sent_by o) m → IsReadable (taking m)) → Reads (sends_text (message_sent number o)) [] no_counts [] []
sends_shows number (Answered (Taken (Some m) w)) small can =
    line_reads _ ((codes "m" ++ decimal number) ∷ []) None no_counts (shown_read.sent number m small (message_fits m (can m (0, omega arith, refl)))) (λ rest. refl) refl refl
sends_shows number (Answered (Taken None w)) small can = NoLine
sends_shows number (Answered (Refused cause)) small can = NoLine
sends_shows number (Answered Stopped) small can = NoLine
sends_shows number (Disk kept) small can = NoLine
sends_shows number (Crashed kept) small can = NoLine

-- what is known of an act that is shown
record CanBeShown (count : ℕ) (n : Id) (act : Act) (o : Outcome) : Type 0 where
  good : IsTrue (is_id n)
  shut : is_opening act ≡ false
  ends : EndsAs act (ending_of o)
  can : IsReadable act
  sends : (m : Message) → Contains (sent_by o) m → IsReadable (taking m)
  few : IsSmall (count + 1)

pub line_shows : (n : Id) (e : Ending) (act : Act) → IsTrue (is_id n) → is_opening act ≡ false → EndsAs act e → IsReadable act → Reads (act_line n e act) (Acted n e act ∷ []) (ended e) [] []
line_shows n e act good shut ends can = line_reads _ (codes "act" ∷ n ∷ ending_text e ∷ []) (Some (Acted n e act)) (ended e) (act_read n e act good shut ends can) (λ rest. act_counted n e rest) (ended_none e).0 (ended_none e).1

act_shows : (count : ℕ) (published : Option ClusterState) (n : Id) (act : Act) (o : Outcome) → CanBeShown count n act o
    → Reads (shown_text (act_shown count published n act o)) (Acted n (ending_of o) act ∷ []) (did_counts (act_shown count published n act o)) (won_lines n (won_term act o)) (state_lines (state_committed o published))
act_shows count published n act o k =
    let committed = state_committed o published in
    let won = won_term act o in
    let last : Reads (committed_text committed ++ sends_text (message_sent (count + 1) o)) [] (committed_counts committed) [] (state_lines committed) =
    moved _ _ [] _ (committed_counts committed) [] [] (state_lines committed ++ []) (state_lines committed) refl (plus_end (committed_counts committed)) refl (append-nil (state_lines committed))
    (both_read (committed_text committed) (sends_text (message_sent (count + 1) o)) [] [] (committed_counts committed) no_counts [] [] (state_lines committed) [] (state_shows committed) (sends_shows (count + 1) o k.few k.sends)) in
    moved _ _ (Acted n (ending_of o) act ∷ []) _ _ (won_lines n won ++ []) (won_lines n won) (state_lines committed) (state_lines committed) refl refl (append-nil (won_lines n won)) refl
    (both_read (act_line n (ending_of o) act) _ (Acted n (ending_of o) act ∷ []) [] (ended (ending_of o)) _ [] (won_lines n won ++ []) [] (state_lines committed) (line_shows n (ending_of o) act k.good k.shut k.ends k.can)
    (both_read (won_by won n) _ [] [] (won_counts won) (committed_counts committed) (won_lines n won) [] [] (state_lines committed) (won_shows n act o k.good) last))

-- ---- what is given with a part

-- its node has an id, what the node does of its own accord can be read, and the line of the schedule is one of these nodes
abbrev pub IsGiven : Level → List Id → TracePart → Type 0
IsGiven level nodes (Echo l) = FitsLine level nodes l
IsGiven level nodes (Did x) = IsTrue (is_id x.node) × IsGivenAct x.act
IsGiven level nodes (Opened n found) = IsTrue (is_id n)
IsGiven level nodes (WasDown n) = IsTrue (is_id n)
IsGiven level nodes (WasUp n) = IsTrue (is_id n)
IsGiven level nodes (WentDown n) = IsTrue (is_id n)
IsGiven level nodes (DiskFailed n) = IsTrue (is_id n)
IsGiven level nodes Unsent = Unit {0}

abbrev pub is_act : TracePart → Bool
is_act (Did x) = true
is_act other = false

-- what its lines count for, and those of all parts
abbrev pub step_counts : TracePart → Counts
step_counts (Did x) = did_counts x
step_counts (Echo l) = one_step
step_counts (WentDown n) = one_crash
step_counts other = no_counts

abbrev pub counts_of : List TracePart → Counts
counts_of [] = no_counts
counts_of (x ∷ xs) = plus (step_counts x) (counts_of xs)

-- the lines `won` and `committed` of all parts
abbrev pub won_lines_of : List TracePart → List (List ℕ)
won_lines_of [] = []
won_lines_of (x ∷ xs) = map win_line (win_in x) ++ won_lines_of xs

abbrev pub state_lines_of : List TracePart → List (List ℕ)
state_lines_of [] = []
state_lines_of (x ∷ xs) = map state_line (state_in x) ++ state_lines_of xs

-- ---- there are no more messages than bytes

sends_one : (o : Outcome) → length (sent_by o) ≤ 1
sends_one (Answered (Taken (Some m) w)) = omega arith
sends_one (Answered (Taken None w)) = omega arith
sends_one (Answered (Refused cause)) = omega arith
sends_one (Answered Stopped) = omega arith
sends_one (Disk kept) = omega arith
sends_one (Crashed kept) = omega arith

some_text : (x : ActShown) → 1 ≤ length (shown_text x)
some_text x = omega arith

sent_grows : (h : History) (x : TracePart) → length (sent (history_shown_by h x)) ≤ length (sent h) + length (part_text x)
sent_grows h (Did x) = omega (arith, length-append (sent h) (sent_by (outcome_shown x.ending x.won x.sends)), sends_one (outcome_shown x.ending x.won x.sends), some_text x)
sent_grows h (Opened n found) = omega (arith, length-append (sent (settled_for n (is_kept (node_history h n) found) h)) [], ap (λ (ms : List Message). length ms) (settled_sent n (is_kept (node_history h n) found) h))
sent_grows h (Echo l) = omega arith
sent_grows h (WasDown n) = omega arith
sent_grows h (WasUp n) = omega arith
sent_grows h (WentDown n) = omega arith
sent_grows h (DiskFailed n) = omega arith
sent_grows h Unsent = omega arith

-- ---- a part of a sound trace

module _ (initial : List Id) (set : IsListed initial) where
  pub did_readable : (h : History) (x : ActShown) → IsSound initial h (Did x) → IsGivenAct x.act → AllReadable h → IsReadable x.act
  did_readable h x s given r = act_readable initial h x.act set s.before r s.right.shut s.behind.1.sourced given

  pub found_readable : (h : History) (n : Id) (found : Kept) → IsSound initial h (Opened n found) → AllReadable h → IsReadableRecord found
  found_readable h n found s r =
      let before = settled_for n (is_kept (node_history h n) found) h in
      subst IsReadableRecord (sym s.behind.1.continues) (durable_readable (node_history before n) (own_readable before n (settled_readable n (is_kept (node_history h n) found) h r)))

  pub told_readable : (level : Level) (nodes : List Id) (h : History) (x : TracePart) → IsSound initial h x → IsGiven level nodes x → AllReadable h → AllReadable (history_shown_by h x)
  told_readable level nodes h (Did x) s g r = (r, g.0, did_readable h x s g.1 r)
  told_readable level nodes h (Opened n found) s g r = (settled_readable n (is_kept (node_history h n) found) h r, g, found_readable h n found s r)
  told_readable level nodes h (Echo l) s g r = r
  told_readable level nodes h (WasDown n) s g r = r
  told_readable level nodes h (WasUp n) s g r = r
  told_readable level nodes h (WentDown n) s g r = r
  told_readable level nodes h (DiskFailed n) s g r = r
  told_readable level nodes h Unsent s g r = r

  can_be_shown : (h : History) (x : ActShown) (s : IsSound initial h (Did x)) → IsTrue (is_id x.node) → IsGivenAct x.act → AllReadable h → IsSmall (length (sent h) + 1) → CanBeShown (length (sent h)) x.node x.act s.right.outcome
  can_be_shown h x s good given r few =
      let can = did_readable h x s given r in
      let legal : IsLegal initial (Next h x.node x.act s.right.outcome) = subst (λ (o : Outcome). IsLegal initial (Next h x.node x.act o)) s.right.tells s.behind in
      record {
        good = good;
        shut = s.right.shut;
        ends = ends_as initial h x.node x.act s.right.outcome legal r good can;
        can = can;
        sends = message_readable initial h x.node x.act s.right.outcome legal r good can;
        few = few;
      }

  did_shows : (h : History) (x : ActShown) → IsSound initial h (Did x) → IsTrue (is_id x.node) → IsGivenAct x.act → AllReadable h → IsSmall (length (sent h) + 1) → Reads (shown_text x) (entry_in (Did x)) (did_counts x) (won_lines x.node x.won) (state_lines x.committed)
  did_shows h x s good given r few =
      subst (λ (y : ActShown). Reads (shown_text y) (entry_in (Did y)) (did_counts y) (won_lines y.node y.won) (state_lines y.committed)) (sym s.right.is_shown)
      (act_shows (length (sent h)) (last_published (node_history h x.node)) x.node x.act s.right.outcome (can_be_shown h x s good given r few))

  -- a part that shows no act
  pub quiet_shows : (level : Level) (nodes : List Id) (h : History) (x : TracePart) → is_act x ≡ false → IsIdSet nodes → IsSound initial h x → IsGiven level nodes x → AllReadable h → Reads (part_text x) (entry_in x) (step_counts x) (map win_line (win_in x)) (map state_line (state_in x))
  quiet_shows level nodes h (Did x) q ids s g r = absurd cc
  quiet_shows level nodes h (Opened n found) q ids s g r = line_reads _ (codes "record" ∷ []) (Some (recorded n found)) no_counts (record_read n found g (found_readable h n found s r)) (λ rest. refl) refl refl
  quiet_shows level nodes h (Echo l) q ids s g r = line_reads _ (codes ">" ∷ []) None one_step (echo_read level nodes l ids g) (λ rest. refl) refl refl
  quiet_shows level nodes h (WasDown n) q ids s g r = line_reads _ (codes "down" ∷ []) None no_counts (node_read.down n g) (λ rest. refl) refl refl
  quiet_shows level nodes h (WasUp n) q ids s g r = line_reads _ (codes "up" ∷ []) None no_counts (node_read.up n g) (λ rest. refl) refl refl
  quiet_shows level nodes h (WentDown n) q ids s g r = line_reads _ (codes "crashed" ∷ []) None one_crash (node_read.crashed n g) (λ rest. refl) refl refl
  quiet_shows level nodes h (DiskFailed n) q ids s g r = line_reads _ (codes "disk" ∷ []) None no_counts (node_read.disk n g) (λ rest. refl) refl refl
  quiet_shows level nodes h Unsent q ids s g r = line_reads _ (codes "unsent" ∷ []) None no_counts node_read.unsent (λ rest. refl) refl refl

  step_shows : (level : Level) (nodes : List Id) (h : History) (x : TracePart) → IsIdSet nodes → IsSound initial h x → IsGiven level nodes x → AllReadable h → IsSmall (length (sent h) + 1) → Reads (part_text x) (entry_in x) (step_counts x) (map win_line (win_in x)) (map state_line (state_in x))
  step_shows level nodes h (Did x) ids s g r few = did_shows h x s g.0 g.1 r few
  step_shows level nodes h (Opened n found) ids s g r few = quiet_shows level nodes h (Opened n found) refl ids s g r
  step_shows level nodes h (Echo l) ids s g r few = quiet_shows level nodes h (Echo l) refl ids s g r
  step_shows level nodes h (WasDown n) ids s g r few = quiet_shows level nodes h (WasDown n) refl ids s g r
  step_shows level nodes h (WasUp n) ids s g r few = quiet_shows level nodes h (WasUp n) refl ids s g r
  step_shows level nodes h (WentDown n) ids s g r few = quiet_shows level nodes h (WentDown n) refl ids s g r
  step_shows level nodes h (DiskFailed n) ids s g r few = quiet_shows level nodes h (DiskFailed n) refl ids s g r
  step_shows level nodes h Unsent ids s g r few = quiet_shows level nodes h Unsent refl ids s g r

  -- ---- all parts

  pub steps_show : (level : Level) (nodes : List Id) (h : History) (xs : List TracePart) → IsIdSet nodes → Along (IsSound initial) h xs → AllByRecursion (IsGiven level nodes) xs → AllReadable h → length (sent h) + length (text_of xs) ≤ most_bytes
      → Reads (text_of xs) (entries_of xs) (counts_of xs) (won_lines_of xs) (state_lines_of xs)
  steps_show level nodes h [] ids a g r few = NoLine
  steps_show level nodes h (x ∷ xs) ids a g r few =
      both_read (part_text x) (text_of xs) (entry_in x) (entries_of xs) (step_counts x) (counts_of xs) (map win_line (win_in x)) (won_lines_of xs) (map state_line (state_in x)) (state_lines_of xs) (step_shows level nodes h x ids a.0 g.0 r (omega (arith, few)))
      (steps_show level nodes (history_shown_by h x) xs ids a.1 g.1 (told_readable level nodes h x a.0 g.0 r) (omega (arith, few, sent_grows h x, length-append (part_text x) (text_of xs))))
