-- The summary of a trace counts what the history has.
use Rattle.std.proofs.Common.{◌≡◌, ℕ, ◌+◌, Bool, true, false, cond, None, Some, Option, List, [], ◌∷◌, ◌++◌, length, map, refl, sym, ap, ◌∙◌, subst, arith, length-append, if◌then◌else◌}
use Rattle.std.specs.Prelude.{Contains, count_by}
use Rattle.std.specs.List.{AllByRecursion}
use Rattle.std.proofs.lemmas.List.Sums.{sum_by-append}
use Rattle.voting_config.specs.Ids.{Id, same}
use Rattle.cluster_state.specs.declared.state.ClusterState.{ClusterState}
use Rattle.world_model.specs.declared.acts.Act.{Act}
use Rattle.world_model.specs.declared.acts.Message.{Message}
use Rattle.world_model.specs.declared.acts.Message.TheVariants.{Join as JoinMessage, Publish as PublishMessage, Response as ResponseMessage, Commit as CommitMessage}
use Rattle.world_model.specs.declared.acts.ActReply.TheVariants.{Taken, Refused, Stopped}
use Rattle.world_model.specs.declared.acts.Outcome.{Outcome}
use Rattle.world_model.specs.declared.acts.Outcome.TheVariants.{Answered, Disk, Crashed}
use Rattle.world_model.specs.Acts.{is_opening, is_crashed}
use Rattle.world_model.specs.Histories.{History, NoEntries, Next, node_history, sent, sent_by}
use Rattle.world_model.specs.Safety.{Win, winners}
use Rattle.world_model.specs.Settled.{is_kept, settled_entry, settled_for}
use Rattle.world_model.proofs.AllSettled.{settled_sent}
use Rattle.schedule_text.specs.declared.schedule.Line.{Line}
use Rattle.schedule_text.specs.declared.schedule.Schedule.{Schedule}
use Rattle.schedule_text.specs.declared.level.Level.TheVariants.{Core, Node}
use Rattle.trace_text.specs.declared.ending.Ending.{Ending}
use Rattle.trace_text.specs.declared.ending.Ending.TheVariants as ending
use Rattle.trace_text.specs.Published.{last_published}
use Rattle.trace_summary.specs.declared.counts.Counts.{Counts}
use Rattle.trace_summary.specs.Counted.{is_committed as is_committed_line, is_won as is_won_line}
use Rattle.trace_summary.specs.Summaries.{summary_of}
use Rattle.replay_node.specs.Clusters.{replayed_history}
use Rattle.schedule_replay.specs.ActShown.{act_shown, message_sent, state_committed}
use Rattle.schedule_replay.specs.Levels.{trace_at}
use Rattle.schedule_replay.specs.Replayed.{replayed}
use Rattle.schedule_replay.specs.Showing.{Agrees, Shows}
use Rattle.schedule_replay.specs.Parts.{ActShown, NumberedMessage, TracePart, Echo, Did, Opened, WasDown, WasUp, WentDown, DiskFailed, Unsent}
use Rattle.schedule_replay.specs.HistoryShown.{ShowsCommit, commit_of, if_commit, lines_of as lines_told, message_in, outcome_shown, some_win, state_in, states_of, win_in, history_shown_by, history_shown_from, wins_of}
use Rattle.schedule_replay.specs.ClusterShown.{core_of}
use Rattle.schedule_replay.specs.ClusterTraceParts.{cluster_parts}
use Rattle.schedule_replay.specs.TraceParts.{trace_parts}
use Rattle.schedule_replay.proofs.Along.{Along, IsSound, RightAct}
use Rattle.schedule_replay.proofs.Right.{schedule_sound}
use Rattle.schedule_replay.proofs.TraceLaws as core
use Rattle.schedule_replay.proofs.ClusterLaws as whole
use Rattle.cluster_replay.proofs.Schedules.{cluster_replay_is_legal}
use Rattle.replay_audit.specs.Summed.{AreOf, LawSummary, LawWholeSummary, act_count, crash_count, is_commit, is_refusal, refusal_count, stop_count}
use Rattle.replay_audit.proofs.Core as core_trace
use Rattle.replay_audit.specs.ShownLines.{LawLines, LawWholeLines, LinesShow, lines_that, state_line, win_line}
use Rattle.replay_audit.proofs.Counting.{commits_are, ended, sums, wins_are}
use Rattle.replay_audit.proofs.Steps.{committed_counts, counts_of, did_counts, state_lines_of, step_counts, won_counts, won_lines_of}
use Rattle.replay_audit.proofs.Whole as whole_trace

-- ---- what an act counts for

ended_is : (e : Ending) → ((ended e).steps ≡ 0) × ((ended e).acts ≡ 1) × ((ended e).won ≡ 0) × ((ended e).committed ≡ 0)
ended_is ending.Taken = (refl, refl, refl, refl)
ended_is (ending.Refused cause) = (refl, refl, refl, refl)
ended_is ending.Stopped = (refl, refl, refl, refl)
ended_is ending.Disk = (refl, refl, refl, refl)
ended_is ending.Crashed = (refl, refl, refl, refl)

won_is : (n : Id) (o : Option ℕ) → ((won_counts o).steps ≡ 0) × ((won_counts o).acts ≡ 0) × ((won_counts o).refused ≡ 0) × ((won_counts o).won ≡ length (some_win n o)) × ((won_counts o).committed ≡ 0)
won_is n None = (refl, refl, refl, refl, refl)
won_is n (Some term) = (refl, refl, refl, refl, refl)

committed_is : (o : Option ClusterState) → ((committed_counts o).steps ≡ 0) × ((committed_counts o).acts ≡ 0) × ((committed_counts o).refused ≡ 0) × ((committed_counts o).won ≡ 0)
committed_is None = (refl, refl, refl, refl)
committed_is (Some state) = (refl, refl, refl, refl)

-- ---- lines and wins

echoes : (xs : List TracePart) → (counts_of xs).steps ≡ length (lines_told xs)
echoes [] = refl
echoes (Echo l ∷ xs) = omega (arith, echoes xs)
echoes (Did x ∷ xs) = omega (arith, echoes xs, (ended_is x.ending).0, (won_is x.node x.won).0, (committed_is x.committed).0)
echoes (Opened n found ∷ xs) = omega (arith, echoes xs)
echoes (WasDown n ∷ xs) = omega (arith, echoes xs)
echoes (WasUp n ∷ xs) = omega (arith, echoes xs)
echoes (WentDown n ∷ xs) = omega (arith, echoes xs)
echoes (DiskFailed n ∷ xs) = omega (arith, echoes xs)
echoes (Unsent ∷ xs) = omega (arith, echoes xs)

wins : (xs : List TracePart) → (counts_of xs).won ≡ length (wins_of xs)
wins [] = refl
wins (Did x ∷ xs) = omega (arith, wins xs, (ended_is x.ending).2, (won_is x.node x.won).3, (committed_is x.committed).3, length-append (some_win x.node x.won) (wins_of xs))
wins (Echo l ∷ xs) = omega (arith, wins xs)
wins (Opened n found ∷ xs) = omega (arith, wins xs)
wins (WasDown n ∷ xs) = omega (arith, wins xs)
wins (WasUp n ∷ xs) = omega (arith, wins xs)
wins (WentDown n ∷ xs) = omega (arith, wins xs)
wins (DiskFailed n ∷ xs) = omega (arith, wins xs)
wins (Unsent ∷ xs) = omega (arith, wins xs)

-- ---- acts and refusals, which an opening does not change

pick : (P : History → ℕ) (b : Bool) (x y : History) (k : ℕ) → P x ≡ k → P y ≡ k → P (if b then x else y) ≡ k
pick P true x y k p q = p
pick P false x y k p q = q

settled_acts : (k : Bool) (h s : History) (n : Id) (act : Act) (o : Outcome) → act_count s ≡ act_count h → act_count (settled_entry k h s n act o) ≡ act_count (Next h n act o)
settled_acts k h s n act (Disk was) e = refl
settled_acts k h s n act (Crashed was) e = refl
settled_acts k h s n act (Answered reply) e = ap (λ (c : ℕ). cond (is_opening act) c (c + 1)) (pick act_count (is_opening act) h s (act_count h) refl e)

acts_settled : (n : Id) (k : Bool) (h : History) → act_count (settled_for n k h) ≡ act_count h
acts_settled n k NoEntries = refl
acts_settled n k (Next h node act o) =
    let rest = acts_settled n k h in
    pick act_count (same node n) (settled_entry k h (settled_for n k h) node act o) (Next (settled_for n k h) node act o) (act_count (Next h node act o)) (settled_acts k h (settled_for n k h) node act o rest)
    (ap (λ (c : ℕ). cond (is_opening act) c (c + 1)) rest)

settled_refusals : (k : Bool) (h s : History) (n : Id) (act : Act) (o : Outcome) → refusal_count s ≡ refusal_count h → refusal_count (settled_entry k h s n act o) ≡ refusal_count (Next h n act o)
settled_refusals k h s n act (Disk was) e = refl
settled_refusals k h s n act (Crashed was) e = refl
settled_refusals k h s n act (Answered reply) e = ap (λ (c : ℕ). cond (is_refusal (Answered reply)) (c + 1) c) (pick refusal_count (is_opening act) h s (refusal_count h) refl e)

refusals_settled : (n : Id) (k : Bool) (h : History) → refusal_count (settled_for n k h) ≡ refusal_count h
refusals_settled n k NoEntries = refl
refusals_settled n k (Next h node act o) =
    let rest = refusals_settled n k h in
    pick refusal_count (same node n) (settled_entry k h (settled_for n k h) node act o) (Next (settled_for n k h) node act o) (refusal_count (Next h node act o)) (settled_refusals k h (settled_for n k h) node act o rest)
    (ap (λ (c : ℕ). cond (is_refusal o) (c + 1) c) rest)

settled_crashes : (k : Bool) (h s : History) (n : Id) (act : Act) (o : Outcome) → crash_count s ≡ crash_count h → crash_count (settled_entry k h s n act o) ≡ crash_count (Next h n act o)
settled_crashes k h s n act (Disk was) e = refl
settled_crashes k h s n act (Crashed was) e = refl
settled_crashes k h s n act (Answered reply) e = pick crash_count (is_opening act) h s (crash_count h) refl e

crashes_settled : (n : Id) (k : Bool) (h : History) → crash_count (settled_for n k h) ≡ crash_count h
crashes_settled n k NoEntries = refl
crashes_settled n k (Next h node act o) =
    let rest = crashes_settled n k h in
    pick crash_count (same node n) (settled_entry k h (settled_for n k h) node act o) (Next (settled_for n k h) node act o) (crash_count (Next h node act o)) (settled_crashes k h (settled_for n k h) node act o rest)
    (ap (λ (c : ℕ). cond (is_crashed o) (c + 1) c) rest)

crash_told : (e : Ending) (won : Option ℕ) (sends : Option NumberedMessage) (k : ℕ) → cond (is_crashed (outcome_shown e won sends)) (k + 1) k ≡ k + (ended e).crashes
crash_told ending.Taken won sends k = omega arith
crash_told (ending.Refused cause) won sends k = omega arith
crash_told ending.Stopped won sends k = omega arith
crash_told ending.Disk won sends k = omega arith
crash_told ending.Crashed won sends k = omega arith

won_crashes : (o : Option ℕ) → (won_counts o).crashes ≡ 0
won_crashes None = refl
won_crashes (Some term) = refl

committed_crashes : (o : Option ClusterState) → (committed_counts o).crashes ≡ 0
committed_crashes None = refl
committed_crashes (Some state) = refl

refused_told : (e : Ending) (won : Option ℕ) (sends : Option NumberedMessage) (k : ℕ) → cond (is_refusal (outcome_shown e won sends)) (k + 1) k ≡ k + (ended e).refused
refused_told ending.Taken won sends k = omega arith
refused_told (ending.Refused cause) won sends k = omega arith
refused_told ending.Stopped won sends k = omega arith
refused_told ending.Disk won sends k = omega arith
refused_told ending.Crashed won sends k = omega arith

act_told : (h : History) (x : ActShown) → is_opening x.act ≡ false → act_count (history_shown_by h (Did x)) ≡ act_count h + (did_counts x).acts
act_told h x shut =
    let one : cond (is_opening x.act) (act_count h) (act_count h + 1) ≡ act_count h + 1 = ap (λ (b : Bool). cond b (act_count h) (act_count h + 1)) shut in
    omega (arith, one, (ended_is x.ending).1, (won_is x.node x.won).1, (committed_is x.committed).1)

module _ (initial : List Id) where
  acts_told : (h : History) (x : TracePart) → IsSound initial h x → act_count (history_shown_by h x) ≡ act_count h + (step_counts x).acts
  acts_told h (Did x) s = act_told h x s.right.shut
  acts_told h (Opened n found) s = omega (arith, acts_settled n (is_kept (node_history h n) found) h)
  acts_told h (Echo l) s = omega arith
  acts_told h (WasDown n) s = omega arith
  acts_told h (WasUp n) s = omega arith
  acts_told h (WentDown n) s = omega arith
  acts_told h (DiskFailed n) s = omega arith
  acts_told h Unsent s = omega arith

  refusals_told : (h : History) (x : TracePart) → refusal_count (history_shown_by h x) ≡ refusal_count h + (step_counts x).refused
  refusals_told h (Did x) = omega (arith, refused_told x.ending x.won x.sends (refusal_count h), (won_is x.node x.won).2, (committed_is x.committed).2)
  refusals_told h (Opened n found) = omega (arith, refusals_settled n (is_kept (node_history h n) found) h)
  refusals_told h (Echo l) = omega arith
  refusals_told h (WasDown n) = omega arith
  refusals_told h (WasUp n) = omega arith
  refusals_told h (WentDown n) = omega arith
  refusals_told h (DiskFailed n) = omega arith
  refusals_told h Unsent = omega arith

  crashes_told : (h : History) (x : TracePart) (xs : List TracePart) → crash_count (history_shown_by h x) + stop_count (x ∷ xs) ≡ (crash_count h + (step_counts x).crashes) + stop_count xs
  crashes_told h (Did x) xs = omega (arith, crash_told x.ending x.won x.sends (crash_count h), won_crashes x.won, committed_crashes x.committed)
  crashes_told h (Opened n found) xs = omega (arith, crashes_settled n (is_kept (node_history h n) found) h)
  crashes_told h (Echo l) xs = omega arith
  crashes_told h (WasDown n) xs = omega arith
  crashes_told h (WasUp n) xs = omega arith
  crashes_told h (WentDown n) xs = omega arith
  crashes_told h (DiskFailed n) xs = omega arith
  crashes_told h Unsent xs = omega arith

  -- ---- commits

  commit_counts : (n : Id) (number : ℕ) (published : Option ClusterState) (o : Outcome) → if_commit (message_in (message_sent number o)) ≡ commit_of n (state_committed o published) → count_by is_commit (sent_by o) ≡ (committed_counts (state_committed o published)).committed
  commit_counts n number None (Answered (Taken (Some (CommitMessage c)) w)) e = absurd cc
  commit_counts n number (Some state) (Answered (Taken (Some (CommitMessage c)) w)) e = refl
  commit_counts n number published (Answered (Taken (Some (JoinMessage join)) w)) e = refl
  commit_counts n number published (Answered (Taken (Some (PublishMessage request)) w)) e = refl
  commit_counts n number published (Answered (Taken (Some (ResponseMessage response)) w)) e = refl
  commit_counts n number published (Answered (Taken None w)) e = refl
  commit_counts n number published (Answered (Refused cause)) e = refl
  commit_counts n number published (Answered Stopped) e = refl
  commit_counts n number published (Disk kept) e = refl
  commit_counts n number published (Crashed kept) e = refl

  more_commits : (xs ys : List Message) → count_by is_commit (xs ++ ys) ≡ count_by is_commit xs + count_by is_commit ys
  more_commits xs ys = sum_by-append (λ (m : Message). cond (is_commit m) 1 0) xs ys

  commit_told : (h : History) (x : ActShown) → RightAct h x → ShowsCommit (Did x) → count_by is_commit (sent_by (outcome_shown x.ending x.won x.sends)) ≡ (committed_counts x.committed).committed
  commit_told h x r c =
      let published : Option ClusterState = last_published (node_history h x.node) in
      let y : ActShown = act_shown (length (sent h)) published x.node x.act r.outcome in
      let shown : ShowsCommit (Did y) = subst (λ (z : ActShown). ShowsCommit (Did z)) r.is_shown c in
      ap (λ (o : Outcome). count_by is_commit (sent_by o)) r.tells
      ∙ commit_counts x.node (length (sent h) + 1) published r.outcome shown
      ∙ ap (λ (z : ActShown). (committed_counts z.committed).committed) (sym r.is_shown)

  commits_told : (h : History) (x : TracePart) → IsSound initial h x → ShowsCommit x → count_by is_commit (sent (history_shown_by h x)) ≡ count_by is_commit (sent h) + (step_counts x).committed
  commits_told h (Did x) s c = omega (arith, more_commits (sent h) (sent_by (outcome_shown x.ending x.won x.sends)), commit_told h x s.right c, (ended_is x.ending).3, (won_is x.node x.won).4)
  commits_told h (Opened n found) s c =
      omega (arith, more_commits (sent (settled_for n (is_kept (node_history h n) found) h)) [], ap (λ (ms : List Message). count_by is_commit ms) (settled_sent n (is_kept (node_history h n) found) h))
  commits_told h (Echo l) s c = omega arith
  commits_told h (WasDown n) s c = omega arith
  commits_told h (WasUp n) s c = omega arith
  commits_told h (WentDown n) s c = omega arith
  commits_told h (DiskFailed n) s c = omega arith
  commits_told h Unsent s c = omega arith

  -- ---- all parts

  acts : (h : History) (xs : List TracePart) → Along (IsSound initial) h xs → act_count (history_shown_from h xs) ≡ act_count h + (counts_of xs).acts
  acts h [] a = omega arith
  acts h (x ∷ xs) a = omega (arith, acts_told h x a.0, acts (history_shown_by h x) xs a.1)

  refusals : (h : History) (xs : List TracePart) → refusal_count (history_shown_from h xs) ≡ refusal_count h + (counts_of xs).refused
  refusals h [] = omega arith
  refusals h (x ∷ xs) = omega (arith, refusals_told h x, refusals (history_shown_by h x) xs)

  crashes : (h : History) (xs : List TracePart) → crash_count (history_shown_from h xs) + stop_count xs ≡ crash_count h + (counts_of xs).crashes
  crashes h [] = omega arith
  crashes h (x ∷ xs) = omega (arith, crashes_told h x xs, crashes (history_shown_by h x) xs)

  commits : (h : History) (xs : List TracePart) → Along (IsSound initial) h xs → AllByRecursion ShowsCommit xs → count_by is_commit (sent (history_shown_from h xs)) ≡ count_by is_commit (sent h) + (counts_of xs).committed
  commits h [] a c = omega arith
  commits h (x ∷ xs) a c = omega (arith, commits_told h x a.0 c.0, commits (history_shown_by h x) xs a.1 c.1)

  -- the numbers of sound parts that show the wins and the commits of the history that they tell
  numbers : (s : Schedule) (h : History) (xs : List TracePart) (c : Counts) → c ≡ counts_of xs → lines_told xs ≡ s.lines → history_shown_from NoEntries xs ≡ h → Along (IsSound initial) NoEntries xs → Shows h xs → AreOf c s xs h
  numbers s h xs c is lines told sound shown =
      subst (λ (k : Counts). AreOf k s xs h) (sym is) (record {
        steps = echoes xs ∙ ap (λ (ls : List Line). length ls) lines;
        acts = omega (arith, acts NoEntries xs sound, ap act_count told);
        refused = omega (arith, refusals NoEntries xs, ap refusal_count told);
        won = wins xs ∙ ap (λ (ws : List Win). length ws) shown.wins;
        committed = omega (arith, commits NoEntries xs sound shown.commits, ap (λ (g : History). count_by is_commit (sent g)) told);
        crashes = omega (arith, crashes NoEntries xs, ap crash_count told);
      })

-- ---- the laws

pub summary : LawSummary
unfolding summary_of
summary s formed can =
    let t = core.tells s in
    numbers s.initial s (replayed s) (trace_parts s) _ (sums (trace_at Core s) _ _ _ _ (core_trace.trace_reads s formed can)) t.lines t.history (schedule_sound s formed) (core.shows s formed)

pub whole_summary : LawWholeSummary
unfolding summary_of
whole_summary s w =
    let t = whole.tells s in
    numbers s.initial s (replayed_history s) (core_of (cluster_parts s)) _ (sums (trace_at Node s) _ _ _ _ (whole_trace.trace_reads s w)) t.lines t.history (whole_trace.whole_sound s w) (whole.shows s (cluster_replay_is_legal s (whole_trace.formed s w)))

-- ---- the lines `won` and `committed`

map_append : {X Y : Type 0} (f : X → Y) (xs ys : List X) → map f (xs ++ ys) ≡ map f xs ++ map f ys
map_append f [] ys = refl
map_append f (x ∷ xs) ys = λ i. f x ∷ map_append f xs ys i

won_lines_are : (xs : List TracePart) → won_lines_of xs ≡ map win_line (wins_of xs)
won_lines_are [] = refl
won_lines_are (x ∷ xs) = ap (λ (ls : List (List ℕ)). map win_line (win_in x) ++ ls) (won_lines_are xs) ∙ sym (map_append win_line (win_in x) (wins_of xs))

state_lines_are : (xs : List TracePart) → state_lines_of xs ≡ map state_line (states_of xs)
state_lines_are [] = refl
state_lines_are (x ∷ xs) = ap (λ (ls : List (List ℕ)). map state_line (state_in x) ++ ls) (state_lines_are xs) ∙ sym (map_append state_line (state_in x) (states_of xs))

lines_show : (text : List ℕ) (h : History) (xs : List TracePart) → Shows h xs → Agrees xs → lines_that is_won_line text ≡ won_lines_of xs → lines_that is_committed_line text ≡ state_lines_of xs → LinesShow text h
lines_show text h xs shown agree won committed = record {
  won = won ∙ won_lines_are xs ∙ ap (λ (ws : List Win). map win_line ws) shown.wins;
  states = states_of xs;
  committed = committed ∙ state_lines_are xs;
  are_committed = shown.committed;
  all_committed = shown.all_committed;
  one_winner = λ v w i j e.
      let among : (u : Win) → Contains (winners h) u → Contains (wins_of xs) u = λ u c. subst (λ (ws : List Win). Contains ws u) (sym shown.wins) c in
      λ k. win_line (record { node = agree.one_winner v w (among v i) (among w j) e k; term = e k });
  one_state = λ x y i j e. ap state_line (agree.one_state x y i j e);
}

pub shown_lines : LawLines
shown_lines s f can =
    let r = core_trace.trace_reads s f can in
    lines_show (trace_at Core s) (replayed s) (trace_parts s) (core.shows s f) (core.agrees s f)
    (wins_are (trace_at Core s) _ _ _ _ r) (commits_are (trace_at Core s) _ _ _ _ r)

pub whole_shown_lines : LawWholeLines
whole_shown_lines s w =
    let r = whole_trace.trace_reads s w in
    let legal = cluster_replay_is_legal s (whole_trace.formed s w) in
    lines_show (trace_at Node s) (replayed_history s) (core_of (cluster_parts s)) (whole.shows s legal) (whole.agrees s legal)
    (wins_are (trace_at Node s) _ _ _ _ r) (commits_are (trace_at Node s) _ _ _ _ r)
