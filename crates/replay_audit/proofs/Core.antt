-- The trace of a schedule of level core is read as its own history, and found legal.
use Rattle.std.proofs.Common.{◌≡◌, ◌≢◌, ℕ, ◌+◌, ◌≤◌, Bool, true, false, Option, None, Some, Ok, Err, List, [], ◌∷◌, ◌++◌, length, sym, ap, ◌∙◌, subst, if◌then◌else◌, IsTrue, arith, length-append}
use Rattle.std.specs.Prelude.{Result}
use Rattle.std.specs.List.{AllByRecursion, list_all}
use Rattle.voting_config.specs.Ids.{Id, is_id, most_ids, IsIdSet}
use Rattle.cluster_state.proofs.Fitting.{fits_ids}
use Rattle.cluster_state.specs.declared.state.Kept.{Kept}
use Rattle.world_model.specs.declared.acts.Act.{Act}
use Rattle.world_model.specs.declared.acts.Act.TheVariants.{Bootstrap, StartJoin, Value}
use Rattle.world_model.specs.declared.acts.Message.{Message}
use Rattle.world_model.specs.declared.acts.Message.TheVariants.{Join as JoinMessage, Publish as PublishMessage, Response as ResponseMessage, Commit as CommitMessage}
use Rattle.world_model.specs.Histories.{History, NoEntries, IsLegal}
use Rattle.schedule_text.specs.declared.fault.ReadError.TheVariants.{Bad, Memory}
use Rattle.schedule_text.specs.declared.level.Level.TheVariants.{Core}
use Rattle.schedule_text.specs.declared.schedule.Line.{Line}
use Rattle.schedule_text.specs.declared.schedule.Line.TheVariants as line
use Rattle.schedule_text.specs.declared.schedule.Schedule.{Schedule}
use Rattle.schedule_text.specs.Lines.{FitsCore, FitsLine}
use Rattle.schedule_text.proofs.WordLaws.{has_id}
use Rattle.recorded_trace.specs.declared.entry.Entry.{Entry}
use Rattle.recorded_trace.specs.declared.fault.BadTrace.{BadTrace}
use Rattle.recorded_trace.specs.Reading.{Recording, most_bytes}
use Rattle.trace_audit.specs.declared.verdict.Verdict.{Verdict}
use Rattle.trace_audit.specs.declared.verdict.Verdict.TheVariants.{Legal, NotLegal}
use Rattle.trace_audit.specs.Traced.{traced}
use Rattle.trace_audit.specs.Verdicts.{IsRight, winners_of, committed_count}
use Rattle.line_laws.specs.Read.{header, Shows}
use Rattle.line_laws.proofs.Traces.{trace_read}
use Rattle.replay_node.specs.NodeDisk.{CallsEnd, Done, Failed, CrashedIn, opening}
use Rattle.replay_node.specs.NodeWorld.{found_at, needs_opening}
use Rattle.replay_node.specs.Sent.{taking}
use Rattle.replay_node.specs.Worlds.{World, fresh_world, node_world}
use Rattle.schedule_replay.specs.Legal.{IsWellFormed}
use Rattle.schedule_replay.specs.Levels.{trace_at}
use Rattle.schedule_replay.specs.Replayed.{after, message_at, replayed, value_with}
use Rattle.schedule_replay.specs.Parts.{TracePart, WasDown, WasUp, WentDown, Unsent, text_of}
use Rattle.schedule_replay.specs.TraceParts.{act_part, act_parts, delivery_parts, opening_part, line_parts, parts_from, trace_parts}
use Rattle.schedule_replay.proofs.FitLines.{config_fits, text_fits}
use Rattle.schedule_replay.proofs.Right.{schedule_legal, schedule_sound}
use Rattle.schedule_replay.proofs.TraceLaws.{tells}
use Rattle.replay_audit.specs.Audits.{recorded_trace, CanBeAudited, IsTraceOf, FindsLegal, AuditsAs, LawReplayIsRead, LawReplayIsAudited, entry_count}
use Rattle.replay_audit.proofs.Entries.{after_entries, entries_of, steps_entries, traced_count, with_numbered}
use Rattle.replay_audit.proofs.Readable.{IsGivenAct}
use Rattle.replay_audit.proofs.Counting.{Reads, shows}
use Rattle.replay_audit.proofs.Steps.{IsGiven, counts_of, state_lines_of, steps_show, won_lines_of}

-- ---- what the lines of a schedule give

if_given : (nodes : List Id) (b : Bool) (x y : TracePart) → IsGiven Core nodes x → IsGiven Core nodes y → IsGiven Core nodes (if b then x else y)
if_given nodes true x y p q = p
if_given nodes false x y p q = q

act_given : (nodes : List Id) (w : World) (n : Id) (act : Act) → IsTrue (is_id n) → IsGivenAct act → AllByRecursion (IsGiven Core nodes) (act_parts w n act)
act_given nodes w n act good g = (if_given nodes (w.down n) (WasDown n) (act_part w n act) good (good, g), tt)

taken_given : (m : Message) → IsGivenAct (taking m)
taken_given (JoinMessage join) = tt
taken_given (PublishMessage request) = tt
taken_given (ResponseMessage response) = tt
taken_given (CommitMessage commit) = tt

delivery_given : (nodes : List Id) (w : World) (n : Id) (m : Option Message) → IsTrue (is_id n) → AllByRecursion (IsGiven Core nodes) (delivery_parts w n m)
delivery_given nodes w n None good = (if_given nodes (w.down n) (WasDown n) Unsent good tt, tt)
delivery_given nodes w n (Some m) good = act_given nodes w n (taking m) good (taken_given m)

opening_given : (nodes : List Id) (end : CallsEnd) (n : Id) (found : Kept) → IsTrue (is_id n) → IsGiven Core nodes (opening_part end n found)
opening_given nodes Done n found good = good
opening_given nodes Failed n found good = good
opening_given nodes (CrashedIn way) n found good = good

module _ (nodes initial : List Id) (each : IsTrue (list_all is_id nodes)) where
  line_given : (w : World) (l : Line) → FitsCore nodes l → AllByRecursion (IsGiven Core nodes) (line_parts initial w l)
  line_given w (line.Boot n) f = act_given nodes w n (Bootstrap initial) (has_id n nodes each f) tt
  line_given w (line.StartJoin n candidate term) f = act_given nodes w n (StartJoin candidate term) (has_id n nodes each f.0) (has_id candidate nodes each f.1, omega (arith, f.2.1))
  line_given w (line.Value n version text config) f =
      act_given nodes w n (Value version config (value_with text)) (has_id n nodes each f.0) (omega (arith, f.1.1), config_fits nodes config f.3, text_fits text f.2)
  line_given w (line.Deliver n number) f = delivery_given nodes w n (message_at w number) (has_id n nodes each f.0)
  line_given w (line.Crash n way) f = let good = has_id n nodes each f.0 in (if_given nodes (w.down n) (WasDown n) (WentDown n) good good, tt)
  line_given w (line.Restart n) f =
      let good = has_id n nodes each f in
      (if_given nodes (needs_opening (node_world w n)) _ (WasUp n) (opening_given nodes (opening (w.disks n)).ended n (found_at (node_world w n)) good) good, tt)
  line_given w (line.Fuse n count way) f = tt
  line_given w (line.Fail n count) f = tt
  line_given w (line.Tick n now word) f = absurd f
  line_given w (line.Client n bytes) f = absurd f
  line_given w (line.Disconnect n peer) f = absurd f

  all_given : (xs ys : List TracePart) → AllByRecursion (IsGiven Core nodes) xs → AllByRecursion (IsGiven Core nodes) ys → AllByRecursion (IsGiven Core nodes) (xs ++ ys)
  all_given [] ys a b = b
  all_given (x ∷ xs) ys a b = (a.0, all_given xs ys a.1 b)

  lines_given : (w : World) (ls : List Line) → AllByRecursion (FitsLine Core nodes) ls → AllByRecursion (IsGiven Core nodes) (parts_from initial w ls)
  lines_given w [] f = tt
  lines_given w (l ∷ ls) f = (f.0, all_given (line_parts initial w l) (parts_from initial (after initial w l) ls) (line_given w l f.0) (lines_given (after initial w l) ls f.1))

-- ---- what is read

-- lines that show entries of a history, after a first line
pub read_as : (initial : List Id) (text : List ℕ) (entries : List Entry) (h : History) → IsIdSet initial → initial ≢ [] → length (header initial ++ text) ≤ most_bytes → Shows text entries → after_entries NoEntries entries ≡ h → IsTraceOf (header initial ++ text) initial h
read_as initial text entries h set some short shows is =
    let r = trace_read initial text entries set some shows short in
    record { trace = r.trace; read = r.read; from = r.from; history = with_numbered NoEntries r.trace.entries ∙ ap (λ (xs : List Entry). after_entries NoEntries xs) r.shows ∙ is }

-- the trace by its parts
pub trace_reads : (s : Schedule) → IsWellFormed s → CanBeAudited Core s → Reads (trace_at Core s) (entries_of (trace_parts s)) (counts_of (trace_parts s)) (won_lines_of (trace_parts s)) (state_lines_of (trace_parts s))
trace_reads s formed can =
    let t = tells s in
    let sound = schedule_sound s formed in
    let listed = fits_ids most_ids s.initial can.initial can.initial.fits in
    let short : 0 + length (text_of (trace_parts s)) ≤ most_bytes = omega (arith, can.short, length-append (header s.initial) (trace_at Core s), ap (λ (xs : List ℕ). length xs) t.text) in
    subst (λ (xs : List ℕ). Reads xs (entries_of (trace_parts s)) (counts_of (trace_parts s)) (won_lines_of (trace_parts s)) (state_lines_of (trace_parts s))) (sym t.text)
    (steps_show s.initial listed Core s.nodes NoEntries (trace_parts s) can.nodes sound (lines_given s.nodes s.initial can.nodes.each fresh_world s.lines formed.fit) tt short)

pub replay_read : LawReplayIsRead
replay_read s formed can =
    read_as s.initial (trace_at Core s) (entries_of (trace_parts s)) (replayed s) can.initial can.some_initial can.short (shows _ _ _ _ _ (trace_reads s formed can))
    (steps_entries s.initial NoEntries (trace_parts s) (schedule_sound s formed) ∙ (tells s).history)

-- ---- what an audit finds

-- a right verdict on a trace of a legal history
right_is : (h : History) (r : Recording) (v : Verdict) → IsLegal r.initial h → traced r.entries ≡ h → IsRight r v → FindsLegal h (Ok v)
right_is h r (Legal entries winners committed) legal is right =
    let P = λ (g : History). (entries ≡ entry_count g) × (winners ≡ winners_of g) × (committed ≡ committed_count g) in
    subst P is (right.1.all ∙ traced_count r.entries, right.1.winners, right.1.commits)
right_is h r (NotLegal line clause) legal is right = right.0 (subst (λ (g : History). IsLegal r.initial g) (sym is) legal)

abbrev whole : Recording → Result Recording BadTrace
whole r = Ok r

same_trace : (a b : Recording) → whole a ≡ whole b → a ≡ b
same_trace a b e = cc

pub audits_as : (bytes : List ℕ) (initial : List Id) (h : History) → IsLegal initial h → IsTraceOf bytes initial h → AuditsAs bytes h
audits_as bytes initial h legal t (Ok v) j =
    let same : j.0 ≡ t.trace = same_trace j.0 t.trace (sym j.1 ∙ t.read) in
    let right : IsRight t.trace v = subst (λ (r : Recording). IsRight r v) same j.2 in
    right_is h t.trace v (subst (λ (i : List Id). IsLegal i h) (sym t.from) legal) t.history right
audits_as bytes initial h legal t (Err (Bad bad)) j = let e = sym t.read ∙ j in absurd cc
audits_as bytes initial h legal t (Err Memory) j = tt

pub replay_audited : LawReplayIsAudited
replay_audited s formed can = audits_as (recorded_trace Core s) s.initial (replayed s) (schedule_legal s formed) (replay_read s formed can)
