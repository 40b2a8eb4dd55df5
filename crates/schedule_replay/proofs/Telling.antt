-- The trace of a schedule is the text of its parts, and the parts tell its history.
use Rattle.std.proofs.Common.{◌≡◌, ℕ, ◌+◌, Bool, true, false, Option, None, Some, List, [], ◌∷◌, ◌++◌, length, refl, sym, ◌∙◌, ap, append-nil, append_assoc, if◌then◌else◌}
use Rattle.std.proofs.lemmas.Grind.{flat_map-append}
use Rattle.voting_config.specs.Ids.{Id}
use Rattle.cluster_state.specs.declared.state.Kept.{Kept}
use Rattle.world_model.specs.declared.acts.Act.{Act}
use Rattle.world_model.specs.declared.acts.Act.TheVariants.{Bootstrap, StartJoin, Value}
use Rattle.world_model.specs.declared.acts.Message.{Message}
use Rattle.world_model.specs.declared.acts.Outcome.{Outcome}
use Rattle.world_model.specs.Histories.{History, Next, node_history, sent, is_opening}
use Rattle.schedule_text.specs.declared.schedule.Line.{Line}
use Rattle.schedule_text.specs.declared.schedule.Line.TheVariants as line
use Rattle.trace_text.specs.Trace.{down_line, up_line, results}
use Rattle.replay_node.specs.NodeDisk.{CallsEnd, Done, Failed, CrashedIn, opening}
use Rattle.replay_node.specs.NodeWorld.{act_called, found_at, needs_opening, opening_text, outcome_at}
use Rattle.trace_text.specs.Published.{last_published}
use Rattle.replay_node.specs.Sent.{taking}
use Rattle.replay_node.specs.Worlds.{World, did, did_unless_down, history_opened, node_world, opened}
use Rattle.schedule_replay.specs.Replayed.{after, message_at, replayed_from, took_some, value_with}
use Rattle.schedule_replay.specs.Trace.{trace_from, line_results, results_of, delivery_results}
use Rattle.replay_node.proofs.MayAct.{taking_shut}
use Rattle.schedule_replay.specs.Parts.{TracePart, Echo, WasDown, WasUp, WentDown, Unsent, part_text, text_of}
use Rattle.schedule_replay.specs.HistoryShown.{history_shown_by, history_shown_from, line_in, lines_of}
use Rattle.schedule_replay.specs.TraceParts.{act_part, act_parts, delivery_parts, opening_part, line_parts, parts_from}
use Rattle.schedule_replay.proofs.ActShown.{results_shown, outcome_shows}

-- ---- each line

taking_is_act : (w : World) (n : Id) (act : Act) → is_opening act ≡ false → history_shown_by w.history (act_part w n act) ≡ (did w n act).history
taking_is_act w n act shut =
    ap (λ (o : Outcome). Next w.history n act o) (outcome_shows n (node_history w.history n) act (act_called n (node_world w n) act).ended shut (length (sent w.history) + 1))

act_told : (w : World) (n : Id) (act : Act) → is_opening act ≡ false → history_shown_from w.history (act_parts w n act) ≡ (did_unless_down w n act).history
act_told w n act shut = from (w.down n)
  where
    from : (b : Bool) → history_shown_by w.history (if b then WasDown n else act_part w n act) ≡ (if b then w else did w n act).history
    from true = refl
    from false = taking_is_act w n act shut

quiet_told : (h : History) (b : Bool) (x y : TracePart) → history_shown_by h x ≡ h → history_shown_by h y ≡ h → history_shown_by h (if b then x else y) ≡ h
quiet_told h true x y p q = p
quiet_told h false x y p q = q

taken_told : (w : World) (n : Id) (m : Option Message) → history_shown_from w.history (delivery_parts w n m) ≡ (took_some w n m).history
taken_told w n None = quiet_told w.history (w.down n) (WasDown n) Unsent refl refl
taken_told w n (Some m) = act_told w n (taking m) (taking_shut m)

pub opening_told : (h : History) (n : Id) (end : CallsEnd) (found : Kept) → history_shown_by h (opening_part end n found) ≡ history_opened end h n found
opening_told h n Done found = refl
opening_told h n Failed found = refl
opening_told h n (CrashedIn way) found = refl

restart_told : (initial : List Id) (w : World) (n : Id) → history_shown_from w.history (line_parts initial w (line.Restart n)) ≡ (after initial w (line.Restart n)).history
restart_told initial w n = from (needs_opening (node_world w n))
  where
    from : (b : Bool) → history_shown_by w.history (if b then opening_part (opening (w.disks n)).ended n (found_at (node_world w n)) else WasUp n) ≡ (if b then opened w n else w).history
    from true = opening_told w.history n (opening (w.disks n)).ended (found_at (node_world w n))
    from false = refl

crash_history : (w v : World) (b : Bool) → v.history ≡ w.history → w.history ≡ (if b then w else v).history
crash_history w v true e = refl
crash_history w v false e = sym e

pub line_told : (initial : List Id) (w : World) (l : Line) → history_shown_from w.history (line_parts initial w l) ≡ (after initial w l).history
line_told initial w (line.Boot n) = act_told w n (Bootstrap initial) refl
line_told initial w (line.StartJoin n candidate term) = act_told w n (StartJoin candidate term) refl
line_told initial w (line.Value n version text config) = act_told w n (Value version config (value_with text)) refl
line_told initial w (line.Deliver n number) = taken_told w n (message_at w number)
line_told initial w (line.Crash n way) = quiet_told w.history (w.down n) (WasDown n) (WentDown n) refl refl ∙ crash_history w _ (w.down n) refl
line_told initial w (line.Restart n) = restart_told initial w n
line_told initial w (line.Fuse n count way) = refl
line_told initial w (line.Fail n count) = refl
line_told initial w (line.Tick n now word) = refl
line_told initial w (line.Client n bytes) = refl
line_told initial w (line.Disconnect n peer) = refl

-- ---- the history

pub told_append : (h : History) (xs ys : List TracePart) → history_shown_from h (xs ++ ys) ≡ history_shown_from (history_shown_from h xs) ys
told_append h [] ys = refl
told_append h (x ∷ xs) ys = told_append (history_shown_by h x) xs ys

pub steps_told : (initial : List Id) (w : World) (ls : List Line) → history_shown_from w.history (parts_from initial w ls) ≡ (replayed_from initial w ls).history
steps_told initial w [] = refl
steps_told initial w (l ∷ ls) =
    told_append w.history (line_parts initial w l) (parts_from initial (after initial w l) ls)
    ∙ ap (λ (h : History). history_shown_from h (parts_from initial (after initial w l) ls)) (line_told initial w l)
    ∙ steps_told initial (after initial w l) ls

-- ---- the text

one_text : (x : TracePart) → text_of (x ∷ []) ≡ part_text x
one_text x = append-nil (part_text x)

act_text_is : (w : World) (n : Id) (act : Act) → is_opening act ≡ false → results_of w n act ≡ text_of (act_parts w n act)
act_text_is w n act shut = from (w.down n) ∙ sym (one_text _)
  where
    from : (b : Bool) → (if b then down_line n else results (length (sent w.history)) (last_published (node_history w.history n)) n act (outcome_at n (node_world w n) act)) ≡ part_text (if b then WasDown n else act_part w n act)
    from true = refl
    from false = results_shown (length (sent w.history)) (last_published (node_history w.history n)) n act (outcome_at n (node_world w n) act) shut

if_text : (b : Bool) (x y : TracePart) → (if b then part_text x else part_text y) ≡ part_text (if b then x else y)
if_text true x y = refl
if_text false x y = refl

taken_text : (w : World) (n : Id) (m : Option Message) → delivery_results w n m ≡ text_of (delivery_parts w n m)
taken_text w n None = if_text (w.down n) (WasDown n) Unsent ∙ sym (one_text _)
taken_text w n (Some m) = act_text_is w n (taking m) (taking_shut m)

opening_text_is : (n : Id) (end : CallsEnd) (found : Kept) → opening_text end n found ≡ part_text (opening_part end n found)
opening_text_is n Done found = refl
opening_text_is n Failed found = refl
opening_text_is n (CrashedIn way) found = refl

restart_text_is : (initial : List Id) (w : World) (n : Id) → line_results initial w (line.Restart n) ≡ text_of (line_parts initial w (line.Restart n))
restart_text_is initial w n = from (needs_opening (node_world w n)) ∙ sym (one_text _)
  where
    from : (b : Bool) → (if b then opening_text (opening (w.disks n)).ended n (found_at (node_world w n)) else up_line n)
        ≡ part_text (if b then opening_part (opening (w.disks n)).ended n (found_at (node_world w n)) else WasUp n)
    from true = opening_text_is n (opening (w.disks n)).ended (found_at (node_world w n))
    from false = refl

line_text_is : (initial : List Id) (w : World) (l : Line) → line_results initial w l ≡ text_of (line_parts initial w l)
line_text_is initial w (line.Boot n) = act_text_is w n (Bootstrap initial) refl
line_text_is initial w (line.StartJoin n candidate term) = act_text_is w n (StartJoin candidate term) refl
line_text_is initial w (line.Value n version text config) = act_text_is w n (Value version config (value_with text)) refl
line_text_is initial w (line.Deliver n number) = taken_text w n (message_at w number)
line_text_is initial w (line.Crash n way) = if_text (w.down n) (WasDown n) (WentDown n) ∙ sym (one_text _)
line_text_is initial w (line.Restart n) = restart_text_is initial w n
line_text_is initial w (line.Fuse n count way) = refl
line_text_is initial w (line.Fail n count) = refl
line_text_is initial w (line.Tick n now word) = refl
line_text_is initial w (line.Client n bytes) = refl
line_text_is initial w (line.Disconnect n peer) = refl

pub steps_text : (initial : List Id) (w : World) (ls : List Line) → trace_from initial w ls ≡ text_of (parts_from initial w ls)
steps_text initial w [] = refl
steps_text initial w (l ∷ ls) =
    ap (λ (x : List ℕ). (part_text (Echo l) ++ x) ++ trace_from initial (after initial w l) ls) (line_text_is initial w l)
    ∙ ap (λ (x : List ℕ). (part_text (Echo l) ++ text_of (line_parts initial w l)) ++ x) (steps_text initial (after initial w l) ls)
    ∙ append_assoc (part_text (Echo l)) (text_of (line_parts initial w l)) (text_of (parts_from initial (after initial w l) ls))
    ∙ ap (λ (x : List ℕ). part_text (Echo l) ++ x) (sym (flat_map-append part_text (line_parts initial w l) (parts_from initial (after initial w l) ls)))

-- ---- the lines

if_no_line : (b : Bool) (x y : TracePart) → line_in x ≡ [] → line_in y ≡ [] → lines_of ((if b then x else y) ∷ []) ≡ []
if_no_line true x y p q = append-nil (line_in x) ∙ p
if_no_line false x y p q = append-nil (line_in y) ∙ q

pub opening_no_line : (end : CallsEnd) (n : Id) (found : Kept) → line_in (opening_part end n found) ≡ []
opening_no_line Done n found = refl
opening_no_line Failed n found = refl
opening_no_line (CrashedIn way) n found = refl

delivery_no_line : (w : World) (n : Id) (m : Option Message) → lines_of (delivery_parts w n m) ≡ []
delivery_no_line w n None = if_no_line (w.down n) _ _ refl refl
delivery_no_line w n (Some m) = if_no_line (w.down n) _ _ refl refl

no_line : (initial : List Id) (w : World) (l : Line) → lines_of (line_parts initial w l) ≡ []
no_line initial w (line.Boot n) = if_no_line (w.down n) _ _ refl refl
no_line initial w (line.StartJoin n candidate term) = if_no_line (w.down n) _ _ refl refl
no_line initial w (line.Value n version text config) = if_no_line (w.down n) _ _ refl refl
no_line initial w (line.Deliver n number) = delivery_no_line w n (message_at w number)
no_line initial w (line.Crash n way) = if_no_line (w.down n) _ _ refl refl
no_line initial w (line.Restart n) = if_no_line (needs_opening (node_world w n)) _ _ (opening_no_line (opening (w.disks n)).ended n (found_at (node_world w n))) refl
no_line initial w (line.Fuse n count way) = refl
no_line initial w (line.Fail n count) = refl
no_line initial w (line.Tick n now word) = refl
no_line initial w (line.Client n bytes) = refl
no_line initial w (line.Disconnect n peer) = refl

pub steps_lines : (initial : List Id) (w : World) (ls : List Line) → lines_of (parts_from initial w ls) ≡ ls
steps_lines initial w [] = refl
steps_lines initial w (l ∷ ls) =
    ap (λ (x : List Line). l ∷ x)
    (flat_map-append line_in (line_parts initial w l) (parts_from initial (after initial w l) ls)
    ∙ ap (λ (x : List Line). x ++ lines_of (parts_from initial (after initial w l) ls)) (no_line initial w l)
    ∙ steps_lines initial (after initial w l) ls)

-- ---- more lines

abbrev GoesOn : List TracePart → List TracePart → Type 0
GoesOn old new = (rest : List TracePart) × (new ≡ old ++ rest)

behind : (prefix old new : List TracePart) → GoesOn old new → GoesOn (prefix ++ old) (prefix ++ new)
behind prefix old new g = (g.0, ap (λ x. prefix ++ x) g.1 ∙ sym (append_assoc prefix old g.0))

pub go_on : (initial : List Id) (w : World) (ls more : List Line) → GoesOn (parts_from initial w ls) (parts_from initial w (ls ++ more))
go_on initial w [] more = (parts_from initial w more, refl)
go_on initial w (l ∷ ls) more = behind (Echo l ∷ line_parts initial w l) _ _ (go_on initial (after initial w l) ls more)
