-- Each part of a schedule is right where it stands, and the history is legal there.
use Rattle.std.proofs.Common.{◌≡◌, ◌+◌, Bool, true, false, Option, None, Some, List, [], ◌∷◌, ◌++◌, length, refl, sym, ◌∙◌, ap, subst, if◌then◌else◌}
use Rattle.std.specs.List.{AllByRecursion}
use Rattle.voting_config.specs.Ids.{Id}
use Rattle.cluster_state.specs.declared.state.Kept.{Kept}
use Rattle.world_model.specs.declared.acts.Act.{Act}
use Rattle.world_model.specs.declared.acts.Act.TheVariants.{Bootstrap, StartJoin, Value}
use Rattle.world_model.specs.declared.acts.Message.{Message}
use Rattle.world_model.specs.Histories.{History, node_history, sent, is_opening, IsLegal}
use Rattle.schedule_text.specs.declared.schedule.Line.{Line}
use Rattle.schedule_text.specs.declared.schedule.Line.TheVariants as line
use Rattle.schedule_text.specs.declared.schedule.Schedule.{Schedule}
use Rattle.schedule_text.specs.declared.level.Level.TheVariants.{Core}
use Rattle.schedule_text.specs.Lines.{FitsLine}
use Rattle.replay_node.specs.NodeDisk.{CallsEnd, Done, Failed, CrashedIn, opening}
use Rattle.replay_node.specs.NodeWorld.{act_called, found_at, needs_opening, outcome_at}
use Rattle.replay_node.specs.Sent.{taking}
use Rattle.replay_node.specs.Worlds.{World, fresh_world, node_world}
use Rattle.schedule_replay.specs.Replayed.{after, message_at, replayed_from, value_with}
use Rattle.replay_node.proofs.MayAct.{taking_shut}
use Rattle.schedule_replay.proofs.WorldLegal.{replay_is_legal}
use Rattle.schedule_replay.specs.Parts.{TracePart, WasDown, WasUp, WentDown, Unsent}
use Rattle.schedule_replay.specs.HistoryShown.{history_shown_from}
use Rattle.schedule_replay.specs.TraceParts.{act_part, delivery_parts, opening_part, line_parts, parts_from, trace_parts}
use Rattle.schedule_replay.specs.Legal.{IsWellFormed}
use Rattle.schedule_replay.proofs.Along.{Along, along_append, IsRight, IsSound}
use Rattle.schedule_replay.proofs.Telling.{line_told}
use Rattle.schedule_replay.proofs.ActShown.{outcome_shows}

act_right : (w : World) (n : Id) (act : Act) → is_opening act ≡ false → IsRight w.history (if w.down n then WasDown n else act_part w n act)
act_right w n act shut = from (w.down n)
  where
    from : (b : Bool) → IsRight w.history (if b then WasDown n else act_part w n act)
    from true = tt
    from false = record {
      outcome = outcome_at n (node_world w n) act;
      is_shown = refl;
      tells = outcome_shows n (node_history w.history n) act (act_called n (node_world w n) act).ended shut (length (sent w.history) + 1);
      shut = shut;
    }

pub opening_right : (h : History) (n : Id) (end : CallsEnd) (found : Kept) → IsRight h (opening_part end n found)
opening_right h n Done found = tt
opening_right h n Failed found = tt
opening_right h n (CrashedIn way) found = tt

if_right : (h : History) (b : Bool) (x y : TracePart) → IsRight h x → IsRight h y → IsRight h (if b then x else y)
if_right h true x y p q = p
if_right h false x y p q = q

-- a line shows one part that is right, or none
data IsOne (h : History) : List TracePart → Type 0 where
  NoStep : IsOne h []
  OneStep : (x : TracePart) → IsRight h x → IsOne h (x ∷ [])

delivery_one : (w : World) (n : Id) (m : Option Message) → IsOne w.history (delivery_parts w n m)
delivery_one w n None = OneStep _ (if_right w.history (w.down n) (WasDown n) Unsent tt tt)
delivery_one w n (Some m) = OneStep _ (act_right w n (taking m) (taking_shut m))

line_one : (initial : List Id) (w : World) (l : Line) → IsOne w.history (line_parts initial w l)
line_one initial w (line.Boot n) = OneStep _ (act_right w n (Bootstrap initial) refl)
line_one initial w (line.StartJoin n candidate term) = OneStep _ (act_right w n (StartJoin candidate term) refl)
line_one initial w (line.Value n version text config) = OneStep _ (act_right w n (Value version config (value_with text)) refl)
line_one initial w (line.Deliver n number) = delivery_one w n (message_at w number)
line_one initial w (line.Crash n way) = OneStep _ (if_right w.history (w.down n) (WasDown n) (WentDown n) tt tt)
line_one initial w (line.Restart n) = OneStep _ (if_right w.history (needs_opening (node_world w n)) _ (WasUp n) (opening_right w.history n (opening (w.disks n)).ended (found_at (node_world w n))) tt)
line_one initial w (line.Fuse n count way) = NoStep
line_one initial w (line.Fail n count) = NoStep
line_one initial w (line.Tick n now word) = NoStep
line_one initial w (line.Client n bytes) = NoStep
line_one initial w (line.Disconnect n peer) = NoStep

right_one : (h : History) (xs : List TracePart) → IsOne h xs → Along IsRight h xs
right_one h _ NoStep = tt
right_one h _ (OneStep x r) = (r, tt)

pub steps_right : (initial : List Id) (w : World) (ls : List Line) → Along IsRight w.history (parts_from initial w ls)
steps_right initial w [] = tt
steps_right initial w (l ∷ ls) = (
  tt,
  along_append IsRight w.history (line_parts initial w l) (parts_from initial (after initial w l) ls) (right_one w.history _ (line_one initial w l))
      (subst (λ (h : History). Along IsRight h (parts_from initial (after initial w l) ls)) (sym (line_told initial w l)) (steps_right initial (after initial w l) ls)),
)

-- ---- legality

sound_one : (initial : List Id) (h : History) (xs : List TracePart) → IsOne h xs → IsLegal initial h → IsLegal initial (history_shown_from h xs) → Along (IsSound initial) h xs
sound_one initial h _ NoStep l m = tt
sound_one initial h _ (OneStep x r) l m = (record { right = r; before = l; behind = m }, tt)

-- the history is legal after each prefix of the lines
abbrev IsLegalAll : List Id → World → List Line → Type 0
IsLegalAll initial w ls = (prefix back : List Line) → ls ≡ prefix ++ back → IsLegal initial (replayed_from initial w prefix).history

steps_sound : (initial : List Id) (w : World) (ls : List Line) → IsLegalAll initial w ls → Along (IsSound initial) w.history (parts_from initial w ls)
steps_sound initial w [] all = tt
steps_sound initial w (l ∷ ls) all = (
  record { right = tt; before = here; behind = here },
  along_append (IsSound initial) w.history (line_parts initial w l) (parts_from initial (after initial w l) ls)
      (sound_one initial w.history _ (line_one initial w l) here (subst (λ (h : History). IsLegal initial h) (sym (line_told initial w l)) next))
      (subst (λ (h : History). Along (IsSound initial) h (parts_from initial (after initial w l) ls)) (sym (line_told initial w l))
      (steps_sound initial (after initial w l) ls (λ prefix back e. all (l ∷ prefix) back (ap (λ x. l ∷ x) e)))),
)
  where
    here : IsLegal initial w.history
    here = all [] (l ∷ ls) refl

    next : IsLegal initial (after initial w l).history
    next = all (l ∷ []) ls refl

prefix_fits : (nodes : List Id) (prefix back : List Line) → AllByRecursion (FitsLine Core nodes) (prefix ++ back) → AllByRecursion (FitsLine Core nodes) prefix
prefix_fits nodes [] back f = tt
prefix_fits nodes (l ∷ prefix) back f = (f.0, prefix_fits nodes prefix back f.1)

prefix_none : (prefix back : List Line) → prefix ++ back ≡ [] → prefix ≡ []
prefix_none [] back e = refl
prefix_none (l ∷ prefix) back e = cc

pub schedule_sound : (s : Schedule) → IsWellFormed s → Along (IsSound s.initial) fresh_world.history (trace_parts s)
schedule_sound s i = steps_sound s.initial fresh_world s.lines all
  where
    all : IsLegalAll s.initial fresh_world s.lines
    all prefix back e =
        replay_is_legal (record s { lines = prefix }) (record {
          initial = i.initial;
          fit = prefix_fits s.nodes prefix back (subst (λ (ls : List Line). AllByRecursion (FitsLine Core s.nodes) ls) e i.fit);
          named = λ none. prefix_none prefix back (sym e ∙ i.named none);
        })

pub schedule_legal : (s : Schedule) → IsWellFormed s → IsLegal s.initial (replayed_from s.initial fresh_world s.lines).history
schedule_legal s i = replay_is_legal s i
