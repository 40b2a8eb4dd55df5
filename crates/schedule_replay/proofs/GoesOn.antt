-- The lines of a plan, replayed.
use Rattle.std.proofs.Common.{◌≡◌, ◌≤◌, arith, Bool, true, false, cond, Option, None, Some, Ok, List, [], ◌∷◌, ◌++◌, length, refl, sym, ◌∙◌, ap, subst, if◌then◌else◌}
use Rattle.std.specs.List.{AllByRecursion}
use Rattle.std.proofs.lemmas.Bool.{or_parts, and_from}
use Rattle.voting_config.specs.Ids.{Id, IsIdSet, same, has}
use Rattle.zen_disk.specs.Armed.{nothing_armed}
use Rattle.zen_disk.specs.DeviceCall.{DeviceCall}
use Rattle.zen_disk.specs.FileState.{FileState, after as file_after}
use Rattle.zen_disk.specs.Sides.{Sides}
use Rattle.zen_disk.specs.declared.orders.Armed.{Armed}
use Rattle.world_model.specs.declared.acts.Act.{Act}
use Rattle.world_model.specs.declared.acts.Act.TheVariants.{StartJoin, Value}
use Rattle.world_model.specs.declared.acts.Message.{Message}
use Rattle.world_model.specs.declared.acts.Message.TheVariants.{Join as JoinMessage, Publish as PublishMessage, Response as ResponseMessage, Commit as CommitMessage}
use Rattle.world_model.specs.NodeState.{halted_of}
use Rattle.world_model.specs.Histories.{History, Next, node_history, sent, is_down}
use Rattle.world_model.specs.Replies.{reply_of}
use Rattle.schedule_text.specs.declared.schedule.Line.{Line}
use Rattle.schedule_text.specs.declared.schedule.Line.TheVariants as line
use Rattle.schedule_text.specs.declared.schedule.Schedule.{Schedule}
use Rattle.schedule_text.specs.declared.level.Level.TheVariants.{Core}
use Rattle.schedule_text.specs.Limits.{most_lines}
use Rattle.schedule_text.specs.Lines.{FitsLine}
use Rattle.schedule_text.specs.Spelled.{IsSchedule}
use Rattle.replay_node.specs.NodeDisk.{NodeDisk, CallsEnd, Done, calls_made}
use Rattle.replay_node.specs.NodeWorld.{act_called, outcome_by, ends_in_a_crash}
use Rattle.replay_node.specs.Sent.{taking}
use Rattle.replay_node.specs.Worlds.{World, did, did_unless_down, fresh_world, node_world}
use Rattle.rescue_plan.specs.declared.answer.Plan.{Plan}
use Rattle.rescue_plan.specs.Lines.{answered, act_of, given, line_done, lines_done}
use Rattle.rescue_plan.specs.Planning.{planned}
use Rattle.rescue_plan.specs.Rescue.{ups, AreUp, IsRescued}
use Rattle.rescue_plan.proofs.Views.{rescues}
use Rattle.rescue_plan.proofs.Named.{IsOf, are_of}
use Rattle.schedule_replay.specs.Replayed.{after, message_at, took_some, replayed_from, replayed, value_with}
use Rattle.schedule_replay.specs.Survey.{world_after}
use Rattle.schedule_replay.proofs.PlanFits.{both_fit, plan_fits}
use Rattle.schedule_replay.proofs.Naming.{config_named}
use Rattle.schedule_replay.proofs.Sending.{lines_send}
use Rattle.schedule_replay.proofs.WorldLegal.{world_sound}
use Rattle.schedule_replay.specs.GoesOn.{IsFree, LawGoesOn, with_lines}

-- ---- device calls, where no order is left

made : (files : Sides FileState) (calls : List DeviceCall)
    → ((calls_made (record { files = files; armed = nothing_armed }) calls).ended ≡ Done) × ((calls_made (record { files = files; armed = nothing_armed }) calls).disk.armed ≡ nothing_armed)
made files [] = (refl, refl)
made files (call ∷ calls) = made (file_after files call) calls

calls_free : (disk : NodeDisk) (calls : List DeviceCall) → disk.armed ≡ nothing_armed → ((calls_made disk calls).ended ≡ Done) × ((calls_made disk calls).disk.armed ≡ nothing_armed)
calls_free disk calls e =
    let is : record { files = disk.files; armed = nothing_armed } ≡ disk = ap (λ (a : Armed). record { files = disk.files; armed = a }) (sym e) in
    subst (λ (d : NodeDisk). ((calls_made d calls).ended ≡ Done) × ((calls_made d calls).disk.armed ≡ nothing_armed)) is (made disk.files calls)

-- ---- an act

-- the node is up, and no order of its disk is left
record IsReady (w : World) (n : Id) : Type 0 where
  up : w.down n ≡ false
  armed : (w.disks n).armed ≡ nothing_armed

either_way : {X : Type 0} (b : Bool) (x y z : X) → x ≡ z → y ≡ z → cond b x y ≡ z
either_way true x y z e f = e
either_way false x y z e f = f

-- what an act makes of all nodes
record Goes (w after_it : World) (h : History) : Type 0 where
  history : after_it.history ≡ h
  still : (k : Id) → IsReady w k → IsReady after_it k

module _ (w : World) (n : Id) (act : Act) (free : IsReady w n) where
  called : ((act_called n (node_world w n) act).ended ≡ Done) × ((act_called n (node_world w n) act).disk.armed ≡ nothing_armed)
  called = calls_free (w.disks n) _ free.armed

  did_goes : Goes w (did w n act) (answered w.history n act)
  did_goes = record {
    history = ap (λ (end : CallsEnd). Next w.history n act (outcome_by end (reply_of n (node_history w.history n) act))) called.0;
    still = λ k f. record {
      up = either_way (same n k) _ (w.down k) false (ap ends_in_a_crash called.0) f.up;
      armed = armed_by (same n k) k f;
    };
  }
    where
      armed_by : (b : Bool) (k : Id) → IsReady w k → (cond b (act_called n (node_world w n) act).disk (w.disks k)).armed ≡ nothing_armed
      armed_by true k f = called.1
      armed_by false k f = f.armed

  act_goes : Goes w (did_unless_down w n act) (answered w.history n act)
  act_goes =
      let is : did_unless_down w n act ≡ did w n act = ap (λ (b : Bool). if b then w else did w n act) free.up in
      subst (λ (v : World). Goes w v (answered w.history n act)) (sym is) did_goes

taking_is : (m : Message) → taking m ≡ act_of m
taking_is (JoinMessage j) = refl
taking_is (PublishMessage r) = refl
taking_is (ResponseMessage r) = refl
taking_is (CommitMessage c) = refl

given_goes : (w : World) (n : Id) (m : Option Message) → IsReady w n → Goes w (took_some w n m) (given w.history n m)
given_goes w n None free = record { history = refl; still = λ k f. f }
given_goes w n (Some m) free = subst (λ (a : Act). Goes w (did_unless_down w n (taking m)) (answered w.history n a)) (taking_is m) (act_goes w n (taking m) free)

-- ---- the lines

line_goes : (initial : List Id) (w : World) (l : Line) (us : List Id) → ((u : Id) → has u us ≡ true → IsReady w u) → IsOf us l → Goes w (after initial w l) (line_done value_with w.history l)
line_goes initial w (line.Boot n) us free of = absurd of
line_goes initial w (line.StartJoin n candidate term) us free of = act_goes w n (StartJoin candidate term) (free n of)
line_goes initial w (line.Value n version text config) us free of = act_goes w n (Value version config (value_with text)) (free n of)
line_goes initial w (line.Deliver n number) us free of = given_goes w n (message_at w number) (free n of)
line_goes initial w (line.Crash n way) us free of = absurd of
line_goes initial w (line.Restart n) us free of = absurd of
line_goes initial w (line.Fuse n count way) us free of = absurd of
line_goes initial w (line.Fail n count) us free of = absurd of
line_goes initial w (line.Tick n now word) us free of = absurd of
line_goes initial w (line.Client n bytes) us free of = absurd of
line_goes initial w (line.Disconnect n peer) us free of = absurd of

lines_go : (initial : List Id) (w : World) (ls : List Line) (us : List Id) → ((u : Id) → has u us ≡ true → IsReady w u) → AllByRecursion (IsOf us) ls → (replayed_from initial w ls).history ≡ lines_done value_with w.history ls
lines_go initial w [] us free of = refl
lines_go initial w (l ∷ ls) us free of =
    let step : Goes w (after initial w l) (line_done value_with w.history l) = line_goes initial w l us free of.0 in
    lines_go initial (after initial w l) ls us (λ u e. step.still u (free u e)) of.1
    ∙ ap (λ (h : History). lines_done value_with h ls) step.history

replayed-append : (initial : List Id) (w : World) (xs ys : List Line) → replayed_from initial w (xs ++ ys) ≡ replayed_from initial (replayed_from initial w xs) ys
replayed-append initial w [] ys = refl
replayed-append initial w (x ∷ xs) ys = replayed-append initial (after initial w x) xs ys

-- what is known of a node that is free
free_up : (s : Schedule) → IsSchedule Core s → (n : Id) → IsFree (world_after s) n → (is_down (node_history (replayed s) n) ≡ false) × (halted_of (node_history (replayed s) n) ≡ false)
free_up s is n free =
    let runs = or_parts _ _ free.runs in
    (((world_sound s is).nodes n).up runs.0, runs.1)

more_lines : (s : Schedule) → IsSchedule Core s → (ls : List Line) → AllByRecursion (FitsLine Core s.nodes) ls → IsSchedule Core (with_lines s ls)
more_lines s is ls fits = record {
  nodes = is.nodes;
  some_node = is.some_node;
  initial = is.initial;
  some_initial = is.some_initial;
  listed = is.listed;
  voting_only = is.voting_only;
  second = is.second;
  lines = both_fit (FitsLine Core s.nodes) s.lines ls is.lines fits;
}

all_fit : (s : Schedule) → IsSchedule Core s → length s.lines ≤ most_lines → (us : List Id) → IsIdSet us → ((u : Id) → has u us ≡ true → has u s.nodes ≡ true)
    → (p : Plan) → planned (ups (replayed s) us) (length (sent (replayed s))) ≡ Ok p → AllByRecursion (FitsLine Core s.nodes) p.lines
all_fit s is few [] set sub p made = absurd (cc)
all_fit s is few (first ∷ others) set sub p made =
    let sent_few = lines_send s.initial fresh_world s.lines in
    plan_fits s.nodes (replayed s) first others (length (sent (replayed s))) set sub (omega (arith, sent_few, few))
    (config_named s.nodes s.initial s.lines is.lines (and_from _ _ is.initial is.listed) (world_sound s is).legal) p made

pub goes_on : LawGoesOn
goes_on s is few us set sub free p made =
    let are : AreUp (replayed s) us = record { ascending = set.ascending; up = λ u e. (free_up s is u (free u e)).0; runs = λ u e. (free_up s is u (free u e)).1 } in
    let ready : (u : Id) → has u us ≡ true → IsReady (world_after s) u = λ u e. record { up = (or_parts _ _ (free u e).runs).0; armed = (free u e).armed } in
    let history : replayed (with_lines s p.lines) ≡ lines_done value_with (replayed s) p.lines =
    ap (λ (w : World). w.history) (replayed-append s.initial fresh_world s.lines p.lines)
    ∙ lines_go s.initial (world_after s) p.lines us ready (are_of (replayed s) us (length (sent (replayed s))) p set.ascending made)
    in
    record {
      schedule = more_lines s is p.lines (all_fit s is few us set sub p made);
      history = history;
      rescued = subst (λ (h : History). IsRescued s.initial (replayed s) h us p) (sym history) (rescues s.initial (replayed s) (world_sound s is).legal us are p made value_with);
    }
