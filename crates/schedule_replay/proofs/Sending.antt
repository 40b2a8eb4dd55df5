-- A line sends one message at most.
use Rattle.std.proofs.Common.{ℕ, ◌+◌, ◌≤◌, Bool, true, false, Option, None, Some, List, [], ◌∷◌, length, length-append, ap, arith, if◌then◌else◌}
use Rattle.voting_config.specs.Ids.{Id}
use Rattle.cluster_state.specs.declared.state.Kept.{Kept}
use Rattle.world_model.specs.declared.acts.Act.{Act}
use Rattle.world_model.specs.declared.acts.Act.TheVariants.{Bootstrap, StartJoin, Value}
use Rattle.world_model.specs.declared.acts.Message.{Message}
use Rattle.world_model.specs.declared.acts.Outcome.{Outcome}
use Rattle.world_model.specs.declared.acts.Outcome.TheVariants.{Answered, Disk, Crashed}
use Rattle.world_model.specs.declared.acts.ActReply.TheVariants.{Taken, Refused, Stopped}
use Rattle.world_model.specs.Histories.{History, node_history, sent, sent_by}
use Rattle.schedule_text.specs.declared.schedule.Line.{Line}
use Rattle.schedule_text.specs.declared.schedule.Line.TheVariants as line
use Rattle.schedule_generator.proofs.Spelling.{all_spelled}
use Rattle.schedule_generator.specs.Generated.{generated_from}
use Rattle.replay_node.specs.NodeDisk.{CallsEnd, Done, Failed, CrashedIn, opening}
use Rattle.replay_node.specs.NodeWorld.{found_at, needs_opening, outcome_at}
use Rattle.world_model.specs.Settled.{is_kept, settled_for}
use Rattle.replay_node.specs.Sent.{taking}
use Rattle.replay_node.specs.Worlds.{World, did, did_unless_down, fresh_world, history_opened, node_world, opened}
use Rattle.world_model.proofs.AllSettled.{settled_sent}
use Rattle.schedule_replay.specs.Generated.{LawGenerated, count_sent}
use Rattle.schedule_replay.specs.Replayed.{after, message_at, replayed_from, took_some, value_with}

abbrev pub count_in : World → ℕ
count_in w = length (sent w.history)

one_sent : (o : Outcome) → length (sent_by o) ≤ 1
one_sent (Answered (Taken (Some m) wins)) = omega arith
one_sent (Answered (Taken None wins)) = omega arith
one_sent (Answered (Refused cause)) = omega arith
one_sent (Answered Stopped) = omega arith
one_sent (Disk kept) = omega arith
one_sent (Crashed kept) = omega arith

either_few : (b : Bool) (v w : World) (n : ℕ) → count_in v ≤ n → count_in w ≤ n → count_in (if b then v else w) ≤ n
either_few true v w n p q = p
either_few false v w n p q = q

act_sends : (w : World) (n : Id) (act : Act) → count_in (did_unless_down w n act) ≤ count_in w + 1
act_sends w n act =
    let o : Outcome = outcome_at n (node_world w n) act in
    either_few (w.down n) w (did w n act) (count_in w + 1) (omega arith) (omega (arith, length-append (sent w.history) (sent_by o), one_sent o))

taking_sends : (w : World) (n : Id) (m : Option Message) → count_in (took_some w n m) ≤ count_in w + 1
taking_sends w n None = omega arith
taking_sends w n (Some m) = act_sends w n (taking m)

opening_sends : (end : CallsEnd) (h : History) (n : Id) (found : Kept) → length (sent (history_opened end h n found)) ≤ length (sent h) + 1
opening_sends Done h n found =
    let same = ap (λ (ms : List Message). length ms) (settled_sent n (is_kept (node_history h n) found) h) in
    omega (arith, same, length-append (sent (settled_for n (is_kept (node_history h n) found) h)) [])
opening_sends Failed h n found = omega arith
opening_sends (CrashedIn way) h n found = omega arith

pub line_sends : (initial : List Id) (w : World) (l : Line) → count_in (after initial w l) ≤ count_in w + 1
line_sends initial w (line.Boot n) = act_sends w n (Bootstrap initial)
line_sends initial w (line.StartJoin n candidate term) = act_sends w n (StartJoin candidate term)
line_sends initial w (line.Value n version text config) = act_sends w n (Value version config (value_with text))
line_sends initial w (line.Deliver n number) = taking_sends w n (message_at w number)
line_sends initial w (line.Crash n way) = either_few (w.down n) w _ (count_in w + 1) (omega arith) (omega arith)
line_sends initial w (line.Restart n) =
    either_few (needs_opening (node_world w n)) (opened w n) w (count_in w + 1)
    (opening_sends (opening (w.disks n)).ended w.history n (found_at (node_world w n))) (omega arith)
line_sends initial w (line.Fuse n count way) = omega arith
line_sends initial w (line.Fail n count) = omega arith
line_sends initial w (line.Tick n now word) = omega arith
line_sends initial w (line.Client n bytes) = omega arith
line_sends initial w (line.Disconnect n peer) = omega arith

pub lines_send : (initial : List Id) (w : World) (ls : List Line) → count_in (replayed_from initial w ls) ≤ count_in w + length ls
lines_send initial w [] = omega arith
lines_send initial w (l ∷ ls) = omega (arith, line_sends initial w l, lines_send initial (after initial w l) ls)

pub few_sent : (lines : List Line) → count_sent lines ≤ length lines
few_sent lines = omega (arith, lines_send (generated_from lines).initial fresh_world lines)

pub generated_spelled : LawGenerated
generated_spelled number steps within = all_spelled count_sent few_sent number steps within
