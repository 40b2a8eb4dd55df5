-- After the echo of each line stands what the line asks for.
use Rattle.std.proofs.Common.{◌≡◌, Bool, true, false, cond, Option, None, Some, List, [], ◌∷◌, refl, sym, ◌∙◌, ap, subst, inl, inr, if◌then◌else◌}
use Rattle.std.specs.Prelude.{◌||◌}
use Rattle.voting_config.specs.Ids.{Id, same}
use Rattle.cluster_state.specs.declared.state.Kept.{Kept}
use Rattle.zen_disk.specs.declared.orders.Order.{Order}
use Rattle.zen_disk.specs.declared.orders.Order.TheVariants.{Stop, Fault}
use Rattle.zen_disk.specs.declared.orders.Way.{Way}
use Rattle.world_model.specs.declared.acts.Act.{Act}
use Rattle.world_model.specs.declared.acts.Act.TheVariants.{Bootstrap, StartJoin, Value}
use Rattle.world_model.specs.declared.acts.Message.{Message}
use Rattle.world_model.specs.declared.acts.ActReply.{ActReply}
use Rattle.world_model.specs.declared.acts.ActReply.TheVariants.{Taken, Refused, Stopped}
use Rattle.world_model.specs.Acts.{NodeHistory}
use Rattle.world_model.specs.NodeState.{halted_of}
use Rattle.world_model.specs.Replies.{reply_of}
use Rattle.world_model.specs.Histories.{History, node_history}
use Rattle.voting_config.proofs.Sets.{same_is}
use Rattle.schedule_text.specs.declared.schedule.Line.{Line}
use Rattle.schedule_text.specs.declared.schedule.Line.TheVariants as line
use Rattle.trace_text.specs.Endings.{ending_of}
use Rattle.replay_node.specs.NodeDisk.{NodeDisk, CallsEnd, Done, Failed, CrashedIn, opening}
use Rattle.replay_node.specs.NodeWorld.{act_called, found_at, ends_in_a_crash, needs_opening, opened_by, outcome_by}
use Rattle.replay_node.specs.Sent.{taking}
use Rattle.replay_node.specs.Worlds.{World, crashed, did, did_unless_down, node_world, opened, ordered}
use Rattle.schedule_replay.specs.Replayed.{after, message_at, took_some, value_with}
use Rattle.schedule_replay.specs.LineByLine.{is_crash, down_by, down_from, ShowsAct, ShowsDelivery, ShowsOpening, ShowsRestart, ShowsLine, ShowsLines}
use Rattle.schedule_replay.specs.TraceParts.{act_part, act_parts, delivery_parts, opening_part, line_parts, parts_from}
use Rattle.schedule_replay.specs.Parts.{TracePart, WasDown, WasUp, WentDown, Unsent}
use Rattle.schedule_replay.proofs.Telling.{line_told}

-- the nodes that are down are those of the world
abbrev Knows : (Id → Bool) → World → Type 0
Knows down w = (n : Id) → down n ≡ w.down n

-- ---- an act

crash_is : (end : CallsEnd) (reply : ActReply) → is_crash (ending_of (outcome_by end reply)) ≡ ends_in_a_crash end
crash_is Done (Taken s w) = refl
crash_is Done (Refused c) = refl
crash_is Done Stopped = refl
crash_is Failed reply = refl
crash_is (CrashedIn way) reply = refl

act_shows : (w : World) (n : Id) (act : Act) (down : Id → Bool) → Knows down w → ShowsAct (down n) n act (act_parts w n act)
act_shows w n act down k = subst (λ (b : Bool). ShowsAct b n act (act_parts w n act)) (sym (k n)) (from (w.down n))
  where
    from : (b : Bool) → ShowsAct b n act ((if b then WasDown n else act_part w n act) ∷ [])
    from true = refl
    from false = (_, refl, refl, refl)

act_knows : (w : World) (n : Id) (act : Act) (down : Id → Bool) → Knows down w → Knows (down_from down (act_parts w n act)) (did_unless_down w n act)
act_knows w n act down k m = from (w.down n)
  where
    end : CallsEnd
    end = (act_called n (node_world w n) act).ended

    from : (b : Bool) → down_by down (if b then WasDown n else act_part w n act) m ≡ (if b then w else did w n act).down m
    from true = k m
    from false = λ i. cond (same n m) (crash_is end (reply_of n (node_history w.history n) act) i) (k m i)

delivery_shows : (w : World) (n : Id) (message : Option Message) (down : Id → Bool) → Knows down w → ShowsDelivery (down n) n message (delivery_parts w n message)
delivery_shows w n None down k = ap (λ (b : Bool). (if b then WasDown n else Unsent) ∷ []) (sym (k n))
delivery_shows w n (Some message) down k = act_shows w n (taking message) down k

quiet : (b : Bool) (x y : TracePart) (down : Id → Bool) (m : Id) → down_by down x m ≡ down m → down_by down y m ≡ down m → down_by down (if b then x else y) m ≡ down m
quiet true x y down m p q = p
quiet false x y down m p q = q

delivery_knows : (w : World) (n : Id) (message : Option Message) (down : Id → Bool) → Knows down w → Knows (down_from down (delivery_parts w n message)) (took_some w n message)
delivery_knows w n None down k m = quiet (w.down n) (WasDown n) Unsent down m refl refl ∙ k m
delivery_knows w n (Some message) down k m = act_knows w n (taking message) down k m

-- ---- a crash between two acts, and orders

crash_knows : (w : World) (n : Id) (way : Way) (down : Id → Bool) → Knows down w → Knows (down_by down (if w.down n then WasDown n else WentDown n)) (crashed w n way)
crash_knows w n way down k m = from (w.down n) _ refl
  where
    from : (b : Bool) (v : World) → v.down m ≡ cond (same n m) true (w.down m) → down_by down (if b then WasDown n else WentDown n) m ≡ (if b then w else v).down m
    from true v e = k m
    from false v e = ap (λ (x : Bool). cond (same n m) true x) (k m) ∙ sym e

order_knows : (w : World) (n : Id) (order : Order) (down : Id → Bool) → Knows down w → Knows down (ordered w n order)
order_knows w n order down k m = k m ∙ from (same n m) refl
  where
    from : (b : Bool) → same n m ≡ b → w.down m ≡ cond b (w.down n) (w.down m)
    from true e = ap w.down (sym (same_is n m e))
    from false e = refl

-- ---- an opening

opening_shows : (end : CallsEnd) (n : Id) (found : Kept) → ShowsOpening n (opening_part end n found ∷ [])
opening_shows Done n found = inl (found, refl)
opening_shows Failed n found = inr (inl refl)
opening_shows (CrashedIn way) n found = inr (inr refl)

opening_down : (end : CallsEnd) (n m : Id) (found : Kept) (g : NodeHistory) (disk : NodeDisk) (down : Id → Bool) (is_down : Bool) → down m ≡ is_down
    → down_by down (opening_part end n found) m ≡ cond (same n m) (opened_by end g disk found).down is_down
opening_down Done n m found g disk down is_down e = ap (λ (x : Bool). cond (same n m) false x) e
opening_down Failed n m found g disk down is_down e = ap (λ (x : Bool). cond (same n m) true x) e
opening_down (CrashedIn way) n m found g disk down is_down e = ap (λ (x : Bool). cond (same n m) true x) e

restart_shows : (initial : List Id) (w : World) (n : Id) (down : Id → Bool) → Knows down w → ShowsRestart (down n || halted_of (node_history w.history n)) n (line_parts initial w (line.Restart n))
restart_shows initial w n down k =
    subst (λ (b : Bool). ShowsRestart (b || halted_of (node_history w.history n)) n (line_parts initial w (line.Restart n))) (sym (k n)) (from (needs_opening (node_world w n)))
  where
    from : (b : Bool) → ShowsRestart b n ((if b then opening_part (opening (w.disks n)).ended n (found_at (node_world w n)) else WasUp n) ∷ [])
    from true = opening_shows (opening (w.disks n)).ended n (found_at (node_world w n))
    from false = refl

restart_knows : (initial : List Id) (w : World) (n : Id) (down : Id → Bool) → Knows down w → Knows (down_from down (line_parts initial w (line.Restart n))) (after initial w (line.Restart n))
restart_knows initial w n down k m = from (needs_opening (node_world w n))
  where
    from : (b : Bool) → down_by down (if b then opening_part (opening (w.disks n)).ended n (found_at (node_world w n)) else WasUp n) m ≡ (if b then opened w n else w).down m
    from true = opening_down (opening (w.disks n)).ended n m (found_at (node_world w n)) (node_history w.history n) (opening (w.disks n)).disk down (w.down m) (k m)
    from false = k m

-- ---- lines

line_shows : (initial : List Id) (w : World) (l : Line) (down : Id → Bool) → Knows down w → ShowsLine initial w.history down l (line_parts initial w l)
line_shows initial w (line.Boot n) down k = act_shows w n (Bootstrap initial) down k
line_shows initial w (line.StartJoin n candidate term) down k = act_shows w n (StartJoin candidate term) down k
line_shows initial w (line.Value n version text config) down k = act_shows w n (Value version config (value_with text)) down k
line_shows initial w (line.Deliver n number) down k = delivery_shows w n (message_at w number) down k
line_shows initial w (line.Crash n way) down k = ap (λ (b : Bool). (if b then WasDown n else WentDown n) ∷ []) (sym (k n))
line_shows initial w (line.Restart n) down k = restart_shows initial w n down k
line_shows initial w (line.Fuse n count way) down k = refl
line_shows initial w (line.Fail n count) down k = refl
line_shows initial w (line.Tick n now word) down k = refl
line_shows initial w (line.Client n bytes) down k = refl
line_shows initial w (line.Disconnect n peer) down k = refl

line_knows : (initial : List Id) (w : World) (l : Line) (down : Id → Bool) → Knows down w → Knows (down_from down (line_parts initial w l)) (after initial w l)
line_knows initial w (line.Boot n) down k = act_knows w n (Bootstrap initial) down k
line_knows initial w (line.StartJoin n candidate term) down k = act_knows w n (StartJoin candidate term) down k
line_knows initial w (line.Value n version text config) down k = act_knows w n (Value version config (value_with text)) down k
line_knows initial w (line.Deliver n number) down k = delivery_knows w n (message_at w number) down k
line_knows initial w (line.Crash n way) down k = crash_knows w n way down k
line_knows initial w (line.Restart n) down k = restart_knows initial w n down k
line_knows initial w (line.Fuse n count way) down k = order_knows w n (Stop count way) down k
line_knows initial w (line.Fail n count) down k = order_knows w n (Fault count) down k
line_knows initial w (line.Tick n now word) down k = k
line_knows initial w (line.Client n bytes) down k = k
line_knows initial w (line.Disconnect n peer) down k = k

pub lines_show : (initial : List Id) (w : World) (ls : List Line) (down : Id → Bool) → Knows down w → ShowsLines initial w.history down ls (parts_from initial w ls)
lines_show initial w [] down k = refl
lines_show initial w (l ∷ ls) down k = record {
  first = line_parts initial w l;
  rest = parts_from initial (after initial w l) ls;
  are = refl;
  shows_first = line_shows initial w l down k;
  shows_rest = subst (λ (h : History). ShowsLines initial h (down_from down (line_parts initial w l)) ls (parts_from initial (after initial w l) ls)) (sym (line_told initial w l))
      (lines_show initial (after initial w l) ls (down_from down (line_parts initial w l)) (line_knows initial w l down k));
}
