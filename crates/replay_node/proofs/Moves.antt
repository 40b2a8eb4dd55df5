-- One node of a world moves, the others stay.
use Rattle.std.proofs.Common.{◌≡◌, Bool, true, false, cond, None, refl, ◌∙◌, ap, if◌then◌else◌}
use Rattle.voting_config.specs.Ids.{Id, same}
use Rattle.voting_config.proofs.Sets.{same_self}
use Rattle.cluster_state.specs.declared.state.Kept.{Kept}
use Rattle.zen_disk.specs.declared.orders.Order.{Order}
use Rattle.zen_disk.specs.declared.orders.Way.{Way}
use Rattle.world_model.specs.declared.acts.Act.{Act}
use Rattle.world_model.specs.declared.acts.Act.TheVariants.{Open}
use Rattle.world_model.specs.declared.acts.ActReply.TheVariants.{Taken}
use Rattle.world_model.specs.declared.acts.Outcome.{Outcome}
use Rattle.world_model.specs.declared.acts.Outcome.TheVariants.{Answered}
use Rattle.world_model.specs.Acts.{NodeHistory, Then}
use Rattle.world_model.specs.Histories.{History, Next, node_history}
use Rattle.world_model.proofs.Legal.{own_deeds}
use Rattle.replay_node.specs.Did.{after_unless_down}
use Rattle.replay_node.specs.NodeDisk.{NodeDisk, CallsEnd, Done, Failed, CrashedIn, opening}
use Rattle.replay_node.specs.NodeLines.{after_stop, after_restart}
use Rattle.replay_node.specs.NodeWorld.{NodeWorld, outcome_at, after_act, after_crash, after_order, after_opening, opened_by, found_at, needs_opening}
use Rattle.world_model.specs.Settled.{is_kept, settled_for}
use Rattle.replay_node.specs.Worlds.{World, node_world, with_node, did, did_unless_down, crashed, ordered, history_opened, opened, restarted}
use Rattle.world_model.proofs.AllSettled.{settled_own, settled_other}

-- after w the node stands in v at x, and the others as they stood
pub record NodeMoves (n : Id) (w : World) (x : NodeWorld) (v : World) : Type 0 where
  pub own : node_world v n ≡ x
  pub others : (m : Id) → same n m ≡ false → node_world v m ≡ node_world w m

pub node_history-other : (h : History) (n m : Id) (act : Act) (o : Outcome) → same n m ≡ false → node_history (Next h n act o) m ≡ node_history h m
node_history-other h n m act o e = ap (λ (b : Bool). cond b (Then (node_history h m) act o) (node_history h m)) e

own_world : (w : World) (n : Id) (history : History) (x : NodeWorld) → node_history history n ≡ x.acts → node_world (with_node w n history x) n ≡ x
own_world w n history x e = from (same n n) (same_self n)
  where
    at : Bool → NodeWorld
    at b = record { acts = node_history history n; disk = cond b x.disk (w.disks n); down = cond b x.down (w.down n) }

    from : (b : Bool) → b ≡ true → at b ≡ x
    from true t = ap (λ (g : NodeHistory). record x { acts = g }) e
    from false t = absurd (cc)

other_world : (w : World) (n : Id) (history : History) (x : NodeWorld) (m : Id) → same n m ≡ false → node_history history m ≡ node_history w.history m → node_world (with_node w n history x) m ≡ node_world w m
other_world w n history x m other e = from (same n m) other
  where
    at : Bool → NodeWorld
    at b = record { acts = node_history history m; disk = cond b x.disk (w.disks m); down = cond b x.down (w.down m) }

    from : (b : Bool) → b ≡ false → at b ≡ node_world w m
    from true t = absurd (cc)
    from false t = ap (λ (g : NodeHistory). record (node_world w m) { acts = g }) e

moves_to : (w : World) (n : Id) (history : History) (x : NodeWorld) → node_history history n ≡ x.acts → ((m : Id) → same n m ≡ false → node_history history m ≡ node_history w.history m) → NodeMoves n w x (with_node w n history x)
moves_to w n history x own others = record { own = own_world w n history x own; others = λ m other. other_world w n history x m other (others m other) }

stays : (n : Id) (w : World) → NodeMoves n w (node_world w n) w
stays n w = record { own = refl; others = λ m other. refl }

moves_unless : (n : Id) (w : World) (x : NodeWorld) (v : World) (b : Bool) → NodeMoves n w x v → NodeMoves n w (if b then node_world w n else x) (if b then w else v)
moves_unless n w x v true moves = stays n w
moves_unless n w x v false moves = moves

moves_where : (n : Id) (w : World) (x : NodeWorld) (v : World) (b : Bool) → NodeMoves n w x v → NodeMoves n w (if b then x else node_world w n) (if b then v else w)
moves_where n w x v true moves = moves
moves_where n w x v false moves = stays n w

pub moves_did : (n : Id) (act : Act) (w : World) → NodeMoves n w (after_act n (node_world w n) act) (did w n act)
moves_did n act w =
    let o : Outcome = outcome_at n (node_world w n) act in
    moves_to w n (Next w.history n act o) (after_act n (node_world w n) act) (own_deeds w.history n act o) (λ m other. node_history-other w.history n m act o other)

pub moves_did_unless_down : (n : Id) (act : Act) (w : World) → NodeMoves n w (after_unless_down n (node_world w n) act) (did_unless_down w n act)
moves_did_unless_down n act w = moves_unless n w (after_act n (node_world w n) act) (did w n act) (w.down n) (moves_did n act w)

pub moves_crashed : (n : Id) (way : Way) (w : World) → NodeMoves n w (after_stop way (node_world w n)) (crashed w n way)
moves_crashed n way w =
    let x : NodeWorld = after_crash way (node_world w n) in
    moves_unless n w x (with_node w n w.history x) (w.down n) (moves_to w n w.history x refl (λ m other. refl))

pub moves_ordered : (n : Id) (order : Order) (w : World) → NodeMoves n w (after_order order (node_world w n)) (ordered w n order)
moves_ordered n order w = moves_to w n w.history (after_order order (node_world w n)) refl (λ m other. refl)

own_opened : (end : CallsEnd) (h : History) (n : Id) (disk : NodeDisk) (found : Kept) → node_history (history_opened end h n found) n ≡ (opened_by end (node_history h n) disk found).acts
own_opened Done h n disk found =
    let k : Bool = is_kept (node_history h n) found in
    own_deeds (settled_for n k h) n (Open found) (Answered (Taken None false)) ∙ ap (λ (g : NodeHistory). Then g (Open found) (Answered (Taken None false))) (settled_own n k h)
own_opened Failed h n disk found = refl
own_opened (CrashedIn way) h n disk found = refl

other_opened : (end : CallsEnd) (h : History) (n : Id) (found : Kept) (m : Id) → same n m ≡ false → node_history (history_opened end h n found) m ≡ node_history h m
other_opened Done h n found m other =
    let k : Bool = is_kept (node_history h n) found in
    node_history-other (settled_for n k h) n m (Open found) (Answered (Taken None false)) other ∙ settled_other n m k h other
other_opened Failed h n found m other = refl
other_opened (CrashedIn way) h n found m other = refl

pub moves_opened : (n : Id) (w : World) → NodeMoves n w (after_opening (node_world w n)) (opened w n)
moves_opened n w =
    let end : CallsEnd = (opening (w.disks n)).ended in
    let found : Kept = found_at (node_world w n) in
    moves_to w n (history_opened end w.history n found) (after_opening (node_world w n)) (own_opened end w.history n (opening (w.disks n)).disk found) (λ m other. other_opened end w.history n found m other)

pub moves_restarted : (n : Id) (w : World) → NodeMoves n w (after_restart (node_world w n)) (restarted w n)
moves_restarted n w = moves_where n w (after_opening (node_world w n)) (opened w n) (needs_opening (node_world w n)) (moves_opened n w)

-- of two worlds with one history, whichever a test chooses
pub history_if : (w v : World) (b : Bool) → w.history ≡ v.history → w.history ≡ (if b then w else v).history
history_if w v true e = refl
history_if w v false e = e
