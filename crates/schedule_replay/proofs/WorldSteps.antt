-- A replay that stood for a world stands for it after a part of one node.
use Rattle.std.proofs.Common.{◌≡◌, Bool, true, false, Option, None, Some, List, [], ◌++◌, append-nil, refl, sym, ◌∙◌, ap, subst, if◌then◌else◌}
use Rattle.voting_config.specs.Ids.{Id, has, same}
use Rattle.cluster_state.specs.declared.state.Kept.{Kept}
use Rattle.zen_disk.specs.declared.orders.Order.{Order}
use Rattle.zen_disk.specs.declared.orders.Way.{Way}
use Rattle.world_model.specs.declared.acts.Act.{Act}
use Rattle.world_model.specs.declared.acts.Act.TheVariants.{Open}
use Rattle.world_model.specs.declared.acts.Message.{Message}
use Rattle.world_model.specs.declared.acts.ActReply.TheVariants.{Taken, Stopped}
use Rattle.world_model.specs.declared.acts.Outcome.{Outcome}
use Rattle.world_model.specs.declared.acts.Outcome.TheVariants.{Answered}
use Rattle.world_model.specs.Acts.{NodeHistory, NoActs, Then}
use Rattle.world_model.specs.Histories.{History, node_history, sent, sent_by}
use Rattle.replay_node.specs.Did.{outcome_of}
use Rattle.replay_node.specs.NodeDisk.{CallsEnd, Done, Failed, CrashedIn, opening}
use Rattle.replay_node.specs.NodeWorld.{found_at, needs_opening, outcome_at}
use Rattle.replay_node.specs.Sent.{are_from, sent_some}
use Rattle.world_model.specs.Settled.{is_kept, settled, settled_for}
use Rattle.replay_node.specs.Takes.{TakesFrom}
use Rattle.replay_node.specs.declared.did.Did.{Did}
use Rattle.replay_node.specs.declared.node.ReplayNode.{ReplayNode}
use Rattle.replay_node.specs.Worlds.{World, crashed, did, did_unless_down, history_opened, node_world, opened, ordered, restarted}
use Rattle.schedule_replay.specs.WorldStands.{ActDone, AllStand, Stands}
use Rattle.world_model.proofs.AllSettled.{settled_own, settled_other, settled_sent}
use Rattle.replay_node.proofs.SettledTakes.{settled_takes}
use Rattle.replay_node.proofs.Moves.{history_if}
use Rattle.schedule_replay.proofs.Sources.{more_from, takes_next}
use Rattle.voting_config.proofs.Sets.{same_is}

pub acted : (ids : List Id) (old new : List ReplayNode) (messages more : List Message) (w : World) (n : Id) (act : Act) (d : Did) → Stands ids old messages w → ActDone ids new w n act d
    → more ≡ messages ++ sent_some (outcome_of d) → has n ids ≡ true → TakesFrom ids (Then NoActs act (Answered Stopped))
    → Stands ids new more (did_unless_down w n act)
acted ids old new messages more w n act d s done sends listed from = by (w.down n) refl done.outcome done.stand
  where
    o : Outcome
    o = outcome_at n (node_world w n) act

    by : (b : Bool) → w.down n ≡ b → outcome_of d ≡ (if b then None else Some o) → AllStand ids new (if b then w else did w n act) → Stands ids new more (if b then w else did w n act)
    by true down told stand = record {
      nodes_stand = stand;
      messages_sent = sends ∙ ap (λ (x : Option Outcome). messages ++ sent_some x) told ∙ append-nil messages ∙ s.messages_sent;
      sources = s.sources;
      taken = s.taken;
      few = s.few;
      ascending = s.ascending;
    }
    by false up told stand = record {
      nodes_stand = stand;
      messages_sent = sends ∙ ap (λ (x : Option Outcome). messages ++ sent_some x) told ∙ ap (λ (m : List Message). m ++ sent_by o) s.messages_sent;
      sources = more_from ids n (sent w.history) (node_world w n) act listed s.sources;
      taken = λ m. takes_next ids w.history n m act (Answered Stopped) o (s.taken m) from;
      few = s.few;
      ascending = s.ascending;
    }

-- ---- parts that leave the history as it is

same_history : (ids : List Id) (old new : List ReplayNode) (messages : List Message) (w v : World) → w.history ≡ v.history → Stands ids old messages w → AllStand ids new v → Stands ids new messages v
same_history ids old new messages w v e s stand = record {
  nodes_stand = stand;
  messages_sent = subst (λ (h : History). messages ≡ sent h) e s.messages_sent;
  sources = subst (λ (h : History). are_from ids (sent h) ≡ true) e s.sources;
  taken = λ n. subst (λ (h : History). TakesFrom ids (node_history h n)) e (s.taken n);
  few = s.few;
  ascending = s.ascending;
}

pub stopped : (ids : List Id) (old new : List ReplayNode) (messages : List Message) (w : World) (n : Id) (way : Way) → Stands ids old messages w → AllStand ids new (crashed w n way) → Stands ids new messages (crashed w n way)
stopped ids old new messages w n way s stand = same_history ids old new messages w (crashed w n way) (history_if w _ (w.down n) refl) s stand

pub armed : (ids : List Id) (old new : List ReplayNode) (messages : List Message) (w : World) (n : Id) (order : Order) → Stands ids old messages w → AllStand ids new (ordered w n order) → Stands ids new messages (ordered w n order)
armed ids old new messages w n order s stand = same_history ids old new messages w (ordered w n order) refl s stand

-- ---- an opening

takes_settled : (ids : List Id) (n m : Id) (k : Bool) (h : History) → TakesFrom ids (node_history h m) → TakesFrom ids (node_history (settled_for n k h) m)
takes_settled ids n m k h t = from (same n m) refl
  where
    from : (b : Bool) → same n m ≡ b → TakesFrom ids (node_history (settled_for n k h) m)
    from false e = subst (λ (g : NodeHistory). TakesFrom ids g) (sym (settled_other n m k h e)) t
    from true e =
        let own = subst (λ (x : Id). node_history (settled_for n k h) x ≡ settled k (node_history h x)) (same_is n m e) (settled_own n k h) in
        subst (λ (g : NodeHistory). TakesFrom ids g) (sym own) (settled_takes ids k (node_history h m) t)

-- what a replay stands for beside its nodes
record StandsSent (ids : List Id) (messages : List Message) (h : History) : Type 0 where
  messages_sent : messages ≡ sent h
  sources : are_from ids (sent h) ≡ true
  taken : (n : Id) → TakesFrom ids (node_history h n)

sent_opened : (ids : List Id) (messages : List Message) (h : History) (n : Id) (found : Kept) (end : CallsEnd) → StandsSent ids messages h → StandsSent ids messages (history_opened end h n found)
sent_opened ids messages h n found Failed s = s
sent_opened ids messages h n found (CrashedIn way) s = s
sent_opened ids messages h n found Done s =
    let k : Bool = is_kept (node_history h n) found in
    let same_sent : sent h ≡ sent (settled_for n k h) ++ [] = sym (append-nil (sent (settled_for n k h)) ∙ settled_sent n k h) in
    record {
      messages_sent = s.messages_sent ∙ same_sent;
      sources = subst (λ (m : List Message). are_from ids m ≡ true) same_sent s.sources;
      taken = λ m. takes_next ids (settled_for n k h) n m (Open found) (Answered Stopped) (Answered (Taken None false)) (takes_settled ids n m k h (s.taken m)) tt;
    }

pub reopened : (ids : List Id) (old new : List ReplayNode) (messages : List Message) (w : World) (n : Id) → Stands ids old messages w → AllStand ids new (restarted w n) → Stands ids new messages (restarted w n)
reopened ids old new messages w n s stand = by (needs_opening (node_world w n)) refl stand
  where
    end : CallsEnd
    end = (opening (w.disks n)).ended

    found : Kept
    found = found_at (node_world w n)

    by : (b : Bool) → needs_opening (node_world w n) ≡ b → AllStand ids new (if b then opened w n else w) → Stands ids new messages (if b then opened w n else w)
    by false needs stand = same_history ids old new messages w w refl s stand
    by true needs stand =
        let kept = sent_opened ids messages w.history n found end (record { messages_sent = s.messages_sent; sources = s.sources; taken = s.taken }) in
        record { nodes_stand = stand; messages_sent = kept.messages_sent; sources = kept.sources; taken = kept.taken; few = s.few; ascending = s.ascending }
