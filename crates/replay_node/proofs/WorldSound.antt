-- What each line of a schedule keeps true of all nodes: their history is legal, each node's files hold the record of its acts, and what was
-- published fits into a body.
use Rattle.std.proofs.Common.{◌≡◌, ℕ, zero, suc, ◌≤◌, ◌^◌, Bool, true, false, Option, None, Some, List, [], ◌∷◌, ◌++◌, refl, sym, ◌∙◌, ap, subst, arith, append-nil, slice_get, if◌then◌else◌}
use Rattle.std.specs.Prelude.{◌||◌}
use Rattle.std.specs.List.{AllByRecursion}
use Rattle.voting_config.specs.Ids.{Id, same, most_ids}
use Rattle.cluster_state.specs.Fields.{ids}
use Rattle.cluster_state.specs.States.{lineage, state, id_of}
use Rattle.cluster_state.specs.declared.state.StateId.{StateId}
use Rattle.cluster_state.specs.declared.messages.PublishRequest.{PublishRequest}
use Rattle.cluster_state.specs.declared.state.Kept.{Kept}
use Rattle.zen_disk.specs.declared.orders.Order.{Order}
use Rattle.zen_disk.specs.declared.orders.Way.{Way}
use Rattle.state_journal.specs.Drafts.{MayBegin}
use Rattle.world_model.specs.declared.acts.Act.{Act}
use Rattle.world_model.specs.declared.acts.Act.TheVariants.{Value}
use Rattle.world_model.specs.declared.acts.Message.{Message}
use Rattle.world_model.specs.declared.acts.Message.TheVariants.{Join as JoinMessage, Publish as PublishMessage, Response as ResponseMessage, Commit as CommitMessage}
use Rattle.world_model.specs.declared.acts.ActReply.{ActReply}
use Rattle.world_model.specs.declared.acts.ActReply.TheVariants.{Taken, Refused, Stopped}
use Rattle.world_model.specs.declared.acts.Outcome.TheVariants.{Answered}
use Rattle.world_model.specs.Acts.{NodeHistory}
use Rattle.world_model.specs.NodeState.{durable_of, accepted_of, halted_of}
use Rattle.policy_model.proofs.Fits.{above-accepted}
use Rattle.world_model.specs.Histories.{History, node_history, sent, sent_by, is_opening, IsLegal, IsLocal, IsSourced}
use Rattle.world_model.specs.Replies.{reply_of}
use Rattle.world_model.proofs.Assemble.{legal_is}
use Rattle.voting_config.proofs.Sets.{same_is}
use Rattle.world_model.proofs.Guards.{value_guard}
use Rattle.world_model.proofs.System.{Origin, PublishBy, origin}
use Rattle.replay_node.specs.Did.{after_unless_down}
use Rattle.replay_node.specs.NodeDisk.{CallsEnd, Done, Failed, CrashedIn, opening}
use Rattle.replay_node.specs.NodeLines.{after_restart}
use Rattle.replay_node.specs.NodeWorld.{NodeWorld, act_called, after_act, after_opening, found_at, needs_opening, outcome_at, outcome_by}
use Rattle.replay_node.specs.Sent.{taking}
use Rattle.world_model.specs.Settled.{is_kept, settled_for}
use Rattle.replay_node.specs.Worlds.{World, crashed, did, did_unless_down, fresh_world, history_opened, node_world, opened, ordered, restarted}
use Rattle.world_model.proofs.AllSettled.{settled_sent}
use Rattle.replay_node.proofs.MayAct.{may_act}
use Rattle.replay_node.proofs.Moves.{NodeMoves, moves_crashed, moves_did_unless_down, moves_ordered, moves_restarted}
use Rattle.replay_node.proofs.NodeSound.{IsFitAct, Sound, act_sound, found_either, fresh_sound, opening_sound, order_sound, stop_sound}
use Rattle.replay_node.proofs.Reopened.{IsFound, reopened_legal}
use Rattle.world_model.proofs.Settling.{unstruck}

-- a state that was published fits into a body
abbrev pub IsFitMessage : Message → Type 0
IsFitMessage (PublishMessage r) = state.Fits r.state
IsFitMessage (JoinMessage j) = Unit {0}
IsFitMessage (ResponseMessage r) = Unit {0}
IsFitMessage (CommitMessage c) = Unit {0}

-- what each line keeps true of all nodes
pub record SoundWorld (initial : List Id) (w : World) : Type 0 where
  pub legal : IsLegal initial w.history
  pub nodes : (n : Id) → Sound (node_world w n)
  pub messages : AllByRecursion IsFitMessage (sent w.history)

-- ---- the nodes

-- where one node moves, the others stay
pub moved : (n : Id) (w : World) (x : NodeWorld) (v : World) → NodeMoves n w x v → ((m : Id) → Sound (node_world w m)) → Sound x → (m : Id) → Sound (node_world v m)
moved n w x v moves nodes here m = from (same n m) refl
  where
    from : (b : Bool) → same n m ≡ b → Sound (node_world v m)
    from true e = subst (λ (i : Id). Sound (node_world v i)) (same_is n m e) (subst Sound (sym moves.own) here)
    from false e = subst Sound (sym (moves.others m e)) (nodes m)

-- ---- the messages

all_more : (ms ns : List Message) → AllByRecursion IsFitMessage ms → AllByRecursion IsFitMessage ns → AllByRecursion IsFitMessage (ms ++ ns)
all_more [] ns f g = g
all_more (m ∷ ms) ns f g = (f.0, all_more ms ns f.1 g)

pub message_fits : (ms : List Message) (k : ℕ) (m : Message) → AllByRecursion IsFitMessage ms → slice_get ms k ≡ Some m → IsFitMessage m
message_fits [] k m f e = absurd (cc)
message_fits (x ∷ xs) zero m f e = let is : x ≡ m = cc in subst IsFitMessage is f.0
message_fits (x ∷ xs) (suc k) m f e = message_fits xs k m f.1 e

pub taking_fits : (m : Message) → IsFitMessage m → IsFitAct (taking m)
taking_fits (JoinMessage j) f = tt
taking_fits (PublishMessage r) f = f
taking_fits (ResponseMessage r) f = tt
taking_fits (CommitMessage c) f = tt

-- the record of a node that is up and runs
running_fit : (w : NodeWorld) → Sound w → w.down ≡ false → halted_of w.acts ≡ false → MayBegin (durable_of w.acts)
running_fit w s up going =
    let needs : needs_opening w ≡ false = ap (λ (b : Bool). b || halted_of w.acts) up ∙ going in
    subst (λ (g : NodeHistory). MayBegin (durable_of g)) (unstruck w.acts false (s.unstruck needs)) (s.fit false)

published_fits : (me : Id) (w : NodeWorld) (act : Act) (r : PublishRequest) (wins : Bool) → Sound w → w.down ≡ false → IsFitAct act → Taken (Some (PublishMessage r)) wins ≡ reply_of me w.acts act → PublishBy me w.acts r act → state.Fits r.state
published_fits me w act r wins s up fits is by =
    let kept = running_fit w s up by.runs in
    let value_act : Act = Value r.state.version r.state.config r.state.value in
    let fits_value : IsFitAct value_act = subst IsFitAct by.act_is fits in
    let guard = value_guard me w.acts r.state.version r.state.config r.state.value (Some (PublishMessage r)) wins (subst (λ (a : Act). Taken (Some (PublishMessage r)) wins ≡ reply_of me w.acts a) by.act_is is) in
    let bounded = kept.bounded in
    let term : r.state.term ≤ 2 ^ 62 = omega (arith, by.term_is) in
    let base = accepted_of w.acts in
    let above = above-accepted base r.state.term r.state.version (omega (arith, by.term_is, kept.older)) (omega (arith, by.settled, by.above)) in
    let own = subst (λ (o : Option StateId). lineage.Fits (id_of r.state, o)) (sym by.parent_is) (((term, guard.below), kept.fits.0.0.0), above) in
    (own, (fits_value.0, (subst (λ (c : List Id). (ids most_ids).Fits c) (sym by.committed_is) kept.named, fits_value.1)))

sent_fits : (me : Id) (w : NodeWorld) (act : Act) (m : Message) (wins : Bool) → Sound w → w.down ≡ false → IsFitAct act → Taken (Some m) wins ≡ reply_of me w.acts act → Origin me w.acts act m → IsFitMessage m
sent_fits me w act (JoinMessage j) wins s up fits is by = tt
sent_fits me w act (PublishMessage r) wins s up fits is by = published_fits me w act r wins s up fits is by
sent_fits me w act (ResponseMessage r) wins s up fits is by = tt
sent_fits me w act (CommitMessage c) wins s up fits is by = tt

reply_fits : (me : Id) (w : NodeWorld) (act : Act) (reply : ActReply) → Sound w → w.down ≡ false → IsFitAct act → reply ≡ reply_of me w.acts act → AllByRecursion IsFitMessage (sent_by (Answered reply))
reply_fits me w act (Taken (Some m) wins) s up fits is = (sent_fits me w act m wins s up fits is (origin me w.acts act m wins is), tt)
reply_fits me w act (Taken None wins) s up fits is = tt
reply_fits me w act (Refused cause) s up fits is = tt
reply_fits me w act Stopped s up fits is = tt

outcome_fits : (end : CallsEnd) (reply : ActReply) → AllByRecursion IsFitMessage (sent_by (Answered reply)) → AllByRecursion IsFitMessage (sent_by (outcome_by end reply))
outcome_fits Done reply f = f
outcome_fits Failed reply f = tt
outcome_fits (CrashedIn way) reply f = tt

-- ---- an act

acted_node : (me : Id) (w : NodeWorld) (act : Act) → Sound w → is_opening act ≡ false → IsFitAct act → Sound (after_unless_down me w act)
acted_node me w act s shut fits = from w.down refl
  where
    from : (b : Bool) → w.down ≡ b → Sound (if b then w else after_act me w act)
    from true down = s
    from false up = act_sound me w act s up shut fits

pub acted : (initial : List Id) (w : World) (n : Id) (act : Act) → SoundWorld initial w → IsSourced initial (sent w.history) act → is_opening act ≡ false → IsFitAct act → SoundWorld initial (did_unless_down w n act)
acted initial w n act s sourced shut fits = record { legal = legal (w.down n) refl; nodes = nodes; messages = messages (w.down n) refl }
  where
    x : NodeWorld
    x = node_world w n

    nodes : (m : Id) → Sound (node_world (did_unless_down w n act) m)
    nodes = moved n w (after_unless_down n (node_world w n) act) (did_unless_down w n act) (moves_did_unless_down n act w) s.nodes (acted_node n (node_world w n) act (s.nodes n) shut fits)

    legal : (b : Bool) → w.down n ≡ b → IsLegal initial (if b then w else did w n act).history
    legal true down = s.legal
    legal false up = (s.legal, may_act initial w n act ((s.nodes n).up up) sourced shut)

    messages : (b : Bool) → w.down n ≡ b → AllByRecursion IsFitMessage (sent (if b then w else did w n act).history)
    messages true down = s.messages
    messages false up =
        all_more (sent w.history) (sent_by (outcome_at n (node_world w n) act)) s.messages
        (outcome_fits (act_called n (node_world w n) act).ended (reply_of n (node_history w.history n) act) (reply_fits n (node_world w n) act (reply_of n (node_history w.history n) act) (s.nodes n) up fits refl))

-- ---- lines that leave the history as it is

pub stopped : (initial : List Id) (w : World) (n : Id) (way : Way) → SoundWorld initial w → SoundWorld initial (crashed w n way)
stopped initial w n way s = record {
  legal = subst (λ (h : History). IsLegal initial h) same_history s.legal;
  nodes = moved n w _ (crashed w n way) (moves_crashed n way w) s.nodes (stop_sound way (node_world w n) (s.nodes n));
  messages = subst (λ (h : History). AllByRecursion IsFitMessage (sent h)) same_history s.messages;
}
  where
    from : (b : Bool) (v : World) → v.history ≡ w.history → w.history ≡ (if b then w else v).history
    from true v e = refl
    from false v e = sym e

    same_history : w.history ≡ (crashed w n way).history
    same_history = from (w.down n) _ refl

pub armed : (initial : List Id) (w : World) (n : Id) (order : Order) → SoundWorld initial w → SoundWorld initial (ordered w n order)
armed initial w n order s = record { legal = s.legal; nodes = moved n w _ (ordered w n order) (moves_ordered n order w) s.nodes (order_sound order (node_world w n) (s.nodes n)); messages = s.messages }

-- ---- an opening

-- what the history of an opening keeps
record SoundHistory (initial : List Id) (h : History) : Type 0 where
  legal : IsLegal initial h
  messages : AllByRecursion IsFitMessage (sent h)

opened_history : (initial : List Id) (h : History) (n : Id) (found : Kept) (end : CallsEnd) → SoundHistory initial h → IsFound (node_history h n) found → SoundHistory initial (history_opened end h n found)
opened_history initial h n found Failed s f = s
opened_history initial h n found (CrashedIn way) s f = s
opened_history initial h n found Done s f =
    let k : Bool = is_kept (node_history h n) found in
    let same_sent : sent h ≡ sent (settled_for n k h) ++ [] = sym (append-nil (sent (settled_for n k h)) ∙ settled_sent n k h) in
    record { legal = reopened_legal initial h n found s.legal f; messages = subst (λ (ms : List Message). AllByRecursion IsFitMessage ms) same_sent s.messages }

pub reopened : (initial : List Id) (w : World) (n : Id) → SoundWorld initial w → SoundWorld initial (restarted w n)
reopened initial w n s = from (needs_opening (node_world w n)) refl
  where
    own : IsLocal n (node_history w.history n)
    own = (((legal_is initial w.history).0 s.legal).0 n).0

    opens : needs_opening (node_world w n) ≡ true → SoundHistory initial (opened w n).history
    opens needs =
        opened_history initial w.history n (found_at (node_world w n)) (opening (w.disks n)).ended (record { legal = s.legal; messages = s.messages })
        (found_either n (node_world w n) own (s.nodes n) needs)

    node : Sound (after_restart (node_world w n))
    node = node_by (needs_opening (node_world w n)) refl
      where
        node_by : (b : Bool) → needs_opening (node_world w n) ≡ b → Sound (if b then after_opening (node_world w n) else node_world w n)
        node_by true needs = opening_sound n (node_world w n) own (s.nodes n) needs
        node_by false runs = s.nodes n

    history : (b : Bool) → needs_opening (node_world w n) ≡ b → SoundHistory initial (if b then opened w n else w).history
    history true needs = opens needs
    history false runs = record { legal = s.legal; messages = s.messages }

    from : (b : Bool) → needs_opening (node_world w n) ≡ b → SoundWorld initial (restarted w n)
    from b e = record {
      legal = (history (needs_opening (node_world w n)) refl).legal;
      nodes = moved n w _ (restarted w n) (moves_restarted n w) s.nodes node;
      messages = (history (needs_opening (node_world w n)) refl).messages;
    }

-- ---- nodes that have done nothing

pub fresh : (initial : List Id) → SoundWorld initial fresh_world
fresh initial = record { legal = tt; nodes = λ n. fresh_sound; messages = tt }
