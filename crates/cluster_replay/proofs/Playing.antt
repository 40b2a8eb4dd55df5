-- What the disk lets a node do of the items of an event: all of them, or those up to an act that it strikes.
use Rattle.std.proofs.Common.{◌≡◌, Bool, true, false, not, ◌||◌, ◌⊎◌, inl, inr, None, List, [], ◌∷◌, ◌++◌, refl, sym, ◌∙◌, ap, subst, if◌then◌else◌}
use Rattle.std.proofs.lemmas.Bool.{or_parts}
use Rattle.std.specs.List.{flat_map}
use Rattle.std.proofs.lemmas.List.Elements.{Contains-append_left}
use Rattle.voting_config.specs.Ids.{Id, same}
use Rattle.world_model.specs.declared.acts.Act.{Act}
use Rattle.world_model.specs.declared.acts.Act.TheVariants.{Bootstrap, Value, Publish, Open}
use Rattle.world_model.specs.declared.acts.Message.{Message}
use Rattle.world_model.specs.declared.acts.ActReply.{ActReply}
use Rattle.world_model.specs.declared.acts.ActReply.TheVariants.{Taken, Refused, Stopped}
use Rattle.world_model.specs.declared.acts.Outcome.{Outcome}
use Rattle.world_model.specs.declared.acts.Outcome.TheVariants.{Answered, Disk, Crashed}
use Rattle.world_model.specs.Acts.{NodeHistory, Then, is_opening}
use Rattle.world_model.specs.NodeState.{NodeState, node_state, halted_of}
use Rattle.world_model.specs.Histories.{node_history, sent, sent_by, IsSourced}
use Rattle.world_model.specs.Replies.{reply_at, reply_of, is_taken, writes, IsOutcome}
use Rattle.world_model.proofs.Legal.{own_deeds}
use Rattle.replay_node.specs.NodeDisk.{CallsEnd, Done, Failed, CrashedIn}
use Rattle.replay_node.specs.NodeWorld.{act_called, after_act, ends_in_a_crash, needs_opening, outcome_at, outcome_by}
use Rattle.replay_node.specs.Worlds.{World, node_world, did}
use Rattle.replay_node.proofs.MayAct.{may_act}
use Rattle.replay_node.proofs.Moves.{NodeMoves, moves_did}
use Rattle.replay_node.proofs.StateSteps.{halted_then, halted_disk}
use Rattle.replay_node.proofs.NodeSound.{IsFitAct}
use Rattle.policy_model.specs.declared.settings.Settings.{Settings}
use Rattle.policy_model.specs.Events.{Item, Opens, Begins, Acts, ChangesMode, Drops, Sends, Replies, Notes, Log, And, added, acts_of}
use Rattle.policy_model.specs.Entries.{frames_in}
use Rattle.policy_model.specs.Views.{View, view_of}
use Rattle.policy_model.specs.Moves.{moved, is_own, view_of-And}
use Rattle.policy_model.specs.Follows.{IsStruck, Here, Later, is_fault, without_output}
use Rattle.replay_node.specs.Course.{Course, act_then, behind, played}
use Rattle.system_laws.proofs.Meant.{Covers, sent_after}
use Rattle.cluster_replay.proofs.Allowing.{FitAct, IsAllowed, Ended, ByAct, BySend, ByReply, ByTurn, ByDrop, ByNote}
use Rattle.replay_node.proofs.WorldSound.{SoundWorld, acted}

-- ---- small facts

fit-act-of : (p : NodeState) (act : Act) → FitAct p act → IsFitAct act
fit-act-of p (Bootstrap config) f = f
fit-act-of p (Value version config value) f = (f.0, f.1)
fit-act-of p (Publish request) f = f
fit-act-of p act f = tt

pub acts-added : (l m : Log) (is : List Item) → acts_of l ≡ acts_of m → acts_of (added l is) ≡ acts_of (added m is)
acts-added l m [] e = e
acts-added l m (i ∷ is) e = acts-added (And l i) (And m i) is (one i)
  where
    one : (i : Item) → acts_of (And l i) ≡ acts_of (And m i)
    one (Opens found) = ap (λ (g : NodeHistory). Then g (Open found) (Answered (Taken None false))) e
    one (Acts act o) = ap (λ (g : NodeHistory). Then g act o) e
    one (Begins event) = e
    one (ChangesMode mode term) = e
    one (Drops member cause) = e
    one (Sends frame) = e
    one (Replies answer) = e
    one (Notes note) = e

acts-without : (l : Log) (i : Item) (is : List Item) → acts_of (added l (without_output i ++ is)) ≡ acts_of (added (And l i) is)
acts-without l (Opens found) is = refl
acts-without l (Begins event) is = refl
acts-without l (Acts act o) is = refl
acts-without l (ChangesMode mode term) is = refl
acts-without l (Drops member cause) is = refl
acts-without l (Sends frame) is = acts-added l (And l (Sends frame)) is refl
acts-without l (Replies answer) is = acts-added l (And l (Replies answer)) is refl
acts-without l (Notes note) is = refl

silent-without : (i : Item) (is : List Item) → flat_map frames_in (without_output i ++ is) ≡ flat_map frames_in is
silent-without (Opens found) is = refl
silent-without (Begins event) is = refl
silent-without (Acts act o) is = refl
silent-without (ChangesMode mode term) is = refl
silent-without (Drops member cause) is = refl
silent-without (Sends frame) is = refl
silent-without (Replies answer) is = refl
silent-without (Notes note) is = refl

-- ---- what comes of the items

-- all of them were done, and the node runs
pub record Whole (s : Settings) (w : World) (is : List Item) (c : Course) : Type 0 where
  pub items : c.items ≡ is
  pub runs : needs_opening (node_world c.world s.me) ≡ false
  pub sent_is : sent c.world.history ≡ sent_after (sent w.history) is

-- an act was struck, nothing was sent, and the node is down or halted
pub record Cut (s : Settings) (is : List Item) (c : Course) : Type 0 where
  pub struck : IsStruck is c.items
  pub stops : needs_opening (node_world c.world s.me) ≡ true
  pub silent : flat_map frames_in c.items ≡ []

pub record Played (s : Settings) (w : World) (l : Log) (is : List Item) (c : Course) : Type 0 where
  pub sound : SoundWorld s.initial c.world
  pub others : (m : Id) → same s.me m ≡ false → node_world c.world m ≡ node_world w m
  pub acts : acts_of (added l c.items) ≡ node_history c.world.history s.me
  pub covers : Covers (sent w.history) (sent c.world.history)
  pub ends : ((c.struck ≡ false) × Whole s w is c) ⊎ ((c.struck ≡ true) × Cut s is c)

-- an item before the others, by which the world before came to this one
in_front : (s : Settings) (before w : World) (l : Log) (i : Item) (is : List Item) (c : Course) → sent_after (sent w.history) is ≡ sent_after (sent before.history) (i ∷ is)
    → ((m : Id) → same s.me m ≡ false → node_world w m ≡ node_world before m) → Covers (sent before.history) (sent w.history) → Played s w (And l i) is c → Played s before l (i ∷ is) (behind i c)
in_front s before w l i is c sent_is others covers p = from p.ends
  where
    items_if : (b : Bool) → c.struck ≡ b → (behind i c).items ≡ (if b then without_output i else i ∷ []) ++ c.items
    items_if b e = ap (λ (x : Bool). (if x then without_output i else i ∷ []) ++ c.items) e

    from : ((c.struck ≡ false) × Whole s w is c) ⊎ ((c.struck ≡ true) × Cut s is c) → Played s before l (i ∷ is) (behind i c)
    from (inl whole) =
        let items : (behind i c).items ≡ i ∷ c.items = items_if false whole.0 in
        record {
          sound = p.sound;
          others = λ m other. p.others m other ∙ others m other;
          acts = ap (λ (xs : List Item). acts_of (added l xs)) items ∙ p.acts;
          covers = λ m k. p.covers m (covers m k);
          ends = inl (whole.0, record { items = items ∙ ap (λ (xs : List Item). i ∷ xs) whole.1.items; runs = whole.1.runs; sent_is = whole.1.sent_is ∙ sent_is });
        }
    from (inr cut) =
        let items : (behind i c).items ≡ without_output i ++ c.items = items_if true cut.0 in
        record {
          sound = p.sound;
          others = λ m other. p.others m other ∙ others m other;
          acts = ap (λ (xs : List Item). acts_of (added l xs)) items ∙ acts-without l i c.items ∙ p.acts;
          covers = λ m k. p.covers m (covers m k);
          ends = inr (
            cut.0,
            record {
              struck = subst (λ (xs : List Item). IsStruck (i ∷ is) xs) (sym items) (Later i is c.items cut.1.struck);
              stops = cut.1.stops;
              silent = ap (λ (xs : List Item). flat_map frames_in xs) items ∙ silent-without i c.items ∙ cut.1.silent;
            },
          );
        }

taken_struck : (act : Act) (r : ActReply) (rest : List Item) (fault : Outcome) → is_taken r ≡ true → writes act ≡ true → is_fault fault ≡ true → IsStruck (Acts act (Answered r) ∷ rest) (Acts act fault ∷ [])
taken_struck act (Taken sends wins) rest fault t w f = Here act sends wins rest fault w f
taken_struck act (Refused cause) rest fault t w f = absurd (cc)
taken_struck act Stopped rest fault t w f = absurd (cc)

-- ---- an act

module _ (s : Settings) (w : World) (act : Act) (sound : SoundWorld s.initial w) (running : needs_opening (node_world w s.me) ≡ false) (o : is_opening act ≡ false) (sourced : IsSourced s.initial (sent w.history) act) (fit : IsFitAct act) where
  abbrev n : Id
  n = s.me

  abbrev g : NodeHistory
  g = node_history w.history s.me

  abbrev reply : ActReply
  reply = reply_of s.me (node_history w.history s.me) act

  abbrev end_is : CallsEnd
  end_is = (act_called s.me (node_world w s.me) act).ended

  up : w.down s.me ≡ false
  up = (or_parts (w.down s.me) (halted_of g) running).0

  going : halted_of g ≡ false
  going = (or_parts (w.down s.me) (halted_of g) running).1

  did_sound : SoundWorld s.initial (did w s.me act)
  did_sound = subst (λ (b : Bool). SoundWorld s.initial (if b then w else did w s.me act)) up (acted s.initial w s.me act sound sourced o fit)

  did_moves : NodeMoves s.me w (after_act s.me (node_world w s.me) act) (did w s.me act)
  did_moves = moves_did s.me act w

  outcome_may : IsOutcome s.me g act (outcome_at s.me (node_world w s.me) act)
  outcome_may = (may_act s.initial w s.me act ((sound.nodes s.me).up up) sourced o).follows.follows

  needs_by : (end : CallsEnd) → end_is ≡ end → needs_opening (node_world (did w s.me act) s.me) ≡ (ends_in_a_crash end || halted_of (Then g act (outcome_by end reply)))
  needs_by end e = ap needs_opening did_moves.own ∙ ap (λ (x : CallsEnd). ends_in_a_crash x || halted_of (Then g act (outcome_by x reply))) e

  history_by : (end : CallsEnd) → end_is ≡ end → node_history (did w s.me act).history s.me ≡ Then g act (outcome_by end reply)
  history_by end e = own_deeds w.history s.me act _ ∙ ap (λ (x : CallsEnd). Then g act (outcome_by x reply)) e

  sent_by_end : (end : CallsEnd) → end_is ≡ end → sent (did w s.me act).history ≡ sent w.history ++ sent_by (outcome_by end reply)
  sent_by_end end e = ap (λ (x : CallsEnd). sent w.history ++ sent_by (outcome_by x reply)) e

  did_covers : Covers (sent w.history) (sent (did w s.me act).history)
  did_covers m k = Contains-append_left (sent w.history) _ m k

  -- the disk strikes it
  struck_act : (l : Log) (rest : List Item) (end : CallsEnd) (fault : Outcome) → end_is ≡ end → outcome_by end reply ≡ fault → is_fault fault ≡ true → (is_taken reply ≡ true) × (writes act ≡ true)
      → (ends_in_a_crash end || halted_of (Then g act (outcome_by end reply))) ≡ true → acts_of l ≡ g
      → Played s w l (Acts act (Answered reply) ∷ rest) (record { items = Acts act (outcome_by end reply) ∷ []; world = did w s.me act; struck = true })
  struck_act l rest end fault e is f t stops acts = record {
    sound = did_sound;
    others = did_moves.others;
    acts = ap (λ (x : NodeHistory). Then x act (outcome_by end reply)) acts ∙ sym (history_by end e);
    covers = did_covers;
    ends = inr (
      refl,
      record {
        struck = taken_struck act reply rest (outcome_by end reply) t.0 t.1 (ap is_fault is ∙ f);
        stops = needs_by end e ∙ stops;
        silent = refl;
      },
    );
  }

  -- all of it is done, or it is struck
  act_played : (ms : List Message) (l : Log) (rest : List Item) (r : ActReply) → r ≡ reply → ms ≡ sent w.history → acts_of l ≡ g
      → ((u : World) → ms ++ sent_by (Answered r) ≡ sent u.history → SoundWorld s.initial u → Then (acts_of l) act (Answered r) ≡ node_history u.history s.me → needs_opening (node_world u s.me) ≡ false → Played s u (And l (Acts act (Answered r))) rest (played s.me u rest))
      → Played s w l (Acts act (Answered r) ∷ rest) (played s.me w (Acts act (Answered r) ∷ rest))
  act_played ms l rest r same_reply same_sent acts more = subst (λ (x : ActReply). Played s w l (Acts act (Answered x) ∷ rest) (played s.me w (Acts act (Answered x) ∷ rest))) (sym same_reply) (by_end end_is refl)
    where
      struck_outcome : (end : CallsEnd) → end_is ≡ end → IsOutcome s.me g act (outcome_by end reply)
      struck_outcome end e = subst (λ (x : CallsEnd). IsOutcome s.me g act (outcome_by x reply)) e outcome_may

      by_end : (end : CallsEnd) → end_is ≡ end → Played s w l (Acts act (Answered reply) ∷ rest) (act_then end (Acts act (outcome_by end reply)) (did w s.me act) (λ (u : World). played s.me u rest))
      by_end Done e =
          let u : World = did w s.me act in
          let there : Played s u (And l (Acts act (Answered r))) rest (played s.me u rest) =
          more u
          (ap (λ (x : ActReply). ms ++ sent_by (Answered x)) same_reply ∙ ap (λ (xs : List Message). xs ++ sent_by (Answered reply)) same_sent ∙ sym (sent_by_end Done e))
          did_sound
          (ap (λ (x : NodeHistory). Then x act (Answered r)) acts ∙ ap (λ (x : ActReply). Then g act (Answered x)) same_reply ∙ sym (history_by Done e))
          (needs_by Done e ∙ halted_then g act reply o ∙ going)
          in
          in_front s w u l (Acts act (Answered reply)) rest (played s.me u rest) (ap (λ (xs : List Message). sent_after xs rest) (sent_by_end Done e)) did_moves.others did_covers
          (subst (λ (x : ActReply). Played s u (And l (Acts act (Answered x))) rest (played s.me u rest)) same_reply there)
      by_end Failed e = struck_act l rest Failed (Disk false) e refl refl (struck_outcome Failed e) (halted_disk g act false o) acts
      by_end (CrashedIn way) e = struck_act l rest (CrashedIn way) (Crashed false) e refl refl (struck_outcome (CrashedIn way) e) refl acts

-- ---- all items

pub plays : (s : Settings) (ms : List Message) (w : World) (l : Log) (v : View) (is : List Item) → IsAllowed s ms v is → v ≡ view_of s l → ms ≡ sent w.history → SoundWorld s.initial w → acts_of l ≡ node_history w.history s.me
    → needs_opening (node_world w s.me) ≡ false → Played s w l is (played s.me w is)
plays s ms w l v is (Ended ms' v') view same_sent sound acts running =
    record { sound = sound; others = λ m other. refl; acts = acts; covers = λ m k. k; ends = inl (refl, record { items = refl; runs = running; sent_is = refl }) }
plays s ms w l v is (BySend ms' v' to m rest there names sent_it a) view same_sent sound acts running =
    in_front s w w l _ rest (played s.me w rest) refl (λ m other. refl) (λ m k. k) (plays s _ w (And l (Sends _)) v' rest a view same_sent sound acts running)
plays s ms w l v is (ByReply ms' v' answer rest a) view same_sent sound acts running =
    in_front s w w l (Replies answer) rest (played s.me w rest) refl (λ m other. refl) (λ m k. k) (plays s _ w (And l (Replies answer)) v' rest a view same_sent sound acts running)
plays s ms w l v is (ByTurn ms' v' mode term rest n a) view same_sent sound acts running =
    in_front s w w l (ChangesMode mode term) rest (played s.me w rest) refl (λ m other. refl) (λ m k. k)
    (plays s _ w (And l (ChangesMode mode term)) _ rest a (ap (λ (u : View). moved s u (ChangesMode mode term)) view ∙ sym (view_of-And s l (ChangesMode mode term) refl)) same_sent sound acts running)
plays s ms w l v is (ByDrop ms' v' member cause rest n a) view same_sent sound acts running =
    in_front s w w l (Drops member cause) rest (played s.me w rest) refl (λ m other. refl) (λ m k. k)
    (plays s _ w (And l (Drops member cause)) _ rest a (ap (λ (u : View). moved s u (Drops member cause)) view ∙ sym (view_of-And s l (Drops member cause) refl)) same_sent sound acts running)
plays s ms w l v is (ByNote ms' v' note rest n a) view same_sent sound acts running =
    in_front s w w l (Notes note) rest (played s.me w rest) refl (λ m other. refl) (λ m k. k)
    (plays s _ w (And l (Notes note)) _ rest a (ap (λ (u : View). moved s u (Notes note)) view ∙ sym (view_of-And s l (Notes note) refl)) same_sent sound acts running)
plays s ms w l v is (ByAct ms' v' act rest o sourced fit a) view same_sent sound acts running =
    let node : v'.node ≡ node_state (node_history w.history s.me) = ap (λ (u : View). u.node) view ∙ ap node_state acts in
    let item : Item = Acts act (Answered (reply_at s.me v'.node act)) in
    let own : is_own item ≡ true = ap not o in
    act_played s w act sound running o (subst (λ (xs : List Message). IsSourced s.initial xs act) same_sent sourced) (fit-act-of v'.node act fit) ms' l rest (reply_at s.me v'.node act) (ap (λ (p : NodeState). reply_at s.me p act) node) same_sent acts
    (λ u sent' sound' acts' running'. plays s _ u (And l item) _ rest a (ap (λ (x : View). moved s x item) view ∙ sym (view_of-And s l item own)) sent' sound' acts' running')
