-- A line that is done.
use Rattle.std.proofs.Common.{append-nil, append_assoc, codes, ◌≡◌, ◌∷◌, ◌-◌, zero, suc, ◌≤◌, Result, Ok, Err, ℕ, true, Option, None, Some, List, [], ◌++◌, length, refl, sym, ◌∙◌, ap, subst, slice_get, slice_set, get_or, take, drop, ◌<◌}
use Rattle.std.specs.Prelude.{OnOk}
use Rattle.std.specs.declared.alloc.AllocError.{AllocError}
use Rattle.std.proofs.lemmas.Option.{slice_get_past, slice_get_read}
use Rattle.std.proofs.lemmas.Bool.{and_parts}
use Rattle.voting_config.specs.Ids.{Id, has}
use Rattle.world_model.specs.declared.acts.Act.{Act}
use Rattle.world_model.specs.declared.acts.Message.{Message}
use Rattle.world_model.specs.declared.acts.Message.TheVariants.{Join as JoinMessage, Publish as PublishMessage, Response as ResponseMessage, Commit as CommitMessage}
use Rattle.world_model.specs.declared.acts.ActReply.TheVariants.{Stopped}
use Rattle.world_model.specs.declared.acts.Outcome.{Outcome}
use Rattle.world_model.specs.declared.acts.Outcome.TheVariants.{Answered}
use Rattle.world_model.specs.Acts.{NoActs, Then}
use Rattle.world_model.specs.Histories.{sent}
use Rattle.schedule_text.specs.declared.schedule.Line.{Line}
use Rattle.schedule_text.specs.Lines.{line_text}
use Rattle.trace_text.specs.Trace.{act_text}
use Rattle.replay_node.specs.Did.{did_text, outcome_of}
use Rattle.replay_node.specs.NodeLines.{DoesLine as NodeDoesLine}
use Rattle.replay_node.specs.NodeWorld.{NodeWorld}
use Rattle.replay_node.specs.Sent.{are_from, sent_some, source_of, taking}
use Rattle.replay_node.specs.Stands.{NodeDoes}
use Rattle.replay_node.specs.Takes.{TakesFrom}
use Rattle.replay_node.specs.declared.did.Did.{Did}
use Rattle.replay_node.specs.declared.node.ReplayNode.{ReplayNode}
use Rattle.replay_node.specs.Worlds.{World, did_unless_down, node_world}
use Rattle.replay_node.proofs.Moves.{NodeMoves}
use Rattle.schedule_replay.specs.Replayed.{after, message_at, took_some}
use Rattle.schedule_replay.specs.Trace.{delivery_results, line_results, results_of}
use Rattle.schedule_replay.specs.WorldStands.{ActDone, AllStand, DoesLine, LineDone, Stands, WritesLine}
use Rattle.schedule_replay.proofs.Movement.{Looked, after_here, does_here, here, returned}
use Rattle.schedule_replay.proofs.WorldSteps.{acted}

module _ (ids l : List Id) (items lent : List ReplayNode) (messages : List Message) (n : Id) (place len : ℕ) (looked : Looked ids l items lent messages n place len) (c d : ReplayNode) where
  -- the nodes after the loan
  abbrev final : List ReplayNode
  final = take len (slice_set lent place d ++ drop (length (slice_set lent place d)) items)

  -- an act of the node; its text was written into an empty one
  act_line : (more : List Message) (text now : List ℕ) (act : Act) (o : Did) → NodeDoes (get_or lent place c) d act o → more ≡ messages ++ sent_some (outcome_of o) → has n ids ≡ true → TakesFrom ids (Then NoActs act (Answered Stopped))
      → now ≡ text ++ did_text (length messages) n (act_text act) o → DoesLine ids items (slice_set items place d) messages more text now (λ w. did_unless_down w n act) (λ w. results_of w n act)
  act_line more text now act o does sends listed from written w s =
      let done : ActDone ids (slice_set items place d) w n act o = does_here ids l items lent messages n place len looked c d w act o does s.nodes_stand in
      let count : length messages ≡ length (sent w.history) = ap (λ (m : List Message). length m) s.messages_sent in
      record {
        stands = acted ids items (slice_set items place d) messages more w n act o s done sends listed from;
        written =
            written
            ∙ ap (λ (k : ℕ). text ++ did_text k n (act_text act) o) count
            ∙ ap (λ (t : List ℕ). text ++ t) (sym (done.text (length (sent w.history))));
      }

  pub act_done : (r : Result (Unit {0}) AllocError) (nodes : List ReplayNode) (more : List Message) (text now none act_bytes : List ℕ) (act told : Act) (o : Did) → NodeDoes (get_or lent place c) d act o → act ≡ told → nodes ≡ final
      → OnOk r (more ≡ messages ++ sent_some (outcome_of o)) → has n ids ≡ true → TakesFrom ids (Then NoActs act (Answered Stopped))
      → none ≡ [] → act_bytes ≡ none ++ act_text act → OnOk r (now ≡ text ++ did_text (length messages) n act_bytes o)
      → OnOk r (DoesLine ids items nodes messages more text now (λ w. did_unless_down w n told) (λ w. results_of w n told))
  act_done (Err e) nodes more text now none act_bytes act told o does same nodes_are sends listed from empty act_is written = tt
  act_done (Ok u) nodes more text now none act_bytes act told o does same nodes_are sends listed from empty act_is written =
      let bytes : act_bytes ≡ act_text act = act_is ∙ ap (λ (t : List ℕ). t ++ act_text act) empty in
      subst (λ (x : List ReplayNode). DoesLine ids items x messages more text now (λ w. did_unless_down w n told) (λ w. results_of w n told)) (sym (nodes_are ∙ returned ids l items lent messages n place len looked d))
      (subst (λ (x : Act). DoesLine ids items (slice_set items place d) messages more text now (λ w. did_unless_down w n x) (λ w. results_of w n x)) same
      (act_line more text now act o does sends listed from (written ∙ ap (λ (t : List ℕ). text ++ did_text (length messages) n t o) bytes)))

  -- a line of the node that is no act
  pub moved : (text now : List ℕ) (after_node : NodeWorld → NodeWorld) (text_of : Id → NodeWorld → List ℕ) (after_it : World → World) → ((w : World) → NodeMoves n w (after_node (node_world w n)) (after_it w))
      → ((w : World) (new : List ReplayNode) → Stands ids items messages w → AllStand ids new (after_it w) → Stands ids new messages (after_it w)) → NodeDoesLine (get_or lent place c) d after_node (text_of (get_or lent place c).me) text now
      → DoesLine ids items final messages messages text now after_it (λ w. text_of n (node_world w n))
  moved text now after_node text_of after_it moves step line =
      subst (λ (x : List ReplayNode). DoesLine ids items x messages messages text now after_it (λ w. text_of n (node_world w n))) (sym (returned ids l items lent messages n place len looked d))
      (λ w s.
      let at = here ids l items lent messages n place len looked c w s.nodes_stand in
      let stand = after_here ids l items lent messages n place len looked c d w (after_node (node_world w n)) (after_it w) line.me (moves w) (line.stands (node_world w n) at.1) s.nodes_stand in
      record {
        stands = step w (slice_set items place d) s stand;
        written = subst (λ (m : Id). now ≡ text ++ text_of m (node_world w n)) at.0 (line.written (node_world w n) at.1);
      })

-- ---- messages

pub takes_message : (ids : List Id) (m : Message) (o : Outcome) → has (source_of m) ids ≡ true → TakesFrom ids (Then NoActs (taking m) o)
takes_message ids (JoinMessage j) o h = (tt, h)
takes_message ids (PublishMessage r) o h = tt
takes_message ids (ResponseMessage r) o h = (tt, h)
takes_message ids (CommitMessage c) o h = tt

source_at : (ids : List Id) (all : List Message) (k : ℕ) (m : Message) → are_from ids all ≡ true → slice_get all k ≡ Some m → has (source_of m) ids ≡ true
source_at ids [] k m l e = absurd (cc)
source_at ids (x ∷ xs) zero m l e =
    let is : x ≡ m = cc in
    let parts = and_parts (has (source_of x) ids) (are_from ids xs) l in
    subst (λ (y : Message). has (source_of y) ids ≡ true) is parts.0
source_at ids (x ∷ xs) (suc k) m l e =
    let parts = and_parts (has (source_of x) ids) (are_from ids xs) l in
    source_at ids xs k m parts.1 e

-- what stands at a place of a list that is lent
pub lent_at : {A : Type 0} (items lent : List A) (place : ℕ) (x : A) → lent ≡ items → place < length lent → x ≡ get_or lent place x → slice_get items place ≡ Some x
lent_at {A} items lent place x is within at = subst (λ (xs : List A). slice_get xs place ≡ Some x) is (slice_get_read lent (length lent) place x refl within at)

-- a message that was sent is from a node of the schedule
pub delivered_source : (ids : List Id) (nodes : List ReplayNode) (messages : List Message) (w : World) (place : ℕ) (m : Message) → Stands ids nodes messages w → slice_get messages place ≡ Some m → has (source_of m) ids ≡ true
delivered_source ids nodes messages w place m s found = source_at ids messages place m (subst (λ (x : List Message). are_from ids x ≡ true) (sym s.messages_sent) s.sources) found

-- a message that was sent is taken
pub delivered : (ids : List Id) (old new : List ReplayNode) (messages more : List Message) (text now : List ℕ) (n : Id) (ordinal : ℕ) (m : Message) → slice_get messages (ordinal - 1) ≡ Some m
    → DoesLine ids old new messages more text now (λ w. did_unless_down w n (taking m)) (λ w. results_of w n (taking m))
    → DoesLine ids old new messages more text now (λ w. took_some w n (message_at w ordinal)) (λ w. delivery_results w n (message_at w ordinal))
delivered ids old new messages more text now n ordinal m found does w s =
    let known : message_at w ordinal ≡ Some m = subst (λ (x : List Message). slice_get x (ordinal - 1) ≡ Some m) s.messages_sent found in
    subst (λ (x : Option Message). LineDone ids new more (took_some w n x) (delivery_results w n x) text now) (sym known) (does w s)

-- there is no such message
pub not_sent : (ids : List Id) (nodes : List ReplayNode) (messages : List Message) (text now : List ℕ) (n : Id) (ordinal : ℕ) → length messages ≤ ordinal - 1 → ((w : World) → AllStand ids nodes w → now ≡ text ++ delivery_results w n None)
    → DoesLine ids nodes nodes messages messages text now (λ w. took_some w n (message_at w ordinal)) (λ w. delivery_results w n (message_at w ordinal))
not_sent ids nodes messages text now n ordinal past written w s =
    let known : message_at w ordinal ≡ None = subst (λ (x : List Message). slice_get x (ordinal - 1) ≡ None) s.messages_sent (slice_get_past messages (ordinal - 1) past) in
    subst (λ (x : Option Message). LineDone ids nodes messages (took_some w n x) (delivery_results w n x) text now) (sym known) (record { stands = s; written = written w s.nodes_stand })

-- what holds of the line as it was matched holds of the line
pub this_line : (ids initial : List Id) (old new : List ReplayNode) (messages more : List Message) (was now : List ℕ) (l lit : Line) → l ≡ lit
    → DoesLine ids old new messages more was now (λ w. after initial w lit) (λ w. line_results initial w lit) → DoesLine ids old new messages more was now (λ w. after initial w l) (λ w. line_results initial w l)
this_line ids initial old new messages more was now l lit is does w s = subst (λ (x : Line). LineDone ids new more (after initial w x) (line_results initial w x) was now) (sym is) (does w s)

-- a line that does nothing and writes no results
pub does_nothing : (ids initial : List Id) (nodes : List ReplayNode) (messages : List Message) (text : List ℕ) (l lit : Line) → l ≡ lit
    → ((w : World) → after initial w lit ≡ w) → ((w : World) → line_results initial w lit ≡ []) → DoesLine ids nodes nodes messages messages text text (λ w. after initial w l) (λ w. line_results initial w l)
does_nothing ids initial nodes messages text l lit is stays nothing =
    this_line ids initial nodes nodes messages messages text text l lit is
    (λ w s. record {
      stands = subst (λ (x : World). Stands ids nodes messages x) (sym (stays w)) s;
      written = sym (append-nil text) ∙ ap (λ (t : List ℕ). text ++ t) (sym (nothing w));
    })

-- the echo of a line, and then its results, are its part of the trace
pub writes_line : (ids initial : List Id) (old new : List ReplayNode) (messages more : List Message) (was echoed now : List ℕ) (l : Line) → echoed ≡ was ++ (codes "> " ++ line_text l ++ codes "\n")
    → DoesLine ids old new messages more echoed now (λ w. after initial w l) (λ w. line_results initial w l) → WritesLine ids initial old new messages more was now l
writes_line ids initial old new messages more was echoed now l echo does w s =
    let here = does w s in
    record { stands = here.stands; written = here.written ∙ rw echo (simp append_assoc refl) }
