-- What a client may rely on in a system of nodes.
use Rattle.std.proofs.Common.{◌≡◌, false, inr, None, List, [], ◌∷◌, ◌++◌, refl, sym, ◌∙◌, ap, subst}
use Rattle.std.specs.List.{All}
use Rattle.std.proofs.lemmas.List.Elements.{All-cons, All-head, All-tail}
use Rattle.voting_config.specs.Ids.{Id}
use Rattle.cluster_state.specs.declared.state.ClusterState.{ClusterState}
use Rattle.master_tasks.specs.declared.waiting.Outgoing.{Outgoing}
use Rattle.world_model.specs.declared.acts.Act.TheVariants.{Open}
use Rattle.world_model.specs.declared.acts.Outcome.TheVariants.{Answered}
use Rattle.world_model.specs.declared.acts.ActReply.TheVariants.{Taken}
use Rattle.world_model.specs.Acts.{NodeHistory, Then}
use Rattle.world_model.specs.Histories.{History, node_history}
use Rattle.world_model.specs.Local.{then_run}
use Rattle.world_model.specs.NodeState.{initial_state}
use Rattle.world_model.proofs.System.{IsSystem}
use Rattle.world_model.proofs.Legal.{system_of_legal, system_of_grounded}
use Rattle.world_model.proofs.Restarted.{grounded_of_restarted}
use Rattle.world_model.proofs.Moments.{Begins as IsBeginning, begins_self}
use Rattle.policy_model.specs.declared.settings.Settings.{Settings}
use Rattle.policy_model.specs.declared.events.Event.{Event}
use Rattle.policy_model.specs.Events.{Item, Opens, Begins, Acts, ChangesMode, Drops, Sends, Replies, Notes, Log, And, added, acts_of}
use Rattle.policy_model.specs.Entries.{Life, Lived, Did, log_of, replies_of}
use Rattle.policy_model.specs.Follows.{items_of}
use Rattle.client_guarantees.specs.Laws.{IsRunIn}
use Rattle.client_guarantees.specs.Replies.{IsTrueReply, AreTrue}
use Rattle.client_guarantees.proofs.Laws.{replies_are_true, restarted_replies_are_true}
use Rattle.client_guarantees.proofs.Lives.{part_replies_true}
use Rattle.client_guarantees.proofs.Running.{Rest, rest-of}
use Rattle.system_laws.specs.Systems.{System, history_of, IsDoneOf, Killed, InAct, Also, Unsent, Unanswered}
use Rattle.system_laws.proofs.RunsKept.{going, going-from, IsOfNode, had-lived, IsKilledOf, was-killed}
use Rattle.system_laws.proofs.Assembly.{lives_assemble, lives_assemble_from}
use Rattle.cluster_replay.specs.SystemReplies.{LawSystemRepliesAreTrue, LawKilledRepliesAreTrue, LawRestartedSystemRepliesAreTrue, LawRestartedKilledRepliesAreTrue}

run-in : (h : History) (n : Id) (s : Settings) (life : Life) → IsOfNode (node_history h n) n s life → IsRunIn h s life
run-in h n s life r =
    let rest : Rest (then_run r.before (acts_of (log_of life))) (node_history h n) = rest-of (then_run r.before (acts_of (log_of life))) (node_history h n) r.begins in
    record {
      follows = r.follows;
      before = r.before;
      after = rest.after;
      acts = ap (λ (x : Id). node_history h x) r.me ∙ rest.acts;
      begins = r.opens;
    }

pub system_replies_are_true : LawSystemRepliesAreTrue
system_replies_are_true initial h is n s life lived =
    replies_are_true initial (history_of h) (lives_assemble initial h is) s life (run-in (history_of h) n s life (had-lived initial h (going initial h is.runs) n s life lived))

-- ---- killed within an event

-- of what was done of some items: a prefix of them has its acts, as far as they came to their end, and its replies
record IsPartOf (l k : Log) (items done : List Item) : Type 1 where
  prefix : List Item
  rest : List Item
  whole : items ≡ prefix ++ rest
  acts : IsBeginning (acts_of (added l prefix)) (acts_of (added k done))
  answers : (P : Outgoing → Type 0) → All P (replies_of prefix) → All P (replies_of done)

same-acts : (l k : Log) (i : Item) → acts_of l ≡ acts_of k → acts_of (And l i) ≡ acts_of (And k i)
same-acts l k (Opens found) e = ap (λ (g : NodeHistory). Then g (Open found) (Answered (Taken None false))) e
same-acts l k (Begins event) e = e
same-acts l k (Acts act o) e = ap (λ (g : NodeHistory). Then g act o) e
same-acts l k (ChangesMode mode term) e = e
same-acts l k (Drops member cause) e = e
same-acts l k (Sends frame) e = e
same-acts l k (Replies answer) e = e
same-acts l k (Notes note) e = e

with-answers : (P : Outgoing → Type 0) (i : Item) (xs ys : List Item) → (All P (replies_of xs) → All P (replies_of ys)) → All P (replies_of (i ∷ xs)) → All P (replies_of (i ∷ ys))
with-answers P (Opens found) xs ys more a = more a
with-answers P (Begins event) xs ys more a = more a
with-answers P (Acts act o) xs ys more a = more a
with-answers P (ChangesMode mode term) xs ys more a = more a
with-answers P (Drops member cause) xs ys more a = more a
with-answers P (Sends frame) xs ys more a = more a
with-answers P (Replies answer) xs ys more a = All-cons P answer (replies_of ys) (All-head P answer (replies_of xs) a) (more (All-tail P answer (replies_of xs) a))
with-answers P (Notes note) xs ys more a = more a

part-of : (l k : Log) (items done : List Item) → acts_of l ≡ acts_of k → IsDoneOf items done → IsPartOf l k items done
part-of l k items done e (Killed is) = record { prefix = []; rest = is; whole = refl; acts = subst (IsBeginning (acts_of l)) e (begins_self (acts_of l)); answers = λ P a. a }
part-of l k items done e (InAct act sends wins rest fault w f) = record {
  prefix = [];
  rest = Acts act (Answered (Taken sends wins)) ∷ rest;
  whole = refl;
  acts = inr (subst (IsBeginning (acts_of l)) e (begins_self (acts_of l)));
  answers = λ P a. a;
}
part-of l k items done e (Also i rest some d) =
    let more = part-of (And l i) (And k i) rest some (same-acts l k i e) d in
    record { prefix = i ∷ more.prefix; rest = more.rest; whole = ap (λ (x : List Item). i ∷ x) more.whole; acts = more.acts; answers = λ P a. with-answers P i more.prefix some (more.answers P) a }
part-of l k items done e (Unsent frame rest some d) =
    let more = part-of (And l (Sends frame)) k rest some e d in
    record { prefix = Sends frame ∷ more.prefix; rest = more.rest; whole = ap (λ (x : List Item). Sends frame ∷ x) more.whole; acts = more.acts; answers = more.answers }
part-of l k items done e (Unanswered answer rest some d) =
    let more = part-of (And l (Replies answer)) k rest some e d in
    record {
      prefix = Replies answer ∷ more.prefix;
      rest = more.rest;
      whole = ap (λ (x : List Item). Replies answer ∷ x) more.whole;
      acts = more.acts;
      answers = λ P a. more.answers P (All-tail P answer (replies_of more.prefix) a);
    }

killed-truly : (h : System) (root : ClusterState) → IsSystem (node_history (history_of h)) root → (n : Id) (s : Settings) (life : Life) (event : Event) (done : List Item)
    → IsKilledOf (node_history (history_of h) n) n s life event done → AreTrue (history_of h) s (Lived life (Did event (items_of s (log_of life) event))) done
killed-truly h root system n s life event done k =
    let part = part-of (And (log_of life) (Begins event)) (And (log_of life) (Begins event)) (items_of s (log_of life) event) done refl k.did in
    part.answers (λ (out : Outgoing). IsTrueReply (history_of h) s (Lived life (Did event (items_of s (log_of life) event))) out.conn out.reply)
    (part_replies_true (history_of h) root system s k.before (acts_of (added (And (log_of life) (Begins event)) done)) k.opens
    (subst (λ (x : Id). IsBeginning (then_run k.before (acts_of (added (And (log_of life) (Begins event)) done))) (node_history (history_of h) x)) (sym k.me) k.begins)
    life event part.prefix part.rest k.follows part.whole part.acts)

pub killed_replies_are_true : LawKilledRepliesAreTrue
killed_replies_are_true initial h is n s life event done was =
    killed-truly h (initial_state initial) (system_of_legal initial (history_of h) (lives_assemble initial h is)) n s life event done
    (was-killed initial h (going initial h is.runs) n s life event done was)

-- ---- from the restart of one node on

pub restarted_system_replies_are_true : LawRestartedSystemRepliesAreTrue
restarted_system_replies_are_true first kept h alone is n s life lived =
    restarted_replies_are_true first kept (history_of h) alone (lives_assemble_from first kept h is) s life
    (run-in (history_of h) n s life (had-lived [] h (going-from first kept h is.runs) n s life lived))

pub restarted_killed_replies_are_true : LawRestartedKilledRepliesAreTrue
restarted_killed_replies_are_true first kept h alone is n s life event done was =
    killed-truly h kept.accepted (system_of_grounded kept.accepted (history_of h) (grounded_of_restarted first kept alone (history_of h) (lives_assemble_from first kept h is))) n s life event done
    (was-killed [] h (going-from first kept h is.runs) n s life event done was)
