-- The laws of each legal history.
use Rattle.std.proofs.Common.{◌≡◌, ◌≢◌, List, ◌++◌, refl, sym, ◌∙◌}
use Rattle.std.specs.List.{Contains, All}
use Rattle.std.proofs.lemmas.List.Elements.{All-contains}
use Rattle.voting_config.specs.Ids.{Id}
use Rattle.cluster_state.specs.Initial.{initial_state}
use Rattle.cluster_state.specs.declared.state.Kept.{Kept}
use Rattle.master_tasks.specs.declared.waiting.Outgoing.{Outgoing}
use Rattle.world_model.specs.Acts.{NodeHistory, NoActs}
use Rattle.world_model.specs.NodeState.{durable_of}
use Rattle.world_model.specs.Histories.{History, node_history, IsLegal}
use Rattle.world_model.specs.Local.{then_run, OpensWith}
use Rattle.world_model.proofs.Moments.{Begins as IsBeginning}
use Rattle.world_model.specs.Restarts.{IsAlone, IsLegalFrom}
use Rattle.world_model.proofs.Legal.{system_of_legal, system_of_grounded}
use Rattle.world_model.proofs.Restarted.{grounded_of_restarted}
use Rattle.policy_model.specs.declared.settings.Settings.{Settings}
use Rattle.policy_model.specs.declared.events.Event.{Event}
use Rattle.policy_model.specs.Events.{Item, And, Begins, added, acts_of}
use Rattle.policy_model.specs.Follows.{Follows, items_of}
use Rattle.policy_model.specs.Entries.{Life, Lived, Did, log_of, replies_of}
use Rattle.client_guarantees.specs.Replies.{IsTrueReply, RepliesTruly}
use Rattle.client_guarantees.specs.Laws.{IsLifeIn, IsRunIn}
use Rattle.client_guarantees.proofs.Running.{none-before}
use Rattle.client_guarantees.proofs.Lives.{replies_true, part_replies_true}

-- all that a node did is a run of it
pub run_of_life : (h : History) (s : Settings) (life : Life) → IsLifeIn h s life → IsRunIn h s life
run_of_life h s life is = record {
  follows = is.follows;
  before = NoActs;
  after = NoActs;
  acts = is.acts ∙ sym (none-before (acts_of (log_of life)));
  begins = λ n. absurd (n refl);
}

pub replies_are_true : (initial : List Id) (h : History) → IsLegal initial h → (s : Settings) (life : Life) → IsRunIn h s life → RepliesTruly h s life
replies_are_true initial h legal s life is = replies_true h (initial_state initial) (system_of_legal initial h legal) s life is

-- a run was killed within an event, of which the history has the acts of a part
pub part_replies_are_true : (initial : List Id) (h : History) → IsLegal initial h → (s : Settings) (g r : NodeHistory) → (g ≢ NoActs → OpensWith (durable_of g) r) → IsBeginning (then_run g r) (node_history h s.me)
    → (life : Life) (e : Event) (prefix rest : List Item) → Follows s (Lived life (Did e (items_of s (log_of life) e))) → items_of s (log_of life) e ≡ prefix ++ rest → IsBeginning (acts_of (added (And (log_of life) (Begins e)) prefix)) r
    → All (λ (out : Outgoing). IsTrueReply h s (Lived life (Did e (items_of s (log_of life) e))) out.conn out.reply) (replies_of prefix)
part_replies_are_true initial h legal = part_replies_true h (initial_state initial) (system_of_legal initial h legal)

pub last_replies_are_true : (initial : List Id) (h : History) → IsLegal initial h → (s : Settings) (before : Life) (event : Event) (items : List Item) → IsRunIn h s (Lived before (Did event items))
    → (out : Outgoing) → Contains (replies_of items) out → IsTrueReply h s (Lived before (Did event items)) out.conn out.reply
last_replies_are_true initial h legal s before event items is out is_in =
    All-contains (λ (x : Outgoing). IsTrueReply h s (Lived before (Did event items)) x.conn x.reply) (replies_of items) out
    (replies_are_true initial h legal s (Lived before (Did event items)) is).1 is_in

pub restarted_replies_are_true : (first : Id) (kept : Kept) (h : History) → IsAlone first kept → IsLegalFrom first kept h → (s : Settings) (life : Life) → IsRunIn h s life → RepliesTruly h s life
restarted_replies_are_true first kept h alone legal s life is =
    replies_true h kept.accepted (system_of_grounded kept.accepted h (grounded_of_restarted first kept alone h legal)) s life is
