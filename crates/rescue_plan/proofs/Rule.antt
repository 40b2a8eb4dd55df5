-- What histories are to be, so that a plan may be carried out in them: legal, or legal from the restart of one node on.
use Rattle.std.proofs.Common.{◌≡◌, ◌≢◌, Bool, true, false, cond, List, refl, sym, ◌∙◌, subst, inl, inr}
use Rattle.std.proofs.lemmas.Bool.{false≢true}
use Rattle.voting_config.specs.Ids.{Id, same}
use Rattle.cluster_state.specs.declared.state.ClusterState.{ClusterState}
use Rattle.cluster_state.specs.declared.state.Kept.{Kept}
use Rattle.world_model.specs.declared.acts.Act.{Act}
use Rattle.world_model.specs.declared.acts.Act.TheVariants.{Bootstrap, StartJoin, TakeJoin, Value, Publish, Response, Commit, Open}
use Rattle.world_model.specs.declared.acts.Message.{Message}
use Rattle.world_model.specs.declared.acts.Outcome.{Outcome}
use Rattle.world_model.specs.declared.acts.Outcome.TheVariants.{Answered}
use Rattle.world_model.specs.Acts.{NodeHistory, NoActs, Then, is_opening}
use Rattle.world_model.specs.NodeState.{initial_state}
use Rattle.world_model.specs.Replies.{reply_of}
use Rattle.world_model.specs.Histories.{History, NoEntries, Next, node_history, sent, is_down, Continues, IsSourced, MayFollow, IsLegal, IsPrefix}
use Rattle.world_model.specs.Restarts.{IsAlone, ContinuesFrom, TakesSent, IsLegalFrom}
use Rattle.world_model.proofs.Legal.{IsGrounded, grounded_of_legal}
use Rattle.world_model.proofs.Restarted.{grounded_of_restarted}
use Rattle.rescue_plan.specs.Lines.{answered}

-- A node that may act, and is up, may do each act that is no bootstrap and no opening, whose message was sent.
pub record Rule : Type 1 where
  pub Right : History → Type 0
  pub root : ClusterState
  pub MayAct : NodeHistory → Type 0
  pub acts_on : (g : NodeHistory) (a : Act) (o : Outcome) → MayAct g → MayAct (Then g a o)
  pub grows : (h : History) (n : Id) (a : Act) (o : Outcome) → Right h → MayAct (node_history h n) → MayFollow n (node_history h n) a o → is_opening a ≡ false → TakesSent (sent h) a
      → Right (Next h n a o)
  pub grounded : (h : History) → Right h → IsGrounded root h

pub continues : (g : NodeHistory) (a : Act) → is_opening a ≡ false → Continues g a
continues g (Open found) e = absurd (false≢true (sym e))
continues g (Bootstrap config) e = tt
continues g (StartJoin candidate term) e = tt
continues g (TakeJoin join) e = tt
continues g (Value version config value) e = tt
continues g (Publish request) e = tt
continues g (Response response) e = tt
continues g (Commit commit) e = tt

pub sourced : (initial : List Id) (messages : List Message) (a : Act) → TakesSent messages a → IsSourced initial messages a
sourced initial messages (Bootstrap config) s = absurd s
sourced initial messages a s = s

abbrev pub legal_rule : List Id → Rule
legal_rule initial = record {
  Right = IsLegal initial;
  root = initial_state initial;
  MayAct = λ g. Unit {0};
  acts_on = λ g a o m. tt;
  grows = λ h n a o l m f e s. (l, record { follows = f; continues = continues (node_history h n) a e; sourced = sourced initial (sent h) a s });
  grounded = grounded_of_legal initial;
}

pub continues_from : (first : Id) (kept : Kept) (n : Id) (g : NodeHistory) (a : Act) → g ≢ NoActs → is_opening a ≡ false → ContinuesFrom first kept n g a
continues_from first kept n NoActs a m e = absurd (m refl)
continues_from first kept n (Then g b o) a m e = continues (Then g b o) a e

-- from the restart of a node on a node has opened its journal before it acts
abbrev pub restart_rule : (first : Id) (kept : Kept) → IsAlone first kept → Rule
restart_rule first kept alone = record {
  Right = IsLegalFrom first kept;
  root = kept.accepted;
  MayAct = λ g. g ≢ NoActs;
  acts_on = λ g a o m e. cc;
  grows = λ h n a o l m f e s. (l, record { follows = f; continues = continues_from first kept n (node_history h n) a m e; sent = s });
  grounded = grounded_of_restarted first kept alone;
}

module _ (R : Rule) where
  -- what a node answers is right
  pub answers : (h : History) (n : Id) (a : Act) → R.Right h → R.MayAct (node_history h n) → is_down (node_history h n) ≡ false → is_opening a ≡ false → TakesSent (sent h) a
      → R.Right (answered h n a)
  answers h n a l m up e s = R.grows h n a (Answered (reply_of n (node_history h n) a)) l m (record { follows = refl; up = λ down. absurd (false≢true (sym up ∙ down)) }) e s

  acts_after : (h : History) (k n : Id) (a : Act) (o : Outcome) (b : Bool) → R.MayAct (node_history h n) → R.MayAct (cond b (Then (node_history h n) a o) (node_history h n))
  acts_after h k n a o true m = R.acts_on (node_history h n) a o m
  acts_after h k n a o false m = m

  -- a node that may act may do so later
  pub acts_later : (p h : History) (n : Id) → IsPrefix p h → R.MayAct (node_history p n) → R.MayAct (node_history h n)
  acts_later p NoEntries n i m = subst (λ (k : History). R.MayAct (node_history k n)) i m
  acts_later p (Next h k a o) n (inl e) m = subst (λ (x : History). R.MayAct (node_history x n)) e m
  acts_later p (Next h k a o) n (inr i) m = acts_after h k n a o (same k n) (acts_later p h n i m)
