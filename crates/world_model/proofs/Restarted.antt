-- A history from the restart of one node on is grounded, so it has the facts, and its nodes keep what they answered for.
use Rattle.std.proofs.Common.{◌≡◌, ◌≢◌, Bool, true, false, cond, List, [], ◌∷◌, refl, sym, ◌∙◌, ap, subst, arith, inl, inr}
use Rattle.voting_config.specs.Ids.{Id, same}
use Rattle.cluster_state.specs.declared.state.ClusterState.{ClusterState}
use Rattle.cluster_state.specs.declared.state.Kept.{Kept}
use Rattle.world_model.specs.Acts.{Act, NodeHistory, Message, Bootstrap, Open, NoActs, Then}
use Rattle.world_model.specs.NodeState.{empty_state}
use Rattle.world_model.specs.Histories.{History, NoEntries, Next, node_history, sent}
use Rattle.world_model.specs.Safety.{HoldsAnswers}
use Rattle.world_model.specs.Restarts.{IsAlone, ContinuesFrom, IsLegalFrom, TakesSent}
use Rattle.world_model.proofs.Facts.{Facts}
use Rattle.world_model.proofs.System.{IsGround, Opens}
use Rattle.world_model.proofs.Legal.{IsSourcedFrom, IsGrounded, system_of_grounded}
use Rattle.world_model.proofs.FactsHold.{facts_of_system}
use Rattle.world_model.proofs.Keeping.{kept_grounded}

named : (node : Id) (config : List Id) → config ≡ node ∷ [] → config ≢ []
named node config e h = cc

ground_first : (node : Id) (kept found : Kept) → IsAlone node kept → found ≡ kept → IsGround kept.accepted found
ground_first node kept found a e =
    subst (IsGround kept.accepted) (sym e)
    (record { accepted = inr (refl, named node kept.accepted.config a.config); older = a.older; held = λ r. inr (a.committed ∙ sym a.config) })

ground_other : (node : Id) (kept found : Kept) → IsAlone node kept → found.accepted ≡ empty_state → IsGround kept.accepted found
ground_other node kept found a e =
    let term : found.accepted.term ≡ 0 = ap (λ (s : ClusterState). s.term) e in
    record {
      accepted = inl e;
      older = omega arith;
      held = λ r. absurd (named node kept.accepted.config a.config (ap (λ (s : ClusterState). s.config) (sym r ∙ e)));
    }

opens : (first : Id) (kept : Kept) → IsAlone first kept → (node : Id) (g : NodeHistory) (a : Act) → ContinuesFrom first kept node g a → Opens kept.accepted g a
opens first kept alone node NoActs (Open found) c = from (same node first) c
  where
    from : (b : Bool) → cond b (found ≡ kept) (found.accepted ≡ empty_state) → IsGround kept.accepted found
    from true e = ground_first first kept found alone e
    from false e = ground_other first kept found alone e
opens first kept alone node NoActs a c = absurd c
opens first kept alone node (Then g b o) (Open found) c = c
opens first kept alone node (Then g b o) a c = tt

sourced_from : (root : ClusterState) (messages : List Message) (a : Act) → TakesSent messages a → IsSourcedFrom root messages a
sourced_from root messages (Bootstrap config) s = absurd s
sourced_from root messages a s = s

pub grounded_of_restarted : (first : Id) (kept : Kept) → IsAlone first kept → (h : History) → IsLegalFrom first kept h → IsGrounded kept.accepted h
grounded_of_restarted first kept alone NoEntries l = tt
grounded_of_restarted first kept alone (Next h n a o) l = (
  grounded_of_restarted first kept alone h l.0,
  record { follows = l.1.follows; opens = opens first kept alone n (node_history h n) a l.1.continues; sourced = sourced_from kept.accepted (sent h) a l.1.sent },
)

pub facts_of_restarted : (first : Id) (kept : Kept) → IsAlone first kept → (h : History) → IsLegalFrom first kept h → Facts h kept.accepted
facts_of_restarted first kept alone h l = facts_of_system h kept.accepted (system_of_grounded kept.accepted h (grounded_of_restarted first kept alone h l))

pub kept_from_restart : (first : Id) (kept : Kept) → IsAlone first kept → (h : History) → IsLegalFrom first kept h → HoldsAnswers h
kept_from_restart first kept alone h l = kept_grounded kept.accepted h (grounded_of_restarted first kept alone h l)
