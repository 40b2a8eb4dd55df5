-- What one more entry makes of a history: that it is legal, clause by clause, or the first clause that it breaks.
use Rattle.std.proofs.Common.{◌≡◌, Bool, true, false, cond, List, refl, sym, ◌∙◌, subst}
use Rattle.voting_config.specs.Ids.{Id}
use Rattle.voting_config.proofs.Sets.{same_self}
use Rattle.world_model.specs.declared.acts.ActReply.{ActReply}
use Rattle.world_model.specs.declared.acts.ActReply.TheVariants.{Taken, Refused, Stopped}
use Rattle.world_model.specs.declared.acts.Act.{Act}
use Rattle.world_model.specs.declared.acts.Outcome.{Outcome}
use Rattle.world_model.specs.declared.acts.Message.{Message}
use Rattle.world_model.specs.Acts.{NodeHistory, Then}
use Rattle.world_model.specs.declared.acts.Act.TheVariants.{Bootstrap, StartJoin, TakeJoin, Value, Publish, Response, Commit, Open}
use Rattle.world_model.specs.NodeState.{NodeState}
use Rattle.world_model.specs.Histories.{History, Next, node_history, sent, is_down, Continues, IsSourced, MayHappen}
use Rattle.world_model.specs.Acts.{is_opening}
use Rattle.world_model.specs.Replies.{reply_at, IsOutcome, IsOutcomeAt, is_taken}
use Rattle.trace_text.specs.declared.ending.Ending.{Ending}
use Rattle.trace_text.specs.declared.ending.Ending.TheVariants as ending
use Rattle.std.specs.BTreeMap.{BTreeMap}
use Rattle.trace_audit.specs.declared.clause.Clause.TheVariants as clause
use Rattle.node_audit.specs.declared.node.Node.{Node}
use Rattle.trace_audit.specs.Clauses.{IsOpenedRight, NamesInitial, WasSent, BreaksFirst}
use Rattle.node_audit.specs.Endings.{outcome_shown}
use Rattle.trace_audit.specs.Stands.{OthersStand, StandsIfAny, node_in}
use Rattle.node_audit.specs.Standing.{MayEnd, Stands}

-- ---- the clauses

sourced : (initial : List Id) (ms : List Message) (act : Act) → NamesInitial initial act → WasSent ms act → IsSourced initial ms act
sourced initial ms (Bootstrap config) n w = n
sourced initial ms (TakeJoin join) n w = w
sourced initial ms (Publish request) n w = w
sourced initial ms (Response response) n w = w
sourced initial ms (Commit commit) n w = w
sourced initial ms (StartJoin candidate term) n w = tt
sourced initial ms (Value version config value) n w = tt
sourced initial ms (Open found) n w = tt

shut_continues : (g : NodeHistory) (act : Act) → is_opening act ≡ false → Continues g act
shut_continues g (Open found) shut = absurd cc
shut_continues g (Bootstrap config) shut = tt
shut_continues g (StartJoin candidate term) shut = tt
shut_continues g (TakeJoin join) shut = tt
shut_continues g (Value version config value) shut = tt
shut_continues g (Publish request) shut = tt
shut_continues g (Response response) shut = tt
shut_continues g (Commit commit) shut = tt

pub opened_right : (h : History) (n : Id) (act : Act) → is_opening act ≡ false → is_down (node_history h n) ≡ false → IsOpenedRight h n act
opened_right h n act shut up = record { up = λ d. absurd (cc); continues = shut_continues (node_history h n) act shut }

pub may_happen : (initial : List Id) (h : History) (n : Id) (act : Act) (o : Outcome) → IsOpenedRight h n act → NamesInitial initial act → WasSent (sent h) act → IsOutcome n (node_history h n) act o → MayHappen initial h n act o
may_happen initial h n act o opened names was follows = record {
  follows = record { follows = follows; up = opened.up };
  continues = opened.continues;
  sourced = sourced initial (sent h) act names was;
}

pub breaks_opening : (initial : List Id) (h : History) (n : Id) (act : Act) (o : Outcome) → is_opening act ≡ false → is_down (node_history h n) ≡ true → BreaksFirst clause.Opening initial (Next h n act o)
breaks_opening initial h n act o shut down = (tt, λ k. let t = k.up down in cc)

pub breaks_bootstrap : (initial : List Id) (h : History) (n : Id) (act : Act) (o : Outcome) → IsOpenedRight h n act → (NamesInitial initial act → ⊥) → BreaksFirst clause.Bootstrap initial (Next h n act o)
breaks_bootstrap initial h n act o opened not = ((opened, tt), not)

pub breaks_unsent : (initial : List Id) (h : History) (n : Id) (act : Act) (o : Outcome) → IsOpenedRight h n act → NamesInitial initial act → (WasSent (sent h) act → ⊥) → BreaksFirst clause.Unsent initial (Next h n act o)
breaks_unsent initial h n act o opened names not = ((opened, (names, tt)), not)

pub breaks_outcome : (initial : List Id) (h : History) (n : Id) (act : Act) (o : Outcome) → IsOpenedRight h n act → NamesInitial initial act → WasSent (sent h) act → (IsOutcome n (node_history h n) act o → ⊥) → BreaksFirst clause.Outcome initial (Next h n act o)
breaks_outcome initial h n act o opened names was not = ((opened, (names, (was, tt))), not)

-- ---- how an act may end

pub outcome_right : (me : Id) (p : NodeState) (act : Act) (r : ActReply) (e : Ending) → r ≡ reply_at me p act → MayEnd r act e → IsOutcomeAt me p act (outcome_shown r e)
outcome_right me p act (Taken s w) ending.Taken is m = is
outcome_right me p act (Refused c) ending.Taken is m = absurd cc
outcome_right me p act Stopped ending.Taken is m = absurd cc
outcome_right me p act r (ending.Refused cause) is m = sym m ∙ is
outcome_right me p act r ending.Stopped is m = sym m ∙ is
outcome_right me p act r ending.Disk is m = (subst (λ (x : ActReply). is_taken x ≡ true) is m.0, m.1)
outcome_right me p act r ending.Crashed is m = (subst (λ (x : ActReply). is_taken x ≡ true) is m.0, m.1)

pub outcome_wrong : (me : Id) (p : NodeState) (act : Act) (r : ActReply) (e : Ending) → r ≡ reply_at me p act → (MayEnd r act e → ⊥) → IsOutcomeAt me p act (outcome_shown r e) → ⊥
outcome_wrong me p act (Taken s w) ending.Taken is m o = m refl
outcome_wrong me p act (Refused c) ending.Taken is m o = let t = is ∙ sym o in cc
outcome_wrong me p act Stopped ending.Taken is m o = let t = is ∙ sym o in cc
outcome_wrong me p act r (ending.Refused cause) is m o = m (is ∙ sym o)
outcome_wrong me p act r ending.Stopped is m o = m (is ∙ sym o)
outcome_wrong me p act r ending.Disk is m o = m (subst (λ (x : ActReply). is_taken x ≡ true) (sym is) o.0, o.1)
outcome_wrong me p act r ending.Crashed is m o = m (subst (λ (x : ActReply). is_taken x ≡ true) (sym is) o.0, o.1)

-- ---- the nodes after an entry

pub others_next : (h : History) (n : Id) (act : Act) (o : Outcome) (nodes : BTreeMap Id Node) → OthersStand n nodes (node_history h) → OthersStand n nodes (node_history (Next h n act o))
others_next h n act o nodes k m e = subst (λ (b : Bool). StandsIfAny (node_in nodes m) (cond b (Then (node_history h m) act o) (node_history h m))) (sym e) (k m e)

pub own_next : (h : History) (n : Id) (act : Act) (o : Outcome) (x : Node) → Stands x (Then (node_history h n) act o) → Stands x (node_history (Next h n act o) n)
own_next h n act o x s = subst (λ (b : Bool). Stands x (cond b (Then (node_history h n) act o) (node_history h n))) (sym (same_self n)) s
