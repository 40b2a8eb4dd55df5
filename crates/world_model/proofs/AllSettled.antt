-- What stays the same in a history of all nodes when an act that was struck is found to be kept or not, and that it stays legal.
use Rattle.std.proofs.Common.{◌≡◌, Bool, true, false, cond, List, ◌++◌, refl, sym, ◌∙◌, ap, subst, if◌then◌else◌}
use Rattle.voting_config.specs.Ids.{Id, same}
use Rattle.world_model.specs.declared.acts.Act.{Act}
use Rattle.world_model.specs.declared.acts.Message.{Message}
use Rattle.world_model.specs.declared.acts.Outcome.{Outcome}
use Rattle.world_model.specs.declared.acts.Outcome.TheVariants.{Answered, Disk, Crashed}
use Rattle.world_model.specs.Acts.{NodeHistory, Then}
use Rattle.world_model.specs.Histories.{History, NoEntries, Next, node_history, sent, sent_by, is_opening, IsSourced, IsLocal, IsLegal}
use Rattle.world_model.specs.Local.{BeginsEmpty, IsSourcedAll}
use Rattle.voting_config.proofs.Sets.{same_is}
use Rattle.world_model.proofs.Assemble.{legal_is}
use Rattle.world_model.specs.Settled.{settled, settled_entry, settled_for}
use Rattle.world_model.proofs.SettledLocal.{settled_local, settled_begins, unsettled_local, unsettled_begins}

own_entry : (h : History) (node : Id) (act : Act) (o : Outcome) (n : Id) → same node n ≡ true → node_history (Next h node act o) n ≡ Then (node_history h n) act o
own_entry h node act o n e = ap (λ (b : Bool). cond b (Then (node_history h n) act o) (node_history h n)) e

other_entry : (h : History) (node : Id) (act : Act) (o : Outcome) (n : Id) → same node n ≡ false → node_history (Next h node act o) n ≡ node_history h n
other_entry h node act o n e = ap (λ (b : Bool). cond b (Then (node_history h n) act o) (node_history h n)) e

-- the acts of the node

own_settled : (k : Bool) (h s : History) (node : Id) (act : Act) (o : Outcome) (n : Id) → same node n ≡ true → node_history s n ≡ settled k (node_history h n) → node_history (settled_entry k h s node act o) n ≡ settled k (Then (node_history h n) act o)
own_settled k h s node act (Disk was) n e r = own_entry h node act (Disk k) n e
own_settled k h s node act (Crashed was) n e r = own_entry h node act (Crashed k) n e
own_settled k h s node act (Answered reply) n e r = own_entry (if is_opening act then h else s) node act (Answered reply) n e ∙ from (is_opening act)
  where
    from : (b : Bool) → Then (node_history (if b then h else s) n) act (Answered reply) ≡ (if b then Then (node_history h n) act (Answered reply) else Then (settled k (node_history h n)) act (Answered reply))
    from true = refl
    from false = ap (λ (g : NodeHistory). Then g act (Answered reply)) r

pub settled_own : (n : Id) (k : Bool) (h : History) → node_history (settled_for n k h) n ≡ settled k (node_history h n)
settled_own n k NoEntries = refl
settled_own n k (Next h node act o) = from (same node n) refl (settled_own n k h)
  where
    from : (b : Bool) → same node n ≡ b → node_history (settled_for n k h) n ≡ settled k (node_history h n)
        → node_history (if b then settled_entry k h (settled_for n k h) node act o else Next (settled_for n k h) node act o) n ≡ settled k (cond b (Then (node_history h n) act o) (node_history h n))
    from true e r = own_settled k h (settled_for n k h) node act o n e r
    from false e r = other_entry (settled_for n k h) node act o n e ∙ r

-- the acts of another node

other_settled : (k : Bool) (h s : History) (node : Id) (act : Act) (o : Outcome) (m : Id) → same node m ≡ false → node_history s m ≡ node_history h m → node_history (settled_entry k h s node act o) m ≡ node_history h m
other_settled k h s node act (Disk was) m e r = other_entry h node act (Disk k) m e
other_settled k h s node act (Crashed was) m e r = other_entry h node act (Crashed k) m e
other_settled k h s node act (Answered reply) m e r = other_entry (if is_opening act then h else s) node act (Answered reply) m e ∙ from (is_opening act)
  where
    from : (b : Bool) → node_history (if b then h else s) m ≡ node_history h m
    from true = refl
    from false = r

pub settled_other : (n m : Id) (k : Bool) (h : History) → same n m ≡ false → node_history (settled_for n k h) m ≡ node_history h m
settled_other n m k NoEntries d = refl
settled_other n m k (Next h node act o) d = from (same node n) refl (settled_other n m k h d)
  where
    from : (b : Bool) → same node n ≡ b → node_history (settled_for n k h) m ≡ node_history h m
        → node_history (if b then settled_entry k h (settled_for n k h) node act o else Next (settled_for n k h) node act o) m ≡ node_history (Next h node act o) m
    from true e r =
        let other = subst (λ (x : Id). same x m ≡ false) (sym (same_is node n e)) d in
        other_settled k h (settled_for n k h) node act o m other r ∙ sym (other_entry h node act o m other)
    from false e r = ap (λ (g : NodeHistory). cond (same node m) (Then g act o) g) r

-- the messages

sent_settled : (k : Bool) (h s : History) (node : Id) (act : Act) (o : Outcome) → sent s ≡ sent h → sent (settled_entry k h s node act o) ≡ sent (Next h node act o)
sent_settled k h s node act (Disk was) r = refl
sent_settled k h s node act (Crashed was) r = refl
sent_settled k h s node act (Answered reply) r = from (is_opening act)
  where
    from : (b : Bool) → sent (Next (if b then h else s) node act (Answered reply)) ≡ sent (Next h node act (Answered reply))
    from true = refl
    from false = ap (λ (l : List Message). l ++ sent_by (Answered reply)) r

pub settled_sent : (n : Id) (k : Bool) (h : History) → sent (settled_for n k h) ≡ sent h
settled_sent n k NoEntries = refl
settled_sent n k (Next h node act o) = from (same node n) (settled_sent n k h)
  where
    from : (b : Bool) → sent (settled_for n k h) ≡ sent h → sent (if b then settled_entry k h (settled_for n k h) node act o else Next (settled_for n k h) node act o) ≡ sent (Next h node act o)
    from true r = sent_settled k h (settled_for n k h) node act o r
    from false r = ap (λ (l : List Message). l ++ sent_by o) r

-- each act is still sourced

sourced_next : (initial : List Id) (h s : History) (node : Id) (act : Act) (o p : Outcome) → sent s ≡ sent h → IsSourcedAll initial s → IsSourcedAll initial (Next h node act o) → IsSourcedAll initial (Next s node act p)
sourced_next initial h s node act o p e r f = (r, subst (λ (l : List Message). IsSourced initial l act) (sym e) f.1)

sourced_entry : (initial : List Id) (k : Bool) (h s : History) (node : Id) (act : Act) (o : Outcome) → sent s ≡ sent h → IsSourcedAll initial s → IsSourcedAll initial (Next h node act o) → IsSourcedAll initial (settled_entry k h s node act o)
sourced_entry initial k h s node act (Disk was) e r f = f
sourced_entry initial k h s node act (Crashed was) e r f = f
sourced_entry initial k h s node act (Answered reply) e r f = from (is_opening act)
  where
    from : (b : Bool) → IsSourcedAll initial (Next (if b then h else s) node act (Answered reply))
    from true = f
    from false = sourced_next initial h s node act (Answered reply) (Answered reply) e r f

pub settled_sourced : (initial : List Id) (n : Id) (k : Bool) (h : History) → IsSourcedAll initial h → IsSourcedAll initial (settled_for n k h)
settled_sourced initial n k NoEntries f = tt
settled_sourced initial n k (Next h node act o) f = from (same node n) (settled_sourced initial n k h f.0)
  where
    from : (b : Bool) → IsSourcedAll initial (settled_for n k h) → IsSourcedAll initial (if b then settled_entry k h (settled_for n k h) node act o else Next (settled_for n k h) node act o)
    from true r = sourced_entry initial k h (settled_for n k h) node act o (settled_sent n k h) r f
    from false r = sourced_next initial h (settled_for n k h) node act o o (settled_sent n k h) r f

-- where no act of the node was struck, nothing is set

-- a legal history stays legal
pub settled_legal : (initial : List Id) (h : History) (n : Id) (k : Bool) → IsLegal initial h → IsLegal initial (settled_for n k h)
settled_legal initial h n k l =
    let parts = (legal_is initial h).0 l in
    (legal_is initial (settled_for n k h)).1 ((λ m. from m (same n m) refl (parts.0 m)), settled_sourced initial n k h parts.1)
  where
    from : (m : Id) (b : Bool) → same n m ≡ b → IsLocal m (node_history h m) × BeginsEmpty (node_history h m) → IsLocal m (node_history (settled_for n k h) m) × BeginsEmpty (node_history (settled_for n k h) m)
    from m false e f = subst (λ (g : NodeHistory). IsLocal m g × BeginsEmpty g) (sym (settled_other n m k h e)) f
    from m true e f =
        let own = subst (λ (x : Id). node_history (settled_for n k h) x ≡ settled k (node_history h x)) (same_is n m e) (settled_own n k h) in
        subst (λ (g : NodeHistory). IsLocal m g × BeginsEmpty g) (sym own) (settled_local m k (node_history h m) f.0, settled_begins k (node_history h m) f.1)

-- and one that is legal then was legal before

sourced_before : (initial : List Id) (h s : History) (node : Id) (act : Act) (o p : Outcome) → sent s ≡ sent h → IsSourcedAll initial h → IsSourcedAll initial (Next s node act p) → IsSourcedAll initial (Next h node act o)
sourced_before initial h s node act o p e r f = sourced_next initial s h node act p o (sym e) r f

unsourced_entry : (initial : List Id) (k : Bool) (h s : History) (node : Id) (act : Act) (o : Outcome) → sent s ≡ sent h → (IsSourcedAll initial s → IsSourcedAll initial h) → IsSourcedAll initial (settled_entry k h s node act o) → IsSourcedAll initial (Next h node act o)
unsourced_entry initial k h s node act (Disk was) e r f = f
unsourced_entry initial k h s node act (Crashed was) e r f = f
unsourced_entry initial k h s node act (Answered reply) e r f = from (is_opening act) f
  where
    from : (b : Bool) → IsSourcedAll initial (Next (if b then h else s) node act (Answered reply)) → IsSourcedAll initial (Next h node act (Answered reply))
    from true f = f
    from false f = sourced_before initial h s node act (Answered reply) (Answered reply) e (r f.0) f

unsettled_sourced : (initial : List Id) (n : Id) (k : Bool) (h : History) → IsSourcedAll initial (settled_for n k h) → IsSourcedAll initial h
unsettled_sourced initial n k NoEntries f = tt
unsettled_sourced initial n k (Next h node act o) f = from (same node n) (λ g. unsettled_sourced initial n k h g) f
  where
    from : (b : Bool) → (IsSourcedAll initial (settled_for n k h) → IsSourcedAll initial h)
        → IsSourcedAll initial (if b then settled_entry k h (settled_for n k h) node act o else Next (settled_for n k h) node act o) → IsSourcedAll initial (Next h node act o)
    from true r f = unsourced_entry initial k h (settled_for n k h) node act o (settled_sent n k h) r f
    from false r f = sourced_before initial h (settled_for n k h) node act o o (settled_sent n k h) (r f.0) f

pub unsettled_legal : (initial : List Id) (h : History) (n : Id) (k : Bool) → IsLegal initial (settled_for n k h) → IsLegal initial h
unsettled_legal initial h n k l =
    let parts = (legal_is initial (settled_for n k h)).0 l in
    (legal_is initial h).1 ((λ m. from m (same n m) refl (parts.0 m)), unsettled_sourced initial n k h parts.1)
  where
    from : (m : Id) (b : Bool) → same n m ≡ b → IsLocal m (node_history (settled_for n k h) m) × BeginsEmpty (node_history (settled_for n k h) m) → IsLocal m (node_history h m) × BeginsEmpty (node_history h m)
    from m false e f = subst (λ (g : NodeHistory). IsLocal m g × BeginsEmpty g) (settled_other n m k h e) f
    from m true e f =
        let own = subst (λ (x : Id). node_history (settled_for n k h) x ≡ settled k (node_history h x)) (same_is n m e) (settled_own n k h) in
        let there : IsLocal m (settled k (node_history h m)) × BeginsEmpty (settled k (node_history h m)) = subst (λ (g : NodeHistory). IsLocal m g × BeginsEmpty g) own f in
        (unsettled_local m k (node_history h m) there.0, unsettled_begins k (node_history h m) there.1)
