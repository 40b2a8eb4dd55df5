-- A history is legal where each node acts as it may by itself, and each message is sent before it is taken.
use Rattle.std.proofs.Common.{◌≡◌, ◌↔◌, Bool, true, false, cond, List, refl, subst}
use Rattle.voting_config.specs.Ids.{Id, same}
use Rattle.world_model.specs.Acts.{Act, Outcome, NodeHistory, Bootstrap, Open, NoActs, Then, is_opening}
use Rattle.world_model.specs.Histories.{History, NoEntries, Next, node_history, Continues, ContinuesUnlessFirst, IsLocal, MayHappen, IsLegal}
use Rattle.world_model.specs.Local.{BeginsEmpty, IsSourcedAll}
use Rattle.voting_config.proofs.Sets.{same_is}
use Rattle.world_model.proofs.Legal.{own_deeds}

-- an opening continues what the node keeps, also where it is the first act
not_first : (g : NodeHistory) (a : Act) (o : Outcome) → ContinuesUnlessFirst g a → BeginsEmpty (Then g a o) → Continues g a
not_first NoActs (Open found) o c b = b
not_first NoActs (Bootstrap config) o c b = tt
not_first NoActs a o c b = tt
not_first (Then g d u) a o c b = c

pub goes_on_always : (g : NodeHistory) (a : Act) → is_opening a ≡ false → ContinuesUnlessFirst g a
goes_on_always NoActs a c = tt
goes_on_always (Then g d u) (Open found) c = cc
goes_on_always (Then g d u) a c = tt

unless_first : (g : NodeHistory) (a : Act) → Continues g a → ContinuesUnlessFirst g a
unless_first NoActs a c = tt
unless_first (Then g d u) a c = c

begins_more : (g : NodeHistory) (a : Act) (o : Outcome) → Continues g a → BeginsEmpty g → BeginsEmpty (Then g a o)
begins_more NoActs (Open found) o c b = c
begins_more NoActs a o c b = tt
begins_more (Then g d u) a o c b = b

pub begins_less : (g : NodeHistory) (a : Act) (o : Outcome) → BeginsEmpty (Then g a o) → BeginsEmpty g
begins_less NoActs a o b = tt
begins_less (Then g d u) a o b = b

-- a node's acts in a legal history
alone : (initial : List Id) (h : History) → IsLegal initial h → (n : Id) → IsLocal n (node_history h n) × BeginsEmpty (node_history h n)
alone initial NoEntries l n = (tt, tt)
alone initial (Next h m a o) l n = from (same m n) refl (alone initial h l.0 n)
  where
    from : (b : Bool) → same m n ≡ b → IsLocal n (node_history h n) × BeginsEmpty (node_history h n)
        → IsLocal n (cond b (Then (node_history h n) a o) (node_history h n)) × BeginsEmpty (cond b (Then (node_history h n) a o) (node_history h n))
    from false e k = k
    from true e k =
        let may = subst (λ (x : Id). MayHappen initial h x a o) (same_is m n e) l.1 in
        ((k.0, may.follows, unless_first (node_history h n) a may.continues), begins_more (node_history h n) a o may.continues k.1)

sourced_all : (initial : List Id) (h : History) → IsLegal initial h → IsSourcedAll initial h
sourced_all initial NoEntries l = tt
sourced_all initial (Next h m a o) l = (sourced_all initial h l.0, l.1.sourced)

-- the acts of all nodes before the last act
alone_before : (h : History) (m : Id) (a : Act) (o : Outcome) → ((n : Id) → IsLocal n (node_history (Next h m a o) n) × BeginsEmpty (node_history (Next h m a o) n)) → (n : Id) → IsLocal n (node_history h n) × BeginsEmpty (node_history h n)
alone_before h m a o k n = from (same m n) (k n)
  where
    from : (b : Bool) → IsLocal n (cond b (Then (node_history h n) a o) (node_history h n)) × BeginsEmpty (cond b (Then (node_history h n) a o) (node_history h n)) → IsLocal n (node_history h n) × BeginsEmpty (node_history h n)
    from false k = k
    from true k = (k.0.0, begins_less (node_history h n) a o k.1)

pub assembled : (initial : List Id) (h : History) → ((n : Id) → IsLocal n (node_history h n) × BeginsEmpty (node_history h n)) → IsSourcedAll initial h → IsLegal initial h
assembled initial NoEntries k s = tt
assembled initial (Next h m a o) k s =
    let last = subst (λ (g : NodeHistory). IsLocal m g × BeginsEmpty g) (own_deeds h m a o) (k m) in (
      assembled initial h (alone_before h m a o k) s.0,
      record { follows = last.0.1; continues = not_first (node_history h m) a o last.0.2 last.1; sourced = s.1 },
    )

pub legal_is : (initial : List Id) (h : History) → IsLegal initial h ↔ (((n : Id) → IsLocal n (node_history h n) × BeginsEmpty (node_history h n)) × IsSourcedAll initial h)
legal_is initial h = ((λ l. (alone initial h l, sourced_all initial h l)), (λ k. assembled initial h k.0 k.1))
