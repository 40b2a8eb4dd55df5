-- The parent that a published state names.
use Rattle.std.proofs.Common.{◌≡◌, Some, List, refl, sym, subst, inl, inr}
use Rattle.std.specs.Prelude.{Contains}
use Rattle.voting_config.specs.Ids.{Id}
use Rattle.world_model.specs.Acts.{Act, Outcome, Taken, Answered, PublishMessage}
use Rattle.world_model.specs.Replies.{id_of, IsOutcome}
use Rattle.world_model.specs.Histories.{History, NoEntries, Next, node_history, IsLegal, IsPrefix}
use Rattle.world_model.specs.Safety.{Published, published, published_by}
use Rattle.world_model.proofs.Legal.{listed, one_of, none_of}
use Rattle.world_model.proofs.System.{origin}

legal_before : (initial : List Id) (p h : History) → IsLegal initial h → IsPrefix p h → IsLegal initial p
legal_before initial p NoEntries l i = subst (IsLegal initial) (sym i) l
legal_before initial p (Next h n a o) l (inl e) = subst (IsLegal initial) (sym e) l
legal_before initial p (Next h n a o) l (inr i) = legal_before initial p h l.0 i

named_by : (h : History) (n : Id) (a : Act) (o : Outcome) (p : Published) → IsOutcome n (node_history h n) a o → Contains (published_by h n o) p → p.state.parent ≡ Some (id_of p.parent)
named_by h n a (Answered (Taken (Some (PublishMessage r)) w)) p f c =
    subst (λ (x : Published). x.state.parent ≡ Some (id_of x.parent)) (one_of _ p c) (origin n (node_history h n) a (PublishMessage r) w f).parent_is
named_by h n a o p f c = none_of p c

pub parent_named : (initial : List Id) (h : History) → IsLegal initial h → (p : Published) → Contains (published h) p → p.state.parent ≡ Some (id_of p.parent)
parent_named initial h l p c =
    let at = listed published (λ q n a o. published_by q n o) refl (λ q n a o. refl) h p c in
    let may = (legal_before initial _ h l at.is_in).1 in
    named_by at.before at.node at.act at.outcome p may.follows.follows at.adds
