-- What a node published last, told by its deeds and told by its acts.
use Rattle.std.proofs.Common.{◌≡◌, List, [], ◌∷◌, Option, refl, ap, ◌∙◌}
use Rattle.cluster_state.specs.declared.state.ClusterState.{ClusterState}
use Rattle.world_model.specs.declared.acts.Act.{Act}
use Rattle.world_model.specs.declared.acts.Act.TheVariants.{Value}
use Rattle.world_model.specs.declared.acts.Outcome.{Outcome}
use Rattle.world_model.specs.Acts.{NodeHistory, Then}
use Rattle.trace_text.specs.Published.{last_published}
use Rattle.policy_model.specs.declared.events.Deed.TheVariants as deed
use Rattle.policy_model.specs.Events.{Item, Log, Opens, Begins, Acts, ChangesMode, Drops, Sends, Replies, Notes, And, acts_of, added}
use Rattle.policy_model.specs.Entries.{deeds_of}
use Rattle.event_text.specs.Published.{published_in, published_after}

-- one act
pub published_by_act : (g : NodeHistory) (act : Act) (o : Outcome) → published_in (last_published g) (deed.Act act o) ≡ last_published (Then g act o)
published_by_act g (Value version config value) o = refl
published_by_act g act o = refl

-- the deeds of some items say what the node published last after them
pub published_along : (l : Log) (is : List Item) → published_after (last_published (acts_of l)) (deeds_of is) ≡ last_published (acts_of (added l is))
published_along l [] = refl
published_along l (Acts act o ∷ is) =
    ap (λ (p : Option ClusterState). published_after p (deeds_of is)) (published_by_act (acts_of l) act o) ∙ published_along (And l (Acts act o)) is
published_along l (ChangesMode mode term ∷ is) = published_along (And l (ChangesMode mode term)) is
published_along l (Opens found ∷ is) = published_along (And l (Opens found)) is
published_along l (Begins event ∷ is) = published_along (And l (Begins event)) is
published_along l (Drops member cause ∷ is) = published_along (And l (Drops member cause)) is
published_along l (Sends frame ∷ is) = published_along (And l (Sends frame)) is
published_along l (Replies answer ∷ is) = published_along (And l (Replies answer)) is
published_along l (Notes note ∷ is) = published_along (And l (Notes note)) is
