-- One node moves, the others stay.
use Rattle.std.proofs.Common.{◌≡◌, ℕ, zero, suc, ◌<◌, true, Some, List, [], ◌∷◌, length, ◌++◌, refl, sym, ◌∙◌, ap, subst, arith, slice_get, slice_set, get_or, take, drop}
use Rattle.std.proofs.lemmas.List.{length-set, take_at}
use Rattle.std.proofs.lemmas.Option.{slice_get-get_or, slice_get_within}
use Rattle.std.proofs.lemmas.Bool.{and_parts}
use Rattle.voting_config.specs.Ids.{Id, ascends, is_below, before, most_ids}
use Rattle.voting_config.proofs.Sorted.{before-not_same}
use Rattle.voting_config.proofs.Sets.{same_flipped}
use Rattle.world_model.specs.declared.acts.Act.{Act}
use Rattle.replay_node.specs.Did.{outcome_of, did_text, outcome_unless_down, after_unless_down, act_results}
use Rattle.replay_node.specs.NodeWorld.{NodeWorld}
use Rattle.replay_node.specs.Stands.{NodeStands, NodeDoes, NodeDid}
use Rattle.replay_node.specs.declared.did.Did.{Did}
use Rattle.world_model.specs.declared.acts.Message.{Message}
use Rattle.replay_node.specs.declared.node.ReplayNode.{ReplayNode}
use Rattle.replay_node.specs.Worlds.{World, node_world, did_unless_down}
use Rattle.replay_node.proofs.Moves.{NodeMoves, moves_did_unless_down}
use Rattle.schedule_replay.specs.WorldStands.{ActDone, AllStand, Stands}
use Rattle.schedule_replay.proofs.Fresh.{as_many}
use Rattle.trace_text.specs.Trace.{act_text}

-- the nodes with an id above n stay
all_stay : (ids : List Id) (cs : List ReplayNode) (n : Id) (w : World) (x : NodeWorld) (v : World) → NodeMoves n w x v → is_below n ids ≡ true → AllStand ids cs w → AllStand ids cs v
all_stay [] [] n w x v moves e s = s
all_stay [] (c ∷ cs) n w x v moves e s = s
all_stay (i ∷ is) [] n w x v moves e s = s
all_stay (i ∷ is) (c ∷ cs) n w x v moves e s =
    let parts = and_parts _ _ e in
    (s.0, subst (λ (y : NodeWorld). NodeStands c y) (sym (moves.others i (before-not_same i n parts.0))) s.1, all_stay is cs n w x v moves parts.1 s.2)

-- an id that stands at a place is above all ids that the first is above
pub below_at : (i : Id) (is : List Id) (place : ℕ) (n : Id) → is_below i is ≡ true → slice_get is place ≡ Some n → before i n ≡ true
below_at i [] place n e g = absurd (cc)
below_at i (x ∷ xs) zero n e g = let parts = and_parts (before i x) (is_below i xs) e in let same_x : x ≡ n = cc in subst (λ (y : Id). before i y ≡ true) same_x parts.0
below_at i (x ∷ xs) (suc k) n e g = let parts = and_parts _ _ e in below_at i xs k n parts.1 g

-- the node at a place is the one of the id there
node_at : (ids : List Id) (old : List ReplayNode) (w : World) (n : Id) (place : ℕ) (c : ReplayNode) → slice_get ids place ≡ Some n → slice_get old place ≡ Some c → AllStand ids old w → (c.me ≡ n) × NodeStands c (node_world w n)
node_at [] old w n place c g e s = absurd (cc)
node_at (i ∷ is) [] w n place c g e s = absurd s
node_at (i ∷ is) (d ∷ ds) w n zero c g e s =
    let here : d ≡ c = cc in
    let id_here : i ≡ n = cc in
    (subst (λ (x : ReplayNode). x.me ≡ n) here (s.0 ∙ id_here), subst (λ (x : ReplayNode). NodeStands x (node_world w n)) here (subst (λ (x : Id). NodeStands d (node_world w x)) id_here s.1))
node_at (i ∷ is) (d ∷ ds) w n (suc k) c g e s = node_at is ds w n k c g e s.2

-- where the node at a place has moved, all stand
all_after : (ids : List Id) (old : List ReplayNode) (w : World) (n : Id) (place : ℕ) (c : ReplayNode) (x : NodeWorld) (v : World) → ascends ids ≡ true → slice_get ids place ≡ Some n → c.me ≡ n → NodeMoves n w x v → NodeStands c x → AllStand ids old w → AllStand ids (slice_set old place c) v
all_after [] old w n place c x v a g m moves d s = absurd (cc)
all_after (i ∷ is) [] w n place c x v a g m moves d s = absurd s
all_after (i ∷ is) (y ∷ ys) w n zero c x v a g m moves d s =
    let id_here : i ≡ n = cc in
    let parts = and_parts (is_below i is) (ascends is) a in (
      m ∙ sym id_here,
      subst (λ (j : Id). NodeStands c (node_world v j)) (sym id_here) (subst (λ (z : NodeWorld). NodeStands c z) (sym moves.own) d),
      all_stay is ys n w x v moves (subst (λ (j : Id). is_below j is ≡ true) id_here parts.0) s.2,
    )
all_after (i ∷ is) (y ∷ ys) w n (suc k) c x v a g m moves d s =
    let parts = and_parts _ _ a in
    let less = below_at i is k n parts.0 g in
    (s.0, subst (λ (z : NodeWorld). NodeStands y z) (sym (moves.others i (same_flipped n i ∙ before-not_same n i less))) s.1, all_after is ys w n k c x v parts.1 g m moves d s.2)

-- ---- the same in the words of a method, which looks the place up in the nodes that a vector lends it

pub record Looked (ids l : List Id) (items lent : List ReplayNode) (messages : List Message) (n : Id) (place len : ℕ) : Type 0 where
  pub is : l ≡ ids
  pub found : slice_get l place ≡ Some n
  pub lent_is : lent ≡ items
  pub long : length lent ≡ len
  pub stands : (w : World) × Stands ids items messages w

-- what a vector holds after a write of its elements as a slice
pub refilled : {A : Type 0} (new old : List A) (len : ℕ) → length new ≡ length old → length old ≡ len → take len (new ++ drop (length new) old) ≡ new
refilled new old len same_length is = rw (← is, ← same_length) (take_at new (drop (length new) old) (length new) refl)

module _ (ids l : List Id) (items lent : List ReplayNode) (messages : List Message) (n : Id) (place len : ℕ) (looked : Looked ids l items lent messages n place len) where
  place_is : slice_get ids place ≡ Some n
  place_is = subst (λ (x : List Id). slice_get x place ≡ Some n) looked.is looked.found

  place_below : place < length ids
  place_below = slice_get_within _ _ _ place_is

  pub place_inside : place < length lent
  place_inside =
      let many : length lent ≡ length ids = ap (λ (x : List ReplayNode). length x) looked.lent_is ∙ as_many ids items looked.stands.0 looked.stands.1.nodes_stand in
      omega (arith, place_below)

  pub place_few : place < most_ids
  place_few = omega (arith, place_below, looked.stands.1.few)

  -- what the vector holds after the loan
  pub returned : (d : ReplayNode) → take len (slice_set lent place d ++ drop (length (slice_set lent place d)) items) ≡ slice_set items place d
  returned d =
      let long : length items ≡ len = subst (λ (x : List ReplayNode). length x ≡ len) looked.lent_is looked.long in
      subst (λ (x : List ReplayNode). take len (slice_set x place d ++ drop (length (slice_set x place d)) items) ≡ slice_set items place d) (sym looked.lent_is)
      (refilled (slice_set items place d) items len (length-set items place d) long)

  -- the node stands there
  pub here : (c : ReplayNode) (w : World) → AllStand ids items w → ((get_or lent place c).me ≡ n) × NodeStands (get_or lent place c) (node_world w n)
  here c w s = node_at ids lent w n place (get_or lent place c) place_is (slice_get-get_or lent place c place_inside) (subst (λ (x : List ReplayNode). AllStand ids x w) (sym looked.lent_is) s)

  -- and where it has moved, all stand
  pub after_here : (c d : ReplayNode) (w : World) (x : NodeWorld) (v : World) → d.me ≡ (get_or lent place c).me → NodeMoves n w x v → NodeStands d x → AllStand ids items w → AllStand ids (slice_set items place d) v
  after_here c d w x v me moves stands s = all_after ids items w n place d x v looked.stands.1.ascending place_is (me ∙ (here c w s).0) moves stands s

  -- an act
  pub does_here : (c d : ReplayNode) (w : World) (act : Act) (o : Did) → NodeDoes (get_or lent place c) d act o → AllStand ids items w → ActDone ids (slice_set items place d) w n act o
  does_here c d w act o step s =
      let at = here c w s in
      let done : NodeDid (get_or lent place c) d (node_world w n) act o = step.does (node_world w n) at.1 in
      record {
        outcome = subst (λ (m : Id). outcome_of o ≡ outcome_unless_down m (node_world w n) act) at.0 done.outcome;
        stand = after_here c d w (after_unless_down n (node_world w n) act) (did_unless_down w n act) step.me (moves_did_unless_down n act w)
            (subst (λ (m : Id). NodeStands d (after_unless_down m (node_world w n) act)) at.0 done.stands) s;
        text = λ count. subst (λ (m : Id). act_results count m (node_world w n) act ≡ did_text count m (act_text act) o) at.0 (done.text count);
      }
