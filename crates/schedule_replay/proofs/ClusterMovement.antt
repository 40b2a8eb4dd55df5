-- One node moves where its id stands, the others stay.
use Rattle.std.proofs.Common.{◌≡◌, ℕ, Bool, zero, suc, ◌<◌, true, false, Some, List, [], ◌∷◌, length, ◌++◌, refl, sym, ◌∙◌, ap, subst, arith, slice_get, slice_set, get_or, take, drop, ◌+◌}
use Rattle.std.proofs.lemmas.Option.{slice_get-get_or, slice_get_within}
use Rattle.std.proofs.lemmas.Bool.{and_parts}
use Rattle.std.proofs.lemmas.List.{length-set, take_more}
use Rattle.voting_config.specs.Ids.{Id, ascends, is_below}
use Rattle.voting_config.proofs.Sorted.{before-not_same}
use Rattle.voting_config.proofs.Sets.{same_flipped}
use Rattle.wire_frames.specs.declared.frame.Frame.{Frame}
use Rattle.replay_node.specs.Clusters.{Cluster, settings_of}
use Rattle.schedule_replay.specs.ClusterStands.{AllFor, ClusterFor, GoesOn}
use Rattle.schedule_replay.specs.OwnStands.{NodeFor}
use Rattle.schedule_replay.specs.Own.{Own, own_in}
use Rattle.schedule_replay.specs.declared.cluster.node.ClusterNode.{ClusterNode}
use Rattle.schedule_replay.proofs.Movement.{below_at, refilled}

-- there are as many nodes as ids
pub as_many : (nodes initial voting_only : List Id) (second : Bool) (ids : List Id) (xs : List ClusterNode) (c : Cluster) → AllFor nodes initial voting_only second ids xs c → length xs ≡ length ids
as_many nodes initial voting_only second [] [] c s = refl
as_many nodes initial voting_only second [] (x ∷ xs) c s = absurd s
as_many nodes initial voting_only second (i ∷ is) [] c s = absurd s
as_many nodes initial voting_only second (i ∷ is) (x ∷ xs) c s = ap (λ (k : ℕ). suc k) (as_many nodes initial voting_only second is xs c s.1)

module _ (nodes initial voting_only : List Id) (second : Bool) (n : Id) (c : Cluster) (own : Own) (later : Cluster) (goes : GoesOn n c own later) where
  -- the nodes with an id above n stay
  all_stay : (ids : List Id) (xs : List ClusterNode) → is_below n ids ≡ true → AllFor nodes initial voting_only second ids xs c → AllFor nodes initial voting_only second ids xs later
  all_stay [] [] e s = s
  all_stay [] (x ∷ xs) e s = s
  all_stay (i ∷ is) [] e s = s
  all_stay (i ∷ is) (x ∷ xs) e s =
      let parts = and_parts _ _ e in
      (subst (λ (o : Own). NodeFor (settings_of nodes initial voting_only second i) x o false) (sym (goes.others i (before-not_same i n parts.0))) s.0, all_stay is xs parts.1 s.1)

  -- where the node at a place has moved, all stand
  all_after : (ids : List Id) (old : List ClusterNode) (place : ℕ) (d : ClusterNode) → ascends ids ≡ true → slice_get ids place ≡ Some n → NodeFor (settings_of nodes initial voting_only second n) d own false → AllFor nodes initial voting_only second ids old c
      → AllFor nodes initial voting_only second ids (slice_set old place d) later
  all_after [] old place d a g moved s = absurd (cc)
  all_after (i ∷ is) [] place d a g moved s = absurd s
  all_after (i ∷ is) (y ∷ ys) zero d a g moved s =
      let id_here : i ≡ n = cc in
      let parts = and_parts (is_below i is) (ascends is) a in (
        subst (λ (j : Id). NodeFor (settings_of nodes initial voting_only second j) d (own_in later j) false) (sym id_here) (subst (λ (o : Own). NodeFor (settings_of nodes initial voting_only second n) d o false) (sym goes.own_is) moved),
        all_stay is ys (subst (λ (j : Id). is_below j is ≡ true) id_here parts.0) s.1,
      )
  all_after (i ∷ is) (y ∷ ys) (suc k) d a g moved s =
      let parts = and_parts _ _ a in
      let less = below_at i is k n parts.0 g in
      (subst (λ (o : Own). NodeFor (settings_of nodes initial voting_only second i) y o false) (sym (goes.others i (same_flipped n i ∙ before-not_same n i less))) s.0, all_after is ys k d parts.1 g moved s.1)

-- the node at a place is the one of the id there
node_at : (nodes initial voting_only : List Id) (second : Bool) (ids : List Id) (old : List ClusterNode) (c : Cluster) (n : Id) (place : ℕ) (x : ClusterNode) → slice_get ids place ≡ Some n → slice_get old place ≡ Some x → AllFor nodes initial voting_only second ids old c → NodeFor (settings_of nodes initial voting_only second n) x (own_in c n) false
node_at nodes initial voting_only second [] old c n place x g e s = absurd (cc)
node_at nodes initial voting_only second (i ∷ is) [] c n place x g e s = absurd s
node_at nodes initial voting_only second (i ∷ is) (y ∷ ys) c n zero x g e s =
    let here : y ≡ x = cc in
    let id_here : i ≡ n = cc in
    subst (λ (z : ClusterNode). NodeFor (settings_of nodes initial voting_only second n) z (own_in c n) false) here (subst (λ (j : Id). NodeFor (settings_of nodes initial voting_only second j) y (own_in c j) false) id_here s.0)
node_at nodes initial voting_only second (i ∷ is) (y ∷ ys) c n (suc k) x g e s = node_at nodes initial voting_only second is ys c n k x g e s.1

-- ---- the same in the words of a method, which looks the place up in the nodes that a vector lends it

pub record Looked (ids initial voting_only : List Id) (second : Bool) (l : List Id) (items lent : List ClusterNode) (frames : List Frame) (n : Id) (place len : ℕ) : Type 0 where
  pub is : l ≡ ids
  pub found : slice_get l place ≡ Some n
  pub lent_is : lent ≡ items
  pub long : length lent ≡ len
  pub stands : (c : Cluster) × ClusterFor ids initial voting_only second items frames c

module _ (ids initial voting_only : List Id) (second : Bool) (l : List Id) (items lent : List ClusterNode) (frames : List Frame) (n : Id) (place len : ℕ) (looked : Looked ids initial voting_only second l items lent frames n place len) where
  place_is : slice_get ids place ≡ Some n
  place_is = subst (λ (x : List Id). slice_get x place ≡ Some n) looked.is looked.found

  pub place_inside : place < length lent
  place_inside =
      let inside : place < length ids = slice_get_within _ _ _ place_is in
      let many : length lent ≡ length ids = ap (λ (x : List ClusterNode). length x) looked.lent_is ∙ as_many ids initial voting_only second ids items looked.stands.0 looked.stands.1.stand in
      omega (arith, inside)

  -- what the vector holds after the loan
  pub returned : (d : ClusterNode) → take len (slice_set lent place d ++ drop (length (slice_set lent place d)) items) ≡ slice_set items place d
  returned d =
      let long : length items ≡ len = subst (λ (x : List ClusterNode). length x ≡ len) looked.lent_is looked.long in
      subst (λ (x : List ClusterNode). take len (slice_set x place d ++ drop (length (slice_set x place d)) items) ≡ slice_set items place d) (sym looked.lent_is)
      (refilled (slice_set items place d) items len (length-set items place d) long)

  -- the node stands there
  pub here : (x : ClusterNode) (c : Cluster) → AllFor ids initial voting_only second ids items c → NodeFor (settings_of ids initial voting_only second n) (get_or lent place x) (own_in c n) false
  here x c s = node_at ids initial voting_only second ids lent c n place (get_or lent place x) place_is (slice_get-get_or lent place x place_inside) (subst (λ (y : List ClusterNode). AllFor ids initial voting_only second ids y c) (sym looked.lent_is) s)

  -- and where it has moved, all stand
  pub after_here : (d : ClusterNode) (c : Cluster) (own : Own) (later : Cluster) → GoesOn n c own later → NodeFor (settings_of ids initial voting_only second n) d own false → AllFor ids initial voting_only second ids items c → AllFor ids initial voting_only second ids (slice_set items place d) later
  after_here d c own later goes stands s = all_after ids initial voting_only second n c own later goes ids items place d looked.stands.1.ascending place_is stands s

-- ---- new nodes

stand_more : (nodes initial voting_only : List Id) (second : Bool) (ids : List Id) (xs : List ClusterNode) (i : Id) (x : ClusterNode) (c : Cluster) → AllFor nodes initial voting_only second ids xs c → NodeFor (settings_of nodes initial voting_only second i) x (own_in c i) false → AllFor nodes initial voting_only second (ids ++ i ∷ []) (xs ++ x ∷ []) c
stand_more nodes initial voting_only second [] [] i x c s n = (n, tt)
stand_more nodes initial voting_only second [] (y ∷ ys) i x c s n = absurd s
stand_more nodes initial voting_only second (j ∷ js) [] i x c s n = absurd s
stand_more nodes initial voting_only second (j ∷ js) (y ∷ ys) i x c s n = (s.0, stand_more nodes initial voting_only second js ys i x c s.1 n)

pub one_more : (nodes initial voting_only : List Id) (second : Bool) (ids : List Id) (place : ℕ) (i : Id) (xs more : List ClusterNode) (x : ClusterNode) (c : Cluster) → place < length ids → i ≡ get_or ids place i → AllFor nodes initial voting_only second (take place ids) xs c → more ≡ xs ++ x ∷ []
    → NodeFor (settings_of nodes initial voting_only second i) x (own_in c i) false → AllFor nodes initial voting_only second (take (place + 1) ids) more c
one_more nodes initial voting_only second ids place i xs more x c within at s is stands =
    let longer : take (place + 1) ids ≡ take place ids ++ i ∷ [] = take_more ids place i within ∙ ap (λ (y : Id). take place ids ++ y ∷ []) (sym at) in
    rw (longer, is) (stand_more nodes initial voting_only second (take place ids) xs i x c s stands)
