-- There is room for each vote and for each response.
use Rattle.std.proofs.Common.{◌≡◌, ◌≤◌, ◌<◌, Bool, true, false, cond, ◌||◌, ◌⊎◌, inl, inr, List, [], ◌∷◌, length, refl, sym, ap, subst, arith}
use Rattle.std.proofs.lemmas.Bool.{and_parts, and_from}
use Rattle.std.specs.List.{list_all}
use Rattle.std.specs.Cmp.Lexicographic.{same_text}
use Rattle.voting_config.specs.Ids.{Id, ascends, is_below, before, same, has, put, with_id, most_ids}
use Rattle.voting_config.proofs.Sorted.{length-put, ascends-with_id, ascends-put, is_below-before, before-not_same}
use Rattle.world_model.specs.declared.acts.Act.TheVariants.{Bootstrap, StartJoin, TakeJoin, Value, Publish, Response, Commit, Open}
use Rattle.world_model.specs.Acts.{NodeHistory, NoActs, Then, is_ok}
use Rattle.world_model.specs.declared.acts.Message.{Message}
use Rattle.world_model.specs.declared.acts.Message.TheVariants.{Join as JoinMessage, Publish as PublishMessage, Response as ResponseMessage, Commit as CommitMessage}
use Rattle.world_model.specs.NodeState.{NodeState, join_votes_of, publish_votes_of}
use Rattle.replay_node.specs.NodeWorld.{NodeWorld}
use Rattle.replay_node.specs.Sent.{source_of}
use Rattle.replay_node.specs.Stands.{NodeStands, SlotStands, HasRoom, HasRoomAt}
use Rattle.replay_node.specs.Takes.{TakesFrom}
use Rattle.replay_node.specs.declared.node.ReplayNode.{ReplayNode}
use Rattle.replay_node.specs.declared.node.Slot.{Slot}
use Rattle.replay_node.specs.declared.node.Slot.TheVariants.{Open as OpenSlot, Down}

abbrev subset : List Id → List Id → Bool
subset xs ys = list_all (λ x. has x ys) xs

below_in : (y x : Id) (ys : List Id) → is_below y ys ≡ true → has x ys ≡ true → before y x ≡ true
below_in y x [] b h = absurd (cc)
below_in y x (z ∷ zs) b h =
    let parts = and_parts _ _ b in
    elim (same z x) as (λ t. same z x ≡ t → (t || has x zs) ≡ true → before y x ≡ true) [
      | true ↦ λ e k. subst (λ (i : Id). before y i ≡ true) (same_text z x (sym e)) parts.0
      | false ↦ λ e k. below_in y x zs parts.1 k
    ] refl h

drop_head : (y : Id) (zs ys : List Id) → is_below y zs ≡ true → subset zs (y ∷ ys) ≡ true → subset zs ys ≡ true
drop_head y [] ys b s = refl
drop_head y (z ∷ zs) ys b s =
    let below = and_parts (before y z) (is_below y zs) b in
    let inside = and_parts (has z (y ∷ ys)) (subset zs (y ∷ ys)) s in
    let apart : same y z ≡ false = before-not_same z y below.0 in
    let rest : has z ys ≡ true = subst (λ (t : Bool). (t || has z ys) ≡ true) apart inside.0 in
    and_from (has z ys) (subset zs ys) rest (drop_head y zs ys below.1 inside.1)

pub length-subset : (xs ys : List Id) → ascends xs ≡ true → ascends ys ≡ true → subset xs ys ≡ true → length xs ≤ length ys
length-subset [] ys a b s = omega arith
length-subset (x ∷ xs) [] a b s = absurd (cc)
length-subset (x ∷ xs) (y ∷ ys) a b s =
    let up = and_parts (is_below x xs) (ascends xs) a in
    let vp = and_parts (is_below y ys) (ascends ys) b in
    let inside = and_parts (has x (y ∷ ys)) (subset xs (y ∷ ys)) s in
    elim (same y x) as (λ t. same y x ≡ t → (t || has x ys) ≡ true → length (x ∷ xs) ≤ length (y ∷ ys)) [
      | true ↦ λ e k.
          let is : y ≡ x = same_text y x (sym e) in
          let rest = length-subset xs ys up.1 vp.1 (drop_head y xs ys (subst (λ (i : Id). is_below i xs ≡ true) (sym is) up.0) inside.1) in
          omega arith
      | false ↦ λ e k.
          let less = below_in y x ys vp.0 k in
          let rest = length-subset (x ∷ xs) ys a vp.1 (and_from _ _ k (drop_head y xs ys (is_below-before y x xs less up.0) inside.1)) in
          omega arith
    ] refl inside.0

subset-put : (x : Id) (ys ids : List Id) → has x ids ≡ true → subset ys ids ≡ true → subset (put x ys) ids ≡ true
subset-put x [] ids h s = and_from _ _ h refl
subset-put x (y ∷ ys) ids h s =
    let parts = and_parts _ _ s in
    elim (before y x) as (λ b. subset (cond b (y ∷ put x ys) (x ∷ y ∷ ys)) ids ≡ true) [
      | true ↦ and_from _ _ parts.0 (subset-put x ys ids h parts.1)
      | false ↦ and_from _ _ h s
    ]

subset-with_id : (x : Id) (ys ids : List Id) → has x ids ≡ true → subset ys ids ≡ true → subset (with_id x ys) ids ≡ true
subset-with_id x ys ids h s = elim (has x ys) as (λ b. subset (cond b ys (put x ys)) ids ≡ true) [ true ↦ s | false ↦ subset-put x ys ids h s ]

record IsSound (ids votes : List Id) : Type 0 where
  ascending : ascends votes ≡ true
  inside : subset votes ids ≡ true

counted : (ids votes : List Id) (x : Id) (b : Bool) → has x ids ≡ true → IsSound ids votes → IsSound ids (cond b (with_id x votes) votes)
counted ids votes x true h sound = record { ascending = ascends-with_id x votes sound.ascending; inside = subset-with_id x votes ids h sound.inside }
counted ids votes x false h sound = sound

none_sound : (ids : List Id) → IsSound ids []
none_sound ids = record { ascending = refl; inside = refl }

emptied : (ids votes : List Id) (b : Bool) → IsSound ids votes → IsSound ids (cond b [] votes)
emptied ids votes true sound = none_sound ids
emptied ids votes false sound = sound

votes_sound : (ids : List Id) (g : NodeHistory) → TakesFrom ids g → IsSound ids (join_votes_of g)
votes_sound ids NoActs l = none_sound ids
votes_sound ids (Then g (StartJoin candidate term) o) l = emptied ids (join_votes_of g) (is_ok o) (votes_sound ids g l)
votes_sound ids (Then g (TakeJoin j) o) l = counted ids (join_votes_of g) j.source (is_ok o) l.1 (votes_sound ids g l.0)
votes_sound ids (Then g (Open found) o) l = none_sound ids
votes_sound ids (Then g (Bootstrap config) o) l = votes_sound ids g l
votes_sound ids (Then g (Value version config value) o) l = votes_sound ids g l
votes_sound ids (Then g (Publish request) o) l = votes_sound ids g l
votes_sound ids (Then g (Response response) o) l = votes_sound ids g l.0
votes_sound ids (Then g (Commit commit) o) l = votes_sound ids g l

acks_sound : (ids : List Id) (g : NodeHistory) → TakesFrom ids g → IsSound ids (publish_votes_of g)
acks_sound ids NoActs l = none_sound ids
acks_sound ids (Then g (StartJoin candidate term) o) l = emptied ids (publish_votes_of g) (is_ok o) (acks_sound ids g l)
acks_sound ids (Then g (TakeJoin j) o) l = acks_sound ids g l.0
acks_sound ids (Then g (Open found) o) l = none_sound ids
acks_sound ids (Then g (Bootstrap config) o) l = acks_sound ids g l
acks_sound ids (Then g (Value version config value) o) l = emptied ids (publish_votes_of g) (is_ok o) (acks_sound ids g l)
acks_sound ids (Then g (Publish request) o) l = acks_sound ids g l
acks_sound ids (Then g (Response response) o) l = counted ids (publish_votes_of g) response.source (is_ok o) l.1 (acks_sound ids g l.0)
acks_sound ids (Then g (Commit commit) o) l = acks_sound ids g l

-- a node of these is counted already, or there is room for it
room_in : (ids votes : List Id) (x : Id) → IsSound ids votes → has x ids ≡ true → length ids ≤ most_ids → ascends ids ≡ true → (has x votes ≡ true) ⊎ (length votes < most_ids)
room_in ids votes x sound h few a =
    elim (has x votes) as (λ b. has x votes ≡ b → (b ≡ true) ⊎ (length votes < most_ids)) [
      | true ↦ λ e. inl refl
      | false ↦ λ e.
          let more = length-subset (put x votes) ids (ascends-put x votes sound.ascending e) a (subset-put x votes ids h sound.inside) in
          inr (omega (arith, length-put x votes))
    ] refl

room_in_slot : (ids : List Id) (me : Id) (slot : Slot) (w : NodeWorld) (m : Message) → SlotStands me slot w → TakesFrom ids w.acts → has (source_of m) ids ≡ true → length ids ≤ most_ids → ascends ids ≡ true → HasRoomAt slot m
room_in_slot ids me (OpenSlot state) w (JoinMessage j) s l h few a =
    let votes : state.join_votes ≡ join_votes_of w.acts = ap (λ (p : NodeState). p.join_votes) s.acts in
    rw votes (room_in ids (join_votes_of w.acts) j.source (votes_sound ids w.acts l) h few a)
room_in_slot ids me (OpenSlot state) w (ResponseMessage r) s l h few a =
    let acks : state.publish_votes ≡ publish_votes_of w.acts = ap (λ (p : NodeState). p.publish_votes) s.acts in
    rw acks (room_in ids (publish_votes_of w.acts) r.source (acks_sound ids w.acts l) h few a)
room_in_slot ids me (OpenSlot state) w (PublishMessage r) s l h few a = tt
room_in_slot ids me (OpenSlot state) w (CommitMessage c) s l h few a = tt
room_in_slot ids me (Down fuse) w m s l h few a = tt

-- a node that took messages of these nodes alone has room for one more
pub has_room : (ids : List Id) (c : ReplayNode) (w : NodeWorld) (m : Message) → NodeStands c w → TakesFrom ids w.acts → has (source_of m) ids ≡ true → length ids ≤ most_ids → ascends ids ≡ true → HasRoom c m
has_room ids c w m s l h few a = room_in_slot ids c.me c.slot w m s.slot l h few a
