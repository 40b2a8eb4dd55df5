-- Lists of ids and of peers, one item after another.
use Rattle.std.proofs.Common.{◌≡◌, ◌∙◌, refl, sym, ap, ℕ, suc, ◌+◌, ◌<◌, ◌≤◌, Bool, true, false, cond, not, ◌||◌, ◌&&◌, arith}
use Rattle.std.proofs.Common.{List, [], ◌∷◌, ◌++◌, length, map, fold, append_assoc, get_or, drop, Bor, Option, Some, None, option_and_then}
use Rattle.std.specs.Prelude.{◌==◌, nat_le, nat_lt}
use Rattle.std.specs.List.{list_all, list_any, position_or_len}
use Rattle.std.proofs.Math.Seq.{drop-cons}
use Rattle.std.proofs.Math.Bool.{or_comm, or-false}
use Rattle.std.proofs.lemmas.Bool.Decides.{nat_tests}
use Rattle.std.proofs.lemmas.List.{append-nil, length-append}
use Rattle.std.proofs.lemmas.List.Folds.{list_any-append, list_any_at}
use Rattle.std.proofs.lemmas.List.Sums.{passes_at_first}
use Rattle.voting_config.specs.Ids.{Id, same, has, put, with_id, is_id}
use Rattle.voting_config.proofs.Sorted.{has-with_id}
use Rattle.voting_config.proofs.Sets.{length-with_id-absent}
use Rattle.zen_link.specs.declared.link.Peer.{Peer}
use Rattle.zen_host.specs.HostCalls.{ToldPeer, told_peer}
use Rattle.command_line.specs.declared.command.WordsError.{WordsError}
use Rattle.command_line.specs.declared.command.WordsError.TheVariants.{Usage, Memory}
use Rattle.command_line.specs.Answers.{Fails}
use Rattle.command_line.specs.Given.{Text}
use Rattle.command_line.specs.Lists.{are_new, set_in, id_in, is_peer, peer_in, peer_of, peers_in, with_new_id, with_new_peer, ids_of, address_in, is_equals}
use Rattle.command_line.specs.Values.{id_of}

-- the list that is put together from these items, one after another, onto what was found
abbrev pub all_put : {X : Type 0} → (Text → List X → Option (List X)) → List Text → List X → Option (List X)
all_put put [] found = Some found
all_put put (t ∷ ts) found = option_and_then (λ more. all_put put ts more) (put t found)

abbrev texts : List (Bor Text) → List Text
texts = map (λ t. t.now)

-- one item on
pub item_step : {X : Type 0} (put : Text → List X → Option (List X)) (items : List (Bor Text)) (i : ℕ) (d : Bor Text) (found : List X) (o total : Option (List X))
    → i < length items → o ≡ put (get_or items i d).now found
    → all_put put (texts (drop i items)) found ≡ total → option_and_then (λ more. all_put put (texts (drop (i + 1) items)) more) o ≡ total
item_step put items i d found o total within is so_far =
    let next : i + 1 ≡ suc i = omega arith in
    let step : all_put put (texts (drop i items)) found ≡ option_and_then (λ more. all_put put (texts (drop (i + 1) items)) more) o = rw (drop-cons items i d within, is, next) refl in
    sym step ∙ so_far

-- a failure at an item is one of the whole
pub item_fails : {X : Type 0} (put : Text → List X → Option (List X)) (items : List (Bor Text)) (i : ℕ) (d : Bor Text) (found : List X) (total : Option (List X)) (e : WordsError)
    → i < length items → Fails e (put (get_or items i d).now found)
    → all_put put (texts (drop i items)) found ≡ total → Fails e total
item_fails put items i d found total Usage within h so_far = sym (item_step put items i d found None total within (sym h) so_far)
item_fails put items i d found total Memory within h so_far = tt

-- ---- ids

-- what was found has the ids at the start
record HasPrefix (found prefix : List Id) : Type 0 where
  members : (q : Id) → has q found ≡ has q prefix
  size : length found ≡ length prefix
  few : length prefix ≤ 64

has_push : (q x : Id) (prefix : List Id) → has q (prefix ++ x ∷ []) ≡ (has q prefix || same x q)
has_push q x prefix = list_any-append (λ y. same y q) prefix (x ∷ []) ∙ ap (λ (b : Bool). has q prefix || b) (or-false (same x q))

HasPrefix-with_id : (x : Id) (found prefix : List Id) → HasPrefix found prefix → has x found ≡ false → length found < 64 → HasPrefix (with_id x found) (prefix ++ x ∷ [])
HasPrefix-with_id x found prefix s new room = record {
  members = λ q. has-with_id q x found ∙ or_comm (same x q) (has q found) ∙ ap (λ (b : Bool). b || same x q) (s.members q) ∙ sym (has_push q x prefix);
  size = let longer = length-with_id-absent x found new in rw (longer, length-append, s.size) (omega arith);
  few = rw length-append (omega (arith, s.size));
}

abbrev onto : List Id → List Text → List Id
onto found ts = fold (λ set id. with_id id set) found ts

abbrev those : Bool → List Id → Option (List Id)
those b ids = cond b (Some ids) None

-- those that follow onto what was found, where there is something
abbrev followed : List Text → Option (List Id) → Option (List Id)
followed ts o = option_and_then (λ more. all_put with_new_id ts more) o

abbrev tried : List Text → List Id → Option Id → Option (List Id)
tried ts found o = followed ts (option_and_then (λ id. cond (has id found || length found == 64) None (Some (with_id id found))) o)

not_last : (a b : Bool) (ids : List Id) → None ≡ those (a && b && false) ids
not_last true true ids = refl
not_last true false ids = refl
not_last false b ids = refl

not_middle : (a c : Bool) (ids : List Id) → None ≡ those (a && false && c) ids
not_middle true c ids = refl
not_middle false c ids = refl

abbrev IsTold : List Text → List Id → List Id → Type 0
IsTold ts found prefix = HasPrefix found prefix → all_put with_new_id ts found ≡ those (list_all is_id ts && are_new prefix ts && nat_le (length prefix + length ts) 64) (onto found ts)

ids_told : (ts : List Text) (found prefix : List Id) → IsTold ts found prefix
ids_told [] found prefix s =
    let few : nat_le (length prefix + 0) 64 ≡ true = grind (arith, nat_tests, s.few) in
    rw few refl
ids_told (t ∷ ts) found prefix s =
    elim (is_id t) as (λ b. tried ts found (cond b (Some t) None)
    ≡ those ((b && list_all is_id ts) && (not (has t prefix) && are_new (prefix ++ t ∷ []) ts) && nat_le (length prefix + suc (length ts)) 64) (onto (with_id t found) ts)) [
      | false ↦ refl
      | true ↦ rw (← s.members t) (one (has t found) refl (λ h. ids_told ts (with_id t found) (prefix ++ t ∷ []) h))
    ]
  where
    room : (b : Bool) → has t found ≡ false → (length found == 64) ≡ b → IsTold ts (with_id t found) (prefix ++ t ∷ [])
        → followed ts (cond b None (Some (with_id t found)))
        ≡ those (list_all is_id ts && are_new (prefix ++ t ∷ []) ts && nat_le (length prefix + suc (length ts)) 64) (onto (with_id t found) ts)
    room true e f later =
        let full : length found ≡ 64 = grind (arith, nat_tests) in
        let many : nat_le (length prefix + suc (length ts)) 64 ≡ false = grind (arith, nat_tests, full, s.size) in
        rw many (not_last (list_all is_id ts) _ _)
    room false e f later =
        let fits : length found < 64 = grind (arith, nat_tests, s.size, s.few) in
        let longer : length (prefix ++ t ∷ []) + length ts ≡ length prefix + suc (length ts) = rw length-append (omega arith) in
        later (HasPrefix-with_id t found prefix s e fits) ∙ rw longer refl

    one : (b : Bool) → has t found ≡ b → IsTold ts (with_id t found) (prefix ++ t ∷ [])
        → followed ts (cond (b || length found == 64) None (Some (with_id t found)))
        ≡ those (list_all is_id ts && (not b && are_new (prefix ++ t ∷ []) ts) && nat_le (length prefix + suc (length ts)) 64) (onto (with_id t found) ts)
    one true e later = not_middle (list_all is_id ts) _ _
    one false e later = room (length found == 64) e refl later

pub all_ids : (ts : List Text) → all_put with_new_id ts [] ≡ set_in ts
all_ids ts =
    let none : 0 + length ts ≡ length ts = omega arith in
    ids_told ts [] [] (record { members = λ q. refl; size = refl; few = omega arith }) ∙ ap (λ (n : ℕ). those (list_all is_id ts && are_new [] ts && nat_le n 64) (onto [] ts)) none

-- ---- peers

ids_of-push : (found : List ToldPeer) (p : ToldPeer) → ids_of (found ++ p ∷ []) ≡ ids_of found ++ p.id ∷ []
ids_of-push [] p = refl
ids_of-push (q ∷ qs) p = ap (λ (ids : List Id). q.id ∷ ids) (ids_of-push qs p)

abbrev those_peers : Bool → List ToldPeer → Option (List ToldPeer)
those_peers b peers = cond b (Some peers) None

abbrev followed_peers : List Text → Option (List ToldPeer) → Option (List ToldPeer)
followed_peers ts o = option_and_then (λ more. all_put with_new_peer ts more) o

abbrev tried_peer : List Text → List ToldPeer → Option ToldPeer → Option (List ToldPeer)
tried_peer ts found o = followed_peers ts (option_and_then (λ peer. cond (has peer.id (ids_of found)) None (Some (found ++ peer ∷ []))) o)

not_right : (a : Bool) (peers : List ToldPeer) → None ≡ those_peers (a && false) peers
not_right true peers = refl
not_right false peers = refl

peers_told : (ts : List Text) (found : List ToldPeer) → all_put with_new_peer ts found ≡ those_peers (list_all is_peer ts && are_new (ids_of found) (map id_in ts)) (found ++ map peer_in ts)
peers_told [] found = ap (λ (l : List ToldPeer). let o : Option (List ToldPeer) = Some l in o) (sym (append-nil found))
peers_told (t ∷ ts) found =
    elim (is_peer t) as (λ b. tried_peer ts found (cond b (Some (peer_in t)) None)
    ≡ those_peers ((b && list_all is_peer ts) && (not (has (id_in t) (ids_of found)) && are_new (ids_of found ++ id_in t ∷ []) (map id_in ts))) (found ++ peer_in t ∷ map peer_in ts)) [
      | false ↦ refl
      | true ↦ one (has (id_in t) (ids_of found)) (peers_told ts (found ++ peer_in t ∷ []))
    ]
  where
    one : (b : Bool)
        → all_put with_new_peer ts (found ++ peer_in t ∷ []) ≡ those_peers (list_all is_peer ts && are_new (ids_of (found ++ peer_in t ∷ [])) (map id_in ts)) ((found ++ peer_in t ∷ []) ++ map peer_in ts)
        → followed_peers ts (cond b None (Some (found ++ peer_in t ∷ [])))
        ≡ those_peers (list_all is_peer ts && (not b && are_new (ids_of found ++ id_in t ∷ []) (map id_in ts))) (found ++ peer_in t ∷ map peer_in ts)
    one true later = not_right (list_all is_peer ts) _
    one false later = later ∙ rw (ids_of-push found (peer_in t), append_assoc found (peer_in t ∷ []) (map peer_in ts)) refl

pub all_peers : (ts : List Text) → all_put with_new_peer ts [] ≡ peers_in ts
all_peers ts = peers_told ts []

has_told : (id : Id) (peers : List Peer) → list_any (λ p. same p.id id) peers ≡ has id (ids_of (map told_peer peers))
has_told id [] = refl
has_told id (p ∷ ps) = ap (λ (b : Bool). same p.id id || b) (has_told id ps)

told_push : (peers : List Peer) (p : Peer) → map told_peer (peers ++ p ∷ []) ≡ map told_peer peers ++ told_peer p ∷ []
told_push [] p = refl
told_push (q ∷ qs) p = ap (λ (ps : List ToldPeer). told_peer q ∷ ps) (told_push qs p)

-- an item that is this peer, onto peers that have its id or don't
pub with_told : (item : Text) (peers : List Peer) (p : Peer) (b : Bool)
    → peer_of item ≡ Some (told_peer p) → list_any (λ q. same q.id p.id) peers ≡ b → with_new_peer item (map told_peer peers) ≡ cond b None (Some (map told_peer (peers ++ p ∷ [])))
with_told item peers p b is has_id =
    ap (λ (o : Option ToldPeer). option_and_then (λ peer. cond (has peer.id (ids_of (map told_peer peers))) None (Some (map told_peer peers ++ peer ∷ []))) o) is
    ∙ rw (← has_told p.id peers, has_id, told_push peers p) refl

known : (b : Bool) (t id : Id) → cond b (Some t) None ≡ Some id → (b ≡ true) × (t ≡ id)
known true t id e = (refl, cc)
known false t id e = cc

not_empty : (t : Text) → (length t == 0) ≡ false → nat_lt 0 (length t) ≡ true
not_empty [] e = sym e
not_empty (b ∷ bs) e = grind (arith, nat_tests)

all_three : (a b c : Bool) → a ≡ true → b ≡ true → c ≡ true → (a && b && c) ≡ true
all_three a b c x y z = rw (x, y, z) refl

-- an item with an equals sign, an id before it and something behind it
pub peer_split : (item name address told : Text) (id : Id)
    → (position_or_len is_equals item < length item) × (name ≡ id_in item) × (address ≡ address_in item) → id_of name ≡ Some id → (length address == 0) ≡ false → told ≡ address
    → peer_of item ≡ Some (record { id = id; address = told })
peer_split item name address told id (within, before, behind) is full same_text =
    let named : (is_id name ≡ true) × (name ≡ id) = known (is_id name) name id is in
    let a : list_any is_equals item ≡ true = list_any_at is_equals item (position_or_len is_equals item) 0 within (passes_at_first is_equals item 0 within) in
    let b : is_id (id_in item) ≡ true = ap is_id (sym before) ∙ named.0 in
    let c : nat_lt 0 (length (address_in item)) ≡ true = ap (λ (t : Text). nat_lt 0 (length t)) (sym behind) ∙ not_empty address full in
    let first : id_in item ≡ id = sym before ∙ named.1 in
    let second : address_in item ≡ told = sym behind ∙ sym same_text in
    ap (λ (b : Bool). let o : Option ToldPeer = cond b (Some (peer_in item)) None in o) (all_three _ _ _ a b c)
    ∙ (λ i. Some (record { id = first i; address = second i }))
