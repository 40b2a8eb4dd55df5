-- Part of the statement: lists by commas: of ids, and of peers.
use Rattle.std.specs.Prelude.{ℕ, ◌==◌, ◌&&◌, ◌||◌, Bool, true, not, if◌then◌else◌, List, [], ◌∷◌, ◌++◌, length, map, nat_le, nat_lt, Option, Some, None}
use Rattle.std.specs.List.{list_all, list_any, before_first, after_first}
use Rattle.voting_config.specs.Ids.{Id, is_id, has, most_ids, set_of, with_id}
use Rattle.voting_config.specs.Lists.{items_of}
use Rattle.zen_host.specs.HostCalls.{ToldPeer}
use Rattle.command_line.specs.Given.{Text}
use Rattle.command_line.specs.Values.{◌>>=◌, id_of}

-- none of them is one of those before it
abbrev pub are_new : List Id → List Id → Bool
are_new before [] = true
are_new before (x ∷ xs) = not (has x before) && are_new (before ++ x ∷ []) xs

-- ---- ids

-- distinct ids, no more than a set holds
abbrev pub are_set_ids : List Text → Bool
are_set_ids items = list_all is_id items && are_new [] items && nat_le (length items) most_ids

abbrev pub set_in : List Text → Option (List Id)
set_in items = if are_set_ids items then Some (set_of items) else None

-- the ids by commas, as a set; `_` is none
abbrev pub initial_of : Text → Option (List Id)
initial_of t = set_in (items_of t)

-- the same, but not none
abbrev pub some_of : List Id → Option (List Id)
some_of [] = None
some_of (x ∷ xs) = Some (x ∷ xs)

abbrev pub up_of : Text → Option (List Id)
up_of t = initial_of t >>= some_of

-- ---- peers

abbrev pub is_equals : ℕ → Bool
is_equals b = b == 61

-- what stands before the first `=`, and what stands after it
abbrev pub id_in : Text → Id
id_in item = before_first is_equals item

abbrev pub address_in : Text → Text
address_in item = after_first is_equals item

-- `id=address`, the address not empty
abbrev pub is_peer : Text → Bool
is_peer item = list_any is_equals item && is_id (id_in item) && nat_lt 0 (length (address_in item))

abbrev pub peer_in : Text → ToldPeer
peer_in item = record { id = id_in item; address = address_in item }

abbrev pub peer_of : Text → Option ToldPeer
peer_of item = if is_peer item then Some (peer_in item) else None

-- peers of distinct ids, in this order
abbrev pub peers_in : List Text → Option (List ToldPeer)
peers_in items = if list_all is_peer items && are_new [] (map id_in items) then Some (map peer_in items) else None

-- the peers by commas; `_` is none
abbrev pub peers_of : Text → Option (List ToldPeer)
peers_of t = peers_in (items_of t)

-- ---- for private clauses

-- one more id, where it is one and is not in yet, and there is room for it
abbrev pub with_new_id : Text → List Id → Option (List Id)
with_new_id item found = id_of item >>= λ id. if has id found || length found == most_ids then None else Some (with_id id found)

abbrev pub ids_of : List ToldPeer → List Id
ids_of peers = map (λ p. p.id) peers

-- one more peer, where it is one and its id is not in yet
abbrev pub with_new_peer : Text → List ToldPeer → Option (List ToldPeer)
with_new_peer item found = peer_of item >>= λ peer. if has peer.id (ids_of found) then None else Some (found ++ peer ∷ [])
