-- Part of the statement: which nodes a node has met, and what they answered, by the calls so far.
use Rattle.std.specs.Prelude.{◌≡◌, ℕ, ◌+◌, Bool, false, not, ◌&&◌, Option, None, Some, List, [], ◌∷◌, ◌++◌, length, map, filter, nat_le, if◌then◌else◌, is_some, is_none}
use Rattle.voting_config.specs.Ids.{Id, has, same, set_of, without_id}
use Rattle.peer_finder.specs.declared.Found.{Found}
use Rattle.peer_finder.specs.declared.Peer.{Peer}

-- what comes to a peer finder after its start
pub data Call : Type 0 where
  Added : (id : Id) → Call
  Asked : (now : ℕ) → Call
  -- a peer answered, with the master that it knows
  Answered : (id : Id) → (master : Option Id) → Call
  Forgotten : (id : Id) → Call
  AnswersForgotten : (now : ℕ) → Call
  -- the connection to a node ended
  Disconnected : (id : Id) → (now : ℕ) → Call
  -- peers are not to be asked for some time
  Held : (now : ℕ) → (wait : ℕ) → Call

-- the start, and the calls since, the newest last
pub data Calls : Type 0 where
  Started : (me : Id) → Calls
  Then : (calls : Calls) → (call : Call) → Calls

abbrev pub most_peers : ℕ
most_peers = 63

-- how long after peers were asked they are asked again, in ms
abbrev pub find_peers_interval : ℕ
find_peers_interval = 1000

-- the node itself
abbrev pub me_of : Calls → Id
me_of (Started me) = me
me_of (Then calls call) = me_of calls

-- whether a node becomes a peer: it is another one, isn't known, and there is room
abbrev pub is_new_peer : Id → List Id → Id → Bool
is_new_peer me known id = not (same id me) && not (has id known) && not (nat_le most_peers (length known))

-- the peers in order of discovery
abbrev pub known_of : Calls → List Id
known_of (Started me) = []
known_of (Then calls (Added id)) = if is_new_peer (me_of calls) (known_of calls) id then known_of calls ++ id ∷ [] else known_of calls
known_of (Then calls (Forgotten id)) = without_id id (known_of calls)
known_of (Then calls call) = known_of calls

-- the last answer of a peer since it became known, where answers were not forgotten and the connection to it did not end since
abbrev pub answer_of : Calls → Id → Option Found
answer_of (Started me) peer = None
answer_of (Then calls (Answered id master)) peer = if same peer id
    && has peer (known_of calls) then Some (record { master = master }) else answer_of calls peer
answer_of (Then calls (Forgotten id)) peer = if same peer id then None else answer_of calls peer
answer_of (Then calls (AnswersForgotten now)) peer = None
answer_of (Then calls (Disconnected id now)) peer = if same peer id then None else answer_of calls peer
answer_of (Then calls call) peer = answer_of calls peer

-- when discovery is due: an interval after peers were asked last, and at once where answers were forgotten or a connection ended since, unless it is held
abbrev pub due_of : Calls → ℕ
due_of (Started me) = 0
due_of (Then calls (Asked now)) = now + find_peers_interval
due_of (Then calls (AnswersForgotten now)) = now
due_of (Then calls (Disconnected id now)) = now
due_of (Then calls (Held now wait)) = now + wait
due_of (Then calls call) = due_of calls

-- all of this
pub record PeerFinder : Type 0 where
  pub me : Id
  pub peers : List Peer
  pub due : ℕ

abbrev pub peer_of : Calls → Id → Peer
peer_of calls id = record { id = id; answer = answer_of calls id }

abbrev pub finder_of : Calls → PeerFinder
finder_of calls = record { me = me_of calls; peers = map (λ id. peer_of calls id) (known_of calls); due = due_of calls }

-- it stands for these calls
abbrev pub StandsFor : PeerFinder → Calls → Type 0
StandsFor f calls = f ≡ finder_of calls

abbrev pub ids_of : List Peer → List Id
ids_of peers = map (λ (p : Peer). p.id) peers

-- a peer after an answer, which may be another's, and after its answer is forgotten
abbrev pub with_answer : Id → Option Id → Peer → Peer
with_answer id master p = if same p.id id then record p { answer = Some (record { master = master }) } else p

abbrev pub without_answer : Peer → Peer
without_answer p = record p { answer = None }

abbrev pub unanswered : Id → Peer → Peer
unanswered id p = if same p.id id then without_answer p else p

-- what one more call makes of it
abbrev pub after : PeerFinder → Call → PeerFinder
after f (Added id) =
    record f { peers = (if is_new_peer f.me (ids_of f.peers) id then f.peers ++ record { id = id; answer = None } ∷ [] else f.peers) }
after f (Asked now) = record f { due = now + find_peers_interval }
after f (Answered id master) = record f { peers = map (λ (p : Peer). with_answer id master p) f.peers }
after f (Forgotten id) = record f { peers = filter (λ (p : Peer). not (same p.id id)) f.peers }
after f (AnswersForgotten now) = record f { peers = map (λ (p : Peer). without_answer p) f.peers; due = now }
after f (Disconnected id now) = record f { peers = map (λ (p : Peer). unanswered id p) f.peers; due = now }
after f (Held now wait) = record f { due = now + wait }

-- the answer of a peer among these
abbrev pub answer_in : List Peer → Id → Option Found
answer_in [] id = None
answer_in (p ∷ ps) id = if same p.id id then p.answer else answer_in ps id

-- whether a peer's last answer names no master
abbrev pub is_free : Option Found → Bool
is_free None = false
is_free (Some found) = is_none found.master

-- all peers, those that have answered, those whose last answer names no master
abbrev pub known_set : PeerFinder → List Id
known_set f = set_of (ids_of f.peers)

abbrev pub answered_set : PeerFinder → List Id
answered_set f = set_of (ids_of (filter (λ (p : Peer). is_some p.answer) f.peers))

abbrev pub free_set : PeerFinder → List Id
free_set f = set_of (ids_of (filter (λ (p : Peer). is_free p.answer) f.peers))

-- whom to ask: all peers where discovery is due
abbrev pub to_ask : PeerFinder → ℕ → List Id
to_ask f now = if nat_le f.due now then known_set f else []
