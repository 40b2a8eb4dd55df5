-- What one more call makes of the peers.
use Rattle.std.proofs.Common.{◌≡◌, ℕ, Bool, true, false, cond, not, ◌||◌, ◌&&◌, Option, None, Some, List, [], ◌∷◌, ◌++◌, map, length, refl, sym, ap, ◌∙◌}
use Rattle.std.specs.Prelude.{filter, nat_le}
use Rattle.std.proofs.lemmas.Bool.{and_parts, or_parts}
use Rattle.std.proofs.lemmas.List.{map-append}
use Rattle.std.proofs.lemmas.Simd.{map-map}
use Rattle.std.specs.Cmp.Lexicographic.{same_text}
use Rattle.voting_config.specs.Ids.{Id, has, same, without_id}
use Rattle.voting_config.proofs.Sets.{same_self, same_flipped, has-without_id}
use Rattle.peer_finder.specs.declared.Peer.{Peer}
use Rattle.peer_finder.specs.Peers.{PeerFinder, Calls, Call, Started, Then, Added, Asked, Answered, Forgotten, AnswersForgotten, Disconnected, Held, StandsFor, finder_of, after, me_of, known_of, answer_of, peer_of, ids_of, is_new_peer, most_peers, with_answer, without_answer, unanswered, answer_in}

not_true : (b : Bool) → not b ≡ true → b ≡ false
not_true true h = cc
not_true false h = refl

has-prefix : (id : Id) (xs ys : List Id) → has id (xs ++ ys) ≡ false → has id xs ≡ false
has-prefix id [] ys h = refl
has-prefix id (x ∷ xs) ys h =
    let parts : (same x id ≡ false) × (has id (xs ++ ys) ≡ false) = or_parts (same x id) (has id (xs ++ ys)) h in
    rw parts.0 (has-prefix id xs ys parts.1)

-- taking another id out leaves it
has-other : (id x : Id) (ids : List Id) → same id x ≡ false → has id (without_id x ids) ≡ false → has id ids ≡ false
has-other id x ids other h = from (same x id) (has id ids) (same_flipped x id ∙ other) (sym (has-without_id id x ids) ∙ h)
  where
    from : (b c : Bool) → b ≡ false → (c && not b) ≡ false → c ≡ false
    from true c e k = cc
    from false true e k = cc
    from false false e k = refl

-- who isn't known has no answer
pub answer_of-unknown : (calls : Calls) (id : Id) → has id (known_of calls) ≡ false → answer_of calls id ≡ None
answer_of-unknown (Started me) id h = refl
answer_of-unknown (Then calls (Added x)) id h =
    elim (is_new_peer (me_of calls) (known_of calls) x) as (λ b. has id (cond b (known_of calls ++ x ∷ []) (known_of calls)) ≡ false → answer_of calls id ≡ None) [
      | true ↦ λ k. answer_of-unknown calls id (has-prefix id (known_of calls) (x ∷ []) k)
      | false ↦ λ k. answer_of-unknown calls id k
    ] h
answer_of-unknown (Then calls (Asked now)) id h = answer_of-unknown calls id h
answer_of-unknown (Then calls (Answered x master)) id h =
    rw h (elim (same id x) as (λ b. cond (b && false) (Some (record { master = master })) (answer_of calls id) ≡ None) [
      | true ↦ answer_of-unknown calls id h
      | false ↦ answer_of-unknown calls id h
    ])
answer_of-unknown (Then calls (Forgotten x)) id h =
    elim (same id x) as (λ b. same id x ≡ b → cond b None (answer_of calls id) ≡ None) [
      | true ↦ λ e. refl
      | false ↦ λ e. answer_of-unknown calls id (has-other id x (known_of calls) e h)
    ] refl
answer_of-unknown (Then calls (AnswersForgotten now)) id h = refl
answer_of-unknown (Then calls (Held now wait)) id h = answer_of-unknown calls id h
answer_of-unknown (Then calls (Disconnected x now)) id h =
    elim (same id x) as (λ b. cond b None (answer_of calls id) ≡ None) [
      | true ↦ refl
      | false ↦ answer_of-unknown calls id h
    ]

-- two tables of the same ids agree where they agree on each of them
map-members : {X : Type 0} (f g : Id → X) (ids : List Id) → ((id : Id) → has id ids ≡ true → f id ≡ g id) → map f ids ≡ map g ids
map-members f g [] h = refl
map-members f g (x ∷ xs) h =
    let first : f x ≡ g x = h x (rw (same_self x) refl) in
    let others = map-members f g xs (λ id k. h id (later (same x id) (has id xs) k)) in
    cc
  where
    later : (a b : Bool) → b ≡ true → (a || b) ≡ true
    later true b k = refl
    later false b k = k

pub ids_of-peers : (calls : Calls) (ids : List Id) → ids_of (map (λ id. peer_of calls id) ids) ≡ ids
ids_of-peers calls [] = refl
ids_of-peers calls (x ∷ xs) = ap (λ t. x ∷ t) (ids_of-peers calls xs)

forgotten-peers : (calls : Calls) (x : Id) (ids : List Id) → map (λ id. peer_of (Then calls (Forgotten x)) id) (without_id x ids) ≡ filter (λ (p : Peer). not (same p.id x)) (map (λ id. peer_of calls id) ids)
forgotten-peers calls x [] = refl
forgotten-peers calls x (y ∷ ys) =
    let others = forgotten-peers calls x ys in
    elim (same y x) as (λ b. same y x ≡ b → map (λ id. peer_of (Then calls (Forgotten x)) id) (cond (not b) (y ∷ without_id x ys) (without_id x ys)) ≡ cond (not b) (peer_of calls y ∷ filter (λ (p : Peer). not (same p.id x)) (map (λ id. peer_of calls id) ys)) (filter (λ (p : Peer). not (same p.id x)) (map (λ id. peer_of calls id) ys))) [
      | true ↦ λ e. others
      | false ↦ λ e. rw e (ap (λ t. peer_of calls y ∷ t) others)
    ] refl

answered-peers : (calls : Calls) (x : Id) (master : Option Id) → map (λ id. peer_of (Then calls (Answered x master)) id) (known_of calls) ≡ map (λ (p : Peer). with_answer x master p) (map (λ id. peer_of calls id) (known_of calls))
answered-peers calls x master =
    map-members _ _ (known_of calls) each ∙ sym (map-map (λ (p : Peer). with_answer x master p) (λ id. peer_of calls id) (known_of calls))
  where
    each : (id : Id) → has id (known_of calls) ≡ true → peer_of (Then calls (Answered x master)) id ≡ with_answer x master (peer_of calls id)
    each id h = rw h (elim (same id x) as (λ b. (let p : Peer = record { id = id; answer = cond (b && true) (Some (record { master = master })) (answer_of calls id) } in p) ≡ cond b (record { id = id; answer = Some (record { master = master }) }) (peer_of calls id)) [ true ↦ refl | false ↦ refl ])

disconnected-peers : (calls : Calls) (x : Id) (now : ℕ) → map (λ id. peer_of (Then calls (Disconnected x now)) id) (known_of calls) ≡ map (λ (p : Peer). unanswered x p) (map (λ id. peer_of calls id) (known_of calls))
disconnected-peers calls x now =
    map-members _ _ (known_of calls) each ∙ sym (map-map (λ (p : Peer). unanswered x p) (λ id. peer_of calls id) (known_of calls))
  where
    each : (id : Id) → has id (known_of calls) ≡ true → peer_of (Then calls (Disconnected x now)) id ≡ unanswered x (peer_of calls id)
    each id h = elim (same id x) as (λ b. (let p : Peer = record { id = id; answer = cond b None (answer_of calls id) } in p) ≡ cond b (record { id = id; answer = None }) (peer_of calls id)) [ true ↦ refl | false ↦ refl ]

added-peers : (calls : Calls) (x : Id) → (finder_of (Then calls (Added x))).peers ≡ (after (finder_of calls) (Added x)).peers
added-peers calls x =
    rw (ids_of-peers calls (known_of calls))
    (elim (is_new_peer (me_of calls) (known_of calls) x) as (λ b. is_new_peer (me_of calls) (known_of calls) x ≡ b → map (λ id. peer_of calls id) (cond b (known_of calls ++ x ∷ []) (known_of calls)) ≡ cond b (map (λ id. peer_of calls id) (known_of calls) ++ record { id = x; answer = None } ∷ []) (map (λ id. peer_of calls id) (known_of calls))) [
      | true ↦ λ e. rw (map-append, answer_of-unknown calls x (unknown e)) refl
      | false ↦ λ e. refl
    ] refl)
  where
    unknown : is_new_peer (me_of calls) (known_of calls) x ≡ true → has x (known_of calls) ≡ false
    unknown e =
        let two : (not (same x (me_of calls)) && not (has x (known_of calls))) ≡ true = (and_parts (not (same x (me_of calls)) && not (has x (known_of calls))) (not (nat_le most_peers (length (known_of calls)))) e).0 in
        not_true (has x (known_of calls)) (and_parts (not (same x (me_of calls))) (not (has x (known_of calls))) two).1

pub finder_of-Then : (calls : Calls) (call : Call) → finder_of (Then calls call) ≡ after (finder_of calls) call
finder_of-Then calls (Added x) = ap (λ (ps : List Peer). record (finder_of calls) { peers = ps }) (added-peers calls x)
finder_of-Then calls (Asked now) = refl
finder_of-Then calls (Answered x master) = ap (λ (ps : List Peer). record (finder_of calls) { peers = ps }) (answered-peers calls x master)
finder_of-Then calls (Forgotten x) = ap (λ (ps : List Peer). record (finder_of calls) { peers = ps }) (forgotten-peers calls x (known_of calls))
finder_of-Then calls (AnswersForgotten now) =
    ap (λ (ps : List Peer). record (finder_of calls) { peers = ps; due = now }) (sym (map-map (λ (p : Peer). without_answer p) (λ id. peer_of calls id) (known_of calls)))
finder_of-Then calls (Held now wait) = refl
finder_of-Then calls (Disconnected x now) =
    ap (λ (ps : List Peer). record (finder_of calls) { peers = ps; due = now }) (disconnected-peers calls x now)

-- what stands for the calls so far stands for these with one more
pub stands-Then : (old new : PeerFinder) (call : Call) → new ≡ after old call → (calls : Calls) → StandsFor old calls → StandsFor new (Then calls call)
stands-Then old new call now calls stands = rw (now, stands) (sym (finder_of-Then calls call))

-- the answer of a peer among those known
answer_in-peers : (calls : Calls) (id : Id) (ids : List Id) → answer_in (map (λ i. peer_of calls i) ids) id ≡ cond (has id ids) (answer_of calls id) None
answer_in-peers calls id [] = refl
answer_in-peers calls id (y ∷ ys) =
    elim (same y id) as (λ b. same y id ≡ b → cond b (answer_of calls y) (answer_in (map (λ i. peer_of calls i) ys) id) ≡ cond (b || has id ys) (answer_of calls id) None) [
      | true ↦ λ e. ap (λ (i : Id). answer_of calls i) (same_text y id (sym e))
      | false ↦ λ e. answer_in-peers calls id ys
    ] refl

pub answer_in-known : (f : PeerFinder) (id : Id) (calls : Calls) → StandsFor f calls → answer_in f.peers id ≡ answer_of calls id
answer_in-known f id calls stands =
    rw stands (answer_in-peers calls id (known_of calls)
    ∙ elim (has id (known_of calls)) as (λ b. has id (known_of calls) ≡ b → cond b (answer_of calls id) None ≡ answer_of calls id) [
      | true ↦ λ e. refl
      | false ↦ λ e. sym (answer_of-unknown calls id e)
    ] refl)

pub known-stands : (f : PeerFinder) (calls : Calls) → StandsFor f calls → ids_of f.peers ≡ known_of calls
known-stands f calls stands = rw stands (ids_of-peers calls (known_of calls))

-- the ids of the peers stay
pub ids_of-with_answer : (id : Id) (master : Option Id) (peers : List Peer) → ids_of (map (λ (p : Peer). with_answer id master p) peers) ≡ ids_of peers
ids_of-with_answer id master [] = refl
ids_of-with_answer id master (p ∷ ps) =
    elim (same p.id id) as (λ b. (cond b (record p { answer = Some (record { master = master }) }) p).id ∷ ids_of (map (λ (q : Peer). with_answer id master q) ps) ≡ p.id ∷ ids_of ps) [
      | true ↦ ap (λ t. p.id ∷ t) (ids_of-with_answer id master ps)
      | false ↦ ap (λ t. p.id ∷ t) (ids_of-with_answer id master ps)
    ]

pub ids_of-without_answer : (peers : List Peer) → ids_of (map (λ (p : Peer). without_answer p) peers) ≡ ids_of peers
ids_of-without_answer [] = refl
ids_of-without_answer (p ∷ ps) = ap (λ t. p.id ∷ t) (ids_of-without_answer ps)

pub ids_of-unanswered : (id : Id) (peers : List Peer) → ids_of (map (λ (p : Peer). unanswered id p) peers) ≡ ids_of peers
ids_of-unanswered id [] = refl
ids_of-unanswered id (p ∷ ps) =
    elim (same p.id id) as (λ b. (cond b (record p { answer = None }) p).id ∷ ids_of (map (λ (q : Peer). unanswered id q) ps) ≡ p.id ∷ ids_of ps) [
      | true ↦ ap (λ t. p.id ∷ t) (ids_of-unanswered id ps)
      | false ↦ ap (λ t. p.id ∷ t) (ids_of-unanswered id ps)
    ]
