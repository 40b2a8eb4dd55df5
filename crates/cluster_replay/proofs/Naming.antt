-- Whom a node knows, and what it says and does names, have ids; and the terms in it are within the limits.
use Rattle.std.proofs.Common.{◌≡◌, ℕ, ◌+◌, ◌≤◌, Bool, true, false, cond, ◌||◌, Option, None, Some, List, [], ◌∷◌, ◌++◌, map, filter, refl, sym, subst}
use Rattle.std.specs.Prelude.{if◌then◌else◌, is_none, length, nat_lt}
use Rattle.std.specs.List.{list_all, AllByRecursion}
use Rattle.std.proofs.lemmas.Bool.{and_parts, and_from}
use Rattle.voting_config.specs.Ids.{Id, is_id, has, same, set_of, with_id, with_room, most_ids}
use Rattle.voting_config.proofs.Sets.{same_is}
use Rattle.cluster_state.specs.Field.{last_number}
use Rattle.cluster_state.specs.declared.state.StateId.{StateId}
use Rattle.cluster_state.specs.Fields.{ids}
use Rattle.cluster_state.specs.States.{value as value_field}
use Rattle.master_tasks.proofs.Limits.{each_append}
use Rattle.world_model.specs.declared.acts.Act.{Act}
use Rattle.world_model.specs.declared.acts.Act.TheVariants.{Bootstrap, StartJoin, TakeJoin, Value, Publish, Response, Commit, Open}
use Rattle.wire_frames.specs.declared.frame.Frame.{Frame}
use Rattle.wire_frames.specs.declared.frame.WireMessage.{WireMessage as FrameMessage}
use Rattle.wire_frames.specs.declared.frame.WireMessage.TheVariants as message
use Rattle.peer_finder.specs.declared.Peer.{Peer}
use Rattle.peer_finder.specs.Peers.{PeerFinder, is_new_peer, known_set, free_set, with_answer, without_answer, unanswered, is_free, ids_of as peer_ids}
use Rattle.fault_checks.specs.declared.followers.Follower.{Follower}
use Rattle.fault_checks.specs.Checks.{ticked_at}
use Rattle.fault_checks.specs.Followers.{stays, answered_from, answered_by, ids_of as follower_ids, stayed, watched_or_new}
use Rattle.publication.specs.Publications.{Publication}
use Rattle.policy_model.specs.declared.events.Mode.{Mode}
use Rattle.policy_model.specs.declared.events.Mode.TheVariants.{Candidate, Leader, Follower as Following}
use Rattle.policy_model.specs.Events.{Item, Opens, Begins, Acts, ChangesMode, Drops, Sends, Replies, Notes}
use Rattle.policy_model.specs.Entries.{by_receiver}
use Rattle.system_laws.proofs.Done.{all-sorted}
use Rattle.policy_model.specs.Follows.{IsStruck, Here, Later, without_output}
use Rattle.policy_model.specs.Parts.{met}
use Rattle.policy_model.specs.Views.{View}
use Rattle.cluster_replay.proofs.Fits.{each-with_id, ids-fold, no_ids}

abbrev pub AllIds : List Id → Type 0
AllIds xs = list_all is_id xs ≡ true

-- ---- what is said

abbrev pub NamesMode : Mode → Type 0
NamesMode (Following leader) = is_id leader ≡ true
NamesMode Candidate = Unit {0}
NamesMode Leader = Unit {0}

abbrev pub NamesMaster : Option Id → Type 0
NamesMaster None = Unit {0}
NamesMaster (Some master) = is_id master ≡ true

-- the ids in a message, and its term
abbrev pub NamesMessage : FrameMessage → Type 0
NamesMessage (message.StartJoin candidate term) = (is_id candidate ≡ true) × (term ≤ last_number)
NamesMessage (message.Join term last) = term ≤ last_number
NamesMessage (message.JoinAsk term) = term ≤ last_number
NamesMessage (message.PeersAsk known) = AllIds known
NamesMessage (message.PeersAnswer master term known) = NamesMaster master × (term ≤ last_number) × AllIds known
NamesMessage (message.PreVoteRefuse leader) = is_id leader ≡ true
NamesMessage (message.FollowerCheck term) = term ≤ last_number
NamesMessage (message.Publish state) = Unit {0}
NamesMessage (message.Response id) = Unit {0}
NamesMessage (message.Commit id) = Unit {0}
NamesMessage message.PreVoteAsk = Unit {0}
NamesMessage (message.PreVoteAnswer term last) = Unit {0}
NamesMessage (message.FollowerAnswer good term applied) = Unit {0}
NamesMessage (message.LeaderCheck term) = Unit {0}
NamesMessage (message.LeaderAnswer good) = Unit {0}

-- what an act of a node's own names, and its numbers
abbrev pub NamesAct : Act → Type 0
NamesAct (StartJoin candidate term) = (is_id candidate ≡ true) × (term ≤ last_number)
NamesAct (Value version config value) = (ids most_ids).Fits config × value_field.Fits value × (version ≤ last_number + 1)
NamesAct (Bootstrap config) = Unit {0}
NamesAct (TakeJoin join) = Unit {0}
NamesAct (Publish request) = Unit {0}
NamesAct (Response response) = Unit {0}
NamesAct (Commit commit) = Unit {0}
NamesAct (Open found) = Unit {0}

abbrev pub NamesFrame : Frame → Type 0
NamesFrame f = (is_id f.from ≡ true) × (is_id f.to ≡ true) × NamesMessage f.message

abbrev pub NamesItem : Item → Type 0
NamesItem (Opens found) = Unit {0}
NamesItem (Begins event) = Unit {0}
NamesItem (Acts act outcome) = NamesAct act
NamesItem (ChangesMode mode term) = NamesMode mode
NamesItem (Drops member cause) = is_id member ≡ true
NamesItem (Sends frame) = NamesFrame frame
NamesItem (Replies answer) = Unit {0}
NamesItem (Notes note) = Unit {0}

pub frames-sorted : (fs : List Frame) → AllByRecursion NamesFrame fs → AllByRecursion NamesFrame (by_receiver fs)
frames-sorted fs h = all-sorted NamesFrame fs h

-- what is left of items where an act was struck
pub struck-names : (is left : List Item) → IsStruck is left → AllByRecursion NamesItem is → AllByRecursion NamesItem left
struck-names is left (Here act sends wins rest fault w f) h = (h.0, tt)
struck-names is left (Later i rest more struck) h = each_append NamesItem (without_output i) more (own i h.0) (struck-names rest more struck h.1)
  where
    own : (x : Item) → NamesItem x → AllByRecursion NamesItem (without_output x)
    own (Opens found) n = (n, tt)
    own (Begins event) n = (n, tt)
    own (Acts act outcome) n = (n, tt)
    own (ChangesMode mode term) n = (n, tt)
    own (Drops member cause) n = (n, tt)
    own (Sends frame) n = tt
    own (Replies answer) n = tt
    own (Notes note) n = (n, tt)

-- ---- whom a node knows

abbrev pub NamesPublication : Option Publication → Type 0
NamesPublication None = Unit {0}
NamesPublication (Some p) = AllIds p.targets × AllIds p.responders

pub record NamedView (v : View) : Type 0 where
  pub term : v.node.term ≤ last_number
  pub version : v.node.accepted.version ≤ last_number
  pub mode : NamesMode v.mode
  pub peers : AllIds (peer_ids v.finder.peers)
  pub publication : NamesPublication v.publication
  pub watched : AllIds (follower_ids v.followers.watched)

-- ---- sets

pub all-set : (xs : List Id) → AllIds xs → AllIds (set_of xs)
all-set xs h = (ids-fold [] xs no_ids h).each

pub all-room : (xs : List Id) (x : Id) → AllIds xs → is_id x ≡ true → AllIds (with_room xs x)
all-room xs x h k = from (nat_lt (length xs) most_ids)
  where
    from : (b : Bool) → AllIds (if b then with_id x xs else xs)
    from true = each-with_id is_id x xs k h
    from false = h

-- ---- peers

same_peers : (f : Peer → Peer) → ((p : Peer) → (f p).id ≡ p.id) → (ps : List Peer) → peer_ids (map f ps) ≡ peer_ids ps
same_peers f h [] = refl
same_peers f h (p ∷ ps) = λ i. h p i ∷ same_peers f h ps i

answered_id : (id : Id) (master : Option Id) (p : Peer) → (with_answer id master p).id ≡ p.id
answered_id id master p = from (same p.id id)
  where
    from : (b : Bool) → (if b then record p { answer = Some (record { master = master }) } else p).id ≡ p.id
    from true = refl
    from false = refl

pub peers-heard : (id : Id) (master : Option Id) (ps : List Peer) → AllIds (peer_ids ps) → AllIds (peer_ids (map (λ (p : Peer). with_answer id master p) ps))
peers-heard id master ps h = subst AllIds (sym (same_peers (λ (p : Peer). with_answer id master p) (answered_id id master) ps)) h

unanswered_id : (id : Id) (p : Peer) → (unanswered id p).id ≡ p.id
unanswered_id id p = elim (same p.id id) as (λ b. (if b then without_answer p else p).id ≡ p.id) [ true ↦ refl | false ↦ refl ]

pub peers-unanswered : (id : Id) (ps : List Peer) → AllIds (peer_ids ps) → AllIds (peer_ids (map (λ (p : Peer). unanswered id p) ps))
peers-unanswered id ps h = subst AllIds (sym (same_peers (λ (p : Peer). unanswered id p) (unanswered_id id) ps)) h

pub peers-forgotten : (ps : List Peer) → AllIds (peer_ids ps) → AllIds (peer_ids (map (λ (p : Peer). without_answer p) ps))
peers-forgotten ps h = subst AllIds (sym (same_peers (λ (p : Peer). without_answer p) (λ p. refl) ps)) h

one_more : (ps : List Peer) (p : Peer) → AllIds (peer_ids ps) → is_id p.id ≡ true → AllIds (peer_ids (ps ++ p ∷ []))
one_more [] p h k = and_from (is_id p.id) true k refl
one_more (q ∷ ps) p h k = let parts = and_parts (is_id q.id) (list_all is_id (peer_ids ps)) h in and_from (is_id q.id) (list_all is_id (peer_ids (ps ++ p ∷ []))) parts.0 (one_more ps p parts.1 k)

peers_added : (f : PeerFinder) (id : Id) → AllIds (peer_ids f.peers) → is_id id ≡ true → AllIds (peer_ids (if is_new_peer f.me (peer_ids f.peers) id then f.peers ++ record { id = id; answer = None } ∷ [] else f.peers))
peers_added f id h k = from (is_new_peer f.me (peer_ids f.peers) id)
  where
    from : (b : Bool) → AllIds (peer_ids (if b then f.peers ++ record { id = id; answer = None } ∷ [] else f.peers))
    from true = one_more f.peers (record { id = id; answer = None }) h k
    from false = h

pub peers-met : (f : PeerFinder) (ids : List Id) → AllIds (peer_ids f.peers) → AllIds ids → AllIds (peer_ids (met f ids).peers)
peers-met f [] h k = h
peers-met f (id ∷ ids) h k = let parts = and_parts (is_id id) (list_all is_id ids) k in peers-met (record f { peers = if is_new_peer f.me (peer_ids f.peers) id then f.peers ++ record { id = id; answer = None } ∷ [] else f.peers }) ids (peers_added f id h parts.0) parts.1

some_peers : (q : Peer → Bool) (ps : List Peer) → AllIds (peer_ids ps) → AllIds (peer_ids (filter q ps))
some_peers q [] h = refl
some_peers q (p ∷ ps) h =
    let parts = and_parts (is_id p.id) (list_all is_id (peer_ids ps)) h in
    elim (q p) as (λ b. AllIds (peer_ids (cond b (p ∷ filter q ps) (filter q ps)))) [
      | true ↦ and_from (is_id p.id) (list_all is_id (peer_ids (filter q ps))) parts.0 (some_peers q ps parts.1)
      | false ↦ some_peers q ps parts.1
    ]

pub all-known : (f : PeerFinder) → AllIds (peer_ids f.peers) → AllIds (known_set f)
all-known f h = all-set (peer_ids f.peers) h

pub all-free : (f : PeerFinder) → AllIds (peer_ids f.peers) → AllIds (free_set f)
all-free f h = all-set (peer_ids (filter (λ (p : Peer). is_free p.answer) f.peers)) (some_peers (λ (p : Peer). is_free p.answer) f.peers h)

-- ---- followers

same_followers : (g : Follower → Follower) → ((f : Follower) → (g f).id ≡ f.id) → (fs : List Follower) → follower_ids (map g fs) ≡ follower_ids fs
same_followers g h [] = refl
same_followers g h (f ∷ fs) = λ i. h f i ∷ same_followers g h fs i

pub followers-mapped : (g : Follower → Follower) → ((f : Follower) → (g f).id ≡ f.id) → (fs : List Follower) → AllIds (follower_ids fs) → AllIds (follower_ids (map g fs))
followers-mapped g h fs k = subst AllIds (sym (same_followers g h fs)) k

pub some-followers : (q : Follower → Bool) (fs : List Follower) → AllIds (follower_ids fs) → AllIds (follower_ids (filter q fs))
some-followers q [] h = refl
some-followers q (f ∷ fs) h =
    let parts = and_parts (is_id f.id) (list_all is_id (follower_ids fs)) h in
    elim (q f) as (λ b. AllIds (follower_ids (cond b (f ∷ filter q fs) (filter q fs)))) [
      | true ↦ and_from (is_id f.id) (list_all is_id (follower_ids (filter q fs))) parts.0 (some-followers q fs parts.1)
      | false ↦ some-followers q fs parts.1
    ]

-- those that stay at a tick
pub followers-stay : (fs : List Follower) (now : ℕ) → AllIds (follower_ids fs) → AllIds (follower_ids (stayed fs now))
followers-stay fs now h = followers-mapped (λ (f : Follower). record f { check = ticked_at f.check now }) (λ f. refl) (filter (λ (f : Follower). stays f now) fs) (some-followers (λ (f : Follower). stays f now) fs h)

watched_id : (fs : List Follower) (id : Id) (now : ℕ) → (watched_or_new fs id now).id ≡ id
watched_id [] id now = refl
watched_id (f ∷ fs) id now =
    elim (same f.id id) as (λ b. same f.id id ≡ b → (if b then f else watched_or_new fs id now).id ≡ id) [
      | true ↦ λ e. same_is f.id id e
      | false ↦ λ e. watched_id fs id now
    ] refl

pub members-watched : (fs : List Follower) (now : ℕ) (members : List Id) → AllIds members → AllIds (follower_ids (map (λ id. watched_or_new fs id now) members))
members-watched fs now [] h = refl
members-watched fs now (m ∷ ms) h =
    let parts = and_parts (is_id m) (list_all is_id ms) h in
    and_from (is_id (watched_or_new fs m now).id) (list_all is_id (follower_ids (map (λ id. watched_or_new fs id now) ms))) (subst (λ (x : Id). is_id x ≡ true) (sym (watched_id fs m now)) parts.0) (members-watched fs now ms parts.1)

answered_same : (f : Follower) (finished : StateId) (good : Bool) (applied : StateId) (now : ℕ) → (answered_by f finished good applied now).id ≡ f.id
answered_same f finished good applied now = from (is_none f.check.asked) _ refl
  where
    from : (b : Bool) (g : Follower) → g.id ≡ f.id → (if b then f else g).id ≡ f.id
    from true g e = refl
    from false g e = e

pub answered-id : (from : Id) (finished : StateId) (good : Bool) (applied : StateId) (now : ℕ) (f : Follower) → (answered_from f from finished good applied now).id ≡ f.id
answered-id from finished good applied now f = outer (same f.id from)
  where
    outer : (b : Bool) → (if b then answered_by f finished good applied now else f).id ≡ f.id
    outer true = answered_same f finished good applied now
    outer false = refl

pub id-among : (n : Id) (ids : List Id) → AllIds ids → has n ids ≡ true → is_id n ≡ true
id-among n [] h e = absurd cc
id-among n (x ∷ xs) h e =
    let parts = and_parts (is_id x) (list_all is_id xs) h in
    from (same x n) refl e parts.0 (λ k. id-among n xs parts.1 k)
  where
    from : (b : Bool) → same x n ≡ b → (b || has n xs) ≡ true → is_id x ≡ true → (has n xs ≡ true → is_id n ≡ true) → is_id n ≡ true
    from true e k i rest = subst (λ (y : Id). is_id y ≡ true) (same_is x n e) i
    from false e k i rest = rest k
