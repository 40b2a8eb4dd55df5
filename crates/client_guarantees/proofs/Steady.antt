-- Items that tell clients nothing and change neither mode, publication, acts nor requests, and the rules that add only such.
use Rattle.std.proofs.Common.{◌≡◌, ℕ, Bool, true, false, Option, None, Some, List, [], ◌∷◌, ◌++◌, refl, ◌∙◌, ap}
use Rattle.std.specs.Prelude.{if◌then◌else◌}
use Rattle.voting_config.specs.Ids.{Id}
use Rattle.cluster_state.specs.declared.state.StateId.{StateId}
use Rattle.wire_frames.specs.declared.frame.WireMessage.{WireMessage}
use Rattle.publication.specs.Publications.{Publication}
use Rattle.pre_vote.specs.declared.rounds.Added.{Added}
use Rattle.pre_vote.specs.declared.rounds.Added.TheVariants.{Counted, Fresher, Quorum}
use Rattle.pre_vote.specs.declared.replies.Reply.{Reply as PreVoteReply}
use Rattle.pre_vote.specs.declared.replies.Reply.TheVariants.{Answer as PreVoteAnswer, Refused as PreVoteRefused}
use Rattle.pre_vote.specs.Rounds.{Round}
use Rattle.master_tasks.specs.declared.waiting.Waiting.{Waiting}
use Rattle.master_tasks.specs.declared.waiting.Outgoing.{Outgoing}
use Rattle.world_model.specs.NodeState.{NodeState}
use Rattle.policy_model.specs.declared.settings.Settings.{Settings}
use Rattle.policy_model.specs.declared.events.Mode.{Mode}
use Rattle.policy_model.specs.declared.events.DropCause.{DropCause}
use Rattle.policy_model.specs.Events.{Note, Met, Heard, PeersAsked, ElectionOff, ElectionSet, RoundBegun, RoundAnswered, RoundEnded, FollowersChecked, FollowerAnswered, LeaderChecked, LeaderAnswered, HandedOver, PeerLost, LeaderLost, Item, Opens, Begins, Acts, ChangesMode, Drops, Sends, Replies, Notes}
use Rattle.policy_model.specs.Entries.{replies_in, replies_of}
use Rattle.policy_model.specs.Views.{View}
use Rattle.policy_model.specs.Moves.{moved, moved_all}
use Rattle.policy_model.specs.Doing as doing
use Rattle.policy_model.specs.NextState as next
use Rattle.policy_model.specs.Elections as elections
use Rattle.policy_model.specs.Discovery as discovery
use Rattle.policy_model.specs.Checks as checks

-- what the proof follows of a node
pub record Standing : Type 0 where
  pub mode : Mode
  pub publication : Option Publication
  pub node : NodeState
  pub waiting : List Waiting

abbrev pub standing : View → Standing
standing v = record { mode = v.mode; publication = v.publication; node = v.node; waiting = v.tasks.waiting }

-- items that tell nothing and leave a node standing as it does
abbrev pub is_steady_note : Note → Bool
is_steady_note (Met ids) = true
is_steady_note (Heard peer master) = true
is_steady_note PeersAsked = true
is_steady_note ElectionOff = true
is_steady_note (ElectionSet word) = true
is_steady_note (RoundBegun word) = true
is_steady_note (RoundAnswered source term last) = true
is_steady_note RoundEnded = true
is_steady_note FollowersChecked = true
is_steady_note (FollowerAnswered from good applied) = true
is_steady_note LeaderChecked = true
is_steady_note (LeaderAnswered good) = true
is_steady_note HandedOver = true
is_steady_note (PeerLost id) = true
is_steady_note LeaderLost = true
is_steady_note note = false

abbrev pub is_steady : Item → Bool
is_steady (Sends frame) = true
is_steady (Drops member cause) = true
is_steady (Notes note) = is_steady_note note
is_steady i = false

pub data IsSteady : List Item → Type 0 where
  Calm : IsSteady []
  Still : (i : Item) (is : List Item) → is_steady i ≡ true → IsSteady is → IsSteady (i ∷ is)

pub steady-append : (xs ys : List Item) → IsSteady xs → IsSteady ys → IsSteady (xs ++ ys)
steady-append xs ys Calm r = r
steady-append xs ys (Still i is e q) r = Still i (is ++ ys) e (steady-append is ys q r)

pub steady-if : (b : Bool) (xs ys : List Item) → IsSteady xs → IsSteady ys → IsSteady (if b then xs else ys)
steady-if true xs ys q r = q
steady-if false xs ys q r = r

pub steady-sends : (s : Settings) (ids : List Id) (m : WireMessage) → IsSteady (doing.send_all s ids m)
steady-sends s [] m = Calm
steady-sends s (x ∷ xs) m = Still _ _ refl (steady-sends s xs m)

pub steady-drops : (ids : List Id) (cause : DropCause) → IsSteady (checks.drop_all ids cause)
steady-drops [] cause = Calm
steady-drops (x ∷ xs) cause = Still _ _ refl (steady-drops xs cause)

note_stands : (s : Settings) (v : View) (n : Note) → is_steady_note n ≡ true → standing (moved s v (Notes n)) ≡ standing v
note_stands s v (Met ids) e = refl
note_stands s v (Heard peer master) e = refl
note_stands s v PeersAsked e = refl
note_stands s v ElectionOff e = refl
note_stands s v (ElectionSet word) e = refl
note_stands s v (RoundBegun word) e = refl
note_stands s v (RoundAnswered source term last) e = refl
note_stands s v RoundEnded e = refl
note_stands s v FollowersChecked e = refl
note_stands s v (FollowerAnswered from good applied) e = refl
note_stands s v LeaderChecked e = refl
note_stands s v (LeaderAnswered good) e = refl
note_stands s v HandedOver e = refl
note_stands s v (PeerLost id) e = refl
note_stands s v LeaderLost e = refl
note_stands s v n e = cc

item_stands : (s : Settings) (v : View) (i : Item) → is_steady i ≡ true → standing (moved s v i) ≡ standing v
item_stands s v (Sends frame) e = refl
item_stands s v (Drops member cause) e = refl
item_stands s v (Notes note) e = note_stands s v note e
item_stands s v (Opens found) e = cc
item_stands s v (Begins event) e = cc
item_stands s v (Acts act o) e = cc
item_stands s v (ChangesMode mode term) e = cc
item_stands s v (Replies answer) e = cc

item_silent : (i : Item) → is_steady i ≡ true → replies_in i ≡ []
item_silent (Sends frame) e = refl
item_silent (Drops member cause) e = refl
item_silent (Notes note) e = refl
item_silent (Opens found) e = cc
item_silent (Begins event) e = cc
item_silent (Acts act o) e = cc
item_silent (ChangesMode mode term) e = cc
item_silent (Replies answer) e = cc

pub steady_stands : (s : Settings) (v : View) (is : List Item) → IsSteady is → standing (moved_all s v is) ≡ standing v
steady_stands s v xs Calm = refl
steady_stands s v xs (Still i is e q) = steady_stands s (moved s v i) is q ∙ item_stands s v i e

pub steady_silent : (is : List Item) → IsSteady is → replies_of is ≡ []
steady_silent xs Calm = refl
steady_silent xs (Still i is e q) = ap (λ (l : List Outgoing). l ++ replies_of is) (item_silent i e) ∙ steady_silent is q

-- ---- rules

module _ (s : Settings) where
  steady-asks_successor : (v : View) (o : Option Id) → IsSteady (next.asks_successor s v o)
  steady-asks_successor v None = Calm
  steady-asks_successor v (Some id) = search (steady-if, steady-sends, Calm)

  pub steady-hands_over : (v : View) → IsSteady (next.hands_over s v)
  steady-hands_over v = search (steady-if, steady-asks_successor, Calm, Still)

  pub steady-asks_votes : (v : View) → IsSteady (next.asks_votes s v)
  steady-asks_votes v = search (steady-asks_successor, Still)

  pub steady-stands_for_election : (v : View) (term : ℕ) → IsSteady (elections.stands_for_election s v term)
  steady-stands_for_election v term = search (steady-if, steady-sends, Calm, Still)

  steady-waits_until : (v : View) (word : ℕ) (o : Option ℕ) → IsSteady (elections.waits_until s v word o)
  steady-waits_until v word None = search (Calm, Still)
  steady-waits_until v word (Some deadline) = search (steady-append, steady-if, steady-sends, steady-stands_for_election, Calm, Still)

  pub steady-waits_for_election : (v : View) (word : ℕ) → IsSteady (elections.waits_for_election s v word)
  steady-waits_for_election v word = search (steady-if, steady-waits_until, Calm, Still)

  pub steady-pre_vote_reply : (v : View) (p : Id) (r : PreVoteReply) → IsSteady (elections.pre_vote_reply s v p r)
  steady-pre_vote_reply v p PreVoteAnswer = search (Calm, Still)
  steady-pre_vote_reply v p (PreVoteRefused leader) = search (Calm, Still)

  steady-goes_to_election : (v : View) (a : Added) → IsSteady (elections.goes_to_election s v a)
  steady-goes_to_election v Counted = Calm
  steady-goes_to_election v Fresher = Calm
  steady-goes_to_election v (Quorum term) = steady-stands_for_election v term

  pub steady-on_pre_vote_answer : (v : View) (round : Option Round) (p : Id) (term : ℕ) (last : StateId) → IsSteady (elections.on_pre_vote_answer s v round p term last)
  steady-on_pre_vote_answer v None p term last = Calm
  steady-on_pre_vote_answer v (Some r) p term last = search (steady-if, steady-goes_to_election, Calm, Still)

  pub steady-asks_peers : (v : View) → IsSteady (discovery.asks_peers s v)
  steady-asks_peers v = search (steady-if, steady-sends, Calm, Still)

  pub steady-checks_followers : (v : View) → IsSteady (checks.checks_followers s v)
  steady-checks_followers v = search (steady-append, steady-drops, steady-sends, Still)
