-- All nodes' acts, each list by its node, where each message that a node takes was sent by the node that it names.
use Rattle.std.proofs.Common.{◌≡◌, ◌≢◌, ℕ, ◌≤◌, ◌<◌, Bool, true, false, cond, None, Some, [], refl, sym, subst, ◌⊎◌, inl, inr}
use Rattle.voting_config.specs.Ids.{Id, with_id, is_quorum_of}
use Rattle.cluster_state.specs.declared.state.ClusterState.{ClusterState}
use Rattle.cluster_state.specs.declared.state.Kept.{Kept}
use Rattle.cluster_state.specs.declared.messages.Join.{Join}
use Rattle.cluster_state.specs.declared.messages.PublishRequest.{PublishRequest}
use Rattle.cluster_state.specs.declared.messages.PublishResponse.{PublishResponse}
use Rattle.cluster_state.specs.declared.messages.ApplyCommit.{ApplyCommit}
use Rattle.world_model.specs.Acts.{Act, Outcome, NodeHistory, Message, Bootstrap, StartJoin, TakeJoin, Value, Publish, Response, Commit, Open, NoActs, Then, Taken, Answered, JoinMessage, PublishMessage, ResponseMessage, CommitMessage, is_first}
use Rattle.world_model.specs.NodeState.{node_state, term_of, accepted_of, committed_of, join_votes_of, election_won_of, published_version_of, publish_votes_of, halted_of, durable_of, initial_state, empty_state}
use Rattle.world_model.specs.Replies.{id_of, commits, reply_of}
use Rattle.world_model.specs.Histories.{is_down, is_opening, MayFollow}
use Rattle.world_model.proofs.Guards.{Responded, boot_guard, start_guard, join_guard, value_guard, publish_guard, response_guard, commit_guard}
use Rattle.world_model.proofs.Moments.{Begins, IsSent}

-- the record that a node is first opened with: it has accepted the empty state or root
pub record IsGround (root : ClusterState) (found : Kept) : Type 0 where
  pub accepted : (found.accepted ≡ empty_state) ⊎ ((found.accepted ≡ root) × (root.config ≢ []))
  pub older : found.accepted.term ≤ found.term
  pub held : found.accepted ≡ root → (found.committed ≡ root.committed) ⊎ (found.committed ≡ root.config)

-- an opening finds what the node keeps, and the first one finds a ground
abbrev pub Opens : ClusterState → NodeHistory → Act → Type 0
Opens root g (Open found) = cond (is_first g) (IsGround root found) (found ≡ durable_of g)
Opens root g (Bootstrap config) = Unit {0}
Opens root g (StartJoin candidate term) = Unit {0}
Opens root g (TakeJoin join) = Unit {0}
Opens root g (Value version config value) = Unit {0}
Opens root g (Publish request) = Unit {0}
Opens root g (Response response) = Unit {0}
Opens root g (Commit commit) = Unit {0}

-- the message was sent by the node that it names; if that is the node itself, then before it takes it
pub record IsFrom (D : Id → NodeHistory) (me : Id) (g : NodeHistory) (source : Id) (message : Message) : Type 0 where
  pub is_sent : IsSent (D source) message
  pub own : source ≡ me → IsSent g message

abbrev pub Sourced : (Id → NodeHistory) → ClusterState → Id → NodeHistory → Act → Type 0
Sourced D root me g (Bootstrap config) = (initial_state config ≡ root) × (config ≢ [])
Sourced D root me g (TakeJoin join) = IsFrom D me g join.source (JoinMessage join)
Sourced D root me g (Publish request) = IsFrom D me g request.source (PublishMessage request)
Sourced D root me g (Response response) = IsFrom D me g response.source (ResponseMessage response)
Sourced D root me g (Commit commit) = IsFrom D me g commit.source (CommitMessage commit)
Sourced D root me g (StartJoin candidate term) = Unit {0}
Sourced D root me g (Value version config value) = Unit {0}
Sourced D root me g (Open found) = Unit {0}

-- what a node of this system may do next
pub record MayAct (D : Id → NodeHistory) (root : ClusterState) (me : Id) (g : NodeHistory) (act : Act) (outcome : Outcome) : Type 0 where
  pub follows : MayFollow me g act outcome
  pub opens : Opens root g act
  pub sourced : Sourced D root me g act

-- what a node of this system may have done
abbrev pub IsExecution : (Id → NodeHistory) → ClusterState → Id → NodeHistory → Type 0
IsExecution D root me NoActs = Unit {0}
IsExecution D root me (Then g act outcome) = IsExecution D root me g × MayAct D root me g act outcome

-- each node of the system did what it may
abbrev pub IsSystem : (Id → NodeHistory) → ClusterState → Type 0
IsSystem D root = (n : Id) → IsExecution D root n (D n)

pub execution_before : (D : Id → NodeHistory) (root : ClusterState) (me : Id) (p g : NodeHistory) → IsExecution D root me g → Begins p g → IsExecution D root me p
execution_before D root me p NoActs f h = subst (λ (x : NodeHistory). IsExecution D root me x) (sym h) f
execution_before D root me p (Then g act o) f (inl e) = subst (λ (x : NodeHistory). IsExecution D root me x) (sym e) f
execution_before D root me p (Then g act o) f (inr h) = execution_before D root me p g f.0 h

-- the node runs: its disk has not failed and it has not crashed, or it was opened since
pub record IsUp (g : NodeHistory) : Type 0 where
  pub runs : halted_of g ≡ false
  pub alive : is_down g ≡ false

-- a node that takes an act, other than an opening, runs
pub taken_up : (me : Id) (g : NodeHistory) (act : Act) (o : Outcome) → MayFollow me g act o → is_opening act ≡ false → halted_of g ≡ false → IsUp g
taken_up me g act o m h runs =
    let alive : is_down g ≡ false = true_or (is_down g) m.up in
    record { runs = runs; alive = alive }
  where
    true_or : (b : Bool) → (b ≡ true → is_opening act ≡ true) → b ≡ false
    true_or true k = cc (k refl)
    true_or false k = refl

-- Where a message comes from.

pub record JoinBy (me : Id) (g : NodeHistory) (j : Join) (act : Act) : Type 0 where
  pub act_is : act ≡ StartJoin j.target j.term
  pub source_is : j.source ≡ me
  pub runs : halted_of g ≡ false
  pub above : term_of g < j.term
  pub last_term_is : j.last_term ≡ (accepted_of g).term
  pub last_version_is : j.last_version ≡ (accepted_of g).version

pub record PublishBy (me : Id) (g : NodeHistory) (r : PublishRequest) (act : Act) : Type 0 where
  pub act_is : act ≡ Value r.state.version r.state.config r.state.value
  pub source_is : r.source ≡ me
  pub runs : halted_of g ≡ false
  pub term_is : r.state.term ≡ term_of g
  pub parent_is : r.state.parent ≡ Some (id_of (accepted_of g))
  pub committed_is : r.state.committed ≡ committed_of g
  pub won : election_won_of g ≡ true
  pub settled : published_version_of g ≡ (accepted_of g).version
  pub above : published_version_of g < r.state.version
  pub steady : (r.state.config ≡ (accepted_of g).config) ⊎ (committed_of g ≡ (accepted_of g).config)
  pub quorum : is_quorum_of r.state.config (join_votes_of g) ≡ true

pub record ResponseBy (me : Id) (g : NodeHistory) (r : PublishResponse) (act : Act) : Type 0 where
  pub request : PublishRequest
  pub act_is : act ≡ Publish request
  pub source_is : r.source ≡ me
  pub runs : halted_of g ≡ false
  pub target_is : r.target ≡ request.source
  pub term_is : r.term ≡ request.state.term
  pub version_is : r.version ≡ request.state.version

pub record CommitBy (me : Id) (g : NodeHistory) (c : ApplyCommit) (act : Act) : Type 0 where
  pub response : PublishResponse
  pub act_is : act ≡ Response response
  pub source_is : c.source ≡ me
  pub runs : halted_of g ≡ false
  pub term_is : c.term ≡ term_of g
  pub version_is : c.version ≡ published_version_of g
  pub won : election_won_of g ≡ true
  pub response_is : response ≡ record { source = response.source; target = me; term = term_of g; version = published_version_of g }
  pub quorum : commits (node_state g) (with_id response.source (publish_votes_of g)) ≡ true

abbrev pub Origin : Id → NodeHistory → Act → Message → Type 0
Origin me g act (JoinMessage j) = JoinBy me g j act
Origin me g act (PublishMessage r) = PublishBy me g r act
Origin me g act (ResponseMessage r) = ResponseBy me g r act
Origin me g act (CommitMessage c) = CommitBy me g c act

unsent : {A : Type 0} (m : Message) → Some m ≡ None → A
unsent m e = cc

some_is : (m n : Message) → Some m ≡ Some n → n ≡ m
some_is m n e = cc

response_is : (r : PublishResponse) (me : Id) (t v : ℕ) → r.target ≡ me → r.term ≡ t → r.version ≡ v → r ≡ record { source = r.source; target = me; term = t; version = v }
response_is r me t v p q u = λ i. record { source = r.source; target = p i; term = q i; version = u i }

-- each message that is sent has its act
pub origin : (me : Id) (g : NodeHistory) (act : Act) (m : Message) (w : Bool) → Taken (Some m) w ≡ reply_of me g act → Origin me g act m
origin me g (Bootstrap config) m w h = unsent m (boot_guard me g config _ w h).sends
origin me g (StartJoin candidate term) m w h =
    let k = start_guard me g candidate term _ w h in
    subst (λ (y : Message). Origin me g (StartJoin candidate term) y) (some_is _ _ k.sends)
    (record { act_is = refl; source_is = refl; runs = k.runs; above = k.above; last_term_is = refl; last_version_is = refl })
origin me g (TakeJoin j) m w h = unsent m (join_guard me g j _ w h).sends
origin me g (Value v c x) m w h =
    let k = value_guard me g v c x _ w h in
    subst (λ (y : Message). Origin me g (Value v c x) y) (some_is _ _ k.sends)
    (record { act_is = refl; source_is = refl; runs = k.runs; term_is = refl; parent_is = refl; committed_is = refl; won = k.won; settled = k.settled; above = k.above; steady = k.steady; quorum = k.quorum })
origin me g (Publish r) m w h =
    let k = publish_guard me g r _ w h in
    subst (λ (y : Message). Origin me g (Publish r) y) (some_is _ _ k.sends)
    (record { request = r; act_is = refl; source_is = refl; runs = k.runs; target_is = refl; term_is = refl; version_is = refl })
origin me g (Response r) m w h =
    let k = response_guard me g r _ w h in
    committed (commits (node_state g) (with_id r.source (publish_votes_of g))) refl k k.sends
  where
    committed : (b : Bool) → commits (node_state g) (with_id r.source (publish_votes_of g)) ≡ b → Responded me g r (Some m) w
        → Some m ≡ cond b (Some (CommitMessage (record { source = me; term = r.term; version = r.version }))) None → Origin me g (Response r) m
    committed true e k s =
        subst (λ (y : Message). Origin me g (Response r) y) (some_is _ _ s)
        (record {
          response = r;
          act_is = refl;
          source_is = refl;
          runs = k.runs;
          term_is = k.now;
          version_is = k.current;
          won = k.won;
          response_is = response_is r me (term_of g) (published_version_of g) k.mine k.now k.current;
          quorum = e;
        })
    committed false e k s = unsent m s
origin me g (Commit c) m w h = unsent m (commit_guard me g c _ w h).sends
origin me g (Open found) m w h = cc

-- a message that was sent, with the moment before it
pub record SentAt (D : Id → NodeHistory) (root : ClusterState) (me : Id) (g : NodeHistory) (m : Message) : Type 0 where
  pub before : NodeHistory
  pub act : Act
  pub flag : Bool
  pub is_in : Begins (Then before act (Answered (Taken (Some m) flag))) g
  pub execution : IsExecution D root me before
  pub may : MayAct D root me before act (Answered (Taken (Some m) flag))
  pub origin_is : Origin me before act m

pub sent_at : (D : Id → NodeHistory) (root : ClusterState) (me : Id) (g : NodeHistory) (m : Message) → IsExecution D root me g → IsSent g m → SentAt D root me g m
sent_at D root me g m f s =
    let both = execution_before D root me _ g f s.is_in in
    record {
      before = s.before;
      act = s.act;
      flag = s.flag;
      is_in = s.is_in;
      execution = both.0;
      may = both.1;
      origin_is = origin me s.before s.act m s.flag both.1.follows.follows;
    }
