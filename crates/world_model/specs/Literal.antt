-- For the contracts inside: what a node is after its acts, defined word by word: the last, the greatest, the sources of. The look-backs of
-- NodeState are this.
use Rattle.std.specs.Prelude.{◌≡◌, ℕ, max, Bool, true, false, cond, ◌&&◌, ◌||◌, Option, None, Some, List, [], ◌∷◌}
use Rattle.std.specs.Option.{unwrap_or, option_or, option_map_or, is_some}
use Rattle.voting_config.specs.Ids.{Id, has, set_of}
use Rattle.cluster_state.specs.declared.state.ClusterState.{ClusterState}
use Rattle.cluster_state.specs.declared.state.Kept.{Kept}
use Rattle.world_model.specs.Acts.{Act, Outcome, NodeHistory, Bootstrap, StartJoin, TakeJoin, Value, Publish, Response, Commit, Open, NoActs, Then, is_ok, is_effective, wins, is_disk, is_first}
use Rattle.world_model.specs.NodeState.{NodeState, node_state, durable_of, initial_state, empty_record, started_join_of, halted_of}
use Rattle.world_model.specs.Histories.{IsLocal}

-- Words for the acts of a node. A test passes an act with its outcome or not, and a reader finds something in it or not.

-- some act passes
abbrev pub any : (Act → Outcome → Bool) → NodeHistory → Bool
any test NoActs = false
any test (Then g act o) = test act o || any test g

-- the acts after the last one that passes, or all of them
abbrev pub after_last : (Act → Outcome → Bool) → NodeHistory → NodeHistory
after_last test NoActs = NoActs
after_last test (Then g act o) = cond (test act o) NoActs (Then (after_last test g) act o)

-- the acts before the last one that passes
abbrev pub before_last : (Act → Outcome → Bool) → NodeHistory → NodeHistory
before_last test NoActs = NoActs
before_last test (Then g act o) = cond (test act o) g (before_last test g)

-- the last thing found
abbrev pub last : {A : Type 0} → (Act → Outcome → Option A) → NodeHistory → Option A
last read NoActs = None
last read (Then g act o) = option_or (read act o) (last read g)

-- all things found
abbrev pub all : {A : Type 0} → (Act → Outcome → Option A) → NodeHistory → List A
all read NoActs = []
all read (Then g act o) = option_map_or (λ x. x ∷ all read g) (read act o) (all read g)

-- something is found
abbrev pub has_a : {A : Type 0} → (Act → Outcome → Option A) → Act → Outcome → Bool
has_a read act o = is_some (read act o)

abbrev pub greatest : List ℕ → ℕ
greatest [] = 0
greatest (x ∷ xs) = max x (greatest xs)

-- What is looked for.

abbrev pub opening : Act → Outcome → Bool
opening (Open found) o = true
opening act o = false

abbrev pub disk_fault : Act → Outcome → Bool
disk_fault act o = is_disk o

abbrev pub ok_start : Act → Outcome → Bool
ok_start (StartJoin candidate term) o = is_ok o
ok_start act o = false

abbrev pub winning_join : Act → Outcome → Bool
winning_join (TakeJoin join) o = wins o
winning_join act o = false

abbrev pub effective_commit : Act → Outcome → Bool
effective_commit (Commit commit) o = is_effective o
effective_commit act o = false

-- the term of an effective StartJoin
abbrev pub effective_start : Act → Outcome → Option ℕ
effective_start (StartJoin candidate term) o = cond (is_effective o) (Some term) None
effective_start act o = None

-- the state of an effective Publish or Bootstrap
abbrev pub effective_state : Act → Outcome → Option ClusterState
effective_state (Bootstrap config) o = cond (is_effective o) (Some (initial_state config)) None
effective_state (Publish request) o = cond (is_effective o) (Some request.state) None
effective_state act o = None

-- the source of an Ok Join
abbrev pub ok_join : Act → Outcome → Option Id
ok_join (TakeJoin join) o = cond (is_ok o) (Some join.source) None
ok_join act o = None

-- the source of an Ok Response
abbrev pub ok_response : Act → Outcome → Option Id
ok_response (Response response) o = cond (is_ok o) (Some response.source) None
ok_response act o = None

pub record Proposal : Type 0 where
  pub version : ℕ
  pub config : List Id

-- the version and the configuration of an Ok Value
abbrev pub ok_value : Act → Outcome → Option Proposal
ok_value (Value version config value) o = cond (is_ok o) (Some (record { version = version; config = config })) None
ok_value act o = None

-- The definitions.

-- the acts since the last opening, or all of them
abbrev pub live_of : NodeHistory → NodeHistory
live_of g = after_last opening g

-- the record of an opening that is the first act, else the empty record
abbrev pub first_record : NodeHistory → Kept
first_record NoActs = empty_record
first_record (Then g (Open found) o) = cond (is_first g) found (first_record g)
first_record (Then g act o) = first_record g

-- the greatest of the first record's term and the terms of the effective StartJoins
abbrev pub literal_term : NodeHistory → ℕ
literal_term g = greatest ((first_record g).term ∷ all effective_start g)

-- the state of the last effective Publish or Bootstrap, else the first record's
abbrev pub literal_accepted : NodeHistory → ClusterState
literal_accepted g = unwrap_or (last effective_state g) (first_record g).accepted

-- the accepted configuration where an effective Commit follows that Publish or Bootstrap (or the first record), else the committed one of
-- its state (or the first record's)
abbrev pub literal_committed : NodeHistory → List Id
literal_committed g =
    let came = option_map_or (λ (s : ClusterState). s.committed) (last effective_state g) (first_record g).committed in
    cond (any effective_commit (after_last (has_a effective_state) g)) (literal_accepted g).config came

-- where there is a live Ok StartJoin there is a round, and it is the acts after the last one
abbrev pub has_round : NodeHistory → Bool
has_round g = any ok_start (live_of g)

abbrev pub round_of : NodeHistory → NodeHistory
round_of g = after_last ok_start (live_of g)

-- the sources of the round's Ok Joins
abbrev pub literal_join_votes : NodeHistory → List Id
literal_join_votes g = cond (has_round g) (set_of (all ok_join (round_of g))) []

-- a Join of the round has the wins flag
abbrev pub literal_election_won : NodeHistory → Bool
literal_election_won g = has_round g && any winning_join (round_of g)

-- the accepted version at the round's winning Join, 0 before it
abbrev pub version_at_win : NodeHistory → ℕ
version_at_win g = cond (literal_election_won g) (literal_accepted (before_last winning_join g)).version 0

-- the accepted configuration at the round's StartJoin
abbrev pub config_at_start : NodeHistory → List Id
config_at_start g = (literal_accepted (before_last ok_start g)).config

-- the round's last Ok Value; without one, those; with no round, 0 and the empty configuration
abbrev pub literal_published : NodeHistory → Proposal
literal_published g =
    cond (has_round g)
    (unwrap_or (last ok_value (round_of g)) (record { version = version_at_win g; config = config_at_start g }))
    (record { version = 0; config = [] })

-- the sources of the round's Ok Responses after its last Ok Value, or of all where there is none
abbrev pub literal_publish_votes : NodeHistory → List Id
literal_publish_votes g = cond (has_round g) (set_of (all ok_response (after_last (has_a ok_value) (round_of g)))) []

-- there is a live Disk outcome
abbrev pub literal_halted : NodeHistory → Bool
literal_halted g = any disk_fault (live_of g)

abbrev pub literal_durable : NodeHistory → Kept
literal_durable g = record { term = literal_term g; accepted = literal_accepted g; committed = literal_committed g }

abbrev pub literal_state : NodeHistory → NodeState
literal_state g = record {
  term = literal_term g;
  accepted = literal_accepted g;
  committed = literal_committed g;
  started_join = has_round g;
  join_votes = literal_join_votes g;
  election_won = literal_election_won g;
  published_version = (literal_published g).version;
  published_config = (literal_published g).config;
  publish_votes = literal_publish_votes g;
  halted = literal_halted g;
}

-- The laws.

-- of any acts at all
pub record KeepsLiterally (g : NodeHistory) : Type 0 where
  pub durable : durable_of g ≡ literal_durable g
  pub started_join : started_join_of g ≡ has_round g
  pub halted : halted_of g ≡ literal_halted g

abbrev pub LawLiteralKept : Type 0
LawLiteralKept = (g : NodeHistory) → KeepsLiterally g

-- of acts that follow each other: what the node is, looked up by recursion, is what the definitions say
abbrev pub LawLiteral : Type 0
LawLiteral = (me : Id) (g : NodeHistory) → IsLocal me g → node_state g ≡ literal_state g

-- the set of the ids has those ids
abbrev pub LawSet : Type 0
LawSet = (x : Id) (ids : List Id) → has x (set_of ids) ≡ has x ids
