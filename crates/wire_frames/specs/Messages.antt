-- Part of the statement: the fields of each message.
use Rattle.std.specs.Prelude.{◌≡◌, ℕ, ◌≤◌, Bool, List, [], Option, Result, Ok}
use Rattle.voting_config.specs.Ids.{Id, most_ids}
use Rattle.cluster_state.specs.declared.fault.FieldError.{FieldError}
use Rattle.cluster_state.specs.declared.state.StateId.{StateId}
use Rattle.cluster_state.specs.Field.{Field, ◌>>=◌, flag, optional, ◌then◌, last_number}
use Rattle.cluster_state.specs.Fields.{term, id, ids}
pub use Rattle.cluster_state.specs.States.{state_id, IsFitId}
use Rattle.cluster_state.specs.States.{state, IsFit}
use Rattle.wire_frames.specs.declared.frame.Kind.{Kind}
use Rattle.wire_frames.specs.declared.frame.Kind.TheVariants as kind
use Rattle.wire_frames.specs.declared.frame.WireMessage.{WireMessage}
use Rattle.wire_frames.specs.declared.frame.WireMessage.TheVariants as message

abbrev pub start_join : Field (Id × ℕ)
start_join = id then term

-- a term, and the id of the last accepted state
abbrev pub term_and_last : Field (ℕ × StateId)
term_and_last = term then state_id

abbrev pub known_peers : Field (List Id)
known_peers = ids most_ids

abbrev pub peers_answer : Field ((Option Id) × (ℕ × List Id))
peers_answer = optional id then term then known_peers

abbrev pub follower_answer : Field (Bool × (ℕ × StateId))
follower_answer = flag then term then state_id

-- what reading gave, as a message
abbrev pub as_message : {A : Type 0} → (A → WireMessage) → Result (A × List ℕ) FieldError → Result (WireMessage × List ℕ) FieldError
as_message make read = read >>= λ x. Ok (make x.0, x.1)

-- the message of a kind at the start of bytes, and the bytes after it, or the first fault
abbrev pub message_at : Kind → List ℕ → Result (WireMessage × List ℕ) FieldError
message_at kind.StartJoin bytes = as_message (λ x. message.StartJoin x.0 x.1) (start_join.at bytes)
message_at kind.Join bytes = as_message (λ x. message.Join x.0 x.1) (term_and_last.at bytes)
message_at kind.Publish bytes = as_message (λ x. message.Publish x) (state.at bytes)
message_at kind.Response bytes = as_message (λ x. message.Response x) (state_id.at bytes)
message_at kind.Commit bytes = as_message (λ x. message.Commit x) (state_id.at bytes)
message_at kind.JoinAsk bytes = as_message (λ x. message.JoinAsk x) (term.at bytes)
message_at kind.PeersAsk bytes = as_message (λ x. message.PeersAsk x) (known_peers.at bytes)
message_at kind.PeersAnswer bytes = as_message (λ x. message.PeersAnswer x.0 x.1.0 x.1.1) (peers_answer.at bytes)
message_at kind.PreVoteAsk bytes = Ok (message.PreVoteAsk, bytes)
message_at kind.PreVoteAnswer bytes = as_message (λ x. message.PreVoteAnswer x.0 x.1) (term_and_last.at bytes)
message_at kind.PreVoteRefuse bytes = as_message (λ x. message.PreVoteRefuse x) (id.at bytes)
message_at kind.FollowerCheck bytes = as_message (λ x. message.FollowerCheck x) (term.at bytes)
message_at kind.FollowerAnswer bytes = as_message (λ x. message.FollowerAnswer x.0 x.1.0 x.1.1) (follower_answer.at bytes)
message_at kind.LeaderCheck bytes = as_message (λ x. message.LeaderCheck x) (term.at bytes)
message_at kind.LeaderAnswer bytes = as_message (λ x. message.LeaderAnswer x) (flag.at bytes)

-- the bytes of the message's fields
abbrev pub payload : WireMessage → List ℕ
payload (message.StartJoin candidate n) = start_join.spelling (candidate, n)
payload (message.Join n last) = term_and_last.spelling (n, last)
payload (message.Publish s) = state.spelling s
payload (message.Response s) = state_id.spelling s
payload (message.Commit s) = state_id.spelling s
payload (message.JoinAsk n) = term.spelling n
payload (message.PeersAsk known) = known_peers.spelling known
payload (message.PeersAnswer master n known) = peers_answer.spelling (master, (n, known))
payload message.PreVoteAsk = []
payload (message.PreVoteAnswer n last) = term_and_last.spelling (n, last)
payload (message.PreVoteRefuse leader) = id.spelling leader
payload (message.FollowerCheck n) = term.spelling n
payload (message.FollowerAnswer good n applied) = follower_answer.spelling (good, (n, applied))
payload (message.LeaderCheck n) = term.spelling n
payload (message.LeaderAnswer good) = flag.spelling good

-- which messages have a spelling
abbrev pub FitsMessage : WireMessage → Type 0
FitsMessage (message.StartJoin candidate n) = start_join.Fits (candidate, n)
FitsMessage (message.Join n last) = term_and_last.Fits (n, last)
FitsMessage (message.Publish s) = state.Fits s
FitsMessage (message.Response s) = state_id.Fits s
FitsMessage (message.Commit s) = state_id.Fits s
FitsMessage (message.JoinAsk n) = term.Fits n
FitsMessage (message.PeersAsk known) = known_peers.Fits known
FitsMessage (message.PeersAnswer master n known) = peers_answer.Fits (master, (n, known))
FitsMessage message.PreVoteAsk = Unit {0}
FitsMessage (message.PreVoteAnswer n last) = term_and_last.Fits (n, last)
FitsMessage (message.PreVoteRefuse leader) = id.Fits leader
FitsMessage (message.FollowerCheck n) = term.Fits n
FitsMessage (message.FollowerAnswer good n applied) = follower_answer.Fits (good, (n, applied))
FitsMessage (message.LeaderCheck n) = term.Fits n
FitsMessage (message.LeaderAnswer good) = flag.Fits good

-- the bytes are the message's fields
abbrev pub SpellsFields : WireMessage → List ℕ → Type 0
SpellsFields m bytes = FitsMessage m × (bytes ≡ payload m)

-- what a sender knows of its message: numbers to 2^62, a state within the limits
abbrev pub IsFitMessage : WireMessage → Type 0
IsFitMessage (message.StartJoin candidate n) = n ≤ last_number
IsFitMessage (message.Join n last) = (n ≤ last_number) × IsFitId last
IsFitMessage (message.Publish s) = IsFit s
IsFitMessage (message.Response s) = IsFitId s
IsFitMessage (message.Commit s) = IsFitId s
IsFitMessage (message.JoinAsk n) = n ≤ last_number
IsFitMessage (message.PeersAsk known) = Unit {0}
IsFitMessage (message.PeersAnswer master n known) = n ≤ last_number
IsFitMessage message.PreVoteAsk = Unit {0}
IsFitMessage (message.PreVoteAnswer n last) = (n ≤ last_number) × IsFitId last
IsFitMessage (message.PreVoteRefuse leader) = Unit {0}
IsFitMessage (message.FollowerCheck n) = n ≤ last_number
IsFitMessage (message.FollowerAnswer good n applied) = (n ≤ last_number) × IsFitId applied
IsFitMessage (message.LeaderCheck n) = n ≤ last_number
IsFitMessage (message.LeaderAnswer good) = Unit {0}
