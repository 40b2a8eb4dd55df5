-- The test of two messages tells whether they are equal.
use Rattle.std.proofs.Common.{◌≡◌, ◌<◌, ℕ, zero, suc, Bool, true, ◌||◌, Option, None, Some, List, [], ◌∷◌, length, refl, sym, ap, subst, arith, nat_eq}
use Rattle.std.specs.List.{Contains, slice_index_or}
use Rattle.std.proofs.lemmas.Bool.{and_parts, and_from, or_right, eqb-true, eq-eqb}
use Rattle.std.proofs.lemmas.Map.Views.{Contains-from_any}
use Rattle.voting_config.specs.Ids.{Id, same_config}
use Rattle.voting_config.proofs.Sets.{same_self, same_is, same_config_is}
use Rattle.cluster_state.specs.declared.state.ClusterState.{ClusterState}
use Rattle.cluster_state.specs.declared.state.StateId.{StateId}
use Rattle.cluster_state.specs.StateIds.{is_same_state}
use Rattle.cluster_state.specs.declared.messages.Join.{Join}
use Rattle.cluster_state.specs.declared.messages.PublishRequest.{PublishRequest}
use Rattle.cluster_state.specs.declared.messages.PublishResponse.{PublishResponse}
use Rattle.cluster_state.specs.declared.messages.ApplyCommit.{ApplyCommit}
use Rattle.cluster_state.proofs.Sameness.{same_value-says, same_value-itself}
use Rattle.world_model.specs.declared.acts.Message.{Message}
use Rattle.world_model.specs.declared.acts.Message.TheVariants.{Join as JoinMessage, Publish as PublishMessage, Response as ResponseMessage, Commit as CommitMessage}
use Rattle.trace_audit.specs.Messages.{same_parent, same_state, same_join, same_request, same_response, same_commit, same_message, is_among}

number_is : (x y : ℕ) → nat_eq x y ≡ true → x ≡ y
number_is x y e = eqb-true x y e

number_self : (x : ℕ) → nat_eq x x ≡ true
number_self x = eq-eqb x x refl

pub config_self : (xs : List Id) → same_config xs xs ≡ true
config_self [] = refl
config_self (x ∷ xs) = and_from _ _ (same_self x) (config_self xs)

id_is : (x y : StateId) → is_same_state x y ≡ true → x ≡ y
id_is x y h =
    let p = and_parts _ _ h in
    let term = number_is x.term y.term p.0 in
    let version = number_is x.version y.version p.1 in
    λ i. record { term = term i; version = version i }

parent_is : (x y : Option StateId) → same_parent x y ≡ true → x ≡ y
parent_is None None h = refl
parent_is None (Some y) h = absurd cc
parent_is (Some x) None h = absurd cc
parent_is (Some x) (Some y) h = ap Some (id_is x y h)

parent_self : (x : Option StateId) → same_parent x x ≡ true
parent_self None = refl
parent_self (Some x) = and_from _ _ (number_self x.term) (number_self x.version)

state_is : (a b : ClusterState) → same_state a b ≡ true → a ≡ b
state_is a b h =
    let p = and_parts _ _ h in
    let q = and_parts _ _ p.0 in
    let r = and_parts _ _ q.0 in
    let s = and_parts _ _ r.0 in
    let t = and_parts _ _ s.0 in
    let term = number_is a.term b.term t.0 in
    let version = number_is a.version b.version t.1 in
    let parent = parent_is a.parent b.parent s.1 in
    let config = same_config_is a.config b.config r.1 in
    let committed = same_config_is a.committed b.committed q.1 in
    let value = same_value-says a.value b.value p.1 in
    λ i. record { term = term i; version = version i; parent = parent i; config = config i; committed = committed i; value = value i }

state_self : (a : ClusterState) → same_state a a ≡ true
state_self a =
    and_from _ _ (and_from _ _ (and_from _ _ (and_from _ _ (and_from _ _ (number_self a.term) (number_self a.version)) (parent_self a.parent)) (config_self a.config)) (config_self a.committed))
    (same_value-itself a.value)

pub join_is : (a b : Join) → same_join a b ≡ true → a ≡ b
join_is a b h =
    let p = and_parts _ _ h in
    let q = and_parts _ _ p.0 in
    let r = and_parts _ _ q.0 in
    let s = and_parts _ _ r.0 in
    let source = same_is a.source b.source s.0 in
    let target = same_is a.target b.target s.1 in
    let term = number_is a.term b.term r.1 in
    let last_term = number_is a.last_term b.last_term q.1 in
    let last_version = number_is a.last_version b.last_version p.1 in
    λ i. record { source = source i; target = target i; term = term i; last_term = last_term i; last_version = last_version i }

pub join_self : (a : Join) → same_join a a ≡ true
join_self a = and_from _ _ (and_from _ _ (and_from _ _ (and_from _ _ (same_self a.source) (same_self a.target)) (number_self a.term)) (number_self a.last_term)) (number_self a.last_version)

pub request_is : (a b : PublishRequest) → same_request a b ≡ true → a ≡ b
request_is a b h =
    let p = and_parts _ _ h in
    let source = same_is a.source b.source p.0 in
    let state = state_is a.state b.state p.1 in
    λ i. record { source = source i; state = state i }

pub request_self : (a : PublishRequest) → same_request a a ≡ true
request_self a = and_from _ _ (same_self a.source) (state_self a.state)

pub response_is : (a b : PublishResponse) → same_response a b ≡ true → a ≡ b
response_is a b h =
    let p = and_parts _ _ h in
    let q = and_parts _ _ p.0 in
    let r = and_parts _ _ q.0 in
    let source = same_is a.source b.source r.0 in
    let target = same_is a.target b.target r.1 in
    let term = number_is a.term b.term q.1 in
    let version = number_is a.version b.version p.1 in
    λ i. record { source = source i; target = target i; term = term i; version = version i }

pub response_self : (a : PublishResponse) → same_response a a ≡ true
response_self a = and_from _ _ (and_from _ _ (and_from _ _ (same_self a.source) (same_self a.target)) (number_self a.term)) (number_self a.version)

pub commit_is : (a b : ApplyCommit) → same_commit a b ≡ true → a ≡ b
commit_is a b h =
    let p = and_parts _ _ h in
    let q = and_parts _ _ p.0 in
    let source = same_is a.source b.source q.0 in
    let term = number_is a.term b.term q.1 in
    let version = number_is a.version b.version p.1 in
    λ i. record { source = source i; term = term i; version = version i }

pub commit_self : (a : ApplyCommit) → same_commit a a ≡ true
commit_self a = and_from _ _ (and_from _ _ (same_self a.source) (number_self a.term)) (number_self a.version)

pub message_is : (a b : Message) → same_message a b ≡ true → a ≡ b
message_is (JoinMessage a) (JoinMessage b) h = ap JoinMessage (join_is a b h)
message_is (PublishMessage a) (PublishMessage b) h = ap PublishMessage (request_is a b h)
message_is (ResponseMessage a) (ResponseMessage b) h = ap ResponseMessage (response_is a b h)
message_is (CommitMessage a) (CommitMessage b) h = ap CommitMessage (commit_is a b h)
message_is (JoinMessage a) (PublishMessage b) h = absurd cc
message_is (JoinMessage a) (ResponseMessage b) h = absurd cc
message_is (JoinMessage a) (CommitMessage b) h = absurd cc
message_is (PublishMessage a) (JoinMessage b) h = absurd cc
message_is (PublishMessage a) (ResponseMessage b) h = absurd cc
message_is (PublishMessage a) (CommitMessage b) h = absurd cc
message_is (ResponseMessage a) (JoinMessage b) h = absurd cc
message_is (ResponseMessage a) (PublishMessage b) h = absurd cc
message_is (ResponseMessage a) (CommitMessage b) h = absurd cc
message_is (CommitMessage a) (JoinMessage b) h = absurd cc
message_is (CommitMessage a) (PublishMessage b) h = absurd cc
message_is (CommitMessage a) (ResponseMessage b) h = absurd cc

pub message_self : (a : Message) → same_message a a ≡ true
message_self (JoinMessage a) = join_self a
message_self (PublishMessage a) = request_self a
message_self (ResponseMessage a) = response_self a
message_self (CommitMessage a) = commit_self a

-- ---- among messages

pub among_contains : (ms : List Message) (m : Message) → is_among ms m ≡ true → Contains ms m
among_contains ms m h = Contains-from_any message_is m ms h

any_at : (ms : List Message) (m : Message) (k : ℕ) → k < length ms → slice_index_or ms k m ≡ m → is_among ms m ≡ true
any_at [] m k lt e = absurd (omega (arith, lt))
any_at (x ∷ xs) m zero lt e =
    let here : same_message m x ≡ true = subst (λ (y : Message). same_message m y ≡ true) (sym e) (message_self m) in
    ap (λ (b : Bool). b || is_among xs m) here
any_at (x ∷ xs) m (suc k) lt e = or_right (same_message m x) _ (any_at xs m k (omega (arith, lt)) e)

pub contains_among : (ms : List Message) (m : Message) → Contains ms m → is_among ms m ≡ true
contains_among ms m c = any_at ms m c.0 c.1 c.2
