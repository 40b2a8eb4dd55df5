-- What an act that was taken says of the node that took it: each test of its reply, told once.
use Rattle.std.proofs.Common.{◌≡◌, ◌≢◌, ℕ, ◌≤◌, ◌<◌, Bool, true, false, cond, not, ◌&&◌, Option, None, Some, Result, Ok, Err, List, [], ◌∷◌, refl, sym, arith, ◌⊎◌, inl, inr, nat_le, nat_lt, nat_eq}
use Rattle.std.proofs.lemmas.Bool.{and_cases, not-false, leb-false, ltb-false, eqb-true}
use Rattle.std.proofs.lemmas.Bool.Decides.{nat_tests}
use Rattle.cluster_state.specs.Field.{last_number}
use Rattle.voting_config.specs.Ids.{Id, with_id, is_quorum_of, same_config}
use Rattle.voting_config.proofs.Sets.{same_is, same_config_is}
use Rattle.cluster_state.specs.declared.state.ClusterValue.{ClusterValue}
use Rattle.cluster_state.specs.declared.messages.Join.{Join}
use Rattle.cluster_state.specs.declared.messages.PublishRequest.{PublishRequest}
use Rattle.cluster_state.specs.declared.messages.PublishResponse.{PublishResponse}
use Rattle.cluster_state.specs.declared.messages.ApplyCommit.{ApplyCommit}
use Rattle.world_model.specs.Acts.{Act, Outcome, NodeHistory, ActReply, Message, Cause, Bootstrap, StartJoin, TakeJoin, Value, Publish, Response, Commit, Taken, Refused, Stopped, Answered, Disk, Crashed, JoinMessage, PublishMessage, ResponseMessage, StartRefused, JoinRefused, is_effective}
use Rattle.world_model.specs.NodeState.{node_state, term_of, accepted_of, committed_of, started_join_of, join_votes_of, election_won_of, published_version_of, halted_of}
use Rattle.world_model.specs.Safety.{IsIdAtMost}
use Rattle.world_model.specs.Replies.{id_of, is_empty, elects, reply_of, is_taken, join_checked, after_check, IsOutcome, commit_sent}

-- past a test that refuses
pub past : (b : Bool) (c : Cause) (r : ActReply) (s : Option Message) (w : Bool) → Taken s w ≡ cond b (Refused c) r → (b ≡ false) × (Taken s w ≡ r)
past true c r s w h = cc
past false c r s w h = (refl, h)

-- past the test for a halted node
running : (b : Bool) (r : ActReply) (s : Option Message) (w : Bool) → Taken s w ≡ cond b Stopped r → (b ≡ false) × (Taken s w ≡ r)
running true r s w h = cc
running false r s w h = (refl, h)

-- past a check
passed : {C : Type 0} (b : Bool) (c : C) (r : Result (Unit {0}) C) → Ok tt ≡ cond b (Err c) r → (b ≡ false) × (Ok tt ≡ r)
passed true c r h = cc
passed false c r h = (refl, h)

checked : {C : Type 0} (cause_of : C → Cause) (r : Result (Unit {0}) C) (q : ActReply) (s : Option Message) (w : Bool) → Taken s w ≡ after_check cause_of r q → (Ok tt ≡ r) × (Taken s w ≡ q)
checked cause_of (Ok u) q s w h = (refl, h)
checked cause_of (Err c) q s w h = cc

sends_is : (s t : Option Message) (w v : Bool) → Taken s w ≡ Taken t v → s ≡ t
sends_is s t w v h = cc

flag_is : (s t : Option Message) (w v : Bool) → Taken s w ≡ Taken t v → w ≡ v
flag_is s t w v h = cc

empty_is : (ids : List Id) → is_empty ids ≡ true → ids ≡ []
empty_is [] h = refl
empty_is (x ∷ xs) h = cc

some_is : (ids : List Id) → is_empty ids ≡ false → ids ≢ []
some_is [] h e = cc
some_is (x ∷ xs) h e = cc

pub as_taken : (r : ActReply) → is_taken r ≡ true → (s : Option Message) × (w : Bool) × (Taken s w ≡ r)
as_taken (Taken s w) h = (s, w, refl)
as_taken (Refused c) h = cc
as_taken Stopped h = cc

-- an act that was kept would be taken
pub kept_is_taken : (me : Id) (g : NodeHistory) (act : Act) (o : Outcome) → IsOutcome me g act o → is_effective o ≡ true → (s : Option Message) × (w : Bool) × (Taken s w ≡ reply_of me g act)
kept_is_taken me g act (Answered (Taken s w)) h k = (s, w, h)
kept_is_taken me g act (Answered (Refused c)) h k = cc
kept_is_taken me g act (Answered Stopped) h k = cc
kept_is_taken me g act (Disk kept) h k = as_taken _ h.0
kept_is_taken me g act (Crashed kept) h k = as_taken _ h.0

pub record Booted (g : NodeHistory) (config : List Id) (s : Option Message) (w : Bool) : Type 0 where
  pub flag : w ≡ false
  pub runs : halted_of g ≡ false
  pub sends : s ≡ None
  pub empty : (accepted_of g).config ≡ []
  pub named : config ≢ []

pub boot_guard : (me : Id) (g : NodeHistory) (config : List Id) (s : Option Message) (w : Bool) → Taken s w ≡ reply_of me g (Bootstrap config) → Booted g config s w
boot_guard me g config s w h =
    let a = running _ _ _ _ h in
    let b = past _ _ _ _ _ a.1 in
    let c = past _ _ _ _ _ b.1 in
    record { flag = flag_is _ _ _ _ c.1; runs = a.0; sends = sends_is _ _ _ _ c.1; empty = empty_is _ (not-false _ b.0); named = some_is _ c.0 }

pub record Started (me : Id) (g : NodeHistory) (candidate : Id) (term : ℕ) (s : Option Message) (w : Bool) : Type 0 where
  pub flag : w ≡ false
  pub runs : halted_of g ≡ false
  pub above : term_of g < term
  pub below : term ≤ last_number
  pub sends : s ≡ Some (JoinMessage (record { source = me; target = candidate; term = term; last_term = (accepted_of g).term; last_version = (accepted_of g).version }))

pub start_guard : (me : Id) (g : NodeHistory) (candidate : Id) (term : ℕ) (s : Option Message) (w : Bool) → Taken s w ≡ reply_of me g (StartJoin candidate term) → Started me g candidate term s w
start_guard me g candidate term s w h =
    let a = running _ _ _ _ h in
    let b = checked StartRefused _ _ _ _ a.1 in
    let c = passed _ _ _ b.0 in
    let d = passed _ _ _ c.1 in
    record { flag = flag_is _ _ _ _ b.1; runs = a.0; above = leb-false _ _ c.0; below = ltb-false _ _ d.0; sends = sends_is _ _ _ _ b.1 }

pub record Joined (me : Id) (g : NodeHistory) (j : Join) (s : Option Message) (w : Bool) : Type 0 where
  pub runs : halted_of g ≡ false
  pub mine : j.target ≡ me
  pub now : j.term ≡ term_of g
  pub started : started_join_of g ≡ true
  pub older : IsIdAtMost j.last_term j.last_version (accepted_of g).term (accepted_of g).version
  pub named : (accepted_of g).config ≢ []
  pub sends : s ≡ None
  pub flag : w ≡ (not (election_won_of g) && elects (node_state g) (with_id j.source (join_votes_of g)))

older_is : (a b v w : ℕ) → nat_lt a b ≡ false → (nat_eq a b && nat_lt v w) ≡ false → (b < a) ⊎ ((a ≡ b) × (w ≤ v))
older_is a b v w h k = grind (arith, nat_tests)

pub join_guard : (me : Id) (g : NodeHistory) (j : Join) (s : Option Message) (w : Bool) → Taken s w ≡ reply_of me g (TakeJoin j) → Joined me g j s w
unfolding join_checked
join_guard me g j s w h =
    let a = running _ _ _ _ h in
    let b = checked JoinRefused _ _ _ _ a.1 in
    let c = passed _ _ _ b.0 in
    let d = passed _ _ _ c.1 in
    let e = passed _ _ _ d.1 in
    let f = passed _ _ _ e.1 in
    let i = passed _ _ _ f.1 in
    let k = passed _ _ _ i.1 in
    record {
      runs = a.0;
      mine = same_is _ _ (not-false _ c.0);
      now = sym (eqb-true _ _ (not-false _ d.0));
      started = not-false _ e.0;
      older = older_is _ _ _ _ f.0 i.0;
      named = some_is _ k.0;
      sends = sends_is _ _ _ _ b.1;
      flag = flag_is _ _ _ _ b.1;
    }

pub record Valued (me : Id) (g : NodeHistory) (version : ℕ) (config : List Id) (value : ClusterValue) (s : Option Message) (w : Bool) : Type 0 where
  pub flag : w ≡ false
  pub runs : halted_of g ≡ false
  pub won : election_won_of g ≡ true
  pub settled : published_version_of g ≡ (accepted_of g).version
  pub above : published_version_of g < version
  pub below : version ≤ last_number
  pub steady : (config ≡ (accepted_of g).config) ⊎ (committed_of g ≡ (accepted_of g).config)
  pub quorum : is_quorum_of config (join_votes_of g) ≡ true
  pub sends : s ≡ Some (PublishMessage (record { source = me; state = record { term = term_of g; version = version; parent = Some (id_of (accepted_of g)); config = config; committed = committed_of g; value = value } }))

steady_is : (c a k : List Id) → (not (same_config c a) && not (same_config k a)) ≡ false → (c ≡ a) ⊎ (k ≡ a)
steady_is c a k h = from (and_cases _ _ h)
  where
    from : ((not (same_config c a) ≡ false) ⊎ (not (same_config k a) ≡ false)) → (c ≡ a) ⊎ (k ≡ a)
    from (inl e) = inl (same_config_is _ _ (not-false _ e))
    from (inr e) = inr (same_config_is _ _ (not-false _ e))

pub value_guard : (me : Id) (g : NodeHistory) (version : ℕ) (config : List Id) (value : ClusterValue) (s : Option Message) (w : Bool) → Taken s w ≡ reply_of me g (Value version config value) → Valued me g version config value s w
value_guard me g version config value s w h =
    let a = running _ _ _ _ h in
    let b = past _ _ _ _ _ a.1 in
    let c = past _ _ _ _ _ b.1 in
    let d = past _ _ _ _ _ c.1 in
    let e = past _ _ _ _ _ d.1 in
    let f = past _ _ _ _ _ e.1 in
    let i = past _ _ _ _ _ f.1 in
    record {
      runs = a.0;
      flag = flag_is _ _ _ _ i.1;
      won = not-false _ b.0;
      settled = eqb-true _ _ (not-false _ c.0);
      above = leb-false _ _ d.0;
      below = ltb-false _ _ e.0;
      steady = steady_is _ _ _ f.0;
      quorum = not-false _ i.0;
      sends = sends_is _ _ _ _ i.1;
    }

pub record Accepts (me : Id) (g : NodeHistory) (r : PublishRequest) (s : Option Message) (w : Bool) : Type 0 where
  pub flag : w ≡ false
  pub runs : halted_of g ≡ false
  pub now : r.state.term ≡ term_of g
  pub newer : r.state.term ≡ (accepted_of g).term → (accepted_of g).version < r.state.version
  pub sends : s ≡ Some (ResponseMessage (record { source = me; target = r.source; term = r.state.term; version = r.state.version }))

newer_is : (t a v w : ℕ) → (nat_eq t a && nat_le v w) ≡ false → t ≡ a → w < v
newer_is t a v w h k = grind (arith, nat_tests)

pub publish_guard : (me : Id) (g : NodeHistory) (r : PublishRequest) (s : Option Message) (w : Bool) → Taken s w ≡ reply_of me g (Publish r) → Accepts me g r s w
publish_guard me g r s w h =
    let a = running _ _ _ _ h in
    let b = past _ _ _ _ _ a.1 in
    let c = past _ _ _ _ _ b.1 in
    record {
      runs = a.0;
      now = sym (eqb-true _ _ (not-false _ b.0));
      flag = flag_is _ _ _ _ c.1;
      newer = newer_is _ _ _ _ c.0;
      sends = sends_is _ _ _ _ c.1;
    }

pub record Responded (me : Id) (g : NodeHistory) (r : PublishResponse) (s : Option Message) (w : Bool) : Type 0 where
  pub flag : w ≡ false
  pub runs : halted_of g ≡ false
  pub mine : r.target ≡ me
  pub won : election_won_of g ≡ true
  pub now : r.term ≡ term_of g
  pub current : r.version ≡ published_version_of g
  pub sends : s ≡ commit_sent me (node_state g) r

pub response_guard : (me : Id) (g : NodeHistory) (r : PublishResponse) (s : Option Message) (w : Bool) → Taken s w ≡ reply_of me g (Response r) → Responded me g r s w
response_guard me g r s w h =
    let a = running _ _ _ _ h in
    let b = past _ _ _ _ _ a.1 in
    let c = past _ _ _ _ _ b.1 in
    let d = past _ _ _ _ _ c.1 in
    let e = past _ _ _ _ _ d.1 in
    record {
      runs = a.0;
      flag = flag_is _ _ _ _ e.1;
      mine = same_is _ _ (not-false _ b.0);
      won = not-false _ c.0;
      now = sym (eqb-true _ _ (not-false _ d.0));
      current = sym (eqb-true _ _ (not-false _ e.0));
      sends = sends_is _ _ _ _ e.1;
    }

pub record Commits (g : NodeHistory) (c : ApplyCommit) (s : Option Message) (w : Bool) : Type 0 where
  pub flag : w ≡ false
  pub runs : halted_of g ≡ false
  pub sends : s ≡ None
  pub now : c.term ≡ term_of g
  pub accepted_term : c.term ≡ (accepted_of g).term
  pub accepted_version : c.version ≡ (accepted_of g).version
  pub settled : election_won_of g ≡ true → (accepted_of g).version ≡ published_version_of g

settled_is : (b : Bool) (v w : ℕ) → (b && not (nat_eq v w)) ≡ false → b ≡ true → v ≡ w
settled_is true v w h k = eqb-true _ _ (not-false _ h)
settled_is false v w h k = cc

pub commit_guard : (me : Id) (g : NodeHistory) (c : ApplyCommit) (s : Option Message) (w : Bool) → Taken s w ≡ reply_of me g (Commit c) → Commits g c s w
commit_guard me g c s w h =
    let a = running _ _ _ _ h in
    let b = past _ _ _ _ _ a.1 in
    let d = past _ _ _ _ _ b.1 in
    let e = past _ _ _ _ _ d.1 in
    let f = past _ _ _ _ _ e.1 in
    record {
      runs = a.0;
      flag = flag_is _ _ _ _ f.1;
      sends = sends_is _ _ _ _ f.1;
      now = sym (eqb-true _ _ (not-false _ b.0));
      accepted_term = sym (eqb-true _ _ (not-false _ d.0));
      accepted_version = sym (eqb-true _ _ (not-false _ e.0));
      settled = settled_is _ _ _ f.0;
    }
