-- What an event takes: at most one state is published, of what was processed into it.
use Rattle.std.proofs.Common.{◌≡◌, ℕ, ◌+◌, Bool, true, false, true≢false, Option, List, [], ◌∷◌, ◌++◌, refl, sym, ◌∙◌, ap, subst, ◌⊎◌, inl, inr}
use Rattle.std.proofs.lemmas.Bool.{and_parts}
use Rattle.voting_config.specs.Ids.{Id}
use Rattle.cluster_state.specs.declared.state.ClusterValue.{ClusterValue}
use Rattle.master_tasks.specs.NextState.{next_value}
use Rattle.world_model.specs.declared.acts.Act.{Act}
use Rattle.world_model.specs.declared.acts.Act.TheVariants.{Bootstrap, StartJoin, TakeJoin, Value, Publish, Response, Commit, Open}
use Rattle.world_model.specs.declared.acts.ActReply.TheVariants.{Taken, Refused, Stopped}
use Rattle.world_model.specs.declared.acts.Message.{Message}
use Rattle.world_model.specs.declared.acts.Outcome.{Outcome}
use Rattle.world_model.specs.declared.acts.Outcome.TheVariants.{Answered, Disk, Crashed}
use Rattle.world_model.specs.Acts.{NodeHistory, Then}
use Rattle.world_model.proofs.Moments.{Begins as IsBeginning, begins_self, begins_trans}
use Rattle.wire_frames.specs.declared.frame.Frame.{Frame}
use Rattle.master_tasks.specs.declared.waiting.Outgoing.{Outgoing}
use Rattle.policy_model.specs.declared.settings.Settings.{Settings}
use Rattle.policy_model.specs.declared.events.Event.{Event}
use Rattle.policy_model.specs.Events.{Met, Heard, PeersAsked, ElectionOff, ElectionSet, RoundBegun, RoundAnswered, RoundEnded, Joined, FollowersChecked, FollowerAnswered, LeaderChecked, LeaderAnswered, Queued, ExclusionsTimedOut, CommitAcked, AppliedAnswered, StateMade, HandedOver, PeerLost, LeaderLost, Item, Opens, Begins, Acts, ChangesMode, Drops, Sends, Replies, Notes, Log, And, added, acts_of}
use Rattle.policy_model.specs.Entries.{Life, log_of}
use Rattle.policy_model.specs.Follows.{is_fault, items_of}
use Rattle.policy_model.specs.LookBacks.{node_of, tasks_of, master_of}
use Rattle.policy_model.specs.Moves.{moved, is_own, are_own, view_of-And}
use Rattle.policy_model.specs.NextState as next
use Rattle.policy_model.specs.Views.{View, view_of}
use Rattle.policy_model.proofs.Answering.{answered-next}
use Rattle.policy_model.proofs.Standing.{own-answered}
use Rattle.system_laws.specs.Systems.{IsDoneOf, Killed, InAct, Also, Unsent, Unanswered}
use Rattle.linearizability.proofs.Numbers.{Tagged, tagged_all, into_next, taken_of}
use Rattle.linearizability.proofs.Noting.{is_noting, IsPlain, Other, Noting, Passed, Same, Made, noting_next}

-- the node took this value when it had done so much
abbrev pub TookValue : NodeHistory → ℕ → List Id → ClusterValue → Option Message → Bool → NodeHistory → Type 0
TookValue inner version config value sends wins g = IsBeginning (Then inner (Value version config value) (Answered (Taken sends wins))) g

-- no value is taken
pub record IsUntaken (s : Settings) (l : Log) (done : List Item) : Type 0 where
  pub same : taken_of s (added l done) ≡ taken_of s l
  pub none : (inner : NodeHistory) (version : ℕ) (config : List Id) (value : ClusterValue) (sends : Option Message) (wins : Bool)
      → TookValue inner version config value sends wins (acts_of (added l done)) → TookValue inner version config value sends wins (acts_of l)

-- one value is taken, that of this moment
pub record IsTaken (s : Settings) (l : Log) (done : List Item) : Type 0 where
  pub moment : Log
  pub version : ℕ
  pub config : List Id
  pub sends : Option Message
  pub wins : Bool
  pub since : IsBeginning (acts_of l) (acts_of moment)
  pub took : TookValue (acts_of moment) version config (next_value (master_of s moment) (tasks_of s moment)) sends wins (acts_of (added l done))
  pub more : taken_of s (added l done) ≡ taken_of s l ++ tagged_all (record { term = (node_of moment).term; version = version }) (into_next s moment)
  pub one : (inner : NodeHistory) (v : ℕ) (c : List Id) (x : ClusterValue) (m : Option Message) (w : Bool) → TookValue inner v c x m w (acts_of (added l done))
      → TookValue inner v c x m w (acts_of l) ⊎ (Then inner (Value v c x) (Answered (Taken m w)) ≡ Then (acts_of moment) (Value version config (next_value (master_of s moment) (tasks_of s moment))) (Answered (Taken sends wins)))

pub data Takes (s : Settings) (l : Log) (done : List Item) : Type 0 where
  Untaken : IsUntaken s l done → Takes s l done
  OneTaken : IsTaken s l done → Takes s l done

-- ---- an item that notes and makes nothing

one-same : (s : Settings) (l : Log) (i : Item) → is_own i ≡ true → is_noting i ≡ false → taken_of s (And l i) ≡ taken_of s l
one-same s l (Opens found) own e = absurd (true≢false (sym own))
one-same s l (Acts (Value version config value) o) own e = absurd (true≢false e)
one-same s l (Notes StateMade) own e = absurd (true≢false e)
one-same s l (Begins event) own e = refl
one-same s l (Acts (Bootstrap config) o) own e = refl
one-same s l (Acts (StartJoin candidate term) o) own e = refl
one-same s l (Acts (TakeJoin join) o) own e = refl
one-same s l (Acts (Publish publish) o) own e = refl
one-same s l (Acts (Response response) o) own e = refl
one-same s l (Acts (Commit commit) o) own e = refl
one-same s l (Acts (Open found) o) own e = refl
one-same s l (ChangesMode mode term) own e = refl
one-same s l (Drops member cause) own e = refl
one-same s l (Sends frame) own e = refl
one-same s l (Replies answer) own e = refl
one-same s l (Notes (Met ids)) own e = refl
one-same s l (Notes (Heard peer master)) own e = refl
one-same s l (Notes PeersAsked) own e = refl
one-same s l (Notes ElectionOff) own e = refl
one-same s l (Notes (ElectionSet word)) own e = refl
one-same s l (Notes (RoundBegun word)) own e = refl
one-same s l (Notes (RoundAnswered source term last)) own e = refl
one-same s l (Notes RoundEnded) own e = refl
one-same s l (Notes (Joined ids)) own e = refl
one-same s l (Notes FollowersChecked) own e = refl
one-same s l (Notes (FollowerAnswered from good applied)) own e = refl
one-same s l (Notes LeaderChecked) own e = refl
one-same s l (Notes (LeaderAnswered good)) own e = refl
one-same s l (Notes (Queued conn request)) own e = refl
one-same s l (Notes ExclusionsTimedOut) own e = refl
one-same s l (Notes CommitAcked) own e = refl
one-same s l (Notes AppliedAnswered) own e = refl
one-same s l (Notes HandedOver) own e = refl
one-same s l (Notes (PeerLost id)) own e = refl
one-same s l (Notes LeaderLost) own e = refl

one-none : (l : Log) (i : Item) (inner : NodeHistory) (version : ℕ) (config : List Id) (value : ClusterValue) (sends : Option Message) (wins : Bool) → is_noting i ≡ false
    → TookValue inner version config value sends wins (acts_of (And l i)) → TookValue inner version config value sends wins (acts_of l)
one-none l (Opens found) inner v c x m w e (inl b) = absurd (cc)
one-none l (Opens found) inner v c x m w e (inr b) = b
one-none l (Acts (Value version config value) o) inner v c x m w e b = absurd (true≢false e)
one-none l (Notes StateMade) inner v c x m w e b = absurd (true≢false e)
one-none l (Begins event) inner v c x m w e b = b
one-none l (Acts (Bootstrap config) o) inner v c x m w e (inl b) = absurd (cc)
one-none l (Acts (Bootstrap config) o) inner v c x m w e (inr b) = b
one-none l (Acts (StartJoin candidate term) o) inner v c x m w e (inl b) = absurd (cc)
one-none l (Acts (StartJoin candidate term) o) inner v c x m w e (inr b) = b
one-none l (Acts (TakeJoin join) o) inner v c x m w e (inl b) = absurd (cc)
one-none l (Acts (TakeJoin join) o) inner v c x m w e (inr b) = b
one-none l (Acts (Publish publish) o) inner v c x m w e (inl b) = absurd (cc)
one-none l (Acts (Publish publish) o) inner v c x m w e (inr b) = b
one-none l (Acts (Response response) o) inner v c x m w e (inl b) = absurd (cc)
one-none l (Acts (Response response) o) inner v c x m w e (inr b) = b
one-none l (Acts (Commit commit) o) inner v c x m w e (inl b) = absurd (cc)
one-none l (Acts (Commit commit) o) inner v c x m w e (inr b) = b
one-none l (Acts (Open found) o) inner v c x m w e (inl b) = absurd (cc)
one-none l (Acts (Open found) o) inner v c x m w e (inr b) = b
one-none l (ChangesMode mode term) inner v c x m w e b = b
one-none l (Drops member cause) inner v c x m w e b = b
one-none l (Sends frame) inner v c x m w e b = b
one-none l (Replies answer) inner v c x m w e b = b
one-none l (Notes (Met ids)) inner v c x m w e b = b
one-none l (Notes (Heard peer master)) inner v c x m w e b = b
one-none l (Notes PeersAsked) inner v c x m w e b = b
one-none l (Notes ElectionOff) inner v c x m w e b = b
one-none l (Notes (ElectionSet word)) inner v c x m w e b = b
one-none l (Notes (RoundBegun word)) inner v c x m w e b = b
one-none l (Notes (RoundAnswered source term last)) inner v c x m w e b = b
one-none l (Notes RoundEnded) inner v c x m w e b = b
one-none l (Notes (Joined ids)) inner v c x m w e b = b
one-none l (Notes FollowersChecked) inner v c x m w e b = b
one-none l (Notes (FollowerAnswered from good applied)) inner v c x m w e b = b
one-none l (Notes LeaderChecked) inner v c x m w e b = b
one-none l (Notes (LeaderAnswered good)) inner v c x m w e b = b
one-none l (Notes (Queued conn request)) inner v c x m w e b = b
one-none l (Notes ExclusionsTimedOut) inner v c x m w e b = b
one-none l (Notes CommitAcked) inner v c x m w e b = b
one-none l (Notes AppliedAnswered) inner v c x m w e b = b
one-none l (Notes HandedOver) inner v c x m w e b = b
one-none l (Notes (PeerLost id)) inner v c x m w e b = b
one-none l (Notes LeaderLost) inner v c x m w e b = b

one-begins : (l : Log) (i : Item) → IsBeginning (acts_of l) (acts_of (And l i))
one-begins l (Opens found) = inr (begins_self (acts_of l))
one-begins l (Begins event) = begins_self (acts_of l)
one-begins l (Acts act o) = inr (begins_self (acts_of l))
one-begins l (ChangesMode mode term) = begins_self (acts_of l)
one-begins l (Drops member cause) = begins_self (acts_of l)
one-begins l (Sends frame) = begins_self (acts_of l)
one-begins l (Replies answer) = begins_self (acts_of l)
one-begins l (Notes note) = begins_self (acts_of l)

-- no value is taken by an act at which the disk failed or the node crashed, whatever it is
fault-same : (s : Settings) (l : Log) (act : Act) (fault : Outcome) → is_own (Acts act fault) ≡ true → is_fault fault ≡ true → taken_of s (And l (Acts act fault)) ≡ taken_of s l
fault-same s l (Value version config value) (Answered reply) own f = absurd (true≢false (sym f))
fault-same s l (Value version config value) (Disk kept) own f = refl
fault-same s l (Value version config value) (Crashed kept) own f = refl
fault-same s l (Bootstrap config) o own f = refl
fault-same s l (StartJoin candidate term) o own f = refl
fault-same s l (TakeJoin join) o own f = refl
fault-same s l (Publish publish) o own f = refl
fault-same s l (Response response) o own f = refl
fault-same s l (Commit commit) o own f = refl
fault-same s l (Open found) o own f = refl

fault-none : (l : Log) (act : Act) (fault : Outcome) (inner : NodeHistory) (version : ℕ) (config : List Id) (value : ClusterValue) (sends : Option Message) (wins : Bool) → is_fault fault ≡ true
    → TookValue inner version config value sends wins (acts_of (And l (Acts act fault))) → TookValue inner version config value sends wins (acts_of l)
fault-none l act (Answered reply) inner v c x m w f b = absurd (true≢false (sym f))
fault-none l act (Disk kept) inner v c x m w f (inl b) = absurd (cc)
fault-none l act (Disk kept) inner v c x m w f (inr b) = b
fault-none l act (Crashed kept) inner v c x m w f (inl b) = absurd (cc)
fault-none l act (Crashed kept) inner v c x m w f (inr b) = b

pub begins_added : (l : Log) (is : List Item) (g : NodeHistory) → IsBeginning g (acts_of l) → IsBeginning g (acts_of (added l is))
begins_added l [] g b = b
begins_added l (i ∷ is) g b = begins_added (And l i) is g (begins_trans g (acts_of l) (acts_of (And l i)) b (one-begins l i))

-- ---- items that note and make nothing

untaken-here : (s : Settings) (l : Log) → IsUntaken s l []
untaken-here s l = record { same = refl; none = λ inner v c x m w b. b }

untaken-then : (s : Settings) (l : Log) (i : Item) (some : List Item) → taken_of s (And l i) ≡ taken_of s l
    → ((inner : NodeHistory) (v : ℕ) (c : List Id) (x : ClusterValue) (m : Option Message) (w : Bool) → TookValue inner v c x m w (acts_of (And l i)) → TookValue inner v c x m w (acts_of l))
    → IsUntaken s (And l i) some → IsUntaken s l (i ∷ some)
untaken-then s l i some e f u = record { same = u.same ∙ e; none = λ inner v c x m w b. f inner v c x m w (u.none inner v c x m w b) }

untaken-fault : (s : Settings) (l : Log) (act : Act) (fault : Outcome) → is_own (Acts act fault) ≡ true → is_fault fault ≡ true → IsUntaken s l (Acts act fault ∷ [])
untaken-fault s l act fault own f = untaken-then s l (Acts act fault) [] (fault-same s l act fault own f) (λ inner v c x m w b. fault-none l act fault inner v c x m w f b) (untaken-here s (And l (Acts act fault)))

plain-done : (s : Settings) (l : Log) (is done : List Item) → IsPlain is → are_own is ≡ true → IsDoneOf is done → IsUntaken s l done
plain-done s l is done p own (Killed x) = untaken-here s l
plain-done s l is done p own (InAct act sends wins rest fault w f) = untaken-fault s l act fault (and_parts (is_own (Acts act fault)) (are_own rest) own).0 f
plain-done s l is done (Other i rest e p) own (Also j more some d) =
    let parts = and_parts (is_own i) (are_own rest) own in
    untaken-then s l i some (one-same s l i parts.0 e) (λ inner v c x m w b. one-none l i inner v c x m w e b) (plain-done s (And l i) rest some p parts.1 d)
plain-done s l is done (Other i rest e p) own (Unsent frame more some d) = plain-done s l rest some p own d
plain-done s l is done (Other i rest e p) own (Unanswered answer more some d) = plain-done s l rest some p own d

-- ---- an event

takes-then : (s : Settings) (l : Log) (i : Item) (some : List Item) → is_own i ≡ true → is_noting i ≡ false → Takes s (And l i) some → Takes s l (i ∷ some)
takes-then s l i some own e (Untaken u) = Untaken (untaken-then s l i some (one-same s l i own e) (λ inner v c x m w b. one-none l i inner v c x m w e b) u)
takes-then s l i some own e (OneTaken t) = OneTaken (record {
  moment = t.moment;
  version = t.version;
  config = t.config;
  sends = t.sends;
  wins = t.wins;
  since = begins_trans (acts_of l) (acts_of (And l i)) (acts_of t.moment) (one-begins l i) t.since;
  took = t.took;
  more = t.more ∙ ap (λ (ts : List Tagged). ts ++ tagged_all (record { term = (node_of t.moment).term; version = t.version }) (into_next s t.moment)) (one-same s l i own e);
  one = λ inner v c x m w b. from inner v c x m w (t.one inner v c x m w b);
})
  where
    from : (inner : NodeHistory) (v : ℕ) (c : List Id) (x : ClusterValue) (m : Option Message) (w : Bool)
        → TookValue inner v c x m w (acts_of (And l i)) ⊎ (Then inner (Value v c x) (Answered (Taken m w)) ≡ Then (acts_of t.moment) (Value t.version t.config (next_value (master_of s t.moment) (tasks_of s t.moment))) (Answered (Taken t.sends t.wins)))
        → TookValue inner v c x m w (acts_of l) ⊎ (Then inner (Value v c x) (Answered (Taken m w)) ≡ Then (acts_of t.moment) (Value t.version t.config (next_value (master_of s t.moment) (tasks_of s t.moment))) (Answered (Taken t.sends t.wins)))
    from inner v c x m w (inl b) = inl (one-none l i inner v c x m w e b)
    from inner v c x m w (inr b) = inr b

-- the value that is made is so answered
value-takes : (s : Settings) (l : Log) (o : Outcome) (some : List Item)
    → IsUntaken s (And (And l (Notes StateMade)) (Acts (next.value_act s (view_of s l)) o)) some → Takes s l (Notes StateMade ∷ Acts (next.value_act s (view_of s l)) o ∷ some)
value-takes s l (Answered (Taken sends wins)) some u = OneTaken (record {
  moment = l;
  version = (node_of l).accepted.version + 1;
  config = next.config_now s (view_of s l);
  sends = sends;
  wins = wins;
  since = begins_self (acts_of l);
  took = begins_added (And (And l (Notes StateMade)) (Acts (next.value_act s (view_of s l)) (Answered (Taken sends wins)))) some (Then (acts_of l) (next.value_act s (view_of s l)) (Answered (Taken sends wins))) (begins_self (Then (acts_of l) (next.value_act s (view_of s l)) (Answered (Taken sends wins))));
  more = u.same;
  one = λ inner v c x m w b. from inner v c x m w (u.none inner v c x m w b);
})
  where
    from : (inner : NodeHistory) (v : ℕ) (c : List Id) (x : ClusterValue) (m : Option Message) (w : Bool)
        → TookValue inner v c x m w (Then (acts_of l) (next.value_act s (view_of s l)) (Answered (Taken sends wins)))
        → TookValue inner v c x m w (acts_of l) ⊎ (Then inner (Value v c x) (Answered (Taken m w)) ≡ Then (acts_of l) (next.value_act s (view_of s l)) (Answered (Taken sends wins)))
    from inner v c x m w (inl e) = inr e
    from inner v c x m w (inr b) = inl b
value-takes s l (Answered (Refused cause)) some u = Untaken (record { same = u.same; none = λ inner v c x m w b. from inner v c x m w (u.none inner v c x m w b) })
  where
    from : (inner : NodeHistory) (v : ℕ) (c : List Id) (x : ClusterValue) (m : Option Message) (w : Bool)
        → TookValue inner v c x m w (Then (acts_of l) (next.value_act s (view_of s l)) (Answered (Refused cause))) → TookValue inner v c x m w (acts_of l)
    from inner v c x m w (inl e) = absurd (cc)
    from inner v c x m w (inr b) = b
value-takes s l (Answered Stopped) some u = Untaken (record { same = u.same; none = λ inner v c x m w b. from inner v c x m w (u.none inner v c x m w b) })
  where
    from : (inner : NodeHistory) (v : ℕ) (c : List Id) (x : ClusterValue) (m : Option Message) (w : Bool)
        → TookValue inner v c x m w (Then (acts_of l) (next.value_act s (view_of s l)) (Answered Stopped)) → TookValue inner v c x m w (acts_of l)
    from inner v c x m w (inl e) = absurd (cc)
    from inner v c x m w (inr b) = b
value-takes s l (Disk kept) some u = Untaken (record { same = u.same; none = λ inner v c x m w b. fault-none (And l (Notes StateMade)) (next.value_act s (view_of s l)) (Disk kept) inner v c x m w refl (u.none inner v c x m w b) })
value-takes s l (Crashed kept) some u = Untaken (record { same = u.same; none = λ inner v c x m w b. fault-none (And l (Notes StateMade)) (next.value_act s (view_of s l)) (Crashed kept) inner v c x m w refl (u.none inner v c x m w b) })

-- after the note
made-takes : (s : Settings) (l : Log) (o : Outcome) (is some : List Item) → IsPlain is → are_own is ≡ true → IsDoneOf (Acts (next.value_act s (view_of s l)) o ∷ is) some → Takes s l (Notes StateMade ∷ some)
made-takes s l o is some p own (Killed x) = Untaken (record { same = refl; none = λ inner v c x m w b. b })
made-takes s l o is some p own (InAct act sends wins rest fault w f) =
    Untaken (record { same = fault-same s (And l (Notes StateMade)) (next.value_act s (view_of s l)) fault refl f; none = λ inner v c x m w b. fault-none (And l (Notes StateMade)) (next.value_act s (view_of s l)) fault inner v c x m w f b })
made-takes s l o is some p own (Also i rest more d) =
    value-takes s l o more (plain-done s (And (And l (Notes StateMade)) (Acts (next.value_act s (view_of s l)) o)) is more p own d)

noted-untaken : (s : Settings) (l : Log) (is some : List Item) → IsPlain is → are_own is ≡ true → IsDoneOf is some → Takes s l (Notes StateMade ∷ some)
noted-untaken s l is some p own d = let u = plain-done s (And l (Notes StateMade)) is some p own d in Untaken (record { same = u.same; none = u.none })

also-takes : (s : Settings) (l : Log) (v : View) (i : Item) (more some : List Item) → v ≡ view_of s l → Noting s v (i ∷ more) → are_own (i ∷ more) ≡ true → IsDoneOf more some
    → ((u : View) → u ≡ view_of s (And l i) → Noting s u more → are_own more ≡ true → Takes s (And l i) some) → Takes s l (i ∷ some)
also-takes s l v i more some e (Passed u j rest t n) own d go =
    let parts = and_parts (is_own i) (are_own more) own in
    takes-then s l i some parts.0 t (go (moved s u i) (ap (λ (x : View). moved s x i) e ∙ sym (view_of-And s l i parts.0)) n parts.1)
also-takes s l v i more some e (Same u rest p) own d go = noted-untaken s l more some p own d
also-takes s l v i more some e (Made u o rest p) own d go =
    subst (λ (x : View). IsDoneOf (Acts (next.value_act s x) o ∷ rest) some → Takes s l (Notes StateMade ∷ some)) (sym e) (λ k. made-takes s l o rest some p own k) d

sends-on : (s : Settings) (v : View) (frame : Frame) (is : List Item) → Noting s v (Sends frame ∷ is) → Noting s v is
sends-on s v frame is (Passed u i rest t n) = n

replies-on : (s : Settings) (v : View) (answer : Outgoing) (is : List Item) → Noting s v (Replies answer ∷ is) → Noting s v is
replies-on s v answer is (Passed u i rest t n) = n

takes : (s : Settings) (l : Log) (v : View) (is done : List Item) → v ≡ view_of s l → Noting s v is → are_own is ≡ true → IsDoneOf is done → Takes s l done
takes s l v is done e n own (Killed x) = Untaken (untaken-here s l)
takes s l v is done e n own (InAct act sends wins rest fault w f) = Untaken (untaken-fault s l act fault (and_parts (is_own (Acts act fault)) (are_own rest) own).0 f)
takes s l v is done e n own (Also i more some d) = also-takes s l v i more some e n own d (λ u k m o. takes s (And l i) u more some k m o d)
takes s l v is done e n own (Unsent frame more some d) = takes s l v more some e (sends-on s v frame more n) own d
takes s l v is done e n own (Unanswered answer more some d) = takes s l v more some e (replies-on s v answer more n) own d

-- what was done of an event of a run
pub event-takes : (s : Settings) (life : Life) (e : Event) (done : List Item) → IsDoneOf (items_of s (log_of life) e) done → Takes s (And (log_of life) (Begins e)) done
event-takes s life e done d =
    let v = view_of s (And (log_of life) (Begins e)) in
    takes s (And (log_of life) (Begins e)) v (items_of s (log_of life) e) done refl (noting_next s v e) (own-answered s v (items_of s (log_of life) e) (answered-next s v e)) d
