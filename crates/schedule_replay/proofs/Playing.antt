-- What the items of an event make of a node's acts, and of the state that it published last.
use Rattle.std.proofs.Common.{◌≡◌, Bool, true, false, Option, List, [], ◌∷◌, ◌++◌, refl, sym, ◌∙◌, ap, subst, if◌then◌else◌}
use Rattle.voting_config.specs.Ids.{Id}
use Rattle.cluster_state.specs.declared.state.ClusterState.{ClusterState}
use Rattle.world_model.specs.declared.acts.Act.{Act}
use Rattle.world_model.specs.declared.acts.Act.TheVariants.{Bootstrap, StartJoin, TakeJoin, Value, Publish, Response, Commit, Open}
use Rattle.world_model.specs.declared.acts.Outcome.{Outcome}
use Rattle.world_model.specs.declared.acts.Outcome.TheVariants.{Answered, Disk, Crashed}
use Rattle.world_model.specs.Acts.{NodeHistory, Then}
use Rattle.replay_node.specs.NodeDisk.{CallsEnd, Done, Failed, CrashedIn}
use Rattle.replay_node.specs.NodeWorld.{NodeWorld, act_called, after_act, outcome_at}
use Rattle.trace_text.specs.Published.{published_by}
use Rattle.policy_model.specs.declared.settings.Settings.{Settings}
use Rattle.policy_model.specs.declared.events.Deed.{Deed}
use Rattle.policy_model.specs.declared.events.Deed.TheVariants as deed
use Rattle.policy_model.specs.Events.{Item, Opens, Begins, Acts, ChangesMode, Drops, Sends, Replies, Notes, Log, And, added, acts_of}
use Rattle.policy_model.specs.Local.{IsAnswered, Ended, ByAct, ByQuiet, is_quiet}
use Rattle.policy_model.specs.Views.{View}
use Rattle.event_text.specs.Published.{published_after, published_in}
use Rattle.event_text.specs.Deeds.{outcome_left, deed_left, as_left}
use Rattle.replay_node.specs.Course.{NodeCourse, node_act_then, node_behind, node_played}
use Rattle.replay_node.proofs.Carried.{quiet_played}

-- the items of a course make these acts of a log that had those
abbrev Makes : NodeHistory → NodeCourse → Type 0
Makes g d = (l : Log) → acts_of l ≡ g → acts_of (added l d.items) ≡ d.node.acts

quiet_prefix : (g : NodeHistory) (i : Item) (d : NodeCourse) → is_quiet i ≡ true → Makes g d → Makes g (node_behind i d)
quiet_prefix g (Opens found) d q h l e = absurd (cc)
quiet_prefix g (Begins event) d q h l e = absurd (cc)
quiet_prefix g (Acts act o) d q h l e = absurd (cc)
quiet_prefix g (ChangesMode mode term) d q h l e = from d.struck
  where
    from : (b : Bool) → acts_of (added l ((if b then ChangesMode mode term ∷ [] else ChangesMode mode term ∷ []) ++ d.items)) ≡ d.node.acts
    from true = h (And l (ChangesMode mode term)) e
    from false = h (And l (ChangesMode mode term)) e
quiet_prefix g (Drops member cause) d q h l e = from d.struck
  where
    from : (b : Bool) → acts_of (added l ((if b then Drops member cause ∷ [] else Drops member cause ∷ []) ++ d.items)) ≡ d.node.acts
    from true = h (And l (Drops member cause)) e
    from false = h (And l (Drops member cause)) e
quiet_prefix g (Sends frame) d q h l e = from d.struck
  where
    from : (b : Bool) → acts_of (added l ((if b then [] else Sends frame ∷ []) ++ d.items)) ≡ d.node.acts
    from true = h l e
    from false = h (And l (Sends frame)) e
quiet_prefix g (Replies answer) d q h l e = from d.struck
  where
    from : (b : Bool) → acts_of (added l ((if b then [] else Replies answer ∷ []) ++ d.items)) ≡ d.node.acts
    from true = h l e
    from false = h (And l (Replies answer)) e
quiet_prefix g (Notes note) d q h l e = from d.struck
  where
    from : (b : Bool) → acts_of (added l ((if b then Notes note ∷ [] else Notes note ∷ []) ++ d.items)) ≡ d.node.acts
    from true = h (And l (Notes note)) e
    from false = h (And l (Notes note)) e

act_prefix : (g : NodeHistory) (act : Act) (o : Outcome) (end : CallsEnd) (y : NodeWorld) (rest : NodeWorld → NodeCourse) → y.acts ≡ Then g act o → Makes y.acts (rest y) → Makes g (node_act_then end (Acts act o) y rest)
act_prefix g act o Done y rest is h l e = from (rest y).struck
  where
    from : (b : Bool) → acts_of (added l ((if b then Acts act o ∷ [] else Acts act o ∷ []) ++ (rest y).items)) ≡ (rest y).node.acts
    from true = h (And l (Acts act o)) (ap (λ (k : NodeHistory). Then k act o) e ∙ sym is)
    from false = h (And l (Acts act o)) (ap (λ (k : NodeHistory). Then k act o) e ∙ sym is)
act_prefix g act o Failed y rest is h l e = ap (λ (k : NodeHistory). Then k act o) e ∙ sym is
act_prefix g act o (CrashedIn way) y rest is h l e = ap (λ (k : NodeHistory). Then k act o) e ∙ sym is

-- the acts of a life with the event are those that the node did
pub played_acts : (s : Settings) (v : View) (me : Id) (x : NodeWorld) (is : List Item) → IsAnswered s v is → (l : Log) → acts_of l ≡ x.acts → acts_of (added l (node_played me x is).items) ≡ (node_played me x is).node.acts
played_acts s v me x is (Ended u) l e = e
played_acts s v me x is (ByAct u act rest shut a) l e =
    act_prefix x.acts act (outcome_at me x act) (act_called me x act).ended (after_act me x act) (λ (y : NodeWorld). node_played me y rest) refl (played_acts s _ me (after_act me x act) rest a) l e
played_acts s v me x is (ByQuiet u i rest q a) l e =
    subst (λ (d : NodeCourse). acts_of (added l d.items) ≡ d.node.acts) (quiet_played me x i rest q) (quiet_prefix x.acts i (node_played me x rest) q (played_acts s _ me x rest a) l e)

-- ---- the state that was published last

told_by : (crashed : Bool) (before : Option ClusterState) (o : Outcome) → published_by (outcome_left crashed o) before ≡ published_by o before
told_by crashed before (Answered reply) = refl
told_by true before (Disk kept) = refl
told_by false before (Disk kept) = refl
told_by crashed before (Crashed kept) = refl

told_in : (crashed : Bool) (before : Option ClusterState) (x : Deed) → published_in before (deed_left crashed x) ≡ published_in before x
told_in crashed before (deed.Act (Bootstrap config) o) = refl
told_in crashed before (deed.Act (StartJoin candidate term) o) = refl
told_in crashed before (deed.Act (TakeJoin join) o) = refl
told_in crashed before (deed.Act (Value version config value) o) = told_by crashed before o
told_in crashed before (deed.Act (Publish request) o) = refl
told_in crashed before (deed.Act (Response response) o) = refl
told_in crashed before (deed.Act (Commit commit) o) = refl
told_in crashed before (deed.Act (Open found) o) = refl
told_in crashed before (deed.Mode mode term) = refl

-- how an act that the disk struck is shown does not matter here
pub told_published : (crashed : Bool) (before : Option ClusterState) (xs : List Deed) → published_after before (as_left crashed xs) ≡ published_after before xs
told_published crashed before [] = refl
told_published crashed before (x ∷ xs) = ap (λ (p : Option ClusterState). published_after p (as_left crashed xs)) (told_in crashed before x) ∙ told_published crashed (published_in before x) xs
