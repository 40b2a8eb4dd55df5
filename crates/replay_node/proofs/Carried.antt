-- What a coordinator must report of an event, so that a replay over its code can follow the disk: for each act the step of the core, with what it
-- wrote. From that the node stands for what the definitions make of it.
use Rattle.std.proofs.Common.{◌≡◌, Bool, true, false, Some, List, [], ◌∷◌, ◌++◌, refl, sym, ◌∙◌, ap, subst, if◌then◌else◌}
use Rattle.voting_config.specs.Ids.{Id}
use Rattle.coord_state.specs.declared.coord.CoordState.{CoordState}
use Rattle.coord_state.specs.declared.ending.NotTaken.TheVariants as untaken
use Rattle.world_model.specs.declared.acts.Act.{Act}
use Rattle.world_model.specs.declared.acts.ActReply.{ActReply}
use Rattle.world_model.specs.declared.acts.Outcome.{Outcome}
use Rattle.world_model.specs.declared.acts.Outcome.TheVariants.{Answered, Disk}
use Rattle.world_model.specs.Histories.{is_opening}
use Rattle.world_model.specs.Replies.{reply_of}
use Rattle.replay_node.specs.Did.{outcome_of}
use Rattle.replay_node.specs.NodeDisk.{CallsEnd, Done, Failed, CrashedIn}
use Rattle.replay_node.specs.NodeWorld.{NodeWorld, act_called, after_act, outcome_at, outcome_by}
use Rattle.replay_node.specs.Stands.{Journal, OpenStands}
use Rattle.replay_node.specs.StateDoes.{IsReportedBy, StandsAfter, StateDid}
use Rattle.replay_node.specs.declared.did.Did.{Did}
use Rattle.replay_node.specs.declared.did.Did.TheVariants as did
use Rattle.replay_node.proofs.StateSteps.{Step, answered_at, answered_stands, ended_does}
use Rattle.policy_model.specs.Events.{Item, Opens, Begins, Acts, ChangesMode, Drops, Sends, Replies, Notes}
use Rattle.policy_model.specs.Local.{is_quiet}
use Rattle.policy_model.specs.Follows.{without_output}
use Rattle.replay_node.specs.Course.{NodeCourse, node_act_then, node_behind, node_played}

-- how it ended: all was done, or the disk was struck so
pub data Ending : Type 0 where
  All : Ending
  Struck : (d : Did) → Ending

abbrev pub is_struck : Ending → Bool
is_struck All = false
is_struck (Struck d) = true

-- the core went from one state to the other by the acts of these items, of which those were done
pub data Carries : CoordState Journal → CoordState Journal → List Item → List Item → Ending → Type 0 where
  Nothing : (c : CoordState Journal) → Carries c c [] [] All
  ByAct : (old mid new : CoordState Journal) (act : Act) (o : Outcome) (reply : ActReply) (is done : List Item) (e : Ending) → is_opening act ≡ false → Step old mid act (Answered reply) → Carries mid new is done e
      → Carries old new (Acts act o ∷ is) (Acts act (Answered reply) ∷ done) e
  ByFault : (old new : CoordState Journal) (act : Act) (o f : Outcome) (is : List Item) (d : Did) → is_opening act ≡ false → Step old new act (Disk false) → IsReportedBy new untaken.Disk d → outcome_of d ≡ Some f
      → Carries old new (Acts act o ∷ is) (Acts act f ∷ []) (Struck d)
  ByOther : (old new : CoordState Journal) (i : Item) (is done : List Item) (e : Ending) → is_quiet i ≡ true → Carries old new is done e
      → Carries old new (i ∷ is) ((if is_struck e then without_output i else i ∷ []) ++ done) e

-- the state stands for the node after them
abbrev pub StandsBehind : Id → CoordState Journal → NodeWorld → Ending → Type 0
StandsBehind me new x All = OpenStands me new x
StandsBehind me new x (Struck d) = StandsAfter me new x d

pub record Carried (me : Id) (new : CoordState Journal) (c : NodeCourse) (done : List Item) (e : Ending) : Type 0 where
  pub items : done ≡ c.items
  pub struck : is_struck e ≡ c.struck
  pub stands : StandsBehind me new c.node e

pub quiet_played : (me : Id) (x : NodeWorld) (i : Item) (is : List Item) → is_quiet i ≡ true → node_behind i (node_played me x is) ≡ node_played me x (i ∷ is)
quiet_played me x (Opens found) is q = refl
quiet_played me x (Begins event) is q = refl
quiet_played me x (Acts act o) is q = absurd (cc)
quiet_played me x (ChangesMode mode term) is q = refl
quiet_played me x (Drops member cause) is q = refl
quiet_played me x (Sends frame) is q = refl
quiet_played me x (Replies answer) is q = refl
quiet_played me x (Notes note) is q = refl

in_front : (me : Id) (new : CoordState Journal) (i : Item) (c : NodeCourse) (done : List Item) (e : Ending) → Carried me new c done e → Carried me new (node_behind i c) ((if is_struck e then without_output i else i ∷ []) ++ done) e
in_front me new i c done e h = record {
  items = ap (λ (b : Bool). (if b then without_output i else i ∷ []) ++ done) h.struck ∙ ap (λ (xs : List Item). (if c.struck then without_output i else i ∷ []) ++ xs) h.items;
  struck = h.struck;
  stands = h.stands;
}

act_prefix : (me : Id) (new : CoordState Journal) (i : Item) (c : NodeCourse) (done : List Item) (e : Ending) → without_output i ≡ i ∷ [] → Carried me new c done e → Carried me new (node_behind i c) (i ∷ done) e
act_prefix me new i c done e keeps h =
    let prefix = in_front me new i c done e h in
    subst (λ (xs : List Item). Carried me new (node_behind i c) (xs ++ done) e) (from (is_struck e)) prefix
  where
    from : (b : Bool) → (if b then without_output i else i ∷ []) ≡ i ∷ []
    from true = keeps
    from false = refl

-- an act that was answered made all its calls
done_is : (end : CallsEnd) (r reply : ActReply) → Answered reply ≡ outcome_by end r → end ≡ Done
done_is Done r reply h = refl
done_is Failed r reply h = absurd (cc)
done_is (CrashedIn way) r reply h = absurd (cc)

-- one that the disk struck did not
struck_course : (me : Id) (new : CoordState Journal) (x : NodeWorld) (act : Act) (rest : NodeWorld → NodeCourse) (d : Did) (end : CallsEnd) (r : ActReply) → IsReportedBy new untaken.Disk d → outcome_of d ≡ Some (outcome_by end r) → StandsAfter me new x d
    → Carried me new (node_act_then end (Acts act (outcome_by end r)) x rest) (Acts act (outcome_by end r) ∷ []) (Struck d)
struck_course me new x act rest d Failed r told is stands = record { items = refl; struck = refl; stands = stands }
struck_course me new x act rest d (CrashedIn way) r told is stands = record { items = refl; struck = refl; stands = stands }
struck_course me new x act rest did.Disk Done r told is stands = absurd (cc)
struck_course me new x act rest did.Crashed Done r told is stands = absurd (cc)
struck_course me new x act rest d Done r told is stands = absurd told

pub carried : (old new : CoordState Journal) (is done : List Item) (e : Ending) (x : NodeWorld) → Carries old new is done e → OpenStands old.me old x → Carried old.me new (node_played old.me x is) done e
carried old new is done e x (Nothing c) stands = record { items = refl; struck = refl; stands = stands }
carried old new is done e x (ByOther o' n' i rest done' e' q h) stands =
    subst (λ (c : NodeCourse). Carried old.me new c done e) (quiet_played old.me x i rest q) (in_front old.me new i (node_played old.me x rest) done' e' (carried o' n' rest done' e' x h stands))
carried old new is done e x (ByAct o' mid n' act o reply rest done' e' closed step h) stands =
    let at : Answered reply ≡ outcome_at o'.me x act = answered_at o' mid act reply step closed x stands in
    let end : (act_called o'.me x act).ended ≡ Done = done_is (act_called o'.me x act).ended (reply_of o'.me x.acts act) reply at in
    let me : mid.me ≡ o'.me = step.acts.at.me in
    let next : OpenStands o'.me mid (after_act o'.me x act) = answered_stands o' mid act reply step closed x stands in
    let there = carried mid n' rest done' e' (after_act o'.me x act) h (subst (λ (i : Id). OpenStands i mid (after_act o'.me x act)) (sym me) next) in
    let here : Carried o'.me n' (node_played o'.me (after_act o'.me x act) rest) done' e' = subst (λ (i : Id). Carried i n' (node_played i (after_act o'.me x act) rest) done' e') me there in
    let prefix : Carried o'.me n' (node_behind (Acts act (Answered reply)) (node_played o'.me (after_act o'.me x act) rest)) (Acts act (Answered reply) ∷ done') e' = act_prefix o'.me n' (Acts act (Answered reply)) _ done' e' refl here in
    subst (λ (c : CallsEnd). Carried o'.me n' (node_act_then c (Acts act (outcome_at o'.me x act)) (after_act o'.me x act) (λ (y : NodeWorld). node_played o'.me y rest)) (Acts act (Answered reply) ∷ done') e') (sym end)
    (subst (λ (p : Outcome). Carried o'.me n' (node_behind (Acts act p) (node_played o'.me (after_act o'.me x act) rest)) (Acts act (Answered reply) ∷ done') e') at prefix)
carried old new is done e x (ByFault o' n' act o f rest d closed step told is_f) stands =
    let did_it : StateDid o'.me n' x act d = (ended_does o' n' act untaken.Disk d closed step told).does x stands in
    let same : f ≡ outcome_at o'.me x act = (let both = did_it.outcome in cc) in
    subst (λ (p : Outcome). Carried o'.me n' (node_act_then (act_called o'.me x act).ended (Acts act (outcome_at o'.me x act)) (after_act o'.me x act) (λ (y : NodeWorld). node_played o'.me y rest)) (Acts act p ∷ []) (Struck d)) (sym same)
    (struck_course o'.me n' (after_act o'.me x act) act (λ (y : NodeWorld). node_played o'.me y rest) d (act_called o'.me x act).ended (reply_of o'.me x.acts act) told did_it.outcome did_it.stands)
