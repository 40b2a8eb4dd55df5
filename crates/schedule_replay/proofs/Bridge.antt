-- From what the coordinator's part says of an event to what the node and its disk then are.
use Rattle.std.proofs.Common.{◌≡◌, Bool, true, false, ◌||◌, Some, List, [], ◌∷◌, map, refl, sym, ◌∙◌, ap, subst}
use Rattle.voting_config.specs.Ids.{Id}
use Rattle.coord_state.specs.declared.coord.CoordState.{CoordState}
use Rattle.world_model.specs.declared.acts.Act.{Act}
use Rattle.world_model.specs.declared.acts.Outcome.{Outcome}
use Rattle.world_model.specs.declared.acts.Outcome.TheVariants.{Answered, Disk, Crashed}
use Rattle.replay_node.specs.Did.{outcome_of}
use Rattle.replay_node.specs.Stands.{Journal}
use Rattle.replay_node.specs.StateDoes.{IsReportedBy}
use Rattle.coord_state.specs.declared.ending.NotTaken.TheVariants as untaken
use Rattle.replay_node.specs.declared.did.Did.{Did}
use Rattle.replay_node.specs.declared.did.Did.TheVariants as did
use Rattle.replay_node.proofs.StateSteps.{Step}
use Rattle.world_model.proofs.Struck.{closed_of_writes}
use Rattle.policy_model.specs.declared.settings.Settings.{Settings}
use Rattle.policy_model.specs.declared.events.Deed.{Deed as Shown}
use Rattle.policy_model.specs.Views.{View}
use Rattle.policy_model.specs.Events.{Item, Opens, Begins, Acts, ChangesMode, Drops, Sends, Replies, Notes}
use Rattle.policy_model.specs.Local.{IsAnswered, Ended, ByAct as AnsweredAct, ByQuiet}
use Rattle.policy_model.specs.Follows.{IsStruck, Here, Later, is_fault}
use Rattle.world_model.specs.Replies.{writes}
use Rattle.world_model.specs.declared.acts.ActReply.TheVariants.{Taken}
use Rattle.policy_model.specs.declared.events.Deed.TheVariants as deed
use Rattle.policy_model.specs.declared.events.MemberDrop.{MemberDrop}
use Rattle.zen_disk.specs.declared.orders.Struck.TheVariants.{Stop, Fault}
use Rattle.coordinator.specs.Lives.{StandsForLife}
use Rattle.coordinator.specs.Steps.{IsSealed}
use Rattle.coordinator.specs.CoreActs.{Acted, CoreDid}
use Rattle.std.specs.List.{flat_map}
use Rattle.world_model.specs.NodeState.{halted_of}
use Rattle.replay_node.specs.NodeWorld.{NodeWorld, needs_opening}
use Rattle.replay_node.specs.Stands.{OpenStands}
use Rattle.policy_model.specs.declared.events.Event.{Event}
use Rattle.policy_model.specs.Entries.{Life, Lived, Did as DidEvent, log_of, deeds_of, drops_of, frames_of, replies_of, drops_in, by_receiver, by_member}
use Rattle.policy_model.specs.Events.{And}
use Rattle.policy_model.specs.Views.{view_of}
use Rattle.policy_model.specs.Follows.{items_of}
use Rattle.policy_model.proofs.Answering.{answered-next}
use Rattle.policy_model.proofs.Faults.{struck-frames, struck-replies}
use Rattle.coordinator.specs.Limits.{IsWithin}
use Rattle.coordinator.specs.Steps.{Done, Failed}
use Rattle.coordinator.specs.Views.{IsReady}
use Rattle.coordinator.specs.declared.step.Entries.{Entries}
use Rattle.coordinator.specs.declared.step.Sealed.{Sealed}
use Rattle.replay_node.specs.Course.{node_played}
use Rattle.event_text.specs.Deeds.{outcome_left, as_left}
use Rattle.replay_node.specs.Stands.{CrashedStands}
use Rattle.schedule_replay.specs.EventEnds.{WholeEvent, StruckEvent, own_course, own_life}
use Rattle.schedule_replay.specs.OpenNodes.{Node, OpenFor, keeper}
use Rattle.replay_node.proofs.Carried.{Carries, Nothing, ByAct, ByFault, ByOther, Ending, All, Struck, Carried, carried}
use Rattle.replay_node.proofs.Opened.{open_asks}

-- one act, in the words of a replayed node
step_of : (old new : CoordState Journal) (act : Act) (o : Outcome) → Acted keeper old new act o → Step old new act o
step_of old new act o a = record { acts = a.acts; wrote = a.wrote; any_moment = a.any_moment tt }

-- the core did all of them
pub whole_carries : (s : Settings) (v : View) (old new : CoordState Journal) (is : List Item) → IsAnswered s v is → CoreDid keeper old new is → Carries old new is is All
whole_carries s v old new is (Ended u) same = subst (λ (c : CoordState Journal). Carries old c [] [] All) (sym same) (Nothing old)
whole_carries s v old new is (AnsweredAct u act rest shut a) d =
    ByAct old d.0 new act _ _ rest rest All shut (step_of old d.0 act _ d.1) (whole_carries s _ d.0 new rest a d.2)
whole_carries s v old new is (ByQuiet u (Opens found) rest q a) d = absurd (cc)
whole_carries s v old new is (ByQuiet u (Begins event) rest q a) d = absurd (cc)
whole_carries s v old new is (ByQuiet u (Acts act o) rest q a) d = absurd (cc)
whole_carries s v old new is (ByQuiet u (ChangesMode mode term) rest q a) d = ByOther old new (ChangesMode mode term) rest rest All q (whole_carries s _ old new rest a d)
whole_carries s v old new is (ByQuiet u (Drops member cause) rest q a) d = ByOther old new (Drops member cause) rest rest All q (whole_carries s _ old new rest a d)
whole_carries s v old new is (ByQuiet u (Sends frame) rest q a) d = ByOther old new (Sends frame) rest rest All q (whole_carries s _ old new rest a d)
whole_carries s v old new is (ByQuiet u (Replies answer) rest q a) d = ByOther old new (Replies answer) rest rest All q (whole_carries s _ old new rest a d)
whole_carries s v old new is (ByQuiet u (Notes note) rest q a) d = ByOther old new (Notes note) rest rest All q (whole_carries s _ old new rest a d)

-- an act that the disk failed in has this outcome
abbrev pub as_told : Outcome → Item → Item
as_told f (Acts act (Disk kept)) = Acts act f
as_told f i = i

-- it did those up to an act that was struck
pub struck_carries : (s : Settings) (old new : CoordState Journal) (is left : List Item) (v : View) (d : Did) (f : Outcome) → IsAnswered s v is → IsStruck is left → CoreDid keeper old new left
    → IsReportedBy new untaken.Disk d → outcome_of d ≡ Some f → Carries old new is (map (as_told f) left) (Struck d)
struck_carries s old new is left v d f a (Here act sends wins rest (Disk kept) w fault) c told is_f =
    let lost : kept ≡ false = c.1.told in
    let step : Step old c.0 act (Disk false) = subst (λ (b : Bool). Step old c.0 act (Disk b)) lost (step_of old c.0 act (Disk kept) c.1) in
    ByFault old new act _ f rest d (closed_of_writes act w) (subst (λ (m : CoordState Journal). Step old m act (Disk false)) (sym c.2) step) told is_f
struck_carries s old new is left v d f a (Here act sends wins rest (Crashed kept) w fault) c told is_f = absurd c.1.told
struck_carries s old new is left v d f a (Here act sends wins rest (Answered reply) w fault) c told is_f = absurd (cc)
struck_carries s old new is left v d f (AnsweredAct u act rest shut a) (Later i rest' left' q) c told is_f =
    ByAct old c.0 new act _ _ rest (map (as_told f) left') (Struck d) shut (step_of old c.0 act _ c.1) (struck_carries s c.0 new rest left' _ d f a q c.2 told is_f)
struck_carries s old new is left v d f (ByQuiet u (Opens found) rest quiet a) (Later i rest' left' q) c told is_f = absurd (cc)
struck_carries s old new is left v d f (ByQuiet u (Begins event) rest quiet a) (Later i rest' left' q) c told is_f = absurd (cc)
struck_carries s old new is left v d f (ByQuiet u (Acts act o) rest quiet a) (Later i rest' left' q) c told is_f = absurd (cc)
struck_carries s old new is left v d f (ByQuiet u (ChangesMode mode term) rest quiet a) (Later i rest' left' q) c told is_f =
    ByOther old new (ChangesMode mode term) rest (map (as_told f) left') (Struck d) quiet (struck_carries s old new rest left' _ d f a q c told is_f)
struck_carries s old new is left v d f (ByQuiet u (Drops member cause) rest quiet a) (Later i rest' left' q) c told is_f =
    ByOther old new (Drops member cause) rest (map (as_told f) left') (Struck d) quiet (struck_carries s old new rest left' _ d f a q c told is_f)
struck_carries s old new is left v d f (ByQuiet u (Sends frame) rest quiet a) (Later i rest' left' q) c told is_f =
    ByOther old new (Sends frame) rest (map (as_told f) left') (Struck d) quiet (struck_carries s old new rest left' _ d f a q c told is_f)
struck_carries s old new is left v d f (ByQuiet u (Replies answer) rest quiet a) (Later i rest' left' q) c told is_f =
    ByOther old new (Replies answer) rest (map (as_told f) left') (Struck d) quiet (struck_carries s old new rest left' _ d f a q c told is_f)
struck_carries s old new is left v d f (ByQuiet u (Notes note) rest quiet a) (Later i rest' left' q) c told is_f =
    ByOther old new (Notes note) rest (map (as_told f) left') (Struck d) quiet (struck_carries s old new rest left' _ d f a q c told is_f)

-- an act that the disk failed in counts as not kept
pub told_same : (old new : CoordState Journal) (left : List Item) → CoreDid keeper old new left → map (as_told (Disk false)) left ≡ left
told_same old new [] d = refl
told_same old new (Opens found ∷ is) d = absurd d
told_same old new (Begins event ∷ is) d = absurd d
told_same old new (Acts act (Answered reply) ∷ is) d = ap (λ (xs : List Item). Acts act (Answered reply) ∷ xs) (told_same d.0 new is d.2)
told_same old new (Acts act (Disk kept) ∷ is) d =
    ap (λ (b : Bool). Acts act (Disk b) ∷ map (as_told (Disk false)) is) (sym d.1.told) ∙ ap (λ (xs : List Item). Acts act (Disk kept) ∷ xs) (told_same d.0 new is d.2)
told_same old new (Acts act (Crashed kept) ∷ is) d = absurd d.1.told
told_same old new (ChangesMode mode term ∷ is) d = ap (λ (xs : List Item). ChangesMode mode term ∷ xs) (told_same old new is d)
told_same old new (Drops member cause ∷ is) d = ap (λ (xs : List Item). Drops member cause ∷ xs) (told_same old new is d)
told_same old new (Sends frame ∷ is) d = ap (λ (xs : List Item). Sends frame ∷ xs) (told_same old new is d)
told_same old new (Replies answer ∷ is) d = ap (λ (xs : List Item). Replies answer ∷ xs) (told_same old new is d)
told_same old new (Notes note ∷ is) d = ap (λ (xs : List Item). Notes note ∷ xs) (told_same old new is d)

crashed_here : (act : Act) (sends : _) (wins : Bool) (rest : List Item) (fault : Outcome) → writes act ≡ true → is_fault fault ≡ true → IsStruck (Acts act (Answered (Taken sends wins)) ∷ rest) (as_told (Crashed false) (Acts act fault) ∷ [])
crashed_here act sends wins rest (Answered reply) w f = absurd (cc)
crashed_here act sends wins rest (Disk kept) w f = Here act sends wins rest (Crashed false) w refl
crashed_here act sends wins rest (Crashed kept) w f = Here act sends wins rest (Crashed kept) w f

-- the items are struck also where the act is one inside which the disk stopped
pub crashed_struck : (s : Settings) (is left : List Item) (v : View) → IsAnswered s v is → IsStruck is left → IsStruck is (map (as_told (Crashed false)) left)
crashed_struck s is left v a (Here act sends wins rest fault w f) = crashed_here act sends wins rest fault w f
crashed_struck s is left v (AnsweredAct u act rest shut a) (Later i rest' left' q) = Later _ rest _ (crashed_struck s rest left' _ a q)
crashed_struck s is left v (ByQuiet u (Opens found) rest quiet a) (Later i rest' left' q) = absurd (cc)
crashed_struck s is left v (ByQuiet u (Begins event) rest quiet a) (Later i rest' left' q) = absurd (cc)
crashed_struck s is left v (ByQuiet u (Acts act o) rest quiet a) (Later i rest' left' q) = absurd (cc)
crashed_struck s is left v (ByQuiet u (ChangesMode mode term) rest quiet a) (Later i rest' left' q) = Later (ChangesMode mode term) rest _ (crashed_struck s rest left' _ a q)
crashed_struck s is left v (ByQuiet u (Drops member cause) rest quiet a) (Later i rest' left' q) = Later (Drops member cause) rest _ (crashed_struck s rest left' _ a q)
crashed_struck s is left v (ByQuiet u (Sends frame) rest quiet a) (Later i rest' left' q) = Later (Sends frame) rest _ (crashed_struck s rest left' _ a q)
crashed_struck s is left v (ByQuiet u (Replies answer) rest quiet a) (Later i rest' left' q) = Later (Replies answer) rest _ (crashed_struck s rest left' _ a q)
crashed_struck s is left v (ByQuiet u (Notes note) rest quiet a) (Later i rest' left' q) = Later (Notes note) rest _ (crashed_struck s rest left' _ a q)

-- they show the same, but for how that act ended
abbrev pub fault_told : Bool → Outcome
fault_told true = Crashed false
fault_told false = Disk false

told_fault : (crashed kept : Bool) → kept ≡ false → outcome_left crashed (Disk kept) ≡ fault_told crashed
told_fault true kept lost = ap (λ (b : Bool). Crashed b) lost
told_fault false kept lost = ap (λ (b : Bool). Disk b) lost

pub told_steps : (crashed : Bool) (old new : CoordState Journal) (left : List Item) → CoreDid keeper old new left → as_left crashed (deeds_of left) ≡ deeds_of (map (as_told (fault_told crashed)) left)
told_steps crashed old new [] d = refl
told_steps crashed old new (Opens found ∷ is) d = absurd d
told_steps crashed old new (Begins event ∷ is) d = absurd d
told_steps crashed old new (Acts act (Answered reply) ∷ is) d = ap (λ (xs : List Shown). deed.Act act (Answered reply) ∷ xs) (told_steps crashed d.0 new is d.2)
told_steps crashed old new (Acts act (Disk kept) ∷ is) d =
    ap (λ (o : Outcome). deed.Act act o ∷ as_left crashed (deeds_of is)) (told_fault crashed kept d.1.told) ∙ ap (λ (xs : List Shown). deed.Act act (fault_told crashed) ∷ xs) (told_steps crashed d.0 new is d.2)
told_steps crashed old new (Acts act (Crashed kept) ∷ is) d = absurd d.1.told
told_steps crashed old new (ChangesMode mode term ∷ is) d = ap (λ (xs : List Shown). deed.Mode mode term ∷ xs) (told_steps crashed old new is d)
told_steps crashed old new (Drops member cause ∷ is) d = told_steps crashed old new is d
told_steps crashed old new (Sends frame ∷ is) d = told_steps crashed old new is d
told_steps crashed old new (Replies answer ∷ is) d = told_steps crashed old new is d
told_steps crashed old new (Notes note ∷ is) d = told_steps crashed old new is d

crashed_drops : (f : Outcome) (left : List Item) → flat_map drops_in left ≡ flat_map drops_in (map (as_told f) left)
crashed_drops f [] = refl
crashed_drops f (Opens found ∷ is) = crashed_drops f is
crashed_drops f (Begins event ∷ is) = crashed_drops f is
crashed_drops f (Acts act (Answered reply) ∷ is) = crashed_drops f is
crashed_drops f (Acts act (Disk kept) ∷ is) = crashed_drops f is
crashed_drops f (Acts act (Crashed kept) ∷ is) = crashed_drops f is
crashed_drops f (ChangesMode mode term ∷ is) = crashed_drops f is
crashed_drops f (Drops member cause ∷ is) = ap (λ (xs : List MemberDrop). record { member = member; cause = cause } ∷ xs) (crashed_drops f is)
crashed_drops f (Sends frame ∷ is) = crashed_drops f is
crashed_drops f (Replies answer ∷ is) = crashed_drops f is
crashed_drops f (Notes note ∷ is) = crashed_drops f is

-- ---- a node at an event

module _ (s : Settings) (life : Life) (x : NodeWorld) (event : Event) (old new : Node) (stands : OpenFor s old life x) (ready : IsReady new) (running : old.core.keeper.log.stopped ≡ false) where
  abbrev items : List Item
  items = items_of s (log_of life) event

  me_is : old.core.me ≡ s.me
  me_is = stands.ready.me ∙ ap (λ (t : Settings). t.me) stands.settings

  answered : IsAnswered s (view_of s (And (log_of life) (Begins event))) items
  answered = answered-next s (view_of s (And (log_of life) (Begins event))) event

  runs : needs_opening x ≡ false
  runs = open_asks s.me old.core x stands.core ∙ running

  node_carried : (done : List Item) (e : Ending) → Carries old.core new.core items done e → Carried s.me new.core (node_played s.me x items) done e
  node_carried done e c =
      subst (λ (i : Id). Carried i new.core (node_played i x items) done e) me_is
      (carried old.core new.core items done e x c (subst (λ (i : Id). OpenStands i old.core x) (sym me_is) stands.core))

  pub whole_event : (sealed : Sealed) → Done keeper old new event (items_of old.settings (log_of life) event) sealed → IsWithin keeper old new sealed → WholeEvent s life x event new sealed
  whole_event sealed d within =
      let done : Done keeper old new event items sealed = subst (λ (t : Settings). Done keeper old new event (items_of t (log_of life) event) sealed) stands.settings d in
      let got = node_carried items All (whole_carries s _ old.core new.core items answered done.enters.core) in
      record {
        runs = runs;
        all = sym got.items;
        stands = record {
          settings = done.enters.settings ∙ stands.settings;
          ready = ready;
          life_is = subst (λ (is : List Item). StandsForLife keeper new (Lived life (DidEvent event is))) got.items (done.enters.stands life stands.life_is);
          core = got.stands;
          fit = λ still. within.after (stands.fit running);
        };
        still_runs = open_asks s.me new.core _ got.stands ∙ done.runs;
        seals = subst (λ (is : List Item). IsSealed event is sealed) got.items done.seals;
        fit = within.sends (stands.fit running);
      }

  module _ (told : Entries) (d : Failed keeper old new event (items_of old.settings (log_of life) event) told) where
    failed : Failed keeper old new event items told
    failed = subst (λ (t : Settings). Failed keeper old new event (items_of t (log_of life) event) told) stands.settings d

    struck_event : (crashed : Bool) (done : List Item) → map (as_told (fault_told crashed)) failed.left ≡ done → done ≡ (node_played s.me x items).items → IsStruck items done → needs_opening (node_played s.me x items).node ≡ true
        → StruckEvent s life x event crashed told
    struck_event crashed done told_is is struck waits = record {
      runs = runs;
      struck = subst (λ (l : List Item). IsStruck items l) is struck;
      deeds = ap (λ (l : List Shown). as_left crashed l) failed.entries.deeds ∙ told_steps crashed old.core new.core failed.left failed.enters.core ∙ ap (λ (l : List Item). deeds_of l) (told_is ∙ is);
      drops = failed.entries.drops ∙ ap by_member (crashed_drops (fault_told crashed) failed.left) ∙ ap (λ (l : List Item). drops_of l) (told_is ∙ is);
      frames = ap (λ (l : List Item). frames_of l) (sym is) ∙ ap by_receiver (struck-frames items done struck);
      replies = ap (λ (l : List Item). replies_of l) (sym is) ∙ struck-replies items done struck;
      waits = waits;
    }

    pub failed_event : new.core.keeper.log.disk.struck ≡ Some Fault → StruckEvent s life x event false told × OpenFor s new (own_life s life x event) (own_course s life x event).node
    failed_event by =
        let got = node_carried _ (Struck did.Disk) (struck_carries s old.core new.core items failed.left _ did.Disk (Disk false) answered failed.struck failed.enters.core by refl) in
        let same : map (as_told (Disk false)) failed.left ≡ failed.left = told_same old.core new.core failed.left failed.enters.core in
        let is : failed.left ≡ (node_played s.me x items).items = sym same ∙ got.items in (
          struck_event false failed.left same is failed.struck (open_asks s.me new.core _ got.stands ∙ failed.stopped),
          record {
            settings = failed.enters.settings ∙ stands.settings;
            ready = ready;
            life_is = subst (λ (l : List Item). StandsForLife keeper new (Lived life (DidEvent event l))) is (failed.enters.stands life stands.life_is);
            core = got.stands;
            fit = λ still. absurd (let stopped = failed.stopped in cc);
          },
        )

    pub crashed_event : new.core.keeper.log.disk.struck ≡ Some Stop → StruckEvent s life x event true told × CrashedStands s.me new.core (own_course s life x event).node
    crashed_event by =
        let done : List Item = map (as_told (Crashed false)) failed.left in
        let got = node_carried done (Struck did.Crashed) (struck_carries s old.core new.core items failed.left _ did.Crashed (Crashed false) answered failed.struck failed.enters.core by refl) in
        let struck : IsStruck items done = crashed_struck s items failed.left _ answered failed.struck in
        (struck_event true done refl got.items struck (ap (λ (b : Bool). b || halted_of (node_played s.me x items).node.acts) got.stands.down), got.stands)
