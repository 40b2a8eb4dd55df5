-- The acts of an event, as the disk lets them end, are what the parts of the event tell.
use Rattle.std.proofs.Common.{◌≡◌, ◌+◌, Bool, true, false, Option, List, [], ◌∷◌, ◌++◌, length, refl, sym, ◌∙◌, ap, subst, if◌then◌else◌}
use Rattle.std.specs.List.{AllByRecursion}
use Rattle.std.proofs.lemmas.Grind.{flat_map-append}
use Rattle.voting_config.specs.Ids.{Id}
use Rattle.cluster_state.specs.declared.state.ClusterState.{ClusterState}
use Rattle.wire_frames.specs.declared.frame.Frame.{Frame}
use Rattle.world_model.specs.declared.acts.Act.{Act}
use Rattle.world_model.specs.declared.acts.Outcome.{Outcome}
use Rattle.world_model.specs.Acts.{NodeHistory}
use Rattle.world_model.specs.Histories.{History, Next, node_history, sent, is_opening}
use Rattle.world_model.proofs.Legal.{own_deeds}
use Rattle.trace_text.specs.Published.{last_published}
use Rattle.event_text.specs.Published.{published_in}
use Rattle.event_text.specs.Deeds.{act_lines, mode_line, deeds_text}
use Rattle.event_text.proofs.Histories.{published_by_act}
use Rattle.policy_model.specs.declared.settings.Settings.{Settings}
use Rattle.policy_model.specs.declared.events.Deed.{Deed}
use Rattle.policy_model.specs.declared.events.Deed.TheVariants as deed
use Rattle.policy_model.specs.Events.{Item, Opens, Begins, Acts, ChangesMode, Drops, Sends, Replies, Notes}
use Rattle.policy_model.specs.Entries.{deeds_in, deeds_of}
use Rattle.policy_model.specs.Follows.{without_output}
use Rattle.policy_model.specs.Local.{IsAnswered, ByAct, ByQuiet, Ended, is_quiet}
use Rattle.policy_model.specs.Views.{View}
use Rattle.replay_node.specs.Course.{Course, act_then, behind, played}
use Rattle.replay_node.specs.NodeDisk.{CallsEnd, Done, Failed, CrashedIn}
use Rattle.replay_node.specs.NodeWorld.{act_called, outcome_at}
use Rattle.replay_node.specs.Worlds.{World, node_world, did}
use Rattle.schedule_replay.specs.Parts.{Did}
use Rattle.schedule_replay.specs.ActShown.{act_shown}
use Rattle.schedule_replay.specs.ClusterParts.{Shared, ModeChanged}
use Rattle.schedule_replay.specs.ClusterTraceParts.{policy_parts}
use Rattle.schedule_replay.proofs.ActShown.{ShowsOutcome, outcome_shows, cluster_act_shown}
use Rattle.schedule_replay.proofs.ClusterPieces.{Piece, both, nothing, shared, still}

-- ---- no act of an event is an opening

abbrev pub IsShut : Item → Type 0
IsShut (Acts act o) = is_opening act ≡ false
IsShut other = Unit {0}

quiet_shut : (i : Item) → is_quiet i ≡ true → IsShut i
quiet_shut (Acts act o) e = cc
quiet_shut other e = tt

pub answered_shut : (s : Settings) (v : View) (is : List Item) → IsAnswered s v is → AllByRecursion IsShut is
answered_shut s v xs (Ended u) = tt
answered_shut s v xs (ByAct u act is e a) = (e, answered_shut s _ is a)
answered_shut s v xs (ByQuiet u i is e a) = (quiet_shut i e, answered_shut s _ is a)

-- ---- the acts that were done

-- these parts lead from one history to another
abbrev pub LeadTo : Id → History → List Deed → History → Type 0
LeadTo n h [] g = h ≡ g
LeadTo n h (deed.Act act o ∷ ss) g = (is_opening act ≡ false) × ShowsOutcome n act o × LeadTo n (Next h n act o) ss g
LeadTo n h (deed.Mode mode term ∷ ss) g = LeadTo n h ss g

steps_behind : (i : Item) (c : Course) → deeds_of (behind i c).items ≡ deeds_in i ++ deeds_of c.items
steps_behind i c = flat_map-append deeds_in (if c.struck then without_output i else i ∷ []) c.items ∙ from c.struck i
  where
    from : (b : Bool) (i : Item) → deeds_of (if b then without_output i else i ∷ []) ++ deeds_of c.items ≡ deeds_in i ++ deeds_of c.items
    from false (Acts act o) = refl
    from false (ChangesMode mode term) = refl
    from false (Opens found) = refl
    from false (Begins event) = refl
    from false (Drops member cause) = refl
    from false (Sends frame) = refl
    from false (Replies answer) = refl
    from false (Notes note) = refl
    from true (Acts act o) = refl
    from true (ChangesMode mode term) = refl
    from true (Opens found) = refl
    from true (Begins event) = refl
    from true (Drops member cause) = refl
    from true (Sends frame) = refl
    from true (Replies answer) = refl
    from true (Notes note) = refl

leads_behind : (n : Id) (h : History) (i : Item) (c : Course) → LeadTo n h (deeds_in i ++ deeds_of c.items) c.world.history → LeadTo n h (deeds_of (behind i c).items) (behind i c).world.history
leads_behind n h i c l = subst (λ (ss : List Deed). LeadTo n h ss c.world.history) (sym (steps_behind i c)) l

act_leads : (n : Id) (w : World) (act : Act) (is : List Item) (end : CallsEnd) → is_opening act ≡ false → ShowsOutcome n act (outcome_at n (node_world w n) act)
    → LeadTo n (did w n act).history (deeds_of (played n (did w n act) is).items) (played n (did w n act) is).world.history
    → LeadTo n w.history (deeds_of (act_then end (Acts act (outcome_at n (node_world w n) act)) (did w n act) (λ (v : World). played n v is)).items)
    (act_then end (Acts act (outcome_at n (node_world w n) act)) (did w n act) (λ (v : World). played n v is)).world.history
act_leads n w act is Done shut shows l = leads_behind n w.history (Acts act (outcome_at n (node_world w n) act)) (played n (did w n act) is) (shut, shows, l)
act_leads n w act is Failed shut shows l = (shut, shows, refl)
act_leads n w act is (CrashedIn way) shut shows l = (shut, shows, refl)

pub plays_lead : (n : Id) (w : World) (is : List Item) → AllByRecursion IsShut is → LeadTo n w.history (deeds_of (played n w is).items) (played n w is).world.history
plays_lead n w [] s = refl
plays_lead n w (Acts act o ∷ is) s =
    act_leads n w act is (act_called n (node_world w n) act).ended s.0 (outcome_shows n (node_history w.history n) act (act_called n (node_world w n) act).ended s.0) (plays_lead n (did w n act) is s.1)
plays_lead n w (Opens found ∷ is) s = leads_behind n w.history (Opens found) (played n w is) (plays_lead n w is s.1)
plays_lead n w (Begins event ∷ is) s = leads_behind n w.history (Begins event) (played n w is) (plays_lead n w is s.1)
plays_lead n w (ChangesMode mode term ∷ is) s = leads_behind n w.history (ChangesMode mode term) (played n w is) (plays_lead n w is s.1)
plays_lead n w (Drops member cause ∷ is) s = leads_behind n w.history (Drops member cause) (played n w is) (plays_lead n w is s.1)
plays_lead n w (Sends frame ∷ is) s = leads_behind n w.history (Sends frame) (played n w is) (plays_lead n w is s.1)
plays_lead n w (Replies answer ∷ is) s = leads_behind n w.history (Replies answer) (played n w is) (plays_lead n w is s.1)
plays_lead n w (Notes note ∷ is) s = leads_behind n w.history (Notes note) (played n w is) (plays_lead n w is s.1)

-- ---- their text

published_next : (h : History) (n : Id) (act : Act) (o : Outcome) → published_in (last_published (node_history h n)) (deed.Act act o) ≡ last_published (node_history (Next h n act o) n)
published_next h n act o = published_by_act (node_history h n) act o ∙ ap (λ (g : NodeHistory). last_published g) (sym (own_deeds h n act o))

act_piece : (n : Id) (h : History) (fs : List Frame) (act : Act) (o : Outcome) → is_opening act ≡ false → ShowsOutcome n act o
    → Piece h fs (Next h n act o) fs (act_lines n (last_published (node_history h n)) act o) [] (Shared (Did (act_shown (length (sent h)) (last_published (node_history h n)) n act o)) ∷ [])
act_piece n h fs act o shut shows =
    let tells = shows (length (sent h) + 1) in
    shared h (Next h n act o) fs _ [] (Did (act_shown (length (sent h)) (last_published (node_history h n)) n act o))
    (cluster_act_shown (length (sent h)) (last_published (node_history h n)) n act o shut) refl
    (record { outcome = o; is_shown = refl; tells = tells; shut = shut })
    (ap (λ (p : Outcome). Next h n act p) tells)

pub steps_piece : (n : Id) (h : History) (fs : List Frame) (ss : List Deed) (g : History) → LeadTo n h ss g → Piece h fs g fs (deeds_text n (last_published (node_history h n)) ss) [] (policy_parts h n ss)
steps_piece n h fs [] g l = subst (λ (i : History). Piece h fs i fs [] [] []) l (nothing h fs)
steps_piece n h fs (deed.Act act o ∷ ss) g l =
    let more = steps_piece n (Next h n act o) fs ss g l.2 in
    both h (Next h n act o) g fs fs fs _ _ [] [] _ (policy_parts (Next h n act o) n ss) (act_piece n h fs act o l.0 l.1)
    (subst (λ (p : Option ClusterState). Piece (Next h n act o) fs g fs (deeds_text n p ss) [] (policy_parts (Next h n act o) n ss)) (sym (published_next h n act o)) more)
steps_piece n h fs (deed.Mode mode term ∷ ss) g l =
    both h h g fs fs fs (mode_line n mode term) _ [] [] (ModeChanged n mode term ∷ []) (policy_parts h n ss) (still h fs _ (ModeChanged n mode term) refl refl refl) (steps_piece n h fs ss g l)
