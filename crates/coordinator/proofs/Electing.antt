-- How a candidate comes to be elected.
use Rattle.std.proofs.Common.{◌≡◌, ℕ, ◌+◌, ◌≤◌, ◌<◌, Bool, true, false, not, ◌&&◌, Option, None, Some, List, [], ◌∷◌, ◌++◌, refl, sym, ap, subst, ◌∙◌}
use Rattle.std.proofs.lemmas.Bool.{le-leb, lt-leb}
use Rattle.std.specs.Prelude.{if◌then◌else◌}
use Rattle.cluster_state.specs.Field.{last_number}
use Rattle.state_journal.specs.declared.keeper.Keeper.{Ghosts}
use Rattle.voting_config.specs.Ids.{Id, with_id, without_id}
use Rattle.peer_finder.specs.Peers.{known_set}
use Rattle.wire_frames.specs.declared.frame.WireMessage.TheVariants as message
use Rattle.world_model.specs.Replies.{elects}
use Rattle.world_model.specs.declared.acts.Act.TheVariants.{Bootstrap}
use Rattle.policy_model.specs.declared.settings.Settings.{Settings}
use Rattle.policy_model.specs.Events.{Item, Notes, RoundBegun, RoundEnded, ElectionOff}
use Rattle.policy_model.specs.Views.{View}
use Rattle.policy_model.specs.Doing.{is_voting_only, may_win, send_all, act_now}
use Rattle.policy_model.specs.Elections.{takes_config, bootstraps, stands_for_election, free_nodes, begins_round, waits_until, waits_for_election}
use Rattle.coordinator.specs.Bootstraps.{config_in, IsPlannedFirst}
use Rattle.coordinator.specs.Rounds.{stands_alone}
use Rattle.coordinator.specs.Showing.{Shown}
use Rattle.coordinator.specs.Views.{view_in}
use Rattle.coordinator.specs.Does.{Makes, Ends}
use Rattle.coordinator.specs.declared.coordinator.Coordinator.{Coordinator}
use Rattle.coordinator.specs.declared.plan.FirstState.{FirstState}
use Rattle.coordinator.proofs.Composing.{makes_then}
use Rattle.coordinator.proofs.Becoming.{makes_as}
use Rattle.coordinator.proofs.Quiet.{makes_nothing, makes_note}

module _ {K : Type 0} (k : Ghosts K) where
  abbrev view : Coordinator K → View
  view c = view_in k c

  abbrev Make : (old new : Coordinator K) (sent sent_now : Shown) → List Item → Type 0
  Make old new sent sent_now is = Makes k old new sent sent_now is

  abbrev End : Bool → (old new : Coordinator K) (sent sent_now : Shown) → List Item → Type 0
  End fine old new sent sent_now is = Ends k fine old new sent sent_now is

  -- the first configuration is taken as planned
  pub boots : (old new : Coordinator K) (o o1 : Shown) (planned : Option FirstState) (first : FirstState) (fine : Bool) → IsPlannedFirst old.settings (view old) planned → planned ≡ Some first
      → End fine old new o o1 (act_now old.settings (view old) (Bootstrap first.config) ∷ []) → End fine old new o o1 (bootstraps old.settings (view old))
  boots old new o o1 planned first fine is some ends =
      subst (λ (l : List Item). End fine old new o o1 l) (sym (ap (λ (d : Option (List Id)). takes_config old.settings (view old) d) (is.decided ∙ ap (λ (f : Option FirstState). config_in f) some))) ends

  pub boots_not : (old : Coordinator K) (o : Shown) (planned : Option FirstState) → IsPlannedFirst old.settings (view old) planned → planned ≡ None
      → Make old old o o (bootstraps old.settings (view old))
  boots_not old o planned is none =
      makes_as k old old o o _ _ (makes_nothing k old o) (sym (ap (λ (d : Option (List Id)). takes_config old.settings (view old) d) (is.decided ∙ ap (λ (f : Option FirstState). config_in f) none)))

  -- the node stands for election, where the term is not too large
  pub stands : (old : Coordinator K) (o o1 : Shown) (term : ℕ) (all : List Id) → term ≤ last_number → all ≡ with_id old.settings.me (known_set old.finder)
      → Make (record old { round = None }) (record old { round = None }) o o1 (send_all old.settings all (message.StartJoin old.settings.me term))
      → Make old (record old { round = None }) o o1 (stands_for_election old.settings (view old) term)
  stands old o o1 term all small all_is sends =
      let s = old.settings in
      let v = view old in
      let mid = record old { round = None } in
      let m = message.StartJoin s.me term in
      makes_as k old mid o o1 _ _ (makes_then k old mid mid o o o1 (Notes RoundEnded ∷ []) (send_all s all m) (makes_note k old mid o RoundEnded refl refl refl refl) sends)
      (ap (λ (l : List Id). Notes RoundEnded ∷ send_all s l m) all_is
      ∙ ap (λ (b : Bool). Notes RoundEnded ∷ (if b then send_all s (with_id s.me (known_set v.finder)) m else [])) (sym (le-leb term last_number small)))

  pub stands_not : (old : Coordinator K) (o : Shown) (term : ℕ) → last_number < term → Make old (record old { round = None }) o o (stands_for_election old.settings (view old) term)
  stands_not old o term large =
      let s = old.settings in
      let v = view old in
      let mid = record old { round = None } in
      makes_as k old mid o o _ _ (makes_note k old mid o RoundEnded refl refl refl refl)
      (ap (λ (b : Bool). Notes RoundEnded ∷ (if b then send_all s (with_id s.me (known_set v.finder)) (message.StartJoin s.me term) else [])) (sym (lt-leb term last_number large)))

  -- a node that is a quorum alone
  pub alone_stands : (old new : Coordinator K) (o o1 : Shown) (alone : List Id) (term : ℕ) → alone ≡ old.settings.me ∷ [] → elects (view old).node alone ≡ true → term ≡ (view old).node.term + 1
      → Make old new o o1 (stands_for_election old.settings (view old) term) → Make old new o o1 (stands_alone old.settings (view old))
  alone_stands old new o o1 alone term alone_is wins term_is makes =
      let s = old.settings in
      let v = view old in
      makes_as k old new o o1 _ _ makes
      (ap (λ (n : ℕ). stands_for_election s v n) term_is
      ∙ ap (λ (b : Bool). if b then stands_for_election s v (v.node.term + 1) else []) (sym wins)
      ∙ ap (λ (l : List Id). if elects v.node l then stands_for_election s v (v.node.term + 1) else []) alone_is)

  pub alone_waits : (old : Coordinator K) (o : Shown) (alone : List Id) → alone ≡ old.settings.me ∷ [] → elects (view old).node alone ≡ false → Make old old o o (stands_alone old.settings (view old))
  alone_waits old o alone alone_is wins =
      let s = old.settings in
      let v = view old in
      makes_as k old old o o _ _ (makes_nothing k old o)
      (ap (λ (b : Bool). if b then stands_for_election s v (v.node.term + 1) else []) (sym wins)
      ∙ ap (λ (l : List Id). if elects v.node l then stands_for_election s v (v.node.term + 1) else []) alone_is)

  -- a round begins
  pub begins : (old mid new : Coordinator K) (o o1 o2 : Shown) (word : ℕ) (others free : List Id) → others ≡ without_id old.settings.me free → free ≡ free_nodes old.settings (view old)
      → Make old mid o o (Notes (RoundBegun word) ∷ []) → Make mid mid o o1 (send_all mid.settings others message.PreVoteAsk) → Make mid new o1 o2 (stands_alone mid.settings (view mid))
      → Make old new o o2 (begins_round old.settings (view old) word)
  begins old mid new o o1 o2 word others free others_are free_is first asks alone =
      let s = old.settings in
      let v = view old in
      let m = message.PreVoteAsk in
      makes_as k old new o o2 _ _
      (makes_then k old mid new o o o2 (Notes (RoundBegun word) ∷ []) (send_all mid.settings others m ++ stands_alone mid.settings (view mid)) first
      (makes_then k mid mid new o o1 o2 (send_all mid.settings others m) (stands_alone mid.settings (view mid)) asks alone))
      (ap (λ (x : Settings). Notes (RoundBegun word) ∷ send_all x others m ++ stands_alone x (view mid)) first.goes.settings
      ∙ ap (λ (u : View). Notes (RoundBegun word) ∷ send_all s others m ++ stands_alone s u) first.goes.view
      ∙ ap (λ (l : List Id). Notes (RoundBegun word) ∷ send_all s l m ++ stands_alone s v) (others_are ∙ ap (λ (l : List Id). without_id s.me l) free_is))

  -- the wait for an election
  pub waits_on : (old new : Coordinator K) (o o1 : Shown) (word : ℕ) (free : List Id) → free ≡ free_nodes old.settings (view old) → (not (is_voting_only old.settings old.settings.me) && (may_win old.settings (view old) && elects (view old).node free)) ≡ true
      → Make old new o o1 (waits_until old.settings (view old) word old.deadline) → Make old new o o1 (waits_for_election old.settings (view old) word)
  waits_on old new o o1 word free free_is may makes =
      let s = old.settings in
      let v = view old in
      makes_as k old new o o1 _ _ makes
      (ap (λ (b : Bool). if b then waits_until s v word v.deadline else Notes ElectionOff ∷ []) (sym may)
      ∙ ap (λ (l : List Id). if not (is_voting_only s s.me) && (may_win s v && elects v.node l) then waits_until s v word v.deadline else Notes ElectionOff ∷ []) free_is)

  pub waits_off : (old : Coordinator K) (o : Shown) (word : ℕ) (free : List Id) → free ≡ free_nodes old.settings (view old) → (not (is_voting_only old.settings old.settings.me) && (may_win old.settings (view old) && elects (view old).node free)) ≡ false
      → Make old (record old { deadline = None }) o o (waits_for_election old.settings (view old) word)
  waits_off old o word free free_is may =
      let s = old.settings in
      let v = view old in
      makes_as k old (record old { deadline = None }) o o _ _ (makes_note k old (record old { deadline = None }) o ElectionOff refl refl refl refl)
      (ap (λ (b : Bool). if b then waits_until s v word v.deadline else Notes ElectionOff ∷ []) (sym may)
      ∙ ap (λ (l : List Id). if not (is_voting_only s s.me) && (may_win s v && elects v.node l) then waits_until s v word v.deadline else Notes ElectionOff ∷ []) free_is)
