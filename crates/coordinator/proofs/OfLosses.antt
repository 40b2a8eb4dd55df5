-- What a node does where the connection to another has ended.
use Rattle.std.proofs.Common.{◌≡◌, ℕ, ◌+◌, Bool, true, false, not, ◌&&◌, List, [], ◌∷◌, ◌++◌, refl, sym, ap, subst, ◌∙◌}
use Rattle.std.specs.Prelude.{Option, if◌then◌else◌, is_some}
use Rattle.state_journal.specs.declared.keeper.Keeper.{Ghosts}
use Rattle.voting_config.specs.Ids.{Id, has, with_room}
use Rattle.peer_finder.specs.Peers.{answer_in}
use Rattle.fault_checks.specs.Followers.{ids_of}
use Rattle.master_tasks.specs.Queue.{Tasks, to_be_removed}
use Rattle.world_model.specs.Replies.{elects}
use Rattle.policy_model.specs.declared.settings.Settings.{Settings}
use Rattle.policy_model.specs.declared.events.DropCause.TheVariants.{Disconnect}
use Rattle.policy_model.specs.Events.{Item, Drops, Notes, PeerLost, LeaderLost}
use Rattle.policy_model.specs.Views.{View, master_now}
use Rattle.policy_model.specs.Moves.{moved_all}
use Rattle.policy_model.specs.Doing.{then_rule, becomes_candidate, is_second}
use Rattle.policy_model.specs.NextState.{is_in_flight, is_hopeless}
use Rattle.policy_model.specs.Elections.{stands_for_election}
use Rattle.policy_model.specs.Disconnects.{drops_follower, keeps_quorum, stands_anew, goes_on_with_rest, loses_follower, loses_leader, loses_peer}
use Rattle.coordinator.specs.Ahead.{HasPlan}
use Rattle.coordinator.specs.Plans.{IsPlanned}
use Rattle.coordinator.specs.Showing.{Shown}
use Rattle.coordinator.specs.Ticks.{dropped}
use Rattle.coordinator.specs.Views.{view_in}
use Rattle.coordinator.specs.Does.{Makes}
use Rattle.coordinator.specs.declared.coordinator.Coordinator.{Coordinator}
use Rattle.coordinator.specs.declared.plan.Plan.{Plan}
use Rattle.coordinator.proofs.Becoming.{makes_as}
use Rattle.coordinator.proofs.Composing.{ends_rule, makes_then}
use Rattle.coordinator.proofs.Foreseen.{has_planned}

pub planned_loss : (s : Settings) (v : View) (p : Id) (plan : Option Plan) (copy tasks : Tasks) → copy ≡ v.tasks → tasks ≡ to_be_removed copy p
    → HasPlan (master_now s v) tasks plan → IsPlanned s (moved_all s v (drops_follower s p)) plan
planned_loss s v p plan copy tasks copy_is tasks_is has_it =
    has_planned s (moved_all s v (drops_follower s p)) (master_now s v) tasks plan has_it refl
    (tasks_is ∙ ap (λ (t : Tasks). to_be_removed t p) copy_is)

-- the quorum of a leader, by the followers that it watches
pub quorum_watched : (s : Settings) (v : View) (up : List Id) (elected : Bool) → (is_second s && is_in_flight v.publication) ≡ false → up ≡ with_room (ids_of v.followers.watched) s.me
    → elected ≡ elects v.node up → elected ≡ keeps_quorum s v
quorum_watched s v up elected apart up_is is =
    let watched = elects v.node (with_room (ids_of v.followers.watched) s.me) in
    let hoped = not (is_hopeless v v.publication) in
    is ∙ ap (λ (ids : List Id). elects v.node ids) up_is
    ∙ ap (λ (b : Bool). if b then hoped else watched) (sym apart)

module _ {K : Type 0} (k : Ghosts K) where
  abbrev view : Coordinator K → View
  view c = view_in k c

  abbrev Make : (old new : Coordinator K) (sent sent_now : Shown) → List Item → Type 0
  Make old new sent sent_now is = Makes k old new sent sent_now is

  -- a candidate, by whether the peer has answered
  pub peer_lost : (old new : Coordinator K) (o : Shown) (p : Id) → is_some (answer_in (view old).finder.peers p) ≡ true → Make old new o o (Notes (PeerLost p) ∷ [])
      → Make old new o o (loses_peer old.settings (view old) p)
  peer_lost old new o p answered makes =
      makes_as k old new o o _ _ makes (ap (λ (b : Bool). if b then Notes (PeerLost p) ∷ [] else []) (sym answered))

  -- a follower is dropped
  pub follower_dropped : (old new : Coordinator K) (o o1 : Shown) (p : Id) (tasks : Tasks) → tasks ≡ to_be_removed old.tasks p
      → o1 ≡ record o { drops = o.drops ++ dropped Disconnect p ∷ [] } → Make (record old { tasks = tasks }) new o1 o1 (Notes (PeerLost p) ∷ [])
      → Make old new o o1 (drops_follower old.settings p)
  follower_dropped old new o o1 p tasks tasks_are shown makes =
      let mid : Coordinator K = record old { tasks = tasks } in
      let first : Make old mid o o1 (Drops p Disconnect ∷ []) = record {
        goes = record { settings = refl; clock = refl; view = ap (λ (t : Tasks). record (view old) { tasks = t }) tasks_are; core = refl };
        shown = shown;
      } in
      makes_then k old mid new o o1 o1 (Drops p Disconnect ∷ []) (Notes (PeerLost p) ∷ []) first makes

  -- and the leader goes on with the rest
  pub follower_lost : (old mid new : Coordinator K) (o o0 o1 o2 : Shown) (p : Id) → o0 ≡ o → has p (ids_of (view old).followers.watched) ≡ true
      → Make old mid o0 o1 (drops_follower old.settings p) → Make mid new o1 o2 (goes_on_with_rest mid.settings (view mid))
      → Make old new o o2 (loses_follower old.settings (view old) p)
  follower_lost old mid new o o0 o1 o2 p same watched first second =
      let s = old.settings in
      let all : Make old new o0 o2 (then_rule s (view old) (drops_follower s p) (goes_on_with_rest s)) =
      ends_rule k old mid new o0 o1 o2 (drops_follower s p) goes_on_with_rest true first second in
      subst (λ (x : Shown). Make old new x o2 (loses_follower s (view old) p)) same
      (makes_as k old new o0 o2 _ _ all (ap (λ (b : Bool). if b then then_rule s (view old) (drops_follower s p) (goes_on_with_rest s) else []) (sym watched)))

  -- a follower becomes a candidate, and notes its loss
  pub leader_lost : (old mid new : Coordinator K) (o o0 o1 : Shown) → o0 ≡ o
      → Make old mid o0 o1 (becomes_candidate old.settings (view old)) → Make mid new o1 o1 (Notes LeaderLost ∷ [])
      → Make old new o o1 (loses_leader old.settings (view old))
  leader_lost old mid new o o0 o1 same first second =
      let s = old.settings in
      let v = view old in
      subst (λ (x : Shown). Make old new x o1 (loses_leader s v)) same
      (makes_then k old mid new o0 o1 o1 (becomes_candidate s v) (Notes LeaderLost ∷ []) first second)

  -- a leader becomes a candidate, and stands for election
  pub led_anew : (old mid new : Coordinator K) (o o1 o2 : Shown) (term : ℕ) → Make old mid o o1 (becomes_candidate old.settings (view old))
      → term ≡ (view mid).node.term + 1 → Make mid new o1 o2 (stands_for_election mid.settings (view mid) term)
      → Make old new o o2 (stands_anew old.settings (view old))
  led_anew old mid new o o1 o2 term first term_is second =
      ends_rule k old mid new o o1 o2 (becomes_candidate old.settings (view old)) (λ s u. stands_for_election s u (u.node.term + 1)) true first
      (makes_as k mid new o1 o2 _ _ second (ap (λ (n : ℕ). stands_for_election mid.settings (view mid) n) term_is))
