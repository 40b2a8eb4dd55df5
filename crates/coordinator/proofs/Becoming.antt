-- Changes of mode, and joins that are started.
use Rattle.std.proofs.Common.{◌≡◌, ℕ, Bool, true, false, List, [], ◌∷◌, ◌++◌, sym, ap, subst, ◌∙◌}
use Rattle.state_journal.specs.declared.keeper.Keeper.{Ghosts}
use Rattle.std.specs.Prelude.{if◌then◌else◌}
use Rattle.std.proofs.lemmas.List.{append-nil}
use Rattle.cluster_state.specs.States.{id_of}
use Rattle.voting_config.specs.Ids.{Id}
use Rattle.master_tasks.specs.declared.waiting.Outgoing.{Outgoing}
use Rattle.master_tasks.specs.Answering.{answers_by, failed}
use Rattle.wire_frames.specs.declared.frame.WireMessage.TheVariants as message
use Rattle.world_model.specs.declared.acts.Act.TheVariants.{StartJoin}
use Rattle.policy_model.specs.declared.settings.Settings.{Settings}
use Rattle.policy_model.specs.Events.{Item, ChangesMode}
use Rattle.policy_model.specs.declared.events.Mode.TheVariants.{Candidate}
use Rattle.policy_model.specs.Views.{View}
use Rattle.policy_model.specs.Moves.{mode_changed}
use Rattle.policy_model.specs.Doing.{is_leader, reply_all, send, act_now, after_act, takes, becomes_candidate, becomes_candidate_once, on_start_join}
use Rattle.coordinator.specs.Showing.{Shown, showing}
use Rattle.coordinator.specs.Views.{view_in}
use Rattle.coordinator.specs.Does.{Makes, Fails, Ends}
use Rattle.coordinator.specs.declared.coordinator.Coordinator.{Coordinator}
use Rattle.coordinator.proofs.Composing.{makes_then, fails_before}
use Rattle.coordinator.proofs.Quiet.{makes_nothing, makes_replies, makes_send, makes_mode}

module _ {K : Type 0} (k : Ghosts K) where
  abbrev view : Coordinator K → View
  view c = view_in k c

  abbrev Make : (old new : Coordinator K) (sent sent_now : Shown) → List Item → Type 0
  Make old new sent sent_now is = Makes k old new sent sent_now is

  abbrev Fail : (old new : Coordinator K) (sent sent_now : Shown) → List Item → Type 0
  Fail old new sent sent_now is = Fails k old new sent sent_now is

  abbrev End : Bool → (old new : Coordinator K) (sent sent_now : Shown) → List Item → Type 0
  End fine old new sent sent_now is = Ends k fine old new sent sent_now is

  -- the same items in other words
  pub makes_as : (a b : Coordinator K) (o1 o2 : Shown) (xs ys : List Item) → Make a b o1 o2 xs → xs ≡ ys → Make a b o1 o2 ys
  makes_as a b o1 o2 xs ys makes same = subst (λ (is : List Item). Make a b o1 o2 is) same makes

  replies_if : (c : Coordinator K) (o : Shown) (b : Bool) (answers : List Outgoing) → Make c c o (record o { replies = o.replies ++ (if b then answers else []) }) (if b then reply_all c.settings answers else [])
  replies_if c o true answers = makes_replies k c o answers
  replies_if c o false answers =
      subst (λ (l : List Outgoing). Make c c o (record o { replies = l }) []) (sym (append-nil o.replies)) (makes_nothing k c o)

  pub becomes : (old new : Coordinator K) (o o1 o_now : Shown) (term : ℕ) → o1 ≡ record o { replies = o.replies ++ (if is_leader old.mode then answers_by (failed old.leader_term) old.tasks.waiting else []) }
      → new.settings ≡ old.settings → new.moment ≡ old.moment → new.core ≡ old.core → term ≡ (view old).node.term → view new ≡ mode_changed (view old) Candidate term → o_now ≡ showing o1 (ChangesMode Candidate term)
      → Make old new o o_now (becomes_candidate old.settings (view old))
  becomes old new o o1 o_now term failed_ones settings moment_is core term_is is shown =
      let first : Make old old o o1 (if is_leader old.mode then reply_all old.settings (answers_by (failed old.leader_term) old.tasks.waiting) else []) =
      subst (λ (x : Shown). Make old old o x (if is_leader old.mode then reply_all old.settings (answers_by (failed old.leader_term) old.tasks.waiting) else [])) (sym failed_ones)
      (replies_if old o (is_leader old.mode) (answers_by (failed old.leader_term) old.tasks.waiting)) in
      let second = makes_mode k old new o1 o_now Candidate term settings moment_is core is shown in
      makes_as old new o o_now _ (becomes_candidate old.settings (view old)) (makes_then k old old new o o1 o_now _ (ChangesMode Candidate term ∷ []) first second)
      (ap (λ (n : ℕ). (if is_leader old.mode then reply_all old.settings (answers_by (failed old.leader_term) old.tasks.waiting) else []) ++ ChangesMode Candidate n ∷ []) term_is)

  -- a join that was started
  pub starts_taken : (old mid new : Coordinator K) (o o1 o2 o3 : Shown) (candidate : Id) (term : ℕ) → Make old mid o o1 (act_now old.settings (view old) (StartJoin candidate term) ∷ [])
      → takes old.settings (view old) (StartJoin candidate term) ≡ true
      → o2 ≡ showing o1 (send mid.settings candidate (message.Join term (id_of (view mid).node.accepted)))
      → Make mid new o2 o3 (becomes_candidate_once mid.settings (view mid))
      → Make old new o o3 (on_start_join old.settings (view old) candidate term)
  starts_taken old mid new o o1 o2 o3 candidate term act taken sent leaves =
      let s = old.settings in
      let v = view old in
      let after = after_act s v (StartJoin candidate term) in
      let frame = send mid.settings candidate (message.Join term (id_of (view mid).node.accepted)) in
      let sends : Make mid mid o1 o2 (frame ∷ []) = subst (λ (x : Shown). Make mid mid o1 x (frame ∷ [])) (sym sent) (makes_send k mid o1 candidate (message.Join term (id_of (view mid).node.accepted))) in
      let all = makes_then k old mid new o o1 o3 (act_now s v (StartJoin candidate term) ∷ []) (frame ∷ becomes_candidate_once mid.settings (view mid)) act
      (makes_then k mid mid new o1 o2 o3 (frame ∷ []) (becomes_candidate_once mid.settings (view mid)) sends leaves) in
      let settings_are : (act_now s v (StartJoin candidate term) ∷ frame ∷ becomes_candidate_once mid.settings (view mid)) ≡ (act_now s v (StartJoin candidate term) ∷ send s candidate (message.Join term (id_of (view mid).node.accepted)) ∷ becomes_candidate_once s (view mid)) =
      ap (λ (x : Settings). act_now s v (StartJoin candidate term) ∷ send x candidate (message.Join term (id_of (view mid).node.accepted)) ∷ becomes_candidate_once x (view mid)) act.goes.settings in
      let view_is : (act_now s v (StartJoin candidate term) ∷ send s candidate (message.Join term (id_of (view mid).node.accepted)) ∷ becomes_candidate_once s (view mid)) ≡ (act_now s v (StartJoin candidate term) ∷ send s candidate (message.Join term (id_of v.node.accepted)) ∷ becomes_candidate_once s after) =
      ap (λ (u : View). act_now s v (StartJoin candidate term) ∷ send s candidate (message.Join term (id_of u.node.accepted)) ∷ becomes_candidate_once s u) act.goes.view in
      let whole : (act_now s v (StartJoin candidate term) ∷ send s candidate (message.Join term (id_of v.node.accepted)) ∷ becomes_candidate_once s after) ≡ on_start_join s v candidate term =
      ap (λ (b : Bool). act_now s v (StartJoin candidate term) ∷ (if b then send s candidate (message.Join term (id_of v.node.accepted)) ∷ becomes_candidate_once s after else [])) (sym taken) in
      makes_as old new o o3 _ _ all (settings_are ∙ view_is ∙ whole)

  pub starts_struck : (old new : Coordinator K) (o o1 : Shown) (candidate : Id) (term : ℕ) → Fail old new o o1 (act_now old.settings (view old) (StartJoin candidate term) ∷ [])
      → Fail old new o o1 (on_start_join old.settings (view old) candidate term)
  starts_struck old new o o1 candidate term fails =
      fails_before k old new o o1 (act_now old.settings (view old) (StartJoin candidate term) ∷ []) _ fails
