-- Responses that are counted, and the commit that they come to.
use Rattle.std.proofs.Common.{◌≡◌, Bool, true, false, ◌&&◌, List, [], ◌∷◌, ◌++◌, map, refl, sym, ap, subst, ◌∙◌}
use Rattle.std.specs.Prelude.{if◌then◌else◌, is_some}
use Rattle.std.proofs.lemmas.List.{append_assoc}
use Rattle.state_journal.specs.declared.keeper.Keeper.{Ghosts}
use Rattle.cluster_state.specs.declared.state.StateId.{StateId}
use Rattle.voting_config.specs.Ids.{Id, among, has_room}
use Rattle.wire_frames.specs.declared.frame.WireMessage.TheVariants as message
use Rattle.master_tasks.specs.Queue.{Tasks}
use Rattle.master_tasks.specs.Answering.{answers_by, committed_in, without_answered}
use Rattle.policy_model.specs.declared.settings.Settings.{Settings}
use Rattle.policy_model.specs.Events.{Item, Notes, CommitAcked}
use Rattle.policy_model.specs.Views.{View}
use Rattle.policy_model.specs.Parts.{published_id}
use Rattle.policy_model.specs.NextState.{responders_of, targets_of}
use Rattle.policy_model.specs.Doing.{is_leader, reply_all, send_all, reply_now, act_now, after_act}
use Rattle.policy_model.specs.Publications.{is_commit_sent, commits_now, sends_commit, sends_first_commit, on_response}
use Rattle.coordinator.specs.Commits.{responding, takes_response, acks_commit}
use Rattle.coordinator.specs.Plans.{frame_to}
use Rattle.coordinator.specs.Showing.{Shown}
use Rattle.coordinator.specs.Views.{view_in}
use Rattle.coordinator.specs.Does.{Makes}
use Rattle.coordinator.specs.declared.coordinator.Coordinator.{Coordinator}
use Rattle.coordinator.proofs.Composing.{makes_then}
use Rattle.coordinator.proofs.Becoming.{makes_as}
use Rattle.coordinator.proofs.Quiet.{makes_nothing, makes_replies, makes_note, sends_shown}

module _ {K : Type 0} (k : Ghosts K) where
  abbrev view : Coordinator K → View
  view c = view_in k c

  abbrev Make : (old new : Coordinator K) (sent sent_now : Shown) → List Item → Type 0
  Make old new sent sent_now is = Makes k old new sent sent_now is

  -- the requests in the published state are acknowledged
  pub commit_acked : (old : Coordinator K) (tasks : Tasks) (o o1 : Shown) (id : StateId) → id ≡ published_id (view old).node
      → tasks ≡ without_answered (committed_in id) old.tasks → o1 ≡ record o { replies = o.replies ++ answers_by (committed_in id) old.tasks.waiting }
      → Make old (record old { tasks = tasks }) o o1 (acks_commit old.settings (view old))
  commit_acked old tasks o o1 id id_is left sent =
      let s = old.settings in
      let v = view old in
      let published = published_id v.node in
      let answers = answers_by (committed_in published) old.tasks.waiting in
      let left_here : tasks ≡ without_answered (committed_in published) old.tasks = left ∙ ap (λ (i : StateId). without_answered (committed_in i) old.tasks) id_is in
      let sent_here : record o { replies = o.replies ++ answers } ≡ o1 =
      ap (λ (i : StateId). record o { replies = o.replies ++ answers_by (committed_in i) old.tasks.waiting }) (sym id_is) ∙ sym sent in
      let replies : Make old old o o1 (reply_all s answers) = subst (λ (x : Shown). Make old old o x (reply_all s answers)) sent_here (makes_replies k old o answers) in
      makes_then k old old (record old { tasks = tasks }) o o1 o1 (reply_all s answers) (Notes CommitAcked ∷ []) replies
      (makes_note k old (record old { tasks = tasks }) o1 CommitAcked refl refl refl (ap (λ (t : Tasks). record v { tasks = t }) left_here))

  -- the first commit
  pub first_commit : (old new : Coordinator K) (o o1 o2 : Shown) (id : StateId)
      → o1 ≡ record o { frames = o.frames ++ map (λ (to : Id). frame_to old.settings.me (message.Commit id) to) (among (responders_of old.publication) (targets_of old.publication)) }
      → Make old new o1 o2 (acks_commit old.settings (view old))
      → Make old new o o2 (sends_first_commit old.settings (view old) id)
  first_commit old new o o1 o2 id shown acks =
      let ids = among (responders_of old.publication) (targets_of old.publication) in
      let sends = send_all old.settings ids (message.Commit id) in
      let answers = reply_all old.settings (answers_by (committed_in (published_id (view old).node)) old.tasks.waiting) in
      makes_as k old new o o2 _ _ (makes_then k old old new o o1 o2 sends (acks_commit old.settings (view old)) (sends_shown k old o o1 ids ids (message.Commit id) refl shown) acks)
      (sym (append_assoc sends answers (Notes CommitAcked ∷ [])))

  abbrev items_by : Coordinator K → Id → StateId → Bool → List Item
  items_by c p id b =
      act_now c.settings (view c) (responding c.settings p id)
      ∷ (if b then sends_commit c.settings (after_act c.settings (view c) (responding c.settings p id)) (is_commit_sent c.publication) p id else [])

  -- a response that sends the commit
  pub response_commits : (old mid new : Coordinator K) (o o1 o2 : Shown) (p : Id) (id : StateId) (sent : Bool) → sent ≡ is_commit_sent old.publication
      → commits_now (reply_now old.settings (view old) (responding old.settings p id)) ≡ true
      → Make old mid o o1 (act_now old.settings (view old) (responding old.settings p id) ∷ []) → Make mid new o1 o2 (sends_commit mid.settings (view mid) sent p id)
      → Make old new o o2 (takes_response old.settings (view old) p id)
  response_commits old mid new o o1 o2 p id sent sent_is commits did next =
      let s = old.settings in
      let v = view old in
      let act = responding s p id in
      makes_as k old new o o2 _ _
      (makes_then k old mid new o o1 o2 (act_now s v act ∷ []) (sends_commit mid.settings (view mid) sent p id) did next)
      (ap (λ (x : Settings). act_now s v act ∷ sends_commit x (view mid) sent p id) did.goes.settings
      ∙ ap (λ (x : View). act_now s v act ∷ sends_commit s x sent p id) did.goes.view
      ∙ ap (λ (b : Bool). act_now s v act ∷ sends_commit s (after_act s v act) b p id) sent_is
      ∙ ap (λ (b : Bool). items_by old p id b) (sym commits))

  -- one that does not
  pub response_counts : (old mid : Coordinator K) (o o1 : Shown) (p : Id) (id : StateId)
      → commits_now (reply_now old.settings (view old) (responding old.settings p id)) ≡ false
      → Make old mid o o1 (act_now old.settings (view old) (responding old.settings p id) ∷ [])
      → Make old mid o o1 (takes_response old.settings (view old) p id)
  response_counts old mid o o1 p id commits did = makes_as k old mid o o1 _ _ did (ap (λ (b : Bool). items_by old p id b) (sym commits))

  abbrev counts : Coordinator K → Id → Bool
  counts c p = is_leader c.mode && is_some c.publication && has_room c.core.publish_votes p

  pub counted_whole : (old new : Coordinator K) (o o0 o1 : Shown) (p : Id) (id : StateId) → o0 ≡ o → counts old p ≡ true → Make old new o0 o1 (takes_response old.settings (view old) p id)
      → Make old new o o1 (on_response old.settings (view old) p id)
  counted_whole old new o o0 o1 p id same test takes =
      subst (λ (x : Shown). Make old new x o1 (on_response old.settings (view old) p id)) same
      (makes_as k old new o0 o1 _ _ takes (ap (λ (b : Bool). if b then takes_response old.settings (view old) p id else []) (sym test)))

  pub counted_none : (c : Coordinator K) (o : Shown) (p : Id) (id : StateId) → counts c p ≡ false → Make c c o o (on_response c.settings (view c) p id)
  counted_none c o p id no_count =
      makes_as k c c o o _ _ (makes_nothing k c o) (ap (λ (b : Bool). if b then takes_response c.settings (view c) p id else []) (sym no_count))
