-- The next state is made and published, or the node hands over.
use Rattle.std.proofs.Common.{◌≡◌, ℕ, ◌+◌, ◌<◌, ◌≤◌, arith, Bool, true, false, not, ◌&&◌, Option, List, [], ◌∷◌, ◌++◌, map, refl, sym, ap, subst, ◌∙◌}
use Rattle.std.proofs.lemmas.Bool.{le-leb}
use Rattle.std.proofs.lemmas.Bool.Decides.{nat_tests}
use Rattle.state_journal.specs.declared.keeper.Keeper.{Ghosts}
use Rattle.std.specs.Prelude.{if◌then◌else◌, None, Some, find, nat_le}
use Rattle.std.proofs.lemmas.List.{append_assoc}
use Rattle.cluster_state.specs.Field.{last_number}
use Rattle.cluster_state.specs.declared.messages.PublishRequest.{PublishRequest}
use Rattle.cluster_state.specs.declared.state.ClusterValue.{ClusterValue}
use Rattle.voting_config.specs.Ids.{Id, has}
use Rattle.publication.specs.Publications.{Publication}
use Rattle.master_tasks.specs.declared.waiting.Outgoing.{Outgoing}
use Rattle.master_tasks.specs.declared.waiting.Waiting.{Waiting}
use Rattle.master_tasks.specs.Queue.{Tasks, only}
use Rattle.master_tasks.specs.NextState.{Leader as Master, next_answers, tasks_after, is_nothing_new}
use Rattle.wire_frames.specs.declared.frame.Frame.{Frame}
use Rattle.wire_frames.specs.declared.frame.WireMessage.TheVariants as message
use Rattle.world_model.specs.declared.acts.Act.{Act}
use Rattle.world_model.specs.declared.acts.Act.TheVariants.{Value}
use Rattle.policy_model.specs.declared.settings.Settings.{Settings}
use Rattle.policy_model.specs.Events.{Item, Notes, StateMade}
use Rattle.policy_model.specs.Views.{View, master_now}
use Rattle.policy_model.specs.Moves.{moved}
use Rattle.policy_model.specs.Doing.{is_leader, is_voting_only, may_win, send_all, reply_all, act_now, after_act, takes, becomes_candidate}
use Rattle.policy_model.specs.NextState.{is_in_flight, targets_of, responders_of, successor_of, asks_successor, asks_votes, wants_votes, leads_on, hands_over, goes_on, value_now, config_now, value_act, state_now, publishes, makes_state}
use Rattle.coord_state.specs.StandsFor.{request_of}
use Rattle.coordinator.specs.Plans.{IsPlan, IsNewOr, IsNewState, state_by, frame_to}
use Rattle.coordinator.specs.Showing.{Shown}
use Rattle.coordinator.specs.Views.{view_in, IsReady}
use Rattle.coordinator.specs.Does.{Makes}
use Rattle.coordinator.specs.declared.coordinator.Coordinator.{Coordinator}
use Rattle.coordinator.specs.declared.plan.NewState.{NewState}
use Rattle.coordinator.specs.declared.plan.Plan.{Plan}
use Rattle.coordinator.proofs.Composing.{makes_then}
use Rattle.coordinator.proofs.Quiet.{makes_nothing, makes_replies, makes_sends, makes_note}
use Rattle.coordinator.proofs.Becoming.{makes_as}

-- the act that publishes a new state
pub act_is : (s : Settings) (v : View) (new : NewState) → IsNewState s.me (state_by (master_now s v) v.tasks) new → Value new.request.state.version new.config new.value ≡ value_act s v
act_is s v new is =
    ap (λ (r : PublishRequest). Value r.state.version new.config new.value) is.request
    ∙ ap (λ (c : List Id). Value (v.node.accepted.version + 1) c new.value) is.config
    ∙ ap (λ (x : ClusterValue). Value (v.node.accepted.version + 1) (config_now s v) x) is.value

-- who waits by a plan is what is left to do
pub planned_left : (m : Master) (t : Tasks) (plan : Plan) → IsPlan m t plan → only plan.waiting.items ≡ tasks_after m t
unfolding tasks_after
planned_left m t plan is = ap (λ (ws : List Waiting). only ws) is.waiting

-- the new state of a plan
pub planned_new : (m : Master) (t : Tasks) (plan : Plan) (new : NewState) → IsPlan m t plan → plan.new ≡ Some new → IsNewState m.me (state_by m t) new
planned_new m t plan new is some = (let parts : IsNewOr m t (Some new) = subst (λ (n : Option NewState). IsNewOr m t n) some is.new in parts.1)

module _ {K : Type 0} (k : Ghosts K) where
  abbrev view : Coordinator K → View
  view c = view_in k c

  abbrev Make : (old new : Coordinator K) (sent sent_now : Shown) → List Item → Type 0
  Make old new sent sent_now is = Makes k old new sent sent_now is

  -- the request of a new state is the node's own
  pub request_is : (c : Coordinator K) (t : Tasks) (new : NewState) → IsReady c → IsNewState c.settings.me (state_by (master_now c.settings (view c)) t) new
      → new.request ≡ request_of k c.core new.request.state.version new.config new.value
  request_is c t new ready is =
      let made = state_by (master_now c.settings (view c)) t in
      is.request
      ∙ ap (λ (me : Id). request_of k (record c.core { me = me }) made.version made.config made.value) (sym ready.me)
      ∙ ap (λ (r : PublishRequest). request_of k c.core r.state.version r.state.config r.state.value) (sym is.request)
      ∙ ap (λ (l : List Id). request_of k c.core new.request.state.version l new.request.state.value) (ap (λ (r : PublishRequest). r.state.config) is.request ∙ sym is.config)
      ∙ ap (λ (x : ClusterValue). request_of k c.core new.request.state.version new.config x) (ap (λ (r : PublishRequest). r.state.value) is.request ∙ sym is.value)

  pub publishes_taken : (v : View) (old mid : Coordinator K) (o o1 o2 : Shown) (act : Act) (new : NewState) → act ≡ value_act old.settings v → IsNewState old.settings.me (state_by (master_now old.settings v) v.tasks) new
      → Make old mid o o1 (act_now old.settings (view old) act ∷ []) → takes old.settings (view old) act ≡ true
      → o2 ≡ record o1 { frames = o1.frames ++ new.frames.list }
      → Make old mid o o2 (publishes old.settings v (view old))
  publishes_taken v old mid o o1 o2 act new act_eq is did taken shown =
      let s = old.settings in
      let u = view old in
      let members = (value_now s v).members in
      let m = message.Publish (state_now s v) in
      let shown' : record o1 { frames = o1.frames ++ map (λ (to : Id). frame_to mid.settings.me m to) members } ≡ o2 =
      ap (λ (x : Settings). record o1 { frames = o1.frames ++ map (λ (to : Id). frame_to x.me m to) members }) did.goes.settings
      ∙ ap (λ (l : List Frame). record o1 { frames = o1.frames ++ l }) (sym is.frames) ∙ sym shown in
      let sends : Make mid mid o1 o2 (send_all mid.settings members m) =
      subst (λ (x : Shown). Make mid mid o1 x (send_all mid.settings members m)) shown' (makes_sends k mid o1 members m) in
      let all = makes_then k old mid mid o o1 o2 (act_now s u act ∷ []) (send_all mid.settings members m) did sends in
      makes_as k old mid o o2 _ _ all
      (ap (λ (x : Settings). act_now s u act ∷ send_all x members m) did.goes.settings
      ∙ ap (λ (b : Bool). act_now s u act ∷ (if b then send_all s members m else becomes_candidate s (after_act s u act))) (sym taken)
      ∙ ap (λ (a : Act). act_now s u a ∷ (if takes s u a then send_all s members m else becomes_candidate s (after_act s u a))) act_eq)

  pub publishes_refused : (v : View) (old mid new : Coordinator K) (o o1 o2 : Shown) (act : Act) → act ≡ value_act old.settings v
      → Make old mid o o1 (act_now old.settings (view old) act ∷ []) → takes old.settings (view old) act ≡ false
      → Make mid new o1 o2 (becomes_candidate mid.settings (view mid))
      → Make old new o o2 (publishes old.settings v (view old))
  publishes_refused v old mid new o o1 o2 act act_eq did refused becomes =
      let s = old.settings in
      let u = view old in
      let members = (value_now s v).members in
      let m = message.Publish (state_now s v) in
      let all = makes_then k old mid new o o1 o2 (act_now s u act ∷ []) (becomes_candidate mid.settings (view mid)) did becomes in
      makes_as k old new o o2 _ _ all
      (ap (λ (x : Settings). act_now s u act ∷ becomes_candidate x (view mid)) did.goes.settings
      ∙ ap (λ (x : View). act_now s u act ∷ becomes_candidate s x) did.goes.view
      ∙ ap (λ (b : Bool). act_now s u act ∷ (if b then send_all s members m else becomes_candidate s (after_act s u act))) (sym refused)
      ∙ ap (λ (a : Act). act_now s u a ∷ (if takes s u a then send_all s members m else becomes_candidate s (after_act s u a))) act_eq)

  -- the answers are sent, and the state is made
  state_made : (old : Coordinator K) (tasks : Tasks) (o o1 : Shown) (plan : Plan) → IsPlan (master_now old.settings (view old)) old.tasks plan → tasks ≡ tasks_after (master_now old.settings (view old)) old.tasks → o1 ≡ record o { replies = o.replies ++ plan.replies.sent }
      → Make old (record old { tasks = tasks }) o o1 (reply_all old.settings (next_answers (master_now old.settings (view old)) old.tasks) ++ Notes StateMade ∷ [])
  state_made old tasks o o1 plan is left shown =
      let s = old.settings in
      let answers = next_answers (master_now s (view old)) old.tasks in
      let shown' : record o { replies = o.replies ++ answers } ≡ o1 = ap (λ (l : List Outgoing). record o { replies = o.replies ++ l }) (sym is.replies) ∙ sym shown in
      let replies : Make old old o o1 (reply_all s answers) =
      subst (λ (x : Shown). Make old old o x (reply_all s answers)) shown' (makes_replies k old o answers) in
      makes_then k old old (record old { tasks = tasks }) o o1 o1 (reply_all s answers) (Notes StateMade ∷ []) replies
      (makes_note k old (record old { tasks = tasks }) o1 StateMade refl refl refl (ap (λ (t : Tasks). record (view old) { tasks = t }) left))

  pub makes_same : (old : Coordinator K) (tasks : Tasks) (o o1 : Shown) (plan : Plan) → IsPlan (master_now old.settings (view old)) old.tasks plan → tasks ≡ tasks_after (master_now old.settings (view old)) old.tasks → o1 ≡ record o { replies = o.replies ++ plan.replies.sent } → plan.new ≡ None
      → Make old (record old { tasks = tasks }) o o1 (makes_state old.settings (view old))
  makes_same old tasks o o1 plan is left shown none =
      let s = old.settings in
      let v = view old in
      let nothing : is_nothing_new (master_now s v) v.tasks ≡ true = subst (λ (n : Option NewState). IsNewOr (master_now s v) v.tasks n) none is.new in
      makes_as k old (record old { tasks = tasks }) o o1 _ _ (state_made old tasks o o1 plan is left shown)
      (ap (λ (b : Bool). reply_all s (next_answers (master_now s v) v.tasks) ++ Notes StateMade ∷ (if b then [] else publishes s v (moved s v (Notes StateMade)))) (sym nothing))

  pub makes_new : (old new : Coordinator K) (tasks : Tasks) (o o1 o2 : Shown) (plan : Plan) (state : NewState) → IsPlan (master_now old.settings (view old)) old.tasks plan → tasks ≡ tasks_after (master_now old.settings (view old)) old.tasks → o1 ≡ record o { replies = o.replies ++ plan.replies.sent } → plan.new ≡ Some state
      → Make (record old { tasks = tasks }) new o1 o2 (publishes old.settings (view old) (view (record old { tasks = tasks })))
      → Make old new o o2 (makes_state old.settings (view old))
  makes_new old new tasks o o1 o2 plan state is left shown some publishing =
      let s = old.settings in
      let v = view old in
      let mid = record old { tasks = tasks } in
      let parts : IsNewOr (master_now s v) v.tasks (Some state) = subst (λ (n : Option NewState). IsNewOr (master_now s v) v.tasks n) some is.new in
      let answers = reply_all s (next_answers (master_now s v) v.tasks) in
      let all = makes_then k old mid new o o1 o2 (answers ++ Notes StateMade ∷ []) (publishes s v (view mid)) (state_made old tasks o o1 plan is left shown) publishing in
      makes_as k old new o o2 _ _ all
      (append_assoc answers (Notes StateMade ∷ []) (publishes s v (view mid))
      ∙ ap (λ (t : Tasks). answers ++ Notes StateMade ∷ publishes s v (record v { tasks = t })) left
      ∙ ap (λ (b : Bool). answers ++ Notes StateMade ∷ (if b then [] else publishes s v (moved s v (Notes StateMade)))) (sym parts.0))

  -- all members are asked to vote for a node
  pub asks_found : (c : Coordinator K) (o o1 : Shown) (id : Id) (term : ℕ) (p : Publication) (targets : List Id) → c.publication ≡ Some p
      → term ≡ (view c).node.term + 1 → term ≤ last_number → targets ≡ p.targets
      → o1 ≡ record o { frames = o.frames ++ map (λ (to : Id). frame_to c.settings.me (message.StartJoin id term) to) targets }
      → Make c c o o1 (asks_successor c.settings (view c) (Some id))
  asks_found c o o1 id term p targets published term_is small targets_is shown =
      let s = c.settings in
      let v = view c in
      let all : Make c c o o1 (send_all s targets (message.StartJoin id term)) =
      subst (λ (x : Shown). Make c c o x (send_all s targets (message.StartJoin id term))) (sym shown) (makes_sends k c o targets (message.StartJoin id term)) in
      let targets_here : targets ≡ targets_of v.publication = targets_is ∙ ap (λ (x : Option Publication). targets_of x) (sym published) in
      let le : nat_le (v.node.term + 1) last_number ≡ true = rw (← term_is) (le-leb term last_number small) in
      makes_as k c c o o1 _ _ all
      (ap (λ (x : List Id). send_all s x (message.StartJoin id term)) targets_here
      ∙ ap (λ (n : ℕ). send_all s (targets_of v.publication) (message.StartJoin id n)) term_is
      ∙ ap (λ (b : Bool). if b then send_all s (targets_of v.publication) (message.StartJoin id (v.node.term + 1)) else []) (sym le))

  -- no term is left in which they could be asked
  pub asks_late : (c : Coordinator K) (o : Shown) (id : Id) (term : ℕ)
      → term ≡ (view c).node.term + 1 → last_number < term → Make c c o o (asks_successor c.settings (view c) (Some id))
  asks_late c o id term term_is late =
      let s = c.settings in
      let v = view c in
      let above : nat_le (v.node.term + 1) last_number ≡ false = rw (← term_is) (grind (arith, nat_tests, late)) in
      makes_as k c c o o _ _ (makes_nothing k c o)
      (ap (λ (b : Bool). if b then send_all s (targets_of v.publication) (message.StartJoin id (v.node.term + 1)) else []) (sym above))

  -- nobody is a member of a state that was not published
  pub asks_nobody : (c : Coordinator K) (o : Shown) (id : Id) → c.publication ≡ None → Make c c o o (asks_successor c.settings (view c) (Some id))
  asks_nobody c o id none =
      let s = c.settings in
      let v = view c in
      let each : (b : Bool) → [] ≡ (if b then send_all s (targets_of None) (message.StartJoin id (v.node.term + 1)) else []) = λ b. asked_none s v id b in
      makes_as k c c o o _ _ (makes_nothing k c o)
      (each (nat_le (v.node.term + 1) last_number)
      ∙ ap (λ (x : Option Publication). if nat_le (v.node.term + 1) last_number then send_all s (targets_of x) (message.StartJoin id (v.node.term + 1)) else []) (sym none))
    where
      asked_none : (s : Settings) (v : View) (id : Id) (b : Bool) → [] ≡ (if b then send_all s (targets_of None) (message.StartJoin id (v.node.term + 1)) else [])
      asked_none s v id true = refl
      asked_none s v id false = refl

  -- who is found among the responders is asked
  pub asks_as : (c : Coordinator K) (o o1 : Shown) (id : Id) (p : Publication) (found : Option Id) (committed responders : List Id) → c.publication ≡ Some p
      → found ≡ find (λ (x : Id). not (is_voting_only c.settings x) && has x committed) responders → committed ≡ (view c).node.committed → responders ≡ p.responders → found ≡ Some id
      → Make c c o o1 (asks_successor c.settings (view c) (Some id))
      → Make c c o o1 (asks_successor c.settings (view c) (successor_of c.settings (view c)))
  asks_as c o o1 id p found committed responders published found_is committed_is responders_is some all =
      let s = c.settings in
      let v = view c in
      let here : Some id ≡ successor_of s v =
      sym some ∙ found_is ∙ ap (λ (x : List Id). find (λ (y : Id). not (is_voting_only s y) && has y x) responders) committed_is ∙ ap (λ (x : List Id). find (λ (y : Id). not (is_voting_only s y) && has y v.node.committed) x) (responders_is ∙ ap (λ (x : Option Publication). responders_of x) (sym published)) in
      makes_as k c c o o1 _ _ all (ap (λ (x : Option Id). asks_successor s v x) here)

  -- a leader that may win goes on without asking for votes, or asks for them
  pub goes_made : (c new : Coordinator K) (o o1 : Shown) → is_leader c.mode && not (is_in_flight c.publication) ≡ true → may_win c.settings (view c) ≡ true → wants_votes c.settings (view c) ≡ false
      → Make c new o o1 (makes_state c.settings (view c)) → Make c new o o1 (goes_on c.settings (view c))
  goes_made c new o o1 free wins wants all =
      let s = c.settings in
      let v = view c in
      makes_as k c new o o1 _ _ all
      (ap (λ (b : Bool). if b then asks_votes s v else makes_state s v) (sym wants)
      ∙ ap (λ (b : Bool). if b then leads_on s v else hands_over s v) (sym wins)
      ∙ ap (λ (b : Bool). if b then (if may_win s v then leads_on s v else hands_over s v) else []) (sym free))

  pub goes_asking : (c new : Coordinator K) (o o1 : Shown) → is_leader c.mode && not (is_in_flight c.publication) ≡ true → may_win c.settings (view c) ≡ true → wants_votes c.settings (view c) ≡ true
      → Make c new o o1 (asks_votes c.settings (view c)) → Make c new o o1 (goes_on c.settings (view c))
  goes_asking c new o o1 free wins wants all =
      let s = c.settings in
      let v = view c in
      makes_as k c new o o1 _ _ all
      (ap (λ (b : Bool). if b then asks_votes s v else makes_state s v) (sym wants)
      ∙ ap (λ (b : Bool). if b then leads_on s v else hands_over s v) (sym wins)
      ∙ ap (λ (b : Bool). if b then (if may_win s v then leads_on s v else hands_over s v) else []) (sym free))
