-- One act of the core, with its entry.
use Rattle.std.proofs.Common.{◌≡◌, ℕ, Bool, true, false, true≢false, List, [], ◌∷◌, refl, sym, ap, subst, ◌∙◌}
use Rattle.std.specs.Prelude.{Option, Result, IfOk, is_ok}
use Rattle.std.proofs.lemmas.List.{append-nil}
use Rattle.state_journal.specs.declared.keeper.Keeper.{Ghosts}
use Rattle.zen_disk.specs.Moments.{LeavesOnly}
use Rattle.voting_config.specs.Ids.{Id}
use Rattle.cluster_state.specs.declared.causes.ValueCause.{ValueCause}
use Rattle.cluster_state.specs.declared.messages.PublishRequest.{PublishRequest}
use Rattle.cluster_state.specs.declared.state.ClusterValue.{ClusterValue}
use Rattle.world_model.specs.declared.acts.Act.{Act}
use Rattle.world_model.specs.declared.acts.Act.TheVariants.{Value}
use Rattle.world_model.specs.declared.acts.Message.{Message}
use Rattle.world_model.specs.declared.acts.ActReply.{ActReply}
use Rattle.world_model.specs.declared.acts.ActReply.TheVariants.{Taken, Refused, Stopped}
use Rattle.world_model.specs.declared.acts.Outcome.{Outcome}
use Rattle.world_model.specs.declared.acts.Outcome.TheVariants.{Answered, Disk, Crashed}
use Rattle.world_model.specs.Acts.{NodeHistory, is_ok as was_taken, wins}
use Rattle.world_model.specs.Replies.{reply_at, is_taken, writes}
use Rattle.world_model.specs.NodeState.{NodeState}
use Rattle.world_model.specs.Moves.{node_state_after}
use Rattle.coord_state.specs.Outcomes.{IsReported, value_outcome}
use Rattle.coord_state.specs.StandsFor.{Acts as CoreActs, StandsFor, request_of}
use Rattle.coord_state.specs.Writes.{WritesBy, IsDuring}
use Rattle.coord_state.specs.declared.coord.ActError.{ActError}
use Rattle.coord_state.specs.declared.coord.CoordState.{CoordState}
use Rattle.policy_model.specs.Events.{Item, Acts}
use Rattle.policy_model.specs.Views.{View}
use Rattle.policy_model.specs.LookBacks.{sends_one}
use Rattle.policy_model.specs.Moves.{acted}
use Rattle.policy_model.specs.Follows.{Here}
use Rattle.policy_model.specs.Joins.{wins_now}
use Rattle.policy_model.specs.Publications.{commits_now}
use Rattle.policy_model.specs.Doing.{act_now, reply_now, takes}
use Rattle.coordinator.specs.Showing.{Shown, showing}
use Rattle.coordinator.specs.CoreActs.{Acted}
use Rattle.coordinator.specs.Verdicts.{verdict}
use Rattle.coordinator.specs.Views.{view_in, IsReady}
use Rattle.coordinator.specs.Does.{Goes, Makes, Fails, Ends}
use Rattle.coordinator.specs.declared.coordinator.Coordinator.{Coordinator}
use Rattle.coordinator.specs.declared.coordinator.DiskFailed.{DiskFailed}

-- a reply that takes the act
pub taken_is : (r : ActReply) → is_taken r ≡ true → (sends : Option Message) × ((win : Bool) × (r ≡ Taken sends win))
taken_is (Taken sends win) h = (sends, (win, refl))
taken_is (Refused cause) h = cc
taken_is Stopped h = cc

taken_so : (r : ActReply) → was_taken (Answered r) ≡ is_taken r
taken_so (Taken sends b) = refl
taken_so (Refused cause) = refl
taken_so Stopped = refl

wins_so : (r : ActReply) → wins (Answered r) ≡ wins_now r
wins_so (Taken sends b) = refl
wins_so (Refused cause) = refl
wins_so Stopped = refl

sends_so : (r : ActReply) → sends_one (Answered r) ≡ commits_now r
sends_so (Taken sends b) = refl
sends_so (Refused cause) = refl
sends_so Stopped = refl

module _ {K : Type 0} (k : Ghosts K) where
  abbrev view : Coordinator K → View
  view c = view_in k c

  abbrev Act1 : (old new : CoordState K) → Act → Outcome → Type 0
  Act1 old new act o = Acted k old new act o

  -- a node that changes in this way by an act
  pub goes_by : (old new : Coordinator K) (act : Act) (o : Outcome) → Act1 old.core new.core act o → new.settings ≡ old.settings → new.moment ≡ old.moment → view new ≡ acted old.settings (view old) act o
      → Goes k old new (Acts act o ∷ [])
  goes_by old new act o did settings moment_is is = record { settings = settings; clock = moment_is; view = is; core = (new.core, did, refl) }

  -- the reply is the one of the rules
  pub reply_is : (old : Coordinator K) (core : CoordState K) (act : Act) (reply : ActReply) → IsReady old → Act1 old.core core act (Answered reply) → reply ≡ reply_now old.settings (view old) act
  reply_is old core act reply ready did = did.acts.at.answers ∙ ap (λ (me : List ℕ). reply_at me (view old).node act) ready.me

  pub makes_by : (old new : Coordinator K) (act : Act) (reply : ActReply) (sent sent_now : Shown) → IsReady old → Act1 old.core new.core act (Answered reply)
      → new.settings ≡ old.settings → new.moment ≡ old.moment → view new ≡ acted old.settings (view old) act (Answered reply) → sent_now ≡ showing sent (Acts act (Answered reply))
      → Makes k old new sent sent_now (act_now old.settings (view old) act ∷ [])
  makes_by old new act reply sent sent_now ready did settings moment_is is shown =
      subst (λ (r : ActReply). Makes k old new sent sent_now (Acts act (Answered r) ∷ []))
      (reply_is old new.core act reply ready did)
      (record { goes = goes_by old new act (Answered reply) did settings moment_is is; shown = shown })

  -- the disk failed in an act that would be taken
  pub fails_by : (old new : Coordinator K) (act : Act) (sent sent_now : Shown) (rest : List Item) → IsReady old → Act1 old.core new.core act (Disk false)
      → new.settings ≡ old.settings → new.moment ≡ old.moment → view new ≡ acted old.settings (view old) act (Disk false) → sent_now ≡ showing sent (Acts act (Disk false))
      → Fails k old new sent sent_now (act_now old.settings (view old) act ∷ rest)
  fails_by old new act sent sent_now rest ready did settings moment_is is shown =
      let at = did.acts.at.answers in
      let takes_it : is_taken (reply_now old.settings (view old) act) ≡ true = ap (λ (me : List ℕ). is_taken (reply_at me (view old).node act)) (sym ready.me) ∙ at.0 in
      let reply = taken_is (reply_now old.settings (view old) act) takes_it in
      record {
        left = Acts act (Disk false) ∷ [];
        struck = rw reply.1.1 (Here act reply.0 reply.1.0 rest (Disk false) at.1 refl);
        goes = goes_by old new act (Disk false) did settings moment_is is;
        deeds = ap (λ (o : Shown). o.deeds) shown;
        drops = ap (λ (o : Shown). o.drops) shown ∙ sym (append-nil sent.drops);
      }

  -- a node in which the act changes the core alone
  pub plain_view : (old : Coordinator K) (core : CoordState K) (act : Act) (o : Outcome) → Act1 old.core core act o → acted old.settings (view old) act o ≡ record (view old) { node = node_state_after (view old).node act o }
      → view (record old { core = core }) ≡ acted old.settings (view old) act o
  plain_view old core act o did plain = ap (λ (n : NodeState). record (view old) { node = n }) did.acts.at.after ∙ sym plain

  -- the reply to an act that writes nothing is an answer
  pub answered : (old : Coordinator K) (core : CoordState K) (act : Act) (o : Outcome) → IsReady old → writes act ≡ false → Act1 old.core core act o → o ≡ Answered (reply_now old.settings (view old) act)
  answered old core act (Answered reply) ready none did = ap (λ (r : ActReply). Answered r) (reply_is old core act reply ready did)
  answered old core act (Disk b) ready none did = absurd (true≢false (sym did.acts.at.answers.1 ∙ none))
  answered old core act (Crashed b) ready none did = absurd (true≢false (sym did.acts.at.answers.1 ∙ none))

  ends_told : (old new : Coordinator K) (act : Act) (o : Outcome) (sent sent_now : Shown) → IsReady old → Act1 old.core new.core act o → IsReported o
      → new.settings ≡ old.settings → new.moment ≡ old.moment → view new ≡ acted old.settings (view old) act o → sent_now ≡ showing sent (Acts act o)
      → Ends k (is_ok (verdict o)) old new sent sent_now (act_now old.settings (view old) act ∷ [])
  ends_told old new act (Answered reply) sent sent_now ready did is_told settings moment_is is shown = makes_by old new act reply sent sent_now ready did settings moment_is is shown
  ends_told old new act (Disk false) sent sent_now ready did is_told settings moment_is is shown = fails_by old new act sent sent_now [] ready did settings moment_is is shown
  ends_told old new act (Disk true) sent sent_now ready did is_told settings moment_is is shown = absurd (true≢false is_told)
  ends_told old new act (Crashed b) sent sent_now ready did is_told settings moment_is is shown = absurd is_told

  -- an act, however it ended: the outcome that was reported is the core's
  pub ends_act : (old new : Coordinator K) (act : Act) (o told : Outcome) (r : Result Bool DiskFailed) (sent sent_now : Shown) → IsReady old → Act1 old.core new.core act o → told ≡ o → IsReported told
      → new.settings ≡ old.settings → new.moment ≡ old.moment → view new ≡ acted old.settings (view old) act o → sent_now ≡ showing sent (Acts act told) → r ≡ verdict told
      → Ends k (is_ok r) old new sent sent_now (act_now old.settings (view old) act ∷ [])
  ends_act old new act o told r sent sent_now ready did same is_told settings moment_is is shown r_is =
      subst (λ (x : Result Bool DiskFailed). Ends k (is_ok x) old new sent sent_now (act_now old.settings (view old) act ∷ [])) (sym r_is)
      (ends_told old new act told sent sent_now ready (subst (λ (x : Outcome). Act1 old.core new.core act x) (sym same) did) is_told settings moment_is
      (subst (λ (x : Outcome). view new ≡ acted old.settings (view old) act x) (sym same) is) shown)

  taken_told : (old : Coordinator K) (core : CoordState K) (act : Act) (o : Outcome) → IsReady old → Act1 old.core core act o → IfOk (verdict o) (λ (taken : Bool). taken ≡ takes old.settings (view old) act)
  taken_told old core act (Answered reply) ready did = ap (λ (r : ActReply). is_taken r) (reply_is old core act reply ready did)
  taken_told old core act (Disk b) ready did = tt
  taken_told old core act (Crashed b) ready did = tt

  -- and whether it was taken
  pub taken_act : (old : Coordinator K) (core : CoordState K) (act : Act) (o told : Outcome) (r : Result Bool DiskFailed) → IsReady old → Act1 old.core core act o → told ≡ o → r ≡ verdict told
      → IfOk r (λ (taken : Bool). taken ≡ takes old.settings (view old) act)
  taken_act old core act o told r ready did same r_is =
      subst (λ (x : Result Bool DiskFailed). IfOk x (λ (taken : Bool). taken ≡ takes old.settings (view old) act)) (sym (r_is ∙ ap (λ (x : Outcome). verdict x) same)) (taken_told old core act o ready did)

  -- an act that writes nothing is answered
  pub makes_act : (old new : Coordinator K) (act : Act) (o told : Outcome) (sent sent_now : Shown) → IsReady old → writes act ≡ false → Act1 old.core new.core act o → told ≡ o
      → new.settings ≡ old.settings → new.moment ≡ old.moment → view new ≡ acted old.settings (view old) act o → sent_now ≡ showing sent (Acts act told)
      → Makes k old new sent sent_now (act_now old.settings (view old) act ∷ [])
  makes_act old new act o told sent sent_now ready none did same settings moment_is is shown =
      let reply = reply_now old.settings (view old) act in
      let here : o ≡ Answered reply = answered old new.core act o ready none did in
      makes_by old new act reply sent sent_now ready (subst (λ (x : Outcome). Act1 old.core new.core act x) here did) settings moment_is
      (subst (λ (x : Outcome). view new ≡ acted old.settings (view old) act x) here is) (shown ∙ ap (λ (x : Outcome). showing sent (Acts act x)) (same ∙ here))

  -- what is said of the outcome is said of the reply
  pub taken_now : (old : Coordinator K) (core : CoordState K) (act : Act) (o told : Outcome) (r : Bool) → IsReady old → writes act ≡ false → Act1 old.core core act o → told ≡ o → r ≡ was_taken told → r ≡ takes old.settings (view old) act
  taken_now old core act o told r ready none did same r_is =
      r_is ∙ ap (λ (x : Outcome). was_taken x) (same ∙ answered old core act o ready none did) ∙ taken_so (reply_now old.settings (view old) act)

  pub won_now : (old : Coordinator K) (core : CoordState K) (act : Act) (o told : Outcome) (r : Bool) → IsReady old → writes act ≡ false → Act1 old.core core act o → told ≡ o → r ≡ wins told → r ≡ wins_now (reply_now old.settings (view old) act)
  won_now old core act o told r ready none did same r_is =
      r_is ∙ ap (λ (x : Outcome). wins x) (same ∙ answered old core act o ready none did) ∙ wins_so (reply_now old.settings (view old) act)

  pub sent_now : (old : Coordinator K) (core : CoordState K) (act : Act) (o told : Outcome) (r : Bool) → IsReady old → writes act ≡ false → Act1 old.core core act o → told ≡ o → r ≡ sends_one told → r ≡ commits_now (reply_now old.settings (view old) act)
  sent_now old core act o told r ready none did same r_is =
      r_is ∙ ap (λ (x : Outcome). sends_one x) (same ∙ answered old core act o ready none did) ∙ sends_so (reply_now old.settings (view old) act)

  -- the outcome of a value, by what the core answered
  abbrev answered_value : CoordState K → ℕ → List Id → ClusterValue → Result (Unit {0}) (ActError ValueCause (Unit {0})) → Outcome
  answered_value c version config value answer = value_outcome (request_of k c version config value) answer

  -- the core publishes a value, whose request was made before
  pub value_did : (old new : CoordState K) (version v : ℕ) (config c : List Id) (value : ClusterValue) (request : PublishRequest) (answer : Result (Unit {0}) (ActError ValueCause (Unit {0}))) (o : Outcome)
      → v ≡ version → c ≡ config → request ≡ request_of k old version config value → o ≡ value_outcome request answer → IsReported o
      → CoreActs k old new (Value v c value) (answered_value old v c value answer) → WritesBy k old.keeper (Value v c value) new.keeper (answered_value old v c value answer)
      → (k.told → (g : NodeHistory) → StandsFor k old g → LeavesOnly k.moment k.left_since old.keeper new.keeper (IsDuring g (Value v c value)))
      → Acted k old new (Value version config value) o
  value_did old new version v config c value request answer o version_is config_is request_is o_is is_told acts wrote any_moment =
      let o_is' : o ≡ answered_value old v c value answer =
      o_is ∙ ap (λ (r : PublishRequest). value_outcome r answer) request_is
      ∙ ap (λ (n : ℕ). answered_value old n config value answer) (sym version_is) ∙ ap (λ (x : List Id). answered_value old v x value answer) (sym config_is) in
      let did : Acted k old new (Value v c value) o =
      subst (λ (x : Outcome). Acted k old new (Value v c value) x) (sym o_is') (record { acts = acts; wrote = wrote; any_moment = any_moment; told = subst IsReported o_is' is_told }) in
      subst (λ (n : ℕ). Acted k old new (Value n config value) o) version_is (subst (λ (x : List Id). Acted k old new (Value v x value) o) config_is did)
