-- What the changes of mode, and the joins that a node starts, tell and leave.
use Rattle.std.proofs.Common.{◌≡◌, ℕ, Bool, true, false, None, List, [], ◌∷◌, ◌++◌, refl}
use Rattle.std.specs.Prelude.{nat_lt, if◌then◌else◌}
use Rattle.voting_config.specs.Ids.{Id}
use Rattle.master_tasks.specs.declared.waiting.Waiting.{Waiting}
use Rattle.master_tasks.specs.Answering.{answers_by, failed}
use Rattle.world_model.specs.declared.acts.Act.{Act}
use Rattle.world_model.specs.declared.acts.Act.TheVariants.{StartJoin}
use Rattle.world_model.specs.NodeState.{NodeState}
use Rattle.world_model.specs.Histories.{History}
use Rattle.policy_model.specs.declared.settings.Settings.{Settings}
use Rattle.policy_model.specs.declared.events.Mode.{Mode}
use Rattle.policy_model.specs.declared.events.Mode.TheVariants.{Candidate, Leader, Follower}
use Rattle.policy_model.specs.Events.{ChangesMode}
use Rattle.policy_model.specs.Views.{View}
use Rattle.policy_model.specs.Doing as doing
use Rattle.client_guarantees.proofs.Leading.{IsIdle}
use Rattle.client_guarantees.proofs.Telling.{Basis, Place, place, Keeps, keeps-none, keeps-append, keeps-if, keeps-item, keeps-answers}
use Rattle.client_guarantees.proofs.Holding.{Holds, holds-idle, idle-holds, holds-refused}
use Rattle.client_guarantees.proofs.Answers.{true-failed}

not_leader : (m : Mode) → doing.is_candidate m ≡ true → doing.is_leader m ≡ false
not_leader Candidate e = refl
not_leader Leader e = cc
not_leader (Follower leader) e = refl

-- nothing is published and nobody waits
abbrev IsBare : Place → Type 0
IsBare x = (x.stands.publication ≡ None) × (x.stands.waiting ≡ [])

module _ (h : History) (s : Settings) (P : Basis) where
  keeps-turned : (v : View) (g : List Waiting) (Q : Place → Type 0) → ((node : NodeState) → Q (record { stands = record { mode = Candidate; publication = None; node = node; waiting = [] }; processed = g }))
      → Keeps h s P v g (ChangesMode Candidate v.node.term ∷ []) Q
  keeps-turned v g Q q = keeps-item h s P v g (ChangesMode Candidate v.node.term) [] Q refl (λ b. keeps-none h s P _ g Q (q _))

  keeps-candidate : (v : View) (g : List Waiting) (Q : Place → Type 0) → ((node : NodeState) → Q (record { stands = record { mode = Candidate; publication = None; node = node; waiting = [] }; processed = g }))
      → Keeps h s P v g (doing.becomes_candidate s v) Q
  keeps-candidate v g Q q = by (doing.is_leader v.mode)
    where
      by : (b : Bool) → Keeps h s P v g ((if b then doing.reply_all s (answers_by (failed v.leader_term) v.tasks.waiting) else []) ++ ChangesMode Candidate v.node.term ∷ []) Q
      by true = keeps-answers h s P v g _ (ChangesMode Candidate v.node.term ∷ []) Q (λ r. true-failed h s P g v.leader_term v.tasks.waiting) (keeps-turned v g Q q)
      by false = keeps-turned v g Q q

  pub keeps-becomes_candidate : (v : View) (g : List Waiting) → Keeps h s P v g (doing.becomes_candidate s v) (Holds h s P)
  keeps-becomes_candidate v g = keeps-candidate v g (Holds h s P) (λ node. holds-idle h s P _ refl refl refl)

  keeps-once : (v : View) (g : List Waiting) → IsIdle (place v g).stands → Keeps h s P v g (doing.becomes_candidate_once s v) (Holds h s P)
  keeps-once v g i =
      keeps-if h s P v g (doing.is_candidate v.mode) [] (doing.becomes_candidate s v) (Holds h s P)
      (λ e. keeps-none h s P v g (Holds h s P) (idle-holds h s P (place v g) (not_leader v.mode e) i))
      (λ e. keeps-becomes_candidate v g)

  pub keeps-becomes_follower : (v : View) (g : List Waiting) (p : Id) → Holds h s P (place v g) → Keeps h s P v g (doing.becomes_follower s v p) (Holds h s P)
  keeps-becomes_follower v g p i =
      keeps-if h s P v g (doing.follows_node v.mode p) [] _ (Holds h s P)
      (λ e. keeps-none h s P v g (Holds h s P) i)
      (λ e. keeps-append h s P v g _ (ChangesMode (Follower p) v.node.term ∷ []) IsBare (Holds h s P)
      (keeps-if h s P v g (doing.is_leader v.mode) (doing.becomes_candidate s v) [] IsBare
      (λ l. keeps-candidate v g IsBare (λ node. (refl, refl)))
      (λ l. keeps-none h s P v g IsBare (i.stands.leads.idle l)))
      (λ k. keeps-item h s P _ _ (ChangesMode (Follower p) v.node.term) [] (Holds h s P) refl (λ b. keeps-none h s P _ _ (Holds h s P) (holds-idle h s P _ refl k.0 k.1))))

  pub keeps-on_start_join : (v : View) (g : List Waiting) (c : Id) (t : ℕ) → Holds h s P (place v g) → Keeps h s P v g (doing.on_start_join s v c t) (Holds h s P)
  keeps-on_start_join v g c t i =
      let act : Act = StartJoin c t in
      keeps-item h s P v g (doing.act_now s v act) _ (Holds h s P) refl
      (λ b. keeps-if h s P (doing.after_act s v act) g (doing.takes s v act) _ [] (Holds h s P)
      (λ e. keeps-item h s P (doing.after_act s v act) g _ _ (Holds h s P) refl (λ k. keeps-once (doing.after_act s v act) g i.stands.leads.idle))
      (λ e. keeps-none h s P (doing.after_act s v act) g (Holds h s P) (holds-refused h s P v g act (doing.reply_now s v act) refl e i)))

  pub keeps-raises_term : (v : View) (g : List Waiting) (c : Id) (t : ℕ) → Holds h s P (place v g) → Keeps h s P v g (doing.raises_term s v c t) (Holds h s P)
  keeps-raises_term v g c t i =
      keeps-if h s P v g (nat_lt v.node.term t) (doing.on_start_join s v c t) [] (Holds h s P) (λ e. keeps-on_start_join v g c t i) (λ e. keeps-none h s P v g (Holds h s P) i)
