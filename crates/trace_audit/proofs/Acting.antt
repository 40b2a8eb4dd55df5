-- What an act makes of an audit.
use Rattle.std.proofs.Common.{◌≡◌, ◌↔◌, Bool, true, false, IsTrue, List, refl, sym, ◌∙◌, subst}
use Rattle.voting_config.specs.Ids.{Id}
use Rattle.world_model.specs.declared.acts.Act.{Act}
use Rattle.world_model.specs.declared.acts.ActReply.{ActReply}
use Rattle.world_model.specs.Acts.{NodeHistory, is_opening, wins}
use Rattle.world_model.specs.declared.acts.ActReply.TheVariants.{Taken, Refused, Stopped}
use Rattle.world_model.specs.declared.acts.Outcome.TheVariants.{Answered}
use Rattle.world_model.proofs.SettledLocal.{halted_reply}
use Rattle.world_model.specs.NodeState.{node_state, halted_of}
use Rattle.world_model.specs.Histories.{History, Next, node_history, sent, is_down}
use Rattle.world_model.specs.Replies.{reply_of}
use Rattle.trace_text.specs.declared.ending.Ending.{Ending}
use Rattle.trace_audit.specs.declared.auditor.Auditor.{Auditor}
use Rattle.trace_audit.specs.declared.clause.Clause.TheVariants as clause
use Rattle.recorded_trace.specs.declared.entry.Entry.TheVariants.{Acted}
use Rattle.trace_audit.specs.Clauses.{NamesInitial, WasSent, BreaksFirst}
use Rattle.trace_audit.specs.Traced.{with_entry}
use Rattle.node_audit.specs.Endings.{outcome_shown}
use Rattle.trace_audit.specs.Stands.{Audits, AllStand, NotesOf}
use Rattle.node_audit.specs.Standing.{MayEnd}
use Rattle.trace_audit.proofs.Steps.{opened_right, may_happen, breaks_opening, breaks_bootstrap, breaks_unsent, breaks_outcome, outcome_right, outcome_wrong}

-- a test that fails
no : {A : Type 0} (r : Bool) → IsTrue r ↔ A → r ≡ false → A → ⊥
no true k e a = cc
no false k e a = let t = k.1 a in cc

module _ (initial : List Id) (old : Auditor) (h : History) (n : Id) (e : Ending) (act : Act) (a : Audits initial old h) (shut : is_opening act ≡ false) where
  module _ (up : is_down (node_history h n) ≡ false) where
    pub names_breaks : (r : Bool) → IsTrue r ↔ NamesInitial old.initial act → r ≡ false → BreaksFirst clause.Bootstrap initial (with_entry h (Acted n e act))
    names_breaks r k f = breaks_bootstrap initial h n act (outcome_shown (reply_of n (node_history h n) act) e) (opened_right h n act shut up) (λ x. no r k f (subst (λ (l : List Id). NamesInitial l act) (sym a.names) x))

    module _ (b : Bool) (k : IsTrue b ↔ NamesInitial old.initial act) (t : b ≡ true) where
      named : NamesInitial initial act
      named = subst (λ (l : List Id). NamesInitial l act) a.names (k.0 t)

      pub unsent_breaks : (r : Bool) → IsTrue r ↔ WasSent (sent h) act → r ≡ false → BreaksFirst clause.Unsent initial (with_entry h (Acted n e act))
      unsent_breaks r w f = breaks_unsent initial h n act (outcome_shown (reply_of n (node_history h n) act) e) (opened_right h n act shut up) named (no r w f)

      module _ (s : Bool) (w : IsTrue s ↔ WasSent (sent h) act) (u : s ≡ true) (reply : ActReply) (is : reply ≡ reply_of n (node_history h n) act) where
        pub outcome_breaks : (r : Bool) → IsTrue r ↔ MayEnd reply act e → r ≡ false → BreaksFirst clause.Outcome initial (with_entry h (Acted n e act))
        outcome_breaks r m f =
            subst (λ (x : ActReply). BreaksFirst clause.Outcome initial (Next h n act (outcome_shown x e))) is
            (breaks_outcome initial h n act (outcome_shown reply e) (opened_right h n act shut up) named (w.0 u) (outcome_wrong n (node_state (node_history h n)) act reply e is (no r m f)))

        pub takes_act : (new : Auditor) (r : Bool) → IsTrue r ↔ MayEnd reply act e → r ≡ true → new.initial ≡ old.initial
            → AllStand new.nodes (node_history (Next h n act (outcome_shown reply e))) → NotesOf new.notes (Next h n act (outcome_shown reply e)) → Audits initial new (with_entry h (Acted n e act))
        takes_act new r m f same nodes notes =
            subst (λ (x : ActReply). Audits initial new (Next h n act (outcome_shown x e))) is
            (record {
              names = same ∙ a.names;
              legal = (a.legal, may_happen initial h n act (outcome_shown reply e) (opened_right h n act shut up) named (w.0 u) (outcome_right n (node_state (node_history h n)) act reply e is (m.0 f)));
              nodes = nodes;
              notes = notes;
            })

-- a node that wins is not halted
wins_not : (r : ActReply) → r ≡ Stopped → wins (Answered r) ≡ true → ⊥
wins_not (Taken s w) e k = cc
wins_not (Refused c) e k = cc
wins_not Stopped e k = cc

pub not_halted : (me : Id) (g : NodeHistory) (act : Act) (reply : ActReply) → is_opening act ≡ false → reply ≡ reply_of me g act → wins (Answered reply) ≡ true → halted_of g ≡ false
not_halted me g act reply shut is w = from (halted_of g) refl
  where
    from : (b : Bool) → halted_of g ≡ b → b ≡ false
    from false e = refl
    from true e = absurd (wins_not reply (is ∙ halted_reply me g act shut e) w)
