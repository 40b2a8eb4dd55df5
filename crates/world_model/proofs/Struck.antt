-- What an act makes of a node's record, and what the record that is found later says of it.
use Rattle.std.proofs.Common.{◌≡◌, ℕ, Bool, true, false, List, [], ◌∷◌, refl, sym, ◌∙◌, ap, subst, arith, ◌⊎◌, inl, inr}
use Rattle.std.proofs.lemmas.Bool.{and_parts, eqb-true, eq-eqb, and_from}
use Rattle.voting_config.specs.Ids.{Id, same_config}
use Rattle.cluster_state.specs.declared.state.Kept.{Kept}
use Rattle.world_model.specs.declared.acts.Act.{Act}
use Rattle.world_model.specs.declared.acts.Act.TheVariants.{Bootstrap, StartJoin, Publish, Commit, Open}
use Rattle.world_model.specs.declared.acts.ActReply.{ActReply}
use Rattle.world_model.specs.declared.acts.ActReply.TheVariants.{Taken, Refused, Stopped}
use Rattle.world_model.specs.declared.acts.Outcome.TheVariants.{Answered, Disk, Crashed}
use Rattle.world_model.specs.Acts.{NodeHistory, Then}
use Rattle.world_model.specs.NodeState.{term_of, accepted_of, committed_of, durable_of}
use Rattle.world_model.specs.Histories.{is_opening}
use Rattle.world_model.specs.Replies.{reply_of, is_taken, writes}
use Rattle.voting_config.proofs.Sets.{same_self, same_config_is}
use Rattle.world_model.proofs.Guards.{boot_guard, publish_guard, as_taken}
use Rattle.world_model.specs.Settled.{settled, shows_as, is_kept}

-- an act that is not taken changes nothing

pub durable_refused : (g : NodeHistory) (act : Act) (reply : ActReply) → is_opening act ≡ false → is_taken reply ≡ false → durable_of (Then g act (Answered reply)) ≡ durable_of g
durable_refused g act (Taken sends wins) e r = cc
durable_refused g (Open found) (Refused cause) e r = cc
durable_refused g act (Refused cause) e r = refl
durable_refused g (Open found) Stopped e r = cc
durable_refused g act Stopped e r = refl

pub durable_lost : (g : NodeHistory) (act : Act) → is_opening act ≡ false → durable_of (Then g act (Disk false)) ≡ durable_of g
durable_lost g (Open found) e = cc
durable_lost g act e = refl

pub durable_lost_crash : (g : NodeHistory) (act : Act) → is_opening act ≡ false → durable_of (Then g act (Crashed false)) ≡ durable_of g
durable_lost_crash g (Open found) e = cc
durable_lost_crash g act e = refl

pub durable_kept : (g : NodeHistory) (act : Act) → durable_of (Then g act (Disk true)) ≡ durable_of (Then g act (Crashed true))
durable_kept g (Open found) = refl
durable_kept g act = refl

pub closed_of_writes : (act : Act) → writes act ≡ true → is_opening act ≡ false
closed_of_writes (Open found) e = cc
closed_of_writes act e = cc

-- What the line of a record shows.

pub record Shown (a b : Kept) : Type 0 where
  pub term : a.term ≡ b.term
  pub accepted_term : a.accepted.term ≡ b.accepted.term
  pub accepted_version : a.accepted.version ≡ b.accepted.version
  pub config : a.accepted.config ≡ b.accepted.config
  pub committed : a.committed ≡ b.committed

pub shown : (a b : Kept) → shows_as a b ≡ true → Shown a b
shown a b e =
    let p = and_parts _ _ e in
    let q = and_parts _ _ p.0 in
    let r = and_parts _ _ q.0 in
    let s = and_parts _ _ r.0 in
    record {
      term = eqb-true _ _ s.0;
      accepted_term = eqb-true _ _ s.1;
      accepted_version = eqb-true _ _ r.1;
      config = same_config_is _ _ q.1;
      committed = same_config_is _ _ p.1;
    }

same_config_self : (xs : List Id) → same_config xs xs ≡ true
same_config_self [] = refl
same_config_self (x ∷ xs) = and_from _ _ (same_self x) (same_config_self xs)

pub shows_self : (a : Kept) → shows_as a a ≡ true
shows_self a =
    let term = eq-eqb a.term a.term refl in
    let accepted_term = eq-eqb a.accepted.term a.accepted.term refl in
    let version = eq-eqb a.accepted.version a.accepted.version refl in
    and_from _ _ (and_from _ _ (and_from _ _ (and_from _ _ term accepted_term) version) (same_config_self a.accepted.config)) (same_config_self a.committed)

-- an act that was taken and kept shows in the record, unless it changed nothing

kept_shown : (g : NodeHistory) (act : Act) → shows_as (durable_of g) (durable_of (Then g act (Crashed true))) ≡ true → Shown (durable_of g) (durable_of (Then g act (Crashed true)))
kept_shown g act e = shown (durable_of g) (durable_of (Then g act (Crashed true))) e

pub shown_same : (me : Id) (g : NodeHistory) (act : Act) → is_opening act ≡ false → is_taken (reply_of me g act) ≡ true → shows_as (durable_of g) (durable_of (Then g act (Crashed true))) ≡ true → durable_of g ≡ durable_of (Then g act (Crashed true))
shown_same me g (Bootstrap config) o t e =
    let k = as_taken (reply_of me g (Bootstrap config)) t in
    let guard = boot_guard me g config k.0 k.1 k.2 in
    absurd (guard.named (sym (kept_shown g (Bootstrap config) e).config ∙ guard.empty))
shown_same me g (StartJoin candidate term) o t e = ap (λ (x : ℕ). record { term = x; accepted = accepted_of g; committed = committed_of g }) (kept_shown g (StartJoin candidate term) e).term
shown_same me g (Publish request) o t e =
    let s = kept_shown g (Publish request) e in
    let k = as_taken (reply_of me g (Publish request)) t in
    let newer = (publish_guard me g request k.0 k.1 k.2).newer (sym s.accepted_term) in
    let version = s.accepted_version in
    absurd (omega arith)
shown_same me g (Commit commit) o t e = ap (λ (x : List Id). record { term = term_of g; accepted = accepted_of g; committed = x }) (kept_shown g (Commit commit) e).committed
shown_same me g (Open found) o t e = cc
shown_same me g act o t e = refl

-- what is found says whether the act was kept
pub kept_choice : (g : NodeHistory) (found : Kept) → (found ≡ durable_of (settled false g)) ⊎ (found ≡ durable_of (settled true g))
    → (shows_as (durable_of (settled false g)) (durable_of (settled true g)) ≡ true → durable_of (settled false g) ≡ durable_of (settled true g)) → found ≡ durable_of (settled (is_kept g found) g)
kept_choice g found (inr e) same =
    let shows : is_kept g found ≡ true = subst (λ (x : Kept). shows_as x (durable_of (settled true g)) ≡ true) (sym e) (shows_self (durable_of (settled true g))) in
    subst (λ (b : Bool). found ≡ durable_of (settled b g)) (sym shows) e
kept_choice g found (inl e) same = from (is_kept g found) refl
  where
    from : (b : Bool) → is_kept g found ≡ b → found ≡ durable_of (settled b g)
    from false k = e
    from true k = e ∙ same (subst (λ (x : Kept). shows_as x (durable_of (settled true g)) ≡ true) e k)
