-- What a legal history lists by the acts that were taken stays the same when an act that was struck is found to be kept or not: its node took
-- nothing after it.
use Rattle.std.proofs.Common.{◌≡◌, Bool, true, false, cond, Some, List, [], ◌∷◌, ◌++◌, refl, sym, ◌∙◌, ap, subst, append-nil, ◌⊎◌, inl, inr, if◌then◌else◌}
use Rattle.std.proofs.lemmas.Bool.{both_ways}
use Rattle.voting_config.specs.Ids.{Id, same}
use Rattle.world_model.specs.declared.acts.Act.{Act}
use Rattle.world_model.specs.declared.acts.Message.TheVariants.{Publish as PublishMessage}
use Rattle.world_model.specs.declared.acts.ActReply.{ActReply}
use Rattle.world_model.specs.declared.acts.ActReply.TheVariants.{Taken, Refused, Stopped}
use Rattle.world_model.specs.declared.acts.Outcome.{Outcome}
use Rattle.world_model.specs.declared.acts.Outcome.TheVariants.{Answered, Disk, Crashed}
use Rattle.world_model.specs.Acts.{NodeHistory, is_ok, wins}
use Rattle.world_model.specs.NodeState.{term_of, accepted_of, halted_of}
use Rattle.world_model.specs.Histories.{History, NoEntries, Next, node_history, is_opening, is_down, MayFollow, IsLocal, IsLegal}
use Rattle.world_model.specs.Safety.{Win, winners, Published, published, published_by}
use Rattle.world_model.proofs.Assemble.{legal_is}
use Rattle.voting_config.proofs.Sets.{same_is, same_flipped}
use Rattle.world_model.specs.Settled.{settled_entry, settled_for, IsUnstruck}
use Rattle.world_model.proofs.AllSettled.{settled_own, settled_other}
use Rattle.world_model.proofs.Settling.{unstruck}
use Rattle.world_model.proofs.SettledLocal.{still, halted_reply}

not_taken : {A : Type 0} (reply : ActReply) → reply ≡ Stopped → is_ok (Answered reply) ≡ true → A
not_taken (Taken s w) e k = cc
not_taken (Refused c) e k = cc
not_taken Stopped e k = cc

-- a node that takes an act other than an opening has no act that was struck
taken_unstruck : (me : Id) (g : NodeHistory) (act : Act) (reply : ActReply) → IsLocal me g → MayFollow me g act (Answered reply) → is_opening act ≡ false → is_ok (Answered reply) ≡ true → IsUnstruck g
taken_unstruck me g act reply l f shut k = from (still me g l)
  where
    from : IsUnstruck g ⊎ ((halted_of g ≡ true) ⊎ (is_down g ≡ true)) → IsUnstruck g
    from (inl u) = u
    from (inr (inl e)) = not_taken reply (f.follows ∙ halted_reply me g act shut e) k
    from (inr (inr e)) = absurd (both_ways _ shut (f.up e))

-- the acts that are taken add to the list
module _ {X : Type 0} (list : History → List X) (add : NodeHistory → Id → Outcome → List X)
    (more : (h : History) (n : Id) (a : Act) (o : Outcome) → list (Next h n a o) ≡ list h ++ add (node_history h n) n o)
    (struck : (g : NodeHistory) (n : Id) (o : Outcome) → is_ok o ≡ false → add g n o ≡ []) where
  same_add : (g s : NodeHistory) (n : Id) (o : Outcome) → (is_ok o ≡ true → s ≡ g) → add s n o ≡ add g n o
  same_add g s n o e = from (is_ok o) refl
    where
      from : (b : Bool) → is_ok o ≡ b → add s n o ≡ add g n o
      from true k = ap (λ (x : NodeHistory). add x n o) (e k)
      from false k = struck s n o k ∙ sym (struck g n o k)

  lengthened : (h s : History) (n : Id) (a : Act) (o : Outcome) → list s ≡ list h → (is_ok o ≡ true → node_history s n ≡ node_history h n) → list (Next s n a o) ≡ list (Next h n a o)
  lengthened h s n a o r e =
      more s n a o ∙ (λ i. r i ++ same_add (node_history h n) (node_history s n) n o e i) ∙ sym (more h n a o)

  lost_entry : (h : History) (n : Id) (a : Act) (o p : Outcome) → is_ok o ≡ false → is_ok p ≡ false → list (Next h n a o) ≡ list (Next h n a p)
  lost_entry h n a o p e d = more h n a o ∙ ap (λ l. list h ++ l) (struck _ n o e ∙ sym (struck _ n p d)) ∙ sym (more h n a p)

  own_entry : (k : Bool) (h : History) (n : Id) (act : Act) (o : Outcome) → IsLocal n (node_history h n) → MayFollow n (node_history h n) act o → list (settled_for n k h) ≡ list h
      → list (settled_entry k h (settled_for n k h) n act o) ≡ list (Next h n act o)
  own_entry k h n act (Disk was) l f r = lost_entry h n act (Disk k) (Disk was) refl refl
  own_entry k h n act (Crashed was) l f r = lost_entry h n act (Crashed k) (Crashed was) refl refl
  own_entry k h n act (Answered reply) l f r = from (is_opening act) refl
    where
      from : (b : Bool) → is_opening act ≡ b → list (Next (if b then h else settled_for n k h) n act (Answered reply)) ≡ list (Next h n act (Answered reply))
      from true e = refl
      from false e = lengthened h (settled_for n k h) n act (Answered reply) r (λ t. settled_own n k h ∙ unstruck (node_history h n) k (taken_unstruck n (node_history h n) act reply l f e t))

  pub settled_list : (initial : List Id) (h : History) (n : Id) (k : Bool) → IsLegal initial h → list (settled_for n k h) ≡ list h
  settled_list initial NoEntries n k l = refl
  settled_list initial (Next h node act o) n k l = from (same node n) refl (settled_list initial h n k l.0)
    where
      from : (b : Bool) → same node n ≡ b → list (settled_for n k h) ≡ list h
          → list (if b then settled_entry k h (settled_for n k h) node act o else Next (settled_for n k h) node act o) ≡ list (Next h node act o)
      from true e r =
          subst (λ (m : Id). list (settled_for m k h) ≡ list h → list (settled_entry k h (settled_for m k h) node act o) ≡ list (Next h node act o)) (same_is node n e)
          (own_entry k h node act o (((legal_is initial h).0 l.0).0 node).0 l.1.follows) r
      from false e r = lengthened h (settled_for n k h) node act o r (λ t. settled_other n node k h (same_flipped n node ∙ e))

-- ---- wins

abbrev pub win_added : NodeHistory → Id → Outcome → List Win
win_added g n o = cond (wins o) (record { node = n; term = term_of g } ∷ []) []

pub winners_more : (h : History) (n : Id) (a : Act) (o : Outcome) → winners (Next h n a o) ≡ winners h ++ win_added (node_history h n) n o
winners_more h n a o = from (wins o)
  where
    from : (b : Bool) → cond b (winners h ++ record { node = n; term = term_of (node_history h n) } ∷ []) (winners h) ≡ winners h ++ cond b (record { node = n; term = term_of (node_history h n) } ∷ []) []
    from true = refl
    from false = sym (append-nil (winners h))

no_win_added : (g : NodeHistory) (n : Id) (o : Outcome) → is_ok o ≡ false → win_added g n o ≡ []
no_win_added g n (Answered (Taken s w)) e = cc
no_win_added g n (Answered (Refused c)) e = refl
no_win_added g n (Answered Stopped) e = refl
no_win_added g n (Disk k) e = refl
no_win_added g n (Crashed k) e = refl

pub settled_winners : (initial : List Id) (h : History) (n : Id) (k : Bool) → IsLegal initial h → winners (settled_for n k h) ≡ winners h
settled_winners initial h n k l = settled_list winners win_added winners_more no_win_added initial h n k l

-- ---- publications

abbrev published_added : NodeHistory → Id → Outcome → List Published
published_added g n (Answered (Taken (Some (PublishMessage request)) w)) = record { publisher = n; state = request.state; parent = accepted_of g } ∷ []
published_added g n other = []

published_by_is : (h : History) (n : Id) (o : Outcome) → published_by h n o ≡ published_added (node_history h n) n o
published_by_is h n (Answered (Taken (Some (PublishMessage request)) w)) = refl
published_by_is h n o = refl

none_added : (g : NodeHistory) (n : Id) (o : Outcome) → is_ok o ≡ false → published_added g n o ≡ []
none_added g n (Answered (Taken s w)) e = cc
none_added g n (Answered (Refused c)) e = refl
none_added g n (Answered Stopped) e = refl
none_added g n (Disk k) e = refl
none_added g n (Crashed k) e = refl

pub settled_publications : (initial : List Id) (h : History) (n : Id) (k : Bool) → IsLegal initial h → published (settled_for n k h) ≡ published h
settled_publications initial h n k l =
    settled_list published published_added (λ h n a o. ap (λ x. published h ++ x) (published_by_is h n o)) none_added initial h n k l
