-- The record that is found says whether the act that was struck was kept.
use Rattle.std.proofs.Common.{◌≡◌, true, false, refl, sym, ◌∙◌, ap, subst, ◌⊎◌, inl, inr}
use Rattle.voting_config.specs.Ids.{Id}
use Rattle.cluster_state.specs.declared.state.Kept.{Kept}
use Rattle.world_model.specs.declared.acts.Act.{Act}
use Rattle.world_model.specs.declared.acts.Act.TheVariants.{Open}
use Rattle.world_model.specs.declared.acts.ActReply.{ActReply}
use Rattle.world_model.specs.declared.acts.ActReply.TheVariants.{Stopped}
use Rattle.world_model.specs.declared.acts.Outcome.TheVariants.{Answered, Disk, Crashed}
use Rattle.world_model.specs.Acts.{NodeHistory, NoActs, Then}
use Rattle.world_model.specs.NodeState.{durable_of}
use Rattle.world_model.specs.Replies.{reply_of, is_taken, writes}
use Rattle.world_model.specs.Histories.{is_opening, IsLocal, MayFollow}
use Rattle.world_model.specs.Settled.{settled, shows_as, is_kept}
use Rattle.world_model.proofs.Settling.{unstruck}
use Rattle.world_model.proofs.Struck.{durable_refused, durable_lost, durable_lost_crash, durable_kept, closed_of_writes, shown_same, kept_choice}
use Rattle.world_model.proofs.SettledLocal.{IsStill, still, halted_reply}

-- where two records show the same, they are the same
abbrev pub Tells : Kept → Kept → Type 0
Tells a b = shows_as a b ≡ true → a ≡ b

abbrev pub TellsApart : NodeHistory → Type 0
TellsApart g = Tells (durable_of (settled false g)) (durable_of (settled true g))

pub tells_of : (a b c d : Kept) → a ≡ c → b ≡ d → Tells c d → Tells a b
tells_of a b c d p q t e = p ∙ t (subst (λ (x : Kept). shows_as x d ≡ true) p (subst (λ (x : Kept). shows_as a x ≡ true) q e)) ∙ sym q

pub struck_tells : (me : Id) (g : NodeHistory) (act : Act) → (is_taken (reply_of me g act) ≡ true) × (writes act ≡ true) → Tells (durable_of g) (durable_of (Then g act (Crashed true)))
struck_tells me g act t = shown_same me g act (closed_of_writes act t.1) t.0

then_tells : (me : Id) (g : NodeHistory) (act : Act) (reply : ActReply) → is_opening act ≡ false → MayFollow me g act (Answered reply) → IsStill g → TellsApart g
    → Tells (durable_of (Then (settled false g) act (Answered reply))) (durable_of (Then (settled true g) act (Answered reply)))
then_tells me g act reply o f (inl u) t = λ e. ap (λ (x : NodeHistory). durable_of (Then x act (Answered reply))) (unstruck g false u ∙ sym (unstruck g true u))
then_tells me g act reply o f (inr (inl stopped)) t =
    let reply_is : reply ≡ Stopped = f.follows ∙ halted_reply me g act o stopped in
    let refused : is_taken reply ≡ false = ap is_taken reply_is in
    tells_of _ _ _ _ (durable_refused (settled false g) act reply o refused) (durable_refused (settled true g) act reply o refused) t
then_tells me g act reply o f (inr (inr down)) t = let up = f.up down in cc

pub settled_tells : (me : Id) (g : NodeHistory) → IsLocal me g → TellsApart g
settled_tells me NoActs l = λ e. refl
settled_tells me (Then g act (Disk was)) l = tells_of _ _ _ _ (durable_lost g act (closed_of_writes act l.1.follows.1)) (durable_kept g act) (struck_tells me g act l.1.follows)
settled_tells me (Then g act (Crashed was)) l = tells_of _ _ _ _ (durable_lost_crash g act (closed_of_writes act l.1.follows.1)) refl (struck_tells me g act l.1.follows)
settled_tells me (Then g (Open found) (Answered reply)) l = λ e. refl
settled_tells me (Then g act (Answered reply)) l = then_tells me g act reply refl l.1 (still me g l.0) (settled_tells me g l.0)

-- so a record that is found is that of the acts as they are set
pub found_is : (me : Id) (g : NodeHistory) (found : Kept) → IsLocal me g → (found ≡ durable_of (settled false g)) ⊎ (found ≡ durable_of (settled true g)) → found ≡ durable_of (settled (is_kept g found) g)
found_is me g found l c = kept_choice g found c (settled_tells me g l)
