-- The acts of a node still follow each other when an act that was struck is found to be kept or not.
use Rattle.std.proofs.Common.{◌≡◌, Bool, true, false, refl, sym, ◌∙◌, ap, ◌⊎◌, inl, inr}
use Rattle.voting_config.specs.Ids.{Id}
use Rattle.world_model.specs.declared.acts.Act.{Act}
use Rattle.world_model.specs.declared.acts.Act.TheVariants.{Open}
use Rattle.world_model.specs.declared.acts.ActReply.{ActReply}
use Rattle.world_model.specs.declared.acts.ActReply.TheVariants.{Stopped}
use Rattle.world_model.specs.declared.acts.Outcome.{Outcome}
use Rattle.world_model.specs.declared.acts.Outcome.TheVariants.{Answered, Disk, Crashed}
use Rattle.world_model.specs.Acts.{NodeHistory, NoActs, Then}
use Rattle.world_model.specs.NodeState.{halted_of}
use Rattle.world_model.specs.Replies.{reply_of, writes}
use Rattle.world_model.specs.Histories.{is_opening, is_down, MayFollow, IsLocal}
use Rattle.world_model.specs.Local.{BeginsEmpty}
use Rattle.world_model.proofs.Assemble.{goes_on_always, begins_less}
use Rattle.world_model.specs.Settled.{settled, IsUnstruck}
use Rattle.world_model.proofs.Settling.{unstruck, settled_halted, settled_down}

-- after an act that was struck, the node is halted or down

halted_by_disk : (g : NodeHistory) (act : Act) (kept : Bool) → writes act ≡ true → halted_of (Then g act (Disk kept)) ≡ true
halted_by_disk g (Open found) kept w = cc
halted_by_disk g act kept w = refl

abbrev pub IsStill : NodeHistory → Type 0
IsStill g = IsUnstruck g ⊎ ((halted_of g ≡ true) ⊎ (is_down g ≡ true))

still_then : (me : Id) (g : NodeHistory) (act : Act) (reply : ActReply) → MayFollow me g act (Answered reply) → IsStill g → IsStill (Then g act (Answered reply))
still_then me g (Open found) reply f s = inl tt
still_then me g act reply f (inl u) = inl u
still_then me g act reply f (inr (inl e)) = inr (inl e)
still_then me g act reply f (inr (inr e)) = let up = f.up e in cc

pub still : (me : Id) (g : NodeHistory) → IsLocal me g → IsStill g
still me NoActs l = inl tt
still me (Then g act (Disk was)) l = inr (inl (halted_by_disk g act was l.1.follows.1))
still me (Then g act (Crashed was)) l = inr (inr refl)
still me (Then g act (Answered reply)) l = still_then me g act reply l.1 (still me g l.0)

-- a node that is halted answers that it is
pub halted_reply : (me : Id) (g : NodeHistory) (act : Act) → is_opening act ≡ false → halted_of g ≡ true → reply_of me g act ≡ Stopped
halted_reply me g (Open found) o e = cc
halted_reply me g act o e = rw e refl

-- so whether the act was kept, its answers are the same
pub settled_reply : (me : Id) (k : Bool) (g : NodeHistory) (act : Act) → IsLocal me g → is_opening act ≡ false → is_down g ≡ false → reply_of me (settled k g) act ≡ reply_of me g act
settled_reply me k g act l o d = from (still me g l)
  where
    from : IsStill g → reply_of me (settled k g) act ≡ reply_of me g act
    from (inl u) = ap (λ (x : NodeHistory). reply_of me x act) (unstruck g k u)
    from (inr (inl e)) = halted_reply me (settled k g) act o (settled_halted k g ∙ e) ∙ sym (halted_reply me g act o e)
    from (inr (inr e)) = cc

up_before : (me : Id) (g : NodeHistory) (act : Act) (o : Outcome) → MayFollow me g act o → is_opening act ≡ false → is_down g ≡ false
up_before me g act o f c = from (is_down g) refl
  where
    from : (b : Bool) → is_down g ≡ b → b ≡ false
    from false e = refl
    from true e = let up = f.up e in cc

local_then : (me : Id) (k : Bool) (g : NodeHistory) (act : Act) (reply : ActReply) → is_opening act ≡ false → IsLocal me (Then g act (Answered reply)) → IsLocal me (settled k g) → IsLocal me (Then (settled k g) act (Answered reply))
local_then me k g act reply o l s =
    let reply_is = settled_reply me k g act l.0 o (up_before me g act (Answered reply) l.1 o) in
    (s, record { follows = l.1.follows ∙ sym reply_is; up = λ d. l.1.up (sym (settled_down k g) ∙ d) }, goes_on_always (settled k g) act o)

pub settled_local : (me : Id) (k : Bool) (g : NodeHistory) → IsLocal me g → IsLocal me (settled k g)
settled_local me k NoActs l = l
settled_local me k (Then g act (Disk was)) l = (l.0, record { follows = l.1.follows; up = l.1.up }, l.2)
settled_local me k (Then g act (Crashed was)) l = (l.0, record { follows = l.1.follows; up = l.1.up }, l.2)
settled_local me k (Then g (Open found) (Answered reply)) l = l
settled_local me k (Then g act (Answered reply)) l = local_then me k g act reply refl l (settled_local me k g l.0)

-- and the other way round
local_before : (me : Id) (k : Bool) (g : NodeHistory) (act : Act) (reply : ActReply) → is_opening act ≡ false → IsLocal me g → MayFollow me (settled k g) act (Answered reply) → IsLocal me (Then g act (Answered reply))
local_before me k g act reply o l f =
    let up : is_down g ≡ false = sym (settled_down k g) ∙ up_before me (settled k g) act (Answered reply) f o in
    (l, record { follows = f.follows ∙ settled_reply me k g act l o up; up = λ d. f.up (settled_down k g ∙ d) }, goes_on_always g act o)

pub unsettled_local : (me : Id) (k : Bool) (g : NodeHistory) → IsLocal me (settled k g) → IsLocal me g
unsettled_local me k NoActs l = l
unsettled_local me k (Then g act (Disk was)) l = (l.0, record { follows = l.1.follows; up = l.1.up }, l.2)
unsettled_local me k (Then g act (Crashed was)) l = (l.0, record { follows = l.1.follows; up = l.1.up }, l.2)
unsettled_local me k (Then g (Open found) (Answered reply)) l = l
unsettled_local me k (Then g act (Answered reply)) l = local_before me k g act reply refl (unsettled_local me k g l.0) l.1

-- a first opening still finds that nothing is kept

begins_then : (g : NodeHistory) (act : Act) (o : Outcome) → is_opening act ≡ false → BeginsEmpty g → BeginsEmpty (Then g act o)
begins_then NoActs (Open found) o c b = cc
begins_then NoActs act o c b = tt
begins_then (Then g a p) act o c b = b

begins_by : (g : NodeHistory) (act : Act) (o p : Outcome) → BeginsEmpty (Then g act o) → BeginsEmpty (Then g act p)
begins_by NoActs (Open found) o p b = b
begins_by NoActs act o p b = tt
begins_by (Then g a q) act o p b = b

pub settled_begins : (k : Bool) (g : NodeHistory) → BeginsEmpty g → BeginsEmpty (settled k g)
settled_begins k NoActs b = b
settled_begins k (Then g act (Disk was)) b = begins_by g act (Disk was) (Disk k) b
settled_begins k (Then g act (Crashed was)) b = begins_by g act (Crashed was) (Crashed k) b
settled_begins k (Then g (Open found) (Answered reply)) b = b
settled_begins k (Then g act (Answered reply)) b = begins_then (settled k g) act (Answered reply) refl (settled_begins k g (begins_less g act (Answered reply) b))

pub unsettled_begins : (k : Bool) (g : NodeHistory) → BeginsEmpty (settled k g) → BeginsEmpty g
unsettled_begins k NoActs b = b
unsettled_begins k (Then g act (Disk was)) b = begins_by g act (Disk k) (Disk was) b
unsettled_begins k (Then g act (Crashed was)) b = begins_by g act (Crashed k) (Crashed was) b
unsettled_begins k (Then g (Open found) (Answered reply)) b = b
unsettled_begins k (Then g act (Answered reply)) b = begins_then g act (Answered reply) refl (unsettled_begins k g (begins_less (settled k g) act (Answered reply) b))
