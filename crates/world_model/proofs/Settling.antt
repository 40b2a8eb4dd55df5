-- What is the same of a node's acts when an act that was struck is found to be kept or not.
use Rattle.std.proofs.Common.{◌≡◌, Bool, false, refl, ap}
use Rattle.world_model.specs.declared.acts.Act.{Act}
use Rattle.world_model.specs.declared.acts.Act.TheVariants.{Open}
use Rattle.world_model.specs.declared.acts.ActReply.{ActReply}
use Rattle.world_model.specs.declared.acts.Outcome.{Outcome}
use Rattle.world_model.specs.declared.acts.Outcome.TheVariants.{Answered, Disk, Crashed}
use Rattle.world_model.specs.Acts.{NodeHistory, NoActs, Then, is_disk}
use Rattle.world_model.specs.NodeState.{halted_of}
use Rattle.world_model.specs.Histories.{is_opening, is_down}
use Rattle.world_model.specs.Settled.{settled, IsUnstruck}

-- one more act

pub unstruck_then : (g : NodeHistory) (act : Act) (reply : ActReply) → IsUnstruck g → IsUnstruck (Then g act (Answered reply))
unstruck_then g (Open found) reply u = tt
unstruck_then g act reply u = u

pub settled_then : (k : Bool) (g : NodeHistory) (act : Act) (reply : ActReply) → is_opening act ≡ false → settled k (Then g act (Answered reply)) ≡ Then (settled k g) act (Answered reply)
settled_then k g (Open found) reply e = cc
settled_then k g act reply e = refl

-- where no act was struck, nothing is set
pub unstruck : (g : NodeHistory) (k : Bool) → IsUnstruck g → settled k g ≡ g
unstruck NoActs k u = refl
unstruck (Then g act (Disk was)) k u = absurd u
unstruck (Then g act (Crashed was)) k u = absurd u
unstruck (Then g (Open found) (Answered reply)) k u = refl
unstruck (Then g act (Answered reply)) k u = ap (λ (x : NodeHistory). Then x act (Answered reply)) (unstruck g k u)

-- the node is halted or down as it was

crashed_by : (g : NodeHistory) (act : Act) (o p : Outcome) → is_disk o ≡ is_disk p → halted_of (Then g act o) ≡ halted_of (Then g act p)
crashed_by g (Open found) o p e = refl
crashed_by g act o p e = cc

pub settled_halted : (k : Bool) (g : NodeHistory) → halted_of (settled k g) ≡ halted_of g
settled_halted k NoActs = refl
settled_halted k (Then g act (Disk was)) = crashed_by g act (Disk k) (Disk was) refl
settled_halted k (Then g act (Crashed was)) = crashed_by g act (Crashed k) (Crashed was) refl
settled_halted k (Then g (Open found) (Answered reply)) = refl
settled_halted k (Then g act (Answered reply)) = settled_halted k g

pub settled_down : (k : Bool) (g : NodeHistory) → is_down (settled k g) ≡ is_down g
settled_down k NoActs = refl
settled_down k (Then g act (Disk was)) = refl
settled_down k (Then g act (Crashed was)) = refl
settled_down k (Then g (Open found) (Answered reply)) = refl
settled_down k (Then g act (Answered reply)) = refl
