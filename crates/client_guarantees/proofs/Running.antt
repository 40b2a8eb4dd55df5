-- A run of a node, among what the node did before and after it.
use Rattle.std.proofs.Common.{◌≡◌, ◌≢◌, false, refl, sym, ap, subst, inl, inr}
use Rattle.cluster_state.specs.declared.state.Kept.{Kept}
use Rattle.world_model.specs.declared.acts.Act.{Act}
use Rattle.world_model.specs.declared.acts.Act.TheVariants.{Bootstrap, StartJoin, TakeJoin, Value, Publish, Response, Commit, Open}
use Rattle.world_model.specs.declared.acts.Outcome.{Outcome}
use Rattle.world_model.specs.Acts.{NodeHistory, NoActs, Then, is_opening}
use Rattle.world_model.specs.NodeState.{node_state, durable_of}
use Rattle.world_model.specs.Local.{then_run, OpensWith}
use Rattle.world_model.proofs.Moments.{Begins, begins_self}
use Rattle.world_model.proofs.Runs.{same_part}

pub none-before : (r : NodeHistory) → then_run NoActs r ≡ r
none-before NoActs = refl
none-before (Then r a o) = ap (λ (g : NodeHistory). Then g a o) (none-before r)

-- what was done before a run begins all that was done after it
pub begins-run : (g r : NodeHistory) → Begins g (then_run g r)
begins-run g NoActs = begins_self g
begins-run g (Then r a o) = inr (begins-run g r)

-- what follows after a beginning
pub record Rest (p g : NodeHistory) : Type 0 where
  pub after : NodeHistory
  pub acts : g ≡ then_run p after

pub rest-of : (p g : NodeHistory) → Begins p g → Rest p g
rest-of p NoActs b = record { after = NoActs; acts = sym b }
rest-of p (Then g a o) (inl e) = record { after = NoActs; acts = sym e }
rest-of p (Then g a o) (inr b) = let rest = rest-of p g b in record { after = Then rest.after a o; acts = ap (λ (x : NodeHistory). Then x a o) rest.acts }

-- a beginning of the run, after what was done before
pub begins-within : (g p r : NodeHistory) → Begins p r → Begins (then_run g p) (then_run g r)
begins-within g p NoActs b = subst (λ (x : NodeHistory). Begins (then_run g x) g) (sym b) (begins_self g)
begins-within g p (Then r a o) (inl e) = subst (λ (x : NodeHistory). Begins (then_run g x) (then_run g (Then r a o))) (sym e) (begins_self (then_run g (Then r a o)))
begins-within g p (Then r a o) (inr b) = inr (begins-within g p r b)

opens-beginning : (k : Kept) (p : NodeHistory) (a : Act) (o : Outcome) (r : NodeHistory) → Begins (Then p a o) r → OpensWith k r → OpensWith k (Then p a o)
opens-beginning k p a o NoActs b w = absurd w
opens-beginning k p a o (Then r c u) (inl e) w = subst (OpensWith k) (sym e) w
opens-beginning k p a o (Then NoActs c u) (inr b) w = absurd (let n : Then p a o ≡ NoActs = b in cc)
opens-beginning k p a o (Then (Then r d x) c u) (inr b) w = opens-beginning k p a o (Then r d x) b w

-- another act than an opening is not the first
opened-before : (k : Kept) (p : NodeHistory) (a : Act) (o : Outcome) → is_opening a ≡ false → OpensWith k (Then p a o) → OpensWith k p
opened-before k NoActs (Open found) o e w = absurd (cc)
opened-before k NoActs (Bootstrap config) o e w = absurd w
opened-before k NoActs (StartJoin candidate term) o e w = absurd w
opened-before k NoActs (TakeJoin join) o e w = absurd w
opened-before k NoActs (Value version config value) o e w = absurd w
opened-before k NoActs (Publish request) o e w = absurd w
opened-before k NoActs (Response response) o e w = absurd w
opened-before k NoActs (Commit commit) o e w = absurd w
opened-before k (Then p b u) a o e w = w

-- at an act of the run the node is what the run's acts make of it
pub node-within : (g r p : NodeHistory) (a : Act) (o : Outcome) → (g ≢ NoActs → OpensWith (durable_of g) r) → is_opening a ≡ false → Begins (Then p a o) r → node_state (then_run g p) ≡ node_state p
node-within NoActs r p a o opens e b = ap node_state (none-before p)
node-within (Then g c u) r p a o opens e b =
    let k : Kept = durable_of (Then g c u) in
    let some : Then g c u ≢ NoActs = λ n. cc in
    same_part (Then g c u) p (opened-before k p a o e (opens-beginning k p a o r b (opens some)))
