-- The runs of a node, one after another, are acts that follow each other: a run sees only what it was opened with.
use Rattle.std.proofs.Common.{◌≡◌, true, false, List, [], ◌∷◌, refl, sym, ◌∙◌, ap, subst}
use Rattle.voting_config.specs.Ids.{Id}
use Rattle.cluster_state.specs.declared.state.Kept.{Kept}
use Rattle.world_model.specs.Acts.{Act, Outcome, NodeHistory, Bootstrap, StartJoin, TakeJoin, Value, Publish, Response, Commit, Open, NoActs, Then, Answered, Disk, Crashed}
use Rattle.world_model.specs.NodeState.{NodeState, node_state, durable_of}
use Rattle.world_model.specs.Replies.{IsOutcomeAt}
use Rattle.world_model.specs.Moves.{node_state_after}
use Rattle.world_model.specs.Histories.{History, node_history, is_down, Continues, ContinuesUnlessFirst, MayFollow, IsLocal, IsLegal}
use Rattle.world_model.specs.Local.{BeginsEmpty, IsSourcedAll, then_run, OpensWith, then_runs, AreRuns}
use Rattle.world_model.proofs.Assemble.{assembled}

-- the part of a node that was opened with this record
abbrev opened : Kept → NodeState
opened k = record {
  term = k.term;
  accepted = k.accepted;
  committed = k.committed;
  started_join = false;
  join_votes = [];
  election_won = false;
  published_version = 0;
  published_config = [];
  publish_votes = [];
  halted = false;
}

abbrev kept_of : NodeState → Kept
kept_of p = record { term = p.term; accepted = p.accepted; committed = p.committed }

-- after its opening a run is what it is by itself
pub same_part : (g r : NodeHistory) → OpensWith (durable_of g) r → node_state (then_run g r) ≡ node_state r
same_part g NoActs w = absurd w
same_part NoActs (Then NoActs (Open found) o) w = refl
same_part (Then g b u) (Then NoActs (Open found) o) w = ap opened (sym w)
same_part g (Then NoActs a o) w = absurd w
same_part g (Then (Then r b u) (Open found) o) w = ap (λ (p : NodeState). opened (kept_of p)) (same_part g (Then r b u) w)
same_part g (Then (Then r b u) (Bootstrap c) o) w = ap (λ (p : NodeState). node_state_after p (Bootstrap c) o) (same_part g (Then r b u) w)
same_part g (Then (Then r b u) (StartJoin c t) o) w = ap (λ (p : NodeState). node_state_after p (StartJoin c t) o) (same_part g (Then r b u) w)
same_part g (Then (Then r b u) (TakeJoin j) o) w = ap (λ (p : NodeState). node_state_after p (TakeJoin j) o) (same_part g (Then r b u) w)
same_part g (Then (Then r b u) (Value v c x) o) w = ap (λ (p : NodeState). node_state_after p (Value v c x) o) (same_part g (Then r b u) w)
same_part g (Then (Then r b u) (Publish q) o) w = ap (λ (p : NodeState). node_state_after p (Publish q) o) (same_part g (Then r b u) w)
same_part g (Then (Then r b u) (Response q) o) w = ap (λ (p : NodeState). node_state_after p (Response q) o) (same_part g (Then r b u) w)
same_part g (Then (Then r b u) (Commit c) o) w = ap (λ (p : NodeState). node_state_after p (Commit c) o) (same_part g (Then r b u) w)

-- its last act alone says whether a node is down
same_down : (x y : NodeHistory) (a : Act) (o : Outcome) → is_down (Then x a o) ≡ true → is_down (Then y a o) ≡ true
same_down x y a (Answered r) h = h
same_down x y a (Disk k) h = h
same_down x y a (Crashed k) h = h

-- the next act of a run may follow also after what was done before the run
follows_run : (me : Id) (g r : NodeHistory) (b a : Act) (u o : Outcome) → OpensWith (durable_of g) (Then r b u) → MayFollow me (Then r b u) a o → MayFollow me (then_run g (Then r b u)) a o
follows_run me g r b a u o w m = record {
  follows = subst (λ (p : NodeState). IsOutcomeAt me p a o) (sym (same_part g (Then r b u) w)) m.follows;
  up = λ h. m.up (same_down (then_run g r) r b u h);
}

continues_run : (g r : NodeHistory) (b a : Act) (u : Outcome) → OpensWith (durable_of g) (Then r b u) → Continues (Then r b u) a → Continues (then_run g (Then r b u)) a
continues_run g r b (Open found) u w c = c ∙ ap kept_of (sym (same_part g (Then r b u) w))
continues_run g r b a u w c = tt

-- an opening is answered alike whatever was before
follows_open : (me : Id) (p q : NodeState) (found : Kept) (o : Outcome) → IsOutcomeAt me p (Open found) o → IsOutcomeAt me q (Open found) o
follows_open me p q found (Answered r) f = f
follows_open me p q found (Disk k) f = f
follows_open me p q found (Crashed k) f = f

opens_run : (g : NodeHistory) (found : Kept) → found ≡ durable_of g → ContinuesUnlessFirst g (Open found)
opens_run NoActs found e = tt
opens_run (Then g a o) found e = e

local_run : (me : Id) (g r : NodeHistory) → IsLocal me g → OpensWith (durable_of g) r → IsLocal me r → IsLocal me (then_run g r)
local_run me g NoActs l w k = absurd w
local_run me g (Then NoActs (Open found) o) l w k =
    (l, record { follows = follows_open me (node_state NoActs) (node_state g) found o k.1.follows; up = λ h. refl }, opens_run g found w)
local_run me g (Then NoActs a o) l w k = absurd w
local_run me g (Then (Then r b u) a o) l w k =
    (local_run me g (Then r b u) l w k.0, follows_run me g r b a u o w k.1, continues_run g r b a u w k.2)

begins_run : (g r : NodeHistory) → BeginsEmpty g → OpensWith (durable_of g) r → BeginsEmpty (then_run g r)
begins_run g NoActs b w = absurd w
begins_run NoActs (Then NoActs (Open found) o) b w = w
begins_run (Then g c u) (Then NoActs (Open found) o) b w = b
begins_run g (Then NoActs a o) b w = absurd w
begins_run g (Then (Then r c u) a o) b w = begins_run g (Then r c u) b w

pub runs_are_local : (me : Id) (g : NodeHistory) (runs : List NodeHistory) → IsLocal me g → BeginsEmpty g → AreRuns me g runs → IsLocal me (then_runs g runs) × BeginsEmpty (then_runs g runs)
runs_are_local me g [] l b a = (l, b)
runs_are_local me g (r ∷ rs) l b a = runs_are_local me (then_run g r) rs (local_run me g r l a.1 a.0) (begins_run g r b a.1) a.2

pub assembled_runs : (initial : List Id) (h : History) (runs : Id → List NodeHistory) → ((n : Id) → AreRuns n NoActs (runs n)) → ((n : Id) → node_history h n ≡ then_runs NoActs (runs n)) → IsSourcedAll initial h → IsLegal initial h
assembled_runs initial h runs a e s =
    assembled initial h (λ n. subst (λ (g : NodeHistory). IsLocal n g × BeginsEmpty g) (sym (e n)) (runs_are_local n NoActs (runs n) tt tt (a n))) s
