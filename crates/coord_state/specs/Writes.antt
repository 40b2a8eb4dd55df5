-- Part of the statement: what an act writes, and what a crash during it leaves.
use Rattle.std.specs.Prelude.{◌≡◌, Bool, true, false, Option, None, Some}
use Rattle.cluster_state.specs.Initial.{initial_state}
use Rattle.cluster_state.specs.declared.state.Kept.{Kept}
use Rattle.state_journal.specs.Changes.{IsEither}
use Rattle.state_journal.specs.declared.change.Change.{Change}
use Rattle.state_journal.specs.declared.change.Change.TheVariants.{Term, Accepted, Committed}
use Rattle.state_journal.specs.declared.keeper.Keeper.{Ghosts}
use Rattle.world_model.specs.declared.acts.Act.{Act}
use Rattle.world_model.specs.declared.acts.Act.TheVariants.{Bootstrap, StartJoin, TakeJoin, Value, Publish, Response, Commit, Open}
use Rattle.world_model.specs.declared.acts.ActReply.TheVariants.{Taken, Refused, Stopped}
use Rattle.world_model.specs.declared.acts.Outcome.{Outcome}
use Rattle.world_model.specs.declared.acts.Outcome.TheVariants.{Answered, Disk, Crashed}
use Rattle.world_model.specs.Acts.{NodeHistory, Then, is_ok, is_effective}
use Rattle.world_model.specs.NodeState.{durable_of}

-- the change that an act makes of what a node keeps
abbrev pub change_of : Act → Option Change
change_of (Bootstrap config) = Some (Accepted (initial_state config))
change_of (StartJoin candidate term) = Some (Term term)
change_of (Publish request) = Some (Accepted request.state)
change_of (Commit commit) = Some Committed
change_of (TakeJoin join) = None
change_of (Value version config value) = None
change_of (Response response) = None
change_of (Open found) = None

module _ {K : Type 0} (k : Ghosts K) where
  -- the keeper wrote this change with this answer, and where there is none it made no call
  abbrev pub Wrote : (old : K) → Option Change → (new : K) → (ok : Bool) → Type 0
  Wrote old (Some change) new ok = k.writes old change new ok
  Wrote old None new ok = new ≡ old

  -- the keeper wrote the act's change where it was taken or the disk failed, and where it was refused it made no call
  abbrev pub WritesBy : (old : K) → Act → (new : K) → Outcome → Type 0
  WritesBy old act new (Answered (Taken sends wins)) = Wrote old (change_of act) new true
  WritesBy old act new (Answered (Refused cause)) = new ≡ old
  WritesBy old act new (Answered Stopped) = new ≡ old
  WritesBy old act new (Disk kept) = Wrote old (change_of act) new false
  WritesBy old act new (Crashed kept) = ⊥

-- what is kept of the acts so far, without the act in hand or with it
abbrev pub IsDuring : NodeHistory → Act → Option Kept → Type 0
IsDuring g act = IsEither (durable_of g) (durable_of (Then g act (Crashed true)))

effective_of : (outcome : Outcome) → is_ok outcome ≡ true → is_effective outcome ≡ true
effective_of (Answered (Taken sends wins)) ok = ok
effective_of (Answered (Refused cause)) ok = ok
effective_of (Answered Stopped) ok = ok
effective_of (Disk kept) ok = cc
effective_of (Crashed kept) ok = cc

kept_with : (g : NodeHistory) (act : Act) (outcome : Outcome) → is_effective outcome ≡ true
    → durable_of (Then g act outcome) ≡ durable_of (Then g act (Crashed true))
kept_with g (Bootstrap config) outcome e = cc
kept_with g (StartJoin candidate term) outcome e = cc
kept_with g (TakeJoin join) outcome e = cc
kept_with g (Value version config value) outcome e = cc
kept_with g (Publish request) outcome e = cc
kept_with g (Response response) outcome e = cc
kept_with g (Commit commit) outcome e = cc
kept_with g (Open found) outcome e = cc

-- after an act that was taken the record is the one with it
pub kept_after : (g : NodeHistory) (act : Act) (outcome : Outcome) → is_ok outcome ≡ true
    → durable_of (Then g act outcome) ≡ durable_of (Then g act (Crashed true))
kept_after g act outcome ok = kept_with g act outcome (effective_of outcome ok)
