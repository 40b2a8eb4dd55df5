-- Part of the statement: the acts among the items, as calls of the core one after the other.
use Rattle.std.specs.Prelude.{◌≡◌, Option, Some, List, [], ◌∷◌, ◌⊎◌}
use Rattle.state_journal.specs.declared.keeper.Keeper.{Ghosts}
use Rattle.zen_disk.specs.Moments.{LeavesOnly}
use Rattle.cluster_state.specs.declared.state.Kept.{Kept}
use Rattle.world_model.specs.declared.acts.Act.{Act}
use Rattle.world_model.specs.declared.acts.ActReply.TheVariants.{Taken, Refused, Stopped}
use Rattle.world_model.specs.declared.acts.Outcome.{Outcome}
use Rattle.world_model.specs.declared.acts.Outcome.TheVariants.{Answered, Disk, Crashed}
use Rattle.world_model.specs.Acts.{NodeHistory, Then}
use Rattle.world_model.specs.NodeState.{durable_of}
use Rattle.coord_state.specs.declared.coord.CoordState.{CoordState}
use Rattle.coord_state.specs.Outcomes.{IsReported}
use Rattle.coord_state.specs.StandsFor.{Acts as CoreActs, StandsFor}
use Rattle.coord_state.specs.Writes.{WritesBy, IsDuring}
use Rattle.policy_model.specs.Events.{Item, Opens, Begins, Acts, ChangesMode, Drops, Sends, Replies, Notes}

-- what a crash leaves during an act that ends so: what is kept of the acts before it, or, unless it is refused, of these with it
abbrev pub IsDuringAs : NodeHistory → Act → Outcome → Option Kept → Type 0
IsDuringAs g act (Answered (Taken sends wins)) found = IsDuring g act found
IsDuringAs g act (Answered (Refused cause)) found = found ≡ Some (durable_of g)
IsDuringAs g act (Answered Stopped) found = found ≡ Some (durable_of g)
IsDuringAs g act (Disk kept) found = IsDuring g act found
IsDuringAs g act (Crashed kept) found = IsDuring g act found

-- what a crash leaves at a moment of these items: what is kept of the acts so far, without the act in hand or, unless that is refused, with
-- it
abbrev pub IsAlong : NodeHistory → List Item → Option Kept → Type 0
IsAlong g [] found = found ≡ Some (durable_of g)
IsAlong g (Acts act o ∷ is) found = IsDuringAs g act o found ⊎ IsAlong (Then g act o) is found
IsAlong g (Opens kept ∷ is) found = IsAlong g is found
IsAlong g (Begins event ∷ is) found = IsAlong g is found
IsAlong g (ChangesMode mode term ∷ is) found = IsAlong g is found
IsAlong g (Drops member cause ∷ is) found = IsAlong g is found
IsAlong g (Sends frame ∷ is) found = IsAlong g is found
IsAlong g (Replies answer ∷ is) found = IsAlong g is found
IsAlong g (Notes note ∷ is) found = IsAlong g is found

module _ {K : Type 0} (k : Ghosts K) where
  -- one act
  pub record Acted (old new : CoordState K) (act : Act) (outcome : Outcome) : Type 0 where
    pub acts : CoreActs k old new act outcome
    pub wrote : WritesBy k old.keeper act new.keeper outcome
    pub any_moment : k.told → (g : NodeHistory) → StandsFor k old g
        → LeavesOnly k.moment k.left_since old.keeper new.keeper (IsDuring g act)
    pub told : IsReported outcome

  -- the core did these acts and no others
  abbrev pub CoreDid : (old new : CoordState K) → List Item → Type 0
  CoreDid old new [] = new ≡ old
  CoreDid old new (Opens found ∷ is) = ⊥
  CoreDid old new (Begins event ∷ is) = ⊥
  CoreDid old new (Acts act o ∷ is) = (mid : CoordState K) × Acted old mid act o × CoreDid mid new is
  CoreDid old new (ChangesMode mode term ∷ is) = CoreDid old new is
  CoreDid old new (Drops member cause ∷ is) = CoreDid old new is
  CoreDid old new (Sends frame ∷ is) = CoreDid old new is
  CoreDid old new (Replies answer ∷ is) = CoreDid old new is
  CoreDid old new (Notes note ∷ is) = CoreDid old new is
