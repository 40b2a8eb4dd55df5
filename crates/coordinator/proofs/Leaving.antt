-- What a crash leaves at each moment of some items.
use Rattle.std.proofs.Common.{◌≡◌, true, false, List, [], ◌∷◌, sym, subst, inl, inr, ⊎_elim}
use Rattle.state_journal.specs.declared.keeper.Keeper.{Ghosts}
use Rattle.std.specs.Prelude.{Option, Some}
use Rattle.zen_disk.specs.Moments.{LeavesOnly, quiet, joins}
use Rattle.cluster_state.specs.declared.state.Kept.{Kept}
use Rattle.world_model.specs.declared.acts.Act.{Act}
use Rattle.world_model.specs.declared.acts.Act.TheVariants.{Bootstrap, StartJoin, TakeJoin, Value, Publish, Response, Commit, Open}
use Rattle.world_model.specs.declared.acts.ActReply.TheVariants.{Taken, Refused, Stopped}
use Rattle.world_model.specs.declared.acts.Outcome.{Outcome}
use Rattle.world_model.specs.declared.acts.Outcome.TheVariants.{Answered, Disk, Crashed}
use Rattle.world_model.specs.Acts.{NodeHistory, Then}
use Rattle.world_model.specs.NodeState.{durable_of}
use Rattle.world_model.specs.Replies.{writes}
use Rattle.coord_state.specs.declared.coord.CoordState.{CoordState}
use Rattle.coord_state.specs.StandsFor.{StandsFor}
use Rattle.coord_state.specs.Writes.{IsDuring}
use Rattle.policy_model.specs.Events.{Item, Opens, Begins, Acts, ChangesMode, Drops, Sends, Replies, Notes}
use Rattle.policy_model.specs.Follows.{IsStruck, Here, Later, is_fault}
use Rattle.coordinator.specs.CoreActs.{Acted, CoreDid, IsAlong, IsDuringAs}

-- what was kept before a faulty act, or what it wrote
struck_kept : (g : NodeHistory) (act : Act) (o : Outcome) → writes act ≡ true → is_fault o ≡ true → (found : Option Kept) → found ≡ Some (durable_of (Then g act o)) → IsDuring g act found
struck_kept g act (Answered reply) w f found e = cc
struck_kept g (Bootstrap config) (Disk true) w f found e = inr e
struck_kept g (Bootstrap config) (Disk false) w f found e = inl e
struck_kept g (Bootstrap config) (Crashed true) w f found e = inr e
struck_kept g (Bootstrap config) (Crashed false) w f found e = inl e
struck_kept g (StartJoin candidate term) (Disk true) w f found e = inr e
struck_kept g (StartJoin candidate term) (Disk false) w f found e = inl e
struck_kept g (StartJoin candidate term) (Crashed true) w f found e = inr e
struck_kept g (StartJoin candidate term) (Crashed false) w f found e = inl e
struck_kept g (Publish request) (Disk true) w f found e = inr e
struck_kept g (Publish request) (Disk false) w f found e = inl e
struck_kept g (Publish request) (Crashed true) w f found e = inr e
struck_kept g (Publish request) (Crashed false) w f found e = inl e
struck_kept g (Commit commit) (Disk true) w f found e = inr e
struck_kept g (Commit commit) (Disk false) w f found e = inl e
struck_kept g (Commit commit) (Crashed true) w f found e = inr e
struck_kept g (Commit commit) (Crashed false) w f found e = inl e
struck_kept g (TakeJoin join) (Disk b) w f found e = cc
struck_kept g (TakeJoin join) (Crashed b) w f found e = cc
struck_kept g (Value version config value) (Disk b) w f found e = cc
struck_kept g (Value version config value) (Crashed b) w f found e = cc
struck_kept g (Response response) (Disk b) w f found e = cc
struck_kept g (Response response) (Crashed b) w f found e = cc
struck_kept g (Open kept) (Disk b) w f found e = cc
struck_kept g (Open kept) (Crashed b) w f found e = cc

faulty_during : (g : NodeHistory) (act : Act) (o : Outcome) → is_fault o ≡ true → (found : Option Kept) → IsDuringAs g act o found → IsDuring g act found
faulty_during g act (Answered reply) f found d = cc
faulty_during g act (Disk kept) f found d = d
faulty_during g act (Crashed kept) f found d = d

-- what the struck items leave, the whole ones leave
pub along_struck : (g : NodeHistory) (items left : List Item) → IsStruck items left → (found : Option Kept) → IsAlong g left found → IsAlong g items found
along_struck g items left (Here act sends wins rest fault w f) found a = inl (⊎_elim (λ during. faulty_during g act fault f found during) (λ e. struck_kept g act fault w f found e) a)
along_struck g items left (Later (Opens kept) rest left' q) found a = along_struck g rest left' q found a
along_struck g items left (Later (Begins event) rest left' q) found a = along_struck g rest left' q found a
along_struck g items left (Later (Acts act o) rest left' q) found a = ⊎_elim (λ during. inl during) (λ after. inr (along_struck (Then g act o) rest left' q found after)) a
along_struck g items left (Later (ChangesMode mode term) rest left' q) found a = along_struck g rest left' q found a
along_struck g items left (Later (Drops member cause) rest left' q) found a = along_struck g rest left' q found a
along_struck g items left (Later (Sends frame) rest left' q) found a = along_struck g rest left' q found a
along_struck g items left (Later (Replies answer) rest left' q) found a = along_struck g rest left' q found a
along_struck g items left (Later (Notes note) rest left' q) found a = along_struck g rest left' q found a

module _ {K : Type 0} (k : Ghosts K) where
  -- an act that is refused makes no call
  act_leaves : (old new : CoordState K) (act : Act) (o : Outcome) → Acted k old new act o → k.told → (g : NodeHistory) → StandsFor k old g → LeavesOnly k.moment k.left_since old.keeper new.keeper (IsDuringAs g act o)
  act_leaves old new act (Answered (Taken sends wins)) a t g s = a.any_moment t g s
  act_leaves old new act (Answered (Refused cause)) a t g s = subst (λ (x : K). LeavesOnly k.moment k.left_since old.keeper x (IsDuringAs g act (Answered (Refused cause)))) (sym a.wrote) (quiet k.moment k.left_since old.keeper (IsDuringAs g act (Answered (Refused cause))))
  act_leaves old new act (Answered Stopped) a t g s = subst (λ (x : K). LeavesOnly k.moment k.left_since old.keeper x (IsDuringAs g act (Answered Stopped))) (sym a.wrote) (quiet k.moment k.left_since old.keeper (IsDuringAs g act (Answered Stopped)))
  act_leaves old new act (Disk kept) a t g s = a.any_moment t g s
  act_leaves old new act (Crashed kept) a t g s = a.any_moment t g s

  pub did_leaves : (old new : CoordState K) (is : List Item) → CoreDid k old new is → k.told → (g : NodeHistory) → StandsFor k old g → LeavesOnly k.moment k.left_since old.keeper new.keeper (IsAlong g is)
  did_leaves old new [] same t g s = subst (λ (c : CoordState K). LeavesOnly k.moment k.left_since old.keeper c.keeper (IsAlong g [])) (sym same) (quiet k.moment k.left_since old.keeper (IsAlong g []))
  did_leaves old new (Opens found ∷ is) did t g s = absurd did
  did_leaves old new (Begins event ∷ is) did t g s = absurd did
  did_leaves old new (Acts act o ∷ is) did t g s =
      let rest = did_leaves did.0 new is did.2 t (Then g act o) (did.1.acts.stands g s) in
      joins k.moment k.left_since old.keeper did.0.keeper new.keeper (IsDuringAs g act o) (IsAlong (Then g act o) is) (IsAlong g (Acts act o ∷ is)) (act_leaves old did.0 act o did.1 t g s) rest (λ found in_hand. inl in_hand) (λ found after. inr after)
  did_leaves old new (ChangesMode mode term ∷ is) did t g s = did_leaves old new is did t g s
  did_leaves old new (Drops member cause ∷ is) did t g s = did_leaves old new is did t g s
  did_leaves old new (Sends frame ∷ is) did t g s = did_leaves old new is did t g s
  did_leaves old new (Replies answer ∷ is) did t g s = did_leaves old new is did t g s
  did_leaves old new (Notes note ∷ is) did t g s = did_leaves old new is did t g s
