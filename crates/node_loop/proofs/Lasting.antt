-- What a crash may leave once an event is over.
use Rattle.std.proofs.Common.{◌≡◌, ℕ, ◌≤◌, Bool, true, false, ◌||◌, inl, ⊎_elim, Option, Some, List, [], ◌∷◌, arith, refl, sym, ap, subst, ◌∙◌}
use Rattle.cluster_state.specs.declared.state.Kept.{Kept}
use Rattle.state_journal.specs.declared.keeper.Keeper.{Ghosts}
use Rattle.world_model.specs.declared.acts.Act.{Act}
use Rattle.world_model.specs.declared.acts.Act.TheVariants.{Bootstrap, StartJoin, TakeJoin, Value, Publish, Response, Commit, Open}
use Rattle.world_model.specs.declared.acts.Outcome.{Outcome}
use Rattle.world_model.specs.declared.acts.Outcome.TheVariants.{Answered, Disk, Crashed}
use Rattle.world_model.specs.Acts.{NodeHistory, Then}
use Rattle.world_model.specs.Replies.{writes}
use Rattle.world_model.specs.NodeState.{durable_of}
use Rattle.coord_state.specs.declared.coord.CoordState.{CoordState}
use Rattle.coord_state.specs.StandsFor.{StandsFor}
use Rattle.coord_state.specs.Writes.{IsDuring}
use Rattle.coord_state.proofs.Standing.{stands_durable}
use Rattle.coordinator.specs.CoreActs.{CoreDid}
use Rattle.coordinator.proofs.Entering.{did_run}
use Rattle.policy_model.specs.declared.events.Event.{Event}
use Rattle.policy_model.specs.Events.{Item, Opens, Begins, Acts, ChangesMode, Drops, Sends, Replies, Notes, Log, And, added, acts_of}
use Rattle.policy_model.specs.Entries.{Life, Lived, Did, log_of}
use Rattle.policy_model.specs.Follows.{IsStruck, Here, Later, is_fault, has_fault, is_struck}
use Rattle.node_loop.specs.Crashes.{IsRecordOf, LeavesLast}

-- what a crash leaves within a struck act: the record with it counted as not kept or as kept
struck_record : (g : NodeHistory) (act : Act) (fault : Outcome) (found : Option Kept)
    → writes act ≡ true → is_fault fault ≡ true → IsDuring g act found → IsRecordOf true (Then g act fault) found
struck_record g act (Answered reply) found w f h = cc
struck_record g (Bootstrap config) (Disk b) found w f h = h
struck_record g (Bootstrap config) (Crashed b) found w f h = h
struck_record g (StartJoin candidate term) (Disk b) found w f h = h
struck_record g (StartJoin candidate term) (Crashed b) found w f h = h
struck_record g (TakeJoin join) (Disk b) found w f h = cc
struck_record g (TakeJoin join) (Crashed b) found w f h = cc
struck_record g (Value version config value) (Disk b) found w f h = cc
struck_record g (Value version config value) (Crashed b) found w f h = cc
struck_record g (Publish request) (Disk b) found w f h = h
struck_record g (Publish request) (Crashed b) found w f h = h
struck_record g (Response response) (Disk b) found w f h = cc
struck_record g (Response response) (Crashed b) found w f h = cc
struck_record g (Commit commit) (Disk b) found w f h = h
struck_record g (Commit commit) (Crashed b) found w f h = h
struck_record g (Open kept) (Disk b) found w f h = cc
struck_record g (Open kept) (Crashed b) found w f h = cc

neither : (a b : Bool) → (a || b) ≡ false → ((a || false) ≡ false) × (b ≡ false)
neither true b h = cc
neither false b h = (refl, h)

module _ {K : Type 0} (k : Ghosts K)
    (only_kept : (keeper : K) (found : Option Kept) → k.told → k.has_stopped keeper ≡ false → k.left_since keeper (k.moment keeper) found → found ≡ Some (k.record_of keeper)) where
  -- since some moment a crash leaves nothing but the record of these acts, of which the last was struck
  record LeavesStruck (keeper : K) (g : NodeHistory) : Type 0 where
    since : ℕ
    past : since ≤ k.moment keeper
    only : (found : Option Kept) → k.left_since keeper since found → IsRecordOf true g found

  abbrev Stands : CoordState K → NodeHistory → Type 0
  Stands c g = StandsFor k c g

  -- between two calls a crash leaves it
  kept_at : (c : CoordState K) (g : NodeHistory) → k.told → k.has_stopped c.keeper ≡ false → Stands c g
      → (found : Option Kept) → k.left_since c.keeper (k.moment c.keeper) found → found ≡ Some (durable_of g)
  kept_at c g told runs s found left = only_kept c.keeper found told runs left ∙ ap (λ (r : Kept). Some r) (stands_durable k c g s)

  -- since the struck act began
  struck_leaves : (old new : CoordState K) (l : Log) (items left : List Item) → IsStruck items left → has_fault items ≡ false → CoreDid k old new left
      → k.told → k.has_stopped old.keeper ≡ false → Stands old (acts_of l) → LeavesStruck new.keeper (acts_of (added l left))
  struck_leaves old new l items left (Here act sends wins rest fault w f) whole did told runs s =
      let within = did.1.any_moment told (acts_of l) s in
      subst (λ (c : CoordState K). LeavesStruck c.keeper (Then (acts_of l) act fault)) (sym did.2) (record {
        since = k.moment old.keeper;
        past = within.later;
        only = λ found since. struck_record (acts_of l) act fault found w f
            (⊎_elim (λ before. inl (kept_at old (acts_of l) told runs s found before)) (λ during. during) (within.since (k.moment old.keeper) found (omega arith) since));
      })
  struck_leaves old new l items left (Later (Opens kept) rest left' q) whole did told runs s = absurd did
  struck_leaves old new l items left (Later (Begins event) rest left' q) whole did told runs s = absurd did
  struck_leaves old new l items left (Later (Acts act o) rest left' q) whole did told runs s =
      let none = neither (is_fault o) (has_fault rest) whole in
      struck_leaves did.0 new (And l (Acts act o)) rest left' q none.1 did.2 told
      (did_run k old did.0 (Acts act o ∷ []) none.0 (did.0, did.1, refl) ∙ runs) (did.1.acts.stands (acts_of l) s)
  struck_leaves old new l items left (Later (ChangesMode mode term) rest left' q) whole did told runs s =
      struck_leaves old new (And l (ChangesMode mode term)) rest left' q whole did told runs s
  struck_leaves old new l items left (Later (Drops member cause) rest left' q) whole did told runs s =
      struck_leaves old new (And l (Drops member cause)) rest left' q whole did told runs s
  struck_leaves old new l items left (Later (Sends frame) rest left' q) whole did told runs s = struck_leaves old new l rest left' q whole did told runs s
  struck_leaves old new l items left (Later (Replies answer) rest left' q) whole did told runs s = struck_leaves old new l rest left' q whole did told runs s
  struck_leaves old new l items left (Later (Notes note) rest left' q) whole did told runs s =
      struck_leaves old new (And l (Notes note)) rest left' q whole did told runs s

  -- a node that is not struck leaves the record of its acts
  pub leaves_now : (c : CoordState K) (life : Life) → k.told → k.has_stopped c.keeper ≡ false → is_struck life ≡ false → Stands c (acts_of (log_of life))
      → LeavesLast k.moment k.left_since c.keeper life
  leaves_now c life told runs up s = record {
    since = k.moment c.keeper;
    past = omega arith;
    at_once = λ same. refl;
    only = λ found left. subst (λ b. IsRecordOf b (acts_of (log_of life)) found) (sym up) (kept_at c (acts_of (log_of life)) told runs s found left);
  }

  -- and one that is struck the record without its struck act or with it
  pub leaves_struck : (old new : CoordState K) (life : Life) (event : Event) (items left : List Item)
      → IsStruck items left → has_fault items ≡ false → has_fault left ≡ true → CoreDid k old new left
      → k.told → k.has_stopped old.keeper ≡ false → Stands old (acts_of (log_of life)) → LeavesLast k.moment k.left_since new.keeper (Lived life (Did event left))
  leaves_struck old new life event items left struck whole fault did told runs s =
      let l = And (log_of life) (Begins event) in
      let leaves = struck_leaves old new l items left struck whole did told runs s in
      record {
        since = leaves.since;
        past = leaves.past;
        at_once = λ up. absurd (let never : true ≡ false = sym fault ∙ up in cc);
        only = λ found since. subst (λ b. IsRecordOf b (acts_of (added l left)) found) (sym fault) (leaves.only found since);
      }
