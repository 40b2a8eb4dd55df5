-- What a stop leaves of two files, each of which was written at most once since its last sync.
use Rattle.std.proofs.Common.{◌≡◌, ℕ, ◌+◌, ◌≤◌, max, Bool, true, false, Option, None, Some, List, [], ◌∷◌, length, refl, sym, ◌∙◌, ap, subst, arith}
use Rattle.std.specs.Prelude.{replicate}
use Rattle.std.proofs.lemmas.List.{length-replicate}
use Rattle.zen_disk.specs.Armed.{stop_due, is_fault_due}
use Rattle.zen_disk.specs.DeviceCall.{DeviceCall, Len, Read, Write, Sync}
use Rattle.zen_disk.specs.Disk.{written, Torn}
use Rattle.zen_disk.specs.FileState.{FileState, after, after_sync, after_write, both_left_by, left_by, settled}
use Rattle.zen_disk.specs.Sides.{Sides, Files, on, other}
use Rattle.zen_disk.specs.declared.side.Side.{Side}
use Rattle.zen_disk.specs.declared.side.Side.TheVariants.{Zero, One}
use Rattle.zen_disk.specs.declared.orders.Way.{Way}
use Rattle.zen_disk.specs.declared.orders.Way.TheVariants.{Lost, Kept, Torn as TornTo}
use Rattle.zen_disk.proofs.Files.{torn_refl, torn_written, length-written}
use Rattle.replay_node.specs.NodeDisk.{NodeDisk, CallsEnd, Done, Failed, CrashedIn, Called, bytes_read, call_by, call_once, calls_made, go_on, placed}

-- what was done on a file since its last sync: nothing, or one write
pub data Since : Type 0 where
  Nothing : (bytes : List ℕ) → Since
  OneWrite : (old : List ℕ) (at : ℕ) (bytes : List ℕ) → at ≤ length old → Since

abbrev pub state_since : Since → FileState
state_since (Nothing bytes) = settled bytes
state_since (OneWrite old at bytes inside) = after_write at bytes (settled old)

-- a stop may leave this of it
abbrev pub MayBe : Since → List ℕ → Type 0
MayBe (Nothing bytes) c = c ≡ bytes
MayBe (OneWrite old at bytes inside) c = Torn at (length bytes) old c

abbrev pub states_since : Sides Since → Sides FileState
states_since since = record { zero = state_since since.zero; one = state_since since.one }

-- whatever stops follow, what is read then has P
pub record Leaves (files : Sides FileState) (P : Files → Type 0) : Type 0 where
  pub since : Sides Since
  pub is : files ≡ states_since since
  pub left : (c : Files) → MayBe since.zero c.zero → MayBe since.one c.one → P c

pub may_read : (since : Since) → MayBe since (state_since since).read
may_read (Nothing bytes) = refl
may_read (OneWrite old at bytes inside) = torn_written old at bytes inside

pub leaves_read : (files : Sides FileState) (P : Files → Type 0) → Leaves files P → P (bytes_read files)
leaves_read files P l =
    subst (λ (f : Sides FileState). P (bytes_read f)) (sym l.is)
    (l.left (bytes_read (states_since l.since)) (may_read l.since.zero) (may_read l.since.one))

-- a write over the same range again
over : (old : List ℕ) (at : ℕ) (bytes again : List ℕ) → at ≤ length old → length again ≡ length bytes
    → Torn at (length bytes) old (written (written old at bytes) at again)
over old at bytes again inside same =
    let first = torn_written old at bytes inside in
    let size : length (written old at bytes) ≡ max (length old) (at + length bytes) = length-written old at bytes inside in
    let in_new : at ≤ length (written old at bytes) = omega (arith, size) in
    let then =
    subst (λ (n : ℕ). Torn at n (written old at bytes) (written (written old at bytes) at again)) same
    (torn_written (written old at bytes) at again in_new) in
    let size_then : length (written (written old at bytes) at again) ≡ max (length (written old at bytes)) (at + length again) =
    length-written (written old at bytes) at again in_new in
    record {
      before = then.before ∙ first.before;
      after = then.after ∙ first.after;
      no_shorter = omega (arith, first.no_shorter, then.no_shorter);
      no_longer = omega (arith, size, size_then, same);
    }

-- a file after a stop
abbrev crashed : Way → Since → Since
crashed Kept since = since
crashed Lost (Nothing bytes) = Nothing bytes
crashed Lost (OneWrite old at bytes inside) = Nothing old
crashed (TornTo x) (Nothing bytes) = Nothing bytes
crashed (TornTo x) (OneWrite old at bytes inside) = Nothing (written (written old at bytes) at (replicate (length bytes) x))

crashed_state : (way : Way) (since : Since) → left_by way (state_since since) ≡ state_since (crashed way since)
crashed_state Kept since = refl
crashed_state Lost (Nothing bytes) = refl
crashed_state Lost (OneWrite old at bytes inside) = refl
crashed_state (TornTo x) (Nothing bytes) = refl
crashed_state (TornTo x) (OneWrite old at bytes inside) = refl

crashed_may : (way : Way) (since : Since) (c : List ℕ) → MayBe (crashed way since) c → MayBe since c
crashed_may Kept since c may = may
crashed_may Lost (Nothing bytes) c may = may
crashed_may Lost (OneWrite old at bytes inside) c may =
    subst (λ (l : List ℕ). Torn at (length bytes) old l) (sym may) (torn_refl at (length bytes) old)
crashed_may (TornTo x) (Nothing bytes) c may = may
crashed_may (TornTo x) (OneWrite old at bytes inside) c may =
    subst (λ (l : List ℕ). Torn at (length bytes) old l) (sym may)
    (over old at bytes (replicate (length bytes) x) inside (length-replicate (length bytes) x))

pub leaves_stop : (way : Way) (files : Sides FileState) (P : Files → Type 0) → Leaves files P → Leaves (both_left_by way files) P
leaves_stop way files P l = record {
  since = record { zero = crashed way l.since.zero; one = crashed way l.since.one };
  is = ap (both_left_by way) l.is ∙ (λ i. record { zero = crashed_state way l.since.zero i; one = crashed_state way l.since.one i });
  left = λ c zero one. l.left c (crashed_may way l.since.zero c.zero zero) (crashed_may way l.since.one c.one one);
}

-- ---- one side and the other

-- this on a side, and that on the other
abbrev pub pair : {A : Type 0} → Side → A → A → Sides A
pair Zero here there = record { zero = here; one = there }
pair One here there = record { zero = there; one = here }

pub pair_here : {A : Type 0} (side : Side) (here there : A) → on side (pair side here there) ≡ here
pair_here Zero here there = refl
pair_here One here there = refl

pub pair_there : {A : Type 0} (side : Side) (here there : A) → on (other side) (pair side here there) ≡ there
pair_there Zero here there = refl
pair_there One here there = refl

-- whatever a stop leaves of the side and of the other has P
abbrev pub Holds : Side → Since → Since → (Files → Type 0) → Type 0
Holds side here there P = (c d : List ℕ) → MayBe here c → MayBe there d → P (pair side c d)

pub leaves_pair : (side : Side) (here there : Since) (P : Files → Type 0) → Holds side here there P
    → Leaves (pair side (state_since here) (state_since there)) P
leaves_pair Zero here there P holds =
    record { since = record { zero = here; one = there }; is = refl; left = λ c zero one. holds c.zero c.one zero one }
leaves_pair One here there P holds =
    record { since = record { zero = there; one = here }; is = refl; left = λ c zero one. holds c.one c.zero one zero }

write_pair : (side : Side) (here there : FileState) (at : ℕ) (bytes : List ℕ)
    → after (pair side here there) (Write side at bytes) ≡ pair side (after_write at bytes here) there
write_pair Zero here there at bytes = refl
write_pair One here there at bytes = refl

sync_pair : (side : Side) (here there : FileState) → after (pair side here there) (Sync side) ≡ pair side (after_sync here) there
sync_pair Zero here there = refl
sync_pair One here there = refl

-- ---- device calls

-- how calls ended, and what holds of the files then
abbrev pub EndsIn : CallsEnd → Sides FileState → (done cut : Sides FileState → Type 0) → Type 0
EndsIn Done files D C = D files
EndsIn Failed files D C = C files
EndsIn (CrashedIn way) files D C = C files

abbrev pub Ends : Called → (done cut : Sides FileState → Type 0) → Type 0
Ends called D C = EndsIn called.ended called.disk.files D C

one_call : (stop : Option Way) (fault : Bool) (disk : NodeDisk) (call : DeviceCall) (D C : Sides FileState → Type 0) → C disk.files
    → D (after disk.files call) → ((way : Way) → C (both_left_by way (placed disk.files call)))
    → Ends (call_by stop fault disk call) D C
one_call (Some way) fault disk call D C failed done crashed = crashed way
one_call None true disk call D C failed done crashed = failed
one_call None false disk call D C failed done crashed = done

then_calls : (end : CallsEnd) (disk : NodeDisk) (more : NodeDisk → Called) (M D C : Sides FileState → Type 0) → EndsIn end disk.files M C
    → (M disk.files → Ends (more disk) D C) → Ends (go_on end disk more) D C
then_calls Done disk more M D C here then = then here
then_calls Failed disk more M D C here then = here
then_calls (CrashedIn way) disk more M D C here then = here

-- one call and then others: what is left has P all the time
call_leaves : (disk : NodeDisk) (call : DeviceCall) (calls : List DeviceCall) (was next : Sides FileState) (P : Files → Type 0)
    (D : Sides FileState → Type 0) → disk.files ≡ was → after was call ≡ next → Leaves was P → Leaves (placed was call) P
    → ((d : NodeDisk) → d.files ≡ next → Ends (calls_made d calls) D (λ (f : Sides FileState). Leaves f P))
    → Ends (calls_made disk (call ∷ calls)) D (λ (f : Sides FileState). Leaves f P)
call_leaves disk call calls was next P D is done now within then =
    let C : Sides FileState → Type 0 = λ f. Leaves f P in
    let M : Sides FileState → Type 0 = λ f. f ≡ next in
    let here : Ends (call_once disk call) M C = one_call (stop_due disk.armed.stop) (is_fault_due disk.armed.fault) disk call M C
    (subst C (sym is) now)
    (ap (λ (f : Sides FileState). after f call) is ∙ done)
    (λ way. leaves_stop way (placed disk.files call) P (subst (λ (f : Sides FileState). Leaves (placed f call) P) (sym is) within)) in
    then_calls (call_once disk call).ended (call_once disk call).disk (λ (d : NodeDisk). calls_made d calls) M D C here
    (λ files. then (call_once disk call).disk files)

pub no_calls : (disk : NodeDisk) (D C : Sides FileState → Type 0) → D disk.files → Ends (calls_made disk []) D C
no_calls disk D C done = done

-- made on these files, these calls end in D, and whatever strikes them, what is left has P
abbrev pub Rest : (P : Files → Type 0) (D : Sides FileState → Type 0) → List DeviceCall → Sides FileState → Type 0
Rest P D calls files = (d : NodeDisk) → d.files ≡ files → Ends (calls_made d calls) D (λ (f : Sides FileState). Leaves f P)

-- the calls on one side, while the other stays

module _ (side : Side) (there : Since) (P : Files → Type 0) (D : Sides FileState → Type 0) where
  pub syncs : (here : Since) (calls : List DeviceCall) → Holds side here there P
      → Rest P D calls (pair side (settled (state_since here).read) (state_since there))
      → Rest P D (Sync side ∷ calls) (pair side (state_since here) (state_since there))
  syncs here calls holds then disk files =
      let now = leaves_pair side here there P holds in
      call_leaves disk (Sync side) calls (pair side (state_since here) (state_since there))
      (pair side (settled (state_since here).read) (state_since there)) P D files
      (sync_pair side (state_since here) (state_since there)) now now then

  pub counts : (here : Since) (calls : List DeviceCall) → Holds side here there P
      → Rest P D calls (pair side (state_since here) (state_since there))
      → Rest P D (Len side ∷ calls) (pair side (state_since here) (state_since there))
  counts here calls holds then disk files =
      let now = leaves_pair side here there P holds in
      let same = pair side (state_since here) (state_since there) in
      call_leaves disk (Len side) calls same same P D files refl now now then

  pub reads : (here : Since) (at n : ℕ) (calls : List DeviceCall) → Holds side here there P
      → Rest P D calls (pair side (state_since here) (state_since there))
      → Rest P D (Read side at n ∷ calls) (pair side (state_since here) (state_since there))
  reads here at n calls holds then disk files =
      let now = leaves_pair side here there P holds in
      let same = pair side (state_since here) (state_since there) in
      call_leaves disk (Read side at n) calls same same P D files refl now now then

  -- a write and its sync
  pub writes : (old : List ℕ) (at : ℕ) (bytes : List ℕ) (inside : at ≤ length old) (calls : List DeviceCall)
      → Holds side (OneWrite old at bytes inside) there P
      → Rest P D calls (pair side (settled (written old at bytes)) (state_since there))
      → Rest P D (Write side at bytes ∷ Sync side ∷ calls) (pair side (settled old) (state_since there))
  writes old at bytes inside calls holds then disk files =
      let was = pair side (settled old) (state_since there) in
      let next = pair side (after_write at bytes (settled old)) (state_since there) in
      let before : Holds side (Nothing old) there P =
      λ c d here other. holds c d (subst (λ (l : List ℕ). Torn at (length bytes) old l) (sym here) (torn_refl at (length bytes) old)) other in
      let place = write_pair side (settled old) (state_since there) at bytes in
      let within : Leaves (placed was (Write side at bytes)) P =
      subst (λ (f : Sides FileState). Leaves f P) (sym place) (leaves_pair side (OneWrite old at bytes inside) there P holds) in
      call_leaves disk (Write side at bytes) (Sync side ∷ calls) was next P D files place (leaves_pair side (Nothing old) there P before) within
      (syncs (OneWrite old at bytes inside) calls holds then)
