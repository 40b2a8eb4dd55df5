-- The device calls of an opening.
use Rattle.std.proofs.Common.{◌≡◌, ℕ, ◌<◌, ◌≤◌, List, [], ◌∷◌, ◌++◌, length, refl, sym, subst, Bool, true, false, inl, inr, append_assoc, Option, Some, None, Ok, Err}
use Rattle.std.specs.Prelude.{nat_le, nat_eq, nat_lt, if◌then◌else◌}
use Rattle.std.proofs.lemmas.Bool.{lt-leb, le-leb, cond-true, cond-false}
use Rattle.zen_disk.specs.DeviceCall.{DeviceCall, Len, Read, Write, Sync}
use Rattle.zen_disk.specs.Runs.{CallsMade, ran_on, ran_failed}
use Rattle.zen_disk.specs.declared.side.Side.{Side}
use Rattle.gate_log.specs.declared.open.SideError.{SideError}
use Rattle.gate_log.specs.declared.open.SideError.TheVariants as error
use Rattle.gate_log.specs.Opening.{DidNotFail, IsSideFault, IsUnread, SideRan, RanUntil, refusal_of}
use Rattle.gate_log.specs.declared.error.LogError.TheVariants.{NotAJournal}
use Rattle.gate_log.specs.declared.why.Why.{Why}
use Rattle.gate_log.specs.declared.why.Why.TheVariants.{Twin}
use Rattle.gate_log.specs.Generations.{chosen_by}
use Rattle.zen_disk.specs.Sides.{Files}
use Rattle.zen_disk.specs.declared.side.Side.TheVariants.{Zero, One}
use Rattle.std.proofs.lemmas.List.{append-nil}
use Rattle.gate_log.specs.Calls.{preparing_calls, reading_calls, opening_calls, both_opening_calls}
use Rattle.gate_log.specs.Journal.{header}

module _ {D : Type 0} (moves : D → DeviceCall → D → Bool → Type 0) (side : Side) (file : List ℕ) where
  abbrev fresh : List DeviceCall
  fresh = Write side 0 (header ++ 0 ∷ []) ∷ Sync side ∷ []

  -- a file of at most nine bytes gets a header
  pub fresh_ran : (old mid new : D) (ok : Bool) → length file ≤ 9 → CallsMade moves (Sync side ∷ Len side ∷ []) old mid true → CallsMade moves fresh mid new ok
      → CallsMade moves (preparing_calls side file) old new ok
  fresh_ran old mid new ok short first more =
      subst (λ (calls : List DeviceCall). CallsMade moves (Sync side ∷ Len side ∷ calls) old new ok)
      (sym (cond-true (nat_le (length file) 9) fresh [] (le-leb (length file) 9 short)))
      (ran_on moves (Sync side ∷ Len side ∷ []) fresh old mid new ok first more)

  one_ran : (mid new : D) (call : DeviceCall) (ok : Bool) → moves mid call new ok → CallsMade moves (call ∷ []) mid new ok
  one_ran mid new call true step = inl (new, step, (refl, refl))
  one_ran mid new call false step = inr (step, refl)

  pub read_ran : (old mid new : D) (ok : Bool) → 9 < length file → CallsMade moves (preparing_calls side file) old mid true
      → moves mid (Read side 0 (length file)) new ok → CallsMade moves (opening_calls side file) old new ok
  read_ran old mid new ok long ran step =
      ran_on moves (preparing_calls side file) (reading_calls side file) old mid new ok ran
      (subst (λ (calls : List DeviceCall). CallsMade moves calls mid new ok)
      (sym (cond-false (nat_le (length file) 9) [] (Read side 0 (length file) ∷ []) (lt-leb (length file) 9 long)))
      (one_ran mid new (Read side 0 (length file)) ok step))

  -- all calls were made, and then the bytes were refused
  pub refused_ran : (old new : D) (e : SideError) → DidNotFail e → CallsMade moves (opening_calls side file) old new true
      → SideRan moves side file old new e
  refused_ran old new (error.Fault fault) calm ran = ran
  refused_ran old new error.Memory calm ran = inr ran
  refused_ran old new error.Failed calm ran = absurd calm

  -- the bytes were not read
  pub unread_ran : (old mid new : D) (len : ℕ) (e : SideError) → 9 < length file → len ≡ length file
      → CallsMade moves (preparing_calls side file) old mid true → IsUnread moves side len mid new e → SideRan moves side file old new e
  unread_ran old mid new len (error.Fault fault) long size ran unread = absurd unread
  unread_ran old mid new len error.Memory long size ran unread =
      inl (subst (λ (d : D). CallsMade moves (Sync side ∷ Len side ∷ []) old d true) (sym unread)
      (subst (λ (calls : List DeviceCall). CallsMade moves (Sync side ∷ Len side ∷ calls) old mid true)
      (cond-false (nat_le (length file) 9) fresh [] (lt-leb (length file) 9 long)) ran))
  unread_ran old mid new len error.Failed long size ran unread =
      read_ran old mid new false long ran (subst (λ (n : ℕ). moves mid (Read side 0 n) new false) size unread)

  pub unread_is_no_fault : (mid new : D) (len : ℕ) (e : SideError) → IsUnread moves side len mid new e → IsSideFault side file e
  unread_is_no_fault mid new len (error.Fault fault) unread = absurd unread
  unread_is_no_fault mid new len error.Memory unread = tt
  unread_is_no_fault mid new len error.Failed unread = tt

-- a refused opening of both sides
module _ {D : Type 0} (moves : D → DeviceCall → D → Bool → Type 0) (files : Files) where
  pub side_zero_ran : (old new : D) (e : SideError) → SideRan moves Zero files.zero old new e → RanUntil moves files old (refusal_of Zero e new)
  side_zero_ran old new (error.Fault fault) ran = ran
  side_zero_ran old new error.Memory (inl ran) = (Sync Zero ∷ Len Zero ∷ [], _, refl, ran)
  side_zero_ran old new error.Memory (inr ran) = (opening_calls Zero files.zero, opening_calls One files.one, refl, ran)
  side_zero_ran old new error.Failed ran = ran_failed moves (opening_calls Zero files.zero) (opening_calls One files.one) old new ran

  pub side_one_ran : (old mid new : D) (e : SideError) → CallsMade moves (opening_calls Zero files.zero) old mid true
      → SideRan moves One files.one mid new e → RanUntil moves files old (refusal_of One e new)
  side_one_ran old mid new (error.Fault fault) first ran =
      ran_on moves (opening_calls Zero files.zero) (opening_calls One files.one) old mid new true first ran
  side_one_ran old mid new error.Memory first (inl ran) = (
    opening_calls Zero files.zero ++ Sync One ∷ Len One ∷ [],
    (if nat_le (length files.one) 9 then Write One 0 (header ++ 0 ∷ []) ∷ Sync One ∷ [] else []) ++ reading_calls One files.one,
    append_assoc (opening_calls Zero files.zero) (Sync One ∷ Len One ∷ []) _,
    ran_on moves (opening_calls Zero files.zero) (Sync One ∷ Len One ∷ []) old mid new true first ran,
  )
  side_one_ran old mid new error.Memory first (inr ran) = (
    both_opening_calls files,
    [],
    append-nil (both_opening_calls files),
    ran_on moves (opening_calls Zero files.zero)
        (opening_calls One files.one) old mid new true first ran,
  )
  side_one_ran old mid new error.Failed first ran =
      ran_on moves (opening_calls Zero files.zero) (opening_calls One files.one) old mid new false first ran

  pub twin_ran : (old new : D) (why : Why) → CallsMade moves (both_opening_calls files) old new true → (why ≡ Twin)
      → RanUntil moves files old (NotAJournal why new)
  twin_ran old new why ran is = subst (λ (w : Why). RanUntil moves files old (NotAJournal w new)) (sym is) ran

-- two sides have no other fault together
pub why_is_twin : (zero one : Option ℕ) (why : Why) → chosen_by zero one ≡ Err why → why ≡ Twin
why_is_twin (Some a) (Some b) why is = by (nat_eq a b) (nat_lt a b) is
  where
    by : (same less : Bool) → (if same then Err Twin else if less then Ok One else Ok Zero) ≡ Err why → why ≡ Twin
    by true less is = sym (let e : Err Twin ≡ Err why = is in cc e)
    by false true is = absurd (cc is)
    by false false is = absurd (cc is)
why_is_twin None (Some b) why is = absurd (cc is)
why_is_twin None None why is = absurd (cc is)
why_is_twin (Some a) None why is = absurd (cc is)
