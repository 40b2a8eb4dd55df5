-- Where all who are watched stay, nobody is dropped.
use Rattle.std.proofs.Common.{◌≡◌, ℕ, Bool, true, false, not, ◌&&◌, List, [], ◌∷◌, map, refl, ap}
use Rattle.std.specs.Prelude.{filter}
use Rattle.std.specs.List.{list_all}
use Rattle.std.proofs.lemmas.Bool.{and_parts}
use Rattle.fault_checks.specs.declared.followers.Follower.{Follower}
use Rattle.fault_checks.specs.Checks.{fails, ticked_at}
use Rattle.fault_checks.specs.Followers.{is_late, stays, stayed, to_drop_for_checks, to_drop_for_lag}

neither : (fails late : Bool) → (not fails && not late) ≡ true → (fails ≡ false) × ((not fails && late) ≡ false)
neither true late h = absurd cc
neither false true h = absurd cc
neither false false h = (refl, refl)

pub nobody_dropped : (fs : List Follower) (now : ℕ) → list_all (λ (f : Follower). stays f now) fs ≡ true → (to_drop_for_checks fs now ≡ []) × (to_drop_for_lag fs now ≡ [])
nobody_dropped [] now h = (refl, refl)
nobody_dropped (f ∷ fs) now h =
    let parts = and_parts (stays f now) (list_all (λ (g : Follower). stays g now) fs) h in
    let here = neither (fails f.check now) (is_late f.behind now) parts.0 in
    let others = nobody_dropped fs now parts.1 in
    (rw here.0 others.0, rw here.1 others.1)

all_kept : (fs : List Follower) (now : ℕ) → list_all (λ (f : Follower). stays f now) fs ≡ true → filter (λ (f : Follower). stays f now) fs ≡ fs
all_kept [] now h = refl
all_kept (f ∷ fs) now h =
    let parts = and_parts (stays f now) (list_all (λ (g : Follower). stays g now) fs) h in
    let others = all_kept fs now parts.1 in
    rw parts.0 (ap (λ (kept : List Follower). f ∷ kept) others)

-- and all of them tick
pub all_stayed : (fs : List Follower) (now : ℕ) → list_all (λ (f : Follower). stays f now) fs ≡ true → stayed fs now ≡ map (λ (f : Follower). record f { check = ticked_at f.check now }) fs
all_stayed fs now h = ap (λ (kept : List Follower). map (λ (f : Follower). record f { check = ticked_at f.check now }) kept) (all_kept fs now h)
