-- What one more call makes of the followers.
use Rattle.std.proofs.Common.{◌≡◌, ℕ, Bool, true, false, cond, not, ◌||◌, ◌&&◌, Option, None, List, [], ◌∷◌, map, refl, sym, ap, ◌∙◌}
use Rattle.std.specs.Prelude.{filter, is_none}
use Rattle.std.proofs.lemmas.Simd.{map-map}
use Rattle.std.specs.Cmp.Lexicographic.{same_text}
use Rattle.voting_config.specs.Ids.{Id, has, same, without_id}
use Rattle.cluster_state.specs.declared.state.StateId.{StateId}
use Rattle.fault_checks.specs.declared.followers.Behind.{Behind}
use Rattle.fault_checks.specs.declared.followers.Follower.{Follower}
use Rattle.fault_checks.specs.Checks.{unchecked, failed_at, ticked_at}
use Rattle.fault_checks.specs.Followers.{Followers, Calls, Call, Then, Watched, Finished, Answered, Ticked, Disconnected, StandsFor, followers_of, after, members_of, check_of, applied_of, behind_of, finished_of, follower_of, new_follower, watched_or_new, behind_finished, behind_after, answered_from, is_kept, stays, stayed, others_of, no_state}

map-each : {X Y : Type 0} (f g : X → Y) (xs : List X) → ((x : X) → f x ≡ g x) → map f xs ≡ map g xs
map-each f g [] h = refl
map-each f g (x ∷ xs) h = let first = h x in let others = map-each f g xs h in cc

known_or_new : (calls : Calls) (now : ℕ) (id : Id) (ids : List Id) → watched_or_new (map (λ i. follower_of calls i) ids) id now ≡ cond (has id ids) (follower_of calls id) (new_follower id now)
known_or_new calls now id [] = refl
known_or_new calls now id (y ∷ ys) =
    elim (same y id) as (λ b. same y id ≡ b → cond b (follower_of calls y) (watched_or_new (map (λ i. follower_of calls i) ys) id now) ≡ cond (b || has id ys) (follower_of calls id) (new_follower id now)) [
      | true ↦ λ e. ap (λ (i : Id). follower_of calls i) (same_text y id (sym e))
      | false ↦ λ e. known_or_new calls now id ys
    ] refl

watched-each : (calls : Calls) (members : List Id) (now : ℕ) (id : Id) → follower_of (Then calls (Watched members now)) id ≡ watched_or_new (map (λ i. follower_of calls i) (members_of calls)) id now
watched-each calls members now id =
    choice (has id (members_of calls)) ∙ sym (known_or_new calls now id (members_of calls))
  where
    choice : (b : Bool) → (let f : Follower = record { id = id; check = cond b (check_of calls id) (unchecked now); applied = cond b (applied_of calls id) no_state; behind = cond b (behind_of calls id) None } in f) ≡ cond b (follower_of calls id) (new_follower id now)
    choice true = refl
    choice false = refl

-- an answer, by whether it is this follower's and whether a check is outstanding
answered-cases : (mine idle good : Bool) (f : Follower) (applied : StateId) (behind : Option Behind) (now : ℕ) → (let g : Follower = record { id = f.id; check = cond mine (cond idle f.check (cond good (unchecked now) (failed_at f.check now))) f.check; applied = cond (mine && not idle) applied f.applied; behind = cond (mine && not idle) behind f.behind } in g) ≡ cond mine (cond idle f (record f { check = cond idle f.check (cond good (unchecked now) (failed_at f.check now)); applied = applied; behind = behind })) f
answered-cases true true good f applied behind now = refl
answered-cases true false good f applied behind now = refl
answered-cases false idle good f applied behind now = refl

answered-each : (calls : Calls) (from : Id) (good : Bool) (applied : StateId) (now : ℕ) (id : Id) → follower_of (Then calls (Answered from good applied now)) id ≡ answered_from (follower_of calls id) from (finished_of calls) good applied now
answered-each calls from good applied now id =
    answered-cases (same id from) (is_none (check_of calls id).asked) good (follower_of calls id) applied (behind_after (behind_of calls id) applied (finished_of calls) now) now

ticked-each : (calls : Calls) (now : ℕ) (ids : List Id) → map (λ id. follower_of (Then calls (Ticked now)) id) (filter (λ id. is_kept (check_of calls id) (behind_of calls id) now) ids) ≡ stayed (map (λ id. follower_of calls id) ids) now
ticked-each calls now [] = refl
ticked-each calls now (y ∷ ys) =
    let others = ticked-each calls now ys in
    elim (is_kept (check_of calls y) (behind_of calls y) now) as (λ b. map (λ id. follower_of (Then calls (Ticked now)) id) (cond b (y ∷ filter (λ id. is_kept (check_of calls id) (behind_of calls id) now) ys) (filter (λ id. is_kept (check_of calls id) (behind_of calls id) now) ys)) ≡ map (λ (f : Follower). record f { check = ticked_at f.check now }) (cond b (follower_of calls y ∷ filter (λ (f : Follower). stays f now) (map (λ id. follower_of calls id) ys)) (filter (λ (f : Follower). stays f now) (map (λ id. follower_of calls id) ys)))) [
      | true ↦ ap (λ t. follower_of (Then calls (Ticked now)) y ∷ t) others
      | false ↦ others
    ]

others-each : (calls : Calls) (id : Id) (ids : List Id) → map (λ i. follower_of (Then calls (Disconnected id)) i) (without_id id ids) ≡ others_of (map (λ i. follower_of calls i) ids) id
others-each calls id [] = refl
others-each calls id (y ∷ ys) =
    let others = others-each calls id ys in
    elim (same y id) as (λ b. map (λ i. follower_of (Then calls (Disconnected id)) i) (cond (not b) (y ∷ without_id id ys) (without_id id ys)) ≡ cond (not b) (follower_of calls y ∷ others_of (map (λ i. follower_of calls i) ys) id) (others_of (map (λ i. follower_of calls i) ys) id)) [
      | true ↦ others
      | false ↦ ap (λ t. follower_of calls y ∷ t) others
    ]

-- the look-backs over one more call are those of before, changed by this call
pub followers_of-Then : (calls : Calls) (call : Call) → followers_of (Then calls call) ≡ after (followers_of calls) call
followers_of-Then calls (Watched members now) =
    ap (λ (fs : List Follower). record (followers_of calls) { watched = fs }) (map-each _ _ members (watched-each calls members now))
followers_of-Then calls (Finished state now) =
    ap (λ (fs : List Follower). (let new : Followers = record { finished = state; watched = fs } in new))
    (sym (map-map (λ (f : Follower). record f { behind = behind_finished f.behind f.applied (finished_of calls) state now }) (λ id. follower_of calls id) (members_of calls)))
followers_of-Then calls (Answered from good applied now) =
    ap (λ (fs : List Follower). record (followers_of calls) { watched = fs })
    (map-each _ _ (members_of calls) (answered-each calls from good applied now)
    ∙ sym (map-map (λ (f : Follower). answered_from f from (finished_of calls) good applied now) (λ id. follower_of calls id) (members_of calls)))
followers_of-Then calls (Ticked now) =
    ap (λ (fs : List Follower). record (followers_of calls) { watched = fs }) (ticked-each calls now (members_of calls))
followers_of-Then calls (Disconnected id) =
    ap (λ (fs : List Follower). record (followers_of calls) { watched = fs }) (others-each calls id (members_of calls))

-- what stands for the calls so far stands for these with one more
pub stands-Then : (old new : Followers) (call : Call) → new ≡ after old call → (calls : Calls) → StandsFor old calls → StandsFor new (Then calls call)
stands-Then old new call now calls stands = rw (now, stands) (sym (followers_of-Then calls call))
