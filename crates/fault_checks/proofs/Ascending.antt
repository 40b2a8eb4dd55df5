-- Followers whose ids ascend.
use Rattle.std.proofs.Common.{◌≡◌, ℕ, zero, suc, Bool, true, false, cond, not, ◌&&◌, List, [], ◌∷◌, map, drop, refl, sym, subst, ◌∙◌}
use Rattle.std.specs.Prelude.{filter, is_none}
use Rattle.std.proofs.lemmas.Bool.{and_parts, and_from}
use Rattle.std.specs.Cmp.Lexicographic.{same_text}
use Rattle.voting_config.specs.Ids.{Id, has, same, before, is_below, ascends}
use Rattle.voting_config.proofs.Sorted.{is_below-absent}
use Rattle.fault_checks.specs.declared.followers.Follower.{Follower}
use Rattle.cluster_state.specs.declared.state.StateId.{StateId}
use Rattle.fault_checks.specs.Checks.{ticked_at, answered_at, fails, asks}
use Rattle.fault_checks.specs.Followers.{ids_of, watched_or_new, AreApart, answered_from, answered_by, behind_after, stays, stayed, is_late, is_asked, drops_for_checks, drops_for_lag, to_ask, to_drop_for_checks, to_drop_for_lag}

pub is_below-filter : (x : Id) (p : Follower → Bool) (fs : List Follower) → is_below x (ids_of fs) ≡ true → is_below x (ids_of (filter p fs)) ≡ true
is_below-filter x p [] h = refl
is_below-filter x p (f ∷ fs) h =
    let parts : (before x f.id ≡ true) × (is_below x (ids_of fs) ≡ true) = and_parts (before x f.id) (is_below x (ids_of fs)) h in
    let others = is_below-filter x p fs parts.1 in
    elim (p f) as (λ b. is_below x (ids_of (cond b (f ∷ filter p fs) (filter p fs))) ≡ true) [
      | true ↦ and_from _ _ parts.0 others
      | false ↦ others
    ]

-- some of them ascend too
pub ascends-filter : (p : Follower → Bool) (fs : List Follower) → ascends (ids_of fs) ≡ true → ascends (ids_of (filter p fs)) ≡ true
ascends-filter p [] h = refl
ascends-filter p (f ∷ fs) h =
    let parts : (is_below f.id (ids_of fs) ≡ true) × (ascends (ids_of fs) ≡ true) = and_parts (is_below f.id (ids_of fs)) (ascends (ids_of fs)) h in
    let others = ascends-filter p fs parts.1 in
    elim (p f) as (λ b. ascends (ids_of (cond b (f ∷ filter p fs) (filter p fs))) ≡ true) [
      | true ↦ and_from _ _ (is_below-filter f.id p fs parts.0) others
      | false ↦ others
    ]

pub ascends-drop : (k : ℕ) (fs : List Follower) → ascends (ids_of fs) ≡ true → ascends (ids_of (drop k fs)) ≡ true
ascends-drop zero fs h = h
ascends-drop (suc k) [] h = refl
ascends-drop (suc k) (f ∷ fs) h = ascends-drop k fs (and_parts (is_below f.id (ids_of fs)) (ascends (ids_of fs)) h).1

-- who keeps its id ascends as before
pub ids_of-map : (g : Follower → Follower) (fs : List Follower) → ((f : Follower) → (g f).id ≡ f.id) → ids_of (map g fs) ≡ ids_of fs
ids_of-map g [] h = refl
ids_of-map g (f ∷ fs) h = let first = h f in let others = ids_of-map g fs h in cc

watched_or_new-id : (fs : List Follower) (id : Id) (now : ℕ) → (watched_or_new fs id now).id ≡ id
watched_or_new-id [] id now = refl
watched_or_new-id (f ∷ fs) id now =
    elim (same f.id id) as (λ b. same f.id id ≡ b → (cond b f (watched_or_new fs id now)).id ≡ id) [
      | true ↦ λ e. same_text f.id id (sym e)
      | false ↦ λ e. watched_or_new-id fs id now
    ] refl

-- the members are who is watched
pub ids_of-watched : (fs : List Follower) (members : List Id) (now : ℕ) → ids_of (map (λ id. watched_or_new fs id now) members) ≡ members
ids_of-watched fs [] now = refl
ids_of-watched fs (id ∷ ids) now = let first = watched_or_new-id fs id now in let others = ids_of-watched fs ids now in cc

absent-filter : (x : Id) (p : Follower → Bool) (fs : List Follower) → is_below x (ids_of fs) ≡ true → has x (ids_of (filter p fs)) ≡ false
absent-filter x p fs h = is_below-absent x (ids_of (filter p fs)) (is_below-filter x p fs h)

has-other : (b : Bool) (f : Follower) (fs : List Follower) (id : Id) → same f.id id ≡ false → has id (ids_of (cond b (f ∷ fs) fs)) ≡ has id (ids_of fs)
has-other true f fs id e = rw e refl
has-other false f fs id e = refl

-- two tests that never both hold choose different followers
pub apart-filter : (p q : Follower → Bool) (fs : List Follower) → ascends (ids_of fs) ≡ true → ((f : Follower) → p f ≡ true → q f ≡ false) → (id : Id) → has id (ids_of (filter p fs)) ≡ true → has id (ids_of (filter q fs)) ≡ false
apart-filter p q [] up h id here = refl
apart-filter p q (f ∷ fs) up h id here =
    let parts : (is_below f.id (ids_of fs) ≡ true) × (ascends (ids_of fs) ≡ true) = and_parts (is_below f.id (ids_of fs)) (ascends (ids_of fs)) up in
    let others = apart-filter p q fs parts.1 h id in
    elim (same f.id id) as (λ s. same f.id id ≡ s → has id (ids_of (filter q (f ∷ fs))) ≡ false) [
      | true ↦ λ s. first (same_text f.id id (sym s)) parts.0
      | false ↦ λ s. has-other (q f) f (filter q fs) id s ∙ others (sym (has-other (p f) f (filter p fs) id s) ∙ here)
    ] refl
  where
    first : f.id ≡ id → is_below f.id (ids_of fs) ≡ true → has id (ids_of (filter q (f ∷ fs))) ≡ false
    first e low =
        let no_p : has id (ids_of (filter p fs)) ≡ false = subst (λ (i : Id). has i (ids_of (filter p fs)) ≡ false) e (absent-filter f.id p fs low) in
        let no_q : has id (ids_of (filter q fs)) ≡ false = subst (λ (i : Id). has i (ids_of (filter q fs)) ≡ false) e (absent-filter f.id q fs low) in
        elim (p f) as (λ b. p f ≡ b → has id (ids_of (cond b (f ∷ filter p fs) (filter p fs))) ≡ true → has id (ids_of (filter q (f ∷ fs))) ≡ false) [
          | true ↦ λ chosen k. rw (h f chosen) no_q
          | false ↦ λ chosen k. absurd (cc)
        ] refl here

pub answered_from-id : (f : Follower) (from : Id) (finished : StateId) (good : Bool) (applied : StateId) (now : ℕ) → (answered_from f from finished good applied now).id ≡ f.id
answered_from-id f from finished good applied now =
    elim (same f.id from) as (λ b. (cond b (answered_by f finished good applied now) f).id ≡ f.id) [
      | true ↦ elim (is_none f.check.asked) as (λ b. (cond b f (record f { check = answered_at f.check good now; applied = applied; behind = behind_after f.behind applied finished now })).id ≡ f.id) [ true ↦ refl | false ↦ refl ]
      | false ↦ refl
    ]

-- who stays ascends
pub ascends-stayed : (fs : List Follower) (now : ℕ) → ascends (ids_of fs) ≡ true → ascends (ids_of (stayed fs now)) ≡ true
ascends-stayed fs now h =
    rw (ids_of-map (λ (f : Follower). record f { check = ticked_at f.check now }) (filter (λ (f : Follower). stays f now) fs) (λ f. refl))
    (ascends-filter (λ (f : Follower). stays f now) fs h)

-- whom a tick asks, drops for its checks and drops for its lag are apart
first-fails : (a b c : Bool) → ((not a && not b) && c) ≡ true → a ≡ false
first-fails true b c h = cc
first-fails false b c h = refl

second-fails : (a b c : Bool) → ((not a && not b) && c) ≡ true → (not a && b) ≡ false
second-fails true b c h = refl
second-fails false true c h = cc
second-fails false false c h = refl

pub ask-apart-checks : (fs : List Follower) (now : ℕ) → ascends (ids_of fs) ≡ true → AreApart (to_ask fs now) (to_drop_for_checks fs now)
ask-apart-checks fs now h =
    apart-filter (λ (f : Follower). is_asked f now) (λ (f : Follower). drops_for_checks f now) fs h (λ f k. first-fails (fails f.check now) (is_late f.behind now) (asks f.check now) k)

pub ask-apart-lag : (fs : List Follower) (now : ℕ) → ascends (ids_of fs) ≡ true → AreApart (to_ask fs now) (to_drop_for_lag fs now)
ask-apart-lag fs now h =
    apart-filter (λ (f : Follower). is_asked f now) (λ (f : Follower). drops_for_lag f now) fs h (λ f k. second-fails (fails f.check now) (is_late f.behind now) (asks f.check now) k)

pub checks-apart-lag : (fs : List Follower) (now : ℕ) → ascends (ids_of fs) ≡ true → AreApart (to_drop_for_checks fs now) (to_drop_for_lag fs now)
checks-apart-lag fs now h =
    apart-filter (λ (f : Follower). drops_for_checks f now) (λ (f : Follower). drops_for_lag f now) fs h (λ f k. let fails_now : fails f.check now ≡ true = k in rw fails_now refl)
