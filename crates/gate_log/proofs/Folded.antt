-- What is found after an append or a renewal, perhaps one that a crash cut short.
use Rattle.std.proofs.Common.{◌≡◌, ℕ, List, [], ◌∷◌, ◌++◌, refl, ◌∙◌, ap, inl, inr, Ok, Err}
use Rattle.std.specs.Prelude.{Result, ◌⊎◌}
use Rattle.zen_disk.specs.Sides.{Sides, Files, on, other, put}
use Rattle.zen_disk.specs.declared.side.Side.{Side}
use Rattle.zen_disk.specs.declared.side.Side.TheVariants.{Zero, One}
use Rattle.gate_log.specs.Folded.{both_read, read_on, found_by}
use Rattle.gate_log.specs.Generations.{Generations, generations_of, in_use, with_bodies, appended, renewed, IsAppended, IsRenewed}

module _ {R W : Type 0} where
  -- where something is found both sides are read
  pub record AreRead (side : Side) (zero one : Result R W) (found : R) : Type 0 where
    pub both : Sides R
    pub first : zero ≡ Ok both.zero
    pub second : one ≡ Ok both.one
    pub is : on side both ≡ found

  pub are_read : (side : Side) (zero one : Result R W) (found : R) → read_on side (both_read zero one) ≡ Ok found → AreRead side zero one found
  are_read side (Ok r) (Ok s) found is = record { both = record { zero = r; one = s }; first = refl; second = refl; is = cc is }
  are_read side (Ok r) (Err why) found is = absurd (cc is)
  are_read side (Err why) one found is = absurd (cc is)

  module _ (read : List (List ℕ) → Result R W) where
    by_sides : (side : Side) (zero one : List (List ℕ)) (r s : R) → read zero ≡ Ok r → read one ≡ Ok s
        → read_on side (both_read (read zero) (read one)) ≡ Ok (on side (record { zero = r; one = s }))
    by_sides side zero one r s first second = λ i. read_on side (both_read (first i) (second i))

    -- other bodies in use
    pub used : (side : Side) (b : Sides (List (List ℕ))) (bodies : List (List ℕ)) (before after : R)
        → read_on side (both_read (read b.zero) (read b.one)) ≡ Ok before → read bodies ≡ Ok after
        → read_on side (both_read (read (put side bodies b).zero) (read (put side bodies b).one)) ≡ Ok after
    used Zero b bodies before after was now =
        let both = are_read Zero (read b.zero) (read b.one) before was in by_sides Zero bodies b.one after both.both.one now both.second
    used One b bodies before after was now =
        let both = are_read One (read b.zero) (read b.one) before was in by_sides One b.zero bodies both.both.zero after both.first now

    -- other bodies on the side that is not
    pub unused : (side : Side) (b : Sides (List (List ℕ))) (bodies : List (List ℕ)) (before other_now : R)
        → read_on side (both_read (read b.zero) (read b.one)) ≡ Ok before → read bodies ≡ Ok other_now
        → read_on side (both_read (read (put (other side) bodies b).zero) (read (put (other side) bodies b).one)) ≡ Ok before
    unused Zero b bodies before other_now was now =
        let both = are_read Zero (read b.zero) (read b.one) before was in by_sides Zero b.zero bodies both.both.zero other_now both.first now
        ∙ ap Ok both.is
    unused One b bodies before other_now was now =
        let both = are_read One (read b.zero) (read b.one) before was in by_sides One bodies b.one other_now both.both.one now both.second
        ∙ ap Ok both.is

    -- the other side comes into use
    pub switched : (side : Side) (b : Sides (List (List ℕ))) (bodies : List (List ℕ)) (before after : R)
        → read_on side (both_read (read b.zero) (read b.one)) ≡ Ok before → read bodies ≡ Ok after
        → read_on (other side) (both_read (read (put (other side) bodies b).zero) (read (put (other side) bodies b).one)) ≡ Ok after
    switched Zero b bodies before after was now =
        let both = are_read Zero (read b.zero) (read b.one) before was in by_sides One b.zero bodies both.both.zero after both.first now
    switched One b bodies before after was now =
        let both = are_read One (read b.zero) (read b.one) before was in by_sides Zero bodies b.one after both.both.one now both.second

    -- an append leaves the value from before it, or that of one body more
    pub append_finds : (g : Generations) (body : List ℕ) (before after : R) → found_by read g ≡ Ok before → read (in_use g ++ body ∷ []) ≡ Ok after
        → (c : Files) → IsAppended g body c
        → ((h : Generations) × (generations_of c ≡ Ok h) × ((found_by read h ≡ Ok before) ⊎ (found_by read h ≡ Ok after)))
    append_finds g body before after was now c (inl old) = (g, old, inl was)
    append_finds g body before after was now c (inr new) =
        (appended g body, new, inr (used g.side g.bodies (in_use g ++ body ∷ []) before after was now))

    -- a renewal leaves the value from before it, or that of its body
    pub renewal_finds : (g : Generations) (body : List ℕ) (before after nothing : R) → found_by read g ≡ Ok before → read [] ≡ Ok nothing
        → read (body ∷ []) ≡ Ok after → (c : Files) → IsRenewed g body c
        → ((h : Generations) × (generations_of c ≡ Ok h) × ((found_by read h ≡ Ok before) ⊎ (found_by read h ≡ Ok after)))
    renewal_finds g body before after nothing was none now c (inl old) = (g, old, inl was)
    renewal_finds g body before after nothing was none now c (inr (inl cleared)) =
        (with_bodies (other g.side) [] g, cleared, inl (unused g.side g.bodies [] before nothing was none))
    renewal_finds g body before after nothing was none now c (inr (inr new)) =
        (renewed g body, new, inr (switched g.side g.bodies (body ∷ []) before after was now))
