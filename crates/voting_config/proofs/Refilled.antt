-- Each element of a slice is changed in turn, and the slice is put back.
use Rattle.std.proofs.Common.{◌≡◌, ℕ, ◌+◌, ◌<◌, List, [], ◌∷◌, ◌++◌, length, map, take, drop, ap, sym, ◌∙◌, append_assoc, get_or, arith}
use Rattle.std.specs.List.{refill}
use Rattle.std.specs.Prelude.{slice_set}
use Rattle.std.proofs.lemmas.List.{take_at, length-map, take_more_set, drop-set-lt, drop_more}

refill-same : {X : Type 0} (xs ws : List X) → length ws ≡ length xs → refill (length xs) xs ws ≡ ws
refill-same xs ws h = take_at ws (drop (length ws) xs) (length xs) h

pub refill-map : {X : Type 0} (f : X → X) (xs lent ws : List X) → lent ≡ xs → ws ≡ map f lent → refill (length xs) xs ws ≡ map f xs
refill-map f xs lent ws h k =
    let all : ws ≡ map f xs = k ∙ ap (λ l. map f l) h in
    rw all (refill-same xs (map f xs) (length-map xs f))

-- one element more is changed
pub map-step : {X : Type 0} (f : X → X) (whole xs : List X) (i : ℕ) (d y : X) → i < length xs → y ≡ f (get_or xs i d) → whole ≡ take i xs ++ map f (drop i xs) → whole ≡ take (i + 1) (slice_set xs i y) ++ map f (drop (i + 1) (slice_set xs i y))
map-step f whole xs i d y within made so_far =
    let later : i < i + 1 = omega arith in
    rw (take_more_set xs i y within, drop-set-lt (i + 1) xs i y later, made)
    (so_far ∙ ap (λ l. take i xs ++ map f l) (drop_more xs i d within) ∙ sym (append_assoc (take i xs) (f (get_or xs i d) ∷ []) (map f (drop (i + 1) xs))))
