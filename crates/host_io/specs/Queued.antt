-- For the contracts inside: what waits to be written.
use Rattle.std.specs.Prelude.{◌≡◌, ℕ, Bool, true, false, List, ◌++◌, flat_map}

-- how many bytes wait at most: a frame of the greatest length
abbrev pub most_waiting : ℕ
most_waiting = 8388612

-- what is new waits after what waited, or not at all
abbrev pub Queued : {A : Type 0} → Bool → List A → List A → List A → Type 0
Queued true was now more = now ≡ was ++ more
Queued false was now more = now ≡ was

-- the bytes of frames, one after the other
abbrev pub bytes_of : List (List ℕ) → List ℕ
bytes_of frames = flat_map (λ frame. frame) frames
