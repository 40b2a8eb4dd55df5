-- Two quorums, by whether the first is one.
use Rattle.std.proofs.Common.{◌≡◌, ◌∙◌, ◌&&◌, Bool, true, false, List, sym, ap}
use Rattle.voting_config.specs.Ids.{Id, is_quorum_of}

-- the second decides where the first is one
pub both_are : (C P L C2 P2 L2 : List Id) (x y : Bool) → C2 ≡ C → P2 ≡ P → L2 ≡ L → x ≡ is_quorum_of C2 L2 → x ≡ true → y ≡ is_quorum_of P2 L2
    → y ≡ (is_quorum_of C L && is_quorum_of P L)
both_are C P L C2 P2 L2 x y c p l first is_one second =
    let h : true ≡ is_quorum_of C L = sym is_one ∙ first ∙ ap (λ (z : List Id). is_quorum_of z L2) c ∙ ap (λ (z : List Id). is_quorum_of C z) l in
    second ∙ ap (λ (z : List Id). is_quorum_of z L2) p ∙ ap (λ (z : List Id). is_quorum_of P z) l
    ∙ ap (λ (b : Bool). b && is_quorum_of P L) h

pub first_is_none : (C P L C2 L2 : List Id) (x : Bool) → C2 ≡ C → L2 ≡ L → x ≡ is_quorum_of C2 L2 → x ≡ false
    → x ≡ (is_quorum_of C L && is_quorum_of P L)
first_is_none C P L C2 L2 x c l first is_none =
    let h : false ≡ is_quorum_of C L = sym is_none ∙ first ∙ ap (λ (z : List Id). is_quorum_of z L2) c ∙ ap (λ (z : List Id). is_quorum_of C z) l in
    is_none ∙ ap (λ (b : Bool). b && is_quorum_of P L) h
