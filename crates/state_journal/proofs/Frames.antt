-- Bytes that are laid around a state are frames of bodies.
use Rattle.std.proofs.Common.{◌≡◌, ℕ, ◌+◌, List, [], ◌∷◌, ◌++◌, length, get_or, sym, ap, ◌∙◌, arith, length-append, append_assoc}
use Rattle.std.specs.Int.{w32, w64, to_be_bytes}
use Rattle.sha2.specs.Sha256.{sha256}
use Rattle.std.proofs.lemmas.List.{append-nil}
use Rattle.voting_config.specs.Ids.{Id, most_ids}
use Rattle.cluster_state.specs.Field.{eight_bytes}
use Rattle.cluster_state.specs.Fields.{ids}
use Rattle.gate_log.specs.Journal.{framed, sized}
use Rattle.state_journal.specs.Bodies.{guarded}
use Rattle.state_journal.specs.Drafts.{generation_prefix}
use Rattle.state_journal.proofs.Spelled.{length-body}

-- the parts of a frame, grouped as they are laid and as they are spelled
regroup : (n before state after digest gate : List ℕ) → (n ++ before) ++ (state ++ (after ++ (digest ++ gate))) ≡ (n ++ ((before ++ (state ++ after)) ++ digest)) ++ gate
regroup n before state after digest gate =
    append_assoc n before (state ++ (after ++ (digest ++ gate)))
    ∙ ap (λ (l : List ℕ). n ++ l)
    (ap (λ (l : List ℕ). before ++ l) (sym (append_assoc state after (digest ++ gate))) ∙ sym (append_assoc before (state ++ after) (digest ++ gate)) ∙ sym (append_assoc (before ++ (state ++ after)) digest gate))
    ∙ sym (append_assoc n ((before ++ (state ++ after)) ++ digest) gate)

pub laid_frame : (before state after digest head tail frame : List ℕ) (size : ℕ) → digest ≡ sha256 (before ++ (state ++ after)) → size ≡ length before + length state + length after + 32
    → head ≡ to_be_bytes w32 size ++ before → tail ≡ after ++ (digest ++ 0 ∷ []) → frame ≡ head ++ (state ++ tail) → frame ≡ framed (guarded (before ++ (state ++ after)))
unfolding framed sized guarded
laid_frame before state after digest head tail frame size digest_is size_is head_is tail_is is =
    let prefix = before ++ (state ++ after) in
    let count : size ≡ length (guarded prefix) = omega (arith, size_is, length-body prefix, length-append before (state ++ after), length-append state after) in
    is ∙ (λ i. head_is i ++ (state ++ tail_is i))
    ∙ (λ i. (to_be_bytes w32 (count i) ++ before) ++ (state ++ (after ++ (digest_is i ++ 0 ∷ []))))
    ∙ regroup (to_be_bytes w32 (length (guarded prefix))) before state after (sha256 prefix) (0 ∷ [])

abbrev at8 : List ℕ → List ℕ → List ℕ
at8 n rest = get_or n 0 0 ∷ get_or n 1 0 ∷ get_or n 2 0 ∷ get_or n 3 0 ∷ get_or n 4 0 ∷ get_or n 5 0 ∷ get_or n 6 0 ∷ get_or n 7 0 ∷ rest

pub generation_frame : (e t state after frame : List ℕ) (epoch term : ℕ) (committed : List Id) → e ≡ to_be_bytes w64 epoch → t ≡ to_be_bytes w64 term → after ≡ (ids most_ids).spelling committed
    → frame ≡ framed (guarded (132 ∷ at8 e (at8 t (state ++ after)))) → frame ≡ framed (guarded (generation_prefix epoch term state committed))
unfolding eight_bytes
generation_frame e t state after frame epoch term committed e_is t_is after_is is = is ∙ (λ i. framed (guarded (132 ∷ at8 (e_is i) (at8 (t_is i) (state ++ after_is i)))))

-- the state alone behind its tag
pub accepted_prefix : (state frame : List ℕ) → frame ≡ framed (guarded (130 ∷ (state ++ []))) → frame ≡ framed (guarded (130 ∷ state))
accepted_prefix state frame is = is ∙ ap (λ (l : List ℕ). framed (guarded (130 ∷ l))) (append-nil state)
