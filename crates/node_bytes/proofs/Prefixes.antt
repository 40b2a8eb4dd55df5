-- The first bytes of a frame say who sends it.
use Rattle.std.proofs.Common.{◌≡◌, ℕ, suc, ◌+◌, ◌-◌, List, ◌∷◌, ◌++◌, length, take, Some, refl, sym, ap, ◌∙◌, arith, append_assoc, length-append}
use Rattle.std.proofs.Math.Seq.{take-append-add}
use Rattle.voting_config.specs.Ids.{Id}
use Rattle.cluster_state.specs.Field.{byte_at}
use Rattle.cluster_state.specs.Fields.{id}
use Rattle.cluster_state.proofs.StateLaws.{id_law}
use Rattle.wire_frames.specs.declared.frame.Kind.{Kind}
use Rattle.wire_frames.specs.declared.frame.Frame.{Frame}
use Rattle.wire_frames.specs.Kinds.{code, kind_of, kind_of_message}
use Rattle.wire_frames.specs.Frames.{four_bytes, SpellsFrame}
use Rattle.wire_frames.proofs.FrameLaws.{kind_of_code}
use Rattle.wire_frames.proofs.Spelled.{length-four, rest-four}
use Rattle.node_bytes.specs.Senders.{id_read, sender_behind, sender_in_body, sender_of}

-- after a length, the byte of a kind and an id, whatever comes
named : (size : ℕ) (k : Kind) (from : Id) (rest : List ℕ) → id.Fits from → sender_of (four_bytes size ++ (code k ∷ (id.spelling from ++ rest))) ≡ Some from
named size k from rest fits =
    let body : List ℕ = code k ∷ (id.spelling from ++ rest) in
    ap (λ l. sender_in_body (byte_at l)) (rest-four size body)
    ∙ ap (λ o. sender_behind o (id.spelling from ++ rest)) (kind_of_code k)
    ∙ ap id_read (id_law.again from rest fits)

-- the length, the kind and the id are 38 bytes at most
prefix_kept : (size : ℕ) (k : Kind) (from : Id) (rest : List ℕ) → id.Fits from → (kept : List ℕ) × (take 38 (four_bytes size ++ (code k ∷ (id.spelling from ++ rest))) ≡ four_bytes size ++ (code k ∷ (id.spelling from ++ kept)))
prefix_kept size k from rest fits =
    let named_id : List ℕ = code k ∷ id.spelling from in
    let prefix : List ℕ = four_bytes size ++ named_id in
    let room : ℕ = 38 - length prefix in
    let named_long : length named_id ≡ suc (suc (length from)) = refl in
    let long : length prefix ≡ 4 + length named_id = length-append (four_bytes size) named_id ∙ ap (λ n. n + length named_id) (length-four size) in
    let whole : (l : List ℕ) → prefix ++ l ≡ four_bytes size ++ (code k ∷ (id.spelling from ++ l)) = λ l. append_assoc (four_bytes size) named_id l in
    let fit : length prefix + room ≡ 38 = omega (arith, long, named_long, fits.1) in
    (take room rest, ap (take 38) (sym (whole rest)) ∙ ap (λ n. take n (prefix ++ rest)) (sym fit) ∙ take-append-add prefix rest room ∙ whole (take room rest))

pub prefix_tells_sender : (frame : Frame) (bytes more : List ℕ) → SpellsFrame frame bytes → sender_of (take 38 (bytes ++ more)) ≡ Some frame.from
prefix_tells_sender frame bytes more s =
    let k : Kind = kind_of_message frame.message in
    let size : ℕ = length s.body in
    let behind : List ℕ = id.spelling frame.to ++ s.spelled.fields in
    let rest : List ℕ = behind ++ more in
    let body_is : s.body ++ more ≡ code k ∷ (id.spelling frame.from ++ rest) =
    ap (λ l. l ++ more) s.spelled.whole ∙ ap (λ l. code k ∷ l) (append_assoc (id.spelling frame.from) behind more) in
    let bytes_are : bytes ++ more ≡ four_bytes size ++ (code k ∷ (id.spelling frame.from ++ rest)) =
    ap (λ l. l ++ more) s.whole ∙ append_assoc (four_bytes size) s.body more ∙ ap (λ l. four_bytes size ++ l) body_is in
    let kept = prefix_kept size k frame.from rest s.spelled.from in
    ap (λ l. sender_of (take 38 l)) bytes_are ∙ ap sender_of kept.1 ∙ named size k frame.from kept.0 s.spelled.from
