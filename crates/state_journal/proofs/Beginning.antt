-- The body that begins a generation.
use Rattle.std.proofs.Common.{◌≡◌, ℕ, ◌+◌, ◌<◌, ◌≤◌, ◌^◌, List, ◌∷◌, ◌++◌, length, refl, sym, ap, ◌∙◌, subst, arith, length-append, append_assoc}
use Rattle.std.specs.Int.{w64, to_be_bytes, from_be_bytes}
use Rattle.std.proofs.lemmas.List.{take_at}
use Rattle.std.proofs.lemmas.Nat.{from_be_bytes-to_be_bytes_8}
use Rattle.voting_config.specs.Ids.{Id, most_ids}
use Rattle.cluster_state.specs.declared.state.ClusterState.{ClusterState}
use Rattle.cluster_state.specs.Field.{eight_bytes}
use Rattle.cluster_state.specs.Fields.{ids}
use Rattle.cluster_state.specs.States.{state}
use Rattle.gate_log.specs.Generations.{Begins, epoch_in}
use Rattle.gate_log.specs.Journal.{framed, most_body}
use Rattle.gate_log.proofs.Laid.{length-framed}
use Rattle.sha2.specs.Sha256.{sha256}
use Rattle.state_journal.specs.Bodies.{guarded, body_of}
use Rattle.state_journal.specs.Drafts.{Drafted, IsDraft, generation_prefix}
use Rattle.state_journal.specs.Keeping.{record_with}
use Rattle.state_journal.specs.declared.change.Change.TheVariants.{Renewed}
use Rattle.cluster_state.proofs.Sizes.{length-eight, ids_short}
use Rattle.state_journal.proofs.Spelled.{draft_short, renewed_is, length-body}

pub length-generation : (epoch t : ℕ) (accepted : List ℕ) (committed : List Id) → length (generation_prefix epoch t accepted committed) ≡ 17 + length accepted + length ((ids most_ids).spelling committed)
length-generation epoch t accepted committed =
    omega (
      arith,
      length-append (eight_bytes epoch) (eight_bytes t ++ (accepted ++ (ids most_ids).spelling committed)),
      length-append (eight_bytes t) (accepted ++ (ids most_ids).spelling committed),
      length-append accepted ((ids most_ids).spelling committed),
      length-eight epoch,
      length-eight t,
    )

epoch_is : (epoch : ℕ) (rest : List ℕ) → epoch ≤ 2 ^ 62 → epoch_in (132 ∷ (eight_bytes epoch ++ rest)) ≡ epoch
unfolding epoch_in eight_bytes
epoch_is epoch rest small = ap (from_be_bytes w64) (take_at (to_be_bytes w64 epoch) rest 8 refl) ∙ from_be_bytes-to_be_bytes_8 epoch (omega (arith, small))

begins_by : (epoch : ℕ) (rest : List ℕ) → epoch < 2 ^ 62 → Begins epoch (132 ∷ (eight_bytes (epoch + 1) ++ rest))
begins_by epoch rest small = record {
  tagged = refl;
  long = omega (arith, length-append (eight_bytes (epoch + 1)) rest, length-eight (epoch + 1));
  next = epoch_is (epoch + 1) rest (omega (arith, small));
  limit = omega (arith, small);
}

pub begins_next : (epoch t : ℕ) (accepted : List ℕ) (committed : List Id) → epoch < 2 ^ 62 → Begins epoch (guarded (generation_prefix (epoch + 1) t accepted committed))
unfolding guarded
begins_next epoch t accepted committed small =
    let rest = eight_bytes t ++ (accepted ++ (ids most_ids).spelling committed) in
    let digest = sha256 (generation_prefix (epoch + 1) t accepted committed) in
    subst (λ (l : List ℕ). Begins epoch (132 ∷ l)) (sym (append_assoc (eight_bytes (epoch + 1)) rest digest)) (begins_by epoch (rest ++ digest) small)

module _ (epoch e t : ℕ) (s : ClusterState) (draft : Drafted) (committed : List Id) (is : IsDraft s draft) (same : e ≡ epoch) where
  pub generation_is : guarded (generation_prefix (e + 1) t draft.state committed) ≡ body_of (Renewed (record { epoch = epoch + 1; kept = record_with t s committed }))
  generation_is = (λ i. guarded (generation_prefix (same i + 1) t (is.spelled i) committed)) ∙ renewed_is (epoch + 1) t s committed

  pub begins_with : epoch < 2 ^ 62 → Begins epoch (body_of (Renewed (record { epoch = epoch + 1; kept = record_with t s committed })))
  begins_with small = subst (Begins epoch) (renewed_is (epoch + 1) t s committed) (begins_next epoch t (state.spelling s) committed small)

  pub frame_short : (frame : List ℕ) → (ids most_ids).Fits committed → frame ≡ framed (guarded (generation_prefix (e + 1) t draft.state committed)) → length frame ≤ most_body + 5
  frame_short frame fits framed_is =
      omega (
        arith,
        ap length framed_is,
        length-framed (guarded (generation_prefix (e + 1) t draft.state committed)),
        length-body (generation_prefix (e + 1) t draft.state committed),
        length-generation (e + 1) t draft.state committed,
        ids_short most_ids committed fits,
        draft_short s draft is,
      )
