-- What is read of a frame is spelled so, and what is spelled so is read.
use Rattle.std.proofs.Common.{◌≡◌, ℕ, eqb, Bool, true, false, cond, List, [], ◌∷◌, ◌++◌, Option, Some, None, find, Result, Ok, Err, refl, sym, ap, subst, ◌∙◌, arith, eqb-true}
use Rattle.std.proofs.lemmas.List.{append-nil}
use Rattle.cluster_state.specs.declared.fault.FieldError.{FieldError}
use Rattle.cluster_state.specs.declared.fault.StateFault.{StateFault}
use Rattle.voting_config.specs.Ids.{most_ids}
use Rattle.cluster_state.specs.Field.{Field, byte_at, flag}
use Rattle.cluster_state.specs.Fields.{term, id}
use Rattle.cluster_state.specs.States.{state, whole, Spells}
use Rattle.cluster_state.proofs.Laws.{IsBytes, IsBytes-rest, IsField, bind_ok, ok_is, byte_law, flag_law, optional_law, then_law}
use Rattle.cluster_state.proofs.StateLaws.{term_law, id_law, ids_law, state_id_law, state_law}
use Rattle.cluster_state.proofs.Whole.{whole_ok, is_fit}
use Rattle.wire_frames.specs.declared.frame.Kind.{Kind}
use Rattle.wire_frames.specs.declared.frame.Kind.TheVariants as kind
use Rattle.wire_frames.specs.declared.frame.WireMessage.{WireMessage}
use Rattle.wire_frames.specs.declared.frame.WireMessage.TheVariants as message
use Rattle.wire_frames.specs.declared.frame.Frame.{Frame}
use Rattle.wire_frames.specs.Kinds.{code, kinds, kind_of, kind_of_message}
use Rattle.wire_frames.specs.Messages.{state_id, start_join, term_and_last, known_peers, peers_answer, follower_answer, as_message, message_at, FitsMessage, SpellsFields, IsFitMessage}
use Rattle.wire_frames.specs.Frames.{SpellsBody, IsFitFrame, frame_at, as_frame, frame_of_kind, frame_from_byte, frame_of}

-- ---- fields

start_join_law : IsField start_join
start_join_law = then_law _ _ id_law term_law

term_and_last_law : IsField term_and_last
term_and_last_law = then_law _ _ term_law state_id_law

known_peers_law : IsField known_peers
known_peers_law = ids_law most_ids (omega arith)

peers_answer_law : IsField peers_answer
peers_answer_law = then_law _ _ (optional_law id id_law) (then_law _ _ term_law known_peers_law)

follower_answer_law : IsField follower_answer
follower_answer_law = then_law _ _ flag_law (then_law _ _ term_law state_id_law)

-- ---- kinds

found_passes : (p : Kind → Bool) (ks : List Kind) (k : Kind) → find p ks ≡ Some k → p k ≡ true
found_passes p [] k e = absurd cc
found_passes p (x ∷ xs) k e =
    elim (p x) as (λ b. p x ≡ b → cond b (Some x) (find p xs) ≡ Some k → p k ≡ true) [
      | true ↦ λ h f. let same : x ≡ k = cc in subst (λ (y : Kind). p y ≡ true) same h
      | false ↦ λ h f. found_passes p xs k f
    ] refl e

code_of_found : (b : ℕ) (k : Kind) → kind_of b ≡ Some k → code k ≡ b
code_of_found b k e = eqb-true (code k) b (found_passes (λ j. eqb (code j) b) kinds k e)

pub kind_of_code : (k : Kind) → kind_of (code k) ≡ Some k
kind_of_code kind.StartJoin = refl
kind_of_code kind.Join = refl
kind_of_code kind.Publish = refl
kind_of_code kind.Response = refl
kind_of_code kind.Commit = refl
kind_of_code kind.JoinAsk = refl
kind_of_code kind.PeersAsk = refl
kind_of_code kind.PeersAnswer = refl
kind_of_code kind.PreVoteAsk = refl
kind_of_code kind.PreVoteAnswer = refl
kind_of_code kind.PreVoteRefuse = refl
kind_of_code kind.FollowerCheck = refl
kind_of_code kind.FollowerAnswer = refl
kind_of_code kind.LeaderCheck = refl
kind_of_code kind.LeaderAnswer = refl

-- ---- messages

-- all of the bytes are the fields of a message of this kind
abbrev IsMessageOf : Kind → List ℕ → WireMessage → Type 0
IsMessageOf k bytes m = (kind_of_message m ≡ k) × SpellsFields m bytes

as_message_takes : {A : Type 0} (f : Field A) → IsField f → (make : A → WireMessage) (bytes : List ℕ) (m : WireMessage) → IsBytes bytes → as_message make (f.at bytes) ≡ Ok (m, []) → (x : A) × (make x ≡ m) × Spells f x bytes
as_message_takes f law make bytes m fits e =
    let x = bind_ok (f.at bytes) _ (m, []) e in
    let same = ok_is (make x.0.0, x.0.1) (m, []) x.2 in
    let ended : x.0.1 ≡ [] = ap (λ (p : WireMessage × List ℕ). p.1) same in
    let read = law.takes bytes x.0.0 x.0.1 fits x.1 in
    (x.0.0, ap (λ (p : WireMessage × List ℕ). p.0) same, (read.1, read.0 ∙ ap (λ t. f.spelling x.0.0 ++ t) ended ∙ append-nil (f.spelling x.0.0)))

message_takes : (k : Kind) (bytes : List ℕ) (m : WireMessage) → IsBytes bytes → message_at k bytes ≡ Ok (m, []) → IsMessageOf k bytes m
message_takes kind.StartJoin bytes m fits e = let t = as_message_takes start_join start_join_law (λ x. message.StartJoin x.0 x.1) bytes m fits e in subst (IsMessageOf kind.StartJoin bytes) t.1 (refl, t.2)
message_takes kind.Join bytes m fits e = let t = as_message_takes term_and_last term_and_last_law (λ x. message.Join x.0 x.1) bytes m fits e in subst (IsMessageOf kind.Join bytes) t.1 (refl, t.2)
message_takes kind.Publish bytes m fits e = let t = as_message_takes state state_law (λ x. message.Publish x) bytes m fits e in subst (IsMessageOf kind.Publish bytes) t.1 (refl, t.2)
message_takes kind.Response bytes m fits e = let t = as_message_takes state_id state_id_law (λ x. message.Response x) bytes m fits e in subst (IsMessageOf kind.Response bytes) t.1 (refl, t.2)
message_takes kind.Commit bytes m fits e = let t = as_message_takes state_id state_id_law (λ x. message.Commit x) bytes m fits e in subst (IsMessageOf kind.Commit bytes) t.1 (refl, t.2)
message_takes kind.JoinAsk bytes m fits e = let t = as_message_takes term term_law (λ x. message.JoinAsk x) bytes m fits e in subst (IsMessageOf kind.JoinAsk bytes) t.1 (refl, t.2)
message_takes kind.PeersAsk bytes m fits e = let t = as_message_takes known_peers known_peers_law (λ x. message.PeersAsk x) bytes m fits e in subst (IsMessageOf kind.PeersAsk bytes) t.1 (refl, t.2)
message_takes kind.PeersAnswer bytes m fits e = let t = as_message_takes peers_answer peers_answer_law (λ x. message.PeersAnswer x.0 x.1.0 x.1.1) bytes m fits e in subst (IsMessageOf kind.PeersAnswer bytes) t.1 (refl, t.2)
message_takes kind.PreVoteAsk bytes m fits e =
    let same = ok_is (message.PreVoteAsk, bytes) (m, []) e in
    subst (IsMessageOf kind.PreVoteAsk bytes) (ap (λ (p : WireMessage × List ℕ). p.0) same) (refl, (tt, ap (λ (p : WireMessage × List ℕ). p.1) same))
message_takes kind.PreVoteAnswer bytes m fits e = let t = as_message_takes term_and_last term_and_last_law (λ x. message.PreVoteAnswer x.0 x.1) bytes m fits e in subst (IsMessageOf kind.PreVoteAnswer bytes) t.1 (refl, t.2)
message_takes kind.PreVoteRefuse bytes m fits e = let t = as_message_takes id id_law (λ x. message.PreVoteRefuse x) bytes m fits e in subst (IsMessageOf kind.PreVoteRefuse bytes) t.1 (refl, t.2)
message_takes kind.FollowerCheck bytes m fits e = let t = as_message_takes term term_law (λ x. message.FollowerCheck x) bytes m fits e in subst (IsMessageOf kind.FollowerCheck bytes) t.1 (refl, t.2)
message_takes kind.FollowerAnswer bytes m fits e = let t = as_message_takes follower_answer follower_answer_law (λ x. message.FollowerAnswer x.0 x.1.0 x.1.1) bytes m fits e in subst (IsMessageOf kind.FollowerAnswer bytes) t.1 (refl, t.2)
message_takes kind.LeaderCheck bytes m fits e = let t = as_message_takes term term_law (λ x. message.LeaderCheck x) bytes m fits e in subst (IsMessageOf kind.LeaderCheck bytes) t.1 (refl, t.2)
message_takes kind.LeaderAnswer bytes m fits e = let t = as_message_takes flag flag_law (λ x. message.LeaderAnswer x) bytes m fits e in subst (IsMessageOf kind.LeaderAnswer bytes) t.1 (refl, t.2)

as_message_again : {A : Type 0} (f : Field A) → IsField f → (make : A → WireMessage) (bytes : List ℕ) (x : A) → Spells f x bytes → as_message make (f.at bytes) ≡ Ok (make x, [])
as_message_again f law make bytes x spelled =
    let read : f.at bytes ≡ Ok (x, []) = ap f.at (spelled.1 ∙ sym (append-nil (f.spelling x))) ∙ law.again x [] spelled.0 in
    rw read refl

message_again : (m : WireMessage) (bytes : List ℕ) → SpellsFields m bytes → message_at (kind_of_message m) bytes ≡ Ok (m, [])
message_again (message.StartJoin c n) bytes s = as_message_again start_join start_join_law (λ x. message.StartJoin x.0 x.1) bytes (c, n) s
message_again (message.Join n last) bytes s = as_message_again term_and_last term_and_last_law (λ x. message.Join x.0 x.1) bytes (n, last) s
message_again (message.Publish c) bytes s = as_message_again state state_law (λ x. message.Publish x) bytes c s
message_again (message.Response i) bytes s = as_message_again state_id state_id_law (λ x. message.Response x) bytes i s
message_again (message.Commit i) bytes s = as_message_again state_id state_id_law (λ x. message.Commit x) bytes i s
message_again (message.JoinAsk n) bytes s = as_message_again term term_law (λ x. message.JoinAsk x) bytes n s
message_again (message.PeersAsk ps) bytes s = as_message_again known_peers known_peers_law (λ x. message.PeersAsk x) bytes ps s
message_again (message.PeersAnswer o n ps) bytes s = as_message_again peers_answer peers_answer_law (λ x. message.PeersAnswer x.0 x.1.0 x.1.1) bytes (o, (n, ps)) s
message_again message.PreVoteAsk bytes s = ap (λ (b : List ℕ). message_at kind.PreVoteAsk b) s.1
message_again (message.PreVoteAnswer n last) bytes s = as_message_again term_and_last term_and_last_law (λ x. message.PreVoteAnswer x.0 x.1) bytes (n, last) s
message_again (message.PreVoteRefuse l) bytes s = as_message_again id id_law (λ x. message.PreVoteRefuse x) bytes l s
message_again (message.FollowerCheck n) bytes s = as_message_again term term_law (λ x. message.FollowerCheck x) bytes n s
message_again (message.FollowerAnswer g n i) bytes s = as_message_again follower_answer follower_answer_law (λ x. message.FollowerAnswer x.0 x.1.0 x.1.1) bytes (g, (n, i)) s
message_again (message.LeaderCheck n) bytes s = as_message_again term term_law (λ x. message.LeaderCheck x) bytes n s
message_again (message.LeaderAnswer g) bytes s = as_message_again flag flag_law (λ x. message.LeaderAnswer x) bytes g s

-- what has a spelling is within the limits
fit_message : (m : WireMessage) → FitsMessage m → IsFitMessage m
fit_message (message.StartJoin c n) h = h.1
fit_message (message.Join n last) h = (h.0, record { term = h.1.0; version = h.1.1 })
fit_message (message.Publish s) h = is_fit s h
fit_message (message.Response i) h = record { term = h.0; version = h.1 }
fit_message (message.Commit i) h = record { term = h.0; version = h.1 }
fit_message (message.JoinAsk n) h = h
fit_message (message.PeersAsk ps) h = tt
fit_message (message.PeersAnswer o n ps) h = h.1.0
fit_message message.PreVoteAsk h = tt
fit_message (message.PreVoteAnswer n last) h = (h.0, record { term = h.1.0; version = h.1.1 })
fit_message (message.PreVoteRefuse l) h = tt
fit_message (message.FollowerCheck n) h = h
fit_message (message.FollowerAnswer g n i) h = (h.1.0, record { term = h.1.1.0; version = h.1.1.1 })
fit_message (message.LeaderCheck n) h = h
fit_message (message.LeaderAnswer g) h = tt

-- ---- frames

as_frame_ok : (r : Result Frame StateFault) (f : Frame) → as_frame r ≡ Ok f → r ≡ Ok f
as_frame_ok (Ok g) f e = cc
as_frame_ok (Err d) f e = absurd cc

frame_at_takes : (k : Kind) (bytes : List ℕ) (f : Frame) → IsBytes bytes → frame_at k bytes ≡ Ok (f, []) → (b : ℕ) → code k ≡ b → SpellsBody f (b ∷ bytes)
frame_at_takes k bytes f fits e b is =
    let from = bind_ok (id.at bytes) _ (f, []) e in
    let to = bind_ok (id.at from.0.1) _ (f, []) from.2 in
    let m = bind_ok (message_at k to.0.1) _ (f, []) to.2 in
    let made_frame : Frame = record { from = from.0.0; to = to.0.0; message = m.0.0 } in
    let same = ok_is (made_frame, m.0.1) (f, []) m.2 in
    let ended : m.0.1 ≡ [] = ap (λ (p : Frame × List ℕ). p.1) same in
    let first = id_law.takes bytes from.0.0 from.0.1 fits from.1 in
    let fits_1 = IsBytes-rest bytes (id.spelling from.0.0) from.0.1 first.0 fits in
    let second = id_law.takes from.0.1 to.0.0 to.0.1 fits_1 to.1 in
    let fits_2 = IsBytes-rest from.0.1 (id.spelling to.0.0) to.0.1 second.0 fits_1 in
    let at_end : message_at k to.0.1 ≡ Ok (m.0.0, []) = m.1 ∙ ap (λ (r : List ℕ). Ok (m.0.0, r)) ended in
    let read = message_takes k to.0.1 m.0.0 fits_2 at_end in
    let whole_is : bytes ≡ id.spelling from.0.0 ++ (id.spelling to.0.0 ++ to.0.1) = first.0 ∙ ap (λ t. id.spelling from.0.0 ++ t) second.0 in
    let kind_is : code (kind_of_message m.0.0) ≡ b = ap code read.0 ∙ is in
    subst (λ (g : Frame). SpellsBody g (b ∷ bytes)) (ap (λ (p : Frame × List ℕ). p.0) same)
    (record { fields = to.0.1; from = first.1; to = second.1; spelled = read.1; whole = rw (kind_is, ← whole_is) refl })

frame_of_kind_takes : (b : ℕ) (o : Option Kind) (rest : List ℕ) (f : Frame) → IsBytes rest → kind_of b ≡ o → frame_of_kind b o rest ≡ Ok f → SpellsBody f (b ∷ rest)
frame_of_kind_takes b None rest f fits is e = absurd cc
frame_of_kind_takes b (Some k) rest f fits is e =
    frame_at_takes k rest f fits (whole_ok (frame_at k rest) f (as_frame_ok (whole (frame_at k rest)) f e)) b (code_of_found b k is)

frame_takes_by : (bytes : List ℕ) (r : Result (ℕ × List ℕ) FieldError) (f : Frame) → IsBytes bytes → byte_at bytes ≡ r → frame_from_byte r ≡ Ok f → SpellsBody f bytes
frame_takes_by bytes (Ok x) f fits is e =
    let head = byte_law.takes bytes x.0 x.1 fits is in
    subst (SpellsBody f) (sym head.0) (frame_of_kind_takes x.0 (kind_of x.0) x.1 f (IsBytes-rest bytes (x.0 ∷ []) x.1 head.0 fits) refl e)
frame_takes_by bytes (Err d) f fits is e = absurd cc

pub frame_takes : (bytes : List ℕ) (f : Frame) → IsBytes bytes → frame_of bytes ≡ Ok f → SpellsBody f bytes
frame_takes bytes f fits e = frame_takes_by bytes (byte_at bytes) f fits refl e

pub frame_again : (bytes : List ℕ) (f : Frame) → SpellsBody f bytes → frame_of bytes ≡ Ok f
frame_again bytes f s =
    let k = kind_of_message f.message in
    let first = id_law.again f.from (id.spelling f.to ++ s.fields) s.from in
    let second = id_law.again f.to s.fields s.to in
    let third = message_again f.message s.fields s.spelled in
    ap frame_of s.whole ∙ rw (kind_of_code k, first, second, third) refl

pub frame_fits : (bytes : List ℕ) (f : Frame) → IsBytes bytes → frame_of bytes ≡ Ok f → IsFitFrame f
frame_fits bytes f fits e = fit_message f.message (frame_takes bytes f fits e).spelled.0

-- bytes are the body of one frame at most
pub one_body : (f g : Frame) (bytes : List ℕ) → SpellsBody f bytes → SpellsBody g bytes → f ≡ g
one_body f g bytes p q =
    let e : frame_of bytes ≡ Ok f = frame_again bytes f p in
    let d : frame_of bytes ≡ Ok g = frame_again bytes g q in
    cc
