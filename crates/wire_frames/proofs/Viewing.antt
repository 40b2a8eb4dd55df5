-- A body that was passed over is a frame.
use Rattle.std.proofs.Common.{◌≡◌, ℕ, Bool, true, false, List, length, Option, Some, None, Result, Ok, Err, refl, sym, ap, subst, ◌∙◌}
use Rattle.std.specs.Prelude.{◌==◌, if◌then◌else◌, IsOk, IfOk}
use Rattle.voting_config.specs.Ids.{Id}
use Rattle.cluster_state.proofs.Laws.{ok_is}
use Rattle.cluster_state.specs.declared.fault.FieldError.{FieldError}
use Rattle.cluster_state.specs.declared.fault.StateFault.{StateFault}
use Rattle.cluster_state.specs.declared.fault.StateFault.TheVariants as whole_fault
use Rattle.cluster_state.specs.Field.{◌>>=◌, byte_at, flag, optional}
use Rattle.cluster_state.specs.Fields.{term, id}
use Rattle.cluster_state.specs.States.{state, whole}
use Rattle.wire_frames.specs.declared.frame.Kind.{Kind}
use Rattle.wire_frames.specs.declared.frame.Kind.TheVariants as kind
use Rattle.wire_frames.specs.declared.view.Parts.{Parts}
use Rattle.wire_frames.specs.declared.frame.Frame.{Frame}
use Rattle.wire_frames.specs.declared.frame.WireMessage.{WireMessage}
use Rattle.wire_frames.specs.declared.frame.WireMessage.TheVariants as message
use Rattle.wire_frames.specs.Kinds.{kind_of, kind_of_message}
use Rattle.wire_frames.specs.Messages.{state_id, start_join, term_and_last, known_peers, peers_answer, follower_answer, as_message, message_at}
use Rattle.wire_frames.specs.Frames.{frame_at, as_frame, frame_of}
use Rattle.wire_frames.specs.declared.fault.FrameError.{FrameError}
use Rattle.wire_frames.specs.declared.lent.FrameView.{FrameView}
use Rattle.wire_frames.specs.Views.{frame_in, shown, shown_read}
use Rattle.wire_frames.specs.Parts.{ArePartsOf, GivesParts}

pub all_passed : (k : Kind) (bytes a b rest : List ℕ) (from to : Id) (m : WireMessage) → id.at bytes ≡ Ok (from, a) → id.at a ≡ Ok (to, b) → message_at k b ≡ Ok (m, rest) → (length rest == 0) ≡ true
    → (frame : Frame) × (as_frame (whole (frame_at k bytes)) ≡ Ok frame)
all_passed k bytes a b rest from to m first second third ended = (record { from = from; to = to; message = m }, rw (first, second, third, ended) refl)

pub ask_passed : (bytes rest : List ℕ) (known : List Id) → known_peers.at bytes ≡ Ok (known, rest) → (m : WireMessage) × (message_at kind.PeersAsk bytes ≡ Ok (m, rest))
ask_passed bytes rest known first = (message.PeersAsk known, rw first refl)

pub answer_passed : (bytes a b rest : List ℕ) (master : Option Id) (n : ℕ) (known : List Id) → (optional id).at bytes ≡ Ok (master, a) → term.at a ≡ Ok (n, b) → known_peers.at b ≡ Ok (known, rest)
    → (m : WireMessage) × (message_at kind.PeersAnswer bytes ≡ Ok (m, rest))
answer_passed bytes a b rest master n known first second third = (message.PeersAnswer master n known, rw (first, second, third) refl)

-- what reading gave, as a message, is all of the bytes where what was read is
abbrev message_of_whole : {A : Type 0} → (A → WireMessage) → Result A StateFault → Result WireMessage StateFault
message_of_whole make (Ok x) = Ok (make x)
message_of_whole make (Err fault) = Err fault

whole_is : {A : Type 0} (make : A → WireMessage) (read : Result (A × List ℕ) FieldError) → whole (as_message make read) ≡ message_of_whole make (whole read)
whole_is make (Ok (x, rest)) =
    elim (length rest == 0) as (λ b. (if b then Ok (make x) else Err whole_fault.Trailing) ≡ message_of_whole make (if b then Ok x else Err whole_fault.Trailing)) [ true ↦ refl | false ↦ refl ]
whole_is make (Err fault) = refl

pub whole_message : {A : Type 0} (make : A → WireMessage) (read : Result (A × List ℕ) FieldError) (x : A) → whole read ≡ Ok x → whole (as_message make read) ≡ Ok (make x)
whole_message make read x h = whole_is make read ∙ ap (message_of_whole make) h

-- ---- the parts of a body

made : {A : Type 0} (k : Kind) (make : A → WireMessage) (read : Result (A × List ℕ) FieldError) (m : WireMessage) (rest : List ℕ) → ((x : A) → kind_of_message (make x) ≡ k) → as_message make read ≡ Ok (m, rest) → kind_of_message m ≡ k
made k make (Ok (x, r)) m rest law e = subst (λ (n : WireMessage). kind_of_message n ≡ k) (ap (λ (p : WireMessage × List ℕ). p.0) (ok_is (make x, r) (m, rest) e)) (law x)
made k make (Err f) m rest law e = absurd cc

kind_made : (k : Kind) (bytes : List ℕ) (m : WireMessage) (rest : List ℕ) → message_at k bytes ≡ Ok (m, rest) → kind_of_message m ≡ k
kind_made kind.StartJoin bytes m rest e = made kind.StartJoin (λ x. message.StartJoin x.0 x.1) (start_join.at bytes) m rest (λ x. refl) e
kind_made kind.Join bytes m rest e = made kind.Join (λ x. message.Join x.0 x.1) (term_and_last.at bytes) m rest (λ x. refl) e
kind_made kind.Publish bytes m rest e = made kind.Publish (λ x. message.Publish x) (state.at bytes) m rest (λ x. refl) e
kind_made kind.Response bytes m rest e = made kind.Response (λ x. message.Response x) (state_id.at bytes) m rest (λ x. refl) e
kind_made kind.Commit bytes m rest e = made kind.Commit (λ x. message.Commit x) (state_id.at bytes) m rest (λ x. refl) e
kind_made kind.JoinAsk bytes m rest e = made kind.JoinAsk (λ x. message.JoinAsk x) (term.at bytes) m rest (λ x. refl) e
kind_made kind.PeersAsk bytes m rest e = made kind.PeersAsk (λ x. message.PeersAsk x) (known_peers.at bytes) m rest (λ x. refl) e
kind_made kind.PeersAnswer bytes m rest e = made kind.PeersAnswer (λ x. message.PeersAnswer x.0 x.1.0 x.1.1) (peers_answer.at bytes) m rest (λ x. refl) e
kind_made kind.PreVoteAsk bytes m rest e = subst (λ (n : WireMessage). kind_of_message n ≡ kind.PreVoteAsk) (ap (λ (p : WireMessage × List ℕ). p.0) (ok_is (message.PreVoteAsk, bytes) (m, rest) e)) refl
kind_made kind.PreVoteAnswer bytes m rest e = made kind.PreVoteAnswer (λ x. message.PreVoteAnswer x.0 x.1) (term_and_last.at bytes) m rest (λ x. refl) e
kind_made kind.PreVoteRefuse bytes m rest e = made kind.PreVoteRefuse (λ x. message.PreVoteRefuse x) (id.at bytes) m rest (λ x. refl) e
kind_made kind.FollowerCheck bytes m rest e = made kind.FollowerCheck (λ x. message.FollowerCheck x) (term.at bytes) m rest (λ x. refl) e
kind_made kind.FollowerAnswer bytes m rest e = made kind.FollowerAnswer (λ x. message.FollowerAnswer x.0 x.1.0 x.1.1) (follower_answer.at bytes) m rest (λ x. refl) e
kind_made kind.LeaderCheck bytes m rest e = made kind.LeaderCheck (λ x. message.LeaderCheck x) (term.at bytes) m rest (λ x. refl) e
kind_made kind.LeaderAnswer bytes m rest e = made kind.LeaderAnswer (λ x. message.LeaderAnswer x) (flag.at bytes) m rest (λ x. refl) e

-- the frame that the parts are, where nothing is left behind the message
abbrev frame_by : Parts → WireMessage → Bool → Result Frame StateFault
frame_by p m b = if b then Ok (record { from = p.from; to = p.to; message = m }) else Err whole_fault.Trailing

told_by : (p : Parts) (m : WireMessage) (rest : List ℕ) (b : Bool) → (length rest == 0) ≡ b → message_at p.kind p.fields.now ≡ Ok (m, rest) → GivesParts (Some p) (as_frame (frame_by p m b))
told_by p m rest true is e = record { from = refl; to = refl; kind = sym (kind_made p.kind p.fields.now m rest e); message = rw (e, is) refl }
told_by p m rest false is e = tt

told : (p : Parts) (read : Result (WireMessage × List ℕ) FieldError) → message_at p.kind p.fields.now ≡ read
    → GivesParts (Some p) (as_frame (whole (read >>= λ m. Ok (record { from = p.from; to = p.to; message = m.0 }, m.1))))
told p (Err f) e = tt
told p (Ok (m, rest)) e = told_by p m rest (length rest == 0) refl e

pub parts_told : (p : Parts) (body rest a : List ℕ) (byte : ℕ) → byte_at body ≡ Ok (byte, rest) → kind_of byte ≡ Some p.kind → id.at rest ≡ Ok (p.from, a) → id.at a ≡ Ok (p.to, p.fields.now) → GivesParts (Some p) (frame_of body)
parts_told p body rest a byte first is from to = rw (first, is, from, to) (told p (message_at p.kind p.fields.now) refl)

-- ---- the parts of a lent frame

pub parts_known : (p : Parts) (frame : Frame) (read : Result Frame FrameError) → IsOk read → frame_in read ≡ frame → GivesParts (Some p) read → ArePartsOf p frame
parts_known p frame (Ok f) ok is told = subst (ArePartsOf p) is told
parts_known p frame (Err fault) ok is told = absurd cc

pub never_untold : (o : Option Parts) (read : Result Frame FrameError) → o ≡ None → IsOk read → GivesParts o read → ⊥
never_untold None (Ok f) e ok told = told
never_untold None (Err fault) e ok told = cc
never_untold (Some p) read e ok told = cc

-- ---- where a body was read

pub if_read : (r : Result FrameView FrameError) (read : Result Frame FrameError) (P : Frame → Type 0) → shown_read r ≡ read → ((f : Frame) → read ≡ Ok f → P f) → IfOk r (λ v. P (shown v))
if_read (Ok v) read P e h = h (shown v) (sym e)
if_read (Err x) read P e h = tt

pub ok_shown : (read : Result Frame FrameError) → IsOk read → read ≡ Ok (frame_in read)
ok_shown (Ok frame) ok = refl
ok_shown (Err fault) ok = absurd cc
