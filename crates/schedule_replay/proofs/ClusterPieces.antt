-- Pieces of a trace of whole nodes, and what joins them.
use Rattle.std.proofs.Common.{◌≡◌, ℕ, ◌+◌, List, [], ◌∷◌, ◌++◌, length, map, refl, sym, ◌∙◌, ap, subst, arith, append-nil, append_assoc}
use Rattle.std.specs.List.{flat_map}
use Rattle.std.proofs.lemmas.Grind.{flat_map-append}
use Rattle.wire_frames.specs.declared.frame.Frame.{Frame}
use Rattle.world_model.specs.Histories.{History}
use Rattle.schedule_text.specs.declared.schedule.Line.{Line}
use Rattle.event_text.specs.Frames.{frames_text, frame_line}
use Rattle.schedule_replay.specs.Parts.{TracePart}
use Rattle.schedule_replay.specs.HistoryShown.{history_shown_by, history_shown_from, line_in, lines_of}
use Rattle.schedule_replay.specs.ClusterParts.{NumberedFrame, ClusterPart, Shared, Framed, shared_text, cluster_part_text, cluster_text}
use Rattle.schedule_replay.specs.ClusterShown.{core_in, core_of, frame_in, frames_in, numbered_frames}
use Rattle.schedule_replay.proofs.Along.{Along, along_append, IsRight}
use Rattle.schedule_replay.proofs.Telling.{told_append}

-- A text and its parts, with the lines that they echo. They lead from one history and the frames that were sent by then to another.
pub record Piece (h : History) (fs : List Frame) (g : History) (gs : List Frame) (text : List ℕ) (ls : List Line) (xs : List ClusterPart) : Type 0 where
  pub text_is : text ≡ cluster_text xs
  pub lines : lines_of (core_of xs) ≡ ls
  pub right : Along IsRight h (core_of xs)
  pub history : history_shown_from h (core_of xs) ≡ g
  pub frames : numbered_frames 0 fs ++ frames_in xs ≡ numbered_frames 0 gs

pub nothing : (h : History) (fs : List Frame) → Piece h fs h fs [] [] []
nothing h fs = record { text_is = refl; lines = refl; right = tt; history = refl; frames = append-nil (numbered_frames 0 fs) }

pub both : (h i g : History) (fs es gs : List Frame) (t u : List ℕ) (ls ms : List Line) (xs ys : List ClusterPart) → Piece h fs i es t ls xs → Piece i es g gs u ms ys → Piece h fs g gs (t ++ u) (ls ++ ms) (xs ++ ys)
both h i g fs es gs t u ls ms xs ys p q =
    let core : core_of (xs ++ ys) ≡ core_of xs ++ core_of ys = flat_map-append core_in xs ys in
    record {
      text_is = (λ k. p.text_is k ++ q.text_is k) ∙ sym (flat_map-append cluster_part_text xs ys);
      lines = ap (λ (zs : List TracePart). lines_of zs) core ∙ flat_map-append line_in (core_of xs) (core_of ys) ∙ (λ k. p.lines k ++ q.lines k);
      right = subst (λ (zs : List TracePart). Along IsRight h zs) (sym core)
          (along_append IsRight h (core_of xs) (core_of ys) p.right (subst (λ (j : History). Along IsRight j (core_of ys)) (sym p.history) q.right));
      history = ap (λ (zs : List TracePart). history_shown_from h zs) core
          ∙ told_append h (core_of xs) (core_of ys)
          ∙ ap (λ (j : History). history_shown_from j (core_of ys)) p.history
          ∙ q.history;
      frames = ap (λ (zs : List NumberedFrame). numbered_frames 0 fs ++ zs) (flat_map-append frame_in xs ys)
          ∙ sym (append_assoc (numbered_frames 0 fs) (frames_in xs) (frames_in ys))
          ∙ ap (λ (zs : List NumberedFrame). zs ++ frames_in ys) p.frames
          ∙ q.frames;
    }

-- a part of level core
pub shared : (h g : History) (fs : List Frame) (t : List ℕ) (ls : List Line) (x : TracePart) → t ≡ shared_text x → line_in x ≡ ls → IsRight h x → history_shown_by h x ≡ g → Piece h fs g fs t ls (Shared x ∷ [])
shared h g fs t ls x text lines right told = record {
  text_is = text ∙ sym (append-nil (shared_text x));
  lines = append-nil (line_in x) ∙ lines;
  right = (right, tt);
  history = told;
  frames = append-nil (numbered_frames 0 fs);
}

-- a part that tells nothing of the history and shows no frame
pub still : (h : History) (fs : List Frame) (t : List ℕ) (x : ClusterPart) → t ≡ cluster_part_text x → core_in x ≡ [] → frame_in x ≡ [] → Piece h fs h fs t [] (x ∷ [])
still h fs t x text core frame =
    let none : core_of (x ∷ []) ≡ [] = append-nil (core_in x) ∙ core in
    record {
      text_is = text ∙ sym (append-nil (cluster_part_text x));
      lines = ap (λ (zs : List TracePart). lines_of zs) none;
      right = subst (λ (zs : List TracePart). Along IsRight h zs) (sym none) tt;
      history = ap (λ (zs : List TracePart). history_shown_from h zs) none;
      frames = ap (λ (zs : List NumberedFrame). numbered_frames 0 fs ++ (zs ++ [])) frame ∙ append-nil (numbered_frames 0 fs);
    }

-- parts of this kind, one for each element of a list
pub stills : {A : Type 0} (h : History) (fs : List Frame) (text : A → List ℕ) (step : A → ClusterPart) → ((a : A) → Piece h fs h fs (text a) [] (step a ∷ [])) → (items : List A) → Piece h fs h fs (flat_map text items) [] (map step items)
stills h fs text step one [] = nothing h fs
stills h fs text step one (a ∷ items) = both h h h fs fs fs (text a) (flat_map text items) [] [] (step a ∷ []) (map step items) (one a) (stills h fs text step one items)

-- ---- frames

no_core : (fs : List NumberedFrame) → core_of (map Framed fs) ≡ []
no_core [] = refl
no_core (f ∷ fs) = no_core fs

all_frames : (fs : List NumberedFrame) → frames_in (map Framed fs) ≡ fs
all_frames [] = refl
all_frames (f ∷ fs) = ap (λ (zs : List NumberedFrame). f ∷ zs) (all_frames fs)

frames_text_is : (count : ℕ) (fs : List Frame) → frames_text count fs ≡ cluster_text (map Framed (numbered_frames count fs))
frames_text_is count [] = refl
frames_text_is count (f ∷ fs) = ap (λ (t : List ℕ). frame_line (count + 1) f ++ t) (frames_text_is (count + 1) fs)

numbers_append : (count : ℕ) (fs gs : List Frame) → numbered_frames count (fs ++ gs) ≡ numbered_frames count fs ++ numbered_frames (count + length fs) gs
numbers_append count [] gs = ap (λ (k : ℕ). numbered_frames k gs) (omega arith)
numbers_append count (f ∷ fs) gs =
    ap (λ (zs : List NumberedFrame). record { number = count + 1; frame = f } ∷ zs)
    (numbers_append (count + 1) fs gs ∙ ap (λ (k : ℕ). numbered_frames (count + 1) fs ++ numbered_frames k gs) (omega arith))

pub frames_sent : (h : History) (fs gs : List Frame) → Piece h fs h (fs ++ gs) (frames_text (length fs) gs) [] (map Framed (numbered_frames (length fs) gs))
frames_sent h fs gs =
    let sent : List NumberedFrame = numbered_frames (length fs) gs in
    record {
      text_is = frames_text_is (length fs) gs;
      lines = ap (λ (zs : List TracePart). lines_of zs) (no_core sent);
      right = subst (λ (zs : List TracePart). Along IsRight h zs) (sym (no_core sent)) tt;
      history = ap (λ (zs : List TracePart). history_shown_from h zs) (no_core sent);
      frames = ap (λ (zs : List NumberedFrame). numbered_frames 0 fs ++ zs) (all_frames sent)
          ∙ ap (λ (k : ℕ). numbered_frames 0 fs ++ numbered_frames k gs) (omega arith)
          ∙ sym (numbers_append 0 fs gs);
    }
