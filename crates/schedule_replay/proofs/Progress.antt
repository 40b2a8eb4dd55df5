-- A replay, line by line.
use Rattle.std.proofs.Common.{◌≡◌, ℕ, ◌+◌, ◌<◌, ◌≤◌, Result, Ok, Err, Option, List, [], ◌∷◌, ◌++◌, length, drop, get_or, sym, ◌∙◌, ap, subst, append_assoc, append-nil, arith, add-one, suc}
use Rattle.std.specs.Result.{IsErr}
use Rattle.std.proofs.lemmas.List.{length-drop, nil_from_length}
use Rattle.std.proofs.Math.Seq.{drop-cons}
use Rattle.voting_config.specs.Ids.{Id}
use Rattle.schedule_text.specs.declared.schedule.Line.{Line}
use Rattle.schedule_text.specs.declared.schedule.Schedule.{Schedule}
use Rattle.zen_link.specs.Streams.{Appended, AppendedPrefix}
use Rattle.zen_link.proofs.Appending.{appended_more, prefix_after, prefix_within}
use Rattle.world_model.specs.declared.acts.Message.{Message}
use Rattle.replay_node.specs.declared.node.ReplayNode.{ReplayNode}
use Rattle.replay_node.specs.Worlds.{World, fresh_world}
use Rattle.schedule_replay.specs.Replayed.{after, replayed_from}
use Rattle.schedule_replay.specs.Trace.{trace_from}
use Rattle.schedule_replay.specs.WorldStands.{WritesLine}
use Rattle.schedule_replay.specs.SoFar.{SoFar, HoldsBack}
use Rattle.schedule_replay.specs.Written.{WritesTrace}

abbrev pub last_world : Schedule → World
last_world s = replayed_from s.initial fresh_world s.lines

-- what is left begins with the line in hand
pub left_is : (lines : List Line) (i : ℕ) (line : Line) → i < length lines → line ≡ get_or lines i line → drop i lines ≡ line ∷ drop (i + 1) lines
left_is lines i line within is = rw add-one (drop-cons lines i line within ∙ ap (λ (x : Line). x ∷ drop (suc i) lines) (sym is))

module _ (ids initial : List Id) (nodes more : List ReplayNode) (messages sent : List Message) (was now later : Option (List ℕ)) (held after_held none text : List ℕ) (lines : List Line) (i : ℕ) (line : Line) (all : List ℕ) (end : World) (within : i < length lines) (is : line ≡ get_or lines i line) (empty : none ≡ []) (m : SoFar ids initial nodes messages was now held (drop i lines) all end) (writes : WritesLine ids initial nodes more messages sent none text line) where
  abbrev tail : List ℕ
  tail = trace_from initial (after initial m.world line) (drop (i + 1) lines)

  -- the whole trace, with the text of the line in it
  whole_is : m.prefix ++ (held ++ (text ++ tail)) ≡ all
  whole_is =
      let step = (subst (λ (x : List ℕ). WritesLine ids initial nodes more messages sent x text line) empty writes) m.world m.stands in
      ap (λ (t : List ℕ). m.prefix ++ (held ++ (t ++ tail))) step.written
      ∙ sym (ap (λ (l : List Line). m.prefix ++ (held ++ trace_from initial m.world l)) (left_is lines i line within is))
      ∙ m.whole

  pub goes_on : HoldsBack now later held after_held text → SoFar ids initial more sent was later after_held (drop (i + 1) lines) all end
  goes_on h =
      let step = writes m.world m.stands in
      record {
        world = after initial m.world line;
        stands = step.stands;
        prefix = m.prefix ++ h.prefix;
        written = appended_more was now later m.prefix h.prefix m.written h.written;
        whole =
            append_assoc m.prefix h.prefix (after_held ++ tail)
            ∙ ap (λ (t : List ℕ). m.prefix ++ t) (sym (append_assoc h.prefix after_held tail) ∙ ap (λ (t : List ℕ). t ++ tail) h.whole ∙ append_assoc held text tail)
            ∙ whole_is;
        ends = sym (ap (λ (l : List Line). replayed_from initial m.world l) (left_is lines i line within is)) ∙ m.ends;
      }

  pub fails : AppendedPrefix now later (held ++ text) → AppendedPrefix was later all
  fails h =
      let prefix = prefix_within now later (held ++ text) tail (held ++ (text ++ tail)) (append_assoc held text tail) h in
      subst (λ (t : List ℕ). AppendedPrefix was later t) whole_is (prefix_after was now later m.prefix (held ++ (text ++ tail)) m.written prefix)

module _ (ids initial : List Id) (nodes : List ReplayNode) (messages : List Message) (was now later : Option (List ℕ)) (held bytes : List ℕ) (left : List Line) (all : List ℕ) (end : World) where
  pub stops : bytes ≡ held → SoFar ids initial nodes messages was now held left all end → AppendedPrefix now later bytes → AppendedPrefix was later all
  stops e m h =
      let tail : List ℕ = trace_from initial m.world left in
      let prefix = prefix_within now later bytes tail (held ++ tail) (ap (λ (t : List ℕ). t ++ tail) e) h in
      subst (λ (t : List ℕ). AppendedPrefix was later t) m.whole (prefix_after was now later m.prefix (held ++ tail) m.written prefix)

  pub ends : left ≡ [] → bytes ≡ held → SoFar ids initial nodes messages was now held left all end → Appended now later bytes → Appended was later all
  ends none e m h =
      let whole : m.prefix ++ bytes ≡ all =
      ap (λ (t : List ℕ). m.prefix ++ t) (e ∙ sym (append-nil held))
      ∙ sym (ap (λ (l : List Line). m.prefix ++ (held ++ trace_from initial m.world l)) none)
      ∙ m.whole
      in
      subst (λ (t : List ℕ). Appended was later t) whole (appended_more was now later m.prefix bytes m.written h)

-- an error says no more than that a prefix was written
pub prefix_at_err : {A E : Type 0} (r : Result A E) (was now : Option (List ℕ)) (all : List ℕ) → IsErr r → AppendedPrefix was now all → WritesTrace was now all r
prefix_at_err (Ok x) was now all is f = absurd (cc)
prefix_at_err (Err e) was now all is f = f

pub none_left : (lines : List Line) (i : ℕ) → length lines ≤ i → drop i lines ≡ []
none_left lines i past = nil_from_length (drop i lines) (omega (arith, length-drop i lines, past))
