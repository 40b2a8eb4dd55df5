-- The lines that show neither an act nor a record are skipped.
use Rattle.std.proofs.Common.{◌≡◌, ℕ, true, false, not, None, Ok, List, [], ◌∷◌, ◌++◌, refl, sym, ap, ◌∙◌, subst, codes, decimal, append_assoc, IsTrue}
use Rattle.std.specs.Prelude.{◌==◌}
use Rattle.std.specs.Str.{bytes_eq}
use Rattle.voting_config.specs.Ids.{Id, is_id}
use Rattle.client_lines.specs.Replies.{reply_text}
use Rattle.policy_model.specs.declared.events.DropCause.{DropCause}
use Rattle.policy_model.specs.declared.events.DropCause.TheVariants.{Checks, Lag, Disconnect}
use Rattle.policy_model.specs.declared.events.Mode.{Mode}
use Rattle.policy_model.specs.declared.events.Mode.TheVariants as mode
use Rattle.world_model.specs.declared.acts.Message.{Message}
use Rattle.world_model.specs.declared.acts.Message.TheVariants.{Join as JoinMessage, Publish as PublishMessage, Response as ResponseMessage, Commit as CommitMessage}
use Rattle.schedule_text.specs.Lines.{line_text, words_of}
use Rattle.schedule_text.proofs.WordLaws.{lacks, all_append, split_first, split_alone}
use Rattle.schedule_text.proofs.LineLaws.{line_lacks}
use Rattle.trace_text.specs.Trace.{address_text, message_text, state_text}
use Rattle.event_text.specs.Events.{cause_text}
use Rattle.event_text.specs.Frames.{message_text as frame_text}
use Rattle.event_text.specs.Deeds.{mode_text}
use Rattle.recorded_trace.specs.Lines.{words_shown}
use Rattle.line_laws.specs.Fits.{IsSmall, FitsMessage, FitsMode}
use Rattle.line_laws.specs.Read.{IsSkipped, LawEcho, LawShown, LawNode, LawEvent}
use Rattle.line_laws.proofs.Plain.{spaceless, number_again, number_plain}
use Rattle.line_laws.proofs.Cuts.{spaced, spaced_twice, onward, not_word}
use Rattle.line_laws.proofs.Json.{both, digits_feedless}
use Rattle.line_laws.proofs.Feedless.{glued, id_feedless, state_feedless, message_feedless, frame_feedless, reply_feedless}

-- a word of its own kind, and what stands behind it
skipped : (verb behind : List ℕ) → lacks 32 verb ≡ true → lacks 10 verb ≡ true → lacks 10 behind ≡ true → ((ws : List (List ℕ)) → words_shown (verb ∷ ws) ≡ Ok None) → IsSkipped verb ((verb ++ 32 ∷ behind) ++ codes "\n")
skipped verb behind h whole quiet tells = record {
  line = verb ++ 32 ∷ behind;
  is = refl;
  alone = both verb (32 ∷ behind) whole quiet;
  rest = words_of behind;
  words = split_first 32 verb behind h;
  tells = ap words_shown (split_first 32 verb behind h) ∙ tells (words_of behind);
}

-- a word alone
skipped_alone : (verb : List ℕ) → lacks 32 verb ≡ true → lacks 10 verb ≡ true → words_shown (verb ∷ []) ≡ Ok None → IsSkipped verb (verb ++ codes "\n")
skipped_alone verb h whole tells = record {
  line = verb;
  is = refl;
  alone = whole;
  rest = [];
  words = split_alone 32 verb h;
  tells = ap words_shown (split_alone 32 verb h) ∙ tells;
}

pub echo_read : LawEcho
echo_read level nodes l set fits = skipped (codes ">") (line_text l) refl refl (line_lacks level (record { each = set.each }) l fits) (λ ws. refl)

-- ---- messages and frames

-- the line of a message, by its number
numbered : (number : ℕ) (address text : List ℕ) → IsSmall number → lacks 10 address ≡ true → lacks 10 text ≡ true → IsSkipped (codes "m" ++ decimal number) ((codes "m" ++ decimal number ++ codes " " ++ address ++ codes " " ++ text) ++ codes "\n")
numbered number address text small alone quiet =
    let verb : List ℕ = codes "m" ++ decimal number in
    let plain : lacks 32 verb ≡ true = all_append (λ b. not (b == 32)) (codes "m") (decimal number) refl (spaceless (decimal number) (number_plain number small)) in
    let ode : bytes_eq (decimal number) (codes "ode") ≡ false = not_word number (codes "ode") small refl in
    let routed : bytes_eq (decimal number) (codes "isrouted") ≡ false = not_word number (codes "isrouted") small refl in
    subst (λ (u : List ℕ). IsSkipped verb (u ++ codes "\n")) (sym (spaced_twice verb address text))
    (skipped verb (address ++ 32 ∷ text) plain (both (codes "m") (decimal number) refl (digits_feedless number)) (both address (32 ∷ text) alone quiet) (λ ws. rw (ode, routed, number_again number small) refl))

two_ends : (from to : Id) → IsTrue (is_id from) → IsTrue (is_id to) → lacks 10 (from ++ codes "->" ++ to) ≡ true
two_ends from to good fine = glued from (codes "->" ∷ to ∷ []) (id_feedless from good) (refl, ((id_feedless to fine), tt))

one_end : (from : Id) → IsTrue (is_id from) → lacks 10 (from ++ codes "->*") ≡ true
one_end from good = both from (codes "->*") (id_feedless from good) refl

address_feedless : (m : Message) → FitsMessage m → lacks 10 (address_text m) ≡ true
address_feedless (JoinMessage j) h = two_ends j.source j.target h.0 h.1
address_feedless (PublishMessage r) h = one_end r.source h
address_feedless (ResponseMessage r) h = two_ends r.source r.target h.0 h.1
address_feedless (CommitMessage c) h = one_end c.source h

pub shown_read : LawShown
shown_read = record {
  won = λ n term good.
      subst (λ (t : List ℕ). IsSkipped (codes "won") ((codes "won" ++ 32 ∷ t) ++ codes "\n")) (sym (spaced n (decimal term)))
      (skipped (codes "won") (n ++ 32 ∷ decimal term) refl refl (both n (32 ∷ decimal term) (id_feedless n good) (digits_feedless term)) (λ ws. refl));
  committed = λ state. skipped (codes "committed") (state_text state) refl refl (state_feedless state) (λ ws. refl);
  sent = λ number message small fits. numbered number (address_text message) (message_text message) small (address_feedless message fits) (message_feedless message);
}

-- ---- nodes

pub node_read : LawNode
node_read = record {
  down = λ n good. skipped (codes "down") n refl refl (id_feedless n good) (λ ws. refl);
  up = λ n good. skipped (codes "up") n refl refl (id_feedless n good) (λ ws. refl);
  crashed = λ n good. skipped (codes "crashed") n refl refl (id_feedless n good) (λ ws. refl);
  disk = λ n good. skipped (codes "disk") n refl refl (id_feedless n good) (λ ws. refl);
  unsent = skipped_alone (codes "unsent") refl refl refl;
  misrouted = skipped_alone (codes "misrouted") refl refl refl;
}

-- ---- events

mode_feedless : (mode : Mode) → FitsMode mode → lacks 10 (mode_text mode) ≡ true
mode_feedless mode.Candidate fits = refl
mode_feedless mode.Leader fits = refl
mode_feedless (mode.Follower leader) fits = id_feedless leader fits

cause_feedless : (c : DropCause) → lacks 10 (cause_text c) ≡ true
cause_feedless Checks = refl
cause_feedless Lag = refl
cause_feedless Disconnect = refl

pub event_read : LawEvent
event_read = record {
  mode = λ n mode term good fits.
      subst (λ (t : List ℕ). IsSkipped (codes "mode") ((codes "mode" ++ 32 ∷ t) ++ codes "\n")) (sym (spaced_twice n (mode_text mode) (decimal term)))
      (skipped (codes "mode") (n ++ 32 ∷ (mode_text mode ++ 32 ∷ decimal term)) refl refl (both n (32 ∷ (mode_text mode ++ 32 ∷ decimal term)) (id_feedless n good) (both (mode_text mode) (32 ∷ decimal term) (mode_feedless mode fits) (digits_feedless term))) (λ ws. refl));
  drop = λ n d good fine.
      subst (λ (t : List ℕ). IsSkipped (codes "drop") ((codes "drop" ++ 32 ∷ t) ++ codes "\n")) (sym (onward _ n _ (cause_text d.cause) (onward _ n _ (codes " ") (spaced n d.member))))
      (skipped (codes "drop") (n ++ 32 ∷ (d.member ++ codes " " ++ cause_text d.cause)) refl refl (both n (32 ∷ (d.member ++ codes " " ++ cause_text d.cause)) (id_feedless n good) (glued d.member (codes " " ∷ cause_text d.cause ∷ []) (id_feedless d.member fine) (refl, ((cause_feedless d.cause), tt)))) (λ ws. refl));
  frame = λ number f small fits.
      let prefix : List ℕ = codes "m" ++ decimal number ++ codes " " in
      let same : (((prefix ++ f.from) ++ codes "->") ++ f.to) ≡ prefix ++ (f.from ++ codes "->" ++ f.to) =
      ap (λ (t : List ℕ). t ++ f.to) (append_assoc prefix f.from (codes "->")) ∙ append_assoc prefix (f.from ++ codes "->") f.to in
      subst (λ (t : List ℕ). IsSkipped (codes "m" ++ decimal number) ((t ++ codes " " ++ frame_text f.message) ++ codes "\n")) (sym same)
      (numbered number (f.from ++ codes "->" ++ f.to) (frame_text f.message) small (two_ends f.from f.to fits.0 fits.1) (frame_feedless f.message fits.2));
  reply = λ n answer good.
      subst (λ (t : List ℕ). IsSkipped (codes "reply") ((codes "reply" ++ 32 ∷ t) ++ codes "\n")) (sym (spaced n (reply_text answer.reply)))
      (skipped (codes "reply") (n ++ 32 ∷ reply_text answer.reply) refl refl (both n (32 ∷ reply_text answer.reply) (id_feedless n good) (reply_feedless answer.reply)) (λ ws. refl));
}
