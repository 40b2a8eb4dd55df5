-- What each line tells.
use Rattle.std.proofs.Common.{◌≡◌, ◌≢◌, ℕ, ◌-◌, true, false, Ok, None, Some, List, [], ◌∷◌, ◌++◌, length, not, subst, refl, sym, ap, ◌∙◌, codes, decimal, append_assoc, IsTrue, arith}
use Rattle.std.specs.Prelude.{◌==◌}
use Rattle.std.specs.Str.{bytes_eq}
use Rattle.std.specs.Cmp.Lexicographic.{same_text}
use Rattle.std.proofs.Math.Seq.{drop-append_seam, take-append_seam}
use Rattle.std.proofs.lemmas.List.{length-append}
use Rattle.std.proofs.lemmas.Bool.Decides.{nat_tests}
use Rattle.voting_config.specs.Ids.{Id, is_id, is_id_byte}
use Rattle.serde_json.specs.Written.{compact_text}
use Rattle.cluster_state.specs.Json.{value_json}
use Rattle.client_lines.specs.Replies.{reply_text}
use Rattle.policy_model.specs.declared.events.DropCause.{DropCause}
use Rattle.policy_model.specs.declared.events.DropCause.TheVariants.{Checks, Lag, Disconnect}
use Rattle.policy_model.specs.declared.events.Mode.{Mode}
use Rattle.policy_model.specs.declared.events.Mode.TheVariants as mode
use Rattle.world_model.specs.declared.acts.Act.TheVariants.{Bootstrap, StartJoin, TakeJoin, Value, Publish, Response, Commit, Open}
use Rattle.world_model.specs.declared.acts.Message.TheVariants.{Join as JoinMessage, Publish as PublishMessage, Response as ResponseMessage, Commit as CommitMessage}
use Rattle.voting_config.specs.Lists.{list_text, parts_of}
use Rattle.schedule_text.specs.Lines.{any_number, two, words_of}
use Rattle.schedule_text.proofs.WordLaws.{lacks, all_append, split_first, split_alone, parts_not_empty}
use Rattle.trace_text.specs.declared.ending.Ending.{Ending}
use Rattle.trace_text.specs.declared.ending.Ending.TheVariants as ending
use Rattle.trace_text.specs.Endings.{ending_of}
use Rattle.trace_text.specs.Trace.{ending_text, id_text, state_text, message_text}
use Rattle.event_text.specs.Events.{cause_text}
use Rattle.event_text.specs.Frames.{message_text as frame_text}
use Rattle.event_text.specs.Deeds.{mode_text}
use Rattle.trace_reader.specs.declared.progress.Progress.{Progress}
use Rattle.trace_reader.specs.declared.said.Said.{Said}
use Rattle.trace_reader.specs.declared.said.Said.TheVariants as said
use Rattle.trace_reader.specs.Reading.{words_said}
use Rattle.trace_reader.specs.Results.{node, act_at, act_words, ending_at, ends_at, is_act_word, mode_at, node_alone, node_with_rest, receiver_at, result_at, sender_at, some_word}
use Rattle.trace_laws.specs.Said.{ending_said_by, mode_said_by}
use Rattle.line_laws.specs.Fits.{IsSmall, FitsEnding, FitsMode}
use Rattle.trace_laws.specs.Laws.{IsRead, IsResult, LawOutcome, LawWon, LawCommitted, LawSent, LawFramed, LawState, LawDelivery, LawNote}
use Rattle.line_laws.proofs.Plain.{plain_lacks, spaceless, number_again, number_plain, ending_plain}
use Rattle.line_laws.proofs.Json.{both, digits_feedless}
use Rattle.line_laws.proofs.Feedless.{glued, id_feedless, list_feedless, pair_feedless, state_feedless, act_feedless, message_feedless, frame_feedless, reply_feedless}
use Rattle.line_laws.proofs.Cuts.{spaced, spaced_twice, onward, first_and_rest, id_lacks, id_without, not_word}
use Rattle.trace_laws.proofs.Lines.{read_by, id_again, result_read}

-- ---- acts

ending_again : (e : Ending) → ending_at (ending_text e) ≡ Ok (ending_said_by e)
ending_again ending.Taken = refl
ending_again (ending.Refused cause) = refl
ending_again ending.Stopped = refl
ending_again ending.Disk = refl
ending_again ending.Crashed = refl

act_word_again : (w rest : List ℕ) → lacks 32 w ≡ true → is_act_word w ≡ true → act_words (words_of (w ++ 32 ∷ rest)) ≡ Ok tt
act_word_again w rest h k = rw (first_and_rest w rest h, k) refl

act_again : (n : Id) (e : Ending) (w rest : List ℕ) → IsTrue (is_id n) → FitsEnding e → lacks 32 w ≡ true → is_act_word w ≡ true
    → act_at (words_of (n ++ 32 ∷ (ending_text e ++ 32 ∷ (w ++ 32 ∷ rest)))) ≡ Ok (said.Act n (ending_said_by e))
act_again n e w rest good fits h k =
    let behind = w ++ 32 ∷ rest in
    rw (first_and_rest n (ending_text e ++ 32 ∷ behind) (id_lacks n good), id_again n good, first_and_rest (ending_text e) behind (spaceless (ending_text e) (ending_plain e fits)), ending_again e, act_word_again w rest h k) refl

act_told : (p : Progress) (actor n : Id) (e : Ending) (w rest : List ℕ) → IsResult p actor → IsTrue (is_id n) → FitsEnding e → lacks 32 w ≡ true → is_act_word w ≡ true → lacks 10 (w ++ 32 ∷ rest) ≡ true
    → IsRead p (codes "act " ++ n ++ codes " " ++ ending_text e ++ codes " " ++ (w ++ 32 ∷ rest) ++ codes "\n") (said.Act n (ending_said_by e))
act_told p actor n e w rest is good fits h k quiet =
    let behind = w ++ 32 ∷ rest in
    let words : words_of (codes "act " ++ n ++ codes " " ++ ending_text e ++ codes " " ++ behind) ≡ codes "act" ∷ words_of (n ++ 32 ∷ (ending_text e ++ 32 ∷ behind)) =
    split_first 32 (codes "act") (n ++ codes " " ++ ending_text e ++ codes " " ++ behind) refl ∙ ap (λ (t : List ℕ). codes "act" ∷ words_of t) (spaced_twice n (ending_text e) behind) in
    let alone : lacks 10 (codes "act " ++ n ++ codes " " ++ ending_text e ++ codes " " ++ behind) ≡ true =
    glued (codes "act ") (n ∷ codes " " ∷ ending_text e ∷ codes " " ∷ behind ∷ []) refl
    ((id_feedless n good), (refl, ((plain_lacks 10 (omega arith) (ending_text e) (ending_plain e fits)), (refl, (quiet, tt))))) in
    read_by p (codes "act " ++ n ++ codes " " ++ ending_text e ++ codes " " ++ behind) (said.Act n (ending_said_by e)) alone
    (ap (words_said p) words ∙ result_read p actor (codes "act") (words_of (n ++ 32 ∷ (ending_text e ++ 32 ∷ behind))) (said.Act n (ending_said_by e)) is (act_again n e w rest good fits h k))

-- ---- a node and something behind it

node_again : (n : Id) (rest : List ℕ) → IsTrue (is_id n) → node_with_rest (words_of (n ++ 32 ∷ rest)) ≡ Ok n
node_again n rest good = rw (first_and_rest n rest (id_lacks n good), id_again n good) refl

-- the line of a verb, which gives what stands behind it a meaning
verb_told : (p : Progress) (actor : Id) (verb behind : List ℕ) (t : Said) → IsResult p actor → lacks 32 verb ≡ true → bytes_eq verb (codes ">") ≡ false → lacks 10 verb ≡ true → lacks 10 behind ≡ true → result_at actor p.next verb (words_of behind) ≡ Ok t
    → IsRead p ((verb ++ 32 ∷ behind) ++ codes "\n") t
verb_told p actor verb behind t is h k whole quiet e =
    let words : words_of (verb ++ 32 ∷ behind) ≡ verb ∷ words_of behind = split_first 32 verb behind h in
    read_by p (verb ++ 32 ∷ behind) t (both verb (32 ∷ behind) whole quiet) (ap (words_said p) words ∙ rw k (result_read p actor verb (words_of behind) t is e))

record_told : (p : Progress) (actor n : Id) (rest : List ℕ) → IsResult p actor → IsTrue (is_id n) → lacks 10 rest ≡ true → IsRead p ((codes "record" ++ 32 ∷ (n ++ 32 ∷ rest)) ++ codes "\n") (said.Opened n)
record_told p actor n rest is good quiet = verb_told p actor (codes "record") (n ++ 32 ∷ rest) (said.Opened n) is refl refl refl (both n (32 ∷ rest) (id_feedless n good) quiet) (rw (node_again n rest good) refl)

pub outcome_read : LawOutcome
outcome_read p actor n o (Bootstrap config) is good fits holds = act_told p actor n (ending_of o) (codes "boot") (list_text config) is good fits refl refl (act_feedless (Bootstrap config) holds)
outcome_read p actor n o (StartJoin candidate term) is good fits holds = act_told p actor n (ending_of o) (codes "startjoin") (candidate ++ codes " " ++ decimal term) is good fits refl refl (act_feedless (StartJoin candidate term) holds)
outcome_read p actor n o (TakeJoin j) is good fits holds = act_told p actor n (ending_of o) (codes "join") (j.source ++ codes " " ++ j.target ++ codes " " ++ decimal j.term ++ codes " " ++ id_text j.last_term j.last_version) is good fits refl refl (act_feedless (TakeJoin j) holds)
outcome_read p actor n o (Value version config value) is good fits holds = act_told p actor n (ending_of o) (codes "value") (decimal version ++ codes " " ++ list_text config ++ codes " " ++ compact_text (value_json value)) is good fits refl refl (act_feedless (Value version config value) holds)
outcome_read p actor n o (Publish r) is good fits holds = act_told p actor n (ending_of o) (codes "publish") (r.source ++ codes " " ++ state_text r.state) is good fits refl refl (act_feedless (Publish r) holds)
outcome_read p actor n o (Response r) is good fits holds = act_told p actor n (ending_of o) (codes "response") (r.source ++ codes " " ++ r.target ++ codes " " ++ id_text r.term r.version) is good fits refl refl (act_feedless (Response r) holds)
outcome_read p actor n o (Commit c) is good fits holds = act_told p actor n (ending_of o) (codes "commit") (c.source ++ codes " " ++ id_text c.term c.version) is good fits refl refl (act_feedless (Commit c) holds)
outcome_read p actor n o (Open found) is good fits holds =
    let whole : List ℕ = n ++ codes " " ++ decimal found.term ++ codes " " ++ id_text found.accepted.term found.accepted.version ++ codes " " ++ list_text found.accepted.config ++ codes " " ++ list_text found.committed in
    let rest : List ℕ = decimal found.term ++ codes " " ++ id_text found.accepted.term found.accepted.version ++ codes " " ++ list_text found.accepted.config ++ codes " " ++ list_text found.committed in
    let same : whole ≡ n ++ 32 ∷ rest =
    onward _ n _ (list_text found.committed) (onward _ n _ (codes " ") (onward _ n _ (list_text found.accepted.config) (onward _ n _ (codes " ")
    (onward _ n _ (id_text found.accepted.term found.accepted.version) (onward _ n _ (codes " ") (spaced n (decimal found.term))))))) in
    let quiet : lacks 10 rest ≡ true =
    glued (decimal found.term) (codes " " ∷ id_text found.accepted.term found.accepted.version ∷ codes " " ∷ list_text found.accepted.config ∷ codes " " ∷ list_text found.committed ∷ []) (digits_feedless found.term)
    (refl, ((pair_feedless found.accepted.term found.accepted.version), (refl, ((list_feedless found.accepted.config holds.0), (refl, ((list_feedless found.committed holds.1), tt)))))) in
    subst (λ (t : List ℕ). IsRead p ((codes "record" ++ 32 ∷ t) ++ codes "\n") (said.Opened n)) (sym same) (record_told p actor n rest is good quiet)

-- ---- elections, commits, states

pair_again : (n : Id) (x : ℕ) → IsTrue (is_id n) → IsSmall x → (two node any_number).at (words_of (n ++ 32 ∷ decimal x)) ≡ Ok (n, x)
pair_again n x good small =
    let words : words_of (n ++ 32 ∷ decimal x) ≡ n ∷ decimal x ∷ [] =
    split_first 32 n (decimal x) (id_lacks n good) ∙ ap (λ (t : List (List ℕ)). n ∷ t) (split_alone 32 (decimal x) (spaceless (decimal x) (number_plain x small))) in
    rw (words, id_again n good, number_again x small) refl

pub won_read : LawWon
won_read p actor n term is good small =
    subst (λ (t : List ℕ). IsRead p ((codes "won" ++ 32 ∷ t) ++ codes "\n") (said.Won n term)) (sym (spaced n (decimal term)))
    (verb_told p actor (codes "won") (n ++ 32 ∷ decimal term) (said.Won n term) is refl refl refl (both n (32 ∷ decimal term) (id_feedless n good) (digits_feedless term)) (rw (pair_again n term good small) refl))

some_by : (parts : List (List ℕ)) → parts ≢ [] → some_word parts ≡ Ok tt
some_by [] some = absurd (some refl)
some_by (w ∷ ws) some = refl

pub committed_read : LawCommitted
committed_read p actor state is =
    verb_told p actor (codes "committed") (state_text state) (said.Committed actor) is refl refl refl (state_feedless state)
    (rw (some_by (words_of (state_text state)) (parts_not_empty 32 (state_text state))) refl)

alone_again : (n : Id) → IsTrue (is_id n) → node_alone (words_of n) ≡ Ok n
alone_again n good = rw (split_alone 32 n (id_lacks n good), id_again n good) refl

pub state_read : LawState
state_read = record {
  down = λ p actor n is good. verb_told p actor (codes "down") n (said.Down n) is refl refl refl (id_feedless n good) (rw (alone_again n good) refl);
  up = λ p actor n is good. verb_told p actor (codes "up") n (said.Up n) is refl refl refl (id_feedless n good) (rw (alone_again n good) refl);
  crashed = λ p actor n is good. verb_told p actor (codes "crashed") n (said.Crashed n) is refl refl refl (id_feedless n good) (rw (alone_again n good) refl);
  disk = λ p actor n is good. verb_told p actor (codes "disk") n (said.Disk n) is refl refl refl (id_feedless n good) (rw (alone_again n good) refl);
}

pub delivery_read : LawDelivery
delivery_read = record {
  unsent = λ p actor is. read_by p (codes "unsent") (said.Unsent actor) refl (result_read p actor (codes "unsent") [] (said.Unsent actor) is refl);
  misrouted = λ p actor is. read_by p (codes "misrouted") (said.Misrouted actor) refl (result_read p actor (codes "misrouted") [] (said.Misrouted actor) is refl);
}

-- ---- modes, drops and replies

mode_again : (n : Id) (mode : Mode) (term : ℕ) → IsTrue (is_id n) → FitsMode mode → IsSmall term → mode_at (words_of (n ++ 32 ∷ (mode_text mode ++ 32 ∷ decimal term))) ≡ Ok (said.Mode n (mode_said_by mode) term)
mode_again n mode.Candidate term good fits small =
    rw (first_and_rest n (codes "candidate" ++ 32 ∷ decimal term) (id_lacks n good), id_again n good, first_and_rest (codes "candidate") (decimal term) refl, number_again term small) refl
mode_again n mode.Leader term good fits small =
    rw (first_and_rest n (codes "leader" ++ 32 ∷ decimal term) (id_lacks n good), id_again n good, first_and_rest (codes "leader") (decimal term) refl, number_again term small) refl
mode_again n (mode.Follower leader) term good fits small =
    let behind = leader ++ 32 ∷ decimal term in
    rw (first_and_rest n (codes "follower" ++ 32 ∷ behind) (id_lacks n good), id_again n good, first_and_rest (codes "follower") behind refl, pair_again leader term fits small) refl

mode_feedless : (mode : Mode) → FitsMode mode → lacks 10 (mode_text mode) ≡ true
mode_feedless mode.Candidate fits = refl
mode_feedless mode.Leader fits = refl
mode_feedless (mode.Follower leader) fits = id_feedless leader fits

cause_feedless : (c : DropCause) → lacks 10 (cause_text c) ≡ true
cause_feedless Checks = refl
cause_feedless Lag = refl
cause_feedless Disconnect = refl

pub note_read : LawNote
note_read = record {
  mode = λ p actor n mode term is good fits small.
      subst (λ (t : List ℕ). IsRead p ((codes "mode" ++ 32 ∷ t) ++ codes "\n") (said.Mode n (mode_said_by mode) term)) (sym (spaced_twice n (mode_text mode) (decimal term)))
      (verb_told p actor (codes "mode") (n ++ 32 ∷ (mode_text mode ++ 32 ∷ decimal term)) (said.Mode n (mode_said_by mode) term) is refl refl refl (both n (32 ∷ (mode_text mode ++ 32 ∷ decimal term)) (id_feedless n good) (both (mode_text mode) (32 ∷ decimal term) (mode_feedless mode fits) (digits_feedless term))) (mode_again n mode term good fits small));
  drop = λ p actor n d is good fine.
      subst (λ (t : List ℕ). IsRead p ((codes "drop" ++ 32 ∷ t) ++ codes "\n") (said.Dropped n)) (sym (onward _ n _ (cause_text d.cause) (onward _ n _ (codes " ") (spaced n d.member))))
      (verb_told p actor (codes "drop") (n ++ 32 ∷ (d.member ++ codes " " ++ cause_text d.cause)) (said.Dropped n) is refl refl refl (both n (32 ∷ (d.member ++ codes " " ++ cause_text d.cause)) (id_feedless n good) (glued d.member (codes " " ∷ cause_text d.cause ∷ []) (id_feedless d.member fine) (refl, ((cause_feedless d.cause), tt)))) (rw (node_again n (d.member ++ codes " " ++ cause_text d.cause) good) refl));
  reply = λ p actor n answer is good.
      subst (λ (t : List ℕ). IsRead p ((codes "reply" ++ 32 ∷ t) ++ codes "\n") (said.Replied n)) (sym (spaced n (reply_text answer.reply)))
      (verb_told p actor (codes "reply") (n ++ 32 ∷ reply_text answer.reply) (said.Replied n) is refl refl refl (both n (32 ∷ reply_text answer.reply) (id_feedless n good) (reply_feedless answer.reply)) (rw (node_again n (reply_text answer.reply) good) refl));
}

-- ---- messages

no_angle : (b : ℕ) → is_id_byte b ≡ true → not (b == 62) ≡ true
no_angle b h = grind (arith, nat_tests)

id_angle : (n : Id) → IsTrue (is_id n) → lacks 62 n ≡ true
id_angle n h = id_without 62 no_angle n h

-- an id is no star
no_star : (n : Id) → IsTrue (is_id n) → bytes_eq n (codes "*") ≡ false
no_star n h =
    elim (bytes_eq n (codes "*")) as (λ b. bytes_eq n (codes "*") ≡ b → b ≡ false) [
      | true ↦ λ e. let star : is_id (codes "*") ≡ true = ap is_id (sym (same_text n (codes "*") (sym e))) ∙ h in absurd cc
      | false ↦ λ e. refl
    ] refl

sender_again : (n : Id) → IsTrue (is_id n) → sender_at (n ++ codes "-") ≡ Ok n
sender_again n good =
    let long : length (n ++ codes "-") - 1 ≡ length n = omega (arith, length-append n (codes "-")) in
    rw (long, drop-append_seam n (codes "-"), take-append_seam n (codes "-"), id_again n good) refl

receiver_again : (n : Id) → IsTrue (is_id n) → receiver_at n ≡ Ok (Some n)
receiver_again n good = rw (no_star n good, id_again n good) refl

ends_cut : (from : Id) (rest : List ℕ) → IsTrue (is_id from) → lacks 62 rest ≡ true → parts_of 62 (from ++ 45 ∷ 62 ∷ rest) ≡ (from ++ codes "-") ∷ rest ∷ []
ends_cut from rest good h =
    ap (parts_of 62) (sym (append_assoc from (codes "-") (62 ∷ rest)))
    ∙ split_first 62 (from ++ codes "-") rest (all_append (λ b. not (b == 62)) from (codes "-") (id_angle from good) refl)
    ∙ ap (λ (t : List (List ℕ)). (from ++ codes "-") ∷ t) (split_alone 62 rest h)

ends_again : (from to : Id) → IsTrue (is_id from) → IsTrue (is_id to) → ends_at (from ++ 45 ∷ 62 ∷ to) ≡ Ok (said.Sent from (Some to))
ends_again from to good fine = rw (ends_cut from to good (id_angle to fine), sender_again from good, receiver_again to fine) refl

star_again : (from : Id) → IsTrue (is_id from) → ends_at (from ++ 45 ∷ 62 ∷ codes "*") ≡ Ok (said.Sent from None)
star_again from good = rw (ends_cut from (codes "*") good refl, sender_again from good) refl

same_number : (k : ℕ) → (k == k) ≡ true
same_number k = grind (arith, nat_tests)

-- the line of the next message, by its ends
sent_told : (p : Progress) (actor : Id) (address text : List ℕ) (t : Said) → IsResult p actor → IsSmall p.next → lacks 32 address ≡ true → lacks 10 address ≡ true → lacks 10 text ≡ true → ends_at address ≡ Ok t
    → IsRead p ((codes "m" ++ decimal p.next ++ codes " " ++ address ++ codes " " ++ text) ++ codes "\n") t
sent_told p actor address text t is small h alone quiet e =
    let verb : List ℕ = codes "m" ++ decimal p.next in
    let plain : lacks 32 verb ≡ true = all_append (λ b. not (b == 32)) (codes "m") (decimal p.next) refl (spaceless (decimal p.next) (number_plain p.next small)) in
    let ode : bytes_eq (decimal p.next) (codes "ode") ≡ false = not_word p.next (codes "ode") small refl in
    let routed : bytes_eq (decimal p.next) (codes "isrouted") ≡ false = not_word p.next (codes "isrouted") small refl in
    let read : result_at actor p.next verb (words_of (address ++ 32 ∷ text)) ≡ Ok t =
    rw (ode, routed, number_again p.next small, same_number p.next, first_and_rest address text h) e in
    subst (λ (u : List ℕ). IsRead p (u ++ codes "\n") t) (sym (spaced_twice verb address text))
    (verb_told p actor verb (address ++ 32 ∷ text) t is plain refl (both (codes "m") (decimal p.next) refl (digits_feedless p.next)) (both address (32 ∷ text) alone quiet) read)

address_lacks : (from : Id) (rest : List ℕ) → IsTrue (is_id from) → lacks 32 rest ≡ true → lacks 32 (from ++ 45 ∷ 62 ∷ rest) ≡ true
address_lacks from rest good h = all_append (λ b. not (b == 32)) from (45 ∷ 62 ∷ rest) (id_lacks from good) h

-- the ends of a message, in one piece
joined : (from to : List ℕ) → from ++ codes "->" ++ to ≡ from ++ 45 ∷ 62 ∷ to
joined from to = append_assoc from (codes "->") to

two_ends : (p : Progress) (actor from to : Id) (text : List ℕ) → IsResult p actor → IsSmall p.next → IsTrue (is_id from) → IsTrue (is_id to) → lacks 10 text ≡ true
    → IsRead p ((codes "m" ++ decimal p.next ++ codes " " ++ (from ++ codes "->" ++ to) ++ codes " " ++ text) ++ codes "\n") (said.Sent from (Some to))
two_ends p actor from to text is small good fine quiet =
    let clear : lacks 32 (from ++ codes "->" ++ to) ≡ true = rw (joined from to) (address_lacks from to good (id_lacks to fine)) in
    let ends : ends_at (from ++ codes "->" ++ to) ≡ Ok (said.Sent from (Some to)) = rw (joined from to) (ends_again from to good fine) in
    let alone : lacks 10 (from ++ codes "->" ++ to) ≡ true = glued from (codes "->" ∷ to ∷ []) (id_feedless from good) (refl, ((id_feedless to fine), tt)) in
    sent_told p actor (from ++ codes "->" ++ to) text (said.Sent from (Some to)) is small clear alone quiet ends

one_end : (p : Progress) (actor from : Id) (text : List ℕ) → IsResult p actor → IsSmall p.next → IsTrue (is_id from) → lacks 10 text ≡ true
    → IsRead p ((codes "m" ++ decimal p.next ++ codes " " ++ (from ++ codes "->*") ++ codes " " ++ text) ++ codes "\n") (said.Sent from None)
one_end p actor from text is small good quiet = sent_told p actor (from ++ codes "->*") text (said.Sent from None) is small (address_lacks from (codes "*") good refl) (both from (codes "->*") (id_feedless from good) refl) quiet (star_again from good)

pub sent_read : LawSent
sent_read p actor (JoinMessage j) is small fits = two_ends p actor j.source j.target (message_text (JoinMessage j)) is small fits.0 fits.1 (message_feedless (JoinMessage j))
sent_read p actor (PublishMessage r) is small fits = one_end p actor r.source (message_text (PublishMessage r)) is small fits (message_feedless (PublishMessage r))
sent_read p actor (ResponseMessage r) is small fits = two_ends p actor r.source r.target (message_text (ResponseMessage r)) is small fits.0 fits.1 (message_feedless (ResponseMessage r))
sent_read p actor (CommitMessage c) is small fits = one_end p actor c.source (message_text (CommitMessage c)) is small fits (message_feedless (CommitMessage c))

pub framed_read : LawFramed
framed_read p actor frame is small fits =
    let prefix : List ℕ = codes "m" ++ decimal p.next ++ codes " " in
    let same : (((prefix ++ frame.from) ++ codes "->") ++ frame.to) ≡ prefix ++ (frame.from ++ codes "->" ++ frame.to) =
    ap (λ (t : List ℕ). t ++ frame.to) (append_assoc prefix frame.from (codes "->")) ∙ append_assoc prefix (frame.from ++ codes "->") frame.to in
    subst (λ (t : List ℕ). IsRead p ((t ++ codes " " ++ frame_text frame.message) ++ codes "\n") (said.Sent frame.from (Some frame.to))) (sym same)
    (two_ends p actor frame.from frame.to (frame_text frame.message) is small fits.0 fits.1 (frame_feedless frame.message fits.2))
