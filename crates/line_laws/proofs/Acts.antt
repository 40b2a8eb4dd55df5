-- The line of an act, and that of a record, is read back.
use Rattle.std.proofs.Common.{◌≡◌, ℕ, true, not, Some, Ok, List, [], ◌∷◌, ◌++◌, refl, sym, ap, ◌∙◌, subst, codes, decimal, append_assoc, IsTrue, arith}
use Rattle.std.specs.Prelude.{◌==◌}
use Rattle.std.specs.List.{list_all, AllByRecursion}
use Rattle.std.proofs.lemmas.Bool.{and_from}
use Rattle.std.proofs.lemmas.Bool.Decides.{nat_tests}
use Rattle.serde_json.specs.Written.{compact_text}
use Rattle.voting_config.specs.Ids.{Id, is_id}
use Rattle.voting_config.specs.Lists.{are_ids_after, list_text, parts_of}
use Rattle.cluster_state.specs.Json.{value_json}
use Rattle.cluster_state.specs.Fields.{id}
use Rattle.cluster_state.specs.declared.state.ClusterValue.{ClusterValue}
use Rattle.cluster_state.specs.declared.messages.Join.{Join}
use Rattle.cluster_state.specs.declared.messages.PublishRequest.{PublishRequest}
use Rattle.cluster_state.specs.declared.messages.PublishResponse.{PublishResponse}
use Rattle.cluster_state.specs.declared.messages.ApplyCommit.{ApplyCommit}
use Rattle.cluster_state.specs.declared.state.Kept.{Kept}
use Rattle.world_model.specs.declared.acts.Act.{Act}
use Rattle.world_model.specs.declared.acts.Act.TheVariants.{Bootstrap, StartJoin, TakeJoin, Value, Publish, Response, Commit, Open}
use Rattle.schedule_text.specs.Words.{is_digit}
use Rattle.schedule_text.specs.Lines.{words_of}
use Rattle.schedule_text.proofs.WordLaws.{is_plain, lacks, all_append, id_plain, list_law, split_first, split_alone}
use Rattle.schedule_text.proofs.LineLaws.{split_words}
use Rattle.trace_text.specs.declared.ending.Ending.{Ending}
use Rattle.trace_text.specs.Trace.{ending_text, id_text, state_text}
use Rattle.recorded_trace.specs.declared.entry.Entry.TheVariants.{Acted, Recorded}
use Rattle.recorded_trace.specs.declared.kind.Kind.TheVariants as kind
use Rattle.recorded_trace.specs.Words.{node, ids, state_id}
use Rattle.recorded_trace.specs.Acts.{act_at, fields_at, found_at, kind_at, shown_record}
use Rattle.recorded_trace.specs.Lines.{words_shown}
use Rattle.line_laws.specs.Fits.{IsSmall, AreSmall, AreIds, FitsAct}
use Rattle.line_laws.specs.Readable.{IsListed, IsReadable, IsReadableRecord, EndsAs, kind_of}
use Rattle.line_laws.specs.Read.{IsRead, LawAct, LawRecord, recorded}
use Rattle.line_laws.proofs.Plain.{plain_lacks, spaceless, number_again, number_plain, ending_plain}
use Rattle.line_laws.proofs.Cuts.{done, spaced, spaced_twice, onward, first_and_rest, id_lacks, number_without}
use Rattle.line_laws.proofs.Causes.{ending_again, ends_fit}
use Rattle.line_laws.proofs.Json.{both, digits_feedless}
use Rattle.line_laws.proofs.JsonBack.{fit_id, listed, value_told, state_told}
use Rattle.line_laws.proofs.Feedless.{glued, id_feedless, act_feedless, list_feedless, pair_feedless}

-- ---- words

id_again : (n : Id) → IsTrue (is_id n) → node.at n ≡ done n
id_again n h = rw h refl

ids_again : (xs : List Id) → IsListed xs → ids.at (list_text xs) ≡ done xs
ids_again xs h = (list_law (λ ys. true)).again xs (and_from (are_ids_after [] xs) true (listed xs h) refl)

ids_plain : (xs : List Id) → IsListed xs → is_plain (list_text xs) ≡ true
ids_plain xs h = (list_law (λ ys. true)).plain xs (and_from (are_ids_after [] xs) true (listed xs h) refl)

digit_slash : (b : ℕ) → is_digit b ≡ true → not (b == 47) ≡ true
digit_slash b h = grind (arith, nat_tests)

pair_again : (term version : ℕ) → AreSmall term version → state_id.at (id_text term version) ≡ done (record { term = term; version = version })
pair_again term version h =
    let cut : parts_of 47 (id_text term version) ≡ decimal term ∷ decimal version ∷ [] =
    ap (parts_of 47) (append_assoc (decimal term) (codes "/") (decimal version))
    ∙ split_first 47 (decimal term) (decimal version) (number_without 47 digit_slash term)
    ∙ ap (λ (t : List (List ℕ)). decimal term ∷ t) (split_alone 47 (decimal version) (number_without 47 digit_slash version)) in
    rw (cut, number_again term h.0, number_again version h.1) refl

pair_plain : (term version : ℕ) → AreSmall term version → is_plain (id_text term version) ≡ true
pair_plain term version h = plain_append (decimal term ++ codes "/") (decimal version) (plain_append (decimal term) (codes "/") (number_plain term h.0) refl) (number_plain version h.1)
  where
    plain_append : (xs ys : List ℕ) → is_plain xs ≡ true → is_plain ys ≡ true → is_plain (xs ++ ys) ≡ true
    plain_append xs ys a b = all_append _ xs ys a b

two_words : (v w : List ℕ) → is_plain v ≡ true → is_plain w ≡ true → words_of ((v ++ codes " ") ++ w) ≡ v ∷ w ∷ []
two_words v w a b = ap words_of (spaced v w) ∙ split_words v (w ∷ []) (and_from (is_plain v) _ a (and_from (is_plain w) true b refl))

three_words : (u v w : List ℕ) → is_plain u ≡ true → is_plain v ≡ true → is_plain w ≡ true → words_of ((((u ++ codes " ") ++ v) ++ codes " ") ++ w) ≡ u ∷ v ∷ w ∷ []
three_words u v w a b c = ap words_of (spaced_twice u v w) ∙ split_words u (v ∷ w ∷ []) (and_from (is_plain u) _ a (and_from (is_plain v) _ b (and_from (is_plain w) true c refl)))

four_words : (t u v w : List ℕ) → is_plain t ≡ true → is_plain u ≡ true → is_plain v ≡ true → is_plain w ≡ true
    → words_of ((((((t ++ codes " ") ++ u) ++ codes " ") ++ v) ++ codes " ") ++ w) ≡ t ∷ u ∷ v ∷ w ∷ []
four_words t u v w a b c d =
    let same : (((((t ++ codes " ") ++ u) ++ codes " ") ++ v) ++ codes " ") ++ w ≡ t ++ 32 ∷ (u ++ 32 ∷ (v ++ 32 ∷ w)) = simp append_assoc in
    ap words_of same ∙ split_words t (u ∷ v ∷ w ∷ []) (and_from (is_plain t) _ a (and_from (is_plain u) _ b (and_from (is_plain v) _ c (and_from (is_plain w) true d refl))))

-- ---- the fields of each act

boot_again : (config : List Id) → IsListed config → fields_at kind.Boot (words_of (list_text config)) ≡ Ok (Bootstrap config)
boot_again config h = rw (split_alone 32 (list_text config) (spaceless (list_text config) (ids_plain config h)), ids_again config h) refl

start_again : (candidate : Id) (term : ℕ) → IsTrue (is_id candidate) → IsSmall term → fields_at kind.StartJoin (words_of (candidate ++ codes " " ++ decimal term)) ≡ Ok (StartJoin candidate term)
start_again candidate term is small = rw (two_words candidate (decimal term) (id_plain candidate is) (number_plain term small), is, number_again term small) refl

join_again : (j : Join) → IsReadable (TakeJoin j) → fields_at kind.Join (words_of (j.source ++ codes " " ++ j.target ++ codes " " ++ decimal j.term ++ codes " " ++ id_text j.last_term j.last_version)) ≡ Ok (TakeJoin j)
join_again j h =
    rw (
      four_words j.source j.target (decimal j.term) (id_text j.last_term j.last_version) (id_plain j.source h.0) (id_plain j.target h.1) (number_plain j.term h.2) (pair_plain j.last_term j.last_version h.3),
      h.0,
      h.1,
      number_again j.term h.2,
      pair_again j.last_term j.last_version h.3,
    ) refl

value_again : (version : ℕ) (config : List Id) (value : ClusterValue) → IsReadable (Value version config value)
    → fields_at kind.Value (words_of (decimal version ++ codes " " ++ list_text config ++ codes " " ++ compact_text (value_json value))) ≡ Ok (Value version config value)
value_again version config value h =
    let text = compact_text (value_json value) in
    let first = first_and_rest (decimal version) (list_text config ++ 32 ∷ text) (spaceless (decimal version) (number_plain version h.0)) in
    let second = first_and_rest (list_text config) text (spaceless (list_text config) (ids_plain config h.1)) in
    ap (λ (t : List ℕ). fields_at kind.Value (words_of t)) (spaced_twice (decimal version) (list_text config) text)
    ∙ rw (first, number_again version h.0, second, ids_again config h.1, value_told value h.2) refl

publish_again : (r : PublishRequest) → IsReadable (Publish r) → fields_at kind.Publish (words_of (r.source ++ codes " " ++ state_text r.state)) ≡ Ok (Publish r)
publish_again r h =
    ap (λ (t : List ℕ). fields_at kind.Publish (words_of t)) (spaced r.source (state_text r.state))
    ∙ rw (first_and_rest r.source (state_text r.state) (id_lacks r.source h.0), h.0, state_told r.state h.1) refl

response_again : (r : PublishResponse) → IsReadable (Response r) → fields_at kind.Response (words_of (r.source ++ codes " " ++ r.target ++ codes " " ++ id_text r.term r.version)) ≡ Ok (Response r)
response_again r h =
    rw (three_words r.source r.target (id_text r.term r.version) (id_plain r.source h.0) (id_plain r.target h.1) (pair_plain r.term r.version h.2), h.0, h.1, pair_again r.term r.version h.2) refl

commit_again : (c : ApplyCommit) → IsReadable (Commit c) → fields_at kind.Commit (words_of (c.source ++ codes " " ++ id_text c.term c.version)) ≡ Ok (Commit c)
commit_again c h = rw (two_words c.source (id_text c.term c.version) (id_plain c.source h.0) (pair_plain c.term c.version h.1), h.0, pair_again c.term c.version h.1) refl

-- ---- a line

each_id : (xs : List Id) → AllByRecursion id.Fits xs → AreIds xs
each_id [] h = refl
each_id (x ∷ xs) h = and_from (is_id x) (list_all is_id xs) (fit_id x h.0) (each_id xs h.1)

readable_fits : (act : Act) → IsReadable act → FitsAct act
readable_fits (Bootstrap config) h = each_id config h.2
readable_fits (StartJoin candidate term) h = h.0
readable_fits (TakeJoin j) h = (h.0, h.1)
readable_fits (Value version config value) h = each_id config h.1.2
readable_fits (Publish r) h = h.0
readable_fits (Response r) h = (h.0, h.1)
readable_fits (Commit c) h = h.0
readable_fits (Open found) h = (each_id found.accepted.config h.accepted.config.2, each_id found.committed h.committed.2)

-- the act whose word and fields these are
act_again : (n : Id) (e : Ending) (act : Act) (w rest : List ℕ) → IsTrue (is_id n) → EndsAs act e → lacks 32 w ≡ true → kind_at w ≡ Ok (kind_of act) → fields_at (kind_of act) (words_of rest) ≡ Ok act
    → act_at (words_of (n ++ 32 ∷ (ending_text e ++ 32 ∷ (w ++ 32 ∷ rest)))) ≡ Ok (Acted n e act)
act_again n e act w rest good ends h is fields =
    let behind = w ++ 32 ∷ rest in
    rw (
      first_and_rest n (ending_text e ++ 32 ∷ behind) (id_lacks n good),
      good,
      first_and_rest (ending_text e) behind (spaceless (ending_text e) (ending_plain e (ends_fit act e ends))),
      first_and_rest w rest h,
      is,
      ending_again act e ends,
      fields,
    ) refl

act_told : (n : Id) (e : Ending) (act : Act) (w rest : List ℕ) → IsTrue (is_id n) → EndsAs act e → lacks 32 w ≡ true → kind_at w ≡ Ok (kind_of act) → fields_at (kind_of act) (words_of rest) ≡ Ok act → lacks 10 (w ++ 32 ∷ rest) ≡ true
    → IsRead (codes "act " ++ n ++ codes " " ++ ending_text e ++ codes " " ++ (w ++ 32 ∷ rest) ++ codes "\n") (codes "act" ∷ n ∷ ending_text e ∷ []) (Some (Acted n e act))
act_told n e act w rest good ends h is fields quiet =
    let behind = w ++ 32 ∷ rest in
    let words : words_of (codes "act " ++ n ++ codes " " ++ ending_text e ++ codes " " ++ behind) ≡ codes "act" ∷ words_of (n ++ 32 ∷ (ending_text e ++ 32 ∷ behind)) =
    split_first 32 (codes "act") (n ++ codes " " ++ ending_text e ++ codes " " ++ behind) refl ∙ ap (λ (t : List ℕ). codes "act" ∷ words_of t) (spaced_twice n (ending_text e) behind) in
    let all : words_of (n ++ 32 ∷ (ending_text e ++ 32 ∷ behind)) ≡ n ∷ ending_text e ∷ words_of behind =
    split_first 32 n (ending_text e ++ 32 ∷ behind) (id_lacks n good) ∙ ap (λ (t : List (List ℕ)). n ∷ t) (split_first 32 (ending_text e) behind (spaceless (ending_text e) (ending_plain e (ends_fit act e ends)))) in
    record {
      line = codes "act " ++ n ++ codes " " ++ ending_text e ++ codes " " ++ behind;
      is = refl;
      alone = glued (codes "act ") (n ∷ codes " " ∷ ending_text e ∷ codes " " ∷ behind ∷ []) refl
          ((id_feedless n good), (refl, ((plain_lacks 10 (omega arith) (ending_text e) (ending_plain e (ends_fit act e ends))), (refl, (quiet, tt)))));
      rest = words_of behind;
      words = words ∙ ap (λ (t : List (List ℕ)). codes "act" ∷ t) all;
      tells = ap words_shown words ∙ rw (act_again n e act w rest good ends h is fields) refl;
    }

pub act_read : LawAct
act_read n e (Bootstrap config) good shut ends h = act_told n e (Bootstrap config) (codes "boot") (list_text config) good ends refl refl (boot_again config h) (act_feedless (Bootstrap config) (readable_fits (Bootstrap config) h))
act_read n e (StartJoin candidate term) good shut ends h =
    act_told n e (StartJoin candidate term) (codes "startjoin") (candidate ++ codes " " ++ decimal term) good ends refl refl (start_again candidate term h.0 h.1) (act_feedless (StartJoin candidate term) (readable_fits (StartJoin candidate term) h))
act_read n e (TakeJoin j) good shut ends h =
    act_told n e (TakeJoin j) (codes "join") (j.source ++ codes " " ++ j.target ++ codes " " ++ decimal j.term ++ codes " " ++ id_text j.last_term j.last_version) good ends refl refl (join_again j h) (act_feedless (TakeJoin j) (readable_fits (TakeJoin j) h))
act_read n e (Value version config value) good shut ends h =
    act_told n e (Value version config value) (codes "value") (decimal version ++ codes " " ++ list_text config ++ codes " " ++ compact_text (value_json value)) good ends refl refl
    (value_again version config value h) (act_feedless (Value version config value) (readable_fits (Value version config value) h))
act_read n e (Publish r) good shut ends h = act_told n e (Publish r) (codes "publish") (r.source ++ codes " " ++ state_text r.state) good ends refl refl (publish_again r h) (act_feedless (Publish r) (readable_fits (Publish r) h))
act_read n e (Response r) good shut ends h = act_told n e (Response r) (codes "response") (r.source ++ codes " " ++ r.target ++ codes " " ++ id_text r.term r.version) good ends refl refl (response_again r h) (act_feedless (Response r) (readable_fits (Response r) h))
act_read n e (Commit c) good shut ends h = act_told n e (Commit c) (codes "commit") (c.source ++ codes " " ++ id_text c.term c.version) good ends refl refl (commit_again c h) (act_feedless (Commit c) (readable_fits (Commit c) h))
act_read n e (Open found) good shut ends h = absurd cc

-- ---- a record

found_again : (found : Kept) → IsReadableRecord found
    → found_at (words_of (decimal found.term ++ codes " " ++ id_text found.accepted.term found.accepted.version ++ codes " " ++ list_text found.accepted.config ++ codes " " ++ list_text found.committed))
    ≡ Ok (shown_record found.term (record { term = found.accepted.term; version = found.accepted.version }) found.accepted.config found.committed)
found_again found h =
    rw (
      four_words (decimal found.term) (id_text found.accepted.term found.accepted.version) (list_text found.accepted.config) (list_text found.committed)
          (number_plain found.term h.term) (pair_plain found.accepted.term found.accepted.version h.accepted.numbers.0) (ids_plain found.accepted.config h.accepted.config) (ids_plain found.committed h.committed),
      number_again found.term h.term,
      pair_again found.accepted.term found.accepted.version h.accepted.numbers.0,
      ids_again found.accepted.config h.accepted.config,
      ids_again found.committed h.committed,
    ) refl

record_told : (n : Id) (rest : List ℕ) (found : Kept) → IsTrue (is_id n) → lacks 10 rest ≡ true → found_at (words_of rest) ≡ Ok found → IsRead ((codes "record" ++ 32 ∷ (n ++ 32 ∷ rest)) ++ codes "\n") (codes "record" ∷ []) (Some (Recorded n found))
record_told n rest found good quiet is =
    let words : words_of (codes "record" ++ 32 ∷ (n ++ 32 ∷ rest)) ≡ codes "record" ∷ words_of (n ++ 32 ∷ rest) = split_first 32 (codes "record") (n ++ 32 ∷ rest) refl in
    record {
      line = codes "record" ++ 32 ∷ (n ++ 32 ∷ rest);
      is = refl;
      alone = both n (32 ∷ rest) (id_feedless n good) quiet;
      rest = words_of (n ++ 32 ∷ rest);
      words = words;
      tells = ap words_shown words ∙ rw (first_and_rest n rest (id_lacks n good), good, is) refl;
    }

pub record_read : LawRecord
record_read n found good h =
    let rest : List ℕ = decimal found.term ++ codes " " ++ id_text found.accepted.term found.accepted.version ++ codes " " ++ list_text found.accepted.config ++ codes " " ++ list_text found.committed in
    let whole : List ℕ = n ++ codes " " ++ decimal found.term ++ codes " " ++ id_text found.accepted.term found.accepted.version ++ codes " " ++ list_text found.accepted.config ++ codes " " ++ list_text found.committed in
    let same : whole ≡ n ++ 32 ∷ rest =
    onward _ n _ (list_text found.committed) (onward _ n _ (codes " ") (onward _ n _ (list_text found.accepted.config) (onward _ n _ (codes " ")
    (onward _ n _ (id_text found.accepted.term found.accepted.version) (onward _ n _ (codes " ") (spaced n (decimal found.term))))))) in
    let quiet : lacks 10 rest ≡ true =
    glued (decimal found.term) (codes " " ∷ id_text found.accepted.term found.accepted.version ∷ codes " " ∷ list_text found.accepted.config ∷ codes " " ∷ list_text found.committed ∷ []) (digits_feedless found.term)
    (refl, ((pair_feedless found.accepted.term found.accepted.version), (refl, ((list_feedless found.accepted.config (each_id found.accepted.config h.accepted.config.2)), (refl, ((list_feedless found.committed (each_id found.committed h.committed.2)), tt)))))) in
    subst (λ (t : List ℕ). IsRead ((codes "record" ++ 32 ∷ t) ++ codes "\n") (codes "record" ∷ []) (Some (recorded n found))) (sym same) (record_told n rest _ good quiet (found_again found h))
