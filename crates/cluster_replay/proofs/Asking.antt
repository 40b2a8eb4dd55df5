-- What a client's line asks is well formed.
use Rattle.std.proofs.Common.{◌≡◌, ℕ, ◌≤◌, Bool, true, false, not, ◌&&◌, cond, Option, None, Some, Ok, Err, List, [], ◌∷◌, length, position, refl, subst, nat_eq, nat_le, nat_lt, arith}
use Rattle.std.specs.Prelude.{codes, option_map, option_and_then, if◌then◌else◌, ◌==◌}
use Rattle.std.specs.Result.{result_ok}
use Rattle.std.specs.List.{list_all}
use Rattle.std.specs.Str.{is_utf8}
use Rattle.std.proofs.lemmas.Bool.{and_parts, and_from}
use Rattle.std.proofs.lemmas.Bool.Decides.{nat_tests}
use Rattle.serde_json.specs.Data.{Data, Items, no_items, item}
use Rattle.serde_json.specs.Events.{items_len}
use Rattle.serde_json.specs.Find.{get, as_str, as_array, as_bool}
use Rattle.serde_json.specs.Read.{read}
use Rattle.voting_config.specs.Ids.{Id, is_id, is_id_byte, most_ids, IsIdSet, set_of}
use Rattle.voting_config.specs.Parse.{parsed, all_good}
use Rattle.voting_config.specs.declared.node_id.IdError.TheVariants.{Empty, TooLong as IdTooLong}
use Rattle.voting_config.proofs.Parsing.{none_bad}
use Rattle.voting_config.proofs.Sets.{length-set_of}
use Rattle.cluster_state.specs.declared.request.Ask.TheVariants as ask
use Rattle.cluster_state.specs.declared.request.Request.{Request}
use Rattle.cluster_state.specs.declared.reply.LineFault.TheVariants.{TooLong}
use Rattle.client_lines.specs.Reading.{line_request, json_of, value_request, shaped}
use Rattle.client_lines.specs.Requests.{node_set_of, request_of, id_of, ask_of, put_of, remove_of, exclude_of, clear_of, state_of, has_members, node_ids_of, node_id_of, as_set, are_distinct, text_at}
use Rattle.cluster_replay.proofs.Fits.{no_ids, ids-fold, few_ids}
use Rattle.cluster_replay.proofs.JsonTexts.{IsTextData, got, read_text, str_text}
use Rattle.cluster_replay.proofs.NextFits.{IsGoodAsk}
use Rattle.cluster_replay.proofs.Somes.{IfSomeIs, if_some, bound, bound_of, mapped, either, some_has}

-- ids

id_read : (text : List ℕ) → IfSomeIs (λ x. is_id x ≡ true) (result_ok (parsed text))
id_read text = from (nat_eq (length text) 0) refl
  where
    good : nat_eq (length text) 0 ≡ false → nat_lt 32 (length text) ≡ false → (o : Option ℕ) → position (λ b. not (is_id_byte b)) text ≡ o → IfSomeIs (λ x. is_id x ≡ true) (result_ok (all_good text o))
    good e f None p = none_bad text (grind (arith, nat_tests)) (grind (arith, nat_tests)) p
    good e f (Some at) p = tt

    long : nat_eq (length text) 0 ≡ false → (b : Bool) → nat_lt 32 (length text) ≡ b → IfSomeIs (λ x. is_id x ≡ true) (result_ok (cond b (Err IdTooLong) (all_good text (position (λ b. not (is_id_byte b)) text))))
    long e true f = tt
    long e false f = good e f (position (λ b. not (is_id_byte b)) text) refl

    from : (b : Bool) → nat_eq (length text) 0 ≡ b → IfSomeIs (λ x. is_id x ≡ true) (result_ok (cond b (Err Empty) (cond (nat_lt 32 (length text)) (Err IdTooLong) (all_good text (position (λ b. not (is_id_byte b)) text)))))
    from true e = tt
    from false e = long e (nat_lt 32 (length text)) refl

ids_read : (ds : Items) → IfSomeIs (λ xs. list_all is_id xs ≡ true) (node_ids_of ds)
ids_read no_items = refl
ids_read (item d ds) =
    let rest : IfSomeIs (λ xs. list_all is_id xs ≡ true) (node_ids_of ds) = ids_read ds in
    bound (λ xs. list_all is_id xs ≡ true) (node_id_of d) (λ x. option_map (λ xs. x ∷ xs) (node_ids_of ds))
    (λ x e. mapped (λ xs. list_all is_id xs ≡ true) (λ xs. x ∷ xs) (node_ids_of ds)
    (λ xs k. and_from (is_id x) (list_all is_id xs) (some_has (λ y. is_id y ≡ true) (node_id_of d) x (bound (λ y. is_id y ≡ true) (as_str d) (λ text. result_ok (parsed text)) (λ text t. id_read text)) e)
    (some_has (λ ys. list_all is_id ys ≡ true) (node_ids_of ds) xs rest k)))

set_read : (xs : List Id) → list_all is_id xs ≡ true → IfSomeIs IsIdSet (as_set xs)
set_read xs h =
    if_some IsIdSet (are_distinct xs && nat_le (length xs) most_ids) (Some (set_of xs))
    (λ e.
    let few : nat_le (length xs) most_ids ≡ true = (and_parts (are_distinct xs) (nat_le (length xs) most_ids) e).1 in
    let short : length (set_of xs) ≤ length xs = length-set_of xs in
    let within : length xs ≤ most_ids = grind (arith, nat_tests) in
    few_ids (set_of xs) (ids-fold [] xs no_ids h) (omega (arith, short, within)))

exclude_read : (d : Data) → IfSomeIs IsGoodAsk (exclude_of d)
exclude_read d =
    bound IsGoodAsk (as_array d) (λ ds. if items_len ds == 0 then None else option_map ask.Exclude (node_set_of ds))
    (λ ds e. from ds (items_len ds == 0))
  where
    from : (ds : Items) (b : Bool) → IfSomeIs IsGoodAsk (if b then None else option_map ask.Exclude (node_set_of ds))
    from ds true = tt
    from ds false =
        mapped IsGoodAsk ask.Exclude (node_set_of ds)
        (λ ids k. some_has IsIdSet (node_set_of ds) ids (bound IsIdSet (node_ids_of ds) as_set (λ xs e. set_read xs (some_has (λ ys. list_all is_id ys ≡ true) (node_ids_of ds) xs (ids_read ds) e))) k)

-- texts

text_read : (name : List ℕ) (d : Data) → IsTextData d → IfSomeIs (λ s. is_utf8 s ≡ true) (text_at name d)
text_read name d t = bound_of IsTextData (λ s. is_utf8 s ≡ true) (get name d) as_str (got name d t) str_text

put_read : (d : Data) → IsTextData d → IfSomeIs IsGoodAsk (put_of d)
put_read d t =
    if_some IsGoodAsk (has_members 2 d) _
    (λ e. bound_of (λ s. is_utf8 s ≡ true) IsGoodAsk (text_at (codes "key") d) _ (text_read (codes "key") d t)
    (λ key k. bound_of (λ s. is_utf8 s ≡ true) IsGoodAsk (text_at (codes "value") d) _ (text_read (codes "value") d t) (λ value v. and_from (is_utf8 key) (is_utf8 value) k v)))

remove_read : (d : Data) → IfSomeIs IsGoodAsk (remove_of d)
remove_read d = if_some IsGoodAsk (has_members 1 d) _ (λ e. mapped IsGoodAsk ask.Remove (text_at (codes "key") d) (λ key k. tt))

clear_read : (d : Data) → IfSomeIs IsGoodAsk (clear_of d)
clear_read d = from (has_members 0 d)
  where
    from : (b : Bool) → IfSomeIs IsGoodAsk (if b then Some (ask.Clear true) else (if has_members 1 d then option_map ask.Clear (option_and_then as_bool (get (codes "wait_for_removal") d)) else None))
    from true = tt
    from false = if_some IsGoodAsk (has_members 1 d) _ (λ e. mapped IsGoodAsk ask.Clear _ (λ wait k. tt))

state_read : (d : Data) → IfSomeIs IsGoodAsk (state_of d)
state_read d = if_some IsGoodAsk (has_members 0 d) _ (λ e. tt)

-- requests

asked : (d : Data) → IsTextData d → IfSomeIs IsGoodAsk (ask_of d)
asked d t =
    either IsTextData IsGoodAsk put_of (get (codes "put") d) _ (got (codes "put") d t) put_read
    (either IsTextData IsGoodAsk remove_of (get (codes "remove") d) _ (got (codes "remove") d t) (λ x u. remove_read x)
    (either IsTextData IsGoodAsk exclude_of (get (codes "exclude") d) _ (got (codes "exclude") d t) (λ x u. exclude_read x)
    (either IsTextData IsGoodAsk clear_of (get (codes "clear") d) _ (got (codes "clear") d t) (λ x u. clear_read x)
    (either IsTextData IsGoodAsk state_of (get (codes "state") d) None (got (codes "state") d t) (λ x u. state_read x) tt))))

request_read : (d : Data) → IsTextData d → IfSomeIs (λ r. IsGoodAsk r.ask) (request_of d)
request_read d t =
    if_some (λ (r : Request). IsGoodAsk r.ask) (has_members 2 d) _
    (λ e. bound (λ (r : Request). IsGoodAsk r.ask) (id_of d) _
    (λ id i. bound (λ (r : Request). IsGoodAsk r.ask) (ask_of d) _ (λ a k. some_has IsGoodAsk (ask_of d) a (asked d t) k)))

value_read : (o : Option Data) (r : Request) → IfSomeIs IsTextData o → value_request o ≡ Ok r → IsGoodAsk r.ask
value_read None r t e = absurd (cc)
value_read (Some d) r t e = from (request_of d) (request_read d t) e
  where
    from : (o : Option Request) → IfSomeIs (λ x. IsGoodAsk x.ask) o → shaped o ≡ Ok r → IsGoodAsk r.ask
    from None h k = absurd (cc)
    from (Some x) h k = let is : x ≡ r = cc in subst (λ (y : Request). IsGoodAsk y.ask) is h

-- whatever the bytes of a line are
pub good-asks : (line : List ℕ) (r : Request) → line_request line ≡ Ok r → IsGoodAsk r.ask
unfolding line_request
good-asks line r e = from (nat_lt 8192 (length line)) e
  where
    from : (b : Bool) → (if b then Err TooLong else value_request (json_of line)) ≡ Ok r → IsGoodAsk r.ask
    from true k = absurd (cc)
    from false k = value_read (json_of line) r (if_some IsTextData (is_utf8 line) (read line) (λ u. read_text line u)) k
