-- A word that is read is the one that was spelled, and what is spelled is read again.
use Rattle.std.proofs.Common.{◌≡◌, ℕ, ◌^◌, ◌<◌, ◌≤◌, Bool, true, false, cond, not, ◌&&◌, ◌||◌, List, [], ◌∷◌, ◌++◌, length, get_or, Result, Ok, Err, refl, sym, ap, subst, ◌∙◌, arith, ◌≢◌, inl, inr, IsTrue, rules}
use Rattle.std.specs.Prelude.{nat_le, nat_lt, ◌==◌, codes, decimal}
use Rattle.std.specs.Str.{bytes_eq}
use Rattle.std.specs.Cmp.Lexicographic.{same_text}
use Rattle.std.specs.List.{list_all, onto_first, join_with_byte}
use Rattle.std.proofs.lemmas.Bool.{cases_lt, and_parts, and_from}
use Rattle.std.proofs.lemmas.Bool.Decides.{nat_tests}
use Rattle.std.proofs.lemmas.Fmt.{decimal-digits_value, digits_decimal, digits_value-decimal, first_decimal, decimal_nonempty, decimal_digit}
use Rattle.std.proofs.lemmas.Str.Parse.{IsNumeralModel, numerals_by_fold}
use Rattle.std.proofs.lemmas.List.Splits.{join_with_byte-slice_split, length-slice_split}
use Rattle.voting_config.specs.Ids.{Id, is_id, is_id_byte, has, most_ids}
use Rattle.schedule_text.specs.declared.fault.WhyBad.{WhyBad}
use Rattle.schedule_text.specs.declared.fault.WhyBad.TheVariants as why
use Rattle.voting_config.specs.Lists.{may_follow, are_ids_after, parts_of, items_of, list_text}
use Rattle.schedule_text.specs.Words.{◌>>=◌, Word, itself, listed, text, is_digit, value_from, is_decimal, number, list}

-- no space and no line feed
abbrev pub is_plain : List ℕ → Bool
is_plain w = list_all (nat_lt 32) w

pub record IsWord {A : Type 0} (w : Word A) : Type 0 where
  pub takes : (bytes : List ℕ) (x : A) → w.at bytes ≡ Ok x → (bytes ≡ w.spelling x) × w.Fits x
  pub again : (x : A) → w.Fits x → w.at (w.spelling x) ≡ Ok x
  pub plain : (x : A) → w.Fits x → is_plain (w.spelling x) ≡ true

-- ---- steps

pub bind_ok : {A B : Type 0} (r : Result A WhyBad) (f : A → Result B WhyBad) (y : B) → (r >>= f) ≡ Ok y → (x : A) × (r ≡ Ok x) × (f x ≡ Ok y)
bind_ok (Ok x) f y e = (x, refl, e)
bind_ok (Err d) f y e = absurd cc

pub want_ok : {A : Type 0} (b : Bool) (d : WhyBad) (r : Result A WhyBad) (y : A) → cond b r (Err d) ≡ Ok y → (b ≡ true) × (r ≡ Ok y)
want_ok true d r y e = (refl, e)
want_ok false d r y e = absurd cc

abbrev done : {A : Type 0} → A → Result A WhyBad
done x = Ok x

pub ok_is : {A : Type 0} (x y : A) → done x ≡ done y → x ≡ y
ok_is x y e = cc

pub all_weaker : (p q : ℕ → Bool) → ((b : ℕ) → p b ≡ true → q b ≡ true) → (xs : List ℕ) → list_all p xs ≡ true → list_all q xs ≡ true
all_weaker p q f [] h = refl
all_weaker p q f (x ∷ xs) h = let parts = and_parts (p x) _ h in and_from _ _ (f x parts.0) (all_weaker p q f xs parts.1)

pub all_append : (p : ℕ → Bool) (xs ys : List ℕ) → list_all p xs ≡ true → list_all p ys ≡ true → list_all p (xs ++ ys) ≡ true
all_append p [] ys h k = k
all_append p (x ∷ xs) ys h k = let parts = and_parts (p x) _ h in and_from _ _ parts.0 (all_append p xs ys parts.1 k)

-- ---- words that stand for themselves

pub itself_law : (good : List ℕ → Bool) (bad : WhyBad) → ((w : List ℕ) → good w ≡ true → is_plain w ≡ true) → IsWord (itself good bad)
itself_law good bad plain = record {
  takes = λ bytes x e. let got = want_ok (good bytes) bad (Ok bytes) x e in let same = ok_is bytes x got.1 in (same, subst (λ (w : List ℕ). IsTrue (good w)) same got.0);
  again = λ x h. rw h refl;
  plain = λ x h. plain x h;
}

id_byte_plain : (b : ℕ) → is_id_byte b ≡ true → nat_lt 32 b ≡ true
id_byte_plain b h = grind (arith, nat_tests)

pub id_plain : (w : List ℕ) → is_id w ≡ true → is_plain w ≡ true
id_plain w h = all_weaker is_id_byte (nat_lt 32) id_byte_plain w (and_parts (nat_lt 0 (length w) && nat_le (length w) 32) _ h).1

pub has_id : (w : List ℕ) (ids : List Id) → list_all is_id ids ≡ true → has w ids ≡ true → is_id w ≡ true
has_id w [] h k = absurd cc
has_id w (i ∷ ids) h k =
    let parts = and_parts (is_id i) _ h in
    elim (bytes_eq i w) as (λ b. bytes_eq i w ≡ b → (b || has w ids) ≡ true → is_id w ≡ true) [
      | true ↦ λ e m. subst (λ (v : List ℕ). is_id v ≡ true) (same_text i w (sym e)) parts.0
      | false ↦ λ e m. has_id w ids parts.1 m
    ] refl k

pub listed_law : (ids : List Id) → list_all is_id ids ≡ true → IsWord (listed ids)
listed_law ids good = itself_law (λ w. has w ids) why.Id (λ w h. id_plain w (has_id w ids good h))

pub text_law : IsWord text
text_law = itself_law is_id why.Text id_plain

-- ---- numbers

own : IsNumeralModel (λ ds. list_all is_digit ds ≡ true) (value_from 0)
own = numerals_by_fold _ (search rules) value_from (search rules)

record AreDigits (ds : List ℕ) : Type 0 where
  digits : list_all is_digit ds ≡ true
  some : 0 < length ds
  lone : get_or ds 0 0 ≡ 48 → length ds ≡ 1

decimal_parts : (ds : List ℕ) → is_decimal ds ≡ true → AreDigits ds
decimal_parts [] h = absurd cc
decimal_parts (b ∷ bs) h =
    let parts = and_parts (list_all is_digit (b ∷ bs)) _ h in
    record { digits = parts.0; some = omega arith; lone = λ e. grind (arith, nat_tests, parts.1) }

decimal_from : (ds : List ℕ) → AreDigits ds → is_decimal ds ≡ true
decimal_from [] h = absurd (omega (arith, h.some))
decimal_from (b ∷ bs) h = and_from _ _ h.digits (grind (arith, nat_tests, h.lone))

digit_plain : (b : ℕ) → is_digit b ≡ true → nat_lt 32 b ≡ true
digit_plain b h = grind (arith, nat_tests)

decimal_digits : (n : ℕ) → n < 2 ^ 64 → AreDigits (decimal n)
decimal_digits n h = record {
  digits = digits_decimal own n h;
  some = decimal_nonempty n h;
  lone = λ e. elim (cases_lt 0 n) [
    | inl lt ↦ absurd (omega (arith, first_decimal n lt h, e))
    | inr le ↦ let z : n ≡ 0 = omega (arith, le) in rw (z, decimal_digit 0 (omega arith)) refl
  ];
}

pub number_law : (low high : ℕ) → high < 2 ^ 64 → IsWord (number low high)
number_law low high h = record {
  takes = λ bytes x e.
      let got = want_ok (is_decimal bytes && nat_le low (value_from 0 bytes) && nat_le (value_from 0 bytes) high) why.Number (Ok (value_from 0 bytes)) x e in
      let parts = and_parts (is_decimal bytes && nat_le low (value_from 0 bytes)) _ got.0 in
      let first = and_parts (is_decimal bytes) _ parts.0 in
      let ds = decimal_parts bytes first.0 in
      let same = ok_is (value_from 0 bytes) x got.1 in
      let within : value_from 0 bytes ≤ high = grind (arith, nat_tests, parts.1) in
      let above : low ≤ value_from 0 bytes = grind (arith, nat_tests, first.1) in
      let spelled = decimal-digits_value own bytes ds.digits ds.some ds.lone (omega arith) in
      (sym spelled ∙ ap decimal same, subst (λ (n : ℕ). (low ≤ n) × (n ≤ high)) same (above, within));
  again = λ x f.
      let small : x < 2 ^ 64 = omega (arith, f.1, h) in
      let value = digits_value-decimal own x small in
      let is = decimal_from (decimal x) (decimal_digits x small) in
      let above : nat_le low x ≡ true = grind (arith, nat_tests, f.0) in
      let within : nat_le x high ≡ true = grind (arith, nat_tests, f.1) in
      rw (value, is, above, within) refl;
  plain = λ x f. all_weaker is_digit (nat_lt 32) digit_plain (decimal x) (digits_decimal own x (omega (arith, f.1, h)));
}

-- ---- parts

abbrev pub lacks : ℕ → List ℕ → Bool
lacks c xs = list_all (λ b. not (b == c)) xs

pub is_false : (b : Bool) → not b ≡ true → b ≡ false
is_false true h = absurd cc
is_false false h = refl

pub split_alone : (c : ℕ) (xs : List ℕ) → lacks c xs ≡ true → parts_of c xs ≡ xs ∷ []
split_alone c [] h = refl
split_alone c (x ∷ xs) h =
    let parts = and_parts (not (x == c)) _ h in
    let other : (x == c) ≡ false = is_false (x == c) parts.0 in
    rw (other, split_alone c xs parts.1) refl

pub split_first : (c : ℕ) (xs ys : List ℕ) → lacks c xs ≡ true → parts_of c (xs ++ c ∷ ys) ≡ xs ∷ parts_of c ys
split_first c [] ys h = let yes : (c == c) ≡ true = grind (arith, nat_tests) in rw yes refl
split_first c (x ∷ xs) ys h =
    let parts = and_parts (not (x == c)) _ h in
    let other : (x == c) ≡ false = is_false (x == c) parts.0 in
    rw (other, split_first c xs ys parts.1) refl

pub split_join : (c : ℕ) (x : List ℕ) (xs : List (List ℕ)) → list_all (lacks c) (x ∷ xs) ≡ true → parts_of c (join_with_byte c (x ∷ xs)) ≡ x ∷ xs
split_join c x [] h = split_alone c x (and_parts (lacks c x) _ h).0
split_join c x (y ∷ ys) h =
    let parts = and_parts (lacks c x) _ h in
    split_first c x (join_with_byte c (y ∷ ys)) parts.0 ∙ ap (λ t. x ∷ t) (split_join c y ys parts.1)

pub join_split : (c : ℕ) (xs : List ℕ) → join_with_byte c (parts_of c xs) ≡ xs
join_split c xs = join_with_byte-slice_split c xs

-- no part has the byte at which it was cut
lack_onto : (c x : ℕ) (parts : List (List ℕ)) → not (x == c) ≡ true → list_all (lacks c) parts ≡ true → list_all (lacks c) (onto_first x parts) ≡ true
lack_onto c x [] n h = and_from _ _ (and_from _ _ n refl) refl
lack_onto c x (y ∷ ys) n h = let parts = and_parts (lacks c y) _ h in and_from _ _ (and_from _ _ n parts.0) parts.1

pub parts_lack : (c : ℕ) (bs : List ℕ) → list_all (lacks c) (parts_of c bs) ≡ true
parts_lack c [] = refl
parts_lack c (b ∷ bs) =
    elim (b == c) as (λ t. (b == c) ≡ t → list_all (lacks c) (cond t ([] ∷ parts_of c bs) (onto_first b (parts_of c bs))) ≡ true) [
      | true ↦ λ e. parts_lack c bs
      | false ↦ λ e. lack_onto c b (parts_of c bs) (ap not e) (parts_lack c bs)
    ] refl

-- ---- lists

id_byte_no_comma : (b : ℕ) → is_id_byte b ≡ true → not (b == 44) ≡ true
id_byte_no_comma b h = grind (arith, nat_tests)

pub ids_each : (p : List ℕ → Bool) → ((x : List ℕ) → is_id x ≡ true → p x ≡ true) → (prefix xs : List (List ℕ)) → are_ids_after prefix xs ≡ true → list_all p xs ≡ true
ids_each p f prefix [] h = refl
ids_each p f prefix (x ∷ xs) h =
    let parts = and_parts (may_follow prefix x) _ h in
    let first = and_parts (is_id x && nat_lt (length prefix) most_ids) _ parts.0 in
    and_from _ _ (f x (and_parts (is_id x) _ first.0).0) (ids_each p f (prefix ++ x ∷ []) xs parts.1)

id_no_comma : (x : List ℕ) → is_id x ≡ true → lacks 44 x ≡ true
id_no_comma x h = all_weaker is_id_byte (λ b. not (b == 44)) id_byte_no_comma x (and_parts (nat_lt 0 (length x) && nat_le (length x) 32) _ h).1

-- what holds of the byte and of each byte of the parts
pub join_all : (p : ℕ → Bool) (c : ℕ) → p c ≡ true → (xs : List (List ℕ)) → list_all (list_all p) xs ≡ true → list_all p (join_with_byte c xs) ≡ true
join_all p c h [] k = refl
join_all p c h (x ∷ []) k = (and_parts (list_all p x) _ k).0
join_all p c h (x ∷ y ∷ ys) k =
    let parts = and_parts (list_all p x) _ k in
    all_append p x (c ∷ join_with_byte c (y ∷ ys)) parts.0 (and_from _ _ h (join_all p c h (y ∷ ys) parts.1))

list_plain : (xs : List Id) → are_ids_after [] xs ≡ true → is_plain (list_text xs) ≡ true
list_plain [] h = refl
list_plain (x ∷ xs) h = join_all (nat_lt 32) 44 refl (x ∷ xs) (ids_each is_plain id_plain [] (x ∷ xs) h)

-- a text that begins with an id is no underscore
no_underscore : (b : ℕ) (bs : List ℕ) → is_id_byte b ≡ true → bytes_eq (b ∷ bs) (codes "_") ≡ false
no_underscore b bs h =
    let other : (b == 95) ≡ false = grind (arith, nat_tests) in
    rw other refl

list_no_underscore : (x : List ℕ) (xs : List (List ℕ)) → is_id x ≡ true → bytes_eq (join_with_byte 44 (x ∷ xs)) (codes "_") ≡ false
list_no_underscore [] xs h = absurd cc
list_no_underscore (b ∷ bs) [] h = no_underscore b bs (and_parts (is_id_byte b) _ (and_parts (nat_lt 0 (length (b ∷ bs)) && nat_le (length (b ∷ bs)) 32) _ h).1).0
list_no_underscore (b ∷ bs) (y ∷ ys) h = no_underscore b (bs ++ 44 ∷ join_with_byte 44 (y ∷ ys)) (and_parts (is_id_byte b) _ (and_parts (nat_lt 0 (length (b ∷ bs)) && nat_le (length (b ∷ bs)) 32) _ h).1).0

items_again : (xs : List Id) → are_ids_after [] xs ≡ true → items_of (list_text xs) ≡ xs
items_again [] h = refl
items_again (x ∷ xs) h =
    let parts = and_parts (may_follow [] x) _ h in
    let first = and_parts (is_id x && nat_lt 0 most_ids) _ parts.0 in
    rw (list_no_underscore x xs (and_parts (is_id x) _ first.0).0) (split_join 44 x xs (ids_each (lacks 44) id_no_comma [] (x ∷ xs) h))

list_of_parts : (xs : List (List ℕ)) → xs ≢ [] → list_text xs ≡ join_with_byte 44 xs
list_of_parts [] h = absurd (h refl)
list_of_parts (x ∷ xs) h = refl

pub parts_not_empty : (c : ℕ) (bs : List ℕ) → parts_of c bs ≢ []
parts_not_empty c bs e = omega (arith, length-slice_split (λ b. b == c) bs, ap length e)

items_spelled : (bytes : List ℕ) → bytes ≡ list_text (items_of bytes)
items_spelled bytes =
    elim (bytes_eq bytes (codes "_")) as (λ b. bytes_eq bytes (codes "_") ≡ b → bytes ≡ list_text (cond b [] (parts_of 44 bytes))) [
      | true ↦ λ e. same_text bytes (codes "_") (sym e)
      | false ↦ λ e. sym (list_of_parts (parts_of 44 bytes) (parts_not_empty 44 bytes) ∙ join_split 44 bytes)
    ] refl

pub list_law : (good : List Id → Bool) → IsWord (list good)
list_law good = record {
  takes = λ bytes x e.
      let got = want_ok (are_ids_after [] (items_of bytes) && good (items_of bytes)) why.List (Ok (items_of bytes)) x e in
      let same = ok_is (items_of bytes) x got.1 in
      (items_spelled bytes ∙ ap list_text same, subst (λ (xs : List Id). IsTrue (are_ids_after [] xs && good xs)) same got.0);
  again = λ x f.
      let parts = and_parts (are_ids_after [] x) _ f in
      rw (items_again x parts.0, f) refl;
  plain = λ x f. list_plain x (and_parts (are_ids_after [] x) _ f).0;
}
