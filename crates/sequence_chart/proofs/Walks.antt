-- What stands in a chart for one line.
use Rattle.std.proofs.Common.{◌≡◌, ℕ, suc, ◌+◌, ◌-◌, ◌≤◌, Bool, true, false, cond, Option, None, Some, List, [], ◌∷◌, ◌++◌, length, IsTrue, refl, sym, ap, ◌∙◌, subst, arith, append_assoc}
use Rattle.std.specs.Prelude.{◌&&◌, nat_le, if◌then◌else◌}
use Rattle.std.specs.List.{slice_get}
use Rattle.std.proofs.lemmas.Bool.{le-leb}
use Rattle.std.proofs.lemmas.List.{length-append}
use Rattle.voting_config.specs.Ids.{Id}
use Rattle.trace_reader.specs.declared.said.Said.{Said}
use Rattle.trace_reader.specs.declared.said.Said.TheVariants as said
use Rattle.trace_reader.specs.declared.said.TraceLine.{TraceLine}
use Rattle.sequence_chart.specs.declared.columns.Column.{Column}
use Rattle.sequence_chart.specs.declared.messages.Origin.{Origin}
use Rattle.sequence_chart.specs.declared.rows.Cursor.{Cursor}
use Rattle.sequence_chart.specs.Rows.{after, first_cursor, label_row, next_label, walk}
use Rattle.sequence_chart.specs.Messages.{handed_from, message_at, origin_by, origin_in, origins_of}
use Rattle.sequence_chart.specs.Columns.{left_of, node_of}
use Rattle.sequence_chart.specs.Elements.{arrow, arrow_by, arrow_from, arrow_in, has_label, label, label_in, event_row_in}
use Rattle.sequence_chart.specs.Chart.{columns_of, heads, lifelines, lost_in}
use Rattle.sequence_chart.specs.Laws.{HasPart, cursor_after, place_behind, LawEachDelivery, LawEachLabel}

-- ---- parts

in_rest : (a whole part : List ℕ) → HasPart whole part → HasPart (a ++ whole) part
in_rest a whole part has = (a ++ has.0, has.1, ap (λ (t : List ℕ). a ++ t) has.2 ∙ sym (append_assoc a has.0 (part ++ has.1)))

in_front : (whole b part : List ℕ) → HasPart whole part → HasPart (whole ++ b) part
in_front whole b part has = (
  has.0,
  has.1 ++ b,
  ap (λ (t : List ℕ). t ++ b) has.2 ∙ append_assoc has.0 (part ++ has.1) b ∙ ap (λ (t : List ℕ). has.0 ++ t) (append_assoc part has.1 b),
)

-- a part of the third of several texts, and of the fifth
in_third : (a b c d part : List ℕ) → HasPart c part → HasPart (a ++ (b ++ (c ++ d))) part
in_third a b c d part has = in_rest a (b ++ (c ++ d)) part (in_rest b (c ++ d) part (in_front c d part has))

in_fifth : (a b c d e f part : List ℕ) → HasPart e part → HasPart (a ++ (b ++ (c ++ (d ++ (e ++ f))))) part
in_fifth a b c d e f part has = in_rest a (b ++ (c ++ (d ++ (e ++ f)))) part (in_rest b (c ++ (d ++ (e ++ f))) part (in_third c d e f part has))

-- ---- walks

pub walk_join : {A : Type 0} (f : Cursor → TraceLine → List A) (c : Cursor) (xs ys : List TraceLine) → walk f c (xs ++ ys) ≡ walk f c xs ++ walk f (cursor_after c xs) ys
walk_join f c [] ys = refl
walk_join {A} f c (x ∷ xs) ys =
    ap (λ (t : List A). f (after c x.said) x ++ t) (walk_join f (after c x.said) xs ys)
    ∙ sym (append_assoc (f (after c x.said) x) (walk f (after c x.said) xs) (walk f (cursor_after (after c x.said) xs) ys))

walk_has : (f : Cursor → TraceLine → List ℕ) (prefix rest : List TraceLine) (l : TraceLine) → HasPart (walk f first_cursor (prefix ++ (l ∷ rest))) (f (place_behind prefix l) l)
walk_has f prefix rest l = (walk f first_cursor prefix, walk f (place_behind prefix l) rest, walk_join f first_cursor prefix (l ∷ rest))

cursor_join : (c : Cursor) (xs ys : List TraceLine) → cursor_after c (xs ++ ys) ≡ cursor_after (cursor_after c xs) ys
cursor_join c [] ys = refl
cursor_join c (x ∷ xs) ys = cursor_join (after c x.said) xs ys

-- ---- messages

row_keeps : (free : Bool) (c : Cursor) → (label_row free c).sent ≡ c.sent
row_keeps true c = refl
row_keeps false c = refl

label_keeps : (c : Cursor) → (next_label c).sent ≡ c.sent
label_keeps c = row_keeps c.is_free c

one_more : (c : Cursor) (text : List ℕ) (t : Said) → length (origin_by (after c t) text t) + c.sent ≡ (after c t).sent
one_more c text (said.Delivery n k) = omega arith
one_more c text (said.Event n) = omega arith
one_more c text (said.Sent from to) = omega arith
one_more c text (said.Act n e) = omega (arith, label_keeps c)
one_more c text (said.Won n t) = omega (arith, label_keeps c)
one_more c text (said.Committed n) = omega (arith, label_keeps c)
one_more c text (said.Unsent n) = omega (arith, label_keeps c)
one_more c text (said.Misrouted n) = omega (arith, label_keeps c)
one_more c text (said.Crashed n) = omega (arith, label_keeps c)
one_more c text (said.Disk n) = omega (arith, label_keeps c)
one_more c text (said.Opened n) = omega (arith, label_keeps c)
one_more c text (said.Down n) = omega (arith, label_keeps c)
one_more c text (said.Up n) = omega (arith, label_keeps c)
one_more c text (said.Mode n m t) = omega (arith, label_keeps c)
one_more c text (said.Dropped n) = omega (arith, label_keeps c)
one_more c text (said.Replied n) = omega (arith, label_keeps c)

sent_along : (c : Cursor) (xs : List TraceLine) → length (walk origin_in c xs) + c.sent ≡ (cursor_after c xs).sent
sent_along c [] = omega arith
sent_along c (x ∷ xs) =
    omega (arith, length-append (origin_in (after c x.said) x) (walk origin_in (after c x.said) xs), one_more c x.text x.said, sent_along (after c x.said) xs)

get_seam : {A : Type 0} (xs : List A) (y : A) (ys : List A) → slice_get (xs ++ (y ∷ ys)) (length xs) ≡ Some y
get_seam [] y ys = refl
get_seam (x ∷ xs) y ys = get_seam xs y ys

-- the message of a line has its number
message_is : (prefix rest : List TraceLine) (m : TraceLine) (from : Id) (to : Option Id) (sent k : ℕ)
    → m.said ≡ said.Sent from to → k ≡ (place_behind prefix m).sent → k ≤ sent
    → message_at (origins_of (prefix ++ (m ∷ rest))) sent k ≡ Some (record { from = from; row = (place_behind prefix m).row; text = m.text })
message_is prefix rest m from to sent k is number within =
    let place = place_behind prefix m in
    let o : Origin = record { from = from; row = place.row; text = m.text } in
    let before = walk origin_in first_cursor prefix in
    let behind = walk origin_in place rest in
    let one : origin_in place m ≡ o ∷ [] = ap (origin_by place m.text) is in
    let all : origins_of (prefix ++ (m ∷ rest)) ≡ before ++ (o ∷ behind) = walk_join origin_in first_cursor prefix (m ∷ rest) ∙ ap (λ (t : List Origin). before ++ (t ++ behind)) one in
    let more : place.sent ≡ (cursor_after first_cursor prefix).sent + 1 = ap (λ (t : Said). (after (cursor_after first_cursor prefix) t).sent) is in
    let count : k ≡ length before + 1 = omega (arith, sent_along first_cursor prefix, more, number) in
    let at : k - 1 ≡ length before = omega (arith, count) in
    let low : nat_le 1 k ≡ true = le-leb 1 k (omega (arith, count)) in
    let high : nat_le k sent ≡ true = le-leb k sent within in
    let both : (nat_le 1 k && nat_le k sent) ≡ true = ap (λ (b : Bool). b && nat_le k sent) low ∙ high in
    let none : Option Origin = None in
    ap (λ (b : Bool). if b then slice_get (origins_of (prefix ++ (m ∷ rest))) (k - 1) else none) both
    ∙ ap (λ (os : List Origin). slice_get os (k - 1)) all
    ∙ ap (λ (i : ℕ). slice_get (before ++ (o ∷ behind)) i) at
    ∙ get_seam before o behind

sent_grows : (c : Cursor) (xs : List TraceLine) → c.sent ≤ (cursor_after c xs).sent
sent_grows c xs = omega (arith, sent_along c xs)

-- ---- laws

pub each_label : LawEachLabel
each_label left prefix rest l has =
    let lines = prefix ++ (l ∷ rest) in
    let columns = columns_of left lines in
    let part = label (left_of columns (node_of l.said)) (place_behind prefix l).row l in
    let shown : label_in columns (place_behind prefix l) l ≡ part = ap (λ (b : Bool). if b then part else []) has in
    let here : HasPart (walk (label_in columns) first_cursor lines) part = subst (λ (t : List ℕ). HasPart (walk (label_in columns) first_cursor lines) t) shown (walk_has (label_in columns) prefix rest l) in
    in_fifth (walk (event_row_in (origins_of lines)) first_cursor lines) (lifelines lines columns) (walk (arrow_in columns (origins_of lines)) first_cursor lines)
    (walk (lost_in columns (handed_from [] lines)) first_cursor lines) (walk (label_in columns) first_cursor lines) (heads lines columns) part here

pub each_delivery : LawEachDelivery
each_delivery left prefix between rest m l from n to k sends hands number =
    let lines = prefix ++ (m ∷ (between ++ (l ∷ rest))) in
    let columns = columns_of left lines in
    let origins = origins_of lines in
    let o : Origin = record { from = from; row = (place_behind prefix m).row; text = m.text } in
    let place = place_behind (prefix ++ (m ∷ between)) l in
    let here : cursor_after first_cursor (prefix ++ (m ∷ between)) ≡ cursor_after (place_behind prefix m) between = cursor_join first_cursor prefix (m ∷ between) in
    let same : place.sent ≡ (cursor_after first_cursor (prefix ++ (m ∷ between))).sent = ap (λ (t : Said). (after (cursor_after first_cursor (prefix ++ (m ∷ between))) t).sent) hands in
    let within : k ≤ place.sent = omega (arith, sent_grows (place_behind prefix m) between, ap (λ (c : Cursor). c.sent) here, same, number) in
    let message = message_is prefix (between ++ (l ∷ rest)) m from to place.sent k sends number within in
    let part : arrow_in columns origins place l ≡ arrow columns o n place.row = ap (arrow_by columns origins place) hands ∙ ap (λ (x : Option Origin). arrow_from columns x n place.row) message in
    let joined : (prefix ++ (m ∷ between)) ++ (l ∷ rest) ≡ lines = append_assoc prefix (m ∷ between) (l ∷ rest) in
    let some : HasPart (walk (arrow_in columns origins) first_cursor ((prefix ++ (m ∷ between)) ++ (l ∷ rest))) (arrow_in columns origins place l) = walk_has (arrow_in columns origins) (prefix ++ (m ∷ between)) rest l in
    let moved : HasPart (walk (arrow_in columns origins) first_cursor lines) (arrow_in columns origins place l) = subst (λ (t : List TraceLine). HasPart (walk (arrow_in columns origins) first_cursor t) (arrow_in columns origins place l)) joined some in
    let found : HasPart (walk (arrow_in columns origins) first_cursor lines) (arrow columns o n place.row) = subst (λ (t : List ℕ). HasPart (walk (arrow_in columns origins) first_cursor lines) t) part moved in
    in_third (walk (event_row_in origins) first_cursor lines) (lifelines lines columns) (walk (arrow_in columns origins) first_cursor lines)
    (walk (lost_in columns (handed_from [] lines)) first_cursor lines ++ (walk (label_in columns) first_cursor lines ++ heads lines columns))
    (arrow columns o n place.row) found
