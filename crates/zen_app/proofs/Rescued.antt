-- What the command answers is a rescue.
use Rattle.std.proofs.Common.{◌≡◌, ℕ, ◌+◌, ◌<◌, ◌≤◌, Bool, true, false, ◌||◌, Option, None, Some, Result, Ok, Err, List, [], ◌∷◌, ◌++◌, length, length-append, map, codes, refl, sym, ◌∙◌, ap, subst, arith, append_assoc, append-nil, if◌then◌else◌}
use Rattle.std.specs.List.{AllByRecursion, list_any}
use Rattle.std.proofs.lemmas.Bool.{or_parts, ltb-false}
use Rattle.std.proofs.lemmas.List.{length-map, map-append}
use Rattle.std.proofs.lemmas.Grind.{flat_map-append}
use Rattle.voting_config.specs.Ids.{Id, IsIdSet, same, has}
use Rattle.voting_config.specs.Lists.{list_text}
use Rattle.voting_config.proofs.Sets.{same_is, same_self}
use Rattle.zen_disk.specs.Armed.{nothing_armed}
use Rattle.zen_disk.specs.declared.orders.Armed.{Armed}
use Rattle.world_model.specs.Histories.{sent}
use Rattle.schedule_text.specs.Limits.{most_bytes, most_lines, most_line_bytes}
use Rattle.schedule_text.specs.Lines.{line_text}
use Rattle.schedule_text.specs.Reading.{no_schedule}
use Rattle.schedule_text.specs.Spelled.{Spells, Nothing, Text, Nobody, IsWithin, schedule_text, text_lines, voting_only_lines, profile_lines, with_feeds}
use Rattle.schedule_text.specs.declared.level.Level.TheVariants.{Core}
use Rattle.schedule_text.specs.declared.schedule.Line.{Line}
use Rattle.schedule_text.specs.declared.schedule.Schedule.{Schedule}
use Rattle.replay_node.specs.NodeWorld.{needs_opening}
use Rattle.replay_node.specs.Worlds.{World, node_world}
use Rattle.schedule_replay.specs.Replayed.{replayed}
use Rattle.rescue_plan.specs.declared.answer.UpNode.{UpNode}
use Rattle.rescue_plan.specs.declared.answer.Plan.{Plan}
use Rattle.rescue_plan.specs.declared.answer.RescueRefused.{RescueRefused}
use Rattle.rescue_plan.specs.Planning.{planned}
use Rattle.rescue_plan.specs.Rescue.{up_at, ups}
use Rattle.schedule_replay.specs.declared.surveyed.SurveyedNode.{SurveyedNode}
use Rattle.schedule_replay.specs.GoesOn.{IsFree, GoesOn, with_lines}
use Rattle.schedule_replay.specs.Survey.{is_armed as has_orders, is_some, surveyed, world_after}
use Rattle.schedule_replay.proofs.GoesOn.{goes_on}
use Rattle.zen_app.specs.Choosing.{◌>>=◌, all_free, all_up, chosen_of, found_in, is_armed, is_full, is_long, lines_text, one_up, or_no_plan, plan_after, rescue_of, unless_full, up_of}
use Rattle.zen_app.specs.Rescues.{IsRescue}
use Rattle.zen_app.specs.declared.refusals.NoRescue.{NoRescue}

-- ---- the nodes

found_is : (w : World) (ids : List Id) (id : Id) → found_in (map (λ n. surveyed w n) ids) id ≡ (if has id ids then Some (surveyed w id) else None)
found_is w [] id = refl
found_is w (n ∷ ns) id = from (same n id) refl (found_is w ns id)
  where
    from : (b : Bool) → same n id ≡ b → found_in (map (λ k. surveyed w k) ns) id ≡ (if has id ns then Some (surveyed w id) else None) → (if b then Some (surveyed w n) else found_in (map (λ k. surveyed w k) ns) id) ≡ (if b || has id ns then Some (surveyed w id) else None)
    from true e rest = ap (λ (k : Id). Some (surveyed w k)) (same_is n id e)
    from false e rest = rest

-- an answer after which it goes on
bound : {A B : Type 0} (r : Result A NoRescue) (f : A → Result B NoRescue) (y : B) → (r >>= f) ≡ Ok y → (x : A) × (r ≡ Ok x) × (f x ≡ Ok y)
bound (Ok x) f y e = (x, refl, e)
bound (Err why) f y e = absurd (cc)

unless_ok : {A E : Type 0} (b : Bool) (e : E) (x : Result A E) (y : A) → (if b then Err e else x) ≡ Ok y → (b ≡ false) × (x ≡ Ok y)
unless_ok true e x y h = absurd (cc)
unless_ok false e x y h = (refl, h)

-- equal answers are of equal values
abbrev ok_node : UpNode → Result UpNode NoRescue
ok_node x = Ok x

same_node : (x y : UpNode) → ok_node x ≡ ok_node y → x ≡ y
same_node x y e = cc

abbrev ok_nodes : List UpNode → Result (List UpNode) NoRescue
ok_nodes x = Ok x

same_nodes : (x y : List UpNode) → ok_nodes x ≡ ok_nodes y → x ≡ y
same_nodes x y e = cc

abbrev ok_plan : Plan → Result Plan NoRescue
ok_plan x = Ok x

same_plan : (x y : Plan) → ok_plan x ≡ ok_plan y → x ≡ y
same_plan x y e = cc

-- a node that is up
record IsUp (w : World) (ids : List Id) (id : Id) (u : UpNode) : Type 0 where
  listed : has id ids ≡ true
  runs : needs_opening (node_world w id) ≡ false
  is : u ≡ up_at id (node_world w id).acts

is_up : (w : World) (ids : List Id) (id : Id) (u : UpNode) → one_up id (up_of (found_in (map (λ n. surveyed w n) ids) id)) ≡ Ok u → IsUp w ids id u
is_up w ids id u e = from (has id ids) refl (subst (λ (o : Option SurveyedNode). one_up id (up_of o) ≡ Ok u) (found_is w ids id) e)
  where
    runs_from : (b : Bool) → needs_opening (node_world w id) ≡ b → has id ids ≡ true → one_up id (if b then None else Some (up_at id (node_world w id).acts)) ≡ Ok u → IsUp w ids id u
    runs_from true r l h = absurd (cc)
    runs_from false r l h = record { listed = l; runs = r; is = sym (same_node (up_at id (node_world w id).acts) u h) }

    from : (b : Bool) → has id ids ≡ b → one_up id (up_of (if b then Some (surveyed w id) else None)) ≡ Ok u → IsUp w ids id u
    from false l h = absurd (cc)
    from true l h = runs_from (needs_opening (node_world w id)) refl l h

-- all of them
record AreUp (w : World) (ids us : List Id) (prefix up : List UpNode) : Type 0 where
  each : (u : Id) → has u us ≡ true → (has u ids ≡ true) × (needs_opening (node_world w u) ≡ false)
  are : up ≡ prefix ++ map (λ u. up_at u (node_world w u).acts) us

are_up : (w : World) (ids us : List Id) (prefix up : List UpNode) → all_up (map (λ n. surveyed w n) ids) prefix us ≡ Ok up → AreUp w ids us prefix up
are_up w ids [] prefix up e = record { each = λ u h. absurd (cc); are = sym (same_nodes prefix up e) ∙ sym (append-nil prefix) }
are_up w ids (u ∷ us) prefix up e =
    let here = bound (one_up u (up_of (found_in (map (λ n. surveyed w n) ids) u))) _ up e in
    let one : IsUp w ids u here.0 = is_up w ids u here.0 here.1 in
    let rest : AreUp w ids us (prefix ++ here.0 ∷ []) up = are_up w ids us (prefix ++ here.0 ∷ []) up here.2 in
    record {
      each = λ v h. each_of v (same u v) refl h one rest.each;
      are = rest.are ∙ append_assoc prefix (here.0 ∷ []) (map (λ v. up_at v (node_world w v).acts) us) ∙ ap (λ (x : UpNode). prefix ++ x ∷ map (λ v. up_at v (node_world w v).acts) us) one.is;
    }
  where
    each_of : {x : UpNode} (v : Id) (b : Bool) → same u v ≡ b → (b || has v us) ≡ true → IsUp w ids u x → ((k : Id) → has k us ≡ true → (has k ids ≡ true) × (needs_opening (node_world w k) ≡ false)) → (has v ids ≡ true) × (needs_opening (node_world w v) ≡ false)
    each_of v true s h one rest = subst (λ (k : Id). (has k ids ≡ true) × (needs_opening (node_world w k) ≡ false)) (same_is u v s) (one.listed, one.runs)
    each_of v false s h one rest = rest v h

none_armed : (a : Armed) → has_orders a ≡ false → a ≡ nothing_armed
none_armed a e =
    let parts = or_parts (is_some a.stop) (is_some a.fault) e in
    λ i. record { stop = none_is a.stop parts.0 i; fault = none_is a.fault parts.1 i }
  where
    none_is : {X : Type 0} (o : Option X) → is_some o ≡ false → o ≡ None
    none_is None e = refl
    none_is (Some x) e = absurd (cc)

are_free : (w : World) (ids us : List Id) (t : Unit {0}) → all_free (map (λ n. surveyed w n) ids) us ≡ Ok t → (u : Id) → has u us ≡ true → has u ids ≡ true → (w.disks u).armed ≡ nothing_armed
are_free w ids [] t e u h l = absurd (cc)
are_free w ids (x ∷ us) t e u h l =
    let here = unless_ok (is_armed (found_in (map (λ n. surveyed w n) ids) x)) _ (all_free (map (λ n. surveyed w n) ids) us) t e in
    from (same x u) refl h here.0 (are_free w ids us t here.1 u)
  where
    from : (b : Bool) → same x u ≡ b → (b || has u us) ≡ true → is_armed (found_in (map (λ n. surveyed w n) ids) x) ≡ false → (has u us ≡ true → has u ids ≡ true → (w.disks u).armed ≡ nothing_armed) → (w.disks u).armed ≡ nothing_armed
    from true s h free rest =
        let found : found_in (map (λ n. surveyed w n) ids) u ≡ (if has u ids then Some (surveyed w u) else None) = found_is w ids u in
        let known : found_in (map (λ n. surveyed w n) ids) u ≡ Some (surveyed w u) = found ∙ ap (λ (b : Bool). if b then Some (surveyed w u) else None) l in
        let here : is_armed (found_in (map (λ n. surveyed w n) ids) u) ≡ false = subst (λ (k : Id). is_armed (found_in (map (λ n. surveyed w n) ids) k) ≡ false) (same_is x u s) free in
        none_armed (w.disks u).armed (sym (ap is_armed known) ∙ here)
    from false s h free rest = rest h l

-- ---- the text

abbrev after_header : Schedule → List (List ℕ) → List (List ℕ)
after_header s lines = (codes "nodes " ++ list_text s.nodes) ∷ ((codes "initial " ++ list_text s.initial) ∷ lines)

lines_more : (s : Schedule) (ls : List Line) → text_lines (with_lines s ls) ≡ text_lines s ++ map line_text ls
lines_more s ls =
    let voting_only = voting_only_lines s.voting_only in
    let profile = profile_lines s.second in
    ap (λ (xs : List (List ℕ)). after_header s (voting_only ++ (profile ++ xs))) (map-append line_text s.lines ls)
    ∙ ap (λ (xs : List (List ℕ)). after_header s (voting_only ++ xs)) (sym (append_assoc profile (map line_text s.lines) (map line_text ls)))
    ∙ ap (after_header s) (sym (append_assoc voting_only (profile ++ map line_text s.lines) (map line_text ls)))

-- a schedule of level core has two header lines
pub count_lines : (s : Schedule) → s.voting_only ≡ [] → s.second ≡ false → length (text_lines s) ≡ 2 + length s.lines
count_lines s none first =
    let short : length (text_lines s) ≡ length (after_header s (map line_text s.lines)) =
    ap (λ (ids : List Id). length (after_header s (voting_only_lines ids ++ (profile_lines s.second ++ map line_text s.lines)))) none
    ∙ ap (λ (second : Bool). length (after_header s (profile_lines second ++ map line_text s.lines))) first in
    omega (arith, short, length-map s.lines line_text)

more_text : (s : Schedule) (ls : List Line) → schedule_text (with_lines s ls) ≡ schedule_text s ++ lines_text ls
more_text s ls =
    ap with_feeds (lines_more s ls)
    ∙ flat_map-append (λ (l : List ℕ). l ++ 10 ∷ []) (text_lines s) (map line_text ls)

all_both : {X : Type 0} (P : X → Type 0) (xs ys : List X) → AllByRecursion P xs → AllByRecursion P ys → AllByRecursion P (xs ++ ys)
all_both P [] ys a b = b
all_both P (x ∷ xs) ys a b = (a.0, all_both P xs ys a.1 b)

none_long : (ls : List Line) → list_any is_long ls ≡ false → AllByRecursion (λ (l : List ℕ). length l ≤ most_line_bytes) (map line_text ls)
none_long [] e = tt
none_long (l ∷ ls) e =
    let parts = or_parts (is_long l) (list_any is_long ls) e in
    (ltb-false most_line_bytes (length (line_text l)) parts.0, none_long ls parts.1)

within : (s : Schedule) (ls : List Line) → s.voting_only ≡ [] → s.second ≡ false → IsWithin (text_lines s) → is_full (length (schedule_text s)) (length s.lines) ls ≡ false → IsWithin (text_lines (with_lines s ls))
within s ls none first is e =
    let parts = or_parts _ _ e in
    let more = or_parts _ _ parts.1 in
    let lines_is = lines_more s ls in
    let long : length (with_feeds (text_lines (with_lines s ls))) ≡ length (schedule_text s ++ lines_text ls) = ap (λ (t : List ℕ). length t) (more_text s ls) in
    record {
      bytes = omega (arith, long, length-append (schedule_text s) (lines_text ls), ltb-false most_bytes (length (schedule_text s) + length (lines_text ls)) parts.0);
      count = omega (arith, count_lines (with_lines s ls) none first, length-append s.lines ls, ltb-false most_lines (2 + length s.lines + length ls) more.0);
      each = subst (AllByRecursion (λ (l : List ℕ). length l ≤ most_line_bytes)) (sym lines_is) (all_both _ (text_lines s) (map line_text ls) is.each (none_long ls more.1));
    }

-- ---- the whole

no_plan : (r : Result Plan RescueRefused) (p : Plan) → or_no_plan r ≡ Ok p → r ≡ Ok p
no_plan (Ok q) p e = let is : q ≡ p = same_plan q p e in ap (λ (x : Plan). Ok x) is
no_plan (Err why) p e = absurd (cc)

some_id : (us : List Id) → 0 < length us → (u : Id) × (has u us ≡ true)
some_id [] e = absurd (omega arith)
some_id (u ∷ us) e = (u, ap (λ b. b || has u us) (same_self u))

-- what an answer says of the nodes and of the plan
record IsAnswer (s : Schedule) (bytes : ℕ) (us : List Id) (p : Plan) : Type 0 where
  listed : (u : Id) → has u us ≡ true → has u s.nodes ≡ true
  free : (u : Id) → has u us ≡ true → IsFree (world_after s) u
  made : planned (ups (replayed s) us) (length (sent (replayed s))) ≡ Ok p
  fits : is_full bytes (length s.lines) p.lines ≡ false

answered_by : (s : Schedule) (bytes : ℕ) (us : List Id) (p : Plan) → rescue_of bytes s us ≡ Ok p → IsAnswer s bytes us p
answered_by s bytes us p e =
    let w : World = world_after s in
    let nodes : List SurveyedNode = map (λ n. surveyed w n) s.nodes in
    let planning = bound (plan_after s us) (unless_full bytes (length s.lines)) p e in
    let room = unless_ok (is_full bytes (length s.lines) planning.0.lines) _ (Ok planning.0) p planning.2 in
    let same_p : planning.0 ≡ p = same_plan planning.0 p room.1 in
    let choosing = bound (chosen_of nodes us) _ planning.0 planning.1 in
    let going = bound (all_up nodes [] us) _ choosing.0 choosing.1 in
    let freeing = bound (all_free nodes us) _ choosing.0 going.2 in
    let up : AreUp w s.nodes us [] going.0 = are_up w s.nodes us [] going.0 going.1 in
    let same_up : going.0 ≡ choosing.0 = same_nodes going.0 choosing.0 freeing.2 in
    record {
      listed = λ u h. (up.each u h).0;
      free = λ u h. record { runs = (up.each u h).1; armed = are_free w s.nodes us freeing.0 freeing.1 u h (up.each u h).0 };
      made = ap (λ (x : List UpNode). planned x (length (sent (replayed s)))) (sym up.are ∙ same_up) ∙ no_plan _ planning.0 choosing.2 ∙ ap (λ (x : Plan). Ok x) same_p;
      fits = subst (λ (x : Plan). is_full bytes (length s.lines) x.lines ≡ false) same_p room.0;
    }

-- so the bytes of every schedule and then the lines that answer them are a schedule, which goes on as it should
pub is_rescued : (bytes : List ℕ) (s : Schedule) → Spells Core bytes s → (ids : List Id) → IsIdSet ids → 0 < length ids → (p : Plan) → rescue_of (length bytes) s ids ≡ Ok p → IsRescue bytes ids s p
is_rescued _ _ Nothing ids set some p e =
    let answer = answered_by (no_schedule) 0 ids p e in
    let one = some_id ids some in
    absurd (none (answer.listed one.0 one.1))
  where
    none : false ≡ true → ⊥
    none e = cc
is_rescued _ _ (Nobody s at nobody is small) ids set some p e = absurd (cc)
is_rescued _ _ (Text s is small) ids set some p e =
    let answer = answered_by s (length (schedule_text s)) ids p e in
    let few : length s.lines ≤ most_lines = omega (arith, small.count, count_lines s is.voting_only is.second) in
    let on : GoesOn s ids p = goes_on s is few ids set answer.listed answer.free p answer.made in
    record {
      spelled = subst (λ (t : List ℕ). Spells Core t (with_lines s p.lines)) (more_text s p.lines) (Text (with_lines s p.lines) on.schedule (within s p.lines is.voting_only is.second small answer.fits));
      goes_on = on;
    }
