-- A line that is read is the one that was spelled, and what is spelled is read again.
use Rattle.std.proofs.Common.{◌≡◌, ℕ, ◌-◌, ◌^◌, ◌≤◌, ◌≢◌, true, false, cond, not, List, [], ◌∷◌, ◌++◌, Result, Ok, refl, sym, ap, subst, ◌∙◌, arith}
use Rattle.std.specs.Prelude.{nat_lt, ◌==◌, codes}
use Rattle.std.specs.Str.{bytes_eq}
use Rattle.std.specs.Cmp.Lexicographic.{same_text}
use Rattle.std.specs.List.{list_all, join_with_byte}
use Rattle.std.proofs.lemmas.Bool.{and_parts, and_from}
use Rattle.std.proofs.lemmas.Bool.Decides.{nat_tests}
use Rattle.voting_config.specs.Ids.{Id, is_id, are_among}
use Rattle.schedule_text.specs.declared.fault.WhyBad.{WhyBad}
use Rattle.schedule_text.specs.declared.level.Level.{Level}
use Rattle.schedule_text.specs.declared.level.Level.TheVariants.{Core, Node}
use Rattle.schedule_text.specs.declared.schedule.Line.{Line}
use Rattle.schedule_text.specs.declared.schedule.Line.TheVariants as line
use Rattle.voting_config.specs.Lists.{parts_of}
use Rattle.schedule_text.specs.Words.{◌>>=◌, Word, listed}
use Rattle.schedule_text.specs.Lines.{Args, one_word, two_words, three_words, four_words, one, two, three, four, word_and_rest, any_number, ordinal, most_ordinal, moment, boot, start_join, value, deliver, crash, restart, fuse, fail, tick, disconnect, client, words_of, line_words, line_text, FitsCore, FitsNode, FitsLine, client_at, shared_verb_at, core_line_at, node_line_at, words_at, line_at}
use Rattle.schedule_text.proofs.WordLaws.{is_plain, IsWord, bind_ok, ok_is, all_weaker, lacks, parts_not_empty, split_first, split_join, join_split, join_all, listed_law, text_law, number_law, list_law}
use Rattle.schedule_text.proofs.ModeLaws.{mode_law}

pub record IsArgs {A : Type 0} (a : Args A) : Type 0 where
  pub takes : (ws : List (List ℕ)) (x : A) → a.at ws ≡ Ok x → (ws ≡ a.spelling x) × a.Fits x
  pub again : (x : A) → a.Fits x → a.at (a.spelling x) ≡ Ok x
  pub plain : (x : A) → a.Fits x → list_all is_plain (a.spelling x) ≡ true

-- the listed nodes are ids
pub record AreIds (ids : List Id) : Type 0 where
  pub each : list_all is_id ids ≡ true

abbrev done : {A : Type 0} → A → Result A WhyBad
done x = Ok x

pub one_is : (ws : List (List ℕ)) (w : List ℕ) → one_word ws ≡ Ok w → ws ≡ w ∷ []
one_is [] w e = absurd cc
one_is (v ∷ []) w e = ap (λ t. t ∷ []) (ok_is v w e)
one_is (v ∷ u ∷ us) w e = absurd cc

two_is : (ws : List (List ℕ)) (w : List ℕ × List ℕ) → two_words ws ≡ Ok w → ws ≡ w.0 ∷ w.1 ∷ []
two_is [] w e = absurd cc
two_is (v ∷ ws) w e =
    let made = λ (x : List ℕ). done {A = List ℕ × List ℕ} (v, x) in
    let got = bind_ok (one_word ws) made w e in
    let P : List ℕ × List ℕ → Type 0 = λ p. v ∷ ws ≡ p.0 ∷ p.1 ∷ [] in
    subst P (ok_is (v, got.0) w got.2) (ap (λ t. v ∷ t) (one_is ws got.0 got.1))

three_is : (ws : List (List ℕ)) (w : List ℕ × List ℕ × List ℕ) → three_words ws ≡ Ok w → ws ≡ w.0 ∷ w.1 ∷ w.2 ∷ []
three_is [] w e = absurd cc
three_is (v ∷ ws) w e =
    let made = λ (x : List ℕ × List ℕ). done {A = List ℕ × List ℕ × List ℕ} (v, x.0, x.1) in
    let got = bind_ok (two_words ws) made w e in
    let P : List ℕ × List ℕ × List ℕ → Type 0 = λ p. v ∷ ws ≡ p.0 ∷ p.1 ∷ p.2 ∷ [] in
    subst P (ok_is (v, got.0.0, got.0.1) w got.2) (ap (λ t. v ∷ t) (two_is ws got.0 got.1))

four_is : (ws : List (List ℕ)) (w : List ℕ × List ℕ × List ℕ × List ℕ) → four_words ws ≡ Ok w → ws ≡ w.0 ∷ w.1 ∷ w.2 ∷ w.3 ∷ []
four_is [] w e = absurd cc
four_is (v ∷ ws) w e =
    let made = λ (x : List ℕ × List ℕ × List ℕ). done {A = List ℕ × List ℕ × List ℕ × List ℕ} (v, x.0, x.1, x.2) in
    let got = bind_ok (three_words ws) made w e in
    let P : List ℕ × List ℕ × List ℕ × List ℕ → Type 0 = λ p. v ∷ ws ≡ p.0 ∷ p.1 ∷ p.2 ∷ p.3 ∷ [] in
    subst P (ok_is (v, got.0.0, got.0.1, got.0.2) w got.2) (ap (λ t. v ∷ t) (three_is ws got.0 got.1))

one_law : {A : Type 0} (a : Word A) → IsWord a → IsArgs (one a)
one_law a la = record {
  takes = λ ws x e.
      let got = bind_ok (one_word ws) a.at x e in
      let word = la.takes got.0 x got.2 in
      (one_is ws got.0 got.1 ∙ ap (λ w. w ∷ []) word.0, word.1);
  again = la.again;
  plain = λ x f. and_from _ _ (la.plain x f) refl;
}

two_law : {A B : Type 0} (a : Word A) (b : Word B) → IsWord a → IsWord b → IsArgs (two a b)
two_law {A} {B} a b la lb = record {
  takes = λ ws x e.
      let last = λ (u : A) (v : B). done {A = A × B} (u, v) in
      let tail = λ (w : List ℕ × List ℕ) (u : A). b.at w.1 >>= last u in
      let got = bind_ok (two_words ws) (λ w. a.at w.0 >>= tail w) x e in
      let first = bind_ok (a.at got.0.0) (tail got.0) x got.2 in
      let second = bind_ok (b.at got.0.1) (last first.0) x first.2 in
      let wa = la.takes got.0.0 first.0 first.1 in
      let wb = lb.takes got.0.1 second.0 second.1 in
      let P : A × B → Type 0 = λ z. (ws ≡ (two a b).spelling z) × (two a b).Fits z in
      subst P (ok_is (first.0, second.0) x second.2) (two_is ws got.0 got.1 ∙ ap (λ t. t ∷ got.0.1 ∷ []) wa.0 ∙ ap (λ t. a.spelling first.0 ∷ t ∷ []) wb.0, (wa.1, wb.1));
  again = λ x f. rw (la.again x.0 f.0, lb.again x.1 f.1) refl;
  plain = λ x f. and_from _ _ (la.plain x.0 f.0) (and_from _ _ (lb.plain x.1 f.1) refl);
}

three_law : {A B C : Type 0} (a : Word A) (b : Word B) (c : Word C) → IsWord a → IsWord b → IsWord c → IsArgs (three a b c)
three_law {A} {B} {C} a b c la lb lc = record {
  takes = λ ws x e.
      let last = λ (u : A) (v : B) (t : C). done {A = A × B × C} (u, v, t) in
      let more = λ (w : List ℕ × List ℕ × List ℕ) (u : A) (v : B). c.at w.2 >>= last u v in
      let tail = λ (w : List ℕ × List ℕ × List ℕ) (u : A). b.at w.1 >>= more w u in
      let got = bind_ok (three_words ws) (λ w. a.at w.0 >>= tail w) x e in
      let first = bind_ok (a.at got.0.0) (tail got.0) x got.2 in
      let second = bind_ok (b.at got.0.1) (more got.0 first.0) x first.2 in
      let third = bind_ok (c.at got.0.2) (last first.0 second.0) x second.2 in
      let wa = la.takes got.0.0 first.0 first.1 in
      let wb = lb.takes got.0.1 second.0 second.1 in
      let wc = lc.takes got.0.2 third.0 third.1 in
      let P : A × B × C → Type 0 = λ z. (ws ≡ (three a b c).spelling z) × (three a b c).Fits z in
      let spelled : ws ≡ a.spelling first.0 ∷ b.spelling second.0 ∷ c.spelling third.0 ∷ [] =
      three_is ws got.0 got.1 ∙ ap (λ t. t ∷ got.0.1 ∷ got.0.2 ∷ []) wa.0 ∙ ap (λ t. a.spelling first.0 ∷ t ∷ got.0.2 ∷ []) wb.0 ∙ ap (λ t. a.spelling first.0 ∷ b.spelling second.0 ∷ t ∷ []) wc.0 in
      subst P (ok_is (first.0, second.0, third.0) x third.2) (spelled, (wa.1, wb.1, wc.1));
  again = λ x f. rw (la.again x.0 f.0, lb.again x.1 f.1, lc.again x.2 f.2) refl;
  plain = λ x f. and_from _ _ (la.plain x.0 f.0) (and_from _ _ (lb.plain x.1 f.1) (and_from _ _ (lc.plain x.2 f.2) refl));
}

four_law : {A B C D : Type 0} (a : Word A) (b : Word B) (c : Word C) (d : Word D) → IsWord a → IsWord b → IsWord c → IsWord d → IsArgs (four a b c d)
four_law {A} {B} {C} {D} a b c d la lb lc ld = record {
  takes = λ ws x e.
      let last = λ (u : A) (v : B) (t : C) (s : D). done {A = A × B × C × D} (u, v, t, s) in
      let most = λ (w : List ℕ × List ℕ × List ℕ × List ℕ) (u : A) (v : B) (t : C). d.at w.3 >>= last u v t in
      let more = λ (w : List ℕ × List ℕ × List ℕ × List ℕ) (u : A) (v : B). c.at w.2 >>= most w u v in
      let tail = λ (w : List ℕ × List ℕ × List ℕ × List ℕ) (u : A). b.at w.1 >>= more w u in
      let got = bind_ok (four_words ws) (λ w. a.at w.0 >>= tail w) x e in
      let first = bind_ok (a.at got.0.0) (tail got.0) x got.2 in
      let second = bind_ok (b.at got.0.1) (more got.0 first.0) x first.2 in
      let third = bind_ok (c.at got.0.2) (most got.0 first.0 second.0) x second.2 in
      let fourth = bind_ok (d.at got.0.3) (last first.0 second.0 third.0) x third.2 in
      let wa = la.takes got.0.0 first.0 first.1 in
      let wb = lb.takes got.0.1 second.0 second.1 in
      let wc = lc.takes got.0.2 third.0 third.1 in
      let wd = ld.takes got.0.3 fourth.0 fourth.1 in
      let P : A × B × C × D → Type 0 = λ z. (ws ≡ (four a b c d).spelling z) × (four a b c d).Fits z in
      let spelled : ws ≡ a.spelling first.0 ∷ b.spelling second.0 ∷ c.spelling third.0 ∷ d.spelling fourth.0 ∷ [] =
      four_is ws got.0 got.1 ∙ ap (λ t. t ∷ got.0.1 ∷ got.0.2 ∷ got.0.3 ∷ []) wa.0 ∙ ap (λ t. a.spelling first.0 ∷ t ∷ got.0.2 ∷ got.0.3 ∷ []) wb.0
      ∙ ap (λ t. a.spelling first.0 ∷ b.spelling second.0 ∷ t ∷ got.0.3 ∷ []) wc.0 ∙ ap (λ t. a.spelling first.0 ∷ b.spelling second.0 ∷ c.spelling third.0 ∷ t ∷ []) wd.0 in
      subst P (ok_is (first.0, second.0, third.0, fourth.0) x fourth.2) (spelled, (wa.1, wb.1, wc.1, wd.1));
  again = λ x f. rw (la.again x.0 f.0, lb.again x.1 f.1, lc.again x.2 f.2, ld.again x.3 f.3) refl;
  plain = λ x f. and_from _ _ (la.plain x.0 f.0) (and_from _ _ (lb.plain x.1 f.1) (and_from _ _ (lc.plain x.2 f.2) (and_from _ _ (ld.plain x.3 f.3) refl)));
}

-- ---- the verbs

any_number_law : IsWord any_number
any_number_law = number_law 0 (2 ^ 64 - 1) (omega arith)

ordinal_law : IsWord ordinal
ordinal_law = number_law 1 most_ordinal (omega arith)

moment_law : IsWord moment
moment_law = number_law 0 (2 ^ 62) (omega arith)

module _ {ids : List Id} (good : AreIds ids) where
  node_law : IsWord (listed ids)
  node_law = listed_law ids good.each

  boot_law : IsArgs (boot ids)
  boot_law = one_law _ node_law

  start_join_law : IsArgs (start_join ids)
  start_join_law = three_law _ _ _ node_law node_law any_number_law

  value_law : IsArgs (value ids)
  value_law = four_law _ _ _ _ node_law any_number_law text_law (list_law (are_among ids))

  deliver_law : IsArgs (deliver ids)
  deliver_law = two_law _ _ node_law ordinal_law

  crash_law : IsArgs (crash ids)
  crash_law = two_law _ _ node_law mode_law

  restart_law : IsArgs (restart ids)
  restart_law = one_law _ node_law

  fuse_law : IsArgs (fuse ids)
  fuse_law = three_law _ _ _ node_law ordinal_law mode_law

  fail_law : IsArgs (fail ids)
  fail_law = two_law _ _ node_law ordinal_law

  tick_law : IsArgs (tick ids)
  tick_law = three_law _ _ _ node_law moment_law any_number_law

  disconnect_law : IsArgs (disconnect ids)
  disconnect_law = two_law _ _ node_law node_law

abbrev IsLine : Level → List Id → List (List ℕ) → Line → Type 0
IsLine level ids words l = (join_with_byte 32 words ≡ line_text l) × FitsLine level ids l

-- the line of a verb
made : {A : Type 0} (args : Args A) (make : A → Line) (level : Level) (ids : List Id) (name : List ℕ) → IsArgs args → ((x : A) → name ∷ args.spelling x ≡ line_words (make x)) → ((x : A) → args.Fits x → FitsLine level ids (make x))
    → (ws : List (List ℕ)) (l : Line) → (args.at ws >>= λ x. done (make x)) ≡ Ok l → IsLine level ids (name ∷ ws) l
made args make level ids name law words fits ws l e =
    let got = bind_ok (args.at ws) (λ x. done (make x)) l e in
    let taken = law.takes ws got.0 got.1 in
    subst (IsLine level ids (name ∷ ws)) (ok_is (make got.0) l got.2) (ap (λ t. join_with_byte 32 (name ∷ t)) taken.0 ∙ ap (join_with_byte 32) (words got.0), fits got.0 taken.1)

-- a verb is this one, or another
chosen : (level : Level) (ids : List Id) (verb name : List ℕ) (ws : List (List ℕ)) (l : Line) (r other : Result Line WhyBad) → (r ≡ Ok l → IsLine level ids (name ∷ ws) l) → (other ≡ Ok l → IsLine level ids (verb ∷ ws) l)
    → cond (bytes_eq verb name) r other ≡ Ok l → IsLine level ids (verb ∷ ws) l
chosen level ids verb name ws l r other this that =
    elim (bytes_eq verb name) as (λ b. bytes_eq verb name ≡ b → cond b r other ≡ Ok l → IsLine level ids (verb ∷ ws) l) [
      | true ↦ λ e k. subst (λ (v : List ℕ). IsLine level ids (v ∷ ws) l) (sym (same_text verb name (sym e))) (this k)
      | false ↦ λ e k. that k
    ] refl

-- what fits at both levels fits at any
at_any : (ids : List Id) (level : Level) (l : Line) → FitsCore ids l → FitsNode ids l → FitsLine level ids l
at_any ids Core l f g = f
at_any ids Node l f g = g

-- ---- a client's line

rest_by : (v : List ℕ) (parts : List (List ℕ)) → parts ≢ [] → word_and_rest (v ∷ parts) ≡ Ok (v, join_with_byte 32 parts)
rest_by v [] some = absurd (some refl)
rest_by v (w ∷ ws) some = refl

-- all that follows the space after the first word
pub rest_is : (v rest : List ℕ) → word_and_rest (v ∷ parts_of 32 rest) ≡ Ok (v, rest)
rest_is v rest = rest_by v (parts_of 32 rest) (parts_not_empty 32 rest) ∙ ap (λ t. done {A = List ℕ × List ℕ} (v, t)) (join_split 32 rest)

lacks_after : (c d : ℕ) (xs ys : List ℕ) → lacks c (xs ++ d ∷ ys) ≡ true → lacks c ys ≡ true
lacks_after c d [] ys h = (and_parts (not (d == c)) _ h).1
lacks_after c d (x ∷ xs) ys h = lacks_after c d xs ys (and_parts (not (x == c)) _ h).1

client_takes : {ids : List Id} → AreIds ids → (verb : List ℕ) (ws : List (List ℕ)) (l : Line) → lacks 10 (join_with_byte 32 (verb ∷ ws)) ≡ true → client_at ids ws ≡ Ok l → IsLine Node ids (codes "client" ∷ ws) l
client_takes good verb [] l k e = absurd cc
client_takes good verb (v ∷ []) l k e = absurd cc
client_takes {ids} good verb (v ∷ w ∷ ws) l k e =
    let rest = join_with_byte 32 (w ∷ ws) in
    let got = bind_ok ((client ids).at (v ∷ w ∷ ws)) (λ x. done (line.Client x.0 x.1)) l e in
    let node = bind_ok ((listed ids).at v) (λ n. done {A = Id × List ℕ} (n, rest)) got.0 got.1 in
    let word = (node_law good).takes v node.0 node.1 in
    let one_line = lacks_after 10 32 v rest (lacks_after 10 32 verb (v ++ 32 ∷ rest) k) in
    let P : Id × List ℕ → Type 0 = λ x. IsLine Node ids (codes "client" ∷ v ∷ w ∷ ws) (line.Client x.0 x.1) in
    subst (IsLine Node ids (codes "client" ∷ v ∷ w ∷ ws)) (ok_is (line.Client got.0.0 got.0.1) l got.2)
    (subst P (ok_is (node.0, rest) got.0 node.2) (ap (λ t. join_with_byte 32 (codes "client" ∷ t ∷ rest ∷ [])) word.0, (word.1, one_line)))

-- ---- a line by its verb

module _ {ids : List Id} (good : AreIds ids) (verb : List ℕ) (ws : List (List ℕ)) (l : Line) where
  shared_takes : (level : Level) → shared_verb_at ids verb ws ≡ Ok l → IsLine level ids (verb ∷ ws) l
  shared_takes level e =
      chosen level ids verb (codes "deliver") ws l _ _ (made (deliver ids) (λ x. line.Deliver x.0 x.1) level ids (codes "deliver") (deliver_law good) (λ x. refl) (λ x f. at_any ids level (line.Deliver x.0 x.1) f f) ws l) (λ e1.
      chosen level ids verb (codes "crash") ws l _ _ (made (crash ids) (λ x. line.Crash x.0 x.1) level ids (codes "crash") (crash_law good) (λ x. refl) (λ x f. at_any ids level (line.Crash x.0 x.1) f f) ws l) (λ e2.
      chosen level ids verb (codes "restart") ws l _ _ (made (restart ids) (λ x. line.Restart x) level ids (codes "restart") (restart_law good) (λ x. refl) (λ x f. at_any ids level (line.Restart x) f f) ws l) (λ e3.
      chosen level ids verb (codes "fuse") ws l _ _ (made (fuse ids) (λ x. line.Fuse x.0 x.1 x.2) level ids (codes "fuse") (fuse_law good) (λ x. refl) (λ x f. at_any ids level (line.Fuse x.0 x.1 x.2) f f) ws l) (λ e4.
      chosen level ids verb (codes "fail") ws l _ _ (made (fail ids) (λ x. line.Fail x.0 x.1) level ids (codes "fail") (fail_law good) (λ x. refl) (λ x f. at_any ids level (line.Fail x.0 x.1) f f) ws l) (λ e5. absurd cc) e4) e3) e2) e1) e

  core_takes : core_line_at ids verb ws ≡ Ok l → IsLine Core ids (verb ∷ ws) l
  core_takes e =
      chosen Core ids verb (codes "value") ws l _ _ (made (value ids) (λ x. line.Value x.0 x.1 x.2 x.3) Core ids (codes "value") (value_law good) (λ x. refl) (λ x f. f) ws l) (λ e1.
      chosen Core ids verb (codes "boot") ws l _ _ (made (boot ids) (λ x. line.Boot x) Core ids (codes "boot") (boot_law good) (λ x. refl) (λ x f. f) ws l) (λ e2.
      chosen Core ids verb (codes "startjoin") ws l _ _ (made (start_join ids) (λ x. line.StartJoin x.0 x.1 x.2) Core ids (codes "startjoin") (start_join_law good) (λ x. refl) (λ x f. f) ws l) (shared_takes Core) e2) e1) e

  node_takes : lacks 10 (join_with_byte 32 (verb ∷ ws)) ≡ true → node_line_at ids verb ws ≡ Ok l → IsLine Node ids (verb ∷ ws) l
  node_takes k e =
      chosen Node ids verb (codes "client") ws l _ _ (client_takes good verb ws l k) (λ e1.
      chosen Node ids verb (codes "tick") ws l _ _ (made (tick ids) (λ x. line.Tick x.0 x.1 x.2) Node ids (codes "tick") (tick_law good) (λ x. refl) (λ x f. f) ws l) (λ e2.
      chosen Node ids verb (codes "disconnect") ws l _ _ (made (disconnect ids) (λ x. line.Disconnect x.0 x.1) Node ids (codes "disconnect") (disconnect_law good) (λ x. refl) (λ x f. f) ws l) (shared_takes Node) e2) e1) e

-- ---- a line

plain_lacks : (c : ℕ) → c ≤ 32 → (w : List ℕ) → is_plain w ≡ true → lacks c w ≡ true
plain_lacks c h w k = all_weaker (nat_lt 32) (λ b. not (b == c)) (λ b m. grind (arith, nat_tests)) w k

all_lack : (c : ℕ) → c ≤ 32 → (ws : List (List ℕ)) → list_all is_plain ws ≡ true → list_all (lacks c) ws ≡ true
all_lack c h [] k = refl
all_lack c h (w ∷ ws) k = let parts = and_parts (is_plain w) _ k in and_from _ _ (plain_lacks c h w parts.0) (all_lack c h ws parts.1)

pub split_words : (w : List ℕ) (ws : List (List ℕ)) → list_all is_plain (w ∷ ws) ≡ true → words_of (join_with_byte 32 (w ∷ ws)) ≡ w ∷ ws
split_words w ws h = split_join 32 w ws (all_lack 32 (omega arith) (w ∷ ws) h)

-- no line feed stands in words that have none, and spaces between them
pub one_piece : (ws : List (List ℕ)) → list_all is_plain ws ≡ true → lacks 10 (join_with_byte 32 ws) ≡ true
one_piece ws h = join_all (λ b. not (b == 10)) 32 refl ws (all_lack 10 (omega arith) ws h)

words_take : (level : Level) {ids : List Id} → AreIds ids → (ws : List (List ℕ)) (l : Line) → lacks 10 (join_with_byte 32 ws) ≡ true → words_at level ids ws ≡ Ok l → IsLine level ids ws l
words_take level good [] l k e = absurd cc
words_take Core good (verb ∷ ws) l k e = core_takes good verb ws l e
words_take Node good (verb ∷ ws) l k e = node_takes good verb ws l k e

pub line_takes : (level : Level) {ids : List Id} → AreIds ids → (bytes : List ℕ) (l : Line) → lacks 10 bytes ≡ true → line_at level ids bytes ≡ Ok l → (bytes ≡ line_text l) × FitsLine level ids l
line_takes level good bytes l k e =
    let whole = join_split 32 bytes in
    let taken = words_take level good (words_of bytes) l (subst (λ (b : List ℕ). lacks 10 b ≡ true) (sym whole) k) e in
    (sym whole ∙ taken.0, taken.1)

by_words : (level : Level) (ids : List Id) (w : List ℕ) (ws : List (List ℕ)) (l : Line) → list_all is_plain (w ∷ ws) ≡ true → words_at level ids (w ∷ ws) ≡ Ok l → line_at level ids (join_with_byte 32 (w ∷ ws)) ≡ Ok l
by_words level ids w ws l h e = ap (words_at level ids) (split_words w ws h) ∙ e

client_again : {ids : List Id} → AreIds ids → (n : Id) (r : List ℕ) → (client ids).Fits (n, r) → line_at Node ids (line_text (line.Client n r)) ≡ Ok (line.Client n r)
client_again {ids} good n r f =
    let spaceless = plain_lacks 32 (omega arith) n ((node_law good).plain n f.0) in
    let words : words_of (line_text (line.Client n r)) ≡ codes "client" ∷ n ∷ words_of r =
    split_first 32 (codes "client") (n ++ 32 ∷ r) refl ∙ ap (λ t. codes "client" ∷ t) (split_first 32 n r spaceless) in
    ap (words_at Node ids) words ∙ rw (rest_is n r, (node_law good).again n f.0) refl

client_lacks : {ids : List Id} → AreIds ids → (n : Id) (r : List ℕ) → (client ids).Fits (n, r) → lacks 10 (line_text (line.Client n r)) ≡ true
client_lacks good n r f =
    let feedless = plain_lacks 10 (omega arith) n ((node_law good).plain n f.0) in
    join_all (λ b. not (b == 10)) 32 refl (codes "client" ∷ n ∷ r ∷ []) (and_from _ _ refl (and_from _ _ feedless (and_from _ _ f.1 refl)))

pub line_again : (level : Level) {ids : List Id} → AreIds ids → (l : Line) → FitsLine level ids l → line_at level ids (line_text l) ≡ Ok l
line_again Core {ids} good (line.Boot n) f = by_words Core ids (codes "boot") ((boot ids).spelling n) (line.Boot n) (and_from _ _ refl ((boot_law good).plain n f)) (rw ((boot_law good).again n f) refl)
line_again Core {ids} good (line.StartJoin n c t) f = by_words Core ids (codes "startjoin") ((start_join ids).spelling (n, c, t)) (line.StartJoin n c t) (and_from _ _ refl ((start_join_law good).plain (n, c, t) f)) (rw ((start_join_law good).again (n, c, t) f) refl)
line_again Core {ids} good (line.Value n v x cfg) f = by_words Core ids (codes "value") ((value ids).spelling (n, v, x, cfg)) (line.Value n v x cfg) (and_from _ _ refl ((value_law good).plain (n, v, x, cfg) f)) (rw ((value_law good).again (n, v, x, cfg) f) refl)
line_again Core {ids} good (line.Deliver n k) f = by_words Core ids (codes "deliver") ((deliver ids).spelling (n, k)) (line.Deliver n k) (and_from _ _ refl ((deliver_law good).plain (n, k) f)) (rw ((deliver_law good).again (n, k) f) refl)
line_again Core {ids} good (line.Crash n w) f = by_words Core ids (codes "crash") ((crash ids).spelling (n, w)) (line.Crash n w) (and_from _ _ refl ((crash_law good).plain (n, w) f)) (rw ((crash_law good).again (n, w) f) refl)
line_again Core {ids} good (line.Restart n) f = by_words Core ids (codes "restart") ((restart ids).spelling n) (line.Restart n) (and_from _ _ refl ((restart_law good).plain n f)) (rw ((restart_law good).again n f) refl)
line_again Core {ids} good (line.Fuse n k w) f = by_words Core ids (codes "fuse") ((fuse ids).spelling (n, k, w)) (line.Fuse n k w) (and_from _ _ refl ((fuse_law good).plain (n, k, w) f)) (rw ((fuse_law good).again (n, k, w) f) refl)
line_again Core {ids} good (line.Fail n k) f = by_words Core ids (codes "fail") ((fail ids).spelling (n, k)) (line.Fail n k) (and_from _ _ refl ((fail_law good).plain (n, k) f)) (rw ((fail_law good).again (n, k) f) refl)
line_again Core good (line.Tick n m w) f = absurd f
line_again Core good (line.Client n r) f = absurd f
line_again Core good (line.Disconnect n p) f = absurd f
line_again Node good (line.Boot n) f = absurd f
line_again Node good (line.StartJoin n c t) f = absurd f
line_again Node good (line.Value n v x cfg) f = absurd f
line_again Node {ids} good (line.Deliver n k) f = by_words Node ids (codes "deliver") ((deliver ids).spelling (n, k)) (line.Deliver n k) (and_from _ _ refl ((deliver_law good).plain (n, k) f)) (rw ((deliver_law good).again (n, k) f) refl)
line_again Node {ids} good (line.Crash n w) f = by_words Node ids (codes "crash") ((crash ids).spelling (n, w)) (line.Crash n w) (and_from _ _ refl ((crash_law good).plain (n, w) f)) (rw ((crash_law good).again (n, w) f) refl)
line_again Node {ids} good (line.Restart n) f = by_words Node ids (codes "restart") ((restart ids).spelling n) (line.Restart n) (and_from _ _ refl ((restart_law good).plain n f)) (rw ((restart_law good).again n f) refl)
line_again Node {ids} good (line.Fuse n k w) f = by_words Node ids (codes "fuse") ((fuse ids).spelling (n, k, w)) (line.Fuse n k w) (and_from _ _ refl ((fuse_law good).plain (n, k, w) f)) (rw ((fuse_law good).again (n, k, w) f) refl)
line_again Node {ids} good (line.Fail n k) f = by_words Node ids (codes "fail") ((fail ids).spelling (n, k)) (line.Fail n k) (and_from _ _ refl ((fail_law good).plain (n, k) f)) (rw ((fail_law good).again (n, k) f) refl)
line_again Node {ids} good (line.Tick n m w) f = by_words Node ids (codes "tick") ((tick ids).spelling (n, m, w)) (line.Tick n m w) (and_from _ _ refl ((tick_law good).plain (n, m, w) f)) (rw ((tick_law good).again (n, m, w) f) refl)
line_again Node good (line.Client n r) f = client_again good n r f
line_again Node {ids} good (line.Disconnect n p) f = by_words Node ids (codes "disconnect") ((disconnect ids).spelling (n, p)) (line.Disconnect n p) (and_from _ _ refl ((disconnect_law good).plain (n, p) f)) (rw ((disconnect_law good).again (n, p) f) refl)

pub line_lacks : (level : Level) {ids : List Id} → AreIds ids → (l : Line) → FitsLine level ids l → lacks 10 (line_text l) ≡ true
line_lacks Core {ids} good (line.Boot n) f = one_piece (codes "boot" ∷ (boot ids).spelling n) (and_from _ _ refl ((boot_law good).plain n f))
line_lacks Core {ids} good (line.StartJoin n c t) f = one_piece (codes "startjoin" ∷ (start_join ids).spelling (n, c, t)) (and_from _ _ refl ((start_join_law good).plain (n, c, t) f))
line_lacks Core {ids} good (line.Value n v x cfg) f = one_piece (codes "value" ∷ (value ids).spelling (n, v, x, cfg)) (and_from _ _ refl ((value_law good).plain (n, v, x, cfg) f))
line_lacks Core {ids} good (line.Deliver n k) f = one_piece (codes "deliver" ∷ (deliver ids).spelling (n, k)) (and_from _ _ refl ((deliver_law good).plain (n, k) f))
line_lacks Core {ids} good (line.Crash n w) f = one_piece (codes "crash" ∷ (crash ids).spelling (n, w)) (and_from _ _ refl ((crash_law good).plain (n, w) f))
line_lacks Core {ids} good (line.Restart n) f = one_piece (codes "restart" ∷ (restart ids).spelling n) (and_from _ _ refl ((restart_law good).plain n f))
line_lacks Core {ids} good (line.Fuse n k w) f = one_piece (codes "fuse" ∷ (fuse ids).spelling (n, k, w)) (and_from _ _ refl ((fuse_law good).plain (n, k, w) f))
line_lacks Core {ids} good (line.Fail n k) f = one_piece (codes "fail" ∷ (fail ids).spelling (n, k)) (and_from _ _ refl ((fail_law good).plain (n, k) f))
line_lacks Core good (line.Tick n m w) f = absurd f
line_lacks Core good (line.Client n r) f = absurd f
line_lacks Core good (line.Disconnect n p) f = absurd f
line_lacks Node good (line.Boot n) f = absurd f
line_lacks Node good (line.StartJoin n c t) f = absurd f
line_lacks Node good (line.Value n v x cfg) f = absurd f
line_lacks Node {ids} good (line.Deliver n k) f = one_piece (codes "deliver" ∷ (deliver ids).spelling (n, k)) (and_from _ _ refl ((deliver_law good).plain (n, k) f))
line_lacks Node {ids} good (line.Crash n w) f = one_piece (codes "crash" ∷ (crash ids).spelling (n, w)) (and_from _ _ refl ((crash_law good).plain (n, w) f))
line_lacks Node {ids} good (line.Restart n) f = one_piece (codes "restart" ∷ (restart ids).spelling n) (and_from _ _ refl ((restart_law good).plain n f))
line_lacks Node {ids} good (line.Fuse n k w) f = one_piece (codes "fuse" ∷ (fuse ids).spelling (n, k, w)) (and_from _ _ refl ((fuse_law good).plain (n, k, w) f))
line_lacks Node {ids} good (line.Fail n k) f = one_piece (codes "fail" ∷ (fail ids).spelling (n, k)) (and_from _ _ refl ((fail_law good).plain (n, k) f))
line_lacks Node {ids} good (line.Tick n m w) f = one_piece (codes "tick" ∷ (tick ids).spelling (n, m, w)) (and_from _ _ refl ((tick_law good).plain (n, m, w) f))
line_lacks Node good (line.Client n r) f = client_lacks good n r f
line_lacks Node {ids} good (line.Disconnect n p) f = one_piece (codes "disconnect" ∷ (disconnect ids).spelling (n, p)) (and_from _ _ refl ((disconnect_law good).plain (n, p) f))
