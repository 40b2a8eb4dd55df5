-- How what a node reports grows.
use Rattle.std.proofs.Common.{◌≡◌, ℕ, true, false, IsTrue, Option, None, Some, List, [], ◌∷◌, ◌++◌, map, refl, sym, ap, subst, ◌∙◌, inl, inr, append_assoc, append-nil, arith}
use Rattle.std.proofs.lemmas.List.{map-append}
use Rattle.std.proofs.lemmas.Grind.{flat_map-append}
use Rattle.std.specs.List.{flat_map}
use Rattle.std.proofs.lemmas.Option.{same_Some}
use Rattle.zen_link.specs.Streams.{Appended}
use Rattle.policy_model.specs.declared.settings.Settings.{Settings}
use Rattle.policy_model.specs.Entries.{Life, Lived}
use Rattle.policy_model.specs.Follows.{EntryFollows, is_struck}
use Rattle.zen_link.specs.declared.link.Input.{Input}
use Rattle.zen_link.specs.declared.link.Traffic.{Traffic}
use Rattle.zen_link.specs.declared.link.Traffic.TheVariants.{Took}
use Rattle.node_loop.specs.declared.node.End.{End}
use Rattle.node_loop.specs.declared.node.End.TheVariants as ends
use Rattle.zen_link.specs.Told.{with_last, Adds}
use Rattle.node_loop.specs.Happenings.{Happening, Mark, Takes, Makes}
use Rattle.node_loop.specs.Connections.{makes}
use Rattle.node_loop.specs.Reports.{Output, lived, EntriesFollow, happened_in, Reported, StandsFor, text_of, moves_in, moves_of}
use Rattle.policy_model.specs.Entries.{Entry}
use Rattle.node_loop.specs.WritesAndSends.{WritesAndSends, CutShort, HasCauses, IsUp, says_all, does_all, Grows, seen}
use Rattle.zen_link.proofs.Appending.{appended_more, appended_none}

module _ {X : Type 0} (output : X → Output) where
  pub grows_none : (was now : Option (List (Traffic X))) → now ≡ was → Grows output was now []
  grows_none was now e all told = record { before = all; told = sym e ∙ told; grown = sym (append-nil (map (seen output) all)) }

  pub grows_last : (was now : Option (List (Traffic X))) (x : Traffic X) → now ≡ with_last was x → Grows output was now (seen output x ∷ [])
  grows_last None now x e all told = absurd cc
  grows_last (Some xs) now x e all told =
      let same : all ≡ xs ++ x ∷ [] = same_Some _ _ (sym told ∙ e) in
      record { before = xs; told = refl; grown = ap (map (seen output)) same ∙ map-append (seen output) xs (x ∷ []) }

  pub grows_added : (was now : Option (List (Traffic X))) (x : Traffic X) (a b : ℕ) → Adds was now x a b → Grows output was now (seen output x ∷ [])
  grows_added was now x a b (inl e) = grows_last was now x e
  grows_added was now x a b (inr lost) = λ all told. absurd (let gone = lost.0 in cc)

  pub grows_more : (a b c : Option (List (Traffic X))) (xs ys : List (Traffic Output)) → Grows output a b xs → Grows output b c ys → Grows output a c (xs ++ ys)
  grows_more a b c xs ys f g all told =
      let second = g all told in
      let first = f second.before second.told in
      record {
        before = first.before;
        told = first.told;
        grown = second.grown ∙ ap (λ l. l ++ ys) first.grown ∙ append_assoc (map (seen output) first.before) xs ys;
      }

reported_more : (h1 h2 : List Happening) (r1 r2 : List Entry) (left : List Happening) → Reported h1 r1 [] → Reported h2 r2 left → Reported (h1 ++ h2) (r1 ++ r2) left
reported_more [] h2 [] r2 left f g = g
reported_more [] h2 (r ∷ r1) r2 left f g = absurd f
reported_more (h ∷ h1) h2 [] r2 left f g = absurd cc
reported_more (h ∷ h1) h2 (r ∷ r1) r2 left f g = (f.0, reported_more h1 h2 r1 r2 left f.1 g)

follows_more : (s : Settings) (life : Life) (r1 r2 : List Entry) → EntriesFollow s life r1 → EntriesFollow s (lived life r1) r2 → EntriesFollow s life (r1 ++ r2)
follows_more s life [] r2 f g = g
follows_more s life (r ∷ r1) r2 f g = (f.0, follows_more s (Lived life r) r1 r2 f.1 g)

pub lived_more : (life : Life) (r1 r2 : List Entry) → lived life (r1 ++ r2) ≡ lived (lived life r1) r2
lived_more life [] r2 = refl
lived_more life (r ∷ r1) r2 = lived_more (Lived life r) r1 r2

text_more : (text : Life → Entry → List ℕ) (life : Life) (r1 r2 : List Entry) → text_of text life (r1 ++ r2) ≡ text_of text life r1 ++ text_of text (lived life r1) r2
text_more text life [] r2 = refl
text_more text life (r ∷ r1) r2 =
    ap (λ l. text life r ++ l) (text_more text (Lived life r) r1 r2) ∙ sym (append_assoc (text life r) (text_of text (Lived life r) r1) (text_of text (lived life (r ∷ r1)) r2))

-- what was told and goes on: all is said
record Said {X : Type 0} (output : X → Output) (text : Life → Entry → List ℕ) (s : Settings) (life : Life) (course : List Mark)
    (out_was out_now : Option (List ℕ)) (was now : Option (List (Traffic X))) (stands : Life → Type 0) : Type 0 where
  pub said : List Entry
  pub reports : Reported (flat_map happened_in course) said []
  pub follows : EntriesFollow s life said
  pub lives : stands (lived life said)
  pub up : IsUp (lived life said)
  pub written : Appended out_was out_now (text_of text life said)
  pub told : Grows output was now (moves_of course said)

nil_prefix : {A : Type 0} (xs ys : List A) → xs ++ ys ≡ [] → xs ≡ []
nil_prefix [] ys e = refl
nil_prefix (x ∷ xs) ys e = absurd cc

reported_left : (h more : List Happening) (r : List Entry) (left : List Happening) → Reported h r left → Reported (h ++ more) r (left ++ more)
reported_left [] [] [] left f = ap (λ l. l ++ []) f
reported_left [] (m ∷ more) [] left f = ap (λ l. l ++ (m ∷ more)) f
reported_left (h ∷ hs) more [] left f = ap (λ l. l ++ more) f
reported_left [] more (r ∷ rs) left f = absurd f
reported_left (h ∷ hs) more (r ∷ rs) left f = (f.0, reported_left hs more rs left f.1)

pub happened_makes : (h : List Happening) → flat_map happened_in (makes h) ≡ h
happened_makes [] = refl
happened_makes (x ∷ h) = ap (λ l. x ∷ l) (happened_makes h)

moves_more : (c1 c2 : List Mark) (r1 r2 : List Entry) → Reported (flat_map happened_in c1) r1 [] → moves_of (c1 ++ c2) (r1 ++ r2) ≡ moves_of c1 r1 ++ moves_of c2 r2
moves_more [] c2 [] r2 f = refl
moves_more [] c2 (r ∷ r1) r2 f = absurd f
moves_more (Takes input ∷ c1) c2 r1 r2 f = ap (λ l. Took input ∷ l) (moves_more c1 c2 r1 r2 f)
moves_more (Makes h ∷ c1) c2 [] r2 f = absurd cc
moves_more (Makes h ∷ c1) c2 (r ∷ r1) r2 f =
    ap (λ l. moves_in r ++ l) (moves_more c1 c2 r1 r2 f.1) ∙ sym (append_assoc (moves_in r) (moves_of c1 r1) (moves_of c2 r2))

-- what happens and has no entry moves nothing
moves_none : (h : List Happening) → moves_of (makes h) [] ≡ []
moves_none [] = refl
moves_none (x ∷ h) = moves_none h

moves_unsaid : (c : List Mark) (h : List Happening) → moves_of (c ++ makes h) [] ≡ moves_of c []
moves_unsaid [] h = moves_none h
moves_unsaid (Takes input ∷ c) h = ap (λ l. Took input ∷ l) (moves_unsaid c h)
moves_unsaid (Makes x ∷ c) h = moves_unsaid c h

moves_left : (c : List Mark) (h : List Happening) (said unsaid : List Entry) (left : List Happening) → Reported (flat_map happened_in c) (said ++ unsaid) left → moves_of (c ++ makes h) said ≡ moves_of c said
moves_left c h [] unsaid left f = moves_unsaid c h
moves_left [] h (r ∷ said) unsaid left f = absurd f
moves_left (Takes input ∷ c) h (r ∷ said) unsaid left f = ap (λ l. Took input ∷ l) (moves_left c h (r ∷ said) unsaid left f)
moves_left (Makes x ∷ c) h (r ∷ said) unsaid left f = ap (λ l. moves_in r ++ l) (moves_left c h said unsaid left f.1)

not_disk : (end : End) → says_all (Some end) ≡ false → Some end ≡ Some ends.Disk → ⊥
not_disk end unsaid is = let e : says_all (Some ends.Disk) ≡ false = subst (λ (x : Option End). says_all x ≡ false) is unsaid in cc

not_whole : (end : End) → says_all (Some end) ≡ false → does_all (Some end) ≡ false
not_whole ends.Stop unsaid = absurd cc
not_whole ends.Turns unsaid = absurd cc
not_whole ends.Write unsaid = refl
not_whole ends.Disk unsaid = refl
not_whole ends.Link unsaid = absurd cc
not_whole ends.Memory unsaid = refl

left_all : (h : List Happening) → Reported h [] h
left_all [] = refl
left_all (x ∷ h) = refl

module _ {X : Type 0} (output : X → Output) (text : Life → Entry → List ℕ) (s : Settings) where
  all_said : (life : Life) (c : List Mark) (o0 o1 : Option (List ℕ)) (w0 w1 : Option (List (Traffic X))) (stands : Life → Type 0)
      → WritesAndSends output text s life c None o0 o1 w0 w1 stands → Said output text s life c o0 o1 w0 w1 stands
  all_said life c o0 o1 w0 w1 stands tells =
      let none = tells.all_said refl in
      let whole : tells.said ++ tells.unsaid ≡ tells.said = ap (λ l. tells.said ++ l) none ∙ append-nil tells.said in
      let no_part : tells.part ≡ [] = nil_prefix tells.part tells.rest (tells.cut ∙ ap (λ l. text_of text (lived life tells.said) l) none) in
      record {
        said = tells.said;
        reports = subst (λ l. Reported (flat_map happened_in c) tells.said l) (tells.all_done refl) (subst (λ l. Reported (flat_map happened_in c) l tells.left) whole tells.reports);
        follows = subst (λ l. EntriesFollow s life l) whole tells.follows;
        lives = subst (λ l. stands (lived life l)) whole tells.lives;
        up = subst (λ l. IsUp (lived life l)) whole (tells.up refl);
        written = subst (λ l. Appended o0 o1 l) (ap (λ p. text_of text life tells.said ++ p) no_part ∙ append-nil (text_of text life tells.said)) tells.written;
        told = tells.told;
      }

  -- and then what comes next, and what it left
  pub joined_left : (life : Life) (c1 c2 : List Mark) (end : Option End) (o0 o1 o2 : Option (List ℕ)) (w0 w1 w2 : Option (List (Traffic X))) (stands1 stands2 : Life → Type 0) (P : List Happening → Type 0)
      → WritesAndSends output text s life c1 None o0 o1 w0 w1 stands1
      → ((mid : Life) → stands1 mid → IsUp mid → (t : WritesAndSends output text s mid c2 end o1 o2 w1 w2 stands2) × P t.left)
      → (t : WritesAndSends output text s life (c1 ++ c2) end o0 o2 w0 w2 stands2) × P t.left
  joined_left life c1 c2 end o0 o1 o2 w0 w1 w2 stands1 stands2 P tells then =
      let a = all_said life c1 o0 o1 w0 w1 stands1 tells in
      let more = then (lived life a.said) a.lives a.up in
      let b = more.0 in
      let all : (a.said ++ b.said) ++ b.unsaid ≡ a.said ++ (b.said ++ b.unsaid) = append_assoc a.said b.said b.unsaid in
      let end_life : lived (lived life a.said) (b.said ++ b.unsaid) ≡ lived life ((a.said ++ b.said) ++ b.unsaid) = sym (lived_more life a.said (b.said ++ b.unsaid)) ∙ ap (lived life) (sym all) in
      let both : Reported (flat_map happened_in c1 ++ flat_map happened_in c2) (a.said ++ (b.said ++ b.unsaid)) b.left =
      reported_more (flat_map happened_in c1) (flat_map happened_in c2) a.said (b.said ++ b.unsaid) b.left a.reports b.reports in (
        record {
          said = a.said ++ b.said;
          unsaid = b.unsaid;
          left = b.left;
          part = b.part;
          rest = b.rest;
          reports = subst (λ h. Reported h ((a.said ++ b.said) ++ b.unsaid) b.left) (sym (flat_map-append happened_in c1 c2))
              (subst (λ l. Reported (flat_map happened_in c1 ++ flat_map happened_in c2) l b.left) (sym all) both);
          follows = subst (λ l. EntriesFollow s life l) (sym all) (follows_more s life a.said (b.said ++ b.unsaid) a.follows b.follows);
          lives = subst stands2 end_life b.lives;
          up = λ on. subst IsUp end_life (b.up on);
          all_done = b.all_done;
          all_said = b.all_said;
          at_most_one = b.at_most_one;
          cut = b.cut ∙ ap (λ l. text_of text l b.unsaid) (sym (lived_more life a.said b.said));
          silent = b.silent;
          short = b.short;
          written = subst (λ l. Appended o0 o2 l) (sym (append_assoc (text_of text life a.said) (text_of text (lived life a.said) b.said) b.part) ∙ ap (λ l. l ++ b.part) (sym (text_more text life a.said b.said)))
              (appended_more o0 o1 o2 (text_of text life a.said) (text_of text (lived life a.said) b.said ++ b.part) a.written b.written);
          told = subst (λ m. Grows output w0 w2 m) (sym (moves_more c1 c2 a.said b.said a.reports)) (grows_more output w0 w1 w2 (moves_of c1 a.said) (moves_of c2 b.said) a.told b.told);
          struck = λ is. subst (λ l. is_struck l ≡ true) end_life (b.struck is);
        },
        more.1,
      )

  pub joined : (life : Life) (c1 c2 : List Mark) (end : Option End) (o0 o1 o2 : Option (List ℕ)) (w0 w1 w2 : Option (List (Traffic X))) (stands1 stands2 : Life → Type 0)
      → WritesAndSends output text s life c1 None o0 o1 w0 w1 stands1
      → ((mid : Life) → stands1 mid → IsUp mid → WritesAndSends output text s mid c2 end o1 o2 w1 w2 stands2)
      → WritesAndSends output text s life (c1 ++ c2) end o0 o2 w0 w2 stands2
  joined life c1 c2 end o0 o1 o2 w0 w1 w2 stands1 stands2 tells then =
      (joined_left life c1 c2 end o0 o1 o2 w0 w1 w2 stands1 stands2 (λ left. Unit {0}) tells (λ mid lives up. (then mid lives up, tt))).0

  -- nothing is said
  unsaid : (life : Life) (c : List Mark) (end : Option End) (o : Option (List ℕ)) (w0 w1 : Option (List (Traffic X))) (stands : Life → Type 0)
      → flat_map happened_in c ≡ [] → (end ≡ Some ends.Disk → ⊥) → (end ≡ Some ends.Write → ⊥) → stands life → IsUp life → Grows output w0 w1 (moves_of c []) → WritesAndSends output text s life c end o o w0 w1 stands
  unsaid life c end o w0 w1 stands quiet other no_write lives up told = record {
    said = [];
    unsaid = [];
    left = [];
    part = [];
    rest = [];
    reports = subst (λ h. Reported h [] []) (sym quiet) refl;
    follows = tt;
    lives = lives;
    up = λ on. up;
    all_done = λ e. refl;
    all_said = λ e. refl;
    at_most_one = omega arith;
    cut = refl;
    silent = λ is. refl;
    short = λ is. absurd (no_write is);
    written = appended_none o;
    told = told;
    struck = λ is. absurd (other is);
  }

  -- nothing happens
  pub rests : (life : Life) (end : Option End) (o : Option (List ℕ)) (w0 w1 : Option (List (Traffic X))) (stands : Life → Type 0)
      → (end ≡ Some ends.Disk → ⊥) → (end ≡ Some ends.Write → ⊥) → stands life → IsUp life → w1 ≡ w0 → WritesAndSends output text s life [] end o o w0 w1 stands
  rests life end o w0 w1 stands other no_write lives up same = unsaid life [] end o w0 w1 stands refl other no_write lives up (grows_none output w0 w1 same)

  -- an input is taken
  pub takes : (life : Life) (input : Input) (o : Option (List ℕ)) (w0 w1 : Option (List (Traffic X))) (stands : Life → Type 0)
      → stands life → IsUp life → w1 ≡ with_last w0 (Took input) → WritesAndSends output text s life (Takes input ∷ []) None o o w0 w1 stands
  takes life input o w0 w1 stands lives up took =
      unsaid life (Takes input ∷ []) None o w0 w1 stands refl (λ is. absurd cc) (λ is. absurd cc) lives up (grows_last output w0 w1 (Took input) took)

  -- one thing happens, and is said
  pub says : (life : Life) (h : Happening) (r : Entry) (end : Option End) (o0 o1 : Option (List ℕ)) (w0 w1 : Option (List (Traffic X))) (stands : Life → Type 0)
      → StandsFor r h → EntryFollows s life r → stands (Lived life r) → (IsTrue (does_all end) → IsUp (Lived life r))
      → Appended o0 o1 (text life r) → Grows output w0 w1 (moves_in r) → (end ≡ Some ends.Disk → is_struck (Lived life r) ≡ true) → (end ≡ Some ends.Write → ⊥)
      → WritesAndSends output text s life (Makes h ∷ []) end o0 o1 w0 w1 stands
  says life h r end o0 o1 w0 w1 stands st follows lives up written told struck no_write = record {
    said = r ∷ [];
    unsaid = [];
    left = [];
    part = [];
    rest = [];
    reports = (st, refl);
    follows = (follows, tt);
    lives = lives;
    up = up;
    all_done = λ e. refl;
    all_said = λ e. refl;
    at_most_one = omega arith;
    cut = refl;
    silent = λ is. refl;
    short = λ is. absurd (no_write is);
    written = subst (λ l. Appended o0 o1 l) (sym (append-nil (text life r ++ []) ∙ append-nil (text life r))) written;
    told = subst (λ m. Grows output w0 w1 m) (sym (append-nil (moves_in r))) told;
    struck = struck;
  }

  -- one thing happens, and a prefix of it is said
  pub says_part : (life : Life) (h : Happening) (r : Entry) (end : End) (o0 o1 : Option (List ℕ)) (w : Option (List (Traffic X))) (stands : Life → Type 0)
      → says_all (Some end) ≡ false → StandsFor r h → EntryFollows s life r → stands (Lived life r) → CutShort end o0 o1 (text life r)
      → WritesAndSends output text s life (Makes h ∷ []) (Some end) o0 o1 w w stands
  says_part life h r end o0 o1 w stands ends st follows lives cut = record {
    said = [];
    unsaid = r ∷ [];
    left = [];
    part = cut.prefix.prefix;
    rest = cut.prefix.rest;
    reports = (st, refl);
    follows = (follows, tt);
    lives = lives;
    up = λ on. absurd (let none = not_whole end ends in cc);
    all_done = λ e. refl;
    all_said = λ e. absurd cc;
    at_most_one = omega arith;
    cut = cut.prefix.whole ∙ sym (append-nil (text life r));
    silent = λ is. cut.silent (same_Some _ _ is);
    short = λ is. cut.short (same_Some _ _ is);
    written = cut.prefix.appended;
    told = grows_none output w w refl;
    struck = λ is. absurd (not_disk end ends is);
  }

  -- nothing of it is done
  pub stops : (life : Life) (h : List Happening) (end : End) (o : Option (List ℕ)) (w : Option (List (Traffic X))) (stands : Life → Type 0)
      → does_all (Some end) ≡ false → says_all (Some end) ≡ false → (end ≡ ends.Write → ⊥) → stands life → WritesAndSends output text s life (makes h) (Some end) o o w w stands
  stops life h end o w stands within ends no_write lives = record {
    said = [];
    unsaid = [];
    left = h;
    part = [];
    rest = [];
    reports = subst (λ l. Reported l [] h) (sym (happened_makes h)) (left_all h);
    follows = tt;
    lives = lives;
    up = λ on. absurd cc;
    all_done = λ e. absurd cc;
    all_said = λ e. refl;
    at_most_one = omega arith;
    cut = refl;
    silent = λ is. refl;
    short = λ is. absurd (no_write (same_Some _ _ is));
    written = appended_none o;
    told = subst (λ m. Grows output w w m) (sym (moves_none h)) (grows_none output w w refl);
    struck = λ is. absurd (not_disk end ends is);
  }

  -- more would have happened
  pub cut_short : (life : Life) (c : List Mark) (more : List Happening) (end : Option End) (o0 o1 : Option (List ℕ)) (w0 w1 : Option (List (Traffic X))) (stands : Life → Type 0)
      → does_all end ≡ false → WritesAndSends output text s life c end o0 o1 w0 w1 stands → WritesAndSends output text s life (c ++ makes more) end o0 o1 w0 w1 stands
  cut_short life c more end o0 o1 w0 w1 stands ends tells = record {
    said = tells.said;
    unsaid = tells.unsaid;
    left = tells.left ++ more;
    part = tells.part;
    rest = tells.rest;
    reports = subst (λ h. Reported h (tells.said ++ tells.unsaid) (tells.left ++ more)) (sym (flat_map-append happened_in c (makes more) ∙ ap (λ h. flat_map happened_in c ++ h) (happened_makes more)))
        (reported_left (flat_map happened_in c) more (tells.said ++ tells.unsaid) tells.left tells.reports);
    follows = tells.follows;
    lives = tells.lives;
    up = tells.up;
    all_done = λ e. absurd cc;
    all_said = tells.all_said;
    at_most_one = tells.at_most_one;
    cut = tells.cut;
    silent = tells.silent;
    short = tells.short;
    written = tells.written;
    told = subst (λ m. Grows output w0 w1 m) (sym (moves_left c more tells.said tells.unsaid tells.left tells.reports)) tells.told;
    struck = tells.struck;
  }

  -- nothing has happened
  pub nothing : (life : Life) (o : Option (List ℕ)) (w : Option (List (Traffic X))) (stands : Life → Type 0) → stands life → IsUp life → WritesAndSends output text s life [] None o o w w stands
  nothing life o w stands lives up = rests life None o w w stands (λ is. absurd cc) (λ is. absurd cc) lives up refl

  -- one after the other
  pub then_one : {A : Type 0} (f : A → Happening) (done : List A) (x : A) (life : Life) (end : Option End) (o0 o1 o2 : Option (List ℕ)) (w0 w1 w2 : Option (List (Traffic X))) (stands1 stands2 : Life → Type 0)
      → WritesAndSends output text s life (makes (map f done)) None o0 o1 w0 w1 stands1
      → ((mid : Life) → stands1 mid → IsUp mid → WritesAndSends output text s mid (Makes (f x) ∷ []) end o1 o2 w1 w2 stands2)
      → WritesAndSends output text s life (makes (map f (done ++ x ∷ []))) end o0 o2 w0 w2 stands2
  then_one f done x life end o0 o1 o2 w0 w1 w2 stands1 stands2 first next =
      subst (λ c. WritesAndSends output text s life c end o0 o2 w0 w2 stands2) (sym (ap makes (map-append f done (x ∷ [])) ∙ map-append Makes (map f done) (f x ∷ [])))
      (joined life (makes (map f done)) (Makes (f x) ∷ []) end o0 o1 o2 w0 w1 w2 stands1 stands2 first next)

  -- the last one of which the run ends
  pub last_one : {A : Type 0} (f : A → Happening) (done : List A) (x : A) (rest all : List A) (life : Life) (end : Option End) (o0 o1 o2 : Option (List ℕ)) (w0 w1 w2 : Option (List (Traffic X))) (stands1 stands2 : Life → Type 0)
      → done ++ x ∷ rest ≡ all → does_all end ≡ false
      → WritesAndSends output text s life (makes (map f done)) None o0 o1 w0 w1 stands1
      → ((mid : Life) → stands1 mid → IsUp mid → WritesAndSends output text s mid (Makes (f x) ∷ []) end o1 o2 w1 w2 stands2)
      → WritesAndSends output text s life (makes (map f all)) end o0 o2 w0 w2 stands2
  last_one f done x rest all life end o0 o1 o2 w0 w1 w2 stands1 stands2 whole ends first next =
      let so_far = then_one f done x life end o0 o1 o2 w0 w1 w2 stands1 stands2 first next in
      let parts : map f (done ++ x ∷ []) ++ map f rest ≡ map f all = sym (map-append f (done ++ x ∷ []) rest) ∙ ap (map f) (append_assoc done (x ∷ []) rest ∙ whole) in
      subst (λ c. WritesAndSends output text s life c end o0 o2 w0 w2 stands2) (sym (map-append Makes (map f (done ++ x ∷ [])) (map f rest)) ∙ ap makes parts)
      (cut_short life (makes (map f (done ++ x ∷ []))) (map f rest) end o0 o2 w0 w2 stands2 ends so_far)

  -- something else stands at the end, and the same is left
  pub restood_left : (life : Life) (c : List Mark) (end : Option End) (o0 o1 : Option (List ℕ)) (w0 w1 : Option (List (Traffic X))) (stands stands2 : Life → Type 0) (P : List Happening → Type 0)
      → (tells : WritesAndSends output text s life c end o0 o1 w0 w1 stands) → stands2 (lived life (tells.said ++ tells.unsaid)) → P tells.left → (t : WritesAndSends output text s life c end o0 o1 w0 w1 stands2) × P t.left
  restood_left life c end o0 o1 w0 w1 stands stands2 P tells lives last = (
    record {
      said = tells.said;
      unsaid = tells.unsaid;
      left = tells.left;
      part = tells.part;
      rest = tells.rest;
      reports = tells.reports;
      follows = tells.follows;
      lives = lives;
      up = tells.up;
      all_done = tells.all_done;
      all_said = tells.all_said;
      at_most_one = tells.at_most_one;
      cut = tells.cut;
      silent = tells.silent;
      short = tells.short;
      written = tells.written;
      told = tells.told;
      struck = tells.struck;
    },
    last,
  )

  pub restood : (life : Life) (c : List Mark) (end : Option End) (o0 o1 : Option (List ℕ)) (w0 w1 : Option (List (Traffic X))) (stands stands2 : Life → Type 0)
      → (tells : WritesAndSends output text s life c end o0 o1 w0 w1 stands) → stands2 (lived life (tells.said ++ tells.unsaid)) → WritesAndSends output text s life c end o0 o1 w0 w1 stands2
  restood life c end o0 o1 w0 w1 stands stands2 tells lives = (restood_left life c end o0 o1 w0 w1 stands stands2 (λ left. Unit {0}) tells lives tt).0

  -- what stands at the end may be told in other words
  pub mapped : (life : Life) (c : List Mark) (end : Option End) (o0 o1 : Option (List ℕ)) (w0 w1 : Option (List (Traffic X))) (stands stands2 : Life → Type 0)
      → ((l : Life) → stands l → stands2 l) → WritesAndSends output text s life c end o0 o1 w0 w1 stands → WritesAndSends output text s life c end o0 o1 w0 w1 stands2
  mapped life c end o0 o1 w0 w1 stands stands2 f tells = restood life c end o0 o1 w0 w1 stands stands2 tells (f (lived life (tells.said ++ tells.unsaid)) tells.lives)

  pub mapped_left : (life : Life) (c : List Mark) (end : Option End) (o0 o1 : Option (List ℕ)) (w0 w1 : Option (List (Traffic X))) (stands stands2 : Life → Type 0) (P : List Happening → Type 0)
      → ((l : Life) → stands l → stands2 l) → (tells : WritesAndSends output text s life c end o0 o1 w0 w1 stands) → P tells.left → (t : WritesAndSends output text s life c end o0 o1 w0 w1 stands2) × P t.left
  mapped_left life c end o0 o1 w0 w1 stands stands2 P f tells last = restood_left life c end o0 o1 w0 w1 stands stands2 P tells (f (lived life (tells.said ++ tells.unsaid)) tells.lives) last

  -- at the life that it came to
  pub pinned : (life : Life) (c : List Mark) (end : Option End) (o0 o1 : Option (List ℕ)) (w0 w1 : Option (List (Traffic X))) (stands : Life → Type 0)
      → (tells : WritesAndSends output text s life c end o0 o1 w0 w1 stands) → WritesAndSends output text s life c end o0 o1 w0 w1 (λ l. l ≡ lived life (tells.said ++ tells.unsaid))
  pinned life c end o0 o1 w0 w1 stands tells = restood life c end o0 o1 w0 w1 stands (λ l. l ≡ lived life (tells.said ++ tells.unsaid)) tells refl

  pub joined_at : (life : Life) (c1 c2 : List Mark) (end : Option End) (o0 o1 o2 : Option (List ℕ)) (w0 w1 w2 : Option (List (Traffic X))) (stands1 stands2 : Life → Type 0) (P : List Happening → Type 0)
      → (first : WritesAndSends output text s life c1 None o0 o1 w0 w1 stands1)
      → (t : WritesAndSends output text s (lived life (first.said ++ first.unsaid)) c2 end o1 o2 w1 w2 stands2) × P t.left
      → (t : WritesAndSends output text s life (c1 ++ c2) end o0 o2 w0 w2 stands2) × P t.left
  joined_at life c1 c2 end o0 o1 o2 w0 w1 w2 stands1 stands2 P first second =
      joined_left life c1 c2 end o0 o1 o2 w0 w1 w2 (λ l. l ≡ lived life (first.said ++ first.unsaid)) stands2 P (pinned life c1 None o0 o1 w0 w1 stands1 first)
      (λ mid same on. subst (λ l. (t : WritesAndSends output text s l c2 end o1 o2 w1 w2 stands2) × P t.left) (sym same) second)

  -- all turns are taken
  pub all_taken : (life : Life) (c : List Mark) (o0 o1 : Option (List ℕ)) (w0 w1 : Option (List (Traffic X))) (stands : Life → Type 0)
      → WritesAndSends output text s life c None o0 o1 w0 w1 stands → WritesAndSends output text s life c (Some ends.Turns) o0 o1 w0 w1 stands
  all_taken life c o0 o1 w0 w1 stands tells = record {
    said = tells.said;
    unsaid = tells.unsaid;
    left = tells.left;
    part = tells.part;
    rest = tells.rest;
    reports = tells.reports;
    follows = tells.follows;
    lives = tells.lives;
    up = λ on. tells.up refl;
    all_done = λ e. tells.all_done refl;
    all_said = λ e. tells.all_said refl;
    at_most_one = tells.at_most_one;
    cut = tells.cut;
    silent = λ is. absurd cc;
    short = λ is. absurd cc;
    written = tells.written;
    told = tells.told;
    struck = λ is. absurd cc;
  }

pub causes_none : (a b c : ℕ) → HasCauses None a a b b c c
causes_none a b c = record { disk_later = omega arith; out_later = omega arith; link_later = omega arith; write = λ e. absurd cc; disk = λ e. absurd cc; link = λ e. absurd cc }

pub causes_more : (end : Option End) (a0 a1 a2 b0 b1 b2 c0 c1 c2 : ℕ) → HasCauses None a0 a1 b0 b1 c0 c1 → HasCauses end a1 a2 b1 b2 c1 c2 → HasCauses end a0 a2 b0 b2 c0 c2
causes_more end a0 a1 a2 b0 b1 b2 c0 c1 c2 first next = record {
  disk_later = omega (arith, first.disk_later, next.disk_later);
  out_later = omega (arith, first.out_later, next.out_later);
  link_later = omega (arith, first.link_later, next.link_later);
  write = λ e le. next.write e (omega (arith, le, first.out_later));
  disk = λ e le. next.disk e (omega (arith, le, first.disk_later));
  link = λ e le. next.link e (omega (arith, le, first.link_later));
}
