-- How readers and inputs go together over turns.
use Rattle.std.proofs.Common.{◌||◌, ◌+◌, append_assoc, length-append, ◌≡◌, ℕ, zero, suc, ◌-◌, ◌^◌, min, ◌≤◌, ◌<◌, ◌==◌, Bool, true, false, Option, None, Some, List, [], ◌∷◌, ◌++◌, map, refl, sym, ap, subst, ◌∙◌, get_or, slice_set, length, eq-eqb, append-nil, arith}
use Rattle.std.specs.List.{flat_map}
use Rattle.std.proofs.lemmas.List.{get_or-set_same, get_or-set_other}
use Rattle.std.proofs.Math.Bool.{or-false}
use Rattle.std.proofs.lemmas.Bool.{eqb-true, eqb-false, or_parts}
use Rattle.policy_model.specs.declared.settings.Settings.{Settings}
use Rattle.policy_model.specs.declared.events.Event.TheVariants.{Start}
use Rattle.policy_model.specs.Entries.{Life}
use Rattle.zen_link.specs.declared.link.Input.{Input}
use Rattle.zen_link.specs.declared.link.Input.TheVariants.{Bytes, Closed}
use Rattle.zen_link.specs.declared.link.Traffic.{Traffic}
use Rattle.zen_link.specs.declared.link.Traffic.TheVariants.{Took}
use Rattle.node_loop.specs.declared.connection.Came.{Came}
use Rattle.node_loop.specs.declared.connection.Connection.{Connection}
use Rattle.node_loop.specs.declared.connection.Connection.TheVariants.{Fresh}
use Rattle.node_loop.specs.declared.node.End.{End}
use Rattle.node_loop.specs.declared.node.End.TheVariants as ends
use Rattle.zen_link.specs.Told.{with_last, counted, most_connections}
use Rattle.node_loop.specs.Intakes.{Intake, Read, Unread, Refused, Intakes, NoIntakes, Then, followed, inputs_in}
use Rattle.node_loop.specs.Happenings.{Happening, Comes, Takes, Makes}
use Rattle.node_loop.specs.Happenings as happening
use Rattle.node_loop.specs.Connections.{bytes_of, reading_of, made_by, makes, course_by, course_from, last_made}
use Rattle.node_loop.specs.declared.connection.Came.TheVariants as came
use Rattle.node_loop.specs.Feeds.{IsFed, happenings_of, kept_frames, kept, kept_at}
use Rattle.node_loop.specs.Feeding.{FeedsAt}
use Rattle.node_loop.specs.Reports.{Output, Reported, happened_in, lived}
use Rattle.policy_model.specs.Entries.{Entry}
use Rattle.node_loop.specs.WritesAndSends.{WritesAndSends, IsUp, does_all}
use Rattle.node_loop.specs.Turns.{Reads, TakesIn, Turns, ServesOn, IsRestOf, HasRisen, asks_of, is_stop, is_stop_input, has_stop}
use Rattle.node_loop.proofs.Telling.{joined, joined_at, all_taken, takes, rests, nothing, happened_makes}

reads_by : (readings : List Connection) (conn : ℕ) (next : Connection) (intakes : Intakes) (intake : Intake) (c : ℕ) (t : Bool) → (conn == c) ≡ t
    → length readings ≡ most_connections → c < most_connections → Reads readings intakes → next ≡ reading_of (bytes_of conn (Then intakes intake))
    → ((c : ℕ) → (conn == c) ≡ false → bytes_of c (Then intakes intake) ≡ bytes_of c intakes)
    → get_or (slice_set readings conn next) c Fresh ≡ reading_of (bytes_of c (Then intakes intake))
reads_by readings conn next intakes intake c true e all low reads at others =
    let same : conn ≡ c = eqb-true conn c e in
    subst (λ (k : ℕ). get_or (slice_set readings conn next) k Fresh ≡ reading_of (bytes_of k (Then intakes intake))) same
    (get_or-set_same readings conn next Fresh (omega (arith, all, low, same)) ∙ at)
reads_by readings conn next intakes intake c false e all low reads at others =
    get_or-set_other readings conn c next Fresh (λ (k : c ≡ conn). eqb-false conn c e (sym k)) ∙ reads c low ∙ ap reading_of (sym (others c e))

reads_set : (readings : List Connection) (conn : ℕ) (next : Connection) (intakes : Intakes) (intake : Intake)
    → length readings ≡ most_connections → Reads readings intakes → next ≡ reading_of (bytes_of conn (Then intakes intake))
    → ((c : ℕ) → (conn == c) ≡ false → bytes_of c (Then intakes intake) ≡ bytes_of c intakes)
    → Reads (slice_set readings conn next) (Then intakes intake)
reads_set readings conn next intakes intake all reads at others c low = reads_by readings conn next intakes intake c (conn == c) refl all low reads at others

itself : (conn : ℕ) → (conn == conn) ≡ true
itself conn = eq-eqb conn conn refl

set_twice : {A : Type 0} (xs : List A) (i : ℕ) (x y : A) → slice_set (slice_set xs i x) i y ≡ slice_set xs i y
set_twice [] i x y = refl
set_twice (z ∷ xs) zero x y = refl
set_twice (z ∷ xs) (suc i) x y = ap (λ l. z ∷ l) (set_twice xs i x y)

-- what is put back in its place
keeps_at : (readings : List Connection) (conn : ℕ) (next : Connection) (came : Came) → kept_at (slice_set readings conn next) conn came ≡ slice_set readings conn (kept came next)
keeps_at readings conn next came.Nothing = refl
keeps_at readings conn next (came.Frames left) = set_twice readings conn next (kept_frames left.ending)
keeps_at readings conn next (came.Lines lines) = refl

pub fed_reads : (readings fed now : List Connection) (conn : ℕ) (more : List ℕ) (came : Came) (intakes : Intakes) → length readings ≡ most_connections → conn < most_connections → Reads readings intakes
    → FeedsAt readings conn more came fed → now ≡ kept_at fed conn came
    → (happenings_of conn came ≡ made_by intakes (Read (Bytes conn more))) × Reads now (Then intakes (Read (Bytes conn more)))
fed_reads readings fed now conn more came intakes all low reads feeds put =
    let is : IsFed conn (bytes_of conn intakes) more came feeds.next = feeds.feeds conn (bytes_of conn intakes) (reads conn low) in
    let set : now ≡ slice_set readings conn (kept came feeds.next) = put ∙ ap (λ r. kept_at r conn came) feeds.set ∙ keeps_at readings conn feeds.next came in (
      is.brings,
      subst (λ r. Reads r (Then intakes (Read (Bytes conn more)))) (sym set)
          (reads_set readings conn (kept came feeds.next) intakes (Read (Bytes conn more)) all reads (rw (itself conn) is.reads) (λ c other. rw other refl)),
    )

pub unread_reads : (readings now : List Connection) (conn : ℕ) (more : List ℕ) (intakes : Intakes) → length readings ≡ most_connections → Reads readings intakes → now ≡ slice_set readings conn Fresh
    → Reads now (Then intakes (Unread conn more))
unread_reads readings now conn more intakes all reads set =
    subst (λ r. Reads r (Then intakes (Unread conn more))) (sym set)
    (reads_set readings conn Fresh intakes (Unread conn more) all reads (rw (itself conn) refl) (λ c other. rw other refl))

pub closed_reads : (readings now : List Connection) (conn : ℕ) (intakes : Intakes) → length readings ≡ most_connections → Reads readings intakes → now ≡ slice_set readings conn Fresh
    → Reads now (Then intakes (Read (Closed conn)))
closed_reads readings now conn intakes all reads set =
    subst (λ r. Reads r (Then intakes (Read (Closed conn)))) (sym set)
    (reads_set readings conn Fresh intakes (Read (Closed conn)) all reads (rw (itself conn) refl) (λ c other. rw other refl))

stop_in : (intake : Intake) (input : Input) → inputs_in intake ≡ input ∷ [] → is_stop_input input ≡ has_stop (intake ∷ [])
stop_in (Read i) input e = let same : i ≡ input = cc in subst (λ (k : Input). is_stop_input k ≡ (is_stop_input i || false)) same (sym (or-false (is_stop_input i)))
stop_in (Unread conn bytes) input e = let same : Bytes conn bytes ≡ input = cc in subst (λ (k : Input). is_stop_input k ≡ false) same refl
stop_in Refused input e = absurd cc

followed_more : (before : Intakes) (xs ys : List Intake) → followed before (xs ++ ys) ≡ followed (followed before xs) ys
followed_more before [] ys = refl
followed_more before (x ∷ xs) ys = followed_more (Then before x) xs ys

course_more : (before : Intakes) (xs ys : List Intake) → course_from before (xs ++ ys) ≡ course_from before xs ++ course_from (followed before xs) ys
course_more before [] ys = refl
course_more before (x ∷ xs) ys =
    ap (λ c. course_by before x ++ c) (course_more (Then before x) xs ys) ∙ sym (append_assoc (course_by before x) (course_from (Then before x) xs) (course_from (followed (Then before x) xs) ys))

-- the course of one input
course_one : (before : Intakes) (intake : Intake) (input : Input) → inputs_in intake ≡ input ∷ [] → Takes input ∷ makes (made_by before intake) ≡ course_from before (intake ∷ [])
course_one before intake input is =
    let same : Takes input ∷ makes (made_by before intake) ≡ course_by before intake = ap (λ (l : List Input). map Takes l ++ makes (made_by before intake)) (sym is) in
    same ∙ sym (append-nil (course_by before intake))

has_stop_more : (xs ys : List Intake) → has_stop xs ≡ false → has_stop (xs ++ ys) ≡ has_stop ys
has_stop_more [] ys e = refl
has_stop_more (Read i ∷ xs) ys e = let parts = or_parts (is_stop_input i) (has_stop xs) e in rw parts.0 (has_stop_more xs ys parts.1)
has_stop_more (Unread conn bytes ∷ xs) ys e = has_stop_more xs ys e
has_stop_more (Refused ∷ xs) ys e = has_stop_more xs ys e

-- ---- how often the link was asked

risen_once : (last a b : ℕ) → b ≡ min (a + 1) last → min (b + 0) last ≡ min (a + 1) last
risen_once last a b next = omega (arith, next)

risen_more : (last a b c n m : ℕ) → min (b + 0) last ≡ min (a + n) last → min (c + 0) last ≡ min (b + m) last → min (c + 0) last ≡ min (a + (n + m)) last
risen_more last a b c n m first second = omega (arith, first, second)

risen_to : (was now n m : ℕ) → n ≡ m → HasRisen was now n → HasRisen was now m
risen_to was now n m same risen = subst (λ (k : ℕ). HasRisen was now k) same risen

asks_more : (end : Option End) (xs ys : List Intake) → asks_of end (xs ++ ys) ≡ length xs + asks_of end ys
asks_more None xs ys = length-append xs ys
asks_more (Some ends.Stop) xs ys = length-append xs ys
asks_more (Some ends.Turns) xs ys = length-append xs ys
asks_more (Some ends.Write) xs ys = length-append xs ys
asks_more (Some ends.Disk) xs ys = length-append xs ys
asks_more (Some ends.Link) xs ys = omega (arith, length-append xs ys)
asks_more (Some ends.Memory) xs ys = length-append xs ys

asks_one : (end : Option End) (i : Intake) → (end ≡ Some ends.Link → ⊥) → asks_of end (i ∷ []) ≡ 1
asks_one None i other = refl
asks_one (Some ends.Stop) i other = refl
asks_one (Some ends.Turns) i other = refl
asks_one (Some ends.Write) i other = refl
asks_one (Some ends.Disk) i other = refl
asks_one (Some ends.Link) i other = absurd (other refl)
asks_one (Some ends.Memory) i other = refl

-- ---- what is left

nil_back : (xs ys : List Happening) → xs ++ ys ≡ [] → ys ≡ []
nil_back [] ys e = e
nil_back (x ∷ xs) ys e = absurd cc

rest_none : (left whole : List Happening) → left ≡ [] → IsRestOf left whole
rest_none left whole none = (whole, ap (λ l. whole ++ l) none ∙ append-nil whole)

reported_rest : (h : List Happening) (es : List Entry) (left : List Happening) → Reported h es left → IsRestOf left h
reported_rest [] [] left is = ([], is)
reported_rest (x ∷ h) [] left is = ([], is)
reported_rest [] (e ∷ es) left is = absurd is
reported_rest (x ∷ h) (e ∷ es) left is = let more = reported_rest h es left is.1 in (x ∷ more.0, ap (λ l. x ∷ l) more.1)

happened_alone : (h : List Happening) → flat_map happened_in (makes h ++ []) ≡ h
happened_alone h = ap (flat_map happened_in) (append-nil (makes h)) ∙ happened_makes h

-- in the course of one intake
happened_one : (before : Intakes) (i : Intake) → flat_map happened_in (course_from before (i ∷ [])) ≡ made_by before i
happened_one before (Read input) = happened_alone (made_by before (Read input))
happened_one before (Unread conn bytes) = happened_alone (made_by before (Unread conn bytes))
happened_one before Refused = happened_alone (made_by before Refused)

rest_one : (before : Intakes) (i : Intake) (es : List Entry) (left : List Happening) → Reported (flat_map happened_in (course_from before (i ∷ []))) es left → IsRestOf left (made_by before i)
rest_one before i es left reports = subst (λ h. IsRestOf left h) (happened_one before i) (reported_rest (flat_map happened_in (course_from before (i ∷ []))) es left reports)

made_last : (made : List Happening) (before : Intakes) (xs : List Intake) (y : Intake) (ys : List Intake) → last_made made before (xs ++ y ∷ ys) ≡ last_made [] (followed before xs) (y ∷ ys)
made_last made before [] y ys = refl
made_last made before (x ∷ xs) y ys = made_last (made_by before x) (Then before x) xs y ys

rest_more : (made : List Happening) (before : Intakes) (xs ys : List Intake) (left : List Happening) → IsRestOf left (last_made [] (followed before xs) ys) → IsRestOf left (last_made made before (xs ++ ys))
rest_more made before xs [] left rest = rest_none left (last_made made before (xs ++ [])) (nil_back rest.0 left rest.1)
rest_more made before xs (y ∷ ys) left rest = subst (λ whole. IsRestOf left whole) (sym (made_last made before xs y ys)) rest

module _ {X : Type 0} (output : X → Output) (text : Life → Entry → List ℕ) (s : Settings) (life : Life) (intakes : Intakes) where
  -- an input was taken, and then what it brings was done
  pub turn_took : (end : Option End) (o0 o1 : Option (List ℕ)) (w0 w1 w2 : Option (List (Traffic X))) (stands : Life → Type 0) (readings : List Connection) (a0 a1 : ℕ) (input : Input)
      → IsUp life → w1 ≡ with_last w0 (Took input) → TakesIn output text s life intakes end o0 o1 w1 w2 stands readings input → is_stop end ≡ is_stop_input input
      → a1 ≡ counted a0 1 → (end ≡ Some ends.Link → ⊥)
      → Turns output text s life intakes end o0 o1 w0 w2 stands readings a0 a1 1
  turn_took end o0 o1 w0 w1 w2 stands readings a0 a1 input up took taking stop asked other =
      let first : WritesAndSends output text s life (Takes input ∷ []) None o0 o0 w0 w1 (λ l. l ≡ life) = takes output text s life input o0 w0 w1 (λ l. l ≡ life) refl up took in
      let both : WritesAndSends output text s life (Takes input ∷ makes (made_by intakes taking.intake)) end o0 o1 w0 w2 stands =
      joined output text s life (Takes input ∷ []) (makes (made_by intakes taking.intake)) end o0 o0 o1 w0 w1 w2 (λ l. l ≡ life) stands first
      (λ mid same on. subst (λ l. WritesAndSends output text s l (makes (made_by intakes taking.intake)) end o0 o1 w1 w2 stands) (sym same) taking.tells) in
      let tells : WritesAndSends output text s life (course_from intakes (taking.intake ∷ [])) end o0 o1 w0 w2 stands =
      subst (λ c. WritesAndSends output text s life c end o0 o1 w0 w2 stands) (course_one intakes taking.intake input taking.is) both in
      record {
        taken = taking.intake ∷ [];
        tells = tells;
        last = rest_one intakes taking.intake (tells.said ++ tells.unsaid) tells.left tells.reports;
        reads = taking.reads;
        asked = risen_to a0 a1 1 (asks_of end (taking.intake ∷ [])) (sym (asks_one end taking.intake other)) (risen_once (2 ^ 64 - 1) a0 a1 asked);
        at_most = omega arith;
        every = λ on. refl;
        stop = stop ∙ stop_in taking.intake input taking.is;
      }

  -- no input was taken, since the link failed
  pub turn_failed : (o : Option (List ℕ)) (w0 w1 : Option (List (Traffic X))) (stands : Life → Type 0) (readings : List Connection) (a0 a1 : ℕ)
      → stands life → IsUp life → Reads readings intakes → w1 ≡ w0 → a1 ≡ counted a0 1 → Turns output text s life intakes (Some ends.Link) o o w0 w1 stands readings a0 a1 1
  turn_failed o w0 w1 stands readings a0 a1 lives up reads same asked =
      let tells = rests output text s life (Some ends.Link) o w0 w1 stands (λ is. absurd cc) (λ is. absurd cc) lives up same in
      record {
        taken = [];
        tells = tells;
        last = rest_none tells.left [] (tells.all_done refl);
        reads = reads;
        asked = risen_once (2 ^ 64 - 1) a0 a1 asked;
        at_most = omega arith;
        every = λ on. absurd cc;
        stop = refl;
      }

  -- or since there was no memory
  pub turn_refused : (end : Option End) (o0 o1 : Option (List ℕ)) (w0 w1 : Option (List (Traffic X))) (stands : Life → Type 0) (readings : List Connection) (a0 a1 : ℕ)
      → Reads readings intakes → w1 ≡ w0 → is_stop end ≡ false → WritesAndSends output text s life (Makes happening.Refused ∷ []) end o0 o1 w0 w0 stands
      → a1 ≡ counted a0 1 → (end ≡ Some ends.Link → ⊥) → Turns output text s life intakes end o0 o1 w0 w1 stands readings a0 a1 1
  turn_refused end o0 o1 w0 w1 stands readings a0 a1 reads same stop telling asked other =
      let tells : WritesAndSends output text s life (course_from intakes (Refused ∷ [])) end o0 o1 w0 w1 stands = subst (λ w. WritesAndSends output text s life (Makes happening.Refused ∷ []) end o0 o1 w0 w stands) (sym same) telling in
      record {
        taken = Refused ∷ [];
        tells = tells;
        last = rest_one intakes Refused (tells.said ++ tells.unsaid) tells.left tells.reports;
        reads = reads;
        asked = risen_to a0 a1 1 (asks_of end (Refused ∷ [])) (sym (asks_one end Refused other)) (risen_once (2 ^ 64 - 1) a0 a1 asked);
        at_most = omega arith;
        every = λ on. refl;
        stop = stop;
      }

  -- no turn
  pub turns_none : (o : Option (List ℕ)) (w : Option (List (Traffic X))) (stands : Life → Type 0) (readings : List Connection) (a : ℕ)
      → stands life → IsUp life → Reads readings intakes → Turns output text s life intakes None o o w w stands readings a a 0
  turns_none o w stands readings a lives up reads =
      let tells = nothing output text s life o w stands lives up in
      record {
        taken = [];
        tells = tells;
        last = rest_none tells.left [] (tells.all_done refl);
        reads = reads;
        asked = refl;
        at_most = omega arith;
        every = λ on. refl;
        stop = refl;
      }

  -- turns, and then more of them
  pub turns_more : (end : Option End) (o0 o1 o2 : Option (List ℕ)) (w0 w1 w2 : Option (List (Traffic X))) (stands1 stands2 : Life → Type 0) (readings1 readings2 : List Connection) (a0 a1 a2 n m : ℕ)
      → Turns output text s life intakes None o0 o1 w0 w1 stands1 readings1 a0 a1 n
      → ((mid : Life) (taken : Intakes) → stands1 mid → IsUp mid → Reads readings1 taken → Turns output text s mid taken end o1 o2 w1 w2 stands2 readings2 a1 a2 m)
      → Turns output text s life intakes end o0 o2 w0 w2 stands2 readings2 a0 a2 (n + m)
  turns_more end o0 o1 o2 w0 w1 w2 stands1 stands2 readings1 readings2 a0 a1 a2 n m first next =
      let second = next (lived life (first.tells.said ++ first.tells.unsaid)) (followed intakes first.taken) first.tells.lives (first.tells.up refl) first.reads in
      let P : List Happening → Type 0 = λ left. IsRestOf left (last_made [] intakes (first.taken ++ second.taken)) in
      let both = joined_at output text s life (course_from intakes first.taken) (course_from (followed intakes first.taken) second.taken) end o0 o1 o2 w0 w1 w2 stands1 stands2 P first.tells
      (second.tells, rest_more [] intakes first.taken second.taken second.tells.left second.last) in
      let all = subst (λ c. (t : WritesAndSends output text s life c end o0 o2 w0 w2 stands2) × P t.left) (sym (course_more intakes first.taken second.taken)) both in
      record {
        taken = first.taken ++ second.taken;
        tells = all.0;
        last = all.1;
        reads = subst (λ l. Reads readings2 l) (sym (followed_more intakes first.taken second.taken)) second.reads;
        asked = risen_to a0 a2 (length first.taken + asks_of end second.taken) (asks_of end (first.taken ++ second.taken)) (sym (asks_more end first.taken second.taken))
            (risen_more (2 ^ 64 - 1) a0 a1 a2 (length first.taken) (asks_of end second.taken) first.asked second.asked);
        at_most = omega (arith, first.at_most, second.at_most, length-append first.taken second.taken);
        every = λ on. omega (arith, first.every refl, second.every on, length-append first.taken second.taken);
        stop = second.stop ∙ sym (has_stop_more first.taken second.taken (sym first.stop));
      }

  pub turns_same : (end : Option End) (o0 o1 : Option (List ℕ)) (w0 w1 : Option (List (Traffic X))) (stands : Life → Type 0) (readings : List Connection) (a0 a1 n m : ℕ) → n ≡ m
      → Turns output text s life intakes end o0 o1 w0 w1 stands readings a0 a1 n → Turns output text s life intakes end o0 o1 w0 w1 stands readings a0 a1 m
  turns_same end o0 o1 w0 w1 stands readings a0 a1 n m same turns = subst (λ (k : ℕ). Turns output text s life intakes end o0 o1 w0 w1 stands readings a0 a1 k) same turns

  -- a run that ended took no more
  pub turns_within : (end : End) (o0 o1 : Option (List ℕ)) (w0 w1 : Option (List (Traffic X))) (stands : Life → Type 0) (readings : List Connection) (a0 a1 n m : ℕ) → n ≤ m
      → Turns output text s life intakes (Some end) o0 o1 w0 w1 stands readings a0 a1 n → Turns output text s life intakes (Some end) o0 o1 w0 w1 stands readings a0 a1 m
  turns_within end o0 o1 w0 w1 stands readings a0 a1 n m le turns = record {
    taken = turns.taken;
    tells = turns.tells;
    last = turns.last;
    reads = turns.reads;
    asked = turns.asked;
    at_most = omega (arith, turns.at_most, le);
    every = λ on. absurd cc;
    stop = turns.stop;
  }

not_turns : (end : End) → does_all (Some end) ≡ false → end ≡ ends.Turns → ⊥
not_turns end within is = let e : does_all (Some ends.Turns) ≡ false = subst (λ (x : End). does_all (Some x) ≡ false) is within in cc

-- the link was not asked
asks_none : (end : End) → does_all (Some end) ≡ false → asks_of (Some end) [] ≡ 0
asks_none ends.Stop within = refl
asks_none ends.Turns within = refl
asks_none ends.Write within = refl
asks_none ends.Disk within = refl
asks_none ends.Link within = absurd cc
asks_none ends.Memory within = refl

module _ {X : Type 0} (output : X → Output) (text : Life → Entry → List ℕ) (s : Settings) (life : Life) where
  -- the run ended in Start
  pub serves_start : (end : End) (o0 o1 : Option (List ℕ)) (w0 w1 : Option (List (Traffic X))) (stands : Life → Type 0) (a0 a1 turns : ℕ)
      → a1 ≡ a0 → does_all (Some end) ≡ false → is_stop (Some end) ≡ false → WritesAndSends output text s life (Makes (Comes Start) ∷ []) (Some end) o0 o1 w0 w1 stands
      → ServesOn output text s life end o0 o1 w0 w1 stands a0 a1 turns
  serves_start end o0 o1 w0 w1 stands a0 a1 turns unasked within stop tells = record {
    taken = [];
    tells = tells;
    last = reported_rest (Comes Start ∷ []) (tells.said ++ tells.unsaid) tells.left tells.reports;
    asked = risen_to a0 a1 0 (asks_of (Some end) []) (sym (asks_none end within)) (ap (λ a. counted a 0) unasked);
    at_most = omega arith;
    every = λ is. absurd (not_turns end within is);
    stop = stop;
  }

  -- or in a turn
  pub serves_turns : (end : End) (o0 o1 o2 : Option (List ℕ)) (w0 w1 w2 : Option (List (Traffic X))) (stands1 stands2 : Life → Type 0) (readings : List Connection) (a0 a1 a2 turns : ℕ) → a1 ≡ a0 → (end ≡ ends.Turns → ⊥)
      → WritesAndSends output text s life (Makes (Comes Start) ∷ []) None o0 o1 w0 w1 stands1
      → ((mid : Life) → stands1 mid → IsUp mid → Turns output text s mid NoIntakes (Some end) o1 o2 w1 w2 stands2 readings a1 a2 turns)
      → ServesOn output text s life end o0 o2 w0 w2 stands2 a0 a2 turns
  serves_turns end o0 o1 o2 w0 w1 w2 stands1 stands2 readings a0 a1 a2 turns unasked other first next =
      let second = next (lived life (first.said ++ first.unsaid)) first.lives (first.up refl) in
      let both = joined_at output text s life (Makes (Comes Start) ∷ []) (course_from NoIntakes second.taken) (Some end) o0 o1 o2 w0 w1 w2 stands1 stands2
      (λ left. IsRestOf left (last_made (Comes Start ∷ []) NoIntakes second.taken)) first (second.tells, rest_more (Comes Start ∷ []) NoIntakes [] second.taken second.tells.left second.last) in
      record {
        taken = second.taken;
        tells = both.0;
        last = both.1;
        asked = subst (λ a. HasRisen a a2 (asks_of (Some end) second.taken)) unasked second.asked;
        at_most = second.at_most;
        every = λ is. absurd (other is);
        stop = second.stop;
      }

  -- or took all its turns
  pub serves_all : (o0 o1 o2 : Option (List ℕ)) (w0 w1 w2 : Option (List (Traffic X))) (stands1 stands2 : Life → Type 0) (readings : List Connection) (a0 a1 a2 turns : ℕ) → a1 ≡ a0
      → WritesAndSends output text s life (Makes (Comes Start) ∷ []) None o0 o1 w0 w1 stands1
      → ((mid : Life) → stands1 mid → IsUp mid → Turns output text s mid NoIntakes None o1 o2 w1 w2 stands2 readings a1 a2 turns)
      → ServesOn output text s life ends.Turns o0 o2 w0 w2 stands2 a0 a2 turns
  serves_all o0 o1 o2 w0 w1 w2 stands1 stands2 readings a0 a1 a2 turns unasked first next =
      let second = next (lived life (first.said ++ first.unsaid)) first.lives (first.up refl) in
      let both = joined_at output text s life (Makes (Comes Start) ∷ []) (course_from NoIntakes second.taken) None o0 o1 o2 w0 w1 w2 stands1 stands2 (λ left. Unit {0}) first (second.tells, tt) in
      let tells = all_taken output text s life (Makes (Comes Start) ∷ course_from NoIntakes second.taken) o0 o2 w0 w2 stands2 both.0 in
      record {
        taken = second.taken;
        tells = tells;
        last = rest_none tells.left (last_made (Comes Start ∷ []) NoIntakes second.taken) (tells.all_done refl);
        asked = subst (λ a. HasRisen a a2 (asks_of None second.taken)) unasked second.asked;
        at_most = second.at_most;
        every = λ is. second.every refl;
        stop = second.stop;
      }
