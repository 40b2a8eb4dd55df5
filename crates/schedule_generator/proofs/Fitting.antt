-- Each line that is drawn is a line of its four nodes, and it is short.
use Rattle.std.proofs.Common.{◌≡◌, ℕ, zero, suc, ◌+◌, ◌-◌, ◌/◌, ◌%◌, ◌<◌, ◌≤◌, Bool, true, false, List, [], ◌∷◌, ◌++◌, length, length-append, refl, arith, IsTrue, lit≤}
use Rattle.std.specs.Prelude.{nat_lt, ◌==◌, codes, decimal, if◌then◌else◌}
use Rattle.std.proofs.lemmas.Bool.{and_from, ltb-true}
use Rattle.voting_config.specs.Ids.{Id, has, are_among}
use Rattle.zen_disk.specs.declared.orders.Way.{Way}
use Rattle.voting_config.specs.Lists.{items_of, list_text, are_ids_after}
use Rattle.schedule_text.specs.Words.{mode_text, FitsMode}
use Rattle.schedule_text.specs.Lines.{FitsCore, line_text}
use Rattle.schedule_text.specs.declared.schedule.Line.{Line}
use Rattle.schedule_text.specs.declared.schedule.Line.TheVariants.{Boot, StartJoin, Deliver, Restart}
use Rattle.schedule_generator.specs.Draws.{after_draws, draw_of, seeded}
use Rattle.schedule_generator.specs.Drawn.{config_of, line_of_kind, node_of, ordinal_of, stop_line, text_of, value_line, way_of}
use Rattle.schedule_generator.specs.Generated.{line_at}
use Rattle.schedule_generator.specs.Laws.{most_steps}
use Rattle.schedule_generator.proofs.StepTexts.{decimal_short, is_text}

abbrev pub nodes : List Id
nodes = items_of (codes "a,b,c,d")

pub record Good (l : Line) : Type 0 where
  pub fits : FitsCore nodes l
  pub short : length (line_text l) ≤ 100

-- what holds of both holds of the one that is taken
either : {A : Type 0} (P : A → Type 0) (b : Bool) (x y : A) → P x → P y → P (if b then x else y)
either P true x y p q = p
either P false x y p q = q

letter : (m : ℕ) → m < 4 → has ((97 + m) ∷ []) nodes ≡ true
letter zero h = refl
letter (suc zero) h = refl
letter (suc (suc zero)) h = refl
letter (suc (suc (suc zero))) h = refl
letter (suc (suc (suc (suc m)))) h = absurd (omega arith)

listed_node : (number : ℕ) → has (node_of number) nodes ≡ true
listed_node number = letter (number % 4) (omega arith)

-- ---- configurations and ways

record IsConfig (ids : List Id) : Type 0 where
  good : IsTrue (are_ids_after [] ids) × IsTrue (are_among nodes ids)
  short : length (list_text ids) ≤ 7

is_config : (word : ℕ) → IsConfig (config_of word)
is_config word =
    either IsConfig (word % 4 == 0) _ _ (record { good = (refl, refl); short = lit≤ tt })
    (either IsConfig (word % 4 == 1) _ _ (record { good = (refl, refl); short = lit≤ tt })
    (either IsConfig (word % 4 == 2) _ _ (record { good = (refl, refl); short = lit≤ tt })
    (record { good = (refl, refl); short = lit≤ tt })))

record IsMode (way : Way) : Type 0 where
  fits : FitsMode way
  short : length (mode_text way) ≤ 7

is_mode : (word : ℕ) → IsMode (way_of word)
is_mode word =
    either IsMode (word / 8 % 3 == 0) _ _ (record { fits = tt; short = lit≤ tt })
    (either IsMode (word / 8 % 3 == 1) _ _ (record { fits = tt; short = lit≤ tt })
    (record { fits = omega arith; short = lit≤ tt }))

-- ---- ordinals

record IsOrdinal (k : ℕ) : Type 0 where
  positive : 1 ≤ k
  below : k ≤ most_steps

is_ordinal : (sent word : ℕ) → sent ≤ most_steps → IsOrdinal (ordinal_of sent word)
is_ordinal sent word few = from (nat_lt (word % 8) sent) refl
  where
    from : (b : Bool) → nat_lt (word % 8) sent ≡ b → IsOrdinal (if b then sent - word % 8 else 1)
    from true e = let lt : word % 8 < sent = ltb-true _ _ e in record { positive = omega arith; below = omega arith }
    from false e = record { positive = omega arith; below = omega arith }

-- ---- lines

number_short : (n : ℕ) → n ≤ 1 + most_steps → length (decimal n) ≤ 20
number_short n few = decimal_short n (omega arith)

module _ (step : ℕ) (few : step < most_steps) where
  boots : (id : Id) → has id nodes ≡ true → length id ≤ 1 → Good (Boot id)
  boots id is one = record { fits = is; short = omega arith }

  joins : (id leader : Id) → has id nodes ≡ true → has leader nodes ≡ true → length id ≤ 1 → length leader ≤ 1 → Good (StartJoin id leader (1 + step / 100))
  joins id leader is its one its_one = record {
    fits = (is, its, (omega arith, omega arith));
    short = omega (arith, number_short (1 + step / 100) (omega arith), length-append id (32 ∷ leader ++ 32 ∷ decimal (1 + step / 100)), length-append leader (32 ∷ decimal (1 + step / 100)));
  }

  values : (leader : Id) (word : ℕ) → has leader nodes ≡ true → length leader ≤ 1 → Good (value_line step leader word)
  values leader word its its_one =
      let c = is_config word in
      let rest : List ℕ = 32 ∷ text_of step ++ 32 ∷ list_text (config_of word) in
      record {
        fits = (its, (omega arith, omega arith), is_text step (omega arith), and_from _ _ c.good.0 c.good.1);
        short = omega (arith, number_short (1 + step) (omega arith), number_short step (omega arith), length-append leader (32 ∷ decimal (1 + step) ++ rest), length-append (decimal (1 + step)) rest, length-append (decimal step) (32 ∷ list_text (config_of word)), c.short);
      }

  stops : (id : Id) (word : ℕ) → has id nodes ≡ true → length id ≤ 1 → Good (stop_line id word)
  stops id word is one =
      let m = is_mode word in
      let count : ℕ = 1 + word / 2 % 4 in
      either Good (word % 2 == 0) _ _
      (record { fits = (is, m.fits); short = omega (arith, length-append id (32 ∷ mode_text (way_of word)), m.short) })
      (record {
        fits = (is, (omega arith, omega arith), m.fits);
        short = omega (arith, length-append id (32 ∷ decimal count ++ 32 ∷ mode_text (way_of word)), length-append (decimal count) (32 ∷ mode_text (way_of word)), decimal_short count (omega arith), m.short);
      })

  restarts : (id : Id) → has id nodes ≡ true → length id ≤ 1 → Good (Restart id)
  restarts id is one = record { fits = is; short = omega arith }

  delivers : (id : Id) (k : ℕ) → has id nodes ≡ true → length id ≤ 1 → IsOrdinal k → Good (Deliver id k)
  delivers id k is one o = record {
    fits = (is, (o.positive, omega (arith, o.below)));
    short = omega (arith, length-append id (32 ∷ decimal k), number_short k (omega (arith, o.below)));
  }

  of_kind : (kind sent : ℕ) (id leader : Id) (word : ℕ) → sent ≤ most_steps → has id nodes ≡ true → has leader nodes ≡ true → length id ≤ 1 → length leader ≤ 1 → Good (line_of_kind kind step sent id leader word)
  of_kind kind sent id leader word few_sent is its one its_one =
      either Good (nat_lt kind 2) _ _ (joins id leader is its one its_one)
      (either Good (kind == 2) _ _ (values leader word its its_one)
      (either Good (kind == 3) _ _ (stops id word is one)
      (either Good (nat_lt kind 7) _ _ (restarts id is one)
      (delivers id (ordinal_of sent word) is one (is_ordinal sent word few_sent)))))

  pub line_good : (number sent : ℕ) → sent ≤ most_steps → Good (line_at number step sent)
  line_good number sent few_sent =
      either Good (nat_lt step 3) _ _ (boots (node_of step) (listed_node step) (lit≤ tt))
      (let d = draw_of (after_draws (step - 3) (seeded number)) in
      of_kind (d.first % 16) sent (node_of d.second) (node_of (step / 100)) d.third few_sent (listed_node d.second) (listed_node (step / 100)) (lit≤ tt) (lit≤ tt))
