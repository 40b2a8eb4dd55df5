-- What two files that are laid out stand for.
use Rattle.std.proofs.Common.{◌≡◌, ℕ, ◌+◌, ◌<◌, ◌≤◌, ◌^◌, List, [], ◌∷◌, ◌++◌, length, refl, sym, ◌∙◌, ap, subst, inl, inr, arith, Ok, Bool, true, false, Option, Some, None, Err}
use Rattle.std.specs.Prelude.{◌⊎◌, Result, nat_eq, nat_lt, nat_le}
use Rattle.std.specs.Result.{result_unwrap_or}
use Rattle.std.specs.Option.{unwrap_or}
use Rattle.std.proofs.lemmas.Bool.{cases_lt, cond-true, cond-false, ne_eqb, lt-ltb, le-ltb, lt-leb, le-leb}
use Rattle.zen_disk.specs.Moments.{Only, Within, LeavesOnly, joins, leaves_also}
use Rattle.zen_disk.specs.Sides.{Sides, Files, on, other, put, OnlyOn}
use Rattle.zen_disk.specs.declared.side.Side.{Side}
use Rattle.zen_disk.specs.declared.side.Side.TheVariants.{Zero, One}
use Rattle.gate_log.specs.declared.why.Why.{Why}
use Rattle.gate_log.specs.declared.open.SideError.{SideError}
use Rattle.gate_log.specs.declared.open.SideError.TheVariants as error
use Rattle.gate_log.specs.Opening.{IsSideFault, SideWhy, SideRose}
use Rattle.gate_log.specs.Opened.{lists}
use Rattle.std.specs.Prelude.{Vec}
use Rattle.std.specs.declared.alloc.Global.{Global}
use Rattle.gate_log.specs.Journal.{framed, bodies_of, IsFrame, IsLaid, IsBeforeOrAfter, IsReplaced, most_body}
use Rattle.gate_log.specs.Calls.{TornFrom, LeavesOn}
use Rattle.gate_log.specs.Generations.{Generations, is_generation, epoch_in, has_epoch, misplaced_from, may_begin, disorder, checked, in_order, epoch_of, greater, chosen_by, chosen_of, with_side, both, together, generations_of, in_use, standing_in, no_generations, IsSettledAs, IsSettled, with_bodies, renewed, IsAppended, IsRenewed, IsEitherList, list_in_use, Begins, StandsAsSome}
use Rattle.gate_log.proofs.Both.{only_both, only_there}
use Rattle.gate_log.proofs.Laid.{stands_for, torn_fresh, length-framed}

pub generations_by : (side chosen : Side) (b : Sides (List (List ℕ))) (files : Files) → bodies_of (on side files) ≡ Ok (on side b)
    → bodies_of (on (other side) files) ≡ Ok (on (other side) b)
    → disorder side (on side b) ≡ None → disorder (other side) (on (other side) b) ≡ None → chosen_of b ≡ Ok chosen
    → generations_of files ≡ Ok (record { bodies = b; side = chosen })
unfolding generations_of
generations_by Zero chosen b files here there ordered other_ordered is =
    (λ i. together (here i) (there i)) ∙ (λ i. both (checked (ordered i) b.zero) (checked (other_ordered i) b.one)) ∙ ap (with_side b) is
generations_by One chosen b files here there ordered other_ordered is =
    (λ i. together (there i) (here i)) ∙ (λ i. both (checked (other_ordered i) b.zero) (checked (ordered i) b.one)) ∙ ap (with_side b) is

pub put_same : {A : Type 0} (side : Side) (x : A) (b : Sides A) → on side (put side x b) ≡ x
put_same Zero x b = refl
put_same One x b = refl

pub put_other : {A : Type 0} (side : Side) (x : A) (b : Sides A) → on (other side) (put side x b) ≡ on (other side) b
put_other Zero x b = refl
put_other One x b = refl

-- the side that stays
pub put_here : {A : Type 0} (side : Side) (x : A) (b : Sides A) → on side (put (other side) x b) ≡ on side b
put_here Zero x b = refl
put_here One x b = refl

pub other_other : {A : Type 0} (side : Side) (b : Sides A) → on (other (other side)) b ≡ on side b
other_other Zero b = refl
other_other One b = refl

pub other_disorder : (side : Side) (b : Sides (List (List ℕ))) → disorder (other (other side)) (on (other (other side)) b) ≡ disorder side (on side b)
other_disorder Zero b = refl
other_disorder One b = refl

-- one body more that begins no generation

misplaced_push : (p : ℕ) (bodies : List (List ℕ)) (body : List ℕ) → misplaced_from p bodies ≡ None → is_generation body ≡ false
    → misplaced_from p (bodies ++ body ∷ []) ≡ None
unfolding misplaced_from
misplaced_push p [] body none plain = cond-false (is_generation body) _ _ plain
misplaced_push p (first ∷ bodies) body none plain =
    by (is_generation first) refl (λ rest. misplaced_push (p + 5 + length first) bodies body rest plain)
  where
    by : (b : Bool) → is_generation first ≡ b
        → (misplaced_from (p + 5 + length first) bodies ≡ None → misplaced_from (p + 5 + length first) (bodies ++ body ∷ []) ≡ None)
        → misplaced_from p (first ∷ bodies ++ body ∷ []) ≡ None
    by true is more = absurd (let e : Some p ≡ None = sym (cond-true (is_generation first) _ _ is) ∙ none in cc e)
    by false is more = cond-false (is_generation first) _ _ is ∙ more (sym (cond-false (is_generation first) _ _ is) ∙ none)

pub disorder_push : (side : Side) (bodies : List (List ℕ)) (body : List ℕ) (epoch : ℕ) → disorder side bodies ≡ None
    → epoch_of side bodies ≡ Some epoch → is_generation body ≡ false → disorder side (bodies ++ body ∷ []) ≡ None
unfolding misplaced_from
disorder_push Zero [] body epoch none has plain = cond-true (may_begin Zero body) _ _ (cond-false (is_generation body) _ _ plain)
disorder_push One [] body epoch none has plain = absurd (cc has)
disorder_push side (first ∷ bodies) body epoch none has plain = by (may_begin side first) refl
  where
    by : (b : Bool) → may_begin side first ≡ b → disorder side (first ∷ bodies ++ body ∷ []) ≡ None
    by true is =
        cond-true (may_begin side first) _ _ is
        ∙ misplaced_push (8 + 5 + length first) bodies body (sym (cond-true (may_begin side first) _ _ is) ∙ none) plain
    by false is = absurd (let e : Some 8 ≡ None = sym (cond-false (may_begin side first) _ _ is) ∙ none in cc e)

pub epoch_push : (side : Side) (bodies : List (List ℕ)) (body : List ℕ) (epoch : ℕ) → epoch_of side bodies ≡ Some epoch → is_generation body ≡ false
    → epoch_of side (bodies ++ body ∷ []) ≡ epoch_of side bodies
epoch_push Zero [] body epoch has plain = cond-false (is_generation body) _ _ plain
epoch_push One [] body epoch has plain = absurd (cc has)
epoch_push side (first ∷ bodies) body epoch has plain = refl

-- the side in use stays in use where its epoch stays
pub chosen_push : (side : Side) (b : Sides (List (List ℕ))) (bodies : List (List ℕ)) → epoch_of side bodies ≡ epoch_of side (on side b)
    → chosen_of (put side bodies b) ≡ chosen_of b
chosen_push Zero b bodies same = ap (λ e. chosen_by e (epoch_of One b.one)) same
chosen_push One b bodies same = ap (λ e. chosen_by (epoch_of Zero b.zero) e) same

-- an epoch of side one is above zero
above_zero : (body : List ℕ) (epoch : ℕ) → has_epoch body ≡ true → epoch_in body ≡ epoch → 0 < epoch
above_zero body epoch has is = by (nat_lt 8 (length body)) refl
  where
    first : (b : Bool) → nat_le 1 (epoch_in body) ≡ b → nat_lt 8 (length body) ≡ true → 0 < epoch
    first true le long = elim (cases_lt 0 epoch) [
      | inl above ↦ above
      | inr none ↦ absurd (let e : false ≡ true = sym (lt-leb 1 (epoch_in body) (omega (arith, is, none))) ∙ le in cc e)
    ]
    first false le long =
        absurd (let e : false ≡ true = sym (cond-true (nat_lt 8 (length body)) _ _ long ∙ cond-false (nat_le 1 (epoch_in body)) _ _ le) ∙ has in cc e)

    by : (b : Bool) → nat_lt 8 (length body) ≡ b → 0 < epoch
    by true long = first (nat_le 1 (epoch_in body)) refl long
    by false long = absurd (let e : false ≡ true = sym (cond-false (nat_lt 8 (length body)) _ _ long) ∙ has in cc e)

one_above : (bodies : List (List ℕ)) (epoch : ℕ) → disorder One bodies ≡ None → epoch_of One bodies ≡ Some epoch → 0 < epoch
one_above [] epoch none has = absurd (cc has)
one_above (first ∷ bodies) epoch none has = by (is_generation first) refl
  where
    begins : (b : Bool) → may_begin One first ≡ b → is_generation first ≡ true → 0 < epoch
    begins true may tagged =
        above_zero first epoch (sym (cond-true (is_generation first) _ _ tagged) ∙ may)
        (let e : Some (epoch_in first) ≡ Some epoch = sym (cond-true (is_generation first) _ _ tagged) ∙ has in cc e)
    begins false may tagged = absurd (let e : Some 8 ≡ None = sym (cond-false (may_begin One first) _ _ may) ∙ none in cc e)

    by : (b : Bool) → is_generation first ≡ b → 0 < epoch
    by true tagged = begins (may_begin One first) refl tagged
    by false plain =
        absurd
        (let may : may_begin One first ≡ false = cond-false (is_generation first) _ _ plain in let e : Some 8 ≡ None = sym
        (cond-false (may_begin One first) _ _ may) ∙ none in cc e)

greater_one : (a b : ℕ) → a < b → greater a b ≡ Ok One
greater_one a b lt =
    cond-false (nat_eq a b) _ _ (ne_eqb a b (λ same. absurd (let e : a ≡ b = same in omega (arith, lt, e))))
    ∙ cond-true (nat_lt a b) _ _ (lt-ltb a b lt)

greater_zero : (a b : ℕ) → b < a → greater a b ≡ Ok Zero
greater_zero a b gt =
    cond-false (nat_eq a b) _ _ (ne_eqb a b (λ same. absurd (let e : a ≡ b = same in omega (arith, gt, e))))
    ∙ cond-false (nat_lt a b) _ _ (le-ltb a b (omega (arith, gt)))

-- the side in use stays in use where nothing is left on the other
pub chosen_emptied : (side : Side) (b : Sides (List (List ℕ))) (epoch : ℕ) → disorder side (on side b) ≡ None → epoch_of side (on side b) ≡ Some epoch
    → chosen_of (put (other side) [] b) ≡ Ok side
chosen_emptied Zero b epoch none has = ap (λ e. chosen_by e None) has
chosen_emptied One b epoch none has = ap (λ e. chosen_by (Some 0) e) has ∙ greater_one 0 epoch (one_above b.one epoch none has)

-- a generation that may stand first
pub begins_ordered : (side : Side) (body : List ℕ) (epoch : ℕ) → Begins epoch body → disorder side (body ∷ []) ≡ None
unfolding misplaced_from
begins_ordered side body epoch begins = cond-true (may_begin side body) _ _ (may side)
  where
    has : has_epoch body ≡ true
    has =
        cond-true (nat_lt 8 (length body)) _ _ (lt-ltb 8 (length body) begins.long)
        ∙ cond-true (nat_le 1 (epoch_in body)) _ _ (le-leb 1 (epoch_in body) (omega (arith, begins.next)))
        ∙ le-leb (epoch_in body) (2 ^ 62) (omega (arith, begins.next, begins.limit))

    may : (side : Side) → may_begin side body ≡ true
    may Zero = cond-true (is_generation body) _ _ begins.tagged ∙ has
    may One = cond-true (is_generation body) _ _ begins.tagged ∙ has

pub begins_epoch : (side : Side) (body : List ℕ) (epoch : ℕ) → Begins epoch body → epoch_of side (body ∷ []) ≡ Some (epoch + 1)
begins_epoch side body epoch begins = cond-true (is_generation body) _ _ begins.tagged ∙ ap Some begins.next

-- with it on the other side, that is in use
pub chosen_renewed : (side : Side) (b : Sides (List (List ℕ))) (body : List ℕ) (epoch : ℕ) → epoch_of side (on side b) ≡ Some epoch
    → Begins epoch body → chosen_of (put (other side) (body ∷ []) b) ≡ Ok (other side)
chosen_renewed Zero b body epoch has begins =
    (λ i. chosen_by (has i) (begins_epoch One body epoch begins i)) ∙ greater_one epoch (epoch + 1) (omega arith)
chosen_renewed One b body epoch has begins =
    (λ i. chosen_by (begins_epoch Zero body epoch begins i) (has i)) ∙ greater_zero (epoch + 1) epoch (omega arith)

-- what stands settled
pub settled_from : (g : Generations) (files : Files) (outcomes : Files → Type 0) (side : Side) (gate other_gate epoch : ℕ)
    → IsSettledAs g files outcomes side gate other_gate epoch → IsSettled files outcomes side gate other_gate epoch
settled_from g files outcomes side gate other_gate epoch is =
    subst (λ (h : Generations). IsSettledAs h files outcomes side gate other_gate epoch)
    (sym (ap (λ (r : Result Generations Why). result_unwrap_or r no_generations) is.stands)) is

pub standing_is : (g : Generations) (files : Files) → generations_of files ≡ Ok g → standing_in files ≡ g
standing_is g files is = ap (λ (r : Result Generations Why). result_unwrap_or r no_generations) is

abbrev pub after_it : Generations → Side → List ℕ → Generations
after_it g side body = record { bodies = put (other side) (body ∷ []) g.bodies; side = other side }

module _ (g : Generations) (seen : Files) (outcomes : Files → Type 0) (side : Side) (gate other_gate epoch : ℕ)
    (is : IsSettledAs g seen outcomes side gate other_gate epoch) where
  -- what an append leaves
  module _ (body : List ℕ) (plain : is_generation body ≡ false) where
    abbrev more : Sides (List (List ℕ))
    more = put side (on side g.bodies ++ body ∷ []) g.bodies

    more_ordered : disorder side (on side (put side (on side g.bodies ++ body ∷ []) g.bodies)) ≡ None
    more_ordered =
        ap (disorder side) (put_same side (on side g.bodies ++ body ∷ []) g.bodies)
        ∙ disorder_push side (on side g.bodies) body epoch is.ordered is.has_epoch_of plain

    more_other : disorder (other side) (on (other side) (put side (on side g.bodies ++ body ∷ []) g.bodies)) ≡ None
    more_other = ap (disorder (other side)) (put_other side (on side g.bodies ++ body ∷ []) g.bodies) ∙ is.other_ordered

    more_chosen : chosen_of (put side (on side g.bodies ++ body ∷ []) g.bodies) ≡ Ok side
    more_chosen =
        chosen_push side g.bodies (on side g.bodies ++ body ∷ []) (epoch_push side (on side g.bodies) body epoch is.has_epoch_of plain) ∙ is.chosen

    pub as_said : with_bodies g.side (in_use g ++ body ∷ []) g ≡ record { bodies = put side (on side g.bodies ++ body ∷ []) g.bodies; side = side }
    as_said = λ i. record { bodies = put (is.active i) (on (is.active i) g.bodies ++ body ∷ []) g.bodies; side = is.active i }

    pub appended_stands : (c : Files) → bodies_of (on side c) ≡ Ok (on side g.bodies ++ body ∷ [])
        → bodies_of (on (other side) c) ≡ Ok (on (other side) g.bodies) → generations_of c ≡ Ok (with_bodies g.side (in_use g ++ body ∷ []) g)
    appended_stands c here there =
        generations_by side side more c (here ∙ ap Ok (sym (put_same side (on side g.bodies ++ body ∷ []) g.bodies)))
        (there ∙ ap Ok (sym (put_other side (on side g.bodies ++ body ∷ []) g.bodies))) more_ordered more_other more_chosen
        ∙ ap Ok (sym as_said)

    pub append_leaves : (c : Files) → LeavesOn side (IsBeforeOrAfter (on side g.bodies) body) seen c → IsAppended g body c
    append_leaves c left =
        let there : bodies_of (on (other side) c) ≡ Ok (on (other side) g.bodies) =
        ap bodies_of left.there ∙ stands_for (on (other side) g.bodies) (on (other side) seen) other_gate is.there in
        elim left.here [
          | inl old ↦ inl
              (generations_by side side g.bodies c old there is.ordered is.other_ordered is.chosen
              ∙ ap Ok (λ i. record { bodies = g.bodies; side = sym is.active i }))
          | inr new ↦ inr (appended_stands c new there)
        ]

    pub appended_settled : (new : Files) (now : Files → Type 0) (next : ℕ) → IsLaid (on side g.bodies ++ body ∷ []) (on side new) next
        → on (other side) new ≡ on (other side) seen → Only new now
        → IsSettledAs (record { bodies = put side (on side g.bodies ++ body ∷ []) g.bodies; side = side }) new now side next other_gate epoch
    appended_settled new now next laid same only =
        let b = put side (on side g.bodies ++ body ∷ []) g.bodies in
        let here : IsLaid (on side b) (on side new) next =
        subst (λ (l : List (List ℕ)). IsLaid l (on side new) next) (sym (put_same side (on side g.bodies ++ body ∷ []) g.bodies)) laid in
        let there : IsLaid (on (other side) b) (on (other side) new) other_gate =
        subst (λ (l : List (List ℕ)). IsLaid l (on (other side) new) other_gate) (sym (put_other side (on side g.bodies ++ body ∷ []) g.bodies))
        (subst (λ (f : List ℕ). IsLaid (on (other side) g.bodies) f other_gate) (sym same) is.there) in
        record {
          here = here;
          there = there;
          ordered = more_ordered;
          other_ordered = more_other;
          has_epoch_of =
              ap (epoch_of side) (put_same side (on side g.bodies ++ body ∷ []) g.bodies)
              ∙ epoch_push side (on side g.bodies) body epoch is.has_epoch_of plain ∙ is.has_epoch_of;
          chosen = more_chosen;
          active = refl;
          stands =
              generations_by side side b new (stands_for (on side b) (on side new) next here)
              (stands_for (on (other side) b) (on (other side) new) other_gate there) more_ordered more_other more_chosen;
          durable = only;
        }

    -- by an append that wrote this side and no other
    pub added_settled : (new : Files) (now : Files → Type 0) (next : ℕ) → IsLaid (on side g.bodies ++ body ∷ []) (on side new) next
        → on (other side) new ≡ on (other side) seen → OnlyOn side (on side new) now
        → ((file : List ℕ) → OnlyOn (other side) file outcomes → OnlyOn (other side) file now)
        → IsSettledAs (record { bodies = put side (on side g.bodies ++ body ∷ []) g.bodies; side = side }) new now side next other_gate epoch
    added_settled new now next laid same here still =
        let there = still (on (other side) seen) (only_there side seen outcomes is.durable) in
        appended_settled new now next laid same (only_both side new now here (λ f left. there f left ∙ sym same))

  -- what a renewal leaves
  module _ (body : List ℕ) (begins : Begins epoch body) where
    emptied_other : disorder (other side) (on (other side) (put (other side) [] g.bodies)) ≡ None
    emptied_other = ap (disorder (other side)) (put_same (other side) [] g.bodies)

    kept_ordered : (bodies : List (List ℕ)) → disorder side (on side (put (other side) bodies g.bodies)) ≡ None
    kept_ordered bodies = ap (disorder side) (put_here side bodies g.bodies) ∙ is.ordered

    here_stands : (c : Files) → on side c ≡ on side seen → bodies_of (on side c) ≡ Ok (on side g.bodies)
    here_stands c same = ap bodies_of same ∙ stands_for (on side g.bodies) (on side seen) gate is.here

    pub emptied_stands : (c : Files) → on side c ≡ on side seen → bodies_of (on (other side) c) ≡ Ok []
        → generations_of c ≡ Ok (with_bodies (other g.side) [] g)
    emptied_stands c same there =
        generations_by side side (put (other side) [] g.bodies) c (here_stands c same ∙ ap Ok (sym (put_here side [] g.bodies)))
        (there ∙ ap Ok (sym (put_same (other side) [] g.bodies))) (kept_ordered []) emptied_other
        (chosen_emptied side g.bodies epoch is.ordered is.has_epoch_of)
        ∙ ap Ok (λ i. record { bodies = put (other (sym is.active i)) [] g.bodies; side = sym is.active i })

    renewed_other : disorder (other side) (on (other side) (put (other side) (body ∷ []) g.bodies)) ≡ None
    renewed_other = ap (disorder (other side)) (put_same (other side) (body ∷ []) g.bodies) ∙ begins_ordered (other side) body epoch begins

    pub is_renewed : record { bodies = put (other side) (body ∷ []) g.bodies; side = other side } ≡ renewed g body
    is_renewed = λ i. record { bodies = put (other (sym is.active i)) (body ∷ []) g.bodies; side = other (sym is.active i) }

    renewed_as : (c : Files) → on side c ≡ on side seen → bodies_of (on (other side) c) ≡ Ok (body ∷ [])
        → generations_of c ≡ Ok (after_it g side body)
    renewed_as c same there =
        generations_by side (other side) (put (other side) (body ∷ []) g.bodies) c
        (here_stands c same ∙ ap Ok (sym (put_here side (body ∷ []) g.bodies))) (there ∙ ap Ok (sym (put_same (other side) (body ∷ []) g.bodies)))
        (kept_ordered (body ∷ [])) renewed_other
        (chosen_renewed side g.bodies body epoch is.has_epoch_of begins)

    pub renewal_leaves : (c : Files) → LeavesOn (other side) (IsReplaced (on (other side) g.bodies) body) seen c → IsRenewed g body c
    renewal_leaves c left =
        let same : on side c ≡ on side seen = sym (other_other side c) ∙ left.there ∙ other_other side seen in
        elim left.here [
          | inl was ↦ elim was [
            | inl old ↦ inl
                (generations_by side side g.bodies c (here_stands c same) old is.ordered is.other_ordered is.chosen
                ∙ ap Ok (λ i. record { bodies = g.bodies; side = sym is.active i }))
            | inr none ↦ inr (inl (emptied_stands c same none))
          ]
          | inr new ↦ inr (inr (renewed_as c same new ∙ ap Ok is_renewed))
        ]

    -- in a run that writes the other side
    pub renewal_run : {D : Type 0} (moment : D → ℕ) (left_since : D → ℕ → Files → Type 0) (old new : D) (frame : List ℕ) (written : Side)
        → IsFrame body frame → written ≡ other side
        → ((bodies : List (List ℕ)) → (b : List ℕ) → IsFrame b frame → IsLaid bodies (on written seen) other_gate → Only seen outcomes
        → LeavesOnly moment left_since old new (LeavesOn written (IsReplaced bodies b) seen)) → LeavesOnly moment left_since old new (IsRenewed g body)
    renewal_run moment left_since old new frame written framing at run =
        let bodies = on (other side) g.bodies in
        let laid : IsLaid bodies (on written seen) other_gate = subst (λ (s : Side). IsLaid bodies (on s seen) other_gate) (sym at) is.there in
        leaves_also moment left_since old new _ (IsRenewed g body) (run bodies body framing laid is.durable)
        (λ f left. renewal_leaves f (subst (λ (s : Side). LeavesOn s (IsReplaced bodies body) seen f) at left))

    pub renewed_settled : (new : Files) (now : Files → Type 0) (next : ℕ) → IsLaid (body ∷ []) (on (other side) new) next
        → on (other (other side)) new ≡ on (other (other side)) seen → Only new now
        → IsSettledAs (after_it g side body) new now (other side) next gate (epoch + 1)
    renewed_settled new now next laid same only =
        let b = put (other side) (body ∷ []) g.bodies in
        let still : on side new ≡ on side seen = sym (other_other side new) ∙ same ∙ other_other side seen in
        let here : IsLaid (on (other side) b) (on (other side) new) next =
        subst (λ (l : List (List ℕ)). IsLaid l (on (other side) new) next) (sym (put_same (other side) (body ∷ []) g.bodies)) laid in
        let stays : on side g.bodies ≡ on (other (other side)) b = sym (put_here side (body ∷ []) g.bodies) ∙ sym (other_other side b) in
        let there : IsLaid (on (other (other side)) b) (on (other (other side)) new) gate =
        subst (λ (l : List (List ℕ)). IsLaid l (on (other (other side)) new) gate) stays
        (subst (λ (f : List ℕ). IsLaid (on side g.bodies) f gate) (sym still ∙ sym (other_other side new)) is.here) in
        record {
          here = here;
          there = there;
          ordered = renewed_other;
          other_ordered = other_disorder side (put (other side) (body ∷ []) g.bodies) ∙ kept_ordered (body ∷ []);
          has_epoch_of = ap (epoch_of (other side)) (put_same (other side) (body ∷ []) g.bodies) ∙ begins_epoch (other side) body epoch begins;
          chosen = chosen_renewed side g.bodies body epoch is.has_epoch_of begins;
          active = refl;
          stands = renewed_as new still (stands_for (body ∷ []) (on (other side) new) next laid);
          durable = only;
        }

    pub renewed_stands : (new : Files) (next : ℕ) → IsLaid (body ∷ []) (on (other side) new) next
        → on (other (other side)) new ≡ on (other (other side)) seen → generations_of new ≡ Ok (renewed g body)
    renewed_stands new next laid same =
        renewed_as new (sym (other_other side new) ∙ same ∙ other_other side seen) (stands_for (body ∷ []) (on (other side) new) next laid)
        ∙ ap Ok is_renewed

-- files that stand for the same on one side, and agree on the other
pub same_stands : (side : Side) (c d : Files) → bodies_of (on side c) ≡ bodies_of (on side d) → on (other side) c ≡ on (other side) d
    → generations_of c ≡ generations_of d
unfolding generations_of
same_stands Zero c d here there = λ i. together (here i) (bodies_of (there i))
same_stands One c d here there = λ i. together (bodies_of (there i)) (here i)

-- whatever a write of a header leaves stands for what a crash might have left before
pub fresh_stands : (side : Side) (old : List ℕ) (before outcomes : Files → Type 0) → length old ≤ 9 → Within before outcomes
    → OnlyOn side old outcomes → (c : Files) → TornFrom outcomes side 0 9 c → StandsAsSome before c
fresh_stands side old before outcomes short within only c from =
    let size : length (on side from.files) ≤ 9 = omega (arith, short, ap length (only from.files from.was)) in (
      from.files,
      within from.files from.was,
      same_stands side c from.files
          (torn_fresh (on side from.files) (on side c) size from.torn.here) from.torn.there,
    )

-- and what stands for that stands for what a crash left still earlier
pub stands_on : (first then : Files → Type 0) → ((c : Files) → then c → first c ⊎ StandsAsSome first c) → (c : Files) → StandsAsSome then c
    → StandsAsSome first c
stands_on first then before c left = elim (before left.0 left.1) [
  | inl was ↦ (left.0, was, left.2)
  | inr from ↦ (from.0, from.1, left.2 ∙ from.2)
]

-- two files that were opened
pub opened_settled : (side : Side) (b : Sides (List (List ℕ))) (files : Files) (outcomes : Files → Type 0) (gates : Sides ℕ) (epoch : ℕ)
    → IsLaid b.zero files.zero gates.zero → IsLaid b.one files.one gates.one
    → disorder Zero b.zero ≡ None → disorder One b.one ≡ None → chosen_of b ≡ Ok side → epoch_of side (on side b) ≡ Some epoch → Only files outcomes
    → IsSettledAs (record { bodies = b; side = side }) files outcomes side (on side gates) (on (other side) gates) epoch
opened_settled Zero b files outcomes gates epoch zero one zero_ordered one_ordered chosen has only = record {
  here = zero;
  there = one;
  ordered = zero_ordered;
  other_ordered = one_ordered;
  has_epoch_of = has;
  chosen = chosen;
  active = refl;
  stands =
      generations_by Zero Zero b files (stands_for b.zero files.zero gates.zero zero)
      (stands_for b.one files.one gates.one one) zero_ordered one_ordered chosen;
  durable = only;
}
opened_settled One b files outcomes gates epoch zero one zero_ordered one_ordered chosen has only = record {
  here = one;
  there = zero;
  ordered = one_ordered;
  other_ordered = zero_ordered;
  has_epoch_of = has;
  chosen = chosen;
  active = refl;
  stands =
      generations_by Zero One b files (stands_for b.zero files.zero gates.zero zero)
      (stands_for b.one files.one gates.one one) zero_ordered one_ordered chosen;
  durable = only;
}

-- side zero has an epoch
pub zero_has : (bodies : List (List ℕ)) → epoch_of Zero bodies ≡ Some (unwrap_or (epoch_of Zero bodies) 0)
zero_has [] = refl
zero_has (first ∷ bodies) = by (is_generation first) refl
  where
    by : (b : Bool) → is_generation first ≡ b → epoch_of Zero (first ∷ bodies) ≡ Some (unwrap_or (epoch_of Zero (first ∷ bodies)) 0)
    by true is = cond-true (is_generation first) _ _ is ∙ sym (ap (λ (e : Option ℕ). Some (unwrap_or e 0)) (cond-true (is_generation first) _ _ is))
    by false is =
        cond-false (is_generation first) _ _ is ∙ sym (ap (λ (e : Option ℕ). Some (unwrap_or e 0)) (cond-false (is_generation first) _ _ is))

-- and so has side one where it is in use
pub one_has : (zero one : Option ℕ) → chosen_by zero one ≡ Ok One → one ≡ Some (unwrap_or one 0)
one_has zero (Some e) is = refl
one_has None None is = absurd (cc is)
one_has (Some e) None is = absurd (cc is)

-- a fault of one side, as the files' first
pub zero_why : (files : Files) (e : SideError) → IsSideFault Zero files.zero e → SideWhy Zero files e
unfolding generations_of
zero_why files (error.Fault fault) is = ap (λ r. both r (in_order One (bodies_of files.one))) is
zero_why files error.Memory is = tt
zero_why files error.Failed is = tt

pub one_why : (files : Files) (bodies : List (List ℕ)) (e : SideError) → bodies_of files.zero ≡ Ok bodies → disorder Zero bodies ≡ None
    → IsSideFault One files.one e → SideWhy One files e
unfolding generations_of
one_why files bodies (error.Fault fault) zero ordered is =
    (λ i. both (in_order Zero (zero i)) (is i)) ∙ ap (λ d. both (checked d bodies) (Err fault)) ordered
one_why files bodies error.Memory zero ordered is = tt
one_why files bodies error.Failed zero ordered is = tt

pub twin_why : (files : Files) (b : Sides (List (List ℕ))) (why : Why) → bodies_of files.zero ≡ Ok b.zero → bodies_of files.one ≡ Ok b.one
    → disorder Zero b.zero ≡ None → disorder One b.one ≡ None → chosen_of b ≡ Err why → generations_of files ≡ Err why
unfolding generations_of
twin_why files b why zero one zero_ordered one_ordered is =
    (λ i. together (zero i) (one i)) ∙ (λ i. both (checked (zero_ordered i) b.zero) (checked (one_ordered i) b.one)) ∙ ap (with_side b) is

-- what may be left after a run is what it might have left before, or left in it
pub leaves_now : {D I : Type 0} (moment : D → ℕ) (left_since : D → ℕ → I → Type 0) (old new : D) (P before now : I → Type 0)
    → LeavesOnly moment left_since old new P
    → ((t : ℕ) (c : I) → t ≤ moment new → now c → left_since new t c) → ((c : I) → left_since old (moment old) c → before c) → (c : I) → now c
    → before c ⊎ P c
leaves_now moment left_since old new P before now run counts only c left =
    elim (run.since (moment old) c (omega arith) (counts (moment old) c run.later left)) [
      | inl was ↦ inl (only c was)
      | inr has ↦ inr has
    ]

pub stands_joins : {D : Type 0} (moment : D → ℕ) (left_since : D → ℕ → Files → Type 0) (old mid new : D) (before between : Files → Type 0)
    → LeavesOnly moment left_since old mid (StandsAsSome before) → LeavesOnly moment left_since mid new (StandsAsSome between)
    → ((t : ℕ) (c : Files) → t ≤ moment mid → between c → left_since mid t c) → ((c : Files) → left_since old (moment old) c → before c)
    → LeavesOnly moment left_since old new (StandsAsSome before)
stands_joins moment left_since old mid new before between first then counts only =
    joins moment left_since old mid new (StandsAsSome before) (StandsAsSome between) (StandsAsSome before) first then (λ c left. left)
    (stands_on before between (leaves_now moment left_since old mid (StandsAsSome before) before between first counts only))

pub rose_earlier : (first before now : ℕ) (e : SideError) → first ≤ before → SideRose before now e → SideRose first now e
rose_earlier first before now (error.Fault fault) le rose = tt
rose_earlier first before now error.Memory le rose = tt
rose_earlier first before now error.Failed le rose = λ low. rose (omega (arith, le, low))

-- the epoch that was read
pub epoch_read : (side : Side) (vs ws : List (Vec ℕ Global)) (e : Option ℕ) → vs ≡ ws → disorder side (lists ws) ≡ None
    → (disorder side (lists vs) ≡ None → e ≡ epoch_of side (lists vs)) → epoch_of side (lists ws) ≡ e
epoch_read side vs ws e same ordered is = sym (is (ap (λ l. disorder side (lists l)) same ∙ ordered) ∙ ap (λ l. epoch_of side (lists l)) same)

pub renewed_list : (g : Generations) (body : List ℕ) (c : Files) → IsRenewed g body c → IsEitherList (in_use g) (body ∷ []) c
renewed_list g body c (inl old) = inl (ap list_in_use old)
renewed_list g body c (inr (inl none)) = inl (ap list_in_use none ∙ ap Ok (put_here g.side [] g.bodies))
renewed_list g body c (inr (inr new)) = inr (ap list_in_use new ∙ ap Ok (put_same (other g.side) (body ∷ []) g.bodies))

-- a frame that is not too long
pub is_frame : (body frame : List ℕ) → frame ≡ framed body → length frame ≤ most_body + 5 → IsFrame body frame
is_frame body frame is short = record { short = omega (arith, ap length is, length-framed body); bytes = is }
