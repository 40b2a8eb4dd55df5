-- The bodies of one side, one after another.
use Rattle.std.proofs.Common.{◌≡◌, ℕ, ◌+◌, ◌<◌, List, [], ◌∷◌, ◌++◌, length, drop, get_or, refl, sym, ◌∙◌, ap, arith, length-append, true, false, Some, None, Bool}
use Rattle.std.specs.Prelude.{Vec}
use Rattle.std.specs.declared.alloc.Global.{Global}
use Rattle.std.proofs.lemmas.Bool.{cond-true, cond-false}
use Rattle.std.proofs.lemmas.List.{drop_more}
use Rattle.gate_log.specs.Journal.{sized, laid}
use Rattle.gate_log.specs.Opened.{lists}
use Rattle.gate_log.specs.Generations.{is_generation, misplaced_from, tail_of}
use Rattle.gate_log.proofs.Laid.{length-sized, laid-push}

pub length-laid : (body : List ℕ) (bodies : List (List ℕ)) → length (laid (body ∷ bodies)) ≡ 5 + length body + length (laid bodies)
unfolding laid
length-laid body bodies = omega (arith, length-append (sized body) (laid bodies), length-sized body)

pub lists_drop : (vs : List (Vec ℕ Global)) (i : ℕ) (v : Vec ℕ Global) → i < length vs → v ≡ get_or vs i v
    → lists (drop i vs) ≡ v.items ∷ lists (drop (i + 1) vs)
lists_drop vs i v inside is = ap lists (drop_more vs i v inside) ∙ ap (λ (w : Vec ℕ Global). w.items ∷ lists (drop (i + 1) vs)) (sym is)

pub here : (p : ℕ) (body : List ℕ) (bodies : List (List ℕ)) → is_generation body ≡ true → misplaced_from p (body ∷ bodies) ≡ Some p
unfolding misplaced_from
here p body bodies is = cond-true (is_generation body) _ _ is

pub further : (p : ℕ) (body : List ℕ) (bodies : List (List ℕ)) → is_generation body ≡ false
    → misplaced_from p (body ∷ bodies) ≡ misplaced_from (p + 5 + length body) bodies
unfolding misplaced_from
further p body bodies is = cond-false (is_generation body) _ _ is

pub nowhere : (p : ℕ) → misplaced_from p [] ≡ None
unfolding misplaced_from
nowhere p = refl

pub no_tail : length (laid []) ≡ 0
unfolding laid
no_tail = refl

pub nothing : (vs : List (Vec ℕ Global)) → length vs < 1 → tail_of (lists vs) ≡ length (laid (lists vs))
nothing [] none = sym no_tail
nothing (v ∷ vs) none = absurd (omega (arith, none))

-- one body more counts where it begins no generation
pub tail_push : (bodies : List (List ℕ)) (body : List ℕ) → is_generation body ≡ false
    → tail_of (bodies ++ body ∷ []) ≡ tail_of bodies + (5 + length body)
unfolding laid
tail_push [] body plain =
    cond-false (is_generation body) _ _ plain
    ∙ (let e : length (laid (body ∷ [])) ≡ 0 + (5 + length body) = omega (arith, length-laid body [], no_tail) in e)
tail_push (first ∷ bodies) body plain = by (is_generation first) refl
  where
    more : (bs : List (List ℕ)) → length (laid (bs ++ body ∷ [])) ≡ length (laid bs) + (5 + length body)
    more bs = omega (arith, ap length (laid-push bs body), length-append (laid bs) (1 ∷ sized body), length-sized body)

    by : (b : Bool) → is_generation first ≡ b → tail_of (first ∷ bodies ++ body ∷ []) ≡ tail_of (first ∷ bodies) + (5 + length body)
    by true is =
        cond-true (is_generation first) _ _ is ∙ more bodies ∙ ap (λ (n : ℕ). n + (5 + length body)) (sym (cond-true (is_generation first) _ _ is))
    by false is =
        cond-false (is_generation first) _ _ is ∙ more (first ∷ bodies)
        ∙ ap (λ (n : ℕ). n + (5 + length body)) (sym (cond-false (is_generation first) _ _ is))

-- nothing stands after the body of a new generation
pub tail_begun : (body : List ℕ) → is_generation body ≡ true → tail_of (body ∷ []) ≡ 0
unfolding laid
tail_begun body is = cond-true (is_generation body) _ _ is

pub tail_behind : (body : List ℕ) (bodies : List (List ℕ)) → is_generation body ≡ true → tail_of (body ∷ bodies) ≡ length (laid bodies)
tail_behind body bodies is = cond-true (is_generation body) _ _ is

pub tail_whole : (body : List ℕ) (bodies : List (List ℕ)) → is_generation body ≡ false → tail_of (body ∷ bodies) ≡ length (laid (body ∷ bodies))
tail_whole body bodies is = cond-false (is_generation body) _ _ is
