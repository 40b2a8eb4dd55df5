-- What stands in the file while a body is added.
use Rattle.std.proofs.Common.{◌≡◌, ◌≢◌, ℕ, ◌+◌, ◌<◌, ◌≤◌, List, [], ◌∷◌, ◌++◌, length, take, drop, get_or, sym, ◌∙◌, ap, subst, inl, inr, arith, append_assoc, length-append, take-append-drop, Ok}
use Rattle.std.proofs.lemmas.Bool.{cases_eq}
use Rattle.std.proofs.lemmas.List.{get_or_at, get_or-take, drop_more, take-take, length-take-le}
use Rattle.std.proofs.lemmas.List.Elements.{All-nil, All-push}
use Rattle.zen_disk.specs.Disk.{written, part, Torn}
use Rattle.zen_disk.proofs.Files.{torn_refl, torn_written, part_written}
use Rattle.gate_log.specs.Journal.{header, sized, framed, laid, bodies_of, IsFrame, IsLaid, IsBeforeOrAfter, IsAsBeforeOrNone, most_body}
use Rattle.gate_log.proofs.Laid.{length-sized, length-framed, laid-push, gate_is, nothing_laid, split, stands_for, laid_from}

-- whatever a write after the gate leaves, the bodies stay
pub torn_behind : (bodies : List (List ℕ)) (file c : List ℕ) (gate n : ℕ) → IsLaid bodies file gate → Torn (gate + 1) n file c → IsLaid bodies c gate
torn_behind bodies file c gate n is torn =
    let same : get_or c gate 0 ≡ get_or file gate 0 =
    sym (get_or-take (gate + 1) c gate 0 (omega arith)) ∙ ap (λ (l : List ℕ). get_or l gate 0) torn.before
    ∙ get_or-take (gate + 1) file gate 0 (omega arith) in
    record {
      short = is.short;
      prefix =
          sym (take-take gate (gate + 1) c (omega arith)) ∙ ap (λ (l : List ℕ). take gate l) torn.before
          ∙ take-take gate (gate + 1) file (omega arith) ∙ is.prefix;
      inside = omega (arith, is.inside, torn.no_shorter);
      closed = λ one. is.closed (sym same ∙ one);
    }

-- a body stands after the gate
module _ (bodies : List (List ℕ)) (body frame file : List ℕ) (gate : ℕ) (is : IsLaid bodies file gate) (framing : IsFrame body frame)
    (behind : part (gate + 1) (length frame) file ≡ frame)
    (c : List ℕ) (torn : Torn gate 1 file c) where
  abbrev rest : List ℕ
  rest = drop (length frame) (drop (gate + 1) file)

  in_c : gate < length c
  in_c = omega (arith, is.inside, torn.no_shorter)

  -- opened, it counts
  pub opened : get_or c gate 0 ≡ 1 → IsLaid (bodies ++ body ∷ []) c (gate + length frame)
  unfolding framed
  opened one =
      let tail : drop (gate + 1) c ≡ sized body ++ 0 ∷ [] ++ drop (length frame) (drop (gate + 1) file) =
      torn.after ∙ sym (take-append-drop (length frame) (drop (gate + 1) file))
      ∙ ap (λ (l : List ℕ). l ++ drop (length frame) (drop (gate + 1) file)) (behind ∙ framing.bytes) in
      let from_gate : drop gate c ≡ 1 ∷ (sized body ++ 0 ∷ [] ++ rest) = drop_more c gate 0 in_c ∙ (λ i. one i ∷ tail i) in
      let parts : c ≡ header ++ laid bodies ++ 1 ∷ (sized body ++ 0 ∷ [] ++ rest) =
      sym (take-append-drop gate c) ∙ (λ i. (torn.before ∙ is.prefix) i ++ from_gate i) in
      let regroup : header ++ laid bodies ++ 1 ∷ (sized body ++ 0 ∷ [] ++ rest) ≡ header ++ (laid bodies ++ 1 ∷ sized body) ++ 0 ∷ rest =
      simp append_assoc in
      let whole : c ≡ header ++ laid (bodies ++ body ∷ []) ++ 0 ∷ rest =
      parts ∙ regroup ∙ ap (λ (l : List ℕ). header ++ l ++ 0 ∷ rest) (sym (laid-push bodies body)) in
      let at : gate + length frame ≡ 8 + length (laid (bodies ++ body ∷ [])) =
      omega (
        arith,
        gate_is bodies file gate is,
        ap length framing.bytes,
        length-framed body,
        ap length (laid-push bodies body),
        length-append (laid bodies)
            (1 ∷ sized body),
        length-sized body,
      ) in
      laid_from (bodies ++ body ∷ []) c (gate + length frame) 0 rest
      (All-push (λ (b : List ℕ). length b ≤ most_body) bodies body is.short framing.short) at whole (λ no. absurd (omega arith))

  -- closed, it does not
  pub still_closed : get_or c gate 0 ≢ 1 → IsLaid bodies c gate
  still_closed closed = record { short = is.short; prefix = torn.before ∙ is.prefix; inside = in_c; closed = closed }

-- what the first two calls may leave
pub first_leaves : (bodies : List (List ℕ)) (body file c : List ℕ) (gate n : ℕ) → IsLaid bodies file gate → Torn (gate + 1) n file c
    → IsBeforeOrAfter bodies body c
first_leaves bodies body file c gate n is torn = inl (stands_for bodies c gate (torn_behind bodies file c gate n is torn))

-- and the last two
module _ (bodies : List (List ℕ)) (body frame old file : List ℕ) (gate : ℕ) (is : IsLaid bodies old gate) (framing : IsFrame body frame)
    (done : file ≡ written old (gate + 1) frame) where
  staged : IsLaid bodies file gate
  staged =
      torn_behind bodies old file gate (length frame) is
      (subst (λ (l : List ℕ). Torn (gate + 1) (length frame) old l) (sym done) (torn_written old (gate + 1) frame (omega (arith, is.inside))))

  behind : part (gate + 1) (length frame) file ≡ frame
  behind = ap (λ (l : List ℕ). part (gate + 1) (length frame) l) done ∙ part_written old (gate + 1) frame (omega (arith, is.inside))

  pub last_leaves : (c : List ℕ) → Torn gate 1 file c → IsBeforeOrAfter bodies body c
  last_leaves c torn =
      elim (cases_eq (get_or c gate 0) 1) [
        | inl one ↦ inr
            (stands_for (bodies ++ body ∷ []) c (gate + length frame) (opened bodies body frame file gate staged framing behind c torn one))
        | inr closed ↦ inl (stands_for bodies c gate (still_closed bodies body frame file gate staged framing behind c torn closed))
      ]

  pub last_done : (new : List ℕ) → new ≡ written file gate (1 ∷ []) → IsLaid (bodies ++ body ∷ []) new (gate + length frame)
  last_done new is_new =
      let inside : gate ≤ length file = omega (arith, staged.inside) in
      let torn : Torn gate 1 file new = subst (λ (l : List ℕ). Torn gate 1 file l) (sym is_new) (torn_written file gate (1 ∷ []) inside) in
      let one : get_or new gate 0 ≡ 1 =
      ap (λ (l : List ℕ). get_or l gate 0) (is_new ∙ append_assoc (take gate file) (1 ∷ []) (drop (gate + 1) file))
      ∙ get_or_at (take gate file) 1 (drop (gate + 1) file) 0 gate (length-take-le gate file inside) in
      opened bodies body frame file gate staged framing behind new torn one

-- the first gate is written
module _ (bodies : List (List ℕ)) (file : List ℕ) (gate : ℕ) (is : IsLaid bodies file gate) (c : List ℕ) (torn : Torn 8 1 file c) where
  past_header : 8 < length file
  past_header = omega (arith, gate_is bodies file gate is, is.inside)

  begins : take 8 c ≡ header
  begins = torn.before ∙ ap (λ (l : List ℕ). take 8 l) (split bodies file gate is)

  -- not opened, it leaves no body
  pub emptied : get_or c 8 0 ≢ 1 → IsLaid [] c 8
  unfolding laid
  emptied shut =
      record {
        short = All-nil (λ (b : List ℕ). length b ≤ most_body);
        prefix = begins;
        inside = omega
            (arith, past_header, torn.no_shorter);
        closed = shut;
      }

  -- opened, it leaves the file as it was
  pub closes : get_or file 8 0 ≡ 1 → IsAsBeforeOrNone bodies c
  closes was = elim (cases_eq (get_or c 8 0) 1) [
    | inl one ↦
        let same : c ≡ file =
        sym (take-append-drop 8 c)
        ∙ (λ i. torn.before
        i ++ (drop_more c 8 0 (omega (arith, past_header, torn.no_shorter)) ∙ (λ j. (one ∙ sym was) j ∷ torn.after j)
        ∙ sym (drop_more file 8 0 past_header)) i) ∙ take-append-drop 8 file in
        inl (subst (λ (l : List ℕ). bodies_of l ≡ Ok bodies) (sym same) (stands_for bodies file gate is))
    | inr shut ↦ inr (stands_for [] c 8 (emptied shut))
  ]

-- after the header stands an open gate where there are bodies
pub first_is_open : (bodies : List (List ℕ)) (file : List ℕ) (gate : ℕ) → IsLaid bodies file gate → 8 < gate → get_or file 8 0 ≡ 1
unfolding laid
first_is_open [] file gate is some = absurd (omega (arith, gate_is [] file gate is))
first_is_open (body ∷ bodies) file gate is some = ap (λ (l : List ℕ). get_or l 8 0) (split (body ∷ bodies) file gate is)

-- a first gate that was closed
pub first_closed : (bodies : List (List ℕ)) (file new : List ℕ) (gate : ℕ) → IsLaid bodies file gate → new ≡ written file 8 (0 ∷ []) → IsLaid [] new 8
first_closed bodies file new gate is done =
    let inside : 8 ≤ length file = omega (arith, past_header bodies file gate is file (torn_refl 8 1 file)) in
    let torn : Torn 8 1 file new = subst (λ (l : List ℕ). Torn 8 1 file l) (sym done) (torn_written file 8 (0 ∷ []) inside) in
    let zero : get_or new 8 0 ≡ 0 =
    ap (λ (l : List ℕ). get_or l 8 0) (done ∙ append_assoc (take 8 file) (0 ∷ []) (drop 9 file))
    ∙ get_or_at (take 8 file) 0 (drop 9 file) 0 8 (length-take-le 8 file inside) in
    emptied bodies file gate is new torn (λ one. absurd (let e : 0 ≡ 1 = sym zero ∙ one in omega arith))

-- a gate right after the header has no body before it
pub laid_nothing : (bodies : List (List ℕ)) (file : List ℕ) (gate : ℕ) → IsLaid bodies file gate → gate ≤ 8 → IsLaid [] file 8
laid_nothing bodies file gate is low =
    let none : bodies ≡ [] = nothing_laid bodies (omega (arith, gate_is bodies file gate is, low)) in
    let at : gate ≡ 8 = omega (arith, gate_is bodies file gate is, low) in
    subst (λ (n : ℕ). IsLaid [] file n) at (subst (λ (bs : List (List ℕ)). IsLaid bs file gate) none is)

pub room : (bodies : List (List ℕ)) (file : List ℕ) (gate : ℕ) → IsLaid bodies file gate → 8 < length file
room bodies file gate is = omega (arith, gate_is bodies file gate is, is.inside)
