-- What stands in a text after the writes of a record.
use Rattle.std.proofs.Common.{◌≡◌, Result, OnOk, subst, List, ◌++◌, ap, ◌∙◌, ℕ, append_assoc}

module _ (old word node term id accepted committed gap close : List ℕ) where
  abbrev before : List ℕ
  before = ((((((old ++ word) ++ (node ++ gap)) ++ (term ++ gap)) ++ id) ++ gap) ++ accepted) ++ gap

  abbrev whole : List ℕ
  whole = old ++ (word ++ node ++ gap ++ term ++ gap ++ id ++ gap ++ accepted ++ gap ++ committed ++ close)

  regrouped : (before ++ committed) ++ close ≡ whole
  regrouped = simp append_assoc

  -- a word, two fields with what parts them, and three more that are parted and closed
  pub record_written : {A E : Type 0} (r : Result A E) (t1 t2 t3 t4 t5 t6 t7 t8 new : List ℕ) → t1 ≡ old ++ word → t2 ≡ t1 ++ (node ++ gap) → t3 ≡ t2 ++ (term ++ gap) → t4 ≡ t3 ++ id → t5 ≡ t4 ++ gap → t6 ≡ t5 ++ accepted → t7 ≡ t6 ++ gap → t8 ≡ t7 ++ committed → OnOk r (new ≡ t8 ++ close) → OnOk r (new ≡ whole)
  record_written r t1 t2 t3 t4 t5 t6 t7 t8 new e1 e2 e3 e4 e5 e6 e7 e8 told =
      let three : t3 ≡ ((old ++ word) ++ (node ++ gap)) ++ (term ++ gap) = e3 ∙ ap (λ (t : List ℕ). t ++ (term ++ gap)) (e2 ∙ ap (λ (t : List ℕ). t ++ (node ++ gap)) e1) in
      let five : t5 ≡ ((((old ++ word) ++ (node ++ gap)) ++ (term ++ gap)) ++ id) ++ gap = e5 ∙ ap (λ (t : List ℕ). t ++ gap) (e4 ∙ ap (λ (t : List ℕ). t ++ id) three) in
      let eight : t8 ≡ before ++ committed = e8 ∙ ap (λ (t : List ℕ). t ++ committed) (e7 ∙ ap (λ (t : List ℕ). t ++ gap) (e6 ∙ ap (λ (t : List ℕ). t ++ accepted) five)) in
      subst (λ (t : List ℕ). OnOk r (new ≡ t)) (ap (λ (t : List ℕ). t ++ close) eight ∙ regrouped) told
