-- Tests of sameness, and what they say.
use Rattle.std.proofs.Common.{◌≡◌, ℕ, Bool, true, ◌&&◌, List, [], ◌∷◌, Option, Some, None, refl, sym, ap, subst}
use Rattle.std.specs.Str.{bytes_eq}
use Rattle.std.specs.Cmp.Lexicographic.{pointwise, same_text}
use Rattle.std.proofs.lemmas.Bool.{and_parts, and_from}
use Rattle.std.proofs.lemmas.Cmp.{nat_list_eq_equiv}
use Rattle.voting_config.specs.Ids.{Id, same, same_config}
use Rattle.cluster_state.specs.declared.state.ClusterValue.{ClusterValue}
use Rattle.cluster_state.specs.Settings.{Setting, same_setting, same_settings}
use Rattle.cluster_state.specs.Same.{same_master, same_value}

same_itself : (x : List ℕ) → bytes_eq x x ≡ true
same_itself x = nat_list_eq_equiv.refl x

pointwise_same : {A : Type 0} (test : A → A → Bool) → ((x y : A) → test x y ≡ true → x ≡ y) → (xs ys : List A) → pointwise test xs ys ≡ true → xs ≡ ys
pointwise_same test says [] [] h = refl
pointwise_same test says [] (y ∷ ys) h = absurd cc
pointwise_same test says (x ∷ xs) [] h = absurd cc
pointwise_same test says (x ∷ xs) (y ∷ ys) h =
    let parts = and_parts (test x y) (pointwise test xs ys) h in
    rw (says x y parts.0, pointwise_same test says xs ys parts.1) refl

pointwise_itself : {A : Type 0} (test : A → A → Bool) → ((x : A) → test x x ≡ true) → (xs : List A) → pointwise test xs xs ≡ true
pointwise_itself test itself [] = refl
pointwise_itself test itself (x ∷ xs) = and_from _ _ (itself x) (pointwise_itself test itself xs)

setting_says : (s t : Setting) → same_setting s t ≡ true → s ≡ t
setting_says s t h =
    let parts = and_parts (bytes_eq s.0 t.0) (bytes_eq s.1 t.1) h in
    let key : s.0 ≡ t.0 = same_text s.0 t.0 (sym parts.0) in
    let value : s.1 ≡ t.1 = same_text s.1 t.1 (sym parts.1) in
    rw (key, value) refl

master_says : (x y : Option Id) → same_master x y ≡ true → x ≡ y
master_says None None h = refl
master_says None (Some y) h = absurd cc
master_says (Some x) None h = absurd cc
master_says (Some x) (Some y) h = ap Some (same_text x y (sym h))

master_itself : (x : Option Id) → same_master x x ≡ true
master_itself None = refl
master_itself (Some x) = same_itself x

-- values whose parts are equal
abbrev made : Option Id → List Id → List Id → List Setting → ClusterValue
made master members exclusions settings = record { master = master; members = members; exclusions = exclusions; settings = settings }

made_same : (a b : Option Id) (c d e f : List Id) (g h : List Setting) → a ≡ b → c ≡ d → e ≡ f → g ≡ h → made a c e g ≡ made b d f h
made_same a b c d e f g h i j k l = cc

pub same_value-says : (v w : ClusterValue) → same_value v w ≡ true → v ≡ w
same_value-says v w h =
    let prefix = and_parts (same_master v.master w.master && same_config v.members w.members && same_config v.exclusions w.exclusions) (same_settings v.settings w.settings) h in
    let middle = and_parts (same_master v.master w.master && same_config v.members w.members) (same_config v.exclusions w.exclusions) prefix.0 in
    let first = and_parts (same_master v.master w.master) (same_config v.members w.members) middle.0 in
    let says : (x y : Id) → same x y ≡ true → x ≡ y = λ x y k. same_text x y (sym k) in
    let master : v.master ≡ w.master = master_says v.master w.master first.0 in
    let members : v.members ≡ w.members = pointwise_same same says v.members w.members first.1 in
    let exclusions : v.exclusions ≡ w.exclusions = pointwise_same same says v.exclusions w.exclusions middle.1 in
    let settings : v.settings ≡ w.settings = pointwise_same same_setting setting_says v.settings w.settings prefix.1 in
    made_same v.master w.master v.members w.members v.exclusions w.exclusions v.settings w.settings master members exclusions settings

pub same_value-itself : (v : ClusterValue) → same_value v v ≡ true
same_value-itself v =
    and_from _ _ (and_from _ _ (and_from _ _ (master_itself v.master) (pointwise_itself same same_itself v.members)) (pointwise_itself same same_itself v.exclusions))
    (pointwise_itself same_setting (λ s. and_from _ _ (same_itself s.0) (same_itself s.1)) v.settings)

pub same_value-iff : (v w : ClusterValue) → v ≡ w → same_value v w ≡ true
same_value-iff v w h = subst (λ (u : ClusterValue). same_value v u ≡ true) h (same_value-itself v)
