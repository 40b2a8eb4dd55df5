-- A message in few bytes stays the same message where ids come behind those of its roster.
use Rattle.std.proofs.Common.{◌≡◌, ◌+◌, ◌<◌, ◌++◌, ◌∷◌, ◌∙◌, [], ℕ, zero, suc, Bool, true, false, Result, Ok, Err, Option, Some, List, ◌⊎◌, inl, inr, ap, append-nil, append_assoc, arith, get_or, length, length-append, map, refl, slice_get, subst, sym}
use Rattle.std.specs.Prelude.{OnErr, OnOk, if◌then◌else◌}
use Rattle.std.specs.List.{AllByRecursion}
use Rattle.std.specs.Option.{ForSome, option_map}
use Rattle.std.proofs.lemmas.List.{get_or_append_left, length-map}
use Rattle.std.proofs.lemmas.List.Quantifiers.{position-Some}
use Rattle.std.proofs.lemmas.Option.{slice_get-get_or, slice_get-map}
use Rattle.voting_config.specs.Ids.{Id, has, same}
use Rattle.voting_config.specs.Rosters.{admitted, place_on}
use Rattle.voting_config.proofs.Sets.{same_is}
use Rattle.world_model.specs.declared.acts.Message.{Message}
use Rattle.world_model.specs.declared.acts.Message.TheVariants.{Join as JoinMessage, Publish as PublishMessage, Response as ResponseMessage, Commit as CommitMessage}
use Rattle.replay_node.specs.Kept.{request_in}
use Rattle.replay_node.specs.Packed.{GrowsTo, HasPlace, IsPacked, Packs, id_at, unpacked}
use Rattle.replay_node.specs.declared.sent_messages.Publication.{Publication}
use Rattle.replay_node.specs.declared.packed.PackedMessage.{PackedMessage}
use Rattle.replay_node.specs.declared.packed.PackedMessage.TheVariants as packed

-- ---- places

pub has_place : (roster : List Id) (id : Id) (place : ℕ) → Some place ≡ place_on roster id → HasPlace roster id place
has_place roster id place is =
    let at = position-Some (λ (x : Id). same x id) roster place [] (sym is) in
    record { within = at.0; is = same_is (id_at roster place) id at.1 }

pub still_there : (old new : List Id) (id : Id) (place : ℕ) → GrowsTo old new → HasPlace old id place → HasPlace new id place
still_there old new id place grows at =
    let longer : length new ≡ length old + length grows.0 = ap (λ (ids : List Id). length ids) grows.1 ∙ length-append old grows.0 in
    record {
      within = omega (arith, at.within, longer);
      is = ap (λ (ids : List Id). id_at ids place) grows.1 ∙ get_or_append_left old grows.0 [] place at.within ∙ at.is;
    }

-- ---- rosters that grow

pub stays : (roster : List Id) → GrowsTo roster roster
stays roster = ([], sym (append-nil roster))

pub grows_on : (first second third : List Id) → GrowsTo first second → GrowsTo second third → GrowsTo first third
grows_on first second third f g = (f.0 ++ g.0, g.1 ∙ ap (λ (ids : List Id). ids ++ g.0) f.1 ∙ append_assoc first f.0 g.0)

grows_admitted : (roster : List Id) (id : Id) → GrowsTo roster (admitted roster id)
grows_admitted roster id = by (has id roster)
  where
    by : (b : Bool) → GrowsTo roster (if b then roster else roster ++ id ∷ [])
    by true = stays roster
    by false = (id ∷ [], refl)

pub admits : {E : Type 0} (r : Result ℕ E) (old new : List Id) (id : Id) → OnOk r (new ≡ admitted old id) → OnErr r (new ≡ old) → GrowsTo old new
admits (Ok place) old new id ok err = subst (λ (ids : List Id). GrowsTo old ids) (sym ok) (grows_admitted old id)
admits (Err e) old new id ok err = subst (λ (ids : List Id). GrowsTo old ids) (sym err) (stays old)

-- ---- messages

pub still_packed : (old new : List Id) (p : PackedMessage) → GrowsTo old new → IsPacked old p → Packs new p (unpacked old p)
still_packed old new (packed.Join source target term last_term last_version) grows on =
    let s = still_there old new (id_at old source) source grows (record { within = on.0; is = refl }) in
    let t = still_there old new (id_at old target) target grows (record { within = on.1; is = refl }) in
    ((s.within, t.within), λ i. JoinMessage (record { source = s.is i; target = t.is i; term = term; last_term = last_term; last_version = last_version }))
still_packed old new (packed.Publish source bytes) grows on =
    let s = still_there old new (id_at old source) source grows (record { within = on.0; is = refl }) in
    ((s.within, on.1), ap (λ (id : Id). PublishMessage (request_in id bytes.items)) s.is)
still_packed old new (packed.Response source target term version) grows on =
    let s = still_there old new (id_at old source) source grows (record { within = on.0; is = refl }) in
    let t = still_there old new (id_at old target) target grows (record { within = on.1; is = refl }) in
    ((s.within, t.within), λ i. ResponseMessage (record { source = s.is i; target = t.is i; term = term; version = version }))
still_packed old new (packed.Commit source term version) grows on =
    let s = still_there old new (id_at old source) source grows (record { within = on; is = refl }) in
    (s.within, ap (λ (id : Id). CommitMessage (record { source = id; term = term; version = version })) s.is)
still_packed old new (packed.Whole message) grows on = (tt, refl)

-- these messages are packed so over this roster
pub record AllPack (roster : List Id) (ps : List PackedMessage) (ms : List Message) : Type 0 where
  pub packed : AllByRecursion (IsPacked roster) ps
  pub are : map (unpacked roster) ps ≡ ms

pub still_all : (old new : List Id) (ps : List PackedMessage) → GrowsTo old new → AllByRecursion (IsPacked old) ps → AllPack new ps (map (unpacked old) ps)
still_all old new [] grows on = record { packed = tt; are = refl }
still_all old new (p ∷ ps) grows on =
    let first = still_packed old new p grows on.0 in
    let rest = still_all old new ps grows on.1 in
    record { packed = (first.0, rest.packed); are = λ i. first.1 i ∷ rest.are i }

one_more : (roster : List Id) (ps : List PackedMessage) (ms : List Message) (p : PackedMessage) (m : Message) → AllPack roster ps ms → Packs roster p m → AllPack roster (ps ++ p ∷ []) (ms ++ m ∷ [])
one_more roster [] ms p m all one =
    let none : [] ≡ ms = all.are in
    record { packed = (one.0, tt); are = ap (λ (x : Message). x ∷ []) one.1 ∙ ap (λ (xs : List Message). xs ++ m ∷ []) none }
one_more roster (q ∷ ps) ms p m all one =
    let rest = one_more roster ps (map (unpacked roster) ps) p m (record { packed = all.packed.1; are = refl }) one in
    record {
      packed = (all.packed.0, rest.packed);
      are = ap (λ (xs : List Message). unpacked roster q ∷ xs) rest.are ∙ ap (λ (xs : List Message). xs ++ m ∷ []) all.are;
    }

-- with a message more
pub pushed : (old new : List Id) (ps more : List PackedMessage) (p : PackedMessage) (m : Message) → GrowsTo old new → AllByRecursion (IsPacked old) ps → Packs new p m → more ≡ ps ++ p ∷ []
    → AllPack new more (map (unpacked old) ps ++ m ∷ [])
pushed old new ps more p m grows on one is =
    subst (λ (xs : List PackedMessage). AllPack new xs (map (unpacked old) ps ++ m ∷ [])) (sym is)
    (one_more new ps (map (unpacked old) ps) p m (still_all old new ps grows on) one)

-- the message at a place
pub packed_at : (roster : List Id) (ps : List PackedMessage) (place : ℕ) (d : PackedMessage) → AllByRecursion (IsPacked roster) ps → place < length ps → IsPacked roster (get_or ps place d)
packed_at roster [] place d all within = absurd (omega (arith, within))
packed_at roster (p ∷ ps) zero d all within = all.0
packed_at roster (p ∷ ps) (suc place) d all within = packed_at roster ps place d all.1 (omega (arith, within))

-- what stands at a place stands there whatever comes behind
pub stays_at : {A : Type 0} (xs ys : List A) (place : ℕ) (x : A) → slice_get xs place ≡ Some x → slice_get (xs ++ ys) place ≡ Some x
stays_at [] ys place x is = absurd (cc)
stays_at (y ∷ xs) ys zero x is = is
stays_at (y ∷ xs) ys (suc place) x is = stays_at xs ys place x is

stands_last : {A : Type 0} (xs : List A) (x : A) → slice_get (xs ++ x ∷ []) (length xs) ≡ Some x
stands_last [] x = refl
stands_last (y ∷ xs) x = stands_last xs x

-- a publication at the place behind the others
abbrev pub IsNext : Option Publication → ℕ → Message → Type 0
IsNext next place m = ForSome next (λ p. (p.place ≡ place) × (m ≡ PublishMessage p.request.value))

pub at_length : (next : Option Publication) (place : ℕ) (ps : List PackedMessage) (m : Message) → place ≡ length ps → IsNext next place m → IsNext next (length ps) m
at_length next place ps m is next_is = subst (λ (k : ℕ). IsNext next k m) is next_is

pub on_err : {T E P : Type 0} (r : Result T E) → P → OnErr r P
on_err (Ok x) p = tt
on_err (Err e) p = p

-- ---- the messages and the publication that was sent last

-- what a list of messages in few bytes keeps to
abbrev pub KeepsTo : List Id → List PackedMessage → Option Publication → Type 0
KeepsTo roster ps last = AllByRecursion (IsPacked roster) ps × ForSome last (λ p. slice_get (map (unpacked roster) ps) p.place ≡ Some (PublishMessage p.request.value))

module _ (old new : List Id) (ps : List PackedMessage) (last : Option Publication) (grows : GrowsTo old new) (keeps : KeepsTo old ps last) where
  pub same_view : (was : List Message) → was ≡ map (unpacked old) ps → map (unpacked new) ps ≡ was
  same_view was is = (still_all old new ps grows keeps.0).are ∙ sym is

  pub same_keeps : KeepsTo new ps last
  same_keeps =
      let all = still_all old new ps grows keeps.0 in
      (all.packed, λ p is. subst (λ (ms : List Message). slice_get ms p.place ≡ Some (PublishMessage p.request.value)) (sym all.are) (keeps.1 p is))

  module _ (more : List PackedMessage) (p : PackedMessage) (m : Message) (one : Packs new p m) where
    pub more_view : (was : List Message) → was ≡ map (unpacked old) ps → more ≡ ps ++ p ∷ [] → map (unpacked new) more ≡ was ++ m ∷ []
    more_view was is added = (pushed old new ps more p m grows keeps.0 one added).are ∙ ap (λ (ms : List Message). ms ++ m ∷ []) (sym is)

    -- the last publication is the message, or as before
    pub more_keeps : (next kept : Option Publication) → more ≡ ps ++ p ∷ [] → IsNext next (length ps) m
        → ForSome kept (λ q. (next ≡ Some q) ⊎ (last ≡ Some q)) → KeepsTo new more kept
    more_keeps next kept added this either =
        let all = pushed old new ps more p m grows keeps.0 one added in
        (all.packed, λ q found. subst (λ (ms : List Message). slice_get ms q.place ≡ Some (PublishMessage q.request.value)) (sym all.are) (at q (either q found)))
      where
        at : (q : Publication) → (next ≡ Some q) ⊎ (last ≡ Some q) → slice_get (map (unpacked old) ps ++ m ∷ []) q.place ≡ Some (PublishMessage q.request.value)
        at q (inl is) =
            let here = this q is in
            let place : length (map (unpacked old) ps) ≡ q.place = length-map ps (unpacked old) ∙ sym here.0 in
            subst (λ (k : ℕ). slice_get (map (unpacked old) ps ++ m ∷ []) k ≡ Some (PublishMessage q.request.value)) place
            (stands_last (map (unpacked old) ps) m ∙ ap (λ (x : Message). Some x) here.1)
        at q (inr is) = stays_at (map (unpacked old) ps) (m ∷ []) q.place (PublishMessage q.request.value) (keeps.1 q is)

-- ---- the message at a place

pub record Found (roster ids : List Id) (ps : List PackedMessage) (place : ℕ) (p : PackedMessage) : Type 0 where
  pub packed : IsPacked ids p
  pub is : slice_get (map (unpacked roster) ps) place ≡ Some (unpacked ids p)

pub found_at : (roster ids : List Id) (ps lent : List PackedMessage) (place : ℕ) (p : PackedMessage) → ids ≡ roster → lent ≡ ps → place < length ps → p ≡ get_or lent place p → AllByRecursion (IsPacked roster) ps
    → Found roster ids ps place p
found_at roster ids ps lent place p same_ids same_ps within at all =
    let here : p ≡ get_or ps place p = subst (λ (xs : List PackedMessage). p ≡ get_or xs place p) same_ps at in
    let good : IsPacked roster p = subst (λ (q : PackedMessage). IsPacked roster q) (sym here) (packed_at roster ps place p all within) in
    let read : slice_get (map (unpacked roster) ps) place ≡ option_map (unpacked roster) (slice_get ps place) = slice_get-map (unpacked roster) ps place in
    let stands : slice_get ps place ≡ Some p = slice_get-get_or ps place p within ∙ ap (λ (q : PackedMessage). Some q) (sym here) in
    record {
      packed = subst (λ (x : List Id). IsPacked x p) (sym same_ids) good;
      is = read ∙ ap (λ (o : Option PackedMessage). option_map (unpacked roster) o) stands ∙ ap (λ (x : List Id). Some (unpacked x p)) (sym same_ids);
    }
