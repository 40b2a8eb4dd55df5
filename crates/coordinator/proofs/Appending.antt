-- What items after items come to.
use Rattle.std.proofs.Common.{◌≡◌, List, [], ◌∷◌, ◌++◌, refl, sym, ap, subst, ◌∙◌}
use Rattle.state_journal.specs.declared.keeper.Keeper.{Ghosts}
use Rattle.std.proofs.lemmas.List.{append_assoc, append-nil}
use Rattle.std.specs.List.{flat_map}
use Rattle.coord_state.specs.declared.coord.CoordState.{CoordState}
use Rattle.policy_model.specs.declared.settings.Settings.{Settings}
use Rattle.policy_model.specs.declared.events.Deed.{Deed}
use Rattle.policy_model.specs.declared.events.Deed.TheVariants as deed
use Rattle.policy_model.specs.declared.events.MemberDrop.{MemberDrop}
use Rattle.policy_model.specs.Entries.{deeds_in, drops_in}
use Rattle.policy_model.specs.Events.{Item, Opens, Begins, Acts, ChangesMode, Drops, Sends, Replies, Notes}
use Rattle.policy_model.specs.Views.{View}
use Rattle.policy_model.specs.Moves.{moved, moved_all}
use Rattle.policy_model.specs.Follows.{IsStruck, Here, Later, without_output}
use Rattle.coordinator.specs.Showing.{Shown, showing, showing_all}
use Rattle.coordinator.specs.CoreActs.{CoreDid}

pub showing_all-append : (o : Shown) (xs ys : List Item) → showing_all o (xs ++ ys) ≡ showing_all (showing_all o xs) ys
showing_all-append o [] ys = refl
showing_all-append o (x ∷ xs) ys = showing_all-append (showing o x) xs ys

-- the items before a struck rest, without what they would have sent
abbrev pub behind : List Item → List Item → List Item
behind [] left = left
behind (i ∷ is) left = without_output i ++ behind is left

pub struck_behind : (xs ys left : List Item) → IsStruck ys left → IsStruck (xs ++ ys) (behind xs left)
struck_behind [] ys left q = q
struck_behind (i ∷ is) ys left q = Later i (is ++ ys) (behind is left) (struck_behind is ys left q)

pub struck_before : (xs ys left : List Item) → IsStruck xs left → IsStruck (xs ++ ys) left
struck_before xs ys left (Here act sends wins rest fault w f) = Here act sends wins (rest ++ ys) fault w f
struck_before xs ys left (Later i rest left' q) = Later i (rest ++ ys) left' (struck_before rest ys left' q)

pub moved_all-behind : (s : Settings) (v : View) (xs left : List Item) → moved_all s v (behind xs left) ≡ moved_all s (moved_all s v xs) left
moved_all-behind s v [] left = refl
moved_all-behind s v (Opens found ∷ is) left = moved_all-behind s (moved s v (Opens found)) is left
moved_all-behind s v (Begins event ∷ is) left = moved_all-behind s (moved s v (Begins event)) is left
moved_all-behind s v (Acts act o ∷ is) left = moved_all-behind s (moved s v (Acts act o)) is left
moved_all-behind s v (ChangesMode mode term ∷ is) left = moved_all-behind s (moved s v (ChangesMode mode term)) is left
moved_all-behind s v (Drops member cause ∷ is) left = moved_all-behind s (moved s v (Drops member cause)) is left
moved_all-behind s v (Sends frame ∷ is) left = moved_all-behind s v is left
moved_all-behind s v (Replies answer ∷ is) left = moved_all-behind s v is left
moved_all-behind s v (Notes note ∷ is) left = moved_all-behind s (moved s v (Notes note)) is left

pub deeds-behind : (xs left : List Item) → flat_map deeds_in (behind xs left) ≡ flat_map deeds_in xs ++ flat_map deeds_in left
deeds-behind [] left = refl
deeds-behind (Opens found ∷ is) left = deeds-behind is left
deeds-behind (Begins event ∷ is) left = deeds-behind is left
deeds-behind (Acts act o ∷ is) left = ap (λ (l : List Deed). deed.Act act o ∷ l) (deeds-behind is left)
deeds-behind (ChangesMode mode term ∷ is) left = ap (λ (l : List Deed). deed.Mode mode term ∷ l) (deeds-behind is left)
deeds-behind (Drops member cause ∷ is) left = deeds-behind is left
deeds-behind (Sends frame ∷ is) left = deeds-behind is left
deeds-behind (Replies answer ∷ is) left = deeds-behind is left
deeds-behind (Notes note ∷ is) left = deeds-behind is left

pub drops-behind : (xs left : List Item) → flat_map drops_in (behind xs left) ≡ flat_map drops_in xs ++ flat_map drops_in left
drops-behind [] left = refl
drops-behind (Opens found ∷ is) left = drops-behind is left
drops-behind (Begins event ∷ is) left = drops-behind is left
drops-behind (Acts act o ∷ is) left = drops-behind is left
drops-behind (ChangesMode mode term ∷ is) left = drops-behind is left
drops-behind (Drops member cause ∷ is) left = ap (λ (l : List MemberDrop). record { member = member; cause = cause } ∷ l) (drops-behind is left)
drops-behind (Sends frame ∷ is) left = drops-behind is left
drops-behind (Replies answer ∷ is) left = drops-behind is left
drops-behind (Notes note ∷ is) left = drops-behind is left

pub deeds-shown : (o : Shown) (is : List Item) → (showing_all o is).deeds ≡ o.deeds ++ flat_map deeds_in is
deeds-shown o [] = sym (append-nil o.deeds)
deeds-shown o (Opens found ∷ is) = deeds-shown o is
deeds-shown o (Begins event ∷ is) = deeds-shown o is
deeds-shown o (Acts act outcome ∷ is) = deeds-shown (showing o (Acts act outcome)) is ∙ append_assoc o.deeds (deed.Act act outcome ∷ []) (flat_map deeds_in is)
deeds-shown o (ChangesMode mode term ∷ is) = deeds-shown (showing o (ChangesMode mode term)) is ∙ append_assoc o.deeds (deed.Mode mode term ∷ []) (flat_map deeds_in is)
deeds-shown o (Drops member cause ∷ is) = deeds-shown (showing o (Drops member cause)) is
deeds-shown o (Sends frame ∷ is) = deeds-shown (showing o (Sends frame)) is
deeds-shown o (Replies answer ∷ is) = deeds-shown (showing o (Replies answer)) is
deeds-shown o (Notes note ∷ is) = deeds-shown o is

pub drops-shown : (o : Shown) (is : List Item) → (showing_all o is).drops ≡ o.drops ++ flat_map drops_in is
drops-shown o [] = sym (append-nil o.drops)
drops-shown o (Opens found ∷ is) = drops-shown o is
drops-shown o (Begins event ∷ is) = drops-shown o is
drops-shown o (Acts act outcome ∷ is) = drops-shown (showing o (Acts act outcome)) is
drops-shown o (ChangesMode mode term ∷ is) = drops-shown (showing o (ChangesMode mode term)) is
drops-shown o (Drops member cause ∷ is) = drops-shown (showing o (Drops member cause)) is ∙ append_assoc o.drops (record { member = member; cause = cause } ∷ []) (flat_map drops_in is)
drops-shown o (Sends frame ∷ is) = drops-shown (showing o (Sends frame)) is
drops-shown o (Replies answer ∷ is) = drops-shown (showing o (Replies answer)) is
drops-shown o (Notes note ∷ is) = drops-shown o is

module _ {K : Type 0} (k : Ghosts K) where
  pub did-append : (a b c : CoordState K) (xs ys : List Item) → CoreDid k a b xs → CoreDid k b c ys → CoreDid k a c (xs ++ ys)
  did-append a b c [] ys same then = subst (λ (x : CoordState K). CoreDid k x c ys) same then
  did-append a b c (Opens found ∷ is) ys first then = absurd first
  did-append a b c (Begins event ∷ is) ys first then = absurd first
  did-append a b c (Acts act o ∷ is) ys first then = (first.0, first.1, did-append first.0 b c is ys first.2 then)
  did-append a b c (ChangesMode mode term ∷ is) ys first then = did-append a b c is ys first then
  did-append a b c (Drops member cause ∷ is) ys first then = did-append a b c is ys first then
  did-append a b c (Sends frame ∷ is) ys first then = did-append a b c is ys first then
  did-append a b c (Replies answer ∷ is) ys first then = did-append a b c is ys first then
  did-append a b c (Notes note ∷ is) ys first then = did-append a b c is ys first then

  pub did-behind : (a b c : CoordState K) (xs ys : List Item) → CoreDid k a b xs → CoreDid k b c ys → CoreDid k a c (behind xs ys)
  did-behind a b c [] ys same then = subst (λ (x : CoordState K). CoreDid k x c ys) same then
  did-behind a b c (Opens found ∷ is) ys first then = absurd first
  did-behind a b c (Begins event ∷ is) ys first then = absurd first
  did-behind a b c (Acts act o ∷ is) ys first then = (first.0, first.1, did-behind first.0 b c is ys first.2 then)
  did-behind a b c (ChangesMode mode term ∷ is) ys first then = did-behind a b c is ys first then
  did-behind a b c (Drops member cause ∷ is) ys first then = did-behind a b c is ys first then
  did-behind a b c (Sends frame ∷ is) ys first then = did-behind a b c is ys first then
  did-behind a b c (Replies answer ∷ is) ys first then = did-behind a b c is ys first then
  did-behind a b c (Notes note ∷ is) ys first then = did-behind a b c is ys first then

  pub did_me : (a b : CoordState K) (xs : List Item) → CoreDid k a b xs → b.me ≡ a.me
  did_me a b [] same = ap (λ (c : CoordState K). c.me) same
  did_me a b (Opens found ∷ is) did = absurd did
  did_me a b (Begins event ∷ is) did = absurd did
  did_me a b (Acts act o ∷ is) did = did_me did.0 b is did.2 ∙ did.1.acts.at.me
  did_me a b (ChangesMode mode term ∷ is) did = did_me a b is did
  did_me a b (Drops member cause ∷ is) did = did_me a b is did
  did_me a b (Sends frame ∷ is) did = did_me a b is did
  did_me a b (Replies answer ∷ is) did = did_me a b is did
  did_me a b (Notes note ∷ is) did = did_me a b is did
