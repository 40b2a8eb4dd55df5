-- Answers to an open round of pre-votes.
use Rattle.std.proofs.Common.{◌≡◌, ℕ, Bool, true, false, Option, None, Some, List, [], ◌∷◌, refl, sym, ap, ◌∙◌}
use Rattle.std.proofs.lemmas.Bool.{and_from, and_right}
use Rattle.std.specs.Prelude.{if◌then◌else◌}
use Rattle.state_journal.specs.declared.keeper.Keeper.{Ghosts}
use Rattle.voting_config.specs.Ids.{Id}
use Rattle.cluster_state.specs.declared.state.StateId.{StateId}
use Rattle.pre_vote.specs.declared.rounds.Added.{Added}
use Rattle.pre_vote.specs.declared.rounds.Added.TheVariants.{Counted, Fresher, Quorum}
use Rattle.pre_vote.specs.Rounds.{Round, answered, fits, added_of}
use Rattle.policy_model.specs.declared.settings.Settings.{Settings}
use Rattle.policy_model.specs.Events.{Item, Notes, RoundAnswered}
use Rattle.policy_model.specs.Parts.{round_answered}
use Rattle.policy_model.specs.Views.{View}
use Rattle.policy_model.specs.Doing.{is_candidate}
use Rattle.policy_model.specs.Elections.{goes_to_election, on_pre_vote_answer}
use Rattle.coordinator.specs.Rounds.{counted_of, round_after}
use Rattle.coordinator.specs.Showing.{Shown}
use Rattle.coordinator.specs.Views.{view_in}
use Rattle.coordinator.specs.Does.{Makes}
use Rattle.coordinator.specs.declared.coordinator.Coordinator.{Coordinator}
use Rattle.coordinator.proofs.Composing.{makes_then}
use Rattle.coordinator.proofs.Becoming.{makes_as}
use Rattle.coordinator.proofs.Quiet.{makes_nothing, makes_note}

pub counted_some : (o : Option Round) (r : Round) (p : Id) (term : ℕ) (last : StateId) (committed accepted : List Id) → o ≡ Some r → fits p r ≡ true
    → counted_of o p term last committed accepted ≡ Some (added_of (answered r p term last) last committed accepted)
counted_some o r p term last committed accepted is h = rw (is, h) refl

-- a standing for election does not look at the round
round_apart : (s : Settings) (v : View) (r : Option Round) (added : Added) → goes_to_election s (record v { round = r }) added ≡ goes_to_election s v added
round_apart s v r Counted = refl
round_apart s v r Fresher = refl
round_apart s v r (Quorum term) = refl

-- nobody counts but a candidate
counts_none : (s : Settings) (v : View) (r : Option Round) (p : Id) (term : ℕ) (last : StateId) → is_candidate v.mode ≡ false → on_pre_vote_answer s v r p term last ≡ []
counts_none s v None p term last h = refl
counts_none s v (Some round) p term last h = rw h refl

some_by : (b : Bool) (a added : Added) → (if b then Some a else None) ≡ Some added → (b ≡ true) × (a ≡ added)
some_by true a added is = (refl, cc)
some_by false a added is = cc

none_by : (b : Bool) (a : Added) → (if b then Some a else None) ≡ None → b ≡ false
none_by true a is = cc
none_by false a is = refl

-- what an answer brings about that was counted
counted_added : (s : Settings) (v : View) (r : Option Round) (p : Id) (term : ℕ) (last : StateId) (added : Added) → is_candidate v.mode ≡ true
    → counted_of r p term last v.node.committed v.node.accepted.config ≡ Some added
    → (Notes (RoundAnswered p term last) ∷ goes_to_election s v added ≡ on_pre_vote_answer s v r p term last) × (round_after r p term last ≡ round_answered r p term last)
counted_added s v None p term last added candidate is = cc
counted_added s v (Some round) p term last added candidate is =
    let a = added_of (answered round p term last) last v.node.committed v.node.accepted.config in
    let both = some_by (fits p round) a added is in (
      ap (λ (x : Added). Notes (RoundAnswered p term last) ∷ goes_to_election s v x) (sym both.1)
          ∙ ap (λ (b : Bool). if b then Notes (RoundAnswered p term last) ∷ goes_to_election s v a else []) (sym (and_from (is_candidate v.mode) (fits p round) candidate both.0)),
      ap (λ (b : Bool). if b then Some (answered round p term last) else Some round) both.0,
    )

-- one that was not
counted_none : (s : Settings) (v : View) (r : Option Round) (p : Id) (term : ℕ) (last : StateId) → counted_of r p term last v.node.committed v.node.accepted.config ≡ None
    → ([] ≡ on_pre_vote_answer s v r p term last) × (round_after r p term last ≡ r)
counted_none s v None p term last is = (refl, refl)
counted_none s v (Some round) p term last is =
    let a = added_of (answered round p term last) last v.node.committed v.node.accepted.config in
    let none = none_by (fits p round) a is in (
      ap (λ (b : Bool). if b then Notes (RoundAnswered p term last) ∷ goes_to_election s v a else []) (sym (and_right (is_candidate v.mode) (fits p round) none)),
      ap (λ (b : Bool). if b then Some (answered round p term last) else Some round) none,
    )

module _ {K : Type 0} (k : Ghosts K) where
  abbrev view : Coordinator K → View
  view c = view_in k c

  abbrev Make : (old new : Coordinator K) (sent sent_now : Shown) → List Item → Type 0
  Make old new sent sent_now is = Makes k old new sent sent_now is

  abbrev counted_in : Coordinator K → Id → ℕ → StateId → List Id → List Id → Option Added
  counted_in c p term last committed accepted = counted_of c.round p term last committed accepted

  counted_there : (old : Coordinator K) (p : Id) (term : ℕ) (last : StateId) (committed accepted : List Id) → committed ≡ (view old).node.committed → accepted ≡ (view old).node.accepted.config
      → counted_in old p term last committed accepted ≡ counted_in old p term last (view old).node.committed (view old).node.accepted.config
  counted_there old p term last committed accepted committed_is accepted_is =
      ap (λ (l : List Id). counted_in old p term last l accepted) committed_is ∙ ap (λ (l : List Id). counted_in old p term last (view old).node.committed l) accepted_is

  pub counts_added : (old new : Coordinator K) (r : Option Round) (o o1 : Shown) (p : Id) (term : ℕ) (last : StateId) (added : Added) (committed accepted : List Id)
      → is_candidate old.mode ≡ true → committed ≡ (view old).node.committed → accepted ≡ (view old).node.accepted.config
      → counted_of old.round p term last committed accepted ≡ Some added → r ≡ round_after old.round p term last
      → Make (record old { round = r }) new o o1 (goes_to_election old.settings (record (view old) { round = r }) added)
      → Make old new o o1 (on_pre_vote_answer old.settings (view old) old.round p term last)
  counts_added old new r o o1 p term last added committed accepted candidate committed_is accepted_is is round_is goes =
      let s = old.settings in
      let v = view old in
      let mid = record old { round = r } in
      let both = counted_added s v old.round p term last added candidate (sym (counted_there old p term last committed accepted committed_is accepted_is) ∙ is) in
      let noted = makes_note k old mid o (RoundAnswered p term last) refl refl refl (ap (λ (x : Option Round). record v { round = x }) (round_is ∙ both.1)) in
      makes_as k old new o o1 _ _ (makes_then k old mid new o o o1 (Notes (RoundAnswered p term last) ∷ []) (goes_to_election s (record v { round = r }) added) noted goes)
      (ap (λ (is : List Item). Notes (RoundAnswered p term last) ∷ is) (round_apart s v r added) ∙ both.0)

  pub counts_nothing : (old : Coordinator K) (r : Option Round) (o : Shown) (p : Id) (term : ℕ) (last : StateId) (committed accepted : List Id)
      → committed ≡ (view old).node.committed → accepted ≡ (view old).node.accepted.config
      → counted_of old.round p term last committed accepted ≡ None → r ≡ round_after old.round p term last
      → Make old (record old { round = r }) o o (on_pre_vote_answer old.settings (view old) old.round p term last)
  counts_nothing old r o p term last committed accepted committed_is accepted_is is round_is =
      let s = old.settings in
      let v = view old in
      let both = counted_none s v old.round p term last (sym (counted_there old p term last committed accepted committed_is accepted_is) ∙ is) in
      let nothing : Make old (record old { round = r }) o o [] =
      record { goes = record { settings = refl; clock = refl; view = ap (λ (x : Option Round). record v { round = x }) (round_is ∙ both.1); core = refl }; shown = refl } in
      makes_as k old (record old { round = r }) o o _ _ nothing both.0

  pub counts_no_candidate : (old : Coordinator K) (o : Shown) (p : Id) (term : ℕ) (last : StateId) → is_candidate old.mode ≡ false → Make old old o o (on_pre_vote_answer old.settings (view old) old.round p term last)
  counts_no_candidate old o p term last candidate =
      makes_as k old old o o _ _ (makes_nothing k old o) (sym (counts_none old.settings (view old) old.round p term last candidate))
