use Rattle.std.proofs.Common.{sym, ◌∙◌, ap, List, ◌<◌, ◌≤◌, length, Some, arith}
use Rattle.voting_config.specs.Ids.{Id, most_ids}
use Rattle.voting_config.specs.Rosters.{place_on}
use Rattle.voting_config.proofs.Rosters.{admits_known, admits_new, admits_none, place_none, place_last, IsRoster-append}
use Rattle.voting_config.proofs.roster.Roster.admit.Goals as goal

pub returns-in-Some-clause-ok : goal.returns-in-Some-clause-ok
returns-in-Some-clause-ok c = (admits_known c.args.id c.args.self.now c.in-Some.place (sym c.place.ensures.value ∙ c.in-Some.is)).0

pub returns-in-Some-clause-full : goal.returns-in-Some-clause-full
returns-in-Some-clause-full c =
    let room = (admits_known c.args.id c.args.self.now c.in-Some.place (sym c.place.ensures.value ∙ c.in-Some.is)).1 in
    (λ h. absurd (cc (h)), λ h. absurd (cc (h, room)))

pub returns-then-place-ge-MAX_IDS-clause-full : goal.returns-then-place-ge-MAX_IDS-clause-full
returns-then-place-ge-MAX_IDS-clause-full c =
    let full : most_ids ≤ length c.args.self.now = rw (← c.self.view_is) (omega (arith, c.len-place.ensures.value, c.if-place-ge-MAX_IDS.true)) in
    let none = admits_none c.args.id c.args.self.now (sym c.place.ensures.value ∙ c.in_default.is) full in
    (λ h. none, λ h. cc)

pub invariant_of-self : goal.invariant_of-self
invariant_of-self c =
    let room : length c.self.inside.ids.items < most_ids = omega (arith, c.len-place.ensures.value, c.if-place-ge-MAX_IDS.false) in
    let new = place_none c.args.id c.self.inside.ids.items (ap (λ (l : List Id). place_on l c.args.id) c.self.view_is ∙ sym c.place.ensures.value ∙ c.in_default.is) in
    rw c.push.ensures.items (IsRoster-append c.args.id c.self.inside.ids.items c.self.invariant c.as_bytes.ensures.id new room)

pub returns-clause-ok : goal.returns-clause-ok
returns-clause-ok c =
    let room : length c.args.self.now < most_ids = rw (← c.self.view_is) (omega (arith, c.len-place.ensures.value, c.if-place-ge-MAX_IDS.false)) in
    rw c.push.ensures.items (rw c.self.view_is (admits_new c.args.id c.args.self.now (sym c.place.ensures.value ∙ c.in_default.is) room).0)

pub returns-clause-place : goal.returns-clause-place
returns-clause-place c =
    let new = place_none c.args.id c.self.inside.ids.items (ap (λ (l : List Id). place_on l c.args.id) c.self.view_is ∙ sym c.place.ensures.value ∙ c.in_default.is) in
    rw c.push.ensures.items (ap Some c.len-place.ensures.value ∙ place_last c.args.id c.self.inside.ids.items new)

pub returns-clause-is_roster : goal.returns-clause-is_roster
returns-clause-is_roster c =
    let room : length c.self.inside.ids.items < most_ids = omega (arith, c.len-place.ensures.value, c.if-place-ge-MAX_IDS.false) in
    let new = place_none c.args.id c.self.inside.ids.items (ap (λ (l : List Id). place_on l c.args.id) c.self.view_is ∙ sym c.place.ensures.value ∙ c.in_default.is) in
    rw c.push.ensures.items (IsRoster-append c.args.id c.self.inside.ids.items c.self.invariant c.as_bytes.ensures.id new room)
