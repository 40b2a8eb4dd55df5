-- A leader with nothing to do, whose accepted state is its own and stays.
use Rattle.std.proofs.Common.{◌≡◌, ◌∙◌, ap, sym, refl, true, List, [], ◌∷◌, Option, Some}
use Rattle.voting_config.specs.Ids.{Id, outside, without_id}
use Rattle.cluster_state.specs.Settings.{Setting}
use Rattle.cluster_state.specs.declared.state.ClusterValue.{ClusterValue}
use Rattle.master_tasks.specs.Queue.{Tasks, no_tasks}
use Rattle.master_tasks.specs.Members.{joined, members_after}
use Rattle.master_tasks.specs.NextState.{IsAtRest, Leader, config_for, is_accepted, is_nothing_new, next_answers, next_config, next_value, processed_by, value_before, waiting_after}

outside_none : (xs : List Id) → outside xs [] ≡ xs
outside_none [] = refl
outside_none (x ∷ xs) = ap (λ (ys : List Id). x ∷ ys) (outside_none xs)

-- nobody is to come or to go
pub members_stay : (me : Id) (t : Tasks) (members : List Id) → t.removals ≡ [] → t.additions ≡ [] → members_after me t members ≡ members
members_stay me t members none_go none_come =
    ap (λ (gone : List Id). joined me t.additions (outside members (without_id me gone))) none_go
    ∙ ap (λ (more : List Id). joined me more (outside members [])) none_come
    ∙ outside_none members

abbrev valued : Option Id → List Id → List Id → List Setting → ClusterValue
valued master members exclusions settings = record { master = master; members = members; exclusions = exclusions; settings = settings }

before_stays : (me : Id) (v : ClusterValue) → v.master ≡ Some me → value_before me no_tasks v ≡ v
before_stays me v is =
    ap (λ (master : Option Id). valued master (outside v.members []) v.exclusions v.settings) (sym is)
    ∙ ap (λ (members : List Id). valued v.master members v.exclusions v.settings) (outside_none v.members)

value_stays : (l : Leader) → l.accepted.value.master ≡ Some l.me → next_value l no_tasks ≡ l.accepted.value
unfolding next_value processed_by
value_stays l is = before_stays l.me l.accepted.value is

nothing_is_new : (l : Leader) → l.accepted.value.master ≡ Some l.me → is_accepted l.term l.accepted (config_for l.me l.term l.accepted l.committed l.votes l.policy l.accepted.value) l.accepted.value ≡ true → is_nothing_new l no_tasks ≡ true
unfolding is_nothing_new next_config processed_by
nothing_is_new l is stays =
    ap (λ (v : ClusterValue). is_accepted l.term l.accepted (config_for l.me l.term l.accepted l.committed l.votes l.policy v) v) (value_stays l is) ∙ stays

none_answered : (l : Leader) → is_nothing_new l no_tasks ≡ true → next_answers l no_tasks ≡ []
unfolding next_answers processed_by
none_answered l new = rw new refl

none_left : (l : Leader) → is_nothing_new l no_tasks ≡ true → waiting_after l no_tasks ≡ []
unfolding processed_by
none_left l new = rw new refl

pub at_rest : (l : Leader) → l.accepted.value.master ≡ Some l.me → is_accepted l.term l.accepted (config_for l.me l.term l.accepted l.committed l.votes l.policy l.accepted.value) l.accepted.value ≡ true → IsAtRest l no_tasks
at_rest l is stays =
    let new = nothing_is_new l is stays in
    record { nothing_new = new; waiting = none_left l new; answers = none_answered l new }
