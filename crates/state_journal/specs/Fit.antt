-- For the contracts inside: that a state is within the limits holds in one way only.
use Rattle.std.specs.Prelude.{List, [], ◌∷◌, Option, Some, None, IfSome}
use Rattle.std.specs.List.{AllByRecursion}
use Rattle.std.specs.Coded.{×_prop, Unit-prop}
use Rattle.std.proofs.Props.{props}
use Rattle.cluster_state.specs.declared.state.ClusterState.{ClusterState}
use Rattle.cluster_state.specs.declared.state.StateId.{StateId}
use Rattle.cluster_state.specs.Fields.{id, setting, IsFitSetting}
use Rattle.cluster_state.specs.Settings.{Setting}
use Rattle.cluster_state.specs.States.{state_id, IsFitId, IsFit}
use Rattle.voting_config.specs.Ids.{Id}
use Rattle.state_journal.specs.Drafts.{Drafted, HasSpelling, IsDraft}

setting_prop : (x : Setting) → IsProp (IsFitSetting x)
setting_prop x = hlevel props

each_prop : (xs : List Setting) → IsProp (AllByRecursion IsFitSetting xs)
each_prop [] = Unit-prop
each_prop (x ∷ xs) = ×_prop (setting_prop x) (each_prop xs)

fit_id_prop : (i : StateId) → IsProp (IsFitId i)
fit_id_prop i = hlevel props

fit_parent_prop : (o : Option StateId) → IsProp (IfSome o IsFitId)
fit_parent_prop None = Unit-prop
fit_parent_prop (Some i) = fit_id_prop i

pub IsFit-prop : (s : ClusterState) → IsProp (IsFit s)
IsFit-prop s = hlevel (each_prop s.value.settings, fit_parent_prop s.parent, props)

id_prop : (x : Id) → IsProp (id.Fits x)
id_prop x = hlevel props

ids_prop : (xs : List Id) → IsProp (AllByRecursion id.Fits xs)
ids_prop [] = Unit-prop
ids_prop (x ∷ xs) = ×_prop (id_prop x) (ids_prop xs)

optional_prop : (o : Option Id) → IsProp (IfSome o id.Fits)
optional_prop None = Unit-prop
optional_prop (Some x) = id_prop x

state_id_prop : (i : StateId) → IsProp (state_id.Fits i)
state_id_prop i = hlevel props

parent_prop : (o : Option StateId) → IsProp (IfSome o state_id.Fits)
parent_prop None = Unit-prop
parent_prop (Some i) = state_id_prop i

spelled_prop : (x : Setting) → IsProp (setting.Fits x)
spelled_prop x = hlevel props

entries_prop : (xs : List Setting) → IsProp (AllByRecursion setting.Fits xs)
entries_prop [] = Unit-prop
entries_prop (x ∷ xs) = ×_prop (spelled_prop x) (entries_prop xs)

HasSpelling-prop : (s : ClusterState) → IsProp (HasSpelling s)
unfolding HasSpelling
HasSpelling-prop s =
    let v = s.value in
    hlevel (
      parent_prop s.parent,
      ids_prop s.config,
      ids_prop s.committed,
      optional_prop v.master,
      ids_prop v.members,
      ids_prop
          v.exclusions,
      entries_prop v.settings,
      props,
    )

pub IsDraft-prop : (s : ClusterState) (draft : Drafted) → IsProp (IsDraft s draft)
IsDraft-prop s draft = hlevel (HasSpelling-prop s, props)
