-- Part of the statement: what a value has of what clients asked for.
use Rattle.std.specs.Prelude.{◌≡◌, ℕ, Bool, true, false, Option, None, Some, List, [], ◌∷◌, fold, if◌then◌else◌}
use Rattle.std.specs.List.{list_any}
use Rattle.std.specs.Map.{lookup}
use Rattle.std.specs.Str.{bytes_eq}
use Rattle.voting_config.specs.Ids.{Id, has}
use Rattle.cluster_state.specs.Settings.{Setting}
use Rattle.cluster_state.specs.declared.state.ClusterValue.{ClusterValue}
use Rattle.cluster_state.specs.declared.request.Ask.{Ask}
use Rattle.cluster_state.specs.declared.request.Ask.TheVariants as ask
use Rattle.master_tasks.specs.declared.waiting.Waiting.{Waiting}

-- the value that settings have under a key
abbrev pub setting_under : List ℕ → List Setting → Option (List ℕ)
setting_under key settings = lookup (λ k. bytes_eq k key) settings

-- the value has what is asked for; to be shown the state asks nothing of it
abbrev pub Meets : ClusterValue → Ask → Type 0
Meets value (ask.Put key text) = setting_under key value.settings ≡ Some text
Meets value (ask.Remove key) = setting_under key value.settings ≡ None
Meets value (ask.Exclude ids) = (id : Id) → has id ids ≡ true → has id value.exclusions ≡ true
Meets value (ask.Clear wait) = value.exclusions ≡ []
Meets value ask.State = Unit {0}

-- whether it sets or removes this key
abbrev pub is_about : List ℕ → Ask → Bool
is_about key (ask.Put k text) = bytes_eq k key
is_about key (ask.Remove k) = bytes_eq k key
is_about key (ask.Exclude ids) = false
is_about key (ask.Clear wait) = false
is_about key ask.State = false

abbrev pub is_exclude : Ask → Bool
is_exclude (ask.Exclude ids) = true
is_exclude (ask.Put key text) = false
is_exclude (ask.Remove key) = false
is_exclude (ask.Clear wait) = false
is_exclude ask.State = false

abbrev pub is_clear : Ask → Bool
is_clear (ask.Clear wait) = true
is_clear (ask.Put key text) = false
is_clear (ask.Remove key) = false
is_clear (ask.Exclude ids) = false
is_clear ask.State = false

-- whether the later may undo the earlier
abbrev pub may_undo : Ask → Ask → Bool
may_undo later (ask.Put key text) = is_about key later
may_undo later (ask.Remove key) = is_about key later
may_undo later (ask.Exclude ids) = is_clear later
may_undo later (ask.Clear wait) = is_exclude later
may_undo later ask.State = false

-- whether one of the later requests may undo it
abbrev pub is_undone : Waiting → List Waiting → Bool
is_undone w later = list_any (λ u. may_undo u.request.ask w.request.ask) later

-- the value has what a request asks for, unless one of the later requests may have undone it
abbrev pub MeetsUnlessUndone : ClusterValue → Waiting → List Waiting → Type 0
MeetsUnlessUndone value w later = is_undone w later ≡ false → Meets value w.request.ask

-- each of the requests, in order of processing, unless one after it may have undone it: so the last one that speaks of a matter is met
abbrev pub MeetsEach : ClusterValue → List Waiting → Type 0
MeetsEach value [] = Unit {0}
MeetsEach value (w ∷ later) = MeetsUnlessUndone value w later × MeetsEach value later

-- where nodes are to be excluded from voting, none of them is in this voting configuration
abbrev pub HasNoVoterOf : List Id → Ask → Type 0
HasNoVoterOf config (ask.Exclude ids) = (id : Id) → has id ids ≡ true → has id config ≡ false
HasNoVoterOf config other = Unit {0}

-- what the value under a key is after a request, told by what it was before; and after several: the last that sets or removes it decides
abbrev pub setting_after : List ℕ → Option (List ℕ) → Ask → Option (List ℕ)
setting_after key before (ask.Put k text) = if bytes_eq k key then Some text else before
setting_after key before (ask.Remove k) = if bytes_eq k key then None else before
setting_after key before (ask.Exclude ids) = before
setting_after key before (ask.Clear wait) = before
setting_after key before ask.State = before

abbrev pub setting_after_all : List ℕ → Option (List ℕ) → List Waiting → Option (List ℕ)
setting_after_all key before ws = fold (λ setting w. setting_after key setting w.request.ask) before ws
