-- Part of the statement: what a request does to the value.
use Rattle.std.specs.Prelude.{◌+◌, Bool, true, false, not, ◌&&◌, ◌||◌, Option, None, Some, Result, Ok, Err, List, [], ◌∷◌, ◌++◌, length, map, fold, nat_le, if◌then◌else◌}
use Rattle.voting_config.specs.Ids.{Id, has}
use Rattle.cluster_state.specs.declared.state.ClusterState.{ClusterState}
use Rattle.cluster_state.specs.declared.state.ClusterValue.{ClusterValue}
use Rattle.cluster_state.specs.Fields.{most_settings}
use Rattle.cluster_state.specs.Settings.{Setting, put_setting, without_key}
use Rattle.exclusions.specs.declared.AddError.{AddError}
use Rattle.exclusions.specs.declared.AddError.TheVariants.{TooMany}
use Rattle.exclusions.specs.declared.StillMember.{StillMember}
use Rattle.exclusions.specs.Exclusions.{added_of, cleared_of}
use Rattle.cluster_state.specs.declared.request.Ask.{Ask}
use Rattle.cluster_state.specs.declared.request.Ask.TheVariants as ask
use Rattle.cluster_state.specs.declared.reply.Answer.{Answer}
use Rattle.cluster_state.specs.declared.reply.Answer.TheVariants as answer
use Rattle.master_tasks.specs.declared.waiting.Waiting.{Waiting}
use Rattle.master_tasks.specs.declared.waiting.Outgoing.{Outgoing}
use Rattle.master_tasks.specs.Replying.{answer_to}

-- a request is answered at once, or it makes a value and waits
pub data Processing : Type 0 where
  AnsweredAtOnce : (answer : Answer) → Processing
  Makes : (value : ClusterValue) → Processing

abbrev pub putting : ClusterValue → Setting → Processing
putting value s =
    if not (has s.0 (map (λ t. t.0) value.settings)) && nat_le most_settings (length value.settings)
    then AnsweredAtOnce (answer.TooManySettings (most_settings + 1))
    else Makes (record value { settings = put_setting s value.settings })

abbrev pub refused : AddError → Answer
refused (TooMany count) = answer.TooManyExclusions count

abbrev pub excluding : ClusterValue → Result (List Id) AddError → Processing
excluding value (Ok ids) = Makes (record value { exclusions = ids })
excluding value (Err error) = AnsweredAtOnce (refused error)

abbrev pub clearing : ClusterValue → Result (Unit {0}) StillMember → Processing
clearing value (Ok u) = Makes (record value { exclusions = [] })
clearing value (Err still) = AnsweredAtOnce (answer.StillMember still.0)

-- A request on a value, beside the accepted state and by the profile. To be shown the state is answered at once by the first; by the second
-- it waits for a state of its own.
abbrev pub processing : Bool → ClusterState → ClusterValue → Ask → Processing
processing second accepted value (ask.Put key text) = putting value (key, text)
processing second accepted value (ask.Remove key) = Makes (record value { settings = without_key key value.settings })
processing second accepted value (ask.Exclude ids) = excluding value (added_of value.exclusions ids)
processing second accepted value (ask.Clear wait) = clearing value (cleared_of value.exclusions value.members wait)
processing second accepted value ask.State = if second then Makes value else AnsweredAtOnce (answer.State accepted)

-- a request is processed once
abbrev pub processing_once : Bool → ClusterState → ClusterValue → Waiting → Processing
processing_once second accepted value w = if w.processed then Makes value else processing second accepted value w.request.ask

abbrev pub value_after : ClusterValue → Processing → ClusterValue
value_after value (AnsweredAtOnce answer) = value
value_after value (Makes made) = made

abbrev pub answer_after : Processing → Option Answer
answer_after (AnsweredAtOnce answer) = Some answer
answer_after (Makes made) = None

-- the value after some requests, those of them that wait, whether one of these was processed now, and the answers to the others
pub record Processed : Type 0 where
  pub value : ClusterValue
  pub waiting : List Waiting
  pub anew : Bool
  pub answers : List Outgoing

abbrev pub before_all : ClusterValue → Processed
before_all value = record { value = value; waiting = []; anew = false; answers = [] }

abbrev pub and_then : Processed → Waiting → Processing → Processed
and_then p w (AnsweredAtOnce answer) = record p { answers = p.answers ++ answer_to w answer ∷ [] }
and_then p w (Makes made) = record p {
  value = made;
  waiting = p.waiting ++ record w { processed = true } ∷ [];
  anew = p.anew || not w.processed;
}

abbrev pub with_next : Bool → ClusterState → Processed → Waiting → Processed
with_next second accepted p w = and_then p w (processing_once second accepted p.value w)

-- the requests from the first on, each on the value so far
abbrev pub processed_all : Bool → ClusterState → ClusterValue → List Waiting → Processed
processed_all second accepted value waiting = fold (with_next second accepted) (before_all value) waiting
