-- Part of the statement: the act, and the record, that the words of a line show.
use Rattle.std.specs.Prelude.{ℕ, None, Result, Ok, Err, List, [], codes, if◌then◌else◌}
use Rattle.std.specs.Str.{bytes_eq}
use Rattle.voting_config.specs.Ids.{Id}
use Rattle.cluster_state.specs.Initial.{empty_value}
use Rattle.cluster_state.specs.declared.state.StateId.{StateId}
use Rattle.cluster_state.specs.declared.state.Kept.{Kept}
use Rattle.schedule_text.specs.declared.fault.WhyBad.{WhyBad}
use Rattle.schedule_text.specs.declared.fault.WhyBad.TheVariants as why
use Rattle.schedule_text.specs.Words.{◌>>=◌}
use Rattle.schedule_text.specs.Lines.{one, two, three, four, any_number, word_and_rest, words_of}
use Rattle.world_model.specs.declared.acts.Act.{Act}
use Rattle.world_model.specs.declared.acts.Act.TheVariants.{Bootstrap, StartJoin, TakeJoin, Value, Publish, Response, Commit}
use Rattle.recorded_trace.specs.declared.kind.Kind.{Kind}
use Rattle.recorded_trace.specs.declared.kind.Kind.TheVariants as kind
use Rattle.recorded_trace.specs.declared.entry.Entry.{Entry}
use Rattle.recorded_trace.specs.declared.entry.Entry.TheVariants.{Acted, Recorded}
use Rattle.recorded_trace.specs.Words.{node, ids, state_id}
use Rattle.recorded_trace.specs.Causes.{ending_at}
use Rattle.recorded_trace.specs.Json.{state_at, value_at}

abbrev pub kind_at : List ℕ → Result Kind WhyBad
kind_at w =
    if bytes_eq w (codes "boot") then Ok kind.Boot
    else (if bytes_eq w (codes "startjoin") then Ok kind.StartJoin
    else (if bytes_eq w (codes "join") then Ok kind.Join
    else (if bytes_eq w (codes "value") then Ok kind.Value
    else (if bytes_eq w (codes "publish") then Ok kind.Publish
    else (if bytes_eq w (codes "response") then Ok kind.Response
    else (if bytes_eq w (codes "commit") then Ok kind.Commit
    else Err why.Verb))))))

-- ---- the fields of each act

abbrev pub boot_at : List (List ℕ) → Result Act WhyBad
boot_at ws = (one ids).at ws >>= λ config. Ok (Bootstrap config)

abbrev pub start_join_at : List (List ℕ) → Result Act WhyBad
start_join_at ws = (two node any_number).at ws >>= λ x. Ok (StartJoin x.0 x.1)

abbrev pub join_at : List (List ℕ) → Result Act WhyBad
join_at ws = (four node node any_number state_id).at ws >>= λ x. Ok
    (TakeJoin (record { source = x.0; target = x.1; term = x.2; last_term = (x.3).term; last_version = (x.3).version }))

abbrev pub value_act_at : List (List ℕ) → Result Act WhyBad
value_act_at ws =
    word_and_rest ws >>= λ w. any_number.at w.0 >>= λ version.
    word_and_rest (words_of w.1) >>= λ v. ids.at v.0 >>= λ config.
    value_at v.1 >>= λ value. Ok (Value version config value)

abbrev pub publish_at : List (List ℕ) → Result Act WhyBad
publish_at ws = word_and_rest ws >>= λ w. node.at w.0 >>= λ n. state_at w.1 >>= λ state. Ok (Publish (record { source = n; state = state }))

abbrev pub response_at : List (List ℕ) → Result Act WhyBad
response_at ws = (three node node state_id).at ws >>= λ x. Ok
    (Response (record { source = x.0; target = x.1; term = (x.2).term; version = (x.2).version }))

abbrev pub commit_at : List (List ℕ) → Result Act WhyBad
commit_at ws = (two node state_id).at ws >>= λ x. Ok (Commit (record { source = x.0; term = (x.1).term; version = (x.1).version }))

abbrev pub fields_at : Kind → List (List ℕ) → Result Act WhyBad
fields_at kind.Boot ws = boot_at ws
fields_at kind.StartJoin ws = start_join_at ws
fields_at kind.Join ws = join_at ws
fields_at kind.Value ws = value_act_at ws
fields_at kind.Publish ws = publish_at ws
fields_at kind.Response ws = response_at ws
fields_at kind.Commit ws = commit_at ws

-- ---- the lines

-- an act: how it ended stands before it, and is read by its kind
abbrev pub ended_at : Id → List ℕ → List (List ℕ) → Result Entry WhyBad
ended_at n ended ws = word_and_rest ws >>= λ w. kind_at w.0 >>= λ k. ending_at k ended >>= λ e. fields_at k (words_of w.1) >>= λ act. Ok
    (Acted n e act)

abbrev pub act_at : List (List ℕ) → Result Entry WhyBad
act_at ws = word_and_rest ws >>= λ w. node.at w.0 >>= λ n. word_and_rest (words_of w.1) >>= λ v. ended_at n v.0 (words_of v.1)

-- the record that a line shows, as far as it does: its accepted state has no value here
abbrev pub shown_record : ℕ → StateId → List Id → List Id → Kept
shown_record term id config committed = record {
  term = term;
  accepted = record
      { term = id.term; version = id.version; parent = None; config = config; committed = []; value = empty_value };
  committed = committed;
}

abbrev pub found_at : List (List ℕ) → Result Kept WhyBad
found_at ws = (four any_number state_id ids ids).at ws >>= λ x. Ok (shown_record x.0 x.1 x.2 x.3)

abbrev pub record_at : List (List ℕ) → Result Entry WhyBad
record_at ws = word_and_rest ws >>= λ w. node.at w.0 >>= λ n. found_at (words_of w.1) >>= λ found. Ok (Recorded n found)
