-- Part of the statement: how an act ended, by the word that says so. Which causes there are depends on the act.
use Rattle.std.specs.Prelude.{ℕ, ◌-◌, Result, Ok, Err, List, [], ◌∷◌, length, take, drop, codes, nat_eq, if◌then◌else◌}
use Rattle.std.specs.List.{starts_with}
use Rattle.std.specs.Str.{bytes_eq}
use Rattle.voting_config.specs.Lists.{parts_of, comma}
use Rattle.schedule_text.specs.declared.fault.WhyBad.{WhyBad}
use Rattle.schedule_text.specs.declared.fault.WhyBad.TheVariants as why
use Rattle.schedule_text.specs.Words.{◌>>=◌}
use Rattle.schedule_text.specs.Lines.{one, two, any_number}
use Rattle.cluster_state.specs.declared.causes.InitialCause.{InitialCause}
use Rattle.cluster_state.specs.declared.causes.InitialCause.TheVariants as initial
use Rattle.cluster_state.specs.declared.causes.StartCause.{StartCause}
use Rattle.cluster_state.specs.declared.causes.StartCause.TheVariants as start
use Rattle.cluster_state.specs.declared.causes.JoinCause.{JoinCause}
use Rattle.cluster_state.specs.declared.causes.JoinCause.TheVariants as join
use Rattle.cluster_state.specs.declared.causes.ValueCause.{ValueCause}
use Rattle.cluster_state.specs.declared.causes.ValueCause.TheVariants as value
use Rattle.cluster_state.specs.declared.causes.PublishCause.{PublishCause}
use Rattle.cluster_state.specs.declared.causes.PublishCause.TheVariants as publish
use Rattle.cluster_state.specs.declared.causes.ResponseCause.{ResponseCause}
use Rattle.cluster_state.specs.declared.causes.ResponseCause.TheVariants as response
use Rattle.cluster_state.specs.declared.causes.CommitCause.{CommitCause}
use Rattle.cluster_state.specs.declared.causes.CommitCause.TheVariants as commit
use Rattle.world_model.specs.declared.acts.Cause.{Cause}
use Rattle.world_model.specs.declared.acts.Cause.TheVariants.{Initial as InitialRefused, Start as StartRefused, Join as JoinRefused, Value as ValueRefused, Publish as PublishRefused, Response as ResponseRefused, Commit as CommitRefused}
use Rattle.trace_text.specs.declared.ending.Ending.{Ending}
use Rattle.trace_text.specs.declared.ending.Ending.TheVariants as ending
use Rattle.recorded_trace.specs.Words.{node, no_word}
use Rattle.recorded_trace.specs.declared.kind.Kind.{Kind}
use Rattle.recorded_trace.specs.declared.kind.Kind.TheVariants as kind

-- ---- a name, and values in brackets

-- what stands before the closing bracket, cut at its commas
abbrev pub inside : List ℕ → Result (List (List ℕ)) WhyBad
inside w = if bytes_eq (drop (length w - 1) w) (codes ")") then Ok (parts_of comma (take (length w - 1) w)) else Err why.Arity

-- of what stands around the opening bracket
abbrev pub called : List (List ℕ) → Result (List ℕ × List (List ℕ)) WhyBad
called [] = Err why.Arity
called (name ∷ []) = Ok (name, [])
called (name ∷ w ∷ []) = inside w >>= λ values. Ok (name, values)
called (name ∷ w ∷ v ∷ vs) = Err why.Arity

abbrev pub two_numbers : List (List ℕ) → Result (ℕ × ℕ) WhyBad
two_numbers values = (two any_number any_number).at values

abbrev pub plain : {C : Type 0} → C → List (List ℕ) → Result C WhyBad
plain c values = no_word values >>= λ u. Ok c

-- ---- the causes of each act

abbrev pub initial_at : List ℕ → List (List ℕ) → Result InitialCause WhyBad
initial_at name values =
    if bytes_eq name (codes "AlreadySet") then plain initial.AlreadySet values
    else (if bytes_eq name (codes "EmptyConfig") then plain initial.EmptyConfig values
    else Err why.Verb)

abbrev pub start_at : List ℕ → List (List ℕ) → Result StartCause WhyBad
start_at name values =
    if bytes_eq name (codes "TermNotGreater") then (two_numbers values >>= λ x. Ok (start.TermNotGreater x.0 x.1))
    else (if bytes_eq name (codes "TermTooLarge") then ((one any_number).at values >>= λ x. Ok (start.TermTooLarge x))
    else Err why.Verb)

abbrev pub join_at : List ℕ → List (List ℕ) → Result JoinCause WhyBad
join_at name values =
    if bytes_eq name (codes "NotForMe") then ((one node).at values >>= λ n. Ok (join.NotForMe n))
    else (if bytes_eq name (codes "TermMismatch") then (two_numbers values >>= λ x. Ok (join.TermMismatch x.0 x.1))
    else (if bytes_eq name (codes "NotStarted") then plain join.NotStarted values
    else (if bytes_eq name (codes "FresherTerm") then (two_numbers values >>= λ x. Ok (join.FresherTerm x.0 x.1))
    else (if bytes_eq name (codes "FresherVersion") then (two_numbers values >>= λ x. Ok (join.FresherVersion x.0 x.1))
    else (if bytes_eq name (codes "NoConfig") then plain join.NoConfig values
    else Err why.Verb)))))

abbrev pub value_at : List ℕ → List (List ℕ) → Result ValueCause WhyBad
value_at name values =
    if bytes_eq name (codes "NotWon") then plain value.NotWon values
    else (if bytes_eq name (codes "NotAccepted") then (two_numbers values >>= λ x. Ok (value.NotAccepted x.0 x.1))
    else (if bytes_eq name (codes "VersionNotGreater") then (two_numbers values >>= λ x. Ok (value.VersionNotGreater x.0 x.1))
    else (if bytes_eq name (codes "VersionTooLarge") then ((one any_number).at values >>= λ x. Ok (value.VersionTooLarge x))
    else (if bytes_eq name (codes "Reconfiguring") then plain value.Reconfiguring values
    else (if bytes_eq name (codes "NoJoinQuorum") then plain value.NoJoinQuorum values
    else Err why.Verb)))))

abbrev pub publish_at : List ℕ → List (List ℕ) → Result PublishCause WhyBad
publish_at name values =
    if bytes_eq name (codes "TermMismatch") then (two_numbers values >>= λ x. Ok (publish.TermMismatch x.0 x.1))
    else (if bytes_eq name (codes "VersionNotGreater") then (two_numbers values >>= λ x. Ok (publish.VersionNotGreater x.0 x.1))
    else Err why.Verb)

abbrev pub response_at : List ℕ → List (List ℕ) → Result ResponseCause WhyBad
response_at name values =
    if bytes_eq name (codes "NotForMe") then ((one node).at values >>= λ n. Ok (response.NotForMe n))
    else (if bytes_eq name (codes "NotWon") then plain response.NotWon values
    else (if bytes_eq name (codes "TermMismatch") then (two_numbers values >>= λ x. Ok (response.TermMismatch x.0 x.1))
    else (if bytes_eq name (codes "VersionMismatch") then (two_numbers values >>= λ x. Ok (response.VersionMismatch x.0 x.1))
    else Err why.Verb)))

abbrev pub commit_at : List ℕ → List (List ℕ) → Result CommitCause WhyBad
commit_at name values =
    if bytes_eq name (codes "TermMismatch") then (two_numbers values >>= λ x. Ok (commit.TermMismatch x.0 x.1))
    else (if bytes_eq name (codes "AcceptedTermMismatch") then (two_numbers values >>= λ x. Ok (commit.AcceptedTermMismatch x.0 x.1))
    else (if bytes_eq name (codes "VersionMismatch") then (two_numbers values >>= λ x. Ok (commit.VersionMismatch x.0 x.1))
    else (if bytes_eq name (codes "Publishing") then (two_numbers values >>= λ x. Ok (commit.Publishing x.0 x.1))
    else Err why.Verb)))

abbrev pub cause_of : Kind → List ℕ → List (List ℕ) → Result Cause WhyBad
cause_of kind.Boot name values = initial_at name values >>= λ c. Ok (InitialRefused c)
cause_of kind.StartJoin name values = start_at name values >>= λ c. Ok (StartRefused c)
cause_of kind.Join name values = join_at name values >>= λ c. Ok (JoinRefused c)
cause_of kind.Value name values = value_at name values >>= λ c. Ok (ValueRefused c)
cause_of kind.Publish name values = publish_at name values >>= λ c. Ok (PublishRefused c)
cause_of kind.Response name values = response_at name values >>= λ c. Ok (ResponseRefused c)
cause_of kind.Commit name values = commit_at name values >>= λ c. Ok (CommitRefused c)

-- a cause of an act of this kind, with its values, as `TermMismatch(2,1)`
abbrev pub cause_at : Kind → List ℕ → Result Cause WhyBad
cause_at k w = called (parts_of 40 w) >>= λ c. cause_of k c.0 c.1

-- ---- how an act ended

abbrev pub refused_at : Kind → List ℕ → Result Ending WhyBad
refused_at k w = if starts_with nat_eq w (codes "refused:") then (cause_at k (drop 8 w) >>= λ c. Ok (ending.Refused c)) else Err why.Verb

abbrev pub ending_at : Kind → List ℕ → Result Ending WhyBad
ending_at k w =
    if bytes_eq w (codes "ok") then Ok ending.Taken
    else (if bytes_eq w (codes "stopped") then Ok ending.Stopped
    else (if bytes_eq w (codes "disk") then Ok ending.Disk
    else (if bytes_eq w (codes "crashed") then Ok ending.Crashed
    else refused_at k w)))
