-- How an act ended is read back from the word that says so.
use Rattle.std.proofs.Common.{◌≡◌, ℕ, ◌-◌, true, not, Ok, List, [], ◌∷◌, ◌++◌, length, refl, ap, ◌∙◌, subst, codes, decimal, append_assoc, IsTrue, arith}
use Rattle.std.specs.Prelude.{◌==◌}
use Rattle.std.proofs.Math.Seq.{drop-append_seam, take-append_seam}
use Rattle.std.proofs.lemmas.List.{length-append}
use Rattle.std.proofs.lemmas.Bool.Decides.{nat_tests}
use Rattle.voting_config.specs.Ids.{Id, is_id, is_id_byte}
use Rattle.voting_config.specs.Lists.{parts_of}
use Rattle.cluster_state.specs.declared.causes.InitialCause.{InitialCause}
use Rattle.cluster_state.specs.declared.causes.InitialCause.TheVariants as initial
use Rattle.cluster_state.specs.declared.causes.StartCause.{StartCause}
use Rattle.cluster_state.specs.declared.causes.StartCause.TheVariants as start
use Rattle.cluster_state.specs.declared.causes.JoinCause.{JoinCause}
use Rattle.cluster_state.specs.declared.causes.JoinCause.TheVariants as join
use Rattle.cluster_state.specs.declared.causes.ValueCause.{ValueCause}
use Rattle.cluster_state.specs.declared.causes.ValueCause.TheVariants as value
use Rattle.cluster_state.specs.declared.causes.PublishCause.{PublishCause}
use Rattle.cluster_state.specs.declared.causes.PublishCause.TheVariants as publish
use Rattle.cluster_state.specs.declared.causes.ResponseCause.{ResponseCause}
use Rattle.cluster_state.specs.declared.causes.ResponseCause.TheVariants as response
use Rattle.cluster_state.specs.declared.causes.CommitCause.{CommitCause}
use Rattle.cluster_state.specs.declared.causes.CommitCause.TheVariants as commit
use Rattle.world_model.specs.declared.acts.Act.{Act}
use Rattle.world_model.specs.declared.acts.Cause.{Cause}
use Rattle.world_model.specs.declared.acts.Cause.TheVariants.{Initial as InitialRefused, Start as StartRefused, Join as JoinRefused, Value as ValueRefused, Publish as PublishRefused, Response as ResponseRefused, Commit as CommitRefused}
use Rattle.schedule_text.specs.Words.{is_digit}
use Rattle.schedule_text.proofs.WordLaws.{lacks, all_append, split_alone, split_first}
use Rattle.trace_text.specs.declared.ending.Ending.{Ending}
use Rattle.trace_text.specs.declared.ending.Ending.TheVariants as ending
use Rattle.trace_text.specs.Trace.{one, two, named, initial_text, start_text, join_text, value_text, publish_text, response_text, commit_text, cause_text, ending_text}
use Rattle.recorded_trace.specs.Causes.{inside, called, cause_at, ending_at}
use Rattle.recorded_trace.specs.declared.kind.Kind.{Kind}
use Rattle.recorded_trace.specs.declared.kind.Kind.TheVariants as kind
use Rattle.line_laws.specs.Fits.{IsSmall, AreSmall, FitsStart, FitsJoin, FitsValue, FitsPublish, FitsResponse, FitsCommit, FitsCause, FitsEnding}
use Rattle.line_laws.specs.Readable.{kind_of, refuses, EndsAs}
use Rattle.line_laws.proofs.Plain.{number_again}
use Rattle.line_laws.proofs.Cuts.{done, id_without, number_without}

-- ---- a name with values in brackets

digit_comma : (b : ℕ) → is_digit b ≡ true → not (b == 44) ≡ true
digit_comma b h = grind (arith, nat_tests)

digit_bracket : (b : ℕ) → is_digit b ≡ true → not (b == 40) ≡ true
digit_bracket b h = grind (arith, nat_tests)

id_comma : (b : ℕ) → is_id_byte b ≡ true → not (b == 44) ≡ true
id_comma b h = grind (arith, nat_tests)

id_bracket : (b : ℕ) → is_id_byte b ≡ true → not (b == 40) ≡ true
id_bracket b h = grind (arith, nat_tests)

inside_is : (w : List ℕ) → inside (w ++ codes ")") ≡ done (parts_of 44 w)
inside_is w =
    let long : length (w ++ codes ")") - 1 ≡ length w = omega (arith, length-append w (codes ")")) in
    rw (long, drop-append_seam w (codes ")"), take-append_seam w (codes ")")) refl

-- a name, and what stands in its brackets
called_is : (name w : List ℕ) → lacks 40 name ≡ true → lacks 40 w ≡ true → called (parts_of 40 (name ++ 40 ∷ (w ++ codes ")"))) ≡ done (name, parts_of 44 w)
called_is name w h k =
    let behind : lacks 40 (w ++ codes ")") ≡ true = all_append (λ b. not (b == 40)) w (codes ")") k refl in
    let cut : parts_of 40 (name ++ 40 ∷ (w ++ codes ")")) ≡ name ∷ (w ++ codes ")") ∷ [] =
    split_first 40 name (w ++ codes ")") h ∙ ap (λ (t : List (List ℕ)). name ∷ t) (split_alone 40 (w ++ codes ")") behind) in
    rw (cut, inside_is w) refl

one_called : (name : List ℕ) (x : ℕ) → lacks 40 name ≡ true → IsSmall x → called (parts_of 40 (one name x)) ≡ done (name, decimal x ∷ [])
one_called name x h small =
    let same : one name x ≡ name ++ 40 ∷ (decimal x ++ codes ")") = simp append_assoc in
    ap (λ (t : List ℕ). called (parts_of 40 t)) same
    ∙ called_is name (decimal x) h (number_without 40 digit_bracket x)
    ∙ ap (λ (t : List (List ℕ)). done (name, t)) (split_alone 44 (decimal x) (number_without 44 digit_comma x))

two_called : (name : List ℕ) (x y : ℕ) → lacks 40 name ≡ true → AreSmall x y → called (parts_of 40 (two name x y)) ≡ done (name, decimal x ∷ decimal y ∷ [])
two_called name x y h small =
    let w : List ℕ = decimal x ++ 44 ∷ decimal y in
    let same : two name x y ≡ name ++ 40 ∷ (w ++ codes ")") = simp append_assoc in
    let quiet : lacks 40 w ≡ true = all_append (λ b. not (b == 40)) (decimal x) (44 ∷ decimal y) (number_without 40 digit_bracket x) (number_without 40 digit_bracket y) in
    ap (λ (t : List ℕ). called (parts_of 40 t)) same
    ∙ called_is name w h quiet
    ∙ ap (λ (t : List (List ℕ)). done (name, t))
    (split_first 44 (decimal x) (decimal y) (number_without 44 digit_comma x) ∙ ap (λ (t : List (List ℕ)). decimal x ∷ t) (split_alone 44 (decimal y) (number_without 44 digit_comma y)))

named_called : (name : List ℕ) (n : Id) → lacks 40 name ≡ true → IsTrue (is_id n) → called (parts_of 40 (named name n)) ≡ done (name, n ∷ [])
named_called name n h is =
    let same : named name n ≡ name ++ 40 ∷ (n ++ codes ")") = simp append_assoc in
    ap (λ (t : List ℕ). called (parts_of 40 t)) same
    ∙ called_is name n h (id_without 40 id_bracket n is)
    ∙ ap (λ (t : List (List ℕ)). done (name, t)) (split_alone 44 n (id_without 44 id_comma n is))

-- ---- the causes

initial_again : (c : InitialCause) → cause_at kind.Boot (initial_text c) ≡ Ok (InitialRefused c)
initial_again initial.AlreadySet = refl
initial_again initial.EmptyConfig = refl

start_again : (c : StartCause) → FitsStart c → cause_at kind.StartJoin (start_text c) ≡ Ok (StartRefused c)
start_again (start.TermNotGreater x y) h = rw (two_called (codes "TermNotGreater") x y refl h, number_again x h.0, number_again y h.1) refl
start_again (start.TermTooLarge x) h = rw (one_called (codes "TermTooLarge") x refl h, number_again x h) refl

join_again : (c : JoinCause) → FitsJoin c → cause_at kind.Join (join_text c) ≡ Ok (JoinRefused c)
join_again (join.NotForMe n) h = rw (named_called (codes "NotForMe") n refl h, h) refl
join_again (join.TermMismatch x y) h = rw (two_called (codes "TermMismatch") x y refl h, number_again x h.0, number_again y h.1) refl
join_again join.NotStarted h = refl
join_again (join.FresherTerm x y) h = rw (two_called (codes "FresherTerm") x y refl h, number_again x h.0, number_again y h.1) refl
join_again (join.FresherVersion x y) h = rw (two_called (codes "FresherVersion") x y refl h, number_again x h.0, number_again y h.1) refl
join_again join.NoConfig h = refl

value_again : (c : ValueCause) → FitsValue c → cause_at kind.Value (value_text c) ≡ Ok (ValueRefused c)
value_again value.NotWon h = refl
value_again (value.NotAccepted x y) h = rw (two_called (codes "NotAccepted") x y refl h, number_again x h.0, number_again y h.1) refl
value_again (value.VersionNotGreater x y) h = rw (two_called (codes "VersionNotGreater") x y refl h, number_again x h.0, number_again y h.1) refl
value_again (value.VersionTooLarge x) h = rw (one_called (codes "VersionTooLarge") x refl h, number_again x h) refl
value_again value.Reconfiguring h = refl
value_again value.NoJoinQuorum h = refl

publish_again : (c : PublishCause) → FitsPublish c → cause_at kind.Publish (publish_text c) ≡ Ok (PublishRefused c)
publish_again (publish.TermMismatch x y) h = rw (two_called (codes "TermMismatch") x y refl h, number_again x h.0, number_again y h.1) refl
publish_again (publish.VersionNotGreater x y) h = rw (two_called (codes "VersionNotGreater") x y refl h, number_again x h.0, number_again y h.1) refl

response_again : (c : ResponseCause) → FitsResponse c → cause_at kind.Response (response_text c) ≡ Ok (ResponseRefused c)
response_again (response.NotForMe n) h = rw (named_called (codes "NotForMe") n refl h, h) refl
response_again response.NotWon h = refl
response_again (response.TermMismatch x y) h = rw (two_called (codes "TermMismatch") x y refl h, number_again x h.0, number_again y h.1) refl
response_again (response.VersionMismatch x y) h = rw (two_called (codes "VersionMismatch") x y refl h, number_again x h.0, number_again y h.1) refl

commit_again : (c : CommitCause) → FitsCommit c → cause_at kind.Commit (commit_text c) ≡ Ok (CommitRefused c)
commit_again (commit.TermMismatch x y) h = rw (two_called (codes "TermMismatch") x y refl h, number_again x h.0, number_again y h.1) refl
commit_again (commit.AcceptedTermMismatch x y) h = rw (two_called (codes "AcceptedTermMismatch") x y refl h, number_again x h.0, number_again y h.1) refl
commit_again (commit.VersionMismatch x y) h = rw (two_called (codes "VersionMismatch") x y refl h, number_again x h.0, number_again y h.1) refl
commit_again (commit.Publishing x y) h = rw (two_called (codes "Publishing") x y refl h, number_again x h.0, number_again y h.1) refl

cause_again : (c : Cause) → FitsCause c → cause_at (refuses c) (cause_text c) ≡ Ok c
cause_again (InitialRefused c) h = initial_again c
cause_again (StartRefused c) h = start_again c h
cause_again (JoinRefused c) h = join_again c h
cause_again (ValueRefused c) h = value_again c h
cause_again (PublishRefused c) h = publish_again c h
cause_again (ResponseRefused c) h = response_again c h
cause_again (CommitRefused c) h = commit_again c h

-- ---- endings

pub ending_again : (act : Act) (e : Ending) → EndsAs act e → ending_at (kind_of act) (ending_text e) ≡ Ok e
ending_again act ending.Taken h = refl
ending_again act (ending.Refused cause) h =
    let same : cause_at (kind_of act) (cause_text cause) ≡ Ok cause = subst (λ (k : Kind). cause_at k (cause_text cause) ≡ Ok cause) h.1 (cause_again cause h.0) in
    rw same refl
ending_again act ending.Stopped h = refl
ending_again act ending.Disk h = refl
ending_again act ending.Crashed h = refl

pub ends_fit : (act : Act) (e : Ending) → EndsAs act e → FitsEnding e
ends_fit act ending.Taken h = tt
ends_fit act (ending.Refused cause) h = h.0
ends_fit act ending.Stopped h = tt
ends_fit act ending.Disk h = tt
ends_fit act ending.Crashed h = tt
