-- Which texts have no space: ids, numbers and endings.
use Rattle.std.proofs.Common.{zero, suc, false, [], ◌∷◌, ◌/◌, ◌%◌, ◌≡◌, ℕ, Ok, ◌-◌, ◌^◌, ◌≤◌, true, not, List, ◌++◌, IsTrue, refl, codes, decimal, arith}
use Rattle.std.specs.Prelude.{nat_lt, ◌==◌, if◌then◌else◌}
use Rattle.std.specs.Fmt.{digits, digits_onto, digit_glyph}
use Rattle.std.specs.List.{list_all}
use Rattle.std.proofs.lemmas.Bool.{and_from}
use Rattle.schedule_text.specs.Words.{is_digit}
use Rattle.std.proofs.lemmas.Bool.Decides.{nat_tests}
use Rattle.voting_config.specs.Ids.{Id, is_id}
use Rattle.cluster_state.specs.declared.causes.InitialCause.{InitialCause}
use Rattle.cluster_state.specs.declared.causes.InitialCause.TheVariants as initial
use Rattle.cluster_state.specs.declared.causes.StartCause.{StartCause}
use Rattle.cluster_state.specs.declared.causes.StartCause.TheVariants as start
use Rattle.cluster_state.specs.declared.causes.JoinCause.{JoinCause}
use Rattle.cluster_state.specs.declared.causes.JoinCause.TheVariants as join
use Rattle.cluster_state.specs.declared.causes.ValueCause.{ValueCause}
use Rattle.cluster_state.specs.declared.causes.ValueCause.TheVariants as value
use Rattle.cluster_state.specs.declared.causes.PublishCause.{PublishCause}
use Rattle.cluster_state.specs.declared.causes.PublishCause.TheVariants as publish
use Rattle.cluster_state.specs.declared.causes.ResponseCause.{ResponseCause}
use Rattle.cluster_state.specs.declared.causes.ResponseCause.TheVariants as response
use Rattle.cluster_state.specs.declared.causes.CommitCause.{CommitCause}
use Rattle.cluster_state.specs.declared.causes.CommitCause.TheVariants as commit
use Rattle.world_model.specs.declared.acts.Cause.{Cause}
use Rattle.world_model.specs.declared.acts.Cause.TheVariants.{Initial as InitialRefused, Start as StartRefused, Join as JoinRefused, Value as ValueRefused, Publish as PublishRefused, Response as ResponseRefused, Commit as CommitRefused}
use Rattle.schedule_text.specs.Lines.{any_number}
use Rattle.schedule_text.proofs.WordLaws.{is_plain, lacks, all_weaker, all_append, id_plain, number_law}
use Rattle.trace_text.specs.declared.ending.Ending.{Ending}
use Rattle.trace_text.specs.declared.ending.Ending.TheVariants as ending
use Rattle.trace_text.specs.Trace.{one, two, named, initial_text, start_text, join_text, value_text, publish_text, response_text, commit_text, cause_text, ending_text}
use Rattle.line_laws.specs.Fits.{IsSmall, AreSmall, FitsStart, FitsJoin, FitsValue, FitsPublish, FitsResponse, FitsCommit, FitsCause, FitsEnding}

pub plain_lacks : (c : ℕ) → c ≤ 32 → (w : List ℕ) → is_plain w ≡ true → lacks c w ≡ true
plain_lacks c h w k = all_weaker (nat_lt 32) (λ b. not (b == c)) (λ b m. grind (arith, nat_tests)) w k

pub spaceless : (w : List ℕ) → is_plain w ≡ true → lacks 32 w ≡ true
spaceless w h = plain_lacks 32 (omega arith) w h

pub number_again : (x : ℕ) → IsSmall x → any_number.at (decimal x) ≡ Ok x
number_again x h = (number_law 0 (2 ^ 64 - 1) (omega arith)).again x (omega arith, omega (arith, h))

pub number_plain : (x : ℕ) → IsSmall x → is_plain (decimal x) ≡ true
number_plain x h = (number_law 0 (2 ^ 64 - 1) (omega arith)).plain x (omega arith, omega (arith, h))

-- ---- the digits of any number

digit_is : (n : ℕ) → is_digit (digit_glyph false (n % 10)) ≡ true
digit_is n = grind (arith, nat_tests)

onto_digits : (k n : ℕ) (acc : List ℕ) → list_all is_digit acc ≡ true → list_all is_digit (digits_onto k 10 false n acc) ≡ true
onto_digits zero n acc h = h
onto_digits (suc k) n acc h =
    let d = digit_glyph false (n % 10) in
    let more : list_all is_digit (d ∷ acc) ≡ true = and_from (is_digit d) (list_all is_digit acc) (digit_is n) h in
    elim (n / 10 == 0) as (λ b. list_all is_digit (if b then d ∷ acc else digits_onto k 10 false (n / 10) (d ∷ acc)) ≡ true) [ true ↦ more | false ↦ onto_digits k (n / 10) (d ∷ acc) more ]

pub number_digits : (n : ℕ) → list_all is_digit (decimal n) ≡ true
unfolding digits
number_digits n = onto_digits 64 n [] refl

one_plain : (name : List ℕ) (x : ℕ) → is_plain name ≡ true → IsSmall x → is_plain (one name x) ≡ true
one_plain name x h k =
    all_append (nat_lt 32) (name ++ codes "(" ++ decimal x) (codes ")")
    (all_append (nat_lt 32) (name ++ codes "(") (decimal x) (all_append (nat_lt 32) name (codes "(") h refl) (number_plain x k)) refl

two_plain : (name : List ℕ) (x y : ℕ) → is_plain name ≡ true → AreSmall x y → is_plain (two name x y) ≡ true
two_plain name x y h k =
    all_append (nat_lt 32) (name ++ codes "(" ++ decimal x ++ codes "," ++ decimal y) (codes ")")
    (all_append (nat_lt 32) (name ++ codes "(" ++ decimal x ++ codes ",") (decimal y)
    (all_append (nat_lt 32) (name ++ codes "(" ++ decimal x) (codes ",")
    (all_append (nat_lt 32) (name ++ codes "(") (decimal x) (all_append (nat_lt 32) name (codes "(") h refl) (number_plain x k.0)) refl) (number_plain y k.1)) refl

named_plain : (name : List ℕ) (n : Id) → is_plain name ≡ true → IsTrue (is_id n) → is_plain (named name n) ≡ true
named_plain name n h k =
    all_append (nat_lt 32) (name ++ codes "(" ++ n) (codes ")")
    (all_append (nat_lt 32) (name ++ codes "(") n (all_append (nat_lt 32) name (codes "(") h refl) (id_plain n k)) refl

initial_plain : (c : InitialCause) → is_plain (initial_text c) ≡ true
initial_plain initial.AlreadySet = refl
initial_plain initial.EmptyConfig = refl

start_plain : (c : StartCause) → FitsStart c → is_plain (start_text c) ≡ true
start_plain (start.TermNotGreater x y) h = two_plain (codes "TermNotGreater") x y refl h
start_plain (start.TermTooLarge x) h = one_plain (codes "TermTooLarge") x refl h

join_plain : (c : JoinCause) → FitsJoin c → is_plain (join_text c) ≡ true
join_plain (join.NotForMe n) h = named_plain (codes "NotForMe") n refl h
join_plain (join.TermMismatch x y) h = two_plain (codes "TermMismatch") x y refl h
join_plain join.NotStarted h = refl
join_plain (join.FresherTerm x y) h = two_plain (codes "FresherTerm") x y refl h
join_plain (join.FresherVersion x y) h = two_plain (codes "FresherVersion") x y refl h
join_plain join.NoConfig h = refl

value_plain : (c : ValueCause) → FitsValue c → is_plain (value_text c) ≡ true
value_plain value.NotWon h = refl
value_plain (value.NotAccepted x y) h = two_plain (codes "NotAccepted") x y refl h
value_plain (value.VersionNotGreater x y) h = two_plain (codes "VersionNotGreater") x y refl h
value_plain (value.VersionTooLarge x) h = one_plain (codes "VersionTooLarge") x refl h
value_plain value.Reconfiguring h = refl
value_plain value.NoJoinQuorum h = refl

publish_plain : (c : PublishCause) → FitsPublish c → is_plain (publish_text c) ≡ true
publish_plain (publish.TermMismatch x y) h = two_plain (codes "TermMismatch") x y refl h
publish_plain (publish.VersionNotGreater x y) h = two_plain (codes "VersionNotGreater") x y refl h

response_plain : (c : ResponseCause) → FitsResponse c → is_plain (response_text c) ≡ true
response_plain (response.NotForMe n) h = named_plain (codes "NotForMe") n refl h
response_plain response.NotWon h = refl
response_plain (response.TermMismatch x y) h = two_plain (codes "TermMismatch") x y refl h
response_plain (response.VersionMismatch x y) h = two_plain (codes "VersionMismatch") x y refl h

commit_plain : (c : CommitCause) → FitsCommit c → is_plain (commit_text c) ≡ true
commit_plain (commit.TermMismatch x y) h = two_plain (codes "TermMismatch") x y refl h
commit_plain (commit.AcceptedTermMismatch x y) h = two_plain (codes "AcceptedTermMismatch") x y refl h
commit_plain (commit.VersionMismatch x y) h = two_plain (codes "VersionMismatch") x y refl h
commit_plain (commit.Publishing x y) h = two_plain (codes "Publishing") x y refl h

cause_plain : (c : Cause) → FitsCause c → is_plain (cause_text c) ≡ true
cause_plain (InitialRefused c) h = initial_plain c
cause_plain (StartRefused c) h = start_plain c h
cause_plain (JoinRefused c) h = join_plain c h
cause_plain (ValueRefused c) h = value_plain c h
cause_plain (PublishRefused c) h = publish_plain c h
cause_plain (ResponseRefused c) h = response_plain c h
cause_plain (CommitRefused c) h = commit_plain c h

pub ending_plain : (e : Ending) → FitsEnding e → is_plain (ending_text e) ≡ true
ending_plain ending.Taken h = refl
ending_plain (ending.Refused cause) h = all_append (nat_lt 32) (codes "refused:") (cause_text cause) refl (cause_plain cause h)
ending_plain ending.Stopped h = refl
ending_plain ending.Disk h = refl
ending_plain ending.Crashed h = refl
