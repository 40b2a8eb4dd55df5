-- Two of three nodes that have booted: the premises of the law hold of them, and what it says is what their lines do.
use Rattle.std.proofs.Common.{◌≡◌, ◌≢◌, ℕ, Bool, true, false, cond, None, Ok, List, [], ◌∷◌, length, codes, refl}
use Rattle.voting_config.specs.Ids.{Id}
use Rattle.cluster_state.specs.Initial.{empty_value}
use Rattle.cluster_state.specs.JoinCheck.{join_checked}
use Rattle.cluster_state.specs.declared.state.ClusterValue.{ClusterValue}
use Rattle.world_model.specs.declared.acts.Act.TheVariants.{Bootstrap}
use Rattle.world_model.specs.declared.acts.ActReply.TheVariants.{Taken}
use Rattle.world_model.specs.declared.acts.Outcome.TheVariants.{Answered}
use Rattle.world_model.specs.Acts.{NodeHistory, NoActs, Then}
use Rattle.world_model.specs.NodeState.{halted_of}
use Rattle.world_model.specs.Histories.{History, NoEntries, Next, node_history, sent, is_down, MayHappen, IsLegal}
use Rattle.world_model.specs.Safety.{winners}
use Rattle.schedule_text.specs.declared.schedule.Line.TheVariants as line
use Rattle.rescue_plan.specs.declared.answer.Plan.{Plan}
use Rattle.rescue_plan.specs.Planning.{planned}
use Rattle.rescue_plan.specs.Lines.{lines_done}
use Rattle.rescue_plan.specs.Rescue.{ups, AreUp, IsRescued}
use Rattle.rescue_plan.proofs.Views.{rescues}

abbrev a : Id
a = 97 ∷ []

abbrev b : Id
b = 98 ∷ []

abbrev voters : List Id
voters = a ∷ b ∷ (99 ∷ []) ∷ []

abbrev boots : NodeHistory → NodeHistory
boots g = Then g (Bootstrap voters) (Answered (Taken None false))

abbrev booted : History → Id → History
booted h n = Next h n (Bootstrap voters) (Answered (Taken None false))

abbrev both : History
both = booted (booted NoEntries a) b

named : voters ≢ []
named e = absurd (cc)

may_boot : (h : History) (n : Id) → node_history h n ≡ NoActs → MayHappen voters h n (Bootstrap voters) (Answered (Taken None false))
may_boot h n none = record {
  follows = record { follows = rw none refl; up = λ down. let up : is_down NoActs ≡ true = rw none at down in absurd (cc) };
  continues = tt;
  sourced = (refl, named);
}

legal : IsLegal voters both
legal = ((tt, may_boot NoEntries a refl), may_boot (booted NoEntries a) b refl)

-- a node that has booted or done nothing
abbrev done_by : Bool → Bool → NodeHistory
done_by first second = cond second (boots (cond first (boots NoActs) NoActs)) (cond first (boots NoActs) NoActs)

is_up : (first second : Bool) → is_down (done_by first second) ≡ false
is_up true true = refl
is_up true false = refl
is_up false true = refl
is_up false false = refl

runs : (first second : Bool) → halted_of (done_by first second) ≡ false
runs true true = refl
runs true false = refl
runs false true = refl
runs false false = refl

are_up : AreUp both (a ∷ b ∷ [])
are_up = record { ascending = refl; up = λ u h. is_up _ _; runs = λ u h. runs _ _ }

abbrev the_plan : Plan
the_plan = record {
  master = a;
  term = 1;
  version = 1;
  lines =
      line.StartJoin a a 1 ∷ line.StartJoin b a 1 ∷ line.Deliver a 1 ∷ line.Deliver a 2 ∷ line.Value a 1 (codes "rescue") voters
      ∷ line.Deliver a 3 ∷ line.Deliver b 3 ∷ line.Deliver a 4 ∷ line.Deliver a 5 ∷ [];
}

is_planned : planned (ups both (a ∷ b ∷ [])) (length (sent both)) ≡ Ok the_plan
is_planned = refl

pub are_rescued : (value_of : List ℕ → ClusterValue) → IsRescued voters both (lines_done value_of both the_plan.lines) (a ∷ b ∷ []) the_plan
are_rescued value_of = rescues voters both legal (a ∷ b ∷ []) are_up the_plan is_planned value_of

-- a wins the term of the plan, and nobody any other
pub wins_alone : winners (lines_done (λ text. empty_value) both the_plan.lines) ≡ record { node = a; term = 1 } ∷ []
unfolding join_checked
wins_alone = refl
