-- A voting-only node counts no join, and so wins no election.
use Rattle.std.proofs.Common.{◌≡◌, ◌≢◌, Bool, true, false, cond, inl, inr, Option, None, List, [], ◌∷◌, ◌++◌, refl, sym, ◌∙◌, ap, subst, arith}
use Rattle.std.specs.Prelude.{Contains}
use Rattle.std.specs.List.{AllByRecursion}
use Rattle.std.proofs.lemmas.Bool.{both_ways}
use Rattle.std.proofs.lemmas.List.Elements.{Contains-push_cases}
use Rattle.voting_config.specs.Ids.{Id, same}
use Rattle.voting_config.proofs.Sets.{same_is, same_self}
use Rattle.world_model.specs.declared.acts.Act.{Act}
use Rattle.world_model.specs.declared.acts.Act.TheVariants.{Bootstrap, StartJoin, TakeJoin, Value, Publish, Response, Commit, Open}
use Rattle.world_model.specs.declared.acts.ActReply.TheVariants.{Taken, Refused, Stopped}
use Rattle.world_model.specs.declared.acts.Message.{Message}
use Rattle.world_model.specs.declared.acts.Outcome.{Outcome}
use Rattle.world_model.specs.declared.acts.Outcome.TheVariants.{Answered, Disk, Crashed}
use Rattle.world_model.specs.Acts.{NodeHistory, NoActs, Then, wins}
use Rattle.world_model.specs.Replies.{IsOutcome}
use Rattle.world_model.specs.NodeState.{term_of}
use Rattle.world_model.specs.Histories.{History, NoEntries, Next, node_history, IsLocal, IsLegal}
use Rattle.world_model.specs.Safety.{Win, winners}
use Rattle.world_model.proofs.Guards.{boot_guard, start_guard, value_guard, publish_guard, response_guard, commit_guard}
use Rattle.policy_model.specs.declared.settings.Settings.{Settings}
use Rattle.policy_model.specs.Doing.{is_voting_only}
use Rattle.policy_model.specs.Events.{Item, Opens, Begins, Acts, ChangesMode, Drops, Sends, Replies, Notes, Log, And, added, acts_of}
use Rattle.policy_model.specs.Entries.{Entry, Did, Gone, Bad, NoMemory, Unread, Life, NotBegun, Opened, Lived, log_of}
use Rattle.policy_model.specs.Follows.{Follows, items_of}
use Rattle.policy_model.proofs.Locals.{life_local}
use Rattle.system_laws.specs.Messages.{comes_with}
use Rattle.system_laws.specs.Systems.{System, Nothing, Starts, Lives, Dies, Run, Down, Runs, lives_on, run_of, history_of, then_acts, AreRuns}
use Rattle.system_laws.specs.VotingOnly.{CountsNoJoin, WinsNothing, LawVotingOnlyNeverLeads, IsVotingOnlyIn, LawVotingOnlyNeverWins}
use Rattle.system_laws.proofs.Meant.{IsCalledFor}
use Rattle.system_laws.proofs.Done.{IsCalledItem, event-meant, event-called, done-called}
use Rattle.system_laws.proofs.Stepping.{others-stay}
use Rattle.system_laws.proofs.Assembly.{lives_assemble}

-- ---- one node

-- an act that is called for is no join
act-more : (s : Settings) (came : Option Message) (g : NodeHistory) (act : Act) (o : Outcome) → is_voting_only s s.me ≡ true → IsCalledFor s came act → CountsNoJoin g → CountsNoJoin (Then g act o)
act-more s came g (TakeJoin join) o listed called none = both_ways _ called.1 listed
act-more s came g (Bootstrap config) o listed called none = none
act-more s came g (StartJoin candidate term) o listed called none = none
act-more s came g (Value version config value) o listed called none = none
act-more s came g (Publish request) o listed called none = none
act-more s came g (Response response) o listed called none = none
act-more s came g (Commit commit) o listed called none = none
act-more s came g (Open found) o listed called none = none

item-more : (s : Settings) (came : Option Message) (l : Log) (i : Item) → is_voting_only s s.me ≡ true → IsCalledItem s came i → CountsNoJoin (acts_of l) → CountsNoJoin (acts_of (And l i))
item-more s came l (Acts act o) listed called none = act-more s came (acts_of l) act o listed called none
item-more s came l (Opens found) listed called none = none
item-more s came l (Begins event) listed called none = none
item-more s came l (ChangesMode mode term) listed called none = none
item-more s came l (Drops member cause) listed called none = none
item-more s came l (Sends frame) listed called none = none
item-more s came l (Replies answer) listed called none = none
item-more s came l (Notes note) listed called none = none

items-more : (s : Settings) (came : Option Message) (l : Log) (is : List Item) → is_voting_only s s.me ≡ true → AllByRecursion (IsCalledItem s came) is → CountsNoJoin (acts_of l) → CountsNoJoin (acts_of (added l is))
items-more s came l [] listed called none = none
items-more s came l (i ∷ is) listed called none = items-more s came (And l i) is listed called.1 (item-more s came l i listed called.0 none)

life-counts : (s : Settings) (life : Life) → Follows s life → is_voting_only s s.me ≡ true → CountsNoJoin (acts_of (log_of life))
life-counts s NotBegun follows listed = tt
life-counts s (Opened life found) follows listed = life-counts s life follows.0 listed
life-counts s (Lived life (Did e items)) follows listed =
    items-more s (comes_with e) (And (log_of life) (Begins e)) items listed (event-called s life e items follows) (life-counts s life follows.0 listed)
life-counts s (Lived life (Gone conn)) follows listed = life-counts s life follows.0 listed
life-counts s (Lived life (Bad conn fault)) follows listed = life-counts s life follows.0 listed
life-counts s (Lived life NoMemory) follows listed = life-counts s life follows.0 listed
life-counts s (Lived life (Unread conn)) follows listed = life-counts s life follows.0 listed

-- ---- only a join wins

no-win : (me : Id) (g k : NodeHistory) (act : Act) (o : Outcome) → IsOutcome me g act o → CountsNoJoin (Then k act o) → wins o ≡ false
no-win me g k (TakeJoin join) o follows none = absurd none
no-win me g k (Bootstrap config) (Answered (Taken sends w)) follows none = (boot_guard me g config sends w follows).flag
no-win me g k (StartJoin candidate term) (Answered (Taken sends w)) follows none = (start_guard me g candidate term sends w follows).flag
no-win me g k (Value version config value) (Answered (Taken sends w)) follows none = (value_guard me g version config value sends w follows).flag
no-win me g k (Publish request) (Answered (Taken sends w)) follows none = (publish_guard me g request sends w follows).flag
no-win me g k (Response response) (Answered (Taken sends w)) follows none = (response_guard me g response sends w follows).flag
no-win me g k (Commit commit) (Answered (Taken sends w)) follows none = (commit_guard me g commit sends w follows).flag
no-win me g k (Open found) (Answered (Taken sends w)) follows none = cc
no-win me g k act (Answered (Refused cause)) follows none = refl
no-win me g k act (Answered Stopped) follows none = refl
no-win me g k act (Disk kept) follows none = refl
no-win me g k act (Crashed kept) follows none = refl

counts-before : (g : NodeHistory) (act : Act) (o : Outcome) → CountsNoJoin (Then g act o) → CountsNoJoin g
counts-before g (TakeJoin join) o none = absurd none
counts-before g (Bootstrap config) o none = none
counts-before g (StartJoin candidate term) o none = none
counts-before g (Value version config value) o none = none
counts-before g (Publish request) o none = none
counts-before g (Response response) o none = none
counts-before g (Commit commit) o none = none
counts-before g (Open found) o none = none

local-wins : (me : Id) (g : NodeHistory) → IsLocal me g → CountsNoJoin g → WinsNothing g
local-wins me NoActs local none = tt
local-wins me (Then g act o) local none = (local-wins me g local.0 (counts-before g act o none), no-win me g g act o local.1.follows none)

pub voting_only_never_leads : LawVotingOnlyNeverLeads
voting_only_never_leads s life follows listed =
    let none = life-counts s life follows listed in
    record { joins = none; wins = local-wins s.me (acts_of (log_of life)) (life_local s life follows) none }

-- ---- a legal history

-- a node that counts no join is no winner
pub no_winner : (initial : List Id) (h : History) (n : Id) → IsLegal initial h → CountsNoJoin (node_history h n) → (w : Win) → Contains (winners h) w → w.node ≢ n
no_winner initial NoEntries n legal none w is_in same_node = absurd (omega (arith, is_in.1))
no_winner initial (Next h node act o) n legal none w is_in same_node =
    from (λ before k. no_winner initial h n legal.0 before w k same_node) (same node n) refl none
  where
    win : Win
    win = record { node = node; term = term_of (node_history h node) }

    -- where another node won now
    of_other : (Contains (winners h) w → ⊥) → same node n ≡ false → (b : Bool) → Contains (cond b (winners h ++ win ∷ []) (winners h)) w → ⊥
    of_other earlier e false k = earlier k
    of_other earlier e true k =
        elim (Contains-push_cases (winners h) win w k) [
          | inl old ↦ earlier old
          | inr now ↦ both_ways _ e (subst (λ (x : Id). same x n ≡ true) (sym (ap (λ (x : Win). x.node) now ∙ same_node)) (same_self n))
        ]

    from : (CountsNoJoin (node_history h n) → Contains (winners h) w → ⊥) → (b : Bool) → same node n ≡ b → CountsNoJoin (cond b (Then (node_history h n) act o) (node_history h n)) → ⊥
    from earlier true e here =
        let lost : wins o ≡ false = no-win node (node_history h node) (node_history h n) act o legal.1.follows.follows here in
        earlier (counts-before (node_history h n) act o here) (subst (λ (b : Bool). Contains (cond b (winners h ++ win ∷ []) (winners h)) w) lost is_in)
    from earlier false e before = of_other (earlier before) e (wins o) is_in

-- ---- a system

-- the node itself is in the list of its run
abbrev IsListedRun : Id → Run → Type 0
IsListedRun n Down = Unit {0}
IsListedRun n (Runs s life) = (s.me ≡ n) × (is_voting_only s n ≡ true)

listed-on : (n : Id) (r : Run) (entry : Entry) → IsListedRun n r → IsListedRun n (lives_on r entry)
listed-on n Down entry listed = tt
listed-on n (Runs s life) entry listed = listed

listed-either : (n : Id) (b : Bool) (own other : Run) → IsListedRun n own → IsListedRun n other → IsListedRun n (cond b own other)
listed-either n true own other mine theirs = mine
listed-either n false own other mine theirs = theirs

-- a run that begins, of this node or of another
listed-start : (s : Settings) (n : Id) (b : Bool) (other : Run) → same s.me n ≡ b → (s.me ≡ n → is_voting_only s n ≡ true) → (run : Life) → IsListedRun n other → IsListedRun n (cond b (Runs s run) other)
listed-start s n true other e only run theirs = let me : s.me ≡ n = same_is s.me n e in (me, only me)
listed-start s n false other e only run theirs = theirs

listed-run : (h : System) (n : Id) → IsVotingOnlyIn h n → IsListedRun n (run_of h n)
listed-run Nothing n only = tt
listed-run (Starts h s found) n only = listed-start s n (same s.me n) (run_of h n) refl only.1 (Opened NotBegun found) (listed-run h n only.0)
listed-run (Lives h m entry) n only = let before = listed-run h n only in listed-either n (same m n) (lives_on (run_of h n) entry) (run_of h n) (listed-on n (run_of h n) entry before) before
listed-run (Dies h m event items) n only = listed-either n (same m n) Down (run_of h n) tt (listed-run h n only)

listed-own : (h : System) (m n : Id) (s : Settings) (life : Life) → IsVotingOnlyIn h n → m ≡ n → run_of h m ≡ Runs s life → is_voting_only s s.me ≡ true
listed-own h m n s life only same_id runs =
    let own : IsListedRun n (Runs s life) = subst (IsListedRun n) (subst (λ (x : Id). run_of h x ≡ Runs s life) same_id runs) (listed-run h n only) in
    subst (λ (x : Id). is_voting_only s x ≡ true) (sym own.0) own.1

entry-more : (s : Settings) (came : Option Message) (g : NodeHistory) (act : Act) (o : Outcome) (b : Bool) → is_voting_only s s.me ≡ true → IsCalledFor s came act → CountsNoJoin g → CountsNoJoin (cond b (Then g act o) g)
entry-more s came g act o true listed called none = act-more s came g act o listed called none
entry-more s came g act o false listed called none = none

acts-more : (s : Settings) (came : Option Message) (h : History) (m n : Id) (is : List Item) → is_voting_only s s.me ≡ true → AllByRecursion (IsCalledItem s came) is → CountsNoJoin (node_history h n)
    → CountsNoJoin (node_history (then_acts h m is) n)
acts-more s came h m n [] listed called none = none
acts-more s came h m n (Acts act o ∷ is) listed called none = acts-more s came (Next h m act o) m n is listed called.1 (entry-more s came (node_history h n) act o (same m n) listed called.0 none)
acts-more s came h m n (Opens found ∷ is) listed called none = acts-more s came h m n is listed called.1 none
acts-more s came h m n (Begins event ∷ is) listed called none = acts-more s came h m n is listed called.1 none
acts-more s came h m n (ChangesMode mode term ∷ is) listed called none = acts-more s came h m n is listed called.1 none
acts-more s came h m n (Drops member cause ∷ is) listed called none = acts-more s came h m n is listed called.1 none
acts-more s came h m n (Sends frame ∷ is) listed called none = acts-more s came h m n is listed called.1 none
acts-more s came h m n (Replies answer ∷ is) listed called none = acts-more s came h m n is listed called.1 none
acts-more s came h m n (Notes note ∷ is) listed called none = acts-more s came h m n is listed called.1 none

-- what a run did at an event, of this node or of another
did-more : (h : System) (m n : Id) (s : Settings) (life : Life) (came : Option Message) (items : List Item) → IsVotingOnlyIn h n → run_of h m ≡ Runs s life → AllByRecursion (IsCalledItem s came) items
    → CountsNoJoin (node_history (history_of h) n) → CountsNoJoin (node_history (then_acts (history_of h) m items) n)
did-more h m n s life came items only runs called none = from (same m n) refl
  where
    from : (b : Bool) → same m n ≡ b → CountsNoJoin (node_history (then_acts (history_of h) m items) n)
    from true e = acts-more s came (history_of h) m n items (listed-own h m n s life only (same_is m n e) runs) called none
    from false e = subst CountsNoJoin (sym (others-stay (history_of h) m n items e)) none

open-more : (g : NodeHistory) (act : Act) (o : Outcome) (b : Bool) → CountsNoJoin (Then g act o) → CountsNoJoin (cond b (Then g act o) g)
open-more g act o true none = none
open-more g act o false none = counts-before g act o none

counts-none : (initial : List Id) (h : System) (n : Id) → AreRuns initial h → IsVotingOnlyIn h n → CountsNoJoin (node_history (history_of h) n)
counts-none initial Nothing n runs only = tt
counts-none initial (Starts h s found) n runs only =
    open-more (node_history (history_of h) n) (Open found) (Answered (Taken None false)) (same s.me n) (counts-none initial h n runs.0 only.0)
counts-none initial (Lives h m (Did e items)) n runs only =
    let may = runs.1 in
    did-more h m n may.settings may.life (comes_with e) items only may.runs (event-called may.settings may.life e items may.follows) (counts-none initial h n runs.0 only)
counts-none initial (Lives h m (Gone conn)) n runs only = counts-none initial h n runs.0 only
counts-none initial (Lives h m (Bad conn fault)) n runs only = counts-none initial h n runs.0 only
counts-none initial (Lives h m NoMemory) n runs only = counts-none initial h n runs.0 only
counts-none initial (Lives h m (Unread conn)) n runs only = counts-none initial h n runs.0 only
counts-none initial (Dies h m e items) n runs only =
    let may = runs.1 in
    did-more h m n may.settings may.life (comes_with e) items only may.runs
    (done-called may.settings (comes_with e) [] _ (items_of may.settings (log_of may.life) e) items (event-meant may.settings may.life e) may.did) (counts-none initial h n runs.0 only)

pub voting_only_never_wins : LawVotingOnlyNeverWins
voting_only_never_wins initial h system n only = no_winner initial (history_of h) n (lives_assemble initial h system) (counts-none initial h n system.runs only)
