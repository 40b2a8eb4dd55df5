-- How a run begins after one that ended or was killed.
use Rattle.std.proofs.Common.{◌≡◌, Bool, true, cond, List, sym, ◌∙◌, ap, subst}
use Rattle.voting_config.specs.Ids.{Id}
use Rattle.voting_config.proofs.Sets.{same_self}
use Rattle.cluster_state.specs.declared.state.Kept.{Kept}
use Rattle.world_model.specs.NodeState.{durable_of}
use Rattle.world_model.specs.Histories.{node_history}
use Rattle.policy_model.specs.declared.settings.Settings.{Settings}
use Rattle.policy_model.specs.declared.events.Event.{Event}
use Rattle.policy_model.specs.Events.{Item}
use Rattle.policy_model.specs.Entries.{Entry, Life, Lived, Did}
use Rattle.policy_model.specs.Follows.{has_fault}
use Rattle.policy_model.specs.Struck.{settled_items}
use Rattle.system_laws.specs.Systems.{System, Lives, Dies, Run, Down, Runs, lives_on, run_of, history_of, MayStart, MayLive, IsSystem}
use Rattle.system_laws.proofs.Restarting.{last_run_is_kept}
use Rattle.node_loop.specs.Killed.{IsEnd, IsSettledAs}
use Rattle.node_loop.specs.NextRuns.{IsNextOf, GoesOnSettled, LawNextAfterEnd, LawNextAfterKill}
use Rattle.node_loop.proofs.Killing.{crash_is_kill, end_is_kept}

-- a run of the node may begin with what it kept
may-start : (initial : List Id) (h : System) (n : Id) (next : Settings) (found : Kept) → IsNextOf initial n next → found ≡ durable_of (node_history (history_of h) n) → MayStart initial h next found
may-start initial h n next found is kept = record { kept = kept ∙ ap (λ (x : Id). durable_of (node_history (history_of h) x)) (sym is.me); named = is.named }

-- the run of the node that lived on
own-run : (h : System) (n : Id) (entry : Entry) (s : Settings) (life : Life) → run_of h n ≡ Runs s life → run_of (Lives h n entry) n ≡ Runs s (Lived life entry)
own-run h n entry s life e = ap (λ (b : Bool). cond b (lives_on (run_of h n) entry) (run_of h n)) (same_self n) ∙ ap (λ (r : Run). lives_on r entry) e

abbrev life_in : Life → Run → Life
life_in life Down = life
life_in life (Runs s other) = other

abbrev settings_in : Settings → Run → Settings
settings_in s Down = s
settings_in s (Runs t life) = t

-- with the last event settled it is a system too, and the next run begins in it
settled-on : (initial : List Id) (before : System) (n : Id) (event : Event) (items : List Item) (next : Settings) (found : Kept) → IsSystem initial (Lives before n (Did event items))
    → (s : Settings) (life : Life) → run_of before n ≡ Runs s life → IsSettledAs s life event items found → IsNextOf initial n next → GoesOnSettled initial before n event items next found
settled-on initial before n event items next found system s life runs settled is =
    let now : List Item = settled_items settled.kept items in
    let after : IsSystem initial (Lives before n (Did event (settled_items settled.kept items))) = record {
      runs = (system.runs.0, record { settings = s; life = life; runs = runs; follows = settled.follows });
      sent = system.sent;
    } in
    record {
      kept = settled.kept;
      goes_on = record {
        system = after;
        starts = may-start initial (Lives before n (Did event (settled_items settled.kept items))) n next found is
            (settled.record_is ∙ sym (last_run_is_kept initial (Lives before n (Did event (settled_items settled.kept items))) after n s (Lived life (Did event now)) (own-run before n (Did event now) s life runs)));
      };
    }

pub next_after_end : LawNextAfterEnd
next_after_end initial h system n s life runs follows found last next is =
    record {
      unstruck = λ u. record { system = system; starts = may-start initial h n next found is (ends.unstruck u) };
      struck = λ before event items same fault. struck before event items same fault;
    }
  where
    ends : IsEnd h n s life found
    ends = end_is_kept initial h system n s life runs follows found last

    struck : (before : System) (event : Event) (items : List Item) → h ≡ Lives before n (Did event items) → has_fault items ≡ true → GoesOnSettled initial before n event items next found
    struck before event items same_system fault =
        let whole : IsSystem initial (Lives before n (Did event items)) = subst (IsSystem initial) same_system system in
        let may : MayLive before n (Did event items) = whole.runs.1 in
        let run : Runs may.settings (Lived may.life (Did event items)) ≡ Runs s life =
        sym (own-run before n (Did event items) may.settings may.life may.runs) ∙ ap (λ (x : System). run_of x n) (sym same_system) ∙ runs in
        let lives : Lived may.life (Did event items) ≡ life = ap (λ (r : Run). life_in life r) run in
        let same_settings : may.settings ≡ s = ap (λ (r : Run). settings_in s r) run in
        settled-on initial before n event items next found whole s may.life (subst (λ (t : Settings). run_of before n ≡ Runs t may.life) same_settings may.runs)
        (ends.struck may.life event items (sym lives) fault) is

pub next_after_kill : LawNextAfterKill
next_after_kill initial h system n s life runs event items follows came found left next is =
    let k = crash_is_kill initial h system n s life runs event items follows found left in
    record {
      done = k.items;
      goes_on = record {
        system = record { runs = (system.runs, k.may); sent = (system.sent, came) };
        starts = may-start initial (Dies h n event k.items) n next found is k.kept;
      };
    }
