-- What becomes of the queue by an event, and in a life.
use Rattle.std.proofs.Common.{◌≡◌, true, false, not, ◌⊎◌, inl, inr, List, [], ◌∷◌, ◌++◌, refl, sym, ap, ◌∙◌, cond, subst, append_assoc, append-nil}
use Rattle.std.specs.List.{list_all}
use Rattle.std.proofs.lemmas.Bool.{and_parts, not-true}
use Rattle.world_model.specs.declared.acts.Act.TheVariants.{Bootstrap, StartJoin, TakeJoin, Value, Publish, Response, Commit, Open}
use Rattle.master_tasks.specs.declared.waiting.Waiting.{Waiting}
use Rattle.master_tasks.specs.declared.waiting.Outgoing.{Outgoing}
use Rattle.master_tasks.specs.Queue.{arriving}
use Rattle.policy_model.specs.declared.settings.Settings.{Settings}
use Rattle.policy_model.specs.Events.{Mode, Candidate, Leader, Follower, Event, Start, Tick, FrameCame, LineCame, PeerGone, Begins, Note, Met, Heard, PeersAsked, ElectionOff, ElectionSet, RoundBegun, RoundAnswered, RoundEnded, Joined, FollowersChecked, FollowerAnswered, LeaderChecked, LeaderAnswered, Queued, ExclusionsTimedOut, CommitAcked, AppliedAnswered, StateMade, HandedOver, PeerLost, LeaderLost, Item, Opens, Acts, ChangesMode, Drops, Sends, Replies, Notes, Log, And, added}
use Rattle.policy_model.specs.Entries.{Did, Life, NotBegun, Opened, Lived, log_of}
use Rattle.policy_model.specs.LookBacks.{mode_of, moment_of, tasks_of}
use Rattle.policy_model.specs.Views.{View, view_of}
use Rattle.policy_model.specs.Moves.{moved, is_own, view_of-And}
use Rattle.policy_model.specs.Doing.{reply_all, is_leader}
use Rattle.policy_model.specs.Follows.{Follows, IsNext, IsStruck, has_fault, is_struck, items_of}
use Rattle.policy_model.specs.Queues.{queued_in, replied_in, answers_line, NoneWaits, Waits, IsGone, AreAmong, IsQueue}
use Rattle.policy_model.proofs.Fits.{waiting-added}
use Rattle.policy_model.proofs.Locals.{struck_fault}
use Rattle.policy_model.proofs.Settled.{IsStep, queue-one, queue-step}
use Rattle.policy_model.proofs.Served.{is_aside, is_answering, IsServed, Ended, Aside, Queues, Answers, Fails, Follows as FollowsNext, IsIdle, served-next}

-- who waits
abbrev waiting_in : Settings → Log → List Waiting
waiting_in s l = (tasks_of s l).waiting

abbrev Holds : Settings → Log → Type 0
Holds s l = IsQueue (queued_in l) (waiting_in s l) (replied_in l)

nothing-queued : IsQueue [] [] []
nothing-queued = record { in_order = NoneWaits; each = λ conn id. refl }

-- an item aside changes nothing
record IsSame (s : Settings) (l : Log) (i : Item) : Type 0 where
  own : is_own i ≡ true
  queued : queued_in (And l i) ≡ queued_in l
  waiting : waiting_in s (And l i) ≡ waiting_in s l
  replied : replied_in (And l i) ≡ replied_in l

aside-same : (s : Settings) (l : Log) (i : Item) → is_aside i ≡ true → IsSame s l i
aside-same s l (Opens found) h = absurd (cc)
aside-same s l (Begins event) h = record { own = refl; queued = refl; waiting = refl; replied = refl }
aside-same s l (Acts act o) h = record { own = h; queued = refl; waiting = refl; replied = refl }
aside-same s l (ChangesMode Candidate term) h = absurd (cc)
aside-same s l (ChangesMode Leader term) h = record { own = refl; queued = refl; waiting = refl; replied = refl }
aside-same s l (ChangesMode (Follower leader) term) h = absurd (cc)
aside-same s l (Drops member cause) h = record { own = refl; queued = refl; waiting = refl; replied = refl }
aside-same s l (Sends frame) h = record { own = refl; queued = refl; waiting = refl; replied = refl }
aside-same s l (Replies out) h = record {
  own = refl;
  queued = refl;
  waiting = refl;
  replied = ap (λ b. cond b (replied_in l) (replied_in l ++ out ∷ [])) h;
}
aside-same s l (Notes (Queued conn request)) h = absurd (cc)
aside-same s l (Notes ExclusionsTimedOut) h = absurd (cc)
aside-same s l (Notes CommitAcked) h = absurd (cc)
aside-same s l (Notes AppliedAnswered) h = absurd (cc)
aside-same s l (Notes StateMade) h = absurd (cc)
aside-same s l (Notes (Joined ids)) h = record { own = refl; queued = refl; waiting = waiting-added (tasks_of s l) ids; replied = refl }
aside-same s l (Notes note) h = record { own = refl; queued = refl; waiting = refl; replied = refl }

still-holds : (s : Settings) (l : Log) (i : Item) → IsSame s l i → Holds s l → Holds s (And l i)
still-holds s l i e h = rw (e.queued, e.waiting, e.replied) h

-- answers, before the note after them
record AreBehind (s : Settings) (l : Log) (answers : List Outgoing) (rest : List Item) : Type 0 where
  after : Log
  items : added l (reply_all s answers ++ rest) ≡ added after rest
  view : view_of s after ≡ view_of s l
  queued : queued_in after ≡ queued_in l
  replied : list_all (λ (o : Outgoing). not (answers_line o.reply)) answers ≡ true → replied_in after ≡ replied_in l ++ answers

behind : (s : Settings) (l : Log) (answers : List Outgoing) (rest : List Item) → AreBehind s l answers rest
behind s l [] rest = record { after = l; items = refl; view = refl; queued = refl; replied = λ h. sym (append-nil (replied_in l)) }
behind s l (out ∷ answers) rest =
    let b : AreBehind s (And l (Replies out)) answers rest = behind s (And l (Replies out)) answers rest in
    record {
      after = b.after;
      items = b.items;
      view = b.view;
      queued = b.queued;
      replied = λ h.
          let parts = and_parts _ _ h in
          let one : replied_in (And l (Replies out)) ≡ replied_in l ++ out ∷ [] = ap (λ c. cond c (replied_in l) (replied_in l ++ out ∷ [])) (not-true (answers_line out.reply) parts.0) in
          b.replied parts.1 ∙ ap (λ rs. rs ++ answers) one ∙ append_assoc (replied_in l) (out ∷ []) answers;
    }

note-queued : (l : Log) (note : Note) → is_answering note ≡ true → queued_in (And l (Notes note)) ≡ queued_in l
note-queued l (Queued conn request) h = absurd (cc)
note-queued l note h = refl

among-nothing : (ws qs : List Waiting) → AreAmong ws qs → qs ≡ [] → ws ≡ []
among-nothing ws qs NoneWaits e = refl
among-nothing ws qs (Waits w p us vs d) e = absurd (cc)
among-nothing ws qs (IsGone w us vs d) e = absurd (cc)

-- who does not lead has no requests, after an item aside and after answers
aside-idle : (s : Settings) (v : View) (i : Item) → is_aside i ≡ true → IsIdle v → IsIdle (moved s v i)
aside-idle s v (Opens found) h idle = absurd (cc)
aside-idle s v (Begins Start) h idle = idle
aside-idle s v (Begins (Tick now word)) h idle = idle
aside-idle s v (Begins (FrameCame frame)) h idle = idle
aside-idle s v (Begins (LineCame conn line)) h idle = idle
aside-idle s v (Begins (PeerGone peer)) h idle = idle
aside-idle s v (Acts (Bootstrap config) o) h idle = idle
aside-idle s v (Acts (StartJoin candidate term) o) h idle = idle
aside-idle s v (Acts (TakeJoin join) o) h idle = idle
aside-idle s v (Acts (Value version config value) o) h idle = idle
aside-idle s v (Acts (Publish request) o) h idle = idle
aside-idle s v (Acts (Response response) o) h idle = idle
aside-idle s v (Acts (Commit commit) o) h idle = idle
aside-idle s v (Acts (Open found) o) h idle = absurd (cc)
aside-idle s v (ChangesMode Candidate term) h idle = absurd (cc)
aside-idle s v (ChangesMode Leader term) h idle = λ k. absurd (cc)
aside-idle s v (ChangesMode (Follower leader) term) h idle = absurd (cc)
aside-idle s v (Drops member cause) h idle = idle
aside-idle s v (Sends frame) h idle = idle
aside-idle s v (Replies out) h idle = idle
aside-idle s v (Notes ExclusionsTimedOut) h idle = absurd (cc)
aside-idle s v (Notes CommitAcked) h idle = absurd (cc)
aside-idle s v (Notes AppliedAnswered) h idle = absurd (cc)
aside-idle s v (Notes StateMade) h idle = absurd (cc)
aside-idle s v (Notes (Queued conn request)) h idle = absurd (cc)
aside-idle s v (Notes (Joined ids)) h idle = λ k. waiting-added v.tasks ids ∙ idle k
aside-idle s v (Notes note) h idle = idle

note-mode : (s : Settings) (v : View) (note : Note) → (moved s v (Notes note)).mode ≡ v.mode
note-mode s v (Met ids) = refl
note-mode s v (Heard peer master) = refl
note-mode s v PeersAsked = refl
note-mode s v ElectionOff = refl
note-mode s v (ElectionSet word) = refl
note-mode s v (RoundBegun word) = refl
note-mode s v (RoundAnswered source term last) = refl
note-mode s v RoundEnded = refl
note-mode s v (Joined ids) = refl
note-mode s v FollowersChecked = refl
note-mode s v (FollowerAnswered from good applied) = refl
note-mode s v LeaderChecked = refl
note-mode s v (LeaderAnswered good) = refl
note-mode s v (Queued conn request) = refl
note-mode s v ExclusionsTimedOut = refl
note-mode s v CommitAcked = refl
note-mode s v AppliedAnswered = refl
note-mode s v StateMade = refl
note-mode s v HandedOver = refl
note-mode s v (PeerLost id) = refl
note-mode s v LeaderLost = refl

-- the queue, and that only a leader has one
record Stands (s : Settings) (l : Log) (v : View) : Type 0 where
  seen : view_of s l ≡ v
  holds : Holds s l
  idle : IsIdle v

stands-aside : (s : Settings) (l : Log) (v : View) (i : Item) → is_aside i ≡ true → Stands s l v → Stands s (And l i) (moved s v i)
stands-aside s l v i aside h =
    let same : IsSame s l i = aside-same s l i aside in
    record {
      seen = view_of-And s l i same.own ∙ ap (λ (w : View). moved s w i) h.seen;
      holds = still-holds s l i same h.holds;
      idle = aside-idle s v i aside h.idle;
    }

-- some are answered, and a note or a mode line comes after the answers
stands-behind : (s : Settings) (l : Log) (v : View) (answers : List Outgoing) (i : Item) (rest : List Item) → is_own i ≡ true → ((g : Log) → queued_in (And g i) ≡ queued_in g) → ((g : Log) → replied_in (And g i) ≡ replied_in g) → (IsIdle v → IsStep v.tasks.waiting (moved s v i).tasks.waiting answers) → (IsIdle v → IsIdle (moved s v i)) → Stands s l v → (b : AreBehind s l answers (i ∷ rest)) → Stands s (And b.after i) (moved s v i)
stands-behind s l v answers i rest own queues replies taken idles h b =
    let then : view_of s (And b.after i) ≡ moved s v i = view_of-And s b.after i own ∙ ap (λ (w : View). moved s w i) (b.view ∙ h.seen) in
    let step : IsStep v.tasks.waiting (moved s v i).tasks.waiting answers = taken h.idle in
    let before : IsQueue (queued_in l) v.tasks.waiting (replied_in l) = subst (λ (w : View). IsQueue (queued_in l) w.tasks.waiting (replied_in l)) h.seen h.holds in
    let settled : IsQueue (queued_in l) (moved s v i).tasks.waiting (replied_in l ++ answers) = queue-step (queued_in l) v.tasks.waiting (moved s v i).tasks.waiting (replied_in l) answers before step in
    let queued : queued_in l ≡ queued_in (And b.after i) = sym (queues b.after ∙ b.queued) in
    let replied : replied_in l ++ answers ≡ replied_in (And b.after i) = sym (replies b.after ∙ b.replied step.late) in
    record {
      seen = then;
      holds =
          subst (λ (w : View). IsQueue (queued_in (And b.after i)) w.tasks.waiting (replied_in (And b.after i))) (sym then)
          (subst (λ (qs : List Waiting). IsQueue qs (moved s v i).tasks.waiting (replied_in (And b.after i))) queued
          (subst (λ (rs : List Outgoing). IsQueue (queued_in l) (moved s v i).tasks.waiting rs) replied settled));
      idle = idles h.idle;
    }

-- an event
record StandsSomehow (s : Settings) (l : Log) : Type 0 where
  view : View
  stands : Stands s l view

served-stands : (s : Settings) (l : Log) (v : View) (is : List Item) → IsServed s v is → Stands s l v → StandsSomehow s (added l is)
served-stands s l v is (Ended u) h = record { view = u; stands = h }
served-stands s l v is (Aside u i more aside a) h = served-stands s (And l i) (moved s u i) more a (stands-aside s l u i aside h)
served-stands s l v is (Queues u conn request more e a) h =
    served-stands s (And l (Notes (Queued conn request))) (moved s u (Notes (Queued conn request))) more a
    (record {
      seen = view_of-And s l (Notes (Queued conn request)) refl ∙ ap (λ (w : View). moved s w (Notes (Queued conn request))) h.seen;
      holds = queue-one (arriving conn (moment_of l) request) (queued_in l) (waiting_in s l) (replied_in l) h.holds;
      idle = λ k. absurd (cc);
    })
served-stands s l v is (Answers u answers note more k step a) h =
    let b : AreBehind s l answers (Notes note ∷ more) = behind s l answers (Notes note ∷ more) in
    subst (λ (g : Log). StandsSomehow s g) (sym b.items)
    (served-stands s (And b.after (Notes note)) (moved s u (Notes note)) more a
    (stands-behind s l u answers (Notes note) more refl (λ g. note-queued g note k) (λ g. refl) (λ idle. step)
    (λ idle q. among-nothing _ u.tasks.waiting step.queue.in_order (idle (ap (λ (m : Mode). is_leader m) (sym (note-mode s u note)) ∙ q))) h b))
served-stands s l v is (Fails u answers term more step a) h =
    let b : AreBehind s l answers (ChangesMode Candidate term ∷ more) = behind s l answers (ChangesMode Candidate term ∷ more) in
    subst (λ (g : Log). StandsSomehow s g) (sym b.items)
    (served-stands s (And b.after (ChangesMode Candidate term)) (moved s u (ChangesMode Candidate term)) more a
    (stands-behind s l u answers (ChangesMode Candidate term) more refl (λ g. refl) (λ g. refl) step (λ idle q. refl) h b))
served-stands s l v is (FollowsNext u leader term more e a) h =
    served-stands s (And l (ChangesMode (Follower leader) term)) (moved s u (ChangesMode (Follower leader) term)) more a
    (record {
      seen = view_of-And s l (ChangesMode (Follower leader) term) refl ∙ ap (λ (w : View). moved s w (ChangesMode (Follower leader) term)) h.seen;
      holds = h.holds;
      idle = λ k. h.idle e;
    })

-- a log, with the view that it gives
abbrev At : Settings → Log → Type 0
At s l = Stands s l (view_of s l)

somehow : (s : Settings) (l : Log) → StandsSomehow s l → At s l
somehow s l h = record { seen = refl; holds = h.stands.holds; idle = subst (λ (w : View). IsIdle w) (sym h.stands.seen) h.stands.idle }

event-stands : (s : Settings) (life : Life) (event : Event) (items : List Item) → IsNext s life event items → has_fault items ≡ false → At s (log_of life) → At s (log_of (Lived life (Did event items)))
event-stands s life event items next whole h = by_way next.does
  where
    begun : StandsSomehow s (And (log_of life) (Begins event))
    begun = record { view = moved s (view_of s (log_of life)) (Begins event); stands = stands-aside s (log_of life) (view_of s (log_of life)) (Begins event) refl h }

    by_way : (items ≡ items_of s (log_of life) event) ⊎ IsStruck (items_of s (log_of life) event) items → At s (added (And (log_of life) (Begins event)) items)
    by_way (inl e) =
        subst (λ (is : List Item). At s (added (And (log_of life) (Begins event)) is)) (sym e)
        (somehow s (added (And (log_of life) (Begins event)) (items_of s (log_of life) event))
        (served-stands s (And (log_of life) (Begins event)) (view_of s (And (log_of life) (Begins event))) (items_of s (log_of life) event)
        (served-next s (view_of s (And (log_of life) (Begins event))) event) (somehow s (And (log_of life) (Begins event)) begun)))
    by_way (inr d) = let k = struck_fault (items_of s (log_of life) event) items d in absurd (cc)

-- a life
life-stands : (s : Settings) (life : Life) → Follows s life → is_struck life ≡ false → At s (log_of life)
life-stands s NotBegun f up = record { seen = refl; holds = nothing-queued; idle = λ k. refl }
life-stands s (Opened life found) f up = record { seen = refl; holds = nothing-queued; idle = λ k. refl }
life-stands s (Lived life (Did event items)) f up = event-stands s life event items f.1 up (life-stands s life f.0 f.1.up)
life-stands s (Lived life entry) f up = life-stands s life f.0 up

pub life-holds : (s : Settings) (life : Life) → Follows s life → is_struck life ≡ false → Holds s (log_of life)
life-holds s life f up = (life-stands s life f up).holds

pub life-idle : (s : Settings) (life : Life) → Follows s life → is_struck life ≡ false → is_leader (mode_of (log_of life)) ≡ false → waiting_in s (log_of life) ≡ []
life-idle s life f up k = (life-stands s life f up).idle k
