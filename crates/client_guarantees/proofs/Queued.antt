-- What was processed had been queued.
use Rattle.std.proofs.Common.{◌≡◌, ℕ, List, [], ◌∷◌, refl, sym, subst, ◌⊎◌, inl, inr}
use Rattle.std.specs.List.{Contains, All}
use Rattle.std.proofs.lemmas.List.Elements.{All-nil, All-cons, All-contains}
use Rattle.cluster_state.specs.declared.request.Request.{Request}
use Rattle.master_tasks.specs.declared.waiting.Waiting.{Waiting}
use Rattle.master_tasks.specs.Queue.{arriving}
use Rattle.master_tasks.specs.Answering.{timed_out, committed_in, applied_in}
use Rattle.policy_model.specs.declared.settings.Settings.{Settings}
use Rattle.policy_model.specs.declared.events.Mode.TheVariants.{Candidate, Leader, Follower}
use Rattle.policy_model.specs.Events.{Met, Heard, PeersAsked, ElectionOff, ElectionSet, RoundBegun, RoundAnswered, RoundEnded, Joined, FollowersChecked, FollowerAnswered, LeaderChecked, LeaderAnswered, Queued, ExclusionsTimedOut, CommitAcked, AppliedAnswered, StateMade, HandedOver, PeerLost, LeaderLost, Opens, Begins, Acts, ChangesMode, Drops, Sends, Replies, Notes, Log, NoItems, And}
use Rattle.policy_model.specs.Parts.{published_id}
use Rattle.policy_model.specs.LookBacks.{node_of, moment_of, tasks_of, master_of}
use Rattle.policy_model.proofs.Fits.{waiting-added}
use Rattle.client_guarantees.specs.Processed.{processed_into_next, processed_of}
use Rattle.client_guarantees.proofs.Folding.{Each, each-map, each-last, each-append, of-waiting, of-new}
use Rattle.client_guarantees.proofs.Holding.{each-left}
use Rattle.client_guarantees.proofs.GoingOn.{each-after}

-- the request was queued for this connection since the node was opened last
abbrev pub WasQueued : Log → ℕ → Request → Type 0
WasQueued NoItems conn request = ⊥
WasQueued (And l (Opens found)) conn request = ⊥
WasQueued (And l (Notes (Queued c r))) conn request = ((c ≡ conn) × (r ≡ request)) ⊎ WasQueued l conn request
WasQueued (And l i) conn request = WasQueued l conn request

each-all_of : (P : Waiting → Type 0) (ws : List Waiting) → Each P ws → All P ws
each-all_of P [] e = All-nil P
each-all_of P (w ∷ ws) e = All-cons P w ws e.0 (each-all_of P ws e.1)

-- those who wait and those who were processed
record AreQueued (s : Settings) (l : Log) : Type 0 where
  waiting : Each (λ w. WasQueued l w.conn w.request) (tasks_of s l).waiting
  processed : Each (λ w. WasQueued l w.conn w.request) (processed_of s l)

queued : (s : Settings) (l : Log) → AreQueued s l
queued s NoItems = record { waiting = tt; processed = tt }
queued s (And l (Opens found)) = record { waiting = tt; processed = tt }
queued s (And l (Begins event)) = record { waiting = (queued s l).waiting; processed = (queued s l).processed }
queued s (And l (Acts act o)) = record { waiting = (queued s l).waiting; processed = (queued s l).processed }
queued s (And l (ChangesMode Candidate term)) = record { waiting = tt; processed = (queued s l).processed }
queued s (And l (ChangesMode Leader term)) = record { waiting = (queued s l).waiting; processed = (queued s l).processed }
queued s (And l (ChangesMode (Follower leader) term)) = record { waiting = (queued s l).waiting; processed = (queued s l).processed }
queued s (And l (Drops member cause)) = record { waiting = (queued s l).waiting; processed = (queued s l).processed }
queued s (And l (Sends frame)) = record { waiting = (queued s l).waiting; processed = (queued s l).processed }
queued s (And l (Replies answer)) = record { waiting = (queued s l).waiting; processed = (queued s l).processed }
queued s (And l (Notes (Met ids))) = record { waiting = (queued s l).waiting; processed = (queued s l).processed }
queued s (And l (Notes (Heard peer master))) = record { waiting = (queued s l).waiting; processed = (queued s l).processed }
queued s (And l (Notes PeersAsked)) = record { waiting = (queued s l).waiting; processed = (queued s l).processed }
queued s (And l (Notes ElectionOff)) = record { waiting = (queued s l).waiting; processed = (queued s l).processed }
queued s (And l (Notes (ElectionSet word))) = record { waiting = (queued s l).waiting; processed = (queued s l).processed }
queued s (And l (Notes (RoundBegun word))) = record { waiting = (queued s l).waiting; processed = (queued s l).processed }
queued s (And l (Notes (RoundAnswered source term last))) = record { waiting = (queued s l).waiting; processed = (queued s l).processed }
queued s (And l (Notes RoundEnded)) = record { waiting = (queued s l).waiting; processed = (queued s l).processed }
queued s (And l (Notes (Joined ids))) = record { waiting = subst (Each (λ w. WasQueued l w.conn w.request)) (sym (waiting-added (tasks_of s l) ids)) (queued s l).waiting; processed = (queued s l).processed }
queued s (And l (Notes FollowersChecked)) = record { waiting = (queued s l).waiting; processed = (queued s l).processed }
queued s (And l (Notes (FollowerAnswered from good applied))) = record { waiting = (queued s l).waiting; processed = (queued s l).processed }
queued s (And l (Notes LeaderChecked)) = record { waiting = (queued s l).waiting; processed = (queued s l).processed }
queued s (And l (Notes (LeaderAnswered good))) = record { waiting = (queued s l).waiting; processed = (queued s l).processed }
queued s (And l (Notes (Queued conn request))) = record { waiting = each-last (λ w. WasQueued (And l (Notes (Queued conn request))) w.conn w.request) (tasks_of s l).waiting (arriving conn (moment_of l) request) (each-map (λ w. WasQueued l w.conn w.request) (λ w. WasQueued (And l (Notes (Queued conn request))) w.conn w.request) (λ w q. inr q) (tasks_of s l).waiting (queued s l).waiting) (inl (refl, refl)); processed = each-map (λ w. WasQueued l w.conn w.request) (λ w. WasQueued (And l (Notes (Queued conn request))) w.conn w.request) (λ w q. inr q) (processed_of s l) (queued s l).processed }
queued s (And l (Notes ExclusionsTimedOut)) = record { waiting = each-left (λ w. WasQueued l w.conn w.request) (timed_out (node_of l).committed (moment_of l)) (tasks_of s l).waiting (queued s l).waiting; processed = (queued s l).processed }
queued s (And l (Notes CommitAcked)) = record { waiting = each-left (λ w. WasQueued l w.conn w.request) (committed_in (published_id (node_of l))) (tasks_of s l).waiting (queued s l).waiting; processed = (queued s l).processed }
queued s (And l (Notes AppliedAnswered)) = record { waiting = each-left (λ w. WasQueued l w.conn w.request) (applied_in (node_of l).committed (node_of l).accepted) (tasks_of s l).waiting (queued s l).waiting; processed = (queued s l).processed }
queued s (And l (Notes StateMade)) = record { waiting = each-after (λ w. WasQueued l w.conn w.request) (master_of s l) (tasks_of s l) (of-waiting (WasQueued l) (master_of s l) (tasks_of s l) (queued s l).waiting); processed = each-append (λ w. WasQueued l w.conn w.request) (processed_of s l) (processed_into_next (master_of s l) (tasks_of s l)) (queued s l).processed (of-new (WasQueued l) (master_of s l) (tasks_of s l) (queued s l).waiting) }
queued s (And l (Notes HandedOver)) = record { waiting = (queued s l).waiting; processed = (queued s l).processed }
queued s (And l (Notes (PeerLost id))) = record { waiting = (queued s l).waiting; processed = (queued s l).processed }
queued s (And l (Notes LeaderLost)) = record { waiting = (queued s l).waiting; processed = (queued s l).processed }

pub processed_was_queued : (s : Settings) (l : Log) (w : Waiting) → Contains (processed_of s l) w → WasQueued l w.conn w.request
processed_was_queued s l w c = All-contains (λ (x : Waiting). WasQueued l x.conn x.request) (processed_of s l) w (each-all_of (λ x. WasQueued l x.conn x.request) (processed_of s l) (queued s l).processed) c
