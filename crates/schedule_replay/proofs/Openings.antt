-- A node that is opened, and what a crash between two events makes of it.
use Rattle.std.proofs.Common.{◌≡◌, ℕ, Bool, true, false, ◌||◌, None, List, [], ◌++◌, append-nil, append_assoc, length, refl, sym, ◌∙◌, ap, subst, inl, if◌then◌else◌}
use Rattle.std.specs.Prelude.{Result}
use Rattle.std.specs.Result.{result_unwrap_or}
use Rattle.voting_config.specs.Ids.{Id}
use Rattle.cluster_state.specs.Initial.{empty_record}
use Rattle.cluster_state.specs.declared.state.Kept.{Kept}
use Rattle.wire_frames.specs.declared.frame.Frame.{Frame}
use Rattle.zen_disk.specs.MemDisks.{read_of}
use Rattle.zen_disk.specs.declared.orders.Way.{Way}
use Rattle.state_journal.specs.Journal.{found_of}
use Rattle.state_journal.specs.declared.why.Why.{Why}
use Rattle.world_model.specs.declared.acts.Act.TheVariants.{Open as OpenAct}
use Rattle.world_model.specs.declared.acts.ActReply.TheVariants.{Taken}
use Rattle.world_model.specs.declared.acts.Outcome.TheVariants.{Answered}
use Rattle.world_model.specs.Acts.{NodeHistory, NoActs, Then}
use Rattle.world_model.specs.Histories.{ContinuesUnlessFirst}
use Rattle.world_model.specs.NodeState.{durable_of, halted_of}
use Rattle.trace_text.specs.Trace.{crashed_line, down_line, record_line, up_line}
use Rattle.replay_node.specs.NodeDisk.{NodeDisk, CallsEnd, Done, Failed, CrashedIn, bytes_read, opening, MemFuse}
use Rattle.replay_node.specs.NodeLines.{stop_text}
use Rattle.replay_node.specs.NodeWorld.{NodeWorld, after_crash, after_opening, found_at, fresh_node, needs_opening, opened_by, opening_text}
use Rattle.replay_node.specs.Opens.{Opens}
use Rattle.trace_text.specs.Published.{last_published}
use Rattle.world_model.specs.Settled.{is_kept, settled}
use Rattle.replay_node.specs.Stands.{Journal, DownStands, OpenStands}
use Rattle.replay_node.specs.declared.node.Slot.TheVariants.{Open as CoreOpen, Down as CoreDown}
use Rattle.replay_node.proofs.AsSaid.{crashed_stands}
use Rattle.replay_node.proofs.Nodes.{leaves_less, open_leaves, CrashedAs}
use Rattle.replay_node.proofs.Opened.{JustOpened, JustOver, opens, new_stands, IsEmptyDisk, open_asks, empty_found}
use Rattle.replay_node.proofs.SettledTakes.{settled_published}
use Rattle.policy_model.specs.declared.settings.Settings.{Settings}
use Rattle.policy_model.specs.declared.events.Event.TheVariants.{Start}
use Rattle.policy_model.specs.Entries.{NotBegun, Opened, log_of, frames_of}
use Rattle.policy_model.specs.Events.{acts_of}
use Rattle.coordinator.specs.Lives.{StandsForLife}
use Rattle.replay_node.specs.Clusters.{first_life}
use Rattle.replay_node.specs.Course.{settled_life}
use Rattle.schedule_replay.specs.OwnStands.{NodeFor, OwnDone, SlotFor}
use Rattle.schedule_replay.specs.Openings.{ClosedFor, OverJournal, fresh_own}
use Rattle.schedule_replay.specs.Own.{Own, own_crash, own_event, own_event_if_up, own_frames_if_up, own_items, own_opened, own_opened_by, own_restart, own_restart_frames, own_restart_results, own_results, own_results_if_up, own_started_frames, own_started_results}
use Rattle.schedule_replay.specs.OpenNodes.{Node, OpenFor, keeper}
use Rattle.schedule_replay.specs.declared.cluster.node.ClusterNode.{ClusterNode}
use Rattle.schedule_replay.specs.declared.cluster.node.Slot.{Slot}
use Rattle.schedule_replay.specs.declared.cluster.node.Slot.TheVariants.{Open, Down}
use Rattle.replay_node.proofs.Lives.{settled_acts, settled_follows}

-- ---- a crash between two events

pub crash_done : (s : Settings) (own : Own) (way : Way) (old : ClusterNode) (node : Node) (fuse : MemFuse) (frames : List Frame) (was now : List ℕ) → old.slot ≡ Open node → CrashedAs node.core.keeper.log.disk fuse way → now ≡ was ++ crashed_line old.me
    → NodeFor s old own false → OwnDone s (record old { slot = Down fuse }) (own_crash way own) frames frames [] was now (stop_text s.me own.node)
crash_done s own way old node fuse frames was now slot stopped written stands =
    let here : OpenFor s node own.life own.node = subst (λ (x : Slot). SlotFor s x own) slot stands.slot in
    let o : OpenStands s.me node.core own.node = here.core in
    let down : DownStands fuse (after_crash way own.node) = record {
      down = refl;
      disk = crashed_stands node.core.keeper.log.disk fuse own.node.disk way o.disk stopped.armed stopped.up stopped.files;
      left = leaves_less node.core.keeper.log.disk fuse own.node.acts stopped.left (open_leaves s.me node.core own.node o);
    } in
    let there : NodeFor s (record old { slot = Down fuse }) (record own { node = after_crash way own.node }) false = record {
      me_is = stands.me_is;
      slot = down;
      published = stands.published;
      life = record { follows = stands.life.follows; acts = stands.life.acts; starts_is = stands.life.starts_is; unstruck = λ runs. absurd (cc); opened = λ starts. absurd (cc) };
    } in
    record {
      stands = subst (λ (b : Bool). NodeFor s (record old { slot = Down fuse }) (record own { node = if b then own.node else after_crash way own.node }) false) (sym o.up) there;
      sent_is = sym (append-nil frames);
      written = written ∙ ap (λ (n : Id). was ++ crashed_line n) stands.me_is ∙ sym (ap (λ (b : Bool). was ++ (if b then down_line s.me else crashed_line s.me)) o.up);
      fit = tt;
    }

-- ---- an opening

ended_open : (e : CallsEnd) (g : NodeHistory) (disk : NodeDisk) (found : Kept) → (opened_by e g disk found).down ≡ false → e ≡ Done
ended_open Done g disk found up = refl
ended_open Failed g disk found up = absurd (cc)
ended_open (CrashedIn way) g disk found up = absurd (cc)

-- a record that continues the acts
continues : (g : NodeHistory) (found : Kept) → found ≡ durable_of g → ContinuesUnlessFirst g (OpenAct found)
continues NoActs found is = tt
continues (Then g act o) found is = is

module _ (s : Settings) (old : ClusterNode) (fuse : MemFuse) (own : Own) (closed : ClosedFor s old fuse own) where
  abbrev found : Kept
  found = found_at own.node

  abbrev kept : Bool
  kept = is_kept own.node.acts (found_at own.node)

  -- what comes of an opening, once it is known how it ended
  restart_by : (new : ClusterNode) (frames frames_now : List Frame) (was now : List ℕ) (e : CallsEnd) → (opening own.node.disk).ended ≡ e
      → OwnDone s new (own_opened_by s e own) frames frames_now (own_started_frames s e own) was now (opening_text e s.me found ++ own_started_results s e (length frames) own)
      → OwnDone s new (own_restart s own) frames frames_now (own_restart_frames s own) was now (own_restart_results s (length frames) own)
  restart_by new frames frames_now was now e ended done = by (needs_opening own.node) closed.needs (opening own.node.disk).ended ended
    where
      by : (b : Bool) → b ≡ true → (x : CallsEnd) → x ≡ e
          → OwnDone s new (if b then own_opened_by s x own else own) frames frames_now (if b then own_started_frames s x own else []) was now
          ((if b then opening_text x s.me found else up_line s.me) ++ (if b then own_started_results s x (length frames) own else []))
      by true t x same = subst (λ (y : CallsEnd). OwnDone s new (own_opened_by s y own) frames frames_now (own_started_frames s y own) was now (opening_text y s.me found ++ own_started_results s y (length frames) own)) (sym same) done
      by false t x same = absurd (cc)

  module _ (j : Journal) (is : JustOpened fuse j) (node : Node) (over : OverJournal s j node) where
    core_over : JustOver s.me j node.core
    core_over = record { me_is = over.ready.me ∙ ap (λ (t : Settings). t.me) over.settings; keeper = over.keeper_is; stands = over.stands }

    core_opens : Opens s.me fuse (CoreOpen node.core) [] (record_line s.me j.kept.term j.kept.accepted j.kept.committed) own.node
    core_opens = opens s.me fuse own.node closed.closed j is node.core [] (record_line s.me j.kept.term j.kept.accepted j.kept.committed) core_over refl

    core_stands : OpenStands s.me node.core (after_opening own.node)
    core_stands = core_opens.stands

    pub ended_done : (opening own.node.disk).ended ≡ Done
    ended_done = ended_open (opening own.node.disk).ended own.node.acts (opening own.node.disk).disk found core_stands.up

    found_kept : j.kept ≡ found
    found_kept =
        let read : read_of fuse.disk ≡ bytes_read own.node.disk.files = ap bytes_read closed.closed.disk.files in
        sym (ap (λ (r : Result Kept Why). result_unwrap_or r empty_record) (ap found_of (sym read) ∙ is.found))

    acts_now : (after_opening own.node).acts ≡ Then (settled kept own.node.acts) (OpenAct found) (Answered (Taken None false))
    acts_now = ap (λ (e : CallsEnd). (opened_by e own.node.acts (opening own.node.disk).disk found).acts) ended_done

    settled_same : acts_of (log_of (settled_life kept own.life)) ≡ settled kept own.node.acts
    settled_same = settled_acts s kept own.life closed.life.follows ∙ ap (settled kept) closed.life.acts

    goes_on : ContinuesUnlessFirst (acts_of (log_of (settled_life kept own.life))) (OpenAct found)
    goes_on = continues (acts_of (log_of (settled_life kept own.life))) found (core_opens.finds ended_done ∙ ap durable_of (sym settled_same))

    runs : needs_opening (after_opening own.node) ≡ false
    runs = open_asks s.me node.core (after_opening own.node) core_stands ∙ ap (λ (k : Journal). k.log.stopped) over.keeper_is ∙ is.runs

    pub opened_stands : NodeFor s (record old { slot = Open node }) (own_opened own) true
    opened_stands = record {
      me_is = closed.me_is;
      slot = record {
        settings = over.settings;
        ready = over.ready;
        life_is = subst (λ (k : Kept). StandsForLife keeper node (Opened (settled_life kept own.life) k)) found_kept
            (over.later (settled_life kept own.life) (subst (λ (k : Kept). ContinuesUnlessFirst (acts_of (log_of (settled_life kept own.life))) (OpenAct k)) (sym found_kept) goes_on));
        core = core_stands;
        fit = λ still. over.fit;
      };
      published = closed.published ∙ sym (settled_published kept own.node.acts) ∙ ap last_published (sym acts_now);
      life = record {
        follows = (settled_follows s kept own.life closed.life.follows, goes_on);
        acts = ap (λ (g : NodeHistory). Then g (OpenAct found) (Answered (Taken None false))) settled_same ∙ sym acts_now;
        starts_is = refl;
        unstruck = λ r. refl;
        opened = λ r. runs;
      };
    }

    -- the start follows
    pub started : (new : ClusterNode) (frames frames_now : List Frame) (was mid now : List ℕ) → mid ≡ was ++ record_line old.me j.kept.term j.kept.accepted j.kept.committed
        → OwnDone s new (own_event_if_up s Start (own_opened own)) frames frames_now (own_frames_if_up s Start (own_opened own)) mid now (own_results_if_up s Start (length frames) (own_opened own))
        → OwnDone s new (own_restart s own) frames frames_now (own_restart_frames s own) was now (own_restart_results s (length frames) own)
    started new frames frames_now was mid now written done = restart_by new frames frames_now was now Done ended_done (by (needs_opening (after_opening own.node)) runs done)
      where
        shown : mid ≡ was ++ record_line s.me found.term found.accepted found.committed
        shown = written ∙ ap (λ (n : Id). was ++ record_line n j.kept.term j.kept.accepted j.kept.committed) closed.me_is ∙ ap (λ (k : Kept). was ++ record_line s.me k.term k.accepted k.committed) found_kept

        by : (b : Bool) → b ≡ false
            → OwnDone s new (if b then own_opened own else own_event s (own_opened own) Start) frames frames_now (if b then [] else frames_of (own_items s (own_opened own) Start)) mid now
            (if b then down_line s.me else own_results s (length frames) (own_opened own) Start)
            → OwnDone s new (own_event s (own_opened own) Start) frames frames_now (frames_of (own_items s (own_opened own) Start)) was now
            (record_line s.me found.term found.accepted found.committed ++ own_results s (length frames) (own_opened own) Start)
        by true e d = absurd (cc)
        by false e d = record {
          stands = d.stands;
          sent_is = d.sent_is;
          written = d.written ∙ ap (λ (t : List ℕ). t ++ own_results s (length frames) (own_opened own) Start) shown
              ∙ append_assoc was (record_line s.me found.term found.accepted found.committed) (own_results s (length frames) (own_opened own) Start);
          fit = d.fit;
        }

  -- the opening failed, or the disk stopped inside it
  pub closed_again : (again : MemFuse) (frames : List Frame) (was now : List ℕ) → Opens old.me fuse (CoreDown again) was now own.node
      → OwnDone s (record old { slot = Down again }) (own_restart s own) frames frames (own_restart_frames s own) was now (own_restart_results s (length frames) own)
  closed_again again frames was now opens =
      by (opening own.node.disk).ended refl opens.stands (opens.written ∙ ap (λ (n : Id). was ++ opening_text (opening own.node.disk).ended n found) closed.me_is)
    where
      new : ClusterNode
      new = record old { slot = Down again }

      there : (x : NodeWorld) → x.acts ≡ own.node.acts → DownStands again x → NodeFor s new (record own { node = x }) false
      there x same down = record {
        me_is = closed.me_is;
        slot = down;
        published = closed.published ∙ ap last_published (sym same);
        life = record {
          follows = closed.life.follows;
          acts = closed.life.acts ∙ sym same;
          starts_is = closed.life.starts_is;
          unstruck = λ r. absurd (let needs : needs_opening x ≡ true = ap (λ (b : Bool). b || halted_of x.acts) down.down in cc);
          opened = λ starts. absurd (cc);
        };
      }

      by : (e : CallsEnd) → (opening own.node.disk).ended ≡ e → DownStands again (after_opening own.node) → now ≡ was ++ opening_text (opening own.node.disk).ended s.me found
          → OwnDone s new (own_restart s own) frames frames (own_restart_frames s own) was now (own_restart_results s (length frames) own)
      by Done e down text = absurd (let is = down.down in let up : (after_opening own.node).down ≡ false = ap (λ (x : CallsEnd). (opened_by x own.node.acts (opening own.node.disk).disk found).down) e in cc)
      by Failed e down text = restart_by new frames frames was now Failed e (record {
        stands = there (after_opening own.node) (ap (λ (x : CallsEnd). (opened_by x own.node.acts (opening own.node.disk).disk found).acts) e) down;
        sent_is = sym (append-nil frames);
        written = text ∙ ap (λ (x : CallsEnd). was ++ opening_text x s.me found) e ∙ ap (λ (t : List ℕ). was ++ t) (sym (append-nil (opening_text Failed s.me found)));
        fit = tt;
      })
      by (CrashedIn way) e down text = restart_by new frames frames was now (CrashedIn way) e (record {
        stands = there (after_opening own.node) (ap (λ (x : CallsEnd). (opened_by x own.node.acts (opening own.node.disk).disk found).acts) e) down;
        sent_is = sym (append-nil frames);
        written = text ∙ ap (λ (x : CallsEnd). was ++ opening_text x s.me found) e ∙ ap (λ (t : List ℕ). was ++ t) (sym (append-nil (opening_text (CrashedIn way) s.me found)));
        fit = tt;
      })

-- ---- which nodes are opened again

-- ---- a node that is opened for the first time

pub first_open : (s : Settings) (fuse : MemFuse) → IsEmptyDisk fuse → (j : Journal) → JustOpened fuse j → (node : Node) → OverJournal s j node → OpenFor s node NotBegun fresh_node
first_open s fuse empty j is node over = record {
  settings = over.settings;
  ready = over.ready;
  life_is = over.first (empty_found (read_of fuse.disk) j.kept empty.seen is.found);
  core = new_stands s.me fuse j node.core empty is (record { me_is = over.ready.me ∙ ap (λ (t : Settings). t.me) over.settings; keeper = over.keeper_is; stands = over.stands });
  fit = λ still. over.fit;
}

pub first_stands : (s : Settings) (me : Id) → me ≡ s.me → (node : Node) → OpenFor s node (first_life s) fresh_node → NodeFor s (record { me = me; slot = Open node; published = None }) (fresh_own s) false
first_stands s me same node stands = record {
  me_is = same;
  slot = stands;
  published = refl;
  life = record {
    follows = (tt, record { up = refl; start = refl; does = inl refl });
    acts = refl;
    starts_is = refl;
    unstruck = λ r. refl;
    opened = λ e. absurd (cc);
  };
}
