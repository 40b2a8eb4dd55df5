-- What a node did that served a link, as a life on the disk that was given back.
use Rattle.std.proofs.Common.{◌≡◌, ℕ, ◌≤◌, Option, Some, List, [], ◌∷◌, ◌++◌, refl}
use Rattle.zen_disk.specs.Sides.{Files}
use Rattle.zen_disk.specs.declared.disks.Disks.{Ghosts as Disks}
use Rattle.zen_link.specs.declared.link.Traffic.{Traffic}
use Rattle.cluster_state.specs.declared.state.Kept.{Kept}
use Rattle.state_journal.specs.Journal.{record_of_files}
use Rattle.policy_model.specs.declared.events.Event.TheVariants.{Start}
use Rattle.policy_model.specs.declared.settings.Settings.{Settings}
use Rattle.policy_model.specs.Entries.{Life, NotBegun, Opened, Lived, Entry}
use Rattle.policy_model.specs.Follows.{Follows}
use Rattle.policy_model.specs.Laws.{LawLifeIsLocal}
use Rattle.node_loop.specs.declared.node.End.{End}
use Rattle.node_loop.specs.Connections.{last_made}
use Rattle.node_loop.specs.Crashes.{IsLastRecord, LeavesLast}
use Rattle.node_loop.specs.Happenings.{Happening, Comes, Mark}
use Rattle.node_loop.specs.Intakes.{NoIntakes}
use Rattle.node_loop.specs.Reports.{Output, EntriesFollow, lived}
use Rattle.node_loop.specs.Running.{StoodOn, LeavesLastOn, HoldsOn}
use Rattle.node_loop.specs.WritesAndSends.{WritesAndSends}
use Rattle.node_loop.specs.Turns.{IsRestOf, ServesOn, Serves, Unopened, Served}
use Rattle.zen_app.specs.NodeRuns.{LivesOn}

-- entries that follow the policy make a life that does
follows_lived : (s : Settings) (life : Life) (es : List Entry) → Follows s life → EntriesFollow s life es → Follows s (lived life es)
follows_lived s life [] before follow = before
follows_lived s life (e ∷ es) before follow = follows_lived s (Lived life e) es (before, follow.0) follow.1

module _ {X : Type 0} (output : X → Output) (text : Life → Entry → List ℕ) (s : Settings) (life : Life) (stands stands2 : Life → Type 0) (also : (es : List Entry) → EntriesFollow s life es → stands (lived life es) → stands2 (lived life es)) where
  -- what is told, and a fact of what is left
  tells_with : (course : List Mark) (end : Option End) (o0 o1 : Option (List ℕ)) (w0 w1 : Option (List (Traffic X))) (P : List Happening → Type 0) → (t : WritesAndSends output text s life course end o0 o1 w0 w1 stands) → P t.left
      → (u : WritesAndSends output text s life course end o0 o1 w0 w1 stands2) × P u.left
  tells_with course end o0 o1 w0 w1 P t last = (
    record {
      said = t.said;
      unsaid = t.unsaid;
      left = t.left;
      part = t.part;
      rest = t.rest;
      reports = t.reports;
      follows = t.follows;
      lives = also (t.said ++ t.unsaid) t.follows t.lives;
      up = t.up;
      all_done = t.all_done;
      all_said = t.all_said;
      at_most_one = t.at_most_one;
      cut = t.cut;
      silent = t.silent;
      short = t.short;
      written = t.written;
      told = t.told;
      struck = t.struck;
    },
    last,
  )

  on_with : (end : End) (o0 o1 : Option (List ℕ)) (w0 w1 : Option (List (Traffic X))) (a0 a1 turns : ℕ) → ServesOn output text s life end o0 o1 w0 w1 stands a0 a1 turns → ServesOn output text s life end o0 o1 w0 w1 stands2 a0 a1 turns
  on_with end o0 o1 w0 w1 a0 a1 turns on =
      let told = tells_with _ (Some end) o0 o1 w0 w1 (λ left. IsRestOf left (last_made (Comes Start ∷ []) NoIntakes on.taken)) on.tells on.last in
      record {
        taken = on.taken;
        tells = told.0;
        last = told.1;
        asked = on.asked;
        at_most = on.at_most;
        every = on.every;
        stop = on.stop;
      }

  -- what is said of serving says as much of another fact on lives that follow the policy
  serves_with : (end : End) (o0 o1 : Option (List ℕ)) (w0 w1 : Option (List (Traffic X))) (a0 a1 turns : ℕ) (opening : List ℕ) → Serves output text s life end o0 o1 w0 w1 stands a0 a1 turns opening
      → Serves output text s life end o0 o1 w0 w1 stands2 a0 a1 turns opening
  serves_with end o0 o1 w0 w1 a0 a1 turns opening (Unopened unsaid cut same unasked still) = Unopened unsaid cut same unasked (also [] tt still)
  serves_with end o0 o1 w0 w1 a0 a1 turns opening (Served mid written on) = Served mid written (on_with end mid o1 w0 w1 a0 a1 turns on)

module _ {D : Type 0} (d : Disks D) (counts_now : (disk : D) (t : ℕ) (files : Files) → t ≤ d.moment disk → d.may_leave disk files → d.left_since disk t files) where
  -- whatever files a crash may leave, they stand for the last record
  files_last : (back : D) (s : Settings) (life : Life) → LeavesLastOn d back s life → d.told → (files : Files) → d.may_leave back files → IsLastRecord life (record_of_files files)
  files_last back s life leaves told files left =
      let last = leaves told in
      last.only (record_of_files files) (files, counts_now back last.since files last.past left, refl)

  lives_on : (s : Settings) (kept : Kept) (opened back : D) → LawLifeIsLocal → (es : List Entry) → EntriesFollow s (Opened NotBegun kept) es → HoldsOn d opened back s (Opened NotBegun kept) (lived (Opened NotBegun kept) es)
      → LivesOn d s kept opened back (lived (Opened NotBegun kept) es)
  lives_on s kept opened back local es follow holds =
      let follows = follows_lived s (Opened NotBegun kept) es (tt, tt) follow in
      record {
        follows = follows;
        local = local s (lived (Opened NotBegun kept) es) follows;
        holds = holds;
        leaves = files_last back s (lived (Opened NotBegun kept) es) holds.stands;
        struck = holds.struck refl;
        uncrashed = holds.uncrashed;
      }

  -- what serving did, as a life on the disk
  pub serves_on : {X : Type 0} (output : X → Output) (text : Life → Entry → List ℕ) (s : Settings) (kept : Kept) (opened back : D) (end : End) (o0 o1 : Option (List ℕ)) (w0 w1 : Option (List (Traffic X))) (a0 a1 turns : ℕ) (opening : List ℕ) → LawLifeIsLocal
      → Serves output text s (Opened NotBegun kept) end o0 o1 w0 w1 (HoldsOn d opened back s (Opened NotBegun kept)) a0 a1 turns opening
      → Serves output text s (Opened NotBegun kept) end o0 o1 w0 w1 (LivesOn d s kept opened back) a0 a1 turns opening
  serves_on output text s kept opened back end o0 o1 w0 w1 a0 a1 turns opening local serves =
      serves_with output text s (Opened NotBegun kept) (HoldsOn d opened back s (Opened NotBegun kept)) (LivesOn d s kept opened back) (λ es follow holds. lives_on s kept opened back local es follow holds)
      end o0 o1 w0 w1 a0 a1 turns opening serves

  -- a disk whose journal was just opened leaves the record that it gave
  pub opened_leaves : (opened : D) (kept : Kept) → (d.told → LeavesLast d.moment (StoodOn d) opened (Opened NotBegun kept)) → d.told → (files : Files) → d.may_leave opened files → record_of_files files ≡ Some kept
  opened_leaves opened kept leaves told files left =
      let last = leaves told in
      last.only (record_of_files files) (files, counts_now opened last.since files last.past left, refl)
