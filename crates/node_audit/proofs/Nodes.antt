-- What becomes of a node in each entry.
use Rattle.std.proofs.Common.{◌≡◌, Bool, true, false, Option, None, refl, sym, ◌∙◌, ap}
use Rattle.voting_config.specs.Ids.{Id}
use Rattle.cluster_state.specs.declared.state.Kept.{Kept}
use Rattle.world_model.specs.declared.acts.ActReply.{ActReply}
use Rattle.world_model.specs.declared.acts.ActReply.TheVariants.{Taken, Refused, Stopped}
use Rattle.world_model.specs.declared.acts.Act.{Act}
use Rattle.world_model.specs.declared.acts.Outcome.{Outcome}
use Rattle.world_model.specs.declared.acts.Message.{Message}
use Rattle.world_model.specs.Acts.{NodeHistory, NoActs, Then, is_effective}
use Rattle.world_model.specs.declared.acts.Act.TheVariants.{Bootstrap, StartJoin, TakeJoin, Value, Publish, Response, Commit, Open}
use Rattle.world_model.specs.declared.acts.Outcome.TheVariants.{Answered, Disk, Crashed}
use Rattle.world_model.specs.NodeState.{NodeState, node_state, durable_of, halted_of, opened}
use Rattle.cluster_state.specs.Initial.{empty_record}
use Rattle.world_model.specs.Acts.{is_opening}
use Rattle.world_model.specs.Replies.{reply_of, is_taken}
use Rattle.world_model.specs.Moves.{node_state_after, node_state-Then}
use Rattle.world_model.specs.Settled.{settled, shows_as, is_kept}
use Rattle.world_model.proofs.Settling.{unstruck, unstruck_then, settled_then}
use Rattle.world_model.proofs.SettledLocal.{halted_reply}
use Rattle.trace_text.specs.declared.ending.Ending.{Ending}
use Rattle.trace_text.specs.declared.ending.Ending.TheVariants as ending
use Rattle.node_audit.specs.declared.node.Struck.{Struck}
use Rattle.node_audit.specs.declared.running.Running.{Running}
use Rattle.node_audit.specs.Endings.{outcome_shown}
use Rattle.node_audit.specs.Standing.{seen, kept_by, StandsRunning, StandsStruck, StandsHalted, MayEnd}

-- ---- what is kept

pub unkept : (g : NodeHistory) (act : Act) (o : Outcome) → is_opening act ≡ false → is_effective o ≡ false → durable_of (Then g act o) ≡ durable_of g
unkept g (Bootstrap config) o shut e = rw e refl
unkept g (StartJoin candidate term) o shut e = rw e refl
unkept g (TakeJoin join) o shut e = refl
unkept g (Value version config value) o shut e = refl
unkept g (Publish request) o shut e = rw e refl
unkept g (Response response) o shut e = refl
unkept g (Commit commit) o shut e = rw e refl
unkept g (Open found) o shut e = absurd cc

kept_same : (g : NodeHistory) (act : Act) (o p : Outcome) → is_opening act ≡ false → is_effective o ≡ true → is_effective p ≡ true → durable_of (Then g act o) ≡ durable_of (Then g act p)
kept_same g (Bootstrap config) o p shut e f = rw (e, f) refl
kept_same g (StartJoin candidate term) o p shut e f = rw (e, f) refl
kept_same g (TakeJoin join) o p shut e f = refl
kept_same g (Value version config value) o p shut e f = refl
kept_same g (Publish request) o p shut e f = rw (e, f) refl
kept_same g (Response response) o p shut e f = refl
kept_same g (Commit commit) o p shut e f = rw (e, f) refl
kept_same g (Open found) o p shut e f = absurd cc

-- ---- a node that is struck

pub strikes : (g : NodeHistory) (act : Act) (p q : NodeState) (s : Struck) → is_opening act ≡ false → p ≡ node_state g → q ≡ node_state_after p act (Answered (Taken None false)) → s.before ≡ kept_by p → s.after ≡ kept_by q
    → (kept : Bool) → StandsStruck s (Then g act (Disk kept)) × StandsStruck s (Then g act (Crashed kept))
strikes g act p q s shut is next before after kept =
    let first : s.before ≡ durable_of g = before ∙ ap kept_by is in
    let moved : q ≡ node_state (Then g act (Answered (Taken None false))) = next ∙ ap (λ (x : NodeState). node_state_after x act (Answered (Taken None false))) is ∙ sym (node_state-Then g act (Answered (Taken None false)) shut) in
    let last : s.after ≡ durable_of (Then g act (Answered (Taken None false))) = after ∙ ap kept_by moved in (
      record { before = first ∙ sym (unkept g act (Disk false) shut refl); after = last ∙ kept_same g act (Answered (Taken None false)) (Disk true) shut refl refl },
      record { before = first ∙ sym (unkept g act (Crashed false) shut refl); after = last ∙ kept_same g act (Answered (Taken None false)) (Crashed true) shut refl refl },
    )

pub disk_halts : (g : NodeHistory) (act : Act) (k : Bool) → is_opening act ≡ false → halted_of (Then g act (Disk k)) ≡ true
disk_halts g (Bootstrap config) k shut = refl
disk_halts g (StartJoin candidate term) k shut = refl
disk_halts g (TakeJoin join) k shut = refl
disk_halts g (Value version config value) k shut = refl
disk_halts g (Publish request) k shut = refl
disk_halts g (Response response) k shut = refl
disk_halts g (Commit commit) k shut = refl
disk_halts g (Open found) k shut = absurd cc

-- ---- a node that runs

pub takes : (r new : Running) (g : NodeHistory) (act : Act) (sends : Option Message) (wins : Bool) → is_opening act ≡ false → StandsRunning r g → seen new ≡ node_state_after (seen r) act (Answered (Taken sends wins)) → StandsRunning new (Then g act (Answered (Taken sends wins)))
takes r new g act sends wins shut s is = record {
  fields = is ∙ ap (λ (x : NodeState). node_state_after x act (Answered (Taken sends wins))) s.fields ∙ sym (node_state-Then g act (Answered (Taken sends wins)) shut);
  up = refl;
  unstruck = unstruck_then g act (Taken sends wins) s.unstruck;
}

quiet_state : (g : NodeHistory) (act : Act) (reply : ActReply) → is_opening act ≡ false → is_taken reply ≡ false → node_state (Then g act (Answered reply)) ≡ node_state g
quiet_state g (Bootstrap config) (Refused c) shut e = refl
quiet_state g (StartJoin candidate term) (Refused c) shut e = refl
quiet_state g (TakeJoin join) (Refused c) shut e = refl
quiet_state g (Value version config value) (Refused c) shut e = refl
quiet_state g (Publish request) (Refused c) shut e = refl
quiet_state g (Response response) (Refused c) shut e = refl
quiet_state g (Commit commit) (Refused c) shut e = refl
quiet_state g (Bootstrap config) Stopped shut e = refl
quiet_state g (StartJoin candidate term) Stopped shut e = refl
quiet_state g (TakeJoin join) Stopped shut e = refl
quiet_state g (Value version config value) Stopped shut e = refl
quiet_state g (Publish request) Stopped shut e = refl
quiet_state g (Response response) Stopped shut e = refl
quiet_state g (Commit commit) Stopped shut e = refl
quiet_state g (Open found) reply shut e = absurd cc
quiet_state g act (Taken sends wins) shut e = absurd cc

pub rests : (r : Running) (g : NodeHistory) (act : Act) (reply : ActReply) → is_opening act ≡ false → is_taken reply ≡ false → StandsRunning r g → StandsRunning r (Then g act (Answered reply))
rests r g act reply shut e s = record {
  fields = s.fields ∙ sym (quiet_state g act reply shut e);
  up = refl;
  unstruck = unstruck_then g act reply s.unstruck;
}

-- ---- a node that is halted

halted_still : (g : NodeHistory) (act : Act) (reply : ActReply) → is_opening act ≡ false → halted_of (Then g act (Answered reply)) ≡ halted_of g
halted_still g (Bootstrap config) reply shut = refl
halted_still g (StartJoin candidate term) reply shut = refl
halted_still g (TakeJoin join) reply shut = refl
halted_still g (Value version config value) reply shut = refl
halted_still g (Publish request) reply shut = refl
halted_still g (Response response) reply shut = refl
halted_still g (Commit commit) reply shut = refl
halted_still g (Open found) reply shut = absurd cc

kept_still : (k : Bool) (g : NodeHistory) (act : Act) → is_opening act ≡ false → durable_of (settled k (Then g act (Answered Stopped))) ≡ durable_of (settled k g)
kept_still k g act shut = ap durable_of (settled_then k g act Stopped shut) ∙ unkept (settled k g) act (Answered Stopped) shut refl

stays : (s : Struck) (g : NodeHistory) (act : Act) → is_opening act ≡ false → StandsHalted s g → StandsHalted s (Then g act (Answered Stopped))
stays s g act shut h = record {
  halted = halted_still g act Stopped shut ∙ h.halted;
  up = refl;
  struck = record { before = h.struck.before ∙ sym (kept_still false g act shut); after = h.struck.after ∙ sym (kept_still true g act shut) };
}

-- ---- an opening

pub found_before : (s : Struck) (g : NodeHistory) (shown : Kept) → StandsStruck s g → shows_as shown s.after ≡ false → s.before ≡ durable_of (settled (is_kept g shown) g)
found_before s g shown h e =
    let kept : is_kept g shown ≡ false = ap (λ (k : Kept). shows_as shown k) (sym h.after) ∙ e in
    h.before ∙ ap (λ (k : Bool). durable_of (settled k g)) (sym kept)

pub found_running : (r : Running) (g : NodeHistory) (k : Bool) → StandsRunning r g → kept_by (seen r) ≡ durable_of (settled k g)
found_running r g k s = ap kept_by s.fields ∙ ap durable_of (sym (unstruck g k s.unstruck))

reopened : (g : NodeHistory) → node_state (opened (durable_of g)) ≡ node_state (Then g (Open (durable_of g)) (Answered (Taken None false)))
reopened NoActs = refl
reopened (Then g act o) = refl

pub opens : (r : Running) (g : NodeHistory) (kept : Kept) → seen r ≡ node_state (opened kept) → kept ≡ durable_of g → StandsRunning r (Then g (Open kept) (Answered (Taken None false)))
opens r g kept is same = record {
  fields = is ∙ ap (λ (k : Kept). node_state (opened k)) same ∙ reopened g ∙ ap (λ (k : Kept). node_state (Then g (Open k) (Answered (Taken None false)))) (sym same);
  up = refl;
  unstruck = tt;
}

pub begins : (r : Running) (kept : Kept) → seen r ≡ node_state (opened kept) → kept ≡ empty_record → StandsRunning r NoActs
begins r kept is same = record { fields = is ∙ ap (λ (k : Kept). node_state (opened k)) same; up = refl; unstruck = tt }
