-- Histories of more entries, and what is known of a whole recording once an entry is not legal.
use Rattle.std.proofs.Common.{◌≡◌, ℕ, List, [], ◌∷◌, ◌++◌, refl, ◌∙◌, ap, subst, append_assoc}
use Rattle.voting_config.specs.Ids.{Id}
use Rattle.world_model.specs.Histories.{History, NoEntries, Next, node_history, IsLegal, MayHappen}
use Rattle.world_model.specs.declared.acts.Act.{Act}
use Rattle.world_model.specs.declared.acts.Outcome.{Outcome}
use Rattle.world_model.specs.Settled.{is_kept}
use Rattle.world_model.proofs.AllSettled.{unsettled_legal}
use Rattle.trace_audit.specs.declared.clause.Clause.{Clause}
use Rattle.trace_audit.specs.declared.clause.Clause.TheVariants as clause
use Rattle.recorded_trace.specs.declared.entry.Entry.{Entry}
use Rattle.recorded_trace.specs.declared.entry.Entry.TheVariants.{Acted, Recorded}
use Rattle.trace_audit.specs.declared.verdict.Verdict.TheVariants.{NotLegal}
use Rattle.recorded_trace.specs.Reading.{Numbered}
use Rattle.trace_audit.specs.Traced.{traced, with_entry, with_entries}
use Rattle.trace_audit.specs.Clauses.{Keeps, BreaksFirst, NamesInitial, WasSent}
use Rattle.trace_audit.specs.Verdicts.{IsRight}
use Rattle.world_model.specs.Histories.{IsSourced, sent}
use Rattle.world_model.specs.declared.acts.Message.{Message}
use Rattle.world_model.specs.declared.acts.Act.TheVariants.{Bootstrap, StartJoin, TakeJoin, Value, Publish, Response, Commit, Open}

with_more : (h : History) (xs ys : List Numbered) → with_entries h (xs ++ ys) ≡ with_entries (with_entries h xs) ys
with_more h [] ys = refl
with_more h (x ∷ xs) ys = with_more (with_entry h x.entry) xs ys

pub traced_more : (xs : List Numbered) (x : Numbered) → traced (xs ++ x ∷ []) ≡ with_entry (traced xs) x.entry
traced_more xs x = with_more NoEntries xs (x ∷ [])

-- ---- what is legal with more entries is legal without them

legal_before : (initial : List Id) (h : History) (x : Entry) → IsLegal initial (with_entry h x) → IsLegal initial h
legal_before initial h (Acted n e act) l = l.0
legal_before initial h (Recorded n shown) l = unsettled_legal initial h n (is_kept (node_history h n) shown) l.0

legal_prefix : (initial : List Id) (h : History) (xs : List Numbered) → IsLegal initial (with_entries h xs) → IsLegal initial h
legal_prefix initial h [] l = l
legal_prefix initial h (x ∷ xs) l = legal_before initial h x.entry (legal_prefix initial (with_entry h x.entry) xs l)

pub legal_less : (initial : List Id) (xs ys : List Numbered) → IsLegal initial (traced (xs ++ ys)) → IsLegal initial (traced xs)
legal_less initial xs ys l = legal_prefix initial (traced xs) ys (subst (λ (h : History). IsLegal initial h) (with_more NoEntries xs ys) l)

-- ---- an entry that breaks a clause is not legal

names_by : (initial : List Id) (ms : List Message) (act : Act) → IsSourced initial ms act → NamesInitial initial act
names_by initial ms (Bootstrap config) s = s
names_by initial ms (StartJoin candidate term) s = tt
names_by initial ms (TakeJoin join) s = tt
names_by initial ms (Value version config value) s = tt
names_by initial ms (Publish request) s = tt
names_by initial ms (Response response) s = tt
names_by initial ms (Commit commit) s = tt
names_by initial ms (Open found) s = tt

sent_by : (initial : List Id) (ms : List Message) (act : Act) → IsSourced initial ms act → WasSent ms act
sent_by initial ms (Bootstrap config) s = tt
sent_by initial ms (StartJoin candidate term) s = tt
sent_by initial ms (TakeJoin join) s = s
sent_by initial ms (Value version config value) s = tt
sent_by initial ms (Publish request) s = s
sent_by initial ms (Response response) s = s
sent_by initial ms (Commit commit) s = s
sent_by initial ms (Open found) s = tt

keeps : (c : Clause) (initial : List Id) (h : History) (n : Id) (act : Act) (o : Outcome) → MayHappen initial h n act o → Keeps c initial h n act o
keeps clause.Opening initial h n act o m = record { up = m.follows.up; continues = m.continues }
keeps clause.Bootstrap initial h n act o m = names_by initial (sent h) act m.sourced
keeps clause.Unsent initial h n act o m = sent_by initial (sent h) act m.sourced
keeps clause.Outcome initial h n act o m = m.follows.follows

not_legal : (c : Clause) (initial : List Id) (h : History) → BreaksFirst c initial h → IsLegal initial h → ⊥
not_legal c initial NoEntries b l = b
not_legal c initial (Next h n act o) b l = b.1 (keeps c initial h n act o l.1)

-- ---- the first entry that is not legal

pub breaks : (initial : List Id) (xs : List Numbered) (x : Numbered) (c : Clause) → IsLegal initial (traced xs) → BreaksFirst c initial (with_entry (traced xs) x.entry) → IsRight (record { initial = initial; entries = xs ++ x ∷ [] }) (NotLegal x.line c)
breaks initial xs x c l b = (
  λ k. not_legal c initial (with_entry (traced xs) x.entry) b (subst (λ (h : History). IsLegal initial h) (traced_more xs x) k),
  record { prefix = xs; broken = x; back = []; split = refl; number = refl; before = l; breaks = b },
)

pub broken_more : (initial : List Id) (xs ys : List Numbered) (line : ℕ) (c : Clause) → IsRight (record { initial = initial; entries = xs }) (NotLegal line c) → IsRight (record { initial = initial; entries = xs ++ ys }) (NotLegal line c)
broken_more initial xs ys line c r = (
  λ k. r.0 (legal_less initial xs ys k),
  record {
    prefix = r.1.prefix;
    broken = r.1.broken;
    back = r.1.back ++ ys;
    split = ap (λ (l : List Numbered). l ++ ys) r.1.split ∙ append_assoc r.1.prefix (r.1.broken ∷ r.1.back) ys;
    number = r.1.number;
    before = r.1.before;
    breaks = r.1.breaks;
  },
)
