use Rattle.std.proofs.Common.{◌≡◌, ◌+◌, Bool, true, false, List, ℕ, [], refl, ap, ◌∙◌}
use Rattle.std.specs.Prelude.{◌&&◌, codes, nat_eq, if◌then◌else◌}
use Rattle.std.specs.List.{starts_with}
use Rattle.std.specs.Str.{bytes_eq}
use Rattle.trace_summary.specs.Counted.{with_line, word_at}
use Rattle.trace_summary.proofs.counts.Counts.with.Goals as goal

-- the third word is looked up of an act alone
refused_by : (act : Bool) (ending third : List ℕ) → ending ≡ (if act then third else [])
    → (act && starts_with nat_eq ending (codes "refused:")) ≡ (act && starts_with nat_eq third (codes "refused:"))
refused_by true ending third e = ap (λ (x : List ℕ). starts_with nat_eq x (codes "refused:")) e
refused_by false ending third e = refl

crashed_by : (act : Bool) (word ending third : List ℕ) → ending ≡ (if act then third else [])
    → (if act then bytes_eq ending (codes "crashed") else bytes_eq word (codes "crashed")) ≡ (if act then bytes_eq third (codes "crashed") else bytes_eq word (codes "crashed"))
crashed_by true word ending third e = ap (λ (x : List ℕ). bytes_eq x (codes "crashed")) e
crashed_by false word ending third e = refl

pub returns : goal.returns
unfolding with_line
returns c =
    let word = c.first_word-word.ensures in
    let act : c.is_act-is_act.result ≡ bytes_eq (word_at 0 c.args.line.now) (codes "act") = c.is_act-is_act.ensures ∙ ap (λ (w : List ℕ). bytes_eq w (codes "act")) word in
    let third : c.ending-ending.result.now ≡ (if bytes_eq (word_at 0 c.args.line.now) (codes "act") then word_at 2 c.args.line.now else []) =
    c.ending-ending.ensures ∙ ap (λ (b : Bool). if b then word_at 2 c.args.line.now else []) act in
    λ i. record {
      steps = (c.in_ok-count.ensures ∙ ap (λ (b : Bool). c.args.self.steps + (if b then 1 else 0)) (c.is_step.ensures ∙ ap (λ (w : List ℕ). bytes_eq w (codes ">")) word)) i;
      acts = (c.in_ok-count-2.ensures ∙ ap (λ (b : Bool). c.args.self.acts + (if b then 1 else 0)) act) i;
      refused = (c.in_ok-count-3.ensures ∙ ap (λ (b : Bool). c.args.self.refused + (if b then 1 else 0))
          (c.is_refused.ensures ∙ ap (λ (b : Bool). b && starts_with nat_eq c.ending-ending.result.now (codes "refused:")) act ∙ refused_by (bytes_eq (word_at 0 c.args.line.now) (codes "act")) c.ending-ending.result.now (word_at 2 c.args.line.now) third)) i;
      won = (c.in_ok-count-4.ensures ∙ ap (λ (b : Bool). c.args.self.won + (if b then 1 else 0)) (c.is_won.ensures ∙ ap (λ (w : List ℕ). bytes_eq w (codes "won")) word)) i;
      committed = (c.in_ok-count-5.ensures ∙ ap (λ (b : Bool). c.args.self.committed + (if b then 1 else 0)) (c.is_committed.ensures ∙ ap (λ (w : List ℕ). bytes_eq w (codes "committed")) word)) i;
      crashes = (c.in_ok-count-6.ensures ∙ ap (λ (b : Bool). c.args.self.crashes + (if b then 1 else 0))
          (c.is_crash.ensures
          ∙ ap (λ (b : Bool). if b then bytes_eq c.ending-ending.result.now (codes "crashed") else bytes_eq c.first_word-word.result.now (codes "crashed")) act
          ∙ ap (λ (w : List ℕ). if bytes_eq (word_at 0 c.args.line.now) (codes "act") then bytes_eq c.ending-ending.result.now (codes "crashed") else bytes_eq w (codes "crashed")) word
          ∙ crashed_by (bytes_eq (word_at 0 c.args.line.now) (codes "act")) (word_at 0 c.args.line.now) c.ending-ending.result.now (word_at 2 c.args.line.now) third)) i;
    }
