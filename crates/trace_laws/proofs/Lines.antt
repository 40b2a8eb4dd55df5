-- What the words of a line tell.
use Rattle.std.proofs.Common.{◌≡◌, ℕ, true, Result, Ok, Option, List, ◌++◌, refl, ap, ◌∙◌, codes, IsTrue}
use Rattle.voting_config.specs.Ids.{Id, is_id}
use Rattle.schedule_text.specs.declared.fault.WhyBad.{WhyBad}
use Rattle.schedule_text.specs.Words.{◌>>=◌}
use Rattle.schedule_text.specs.Lines.{words_of}
use Rattle.schedule_text.proofs.WordLaws.{lacks}
use Rattle.trace_reader.specs.declared.progress.Progress.{Progress}
use Rattle.trace_reader.specs.declared.said.Said.{Said}
use Rattle.trace_reader.specs.Reading.{result_behind, words_said}
use Rattle.trace_reader.specs.Results.{node, result_at}
use Rattle.trace_laws.specs.Laws.{IsRead, IsResult}
use Rattle.line_laws.proofs.Cuts.{done}

-- what the words of a line tell, the line tells
pub read_by : (p : Progress) (text : List ℕ) (t : Said) → lacks 10 text ≡ true → words_said p (words_of text) ≡ Ok t → IsRead p (text ++ codes "\n") t
read_by p text t h e = record {
  line = text;
  is = refl;
  alone = h;
  tells = λ sized. ap (λ (r : Result (Unit {0}) WhyBad). r >>= λ (u : Unit {0}). words_said p (words_of text)) sized ∙ e;
}

pub id_again : (n : Id) → IsTrue (is_id n) → node.at n ≡ done n
id_again n h = rw h refl

-- the result of a verb
pub result_read : (p : Progress) (actor : Id) (verb : List ℕ) (ws : List (List ℕ)) (t : Said) → IsResult p actor → result_at actor p.next verb ws ≡ Ok t → result_behind p.actor p.next verb ws ≡ Ok t
result_read p actor verb ws t is e = ap (λ (a : Option Id). result_behind a p.next verb ws) is ∙ e
