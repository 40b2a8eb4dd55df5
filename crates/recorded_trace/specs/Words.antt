-- Part of the statement: the words of a line that shows an act or a record.
use Rattle.std.specs.Prelude.{ℕ, true, Result, Ok, Err, List, [], ◌∷◌}
use Rattle.voting_config.specs.Ids.{Id, is_id}
use Rattle.voting_config.specs.Lists.{parts_of}
use Rattle.cluster_state.specs.declared.state.StateId.{StateId}
use Rattle.schedule_text.specs.declared.fault.WhyBad.{WhyBad}
use Rattle.schedule_text.specs.declared.fault.WhyBad.TheVariants as why
use Rattle.schedule_text.specs.Words.{◌>>=◌, Word, itself, list}
use Rattle.schedule_text.specs.Lines.{two, any_number}
use Rattle.trace_text.specs.Trace.{id_text}

-- any id
abbrev pub node : Word Id
node = itself is_id why.Id

-- any ids, in their order
abbrev pub ids : Word (List Id)
ids = list (λ xs. true)

-- a term and a version, as `1/2`
abbrev pub state_id : Word StateId
state_id = record {
  spelling = λ x. id_text x.term x.version;
  at = λ w. (two any_number any_number).at (parts_of 47 w) >>= λ x. Ok (record { term = x.0; version = x.1 });
  Fits = λ x. any_number.Fits x.term × any_number.Fits x.version;
}

-- no word at all
abbrev pub no_word : List (List ℕ) → Result (Unit {0}) WhyBad
no_word [] = Ok tt
no_word (v ∷ ws) = Err why.Arity
