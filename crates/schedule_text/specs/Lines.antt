-- Part of the statement: the lines of a schedule by their words.
use Rattle.std.specs.Prelude.{ℕ, ◌-◌, ◌^◌, ◌==◌, Bool, not, Result, Ok, Err, List, [], ◌∷◌, codes, IsTrue, if◌then◌else◌}
use Rattle.std.specs.List.{join_with_byte, list_all}
use Rattle.std.specs.Str.{bytes_eq}
use Rattle.voting_config.specs.Ids.{Id}
use Rattle.schedule_text.specs.declared.fault.WhyBad.{WhyBad}
use Rattle.schedule_text.specs.declared.fault.WhyBad.TheVariants as why
use Rattle.schedule_text.specs.declared.level.Level.{Level}
use Rattle.schedule_text.specs.declared.level.Level.TheVariants.{Core, Node}
use Rattle.schedule_text.specs.declared.schedule.Line.{Line}
use Rattle.schedule_text.specs.declared.schedule.Line.TheVariants as line
use Rattle.zen_disk.specs.declared.orders.Way.{Way}
use Rattle.voting_config.specs.Lists.{parts_of, line_feed, space}
use Rattle.schedule_text.specs.Words.{◌>>=◌, Word, listed, text, number, config, mode}

-- ---- the words after a verb

-- So many words, each of its kind: how they are spelled, and what words are read as. Another number of words is Arity, and
-- then the first bad word from the left says why.
pub record Args (A : Type 0) : Type 1 where
  pub spelling : A → List (List ℕ)
  pub at : List (List ℕ) → Result A WhyBad
  pub Fits : A → Type 0

abbrev pub one_word : List (List ℕ) → Result (List ℕ) WhyBad
one_word [] = Err why.Arity
one_word (v ∷ []) = Ok v
one_word (v ∷ w ∷ ws) = Err why.Arity

abbrev pub two_words : List (List ℕ) → Result (List ℕ × List ℕ) WhyBad
two_words [] = Err why.Arity
two_words (v ∷ ws) = one_word ws >>= λ w. Ok (v, w)

abbrev pub three_words : List (List ℕ) → Result (List ℕ × List ℕ × List ℕ) WhyBad
three_words [] = Err why.Arity
three_words (v ∷ ws) = two_words ws >>= λ w. Ok (v, w.0, w.1)

abbrev pub four_words : List (List ℕ) → Result (List ℕ × List ℕ × List ℕ × List ℕ) WhyBad
four_words [] = Err why.Arity
four_words (v ∷ ws) = three_words ws >>= λ w. Ok (v, w.0, w.1, w.2)

abbrev pub one : {A : Type 0} → Word A → Args A
one a = record {
  spelling = λ x. a.spelling x ∷ [];
  at = λ ws. one_word ws >>= a.at;
  Fits = a.Fits;
}

abbrev pub two : {A B : Type 0} → Word A → Word B → Args (A × B)
two {A} {B} a b = record {
  spelling = λ x. a.spelling x.0 ∷ b.spelling x.1 ∷ [];
  at = λ ws. two_words ws >>= λ w. a.at w.0 >>= λ x. b.at w.1 >>= λ y. Ok (x, y);
  Fits = λ x. a.Fits x.0 × b.Fits x.1;
}

abbrev pub three : {A B C : Type 0} → Word A → Word B → Word C → Args (A × B × C)
three {A} {B} {C} a b c = record {
  spelling = λ x. a.spelling x.0 ∷ b.spelling x.1 ∷ c.spelling x.2 ∷ [];
  at = λ ws. three_words ws >>= λ w. a.at w.0 >>= λ x. b.at w.1 >>= λ y. c.at w.2 >>= λ z. Ok (x, y, z);
  Fits = λ x. a.Fits x.0 × b.Fits x.1 × c.Fits x.2;
}

abbrev pub four : {A B C D : Type 0} → Word A → Word B → Word C → Word D → Args (A × B × C × D)
four {A} {B} {C} {D} a b c d = record {
  spelling = λ x. a.spelling x.0 ∷ b.spelling x.1 ∷ c.spelling x.2 ∷ d.spelling x.3 ∷ [];
  at = λ ws. four_words ws >>= λ w. a.at w.0 >>= λ x. b.at w.1 >>= λ y. c.at w.2 >>= λ z. d.at w.3 >>= λ u. Ok (x, y, z, u);
  Fits = λ x. a.Fits x.0 × b.Fits x.1 × c.Fits x.2 × d.Fits x.3;
}

-- no line feed stands in the bytes
abbrev pub is_one_line : List ℕ → Bool
is_one_line bytes = list_all (λ b. not (b == line_feed)) bytes

-- the first word, and what follows the space after it
abbrev pub word_and_rest : List (List ℕ) → Result (List ℕ × List ℕ) WhyBad
word_and_rest [] = Err why.Arity
word_and_rest (v ∷ []) = Err why.Arity
word_and_rest (v ∷ w ∷ ws) = Ok (v, join_with_byte space (w ∷ ws))

-- one word, one space, and any bytes of the line, further spaces included, which may be none
abbrev pub with_rest : {A : Type 0} → Word A → Args (A × List ℕ)
with_rest {A} a = record {
  spelling = λ x. a.spelling x.0 ∷ x.1 ∷ [];
  at = λ ws. word_and_rest ws >>= λ w. a.at w.0 >>= λ x. Ok (x, w.1);
  Fits = λ x. a.Fits x.0 × IsTrue (is_one_line x.1);
}

-- ---- the verbs

abbrev pub any_number : Word ℕ
any_number = number 0 (2 ^ 64 - 1)

-- the greatest number that a line counts by
abbrev pub most_ordinal : ℕ
most_ordinal = 4294967295

abbrev pub ordinal : Word ℕ
ordinal = number 1 most_ordinal

abbrev pub most_moment : ℕ
most_moment = 2 ^ 62

-- a moment in milliseconds
abbrev pub moment : Word ℕ
moment = number 0 most_moment

abbrev pub boot : List Id → Args Id
boot ids = one (listed ids)

abbrev pub start_join : List Id → Args (Id × Id × ℕ)
start_join ids = three (listed ids) (listed ids) any_number

abbrev pub value : List Id → Args (Id × ℕ × List ℕ × List Id)
value ids = four (listed ids) any_number text (config ids)

abbrev pub deliver : List Id → Args (Id × ℕ)
deliver ids = two (listed ids) ordinal

abbrev pub crash : List Id → Args (Id × Way)
crash ids = two (listed ids) mode

abbrev pub restart : List Id → Args Id
restart ids = one (listed ids)

abbrev pub fuse : List Id → Args (Id × ℕ × Way)
fuse ids = three (listed ids) ordinal mode

abbrev pub fail : List Id → Args (Id × ℕ)
fail ids = two (listed ids) ordinal

abbrev pub tick : List Id → Args (Id × ℕ × ℕ)
tick ids = three (listed ids) moment any_number

abbrev pub disconnect : List Id → Args (Id × Id)
disconnect ids = two (listed ids) (listed ids)

abbrev pub client : List Id → Args (Id × List ℕ)
client ids = with_rest (listed ids)

-- ---- a line

-- the words of a line, which stand one space apart
abbrev pub words_of : List ℕ → List (List ℕ)
words_of bytes = parts_of space bytes

-- the words of a line; the bytes after the node of a client's line stand for one word
abbrev pub line_words : Line → List (List ℕ)
line_words (line.Boot n) = codes "boot" ∷ n ∷ []
line_words (line.StartJoin n c t) = codes "startjoin" ∷ n ∷ c ∷ any_number.spelling t ∷ []
line_words (line.Value n v x cfg) = codes "value" ∷ n ∷ any_number.spelling v ∷ x ∷ (config []).spelling cfg ∷ []
line_words (line.Deliver n k) = codes "deliver" ∷ n ∷ ordinal.spelling k ∷ []
line_words (line.Crash n w) = codes "crash" ∷ n ∷ mode.spelling w ∷ []
line_words (line.Restart n) = codes "restart" ∷ n ∷ []
line_words (line.Fuse n k w) = codes "fuse" ∷ n ∷ ordinal.spelling k ∷ mode.spelling w ∷ []
line_words (line.Fail n k) = codes "fail" ∷ n ∷ ordinal.spelling k ∷ []
line_words (line.Tick n m w) = codes "tick" ∷ n ∷ moment.spelling m ∷ any_number.spelling w ∷ []
line_words (line.Client n r) = codes "client" ∷ n ∷ r ∷ []
line_words (line.Disconnect n p) = codes "disconnect" ∷ n ∷ p ∷ []

-- a line as it is written
abbrev pub line_text : Line → List ℕ
line_text l = join_with_byte space (line_words l)

-- a line of these nodes, at level core and at level node
abbrev pub FitsCore : List Id → Line → Type 0
FitsCore ids (line.Boot n) = (boot ids).Fits n
FitsCore ids (line.StartJoin n c t) = (start_join ids).Fits (n, c, t)
FitsCore ids (line.Value n v x cfg) = (value ids).Fits (n, v, x, cfg)
FitsCore ids (line.Deliver n k) = (deliver ids).Fits (n, k)
FitsCore ids (line.Crash n w) = (crash ids).Fits (n, w)
FitsCore ids (line.Restart n) = (restart ids).Fits n
FitsCore ids (line.Fuse n k w) = (fuse ids).Fits (n, k, w)
FitsCore ids (line.Fail n k) = (fail ids).Fits (n, k)
FitsCore ids (line.Tick n m w) = ⊥
FitsCore ids (line.Client n r) = ⊥
FitsCore ids (line.Disconnect n p) = ⊥

abbrev pub FitsNode : List Id → Line → Type 0
FitsNode ids (line.Boot n) = ⊥
FitsNode ids (line.StartJoin n c t) = ⊥
FitsNode ids (line.Value n v x cfg) = ⊥
FitsNode ids (line.Deliver n k) = (deliver ids).Fits (n, k)
FitsNode ids (line.Crash n w) = (crash ids).Fits (n, w)
FitsNode ids (line.Restart n) = (restart ids).Fits n
FitsNode ids (line.Fuse n k w) = (fuse ids).Fits (n, k, w)
FitsNode ids (line.Fail n k) = (fail ids).Fits (n, k)
FitsNode ids (line.Tick n m w) = (tick ids).Fits (n, m, w)
FitsNode ids (line.Client n r) = (client ids).Fits (n, r)
FitsNode ids (line.Disconnect n p) = (disconnect ids).Fits (n, p)

abbrev pub FitsLine : Level → List Id → Line → Type 0
FitsLine Core ids l = FitsCore ids l
FitsLine Node ids l = FitsNode ids l

-- what the words after a verb are read as
abbrev pub boot_at : List Id → List (List ℕ) → Result Line WhyBad
boot_at ids ws = (boot ids).at ws >>= λ x. Ok (line.Boot x)

abbrev pub start_join_at : List Id → List (List ℕ) → Result Line WhyBad
start_join_at ids ws = (start_join ids).at ws >>= λ x. Ok (line.StartJoin x.0 x.1 x.2)

abbrev pub value_at : List Id → List (List ℕ) → Result Line WhyBad
value_at ids ws = (value ids).at ws >>= λ x. Ok (line.Value x.0 x.1 x.2 x.3)

abbrev pub deliver_at : List Id → List (List ℕ) → Result Line WhyBad
deliver_at ids ws = (deliver ids).at ws >>= λ x. Ok (line.Deliver x.0 x.1)

abbrev pub crash_at : List Id → List (List ℕ) → Result Line WhyBad
crash_at ids ws = (crash ids).at ws >>= λ x. Ok (line.Crash x.0 x.1)

abbrev pub restart_at : List Id → List (List ℕ) → Result Line WhyBad
restart_at ids ws = (restart ids).at ws >>= λ x. Ok (line.Restart x)

abbrev pub fuse_at : List Id → List (List ℕ) → Result Line WhyBad
fuse_at ids ws = (fuse ids).at ws >>= λ x. Ok (line.Fuse x.0 x.1 x.2)

abbrev pub fail_at : List Id → List (List ℕ) → Result Line WhyBad
fail_at ids ws = (fail ids).at ws >>= λ x. Ok (line.Fail x.0 x.1)

abbrev pub tick_at : List Id → List (List ℕ) → Result Line WhyBad
tick_at ids ws = (tick ids).at ws >>= λ x. Ok (line.Tick x.0 x.1 x.2)

abbrev pub disconnect_at : List Id → List (List ℕ) → Result Line WhyBad
disconnect_at ids ws = (disconnect ids).at ws >>= λ x. Ok (line.Disconnect x.0 x.1)

abbrev pub client_at : List Id → List (List ℕ) → Result Line WhyBad
client_at ids ws = (client ids).at ws >>= λ x. Ok (line.Client x.0 x.1)

-- a line that crashes a node, starts it again or lets its disk fail, by its verb
abbrev pub stop_verb_at : List Id → List ℕ → List (List ℕ) → Result Line WhyBad
stop_verb_at ids verb ws =
    if bytes_eq verb (codes "crash") then crash_at ids ws
    else (if bytes_eq verb (codes "restart") then restart_at ids ws
    else (if bytes_eq verb (codes "fuse") then fuse_at ids ws
    else (if bytes_eq verb (codes "fail") then fail_at ids ws
    else Err why.Verb)))

-- a line of both levels, by its verb
abbrev pub shared_verb_at : List Id → List ℕ → List (List ℕ) → Result Line WhyBad
shared_verb_at ids verb ws = if bytes_eq verb (codes "deliver") then deliver_at ids ws else stop_verb_at ids verb ws

-- a line of level core by its verb; the line `value` has a list of its own, and stands first
abbrev pub core_verb_at : List Id → List ℕ → List (List ℕ) → Result Line WhyBad
core_verb_at ids verb ws =
    if bytes_eq verb (codes "boot") then boot_at ids ws
    else (if bytes_eq verb (codes "startjoin") then start_join_at ids ws
    else shared_verb_at ids verb ws)

abbrev pub core_line_at : List Id → List ℕ → List (List ℕ) → Result Line WhyBad
core_line_at ids verb ws = if bytes_eq verb (codes "value") then value_at ids ws else core_verb_at ids verb ws

-- a line of level node by its verb; the line `client` has bytes of its own, and stands first
abbrev pub node_verb_at : List Id → List ℕ → List (List ℕ) → Result Line WhyBad
node_verb_at ids verb ws =
    if bytes_eq verb (codes "tick") then tick_at ids ws
    else (if bytes_eq verb (codes "disconnect") then disconnect_at ids ws
    else shared_verb_at ids verb ws)

abbrev pub node_line_at : List Id → List ℕ → List (List ℕ) → Result Line WhyBad
node_line_at ids verb ws = if bytes_eq verb (codes "client") then client_at ids ws else node_verb_at ids verb ws

abbrev pub verb_at : Level → List Id → List ℕ → List (List ℕ) → Result Line WhyBad
verb_at Core ids verb ws = core_line_at ids verb ws
verb_at Node ids verb ws = node_line_at ids verb ws

abbrev pub words_at : Level → List Id → List (List ℕ) → Result Line WhyBad
words_at level ids [] = Err why.Verb
words_at level ids (verb ∷ ws) = verb_at level ids verb ws

abbrev pub line_at : Level → List Id → List ℕ → Result Line WhyBad
line_at level ids bytes = words_at level ids (words_of bytes)
