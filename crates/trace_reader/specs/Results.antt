-- Part of the statement of `zen_chart`: what the line of a result tells, by its words.
use Rattle.std.specs.Prelude.{ℕ, ◌-◌, ◌==◌, Bool, ◌||◌, Option, None, Some, Result, Ok, Err, List, [], ◌∷◌, length, take, drop, codes, nat_eq, if◌then◌else◌}
use Rattle.std.specs.List.{starts_with}
use Rattle.std.specs.Str.{bytes_eq}
use Rattle.voting_config.specs.Ids.{Id, is_id}
use Rattle.schedule_text.specs.declared.fault.WhyBad.{WhyBad}
use Rattle.schedule_text.specs.declared.fault.WhyBad.TheVariants as why
use Rattle.schedule_text.specs.Words.{◌>>=◌, Word, itself}
use Rattle.voting_config.specs.Lists.{parts_of}
use Rattle.schedule_text.specs.Lines.{one, two, word_and_rest, words_of, any_number}
use Rattle.trace_reader.specs.declared.said.Ending.{Ending}
use Rattle.trace_reader.specs.declared.said.Ending.TheVariants as ending
use Rattle.trace_reader.specs.declared.said.Mode.TheVariants as mode
use Rattle.trace_reader.specs.declared.said.Said.{Said}
use Rattle.trace_reader.specs.declared.said.Said.TheVariants as said

-- a node's id
abbrev pub node : Word Id
node = itself is_id why.Id

-- ---- the words after the first one

-- none
abbrev pub no_word : List (List ℕ) → Result (Unit {0}) WhyBad
no_word [] = Ok tt
no_word (v ∷ ws) = Err why.Arity

-- at least one
abbrev pub some_word : List (List ℕ) → Result (Unit {0}) WhyBad
some_word [] = Err why.Arity
some_word (v ∷ ws) = Ok tt

-- a node alone
abbrev pub node_alone : List (List ℕ) → Result Id WhyBad
node_alone ws = (one node).at ws

-- a node with something after it
abbrev pub node_with_rest : List (List ℕ) → Result Id WhyBad
node_with_rest ws = word_and_rest ws >>= λ w. node.at w.0

-- ---- acts

abbrev pub ending_at : List ℕ → Result Ending WhyBad
ending_at w =
    if bytes_eq w (codes "ok") then Ok ending.Taken
    else (if starts_with nat_eq w (codes "refused:") then Ok ending.Refused
    else (if bytes_eq w (codes "stopped") then Ok ending.Stopped
    else (if bytes_eq w (codes "disk") then Ok ending.Disk
    else (if bytes_eq w (codes "crashed") then Ok ending.Crashed
    else Err why.Verb))))

-- the word of an act
abbrev pub is_act_word : List ℕ → Bool
is_act_word w =
    bytes_eq w (codes "boot") || bytes_eq w (codes "startjoin") || bytes_eq w (codes "join") || bytes_eq w (codes "value")
    || bytes_eq w (codes "publish") || bytes_eq w (codes "response") || bytes_eq w (codes "commit")

-- the word of an act and its fields
abbrev pub act_words : List (List ℕ) → Result (Unit {0}) WhyBad
act_words ws = word_and_rest ws >>= λ w. if is_act_word w.0 then Ok tt else Err why.Verb

-- how an act ended, and the act
abbrev pub ended_act : Id → List (List ℕ) → Result Said WhyBad
ended_act n ws = word_and_rest ws >>= λ w. ending_at w.0 >>= λ e. act_words (words_of w.1) >>= λ u. Ok (said.Act n e)

abbrev pub act_at : List (List ℕ) → Result Said WhyBad
act_at ws = word_and_rest ws >>= λ w. node.at w.0 >>= λ n. ended_act n (words_of w.1)

abbrev pub won_at : List (List ℕ) → Result Said WhyBad
won_at ws = (two node any_number).at ws >>= λ x. Ok (said.Won x.0 x.1)

abbrev pub committed_at : Id → List (List ℕ) → Result Said WhyBad
committed_at actor ws = some_word ws >>= λ u. Ok (said.Committed actor)

-- ---- modes

abbrev pub mode_words : Id → List ℕ → List ℕ → Result Said WhyBad
mode_words n w rest =
    if bytes_eq w (codes "follower") then ((two node any_number).at (words_of rest) >>= λ x. Ok (said.Mode n mode.Follower x.1))
    else (if bytes_eq w (codes "candidate") then (any_number.at rest >>= λ t. Ok (said.Mode n mode.Candidate t))
    else (if bytes_eq w (codes "leader") then (any_number.at rest >>= λ t. Ok (said.Mode n mode.Leader t))
    else Err why.Verb))

abbrev pub mode_at : List (List ℕ) → Result Said WhyBad
mode_at ws = word_and_rest ws >>= λ w. node.at w.0 >>= λ n. word_and_rest (words_of w.1) >>= λ v. mode_words n v.0 v.1

-- ---- messages

-- the one part, where there is one
abbrev pub only_part : List (List ℕ) → Result (List ℕ) WhyBad
only_part [] = Err why.Id
only_part (v ∷ []) = Ok v
only_part (v ∷ w ∷ ws) = Err why.Id

-- a sender has a hyphen after it
abbrev pub sender_at : List ℕ → Result Id WhyBad
sender_at w = if bytes_eq (drop (length w - 1) w) (codes "-") then node.at (take (length w - 1) w) else Err why.Id

-- a receiver, or none for any node
abbrev pub receiver_at : List ℕ → Result (Option Id) WhyBad
receiver_at w = if bytes_eq w (codes "*") then Ok None else (node.at w >>= λ n. Ok (Some n))

abbrev pub ends_of : List (List ℕ) → Result Said WhyBad
ends_of [] = Err why.Id
ends_of (f ∷ ts) = only_part ts >>= λ t. sender_at f >>= λ from. receiver_at t >>= λ to. Ok (said.Sent from to)

-- the ends of a message
abbrev pub ends_at : List ℕ → Result Said WhyBad
ends_at w = ends_of (parts_of 62 w)

-- a message by its number, which is the next one
abbrev pub sent_at : ℕ → List ℕ → List (List ℕ) → Result Said WhyBad
sent_at next digits ws = any_number.at digits >>= λ k. if k == next then (word_and_rest ws >>= λ w. ends_at w.0) else Err why.Number

abbrev pub message_at : ℕ → List ℕ → List (List ℕ) → Result Said WhyBad
message_at next verb ws = if bytes_eq (take 1 verb) (codes "m") then sent_at next (drop 1 verb) ws else Err why.Verb

-- ---- all lines, by their first words

abbrev pub state_at : ℕ → List ℕ → List (List ℕ) → Result Said WhyBad
state_at next verb ws =
    if bytes_eq verb (codes "crashed") then (node_alone ws >>= λ n. Ok (said.Crashed n))
    else (if bytes_eq verb (codes "disk") then (node_alone ws >>= λ n. Ok (said.Disk n))
    else (if bytes_eq verb (codes "down") then (node_alone ws >>= λ n. Ok (said.Down n))
    else (if bytes_eq verb (codes "up") then (node_alone ws >>= λ n. Ok (said.Up n))
    else message_at next verb ws)))

abbrev pub note_at : ℕ → List ℕ → List (List ℕ) → Result Said WhyBad
note_at next verb ws =
    if bytes_eq verb (codes "record") then (node_with_rest ws >>= λ n. Ok (said.Opened n))
    else (if bytes_eq verb (codes "drop") then (node_with_rest ws >>= λ n. Ok (said.Dropped n))
    else (if bytes_eq verb (codes "reply") then (node_with_rest ws >>= λ n. Ok (said.Replied n))
    else state_at next verb ws))

abbrev pub delivery_at : Id → ℕ → List ℕ → List (List ℕ) → Result Said WhyBad
delivery_at actor next verb ws =
    if bytes_eq verb (codes "unsent") then (no_word ws >>= λ u. Ok (said.Unsent actor))
    else (if bytes_eq verb (codes "misrouted") then (no_word ws >>= λ u. Ok (said.Misrouted actor))
    else note_at next verb ws)

-- The line of a result after a line of the schedule of this node, where the next message has this number.
abbrev pub result_at : Id → ℕ → List ℕ → List (List ℕ) → Result Said WhyBad
result_at actor next verb ws =
    if bytes_eq verb (codes "act") then act_at ws
    else (if bytes_eq verb (codes "won") then won_at ws
    else (if bytes_eq verb (codes "committed") then committed_at actor ws
    else (if bytes_eq verb (codes "mode") then mode_at ws
    else delivery_at actor next verb ws)))
