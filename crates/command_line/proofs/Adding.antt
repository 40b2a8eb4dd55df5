-- What clap is given, step by step.
use Rattle.std.proofs.Common.{◌≡◌, ◌∙◌, ℕ, ◌+◌, ◌<◌, refl, sym, ap, ap₂, subst, Bool, true, false, ◌||◌, List, [], ◌∷◌, ◌++◌, length, get_or, take, map, Bor}
use Rattle.std.proofs.lemmas.List.{map-append, take_more}
use Rattle.clap.specs.Simple.{new_shape}
use Rattle.clap.specs.Words.{AddsArg, AddsSubcommand, App, Rule, app_of, rule_of, with_rule, with_subcommand}
use Rattle.clap.specs.declared.builder.arg.Arg.{Arg}
use Rattle.clap.specs.declared.builder.command.Command.{Command}
use Rattle.command_line.specs.Given.{CommandForm, Named, Text, option}
use Rattle.command_line.specs.Program.{HasOneMore, IsLeaf, raw, raw_of}

or_false : (b c : Bool) → c ≡ false → (b || c) ≡ b
or_false true c e = refl
or_false false c e = e

pub one_more : (old new : Command) (a : Arg) (r : Rule) → a.global ≡ false → rule_of a ≡ r → AddsArg old a new → HasOneMore old r new
one_more old new a r local is h = record {
  app = h.shape local ∙ ap (with_rule (app_of old)) is;
  globals = h.globals ∙ or_false _ _ local;
}

pub added : (old sub new : Command) (a : App) (e : CommandForm) → app_of old ≡ a → IsLeaf e.0 e.1 sub → AddsSubcommand old sub new → app_of new ≡ with_subcommand a (raw_of e)
added old sub new a e is leaf h = h.shape leaf.globals ∙ ap₂ with_subcommand is (ap (λ (x : App). x.top) leaf.app)

leaf_more : (name : Text) (ks : List Named) (k : Named) (old new : Command) → IsLeaf name ks old → HasOneMore old (raw k) new → IsLeaf name (ks ++ k ∷ []) new
leaf_more name ks k old new is h = record {
  app = h.app ∙ ap (λ (a : App). with_rule a (raw k)) is.app ∙ ap (λ (rs : List Rule). record { top = record (new_shape name) { rules = rs }; subs = [] }) (sym (map-append raw ks (k ∷ [])));
  globals = h.globals ∙ is.globals;
}

abbrev pub options_of : List (Bor Text) → List Named
options_of names = map (λ t. option t.now) names

-- one option on
pub option_more : (name : Text) (names : List (Bor Text)) (i : ℕ) (d : Bor Text) (old new : Command) → i < length names → IsLeaf name (options_of (take i names)) old
    → HasOneMore old (raw (option (get_or names i d).now)) new → IsLeaf name (options_of (take (i + 1) names)) new
option_more name names i d old new within is h =
    let more : options_of (take (i + 1) names) ≡ options_of (take i names) ++ option (get_or names i d).now ∷ [] =
    ap options_of (take_more names i d within) ∙ map-append (λ t. option t.now) (take i names) (get_or names i d ∷ []) in
    subst (λ (ks : List Named). IsLeaf name ks new) (sym more) (leaf_more name _ _ old new is h)
