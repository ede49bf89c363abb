-- A verb's command is simple, and finds nothing exactly where it refuses the words.
use Rattle.std.proofs.Common.{◌≡◌, ◌≢◌, ◌⊎◌, inl, inr, ◌∙◌, true, false, List, [], ◌∷◌, ◌++◌, map, fold, Some, None, refl, sym, ap, append-nil, append_assoc, ℕ}
use Rattle.std.specs.List.{list_all, list_any}
use Rattle.clap.specs.Faults.{fault_of, is_simple_and_free}
use Rattle.clap.specs.Kinds.{IsAmong, Kinds}
use Rattle.clap.specs.Simple.{App, filled_from, help_rule, is_simple, matches_of, new_app, on_top, with_rule}
use Rattle.clap.specs.Walk.{Row, Rule, Text, is_early_multiple}
use Rattle.clap.specs.declared.error.kind.ErrorKind.{ErrorKind}
use Rattle.clap.specs.declared.error.kind.ErrorKind.TheVariants.{OutOfMemory}
use Rattle.clap.proofs.WalkLemmas.{both}
use Rattle.fuun_words.specs.Commands.{VerbOption, command, found_by, rule_of_option, unless_refused}

abbrev with_rules : App → List Rule → App
with_rules app rules = on_top (λ s. record s { rules = s.rules ++ rules }) app

all_rules : (app : App) (options : List VerbOption) → fold (λ a o. with_rule a (rule_of_option o)) app options ≡ with_rules app (map rule_of_option options)
all_rules app [] = ap (λ rules. on_top (λ s. record s { rules = rules }) app) (sym (append-nil app.top.rules))
all_rules app (o ∷ more) =
    all_rules (with_rule app (rule_of_option o)) more
    ∙ ap (λ rules. on_top (λ s. record s { rules = rules }) app) (append_assoc app.top.rules (rule_of_option o ∷ []) (map rule_of_option more))

abbrev rules_after : List VerbOption → List Rule
rules_after options = filled_from 1 (map rule_of_option options ++ help_rule ∷ [])

given_simple : (options : List VerbOption) → list_all (λ a. a.is_simple) (map rule_of_option options) ≡ true
given_simple [] = refl
given_simple (o ∷ more) = given_simple more

built_simple : (options : List VerbOption) → list_all (λ a. a.is_simple) (rules_after options) ≡ true
built_simple [] = refl
built_simple (o ∷ more) = built_simple more

built_free : (options : List VerbOption) → list_all (λ a. a.is_free) (rules_after options) ≡ true
built_free [] = refl
built_free (o ∷ more) = built_free more

built_ordered : (n : ℕ) (options : List VerbOption) → list_any (is_early_multiple n) (rules_after options) ≡ false
built_ordered n [] = refl
built_ordered n (o ∷ more) = built_ordered n more

plain : (verb : Text) (options : List VerbOption) → is_simple_and_free (with_rules (new_app verb) (map rule_of_option options)) ≡ true
plain verb options = rw (given_simple options, built_simple options, built_free options, built_ordered _ options) refl

-- a verb's command is one whose matches and refusals clap defines
pub command_is_simple : (verb : Text) (options : List VerbOption) → is_simple_and_free (command verb options) ≡ true
command_is_simple verb options = rw (all_rules (new_app verb) options) (plain verb options)

-- what was matched is what the command finds
pub found_where_taken : (verb : Text) (options : List VerbOption) (app : App) (words : List Text) (rows : List Row) → app ≡ command verb options
    → (is_simple_and_free app ≡ true → fault_of app words ≡ []) → (is_simple app ≡ true → rows ≡ matches_of app words)
    → found_by (command verb options) words ≡ Some rows
unfolding found_by
found_where_taken verb options app words rows same faults matches =
    let free : is_simple_and_free app ≡ true = rw same (command_is_simple verb options) in
    let simple = both (is_simple app) _ free in
    rw (← same) (go (fault_of app words) rows (matches_of app words) (faults free) (matches simple.0))
  where
    go : (kinds : Kinds) (rows found : List Row) → kinds ≡ [] → rows ≡ found → unless_refused kinds found ≡ Some rows
    go kinds rows found none same = rw (none, same) refl

-- a command that gave one of the kinds of its fault finds nothing
pub not_found_where_refused : (verb : Text) (options : List VerbOption) (app : App) (words : List Text) (kind : ErrorKind) → app ≡ command verb options
    → (is_simple_and_free app ≡ true → (kind ≡ OutOfMemory) ⊎ IsAmong kind (fault_of app words)) → kind ≢ OutOfMemory
    → found_by (command verb options) words ≡ None
unfolding found_by
not_found_where_refused verb options app words kind same faults other =
    let free : is_simple_and_free app ≡ true = rw same (command_is_simple verb options) in
    rw (← same) (go (fault_of app words) (matches_of app words) (faults free))
  where
    go : (kinds : Kinds) (rows : List Row) → (kind ≡ OutOfMemory) ⊎ IsAmong kind kinds → unless_refused kinds rows ≡ None
    go kinds rows (inl memory) = absurd (other memory)
    go [] rows (inr among) = absurd among
    go (k ∷ more) rows (inr among) = refl
