use Rattle.std.proofs.Common.{Err, Ok, ◌<◌, ◌≤◌, length, ℕ, ◌≡◌, List, reverse, sym, ap, ◌∙◌, subst}
use Rattle.std.proofs.lemmas.List.{reverse-reverse}
use Rattle.fuun_base.specs.declared.letters.Base.{Base}
use Rattle.patch_text.specs.Lengths.{AllFit}
use Rattle.patch_text.proofs.Bounds.{within}
use Rattle.patch_compile.specs.declared.compiling.CompileError.TheVariants.{Outside, TooLong}
use Rattle.patch_compile.specs.Code.{prefix}
use Rattle.patch_compile.specs.Law.{CarriesOut}
use Rattle.patch_compile.proofs.Answered as answered
use Rattle.patch_compile.proofs.Carried.{prefix_carries_out}
use Rattle.patch_compile.proofs.compiling.compile.Goals as goal

pub reversed_prefix-requires-clause-small : goal.reversed_prefix-requires-clause-small
reversed_prefix-requires-clause-small c = rw c.rows.ensures.rows (within c.args.file.now c.rows.ensures.bounded).numbers

pub returns-in-Ok-from_vec-clause-carries_out : goal.returns-in-Ok-from_vec-clause-carries_out
returns-in-Ok-from_vec-clause-carries_out c =
    let rows = c.args.file.now.rows in
    let fit : AllFit c.args.file.now.stated rows = c.in_default.ensures in
    let bases : c.in-Ok.bases.items ≡ reverse (prefix rows) = c.in-Ok.ensures.prefix ∙ ap (λ l. reverse (prefix l)) c.rows.ensures.rows in
    let is : c.in-Ok-from_vec.list ≡ prefix rows = c.in-Ok-from_vec.ensures ∙ c.reverse.ensures.items ∙ ap reverse bases ∙ reverse-reverse (prefix rows) in
    subst (λ (l : List Base). CarriesOut c.args.file.now l) (sym is) (prefix_carries_out c.args.file.now fit)

pub returns-in-Some-clause-refused : goal.returns-in-Some-clause-refused
returns-in-Some-clause-refused c other = answered.outside_first c.args.file.now c.args.limit c.in-Some.index c.in-Some.ensures

pub returns-in-Ok-from_vec-clause-taken : goal.returns-in-Ok-from_vec-clause-taken
returns-in-Ok-from_vec-clause-taken c =
    let rows = c.args.file.now.rows in
    let fit : AllFit c.args.file.now.stated rows = c.in_default.ensures in
    let bases : c.in-Ok.bases.items ≡ reverse (prefix rows) = c.in-Ok.ensures.prefix ∙ ap (λ l. reverse (prefix l)) c.rows.ensures.rows in
    let is : c.in-Ok-from_vec.list ≡ prefix rows = c.in-Ok-from_vec.ensures ∙ c.reverse.ensures.items ∙ ap reverse bases ∙ reverse-reverse (prefix rows) in
    let within : length (prefix rows) ≤ c.args.limit = rw (← c.rows.ensures.rows) c.in-Ok.ensures.within in
    answered.taken c.args.file.now c.args.limit fit within ∙ ap Ok (sym is)

pub returns-in-Err-clause-refused : goal.returns-in-Err-clause-refused
returns-in-Err-clause-refused c other =
    let rows = c.args.file.now.rows in
    let fit : AllFit c.args.file.now.stated rows = c.in_default.ensures in
    let past : c.in-Err.error ≡ TooLong → c.args.limit < length (prefix rows) = λ e. rw (← c.rows.ensures.rows) (c.reversed_prefix.ensures.too_long (c.in-Err.is ∙ ap Err e)) in
    let inside : (index : ℕ) → c.in-Err.error ≡ Outside index → ⊥ = λ index e. c.reversed_prefix.ensures.inside index (c.in-Err.is ∙ ap Err e) in
    answered.refused c.args.file.now c.args.limit c.in-Err.error fit past inside other
