-- What a patch file compiles to, by what is known of its rows.
use Rattle.std.proofs.Common.{◌≡◌, ℕ, ◌<◌, ◌≤◌, Ok, Err, length, refl, ap, ◌∙◌}
use Rattle.std.proofs.lemmas.Bool.{lt-ltb, le-ltb}
use Rattle.patch_text.specs.Contents.{Contents}
use Rattle.patch_text.specs.Lengths.{AllFit, IsOutside}
use Rattle.patch_text.proofs.Outsides.{fit_has_no_outside, outside_is_one}
use Rattle.patch_compile.specs.declared.compiling.CompileError.{CompileError}
use Rattle.patch_compile.specs.declared.compiling.CompileError.TheVariants.{Outside, TooLong, NoMemory}
use Rattle.patch_compile.specs.Code.{prefix}
use Rattle.patch_compile.specs.Compiled.{prefix_within, unless_outside, compiled}

without_outside : (contents : Contents) (limit : ℕ) → AllFit contents.stated contents.rows → compiled contents limit ≡ prefix_within limit (prefix contents.rows)
without_outside contents limit fit = ap (λ o. unless_outside o limit contents.rows) (fit_has_no_outside contents fit)

pub taken : (contents : Contents) (limit : ℕ) → AllFit contents.stated contents.rows → length (prefix contents.rows) ≤ limit → compiled contents limit ≡ Ok (prefix contents.rows)
taken contents limit fit within = without_outside contents limit fit ∙ rw (le-ltb limit (length (prefix contents.rows)) within) refl

pub outside_first : (contents : Contents) (limit number : ℕ) → IsOutside contents number → compiled contents limit ≡ Err (Outside number)
outside_first contents limit number is = ap (λ o. unless_outside o limit contents.rows) (outside_is_one contents number is)

pub refused : (contents : Contents) (limit : ℕ) (error : CompileError) → AllFit contents.stated contents.rows → (error ≡ TooLong → limit < length (prefix contents.rows)) → ((index : ℕ) → error ≡ Outside index → ⊥)
    → ¬ (error ≡ NoMemory) → compiled contents limit ≡ Err error
refused contents limit (Outside index) fit past inside other = absurd (inside index refl)
refused contents limit TooLong fit past inside other = without_outside contents limit fit ∙ rw (lt-ltb limit (length (prefix contents.rows)) (past refl)) refl
refused contents limit NoMemory fit past inside other = absurd (other refl)
