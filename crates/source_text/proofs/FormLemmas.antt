-- Forms, a step at a time.
use Rattle.std.proofs.Common.{◌≡◌, ℕ, suc, ◌<◌, true, false, Result, Ok, Err, List, [], ◌∷◌, ◌++◌, length, arith, refl, sym, ap, ◌∙◌}
use Rattle.source_tokens.specs.declared.words.Token.{Token}
use Rattle.source_text.specs.declared.forms.Head.{Head}
use Rattle.source_text.specs.declared.forms.Spot.{Spot}
use Rattle.source_text.specs.declared.sequences.Kind.TheVariants.{Bases, Pattern, Template}
use Rattle.source_text.specs.declared.signs.Sign.TheVariants.{CloseBracket, Colon, OpenBracket, Semicolon}
use Rattle.source_text.specs.Forms.{Data, Define, Form, Mark, Pair, arrow, data_form, definition_form, form_of, head, label_form, pair_form, parameters, spot, spots, with_parameters}
use Rattle.source_text.specs.Names.{Names}
use Rattle.source_text.specs.Reading.{behind, behind_one, end_of, stands}
use Rattle.source_text.specs.Sequences.{Worth, closed, sequence}
use Rattle.source_text.proofs.PartLemmas.{some_most}

pub end_none : {A : Type 0} (found : A) (tokens : List Token) → length tokens ≡ 0 → end_of found tokens ≡ Ok found
end_none found [] none = refl
end_none found (token ∷ rest) none = absurd (omega arith)

pub end_some : {A : Type 0} (found : A) (tokens : List Token) (left : ℕ) → left ≡ length tokens → 0 < left → end_of found tokens ≡ Err left
end_some found [] left same some = absurd (omega arith)
end_some {A} found (token ∷ rest) left same some =
    let stop : ℕ → Result A ℕ = λ n. Err n in
    ap stop (sym same)

-- labels

pub label_bad : (tokens : List Token) (left : ℕ) → Err left ≡ spot tokens → label_form tokens ≡ Err left
label_bad tokens left e = rw (← e) refl

pub label_open : (tokens rest : List Token) (name : Spot) (left : ℕ) → Ok (name, rest) ≡ spot tokens → Err left ≡ behind Colon rest → label_form tokens ≡ Err left
label_open tokens rest name left e none = rw (← e, ← none) refl

pub label_read : (tokens rest more : List Token) (name : Spot) → Ok (name, rest) ≡ spot tokens → Ok more ≡ behind Colon rest → label_form tokens ≡ end_of (Mark name) more
label_read tokens rest more name e some = rw (← e, ← some) refl

module _ (names : Names) (line : ℕ) where
  -- data

  pub data_bad : (rest : List Token) (left : ℕ) → sequence names line Bases rest ≡ Err left → data_form names line rest ≡ Err left
  data_bad rest left e = rw e refl

  pub data_read : (rest more : List Token) (worth : Worth) → sequence names line Bases rest ≡ Ok (worth, more) → data_form names line rest ≡ end_of (Data worth) more
  data_read rest more worth e = rw e refl

  -- pairs

  pub pair_bad : (tokens : List Token) (left : ℕ) → sequence names line Pattern tokens ≡ Err left → pair_form names line tokens ≡ Err left
  pair_bad tokens left e = rw e refl

  pub pair_open : (tokens rest : List Token) (pattern : Worth) (left : ℕ) → sequence names line Pattern tokens ≡ Ok (pattern, rest) → Err left ≡ arrow rest → pair_form names line tokens ≡ Err left
  pair_open tokens rest pattern left e none = rw (e, ← none) refl

  pub pair_half : (tokens rest more : List Token) (pattern : Worth) (at left : ℕ) → sequence names line Pattern tokens ≡ Ok (pattern, rest) → Ok (at, more) ≡ arrow rest
      → sequence names line Template more ≡ Err left → pair_form names line tokens ≡ Err left
  pair_half tokens rest more pattern at left e some bad = rw (e, ← some, bad) refl

  pub pair_read : (tokens rest more end : List Token) (pattern template : Worth) (at : ℕ) → sequence names line Pattern tokens ≡ Ok (pattern, rest) → Ok (at, more) ≡ arrow rest
      → sequence names line Template more ≡ Ok (template, end) → pair_form names line tokens ≡ end_of (Pair pattern at template) end
  pair_read tokens rest more end pattern template at e some good = rw (e, ← some, good) refl

  -- definitions

  pub define_bad : (tokens rest : List Token) (given : Head) (left : ℕ) → Ok (given, rest) ≡ head tokens
      → ((make : Worth → Form) → form_of make (sequence (with_parameters 0 names given.parameters) line Template rest) ≡ Err left) → definition_form names line tokens ≡ Err left
  define_bad tokens rest given left e bad = rw (← e) (bad (λ template. Define given.name given.parameters template))

  pub define_read : (tokens rest : List Token) (given : Head) (template : Worth) → Ok (given, rest) ≡ head tokens
      → sequence (with_parameters 0 names given.parameters) line Template rest ≡ Ok (template, []) → definition_form names line tokens ≡ Ok (Define given.name given.parameters template)
  define_read tokens rest given template e good = rw (← e, good) refl

-- parameters as far as they are read

pub record SpotsFound (tokens : List Token) (found : List Spot) (rest : List Token) : Type 0 where
  pub most : ℕ
  pub room : length rest < most
  pub goes : parameters tokens ≡ spots most found rest

pub none_given : (tokens : List Token) → stands OpenBracket tokens ≡ false → parameters tokens ≡ Ok ([], tokens)
unfolding parameters
none_given tokens other = rw other refl

pub first_bad : (tokens : List Token) (left : ℕ) → stands OpenBracket tokens ≡ true → Err left ≡ spot (behind_one tokens) → parameters tokens ≡ Err left
unfolding parameters
first_bad tokens left is e = rw (is, ← e) refl

pub spots_first : (tokens rest : List Token) (first : Spot) → stands OpenBracket tokens ≡ true → Ok (first, rest) ≡ spot (behind_one tokens) → SpotsFound tokens (first ∷ []) rest
unfolding parameters
spots_first tokens rest first is e = record { most = suc (length rest); room = omega arith; goes = rw (is, ← e) refl }

s_turn : (most : ℕ) (found : List Spot) (rest left : List Token) (next : Spot) → stands Semicolon rest ≡ true → Ok (next, left) ≡ spot (behind_one rest) → spots (suc most) found rest ≡ spots most (found ++ next ∷ []) left
unfolding spots
s_turn most found rest left next is e = rw (is, ← e) refl

s_stop : (most : ℕ) (found : List Spot) (rest : List Token) (left : ℕ) → stands Semicolon rest ≡ true → Err left ≡ spot (behind_one rest) → spots (suc most) found rest ≡ Err left
unfolding spots
s_stop most found rest left is e = rw (is, ← e) refl

s_last : (most : ℕ) (found : List Spot) (rest : List Token) → stands Semicolon rest ≡ false → spots (suc most) found rest ≡ closed CloseBracket found rest
unfolding spots
s_last most found rest other = rw other refl

pub spots_more : (tokens : List Token) (found now : List Spot) (rest left : List Token) (next : Spot) → stands Semicolon rest ≡ true → Ok (next, left) ≡ spot (behind_one rest) → length left < length rest
    → now ≡ found ++ next ∷ [] → SpotsFound tokens found rest → SpotsFound tokens now left
spots_more tokens found now rest left next is e fewer added before =
    let m = some_most (length rest) before.most before.room in
    record {
      most = m.0;
      room = omega (arith, m.2);
      goes = before.goes ∙ ap (λ k. spots k found rest) m.1 ∙ s_turn m.0 found rest left next is e ∙ ap (λ f. spots m.0 f left) (sym added);
    }

pub spots_bad : (tokens : List Token) (found : List Spot) (rest : List Token) (left : ℕ) → stands Semicolon rest ≡ true → Err left ≡ spot (behind_one rest) → SpotsFound tokens found rest → parameters tokens ≡ Err left
spots_bad tokens found rest left is e before =
    let m = some_most (length rest) before.most before.room in
    before.goes ∙ ap (λ k. spots k found rest) m.1 ∙ s_stop m.0 found rest left is e

pub spots_end : (tokens : List Token) (found : List Spot) (rest : List Token) → stands Semicolon rest ≡ false → SpotsFound tokens found rest → parameters tokens ≡ closed CloseBracket found rest
spots_end tokens found rest other before =
    let m = some_most (length rest) before.most before.room in
    before.goes ∙ ap (λ k. spots k found rest) m.1 ∙ s_last m.0 found rest other
