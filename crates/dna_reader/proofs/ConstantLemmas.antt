-- Constants: the longest list whose quote begins the DNA.
use Rattle.std.proofs.Common.{◌≡◌, ◌≤◌, List, [], ◌∷◌, ◌++◌, length, arith, refl, ap, sym, ◌∙◌, length-append, append-nil}
use Rattle.fuun_base.specs.declared.letters.Base.{Base}
use Rattle.fuun_base.specs.declared.letters.Base.TheVariants.{I, C, F, P}
use Rattle.fuun_base.specs.Quote.{quote}
use Rattle.dna_reader.specs.Constants.{QuoteBegins, consts}
use Rattle.dna_reader.specs.ReadingLaws.{ConstantsAreLongest, ConstantsAreOne}

pub consts_begin : (d : List Base) → QuoteBegins (consts d) d
consts_begin [] = ([], refl)
consts_begin (C ∷ d) = ((consts_begin d).0, ap (λ l. C ∷ l) (consts_begin d).1)
consts_begin (F ∷ d) = ((consts_begin d).0, ap (λ l. F ∷ l) (consts_begin d).1)
consts_begin (P ∷ d) = ((consts_begin d).0, ap (λ l. P ∷ l) (consts_begin d).1)
consts_begin (I ∷ []) = (I ∷ [], refl)
consts_begin (I ∷ C ∷ d) = ((consts_begin d).0, ap (λ l. I ∷ C ∷ l) (consts_begin d).1)
consts_begin (I ∷ I ∷ d) = (I ∷ I ∷ d, refl)
consts_begin (I ∷ F ∷ d) = (I ∷ F ∷ d, refl)
consts_begin (I ∷ P ∷ d) = (I ∷ P ∷ d, refl)

-- behind a quote the constants go on
pub consts-quote : (s rest : List Base) → consts (quote s ++ rest) ≡ s ++ consts rest
consts-quote [] rest = refl
consts-quote (I ∷ s) rest = ap (λ l. I ∷ l) (consts-quote s rest)
consts-quote (C ∷ s) rest = ap (λ l. C ∷ l) (consts-quote s rest)
consts-quote (F ∷ s) rest = ap (λ l. F ∷ l) (consts-quote s rest)
consts-quote (P ∷ s) rest = ap (λ l. P ∷ l) (consts-quote s rest)

-- a list whose quote begins the DNA is a front of the constants
pub consts_front : (s d : List Base) → (begins : QuoteBegins s d) → consts d ≡ s ++ consts begins.0
consts_front s d begins = ap consts begins.1 ∙ consts-quote s begins.0

pub constants_are_longest : ConstantsAreLongest
constants_are_longest d = record {
  begins = consts_begin d;
  longest = λ t begins. let e = ap length (consts_front t d begins) in omega (arith, e, length-append t (consts begins.0));
}

empty : (s : List Base) → length s ≤ 0 → s ≡ []
empty [] h = refl
empty (b ∷ s) h = absurd (omega arith)

pub constants_are_one : ConstantsAreOne
constants_are_one s d is =
    let front = consts_front s d is.begins in
    let e = ap length front in
    let most = is.longest (consts d) (consts_begin d) in
    let none : consts is.begins.0 ≡ [] = empty (consts is.begins.0) (omega (arith, length-append s (consts is.begins.0))) in
    sym (front ∙ ap (λ l. s ++ l) none ∙ append-nil s)

-- the quote of the constants is there
pub constants_within : (d : List Base) → length (quote (consts d)) ≤ length d
constants_within d = let e = ap length (consts_begin d).1 in omega (arith, length-append (quote (consts d)) (consts_begin d).0)
