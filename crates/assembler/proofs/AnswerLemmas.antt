-- Answers to lines.
use Rattle.std.proofs.Common.{◌≡◌, ℕ, suc, ◌+◌, ◌-◌, ◌≤◌, inl, inr, Some, Result, Ok, Err, List, [], ◌∷◌, ◌++◌, length, drop, get_or, slice_get, arith, refl, sym, ap, subst, ◌∙◌, append_assoc, append-nil, length-append}
use Rattle.fuun_base.specs.declared.letters.Base.{Base}
use Rattle.fuun_base.specs.Lines.{lines}
use Rattle.assembler.specs.Lines.{IsTaken, IsRefusal}
use Rattle.dna_reader.specs.Codes.{pair_code, IsReadable}
use Rattle.dna_reader.proofs.CodeLemmas.{pair_code_is_read}
use Rattle.dna_reader.proofs.ReadableLemmas.{only_readable_is_read}
use Rattle.assembler.specs.declared.assembling.AsmError.{AsmError}
use Rattle.assembler.specs.declared.assembling.AsmError.TheVariants.{BadText, Unreadable, NoMemory}
use Rattle.assembler.specs.Answers.{Pair, AreTexts, pairs_code, ReadsPairs, IsRefusedAt, IsAnswer, IsAssembled}
use Rattle.assembler.specs.Laws.{HasAnswer, AnswerIsOne, AssembledIsRead, RefusedIsNotRead}
use Rattle.assembler.specs.Pairs.{IsPair, IsNoPair, IsUnreadable}
use Rattle.assembler.proofs.PairLemmas.{one_pair, pair_cases, readable_cases, not_both}

-- an answer

-- one line more before a refused one
refused_behind : (Why : List ℕ → Type 0) (line : List ℕ) (all : List (List ℕ)) (number : ℕ) (pair : Pair) → IsPair line pair.0 pair.1 → IsReadable pair.0 → IsRefusedAt Why all number → IsRefusedAt Why (line ∷ all) (number + 1)
refused_behind Why line all number pair is readable at = record {
  before = line ∷ at.before;
  line = at.line;
  behind = at.behind;
  whole = ap (λ l. line ∷ l) at.whole;
  number_is = let n = at.number_is in omega arith;
  pairs = pair ∷ at.pairs;
  taken = (is, readable, at.taken);
  refused = at.refused;
}

-- the first line is refused
refused_first : (Why : List ℕ → Type 0) (line : List ℕ) (all : List (List ℕ)) → Why line → IsRefusedAt Why (line ∷ all) 1
refused_first Why line all why = record { before = []; line = line; behind = all; whole = refl; number_is = refl; pairs = []; taken = tt; refused = why }

answer_behind : (line : List ℕ) (all : List (List ℕ)) (pair : Pair) → IsPair line pair.0 pair.1 → IsReadable pair.0 → (answer : Result (List Base) AsmError) → IsAnswer all answer → (whole : Result (List Base) AsmError) × IsAnswer (line ∷ all) whole
answer_behind line all pair is readable (Ok code) a =
    (Ok (pair_code pair.0 pair.1 ++ code), (pair ∷ a.0, (is, readable, a.1), ap (λ l. pair_code pair.0 pair.1 ++ l) a.2))
answer_behind line all pair is readable (Err (BadText number)) a = (Err (BadText (number + 1)), refused_behind IsNoPair line all number pair is readable a)
answer_behind line all pair is readable (Err (Unreadable number)) a = (Err (Unreadable (number + 1)), refused_behind IsUnreadable line all number pair is readable a)
answer_behind line all pair is readable (Err NoMemory) a = absurd a

pub has_answer : HasAnswer
has_answer [] = (Ok [], ([], tt, refl))
has_answer (line ∷ all) =
    elim (pair_cases line) [
      | inl none ↦ (Err (BadText 1), refused_first IsNoPair line all none)
      | inr found ↦
          elim (readable_cases found.0.0) [
            | inr bars ↦ (Err (Unreadable 1), refused_first IsUnreadable line all (found.0.0, found.0.1, found.1, bars))
            | inl readable ↦ let behind = has_answer all in answer_behind line all found.0 found.1 readable behind.0 behind.1
          ]
    ]

-- the only one

texts_once : (all : List (List ℕ)) (a b : List Pair) → AreTexts all a → AreTexts all b → a ≡ b
texts_once [] [] [] x y = refl
texts_once [] [] (p ∷ b) x y = absurd y
texts_once [] (p ∷ a) b x y = absurd x
texts_once (line ∷ all) [] b x y = absurd x
texts_once (line ∷ all) (p ∷ a) [] x y = absurd y
texts_once (line ∷ all) (p ∷ a) (q ∷ b) x y = ap (λ z. z ∷ a) (one_pair line p q x.0 y.0) ∙ ap (λ l. q ∷ l) (texts_once all a b x.2 y.2)

-- a line that cannot be taken
abbrev NotTaken : List ℕ → Type 0
NotTaken line = (pair : Pair) → IsPair line pair.0 pair.1 → IsReadable pair.0 → ⊥

bad_not_taken : (line : List ℕ) → IsNoPair line → NotTaken line
bad_not_taken line none pair is readable = none pair.0 pair.1 is

unreadable_not_taken : (line : List ℕ) → IsUnreadable line → NotTaken line
unreadable_not_taken line u pair is readable =
    let other : Pair = (u.0, u.1) in
    let same : pair ≡ other = one_pair line pair other is u.2 in
    not_both u.0 (subst (λ (p : Pair). IsReadable p.0) same readable) u.3

-- none of lines that are taken is such a line
all_taken : (before behind : List (List ℕ)) (line : List ℕ) (pairs : List Pair) → AreTexts (before ++ line ∷ behind) pairs → NotTaken line → ⊥
all_taken [] behind line [] x bars = x
all_taken [] behind line (pair ∷ pairs) x bars = bars pair x.0 x.1
all_taken (first ∷ before) behind line [] x bars = x
all_taken (first ∷ before) behind line (pair ∷ pairs) x bars = all_taken before behind line pairs x.2 bars

-- the first such line is one
first_once : (a b x y : List (List ℕ)) (l m : List ℕ) (p q : List Pair) → a ++ l ∷ x ≡ b ++ m ∷ y → AreTexts a p → AreTexts b q → NotTaken l → NotTaken m → (length a ≡ length b) × (l ≡ m)
first_once [] [] x y l m p q e s t bars none = (refl, ap (λ z. get_or z 0 []) e)
first_once [] (first ∷ b) x y l m p [] e s t bars none = absurd t
first_once [] (first ∷ b) x y l m p (pair ∷ q) e s t bars none =
    let same : l ≡ first = ap (λ z. get_or z 0 []) e in
    absurd (bars pair (subst (λ z. IsPair z pair.0 pair.1) (sym same) t.0) t.1)
first_once (first ∷ a) [] x y l m [] q e s t bars none = absurd s
first_once (first ∷ a) [] x y l m (pair ∷ p) q e s t bars none =
    let same : first ≡ m = ap (λ z. get_or z 0 []) e in
    absurd (none pair (subst (λ z. IsPair z pair.0 pair.1) same s.0) s.1)
first_once (first ∷ a) (second ∷ b) x y l m [] q e s t bars none = absurd s
first_once (first ∷ a) (second ∷ b) x y l m (pair ∷ p) [] e s t bars none = absurd t
first_once (first ∷ a) (second ∷ b) x y l m (pair ∷ p) (other ∷ q) e s t bars none =
    let behind = first_once a b x y l m p q (ap (drop 1) e) s.2 t.2 bars none in
    (ap suc behind.0, behind.1)

taken_or_refused : (Why : List ℕ → Type 0) (all : List (List ℕ)) (pairs : List Pair) (number : ℕ) → ((line : List ℕ) → Why line → NotTaken line) → AreTexts all pairs → IsRefusedAt Why all number → ⊥
taken_or_refused Why all pairs number bars texts at =
    all_taken at.before at.behind at.line pairs (subst (λ l. AreTexts l pairs) at.whole texts) (bars at.line at.refused)

refused_once : (Why Other : List ℕ → Type 0) (all : List (List ℕ)) (m n : ℕ) → ((line : List ℕ) → Why line → NotTaken line) → ((line : List ℕ) → Other line → NotTaken line)
    → (a : IsRefusedAt Why all m) (b : IsRefusedAt Other all n) → (m ≡ n) × (a.line ≡ b.line)
refused_once Why Other all m n bars none a b =
    let same = first_once a.before b.before a.behind b.behind a.line b.line a.pairs b.pairs (sym a.whole ∙ b.whole) a.taken b.taken (bars a.line a.refused) (none b.line b.refused) in
    (a.number_is ∙ ap (λ k. k + 1) same.0 ∙ sym b.number_is, same.1)

bad_or_unreadable : (all : List (List ℕ)) (m n : ℕ) → IsRefusedAt IsNoPair all m → IsRefusedAt IsUnreadable all n → ⊥
bad_or_unreadable all m n a b =
    let same = refused_once IsNoPair IsUnreadable all m n bad_not_taken unreadable_not_taken a b in
    let none : IsNoPair b.line = subst IsNoPair same.1 a.refused in
    let u = b.refused in
    none u.0 u.1 u.2

pub answer_is_one : AnswerIsOne
answer_is_one all (Ok a) (Ok b) x y = ap Ok (x.2 ∙ ap pairs_code (texts_once all x.0 y.0 x.1 y.1) ∙ sym y.2)
answer_is_one all (Ok a) (Err (BadText n)) x y = absurd (taken_or_refused IsNoPair all x.0 n bad_not_taken x.1 y)
answer_is_one all (Ok a) (Err (Unreadable n)) x y = absurd (taken_or_refused IsUnreadable all x.0 n unreadable_not_taken x.1 y)
answer_is_one all (Ok a) (Err NoMemory) x y = absurd y
answer_is_one all (Err (BadText m)) (Ok b) x y = absurd (taken_or_refused IsNoPair all y.0 m bad_not_taken y.1 x)
answer_is_one all (Err (BadText m)) (Err (BadText n)) x y = ap (λ k. Err (BadText k)) (refused_once IsNoPair IsNoPair all m n bad_not_taken bad_not_taken x y).0
answer_is_one all (Err (BadText m)) (Err (Unreadable n)) x y = absurd (bad_or_unreadable all m n x y)
answer_is_one all (Err (BadText m)) (Err NoMemory) x y = absurd y
answer_is_one all (Err (Unreadable m)) (Ok b) x y = absurd (taken_or_refused IsUnreadable all y.0 m unreadable_not_taken y.1 x)
answer_is_one all (Err (Unreadable m)) (Err (BadText n)) x y = absurd (bad_or_unreadable all n m y x)
answer_is_one all (Err (Unreadable m)) (Err (Unreadable n)) x y =
    ap (λ k. Err (Unreadable k)) (refused_once IsUnreadable IsUnreadable all m n unreadable_not_taken unreadable_not_taken x y).0
answer_is_one all (Err (Unreadable m)) (Err NoMemory) x y = absurd y
answer_is_one all (Err NoMemory) b x y = absurd x

-- the answer of a text
pub answer_of : List ℕ → Result (List Base) AsmError
answer_of text = (has_answer (lines text)).0

pub answer_of_is : (text : List ℕ) → IsAssembled text (answer_of text)
unfolding answer_of
answer_of_is text = (has_answer (lines text)).1

pub is_answer_of : (text : List ℕ) (answer : Result (List Base) AsmError) → IsAssembled text answer → answer ≡ answer_of text
is_answer_of text answer is = answer_is_one (lines text) answer (answer_of text) is (answer_of_is text)

-- what is read

pub texts_are_read : (all : List (List ℕ)) (pairs : List Pair) → AreTexts all pairs → ReadsPairs (pairs_code pairs) pairs []
texts_are_read [] [] x = refl
texts_are_read [] (pair ∷ pairs) x = absurd x
texts_are_read (line ∷ all) [] x = absurd x
texts_are_read (line ∷ all) (pair ∷ pairs) x = (pairs_code pairs, pair_code_is_read pair.0 pair.1 (pairs_code pairs) x.1, texts_are_read all pairs x.2)

pub assembled_is_read : AssembledIsRead
assembled_is_read all code a = (a.0, a.1, subst (λ c. ReadsPairs c a.0 []) (sym a.2) (texts_are_read all a.0 a.1))

line_there : (before behind : List (List ℕ)) (line : List ℕ) → slice_get (before ++ line ∷ behind) (length before) ≡ Some line
line_there [] behind line = refl
line_there (first ∷ before) behind line = line_there before behind line

pub refused_is_not_read : RefusedIsNotRead
refused_is_not_read all number at =
    let u = at.refused in
    let place : number - 1 ≡ length at.before = let n = at.number_is in omega arith in
    record {
      line = at.line;
      there = ap (slice_get all) place ∙ ap (λ l. slice_get l (length at.before)) at.whole ∙ line_there at.before at.behind at.line;
      pattern = u.0;
      template = u.1;
      pair = u.2;
      none = λ d rest reads. not_both u.0 (only_readable_is_read d u.0 rest reads) u.3;
    }

-- lines that are taken, one after the other

pub texts_more : (before : List (List ℕ)) (pairs : List Pair) (line : List ℕ) (pair : Pair) → AreTexts before pairs → IsPair line pair.0 pair.1 → IsReadable pair.0 → AreTexts (before ++ line ∷ []) (pairs ++ pair ∷ [])
texts_more [] [] line pair x is readable = (is, readable, tt)
texts_more [] (p ∷ pairs) line pair x is readable = absurd x
texts_more (first ∷ before) [] line pair x is readable = absurd x
texts_more (first ∷ before) (p ∷ pairs) line pair x is readable = (x.0, x.1, texts_more before pairs line pair x.2 is readable)

pub code_more : (pairs : List Pair) (pair : Pair) → pairs_code (pairs ++ pair ∷ []) ≡ pairs_code pairs ++ pair_code pair.0 pair.1
code_more [] pair = append-nil (pair_code pair.0 pair.1)
code_more (p ∷ pairs) pair = ap (λ l. pair_code p.0 p.1 ++ l) (code_more pairs pair) ∙ sym (append_assoc (pair_code p.0 p.1) (pairs_code pairs) (pair_code pair.0 pair.1))

-- the lines before the rest of a text are taken, the next one has this number, and their code is there
pub record IsSoFar (text rest : List ℕ) (number : ℕ) (code : List Base) : Type 0 where
  pub before : List (List ℕ)
  pub pairs : List Pair
  pub whole : lines text ≡ before ++ lines rest
  pub taken : AreTexts before pairs
  pub number_is : number ≡ length before + 1
  pub code_is : code ≡ pairs_code pairs

pub none_so_far : (text : List ℕ) → IsSoFar text text 1 []
none_so_far text = record { before = []; pairs = []; whole = refl; taken = tt; number_is = refl; code_is = refl }

-- the next line and those behind it
next_line : (text rest line more : List ℕ) (number : ℕ) (code : List Base) → (so_far : IsSoFar text rest number code) → lines rest ≡ line ∷ lines more → lines text ≡ so_far.before ++ line ∷ lines more
next_line text rest line more number code so_far first = so_far.whole ∙ ap (λ l. so_far.before ++ l) first

pub so_far_more : (text rest line more : List ℕ) (number : ℕ) (code next : List Base) → IsSoFar text rest number code → lines rest ≡ line ∷ lines more
    → IsTaken line code next → IsSoFar text more (number + 1) next
so_far_more text rest line more number code next so_far first is =
    let pair : Pair = (is.pattern, is.template) in
    record {
      before = so_far.before ++ line ∷ [];
      pairs = so_far.pairs ++ pair ∷ [];
      whole = next_line text rest line more number code so_far first ∙ sym (append_assoc so_far.before (line ∷ []) (lines more));
      taken = texts_more so_far.before so_far.pairs line pair so_far.taken is.pair is.readable;
      number_is = let n = so_far.number_is in omega (arith, length-append so_far.before (line ∷ []));
      code_is = is.added ∙ ap (λ c. c ++ pair_code is.pattern is.template) so_far.code_is ∙ sym (code_more so_far.pairs pair);
    }

refused_here : (Why : List ℕ → Type 0) (text rest line more : List ℕ) (number at : ℕ) (code : List Base) → IsSoFar text rest number code → lines rest ≡ line ∷ lines more
    → at ≡ number → Why line → IsRefusedAt Why (lines text) at
refused_here Why text rest line more number at code so_far first same why = record {
  before = so_far.before;
  line = line;
  behind = lines more;
  whole = next_line text rest line more number code so_far first;
  number_is = same ∙ so_far.number_is;
  pairs = so_far.pairs;
  taken = so_far.taken;
  refused = why;
}

pub refused_is_answer : (text rest line more : List ℕ) (number : ℕ) (code : List Base) (error : AsmError) → IsSoFar text rest number code → lines rest ≡ line ∷ lines more
    → IsRefusal line number error → (error ≡ NoMemory → ⊥) → IsAssembled text (Err error)
refused_is_answer text rest line more number code (BadText at) so_far first is other = refused_here IsNoPair text rest line more number at code so_far first is.0 is.1
refused_is_answer text rest line more number code (Unreadable at) so_far first is other = refused_here IsUnreadable text rest line more number at code so_far first is.0 is.1
refused_is_answer text rest line more number code NoMemory so_far first is other = absurd (other refl)

nothing_left : (rest : List ℕ) → length rest ≤ 0 → rest ≡ []
nothing_left [] few = refl
nothing_left (byte ∷ rest) few = absurd (omega arith)

pub all_is_answer : (text rest : List ℕ) (number : ℕ) (code : List Base) → IsSoFar text rest number code → length rest ≤ 0 → IsAssembled text (Ok code)
all_is_answer text rest number code so_far few =
    let whole : lines text ≡ so_far.before = so_far.whole ∙ ap (λ r. so_far.before ++ lines r) (nothing_left rest few) ∙ append-nil so_far.before in
    (so_far.pairs, subst (λ l. AreTexts l so_far.pairs) (sym whole) so_far.taken, so_far.code_is)
