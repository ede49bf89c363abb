-- Lengths of numbers and of quoted ranges.
use Rattle.std.proofs.Common.{◌≡◌, inl, inr, ℕ, ◌+◌, ◌-◌, ◌*◌, ◌/◌, ◌^◌, ◌<◌, ◌≤◌, List, [], ◌∷◌, ◌++◌, length, slice_range, arith, refl, sym, ap, ◌∙◌, append-nil}
use Rattle.std.proofs.lemmas.Bool.{cases_lt}
use Rattle.fuun_base.specs.declared.letters.Base.{Base}
use Rattle.fuun_base.specs.Quote.{quote, protect, asnat}
use Rattle.fuun_base.proofs.AsnatLemmas.{asnat-zero, asnat-digit, length-asnat_le}
use Rattle.fuun_base.proofs.QuoteLemmas.{length-quote, protect_of-nil, protect_more}
use Rattle.fuun_base.proofs.Counting.{tally_total-tally_of}
use Rattle.strand.proofs.Levels.{protect_zero}
use Rattle.strand.proofs.Ranges.{length-range}

pub length_of_zero : (n : ℕ) → n ≡ 0 → length (asnat n) ≡ 1
length_of_zero n zero = ap (λ m. length (asnat m)) zero ∙ ap length asnat-zero

pub length_of_digit : (n : ℕ) → 0 < n → length (asnat n) ≡ length (asnat (n / 2)) + 1
length_of_digit n some = omega (arith, ap length (asnat-digit n some))

pub length_of_word : (n : ℕ) → n < 2 ^ 64 → length (asnat n) ≤ 65
length_of_word n fits = length-asnat_le 64 n fits

-- what has a text is what that text is put as, where it is put as it stands
pub plain_text : (part text : List Base) (level : ℕ) → level ≡ 0 → part ≡ text → part ≡ protect level text
plain_text part text level plain same = same ∙ sym (ap (λ n. protect n text) plain ∙ protect_zero text)

-- a range that is put as it stands has its own length
pub length_of_plain : (d text : List Base) (lo hi level : ℕ) → level ≡ 0 → hi ≤ length d → slice_range d lo hi ≡ text → hi - lo ≡ length (protect level text)
length_of_plain d text lo hi level plain within here =
    sym (length-range d lo hi within) ∙ ap length (plain_text (slice_range d lo hi) text level plain here)

-- an empty range puts nothing, whatever the level
pub nothing_put : (front d : List Base) (lo hi level : ℕ) → lo ≡ hi → hi ≤ length d → front ≡ front ++ protect level (slice_range d lo hi)
nothing_put front d lo hi level same within =
    let none : length (slice_range d lo hi) ≡ 0 = omega (arith, length-range d lo hi within) in
    let empty : slice_range d lo hi ≡ [] = nil_of (slice_range d lo hi) none in
    sym (append-nil front) ∙ ap (λ e. front ++ e) (sym (ap (protect level) empty ∙ protect_of-nil level))
  where
    nil_of : (e : List Base) → length e ≡ 0 → e ≡ []
    nil_of [] none = refl
    nil_of (b ∷ e) none = absurd (omega arith)

-- a text that is put behind a list: as it stands, quoted once, or quoted once more than before
pub put_plain : (front text : List Base) (level : ℕ) → level ≡ 0 → front ++ text ≡ front ++ protect level text
put_plain front text level plain = ap (λ e. front ++ e) (plain_text text text level plain refl)

pub quoted_once : (text : List Base) (level : ℕ) → level ≡ 1 → quote text ≡ protect level text
quoted_once text level once =
    let is : level ≡ 0 + 1 = omega arith in
    sym (ap (λ n. protect n text) is ∙ protect_more 0 text ∙ ap quote (protect_zero text))

pub quoted_more : (text before : List Base) (level : ℕ) → 0 < level → before ≡ protect (level - 1) text → quote before ≡ protect level text
quoted_more text before level some is =
    let whole : level - 1 + 1 ≡ level = omega arith in
    ap quote is ∙ sym (protect_more (level - 1) text) ∙ ap (λ n. protect n text) whole

-- a text that is quoted once or not at all is at most twice as long
length_once : (text : List Base) (level : ℕ) → level ≤ 1 → length (protect level text) ≤ 2 * length text
length_once text level most = elim (cases_lt 0 level) [
  | inl some ↦
      let once : level ≡ 1 = omega (arith, most, some) in
      omega (arith, ap length (quoted_once text level once), length-quote text, tally_total-tally_of text)
  | inr none ↦
      let plain : level ≡ 0 = omega (arith, none) in
      omega (arith, ap length (plain_text text text level plain refl))
]

pub length_of_few : (d : List Base) (lo hi level : ℕ) → hi ≤ length d → hi ≤ lo + 64 → level ≤ 1 → length (protect level (slice_range d lo hi)) ≤ 128
length_of_few d lo hi level within few most =
    let len : length (slice_range d lo hi) ≡ hi - lo = length-range d lo hi within in
    omega (arith, len, few, length_once (slice_range d lo hi) level most)
