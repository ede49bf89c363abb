-- Bases that are drawn one by one, and marks that go on.
use Rattle.std.proofs.Common.{◌≡◌, ℕ, zero, suc, ◌+◌, ◌*◌, ◌%◌, ◌<◌, List, [], ◌∷◌, ◌++◌, length, take, drop, set, get_or, arith, refl, sym, ap, ◌∙◌, add-one, drop-cons}
use Rattle.std.proofs.Math.Seq.{take-append_seam}
use Rattle.std.proofs.lemmas.List.{take_more_set}
use Rattle.fuun_base.specs.declared.letters.Base.{Base}
use Rattle.workload.specs.Numbers.{behind, base_of, drawn, bases_drawn, turned}
use Rattle.workload.specs.Mark.{mark_behind, marked}

behind_suc : (draws x : ℕ) → behind (suc draws) x ≡ behind 1 (behind draws x)
behind_suc zero x = refl
behind_suc (suc draws) x = behind_suc draws (turned (turned x))

pub behind_more : (draws x : ℕ) → behind (draws + 1) x ≡ behind 1 (behind draws x)
behind_more draws x = ap (λ k. behind k x) (add-one draws) ∙ behind_suc draws x

bases_suc : (count x : ℕ) → bases_drawn (suc count) x ≡ bases_drawn count x ++ base_of (drawn (behind count x) 4) ∷ []
bases_suc zero x = refl
bases_suc (suc count) x = ap (λ d. base_of (drawn x 4) ∷ d) (bases_suc count (behind 1 x))

pub bases_more : (count x : ℕ) → bases_drawn (count + 1) x ≡ bases_drawn count x ++ base_of (drawn (behind count x) 4) ∷ []
bases_more count x = ap (λ k. bases_drawn k x) (add-one count) ∙ bases_suc count x

pub length-bases_drawn : (count x : ℕ) → length (bases_drawn count x) ≡ count
length-bases_drawn zero x = refl
length-bases_drawn (suc count) x = ap suc (length-bases_drawn count (behind 1 x))

-- a slot more is filled
pub filled_more : (slots : List Base) (index x state : ℕ) (b : Base) → index < length slots → take index slots ≡ bases_drawn index x → state ≡ behind index x → b ≡ base_of (drawn state 4)
    → take (index + 1) (set slots index b) ≡ bases_drawn (index + 1) x
filled_more slots index x state b inside before same is =
    take_more_set slots index b inside ∙ ap (λ d. d ++ b ∷ []) before
    ∙ ap (λ e. bases_drawn index x ++ e ∷ []) (is ∙ ap (λ s. base_of (drawn s 4)) same) ∙ sym (bases_more index x)

pub mark_goes_on : (mark : ℕ) (a b : List Base) → mark_behind mark (a ++ b) ≡ mark_behind (mark_behind mark a) b
mark_goes_on mark [] b = refl
mark_goes_on mark (base ∷ a) b = mark_goes_on (marked mark base) a b

pub wrapped : (mark code : ℕ) → ((mark * 31) % 4294967296 + code) % 4294967296 ≡ (31 * mark + code) % 4294967296
wrapped mark code = omega arith

-- a mark goes on by one base of a list
pub mark_more : (bases : List Base) (index mark next start : ℕ) (d : Base) → index < length bases → next ≡ marked mark (get_or bases index d) → mark_behind mark (drop index bases) ≡ start
    → mark_behind next (drop (index + 1) bases) ≡ start
mark_more bases index mark next start d inside is before =
    ap (λ m. mark_behind m (drop (index + 1) bases)) is ∙ ap (λ k. mark_behind (marked mark (get_or bases index d)) (drop k bases)) (add-one index)
    ∙ sym (ap (mark_behind mark) (drop-cons bases index d inside)) ∙ before

-- so many slots as were filled
pub all_filled : (slots rest : List Base) (len : ℕ) → len ≡ length slots → take len (slots ++ rest) ≡ slots
all_filled slots rest len same = ap (λ k. take k (slots ++ rest)) same ∙ take-append_seam slots rest
