-- The pixels of bytes.
use Rattle.std.proofs.Common.{◌≡◌, ℕ, zero, suc, ◌+◌, ◌*◌, ◌<◌, ◌≤◌, inl, inr, List, [], ◌∷◌, Some, None, length, take, get_or, refl, sym, ap, ◌∙◌, arith}
use Rattle.std.proofs.lemmas.Bool.{cases_lt, le-leb, lt-leb}
use Rattle.std.proofs.lemmas.List.{length-take-le}
use Rattle.std.proofs.lemmas.Option.{option_and_then_some, same_Some}
use Rattle.picture_in.specs.Header.{behind_header}
use Rattle.picture_in.specs.Pixmap.{Rgb, ArePixels, IsBytes, IsPicture, black, front, pixel_bytes, pixels_of}

-- the three bytes from a place on
abbrev pub at_place : List ℕ → ℕ → Rgb
at_place bytes start = (get_or bytes start 0, get_or bytes (start + 1) 0, get_or bytes (start + 2) 0)

three_on : (red green blue : ℕ) (rest : List ℕ) (start : ℕ) → at_place (red ∷ green ∷ blue ∷ rest) (start + 3) ≡ at_place rest start
three_on red green blue rest start =
    let bytes : List ℕ = red ∷ green ∷ blue ∷ rest in
    let first : start + 3 ≡ suc (suc (suc start)) = omega arith in
    let second : start + 3 + 1 ≡ suc (suc (suc (start + 1))) = omega arith in
    let third : start + 3 + 2 ≡ suc (suc (suc (start + 2))) = omega arith in
    let triple : ℕ → ℕ → ℕ → Rgb = λ i j k. (get_or bytes i 0, get_or bytes j 0, get_or bytes k 0) in
    ap (λ i. triple i (start + 3 + 1) (start + 3 + 2)) first
    ∙ ap (λ j. triple (suc (suc (suc start))) j (start + 3 + 2)) second
    ∙ ap (triple (suc (suc (suc start))) (suc (suc (suc (start + 1))))) third

pub pixel_at_place : (bytes : List ℕ) (place start : ℕ) → start ≡ 3 * place → start + 2 < length bytes → get_or (pixels_of bytes) place black ≡ at_place bytes start
pixel_at_place [] place start is within = absurd (omega arith)
pixel_at_place (red ∷ []) place start is within = absurd (omega arith)
pixel_at_place (red ∷ green ∷ []) place start is within = absurd (omega arith)
pixel_at_place (red ∷ green ∷ blue ∷ rest) zero start is within = let none : start ≡ 0 = omega arith in sym (ap (at_place (red ∷ green ∷ blue ∷ rest)) none)
pixel_at_place (red ∷ green ∷ blue ∷ rest) (suc place) start is within =
    let on : start ≡ 3 * place + 3 = omega arith in
    pixel_at_place rest place (3 * place) refl (omega arith)
    ∙ sym (three_on red green blue rest (3 * place))
    ∙ ap (at_place (red ∷ green ∷ blue ∷ rest)) (sym on)

pub length-pixels_of : (bytes : List ℕ) (count : ℕ) → length bytes ≡ 3 * count → length (pixels_of bytes) ≡ count
length-pixels_of [] count is = omega arith
length-pixels_of (red ∷ []) count is = absurd (omega arith)
length-pixels_of (red ∷ green ∷ []) count is = absurd (omega arith)
length-pixels_of (red ∷ green ∷ blue ∷ rest) zero is = absurd (omega arith)
length-pixels_of (red ∷ green ∷ blue ∷ rest) (suc count) is = ap suc (length-pixels_of rest count (omega arith))

bytes-black : IsBytes black
bytes-black = (omega arith, omega arith, omega arith)

small-pixels_of : (bytes : List ℕ) → ((k : ℕ) → get_or bytes k 0 ≤ 255) → (place : ℕ) → IsBytes (get_or (pixels_of bytes) place black)
small-pixels_of [] small place = bytes-black
small-pixels_of (red ∷ []) small place = bytes-black
small-pixels_of (red ∷ green ∷ []) small place = bytes-black
small-pixels_of (red ∷ green ∷ blue ∷ rest) small zero = (small 0, small 1, small 2)
small-pixels_of (red ∷ green ∷ blue ∷ rest) small (suc place) = small-pixels_of rest (λ k. small (suc (suc (suc k)))) place

pub IsPicture-pixels_of : (bytes : List ℕ) → ArePixels bytes → IsPicture (pixels_of bytes)
IsPicture-pixels_of bytes are = record {
  filled = length-pixels_of bytes 360000 are.filled;
  small = small-pixels_of bytes are.small;
}

-- so many bytes in front are as many
pub length-front : (count : ℕ) (bytes pixels : List ℕ) → front count bytes ≡ Some pixels → length pixels ≡ count
unfolding front
length-front count bytes pixels is =
    elim (cases_lt (length bytes) count) [
      | inl few ↦ let none : None ≡ Some pixels = rw (lt-leb count (length bytes) few) at is in absurd (cc)
      | inr enough ↦
          let some : Some (take count bytes) ≡ Some pixels = rw (le-leb count (length bytes) enough) at is in
          ap length (same_Some pixels (take count bytes) (sym some)) ∙ length-take-le count bytes enough
    ]

pub length-pixel_bytes : (bytes pixels : List ℕ) → pixel_bytes bytes ≡ Some pixels → length pixels ≡ 1080000
unfolding pixel_bytes
length-pixel_bytes bytes pixels is =
    option_and_then_some (front 1080000) (behind_header bytes) pixels is (λ rest header found. length-front 1080000 rest pixels found)
