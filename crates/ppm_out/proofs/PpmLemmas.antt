-- How the colours of pixels are packed and put, some at a time.
use Rattle.std.proofs.Common.{◌≡◌, ℕ, ◌+◌, ◌-◌, ◌*◌, ◌<◌, ◌≤◌, List, [], ◌∷◌, ◌++◌, length, take, drop, get_or, flat_map, Option, Result, Ok, Err, refl, sym, ap, ◌∙◌, arith, append_assoc, length-append, take-append-drop}
use Rattle.std.proofs.Math.Seq.{take-add, take-append_seam, drop-append-add}
use Rattle.std.proofs.lemmas.List.{drop-drop, length-take-le}
use Rattle.std.proofs.lemmas.Grind.{flat_map-append, take_at_read}
use Rattle.fuun_io.specs.Written.{appended, Puts, PutsFront}
use Rattle.fuun_io.proofs.WrittenLemmas.{appended-appended, PutsFront-behind, PutsFront-longer}
use Rattle.canvas.specs.Pixels.{Rgba}
use Rattle.ppm_out.specs.Ppm.{header, ppm, rgb_bytes}

-- the bytes of some pixels
abbrev pub colours : List Rgba → List ℕ
colours pixels = flat_map rgb_bytes pixels

pub length-colours : (pixels : List Rgba) → length (colours pixels) ≡ 3 * length pixels
length-colours [] = refl
length-colours (p ∷ ps) = omega (arith, length-append (rgb_bytes p) (colours ps), length-colours ps)

-- the front that was packed, cut from the buffer
pub packed_front : (len : ℕ) (out rest : List ℕ) (pixels : List Rgba) → len ≡ 3 * length pixels → out ≡ colours pixels ++ rest → take len out ≡ colours pixels
packed_front len out rest pixels is packed =
    ap (λ n. take n out) (is ∙ sym (length-colours pixels)) ∙ ap (take (length (colours pixels))) packed ∙ take-append_seam (colours pixels) rest

-- one pixel more
pub packed_more : (pixels : List Rgba) (k at : ℕ) (p : Rgba) (first out new : List ℕ) → k < length pixels → at ≡ 3 * k → p ≡ get_or pixels k p → out ≡ colours (take k pixels) ++ drop at first
    → new ≡ take at out ++ (rgb_bytes p ++ drop (at + 3) out) → new ≡ colours (take (k + 1) pixels) ++ drop (at + 3) first
packed_more pixels k at p first out new inside place item packed step =
    let done = colours (take k pixels) in
    let len : at ≡ length done = omega (arith, place, length-colours (take k pixels), length-take-le k pixels (omega arith)) in
    let front : take at out ≡ done = ap (λ n. take n out) len ∙ ap (take (length done)) packed ∙ take-append_seam done (drop at first) in
    let back : drop (at + 3) out ≡ drop (at + 3) first =
    ap (λ n. drop (n + 3) out) len ∙ ap (drop (length done + 3)) packed ∙ drop-append-add done (drop at first) 3 ∙ drop-drop 3 at first in
    let grown : colours (take (k + 1) pixels) ≡ done ++ rgb_bytes p =
    ap colours ((take_at_read pixels k p inside).1 ∙ ap (λ q. take k pixels ++ q ∷ []) (sym item)) ∙ flat_map-append rgb_bytes (take k pixels) (p ∷ []) in
    step ∙ ap (λ l. l ++ (rgb_bytes p ++ drop (at + 3) out)) front ∙ ap (λ l. done ++ (rgb_bytes p ++ l)) back ∙ sym (append_assoc done (rgb_bytes p) (drop (at + 3) first)) ∙ ap (λ l. l ++ drop (at + 3) first) (sym grown)

-- the pixels from one place to another, behind those before
pub colours_to : (pixels : List Rgba) (start stop : ℕ) → start ≤ stop → colours (take stop pixels) ≡ colours (take start pixels) ++ colours (take (stop - start) (drop start pixels))
colours_to pixels start stop order =
    let far : stop ≡ start + (stop - start) = omega arith in
    ap (λ n. colours (take n pixels)) far ∙ ap colours (take-add start (stop - start) pixels) ∙ flat_map-append rgb_bytes (take start pixels) (take (stop - start) (drop start pixels))

-- some pixels more were put
pub put_more : (old mid new : Option (List ℕ)) (pixels : List Rgba) (start stop : ℕ) (piece : List ℕ) → start ≤ stop → piece ≡ colours (take (stop - start) (drop start pixels)) → mid ≡ appended old (colours (take start pixels)) → new ≡ appended mid piece → new ≡ appended old (colours (take stop pixels))
put_more old mid new pixels start stop piece order is before put =
    put ∙ ap (λ l. appended mid l) is ∙ ap (λ told. appended told (colours (take (stop - start) (drop start pixels)))) before ∙ appended-appended old _ _ ∙ ap (appended old) (sym (colours_to pixels start stop order))

-- a front of some pixels more was put
pub put_front : (old mid new : Option (List ℕ)) (pixels : List Rgba) (start stop : ℕ) (piece : List ℕ) → start ≤ stop → piece ≡ colours (take (stop - start) (drop start pixels)) → mid ≡ appended old (colours (take start pixels)) → PutsFront mid new piece → PutsFront old new (colours pixels)
put_front old mid new pixels start stop piece order is before put =
    let here : PutsFront mid new (colours (take (stop - start) (drop start pixels))) = rw is at put in
    let behind = PutsFront-behind old mid new (colours (take start pixels)) _ before here in
    let to_stop : PutsFront old new (colours (take stop pixels)) = rw (colours_to pixels start stop order) behind in
    let all : colours pixels ≡ colours (take stop pixels) ++ colours (drop stop pixels) = ap colours (sym (take-append-drop stop pixels)) ∙ flat_map-append rgb_bytes (take stop pixels) (drop stop pixels) in
    rw all (PutsFront-longer old new (colours (take stop pixels)) (colours (drop stop pixels)) to_stop)

-- the pixels behind the header
pub ppm_behind : {T E : Type 0} → (side : ℕ) (bitmap pixels : List Rgba) (old mid new : Option (List ℕ)) (result : Result T E) → pixels ≡ bitmap → mid ≡ appended old (header side) → Puts result mid new (colours pixels) → Puts result old new (ppm side bitmap)
unfolding ppm
ppm_behind side bitmap pixels old mid new (Ok done) same before put =
    put ∙ ap (λ l. appended mid (colours l)) same ∙ ap (λ told. appended told (colours bitmap)) before ∙ appended-appended old _ _
ppm_behind side bitmap pixels old mid new (Err e) same before put =
    let here : PutsFront mid new (colours bitmap) = rw (sym same) put in
    PutsFront-behind old mid new (header side) (colours bitmap) before here
