-- The pixels of a picture that commands build: no channel is above its alpha, and no alpha above 255.
use Rattle.std.proofs.Common.{◌≡◌, ℕ, zero, suc, ◌+◌, ◌-◌, ◌*◌, ◌/◌, ◌%◌, ◌<◌, ◌≤◌, inl, inr, Bool, true, false, Option, Some, None, List, [], ◌∷◌, length, get_or, map, replicate, sum, sym, subst, arith}
use Rattle.std.specs.Prelude.{if◌then◌else◌, nat_lt}
use Rattle.std.specs.List.{AllByRecursion, Contains, filter_map}
use Rattle.std.proofs.Math.Nat.{div-le_of_le-mul, mul-le-mul, mul-le-mul_right}
use Rattle.std.proofs.lemmas.Bool.{cases_lt}
use Rattle.std.proofs.lemmas.Grind.{common_steps, rows}
use Rattle.std.proofs.lemmas.List.{get_or-replicate, get_or_past, length-replicate}
use Rattle.std.proofs.lemmas.List.Sums.{sum_by-cons}
use Rattle.fuun_base.specs.declared.letters.Base.{Base}
use Rattle.rna_code.specs.declared.acts.Act.{Act}
use Rattle.rna_code.specs.declared.acts.Act.TheVariants.{Add, EmptyBucket, Move, TurnLeft, TurnRight, Mark, Line, Fill, AddLayer, CopyLayer, Compose, Clip}
use Rattle.rna_code.specs.declared.acts.Ink.{Ink}
use Rattle.rna_code.specs.declared.acts.Ink.TheVariants.{Black, Red, Green, Yellow, Blue, Magenta, Cyan, White, Transparent, Opaque}
use Rattle.canvas.specs.declared.pixel.Spot.{Spot}
use Rattle.canvas.specs.Buckets.{Colour, alpha_of, alphas, average_or, colour_of, colours, current_pixel}
use Rattle.canvas.specs.Pixels.{IsPremultiplied, IsSquare, Rgba, blank, pixel_at, transparent}
use Rattle.line_draw.specs.Lines.{IsLine, point_of, points}
use Rattle.flood.specs.Region.{IsFill, IsInRegion}
use Rattle.layers.specs.Layers.{clipped, each_place, over, top_of, with_merged}
use Rattle.layers.specs.Lending.{with_top}
use Rattle.painter.specs.Picture.{Builds, Does, DoesIfAny, Picture, Table, start}

pub record IsSound (p : Rgba) : Type 0 where
  pub premultiplied : IsPremultiplied p
  pub small : p.alpha ≤ 255

pub transparent_is_sound : IsSound transparent
transparent_is_sound = record { premultiplied = (omega arith, omega arith, omega arith); small = omega arith }

-- the pixel at each place, and behind the last
abbrev pub AreSound : List Rgba → Type 0
AreSound pixels = (place : ℕ) → IsSound (get_or pixels place transparent)

-- the current pixel

abbrev AreSmall : List ℕ → Type 0
AreSmall numbers = AllByRecursion (λ n. n ≤ 255) numbers

small_sum : (numbers : List ℕ) → AreSmall numbers → sum numbers ≤ length numbers * 255
small_sum [] small = omega arith
small_sum (n ∷ numbers) small = omega (arith, small.0, small_sum numbers small.1, sum_by-cons (λ k. k) n numbers)

small_average : (default : ℕ) (numbers : List ℕ) → default ≤ 255 → AreSmall numbers → average_or default numbers ≤ 255
small_average default [] few small = few
small_average default (n ∷ numbers) few small = div-le_of_le-mul (length (n ∷ numbers)) (small_sum (n ∷ numbers) small)

abbrev IsSmallColour : Colour → Type 0
IsSmallColour c = (c.red ≤ 255) × (c.green ≤ 255) × (c.blue ≤ 255)

small_colours : (inks : List Ink) → AllByRecursion IsSmallColour (filter_map colour_of inks)
small_colours [] = tt
small_colours (Black ∷ inks) = ((omega arith, omega arith, omega arith), small_colours inks)
small_colours (Red ∷ inks) = ((omega arith, omega arith, omega arith), small_colours inks)
small_colours (Green ∷ inks) = ((omega arith, omega arith, omega arith), small_colours inks)
small_colours (Yellow ∷ inks) = ((omega arith, omega arith, omega arith), small_colours inks)
small_colours (Blue ∷ inks) = ((omega arith, omega arith, omega arith), small_colours inks)
small_colours (Magenta ∷ inks) = ((omega arith, omega arith, omega arith), small_colours inks)
small_colours (Cyan ∷ inks) = ((omega arith, omega arith, omega arith), small_colours inks)
small_colours (White ∷ inks) = ((omega arith, omega arith, omega arith), small_colours inks)
small_colours (Transparent ∷ inks) = small_colours inks
small_colours (Opaque ∷ inks) = small_colours inks

small_alphas : (inks : List Ink) → AreSmall (filter_map alpha_of inks)
small_alphas [] = tt
small_alphas (Black ∷ inks) = small_alphas inks
small_alphas (Red ∷ inks) = small_alphas inks
small_alphas (Green ∷ inks) = small_alphas inks
small_alphas (Yellow ∷ inks) = small_alphas inks
small_alphas (Blue ∷ inks) = small_alphas inks
small_alphas (Magenta ∷ inks) = small_alphas inks
small_alphas (Cyan ∷ inks) = small_alphas inks
small_alphas (White ∷ inks) = small_alphas inks
small_alphas (Transparent ∷ inks) = (omega arith, small_alphas inks)
small_alphas (Opaque ∷ inks) = (omega arith, small_alphas inks)

small_channel : (channel : Colour → ℕ) → ((c : Colour) → IsSmallColour c → channel c ≤ 255) → (all : List Colour) → AllByRecursion IsSmallColour all → AreSmall (map channel all)
small_channel channel is [] small = tt
small_channel channel is (c ∷ all) small = (is c small.0, small_channel channel is all small.1)

scaled : (average alpha : ℕ) → average ≤ 255 → average * alpha / 255 ≤ alpha
scaled average alpha small = let most = mul-le-mul_right alpha small in omega (arith, most)

current_is_sound : (inks : List Ink) → IsSound (current_pixel inks)
unfolding current_pixel colours alphas
current_is_sound inks =
    let all : List Colour = filter_map colour_of inks in
    let alpha : ℕ = average_or 255 (filter_map alpha_of inks) in
    let small = small_colours inks in
    let red = small_average 0 (map (λ c. c.red) all) (omega arith) (small_channel (λ c. c.red) (λ c is. is.0) all small) in
    let green = small_average 0 (map (λ c. c.green) all) (omega arith) (small_channel (λ c. c.green) (λ c is. is.1) all small) in
    let blue = small_average 0 (map (λ c. c.blue) all) (omega arith) (small_channel (λ c. c.blue) (λ c is. is.2) all small) in
    record {
      premultiplied = (scaled _ alpha red, scaled _ alpha green, scaled _ alpha blue);
      small = small_average 255 (filter_map alpha_of inks) (omega arith) (small_alphas inks);
    }

-- pixels made one

over_channel : (a r b s : ℕ) → r ≤ a → s ≤ b → r + s * (255 - a) / 255 ≤ a + b * (255 - a) / 255
over_channel a r b s top next = let most = mul-le-mul_right (255 - a) next in omega (arith, most, top)

over_alpha : (a b : ℕ) → a ≤ 255 → b ≤ 255 → a + b * (255 - a) / 255 ≤ 255
over_alpha a b top next = let most = mul-le-mul_right (255 - a) next in omega (arith, most, top)

over_is_sound : (top next : Rgba) → IsSound top → IsSound next → IsSound (over top next)
unfolding over
over_is_sound top next t n =
    let channel = over_channel top.alpha in
    record {
      premultiplied = (
        channel top.red next.alpha next.red t.premultiplied.0 n.premultiplied.0,
        channel top.green next.alpha next.green t.premultiplied.1 n.premultiplied.1,
        channel top.blue next.alpha next.blue t.premultiplied.2 n.premultiplied.2,
      );
      small = over_alpha top.alpha next.alpha t.small n.small;
    }

clipped_channel : (a b s : ℕ) → s ≤ b → s * a / 255 ≤ b * a / 255
clipped_channel a b s next = let most = mul-le-mul_right a next in omega (arith, most)

clipped_alpha : (a b : ℕ) → a ≤ 255 → b ≤ 255 → b * a / 255 ≤ 255
clipped_alpha a b top next = let most : b * a ≤ 255 * 255 = mul-le-mul next top in omega (arith, most)

clipped_is_sound : (top next : Rgba) → IsSound top → IsSound next → IsSound (clipped top next)
unfolding clipped
clipped_is_sound top next t n =
    let channel = clipped_channel top.alpha next.alpha in
    record {
      premultiplied = (channel next.red n.premultiplied.0, channel next.green n.premultiplied.1, channel next.blue n.premultiplied.2);
      small = clipped_alpha top.alpha next.alpha t.small n.small;
    }

each_is_sound : (f : Rgba → Rgba → Rgba) → ((p q : Rgba) → IsSound p → IsSound q → IsSound (f p q)) → (top next : List Rgba) → AreSound top → AreSound next → AreSound (each_place f top next)
each_is_sound f sound [] next t n place = transparent_is_sound
each_is_sound f sound (p ∷ top) [] t n place = transparent_is_sound
each_is_sound f sound (p ∷ top) (q ∷ next) t n zero = sound p q (t 0) (n 0)
each_is_sound f sound (p ∷ top) (q ∷ next) t n (suc place) = each_is_sound f sound top next (λ i. t (suc i)) (λ i. n (suc i)) place

-- bitmaps that are known spot by spot

by_spots : (side : ℕ) (pixels : List Rgba) → IsSquare side pixels → ((s : Spot) → s.x < side → s.y < side → IsSound (pixel_at side pixels s.x s.y)) → AreSound pixels
by_spots side pixels square sound place =
    elim (cases_lt place (length pixels)) [
      | inl within ↦
          let positive : 0 < side = omega (arith, square.nonempty) in
          let in_x : place % side < side = grind arith in
          let in_y : place / side < side = grind (arith, common_steps, rows, square.filled) in
          let there : (place / side) * side + place % side ≡ place = grind (arith, common_steps, rows) in
          subst (λ i. IsSound (get_or pixels i transparent)) there (sound (record { x = place % side; y = place / side }) in_x in_y)
      | inr past ↦ subst IsSound (sym (get_or_past pixels place transparent past)) transparent_is_sound
    ]

not_above : (m n : ℕ) → ((m ≤ n → ⊥) → ⊥) → m ≤ n
not_above m n not_not = elim (cases_lt n m) [ inl above ↦ absurd (not_not (λ is. omega arith)) | inr is ↦ is ]

not_unsound : (p : Rgba) → ((IsSound p → ⊥) → ⊥) → IsSound p
not_unsound p not_not =
    record {
      premultiplied = (
        not_above p.red p.alpha (λ no. not_not (λ is. no is.premultiplied.0)),
        not_above p.green p.alpha (λ no. not_not (λ is. no is.premultiplied.1)),
        not_above p.blue p.alpha (λ no. not_not (λ is. no is.premultiplied.2)),
      );
      small = not_above p.alpha 255 (λ no. not_not (λ is. no is.small));
    }

line_is_sound : (side : ℕ) (was : List Rgba) (begin end : Spot) (pixel : Rgba) (now : List Rgba) → IsLine side was begin end pixel now → AreSound was → IsSound pixel → AreSound now
line_is_sound side was begin end pixel now line before colour =
    by_spots side now line.square (λ s in_x in_y. not_unsound (pixel_at side now s.x s.y) (λ no.
    let out : Contains (points begin end) (point_of s) → ⊥ = λ inside. no (subst IsSound (sym (line.set s in_x in_y inside)) colour) in
    no (subst IsSound (sym (line.others s in_x in_y out)) (before (s.y * side + s.x)))))

fill_is_sound : (side : ℕ) (was : List Rgba) (spot : Spot) (pixel : Rgba) (now : List Rgba) → IsFill side was spot pixel now → AreSound was → IsSound pixel → AreSound now
fill_is_sound side was spot pixel now fill before colour =
    by_spots side now fill.square (λ s in_x in_y. not_unsound (pixel_at side now s.x s.y) (λ no.
    let out : IsInRegion side was spot s → ⊥ = λ inside. no (subst IsSound (sym (fill.region s inside)) colour) in
    no (subst IsSound (sym (fill.others s (in_x, in_y) out)) (before (s.y * side + s.x)))))

-- layers

abbrev AllSound : List (List Rgba) → Type 0
AllSound layers = AllByRecursion AreSound layers

blank_is_sound : (count : ℕ) → AreSound (replicate count transparent)
blank_is_sound count place =
    elim (cases_lt place count) [
      | inl within ↦ subst IsSound (sym (get_or-replicate count place transparent transparent within)) transparent_is_sound
      | inr past ↦
          let behind : length (replicate count transparent) ≤ place = omega (arith, length-replicate count transparent) in
          subst IsSound (sym (get_or_past (replicate count transparent) place transparent behind)) transparent_is_sound
    ]

top_is_sound : (layers : List (List Rgba)) → AllSound layers → AreSound (top_of layers)
top_is_sound [] sound = λ place. transparent_is_sound
top_is_sound (top ∷ below) sound = sound.0

one_more : (room : Bool) (bitmap : List Rgba) (layers : List (List Rgba)) → AreSound bitmap → AllSound layers → AllSound (if room then bitmap ∷ layers else layers)
one_more true bitmap layers added sound = (added, sound)
one_more false bitmap layers added sound = sound

merged : (f : Rgba → Rgba → Rgba) → ((p q : Rgba) → IsSound p → IsSound q → IsSound (f p q)) → (layers : List (List Rgba)) → AllSound layers → AllSound (with_merged f layers)
merged f each [] sound = sound
merged f each (top ∷ []) sound = sound
merged f each (top ∷ next ∷ below) sound = (each_is_sound f each top next sound.0 sound.1.0, sound.1.1)

top_drawn : (layers : List (List Rgba)) (now : List Rgba) → AreSound now → AllSound layers → AllSound (with_top layers now)
top_drawn [] now drawn sound = (drawn, tt)
top_drawn (top ∷ below) now drawn sound = (drawn, sound.1)

-- pictures

abbrev pub IsSoundPicture : Picture → Type 0
IsSoundPicture p = AllSound p.layers

acts_stay : (side most : ℕ) (act : Act) (p q : Picture) → Does side most act p q → IsSoundPicture p → IsSoundPicture q
acts_stay side most (Add ink) p q does sound = subst IsSoundPicture (sym does) sound
acts_stay side most EmptyBucket p q does sound = subst IsSoundPicture (sym does) sound
acts_stay side most Move p q does sound = subst IsSoundPicture (sym does) sound
acts_stay side most TurnLeft p q does sound = subst IsSoundPicture (sym does) sound
acts_stay side most TurnRight p q does sound = subst IsSoundPicture (sym does) sound
acts_stay side most Mark p q does sound = subst IsSoundPicture (sym does) sound
acts_stay side most Line p q does sound =
    let drawn = line_is_sound side (top_of p.layers) p.at p.mark (current_pixel p.bucket) (top_of q.layers) does.top (top_is_sound p.layers sound) (current_is_sound p.bucket) in
    subst IsSoundPicture (sym does.others) (top_drawn p.layers (top_of q.layers) drawn sound)
acts_stay side most Fill p q does sound =
    let drawn = fill_is_sound side (top_of p.layers) p.at (current_pixel p.bucket) (top_of q.layers) does.top (top_is_sound p.layers sound) (current_is_sound p.bucket) in
    subst IsSoundPicture (sym does.others) (top_drawn p.layers (top_of q.layers) drawn sound)
acts_stay side most AddLayer p q does sound = subst IsSoundPicture (sym does) (one_more (nat_lt (length p.layers) most) (blank side) p.layers (blank_is_sound (side * side)) sound)
acts_stay side most CopyLayer p q does sound = subst IsSoundPicture (sym does) (one_more (nat_lt (length p.layers) most) (top_of p.layers) p.layers (top_is_sound p.layers sound) sound)
acts_stay side most Compose p q does sound = subst IsSoundPicture (sym does) (merged over over_is_sound p.layers sound)
acts_stay side most Clip p q does sound = subst IsSoundPicture (sym does) (merged clipped clipped_is_sound p.layers sound)

any_stays : (side most : ℕ) (act : Option Act) (p q : Picture) → DoesIfAny side most act p q → IsSoundPicture p → IsSoundPicture q
any_stays side most None p q does sound = subst IsSoundPicture (sym does) sound
any_stays side most (Some act) p q does sound = acts_stay side most act p q does sound

builds_stay : (side most : ℕ) (table : Table) (rna : List (List Base)) (p q : Picture) → Builds side most table rna p q → IsSoundPicture p → IsSoundPicture q
builds_stay side most table [] p q builds sound = subst IsSoundPicture (sym builds) sound
builds_stay side most table (command ∷ rest) p q (r, both) sound = builds_stay side most table rest r q both.1 (any_stays side most (table command) p r both.0 sound)

-- what is built from the start
pub built_is_sound : (side most : ℕ) (table : Table) (rna : List (List Base)) (q : Picture) → Builds side most table rna (start side) q → AreSound (top_of q.layers)
built_is_sound side most table rna q builds = top_is_sound q.layers (builds_stay side most table rna (start side) q builds (blank_is_sound (side * side), tt))
