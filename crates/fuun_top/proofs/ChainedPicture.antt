-- Pixmaps that are drawn, and run.
use Rattle.std.proofs.Common.{◌≡◌, inl, inr, ℕ, zero, suc, ◌+◌, ◌*◌, ◌<◌, ◌≤◌, Bool, true, false, Option, Some, None, Ok, Err, List, [], ◌∷◌, ◌++◌, codes, decimal, flat_map, get_or, length, map, take, refl, sym, ap, ◌∙◌, subst, arith}
use Rattle.std.specs.Prelude.{if◌then◌else◌, nat_le, nat_lt}
use Rattle.std.specs.List.{AllByRecursion}
use Rattle.std.specs.Option.{option_and_then, option_map}
use Rattle.std.proofs.lemmas.Bool.{le-leb, le-ltb}
use Rattle.std.proofs.lemmas.Fmt.{decimal_digit, decimal_step}
use Rattle.std.proofs.lemmas.List.{get_or-map, length-map, take_all}
use Rattle.std.proofs.lemmas.Option.{option_and_then_some, same_Some}
use Rattle.fuun_base.specs.declared.letters.Base.{Base}
use Rattle.fuun_base.specs.RnaFile.{commands}
use Rattle.rna_code.specs.declared.profile.Profile.TheVariants as profile
use Rattle.rna_code.specs.Commands.{act_of}
use Rattle.canvas.specs.Pixels.{IsSquare, Rgba, pixel_at, transparent}
use Rattle.canvas.proofs.PixelLemmas.{place_inside, same_bitmaps}
use Rattle.layers.specs.Layers.{top_of}
use Rattle.painter.specs.Picture.{Builds, Picture, Table, start}
use Rattle.painter.specs.PictureLaws.{AreSquare, IsPicture as IsCanvas}
use Rattle.painter.proofs.Outcomes.{builds_once}
use Rattle.painter.proofs.Pictures.{builds_always, start_is_picture}
use Rattle.painter.proofs.PixelChannels.{AreSound, built_is_sound}
use Rattle.ppm_out.specs.Ppm.{header, ppm, rgb_bytes}
use Rattle.ppm_out.proofs.PpmLemmas.{length-colours}
use Rattle.picture_in.specs.Form.{IsHeader}
use Rattle.picture_in.specs.Header.{behind_header, behind_word}
use Rattle.picture_in.specs.Pixmap.{IsBytes, IsPicture, Rgb, black, front, picture_of, pixel_bytes, pixels_of}
use Rattle.picture_in.proofs.FormLemmas.{only_header_is_found}
use Rattle.picture_in.proofs.PixmapLemmas.{IsPicture-pixels_of, length-pixel_bytes}
use Rattle.draw_compile.specs.Drawing as draw
use Rattle.draw_compile.specs.Law.{BuildsPicture, RunDraws, opaque}
use Rattle.draw_compile.proofs.DrawingLaw.{drawing_draws}
use Rattle.exec_loop.specs.declared.machine.RunEnd.TheVariants as end
use Rattle.exec_loop.specs.Run.{IsRun, Run, RunsTo}
use Rattle.exec_loop.proofs.Runs.{one_run}
use Rattle.fuun_top.specs.Chaining.{Gives, IsKept, WasRun}
use Rattle.fuun_top.specs.MadeChains.{DrawnPictureIsSame, IsDrawing, IsOwnPicture, OwnPictureIsSame, picture_file}
use Rattle.fuun_top.specs.Making.{drawn}
use Rattle.fuun_top.specs.Output.{IsPictureOf, IsRunOutput, Output, OutputBy, answered, most_layers, picture_side, refusal, status_by}
use Rattle.fuun_top.specs.Reading.{Files, Reading, dna_in, prefix_in, rna_in, start_in, started, then_read, within}
use Rattle.fuun_top.specs.Texts.{letters}
use Rattle.fuun_top.specs.declared.inputs.Inputs.TheVariants as inputs
use Rattle.fuun_top.specs.declared.inputs.Plain.TheVariants as plain
use Rattle.fuun_top.specs.declared.request.RnaVerb.TheVariants as rna
use Rattle.fuun_top.specs.declared.request.RunVerb.TheVariants as run
use Rattle.fuun_top.specs.declared.request.TextVerb.TheVariants as texts
use Rattle.fuun_top.specs.declared.status.InFile.TheVariants as file
use Rattle.fuun_top.specs.declared.status.Status.{Status}
use Rattle.fuun_top.specs.declared.status.Status.TheVariants.{BadPpm, Done, StartTooLong, TooLong}
use Rattle.fuun_words.specs.declared.request.Request.TheVariants as words
use Rattle.fuun_words.specs.declared.request.RunWords.{RunWords}
use Rattle.fuun_top.proofs.ReadBack.{RefusesEarly, run_is_no_refusal, start_early, rna_early, output_by, dna_back, given_text, length-letters}

-- what was drawn, where there was no refusal
record IsDrawn (pixmap : List ℕ) (output : Output) : Type 0 where
  picture : List Rgb
  is : picture_of pixmap ≡ Some picture
  tells : output ≡ record { status = Done; bytes = letters (draw.drawing picture) }

drawn_by : (pixmap : List ℕ) (picture : List Rgb) (output : Output) (long : Bool) → picture_of pixmap ≡ Some picture
    → output ≡ answered letters (if long then Err (TooLong 0) else Ok (draw.drawing picture)) → output.status ≡ Done → IsDrawn pixmap output
drawn_by pixmap picture output true is tells done = let refused : output ≡ refusal (TooLong 0) = tells in absurd (cc (refused, done))
drawn_by pixmap picture output false is tells done = record { picture = picture; is = is; tells = tells }

drawn_of : (pixmap : List ℕ) (limit : ℕ) (found : Option (List Rgb)) (output : Output) → picture_of pixmap ≡ found → output ≡ answered letters (drawn limit found) → output.status ≡ Done → IsDrawn pixmap output
drawn_of pixmap limit None output is tells done = let refused : output ≡ refusal BadPpm = tells in absurd (cc (refused, done))
drawn_of pixmap limit (Some picture) output is tells done = drawn_by pixmap picture output (nat_lt limit (length (draw.drawing picture))) is tells done

given_drawing : (files : Files) (name pixmap : List ℕ) (limit : ℕ) (output : Output) → files name ≡ Some pixmap → Gives files (words.Picture name limit) output → output.status ≡ Done → IsDrawn pixmap output
given_drawing files name pixmap limit output holds gives done =
    let answer = given_text files (texts.Picture limit) name pixmap output holds (output_by files (words.Picture name limit) output gives) done in
    drawn_of pixmap limit (picture_of pixmap) output refl (answer.tells ∙ ap (answered letters) answer.is) done

-- the run of a DNA alone
start_alone : (files : Files) (asked : RunWords) (dna : List Base) → dna_in files file.Dna asked.dna ≡ Some (Ok dna) → asked.prefix ≡ None → length dna ≤ asked.limit → start_in files asked ≡ Some (Ok dna)
start_alone files asked dna reads alone within =
    ap (λ (reading : Reading (List Base)). then_read reading (λ d. then_read (prefix_in files asked.prefix) (λ prefix. Some (started asked.limit (prefix ++ d))))) reads
    ∙ ap (λ (prefix : Option (List ℕ)). then_read (prefix_in files prefix) (λ front. Some (started asked.limit (front ++ dna)))) alone
    ∙ ap (λ long. Some (if long then Err StartTooLong else Ok dna)) (le-ltb asked.limit (length dna) within)

image_of : (files : Files) (asked : RunWords) (dna : List Base) (output : Output) → start_in files asked ≡ Some (Ok dna) → Gives files (words.Image asked profile.Plain) output
    → IsRunOutput (run.Image profile.Plain) dna asked.budget asked.limit output
image_of files asked dna output starts gives =
    subst (λ (reading : Reading (List Base)). OutputBy (then_read reading (λ d. Some (Ok (inputs.Run (run.Image profile.Plain) d asked.budget asked.limit)))) output) starts
    (output_by files (words.Image asked profile.Plain) output gives)

-- a run that finished is the run with any greater budget
finishes_too : (dna : List Base) (budget more limit attempts : ℕ) (run : Run) → budget ≤ more → RunsTo dna budget limit run (end.Finished attempts) → RunsTo dna more limit run (end.Finished attempts)
finishes_too dna budget more limit attempts run greater (before, number, stops) = (
  before,
  number,
  record {
    earlier = stops.earlier;
    last = stops.last;
    made = stops.made;
    leads = stops.leads;
    number = stops.number;
    allowed = omega (arith, stops.allowed, greater);
    attempt = stops.attempt;
    ends = stops.ends;
    rna = stops.rna;
  },
)

record Draws (picture : List Rgb) (run : Run) : Type 0 where
  ends : run.end ≡ end.Finished 1
  builds : BuildsPicture run.rna picture

draws_by : (dna : List Base) (budget limit : ℕ) (picture : List Rgb) (run : Run) → RunDraws dna limit picture → 1 ≤ budget → IsRun dna budget limit run → Draws picture run
draws_by dna budget limit picture run law some is =
    let ends = law.ends law.run law.is in
    let first : RunsTo dna 1 limit law.run (end.Finished 1) = subst (RunsTo dna 1 limit law.run) ends law.is in
    let whole : IsRun dna budget limit law.run = subst (RunsTo dna budget limit law.run) (sym ends) (finishes_too dna 1 budget limit 1 law.run some first) in
    let same : law.run ≡ run = one_run limit budget dna law.run run whole is in
    record {
      ends = ap (λ (r : Run). r.end) (sym same) ∙ ends;
      builds = subst (λ (r : Run). BuildsPicture r.rna picture) same (law.draws law.run law.is);
    }

-- the top bitmap of a picture that is built is square
top_square : (side most : ℕ) (p : Picture) → IsCanvas side most p → IsSquare side (top_of p.layers)
top_square side most p is = by_layers p.layers is.some is.squares
  where
    by_layers : (layers : List (List Rgba)) → 1 ≤ length layers → AreSquare side layers → IsSquare side (top_of layers)
    by_layers [] some squares = absurd (omega arith)
    by_layers (top ∷ below) some squares = squares.0

built_square : (side most : ℕ) (table : Table) (rna : List (List Base)) (p : Picture) → 1 ≤ side → side ≤ 1024 → 1 ≤ most → Builds side most table rna (start side) p → IsSquare side (top_of p.layers)
built_square side most table rna p nonempty small room builds =
    let made = builds_always side most table rna (start side) (start_is_picture side most nonempty small room) in
    top_square side most p (subst (IsCanvas side most) (builds_once side most table rna (start side) made.0 p made.1.0 builds) made.1.1)

-- the bytes of pixels
abbrev three_bytes : Rgb → List ℕ
three_bytes p = p.0 ∷ p.1 ∷ p.2 ∷ []

bytes_of_opaque : (picture : List Rgb) → flat_map rgb_bytes (map opaque picture) ≡ flat_map three_bytes picture
bytes_of_opaque [] = refl
bytes_of_opaque (p ∷ picture) = ap (λ l. three_bytes p ++ l) (bytes_of_opaque picture)

shown_bitmap : (side : ℕ) (bitmap : List Rgba) (picture : List Rgb) → IsSquare side bitmap → length picture ≡ side * side
    → ((x y : ℕ) → x < side → y < side → pixel_at side bitmap x y ≡ opaque (get_or picture (y * side + x) black)) → bitmap ≡ map opaque picture
shown_bitmap side bitmap picture square filled shows =
    same_bitmaps side bitmap (map opaque picture) square
    (record { nonempty = square.nonempty; small = square.small; filled = length-map picture opaque ∙ filled })
    (λ x y in_x in_y.
    let inside : y * side + x < side * side = place_inside side x y in_x in_y in
    shows x y in_x in_y ∙ sym (get_or-map opaque picture (y * side + x) black transparent (omega (arith, inside, filled))))

shown_file : (bitmap : List Rgba) (picture : List Rgb) → IsSquare 600 bitmap → length picture ≡ 600 * 600
    → ((x y : ℕ) → x < 600 → y < 600 → pixel_at 600 bitmap x y ≡ opaque (get_or picture (y * 600 + x) black)) → ppm 600 bitmap ≡ picture_file picture
unfolding ppm
shown_file bitmap picture square filled shows =
    ap (λ l. header 600 ++ l) (ap (flat_map rgb_bytes) (shown_bitmap 600 bitmap picture square filled shows) ∙ bytes_of_opaque picture)

-- what is written of a run that draws
image_is : (dna : List Base) (budget limit : ℕ) (picture : List Rgb) (output : Output) → IsPicture picture → RunDraws dna limit picture → 1 ≤ budget
    → IsRunOutput (run.Image profile.Plain) dna budget limit output → output ≡ record { status = Done; bytes = picture_file picture }
unfolding picture_side most_layers
image_is dna budget limit picture output is law some image =
    let draws = draws_by dna budget limit picture image.run law some image.is in
    let writes : IsPictureOf 600 10 profile.Plain image.run.rna (status_by false image.run.end) output = image.writes in
    let square = built_square 600 10 (act_of profile.Plain) image.run.rna writes.picture (omega arith) (omega arith) (omega arith) writes.builds in
    let shows = draws.builds.shows writes.picture writes.builds in
    let file = shown_file (top_of writes.picture.layers) picture square (omega (arith, is.filled)) shows in
    writes.is
    ∙ ap (λ e. record { status = status_by false e; bytes = ppm 600 (top_of writes.picture.layers) }) draws.ends
    ∙ ap (λ (bytes : List ℕ). record { status = Done; bytes = bytes }) file

drawn_is_same : (later : Files) (asked : RunWords) (picture : List Rgb) (drawing image : Output) → IsPicture picture → drawing ≡ record { status = Done; bytes = letters (draw.drawing picture) }
    → IsDrawing later drawing asked → Gives later (words.Image asked profile.Plain) image → image ≡ record { status = Done; bytes = picture_file picture }
drawn_is_same later asked picture drawing image is tells run gives =
    let dna : List Base = draw.drawing picture in
    let kept : IsKept later asked.dna (letters dna) = subst (λ (o : Output). IsKept later asked.dna o.bytes) tells run.kept in
    let long : length (letters dna) ≤ asked.limit + 1 = subst (λ (o : Output). length o.bytes ≤ asked.limit + 1) tells run.limit in
    let within : length dna ≤ asked.limit = omega (arith, long, length-letters dna) in
    let starts = start_alone later asked dna (dna_back later file.Dna asked.dna dna kept) run.alone within in
    image_is dna asked.budget asked.limit picture image is (drawing_draws picture is asked.limit within) run.budget (image_of later asked dna image starts gives)

-- the pixels of a pixmap whose numbers are bytes

abbrev AreBytes : List ℕ → Type 0
AreBytes bytes = AllByRecursion (λ byte. byte ≤ 255) bytes

behind_bytes : (a b : List ℕ) → AreBytes (a ++ b) → AreBytes b
behind_bytes [] b are = are
behind_bytes (byte ∷ a) b are = behind_bytes a b are.1

rest_bytes : (bytes rest : List ℕ) → IsHeader bytes rest → AreBytes bytes → AreBytes rest
rest_bytes bytes rest is are =
    let last : List ℕ = is.white ∷ rest in
    let all : AreBytes (80 ∷ 54 ∷ (is.width ++ (is.height ++ (is.highest ++ last)))) = subst AreBytes is.whole are in
    (behind_bytes is.highest last (behind_bytes is.height (is.highest ++ last) (behind_bytes is.width (is.height ++ (is.highest ++ last)) all.1.1))).1

front_small : (count : ℕ) (bytes : List ℕ) → AreBytes bytes → (place : ℕ) → get_or (take count bytes) place 0 ≤ 255
front_small zero bytes are place = omega arith
front_small (suc count) [] are place = omega arith
front_small (suc count) (byte ∷ bytes) are zero = are.0
front_small (suc count) (byte ∷ bytes) are (suc place) = front_small count bytes are.1 place

front_by : (count : ℕ) (bytes pixels : List ℕ) (enough : Bool) → (if enough then Some (take count bytes) else None) ≡ Some pixels → AreBytes bytes → (place : ℕ) → get_or pixels place 0 ≤ 255
front_by count bytes pixels true is are place =
    let same : take count bytes ≡ pixels = cc is in
    subst (λ l. get_or l place 0 ≤ 255) same (front_small count bytes are place)
front_by count bytes pixels false is are place = absurd (cc is)

small_front : (count : ℕ) (bytes pixels : List ℕ) → front count bytes ≡ Some pixels → AreBytes bytes → (place : ℕ) → get_or pixels place 0 ≤ 255
unfolding front
small_front count bytes pixels is are = front_by count bytes pixels (nat_le count (length bytes)) is are

small_pixels : (pixmap pixels : List ℕ) → pixel_bytes pixmap ≡ Some pixels → AreBytes pixmap → (place : ℕ) → get_or pixels place 0 ≤ 255
unfolding pixel_bytes
small_pixels pixmap pixels is are =
    option_and_then_some (front 1080000) (behind_header pixmap) pixels is
    (λ rest found behind. small_front 1080000 rest pixels behind (rest_bytes pixmap rest (only_header_is_found pixmap rest found) are))

picture_by : (pixmap : List ℕ) (found : Option (List ℕ)) (picture : List Rgb) → pixel_bytes pixmap ≡ found → option_map pixels_of found ≡ Some picture → AreBytes pixmap → IsPicture picture
picture_by pixmap None picture found is are = absurd (cc is)
picture_by pixmap (Some pixels) picture found is are =
    let same : pixels_of pixels ≡ picture = cc is in
    subst IsPicture same (IsPicture-pixels_of pixels (record { filled = length-pixel_bytes pixmap pixels found; small = small_pixels pixmap pixels found are }))

pub drawn_picture_is_same : DrawnPictureIsSame
drawn_picture_is_same files later name pixmap limit asked drawing image holds are made done run gives =
    let was = given_drawing files name pixmap limit drawing holds made done in
    let is = picture_by pixmap (pixel_bytes pixmap) was.picture refl was.is are in
    (was.picture, was.is, drawn_is_same later asked was.picture drawing image is was.tells run gives)

-- a picture that was written, read again

abbrev rgb_of : Rgba → Rgb
rgb_of p = (p.red, p.green, p.blue)

pixels_again : (bitmap : List Rgba) → pixels_of (flat_map rgb_bytes bitmap) ≡ map rgb_of bitmap
pixels_again [] = refl
pixels_again (p ∷ bitmap) = ap (λ l. rgb_of p ∷ l) (pixels_again bitmap)

bytes_again : (bitmap : List Rgba) → flat_map three_bytes (map rgb_of bitmap) ≡ flat_map rgb_bytes bitmap
bytes_again [] = refl
bytes_again (p ∷ bitmap) = ap (λ l. rgb_bytes p ++ l) (bytes_again bitmap)

six_hundred : decimal 600 ≡ 54 ∷ 48 ∷ 48 ∷ []
six_hundred =
    decimal_step 600 (omega arith) (omega arith)
    ∙ ap (λ l. l ++ 48 ∷ []) (decimal_step 60 (omega arith) (omega arith) ∙ ap (λ l. l ++ 48 ∷ []) (decimal_digit 6 (omega arith)))

header_again : (rest : List ℕ) → behind_header (header 600 ++ rest) ≡ Some rest
unfolding behind_header behind_word
header_again rest = ap (λ side. behind_header ((codes "P6\n" ++ (side ++ (codes " " ++ (side ++ codes "\n255\n")))) ++ rest)) six_hundred

front_all : (count : ℕ) (bytes : List ℕ) → length bytes ≡ count → front count bytes ≡ Some bytes
unfolding front
front_all count bytes all =
    ap (λ enough. if enough then Some (take count bytes) else None) (le-leb count (length bytes) (omega (arith, all))) ∙ ap Some (take_all count bytes (omega (arith, all)))

picture_again : (bitmap : List Rgba) → IsSquare 600 bitmap → picture_of (ppm 600 bitmap) ≡ Some (map rgb_of bitmap)
unfolding ppm pixel_bytes
picture_again bitmap square =
    let bytes : List ℕ = flat_map rgb_bytes bitmap in
    let all : length bytes ≡ 1080000 = omega (arith, length-colours bitmap, square.filled) in
    ap (λ (rest : Option (List ℕ)). option_map pixels_of (option_and_then (front 1080000) rest)) (header_again bytes)
    ∙ ap (option_map pixels_of) (front_all 1080000 bytes all)
    ∙ ap Some (pixels_again bitmap)

file_again : (bitmap : List Rgba) → picture_file (map rgb_of bitmap) ≡ ppm 600 bitmap
unfolding ppm
file_again bitmap = ap (λ l. header 600 ++ l) (bytes_again bitmap)

small_again : (bitmap : List Rgba) → AreSound bitmap → (place : ℕ) → IsBytes (get_or (map rgb_of bitmap) place black)
small_again [] sound place = (omega arith, omega arith, omega arith)
small_again (p ∷ bitmap) sound zero =
    let is = sound 0 in
    (omega (arith, is.small, is.premultiplied.0), omega (arith, is.small, is.premultiplied.1), omega (arith, is.small, is.premultiplied.2))
small_again (p ∷ bitmap) sound (suc place) = small_again bitmap (λ i. sound (suc i)) place

-- a picture that was built, as a file
record IsOwn (bytes : List ℕ) : Type 0 where
  bitmap : List Rgba
  square : IsSquare 600 bitmap
  sound : AreSound bitmap
  is : bytes ≡ ppm 600 bitmap

own_of : (commands : List (List Base)) (status : Status) (output : Output) → IsPictureOf (picture_side profile.Plain) (most_layers profile.Plain) profile.Plain commands status output → IsOwn output.bytes
unfolding picture_side most_layers
own_of commands status output writes = record {
  bitmap = top_of writes.picture.layers;
  square = built_square 600 10 (act_of profile.Plain) commands writes.picture (omega arith) (omega arith) (omega arith) writes.builds;
  sound = built_is_sound 600 10 (act_of profile.Plain) commands writes.picture writes.builds;
  is = ap (λ (o : Output). o.bytes) writes.is;
}

-- what `draw` or `image` wrote

drawn_own : (reading : Reading (List (List Base))) (output : Output) → RefusesEarly reading → WasRun output.status
    → OutputBy (then_read reading (λ commands. Some (Ok (inputs.Plain (plain.Rna (rna.Draw profile.Plain) commands))))) output → IsOwn output.bytes
drawn_own None output early was by = absurd by
drawn_own (Some (Err status)) output early was by = absurd (run_is_no_refusal status (subst WasRun (ap (λ (o : Output). o.status) by) was) early)
drawn_own (Some (Ok commands)) output early was by = own_of commands Done output by

image_own : (reading : Reading (List Base)) (asked : RunWords) (output : Output) → RefusesEarly reading → WasRun output.status
    → OutputBy (then_read reading (λ dna. Some (Ok (inputs.Run (run.Image profile.Plain) dna asked.budget asked.limit)))) output → IsOwn output.bytes
image_own None asked output early was by = absurd by
image_own (Some (Err status)) asked output early was by = absurd (run_is_no_refusal status (subst WasRun (ap (λ (o : Output). o.status) by) was) early)
image_own (Some (Ok dna)) asked output early was by = own_of by.run.rna (status_by false by.run.end) output by.writes

is_own : (files : Files) (output : Output) → IsOwnPicture files output → IsOwn output.bytes
is_own files output (was, inl (name, gives)) =
    drawn_own (rna_in files name) output (rna_early files name) was (output_by files (words.Draw name profile.Plain) output gives)
is_own files output (was, inr (asked, gives)) =
    image_own (start_in files asked) asked output (start_early files asked) was (output_by files (words.Image asked profile.Plain) output gives)

pub own_picture_is_same : OwnPictureIsSame
own_picture_is_same before files later name limit asked own drawing image draws holds made done run gives =
    let was = is_own before own draws in
    let drawing_is = given_drawing files name own.bytes limit drawing holds made done in
    let mine : List Rgb = map rgb_of was.bitmap in
    let same : drawing_is.picture ≡ mine = same_Some drawing_is.picture mine (sym drawing_is.is ∙ ap picture_of was.is ∙ picture_again was.bitmap was.square) in
    let is : IsPicture mine = record { filled = length-map was.bitmap rgb_of ∙ omega (arith, was.square.filled); small = small_again was.bitmap was.sound } in
    let tells = drawing_is.tells ∙ ap (λ (picture : List Rgb). record { status = Done; bytes = letters (draw.drawing picture) }) same in
    ap (λ (o : Output). o.bytes) (drawn_is_same later asked mine drawing image is tells run gives) ∙ file_again was.bitmap ∙ sym was.is
