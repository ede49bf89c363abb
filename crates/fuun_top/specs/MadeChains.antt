-- DNA that is made of a text, and then run, listed, drawn or explained.
use Rattle.std.specs.Prelude.{◌≡◌, ◌⊎◌, ℕ, ◌+◌, ◌≤◌, false, Some, None, Ok, List, [], ◌∷◌, ◌++◌, flat_map, length}
use Rattle.std.specs.List.{AllByRecursion}
use Rattle.fuun_base.specs.declared.letters.Base.{Base}
use Rattle.fuun_base.specs.Lines.{lines}
use Rattle.rna_code.specs.declared.profile.Profile.TheVariants.{Plain}
use Rattle.ppm_out.specs.Ppm.{header}
use Rattle.assembler.specs.Answers.{Pair, AreTexts, ReadsPairs, pairs_code}
use Rattle.assembler.specs.Laws.{IsSmallPair, shown_from}
use Rattle.picture_in.specs.Pixmap.{Rgb, picture_of}
use Rattle.patch_text.specs.Contents.{Contents}
use Rattle.patch_text.specs.Meaning.{patches}
use Rattle.patch_compile.specs.Law.{StaysWithin}
use Rattle.patch_compile.specs.Splice.{patched}
use Rattle.sym_strand.specs.declared.segments.Seg.{Seg}
use Rattle.explainer.specs.Answers.{RangesWithin, bases_in}
use Rattle.explainer.specs.Lines.{explained_text}
use Rattle.fuun_top.specs.Chaining.{Gives, IsKept, WasRun, without_places}
use Rattle.fuun_top.specs.Output.{Output}
use Rattle.fuun_top.specs.Reading.{Files, dna_in}
use Rattle.fuun_top.specs.Texts.{letters}
use Rattle.fuun_top.specs.declared.status.InFile.TheVariants as file
use Rattle.fuun_top.specs.declared.status.Status.TheVariants.{Done, OutOfBudget}
use Rattle.fuun_words.specs.declared.request.Request.TheVariants as words
use Rattle.fuun_words.specs.declared.request.ExplainWords.{ExplainWords}
use Rattle.fuun_words.specs.declared.request.RunWords.{RunWords}

-- the prefix of a patch file that holds these contents was written, and is kept in a file
pub record IsPatchKept (files later : Files) (contents : Contents) (name : List ℕ) : Type 0 where
  pub patch : List ℕ
  pub text : List ℕ
  pub holds : files patch ≡ Some text
  pub says : patches text ≡ Ok contents
  pub limit : ℕ
  pub prefix : Output
  pub compiled : Gives files (words.Patch patch limit) prefix
  pub done : prefix.status ≡ Done
  pub kept : IsKept later name prefix.bytes

-- a run of that prefix before a DNA of the stated length, with an attempt a row, and a limit that each DNA on the way is within
pub record IsPatching (later : Files) (contents : Contents) (asked : RunWords) (dna : List Base) : Type 0 where
  pub reads : dna_in later file.Dna asked.dna ≡ Some (Ok dna)
  pub stated : length dna ≡ contents.stated
  pub budget : asked.budget ≡ length contents.rows
  pub limit : StaysWithin asked.limit contents.rows dna

-- a run of a prefix from a patch file writes the letters of the patched DNA, and no RNA
abbrev pub PatchesAreCarriedOut : Type 0
PatchesAreCarriedOut =
    (files later : Files) (contents : Contents) (name : List ℕ) (asked : RunWords) (dna : List Base) (written rna : Output)
    → IsPatchKept files later contents name → asked.prefix ≡ Some name → IsPatching later contents asked dna
    → Gives later (words.Dna asked) written
    → Gives later (words.Rna asked) rna
    → (written ≡ record { status = Done; bytes = letters (patched dna contents.rows) })
    × (rna ≡ record { status = OutOfBudget; bytes = [] })

-- a listing of what was assembled shows each line of the text behind its place
abbrev pub AssembledIsListed : Type 0
AssembledIsListed =
    (files later : Files) (source name text : List ℕ) (count : ℕ) (assembled listed : Output)
    → files source ≡ Some text
    → Gives files (words.Assemble source) assembled → assembled.status ≡ Done
    → IsKept later name assembled.bytes
    → Gives later (words.List name count) listed
    → (pairs : List Pair) × AreTexts (lines text) pairs
    × (listed ≡ record { status = Done; bytes = shown_from count 0 (lines text) pairs })

-- what is assembled of a file is compiled of it too, under a limit that the DNA is within
abbrev pub AssembledIsCompiled : Type 0
AssembledIsCompiled =
    (files : Files) (name text : List ℕ) (limit : ℕ) (assembled compiled : Output)
    → IsKept files name text
    → Gives files (words.Assemble name) assembled → assembled.status ≡ Done → length assembled.bytes ≤ limit + 1
    → Gives files (words.Compile name limit) compiled
    → compiled ≡ assembled

-- a listing of pairs, its places cut off, is assembled to a DNA that is read as the same pairs and leaves nothing
abbrev pub ListedIsAssembledAgain : Type 0
ListedIsAssembledAgain =
    (files later : Files) (name text : List ℕ) (dna rest : List Base) (pairs : List Pair) (listed assembled : Output)
    → dna_in files file.Dna name ≡ Some (Ok dna) → ReadsPairs dna pairs rest → AllByRecursion IsSmallPair pairs
    → Gives files (words.List name (length pairs)) listed
    → IsKept later text (without_places listed.bytes)
    → Gives later (words.Assemble text) assembled
    → (assembled ≡ record { status = Done; bytes = letters (pairs_code pairs) }) × ReadsPairs (pairs_code pairs) pairs []

-- a picture as a file with the shortest header
abbrev pub picture_file : List Rgb → List ℕ
picture_file picture = header 600 ++ flat_map (λ p. p.0 ∷ p.1 ∷ p.2 ∷ []) picture

-- a run of the DNA that draws a picture, with a budget of at least one attempt and a limit that the DNA is within
pub record IsDrawing (later : Files) (drawing : Output) (asked : RunWords) : Type 0 where
  pub alone : asked.prefix ≡ None
  pub kept : IsKept later asked.dna drawing.bytes
  pub budget : 1 ≤ asked.budget
  pub limit : length drawing.bytes ≤ asked.limit + 1

-- the image of a DNA that was made of a pixmap, each number of which is a byte, is that pixmap's picture
abbrev pub DrawnPictureIsSame : Type 0
DrawnPictureIsSame =
    (files later : Files) (name pixmap : List ℕ) (limit : ℕ) (asked : RunWords) (drawing image : Output)
    → files name ≡ Some pixmap → AllByRecursion (λ byte. byte ≤ 255) pixmap
    → Gives files (words.Picture name limit) drawing → drawing.status ≡ Done
    → IsDrawing later drawing asked
    → Gives later (words.Image asked Plain) image
    → (picture : List Rgb) × (picture_of pixmap ≡ Some picture) × (image ≡ record { status = Done; bytes = picture_file picture })

-- a picture that `draw` or `image` wrote
abbrev pub IsOwnPicture : Files → Output → Type 0
IsOwnPicture files output =
    WasRun output.status
    × (((rna : List ℕ) × Gives files (words.Draw rna Plain) output) ⊎ ((asked : RunWords) × Gives files (words.Image asked Plain) output))

-- and where `draw` or `image` wrote the pixmap, the two files are the same byte for byte
abbrev pub OwnPictureIsSame : Type 0
OwnPictureIsSame =
    (before files later : Files) (name : List ℕ) (limit : ℕ) (asked : RunWords) (own drawing image : Output)
    → IsOwnPicture before own → files name ≡ Some own.bytes
    → Gives files (words.Picture name limit) drawing → drawing.status ≡ Done
    → IsDrawing later drawing asked
    → Gives later (words.Image asked Plain) image
    → image.bytes ≡ own.bytes

-- each DNA of a length stays within the limit while rows are carried out
abbrev pub AllStayWithin : ℕ → Contents → Type 0
AllStayWithin limit contents = (dna : List Base) → length dna ≡ contents.stated → StaysWithin limit contents.rows dna

-- what is told of a prefix from a patch file: an attempt a row, no RNA, and segments that are, in each target, the patched target
pub record IsToldOfPatch (contents : Contents) (output : Output) : Type 0 where
  pub segs : List Seg
  pub tells : output ≡ record { status = Done; bytes = explained_text (record { finished = false; attempts = length contents.rows; rna = []; segs = segs }) }
  pub within : RangesWithin contents.stated segs
  pub patches : (dna : List Base) → length dna ≡ contents.stated → flat_map (bases_in dna) segs ≡ patched dna contents.rows

-- so is every patch file's prefix explained: no attempt depends on the target
abbrev pub PatchIsExplained : Type 0
PatchIsExplained =
    (files later : Files) (contents : Contents) (asked : ExplainWords) (output : Output)
    → IsPatchKept files later contents asked.prefix
    → asked.length ≡ contents.stated → asked.attempts ≡ length contents.rows → AllStayWithin asked.limit contents
    → Gives later (words.Explain asked) output
    → IsToldOfPatch contents output
