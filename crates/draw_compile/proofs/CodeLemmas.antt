-- The DNA of commands, one after another.
use Rattle.std.proofs.Common.{◌≡◌, ℕ, ◌+◌, ◌-◌, Option, None, List, [], ◌∷◌, ◌++◌, map, refl, sym, ap, ◌∙◌, arith, append_assoc, append-nil}
use Rattle.std.specs.Prelude.{replicate}
use Rattle.std.specs.List.{range_with_len}
use Rattle.std.proofs.lemmas.Grind.{flat_map-append}
use Rattle.std.proofs.lemmas.List.FromFn.{map-range_with_len_more}
use Rattle.fuun_base.specs.declared.letters.Base.{Base}
use Rattle.picture_in.specs.Pixmap.{Rgb}
use Rattle.draw_compile.specs.declared.runs.Run.{Run}
use Rattle.draw_compile.specs.Runs.{runs_from}
use Rattle.draw_compile.specs.Drawing.{code, codes_of, commands_of, drawing, draw_line, filling, ink_command, inks, last_pixel, move, row_commands, run_commands, set_mark}

pub codes_of-append : (first last : List (List Base)) → codes_of (first ++ last) ≡ codes_of first ++ codes_of last
codes_of-append first last = flat_map-append code first last

pub no_inks : (p : Rgb) → codes_of (inks p 0) ≡ []
unfolding inks
no_inks p = refl

-- one ink more
pub more_inks : (p : Rgb) (k : ℕ) (old mid new ink : List Base) → mid ≡ old ++ codes_of (inks p k) → ink ≡ code (ink_command p k) → new ≡ mid ++ ink → new ≡ old ++ codes_of (inks p (k + 1))
unfolding inks
more_inks p k old mid new ink before is put =
    let done : List (List Base) = map (ink_command p) (range_with_len 0 k) in
    let all : codes_of (map (ink_command p) (range_with_len 0 (k + 1))) ≡ codes_of done ++ code (ink_command p k) =
    ap codes_of (map-range_with_len_more (ink_command p) 0 k k (omega arith))
    ∙ codes_of-append done (ink_command p k ∷ [])
    ∙ ap (λ l. codes_of done ++ l) (append-nil (code (ink_command p k))) in
    put
    ∙ ap (λ l. mid ++ l) is
    ∙ ap (λ l. l ++ code (ink_command p k)) before
    ∙ append_assoc old (codes_of done) (code (ink_command p k))
    ∙ ap (λ l. old ++ l) (sym all)

-- the parts of a run
pub run_put : (before : Option Rgb) (run : Run) (out filled marked moved lined last : List Base)
    → filled ≡ out ++ codes_of (filling before run.pixel) → marked ≡ filled ++ code set_mark → moved ≡ marked ++ codes_of (replicate (run.len - 1) move)
    → lined ≡ moved ++ code draw_line → last ≡ lined ++ code move → last ≡ out ++ codes_of (run_commands before run)
run_put before run out filled marked moved lined last fill mark moves line ends =
    let a : List Base = codes_of (filling before run.pixel) in
    let b : List Base = codes_of (replicate (run.len - 1) move) in
    let tail : List (List Base) = draw_line ∷ move ∷ [] in
    let behind : codes_of (set_mark ∷ (replicate (run.len - 1) move ++ tail)) ≡ code set_mark ++ (b ++ codes_of tail) =
    ap (λ l. code set_mark ++ l) (codes_of-append (replicate (run.len - 1) move) tail) in
    let all : codes_of (run_commands before run) ≡ a ++ (code set_mark ++ (b ++ codes_of tail)) =
    codes_of-append (filling before run.pixel) (set_mark ∷ (replicate (run.len - 1) move ++ tail)) ∙ ap (λ l. a ++ l) behind in
    let joined : last ≡ (((out ++ a) ++ code set_mark) ++ b) ++ codes_of tail =
    ends
    ∙ ap (λ l. l ++ code move) (line ∙ ap (λ l. l ++ code draw_line) (moves ∙ ap (λ l. l ++ b) (mark ∙ ap (λ l. l ++ code set_mark) fill)))
    ∙ append_assoc (((out ++ a) ++ code set_mark) ++ b) (code draw_line) (code move) in
    joined
    ∙ append_assoc ((out ++ a) ++ code set_mark) b (codes_of tail)
    ∙ append_assoc (out ++ a) (code set_mark) (b ++ codes_of tail)
    ∙ append_assoc out a (code set_mark ++ (b ++ codes_of tail))
    ∙ ap (λ l. out ++ l) (sym all)

-- a row more
pub row_put : (picture : List Rgb) (before after : Option Rgb) (runs : List Run) (rows left : List (List Run)) (mid new : List Base)
    → left ≡ runs ∷ rows → after ≡ last_pixel before runs → new ≡ mid ++ codes_of (row_commands before runs) → mid ++ codes_of (commands_of before left) ≡ drawing picture
    → new ++ codes_of (commands_of after rows) ≡ drawing picture
row_put picture before after runs rows left mid new is last put whole =
    let row : List Base = codes_of (row_commands before runs) in
    let rest : List Base = codes_of (commands_of (last_pixel before runs) rows) in
    ap (λ l. new ++ codes_of (commands_of l rows)) last
    ∙ ap (λ l. l ++ rest) put
    ∙ append_assoc mid row rest
    ∙ ap (λ l. mid ++ l) (sym (codes_of-append (row_commands before runs) (commands_of (last_pixel before runs) rows)))
    ∙ ap (λ l. mid ++ codes_of (commands_of before l)) (sym is)
    ∙ whole

pub drawing-rows : (picture : List Rgb) → codes_of (commands_of None (runs_from 600 picture 0 600)) ≡ drawing picture
unfolding drawing
drawing-rows picture = refl
