-- DNA of commands is read as these commands, and then used up.
use Rattle.std.proofs.Common.{◌≡◌, ℕ, ◌+◌, false, Some, List, [], ◌∷◌, ◌++◌, length, take, drop, refl, sym, ap, ◌∙◌, subst, arith, append-nil}
use Rattle.std.proofs.Math.Seq.{take-append_seam, drop-append_seam}
use Rattle.fuun_base.specs.declared.letters.Base.{Base}
use Rattle.dna_items.specs.declared.items.PatItem.{PatItem}
use Rattle.dna_reader.specs.Pairs.{PatternRunsOut}
use Rattle.dna_reader.specs.Piece.{GivesCommand, Piece, pattern_piece}
use Rattle.dna_reader.specs.Reading.{RanOut, ReadsFrom}
use Rattle.dna_reader.specs.Tables.{ReadsPattern, pattern_table}
use Rattle.dna_reader.proofs.ReadingLemmas.{reads_more, reads_none}
use Rattle.dna_reader.proofs.TableLemmas.{pattern_fits}
use Rattle.exec_loop.specs.declared.machine.RunEnd.TheVariants.{Finished}
use Rattle.exec_loop.specs.Attempt as one
use Rattle.exec_loop.specs.Attempt.{Attempt, IsAttempt}
use Rattle.exec_loop.specs.Run.{Run, IsRun}
use Rattle.draw_compile.specs.Drawing.{code, codes_of}
use Rattle.draw_compile.proofs.LengthLemmas.{AreWhole}

command_piece : (command rest : List Base) → length command ≡ 7 → pattern_piece false (code command ++ rest) ≡ Some (record { takes = 10; gives = GivesCommand command })
command_piece command rest whole =
    let front : take 7 (command ++ rest) ≡ command = ap (λ n. take n (command ++ rest)) (sym whole) ∙ take-append_seam command rest in
    let ten : 3 + length command ≡ 10 = omega arith in
    let piece : List Base → ℕ → Piece PatItem = λ c n. record { takes = n; gives = GivesCommand c } in
    ap (λ c. Some (piece c (3 + length c))) front ∙ ap (λ n. Some (piece command n)) ten

pub codes_are_read : (commands : List (List Base)) → AreWhole commands → ReadsPattern (codes_of commands) (RanOut commands)
codes_are_read [] whole = reads_none pattern_table pattern_fits 0 [] refl
codes_are_read (command ∷ commands) whole =
    let rest : List Base = codes_of commands in
    let piece : Piece PatItem = record { takes = 10; gives = GivesCommand command } in
    let ten : length (code command) ≡ 10 = omega (arith, whole.0) in
    let behind : drop 10 (code command ++ rest) ≡ rest = ap (λ n. drop n (code command ++ rest)) (sym ten) ∙ drop-append_seam (code command) rest in
    let further : ReadsFrom pattern_table 0 (drop 10 (code command ++ rest)) (RanOut commands) =
    subst (λ d. ReadsFrom pattern_table 0 d (RanOut commands)) (sym behind) (codes_are_read commands whole.1) in
    reads_more pattern_table pattern_fits 0 (code command ++ rest) piece (RanOut commands) (command_piece command rest whole.0) refl further

-- the attempt on DNA of commands
abbrev pub drawing_attempt : List (List Base) → Attempt
drawing_attempt commands = record { pattern = []; template = []; rna = commands; ending = one.Finished }

is_attempt : (commands : List (List Base)) (limit : ℕ) → AreWhole commands → IsAttempt (codes_of commands) limit (drawing_attempt commands)
is_attempt commands limit whole = record {
  ran_out = PatternRunsOut (codes_are_read commands whole);
  no_pattern = refl;
  no_template = refl;
}

-- the run of that attempt alone
abbrev pub drawing_run : List (List Base) → Run
drawing_run commands = record { end = Finished 1; attempts = drawing_attempt commands ∷ []; rna = commands; dna = codes_of commands }

pub drawing_runs : (commands : List (List Base)) (limit : ℕ) → AreWhole commands → IsRun (codes_of commands) 1 limit (drawing_run commands)
drawing_runs commands limit whole = (
  0,
  refl,
  record {
    earlier = [];
    last = drawing_attempt commands;
    made = refl;
    leads = refl;
    number = refl;
    allowed = omega arith;
    attempt = is_attempt commands limit whole;
    ends = refl;
    rna = sym (append-nil commands);
  },
)
