use Rattle.std.proofs.Common.{◌≡◌, arith, sym, ◌∙◌, Some, None, true, get_or, refl, length, take}
use Rattle.std.proofs.Math.ListN.{length-set}
use Rattle.std.proofs.lemmas.List.{length-take-le}
use Rattle.fuun_base.specs.Letter.{base_of}
use Rattle.fuun_base.specs.RnaFile.{is_allowed}
use Rattle.fuun_base.proofs.RnaLines.{allowed_more, blank_allowed, blank_more, eighth_letter, letter_more}
use Rattle.fuun_base.proofs.rna_file.read_each.Goals as goal
use Rattle.fuun_base.proofs.rna_file.read_each.Goals.{in-Some+else-len-eq7, in_default+else-not-is_blank}

pub returns-then-len-eq7 : goal.returns-then-len-eq7
returns-then-len-eq7 c =
    let i = c.loop-byte.byte-index in
    let is : base_of (get_or c.args.line.now i 0) ≡ Some c.in-Some.base = sym c.from_letter.ensures ∙ c.in-Some.is in
    let all : length (take c.loop-byte.len c.loop-byte.bases) ≡ c.loop-byte.len = length-take-le c.loop-byte.len c.loop-byte.bases (omega arith) in
    eighth_letter c.args.line.now (take c.loop-byte.len c.loop-byte.bases) i c.in-Some.base c.loop-byte-test.true (omega arith) is c.loop-byte.invariant.read

pub loop-byte-preserved : goal.loop-byte-preserved
loop-byte-preserved c =
    let line = c.args.line.now in
    let i = c.loop-byte.byte-index in
    elim c.match-from_letter.branch [
      | in-Some+else-len-eq7 w ↦
          let is : base_of (get_or line i 0) ≡ Some w.in-Some.base = sym c.from_letter.ensures ∙ w.in-Some.is in
          let allowed : is_allowed (get_or line i 0) ≡ true = rw is refl in
          rw (w.bases-is, w.len-is) (record {
            places = length-set c.loop-byte.bases c.loop-byte.len w.in-Some.base ∙ c.loop-byte.invariant.places;
            room = omega arith;
            read = letter_more line c.loop-byte.bases i c.loop-byte.len w.in-Some.base c.loop-byte-test.true (omega arith) is c.loop-byte.invariant.read;
            judged = allowed_more line i c.loop-byte-test.true allowed c.loop-byte.invariant.judged;
          })
      | in_default+else-not-is_blank w ↦
          let is : base_of (get_or line i 0) ≡ None = sym c.from_letter.ensures ∙ w.in_default.is in
          let allowed : is_allowed (get_or line i 0) ≡ true = blank_allowed (get_or line i 0) w.is_blank.result is w.is_blank.ensures w.if-not-is_blank.false in
          rw (w.bases-is, w.len-is) (record {
            places = c.loop-byte.invariant.places;
            room = c.loop-byte.invariant.room;
            read = blank_more line (take c.loop-byte.len c.loop-byte.bases) i c.loop-byte-test.true is c.loop-byte.invariant.read;
            judged = allowed_more line i c.loop-byte-test.true allowed c.loop-byte.invariant.judged;
          })
    ]
