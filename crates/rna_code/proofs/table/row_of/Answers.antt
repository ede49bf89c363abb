use Rattle.std.proofs.Common.{◌≡◌, ℕ, List, ◌∙◌, ap, ◌++◌, arith, take, length, map}
use Rattle.std.proofs.lemmas.Grind.{common_steps}
use Rattle.std.specs.Option.{option_map}
use Rattle.fuun_base.specs.Letter.{letter_of}
use Rattle.rna_code.specs.Commands.{row_among, row_of, rows_of}
use Rattle.rna_code.proofs.table.row_of.Goals as goal

-- the front of a list, cut behind its first part
front : (n : ℕ) (all xs ys : List ℕ) → all ≡ xs ++ ys → n ≡ length xs → take n all ≡ xs
front n all xs ys e l = grind (arith, common_steps)

pub returns : goal.returns
unfolding row_of
returns c =
    let command = c.args.command.now in
    let word : take c.letters-len.result c.letters-len.new.out ≡ map letter_of command =
    front _ _ _ _ c.letters-len.ensures.written (grind (arith, common_steps)) in
    record {
      name = c.find_row.ensures.name ∙ ap (λ w. option_map (λ r. r.name) (row_among (rows_of c.args.profile) w)) word;
      act = c.find_row.ensures.act ∙ ap (λ w. option_map (λ r. r.act) (row_among (rows_of c.args.profile) w)) word;
    }
