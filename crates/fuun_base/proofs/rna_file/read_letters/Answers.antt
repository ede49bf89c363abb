use Rattle.std.proofs.Common.{◌≡◌, ◌∙◌, arith, length, [], ◌∷◌}
use Rattle.std.proofs.lemmas.List.{length-take-le}
use Rattle.fuun_base.specs.declared.letters.Base.TheVariants.{I}
use Rattle.fuun_base.proofs.RnaLines.{at_seam, read_letters}
use Rattle.fuun_base.proofs.rna_file.read_letters.Goals as goal

pub returns : goal.returns
returns c =
    let line = c.args.line.now in
    let long : length c.fill_letters.new.slots ≡ length line = omega (arith, length-take-le (length line) (I ∷ I ∷ I ∷ I ∷ I ∷ I ∷ I ∷ []) (omega (arith, c.requires.few))) in
    read_letters line _ c.from_bases.result c.requires.few c.requires.letters (at_seam c.fill_letters.new.slots _ (length line) long ∙ c.fill_letters.ensures) c.from_bases.ensures
