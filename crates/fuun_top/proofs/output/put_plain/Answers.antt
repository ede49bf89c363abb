use Rattle.std.proofs.Common.{rules}
use Rattle.fuun_top.proofs.WrittenOutput.{drawing_wrote, names_wrote}
use Rattle.fuun_top.proofs.output.put_plain.Goals as goal

pub returns-in-Rna-Draw-default : goal.returns-in-Rna-Draw-default
returns-in-Rna-Draw-default g c = drawing_wrote c.args.plain.now _ _ _ _ _ _ _ c.put_drawing.ensures (search rules)

pub returns-in-Rna-Names-default : goal.returns-in-Rna-Names-default
returns-in-Rna-Names-default g c =
    names_wrote c.args.plain.now _ _ c.list_rna.result c.status_after.result _ _ _ _ c.status_after.ensures c.list_rna.ensures.puts c.list_rna.ensures.cause (search rules)
