use Rattle.std.proofs.Common.{◌++◌}
use Rattle.std.specs.List.{flat_map}
use Rattle.std.proofs.lemmas.Result.{MatchResult-from_err}
use Rattle.fuun_io.proofs.WrittenLemmas.{PutsFront-longer}
use Rattle.explainer.specs.Lines.{end_line, rna_line, seg_line}
use Rattle.letters_out.proofs.PieceLemmas.{puts_behind}
use Rattle.explainer.proofs.writing.put_explained.Goals as goal

pub returns-in_err-put_end-clause-puts : goal.returns-in_err-put_end-clause-puts
returns-in_err-put_end-clause-puts g c =
    MatchResult-from_err c.from_residual.result _ _ c.from_residual.ensures.0
    (λ _. PutsFront-longer _ _ (end_line c.args.found.now.finished c.args.found.now.attempts) (flat_map rna_line c.args.found.now.rna ++ flat_map seg_line c.args.found.now.segs) c.in_err-put_end.ensures.puts)

pub returns-clause-puts : goal.returns-clause-puts
returns-clause-puts g c = puts_behind (end_line c.args.found.now.finished c.args.found.now.attempts) (flat_map rna_line c.args.found.now.rna ++ flat_map seg_line c.args.found.now.segs) _ _ _ c.put_lines.result c.in_ok-put_end.ensures.puts c.put_lines.ensures.puts
