use Rattle.std.proofs.Common.{◌≡◌, subst}
use Rattle.std.specs.List.{flat_map}
use Rattle.std.proofs.lemmas.Result.{MatchResult-from_err}
use Rattle.fuun_io.proofs.WrittenLemmas.{PutsFront-longer}
use Rattle.fuun_io.specs.Written.{PutsFront, Puts, appended}
use Rattle.explainer.specs.Lines.{rna_line, seg_line}
use Rattle.letters_out.proofs.PieceLemmas.{puts_behind}
use Rattle.explainer.proofs.writing.put_lines.Goals as goal

pub returns-in_err-put_rna-clause-puts : goal.returns-in_err-put_rna-clause-puts
returns-in_err-put_rna-clause-puts g c =
    MatchResult-from_err c.from_residual.result _ _ c.from_residual.ensures.0
    (λ _. PutsFront-longer _ _ (flat_map rna_line c.args.found.now.rna) (flat_map seg_line c.args.found.now.segs)
    (subst (λ l. PutsFront (g.S.Sink.bytes c.args.sink.now) (g.S.Sink.bytes c.put_rna.new.sink) (flat_map rna_line l)) c.as_slice.ensures c.in_err-put_rna.ensures.puts))

pub returns-clause-puts : goal.returns-clause-puts
returns-clause-puts g c =
    puts_behind (flat_map rna_line c.args.found.now.rna) (flat_map seg_line c.args.found.now.segs) _ _ _ c.put_segs.result
    (subst (λ l. g.S.Sink.bytes c.put_rna.new.sink ≡ appended (g.S.Sink.bytes c.args.sink.now) (flat_map rna_line l)) c.as_slice.ensures c.in_ok-put_rna.ensures.puts)
    (subst (λ l. Puts c.put_segs.result (g.S.Sink.bytes c.put_rna.new.sink) (g.S.Sink.bytes c.put_segs.new.sink) (flat_map seg_line l)) c.as_slice-2.ensures c.put_segs.ensures.puts)
