use Rattle.source_compile.proofs.SourceLemmas.{assembled_is_source}
use Rattle.source_compile.proofs.laws.assembled_texts.Goals as goal

pub returns : goal.returns
returns c = assembled_is_source
