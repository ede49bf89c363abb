-- Texts that are assembled and compiled.
use Rattle.std.proofs.Common.{◌≡◌, ◌+◌, ◌≤◌, Ok, List, ◌∷◌, [], length, arith, refl, sym, ap, ◌∙◌}
use Rattle.fuun_base.specs.declared.letters.Base.{Base}
use Rattle.source_compile.specs.Compiled.{IsCompiled}
use Rattle.source_compile.proofs.AnswerLemmas.{source_answer_is_one}
use Rattle.source_compile.proofs.SourceLemmas.{assembled_is_source}
use Rattle.fuun_top.specs.MadeChains.{AssembledIsCompiled}
use Rattle.fuun_top.specs.Making.{source_refusal, told}
use Rattle.fuun_top.specs.Output.{Output, answered}
use Rattle.fuun_top.specs.Texts.{letters}
use Rattle.fuun_top.specs.declared.request.TextVerb.TheVariants as texts
use Rattle.fuun_words.specs.declared.request.Request.TheVariants as words
use Rattle.fuun_top.proofs.ChainedListing.{assembled_of}
use Rattle.fuun_top.proofs.ReadBack.{kept_text, output_by}

letters_len : (dna : List Base) → length (letters dna) ≡ length dna + 1
letters_len [] = refl
letters_len (b ∷ dna) = omega (arith, letters_len dna)

pub assembled_is_compiled : AssembledIsCompiled
assembled_is_compiled files name text limit assembled compiled kept made done within compiles =
    let taken = assembled_of text assembled (kept_text files texts.Assemble name text assembled kept (output_by files (words.Assemble name) assembled made)) done in
    let answer = kept_text files (texts.Compile limit) name text compiled kept (output_by files (words.Compile name limit) compiled compiles) in
    let fits : length taken.code ≤ limit = omega (arith, within, ap (λ (o : Output). length o.bytes) taken.tells, letters_len taken.code) in
    let own : IsCompiled limit text (Ok taken.code) = assembled_is_source text taken.code limit taken.is fits in
    answer.tells ∙ ap (answered letters) (answer.is.tells ∙ ap (told source_refusal) (source_answer_is_one limit text answer.is.answer (Ok taken.code) answer.is.is own)) ∙ sym taken.tells
