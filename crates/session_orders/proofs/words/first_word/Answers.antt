use Rattle.std.proofs.Common.{sym, ◌∙◌, refl, length, slice_range}
use Rattle.session_orders.proofs.WordLemmas.{no_words, words_cut}
use Rattle.session_orders.proofs.words.first_word.Goals as goal

pub returns-in_err-start : goal.returns-in_err-start
returns-in_err-start c = rw c.from_residual.ensures (no_words c.args.text.now (sym c.word_start.ensures ∙ c.in_err-start.was))

pub returns : goal.returns
returns c =
    let text = c.args.text.now in
    let start = c.in_ok-start.start in
    rw (c.split_at.ensures.front, c.split_at.ensures.back) (words_cut text (slice_range text start (length text)) start c.word_len.result (sym c.word_start.ensures ∙ c.in_ok-start.was) refl c.word_len.ensures.value)
