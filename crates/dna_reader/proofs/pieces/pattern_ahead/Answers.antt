use Rattle.std.proofs.Common.{◌+◌, refl, ap, sym, ◌∙◌, drop}
use Rattle.dna_items.specs.Held.{held_pattern_item}
use Rattle.dna_items.specs.declared.items.PatItem.TheVariants.{Base as Literal, GroupStart}
use Rattle.dna_reader.specs.Piece.{GivesItem, pattern_piece}
use Rattle.dna_reader.specs.Given.{end_gives, pattern_gives}
use Rattle.dna_reader.specs.declared.heads.Head.TheVariants.{Literal as LiteralHead, Iip, Iic}
use Rattle.dna_reader.proofs.PieceLemmas.{pattern_at, piece_read, group_end_is, end_held, pattern_command_read}
use Rattle.dna_reader.proofs.pieces.pattern_ahead.Goals as goal

pub returns-in-Literal-clause-piece : goal.returns-in-Literal-clause-piece
returns-in-Literal-clause-piece g c =
    piece_read (pattern_piece c.args.is_open) held_pattern_item (g.S.Strand.bases c.args.s.now) c.args.window.now.place c.pass.new.self.place c.in-Literal.letters (GivesItem (Literal c.in-Literal.base)) (GivesItem (Literal c.in-Literal.base))
    (pattern_at c.args.is_open (drop c.args.window.now.place (g.S.Strand.bases c.args.s.now)) (LiteralHead c.in-Literal.base c.in-Literal.letters) (sym c.in-Literal.ensures.head)) refl
    (c.pass.ensures.place ∙ ap (λ n. n + c.in-Literal.letters) c.in-Literal.ensures.place)

pub returns-in-Iip-clause-piece : goal.returns-in-Iip-clause-piece
returns-in-Iip-clause-piece g c =
    piece_read (pattern_piece c.args.is_open) held_pattern_item (g.S.Strand.bases c.args.s.now) c.args.window.now.place c.pass-in-Iip.new.self.place 3 (GivesItem GroupStart) (GivesItem GroupStart)
    (pattern_at c.args.is_open (drop c.args.window.now.place (g.S.Strand.bases c.args.s.now)) Iip (sym c.in-Iip.ensures.head)) refl
    (c.pass-in-Iip.ensures.place ∙ ap (λ n. n + 3) c.in-Iip.ensures.place)

pub returns-in-Iic-clause-piece : goal.returns-in-Iic-clause-piece
returns-in-Iic-clause-piece g c =
    piece_read (pattern_piece c.args.is_open) held_pattern_item (g.S.Strand.bases c.args.s.now) c.args.window.now.place c.pass-in-Iic.new.self.place 3 (end_gives c.args.is_open) (pattern_gives c.group_end.result)
    (pattern_at c.args.is_open (drop c.args.window.now.place (g.S.Strand.bases c.args.s.now)) Iic (sym c.in-Iic.ensures.head) ∙ group_end_is c.args.is_open) (c.group_end.ensures ∙ end_held c.args.is_open)
    (c.pass-in-Iic.ensures.place ∙ ap (λ n. n + 3) c.in-Iic.ensures.place)

pub returns-in-Iii-clause-piece : goal.returns-in-Iii-clause-piece
returns-in-Iii-clause-piece g c =
    pattern_command_read c.args.is_open (g.S.Strand.bases c.args.s.now) c.head_ahead.new.window c.args.window.now.place c.command_ahead.new.window.place c.command_ahead.result
    (sym c.in-Iii.ensures.head) c.in-Iii.ensures.shows c.in-Iii.ensures.place c.in-Iii.ensures.letters c.in-Iii.ensures.enough c.command_ahead.ensures.command c.command_ahead.ensures.place

pub returns-in_ok-search_ahead-in-If-clause-piece : goal.returns-in_ok-search_ahead-in-If-clause-piece
returns-in_ok-search_ahead-in-If-clause-piece g c = rw c.in-If.ensures.place at (c.in_ok-search_ahead-in-If.ensures.piece c.args.is_open)
