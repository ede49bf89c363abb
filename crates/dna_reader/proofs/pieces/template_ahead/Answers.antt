use Rattle.std.proofs.Common.{◌+◌, refl, ap, sym, ◌∙◌, drop}
use Rattle.dna_items.specs.Held.{held_template_item}
use Rattle.dna_items.specs.declared.items.TplItem.TheVariants.{Base as Literal}
use Rattle.dna_reader.specs.Piece.{GivesItem, GivesEnd, template_piece}
use Rattle.dna_reader.specs.declared.heads.Head.TheVariants.{Literal as LiteralHead, Iic}
use Rattle.dna_reader.proofs.PieceLemmas.{template_at, piece_read, template_command_read}
use Rattle.dna_reader.proofs.pieces.template_ahead.Goals as goal

pub returns-in-Literal-clause-piece : goal.returns-in-Literal-clause-piece
returns-in-Literal-clause-piece g c =
    piece_read template_piece held_template_item (g.S.Strand.bases c.args.s.now) c.args.window.now.place c.pass.new.self.place c.in-Literal.letters (GivesItem (Literal c.in-Literal.base)) (GivesItem (Literal c.in-Literal.base))
    (template_at (drop c.args.window.now.place (g.S.Strand.bases c.args.s.now)) (LiteralHead c.in-Literal.base c.in-Literal.letters) (sym c.in-Literal.ensures.head)) refl
    (c.pass.ensures.place ∙ ap (λ n. n + c.in-Literal.letters) c.in-Literal.ensures.place)

pub returns-in-Iic-clause-piece : goal.returns-in-Iic-clause-piece
returns-in-Iic-clause-piece g c =
    piece_read template_piece held_template_item (g.S.Strand.bases c.args.s.now) c.args.window.now.place c.pass-in-Iic.new.self.place 3 GivesEnd GivesEnd
    (template_at (drop c.args.window.now.place (g.S.Strand.bases c.args.s.now)) Iic (sym c.in-Iic.ensures.head)) refl
    (c.pass-in-Iic.ensures.place ∙ ap (λ n. n + 3) c.in-Iic.ensures.place)

pub returns-in-Iii-clause-piece : goal.returns-in-Iii-clause-piece
returns-in-Iii-clause-piece g c =
    template_command_read (g.S.Strand.bases c.args.s.now) c.head_ahead.new.window c.args.window.now.place c.command_ahead.new.window.place c.command_ahead.result
    (sym c.in-Iii.ensures.head) c.in-Iii.ensures.shows c.in-Iii.ensures.place c.in-Iii.ensures.letters c.in-Iii.ensures.enough c.command_ahead.ensures.command c.command_ahead.ensures.place
