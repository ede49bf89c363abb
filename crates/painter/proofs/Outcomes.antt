-- An act and a list of commands have one outcome.
use Rattle.std.proofs.Common.{◌≡◌, ℕ, List, [], ◌∷◌, Option, Some, None, sym, subst, ◌∙◌}
use Rattle.fuun_base.specs.declared.letters.Base.{Base}
use Rattle.rna_code.specs.declared.acts.Act.{Act}
use Rattle.rna_code.specs.declared.acts.Act.TheVariants.{Add, EmptyBucket, Move, TurnLeft, TurnRight, Mark, Line, Fill, AddLayer, CopyLayer, Compose, Clip}
use Rattle.canvas.specs.Buckets.{current_pixel}
use Rattle.line_draw.specs.Lines.{IsLine}
use Rattle.line_draw.proofs.Points.{one_line}
use Rattle.flood.specs.Region.{IsFill}
use Rattle.flood.proofs.Regions.{one_fill}
use Rattle.layers.specs.Layers.{top_of}
use Rattle.painter.proofs.Drawings.{drawn_once}
use Rattle.painter.specs.Picture.{Picture, Table, Does, DoesIfAny, Builds}

pub acts_once : (side most : ℕ) (act : Act) (p q r : Picture) → Does side most act p q → Does side most act p r → q ≡ r
acts_once side most (Add ink) p q r a b = a ∙ sym b
acts_once side most EmptyBucket p q r a b = a ∙ sym b
acts_once side most Move p q r a b = a ∙ sym b
acts_once side most TurnLeft p q r a b = a ∙ sym b
acts_once side most TurnRight p q r a b = a ∙ sym b
acts_once side most Mark p q r a b = a ∙ sym b
acts_once side most Line p q r a b = drawn_once p q r (λ was now. IsLine side was p.at p.mark (current_pixel p.bucket) now) (λ m n. one_line side (top_of p.layers) m n p.at p.mark (current_pixel p.bucket)) a b
acts_once side most Fill p q r a b = drawn_once p q r (λ was now. IsFill side was p.at (current_pixel p.bucket) now) (λ m n. one_fill side (top_of p.layers) m n p.at (current_pixel p.bucket)) a b
acts_once side most AddLayer p q r a b = a ∙ sym b
acts_once side most CopyLayer p q r a b = a ∙ sym b
acts_once side most Compose p q r a b = a ∙ sym b
acts_once side most Clip p q r a b = a ∙ sym b

any_once : (side most : ℕ) (act : Option Act) (p q r : Picture) → DoesIfAny side most act p q → DoesIfAny side most act p r → q ≡ r
any_once side most None p q r a b = a ∙ sym b
any_once side most (Some act) p q r a b = acts_once side most act p q r a b

pub builds_once : (side most : ℕ) (table : Table) (rna : List (List Base)) (p q r : Picture) → Builds side most table rna p q → Builds side most table rna p r → q ≡ r
builds_once side most table [] p q r a b = a ∙ sym b
builds_once side most table (command ∷ rest) p q r a b =
    let same : a.0 ≡ b.0 = any_once side most (table command) p a.0 b.0 a.1.0 b.1.0 in
    let P : Picture → Type 0 = λ m. Builds side most table rest m r in
    builds_once side most table rest a.0 q r a.1.1 (subst P (sym same) b.1.1)
