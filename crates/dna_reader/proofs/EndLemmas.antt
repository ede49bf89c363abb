-- What follows for items that were read to an end.
use Rattle.std.proofs.Common.{◌≡◌, ℕ, ◌+◌, ◌≤◌, List, [], ◌∷◌, length, take, drop, arith, refl, ap, sym, ◌∙◌, subst, length-drop}
use Rattle.std.specs.List.{take-map}
use Rattle.std.proofs.lemmas.List.{length-map}
use Rattle.fuun_base.specs.declared.letters.Base.{Base}
use Rattle.dna_items.specs.declared.items.PatItem.{PatItem}
use Rattle.dna_items.specs.declared.items.PatItem.TheVariants.{Base as Literal, Skip, Search, GroupStart, GroupStop}
use Rattle.dna_items.specs.declared.items.TplItem.{TplItem}
use Rattle.dna_items.specs.Balance.{start_of, stop_of, starts, stops, IsBalanced}
use Rattle.dna_items.specs.Held.{held_pattern_item, held_pattern, held_template_item}
use Rattle.dna_reader.specs.Tables.{pattern_table, template_table}
use Rattle.dna_reader.specs.Taking.{PatternIsRead, TemplateIsRead}
use Rattle.dna_reader.proofs.ReadingLemmas.{short_readings}
use Rattle.dna_reader.proofs.TableLemmas.{patterns_are_balanced}

start_held : (x : PatItem) → start_of (held_pattern_item x) ≡ start_of x
start_held (Literal b) = refl
start_held (Skip n) = refl
start_held (Search s) = refl
start_held GroupStart = refl
start_held GroupStop = refl

stop_held : (x : PatItem) → stop_of (held_pattern_item x) ≡ stop_of x
stop_held (Literal b) = refl
stop_held (Skip n) = refl
stop_held (Search s) = refl
stop_held GroupStart = refl
stop_held GroupStop = refl

pub starts_held : (items : List PatItem) → starts (held_pattern items) ≡ starts items
starts_held [] = refl
starts_held (x ∷ items) = omega (arith, start_held x, starts_held items)

pub stops_held : (items : List PatItem) → stops (held_pattern items) ≡ stops items
stops_held [] = refl
stops_held (x ∷ items) = omega (arith, stop_held x, stops_held items)

-- held numbers leave a pattern balanced
pub balanced_held : (items : List PatItem) → IsBalanced items → IsBalanced (held_pattern items)
balanced_held items is = record {
  even = starts_held items ∙ is.even ∙ sym (stops_held items);
  fronts = λ n.
      let front : take n (held_pattern items) ≡ held_pattern (take n items) = take-map held_pattern_item n items in
      omega (arith, is.fronts n, ap stops front, ap starts front, stops_held (take n items), starts_held (take n items));
}

pub pattern_balanced : {Taker : Type 0} (follows : Taker → List (List Base) → Taker → Type 0) (old new : Taker) (d : List Base) (start : ℕ) (items : List PatItem) (next : ℕ)
    → PatternIsRead follows old new d start items next → IsBalanced items
pattern_balanced follows old new d start items next is =
    subst (λ l. IsBalanced l) (sym is.held) (balanced_held is.read (patterns_are_balanced (drop start d) is.read is.rna (drop next d) is.reads))

pub pattern_few : {Taker : Type 0} (follows : Taker → List (List Base) → Taker → Type 0) (old new : Taker) (d : List Base) (start : ℕ) (items : List PatItem) (next : ℕ)
    → PatternIsRead follows old new d start items next → start ≤ length d → next ≤ length d → start + length items ≤ next
pattern_few follows old new d start items next is from to =
    let few = short_readings pattern_table 0 (drop start d) is.read is.rna (drop next d) is.reads in
    let same : length items ≡ length is.read = ap length is.held ∙ length-map is.read held_pattern_item in
    omega (arith, length-drop start d, length-drop next d)

pub template_few : {Taker : Type 0} (follows : Taker → List (List Base) → Taker → Type 0) (old new : Taker) (d : List Base) (start : ℕ) (items : List TplItem) (next : ℕ)
    → TemplateIsRead follows old new d start items next → start ≤ length d → next ≤ length d → start + length items ≤ next
template_few follows old new d start items next is from to =
    let few = short_readings template_table 0 (drop start d) is.read is.rna (drop next d) is.reads in
    let same : length items ≡ length is.read = ap length is.held ∙ length-map is.read held_template_item in
    omega (arith, length-drop start d, length-drop next d)
