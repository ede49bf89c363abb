-- The attempt on cells whose known front begins with the code of a pattern and a template.
use Rattle.std.proofs.Common.{◌≡◌, ℕ, ◌+◌, ◌-◌, false, List, [], ◌∷◌, ◌++◌, map, flat_map, length, take, drop, arith, refl, sym, ap, ◌∙◌, append_assoc}
use Rattle.std.proofs.lemmas.List.{length-append, length-map, map-append}
use Rattle.std.proofs.Math.Seq.{take-append-add}
use Rattle.fuun_base.specs.declared.letters.Base.{Base}
use Rattle.dna_items.specs.declared.items.PatItem.{PatItem}
use Rattle.dna_items.specs.declared.items.TplItem.{TplItem}
use Rattle.dna_items.specs.declared.items.TplItem.TheVariants.{Group}
use Rattle.dna_reader.specs.Codes.{pair_code, IsReadable}
use Rattle.dna_reader.proofs.CodeLemmas.{pair_code_is_read}
use Rattle.matcher.specs.Groups.{AreGroups}
use Rattle.matcher.specs.Match.{last_place}
use Rattle.sym_strand.specs.declared.cells.Cell.{Cell}
use Rattle.sym_strand.specs.declared.cells.Cell.TheVariants.{Known}
use Rattle.sym_strand.specs.Cells.{known_front}
use Rattle.explainer.specs.Attempt.{Attempt, Matched, ReadsBoth, Rewrites}
use Rattle.explainer.specs.Filling.{base_in, fill}
use Rattle.explainer.specs.Leading.{LeadAlong}
use Rattle.explainer.specs.Replacement.{texts_of, depends_on_target, put_by, replaced}
use Rattle.explainer.proofs.Filled.{fill_known}

-- a known front before cells

front_before : (w : List Base) (c : List Cell) → known_front (map Known w ++ c) ≡ w ++ known_front c
front_before [] c = refl
front_before (b ∷ w) c = ap (λ l. b ∷ l) (front_before w c)

drop_known : (w : List Base) (c : List Cell) → drop (length w) (map Known w ++ c) ≡ c
drop_known [] c = refl
drop_known (b ∷ w) c = drop_known w c

pub fill_before : (d w : List Base) (c : List Cell) → fill d (map Known w ++ c) ≡ w ++ fill d c
fill_before d w c = map-append (base_in d) (map Known w) c ∙ ap (λ l. l ++ fill d c) (fill_known d w)

-- one attempt

-- an attempt on cells that matches and gives no RNA, with further known parts before the next cells
pub record StepsBy (z : List Cell) (r : List Base) : Type 0 where
  pub attempt : Attempt
  pub stop : ℕ
  pub back : List Cell
  pub rewrites : Rewrites z attempt stop (map Known r ++ back)
  pub ends : attempt.ending ≡ Matched stop (map Known r ++ back)
  pub rna : attempt.rna ≡ []

reads_code : (pattern : List PatItem) (template : List TplItem) (r : List Base) (c : List Cell) (attempt : Attempt) → IsReadable pattern → attempt.pattern ≡ pattern → attempt.template ≡ template → attempt.rna ≡ []
    → ReadsBoth (map Known (pair_code pattern template ++ r) ++ c) attempt (map Known r ++ c)
reads_code pattern template r c attempt readable is_pattern is_template is_rna =
    let code : List Base = pair_code pattern template in
    let z : List Cell = map Known (code ++ r) ++ c in
    let left : List Base = r ++ known_front c in
    let reads = pair_code_is_read pattern template left readable in
    let front : known_front z ≡ code ++ left = front_before (code ++ r) c ∙ append_assoc code r (known_front c) in
    let count : length (known_front z) - length left ≡ length code = omega (arith, ap length front, length-append code left) in
    let whole : z ≡ map Known code ++ (map Known r ++ c) = ap (λ l. l ++ c) (map-append Known code r) ∙ append_assoc (map Known code) (map Known r) c in
    record {
      pattern_rna = reads.pattern_rna;
      template_rna = reads.template_rna;
      middle = reads.middle;
      left = left;
      pattern = rw (is_pattern, front) reads.reads_pattern;
      template = rw is_template reads.reads_template;
      rna = is_rna ∙ reads.whole;
      behind = sym (ap (λ n. drop n z) count ∙ ap (drop (length code)) whole ∙ drop_known code (map Known r ++ c));
    }

-- a pattern that leads on behind further parts, and a template that first puts them as they stand
pub steps_by : (pattern : List PatItem) (more : List TplItem) (r : List Base) (c : List Cell) (n stop : ℕ) (places : List ℕ) (ranges : List (ℕ × ℕ)) → IsReadable pattern
    → LeadAlong (map Known r ++ c) pattern 0 places → stop ≡ last_place (0 ∷ places) → AreGroups pattern (0 ∷ places) ((0, n + length r) ∷ ranges)
    → ((texts : List (List Cell)) → depends_on_target texts more ≡ false) → StepsBy (map Known (pair_code pattern (Group 0 0 ∷ more) ++ r) ++ c) r
steps_by pattern more r c n stop places ranges readable leads stops grouped known =
    let rest : List Cell = map Known r ++ c in
    let texts : List (List Cell) = texts_of rest ((0, n + length r) ∷ ranges) in
    let puts : List Cell = flat_map (put_by texts) more in
    let back : List Cell = take n c ++ (puts ++ drop stop rest) in
    let attempt : Attempt = record { pattern = pattern; template = Group 0 0 ∷ more; rna = []; ending = Matched stop (map Known r ++ back) } in
    let count : n + length r - 0 ≡ length (map Known r) + n = omega (arith, length-map r Known) in
    let text : take (n + length r - 0) rest ≡ map Known r ++ take n c = ap (λ k. take k rest) count ∙ take-append-add (map Known r) c n in
    let next : map Known r ++ back ≡ replaced rest (Group 0 0 ∷ more) ((0, n + length r) ∷ ranges) stop =
    sym (
    ap (λ t. (t ++ puts) ++ drop stop rest) text
    ∙ append_assoc (map Known r ++ take n c) puts (drop stop rest)
    ∙ append_assoc (map Known r) (take n c) (puts ++ drop stop rest)
    ) in
    record {
      attempt = attempt;
      stop = stop;
      back = back;
      rewrites = record {
        rest = rest;
        places = places;
        groups = (0, n + length r) ∷ ranges;
        matches = record {
          reads = reads_code pattern (Group 0 0 ∷ more) r c attempt readable refl refl refl;
          leads = leads;
          grouped = grouped;
        };
        known = known texts;
        stops = stops;
        puts = next;
      };
      ends = refl;
      rna = refl;
    }
