-- A pattern and the template behind it: each DNA has one pair or none, and readers read it.
use Rattle.std.proofs.Common.{◌≡◌, ℕ, List, [], ◌∷◌, ◌++◌, drop, refl, ap, sym, subst, ◌∙◌, append-nil}
use Rattle.fuun_base.specs.declared.letters.Base.{Base}
use Rattle.dna_items.specs.declared.items.PatItem.{PatItem}
use Rattle.dna_items.specs.declared.items.TplItem.{TplItem}
use Rattle.dna_reader.specs.Pairs.{PairStands, PairRunsOut, PatternRunsOut, TemplateRunsOut, PairGives, ByPair, ByRunningOut, PairIsRead, PairRanOut, StandsWithinPair}
use Rattle.dna_reader.specs.Reading.{Reading, Read, RanOut, rna_in}
use Rattle.dna_reader.specs.ReadingLaws.{HasPair, HasOnePair, PairsDoNotRunOut, PairGivesOnce}
use Rattle.dna_reader.specs.Tables.{pattern_table, template_table, ReadsPattern, ReadsTemplate}
use Rattle.dna_reader.specs.Taking.{PatternIsRead, TemplateIsRead, RanOutTaking, StandsWithin}
use Rattle.dna_reader.proofs.ReadingLemmas.{has_reading, one_reading}
use Rattle.dna_reader.proofs.TableLemmas.{pattern_fits, template_fits}

-- there is a pair, or it runs out

gives_behind : (d : List Base) (pattern : List PatItem) (pattern_rna : List (List Base)) (middle : List Base) → ReadsPattern d (Read pattern pattern_rna middle)
    → (reading : Reading TplItem) → ReadsTemplate middle reading → PairGives d (pattern_rna ++ rna_in reading)
gives_behind d pattern pattern_rna middle first (Read template template_rna rest) second =
    ByPair pattern template rest (record { pattern_rna = pattern_rna; template_rna = template_rna; middle = middle; reads_pattern = first; reads_template = second; whole = refl })
gives_behind d pattern pattern_rna middle first (RanOut template_rna) second = ByRunningOut (TemplateRunsOut pattern pattern_rna template_rna middle first second refl)

-- the RNA begins so
record GivesFrom (d : List Base) (rna : List (List Base)) : Type 0 where
  more : List (List Base)
  gives : PairGives d (rna ++ more)

gives_from : (d : List Base) (reading : Reading PatItem) → ReadsPattern d reading → GivesFrom d (rna_in reading)
gives_from d (Read pattern pattern_rna middle) first =
    let second = has_reading template_table template_fits 0 middle in
    record { more = rna_in second.0; gives = gives_behind d pattern pattern_rna middle first second.0 second.1 }
gives_from d (RanOut rna) first = record { more = []; gives = subst (PairGives d) (sym (append-nil rna)) (ByRunningOut (PatternRunsOut first)) }

pub has_pair : HasPair
has_pair d =
    let first = has_reading pattern_table pattern_fits 0 d in
    let from = gives_from d first.0 first.1 in
    (rna_in first.0 ++ from.more, from.gives)

-- and only one of them, with one RNA

abbrev items_in : {Item : Type 0} → Reading Item → List Item
items_in (Read items rna rest) = items
items_in (RanOut rna) = []

abbrev rest_in : {Item : Type 0} → Reading Item → List Base
rest_in (Read items rna rest) = rest
rest_in (RanOut rna) = []

is_not_run_out : {Item : Type 0} (items : List Item) (rna after : List (List Base)) (rest : List Base) → Read items rna rest ≡ RanOut after → ⊥
is_not_run_out items rna after rest e = cc

joined_once : (a b x y : List (List Base)) → a ≡ b → x ≡ y → a ++ x ≡ b ++ y
joined_once a b x y e f = ap (λ l. l ++ x) e ∙ ap (λ l. b ++ l) f

pub one_pair : HasOnePair
one_pair d p q s t x y a b m n =
    let first : Read p m.pattern_rna m.middle ≡ Read q n.pattern_rna n.middle = one_reading pattern_table 0 d _ _ m.reads_pattern n.reads_pattern in
    let moved : ReadsTemplate n.middle (Read s m.template_rna a) = subst (λ l. ReadsTemplate l (Read s m.template_rna a)) (ap rest_in first) m.reads_template in
    let second : Read s m.template_rna a ≡ Read t n.template_rna b = one_reading template_table 0 n.middle _ _ moved n.reads_template in
    record {
      pattern = ap items_in first;
      template = ap items_in second;
      rna = m.whole ∙ joined_once m.pattern_rna n.pattern_rna m.template_rna n.template_rna (ap rna_in first) (ap rna_in second) ∙ sym n.whole;
      rest = ap rest_in second;
    }

pub pairs_do_not_run_out : PairsDoNotRunOut
pairs_do_not_run_out d p s x y a m (PatternRunsOut reads) = is_not_run_out p m.pattern_rna y m.middle (one_reading pattern_table 0 d _ _ m.reads_pattern reads)
pairs_do_not_run_out d p s x y a m (TemplateRunsOut q pattern_rna template_rna middle reads runs_out whole) =
    let first : Read p m.pattern_rna m.middle ≡ Read q pattern_rna middle = one_reading pattern_table 0 d _ _ m.reads_pattern reads in
    let moved : ReadsTemplate middle (Read s m.template_rna a) = subst (λ l. ReadsTemplate l (Read s m.template_rna a)) (ap rest_in first) m.reads_template in
    is_not_run_out s m.template_rna template_rna a (one_reading template_table 0 middle _ _ moved runs_out)

pub runs_out_once : (d : List Base) (x y : List (List Base)) → PairRunsOut d x → PairRunsOut d y → x ≡ y
runs_out_once d x y (PatternRunsOut m) (PatternRunsOut n) = ap rna_in (one_reading pattern_table 0 d (RanOut x) (RanOut y) m n)
runs_out_once d x y (PatternRunsOut m) (TemplateRunsOut q pattern_rna template_rna middle reads runs_out whole) =
    absurd (is_not_run_out q pattern_rna x middle (one_reading pattern_table 0 d _ _ reads m))
runs_out_once d x y (TemplateRunsOut p pattern_rna template_rna middle reads runs_out whole) (PatternRunsOut n) =
    absurd (is_not_run_out p pattern_rna y middle (one_reading pattern_table 0 d _ _ reads n))
runs_out_once d x y (TemplateRunsOut p p_rna s_rna a reads runs_out whole) (TemplateRunsOut q q_rna t_rna b also out all) =
    let first : Read p p_rna a ≡ Read q q_rna b = one_reading pattern_table 0 d _ _ reads also in
    let moved : ReadsTemplate b (RanOut s_rna) = subst (λ l. ReadsTemplate l (RanOut s_rna)) (ap rest_in first) runs_out in
    let second : RanOut s_rna ≡ RanOut t_rna = one_reading template_table 0 b _ _ moved out in
    whole ∙ joined_once p_rna q_rna s_rna t_rna (ap rna_in first) (ap rna_in second) ∙ sym all

pub pair_gives_once : PairGivesOnce
pair_gives_once d x y (ByPair p s a m) (ByPair q t b n) = (one_pair d p q s t x y a b m n).rna
pair_gives_once d x y (ByPair p s a m) (ByRunningOut n) = absurd (pairs_do_not_run_out d p s x y a m n)
pair_gives_once d x y (ByRunningOut m) (ByPair q t b n) = absurd (pairs_do_not_run_out d q t y x b n m)
pair_gives_once d x y (ByRunningOut m) (ByRunningOut n) = runs_out_once d x y m n

-- a pair without RNA

nothing_joined : (a b : List (List Base)) → [] ≡ a ++ b → (a ≡ []) × (b ≡ [])
nothing_joined [] b e = (refl, sym e)
nothing_joined (command ∷ a) b e = cc

pub pattern_without_rna : (d : List Base) (pattern : List PatItem) (template : List TplItem) (rest : List Base) → (pair : PairStands d pattern template [] rest) → ReadsPattern d (Read pattern [] pair.middle)
pattern_without_rna d pattern template rest pair = subst (λ l. ReadsPattern d (Read pattern l pair.middle)) (nothing_joined pair.pattern_rna pair.template_rna pair.whole).0 pair.reads_pattern

-- readers

module _ {Taker : Type 0} (follows within : Taker → List (List Base) → Taker → Type 0) (d : List Base) (place : ℕ) where
  pub within_pattern : ((a b : Taker) (x y : List (List Base)) → within a x b → within a (x ++ y) b) → (old new : Taker)
      → StandsWithin ReadsPattern within old new (drop place d) → StandsWithinPair within old new d place
  within_pattern widens old new x =
      let from = gives_from (drop place d) x.reading x.is in
      record { rna = rna_in x.reading ++ from.more; gives = from.gives; stands = widens old new (rna_in x.reading) from.more x.stands }

  pub within_template : ((a b c : Taker) (x y : List (List Base)) → follows a x b → within b y c → within a (x ++ y) c) → (old mid new : Taker) (pattern : List PatItem) (middle : ℕ)
      → PatternIsRead follows old mid d place pattern middle → StandsWithin ReadsTemplate within mid new (drop middle d) → StandsWithinPair within old new d place
  within_template goes_within old mid new pattern middle x y = record {
    rna = x.rna ++ rna_in y.reading;
    gives = gives_behind (drop place d) x.read x.rna (drop middle d) x.reads y.reading y.is;
    stands = goes_within old mid new x.rna (rna_in y.reading) x.taken y.stands;
  }

  pub pattern_ran_out : (old new : Taker) → RanOutTaking ReadsPattern follows old new (drop place d) → PairRanOut follows old new d place
  pattern_ran_out old new x = record { rna = x.rna; ran_out = PatternRunsOut x.ran_out; taken = x.taken }

  pub template_ran_out : ((a b c : Taker) (x y : List (List Base)) → follows a x b → follows b y c → follows a (x ++ y) c) → (old mid new : Taker) (pattern : List PatItem) (middle : ℕ)
      → PatternIsRead follows old mid d place pattern middle → RanOutTaking ReadsTemplate follows mid new (drop middle d) → PairRanOut follows old new d place
  template_ran_out goes_on old mid new pattern middle x y = record {
    rna = x.rna ++ y.rna;
    ran_out = TemplateRunsOut x.read x.rna y.rna (drop middle d) x.reads y.ran_out refl;
    taken = goes_on old mid new x.rna y.rna x.taken y.taken;
  }

  pub pair_is_read : ((a b c : Taker) (x y : List (List Base)) → follows a x b → follows b y c → follows a (x ++ y) c) → (old mid new : Taker) (pattern : List PatItem) (template : List TplItem) (middle next : ℕ)
      → PatternIsRead follows old mid d place pattern middle → TemplateIsRead follows mid new d middle template next → PairIsRead follows old new d place pattern template next
  pair_is_read goes_on old mid new pattern template middle next x y = record {
    items = x.read;
    puts = y.read;
    rna = x.rna ++ y.rna;
    stands = record { pattern_rna = x.rna; template_rna = y.rna; middle = drop middle d; reads_pattern = x.reads; reads_template = y.reads; whole = refl };
    pattern_held = x.held;
    template_held = y.held;
    taken = goes_on old mid new x.rna y.rna x.taken y.taken;
  }
