-- The attempts that were worked out by hand are attempts.
use Rattle.std.proofs.Common.{◌≡◌, ℕ, zero, suc, ◌≤◌, Some, List, [], ◌∷◌, take, arith, refl}
use Rattle.std.specs.Prelude.{slice_get}
use Rattle.std.proofs.lemmas.Option.{none-some}
use Rattle.fuun_base.specs.Quote.{protect}
use Rattle.fuun_base.specs.declared.letters.Base.{Base}
use Rattle.fuun_base.specs.declared.letters.Base.TheVariants.{I, C, F, P}
use Rattle.dna_items.specs.declared.items.PatItem.TheVariants.{Skip, GroupStart, GroupStop}
use Rattle.dna_items.specs.Balance.{starts, stops}
use Rattle.dna_reader.specs.Pairs.{PatternRunsOut}
use Rattle.dna_reader.specs.Reading.{Read}
use Rattle.dna_reader.specs.Tables.{pattern_table, template_table, ReadsPattern, ReadsTemplate}
use Rattle.dna_reader.proofs.ReadingLemmas.{reads_computed}
use Rattle.dna_reader.proofs.TableLemmas.{pattern_fits, template_fits}
use Rattle.matcher.specs.Match.{HasNoMatch}
use Rattle.matcher.specs.Groups.{IsGroup}
use Rattle.exec_loop.specs.Attempt.{IsAttempt}
use Rattle.exec_loop.specs.Worked.{matching_dna, matching_attempt, failing_dna, failing_attempt, finishing_dna, finishing_attempt}

after_pattern : List Base
after_pattern = I ∷ C ∷ C ∷ I ∷ F ∷ P ∷ P ∷ I ∷ I ∷ C ∷ C ∷ F ∷ P ∷ C ∷ []

matching_pattern : ReadsPattern matching_dna (Read matching_attempt.pattern [] after_pattern)
unfolding after_pattern
matching_pattern = reads_computed pattern_table pattern_fits 30 0 matching_dna (omega arith)

matching_template : ReadsTemplate after_pattern (Read matching_attempt.template [] (C ∷ F ∷ P ∷ C ∷ []))
unfolding after_pattern
matching_template = reads_computed template_table template_fits 14 0 after_pattern (omega arith)

fronts : (n : ℕ) → stops (take n (Skip 2 ∷ [])) ≤ starts (take n (Skip 2 ∷ []))
fronts zero = omega arith
fronts (suc zero) = omega arith
fronts (suc (suc n)) = omega arith

one_group : (stop : ℕ) → slice_get matching_attempt.pattern stop ≡ Some GroupStop → IsGroup matching_attempt.pattern (0 ∷ 0 ∷ 2 ∷ 2 ∷ 3 ∷ []) ((0, 2) ∷ []) stop
one_group zero e = absurd (let h : GroupStart ≡ GroupStop = cc in cc)
one_group (suc zero) e = absurd (cc)
one_group (suc (suc zero)) e = (0, record { before = omega arith; starts = refl; ends = refl; between = record { even = refl; fronts = fronts } }, refl)
one_group (suc (suc (suc zero))) e = absurd (cc)
one_group (suc (suc (suc (suc n)))) e = absurd (none-some GroupStop e)

pub matching_is : IsAttempt matching_dna 30 matching_attempt
unfolding protect
matching_is = (
  record {
    rest = C ∷ F ∷ P ∷ C ∷ [];
    places = 0 ∷ 0 ∷ 2 ∷ 2 ∷ 3 ∷ [];
    groups = (0, 2) ∷ [];
    reads = record {
      pattern_rna = [];
      template_rna = [];
      middle = after_pattern;
      reads_pattern = matching_pattern;
      reads_template = matching_template;
      whole = refl;
    };
    match = (refl, (refl, ((refl, omega arith), (refl, ((refl, refl), tt)))));
    stops = refl;
    grouped = record { number = refl; each = one_group };
    puts = refl;
  },
  omega arith,
)

no_match : HasNoMatch (C ∷ F ∷ []) failing_attempt.pattern
no_match [] x = x
no_match (zero ∷ []) x = x.1
no_match (zero ∷ j ∷ places) x = let e : Some C ≡ Some I = x.1.0.0 in cc
no_match (suc i ∷ places) x = let e : suc i ≡ 0 = x.0 in absurd (omega arith)

pub failing_is : IsAttempt failing_dna 9 failing_attempt
failing_is = record {
  reads = record {
    pattern_rna = [];
    template_rna = [];
    middle = I ∷ I ∷ C ∷ C ∷ F ∷ [];
    reads_pattern = reads_computed pattern_table pattern_fits 9 0 failing_dna (omega arith);
    reads_template = reads_computed template_table template_fits 5 0 (I ∷ I ∷ C ∷ C ∷ F ∷ []) (omega arith);
    whole = refl;
  };
  none = no_match;
}

pub finishing_is : IsAttempt finishing_dna 4 finishing_attempt
finishing_is = record {
  ran_out = PatternRunsOut (reads_computed pattern_table pattern_fits 4 0 finishing_dna (omega arith));
  no_pattern = refl;
  no_template = refl;
}
