-- Cells have one attempt at most, and none where it depends on the target.
use Rattle.std.proofs.Common.{◌≡◌, ℕ, ◌-◌, ◌<◌, ◌≤◌, true, false, List, ◌∷◌, length, drop, arith, refl, sym, ap, subst, ◌∙◌}
use Rattle.fuun_base.specs.declared.letters.Base.{Base}
use Rattle.dna_reader.specs.Pairs.{PairStands}
use Rattle.dna_reader.proofs.PairLemmas.{one_pair, pairs_do_not_run_out, runs_out_once}
use Rattle.matcher.specs.Groups.{AreGroups}
use Rattle.matcher.specs.Match.{last_place}
use Rattle.matcher.proofs.OpenGroups.{one_list_of_groups}
use Rattle.sym_strand.specs.declared.cells.Cell.{Cell}
use Rattle.sym_strand.specs.Cells.{known_front}
use Rattle.explainer.specs.Attempt.{Ending, Matched, NoMatch, TooLong, Finished, Attempt, ReadsBoth, RanOutOn, FindsNone, Matches, Rewrites, EndsBy, DependsOn, InReading, InMatching, InTemplate}
use Rattle.explainer.specs.Leading.{LeadAlong, FailAlong}
use Rattle.explainer.specs.Replacement.{texts_of, depends_on_target, replaced}
use Rattle.explainer.specs.Laws.{HasOneAttempt, AttemptsDoNotDepend}
use Rattle.explainer.proofs.Along.{along_same, leads_no_failure, leads_no_dependence, failures_no_dependence}

-- readings

record SameReads (a b : Attempt) (y y' : List Cell) : Type 0 where
  pattern : a.pattern ≡ b.pattern
  template : a.template ≡ b.template
  rna : a.rna ≡ b.rna
  rest : y ≡ y'

pair_of : (z : List Cell) (a : Attempt) (y : List Cell) → (reads : ReadsBoth z a y) → PairStands (known_front z) a.pattern a.template a.rna reads.left
pair_of z a y reads = record {
  pattern_rna = reads.pattern_rna;
  template_rna = reads.template_rna;
  middle = reads.middle;
  reads_pattern = reads.pattern;
  reads_template = reads.template;
  whole = reads.rna;
}

reads_same : (z : List Cell) (a b : Attempt) (y y' : List Cell) → ReadsBoth z a y → ReadsBoth z b y' → SameReads a b y y'
reads_same z a b y y' p q =
    let same = one_pair (known_front z) a.pattern b.pattern a.template b.template a.rna b.rna p.left q.left (pair_of z a y p) (pair_of z b y' q) in
    record {
      pattern = same.pattern;
      template = same.template;
      rna = same.rna;
      rest = p.behind ∙ ap (λ l. drop (length (known_front z) - length l) z) same.rest ∙ sym q.behind;
    }

reads_no_out : (z : List Cell) (a : Attempt) (y : List Cell) (rna : List (List Base)) → ReadsBoth z a y → RanOutOn z rna → ⊥
reads_no_out z a y rna p out = pairs_do_not_run_out (known_front z) a.pattern a.template a.rna rna p.left (pair_of z a y p) out

-- matches

matches_same : (z : List Cell) (a b : Attempt) (y y' : List Cell) (ps qs : List ℕ) (gs hs : List (ℕ × ℕ)) → Matches z a y ps gs → Matches z b y' qs hs → (SameReads a b y y') × (ps ≡ qs) × (gs ≡ hs)
matches_same z a b y y' ps qs gs hs p q =
    let same : SameReads a b y y' = reads_same z a b y y' p.reads q.reads in
    let leads : LeadAlong y' b.pattern 0 ps = subst (λ l. LeadAlong y' l 0 ps) same.pattern (subst (λ c. LeadAlong c a.pattern 0 ps) same.rest p.leads) in
    let places : ps ≡ qs = along_same y' b.pattern 0 ps qs leads q.leads in
    let grouped : AreGroups b.pattern (0 ∷ qs) gs = subst (λ l. AreGroups b.pattern (0 ∷ l) gs) places (subst (λ l. AreGroups l (0 ∷ ps) gs) same.pattern p.grouped) in
    (same, places, one_list_of_groups b.pattern (0 ∷ qs) gs hs grouped q.grouped)

rewrites_same : (z : List Cell) (a b : Attempt) (s t : ℕ) (m n : List Cell) → Rewrites z a s m → Rewrites z b t n → (a.pattern ≡ b.pattern) × (a.template ≡ b.template) × (a.rna ≡ b.rna) × (s ≡ t) × (m ≡ n)
rewrites_same z a b s t m n p q =
    let same = matches_same z a b p.rest q.rest p.places q.places p.groups q.groups p.matches q.matches in
    let r : SameReads a b p.rest q.rest = same.0 in
    let stops : s ≡ t = p.stops ∙ ap (λ l. last_place (0 ∷ l)) same.1 ∙ sym q.stops in (
      r.pattern,
      r.template,
      r.rna,
      stops,
      p.puts ∙ ap (λ c. replaced c a.template p.groups s) r.rest ∙ ap (λ l. replaced q.rest l p.groups s) r.template ∙ ap (λ l. replaced q.rest b.template l s) same.2
          ∙ ap (λ k. replaced q.rest b.template q.groups k) stops ∙ sym q.puts,
    )

fails_not_matches : (z : List Cell) (a b : Attempt) (next rest : List Cell) (places : List ℕ) (groups : List (ℕ × ℕ)) → FindsNone z a next → Matches z b rest places groups → ⊥
fails_not_matches z a b next rest places groups p q =
    let same : SameReads a b next rest = reads_same z a b next rest p.reads q.reads in
    leads_no_failure rest b.pattern 0 places q.leads (subst (λ l. FailAlong rest l 0) same.pattern (subst (λ c. FailAlong c a.pattern 0) same.rest p.fails))

same_attempt : (a b : Attempt) → a.pattern ≡ b.pattern → a.template ≡ b.template → a.rna ≡ b.rna → a.ending ≡ b.ending → a ≡ b
same_attempt a b pattern template rna ending =
    ap (λ x. let r : Attempt = record { pattern = x; template = a.template; rna = a.rna; ending = a.ending } in r) pattern
    ∙ ap (λ x. let r : Attempt = record { pattern = b.pattern; template = x; rna = a.rna; ending = a.ending } in r) template
    ∙ ap (λ x. let r : Attempt = record { pattern = b.pattern; template = b.template; rna = x; ending = a.ending } in r) rna
    ∙ ap (λ x. let r : Attempt = record { pattern = b.pattern; template = b.template; rna = b.rna; ending = x } in r) ending

by_endings : (z : List Cell) (limit : ℕ) (a b : Attempt) (e f : Ending) → a.ending ≡ e → b.ending ≡ f → EndsBy z limit a e → EndsBy z limit b f → a ≡ b
by_endings z limit a b (Matched s m) (Matched t n) p q x y =
    let same = rewrites_same z a b s t m n x.0 y.0 in
    same_attempt a b same.0 same.1 same.2 (p ∙ ap (λ k. Matched k m) same.3 ∙ ap (λ l. Matched t l) same.4 ∙ sym q)
by_endings z limit a b (Matched s m) (NoMatch n) p q x y = absurd (fails_not_matches z b a n x.0.rest x.0.places x.0.groups y x.0.matches)
by_endings z limit a b (Matched s m) TooLong p q x y =
    let same = rewrites_same z a b s y.0 m y.1 x.0 y.2 in
    absurd (let within : length m ≤ limit = x.1 in let past : limit < length y.1 = y.3 in omega (arith, ap length same.4))
by_endings z limit a b (Matched s m) Finished p q x y = absurd (reads_no_out z a x.0.rest b.rna x.0.matches.reads y.ran_out)
by_endings z limit a b (NoMatch m) (Matched t n) p q x y = absurd (fails_not_matches z a b m y.0.rest y.0.places y.0.groups x y.0.matches)
by_endings z limit a b (NoMatch m) (NoMatch n) p q x y =
    let same : SameReads a b m n = reads_same z a b m n x.reads y.reads in
    same_attempt a b same.pattern same.template same.rna (p ∙ ap (λ l. NoMatch l) same.rest ∙ sym q)
by_endings z limit a b (NoMatch m) TooLong p q x y = absurd (fails_not_matches z a b m y.2.rest y.2.places y.2.groups x y.2.matches)
by_endings z limit a b (NoMatch m) Finished p q x y = absurd (reads_no_out z a m b.rna x.reads y.ran_out)
by_endings z limit a b TooLong (Matched t n) p q x y =
    let same = rewrites_same z a b x.0 t x.1 n x.2 y.0 in
    absurd (let within : length n ≤ limit = y.1 in let past : limit < length x.1 = x.3 in omega (arith, ap length same.4))
by_endings z limit a b TooLong (NoMatch n) p q x y = absurd (fails_not_matches z b a n x.2.rest x.2.places x.2.groups y x.2.matches)
by_endings z limit a b TooLong TooLong p q x y =
    let same = rewrites_same z a b x.0 y.0 x.1 y.1 x.2 y.2 in
    same_attempt a b same.0 same.1 same.2 (p ∙ sym q)
by_endings z limit a b TooLong Finished p q x y = absurd (reads_no_out z a x.2.rest b.rna x.2.matches.reads y.ran_out)
by_endings z limit a b Finished (Matched t n) p q x y = absurd (reads_no_out z b y.0.rest a.rna y.0.matches.reads x.ran_out)
by_endings z limit a b Finished (NoMatch n) p q x y = absurd (reads_no_out z b n a.rna y.reads x.ran_out)
by_endings z limit a b Finished TooLong p q x y = absurd (reads_no_out z b y.2.rest a.rna y.2.matches.reads x.ran_out)
by_endings z limit a b Finished Finished p q x y =
    same_attempt a b (x.no_pattern ∙ sym y.no_pattern) (x.no_template ∙ sym y.no_template) (runs_out_once (known_front z) a.rna b.rna x.ran_out y.ran_out) (p ∙ sym q)

pub one_attempt : HasOneAttempt
one_attempt z limit a b x y = by_endings z limit a b a.ending b.ending refl refl x y

-- what depends has no attempt

rewrites_no_depends : (z : List Cell) (a : Attempt) (s : ℕ) (m : List Cell) → Rewrites z a s m → DependsOn z → ⊥
rewrites_no_depends z a s m x (InReading rna out short) = reads_no_out z a x.rest rna x.matches.reads out
rewrites_no_depends z a s m x (InMatching b rest reads depends) =
    let same : SameReads a b x.rest rest = reads_same z a b x.rest rest x.matches.reads reads in
    let leads : LeadAlong rest b.pattern 0 x.places = subst (λ l. LeadAlong rest l 0 x.places) same.pattern (subst (λ c. LeadAlong c a.pattern 0 x.places) same.rest x.matches.leads) in
    leads_no_dependence rest b.pattern 0 x.places leads depends
rewrites_no_depends z a s m x (InTemplate b rest places groups matches depends) =
    let same = matches_same z a b x.rest rest x.places places x.groups groups x.matches matches in
    let r : SameReads a b x.rest rest = same.0 in
    let known : depends_on_target (texts_of rest groups) b.template ≡ false =
    ap (λ l. depends_on_target (texts_of rest groups) l) (sym r.template) ∙ ap (λ l. depends_on_target (texts_of rest l) a.template) (sym same.2)
    ∙ ap (λ c. depends_on_target (texts_of c x.groups) a.template) (sym r.rest) ∙ x.known in
    false_true (sym known ∙ depends) where
      false_true : false ≡ true → ⊥
      false_true e = cc

no_dependence : (z : List Cell) (limit : ℕ) (a : Attempt) (e : Ending) → EndsBy z limit a e → DependsOn z → ⊥
no_dependence z limit a (Matched s m) x depends = rewrites_no_depends z a s m x.0 depends
no_dependence z limit a TooLong x depends = rewrites_no_depends z a x.0 x.1 x.2 depends
no_dependence z limit a (NoMatch m) x (InReading rna out short) = reads_no_out z a m rna x.reads out
no_dependence z limit a (NoMatch m) x (InMatching b rest reads depends) =
    let same : SameReads a b m rest = reads_same z a b m rest x.reads reads in
    failures_no_dependence rest b.pattern 0 (subst (λ l. FailAlong rest l 0) same.pattern (subst (λ c. FailAlong c a.pattern 0) same.rest x.fails)) depends
no_dependence z limit a (NoMatch m) x (InTemplate b rest places groups matches depends) = fails_not_matches z a b m rest places groups x matches
no_dependence z limit a Finished x (InReading rna out short) = absurd (omega (arith, x.whole))
no_dependence z limit a Finished x (InMatching b rest reads depends) = reads_no_out z b rest a.rna reads x.ran_out
no_dependence z limit a Finished x (InTemplate b rest places groups matches depends) = reads_no_out z b rest a.rna matches.reads x.ran_out

pub attempts_do_not_depend : AttemptsDoNotDepend
attempts_do_not_depend z limit a x depends = no_dependence z limit a a.ending x depends
