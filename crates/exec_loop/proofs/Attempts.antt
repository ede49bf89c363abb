-- Each DNA has exactly one attempt.
use Rattle.std.proofs.Common.{◌≡◌, ℕ, inl, inr, List, [], length, arith, refl, sym, ap, subst, ◌∙◌}
use Rattle.std.proofs.lemmas.Bool.{cases_lt}
use Rattle.fuun_base.specs.declared.letters.Base.{Base}
use Rattle.dna_items.specs.declared.items.PatItem.{PatItem}
use Rattle.dna_items.specs.declared.items.TplItem.{TplItem}
use Rattle.dna_reader.specs.Pairs.{PairStands, PairRunsOut, PairGives, ByPair, ByRunningOut}
use Rattle.dna_reader.specs.ReadingLaws.{IsSamePair}
use Rattle.dna_reader.proofs.PairLemmas.{has_pair, one_pair, pairs_do_not_run_out, runs_out_once}
use Rattle.dna_reader.proofs.TableLemmas.{patterns_are_balanced}
use Rattle.matcher.specs.Match.{IsMatch, last_place}
use Rattle.matcher.specs.Groups.{AreGroups}
use Rattle.replacer.specs.Replacement.{texts_of, replaced}
use Rattle.exec_loop.specs.Attempt.{Ending, Matched, NoMatch, TooLong, Finished, Attempt, ReadingRanOut, FindsNone, Rewrites, EndsBy, IsAttempt}
use Rattle.matcher.proofs.Matches.{match_is_one, match_or_none}
use Rattle.matcher.proofs.Grouping.{groups_exist}
use Rattle.matcher.proofs.OpenGroups.{one_list_of_groups}

-- there is an attempt

-- an attempt with this RNA
pub record AttemptOf (d : List Base) (limit : ℕ) (rna : List (List Base)) : Type 0 where
  pub attempt : Attempt
  pub is : IsAttempt d limit attempt
  pub gives : attempt.rna ≡ rna

module _ (d : List Base) (limit : ℕ) (pattern : List PatItem) (template : List TplItem) (rna : List (List Base)) (rest : List Base) (stands : PairStands d pattern template rna rest) where
  attempt_matched : (places : List ℕ) → IsMatch rest pattern places → (groups : List (ℕ × ℕ)) → AreGroups pattern places groups → AttemptOf d limit rna
  attempt_matched places match groups grouped =
      let next : List Base = replaced rest template groups (last_place places) in
      elim (cases_lt limit (length next)) [
        | inl above ↦ record {
          attempt = record { pattern = pattern; template = template; rna = rna; ending = TooLong };
          is = (
            last_place places,
            next,
            record { rest = rest; places = places; groups = groups; reads = stands; match = match; stops = refl; grouped = grouped; puts = refl },
            above,
          );
          gives = refl;
        }
        | inr within ↦ record {
          attempt = record { pattern = pattern; template = template; rna = rna; ending = Matched (last_place places) next };
          is = (record { rest = rest; places = places; groups = groups; reads = stands; match = match; stops = refl; grouped = grouped; puts = refl }, within);
          gives = refl;
        }
      ]

  attempt_read : AttemptOf d limit rna
  attempt_read =
      elim (match_or_none rest pattern) [
        | inl found ↦
            let grouped : (groups : List (ℕ × ℕ)) × AreGroups pattern found.0 groups =
            groups_exist pattern found.0 (patterns_are_balanced d pattern stands.pattern_rna stands.middle stands.reads_pattern) in
            attempt_matched found.0 found.1 grouped.0 grouped.1
        | inr none ↦ record {
          attempt = record { pattern = pattern; template = template; rna = rna; ending = NoMatch rest };
          is = record { reads = stands; none = none };
          gives = refl;
        }
      ]

pub attempt_of_pair : (d : List Base) (limit : ℕ) (rna : List (List Base)) → PairGives d rna → AttemptOf d limit rna
attempt_of_pair d limit rna (ByPair pattern template rest stands) = attempt_read d limit pattern template rna rest stands
attempt_of_pair d limit rna (ByRunningOut ran_out) = record {
  attempt = record { pattern = []; template = []; rna = rna; ending = Finished };
  is = record { ran_out = ran_out; no_pattern = refl; no_template = refl };
  gives = refl;
}

pub has_attempt : (d : List Base) (limit : ℕ) → (attempt : Attempt) × IsAttempt d limit attempt
has_attempt d limit =
    let pair : (rna : List (List Base)) × PairGives d rna = has_pair d in
    let made : AttemptOf d limit pair.0 = attempt_of_pair d limit pair.0 pair.1 in
    (made.attempt, made.is)

-- and only one

-- two attempts read and gave the same
pub record IsSame (a b : Attempt) : Type 0 where
  pub pattern : a.pattern ≡ b.pattern
  pub template : a.template ≡ b.template
  pub rna : a.rna ≡ b.rna

record IsSameBoth (a b : Attempt) (rest rest' : List Base) : Type 0 where
  same : IsSame a b
  same_rest : rest ≡ rest'

both_is_one : (d : List Base) (a b : Attempt) (rest rest' : List Base) → PairStands d a.pattern a.template a.rna rest → PairStands d b.pattern b.template b.rna rest' → IsSameBoth a b rest rest'
both_is_one d a b rest rest' x y =
    let pair : IsSamePair a.pattern b.pattern a.template b.template a.rna b.rna rest rest' = one_pair d a.pattern b.pattern a.template b.template a.rna b.rna rest rest' x y in
    record { same = record { pattern = pair.pattern; template = pair.template; rna = pair.rna }; same_rest = pair.rest }

-- no reading both runs out and comes to its end
both_or_ran_out : (d : List Base) (a b : Attempt) (rest : List Base) → PairStands d a.pattern a.template a.rna rest → PairRunsOut d b.rna → ⊥
both_or_ran_out d a b rest x y = pairs_do_not_run_out d a.pattern a.template a.rna b.rna rest x y

ran_out_is_one : (d : List Base) (a b : Attempt) → ReadingRanOut d a → ReadingRanOut d b → IsSame a b
ran_out_is_one d a b x y = record {
  pattern = x.no_pattern ∙ sym y.no_pattern;
  template = x.no_template ∙ sym y.no_template;
  rna = runs_out_once d a.rna b.rna x.ran_out y.ran_out;
}

record IsSameRewrite (a b : Attempt) (stop stop' : ℕ) (next next' : List Base) : Type 0 where
  same : IsSame a b
  same_stop : stop ≡ stop'
  same_next : next ≡ next'

same_replaced : (rest rest' : List Base) (template template' : List TplItem) (groups groups' : List (ℕ × ℕ)) (stop stop' : ℕ) → rest ≡ rest' → template ≡ template' → groups ≡ groups' → stop ≡ stop' → replaced rest template groups stop ≡ replaced rest' template' groups' stop'
same_replaced rest rest' template template' groups groups' stop stop' e f g h =
    ap (λ r. replaced r template groups stop) e ∙ ap (λ t. replaced rest' t groups stop) f ∙ ap (λ l. replaced rest' template' l stop) g ∙ ap (λ n. replaced rest' template' groups' n) h

rewrite_is_one : (d : List Base) (a b : Attempt) (stop stop' : ℕ) (next next' : List Base) → Rewrites d a stop next → Rewrites d b stop' next' → IsSameRewrite a b stop stop' next next'
rewrite_is_one d a b stop stop' next next' x y =
    let both : IsSameBoth a b x.rest y.rest = both_is_one d a b x.rest y.rest x.reads y.reads in
    let same : IsSame a b = both.same in
    let moved : IsMatch x.rest b.pattern y.places = subst (λ r. IsMatch r b.pattern y.places) (sym both.same_rest) y.match in
    let match : IsMatch x.rest a.pattern y.places = subst (λ p. IsMatch x.rest p y.places) (sym same.pattern) moved in
    let places : x.places ≡ y.places = match_is_one x.rest a.pattern x.places y.places x.match match in
    let stops : stop ≡ stop' = x.stops ∙ ap last_place places ∙ sym y.stops in
    let moved_groups : AreGroups a.pattern y.places y.groups = subst (λ p. AreGroups p y.places y.groups) (sym same.pattern) y.grouped in
    let grouped : AreGroups a.pattern x.places y.groups = subst (λ p. AreGroups a.pattern p y.groups) (sym places) moved_groups in
    let groups : x.groups ≡ y.groups = one_list_of_groups a.pattern x.places x.groups y.groups x.grouped grouped in
    record {
      same = same;
      same_stop = stops;
      same_next = x.puts ∙ same_replaced x.rest y.rest a.template b.template x.groups y.groups stop stop' both.same_rest same.template groups stops ∙ sym y.puts;
    }

-- an attempt that matched has its groups only once
pub same_groups : (d : List Base) (attempt : Attempt) (stop : ℕ) (next : List Base) (x y : Rewrites d attempt stop next) → texts_of x.rest x.groups ≡ texts_of y.rest y.groups
same_groups d attempt stop next x y =
    let both : IsSameBoth attempt attempt x.rest y.rest = both_is_one d attempt attempt x.rest y.rest x.reads y.reads in
    let match : IsMatch x.rest attempt.pattern y.places = subst (λ r. IsMatch r attempt.pattern y.places) (sym both.same_rest) y.match in
    let places : x.places ≡ y.places = match_is_one x.rest attempt.pattern x.places y.places x.match match in
    let grouped : AreGroups attempt.pattern x.places y.groups = subst (λ p. AreGroups attempt.pattern p y.groups) (sym places) y.grouped in
    ap (λ r. texts_of r x.groups) both.same_rest ∙ ap (texts_of y.rest) (one_list_of_groups attempt.pattern x.places x.groups y.groups x.grouped grouped)

none_or_rewrites : (d : List Base) (a b : Attempt) (next : List Base) (stop : ℕ) (other : List Base) → FindsNone d a next → Rewrites d b stop other → ⊥
none_or_rewrites d a b next stop other x y =
    let both : IsSameBoth a b next y.rest = both_is_one d a b next y.rest x.reads y.reads in
    let same : IsSame a b = both.same in
    let moved : IsMatch next b.pattern y.places = subst (λ r. IsMatch r b.pattern y.places) (sym both.same_rest) y.match in
    x.none y.places (subst (λ p. IsMatch next p y.places) (sym same.pattern) moved)

record IsSameEnding (a b : Attempt) (e f : Ending) : Type 0 where
  same : IsSame a b
  ending : e ≡ f

ending_is_one : (d : List Base) (limit : ℕ) (a b : Attempt) (e f : Ending) → EndsBy d limit a e → EndsBy d limit b f → IsSameEnding a b e f
ending_is_one d limit a b (Matched i x) (Matched j y) p q =
    let r : IsSameRewrite a b i j x y = rewrite_is_one d a b i j x y p.0 q.0 in
    record { same = r.same; ending = ap (λ n. Matched n x) r.same_stop ∙ ap (λ l. Matched j l) r.same_next }
ending_is_one d limit a b (Matched i x) (NoMatch y) p q = absurd (none_or_rewrites d b a y i x q p.0)
ending_is_one d limit a b (Matched i x) TooLong p q =
    let r : IsSameRewrite a b i q.0 x q.1 = rewrite_is_one d a b i q.0 x q.1 p.0 q.2 in
    let same = ap length r.same_next in let within = p.1 in let above = q.3 in absurd (omega (arith, same, within, above))
ending_is_one d limit a b (Matched i x) Finished p q = let r : Rewrites d a i x = p.0 in absurd (both_or_ran_out d a b r.rest r.reads q.ran_out)
ending_is_one d limit a b (NoMatch x) (Matched j y) p q = absurd (none_or_rewrites d a b x j y p q.0)
ending_is_one d limit a b (NoMatch x) (NoMatch y) p q =
    let r : IsSameBoth a b x y = both_is_one d a b x y p.reads q.reads in record { same = r.same; ending = ap NoMatch r.same_rest }
ending_is_one d limit a b (NoMatch x) TooLong p q = absurd (none_or_rewrites d a b x q.0 q.1 p q.2)
ending_is_one d limit a b (NoMatch x) Finished p q = absurd (both_or_ran_out d a b x p.reads q.ran_out)
ending_is_one d limit a b TooLong (Matched j y) p q =
    let r : IsSameRewrite a b p.0 j p.1 y = rewrite_is_one d a b p.0 j p.1 y p.2 q.0 in
    let same = ap length r.same_next in let within = q.1 in let above = p.3 in absurd (omega (arith, same, within, above))
ending_is_one d limit a b TooLong (NoMatch y) p q = absurd (none_or_rewrites d b a y p.0 p.1 q p.2)
ending_is_one d limit a b TooLong TooLong p q =
    let r : IsSameRewrite a b p.0 q.0 p.1 q.1 = rewrite_is_one d a b p.0 q.0 p.1 q.1 p.2 q.2 in record { same = r.same; ending = refl }
ending_is_one d limit a b TooLong Finished p q = let r : Rewrites d a p.0 p.1 = p.2 in absurd (both_or_ran_out d a b r.rest r.reads q.ran_out)
ending_is_one d limit a b Finished (Matched j y) p q = let r : Rewrites d b j y = q.0 in absurd (both_or_ran_out d b a r.rest r.reads p.ran_out)
ending_is_one d limit a b Finished (NoMatch y) p q = absurd (both_or_ran_out d b a y q.reads p.ran_out)
ending_is_one d limit a b Finished TooLong p q = let r : Rewrites d b q.0 q.1 = q.2 in absurd (both_or_ran_out d b a r.rest r.reads p.ran_out)
ending_is_one d limit a b Finished Finished p q = record { same = ran_out_is_one d a b p q; ending = refl }

same_attempt : (a b : Attempt) → IsSame a b → a.ending ≡ b.ending → a ≡ b
same_attempt a b same ending =
    ap (λ p. let x : Attempt = record { pattern = p; template = a.template; rna = a.rna; ending = a.ending } in x) same.pattern
    ∙ ap (λ t. let x : Attempt = record { pattern = b.pattern; template = t; rna = a.rna; ending = a.ending } in x) same.template
    ∙ ap (λ r. let x : Attempt = record { pattern = b.pattern; template = b.template; rna = r; ending = a.ending } in x) same.rna
    ∙ ap (λ e. let x : Attempt = record { pattern = b.pattern; template = b.template; rna = b.rna; ending = e } in x) ending

pub one_attempt : (d : List Base) (limit : ℕ) (a b : Attempt) → IsAttempt d limit a → IsAttempt d limit b → a ≡ b
one_attempt d limit a b x y =
    let r : IsSameEnding a b a.ending b.ending = ending_is_one d limit a b a.ending b.ending x y in
    same_attempt a b r.same r.ending
