-- Statements, taken one after the other.
use Rattle.std.proofs.Common.{◌≡◌, ℕ, suc, ◌^◌, ◌<◌, ◌≤◌, inl, inr, true, false, Option, Some, None, Result, Ok, Err, List, [], ◌∷◌, ◌++◌, length, min, arith, refl, sym, ap, subst, ◌∙◌}
use Rattle.std.specs.Prelude.{◌==◌, ◌&&◌, not, nat_lt}
use Rattle.std.proofs.lemmas.Bool.{cases_lt, le-ltb, lt-ltb, ne_eqb}
use Rattle.std.proofs.lemmas.List.{length-map, map-append}
use Rattle.source_items.specs.declared.lines.Line.{Line}
use Rattle.source_items.specs.Held.{AreHeld, IsHeld as IsHeldLine}
use Rattle.source_tokens.specs.declared.statements.Statement.{Statement}
use Rattle.source_tokens.specs.declared.words.Token.{Token}
use Rattle.source_text.specs.declared.faults.Faults.{Faults}
use Rattle.source_text.specs.declared.forms.FormFound.{FormFound}
use Rattle.source_text.specs.declared.judging.Refusal.{Refusal}
use Rattle.source_text.specs.declared.judging.Refusal.TheVariants.{BadName, BadNumber}
use Rattle.source_text.specs.declared.taking.Reading.{Reading}
use Rattle.source_text.specs.Forming.{IsForm}
use Rattle.source_text.specs.Forms.{form}
use Rattle.source_text.specs.Names.{Names}
use Rattle.source_text.specs.Judging.{Placed, State, judged, judged_by, placed, with_statement}
use Rattle.source_text.specs.Reading.{both_faults, earlier}
use Rattle.source_text.specs.Sources.{and_taken, taken_all}
use Rattle.source_text.specs.Taking.{AreKept, IsReading, IsTaken, lines_in, refusal_by, refusal_of}

-- tokens that serve

by_none : (name number : Option ℕ) (next : Result State Refusal) → None ≡ refusal_by name number → judged_by name number next ≡ next
by_none (Some at) number next e = absurd (let none : None ≡ Some (BadName at) = e in cc)
by_none None (Some at) next e = absurd (let none : None ≡ Some (BadNumber at) = e in cc)
by_none None None next e = refl

pub judged_none : (faults : Faults) (next : Result State Refusal) → None ≡ refusal_of faults → judged faults next ≡ next
judged_none faults next e = by_none faults.name faults.number next e

by_some : (name number : Option ℕ) (next : Result State Refusal) (refusal : Refusal) → Some refusal ≡ refusal_by name number → judged_by name number next ≡ Err refusal
by_some (Some at) number next refusal e = let some : Some refusal ≡ Some (BadName at) = e in cc
by_some None (Some at) next refusal e = let some : Some refusal ≡ Some (BadNumber at) = e in cc
by_some None None next refusal e = absurd (let some : Some refusal ≡ None = e in cc)

pub judged_some : (faults : Faults) (next : Result State Refusal) (refusal : Refusal) → Some refusal ≡ refusal_of faults → judged faults next ≡ Err refusal
judged_some faults next refusal e = by_some faults.name faults.number next refusal e

first_none : (name other number : Option ℕ) → None ≡ refusal_by (earlier name other) number → name ≡ None
first_none None other number e = refl
first_none (Some at) None number e = absurd (let none : None ≡ Some (BadName at) = e in cc)
first_none (Some at) (Some n) number e = absurd (let none : None ≡ Some (BadName (min at n)) = e in cc)

pub name_none : (a b : Faults) → None ≡ refusal_of (both_faults a b) → a.name ≡ None
name_none a b e = first_none a.name b.name (both_faults a b).number e

-- sizes held at 2^63

pub held_less : (limit size : ℕ) → limit ≤ 2 ^ 40 → nat_lt limit (min size (2 ^ 63)) ≡ nat_lt limit size
held_less limit size low =
    elim (cases_lt limit size) [
      | inl more ↦ lt-ltb limit (min size (2 ^ 63)) (omega arith) ∙ sym (lt-ltb limit size more)
      | inr few ↦ le-ltb limit (min size (2 ^ 63)) (omega arith) ∙ sym (le-ltb limit size few)
    ]

pub whole_of : (limit count size : ℕ) → (not (count == 0) && nat_lt limit size) ≡ false → 0 < count → size ≤ limit
whole_of limit count size e some =
    elim (cases_lt limit size) [
      | inl more ↦
          let is : nat_lt limit size ≡ true = lt-ltb limit size more in
          let other : (count == 0) ≡ false = ne_eqb count 0 (λ h. omega (arith, h)) in
          let both : true ≡ false = rw is at (rw other at e) in
          absurd (cc)
      | inr few ↦ few
    ]

-- lines that are kept

held_more : (limit : ℕ) (lines kept : List Line) (line one : Line) → AreHeld limit lines kept → IsHeldLine limit line one → AreHeld limit (lines ++ line ∷ []) (kept ++ one ∷ [])
held_more limit [] [] line one are is = (is, tt)
held_more limit [] (other ∷ kept) line one are is = absurd are
held_more limit (other ∷ lines) [] line one are is = absurd are
held_more limit (x ∷ lines) (y ∷ kept) line one are is = (are.0, held_more limit lines kept line one are.1 is)

pub kept_more : (limit at : ℕ) (lines : List Line) (places : List ℕ) (all : List Placed) (line one : Line) → AreKept limit lines places all → IsHeldLine limit line one
    → AreKept limit (lines ++ one ∷ []) (places ++ at ∷ []) (all ++ placed line at ∷ [])
kept_more limit at lines places all line one kept is = record {
  held = subst (λ l. AreHeld limit l (lines ++ one ∷ [])) (sym (map-append (λ placed. placed.line) all (placed line at ∷ []))) (held_more limit (lines_in all) lines line one kept.held is);
  stand = ap (λ l. l ++ at ∷ []) kept.stand ∙ sym (map-append (λ placed. placed.at) all (placed line at ∷ []));
}

held_len : (limit : ℕ) (lines kept : List Line) → AreHeld limit lines kept → length kept ≡ length lines
held_len limit [] [] are = refl
held_len limit [] (other ∷ kept) are = absurd are
held_len limit (other ∷ lines) [] are = absurd are
held_len limit (x ∷ lines) (y ∷ kept) are = ap (λ n. suc n) (held_len limit lines kept are.1)

pub kept_len : (limit : ℕ) (lines : List Line) (places : List ℕ) (all : List Placed) → AreKept limit lines places all → length lines ≡ length all
kept_len limit lines places all kept = held_len limit (lines_in all) lines kept.held ∙ length-map all (λ placed. placed.line)

-- forms

pub form_at : (limit : ℕ) (names : Names) (read : Result FormFound ℕ) (a b : ℕ) (x y : List Token) → a ≡ b → x ≡ y → IsForm limit names read (form names a x) → IsForm limit names read (form names b y)
form_at limit names read a b x y lines tokens is = subst (λ n. IsForm limit names read (form names n y)) lines (subst (λ t. IsForm limit names read (form names a t)) tokens is)

-- statements as far as they are taken

pub record GoesOn (limit : ℕ) (reading : Reading) (before : State) (all left : List Statement) : Type 0 where
  pub now : State
  pub is : IsReading reading now
  pub goes : taken_all limit before all ≡ taken_all limit now left

pub goes_first : (limit : ℕ) (reading : Reading) (before : State) (all : List Statement) → IsReading reading before → GoesOn limit reading before all all
goes_first limit reading before all is = record { now = before; is = is; goes = refl }

step : (limit : ℕ) (now : State) (left more : List Statement) (statement : Statement) → left ≡ statement ∷ more
    → taken_all limit now left ≡ and_taken (with_statement limit now statement) (λ next. taken_all limit next more)
unfolding taken_all
step limit now left more statement is = rw is refl

last : (limit : ℕ) (now : State) (left : List Statement) → left ≡ [] → taken_all limit now left ≡ Ok now
unfolding taken_all
last limit now left none = rw none refl

pub goes_more : (limit : ℕ) (reading next : Reading) (before : State) (all left more : List Statement) (statement : Statement) (done : Unit {0}) → left ≡ statement ∷ more
    → ((state : State) → IsReading reading state → IsTaken next (Ok done) (with_statement limit state statement)) → GoesOn limit reading before all left → GoesOn limit next before all more
goes_more limit reading next before all left more statement done is takes on =
    let t = takes on.now on.is in
    record {
      now = t.0;
      is = t.2;
      goes = on.goes ∙ step limit on.now left more statement is ∙ ap (λ r. and_taken r (λ next. taken_all limit next more)) t.1;
    }

pub goes_bad : (limit : ℕ) (reading next : Reading) (before : State) (all left more : List Statement) (statement : Statement) (refusal : Refusal) → left ≡ statement ∷ more
    → ((state : State) → IsReading reading state → IsTaken next (Err refusal) (with_statement limit state statement)) → GoesOn limit reading before all left → taken_all limit before all ≡ Err refusal
goes_bad limit reading next before all left more statement refusal is takes on =
    on.goes ∙ step limit on.now left more statement is ∙ ap (λ r. and_taken r (λ next. taken_all limit next more)) (takes on.now on.is)

pub goes_end : (limit : ℕ) (reading : Reading) (before : State) (all left : List Statement) (done : Unit {0}) → left ≡ [] → GoesOn limit reading before all left → IsTaken reading (Ok done) (taken_all limit before all)
goes_end limit reading before all left done none on = (on.now, on.goes ∙ last limit on.now left none, on.is)
