-- A listing, pair by pair.
use Rattle.std.proofs.Common.{◌≡◌, ℕ, zero, suc, ◌+◌, ◌-◌, ◌<◌, ◌≤◌, inl, inr, List, [], ◌++◌, length, drop, codes, Option, Result, Ok, arith, refl, sym, ap, subst, ◌∙◌, append_assoc, append-nil, length-drop}
use Rattle.std.proofs.lemmas.Result.{MatchResult-from_err}
use Rattle.std.specs.Result.{IsErr}
use Rattle.fuun_base.specs.declared.letters.Base.{Base}
use Rattle.fuun_io.specs.Written.{appended, PutsFront}
use Rattle.fuun_io.proofs.WrittenLemmas.{appended-appended, appended-nil, PutsFront-behind, PutsFront-longer}
use Rattle.dna_items.specs.declared.items.PatItem.{PatItem}
use Rattle.dna_items.specs.declared.items.TplItem.{TplItem}
use Rattle.dna_reader.specs.Pairs.{PairGives, ByPair, ByRunningOut, PairIsRead}
use Rattle.dna_reader.proofs.PairLemmas.{has_pair, one_pair, pairs_do_not_run_out}
use Rattle.listing.specs.Laws.{HasListing, HasOneListing}
use Rattle.listing.specs.Lists.{BeginsWithNone, pair_line, last_line, ListsFrom, IsListing, PutsListing}
use Rattle.listing.specs.Texts.{number_text}
use Rattle.listing.proofs.TextLemmas.{held_pair_text}

-- listings are one

pub one_lists : (len count : ℕ) (left : List Base) (a b : List ℕ) → ListsFrom len count left a → ListsFrom len count left b → a ≡ b
one_lists len zero left a b x y = x ∙ sym y
one_lists len (suc count) left a b (inl x) (inl y) = x.1 ∙ sym y.1
one_lists len (suc count) left a b (inl x) (inr y) = absurd (pairs_do_not_run_out left y.0 y.1 y.4.0 x.0.0 y.2 y.4.1 x.0.1)
one_lists len (suc count) left a b (inr x) (inl y) = absurd (pairs_do_not_run_out left x.0 x.1 x.4.0 y.0.0 x.2 x.4.1 y.0.1)
one_lists len (suc count) left a b (inr x) (inr y) =
    let same = one_pair left x.0 y.0 x.1 y.1 x.4.0 y.4.0 x.2 y.2 x.4.1 y.4.1 in
    let more : x.3 ≡ y.3 = one_lists len count y.2 x.3 y.3 (subst (λ r. ListsFrom len count r x.3) same.rest x.5) y.5 in
    let place : ℕ = len - length left in
    x.6 ∙ ap (λ p. pair_line place p x.1 ++ x.3) same.pattern ∙ ap (λ t. pair_line place y.0 t ++ x.3) same.template ∙ ap (λ l. pair_line place y.0 y.1 ++ l) more ∙ sym y.6

lists_at : (len count : ℕ) (left : List Base) (rna : List (List Base)) → PairGives left rna → ((rest : List Base) → (text : List ℕ) × ListsFrom len count rest text) → (text : List ℕ) × ListsFrom len (suc count) left text
lists_at len count left rna (ByPair pattern template rest stands) has =
    let more = has rest in
    (pair_line (len - length left) pattern template ++ more.0, inr (pattern, template, rest, more.0, (rna, stands), more.1, refl))
lists_at len count left rna (ByRunningOut runs_out) has = (last_line (len - length left), inl ((rna, runs_out), refl))

pub has_lists : (len count : ℕ) (left : List Base) → (text : List ℕ) × ListsFrom len count left text
has_lists len zero left = ([], refl)
has_lists len (suc count) left = let pair = has_pair left in lists_at len count left pair.0 pair.1 (λ rest. has_lists len count rest)

pub has_listing : HasListing
has_listing d count = has_lists (length d) count d

pub one_listing : HasOneListing
one_listing d count a b x y = one_lists (length d) count d a b x y

-- the lines so far, and that each listing of what is left goes on behind them
pub record IsListed (d : List Base) (count number place : ℕ) (old new : Option (List ℕ)) : Type 0 where
  pub text : List ℕ
  pub put : new ≡ appended old text
  pub within : place ≤ length d
  pub goes_on : (more : List ℕ) → ListsFrom (length d) (count - number) (drop place d) more → IsListing d count (text ++ more)

pub none_listed : (d : List Base) (count : ℕ) (told : Option (List ℕ)) → IsListed d count 0 0 told told
none_listed d count told = record {
  text = [];
  put = sym (appended-nil told);
  within = omega arith;
  goes_on = λ more lists. let all : count - 0 ≡ count = omega arith in subst (λ n. ListsFrom (length d) n d more) all lists;
}

place_there : (d : List Base) (place : ℕ) → place ≤ length d → length d - length (drop place d) ≡ place
place_there d place within = omega (arith, length-drop place d)

one_left : (count number : ℕ) → number < count → count - number ≡ suc (count - (number + 1))
one_left count number more = omega arith

-- the line of the pair that stands at the place, and a listing of what is left behind it
lists_pair : {Taker : Type 0} {follows : Taker → List (List Base) → Taker → Type 0} {before after : Taker} → (d : List Base) (count number place next : ℕ) (pattern : List PatItem) (template : List TplItem) (more : List ℕ) → number < count → place ≤ length d → PairIsRead follows before after d place pattern template next
    → ListsFrom (length d) (count - (number + 1)) (drop next d) more → ListsFrom (length d) (count - number) (drop place d) (pair_line place pattern template ++ more)
lists_pair d count number place next pattern template more goes within pair lists =
    let text : pair_line place pattern template ≡ pair_line (length d - length (drop place d)) pair.items pair.puts =
    ap (λ l. number_text place ++ (codes " " ++ (l ++ codes "\n"))) (held_pair_text pair.items pattern pair.puts template pair.pattern_held pair.template_held)
    ∙ ap (λ n. pair_line n pair.items pair.puts) (sym (place_there d place within)) in
    subst (λ n. ListsFrom (length d) n (drop place d) (pair_line place pattern template ++ more)) (sym (one_left count number goes))
    (inr (pair.items, pair.puts, drop next d, more, (pair.rna, pair.stands), lists, ap (λ l. l ++ more) text))

-- the last line, where no pair stands
lists_last : (d : List Base) (count number place : ℕ) → number < count → place ≤ length d → BeginsWithNone (drop place d) → ListsFrom (length d) (count - number) (drop place d) (last_line place)
lists_last d count number place goes within none =
    subst (λ n. ListsFrom (length d) n (drop place d) (last_line place)) (sym (one_left count number goes))
    (inl (none, ap last_line (sym (place_there d place within))))

pub listed_more : {Taker : Type 0} {follows : Taker → List (List Base) → Taker → Type 0} {before after : Taker} → (d : List Base) (count number place next : ℕ) (pattern : List PatItem) (template : List TplItem) (old mid new : Option (List ℕ)) → number < count → IsListed d count number place old mid → PairIsRead follows before after d place pattern template next → next ≤ length d
    → new ≡ appended mid (pair_line place pattern template) → IsListed d count (number + 1) next old new
listed_more d count number place next pattern template old mid new goes listed pair within put =
    let line : List ℕ = pair_line place pattern template in
    record {
      text = listed.text ++ line;
      put = put ∙ ap (λ told. appended told line) listed.put ∙ appended-appended old listed.text line;
      within = within;
      goes_on = λ more lists. subst (λ l. IsListing d count l) (sym (append_assoc listed.text line more))
          (listed.goes_on (line ++ more) (lists_pair d count number place next pattern template more goes listed.within pair lists));
    }

-- as many pairs were read as were asked for
pub listed_all : {T E : Type 0} → (d : List Base) (count number place : ℕ) (old new : Option (List ℕ)) (value : T) → count ≤ number → IsListed d count number place old new → PutsListing {T = T} {E = E} d count (Ok value) old new
listed_all d count number place old new value all listed =
    let none : count - number ≡ 0 = omega arith in
    record {
      text = listed.text ++ [];
      is = listed.goes_on [] (subst (λ n. ListsFrom (length d) n (drop place d) []) (sym none) refl);
      puts = listed.put ∙ ap (appended old) (sym (append-nil listed.text));
    }

-- no pair stands there, and the last line was put
pub listed_last : {T E : Type 0} → (d : List Base) (count number place : ℕ) (old mid new : Option (List ℕ)) (value : T) → number < count → IsListed d count number place old mid → BeginsWithNone (drop place d) → new ≡ appended mid (last_line place) → PutsListing {T = T} {E = E} d count (Ok value) old new
listed_last d count number place old mid new value goes listed none put = record {
  text = listed.text ++ last_line place;
  is = listed.goes_on (last_line place) (lists_last d count number place goes listed.within none);
  puts = put ∙ ap (λ told. appended told (last_line place)) listed.put ∙ appended-appended old listed.text (last_line place);
}

-- nothing more was put
pub listed_in_part : (d : List Base) (count number place : ℕ) (old new : Option (List ℕ)) → IsListed d count number place old new → (text : List ℕ) × IsListing d count text × PutsFront old new text
listed_in_part d count number place old new listed =
    let left = has_lists (length d) (count - number) (drop place d) in
    (listed.text ++ left.0, listed.goes_on left.0 left.1, record { front = listed.text; rest = left.0; whole = refl; put = listed.put })

-- a front of the pair's line was put
pub listed_in_pair : {Taker : Type 0} {follows : Taker → List (List Base) → Taker → Type 0} {before after : Taker} → (d : List Base) (count number place next : ℕ) (pattern : List PatItem) (template : List TplItem) (old mid new : Option (List ℕ)) → number < count → IsListed d count number place old mid → PairIsRead follows before after d place pattern template next
    → PutsFront mid new (pair_line place pattern template) → (text : List ℕ) × IsListing d count text × PutsFront old new text
listed_in_pair d count number place next pattern template old mid new goes listed pair put =
    let line : List ℕ = pair_line place pattern template in
    let left = has_lists (length d) (count - (number + 1)) (drop next d) in (
      listed.text ++ (line ++ left.0),
      listed.goes_on (line ++ left.0) (lists_pair d count number place next pattern template left.0 goes listed.within pair left.1),
      PutsFront-behind old mid new listed.text (line ++ left.0) listed.put (PutsFront-longer mid new line left.0 put),
    )

-- a front of the last line was put
pub listed_in_last : (d : List Base) (count number place : ℕ) (old mid new : Option (List ℕ)) → number < count → IsListed d count number place old mid → BeginsWithNone (drop place d) → PutsFront mid new (last_line place) → (text : List ℕ) × IsListing d count text × PutsFront old new text
listed_in_last d count number place old mid new goes listed none put = (
  listed.text ++ last_line place,
  listed.goes_on (last_line place) (lists_last d count number place goes listed.within none),
  PutsFront-behind old mid new listed.text (last_line place) listed.put put,
)

-- after an error
pub listing_broke : {T E : Type 0} → (d : List Base) (count : ℕ) (old new : Option (List ℕ)) (result : Result T E) → IsErr result → ((text : List ℕ) × IsListing d count text × PutsFront old new text) → PutsListing {T = T} {E = E} d count result old new
listing_broke d count old new result err x = record { text = x.0; is = x.1; puts = MatchResult-from_err result _ _ err (λ _. x.2) }
