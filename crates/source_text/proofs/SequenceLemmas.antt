-- Sequences, a part at a time.
use Rattle.std.proofs.Common.{◌≡◌, ℕ, zero, suc, ◌+◌, ◌-◌, ◌<◌, inl, inr, true, false, Result, Ok, Err, List, [], ◌∷◌, ◌++◌, length, arith, refl, ap, ◌∙◌, subst}
use Rattle.std.specs.Prelude.{◌&&◌, IfOk}
use Rattle.std.specs.Borrow.{Bor}
use Rattle.std.proofs.lemmas.Bool.{cases_Bool}
use Rattle.source_tokens.specs.declared.words.Token.{Token}
use Rattle.source_text.specs.declared.held.Held.{Held}
use Rattle.source_text.specs.declared.parts.Found.{Found}
use Rattle.source_text.specs.declared.pieces.Piece.{Piece}
use Rattle.source_text.specs.declared.sequences.Kind.{Kind}
use Rattle.source_text.specs.declared.sequences.Kind.TheVariants.{Pattern, Template, Bases}
use Rattle.source_text.specs.declared.signs.Sign.{Sign}
use Rattle.source_text.specs.declared.signs.Sign.TheVariants as sign
use Rattle.source_text.specs.declared.uses.Given.{Given}
use Rattle.source_text.specs.Keeping.{AreHeld, IsGiven, IsHeld, IsWorth, Reads, ReadsUses}
use Rattle.source_text.specs.Names.{Names, takes_templates}
use Rattle.source_text.specs.Reading.{Read, and_read, behind, behind_one, both_faults, no_faults, stands}
use Rattle.source_text.specs.Sequences.{Inside, Uses, Worth, arguments, bases, begins, begins_by, begins_common, both, bracket, closed, common, common_by, inside_at, name_part, nothing, own_by, part, parts, repeatable, repeats, search_part, search_worth, sequence_by, templates, use_of, uses}
use Rattle.source_text.proofs.PartLemmas.{some_most}

-- how far a kind of sequence is from bases
abbrev pub rank : Kind → ℕ
rank Pattern = 10
rank Template = 10
rank Bases = 0

and_same : {A B : Type 0} (read : Read A) (f g : A → List Token → Read B) → ((a : A) (left : List Token) → f a left ≡ g a left) → and_read read f ≡ and_read read g
and_same (Ok found) f g same = same found.0 found.1
and_same (Err left) f g same = refl

module _ (names : Names) (line : ℕ) (inside : Inside) where
  -- bases are parts that all sequences have

  common_part : (tokens : List Token) → begins_by begins_common tokens ≡ true → common names line inside Bases tokens ≡ part names line inside Bases tokens
  unfolding part
  common_part [] is = absurd (let e : false ≡ true = is in cc)
  common_part (token ∷ rest) is = rw is refl

  bases_by : (most : ℕ) (found : Worth) (tokens : List Token)
      → parts begins_common (repeatable (common names line inside Bases)) most found tokens ≡ parts (begins Bases) (repeatable (part names line inside Bases)) most found tokens
  unfolding parts
  bases_by zero found tokens = refl
  bases_by (suc most) found [] = refl
  bases_by (suc most) found (token ∷ rest) =
      elim (cases_Bool (begins_common token.word)) [
        | inl is ↦
            let same = common_part (token ∷ rest) is in
            rw is
            (ap (λ (r : Read Worth). and_read (and_read r (λ found left. repeats (suc (length left)) found left)) (λ next left. parts begins_common (repeatable (common names line inside Bases)) most (both found next) left)) same
            ∙ and_same (repeatable (part names line inside Bases) (token ∷ rest)) _ _ (λ next left. bases_by most (both found next) left))
        | inr other ↦ rw other refl
      ]

  pub bases_same : (tokens : List Token) → bases names line inside tokens ≡ sequence_by names line inside Bases tokens
  unfolding sequence_by
  bases_same tokens = bases_by (suc (length tokens)) nothing tokens

  -- a sequence as far as it is read
  pub record PartsFound (limit : ℕ) (kind : Kind) (tokens : List Token) (found : Found) (rest : List Token) : Type 0 where
    pub now : Worth
    pub is : IsWorth limit found now
    pub most : ℕ
    pub room : length rest < most
    pub goes : sequence_by names line inside kind tokens ≡ parts (begins kind) (repeatable (part names line inside kind)) most now rest

  pub parts_first : (limit : ℕ) (kind : Kind) (tokens : List Token) (found : Found) → IsWorth limit found nothing → PartsFound limit kind tokens found tokens
  unfolding sequence_by
  parts_first limit kind tokens found is = record { now = nothing; is = is; most = suc (length tokens); room = omega arith; goes = refl }

  turn : (kind : Kind) (most : ℕ) (now next : Worth) (rest left : List Token) → begins_by (begins kind) rest ≡ true → repeatable (part names line inside kind) rest ≡ Ok (next, left)
      → parts (begins kind) (repeatable (part names line inside kind)) (suc most) now rest ≡ parts (begins kind) (repeatable (part names line inside kind)) most (both now next) left
  unfolding parts
  turn kind most now next rest left is e = rw (is, e) refl

  stop : (kind : Kind) (most : ℕ) (now : Worth) (rest : List Token) (left : ℕ) → begins_by (begins kind) rest ≡ true → repeatable (part names line inside kind) rest ≡ Err left
      → parts (begins kind) (repeatable (part names line inside kind)) (suc most) now rest ≡ Err left
  unfolding parts
  stop kind most now rest left is e = rw (is, e) refl

  last : (kind : Kind) (most : ℕ) (now : Worth) (rest : List Token) → begins_by (begins kind) rest ≡ false → parts (begins kind) (repeatable (part names line inside kind)) (suc most) now rest ≡ Ok (now, rest)
  unfolding parts
  last kind most now rest other = rw other refl

  pub parts_more : (limit : ℕ) (kind : Kind) (tokens : List Token) (found next new : Found) (rest left : List Token) → begins_by (begins kind) rest ≡ true
      → ((worth : Worth) × (repeatable (part names line inside kind) rest ≡ Ok (worth, left)) × IsWorth limit next worth)
      → length left < length rest → ((x y : Worth) → IsWorth limit found x → IsWorth limit next y → IsWorth limit new (both x y))
      → PartsFound limit kind tokens found rest → PartsFound limit kind tokens new left
  parts_more limit kind tokens found next new rest left is read fewer gives before =
      let m = some_most (length rest) before.most before.room in
      record {
        now = both before.now read.0;
        is = gives before.now read.0 before.is read.2;
        most = m.0;
        room = omega (arith, m.2);
        goes = before.goes ∙ ap (λ k. parts (begins kind) (repeatable (part names line inside kind)) k before.now rest) m.1 ∙ turn kind m.0 before.now read.0 rest left is read.1;
      }

  pub parts_bad : (limit : ℕ) (kind : Kind) (tokens : List Token) (found : Found) (rest : List Token) (left : ℕ) → begins_by (begins kind) rest ≡ true → repeatable (part names line inside kind) rest ≡ Err left
      → PartsFound limit kind tokens found rest → sequence_by names line inside kind tokens ≡ Err left
  parts_bad limit kind tokens found rest left is e before =
      let m = some_most (length rest) before.most before.room in
      before.goes ∙ ap (λ k. parts (begins kind) (repeatable (part names line inside kind)) k before.now rest) m.1 ∙ stop kind m.0 before.now rest left is e

  pub parts_end : (limit : ℕ) (kind : Kind) (tokens : List Token) (found : Found) (rest : List Token) → begins_by (begins kind) rest ≡ false
      → PartsFound limit kind tokens found rest → (worth : Worth) × (sequence_by names line inside kind tokens ≡ Ok (worth, rest)) × IsWorth limit found worth
  parts_end limit kind tokens found rest other before =
      let m = some_most (length rest) before.most before.room in
      (before.now, before.goes ∙ ap (λ k. parts (begins kind) (repeatable (part names line inside kind)) k before.now rest) m.1 ∙ last kind m.0 before.now rest other, before.is)

  -- templates as far as they are read
  pub record TemplatesFound (limit : ℕ) (tokens : List Token) (given : Given) (rest : List Token) : Type 0 where
    pub now : Uses
    pub is : IsGiven limit given now
    pub most : ℕ
    pub room : length rest < most
    pub goes : arguments names line inside tokens ≡ templates names line inside most now rest

  pub templates_first : (limit : ℕ) (tokens : List Token) (first : Found) (given : Given) (rest : List Token)
      → ((worth : Worth) × (inside Template tokens ≡ Ok (worth, rest)) × IsWorth limit first worth)
      → ((x : Worth) → IsWorth limit first x → IsGiven limit given (uses (x.pieces ∷ []) x.faults)) → TemplatesFound limit tokens given rest
  templates_first limit tokens first given rest read gives = record {
    now = uses (read.0.pieces ∷ []) read.0.faults;
    is = gives read.0 read.2;
    most = suc (length rest);
    room = omega arith;
    goes = rw read.1 refl;
  }

  t_turn : (most : ℕ) (now : Uses) (next : Worth) (rest left : List Token) → stands sign.Semicolon rest ≡ true → inside Template (behind_one rest) ≡ Ok (next, left)
      → templates names line inside (suc most) now rest ≡ templates names line inside most (uses (now.given ++ next.pieces ∷ []) (both_faults now.faults next.faults)) left
  unfolding templates
  t_turn most now next rest left is e = rw (is, e) refl

  t_stop : (most : ℕ) (now : Uses) (rest : List Token) (left : ℕ) → stands sign.Semicolon rest ≡ true → inside Template (behind_one rest) ≡ Err left
      → templates names line inside (suc most) now rest ≡ Err left
  unfolding templates
  t_stop most now rest left is e = rw (is, e) refl

  t_last : (most : ℕ) (now : Uses) (rest : List Token) → stands sign.Semicolon rest ≡ false → templates names line inside (suc most) now rest ≡ closed sign.CloseBracket now rest
  unfolding templates
  t_last most now rest other = rw other refl

  pub templates_more : (limit : ℕ) (tokens : List Token) (given new : Given) (next : Found) (rest left : List Token) → stands sign.Semicolon rest ≡ true
      → ((worth : Worth) × (inside Template (behind_one rest) ≡ Ok (worth, left)) × IsWorth limit next worth) → length left < length rest
      → ((u : Uses) (x : Worth) → IsGiven limit given u → IsWorth limit next x → IsGiven limit new (uses (u.given ++ x.pieces ∷ []) (both_faults u.faults x.faults)))
      → TemplatesFound limit tokens given rest → TemplatesFound limit tokens new left
  templates_more limit tokens given new next rest left is read fewer gives before =
      let m = some_most (length rest) before.most before.room in
      record {
        now = uses (before.now.given ++ read.0.pieces ∷ []) (both_faults before.now.faults read.0.faults);
        is = gives before.now read.0 before.is read.2;
        most = m.0;
        room = omega (arith, m.2);
        goes = before.goes ∙ ap (λ k. templates names line inside k before.now rest) m.1 ∙ t_turn m.0 before.now read.0 rest left is read.1;
      }

  pub templates_bad : (limit : ℕ) (tokens : List Token) (given : Given) (rest : List Token) (left : ℕ) → stands sign.Semicolon rest ≡ true → inside Template (behind_one rest) ≡ Err left
      → TemplatesFound limit tokens given rest → arguments names line inside tokens ≡ Err left
  templates_bad limit tokens given rest left is e before =
      let m = some_most (length rest) before.most before.room in
      before.goes ∙ ap (λ k. templates names line inside k before.now rest) m.1 ∙ t_stop m.0 before.now rest left is e

  pub templates_end : (limit : ℕ) (tokens : List Token) (given : Given) (rest : List Token) → stands sign.Semicolon rest ≡ false → TemplatesFound limit tokens given rest
      → (now : Uses) × (arguments names line inside tokens ≡ closed sign.CloseBracket now rest) × IsGiven limit given now
  templates_end limit tokens given rest other before =
      let m = some_most (length rest) before.most before.room in
      (before.now, before.goes ∙ ap (λ k. templates names line inside k before.now rest) m.1 ∙ t_last m.0 before.now rest other, before.is)

  -- names

  pub name_alone : (kind : Kind) (id at : ℕ) (rest : List Token) → (takes_templates (names id) && stands sign.OpenBracket rest) ≡ false
      → name_part names line inside kind id at rest ≡ Ok (use_of kind at [] (names id) no_faults, rest)
  unfolding name_part
  name_alone kind id at rest other = rw other refl

  pub name_bad : (kind : Kind) (id at : ℕ) (rest : List Token) (left : ℕ) → (takes_templates (names id) && stands sign.OpenBracket rest) ≡ true → arguments names line inside (behind_one rest) ≡ Err left
      → name_part names line inside kind id at rest ≡ Err left
  unfolding name_part
  name_bad kind id at rest left is e = rw (is, e) refl

  pub name_used : (kind : Kind) (id at : ℕ) (rest left : List Token) (given : Uses) → (takes_templates (names id) && stands sign.OpenBracket rest) ≡ true
      → arguments names line inside (behind_one rest) ≡ Ok (given, left) → name_part names line inside kind id at rest ≡ Ok (use_of kind at given.given (names id) given.faults, left)
  unfolding name_part
  name_used kind id at rest left given is e = rw (is, e) refl

  -- brackets and searches

  pub bracket_bad : (kind : Kind) (rest : List Token) (left : ℕ) → inside kind rest ≡ Err left → bracket names line inside kind rest ≡ Err left
  bracket_bad kind rest left e = rw e refl

  pub bracket_open : (kind : Kind) (rest more : List Token) (found : Worth) (left : ℕ) → inside kind rest ≡ Ok (found, more) → Err left ≡ behind sign.CloseBracket more → bracket names line inside kind rest ≡ Err left
  bracket_open kind rest more found left e none = rw (e, ← none) refl

  pub bracket_closed : (kind : Kind) (rest more left : List Token) (found : Worth) → inside kind rest ≡ Ok (found, more) → Ok left ≡ behind sign.CloseBracket more → bracket names line inside kind rest ≡ Ok (found, left)
  bracket_closed kind rest more left found e some = rw (e, ← some) refl

  pub search_bad : (at : ℕ) (rest : List Token) (left : ℕ) → sequence_by names line inside Bases rest ≡ Err left → search_part names line inside at rest ≡ Err left
  search_bad at rest left e = rw (bases_same rest, e) refl

  pub search_open : (at : ℕ) (rest more : List Token) (found : Worth) (left : ℕ) → sequence_by names line inside Bases rest ≡ Ok (found, more) → Err left ≡ behind sign.Greater more → search_part names line inside at rest ≡ Err left
  search_open at rest more found left e none = rw (bases_same rest, e, ← none) refl

  pub search_closed : (at : ℕ) (rest more left : List Token) (found : Worth) → sequence_by names line inside Bases rest ≡ Ok (found, more) → Ok left ≡ behind sign.Greater more
      → search_part names line inside at rest ≡ Ok (search_worth at found, left)
  search_closed at rest more left found e some = rw (bases_same rest, e, ← some) refl

  -- parts by their first word

  pub once_none : (kind : Kind) → part names line inside kind [] ≡ Err 0
  unfolding part
  once_none kind = refl

  pub once_own : (kind : Kind) (token : Token) (rest : List Token) → begins_common token.word ≡ false → part names line inside kind (token ∷ rest) ≡ own_by names line inside kind token.word token.at rest
  unfolding part
  once_own kind token rest other = rw other refl

  pub once_common : (kind : Kind) (token : Token) (rest : List Token) → begins_common token.word ≡ true → part names line inside kind (token ∷ rest) ≡ common_by names line inside kind token.word token.at rest
  unfolding part common
  once_common kind token rest is = rw is refl

-- how deep

pub inside_none : (names : Names) (line depth : ℕ) (kind : Kind) (rest : List Token) → depth ≡ 0 → inside_at names line depth kind rest ≡ Err (length rest + 1)
unfolding inside_at
inside_none names line zero kind rest e =
    let stop : ℕ → Read Worth = λ n. Err n in
    ap stop (let s : suc (length rest) ≡ length rest + 1 = omega arith in s)
inside_none names line (suc depth) kind rest e = absurd (omega arith)

pub inside_some : (names : Names) (line depth : ℕ) (kind : Kind) (rest : List Token) → (depth ≡ 0 → ⊥) → inside_at names line depth kind rest ≡ sequence_by names line (inside_at names line (depth - 1)) kind rest
unfolding inside_at
inside_some names line zero kind rest some = absurd (some refl)
inside_some names line (suc depth) kind rest some =
    ap (λ n. sequence_by names line (inside_at names line n) kind rest) (let e : depth ≡ suc depth - 1 = omega arith in e)

-- readings that were made

pub ok_read : (limit : ℕ) (read : Result (Found × Bor (List Token)) ℕ) (found : Found × Bor (List Token)) (defined : Read Worth) → read ≡ Ok found → Reads limit read defined
    → (worth : Worth) × (defined ≡ Ok (worth, found.1.now)) × IsWorth limit found.0 worth
ok_read limit read found defined e reads = subst (λ r. Reads limit r defined) e reads

pub bad_read : (limit : ℕ) (read : Result (Found × Bor (List Token)) ℕ) (left : ℕ) (defined : Read Worth) → read ≡ Err left → Reads limit read defined → defined ≡ Err left
bad_read limit read left defined e reads = subst (λ r. Reads limit r defined) e reads

pub ok_uses : (limit : ℕ) (read : Result (Given × Bor (List Token)) ℕ) (given : Given × Bor (List Token)) (defined : Read Uses) → read ≡ Ok given → ReadsUses limit read defined
    → (uses : Uses) × (defined ≡ Ok (uses, given.1.now)) × IsGiven limit given.0 uses
ok_uses limit read given defined e reads = subst (λ r. ReadsUses limit r defined) e reads

pub bad_uses : (limit : ℕ) (read : Result (Given × Bor (List Token)) ℕ) (left : ℕ) (defined : Read Uses) → read ≡ Err left → ReadsUses limit read defined → defined ≡ Err left
bad_uses limit read left defined e reads = subst (λ r. ReadsUses limit r defined) e reads

pub ok_fact : {A : Type 0} (P : A → Type 0) (read : Result A ℕ) (found : A) → read ≡ Ok found → IfOk read P → P found
ok_fact P read found e fact = subst (λ r. IfOk r P) e fact

-- a sign behind what was read

pub closed_some : {A : Type 0} (end : Sign) (found : A) (more left : List Token) → Ok left ≡ behind end more → closed end found more ≡ Ok (found, left)
closed_some end found more left e = rw (← e) refl

pub closed_none : {A : Type 0} (end : Sign) (found : A) (more : List Token) (left : ℕ) → Err left ≡ behind end more → closed end found more ≡ Err left
closed_none end found more left e = rw (← e) refl

-- templates that are kept

pub given_more : (limit : ℕ) (given : List Held) (lists : List (List Piece)) (held : Held) (x : List Piece) → AreHeld limit given lists → IsHeld limit held x → AreHeld limit (given ++ held ∷ []) (lists ++ x ∷ [])
given_more limit [] [] held x are is = (is, tt)
given_more limit [] (y ∷ lists) held x are is = absurd are
given_more limit (one ∷ given) [] held x are is = absurd are
given_more limit (one ∷ given) (y ∷ lists) held x are is = (are.0, given_more limit given lists held x are.1 is)

-- a sign at the front is a token more
pub stands_tail : (end : Sign) (tokens : List Token) → stands end tokens ≡ true → length (behind_one tokens) < length tokens
stands_tail end [] is = absurd (let e : false ≡ true = is in cc)
stands_tail end (token ∷ rest) is = omega arith

pub no_tokens : (tokens : List Token) → length tokens ≡ 0 → tokens ≡ []
no_tokens [] none = refl
no_tokens (token ∷ rest) none = absurd (omega arith)
