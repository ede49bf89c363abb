-- What is known before the first statement.
use Rattle.std.proofs.Common.{◌≡◌, ℕ, zero, suc, ◌+◌, ◌-◌, ◌<◌, ◌≤◌, inl, inr, Bool, false, List, [], ◌∷◌, ◌++◌, length, map, take, get_or, arith, refl, sym, ap, ◌∙◌, subst, codes, Bor}
use Rattle.std.specs.Prelude.{nat_lt}
use Rattle.std.proofs.lemmas.Bool.{cases_lt, le-ltb}
use Rattle.std.proofs.lemmas.List.{get_or-take, get_or_append_left, get_or_default, get_or_past, get_or_push, length-take-le, length_push}
use Rattle.rna_code.specs.Commands.{Row, rows_of}
use Rattle.rna_code.specs.declared.profile.Profile.TheVariants.{Plain}
use Rattle.source_text.specs.declared.held.Held.{Held}
use Rattle.source_text.specs.declared.names.Known.{Known}
use Rattle.source_text.specs.declared.names.Known.TheVariants as known
use Rattle.source_text.specs.Keeping.{AreAdded, AreKnown, IsHeld, IsMeant}
use Rattle.source_text.specs.Names.{Unknown, Reserved, Definition, commands_from, first_meanings, letter_pieces}

abbrev pub now_of : Bor (List ℕ) → List ℕ
now_of letters = letters.now

abbrev pub letters_of : Row → List ℕ
letters_of row = codes "III" ++ row.letters

command_at : (rows : List Row) (k : ℕ) → k < length rows → commands_from rows k ≡ Definition 0 (letter_pieces (get_or (map letters_of rows) k []))
command_at [] k within = absurd (omega arith)
command_at (row ∷ rows) zero within = refl
command_at (row ∷ rows) (suc k) within = command_at rows k (omega arith)

no_command : (rows : List Row) (k : ℕ) → length rows ≤ k → commands_from rows k ≡ Unknown
no_command [] k past = refl
no_command (row ∷ rows) zero past = absurd (omega arith)
no_command (row ∷ rows) (suc k) past = no_command rows k (omega arith)

len_of : {A B : Type 0} (f : A → B) (xs : List A) → length (map f xs) ≡ length xs
len_of f [] = refl
len_of f (x ∷ xs) = ap (λ n. suc n) (len_of f xs)

now_at : (commands : List (Bor (List ℕ))) (k : ℕ) (d : Bor (List ℕ)) → k < length commands → get_or (map now_of commands) k [] ≡ (get_or commands k d).now
now_at [] k d within = absurd (omega arith)
now_at (x ∷ commands) zero d within = refl
now_at (x ∷ commands) (suc k) d within = now_at commands k d (omega arith)

past_three : (id : ℕ) (less : Bool) → nat_lt id 3 ≡ less → less ≡ false → first_meanings id ≡ commands_from (rows_of Plain) (id - 3)
unfolding first_meanings
past_three id less e past = rw (e, past) refl

reserved_at : (id : ℕ) → id < 3 → (get_or (known.Reserved ∷ known.Reserved ∷ known.Reserved ∷ []) id known.Unknown ≡ known.Reserved) × (first_meanings id ≡ Reserved)
unfolding first_meanings
reserved_at zero within = (refl, refl)
reserved_at (suc zero) within = (refl, refl)
reserved_at (suc (suc zero)) within = (refl, refl)
reserved_at (suc (suc (suc k))) within = absurd (omega arith)

not_below : (id : ℕ) → 3 ≤ id → nat_lt id 3 ≡ false
not_below id past = le-ltb id 3 past

pub first_are : (limit : ℕ) (old new : List Known) (commands : List (Bor (List ℕ))) (d : Bor (List ℕ)) → old ≡ known.Reserved ∷ known.Reserved ∷ known.Reserved ∷ []
    → map now_of commands ≡ map letters_of (rows_of Plain) → AreAdded limit old commands new → AreKnown limit new first_meanings
first_are limit old new commands d is same added id =
    let count : length commands ≡ length (rows_of Plain) = sym (len_of now_of commands) ∙ ap length same ∙ len_of letters_of (rows_of Plain) in
    let three : length old ≡ 3 = ap length is in
    elim (cases_lt id 3) [
      | inl low ↦
          let r = reserved_at id low in
          let there : get_or new id known.Unknown ≡ known.Reserved = added.before id (omega arith) ∙ ap (λ l. get_or l id known.Unknown) is ∙ r.0 in
          subst (λ m. IsMeant limit (get_or new id known.Unknown) m) (sym r.1) (subst (λ x. IsMeant limit x Reserved) (sym there) tt)
      | inr high ↦
          let means = past_three id (nat_lt id 3) refl (not_below id high) in
          elim (cases_lt (id - 3) (length commands)) [
            | inl within ↦
                let at : length old + (id - 3) ≡ id = omega arith in
                let here = subst (λ n. IsMeant limit (get_or new n known.Unknown) (Definition 0 (letter_pieces (get_or commands (id - 3) d).now))) at (added.added (id - 3) d within) in
                let letters : get_or (map letters_of (rows_of Plain)) (id - 3) [] ≡ (get_or commands (id - 3) d).now = sym (ap (λ l. get_or l (id - 3) []) same) ∙ now_at commands (id - 3) d within in
                let meant = means ∙ command_at (rows_of Plain) (id - 3) (omega (arith, count)) ∙ ap (λ l. Definition 0 (letter_pieces l)) letters in
                subst (λ m. IsMeant limit (get_or new id known.Unknown) m) (sym meant) here
            | inr past ↦
                let meant = means ∙ no_command (rows_of Plain) (id - 3) (omega (arith, count)) in
                let gone : get_or new id known.Unknown ≡ known.Unknown = get_or_past new id known.Unknown (omega (arith, added.len)) in
                subst (λ m. IsMeant limit (get_or new id known.Unknown) m) (sym meant) (subst (λ x. IsMeant limit x Unknown) (sym gone) tt)
          ]
    ]

-- one more definition stands behind what was known
pub added_more : (limit k : ℕ) (old now new : List Known) (commands : List (Bor (List ℕ))) (held : Held) (e : Bor (List ℕ)) → k < length commands → AreAdded limit old (take k commands) now → new ≡ now ++ known.Definition 0 held ∷ []
    → IsHeld limit held (letter_pieces (get_or commands k e).now) → AreAdded limit old (take (k + 1) commands) new
added_more limit k old now new commands held e within added is here =
    let few : length (take k commands) ≡ k = length-take-le k commands (omega (arith, within)) in
    let more : length (take (k + 1) commands) ≡ k + 1 = length-take-le (k + 1) commands (omega (arith, within)) in
    let longer : length new ≡ length now + 1 = ap length is ∙ length_push now (known.Definition 0 held) in
    record {
      len = omega (arith, few, more, longer, added.len);
      before =
          λ j less.
          ap (λ l. get_or l j known.Unknown) is ∙ get_or_append_left now (known.Definition 0 held ∷ []) known.Unknown j (omega (arith, less, added.len)) ∙ added.before j less;
      added =
          λ j d less.
          elim (cases_lt j k) [
            | inl before ↦
                let at : get_or new (length old + j) known.Unknown ≡ get_or now (length old + j) known.Unknown =
                ap (λ l. get_or l (length old + j) known.Unknown) is ∙ get_or_append_left now (known.Definition 0 held ∷ []) known.Unknown (length old + j) (omega (arith, before, few, added.len))
                in
                let letters : get_or (take k commands) j d ≡ get_or (take (k + 1) commands) j d = get_or-take k commands j d before ∙ sym (get_or-take (k + 1) commands j d (omega (arith, before))) in
                subst (λ l. IsMeant limit (get_or new (length old + j) known.Unknown) (Definition 0 (letter_pieces l.now))) letters
                (subst (λ m. IsMeant limit m (Definition 0 (letter_pieces (get_or (take k commands) j d).now))) (sym at) (added.added j d (omega (arith, before, few))))
            | inr past ↦
                let last : j ≡ k = omega (arith, past, less, more) in
                let at : get_or new (length old + j) known.Unknown ≡ known.Definition 0 held =
                ap (λ l. get_or l (length old + j) known.Unknown) is ∙ get_or_push now (known.Definition 0 held) known.Unknown (length old + j) (omega (arith, last, few, added.len))
                in
                let letters : get_or commands k e ≡ get_or (take (k + 1) commands) j d =
                get_or_default commands k e d within ∙ ap (λ i. get_or commands i d) (sym last) ∙ sym (get_or-take (k + 1) commands j d (omega (arith, last)))
                in
                subst (λ l. IsMeant limit (get_or new (length old + j) known.Unknown) (Definition 0 (letter_pieces l.now))) letters
                (subst (λ m. IsMeant limit m (Definition 0 (letter_pieces (get_or commands k e).now))) (sym at) (record { same = refl; is = here; whole = λ some. absurd (omega (arith, some)) }))
          ];
    }
