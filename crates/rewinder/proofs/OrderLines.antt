-- The order that is found for a line is the one of which it is the line.
use Rattle.std.proofs.Common.{◌≡◌, ◌⊎◌, inl, inr, ℕ, suc, ◌+◌, ◌<◌, ◌≤◌, Bool, true, false, List, [], ◌∷◌, ◌++◌, Option, Some, None, length, take, drop, get_or, codes, arith, refl, sym, ap, subst, ◌∙◌, take-append-drop, drop-cons, length-append, ◌^◌}
use Rattle.std.specs.Prelude.{◌==◌, ◌&&◌, if◌then◌else◌, nat_le, nat_lt, position}
use Rattle.std.specs.List.{list_all, position_or_len}
use Rattle.std.specs.Option.{option_map}
use Rattle.std.specs.Str.{bytes_eq}
use Rattle.std.specs.Str.Parse.{digits_value}
use Rattle.std.proofs.Math.Seq.{take-append_seam, drop-append_seam}
use Rattle.std.proofs.lemmas.Bool.{eqb-true, lt-ltb, ne_eqb}
use Rattle.std.proofs.lemmas.List.{drop-drop, get_or_append_left}
use Rattle.std.proofs.lemmas.List.Quantifiers.{position-Some}
use Rattle.std.proofs.lemmas.List.Sums.{position_or_len_is}
use Rattle.std.proofs.lemmas.Option.{none-some, same_Some}
use Rattle.std.proofs.lemmas.Slice.Eq.{bytes_eq-Decides}
use Rattle.fuun_base.specs.Decimals.{is_digit, is_number}
use Rattle.fuun_base.proofs.DecimalLemmas.{both_true, digit_range}
use Rattle.rewinder.specs.declared.orders.Order.{Order}
use Rattle.rewinder.specs.declared.orders.Order.TheVariants.{Step, Back, Show, Where}
use Rattle.rewinder.specs.Numbers.{number}
use Rattle.rewinder.specs.Script.{IsRangeOf, IsCountOf, IsLineOf, behind, both_of, range_at, range_of, said_by, where_of, show_of, back_of, order_of}

-- what a choice gave

if_some : {A : Type 0} → (b : Bool) (x y : A) → (if b then Some x else None) ≡ Some y → (b ≡ true) × (x ≡ y)
if_some true x y is = (refl, same_Some x y is)
if_some false x y is = absurd (none-some y is)

option_map_some : (f : ℕ → Order) (o : Option ℕ) (order : Order) → option_map f o ≡ Some order → (n : ℕ) × (o ≡ Some n) × (f n ≡ order)
option_map_some f None order is = absurd (none-some order is)
option_map_some f (Some n) order is = (n, refl, same_Some (f n) order is)

-- words at the front

behind_is : (word line text : List ℕ) → behind word line ≡ Some text → line ≡ word ++ text
behind_is word line text is =
    let parts = if_some (bytes_eq (take (length word) line) word) (drop (length word) line) text is in
    let front : take (length word) line ≡ word = (bytes_eq-Decides (take (length word) line) word).0 parts.0 in
    sym (take-append-drop (length word) line) ∙ ap (λ l. l ++ drop (length word) line) front ∙ ap (λ l. word ++ l) parts.1

behind_there : (word text : List ℕ) → behind word (word ++ text) ≡ Some text
behind_there word text =
    let front : take (length word) (word ++ text) ≡ word = take-append_seam word text in
    let same : bytes_eq (take (length word) (word ++ text)) word ≡ true = (bytes_eq-Decides (take (length word) (word ++ text)) word).1 front in
    rw same (ap (λ l. Some l) (drop-append_seam word text))

said_case : (o : Option (List ℕ)) (says : List ℕ → Option Order) (other : Option Order) (order : Order) → said_by o says other ≡ Some order
    → ((text : List ℕ) × (o ≡ Some text) × (says text ≡ Some order)) ⊎ (other ≡ Some order)
said_case (Some text) says other order is = inl (text, refl, is)
said_case None says other order is = inr is

-- numbers round a space

is_space : ℕ → Bool
is_space byte = byte == 32

both_some : (a b : Option ℕ) (order : Order) → both_of a b ≡ Some order → (lo : ℕ) × (hi : ℕ) × (a ≡ Some lo) × (b ≡ Some hi) × (Show lo hi ≡ order)
both_some (Some lo) (Some hi) order is = (lo, hi, refl, refl, same_Some (Show lo hi) order is)
both_some (Some lo) None order is = absurd (none-some order is)
both_some None b order is = absurd (none-some order is)

range_found : (text : List ℕ) (o : Option ℕ) (order : Order) → range_at text o ≡ Some order
    → (at : ℕ) × (lo : ℕ) × (hi : ℕ) × (o ≡ Some at) × (number (take at text) ≡ Some lo) × (number (drop (at + 1) text) ≡ Some hi) × (Show lo hi ≡ order)
range_found text None order is = absurd (none-some order is)
range_found text (Some at) order is =
    let parts = both_some (number (take at text)) (number (drop (at + 1) text)) order is in
    (at, parts.0, parts.1, refl, parts.2, parts.3, parts.4)

range_is : (text : List ℕ) (order : Order) → range_of text ≡ Some order → (lo : ℕ) × (hi : ℕ) × IsRangeOf text lo hi × (Show lo hi ≡ order)
range_is text order is =
    let parts = range_found text (position (λ byte. byte == 32) text) order is in
    let at : ℕ = parts.0 in
    let place = position-Some (λ byte. byte == 32) text at 0 parts.3 in
    let inside : at < length text = place.0 in
    let space : get_or text at 0 ≡ 32 = eqb-true (get_or text at 0) 32 place.1 in
    let rest : drop at text ≡ codes " " ++ drop (at + 1) text = drop-cons text at 0 inside ∙ ap (λ b. b ∷ drop (suc at) text) space ∙ ap (λ n. 32 ∷ drop n text) (let e : suc at ≡ at + 1 = omega arith in e) in
    (parts.1, parts.2, record { first = take at text; second = drop (at + 1) text; whole = sym (take-append-drop at text) ∙ ap (λ l. take at text ++ l) rest; from = parts.4; to = parts.5 }, parts.6)

number_digits : (text : List ℕ) (n : ℕ) → number text ≡ Some n → list_all is_digit text ≡ true
number_digits text n is =
    let parts = if_some (is_number text && nat_le (digits_value 10 text) (2 ^ 40)) (digits_value 10 text) n is in
    let form = both_true (is_number text) (nat_le (digits_value 10 text) (2 ^ 40)) parts.0 in
    let digits = both_true (nat_lt 0 (length text)) (list_all is_digit text) form.0 in digits.1

seam_at : (first second : List ℕ) → get_or (first ++ 32 ∷ second) (length first) 0 ≡ 32
seam_at [] second = refl
seam_at (byte ∷ first) second = seam_at first second

space_found : (first second : List ℕ) → list_all is_digit first ≡ true → position (λ byte. byte == 32) (first ++ 32 ∷ second) ≡ Some (length first)
space_found first second digits =
    let text : List ℕ = first ++ 32 ∷ second in
    let size : length text ≡ length first + suc (length second) = length-append first (32 ∷ second) in
    let none : (k : ℕ) → k < length first → (get_or text k 0 == 32) ≡ false = λ (k : ℕ) (lt : k < length first).
    let range = digit_range first k digits lt in
    let low : 48 ≤ get_or first k 0 = range.0 in
    let same : get_or text k 0 ≡ get_or first k 0 = get_or_append_left first (32 ∷ second) 0 k lt in
    ne_eqb (get_or text k 0) 32 (λ is. absurd (omega (arith, is, same, low))) in
    let space : (get_or text (length first) 0 == 32) ≡ true = rw (seam_at first second) refl in
    let at : position_or_len (λ byte. byte == 32) text ≡ length first = position_or_len_is (λ byte. byte == 32) text (length first) 0 (omega (arith, size)) none (λ _. space) in
    let inside : nat_lt (length first) (length text) ≡ true = lt-ltb (length first) (length text) (omega (arith, size)) in
    rw (at, inside) refl

range_there : (text : List ℕ) (lo hi : ℕ) → IsRangeOf text lo hi → range_of text ≡ Some (Show lo hi)
range_there text lo hi x =
    let found : position (λ byte. byte == 32) (x.first ++ 32 ∷ x.second) ≡ Some (length x.first) = space_found x.first x.second (number_digits x.first lo x.from) in
    let front : take (length x.first) (x.first ++ 32 ∷ x.second) ≡ x.first = take-append_seam x.first (32 ∷ x.second) in
    let rest : drop (length x.first + 1) (x.first ++ 32 ∷ x.second) ≡ x.second = sym (drop-drop 1 (length x.first) (x.first ++ 32 ∷ x.second)) ∙ ap (drop 1) (drop-append_seam x.first (32 ∷ x.second)) in
    let whole : range_of (x.first ++ 32 ∷ x.second) ≡ Some (Show lo hi) =
    ap (range_at (x.first ++ 32 ∷ x.second)) found ∙ ap (λ t. both_of (number t) (number (drop (length x.first + 1) (x.first ++ 32 ∷ x.second)))) front
    ∙ ap (λ t. both_of (number x.first) (number t)) rest ∙ ap (λ n. both_of n (number x.second)) x.from ∙ ap (both_of (Some lo)) x.to in
    ap range_of x.whole ∙ whole

-- from the order to the line

count_line : (word line : List ℕ) (says : ℕ → Order) (order : Order) (text : List ℕ) → behind word line ≡ Some text → option_map says (number text) ≡ Some order → (n : ℕ) × IsCountOf word line n × (says n ≡ order)
count_line word line says order text at is =
    let parts = option_map_some says (number text) order is in
    (parts.0, record { text = text; whole = behind_is word line text at; number = parts.1 }, parts.2)

where_line : (line : List ℕ) (order : Order) → where_of line ≡ Some order → IsLineOf line order
where_line line order is =
    let parts = if_some (bytes_eq line (codes "where")) Where order is in
    subst (IsLineOf line) parts.1 ((bytes_eq-Decides line (codes "where")).0 parts.0)

show_line : (line : List ℕ) (order : Order) → show_of line ≡ Some order → IsLineOf line order
show_line line order is =
    elim (said_case (behind (codes "show ") line) range_of (where_of line) order is) [
      | inr other ↦ where_line line order other
      | inl said ↦
          let parts = range_is said.0 order said.2 in
          subst (IsLineOf line) parts.3 (said.0, behind_is (codes "show ") line said.0 said.1, parts.2)
    ]

back_line : (line : List ℕ) (order : Order) → back_of line ≡ Some order → IsLineOf line order
back_line line order is =
    elim (said_case (behind (codes "back ") line) (λ text. option_map Back (number text)) (show_of line) order is) [
      | inr other ↦ show_line line order other
      | inl said ↦
          let parts = count_line (codes "back ") line Back order said.0 said.1 said.2 in
          subst (IsLineOf line) parts.2 parts.1
    ]

pub order_line : (line : List ℕ) (order : Order) → order_of line ≡ Some order → IsLineOf line order
order_line line order is =
    elim (said_case (behind (codes "step ") line) (λ text. option_map Step (number text)) (back_of line) order is) [
      | inr other ↦ back_line line order other
      | inl said ↦
          let parts = count_line (codes "step ") line Step order said.0 said.1 said.2 in
          subst (IsLineOf line) parts.2 parts.1
    ]

-- from the line to the order

pub line_order : (line : List ℕ) (order : Order) → IsLineOf line order → order_of line ≡ Some order
line_order line (Step count) x =
    ap order_of x.whole
    ∙ ap (λ o. said_by o (λ text. option_map Step (number text)) (back_of (codes "step " ++ x.text))) (behind_there (codes "step ") x.text)
    ∙ ap (option_map Step) x.number
line_order line (Back count) x =
    let other : behind (codes "step ") (codes "back " ++ x.text) ≡ None = refl in
    ap order_of x.whole
    ∙ ap (λ o. said_by o (λ text. option_map Step (number text)) (back_of (codes "back " ++ x.text))) other
    ∙ ap (λ o. said_by o (λ text. option_map Back (number text)) (show_of (codes "back " ++ x.text))) (behind_there (codes "back ") x.text)
    ∙ ap (option_map Back) x.number
line_order line (Show lo hi) x =
    let first : behind (codes "step ") (codes "show " ++ x.0) ≡ None = refl in
    let second : behind (codes "back ") (codes "show " ++ x.0) ≡ None = refl in
    ap order_of x.1
    ∙ ap (λ o. said_by o (λ text. option_map Step (number text)) (back_of (codes "show " ++ x.0))) first
    ∙ ap (λ o. said_by o (λ text. option_map Back (number text)) (show_of (codes "show " ++ x.0))) second
    ∙ ap (λ o. said_by o range_of (where_of (codes "show " ++ x.0))) (behind_there (codes "show ") x.0)
    ∙ range_there x.0 lo hi x.2
line_order line Where x = ap order_of x
