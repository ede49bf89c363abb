-- What stands at the front of a text, and how many of its bytes that takes.
use Rattle.std.specs.Prelude.{◌≡◌, ℕ, ◌+◌, ◌-◌, ◌*◌, ◌^◌, ◌==◌, if◌then◌else◌, Bool, false, Option, Some, None, List, [], ◌∷◌, drop, nat_lt}
use Rattle.std.specs.Option.{option_map, option_and_then}
use Rattle.fuun_base.specs.declared.letters.Base.{Base}
use Rattle.fuun_base.specs.Decimals.{is_digit}
use Rattle.fuun_base.specs.Letter.{base_of}
use Rattle.dna_items.specs.declared.items.PatItem.{PatItem}
use Rattle.dna_items.specs.declared.items.PatItem.TheVariants.{Base as Literal, Skip, Search, GroupStart, GroupStop}
use Rattle.dna_items.specs.declared.items.TplItem.{TplItem}
use Rattle.dna_items.specs.declared.items.TplItem.TheVariants.{Base as TplLiteral, Group, Len}

-- a number with a digit behind it, where it stays below 2^63
abbrev pub with_digit : ℕ → ℕ → Option ℕ
with_digit n byte = let more = n * 10 + (byte - 48) in if nat_lt more (2 ^ 63) then Some more else None

-- the number of which n is read already, in so many bytes, to its last digit
unfoldable pub digits_ahead : ℕ → ℕ → List ℕ → Option (ℕ × ℕ)
digits_ahead n count [] = Some (n, count)
digits_ahead n count (byte ∷ bytes) =
    if is_digit byte then option_and_then (λ more. digits_ahead more (count + 1) bytes) (with_digit n byte) else Some (n, count)

-- a number: a 0 stands alone
unfoldable pub number_ahead : List ℕ → Option (ℕ × ℕ)
number_ahead [] = None
number_ahead (byte ∷ bytes) = if byte == 48 then Some (0, 1) else if is_digit byte then digits_ahead (byte - 48) 1 bytes else None

-- some byte stands at the front
abbrev pub stands : ℕ → List ℕ → Bool
stands end [] = false
stands end (byte ∷ bytes) = byte == end

-- a number and the byte that ends it
unfoldable pub ended_ahead : ℕ → List ℕ → Option (ℕ × ℕ)
ended_ahead end bytes = option_and_then (λ n. if stands end (drop n.1 bytes) then Some (n.0, n.1 + 1) else None) (number_ahead bytes)

-- the letters of a search, and its end
unfoldable pub letters_ahead : List ℕ → Option (List Base × ℕ)
letters_ahead [] = None
letters_ahead (byte ∷ bytes) =
    if byte == 62 then Some ([], 1)
    else option_and_then (λ base. option_map (λ s. (base ∷ s.0, s.1 + 1)) (letters_ahead bytes)) (base_of byte)

-- an item of a pattern
unfoldable pub pattern_item_ahead : List ℕ → Option (PatItem × ℕ)
pattern_item_ahead [] = None
pattern_item_ahead (byte ∷ bytes) =
    if byte == 33 then option_map (λ n. (Skip n.0, n.1 + 1)) (number_ahead bytes)
    else if byte == 60 then option_map (λ s. (Search s.0, s.1 + 1)) (letters_ahead bytes)
    else if byte == 40 then Some (GroupStart, 1)
    else if byte == 41 then Some (GroupStop, 1)
    else option_map (λ base. (Literal base, 1)) (base_of byte)

-- a group and its level, behind the brace
unfoldable pub group_ahead : List ℕ → Option (TplItem × ℕ)
group_ahead bytes =
    option_and_then (λ n. option_map (λ level. (Group n.0 level.0, n.1 + level.1 + 1)) (ended_ahead 125 (drop n.1 bytes))) (ended_ahead 44 bytes)

-- an item of a template
unfoldable pub template_item_ahead : List ℕ → Option (TplItem × ℕ)
template_item_ahead [] = None
template_item_ahead (byte ∷ bytes) =
    if byte == 123 then group_ahead bytes
    else if byte == 124 then option_map (λ n. (Len n.0, n.1 + 1)) (ended_ahead 124 bytes)
    else option_map (λ base. (TplLiteral base, 1)) (base_of byte)

-- one behind the other until nothing more stands there, and what is left
abbrev pub Runs : {X : Type 0} → (List ℕ → Option (X × ℕ)) → List ℕ → List X → List ℕ → Type 0
Runs ahead bytes [] rest = (ahead bytes ≡ None) × (bytes ≡ rest)
Runs {X} ahead bytes (x ∷ xs) rest = (len : ℕ) × (ahead bytes ≡ Some (x, len)) × Runs ahead (drop len bytes) xs rest
