-- Lemmas on what texts leave on a sink.
use Rattle.std.proofs.Common.{◌≡◌, ℕ, suc, ◌+◌, ◌-◌, ◌<◌, List, [], ◌++◌, length, get_or, take, drop, flat_map, Bor, Option, None, Some, IfSome, refl, sym, ap, ◌∙◌, append_assoc, append-nil, take-append-drop, drop-cons}
use Rattle.std.proofs.Math.Seq.{take-add}
use Rattle.std.proofs.lemmas.List.{take_rest}
use Rattle.std.proofs.lemmas.List.Concat.{flat_map-cons}
use Rattle.std.proofs.lemmas.Grind.{flat_map-append}
use Rattle.fuun_io.specs.Written.{appended, PutsFront}

-- a text put in two parts
pub appended-appended : (told : Option (List ℕ)) (first second : List ℕ) → appended (appended told first) second ≡ appended told (first ++ second)
appended-appended None first second = refl
appended-appended (Some before) first second = ap Some (append_assoc before first second)

pub appended-nil : (told : Option (List ℕ)) → appended told [] ≡ told
appended-nil None = refl
appended-nil (Some before) = ap Some (append-nil before)

-- so many bytes more of one text
pub appended-take_more : (told : Option (List ℕ)) (done count : ℕ) (bytes : List ℕ) → appended (appended told (take done bytes)) (take count (drop done bytes)) ≡ appended told (take (done + count) bytes)
appended-take_more told done count bytes = appended-appended told _ _ ∙ ap (appended told) (sym (take-add done count bytes))

-- so many bytes of the rest of a text, behind a front of it
pub appended-rest : (old mid new : Option (List ℕ)) (done count : ℕ) (bytes : List ℕ) → mid ≡ appended old (take done bytes)
    → new ≡ appended mid (take count (take (length bytes - done) (drop done bytes))) → new ≡ appended old (take (done + count) bytes)
appended-rest old mid new done count bytes front more =
    more ∙ ap (λ l. appended mid (take count l)) (take_rest bytes done) ∙ ap (λ told. appended told (take count (drop done bytes))) front ∙ appended-take_more old done count bytes

-- nothing was put
pub PutsFront-none : (told : Option (List ℕ)) (bytes : List ℕ) → PutsFront told told bytes
PutsFront-none told bytes = record { front = []; rest = bytes; whole = refl; put = sym (appended-nil told) }

-- nothing was put of a text that may be known
pub PutsFront-none_of : {A : Type 0} (known : Option A) (text : A → List ℕ) (told : Option (List ℕ)) → IfSome known (λ a. PutsFront told told (text a))
PutsFront-none_of None text told = tt
PutsFront-none_of (Some a) text told = PutsFront-none told (text a)

-- all was put
pub PutsFront-all : (old new : Option (List ℕ)) (bytes : List ℕ) → new ≡ appended old bytes → PutsFront old new bytes
PutsFront-all old new bytes put = record { front = bytes; rest = []; whole = sym (append-nil bytes); put = put }

-- the first bytes were put
pub PutsFront-take : (old new : Option (List ℕ)) (count : ℕ) (bytes : List ℕ) → new ≡ appended old (take count bytes) → PutsFront old new bytes
PutsFront-take old new count bytes put = record { front = take count bytes; rest = drop count bytes; whole = sym (take-append-drop count bytes); put = put }

-- a front of a text is a front of a longer one
pub PutsFront-longer : (old new : Option (List ℕ)) (bytes more : List ℕ) → PutsFront old new bytes → PutsFront old new (bytes ++ more)
PutsFront-longer old new bytes more p =
    record { front = p.front; rest = p.rest ++ more; whole = ap (λ l. l ++ more) p.whole ∙ append_assoc p.front p.rest more; put = p.put }

-- a front of a second text, behind a first that was put whole
pub PutsFront-behind : (old mid new : Option (List ℕ)) (first second : List ℕ) → mid ≡ appended old first → PutsFront mid new second → PutsFront old new (first ++ second)
PutsFront-behind old mid new first second put p =
    record { front = first ++ p.front; rest = p.rest; whole = ap (λ l. first ++ l) p.whole ∙ sym (append_assoc first p.front p.rest); put = p.put ∙ ap (λ told. appended told p.front) put ∙ appended-appended old first p.front }

-- the pieces joined are those in front of one, that one, and those behind it
flat_map-at : (pieces : List (Bor (List ℕ))) (i : ℕ) (d : Bor (List ℕ)) → i < length pieces
    → flat_map (λ p. p.now) pieces ≡ flat_map (λ p. p.now) (take i pieces) ++ ((get_or pieces i d).now ++ flat_map (λ p. p.now) (drop (suc i) pieces))
flat_map-at pieces i d lt =
    ap (flat_map (λ p. p.now)) (sym (take-append-drop i pieces)) ∙ flat_map-append (λ p. p.now) (take i pieces) (drop i pieces)
    ∙ ap (λ l. flat_map (λ p. p.now) (take i pieces) ++ l) (ap (flat_map (λ p. p.now)) (drop-cons pieces i d lt) ∙ flat_map-cons (λ p. p.now) (get_or pieces i d) (drop (suc i) pieces))

-- a front of one piece, behind the pieces in front of it
pub PutsFront-at_piece : (old mid new : Option (List ℕ)) (pieces : List (Bor (List ℕ))) (i : ℕ) (d : Bor (List ℕ)) → i < length pieces
    → mid ≡ appended old (flat_map (λ p. p.now) (take i pieces)) → PutsFront mid new (get_or pieces i d).now → PutsFront old new (flat_map (λ p. p.now) pieces)
PutsFront-at_piece old mid new pieces i d lt put p =
    let q = PutsFront-behind old mid new (flat_map (λ p. p.now) (take i pieces)) _ put (PutsFront-longer mid new _ (flat_map (λ p. p.now) (drop (suc i) pieces)) p) in
    record { front = q.front; rest = q.rest; whole = flat_map-at pieces i d lt ∙ q.whole; put = q.put }
