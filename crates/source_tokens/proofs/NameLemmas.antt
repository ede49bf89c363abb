-- Names among those that were met.
use Rattle.std.proofs.Common.{◌≡◌, ℕ, ◌+◌, inl, inr, Bool, true, false, List, [], ◌∷◌, ◌++◌, refl, ap, ◌∙◌, map}
use Rattle.std.specs.Prelude.{if◌then◌else◌}
use Rattle.std.specs.List.{list_any, position_or_len}
use Rattle.std.specs.Str.{bytes_eq}
use Rattle.std.proofs.lemmas.Bool.{cases_Bool}
use Rattle.std.proofs.lemmas.List.{map-append}
use Rattle.source_tokens.specs.Names.{name_id, with_name}

module _ {X : Type 0} (text_of : X → List ℕ) where
  place_of_texts : (name : List ℕ) (keys : List X) → position_or_len (λ key. bytes_eq name (text_of key)) keys ≡ position_or_len (bytes_eq name) (map text_of keys)
  place_of_texts name [] = refl
  place_of_texts name (key ∷ keys) =
      elim (cases_Bool (bytes_eq name (text_of key))) [
        | inl is ↦ rw is refl
        | inr other ↦ rw other (ap (λ n. 1 + n) (place_of_texts name keys))
      ]

  any_of_texts : (name : List ℕ) (keys : List X) → list_any (λ key. bytes_eq name (text_of key)) keys ≡ list_any (bytes_eq name) (map text_of keys)
  any_of_texts name [] = refl
  any_of_texts name (key ∷ keys) =
      elim (cases_Bool (bytes_eq name (text_of key))) [
        | inl is ↦ rw is refl
        | inr other ↦ rw other (any_of_texts name keys)
      ]

  pub id_of : (name word : List ℕ) (keys : List X) (met : List (List ℕ)) → name ≡ word → map text_of keys ≡ met
      → position_or_len (λ key. bytes_eq name (text_of key)) keys ≡ name_id met word
  id_of name word keys met same seen = place_of_texts name keys ∙ ap (λ m. position_or_len (bytes_eq name) m) seen ∙ ap (λ n. name_id met n) same

  added_by : (name : List ℕ) (keys : List X) (key : X) (found : Bool) → text_of key ≡ name
      → map text_of (if found then keys else keys ++ key ∷ []) ≡ (if found then map text_of keys else map text_of keys ++ name ∷ [])
  added_by name keys key true same = refl
  added_by name keys key false same = map-append text_of keys (key ∷ []) ∙ ap (λ n. map text_of keys ++ n ∷ []) same

  pub met_with : (word : List ℕ) (keys now : List X) (key : X) (met : List (List ℕ)) → text_of key ≡ word → map text_of keys ≡ met
      → now ≡ (if list_any (λ other. bytes_eq (text_of key) (text_of other)) keys then keys else keys ++ key ∷ [])
      → map text_of now ≡ with_name met word
  met_with word keys now key met same seen added =
      ap (map text_of) added
      ∙ added_by word keys key (list_any (λ other. bytes_eq (text_of key) (text_of other)) keys) same
      ∙ ap (λ found. if found then map text_of keys else map text_of keys ++ word ∷ []) (any_of_texts (text_of key) keys)
      ∙ ap (λ n. if list_any (bytes_eq n) (map text_of keys) then map text_of keys else map text_of keys ++ word ∷ []) same
      ∙ ap (λ m. with_name m word) seen
