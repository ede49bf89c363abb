-- The keys of a table, member by member.
use Rattle.std.proofs.Common.{◌≡◌, ℕ, true, false, List, ◌∷◌, string_bytes, refl}
use Rattle.toml.specs.View.{members_view}
use Rattle.toml.proofs.Views.{Entry}
use Rattle.patch_text.specs.Meaning.{is_among, has_only}

pub has_only_not : (keys : List (List ℕ)) (e : Entry) (rest : List Entry) → is_among keys (string_bytes e.0) ≡ false → has_only keys (members_view (e ∷ rest)) ≡ false
has_only_not keys e rest other = rw other refl

pub has_only_more : (keys : List (List ℕ)) (e : Entry) (rest : List Entry) → is_among keys (string_bytes e.0) ≡ true → has_only keys (members_view (e ∷ rest)) ≡ has_only keys (members_view rest)
has_only_more keys e rest one = rw one refl
