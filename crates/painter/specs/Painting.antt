-- What is seen of a painter, and what it makes of commands.
use Rattle.std.specs.Prelude.{◌≡◌, ℕ, ◌+◌, List, ◌++◌, length}
use Rattle.fuun_base.specs.declared.letters.Base.{Base}
use Rattle.rna_code.specs.declared.profile.Profile.{Profile}
use Rattle.rna_code.specs.Commands.{act_of}
use Rattle.painter.specs.Picture.{Picture, Builds}

-- the profile, the picture, and how many commands were taken
pub record Painting : Type 0 where
  pub profile : Profile
  pub picture : Picture
  pub taken : ℕ

-- commands were painted, one after another, in the profile that stays
pub record Paints (side most : ℕ) (old : Painting) (commands : List (List Base)) (new : Painting) : Type 0 where
  pub profile : new.profile ≡ old.profile
  pub builds : Builds side most (act_of old.profile) commands old.picture new.picture
  pub counted : new.taken ≡ old.taken + length commands

-- a front of some commands was painted
pub record PaintsFront (side most : ℕ) (old : Painting) (commands : List (List Base)) (new : Painting) : Type 0 where
  pub front : List (List Base)
  pub rest : List (List Base)
  pub is : commands ≡ front ++ rest
  pub paints : Paints side most old front new

-- a painter has no faults
abbrev pub faults_of : Painting → ℕ
faults_of painting = 0
