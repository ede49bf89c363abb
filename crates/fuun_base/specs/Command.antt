-- A command of RNA, kept in seven places of which the last are unused.
use Rattle.std.specs.Prelude.{◌≡◌, ◌-◌, ◌≤◌, List, ◌++◌, length, take, drop, replicate}
use Rattle.fuun_base.specs.declared.letters.Base.{Base}
use Rattle.fuun_base.specs.declared.letters.Base.TheVariants.{I}
use Rattle.fuun_base.specs.declared.commands.Command.TheInside.{Inside}

-- the bases in use
abbrev pub used : Inside → List Base
used a = take a.len a.bases

-- at most seven are in use, and the rest holds the base I
pub record IsPadded (a : Inside) : Type 0 where
  pub places : length a.bases ≡ 7
  pub room : a.len ≤ 7
  pub unused : drop a.len a.bases ≡ replicate (7 - a.len) I

-- the seven places that stand for a list of at most seven bases
abbrev pub padded : List Base → Inside
padded d = record { bases = d ++ replicate (7 - length d) I; len = length d }
