-- A window on a strand: a place, and some of the bases that stand there.
use Rattle.std.specs.Prelude.{◌≡◌, ◌+◌, ◌-◌, ◌≤◌, List, ◌++◌, length, take, drop}
use Rattle.fuun_base.specs.declared.letters.Base.{Base}
use Rattle.dna_reader.specs.View.{View}
use Rattle.dna_reader.specs.declared.window.Window.TheInside.{Inside}

-- the bases between the two ends are ahead
abbrev pub viewed : Inside → View
viewed a = record { place = a.place; len = a.len; ahead = take (a.to - a.from) (drop a.from a.bases) }

-- the ends lie in the buffer, and what is ahead lies in the strand
pub record IsInOrder (a : Inside) : Type 0 where
  pub room : length a.bases ≡ 256
  pub order : a.from ≤ a.to
  pub within : a.to ≤ 256
  pub fits : a.place + (a.to - a.from) ≤ a.len

-- the window stands on d
pub record Shows (w : View) (d : List Base) : Type 0 where
  pub len : w.len ≡ length d
  pub ahead : drop w.place d ≡ w.ahead ++ drop (w.place + length w.ahead) d
  pub within : w.place + length w.ahead ≤ length d
