-- What the calls on cells answer.
use Rattle.std.specs.Prelude.{◌≡◌, ◌≢◌, ℕ, ◌≤◌, List, ◌∷◌, All, length}
use Rattle.fuun_base.specs.declared.letters.Base.{Base}
use Rattle.dna_items.specs.declared.items.PatItem.{PatItem}
use Rattle.matcher.specs.Match.{last_place}
use Rattle.matcher.specs.Groups.{AreGroups}
use Rattle.matcher.specs.Found.{LiesWithin}
use Rattle.sym_strand.specs.declared.cells.Cell.{Cell}
use Rattle.sym_strand.specs.declared.cells.Cell.TheVariants as cell
use Rattle.explainer.specs.Windows.{IsSure, IsOut, IsUnsure}
use Rattle.explainer.specs.Leading as ways
use Rattle.explainer.specs.Leading.{Leads, LeadAlong, FailAlong, DependAlong}
use Rattle.explainer.specs.declared.searching.Window.{Window}
use Rattle.explainer.specs.declared.searching.Window.TheVariants.{Sure, Out, Unsure}
use Rattle.explainer.specs.declared.searching.Fit.{Fit}
use Rattle.explainer.specs.declared.searching.Fit.TheVariants.{Same, Other, Hole}
use Rattle.explainer.specs.declared.passing.Passing.{Passing}
use Rattle.explainer.specs.declared.passing.Passing.TheVariants.{To, Fails, Depends}
use Rattle.explainer.specs.declared.matching.CellMatch.{CellMatch}
use Rattle.explainer.specs.declared.matching.CellMatch.TheVariants as found

-- how a cell fits a base
abbrev pub FitsSo : Cell → Base → Fit → Type 0
FitsSo c b Same = c ≡ cell.Known b
FitsSo c b Other = (seen : Base) × (c ≡ cell.Known seen) × (seen ≢ b)
FitsSo c b Hole = (place : ℕ) × (c ≡ cell.Target place)

-- how a list of bases stands at a place of cells
abbrev pub StandsSo : List Base → List Cell → ℕ → Window → Type 0
StandsSo s z place Sure = IsSure s z place
StandsSo s z place (Out at) = (out : IsOut s z place) × (out.at ≡ at)
StandsSo s z place Unsure = IsUnsure s z place

-- what an item does at a place of cells
abbrev pub PassesSo : List Cell → PatItem → ℕ → Passing → Type 0
PassesSo z item i (To j) = Leads z item i j
PassesSo z item i Fails = ways.Fails z item i
PassesSo z item i Depends = ways.Depends z item i

-- the items lead to a stop, with groups at these ranges
pub record LeadTo (z : List Cell) (items : List PatItem) (stop : ℕ) (groups : List (ℕ × ℕ)) : Type 0 where
  pub places : List ℕ
  pub leads : LeadAlong z items 0 places
  pub stops : stop ≡ last_place (0 ∷ places)
  pub grouped : AreGroups items (0 ∷ places) groups
  pub stop_within : stop ≤ length z
  pub groups_within : All (LiesWithin (length z)) groups

-- how items go through cells
abbrev pub MatchesSo : List Cell → List PatItem → CellMatch → Type 0
MatchesSo z items (found.Matched stop groups) = LeadTo z items stop groups
MatchesSo z items found.NoMatch = FailAlong z items 0
MatchesSo z items found.Depends = DependAlong z items 0
