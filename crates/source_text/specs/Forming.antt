-- Forms as they are kept.
use Rattle.std.specs.Prelude.{◌≡◌, ℕ, None, Result, Ok, Err, List, []}
use Rattle.source_text.specs.declared.faults.Faults.{Faults}
use Rattle.source_text.specs.declared.forms.Define.{Define as DefineFound}
use Rattle.source_text.specs.declared.forms.FormFound.{FormFound}
use Rattle.source_text.specs.declared.forms.FormFound.TheVariants as found
use Rattle.source_text.specs.declared.forms.Pair.{Pair as PairFound}
use Rattle.source_text.specs.declared.forms.Spot.{Spot}
use Rattle.source_text.specs.declared.names.Known.{Known}
use Rattle.source_text.specs.declared.parts.Found.{Found}
use Rattle.source_text.specs.Forms.{Form, Data, Define, Mark, Pair, form_of, with_parameters}
use Rattle.source_text.specs.Judging.{define_faults, known_faults}
use Rattle.source_text.specs.Keeping.{AreKnown, IsWorth}
use Rattle.source_text.specs.Names.{Names}
use Rattle.source_text.specs.Reading.{Read}
use Rattle.source_text.specs.Sequences.{Worth}

abbrev pub made_mark : Result Spot ℕ → Result Form ℕ
made_mark (Ok name) = Ok (Mark name)
made_mark (Err left) = Err left

abbrev pub IsData : ℕ → Result Found ℕ → Result Form ℕ → Type 0
IsData limit (Ok found) form = (worth : Worth) × (form ≡ Ok (Data worth)) × IsWorth limit found worth
IsData limit (Err left) form = form ≡ Err left

-- what a pair is worth
pub record IsPairWorth (limit : ℕ) (pair : PairFound) (form : Result Form ℕ) : Type 0 where
  pub pattern : Worth
  pub template : Worth
  pub is : form ≡ Ok (Pair pattern pair.arrow template)
  pub first : IsWorth limit pair.pattern pattern
  pub second : IsWorth limit pair.template template

abbrev pub IsPair : ℕ → Result PairFound ℕ → Result Form ℕ → Type 0
IsPair limit (Ok pair) form = IsPairWorth limit pair form
IsPair limit (Err left) form = form ≡ Err left

-- a sequence is all that there is, whatever form is made of it
abbrev pub IsWhole : ℕ → Result Found ℕ → Read Worth → Type 0
IsWhole limit (Ok found) read = (worth : Worth) × (read ≡ Ok (worth, [])) × IsWorth limit found worth
IsWhole limit (Err left) read = (make : Worth → Form) → form_of make read ≡ Err left

-- names with parameters are kept, and of these the first is told that was known before
pub record AreParameters (limit : ℕ) (names : Names) (parameters : List Spot) (known : List Known) (faults : Faults) : Type 0 where
  pub are : AreKnown limit known (with_parameters 0 names parameters)
  pub told : faults ≡ known_faults names parameters

-- what a definition is worth, where names stand for this before it
pub record IsDefineWorth (limit : ℕ) (names : Names) (define : DefineFound) (form : Result Form ℕ) : Type 0 where
  pub template : Worth
  pub is : form ≡ Ok (Define define.head.name define.head.parameters template)
  pub held : IsWorth limit define.template template
  pub known : define.known ≡ define_faults names define.head.name define.head.parameters

abbrev pub IsDefine : ℕ → Names → Result DefineFound ℕ → Result Form ℕ → Type 0
IsDefine limit names (Ok define) form = IsDefineWorth limit names define form
IsDefine limit names (Err left) form = form ≡ Err left

-- a statement's form, as it is kept
abbrev pub IsForm : ℕ → Names → Result FormFound ℕ → Result Form ℕ → Type 0
IsForm limit names (Ok (found.Pair pair)) form = IsPairWorth limit pair form
IsForm limit names (Ok (found.Define define)) form = IsDefineWorth limit names define form
IsForm limit names (Ok (found.Data bases)) form = IsData limit (Ok bases) form
IsForm limit names (Ok (found.Mark name)) form = form ≡ Ok (Mark name)
IsForm limit names (Err left) form = form ≡ Err left

-- a form leaves what is known of names as it was: a definition where its names serve
abbrev pub LeavesNames : FormFound → Type 0
LeavesNames (found.Pair pair) = Unit {0}
LeavesNames (found.Define define) = define.known.name ≡ None
LeavesNames (found.Data bases) = Unit {0}
LeavesNames (found.Mark name) = Unit {0}
