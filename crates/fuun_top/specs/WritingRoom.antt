-- What each function that writes promises.
use Rattle.std.specs.Prelude.{◌≡◌, ◌⊎◌, ℕ, false, Option, Result, Ok, Err, List}
use Rattle.fuun_base.specs.declared.letters.Base.{Base}
use Rattle.fuun_io.specs.Counts.{Rose}
use Rattle.fuun_io.specs.Written.{appended, PutsFront}
use Rattle.exec_loop.specs.declared.machine.RunEnd.{RunEnd}
use Rattle.exec_loop.specs.Run.{Run, IsRun}
use Rattle.painter.specs.Picture.{Picture, Builds, start}
use Rattle.rna_code.specs.declared.profile.Profile.{Profile}
use Rattle.rna_code.specs.Commands.{act_of}
use Rattle.fuun_top.specs.declared.status.Status.{Status}
use Rattle.fuun_top.specs.declared.status.Status.TheVariants.{Done, WriteFault, NoMemory}
use Rattle.fuun_top.specs.Output.{Output, IsPictureOf, status_by}
use Rattle.fuun_top.specs.Bench.{summary_of}
use Rattle.workload.specs.declared.summary.Summary.{Summary}
use Rattle.listing.specs.declared.pairs.ListError.{ListError}
use Rattle.rewinder.specs.declared.orders.RewindError.{RewindError}
use Rattle.rewinder.specs.declared.orders.RewindError.TheVariants as rewind
use Rattle.listing.specs.declared.pairs.ListError.TheVariants as listing

-- an output of this kind was written whole, or cut off after a front of it by a fault or for want of memory, or there was no
-- memory to begin it; with the sink's bytes and count of faults before and after
pub data Wrote (Is : Output → Type 0) (result : Status) (old new : Option (List ℕ)) (faults_old faults_new : ℕ) : Type 0 where
  Whole : (output : Output) → Is output → result ≡ output.status → new ≡ appended old output.bytes → faults_new ≡ faults_old → Wrote Is result old new faults_old faults_new
  CutOff : (output : Output) → Is output → result ≡ WriteFault → PutsFront old new output.bytes → Rose faults_old faults_new → Wrote Is result old new faults_old faults_new
  SpentRoom : (output : Output) → Is output → result ≡ NoMemory → PutsFront old new output.bytes → faults_new ≡ faults_old → Wrote Is result old new faults_old faults_new
  NoRoom : result ≡ NoMemory → new ≡ old → faults_new ≡ faults_old → Wrote Is result old new faults_old faults_new

-- a value or a refusal is one that is made so, or memory was wanted
abbrev pub Makes : {A : Type 0} → (Result A Status → Type 0) → Result A Status → Type 0
Makes Is result = Is result ⊎ (result ≡ Err NoMemory)

-- the run of a DNA had this end, and its RNA builds this picture
pub record DrewRun (side most : ℕ) (profile : Profile) (dna : List Base) (budget limit : ℕ) (end : RunEnd) (picture : Picture) : Type 0 where
  pub run : Run
  pub is : IsRun dna budget limit run
  pub ends : run.end ≡ end
  pub builds : Builds side most (act_of profile) run.rna (start side) picture

-- the picture of the RNA of a DNA's run, on bitmaps of this side
pub record IsImageOf (side most : ℕ) (profile : Profile) (dna : List Base) (budget limit : ℕ) (output : Output) : Type 0 where
  pub run : Run
  pub is : IsRun dna budget limit run
  pub writes : IsPictureOf side most profile run.rna (status_by false run.end) output

-- this is told of the run of a DNA
pub record Sums (dna : List Base) (budget limit : ℕ) (summary : Summary) : Type 0 where
  pub run : Run
  pub is : IsRun dna budget limit run
  pub tells : summary ≡ summary_of run

-- the status that comes with what was written
abbrev pub status_after : {T E : Type 0} → Result T E → Status → Status
status_after (Ok value) status = status
status_after (Err error) status = WriteFault

-- the status that a traced run leaves
abbrev pub status_traced : Result RunEnd ListError → Status
status_traced (Ok end) = status_by false end
status_traced (Err listing.WriteFault) = WriteFault
status_traced (Err listing.NoMemory) = NoMemory

-- the status that a listing leaves
abbrev pub status_listed : {T : Type 0} → Result T ListError → Status
status_listed (Ok value) = Done
status_listed (Err listing.WriteFault) = WriteFault
status_listed (Err listing.NoMemory) = NoMemory

-- the status that the orders of a script leave
abbrev pub status_rewound : {T : Type 0} → Result T RewindError → Status
status_rewound (Ok value) = Done
status_rewound (Err rewind.WriteFault) = WriteFault
status_rewound (Err rewind.NoMemory) = NoMemory
