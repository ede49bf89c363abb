-- What a conversation leaves: the bytes that were given, and the answers to their lines.
use Rattle.std.specs.Prelude.{◌≡◌, ℕ, ◌≤◌, List, Option, IfSome, length, take}
use Rattle.fuun_base.specs.Lines.{lines}
use Rattle.fuun_io.specs.Counts.{raised}
use Rattle.conversation.specs.Cut.{joined, NoFeed, NoFeeds}
use Rattle.conversation.specs.Answering.{AreAnswered, AreBrokenOff}

-- these bytes were given, at most so many: where the contents are told, the first of them
pub record AreGiven (contents : Option (List ℕ)) (cap old new : ℕ) (bytes : List ℕ) : Type 0 where
  pub within : length bytes ≤ cap
  pub first : IfSome contents (λ all. bytes ≡ take (length bytes) all)
  pub given : new ≡ raised old (length bytes)

-- of the bytes those before what is left are whole lines, and these were answered
pub record Waits {A : Type 0} (says : A → List ℕ → A → List ℕ → Type 0) (old : A) (bytes left : List ℕ) (new : A) (told now : Option (List ℕ)) : Type 0 where
  pub done : List (List ℕ)
  pub cut : bytes ≡ joined done left
  pub ended : NoFeeds done
  pub answered : AreAnswered says old done new told now

-- the file was given as far as it may be, and all its lines were answered
pub record HasTalked {A : Type 0} (says : A → List ℕ → A → List ℕ → Type 0) (contents : Option (List ℕ)) (cap old_count new_count : ℕ) (old new : A) (told now : Option (List ℕ)) : Type 0 where
  pub bytes : List ℕ
  pub given : AreGiven contents cap old_count new_count bytes
  pub whole : IfSome contents (λ all. bytes ≡ take cap all)
  pub answered : AreAnswered says old (lines bytes) new told now

-- exactly those lines that a line feed ends in the bytes given were answered
pub record HasWaited {A : Type 0} (says : A → List ℕ → A → List ℕ → Type 0) (contents : Option (List ℕ)) (cap old_count new_count : ℕ) (old new : A) (told now : Option (List ℕ)) : Type 0 where
  pub bytes : List ℕ
  pub given : AreGiven contents cap old_count new_count bytes
  pub left : List ℕ
  pub unended : NoFeed left
  pub waits : Waits says old bytes left new told now

-- the answers to the lines of the bytes given broke off
pub record HasBrokenOff {A : Type 0} (says : A → List ℕ → A → List ℕ → Type 0) (contents : Option (List ℕ)) (cap old_count new_count : ℕ) (old : A) (told now : Option (List ℕ)) : Type 0 where
  pub bytes : List ℕ
  pub given : AreGiven contents cap old_count new_count bytes
  pub broken : AreBrokenOff says old (lines bytes) told now
