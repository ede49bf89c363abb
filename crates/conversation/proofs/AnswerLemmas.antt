-- Lemmas on answers.
use Rattle.std.proofs.Common.{ℕ, List, [], ◌∷◌, ◌++◌, Option, refl, sym, ap, ◌∙◌, append_assoc, subst}
use Rattle.std.specs.Prelude.{Result, Ok, Err, OnErr}
use Rattle.fuun_io.specs.Written.{PutsFront}
use Rattle.fuun_io.proofs.WrittenLemmas.{appended-nil}
use Rattle.conversation.specs.Answering.{IsBrokenOff, AreBrokenOff, IsBegun, IsBegunOfFirst}

-- a fact that an error wants
pub on_err : {T E : Type 0} (r : Result T E) (P : Type 0) → P → OnErr r P
on_err (Ok x) P p = tt
on_err (Err e) P p = p

-- an answer that broke off, as that to the only line
pub one_broken : {A : Type 0} (says : A → List ℕ → A → List ℕ → Type 0) (old : A) (line : List ℕ) (told now : Option (List ℕ)) → IsBrokenOff says old line told now → AreBrokenOff says old (line ∷ []) told now
one_broken says old line told now b = record { done = []; later = line ∷ []; whole = refl; middle = old; text = []; answers = (refl, refl); front = b.front; begun = b.begun; put = b.put }

none_begun : {A : Type 0} (says : A → List ℕ → A → List ℕ → Type 0) (old : A) (lines : List (List ℕ)) → IsBegunOfFirst says old lines []
none_begun says old [] = refl
none_begun says old (line ∷ more) = tt

-- no answer was begun
pub none_answered : {A : Type 0} (says : A → List ℕ → A → List ℕ → Type 0) (old : A) (lines : List (List ℕ)) (told : Option (List ℕ)) → AreBrokenOff says old lines told told
none_answered says old lines told = record { done = []; later = lines; whole = refl; middle = old; text = []; answers = (refl, refl); front = []; begun = none_begun says old lines; put = sym (appended-nil told) }

-- the bytes that were begun, where more lines follow
begun_more : {A : Type 0} (says : A → List ℕ → A → List ℕ → Type 0) (old : A) (lines more : List (List ℕ)) (front : List ℕ) → IsBegunOfFirst says old lines front → IsBegunOfFirst says old (lines ++ more) front
begun_more says old [] more front b = subst (λ f. IsBegunOfFirst says old more f) (sym b) (none_begun says old more)
begun_more says old (line ∷ lines) more front b = b

-- answers that broke off, where more lines follow
pub broken_more : {A : Type 0} (says : A → List ℕ → A → List ℕ → Type 0) (old : A) (lines more : List (List ℕ)) (told now : Option (List ℕ)) → AreBrokenOff says old lines told now → AreBrokenOff says old (lines ++ more) told now
broken_more says old lines more told now b = record {
  done = b.done;
  later = b.later ++ more;
  whole = ap (λ l. l ++ more) b.whole ∙ append_assoc b.done b.later more;
  middle = b.middle;
  text = b.text;
  answers = b.answers;
  front = b.front;
  begun = begun_more says b.middle b.later more b.front b.begun;
  put = b.put;
}

front_begun : {A : Type 0} (says : A → List ℕ → A → List ℕ → Type 0) (old : A) (line : List ℕ) (new : A) (front rest : List ℕ) → says old line new (front ++ rest) → IsBegun says old line front
front_begun says old line new [] rest said = tt
front_begun says old line new (byte ∷ front) rest said = (new, (rest, said))

-- a front of an answer was put
pub front_put : {A : Type 0} (says : A → List ℕ → A → List ℕ → Type 0) (old : A) (line : List ℕ) (new : A) (text : List ℕ) (told now : Option (List ℕ)) → says old line new text → PutsFront told now text → IsBrokenOff says old line told now
front_put says old line new text told now said p = record { front = p.front; begun = front_begun says old line new p.front p.rest (subst (says old line new) p.whole said); put = p.put }
