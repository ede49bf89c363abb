-- Lemmas on a conversation as far as it has come.
use Rattle.std.proofs.Common.{◌≡◌, ℕ, ◌+◌, ◌≤◌, List, [], ◌++◌, length, take, Option, None, Some, IfSome, refl, sym, ap, subst, ◌∙◌, arith}
use Rattle.std.proofs.lemmas.List.{length-append, length-take-le, take_all, take-take, take-append-le}
use Rattle.fuun_base.specs.Lines.{lines}
use Rattle.fuun_io.specs.Counts.{raised}
use Rattle.fuun_io.specs.Files.{Gives}
use Rattle.fuun_io.specs.Written.{appended}
use Rattle.fuun_io.proofs.CountLemmas.{raised-raised, raised-zero}
use Rattle.fuun_io.proofs.ReadLemmas.{ReadSoFar-more, ReadSoFar-nil}
use Rattle.fuun_io.proofs.WrittenLemmas.{appended-appended, appended-nil}
use Rattle.conversation.specs.Cut.{joined, NoFeed}
use Rattle.conversation.specs.Answering.{AreAnswered, AreBrokenOff}
use Rattle.conversation.specs.Talking.{AreGiven, HasBrokenOff, HasTalked, Waits}
use Rattle.conversation.proofs.AnswerLemmas.{none_answered}
use Rattle.conversation.proofs.LineLemmas.{joined_behind, joined_joined, lines_joined}
use Rattle.conversation.proofs.BehindLemmas.{answers_behind, broken_waiting, frees_join}

-- the bytes before a place were given, and their whole lines answered
pub record TalkedSoFar {A : Type 0} (says : A → List ℕ → A → List ℕ → Type 0) (contents : Option (List ℕ)) (cap old_count new_count place : ℕ) (old new : A) (left : List ℕ) (told now : Option (List ℕ)) : Type 0 where
  pub bytes : List ℕ
  pub given : AreGiven contents cap old_count new_count bytes
  pub here : place ≡ length bytes
  pub unended : NoFeed left
  pub waits : Waits says old bytes left new told now

none_given : (contents : Option (List ℕ)) (cap count : ℕ) → AreGiven contents cap count count []
none_given contents cap count = record { within = omega arith; first = ReadSoFar-nil contents; given = sym (raised-zero count) }

none_waits : {A : Type 0} (says : A → List ℕ → A → List ℕ → Type 0) (old : A) (told : Option (List ℕ)) → Waits says old [] [] old told told
none_waits says old told = record { done = []; cut = refl; ended = tt; answered = record { text = []; answers = (refl, refl); put = sym (appended-nil told) } }

-- nothing was read
pub talked_none : {A : Type 0} (says : A → List ℕ → A → List ℕ → Type 0) (contents : Option (List ℕ)) (cap count : ℕ) (old : A) (told : Option (List ℕ)) → TalkedSoFar says contents cap count count 0 old old [] told told
talked_none says contents cap count old told = record { bytes = []; given = none_given contents cap count; here = refl; unended = tt; waits = none_waits says old told }

-- the front of a buffer, seen through the vector that holds it
pub front_seen : (count room : ℕ) (seen buffer rest : List ℕ) → count ≤ length buffer → count ≤ room → seen ≡ take room (buffer ++ rest) → take count seen ≡ take count buffer
front_seen count room seen buffer rest bound fits is = ap (take count) is ∙ take-take count room (buffer ++ rest) fits ∙ take-append-le count buffer rest bound

-- a piece more was given
given_more : (now contents : Option (List ℕ)) (cap start mid new place count : ℕ) (bytes piece buffer : List ℕ) → now ≡ contents → place ≡ length bytes
    → count ≤ length buffer → piece ≡ take count buffer → place + count ≤ cap → IfSome now (λ all. Gives all place count buffer) → new ≡ raised mid count
    → AreGiven contents cap start mid bytes → AreGiven contents cap start new (bytes ++ piece)
given_more now contents cap start mid new place count bytes piece buffer same at bound is fits gives rose a =
    let few : length piece ≡ count = ap length is ∙ length-take-le count buffer bound in
    let long : length (bytes ++ piece) ≡ length bytes + count = length-append bytes piece ∙ ap (λ n. length bytes + n) few in
    let there : IfSome contents (λ all. Gives all (length bytes) count buffer) =
    subst (λ o. IfSome o (λ all. Gives all (length bytes) count buffer)) same (subst (λ n. IfSome now (λ all. Gives all n count buffer)) at gives) in
    record {
      within = omega arith;
      first = subst (λ l. IfSome contents (λ all. (bytes ++ l) ≡ take (length (bytes ++ l)) all)) (sym is) (ReadSoFar-more contents bytes count buffer bound a.first there);
      given = rose ∙ ap (λ n. raised n count) a.given ∙ raised-raised start (length bytes) count ∙ ap (raised start) (sym long);
    }

-- bytes more wait
waits_given : {A : Type 0} (says : A → List ℕ → A → List ℕ → Type 0) (old new : A) (bytes left piece : List ℕ) (told now : Option (List ℕ)) → Waits says old bytes left new told now → Waits says old (bytes ++ piece) (left ++ piece) new told now
waits_given says old new bytes left piece told now w = record { done = w.done; cut = ap (λ l. l ++ piece) w.cut ∙ joined_behind w.done left piece; ended = w.ended; answered = w.answered }

-- answers to more lines
answered_more : {A : Type 0} (says : A → List ℕ → A → List ℕ → Type 0) (old mid new : A) (done more : List (List ℕ)) (told now last : Option (List ℕ)) → AreAnswered says old done mid told now → AreAnswered says mid more new now last → AreAnswered says old (done ++ more) new told last
answered_more says old mid new done more told now last a b = record {
  text = a.text ++ b.text;
  answers = answers_behind says old mid new done more a.text b.text a.answers b.answers;
  put = b.put ∙ ap (λ o. appended o b.text) a.put ∙ appended-appended told a.text b.text;
}

-- what waited was answered as far as its lines end
waits_behind : {A : Type 0} (says : A → List ℕ → A → List ℕ → Type 0) (old mid new : A) (bytes left more : List ℕ) (told now last : Option (List ℕ)) → Waits says old bytes left mid told now → Waits says mid left more new now last → Waits says old bytes more new told last
waits_behind says old mid new bytes left more told now last w v = record {
  done = w.done ++ v.done;
  cut = w.cut ∙ ap (joined w.done) v.cut ∙ sym (joined_joined w.done v.done more);
  ended = frees_join w.done v.done w.ended v.ended;
  answered = answered_more says old mid new w.done v.done told now last w.answered v.answered;
}

-- what waited was answered to its end
answered_waiting : {A : Type 0} (says : A → List ℕ → A → List ℕ → Type 0) (old mid new : A) (bytes left : List ℕ) (told now last : Option (List ℕ)) → Waits says old bytes left mid told now → AreAnswered says mid (lines left) new now last → AreAnswered says old (lines bytes) new told last
answered_waiting says old mid new bytes left told now last w a =
    subst (λ l. AreAnswered says old l new told last) (sym (ap lines w.cut ∙ lines_joined w.done left w.ended)) (answered_more says old mid new w.done (lines left) told now last w.answered a)

-- a piece more was given and its lines answered
pub talked_more : {A : Type 0} (says : A → List ℕ → A → List ℕ → Type 0) (now_contents contents : Option (List ℕ)) (cap start mid new place count : ℕ) (old middle later : A) (left piece buffer more : List ℕ) (told now last : Option (List ℕ))
    → now_contents ≡ contents → count ≤ length buffer → piece ≡ take count buffer → place + count ≤ cap → IfSome now_contents (λ all. Gives all place count buffer) → new ≡ raised mid count
    → NoFeed more → Waits says middle (left ++ piece) more later now last
    → TalkedSoFar says contents cap start mid place old middle left told now → TalkedSoFar says contents cap start new (place + count) old later more told last
talked_more says now_contents contents cap start mid new place count old middle later left piece buffer more told now last same bound is fits gives rose free v t =
    let few : length piece ≡ count = ap length is ∙ length-take-le count buffer bound in
    record {
      bytes = t.bytes ++ piece;
      given = given_more now_contents contents cap start mid new place count t.bytes piece buffer same t.here bound is fits gives rose t.given;
      here = omega (arith, t.here, length-append t.bytes piece);
      unended = free;
      waits = waits_behind says old middle later (t.bytes ++ piece) (left ++ piece) more told now last (waits_given says old middle t.bytes left piece told now t.waits) v;
    }

-- a piece more was given, and the answers to its lines broke off
pub broken_piece : {A : Type 0} (says : A → List ℕ → A → List ℕ → Type 0) (now_contents contents : Option (List ℕ)) (cap start mid new place count : ℕ) (old middle : A) (left piece buffer : List ℕ) (told now last : Option (List ℕ))
    → now_contents ≡ contents → count ≤ length buffer → piece ≡ take count buffer → place + count ≤ cap → IfSome now_contents (λ all. Gives all place count buffer) → new ≡ raised mid count
    → AreBrokenOff says middle (lines (left ++ piece)) now last
    → TalkedSoFar says contents cap start mid place old middle left told now → HasBrokenOff says contents cap start new old told last
broken_piece says now_contents contents cap start mid new place count old middle left piece buffer told now last same bound is fits gives rose b t = record {
  bytes = t.bytes ++ piece;
  given = given_more now_contents contents cap start mid new place count t.bytes piece buffer same t.here bound is fits gives rose t.given;
  broken = broken_waiting says old middle (t.bytes ++ piece) (left ++ piece) told now last (waits_given says old middle t.bytes left piece told now t.waits) b;
}

-- the answer to the last line broke off
pub broken_last : {A : Type 0} (says : A → List ℕ → A → List ℕ → Type 0) (contents : Option (List ℕ)) (cap start mid new place : ℕ) (old middle : A) (left line : List ℕ) (told now last : Option (List ℕ))
    → new ≡ mid → line ≡ left → AreBrokenOff says middle (lines line) now last → TalkedSoFar says contents cap start mid place old middle left told now → HasBrokenOff says contents cap start new old told last
broken_last says contents cap start mid new place old middle left line told now last kept is b t = record {
  bytes = t.bytes;
  given = subst (λ n. AreGiven contents cap start n t.bytes) (sym kept) t.given;
  broken = broken_waiting says old middle t.bytes left told now last t.waits (subst (λ l. AreBrokenOff says middle (lines l) now last) is b);
}

-- no more was given, and of the lines none is begun
pub broken_none : {A : Type 0} (says : A → List ℕ → A → List ℕ → Type 0) (contents : Option (List ℕ)) (cap start mid new place : ℕ) (old middle : A) (left : List ℕ) (told now : Option (List ℕ))
    → new ≡ mid → TalkedSoFar says contents cap start mid place old middle left told now → HasBrokenOff says contents cap start new old told now
broken_none says contents cap start mid new place old middle left told now kept t =
    broken_last says contents cap start mid new place old middle left left told now now kept refl (none_answered says middle (lines left) now) t

whole_at_end : (now contents : Option (List ℕ)) (cap place count : ℕ) (bytes buffer : List ℕ) → now ≡ contents → place ≡ length bytes → count ≡ 0 → length bytes ≤ cap
    → IfSome now (λ all. Gives all place count buffer) → IfSome contents (λ all. bytes ≡ take (length bytes) all) → IfSome contents (λ all. bytes ≡ take cap all)
whole_at_end None contents cap place count bytes buffer same at none within gives first = subst (λ o. IfSome o (λ all. bytes ≡ take cap all)) same tt
whole_at_end (Some all) contents cap place count bytes buffer same at none within gives first =
    let short : length all ≤ length bytes = let s : length all ≤ place = gives.ends.0 none in omega arith in
    let front : bytes ≡ take (length bytes) all = subst (λ o. IfSome o (λ all. bytes ≡ take (length bytes) all)) (sym same) first in
    subst (λ o. IfSome o (λ all. bytes ≡ take cap all)) same (front ∙ take_all (length bytes) all short ∙ sym (take_all cap all (omega arith)))

-- the file ends, and the last line was answered
pub talked_to_end : {A : Type 0} (says : A → List ℕ → A → List ℕ → Type 0) (now_contents contents : Option (List ℕ)) (cap start mid new place count : ℕ) (old middle later : A) (left line buffer : List ℕ) (told now last : Option (List ℕ))
    → now_contents ≡ contents → count ≡ 0 → IfSome now_contents (λ all. Gives all place count buffer) → new ≡ mid
    → line ≡ left → AreAnswered says middle (lines line) later now last
    → TalkedSoFar says contents cap start mid place old middle left told now → HasTalked says contents cap start new old later told last
talked_to_end says now_contents contents cap start mid new place count old middle later left line buffer told now last same none gives kept is a t = record {
  bytes = t.bytes;
  given = subst (λ n. AreGiven contents cap start n t.bytes) (sym kept) t.given;
  whole = whole_at_end now_contents contents cap place count t.bytes buffer same t.here none t.given.within gives t.given.first;
  answered = answered_waiting says old middle later t.bytes left told now last t.waits (subst (λ l. AreAnswered says middle (lines l) later now last) is a);
}

-- so much was given as may be, and the last line was answered
pub talked_to_cap : {A : Type 0} (says : A → List ℕ → A → List ℕ → Type 0) (contents : Option (List ℕ)) (cap start mid place : ℕ) (old middle later : A) (left line : List ℕ) (told now last : Option (List ℕ))
    → cap ≤ place → line ≡ left → AreAnswered says middle (lines line) later now last
    → TalkedSoFar says contents cap start mid place old middle left told now → HasTalked says contents cap start mid old later told last
talked_to_cap says contents cap start mid place old middle later left line told now last full is a t =
    let all_given : length t.bytes ≡ cap = omega (arith, t.here, t.given.within) in
    record {
      bytes = t.bytes;
      given = t.given;
      whole = subst (λ n. IfSome contents (λ all. t.bytes ≡ take n all)) all_given t.given.first;
      answered = answered_waiting says old middle later t.bytes left told now last t.waits (subst (λ l. AreAnswered says middle (lines l) later now last) is a);
    }

-- nothing was given of a count that stands
pub kept_at_none : (mid new count : ℕ) → count ≡ 0 → new ≡ raised mid count → new ≡ mid
kept_at_none mid new count none rose = rose ∙ ap (raised mid) none ∙ raised-zero mid
