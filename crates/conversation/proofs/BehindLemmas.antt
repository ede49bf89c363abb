-- Lemmas on lines that are answered behind others.
use Rattle.std.proofs.Common.{ℕ, List, [], ◌∷◌, ◌++◌, Option, sym, ap, subst, ◌∙◌, append_assoc}
use Rattle.fuun_base.specs.Lines.{lines}
use Rattle.fuun_io.specs.Written.{appended}
use Rattle.fuun_io.proofs.WrittenLemmas.{appended-appended}
use Rattle.conversation.specs.Cut.{NoFeed, NoFeeds}
use Rattle.conversation.specs.Answering.{Answers, AreAnswered, AreBrokenOff}
use Rattle.conversation.specs.Talking.{Waits}
use Rattle.conversation.proofs.LineLemmas.{lines_joined, joined_more}

pub free_more : (a b : List ℕ) → NoFeed a → NoFeed b → NoFeed (a ++ b)
free_more [] b x y = y
free_more (byte ∷ a) b x y = (x.0, free_more a b x.1 y)

frees_more : (a : List (List ℕ)) (line : List ℕ) → NoFeeds a → NoFeed line → NoFeeds (a ++ line ∷ [])
frees_more [] line x y = (y, tt)
frees_more (first ∷ a) line x y = (x.0, frees_more a line x.1 y)

pub frees_join : (a b : List (List ℕ)) → NoFeeds a → NoFeeds b → NoFeeds (a ++ b)
frees_join [] b x y = y
frees_join (line ∷ a) b x y = (x.0, frees_join a b x.1 y)

pub answers_behind : {A : Type 0} (says : A → List ℕ → A → List ℕ → Type 0) (old mid new : A) (done more : List (List ℕ)) (t u : List ℕ) → Answers says old done mid t → Answers says mid more new u → Answers says old (done ++ more) new (t ++ u)
answers_behind says old mid new [] more t u a b = subst (λ s. Answers says s more new (t ++ u)) a.0 (subst (λ l. Answers says mid more new (l ++ u)) (sym a.1) b)
answers_behind says old mid new (line ∷ done) more t u a b =
    (a.0, (a.1.0, (a.1.1.0 ++ u, (a.1.1.1.0, (answers_behind says a.0 mid new done more a.1.1.0 u a.1.1.1.1.0 b, ap (λ l. l ++ u) a.1.1.1.1.1 ∙ append_assoc a.1.0 a.1.1.0 u)))))

-- answers broke off behind lines that were answered
pub broken_behind : {A : Type 0} (says : A → List ℕ → A → List ℕ → Type 0) (old mid : A) (done more : List (List ℕ)) (told now last : Option (List ℕ)) → AreAnswered says old done mid told now → AreBrokenOff says mid more now last → AreBrokenOff says old (done ++ more) told last
broken_behind says old mid done more told now last a b = record {
  done = done ++ b.done;
  later = b.later;
  whole = ap (λ l. done ++ l) b.whole ∙ sym (append_assoc done b.done b.later);
  middle = b.middle;
  text = a.text ++ b.text;
  answers = answers_behind says old mid b.middle done b.done a.text b.text a.answers b.answers;
  front = b.front;
  begun = b.begun;
  put = b.put ∙ ap (λ o. appended o (b.text ++ b.front)) a.put ∙ appended-appended told a.text (b.text ++ b.front) ∙ ap (appended told) (sym (append_assoc a.text b.text b.front));
}

-- answers to the lines of what is left broke off
pub broken_waiting : {A : Type 0} (says : A → List ℕ → A → List ℕ → Type 0) (old mid : A) (bytes left : List ℕ) (told now last : Option (List ℕ)) → Waits says old bytes left mid told now → AreBrokenOff says mid (lines left) now last → AreBrokenOff says old (lines bytes) told last
broken_waiting says old mid bytes left told now last w b =
    subst (λ l. AreBrokenOff says old l told last) (sym (ap lines w.cut ∙ lines_joined w.done left w.ended)) (broken_behind says old mid w.done (lines left) told now last w.answered b)

-- a further line was answered
pub waits_more : {A : Type 0} (says : A → List ℕ → A → List ℕ → Type 0) (old mid new : A) (bytes line left : List ℕ) (told now last : Option (List ℕ)) → NoFeed line → Waits says old bytes (line ++ (10 ∷ left)) mid told now → AreAnswered says mid (line ∷ []) new now last → Waits says old bytes left new told last
waits_more says old mid new bytes line left told now last free w a = record {
  done = w.done ++ line ∷ [];
  cut = w.cut ∙ sym (joined_more w.done line left);
  ended = frees_more w.done line w.ended free;
  answered = record {
    text = w.answered.text ++ a.text;
    answers = answers_behind says old mid new w.done (line ∷ []) w.answered.text a.text w.answered.answers a.answers;
    put = a.put ∙ ap (λ o. appended o a.text) w.answered.put ∙ appended-appended told w.answered.text a.text;
  };
}
