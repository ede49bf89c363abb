-- A folder that allows every name may be asked for each request.
use Rattle.std.proofs.Common.{ℕ, Bool, Option, Some, None, List, [], ◌∷◌}
use Rattle.std.specs.Prelude.{IsTrue}
use Rattle.fuun_top.specs.Answer.{AreAllowed, MayAsk}
use Rattle.fuun_top.specs.Reading.{Called, files_of}
use Rattle.fuun_top.specs.Asked.{sorted}
use Rattle.fuun_words.specs.declared.request.Request.{Request}

each_allowed : (allows : List ℕ → Bool) (called : List Called) → ((name : List ℕ) → IsTrue (allows name)) → AreAllowed allows called
each_allowed allows [] all = tt
each_allowed allows (file ∷ called) all = (all file.1, each_allowed allows called all)

pub may_ask_all : (allows : List ℕ → Bool) (asked : Option Request) → ((name : List ℕ) → IsTrue (allows name)) → MayAsk allows asked
may_ask_all allows None all = tt
may_ask_all allows (Some asked) all = each_allowed allows (files_of (sorted asked)) all
