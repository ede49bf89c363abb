use Rattle.std.proofs.Common.{◌≡◌, ◌+◌, ◌-◌, ◌≤◌, ◌++◌, ℕ, List, Some, length, take, drop, arith, ap, sym, subst, ◌∙◌}
use Rattle.std.specs.Prelude.{position}
use Rattle.std.proofs.lemmas.List.{take_all}
use Rattle.fuun_base.specs.declared.letters.Base.{Base}
use Rattle.dna_reader.specs.Digits.{HaveRead}
use Rattle.dna_reader.specs.Numeral.{is_p}
use Rattle.dna_reader.proofs.NumeralLemmas.{HasNoP, HasNoP-append}
use Rattle.dna_reader.proofs.PieceLemmas.{numeral_found}
use Rattle.dna_reader.proofs.WindowLemmas.{front_more}
use Rattle.dna_reader.proofs.numerals.numeral_ahead.Goals as goal

pub returns-in-Some-clause-read : goal.returns-in-Some-clause-read
returns-in-Some-clause-read g c =
    let d = g.S.Strand.bases c.args.s.now in
    let at : c.fill.new.self.place ≡ c.loop-ahead.window.place = c.fill.ensures.place in
    let front : List Base = take (c.fill.new.self.place - c.args.window.now.place) (drop c.args.window.now.place d) in
    let have : HaveRead c.loop-ahead.digits front = rw at c.loop-ahead.invariant.read in
    let order : c.args.window.now.place ≤ c.fill.new.self.place = rw at c.loop-ahead.invariant.order in
    let no_p : HasNoP front = rw at c.loop-ahead.invariant.no_p in
    let found : position is_p c.fill.new.self.ahead ≡ Some c.in-Some.end = cc in
    numeral_found d c.args.window.now.place c.pass.new.self.place c.in-Some.end c.read.new.self.value c.fill.new.self _ c.fill.ensures.shows order no_p found
    (ap (λ l. front ++ take c.in-Some.end l) c.ahead-ahead.ensures) (c.read.ensures front have).value c.pass.ensures.place

pub loop-ahead-preserved : goal.loop-ahead-preserved
loop-ahead-preserved g c =
    let d = g.S.Strand.bases c.args.s.now in
    let w = c.fill.new.self in
    let at : w.place ≡ c.loop-ahead.window.place = c.fill.ensures.place in
    let start : ℕ = c.args.window.now.place in
    let front : List Base = take (w.place - start) (drop start d) in
    let have : HaveRead c.loop-ahead.digits front = rw at c.loop-ahead.invariant.read in
    let order : start ≤ w.place = rw at c.loop-ahead.invariant.order in
    let no_p : HasNoP front = rw at c.loop-ahead.invariant.no_p in
    let ahead : List Base = c.ahead-ahead.result.now in
    let is : ahead ≡ w.ahead = c.ahead-ahead.ensures in
    let none : HasNoP ahead = cc in
    let behind : c.pass-in-loop-ahead.new.self.place ≡ w.place + length ahead = c.pass-in-loop-ahead.ensures.place in
    let all : take (c.pass-in-loop-ahead.new.self.place - start) (drop start d) ≡ front ++ ahead =
    ap (λ n. take (n - start) (drop start d)) behind ∙ front_more w d start (length ahead) c.fill.ensures.shows order (omega (arith, ap length is))
    ∙ ap (λ l. front ++ l) (ap (λ l. take (length ahead) l) (sym is) ∙ take_all (length ahead) ahead (omega arith)) in
    record {
      shows = c.pass-in-loop-ahead.ensures.shows d c.fill.ensures.shows;
      order = omega arith;
      read = subst (λ l. HaveRead c.read-in-loop-ahead.new.self l) (sym all) (c.read-in-loop-ahead.ensures front have);
      no_p = subst (λ l. HasNoP l) (sym all) (HasNoP-append front ahead no_p none);
    }
