use Rattle.std.proofs.Common.{ℕ, ◌≡◌, ◌+◌, ◌≤◌, List, Option, vec_len, ap, sym, ◌∙◌, arith, rules}
use Rattle.std.proofs.lemmas.List.{length-take}
use Rattle.fuun_io.specs.Counts.{raised}
use Rattle.fuun_io.proofs.CountLemmas.{raised-raised}
use Rattle.fuun_io.proofs.ReadLemmas.{ReadSoFar-step}
use Rattle.fuun_io.proofs.read.read_all.Goals as goal

pub loop-folder-preserved : goal.loop-folder-preserved
loop-folder-preserved g c =
    let loop = c.loop-folder in
    let same = ap (λ (f : List ℕ → Option (List ℕ)). f c.args.name.now) loop.invariant.contents in
    let bound = c.in_ok-count.ensures.bound in
    let fits : c.in_ok-count.count ≤ loop.buffer.len = omega (arith, bound) in
    let len : vec_len c.extend_from_slice.new.self ≡ vec_len loop.file + c.in_ok-count.count =
    omega (arith, bound, c.in_ok-extend_from_slice.ensures.len, length-take c.in_ok-count.count c.deref.result.now) in
    record {
      room = omega arith;
      front = ReadSoFar-step _ _ _ _ _ _ _ _ _ _ same (c.len-in-loop-folder.ensures ∙ loop.file.ok.0) bound fits
          c.deref.ensures.value c.in_ok-extend_from_slice.ensures.items loop.invariant.front c.in_ok-count.ensures.bytes;
      given = c.in_ok-count.ensures.given ∙ ap (λ n. raised n c.in_ok-count.count) loop.invariant.given ∙ raised-raised _ _ _ ∙ ap (raised _) (sym len);
      faults = search rules;
      contents = search rules;
      allows = search rules;
    }
