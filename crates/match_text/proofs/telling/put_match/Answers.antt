use Rattle.std.proofs.Common.{◌≡◌, ◌++◌, Err, map, drop, ap, subst, sym, ◌∙◌}
use Rattle.std.proofs.lemmas.Result.{err_from_is_err_and}
use Rattle.fuun_io.specs.Written.{appended, PutsFront}
use Rattle.fuun_io.proofs.WrittenLemmas.{appended-appended, PutsFront-behind, PutsFront-longer}
use Rattle.listing.specs.declared.pairs.ListError.TheVariants.{WriteFault}
use Rattle.match_text.specs.Groups.{moved_back}
use Rattle.match_text.specs.Told.{LeadSoFar, PutsMatch}
use Rattle.match_text.specs.Way.{group_lines, parts, way}
use Rattle.match_text.proofs.LawLemmas.{tells_so_far}
use Rattle.match_text.proofs.telling.put_match.Goals as goal

pub returns-in_err-put_way-clause-puts : goal.returns-in_err-put_way-clause-puts
returns-in_err-put_way-clause-puts g c =
    let old = g.S.Sink.bytes c.args.sink.now in
    let now = g.S.Sink.bytes c.put_way.new.sink in
    let d = g.T.Strand.bases c.args.dna.now in
    let items = c.args.items.now in
    let places = c.in_ok-places.places.items in
    let failed = err_from_is_err_and c.from_residual-in_err-put_way.result c.from_residual-in_err-put_way.ensures.1 in
    let is : c.from_residual-in_err-put_way.result ≡ Err WriteFault = failed.1 ∙ ap (λ e. Err e) failed.2 in
    let led : LeadSoFar (drop c.args.from d) items places = subst (λ l. LeadSoFar (drop c.args.from d) l places) c.as_slice.ensures c.in_ok-places.ensures in
    let groups = c.in_ok-groups.ensures places led in
    let told = tells_so_far d c.args.from items places c.in_ok-groups.groups led groups in
    let lines : PutsFront old now (way (parts items) 0 places) =
    subst (λ ps. PutsFront old now (way (parts items) 0 ps)) c.as_slice-3.ensures.value (subst (λ l. PutsFront old now (way (parts l) 0 c.as_slice-3.result.now)) c.as_slice-2.ensures c.in_err-put_way.ensures.puts) in
    subst (λ r. PutsMatch (drop c.args.from d) items r old now) (sym is) (
      way (parts items) 0 places ++ group_lines 0 (map (moved_back c.args.from) c.in_ok-groups.groups),
      told,
      PutsFront-longer old now (way (parts items) 0 places) (group_lines 0 (map (moved_back c.args.from) c.in_ok-groups.groups)) lines,
    )

pub returns-in_err-put_groups-clause-puts : goal.returns-in_err-put_groups-clause-puts
returns-in_err-put_groups-clause-puts g c =
    let old = g.S.Sink.bytes c.args.sink.now in
    let mid = g.S.Sink.bytes c.put_way.new.sink in
    let now = g.S.Sink.bytes c.put_groups.new.sink in
    let d = g.T.Strand.bases c.args.dna.now in
    let items = c.args.items.now in
    let places = c.in_ok-places.places.items in
    let from = c.args.from in
    let failed = err_from_is_err_and c.from_residual-in_err-put_groups.result c.from_residual-in_err-put_groups.ensures.1 in
    let is : c.from_residual-in_err-put_groups.result ≡ Err WriteFault = failed.1 ∙ ap (λ e. Err e) failed.2 in
    let led : LeadSoFar (drop from d) items places = subst (λ l. LeadSoFar (drop from d) l places) c.as_slice.ensures c.in_ok-places.ensures in
    let groups = c.in_ok-groups.ensures places led in
    let told = tells_so_far d from items places c.in_ok-groups.groups led groups in
    let lines : mid ≡ appended old (way (parts items) 0 places) =
    subst (λ ps. mid ≡ appended old (way (parts items) 0 ps)) c.as_slice-3.ensures.value (subst (λ l. mid ≡ appended old (way (parts l) 0 c.as_slice-3.result.now)) c.as_slice-2.ensures c.in_ok-put_way.ensures.puts) in
    let rest : PutsFront mid now (group_lines 0 (map (moved_back from) c.in_ok-groups.groups)) =
    subst (λ l. PutsFront mid now (group_lines 0 (map (moved_back from) l))) (c.as_slice-4.ensures) c.in_err-put_groups.ensures.puts in
    subst (λ r. PutsMatch (drop from d) items r old now) (sym is) (
      way (parts items) 0 places ++ group_lines 0 (map (moved_back from) c.in_ok-groups.groups),
      told,
      PutsFront-behind old mid now (way (parts items) 0 places) (group_lines 0 (map (moved_back from) c.in_ok-groups.groups)) lines rest,
    )

pub returns-clause-puts : goal.returns-clause-puts
returns-clause-puts g c =
    let old = g.S.Sink.bytes c.args.sink.now in
    let mid = g.S.Sink.bytes c.put_way.new.sink in
    let now = g.S.Sink.bytes c.put_groups.new.sink in
    let d = g.T.Strand.bases c.args.dna.now in
    let items = c.args.items.now in
    let places = c.in_ok-places.places.items in
    let from = c.args.from in
    let led : LeadSoFar (drop from d) items places = subst (λ l. LeadSoFar (drop from d) l places) c.as_slice.ensures c.in_ok-places.ensures in
    let groups = c.in_ok-groups.ensures places led in
    let told = tells_so_far d from items places c.in_ok-groups.groups led groups in
    let lines : mid ≡ appended old (way (parts items) 0 places) =
    subst (λ ps. mid ≡ appended old (way (parts items) 0 ps)) c.as_slice-3.ensures.value (subst (λ l. mid ≡ appended old (way (parts l) 0 c.as_slice-3.result.now)) c.as_slice-2.ensures c.in_ok-put_way.ensures.puts) in
    let rest : now ≡ appended mid (group_lines 0 (map (moved_back from) c.in_ok-groups.groups)) =
    subst (λ l. now ≡ appended mid (group_lines 0 (map (moved_back from) l))) (c.as_slice-4.ensures) c.in_ok-put_groups.ensures.puts in (
      way (parts items) 0 places ++ group_lines 0 (map (moved_back from) c.in_ok-groups.groups),
      told,
      rest ∙ ap (λ t. appended t (group_lines 0 (map (moved_back from) c.in_ok-groups.groups))) lines ∙ appended-appended old (way (parts items) 0 places) (group_lines 0 (map (moved_back from) c.in_ok-groups.groups)),
    )
