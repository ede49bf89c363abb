-- A prefix that was written and kept is the code of its rows, and a run of it carries them out.
use Rattle.std.proofs.Common.{◌≡◌, ℕ, Bool, true, false, Option, Some, None, MatchOption, Ok, Err, List, [], ◌++◌, length, arith, refl, sym, ap, subst, ◌∙◌}
use Rattle.std.specs.Prelude.{if◌then◌else◌, nat_lt}
use Rattle.std.specs.Option.{option_map}
use Rattle.std.proofs.lemmas.Bool.{le-ltb}
use Rattle.fuun_base.specs.declared.letters.Base.{Base}
use Rattle.dna_reader.specs.RnaLines.{rna_lines}
use Rattle.exec_loop.specs.declared.machine.RunEnd.{RunEnd}
use Rattle.patch_text.specs.Contents.{Contents}
use Rattle.patch_text.specs.Lengths.{AllFit, IsOutside}
use Rattle.patch_text.specs.Meaning.{patches}
use Rattle.patch_text.specs.Outside.{outside}
use Rattle.patch_text.proofs.Outsides.{outside_is_first}
use Rattle.patch_compile.specs.declared.compiling.CompileError.TheVariants as compile
use Rattle.patch_compile.specs.Code.{prefix}
use Rattle.patch_compile.specs.Compiled.{compiled, unless_outside}
use Rattle.patch_compile.specs.Law.{Leaves, RunLeaves}
use Rattle.patch_compile.specs.Splice.{patched}
use Rattle.patch_compile.proofs.Carried.{prefix_carries_out}
use Rattle.fuun_top.specs.Chaining.{Gives, IsKept}
use Rattle.fuun_top.specs.MadeChains.{IsPatchKept, IsPatching, PatchesAreCarriedOut}
use Rattle.fuun_top.specs.Making.{compile_refusal, patch_prefix, patch_refusal, then_made, told}
use Rattle.fuun_top.specs.Output.{Output, IsRunOutput, OutputBy, answered, status_by}
use Rattle.fuun_top.specs.Reading.{Files, dna_in, inputs_of, most_bytes, start_in, then_read, within}
use Rattle.fuun_top.specs.Texts.{letters}
use Rattle.fuun_top.specs.declared.inputs.Inputs.TheVariants as inputs
use Rattle.fuun_top.specs.declared.request.Asked.TheVariants as asked_for
use Rattle.fuun_top.specs.declared.request.RunVerb.{RunVerb}
use Rattle.fuun_top.specs.declared.request.RunVerb.TheVariants.{Rna, Dna}
use Rattle.fuun_top.specs.declared.request.TextVerb.TheVariants.{Patch}
use Rattle.fuun_top.specs.declared.status.InFile.{InFile}
use Rattle.fuun_top.specs.declared.status.InFile.TheVariants as file
use Rattle.fuun_top.specs.declared.status.Status.{Status}
use Rattle.fuun_top.specs.declared.status.Status.TheVariants.{Done, OutOfBudget, InputTooLong, Outside, TooLong}
use Rattle.fuun_words.specs.declared.request.Request.TheVariants as words
use Rattle.fuun_words.specs.declared.request.RunWords.{RunWords}
use Rattle.fuun_top.proofs.ReadBack.{output_by, dna_back}

-- what `patch` wrote: the rows fit, and these are the letters of their prefix
pub record IsPrefixOf (contents : Contents) (output : Output) : Type 0 where
  pub fit : AllFit contents.stated contents.rows
  pub bytes : output.bytes ≡ letters (prefix contents.rows)

not_done : (output : Output) (status : Status) → output.status ≡ Done → output.status ≡ status → status ≡ Done
not_done output status done is = sym is ∙ done

by_limit : (contents : Contents) (output : Output) (long : Bool) → AllFit contents.stated contents.rows → output.status ≡ Done
    → output ≡ answered letters (told compile_refusal (if long then Err compile.TooLong else Ok (prefix contents.rows))) → IsPrefixOf contents output
by_limit contents output true fit done is = let e : TooLong 0 ≡ Done = sym (ap (λ (o : Output). o.status) is) ∙ done in cc
by_limit contents output false fit done is = record { fit = fit; bytes = ap (λ (o : Output). o.bytes) is }

by_rows : (contents : Contents) (limit : ℕ) (output : Output) (found : Option ℕ) → MatchOption found (AllFit contents.stated contents.rows) (IsOutside contents) → output.status ≡ Done
    → output ≡ answered letters (told compile_refusal (unless_outside found limit contents.rows)) → IsPrefixOf contents output
by_rows contents limit output (Some number) first done is = let e : Outside number ≡ Done = sym (ap (λ (o : Output). o.status) is) ∙ done in cc
by_rows contents limit output None fit done is = by_limit contents output (nat_lt limit (length (prefix contents.rows))) fit done is

by_text : (contents : Contents) (limit : ℕ) (output : Output) (text : List ℕ) → patches text ≡ Ok contents → output.status ≡ Done
    → output ≡ answered letters (patch_prefix limit text) → IsPrefixOf contents output
by_text contents limit output text says done is =
    by_rows contents limit output (outside contents) (outside_is_first contents) done
    (is ∙ ap (λ r. answered letters (then_made (told patch_refusal r) (λ c. told compile_refusal (compiled c limit)))) says)

by_size : (contents : Contents) (limit : ℕ) (output : Output) (text : List ℕ) (long : Bool) → patches text ≡ Ok contents → output.status ≡ Done
    → OutputBy (then_read (Some (if long then Err (InputTooLong file.Patch) else Ok text)) (λ t. Some (Ok (inputs.Text (Patch limit) t)))) output → IsPrefixOf contents output
by_size contents limit output text true says done is = let e : InputTooLong file.Patch ≡ Done = sym (ap (λ (o : Output). o.status) is) ∙ done in cc
by_size contents limit output text false says done is = by_text contents limit output text says done (is.tells ∙ ap (answered letters) is.is)

pub kept_is_prefix : (files later : Files) (contents : Contents) (name : List ℕ) (kept : IsPatchKept files later contents name) → IsPrefixOf contents kept.prefix
kept_is_prefix files later contents name kept =
    by_size contents kept.limit kept.prefix kept.text (nat_lt most_bytes (length kept.text)) kept.says kept.done
    (subst (λ told. OutputBy (then_read (option_map (within file.Patch) told) (λ t. Some (Ok (inputs.Text (Patch kept.limit) t)))) kept.prefix) kept.holds
    (output_by files (words.Patch kept.patch kept.limit) kept.prefix kept.compiled))

-- and this is what is read of it
pub kept_is_read : (files later : Files) (contents : Contents) (in_file : InFile) (name : List ℕ) → IsPatchKept files later contents name → dna_in later in_file name ≡ Some (Ok (prefix contents.rows))
kept_is_read files later contents in_file name kept =
    dna_back later in_file name (prefix contents.rows) (subst (IsKept later name) (kept_is_prefix files later contents name kept).bytes kept.kept)

module _ (files later : Files) (contents : Contents) (name : List ℕ) (asked : RunWords) (dna : List Base) (kept : IsPatchKept files later contents name)
    (named : asked.prefix ≡ Some name) (patching : IsPatching later contents asked dna) where
  start : start_in later asked ≡ Some (Ok (prefix contents.rows ++ dna))
  start =
      rw (patching.reads, named, kept_is_read files later contents file.Prefix name kept, le-ltb asked.limit (length (prefix contents.rows ++ dna)) (patching.limit 0 (omega arith))) refl

  leaves : RunLeaves (prefix contents.rows ++ dna) asked.budget asked.limit (patched dna contents.rows)
  leaves =
      subst (λ n. RunLeaves (prefix contents.rows ++ dna) n asked.limit (patched dna contents.rows)) (sym patching.budget)
      (prefix_carries_out contents (kept_is_prefix files later contents name kept).fit dna asked.limit patching.stated patching.limit)

  run_of : (verb : RunVerb) (output : Output) → OutputBy (inputs_of later (asked_for.Run verb asked)) output → IsRunOutput verb (prefix contents.rows ++ dna) asked.budget asked.limit output
  run_of verb output is = subst (λ r. OutputBy (then_read r (λ d. Some (Ok (inputs.Run verb d asked.budget asked.limit)))) output) start is

  writes_dna : (written : Output) → Gives later (words.Dna asked) written → written ≡ record { status = Done; bytes = letters (patched dna contents.rows) }
  writes_dna written gives =
      let made = run_of Dna written (output_by later (words.Dna asked) written gives) in
      let left : Leaves made.run (patched dna contents.rows) = leaves.leaves made.run made.is in
      made.writes
      ∙ ap (λ (end : RunEnd). record { status = status_by true end; bytes = letters made.run.dna }) left.end
      ∙ ap (λ (d : List Base). record { status = Done; bytes = letters d }) left.dna

  writes_rna : (rna : Output) → Gives later (words.Rna asked) rna → rna ≡ record { status = OutOfBudget; bytes = [] }
  writes_rna rna gives =
      let made = run_of Rna rna (output_by later (words.Rna asked) rna gives) in
      let left : Leaves made.run (patched dna contents.rows) = leaves.leaves made.run made.is in
      made.writes
      ∙ ap (λ (end : RunEnd). record { status = status_by false end; bytes = rna_lines made.run.rna }) left.end
      ∙ ap (λ (commands : List (List Base)). record { status = OutOfBudget; bytes = rna_lines commands }) left.rna

pub patches_are_carried_out : PatchesAreCarriedOut
patches_are_carried_out files later contents name asked dna written rna kept named patching dna_is rna_is =
    (writes_dna files later contents name asked dna kept named patching written dna_is, writes_rna files later contents name asked dna kept named patching rna rna_is)
