use Rattle.std.proofs.Common.{◌≡◌, sym, ◌∙◌, inl, inr}
use Rattle.std.proofs.lemmas.Bool.{cases_Bool, false≢true}
use Rattle.toml.specs.View.{table_view}
use Rattle.patch_text.specs.Meaning.{patches, contents_in}
use Rattle.patch_text.proofs.Documents.{patches_of_table, patches_of_none}
use Rattle.patch_text.proofs.read.read_patches.Goals as goal

pub returns-in-Ok-clause-taken : goal.returns-in-Ok-clause-taken
returns-in-Ok-clause-taken c =
    let same : patches c.args.bytes.now ≡ contents_in (table_view c.in-Ok.table) = patches_of_table c.args.bytes.now (table_view c.in-Ok.table) c.in-Ok.ensures.ok.0 c.in-Ok.ensures.ok.1 in
    rw same c.read_table.ensures.taken

pub returns-in-Ok-clause-refused : goal.returns-in-Ok-clause-refused
returns-in-Ok-clause-refused c =
    let same : patches c.args.bytes.now ≡ contents_in (table_view c.in-Ok.table) = patches_of_table c.args.bytes.now (table_view c.in-Ok.table) c.in-Ok.ensures.ok.0 c.in-Ok.ensures.ok.1 in
    rw same c.read_table.ensures.refused

pub returns-in-Err-clause-refused : goal.returns-in-Err-clause-refused
returns-in-Err-clause-refused c told =
    elim (cases_Bool c.is_memory.result) [
      | inl so ↦ absurd (told (c.error_of.ensures.memory so))
      | inr other ↦ rw (c.error_of.ensures.other other) (patches_of_none c.args.bytes.now (c.in-Err.ensures.refused (λ memory. false≢true (sym other ∙ c.is_memory.ensures.1 memory))))
    ]
