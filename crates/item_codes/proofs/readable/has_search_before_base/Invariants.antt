use Rattle.std.proofs.Common.{◌≡◌, drop}
use Rattle.dna_reader.specs.Codes.{has_search_before_base}
use Rattle.item_codes.proofs.Searches.{has_search_behind}
use Rattle.item_codes.proofs.readable.has_search_before_base.Given as goal

abbrev pub invariant-loop-item : goal.invariant-loop-item
invariant-loop-item l = has_search_behind l.behind_search (drop l.item-index l.items) ≡ has_search_before_base l.items
