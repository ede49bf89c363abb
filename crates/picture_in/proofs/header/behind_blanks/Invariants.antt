use Rattle.std.proofs.Common.{◌≡◌, false, drop}
use Rattle.picture_in.specs.Header.{behind_blanks}
use Rattle.picture_in.proofs.header.behind_blanks.Given as goal

abbrev pub invariant-loop-index : goal.invariant-loop-index
invariant-loop-index l = behind_blanks false l.bytes ≡ behind_blanks l.in_comment (drop l.index l.bytes)
