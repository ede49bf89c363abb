-- A command's seven places follow from its bases.
use Rattle.std.specs.Prelude.{◌≡◌, ◌-◌, ◌≤◌, ◌++◌, length, take, replicate}
use Rattle.std.proofs.Common.{◌∙◌, ap, arith}
use Rattle.std.proofs.lemmas.List.{length-take-le, take-append-drop}
use Rattle.fuun_base.specs.declared.letters.Base.TheVariants.{I}
use Rattle.fuun_base.specs.declared.commands.Command.TheInside.{Inside}
use Rattle.fuun_base.specs.Command.{used, IsPadded, padded}

pub padded_used : (a : Inside) → IsPadded a → padded (used a) ≡ a
padded_used a is =
    let within : a.len ≤ length a.bases = omega (arith, is.places, is.room) in
    let same_len : length (take a.len a.bases) ≡ a.len = length-take-le a.len a.bases within in
    let same_bases : take a.len a.bases ++ replicate (7 - length (take a.len a.bases)) I ≡ a.bases =
    rw same_len (rw (← is.unused) (take-append-drop a.len a.bases)) in
    ap (λ b. let whole : Inside = record { bases = b; len = length (take a.len a.bases) } in whole) same_bases
    ∙ ap (λ n. let whole : Inside = record { bases = a.bases; len = n } in whole) same_len
