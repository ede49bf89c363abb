-- Numbers and profiles, as the values of options write them.
use Rattle.std.specs.Prelude.{ℕ, if◌then◌else◌, Option, Some, None, List, nat_le, codes}
use Rattle.std.specs.Option.{option_and_then}
use Rattle.std.specs.Str.{bytes_eq}
use Rattle.fuun_base.specs.Decimals.{number_up_to}
use Rattle.rna_code.specs.declared.profile.Profile.{Profile}
use Rattle.rna_code.specs.declared.profile.Profile.TheVariants.{Plain, Wide}

-- a number, where it is at least this one
abbrev pub at_least : ℕ → ℕ → Option ℕ
at_least least n = if nat_le least n then Some n else None

-- the number that a text writes in decimal, where it is one from `least` to `most`
abbrev pub number : ℕ → ℕ → List ℕ → Option ℕ
number least most text = option_and_then (at_least least) (number_up_to most text)

-- the number of an option's value, or this one where the option is not given
abbrev pub number_or : ℕ → ℕ → ℕ → Option (List ℕ) → Option ℕ
number_or default least most None = Some default
number_or default least most (Some text) = number least most text

-- the profile of an option's value: the plain one where the option is not given
abbrev pub profile_or_plain : Option (List ℕ) → Option Profile
profile_or_plain None = Some Plain
profile_or_plain (Some text) =
    if bytes_eq text (codes "plain") then Some Plain
    else (if bytes_eq text (codes "wide") then Some Wide else None)
