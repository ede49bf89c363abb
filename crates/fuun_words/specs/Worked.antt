-- Words that were worked out by hand.
use Rattle.std.specs.Prelude.{◌≡◌, ◌^◌, [], ◌∷◌, Some, None, codes}
use Rattle.rna_code.specs.declared.profile.Profile.TheVariants.{Plain, Wide}
use Rattle.fuun_words.specs.Requests.{request}
use Rattle.fuun_words.specs.declared.request.Request.TheVariants.{Rna, Draw}

-- only what a run must have is given
abbrev pub HasDefaults : Type 0
HasDefaults =
    request (codes "rna" ∷ codes "--dna" ∷ codes "a" ∷ [])
    ≡ Some (Rna (record { dna = codes "a"; prefix = None; budget = 10000000; limit = 2 ^ 26 }))

-- options in another order, a value behind `=`, and zeros before a number
abbrev pub HasAnyOrder : Type 0
HasAnyOrder =
    request (codes "rna" ∷ codes "--budget" ∷ codes "0002" ∷ codes "--prefix=p" ∷ codes "--dna" ∷ codes "a" ∷ codes "--limit=1" ∷ [])
    ≡ Some (Rna (record { dna = codes "a"; prefix = Some (codes "p"); budget = 2; limit = 1 }))

-- the profile is plain, or the one that is given
abbrev pub HasProfiles : Type 0
HasProfiles =
    (request (codes "draw" ∷ codes "--rna" ∷ codes "r" ∷ []) ≡ Some (Draw (codes "r") Plain))
    × (request (codes "draw" ∷ codes "--profile" ∷ codes "wide" ∷ codes "--rna" ∷ codes "r" ∷ []) ≡ Some (Draw (codes "r") Wide))

-- a limit lies between 1 and 2^40 = 1,099,511,627,776
abbrev pub HasLimits : Type 0
HasLimits =
    (request (codes "rna" ∷ codes "--dna" ∷ codes "a" ∷ codes "--limit" ∷ codes "0" ∷ []) ≡ None)
    × (request (codes "rna" ∷ codes "--dna" ∷ codes "a" ∷ codes "--limit" ∷ codes "1099511627777" ∷ []) ≡ None)

-- an option that a verb needs, a second use of one, one that the verb lacks, help, and a stray word
abbrev pub RefusesWords : Type 0
RefusesWords =
    (request (codes "rna" ∷ []) ≡ None)
    × (request (codes "rna" ∷ codes "--dna" ∷ codes "a" ∷ codes "--dna" ∷ codes "b" ∷ []) ≡ None)
    × (request (codes "rna" ∷ codes "--dna" ∷ codes "a" ∷ codes "--profile" ∷ codes "wide" ∷ []) ≡ None)
    × (request (codes "rna" ∷ codes "--help" ∷ []) ≡ None)
    × (request (codes "rna" ∷ codes "--dna" ∷ codes "a" ∷ codes "b" ∷ []) ≡ None)
