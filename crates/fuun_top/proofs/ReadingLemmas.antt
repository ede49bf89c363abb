-- A reading that was refused.
use Rattle.std.proofs.Common.{◌≡◌, ◌⊎◌, inl, inr, ℕ, Some, None, Result, Ok, Err, List, [], ◌∷◌, IfSome, subst, arith, ◌∙◌}
use Rattle.fuun_top.specs.declared.status.Status.{Status}
use Rattle.fuun_top.specs.declared.status.Status.TheVariants.{ReadFault, NoMemory}
use Rattle.fuun_top.specs.Reading.{Called, Files, Reading, then_read}
use Rattle.fuun_top.specs.ReadingRoom.{Reads}

-- the answer is what is known to be read, or memory was wanted, or a read failed
abbrev Agree : {A : Type 0} → Reading A → Result A Status → Type 0
Agree known result = IfSome known (λ read. (result ≡ read) ⊎ (result ≡ Err NoMemory) ⊎ (result ≡ Err ReadFault))

want_agrees : {B : Type 0} (known : Reading B) (status : Status) → status ≡ NoMemory → Agree known (Err status)
want_agrees None status is = tt
want_agrees (Some read) status is = inr (inl (cc is))

fault_agrees : {B : Type 0} (known : Reading B) (status : Status) → status ≡ ReadFault → Agree known (Err status)
fault_agrees None status is = tt
fault_agrees (Some read) status is = inr (inr (cc is))

refusal_agrees : {A B : Type 0} (known : Reading A) (next : A → Reading B) (status : Status) → Agree known (Err status) → Agree (then_read known next) (Err status)
refusal_agrees None next status agrees = tt
refusal_agrees (Some (Err refused)) next status (inl e) = inl (cc e)
refusal_agrees (Some (Err refused)) next status (inr (inl e)) = inr (inl (cc e))
refusal_agrees (Some (Err refused)) next status (inr (inr e)) = inr (inr (cc e))
refusal_agrees (Some (Ok value)) next status (inl e) = absurd (cc e)
refusal_agrees (Some (Ok value)) next status (inr (inl e)) = want_agrees (next value) status (cc e)
refusal_agrees (Some (Ok value)) next status (inr (inr e)) = fault_agrees (next value) status (cc e)

-- what comes behind it is refused too
pub reads_refused : {A B : Type 0} (files : Files) (called : List Called) (known : Reading A) (next : A → Reading B) (status : Status) (given_old given_new faults_old faults_new : ℕ)
    → Reads files called known (Err status) given_old given_new faults_old faults_new → Reads files called (then_read known next) (Err status) given_old given_new faults_old faults_new
reads_refused files called known next status given_old given_new faults_old faults_new reads = record {
  agrees = refusal_agrees known next status reads.agrees;
  refused = reads.refused;
  given = tt;
  too_long = λ file e. reads.too_long file (cc e);
  rises = reads.rises;
  fault = λ e. reads.fault (cc e);
  no_fault = λ other. reads.no_fault (λ e. other (cc e));
}

-- a value was read, and then what comes behind it was refused
second_agrees : {A B C : Type 0} (known : Reading A) (value : A) (next : A → Reading B) (last : A → B → Reading C) (status : Status) → Agree known (Ok value) → Agree (next value) (Err status)
    → Agree (then_read known (λ a. then_read (next a) (last a))) (Err status)
second_agrees None value next last status first second = tt
second_agrees (Some (Err refused)) value next last status (inl e) second = absurd (cc e)
second_agrees (Some (Err refused)) value next last status (inr (inl e)) second = absurd (cc e)
second_agrees (Some (Err refused)) value next last status (inr (inr e)) second = absurd (cc e)
second_agrees {A} (Some (Ok read)) value next last status (inl e) second =
    let same : value ≡ read = cc e in
    refusal_agrees (next read) (last read) status (subst (λ (a : A). Agree (next a) (Err status)) same second)
second_agrees (Some (Ok read)) value next last status (inr (inl e)) second = absurd (cc e)
second_agrees (Some (Ok read)) value next last status (inr (inr e)) second = absurd (cc e)

pub reads_refused_behind : {A B C : Type 0} (files : Files) (called : Called) (more : List Called) (known : Reading A) (value : A) (next : A → Reading B) (last : A → B → Reading C) (status : Status)
    (given_old given_mid given_new faults_old faults_mid faults_new : ℕ)
    → Reads files (called ∷ []) known (Ok value) given_old given_mid faults_old faults_mid → Reads files more (next value) (Err status) given_mid given_new faults_mid faults_new
    → Reads files (called ∷ more) (then_read known (λ a. then_read (next a) (last a))) (Err status) given_old given_new faults_old faults_new
reads_refused_behind files called more known value next last status given_old given_mid given_new faults_old faults_mid faults_new first second =
    let kept : faults_mid ≡ faults_old = first.no_fault (λ e. cc e) in
    record {
      agrees = second_agrees known value next last status first.agrees second.agrees;
      refused = second.refused;
      given = tt;
      too_long = λ file e. inr (given_mid, omega (arith, first.given), second.too_long file (cc e));
      rises = omega (arith, first.rises, second.rises);
      fault = λ e. omega (arith, kept, second.fault (cc e));
      no_fault = λ other. second.no_fault (λ e. other (cc e)) ∙ kept;
    }
