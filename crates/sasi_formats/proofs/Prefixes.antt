-- Fixed bytes, and a format after one without a value.
use Rattle.std.proofs.Common.{◌≡◌, Bool, Some, length, take, refl, ap, ◌∙◌}
use Rattle.std.specs.Bool.{then_some}
use Rattle.sasi_host.specs.Names.{Bytes}
use Rattle.sasi_host.specs.declared.damage.FormatRule.{FormatRule}
use Rattle.sasi_host.specs.declared.damage.FormatRule.TheVariants as rule
use Rattle.sasi_fields.specs.Reading.{Reading}
use Rattle.sasi_formats.specs.Formats.{Format, Fits}
use Rattle.sasi_formats.specs.Reader.{Corruption, Outcome, Got, Failed, ◌>>=◌, outcome_as, tried, read}
use Rattle.sasi_formats.specs.Fields.{fixed, prefixed}
use Rattle.sasi_formats.specs.Gives.{FailsWith}
use Rattle.sasi_formats.specs.declared.fault.FormatFault.{FormatFault}
use Rattle.sasi_formats.specs.declared.fault.FormatFault.TheVariants.{OutOfMemory, Short, Long, Broken}
use Rattle.sasi_formats.proofs.NumberLaws.{same_self}

-- fixed bytes fit
pub fixed_fits : (broken : FormatRule) (wanted : Bytes) → Fits (fixed broken wanted) tt
fixed_fits broken wanted = (refl, ap (λ (test : Bool). then_some test tt) (same_self wanted))

module _ {A : Type 0} (first : Format (Unit {0})) (second : Format A) where
  -- what both have fits
  pub prefixed_fits : (value : A) → Fits first tt → Fits second value → Fits (prefixed first second) value
  prefixed_fits value one two = ((one, two), refl)

  -- the value behind the first
  abbrev second_of : Reading → Outcome (Unit {0} × A) → Outcome A
  second_of s r = r >>= λ both t. tried (Some both.1) rule.Number (length s.done) (take 0 s.left) t

  abbrev both_of : Reading → Outcome (Unit {0}) → Outcome A
  both_of s r = second_of s (r >>= λ a t. outcome_as (λ (b : A). (a, b)) (read second t))

  behind_first : (s t : Reading) → read first s ≡ Got tt t → read (prefixed first second) s ≡ second_of s (outcome_as (λ (b : A). (tt, b)) (read second t))
  behind_first s t one = ap (λ (r : Outcome (Unit {0})). both_of s r) one

  -- the value of the second is read behind the first
  pub prefixed_got : (s t u : Reading) (value : A) → read first s ≡ Got tt t → read second t ≡ Got value u → read (prefixed first second) s ≡ Got value u
  prefixed_got s t u value one two = behind_first s t one ∙ ap (λ (r : Outcome A). second_of s (outcome_as (λ (b : A). (tt, b)) r)) two

  failed_first : (s : Reading) (f : Corruption) → read first s ≡ Failed f → read (prefixed first second) s ≡ Failed f
  failed_first s f one = ap (λ (r : Outcome (Unit {0})). both_of s r) one

  failed_second : (s t : Reading) (f : Corruption) → read first s ≡ Got tt t → read second t ≡ Failed f → read (prefixed first second) s ≡ Failed f
  failed_second s t f one two = behind_first s t one ∙ ap (λ (r : Outcome A). second_of s (outcome_as (λ (b : A). (tt, b)) r)) two

  -- a fault of the first, or of the second behind it, is one of both
  pub prefixed_fails : (s : Reading) (fault : FormatFault) → FailsWith (read first s) fault → FailsWith (read (prefixed first second) s) fault
  prefixed_fails s OutOfMemory h = tt
  prefixed_fails s Short h = failed_first s _ h
  prefixed_fails s Long h = failed_first s _ h
  prefixed_fails s (Broken b) h = failed_first s _ h

  pub prefixed_fails_behind : (s t : Reading) (fault : FormatFault) → read first s ≡ Got tt t → FailsWith (read second t) fault → FailsWith (read (prefixed first second) s) fault
  prefixed_fails_behind s t OutOfMemory one h = tt
  prefixed_fails_behind s t Short one h = failed_second s t _ one h
  prefixed_fails_behind s t Long one h = failed_second s t _ one h
  prefixed_fails_behind s t (Broken b) one h = failed_second s t _ one h
