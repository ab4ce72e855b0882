-- Reading after a tag.
use Rattle.std.proofs.Common.{◌≡◌, ℕ, Bool, true, Some, Result, Ok, Err, sym, ap, ◌∙◌, rules, length, take}
use Rattle.std.specs.Prelude.{nat_eq}
use Rattle.sasi_host.specs.declared.damage.FormatRule.TheVariants as rule
use Rattle.sasi_fields.specs.Reading.{Reading}
use Rattle.sasi_formats.specs.Formats.{Format}
use Rattle.sasi_formats.specs.Reader.{Outcome, Got, Failed, Corruption, ◌>>=◌, outcome_as, tried, read}
use Rattle.std.specs.Bool.{then_some}
use Rattle.sasi_formats.specs.Codings.{own_tag}
use Rattle.sasi_formats.specs.Fields.{tagged}
use Rattle.sasi_formats.specs.declared.fault.FormatFault.{FormatFault}
use Rattle.sasi_formats.specs.declared.fault.FormatFault.TheVariants.{OutOfMemory, Short, Long, Broken}
use Rattle.sasi_formats.specs.Gives.{Gives}

module _ {B : Type 0} (tag : Format ℕ) (tag_of : B → ℕ) (next : ℕ → Format B) (n : ℕ) (s t : Reading) (got : read tag s ≡ Got n t) where
  behind_tag : read (tagged tag tag_of next) s ≡ (outcome_as (λ b. (n, b)) (read (next n) t) >>= λ a behind. tried (own_tag tag_of a) rule.Number (length s.done) (take 1 s.left) behind)
  behind_tag = ap (λ (r : Outcome ℕ). (r >>= λ a s. outcome_as (λ b. (a, b)) (read (next a) s)) >>= λ a behind. tried (own_tag tag_of a) rule.Number (length s.done) (take 1 s.left) behind) got

  own_is : (b : B) → tag_of b ≡ n → own_tag tag_of (n, b) ≡ Some b
  own_is b is =
      let same : nat_eq n n ≡ true = search rules in
      ap (λ (m : ℕ). then_some (nat_eq n m) b) is ∙ ap (λ (x : Bool). then_some x b) same

  failed_behind : (f : Corruption) → read (next n) t ≡ Failed f → read (tagged tag tag_of next) s ≡ Failed f
  failed_behind f is = behind_tag ∙ ap (λ (r : Outcome B). outcome_as (λ b. (n, b)) r >>= λ a behind. tried (own_tag tag_of a) rule.Number (length s.done) (take 1 s.left) behind) is

  got_tag : {A : Type 0} (f : A → B) → ((a : A) → tag_of (f a) ≡ n) → (r : Outcome A) (b : B) (u : Reading) → (r >>= λ a behind. Got (f a) behind) ≡ Got b u → tag_of b ≡ n
  got_tag f each (Got a w) b u is = let same : f a ≡ b = cc in ap tag_of (sym same) ∙ each a
  got_tag f each (Failed x) b u is = absurd cc

  -- a function that reads what the tag names gives what the whole format reads, where each of its values has the tag
  pub tagged_gives : {A : Type 0} (f : A → B) → ((a : A) → tag_of (f a) ≡ n) → (r : Outcome A) → read (next n) t ≡ (r >>= λ a behind. Got (f a) behind) → (result : Result B FormatFault) (u : Reading) → Gives (read (next n) t) result u
      → Gives (read (tagged tag tag_of next) s) result u
  tagged_gives f each r is (Ok b) u h =
      behind_tag
      ∙ ap (λ (r : Outcome B). outcome_as (λ b. (n, b)) r >>= λ a behind. tried (own_tag tag_of a) rule.Number (length s.done) (take 1 s.left) behind) h
      ∙ ap (λ v. tried v rule.Number (length s.done) (take 1 s.left) u) (own_is b (got_tag f each r b u (sym is ∙ h)))
  tagged_gives f each r is (Err OutOfMemory) u h = tt
  tagged_gives f each r is (Err Short) u h = failed_behind _ h
  tagged_gives f each r is (Err Long) u h = failed_behind _ h
  tagged_gives f each r is (Err (Broken b)) u h = failed_behind _ h
