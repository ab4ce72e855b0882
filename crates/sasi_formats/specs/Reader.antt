-- The reader of a format: the value that it reads, or the first corruption.
use Rattle.std.specs.Prelude.{ℕ, zero, suc, nat_lt, List, [], ◌∷◌, ◌++◌, length, take, drop, Option, None, Some, if◌then◌else◌}
use Rattle.sasi_host.specs.Names.{Bytes}
use Rattle.sasi_host.specs.declared.damage.FormatRule.{FormatRule}
use Rattle.sasi_fields.specs.Reading.{Reading}
use Rattle.sasi_formats.specs.Formats.{Coding, Format, Empty, Sized, Then, Decoded, Optional, Counted}

-- the corruption of bytes that encode no value
pub data Corruption : Type 0 where
  -- they end too early
  Short : Corruption
  -- other bytes follow a value
  Long : Corruption
  -- a rule is broken at this offset, with these bytes
  Broken : FormatRule → ℕ → Bytes → Corruption

-- the value that was read and the reader after it, or the corruption
pub data Outcome (A : Type 0) : Type 0 where
  Got : A → Reading → Outcome A
  Failed : Corruption → Outcome A

-- continues after what was read
infixl 10 ◌>>=◌
abbrev pub ◌>>=◌ : {A B : Type 0} → Outcome A → (A → Reading → Outcome B) → Outcome B
(Got value behind) >>= next = next value behind
(Failed corruption) >>= next = Failed corruption

abbrev pub outcome_as : {A B : Type 0} → (A → B) → Outcome A → Outcome B
outcome_as f (Got value behind) = Got (f value) behind
outcome_as f (Failed corruption) = Failed corruption

-- the reader after this many bytes
abbrev pub passed : ℕ → Reading → Reading
passed n s = record { done = s.done ++ take n s.left; left = drop n s.left }

-- the value, if there is one; else the rule is broken at this offset
abbrev pub tried : {A : Type 0} → Option A → FormatRule → ℕ → Bytes → Reading → Outcome A
tried None rule at seen behind = Failed (Broken rule at seen)
tried (Some value) rule at seen behind = Got value behind

-- the next bytes, this many of them
abbrev pub took : ℕ → Reading → Outcome Bytes
took n s = if nat_lt (length s.left) n then Failed Short else Got (take n s.left) (passed n s)

-- the value to which they decode
abbrev pub taken : {A : Type 0} → FormatRule → Coding Bytes A → ℕ → Reading → Outcome A
taken rule coding n s = took n s >>= λ field behind. tried (coding.decode field) rule (length s.done) (take 8 field) behind

abbrev pub read_items : {A : Type 0} → (List A → Reading → Outcome A) → ℕ → List A → Reading → Outcome (List A)
read_items item zero before s = Got [] s
read_items item (suc n) before s = item before s >>= λ a s. outcome_as (λ others. a ∷ others) (read_items item n (before ++ a ∷ []) s)

-- the value that is read next, or the first corruption
abbrev pub read : {A : Type 0} → Format A → Reading → Outcome A
read (Empty a) s = Got a s
read (Sized size rule coding) s = read size s >>= λ n s. taken rule coding n s
read (Then first next) s = read first s >>= λ a s. outcome_as (λ b. (a, b)) (read (next a) s)
read (Decoded rule seen coding format) s = read format s >>= λ a behind. tried (coding.decode a) rule (length s.done) (take seen s.left) behind
read (Optional choice format) s = read choice s >>= λ b s. if b then outcome_as (λ a. Some a) (read format s) else Got None s
read (Counted count item) s = read count s >>= λ n s. read_items (λ before. read (item before)) n [] s

-- ---- whole bytes

-- the reader before these bytes
abbrev pub start : Bytes → Reading
start bytes = record { done = []; left = bytes }

-- where nothing may follow the value
abbrev pub closed : {A : Type 0} → A → Reading → Bytes → Outcome A
closed value behind [] = Got value behind
closed value behind (next ∷ rest) = Failed Long

abbrev pub ended : {A : Type 0} → Outcome A → Outcome A
ended (Got value behind) = closed value behind behind.left
ended (Failed corruption) = Failed corruption

-- the value of all the bytes, or their first corruption
abbrev pub read_whole : {A : Type 0} → Format A → Bytes → Outcome A
read_whole format bytes = ended (read format (start bytes))
