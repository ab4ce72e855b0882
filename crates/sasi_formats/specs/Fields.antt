-- The fields of which formats are made.
use Rattle.std.specs.Prelude.{◌≡◌, ℕ, ◌-◌, Bool, true, false, ◌&&◌, nat_le, List, [], ◌∷◌, length, Option, slice_get, refl}
use Rattle.std.specs.Int.{Width, w8, byte_len, from_bool}
use Rattle.sasi_host.specs.Names.{Bytes}
use Rattle.sasi_host.specs.declared.damage.FormatRule.{FormatRule}
use Rattle.sasi_host.specs.declared.damage.FormatRule.TheVariants as rule
use Rattle.sasi_formats.specs.Formats.{Format, Empty, Sized, Then, Decoded}
use Rattle.sasi_formats.specs.Codings.{passing, renamed, number_of, one_of, only, tagging}

-- one format after another
infixr 30 ◌&◌
abbrev pub ◌&◌ : {A B : Type 0} → Format A → Format B → Format (A × B)
first & second = Then first (λ _. second)

-- the last item, if there is one
abbrev pub last : {A : Type 0} → List A → Option A
last items = slice_get items (length items - 1)

-- a value that passes the test; another breaks the rule where it begins, and this many bytes are reported
abbrev pub checked : {A : Type 0} → FormatRule → ℕ → (A → Bool) → Format A → Format A
checked rule seen test format = Decoded rule seen (passing test) format

-- a value in another form
abbrev pub mapped : {A B : Type 0} (f : A → B) (g : B → A) → ((a : A) → g (f a) ≡ a) → Format A → Format B
mapped f g law format = Decoded rule.Number 0 (renamed f g law) format

-- a number of this width, big-endian
abbrev pub number : Width → Format ℕ
number width = Sized (Empty (byte_len width)) rule.Number (number_of width)

-- one from `least` to `most`
abbrev pub in_range : Width → ℕ → ℕ → Format ℕ
in_range width least most = checked rule.Number (byte_len width) (λ n. nat_le least n && nat_le n most) (number width)

-- a byte, 0 or 1
abbrev pub flag : Format Bool
flag = Decoded rule.Number 1 (one_of from_bool (false ∷ true ∷ [])) (number w8)

-- these bytes
abbrev pub fixed : FormatRule → Bytes → Format (Unit {0})
fixed broken wanted = Sized (Empty (length wanted)) broken (only wanted)

-- a format after one without a value
abbrev pub prefixed : {A : Type 0} → Format (Unit {0}) → Format A → Format A
prefixed first second = mapped (λ both. both.1) (λ a. (tt, a)) (λ _. refl) (first & second)

-- a tag, and the format that it names; each value has its own tag
abbrev pub tagged : {A : Type 0} → Format ℕ → (A → ℕ) → (ℕ → Format A) → Format A
tagged tag tag_of next = Decoded rule.Number 1 (tagging tag_of) (Then tag next)

-- one of two formats, by what is known
abbrev pub select : {A : Type 0} → Bool → Format A → Format A → Format A
select true first second = first
select false first second = second
