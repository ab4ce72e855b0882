-- The codings of fields: numbers, flags, fixed bytes, tags, and tests of a value.
use Rattle.std.specs.Prelude.{◌≡◌, ℕ, ◌^◌, Bool, true, false, ◌&&◌, nat_eq, nat_lt, List, [], ◌∷◌, Option, Some, if◌then◌else◌, refl}
use Rattle.std.proofs.Common.{ap, sym, ◌∙◌, rules}
use Rattle.std.specs.Bool.{then_some}
use Rattle.std.specs.List.{find}
use mir.Val.{bits}
use Rattle.std.specs.Int.{Width, to_be_bytes, from_be_bytes}
use Rattle.std.specs.Cmp.Lexicographic.{pointwise, same_text}
use Rattle.sasi_host.specs.Names.{Bytes}
use Rattle.sasi_formats.specs.Formats.{Coding}

pub when_is : {A : Type 0} (test : Bool) (a b : A) → then_some test a ≡ Some b → (test ≡ true) × (a ≡ b)
when_is true a b h = (refl, cc)
when_is false a b h = absurd cc

-- a value that passes the test is its own encoding
abbrev pub passing : {A : Type 0} → (A → Bool) → Coding A A
passing test = record { decode = λ a. then_some (test a) a; encode = λ a. a; canonical = λ a b h. sym (when_is (test a) a b h).1 }

pub renamed_back : {A B : Type 0} (f : A → B) (g : B → A) → ((a : A) → g (f a) ≡ a) → (a : A) (b : B) → Some (f a) ≡ Some b → g b ≡ a
renamed_back f g law a b h = let same : f a ≡ b = cc in ap g (sym same) ∙ law a

-- each value decodes to another, from which it can be computed
abbrev pub renamed : {A B : Type 0} (f : A → B) (g : B → A) → ((a : A) → g (f a) ≡ a) → Coding A B
renamed f g law = record { decode = λ a. Some (f a); encode = g; canonical = renamed_back f g law }

-- ---- numbers

-- whether the bytes are those of a number
abbrev pub is_number : Width → Bytes → Bool
is_number width bytes = pointwise nat_eq (to_be_bytes width (from_be_bytes width bytes)) bytes && nat_lt (from_be_bytes width bytes) (2 ^ bits width)

both_first : (a b : Bool) → a && b ≡ true → true ≡ a
both_first true b h = refl
both_first false b h = absurd cc

pub number_back : (width : Width) (bytes : Bytes) (n : ℕ) → then_some (is_number width bytes) (from_be_bytes width bytes) ≡ Some n → to_be_bytes width n ≡ bytes
number_back width bytes n h =
    let is = when_is (is_number width bytes) (from_be_bytes width bytes) n h in
    let again = to_be_bytes width (from_be_bytes width bytes) in
    ap (to_be_bytes width) (sym is.1) ∙ same_text again bytes (both_first (pointwise nat_eq again bytes) (nat_lt (from_be_bytes width bytes) (2 ^ bits width)) is.0)

-- the bytes of a number, big-endian
abbrev pub number_of : Width → Coding Bytes ℕ
number_of w = record { decode = λ bytes. then_some (is_number w bytes) (from_be_bytes w bytes); encode = to_be_bytes w; canonical = number_back w }

-- ---- one of some values

pub one_of_back : {A : Type 0} (code : A → ℕ) (all : List A) (n : ℕ) (a : A) → find (λ b. nat_eq n (code b)) all ≡ Some a → code a ≡ n
one_of_back code [] n a h = absurd cc
one_of_back {A = A} code (b ∷ all) n a h = by_test (nat_eq n (code b)) refl (one_of_back code all n a) h where
  by_test : (t : Bool) → nat_eq n (code b) ≡ t → (find (λ c. nat_eq n (code c)) all ≡ Some a → code a ≡ n) → (if t then Some b else find (λ c. nat_eq n (code c)) all) ≡ Some a → code a ≡ n
  by_test true is others found = let same : n ≡ code b = search (rules, is) in let one : b ≡ a = cc in ap code (sym one) ∙ sym same
  by_test false is others found = others found

-- one of these values, by its number
abbrev pub one_of : {A : Type 0} → (A → ℕ) → List A → Coding ℕ A
one_of code all = record { decode = λ n. find (λ a. nat_eq n (code a)) all; encode = code; canonical = one_of_back code all }

-- ---- fixed bytes

pub only_back : (wanted bytes : Bytes) (u : Unit {0}) → then_some (pointwise nat_eq bytes wanted) tt ≡ Some u → wanted ≡ bytes
only_back wanted bytes u h = sym (same_text bytes wanted (sym (when_is (pointwise nat_eq bytes wanted) tt u h).0))

-- these bytes and no others
abbrev pub only : Bytes → Coding Bytes (Unit {0})
only wanted = record { decode = λ bytes. then_some (pointwise nat_eq bytes wanted) tt; encode = λ _. wanted; canonical = only_back wanted }

-- ---- a tag

abbrev pub own_tag : {A : Type 0} → (A → ℕ) → (ℕ × A) → Option A
own_tag tag_of both = then_some (nat_eq both.0 (tag_of both.1)) both.1

pub own_tag_back : {A : Type 0} (tag_of : A → ℕ) (both : ℕ × A) (a : A) → own_tag tag_of both ≡ Some a → (tag_of a, a) ≡ both
own_tag_back {A = A} tag_of both a h =
    let is = when_is (nat_eq both.0 (tag_of both.1)) both.1 a h in
    let same : both.0 ≡ tag_of both.1 = search (rules, is.0) in
    let pair : A → ℕ × A = λ b. (tag_of b, b) in
    ap pair (sym is.1) ∙ ap (λ (n : ℕ). (n, both.1)) (sym same)

-- a value behind its own tag
abbrev pub tagging : {A : Type 0} → (A → ℕ) → Coding (ℕ × A) A
tagging tag_of = record { decode = λ both. then_some (nat_eq both.0 (tag_of both.1)) both.1; encode = λ a. (tag_of a, a); canonical = own_tag_back tag_of }
