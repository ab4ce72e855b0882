-- Where the dashes of a name's text stand, and what stands between them.
use Rattle.std.proofs.Common.{◌≡◌, ◌≢◌, ◌<◌, ◌⊎◌, ◌^◌, ℕ, Bor, Option, Some, List, ◌∷◌, ◌++◌, length, get_or, eqb, true≢false, inl, inr, refl, sym, subst, ap, ◌∙◌, append_assoc, arith, lit<}
use Rattle.std.specs.Fmt.{decimal}
use Rattle.std.specs.List.{position_or_len}
use Rattle.std.specs.Option.{MatchOption}
use Rattle.std.proofs.lemmas.Fmt.{decimal_is_IsNumeral}
use Rattle.std.proofs.lemmas.List.Sums.{fails_before_first}
use Rattle.std.proofs.lemmas.Str.Parse.{digit_at}
use Rattle.std.proofs.lemmas.Str.Pattern.{IsSplitOnceResult, split_after}
use Rattle.sasi_host.specs.CallLaws.{some_same}
use Rattle.sasi_host.specs.declared.name.Kind.{Kind}
use Rattle.sasi_host.specs.declared.name.Kind.TheVariants.{Manifest, Seal, Log, Data, Index, Segment}
use Rattle.sasi_host.specs.declared.name.FileName.{FileName}
use Rattle.sasi_names.specs.NameText.{word_of, dashed, numbers_of, HasNumbers, Fits, name_text}

-- a kind whose names have three numbers
abbrev pub IsThree : Kind → Type 0
IsThree kind = (kind ≡ Index) ⊎ (kind ≡ Segment)

-- the index and the part, and the number in front of them
abbrev pub two_numbers : FileName → List ℕ
two_numbers name = decimal name.index ++ (45 ∷ decimal name.part)

abbrev pub three_numbers : FileName → List ℕ
three_numbers name = decimal name.number ++ (45 ∷ two_numbers name)

-- what stands behind the dash of the word
abbrev pub behind : Kind → FileName → List ℕ
behind Index name = three_numbers name
behind Segment name = three_numbers name
behind _ name = decimal name.number

numbers_behind : (kind : Kind) (name : FileName) → numbers_of kind name ≡ 45 ∷ behind kind name
numbers_behind Index name = append_assoc (dashed name.number) (dashed name.index) (dashed name.part)
numbers_behind Segment name = append_assoc (dashed name.number) (dashed name.index) (dashed name.part)
numbers_behind _ name = refl

pub text_is : (name : FileName) → name_text name ≡ word_of name.kind ++ (45 ∷ behind name.kind name)
text_is name = ap (λ l. word_of name.kind ++ l) (numbers_behind name.kind name)

pub behind_three : (kind : Kind) (name : FileName) → IsThree kind → behind kind name ≡ three_numbers name
behind_three kind name (inl e) = ap (λ k. behind k name) e
behind_three kind name (inr e) = ap (λ k. behind k name) e

pub behind_one : (kind : Kind) (name : FileName) → kind ≢ Index → kind ≢ Segment → behind kind name ≡ decimal name.number
behind_one Index name not_index not_segment = absurd (not_index refl)
behind_one Segment name not_index not_segment = absurd (not_segment refl)
behind_one _ name not_index not_segment = refl

-- no word has a dash, and no number
without_dash : (bs : List ℕ) → position_or_len (λ b. eqb b 45) bs ≡ length bs → (i : ℕ) → i < length bs → get_or bs i 0 ≢ 45
without_dash bs none i within dash =
    true≢false (ap (λ b. eqb b 45) (sym dash) ∙ fails_before_first (λ b. eqb b 45) bs i 0 (omega (arith, none, within)))

word_without_dash : (kind : Kind) → position_or_len (λ b. eqb b 45) (word_of kind) ≡ length (word_of kind)
word_without_dash Manifest = refl
word_without_dash Seal = refl
word_without_dash Log = refl
word_without_dash Data = refl
word_without_dash Index = refl
word_without_dash Segment = refl

number_without_dash : (n : ℕ) → n < 2 ^ 32 → (i : ℕ) → i < length (decimal n) → get_or (decimal n) i 0 ≢ 45
number_without_dash n fits i within dash = omega (arith, dash, digit_at (decimal n) i (decimal_is_IsNumeral n (omega (arith, fits))).0.1 within)

-- so the text is split behind its word, and behind each number but the last
pub word_split : (name : FileName) (text : List ℕ) (r : Option (Bor (List ℕ) × Bor (List ℕ))) → text ≡ name_text name → IsSplitOnceResult 45 text r
    → MatchOption r ⊥ (λ x. (x.0.now ≡ word_of name.kind) × (x.1.now ≡ behind name.kind name))
word_split name text r is split =
    split_after 45 text (word_of name.kind) (behind name.kind name) r split (lit< tt) (is ∙ text_is name)
    (without_dash _ (word_without_dash name.kind))

pub number_split : (n : ℕ) (text rest : List ℕ) (r : Option (Bor (List ℕ) × Bor (List ℕ))) → n < 2 ^ 32 → text ≡ decimal n ++ (45 ∷ rest)
    → IsSplitOnceResult 45 text r
    → MatchOption r ⊥ (λ x. (x.0.now ≡ decimal n) × (x.1.now ≡ rest))
number_split n text rest r fits is split = split_after 45 text (decimal n) rest r split (lit< tt) is (number_without_dash n fits)

-- a kind that is the only one with the word is the name's
pub word_read : (name : FileName) (text : List ℕ) (word numbers : Bor (List ℕ)) (kind : Kind) → text ≡ name_text name
    → IsSplitOnceResult 45 text (Some (word, numbers))
    → ((k : Kind) → word.now ≡ word_of k → Some kind ≡ Some k) → (kind ≡ name.kind) × (numbers.now ≡ behind kind name)
word_read name text word numbers kind is split only =
    let parts = word_split name text (Some (word, numbers)) is split in
    let same = some_same kind name.kind (only name.kind parts.0) in
    (same, parts.1 ∙ ap (λ k. behind k name) (sym same))

-- the three numbers between the dashes
pub three_read : (name : FileName) (kind : Kind) (numbers number parts index part : Bor (List ℕ)) → Fits name → IsThree kind
    → numbers.now ≡ behind kind name
    → IsSplitOnceResult 45 numbers.now (Some (number, parts)) → IsSplitOnceResult 45 parts.now (Some (index, part))
    → (number.now ≡ decimal name.number) × (index.now ≡ decimal name.index) × (part.now ≡ decimal name.part)
three_read name kind numbers number parts index part fits three is first second =
    let front = number_split name.number numbers.now (two_numbers name) (Some (number, parts)) fits.0 (is ∙ behind_three kind name three) first in
    let back = number_split name.index parts.now (decimal name.part) (Some (index, part)) fits.1 front.1 second in
    (front.0, back.0, back.1)

-- which numbers a name has by its kind
pub three_some : (name : FileName) (kind : Kind) → kind ≡ name.kind → IsThree kind → HasNumbers name.kind name
    → (0 < name.number) × (0 < name.index) × (0 < name.part)
three_some name kind same (inl e) has = subst (λ k. HasNumbers k name) (sym same ∙ e) has
three_some name kind same (inr e) has = subst (λ k. HasNumbers k name) (sym same ∙ e) has

one_of_kind : (name : FileName) (kind : Kind) → kind ≢ Index → kind ≢ Segment → HasNumbers kind name
    → (0 < name.number) × (name.index ≡ 0) × (name.part ≡ 0)
one_of_kind name Index not_index not_segment has = absurd (not_index refl)
one_of_kind name Segment not_index not_segment has = absurd (not_segment refl)
one_of_kind name _ not_index not_segment has = has

pub one_some : (name : FileName) (kind : Kind) → kind ≡ name.kind → kind ≢ Index → kind ≢ Segment → HasNumbers name.kind name
    → (0 < name.number) × (name.index ≡ 0) × (name.part ≡ 0)
one_some name kind same not_index not_segment has = one_of_kind name kind not_index not_segment (subst (λ k. HasNumbers k name) (sym same) has)

-- equal fields make equal names
pub same_name : (name : FileName) (kind : Kind) (number index part : ℕ) → kind ≡ name.kind → number ≡ name.number → index ≡ name.index
    → part ≡ name.part
    → record { kind = kind; number = number; index = index; part = part } ≡ name
same_name name kind number index part k n i p = λ j. record { kind = k j; number = n j; index = i j; part = p j }
