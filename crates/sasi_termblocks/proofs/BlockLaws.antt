-- The entries of a block are read where it tells them.
use Rattle.std.proofs.Common.{◌≡◌, ℕ, zero, suc, ◌+◌, ◌-◌, ◌*◌, ◌^◌, ◌<◌, ◌≤◌, List, [], ◌∷◌, ◌++◌, length, take, drop, refl, sym, ap, ◌∙◌, arith, append_assoc, length-append}
use Rattle.std.proofs.lemmas.List.{drop_at, get_or-drop}
use Rattle.std.specs.List.{flat_map}
use Rattle.std.specs.Int.{to_be_bytes, from_be_bytes, w16}
use Rattle.std.specs.Prelude.{get_or, replicate}
use Rattle.sasi_host.specs.Names.{Bytes}
use Rattle.sasi_formats.specs.Formats.{Format, Encodes}
use Rattle.sasi_formats.specs.Reader.{Corruption, Got, read, start}
use Rattle.sasi_formats.specs.Failures.{Fails}
use Rattle.sasi_formats.proofs.Agreement.{apart}
use Rattle.sasi_formats.proofs.Completed.{complete}
use Rattle.sasi_formats.proofs.NumberLaws.{number_in_put}
use Rattle.sasi_termblocks.specs.Blocks.{Item, block, entries_bytes, offsets, size}
use Rattle.sasi_termblocks.specs.Windows.{HasEntry, bytes_in, count_in, number_at, offset_in}
use Rattle.sasi_termblocks.proofs.CutLaws.{offsets_length, table_length}

-- ---- numbers

pub number_read : (bytes : Bytes) (at n : ℕ) (rest : Bytes) → n < 2 ^ 16 → drop at bytes ≡ to_be_bytes w16 n ++ rest → number_at bytes at ≡ n
unfolding number_at
number_read bytes at n rest fits is = ap (λ (l : Bytes). from_be_bytes w16 l) is ∙ number_in_put w16 n fits

-- the two bytes that a reader takes
pub number_is : (bytes : Bytes) (at n : ℕ) → n ≡ from_be_bytes w16 (get_or bytes at 0 ∷ get_or bytes (at + 1) 0 ∷ []) → n ≡ number_at bytes at
unfolding number_at
number_is bytes at n is =
    let first : get_or bytes at 0 ≡ get_or (drop at bytes) 0 0 = ap (λ (k : ℕ). get_or bytes k 0) (omega arith) ∙ sym (get_or-drop at bytes 0 0) in
    let second : get_or bytes (at + 1) 0 ≡ get_or (drop at bytes) 1 0 = sym (get_or-drop at bytes 1 0) in
    is ∙ ap (λ (x : ℕ). from_be_bytes w16 (x ∷ get_or bytes (at + 1) 0 ∷ [])) first
    ∙ ap (λ (x : ℕ). from_be_bytes w16 (get_or (drop at bytes) 0 0 ∷ x ∷ [])) second

-- a number of a table
table_at : (numbers : List ℕ) (index : ℕ) (rest : Bytes) → index < length numbers
    → drop (2 * index) (flat_map (to_be_bytes w16) numbers ++ rest) ≡ to_be_bytes w16 (get_or numbers index 0) ++ (flat_map (to_be_bytes w16) (drop (suc index) numbers) ++ rest)
table_at [] index rest lt = absurd (omega (arith, lt))
table_at (n ∷ others) zero rest lt = append_assoc (to_be_bytes w16 n) (flat_map (to_be_bytes w16) others) rest
table_at (n ∷ others) (suc index) rest lt =
    let more : 2 * suc index ≡ suc (suc (2 * index)) = omega arith in
    ap (λ (k : ℕ). drop k ((to_be_bytes w16 n ++ flat_map (to_be_bytes w16) others) ++ rest)) more ∙ table_at others index rest (omega (arith, lt))

-- ---- where an entry stands

offset_at : (at : ℕ) (items : List Item) (index : ℕ) → index < length items → get_or (offsets at items) index 0 ≡ at + length (entries_bytes (take index items))
offset_at at [] index lt = absurd (omega (arith, lt))
offset_at at (item ∷ others) zero lt = omega arith
offset_at at (item ∷ others) (suc index) lt =
    offset_at (at + length item.bytes) others index (omega (arith, lt)) ∙ omega (arith, length-append item.bytes (entries_bytes (take index others)))

entries_split : (items : List Item) (index : ℕ) (d : Item) → index < length items
    → entries_bytes items ≡ entries_bytes (take index items) ++ ((get_or items index d).bytes ++ entries_bytes (drop (suc index) items))
entries_split [] index d lt = absurd (omega (arith, lt))
entries_split (item ∷ others) zero d lt = refl
entries_split (item ∷ others) (suc index) d lt =
    ap (λ (l : Bytes). item.bytes ++ l) (entries_split others index d (omega (arith, lt)))
    ∙ sym (append_assoc item.bytes (entries_bytes (take index others)) ((get_or others index d).bytes ++ entries_bytes (drop (suc index) others)))

regroup : (h t a b c z : Bytes) → h ++ (t ++ ((a ++ (b ++ c)) ++ z)) ≡ (h ++ (t ++ a)) ++ (b ++ (c ++ z))
regroup h t a b c z = simp append_assoc

-- what a block tells
pub count_is : (items : List Item) → size items ≤ 4096 → count_in (block items) ≡ length items
unfolding block
count_is items le = number_read (block items) 0 (length items) _ (omega (arith, le)) refl

offset_short : (items : List Item) (index : ℕ) (d : Item) → index < length items → length (entries_bytes (take index items)) ≤ length (entries_bytes items)
offset_short items index d lt =
    omega (
      arith,
      ap (λ (l : Bytes). length l) (entries_split items index d lt),
      length-append (entries_bytes (take index items)) ((get_or items index d).bytes ++ entries_bytes (drop (suc index) items)),
    )

pub offset_is : (items : List Item) (index : ℕ) (d : Item) → size items ≤ 4096 → index < length items → offset_in (block items) index ≡ 2 + 2 * length items + length (entries_bytes (take index items))
unfolding block
offset_is items index d le lt =
    let n = length items in
    let numbers = offsets (2 + 2 * n) items in
    let rest : Bytes = entries_bytes items ++ replicate (4096 - size items) 0 in
    let here = offset_at (2 + 2 * n) items index lt in
    number_read (block items) (2 + 2 * index) (get_or numbers index 0) _ (omega (arith, le, here, offset_short items index d lt))
    (ap (λ (k : ℕ). drop k (block items)) (two_more (2 * index)) ∙ table_at numbers index rest (omega (arith, lt, offsets_length (2 + 2 * n) items)))
    ∙ here
  where
    two_more : (k : ℕ) → 2 + k ≡ suc (suc k)
    two_more k = omega arith

taken : (items : List Item) (index : ℕ) (d : Item) → index < length items → length (entries_bytes (take (suc index) items)) ≡ length (entries_bytes (take index items)) + length (get_or items index d).bytes
taken [] index d lt = absurd (omega (arith, lt))
taken (item ∷ others) zero d lt = omega (arith, length-append item.bytes [])
taken (item ∷ others) (suc index) d lt =
    omega (arith, length-append item.bytes (entries_bytes (take (suc index) others)), length-append item.bytes (entries_bytes (take index others)), taken others index d (omega (arith, lt)))

-- an entry stands where the one before it ends
pub next_offset : (items : List Item) (index : ℕ) (d : Item) → size items ≤ 4096 → index + 1 < length items → offset_in (block items) (index + 1) ≡ offset_in (block items) index + length (get_or items index d).bytes
next_offset items index d le lt =
    let more : index + 1 ≡ suc index = omega arith in
    let one_more : length (entries_bytes (take (index + 1) items)) ≡ length (entries_bytes (take (suc index) items)) = ap (λ (n : ℕ). length (entries_bytes (take n items))) more in
    omega (arith, offset_is items index d le (omega (arith, lt)), offset_is items (index + 1) d le lt, one_more, taken items index d (omega (arith, lt)))

-- what stands there: the bytes of the entry, and others behind them
pub record StandsIn (bytes : Bytes) (index : ℕ) (entry : Bytes) : Type 0 where
  pub behind : Bytes
  pub is : bytes_in bytes index ≡ entry ++ behind

pub entry_stands : (items : List Item) (index : ℕ) (d : Item) → size items ≤ 4096 → index < length items → StandsIn (block items) index (get_or items index d).bytes
unfolding bytes_in block
entry_stands items index d le lt =
    let n = length items in
    let head = to_be_bytes w16 n in
    let table = flat_map (to_be_bytes w16) (offsets (2 + 2 * n) items) in
    let front = entries_bytes (take index items) in
    let back = entries_bytes (drop (suc index) items) in
    let item = (get_or items index d).bytes in
    let zeros : Bytes = replicate (4096 - size items) 0 in
    let split : block items ≡ (head ++ (table ++ front)) ++ (item ++ (back ++ zeros)) =
    ap (λ (l : Bytes). head ++ (table ++ (l ++ zeros))) (entries_split items index d lt) ∙ regroup head table front item back zeros in
    let long : length (head ++ (table ++ front)) ≡ offset_in (block items) index =
    omega (arith, length-append head (table ++ front), length-append table front, table_length (offsets (2 + 2 * n) items), offsets_length (2 + 2 * n) items) ∙ sym (offset_is items index d le lt) in
    record { behind = back ++ zeros; is = ap (λ (l : Bytes). drop (offset_in (block items) index) l) split ∙ drop_at (head ++ (table ++ front)) (item ++ (back ++ zeros)) (offset_in (block items) index) long }

-- ---- what is read there

-- a value that begins there
pub entry_done : {A : Type 0} (format : Format A) (bytes : Bytes) (index : ℕ) (value : A) (entry rest : Bytes) → Encodes format value entry → StandsIn bytes index (entry ++ rest)
    → (left : Bytes) × (read format (start (bytes_in bytes index)) ≡ Got value (record { done = entry; left = left }))
entry_done format bytes index value entry rest encodes stands =
    let behind = rest ++ stands.behind in
    let is : bytes_in bytes index ≡ entry ++ behind = stands.is ∙ append_assoc entry rest stands.behind in
    (behind, complete format value entry (start (bytes_in bytes index)) (record { done = entry; left = behind }) encodes (record { next = is; done = refl }))

pub entry_read : {A : Type 0} (format : Format A) (bytes : Bytes) (index : ℕ) (value : A) (entry rest : Bytes) → Encodes format value entry → StandsIn bytes index (entry ++ rest) → HasEntry format bytes index value
entry_read format bytes index value entry rest encodes stands =
    let done = entry_done format bytes index value entry rest encodes stands in
    (record { done = entry; left = done.0 }, done.1)

pub one_entry : {A : Type 0} (format : Format A) (bytes : Bytes) (index : ℕ) (a b : A) → HasEntry format bytes index a → HasEntry format bytes index b → a ≡ b
one_entry format bytes index a b first second = let same : Got a first.0 ≡ Got b second.0 = sym first.1 ∙ second.1 in cc

-- and none that fails
pub entry_sound : {A : Type 0} (format : Format A) (bytes : Bytes) (index : ℕ) (value : A) (entry rest : Bytes) (f : Corruption) → Encodes format value entry → StandsIn bytes index (entry ++ rest)
    → Fails format (start (bytes_in bytes index)) f → ⊥
entry_sound format bytes index value entry rest f encodes stands fails =
    let behind = rest ++ stands.behind in
    let is : bytes_in bytes index ≡ entry ++ behind = stands.is ∙ append_assoc entry rest stands.behind in
    apart format (start (bytes_in bytes index)) (record { done = entry; left = behind }) value f
    (record { field = entry; is = encodes; passes = record { next = is; done = refl } }) fails
