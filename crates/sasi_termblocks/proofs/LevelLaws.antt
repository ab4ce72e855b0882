-- Levels of blocks, one after another.
use Rattle.std.proofs.Common.{◌≡◌, ℕ, zero, suc, ◌+◌, ◌*◌, ◌<◌, ◌≤◌, List, [], ◌∷◌, ◌++◌, length, take, false, refl, sym, ap, ◌∙◌, subst, arith, add-one, rules}
use Rattle.std.proofs.lemmas.List.{length-map, length_push, map_push, take_more}
use Rattle.std.specs.Prelude.{get_or, min, ◌^◌, ◌-◌, ◌==◌, Bool, if◌then◌else◌}
use Rattle.sasi_host.specs.declared.name.FileName.{FileName}
use Rattle.sasi_host.specs.Names.{Bytes}
use Rattle.sasi_host.specs.View.{View, Reaches}
use Rattle.sasi_tokentree.specs.Writes.{Writes}
use Rattle.sasi_tokentree.proofs.WriteLaws.{writes_on}
use Rattle.sasi_termblocks.specs.declared.packer.Packer.{Packer}
use Rattle.sasi_termblocks.specs.declared.block_ref.BlockRef.{BlockRef}
use Rattle.sasi_termblocks.specs.declared.term_entry.TermEntry.{TermEntry}
use Rattle.sasi_termblocks.specs.Blocks.{Item, Cut, EndsAfter, IsRefOf, add, above, blocks, cut_of, first_term, first_terms, level_bytes, levels_bytes, next_at, pointer_item, pointers_to, items_of, term_item, top_of, top_pointer}
use Rattle.sasi_termblocks.specs.Writing.{AreShort, AreSmall, HasPushed, IsLevel, IsSmall, Packs, Writer}
use Rattle.sasi_termblocks.proofs.CutLaws.{cut_is, cut_push, fewer, offsets_length}
use Rattle.sasi_termblocks.proofs.EntryLaws.{pointer_small}

pub pointers_length : (at : ℕ) (terms : List Bytes) → length (pointers_to at terms) ≡ length terms
pointers_length at [] = refl
pointers_length at (term ∷ others) = ap suc (pointers_length (at + 4096) others)

pub pointers_small : (at : ℕ) (terms : List Bytes) → AreShort terms → AreSmall (pointers_to at terms)
pointers_small at [] short = tt
pointers_small at (term ∷ others) short = (pointer_small term at (short 0), pointers_small (at + 4096) others (λ k. short (suc k)))

-- the pointer with this index
pub pointer_at : (at : ℕ) (terms : List Bytes) (index : ℕ) (d : Item) → index < length terms → get_or (pointers_to at terms) index d ≡ pointer_item (get_or terms index []) (at + 4096 * index)
pointer_at at [] index d lt = absurd (omega (arith, lt))
pointer_at at (term ∷ others) zero d lt = ap (λ (n : ℕ). pointer_item term n) (omega arith)
pointer_at at (term ∷ others) (suc index) d lt =
    pointer_at (at + 4096) others index d (omega (arith, lt)) ∙ ap (λ (n : ℕ). pointer_item (get_or others index []) n) (omega arith)

pub pointers_more : (at : ℕ) (terms : List Bytes) (index : ℕ) → index < length terms
    → take (index + 1) (pointers_to at terms) ≡ take index (pointers_to at terms) ++ pointer_item (get_or terms index []) (at + 4096 * index) ∷ []
pointers_more at terms index lt =
    take_more (pointers_to at terms) index (record { term = []; bytes = [] }) (omega (arith, lt, pointers_length at terms))
    ∙ ap (λ (i : Item). take index (pointers_to at terms) ++ i ∷ []) (pointer_at at terms index (record { term = []; bytes = [] }) lt)

-- ---- the level above

-- it has fewer blocks
pub fewer_above : (at : ℕ) (terms next : List Bytes) → AreShort terms → 2 ≤ length terms → next ≡ first_terms (pointers_to at terms) → length next < length terms
fewer_above at terms next short two is =
    let less = fewer (pointers_to at terms) (pointers_small at terms short) (omega (arith, two, pointers_length at terms)) in
    omega (arith, less, pointers_length at terms, ap (λ (l : List Bytes). length l) is, length-map (blocks (pointers_to at terms)) first_term)

pub level_as : (bytes same : Bytes) (terms alike : List Bytes) (items : List Item) → same ≡ bytes → alike ≡ terms → IsLevel bytes terms items → IsLevel same alike items
level_as bytes same terms alike items is are level = record {
  bytes_are = is ∙ level.bytes_are;
  terms_are = are ∙ level.terms_are;
  whole = ap (λ (l : Bytes). length l) is ∙ level.whole ∙ ap (λ (l : List Bytes). 4096 * length l) (sym are);
}

-- a pointer more
pub pointer_pushed : (packer : Packer) (at : ℕ) (terms : List Bytes) (index : ℕ) (term : Bytes) (place : ℕ) → index < length terms → term ≡ get_or terms index [] → place ≡ at + 4096 * index
    → Packs packer (add (cut_of (take index (pointers_to at terms))) (pointer_item term place)) → Packs packer (cut_of (take (index + 1) (pointers_to at terms)))
pointer_pushed packer at terms index term place lt term_is place_is packs =
    let so_far = take index (pointers_to at terms) in
    let item : pointer_item term place ≡ pointer_item (get_or terms index []) (at + 4096 * index) =
    ap (λ (t : Bytes). pointer_item t place) term_is ∙ ap (λ (n : ℕ). pointer_item (get_or terms index []) n) place_is in
    subst (λ (l : List Item). Packs packer (cut_of l)) (ap (λ (i : Item). so_far ++ i ∷ []) item ∙ sym (pointers_more at terms index lt))
    (subst (λ (c : Cut). Packs packer c) (sym (cut_push so_far (pointer_item term place))) packs)

-- a level of one block is the last
pub one_ends : (at : ℕ) (items : List Item) (bytes : Bytes) (terms : List Bytes) → IsLevel bytes terms items → length terms ≤ 1 → EndsAfter 0 at items
unfolding EndsAfter
one_ends at items bytes terms level le = omega (arith, le, ap (λ (l : List Bytes). length l) level.terms_are, length-map (blocks items) first_term)

pub one_written : (a b : View) (file : FileName) (at : ℕ) (items : List Item) (bytes : Bytes) (terms : List Bytes) → IsLevel bytes terms items → Writes a b file at bytes → Writes a b file at (levels_bytes 0 at items)
unfolding levels_bytes
one_written a b file at items bytes terms level writes = subst (λ (l : Bytes). Writes a b file at l) level.bytes_are writes

pub one_top : (at : ℕ) (items : List Item) → at ≡ top_of 0 at items
unfolding top_of
one_top at items = refl

next_is : (at next : ℕ) (items : List Item) (bytes : Bytes) (terms : List Bytes) → IsLevel bytes terms items → next ≡ at + length bytes → next ≡ next_at at items
next_is at next items bytes terms level is = omega (arith, is, level.whole, ap (λ (l : List Bytes). length l) level.terms_are, length-map (blocks items) first_term)

above_is : (at : ℕ) (items : List Item) (bytes : Bytes) (terms : List Bytes) → IsLevel bytes terms items → pointers_to at terms ≡ above at items
above_is at items bytes terms level = ap (λ (l : List Bytes). pointers_to at l) level.terms_are

pub more_end : (at next more : ℕ) (items : List Item) (bytes : Bytes) (terms : List Bytes) → IsLevel bytes terms items → next ≡ at + length bytes → 2 ≤ length terms
    → EndsAfter more next (pointers_to at terms) → EndsAfter (more + 1) at items
unfolding EndsAfter
more_end at next more items bytes terms level is two ends =
    rw add-one (
      omega (arith, two, ap (λ (l : List Bytes). length l) level.terms_are, length-map (blocks items) first_term),
      subst (λ (l : List Item). EndsAfter more (next_at at items) l) (above_is at items bytes terms level)
          (subst (λ (n : ℕ). EndsAfter more n (pointers_to at terms)) (next_is at next items bytes terms level is) ends),
    )

pub more_top : (at next more top : ℕ) (items : List Item) (bytes : Bytes) (terms : List Bytes) → IsLevel bytes terms items → next ≡ at + length bytes
    → top ≡ top_of more next (pointers_to at terms) → top ≡ top_of (more + 1) at items
unfolding top_of
more_top at next more top items bytes terms level is top_is =
    rw add-one
    (top_is ∙ ap (λ (n : ℕ). top_of more n (pointers_to at terms)) (next_is at next items bytes terms level is)
    ∙ ap (λ (l : List Item). top_of more (next_at at items) l) (above_is at items bytes terms level))

pub more_written : (a b c : View) (file : FileName) (at next more : ℕ) (items : List Item) (bytes : Bytes) (terms : List Bytes) → IsLevel bytes terms items → next ≡ at + length bytes
    → Reaches a file at → Writes a b file at bytes → Writes b c file next (levels_bytes more next (pointers_to at terms)) → Writes a c file at (levels_bytes (more + 1) at items)
unfolding levels_bytes
more_written a b c file at next more items bytes terms level is reaches first second =
    rw add-one
    (writes_on a b c file at (level_bytes items) (levels_bytes more (next_at at items) (above at items)) reaches
    (subst (λ (l : Bytes). Writes a b file at l) level.bytes_are first)
    (subst (λ (n : ℕ). Writes b c file n (levels_bytes more (next_at at items) (above at items))) (is ∙ ap (λ (l : Bytes). at + length l) level.bytes_are)
    (subst (λ (l : List Item). Writes b c file next (levels_bytes more (next_at at items) l)) (above_is at items bytes terms level)
    (subst (λ (n : ℕ). Writes b c file next (levels_bytes more n (pointers_to at terms))) (next_is at next items bytes terms level is) second))))

-- ---- the writer

-- its reference
pub refers : (at : ℕ) (entries : List TermEntry) (made : BlockRef) (bytes : Bytes) (terms : List Bytes) (count levels top pushed : ℕ) → IsLevel bytes terms (items_of entries)
    → EndsAfter levels at (items_of entries) → top ≡ top_of levels at (items_of entries) → pushed ≡ length entries → count ≡ length terms
    → made ≡ record { first = at; blocks = count; levels = levels; top = (if levels == 0 then 0 else top); terms = pushed } → IsRefOf at entries made
refers at entries made bytes terms count levels top pushed level ends top_is pushed_is count_is is =
    subst (λ (r : BlockRef). IsRefOf at entries r) (sym is) (record {
      first = refl;
      blocks_are = count_is ∙ ap (λ (l : List Bytes). length l) level.terms_are ∙ length-map (blocks (items_of entries)) first_term;
      levels_are = ends;
      top_is = pointer levels top top_is;
      terms_are = pushed_is;
    })
  where
    pointer : (levels top : ℕ) → top ≡ top_of levels at (items_of entries) → (if levels == 0 then 0 else top) ≡ top_pointer levels at (items_of entries)
    pointer zero top is = refl
    pointer (suc more) top is = let test : (suc more == 0) ≡ false = search rules in ap (λ (t : Bool). if t then 0 else top) test ∙ is

small_push : (items : List Item) (item : Item) → AreSmall items → length item.bytes ≤ 1200 → AreSmall (items ++ item ∷ [])
small_push [] item small le = (le, tt)
small_push (first ∷ others) item small le = (small.0, small_push others item small.1 le)

-- an entry more
pub entry_pushed : (was : Writer) (now : Packer) (terms : ℕ) (entries : List TermEntry) (entry : TermEntry) → HasPushed was entries → length was.packer.full.items < 2 ^ 63 → IsSmall was.packer
    → terms ≡ min (was.terms + 1) (2 ^ 64 - 1) → length (term_item entry).bytes ≤ 1200 → Packs now (add (cut_of (items_of entries)) (term_item entry))
    → HasPushed (record { packer = now; terms = terms }) (entries ++ entry ∷ [])
entry_pushed was now terms entries entry has room small terms_is le packs =
    let all = map_push term_item entries entry in
    let cut = cut_is (items_of entries) has.small in
    let starts = ap (λ (l : List ℕ). length l) has.packs.starts_are ∙ offsets_length 0 (cut_of (items_of entries)).last in
    record {
      packs = subst (λ (l : List Item). Packs now (cut_of l)) (sym all) (subst (λ (c : Cut). Packs now c) (sym (cut_push (items_of entries) (term_item entry))) packs);
      small = subst (λ (l : List Item). AreSmall l) (sym all) (small_push (items_of entries) (term_item entry) has.small le);
      terms_are = omega (arith, terms_is, has.terms_are, length_push entries entry, cut.most, length-map entries term_item, has.packs.whole, room, starts, small.size);
    }
