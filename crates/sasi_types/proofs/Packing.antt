-- Literals in a list of small items.
use Rattle.std.proofs.Common.{◌≡◌, ℕ, ◌+◌, ◌-◌, ◌≤◌, suc, List, [], ◌∷◌, ◌++◌, length, take, drop, refl, sym, ap, ◌∙◌, arith}
use Rattle.std.proofs.lemmas.List.{take-append-le, drop-append-le, length-drop, length-append}
use Rattle.sasi_types.specs.declared.literal.Literal.{Literal}
use Rattle.sasi_types.specs.declared.literal.Literal.TheVariants as literal
use Rattle.sasi_types.specs.declared.literal.Number.TheVariants as number
use Rattle.sasi_types.specs.declared.packed_literal.PackedLiteral.{PackedLiteral}
use Rattle.sasi_types.specs.declared.packed_literal.PackedLiteral.TheVariants as packed
use Rattle.sasi_types.specs.PackedLiterals.{text_bytes, others_in, unpacked, text_of, other_of}
use Rattle.sasi_types.specs.Packs.{Packs}

-- two lists, one behind the other
pub unpacked_append : (items more : List PackedLiteral) (bytes more_bytes : List ℕ) (others more_others : List Literal) → text_bytes items ≡ length bytes → others_in items ≡ length others
    → unpacked (items ++ more) (bytes ++ more_bytes) (others ++ more_others) ≡ unpacked items bytes others ++ unpacked more more_bytes more_others
unpacked_append [] more [] more_bytes [] more_others p q = refl
unpacked_append [] more (b ∷ bytes) more_bytes others more_others p q = absurd (omega arith)
unpacked_append [] more [] more_bytes (o ∷ others) more_others p q = absurd (omega arith)
unpacked_append (packed.Null ∷ items) more bytes more_bytes others more_others p q =
    ap (λ l. literal.Null ∷ l) (unpacked_append items more bytes more_bytes others more_others p q)
unpacked_append (packed.Int n ∷ items) more bytes more_bytes others more_others p q =
    ap (λ l. literal.Number (number.Fits n) ∷ l) (unpacked_append items more bytes more_bytes others more_others p q)
unpacked_append (packed.Text size ∷ items) more bytes more_bytes others more_others p q =
    let within : size ≤ length bytes = omega arith in
    let less : text_bytes items ≡ length bytes - size = omega arith in
    let left : text_bytes items ≡ length (drop size bytes) = less ∙ sym (length-drop size bytes) in
    rw (take-append-le size bytes more_bytes within, drop-append-le size bytes more_bytes within)
    (ap (λ l. literal.Text (take size bytes) ∷ l) (unpacked_append items more (drop size bytes) more_bytes others more_others left q))
unpacked_append (packed.Other ∷ items) more bytes more_bytes [] more_others p q = absurd (omega arith)
unpacked_append (packed.Other ∷ items) more bytes more_bytes (o ∷ others) more_others p q =
    ap (λ l. o ∷ l) (unpacked_append items more bytes more_bytes others more_others p (omega arith))

-- one literal more at the end
pub packed_more : (items : List PackedLiteral) (bytes : List ℕ) (others : List Literal) (item : PackedLiteral) (l : Literal) → Packs item l → text_bytes items ≡ length bytes → others_in items ≡ length others
    → unpacked (items ++ item ∷ []) (bytes ++ text_of l) (others ++ other_of item l) ≡ unpacked items bytes others ++ l ∷ []
packed_more items bytes others item l packs p q =
    unpacked_append items (item ∷ []) bytes (text_of l) others (other_of item l) p q ∙ ap (λ more. unpacked items bytes others ++ more) packs.gives

-- as many as items
pub unpacked_length : (items : List PackedLiteral) (bytes : List ℕ) (others : List Literal) → others_in items ≡ length others → length (unpacked items bytes others) ≡ length items
unpacked_length [] bytes others q = refl
unpacked_length (packed.Null ∷ items) bytes others q = ap suc (unpacked_length items bytes others q)
unpacked_length (packed.Int n ∷ items) bytes others q = ap suc (unpacked_length items bytes others q)
unpacked_length (packed.Text size ∷ items) bytes others q = ap suc (unpacked_length items (drop size bytes) others q)
unpacked_length (packed.Other ∷ items) bytes [] q = absurd (omega arith)
unpacked_length (packed.Other ∷ items) bytes (o ∷ others) q = ap suc (unpacked_length items bytes others (omega arith))

-- the counts of two lists, one behind the other
text_bytes_append : (items more : List PackedLiteral) → text_bytes (items ++ more) ≡ text_bytes items + text_bytes more
text_bytes_append [] more = omega arith
text_bytes_append (packed.Null ∷ items) more = text_bytes_append items more
text_bytes_append (packed.Int n ∷ items) more = text_bytes_append items more
text_bytes_append (packed.Text size ∷ items) more = let rest = text_bytes_append items more in omega arith
text_bytes_append (packed.Other ∷ items) more = text_bytes_append items more

others_in_append : (items more : List PackedLiteral) → others_in (items ++ more) ≡ others_in items + others_in more
others_in_append [] more = omega arith
others_in_append (packed.Null ∷ items) more = others_in_append items more
others_in_append (packed.Int n ∷ items) more = others_in_append items more
others_in_append (packed.Text size ∷ items) more = others_in_append items more
others_in_append (packed.Other ∷ items) more = let rest = others_in_append items more in omega arith

-- they hold of one literal more
pub counts_more : (items : List PackedLiteral) (bytes : List ℕ) (others : List Literal) (item : PackedLiteral) (l : Literal) → Packs item l → text_bytes items ≡ length bytes → others_in items ≡ length others
    → (text_bytes (items ++ item ∷ []) ≡ length (bytes ++ text_of l)) × (others_in (items ++ item ∷ []) ≡ length (others ++ other_of item l))
counts_more items bytes others item l packs p q =
    let bytes_are : text_bytes (items ++ item ∷ []) ≡ length (bytes ++ text_of l) =
    text_bytes_append items (item ∷ []) ∙ rw (p, packs.bytes) (sym (length-append bytes (text_of l))) in
    let others_are : others_in (items ++ item ∷ []) ≡ length (others ++ other_of item l) =
    others_in_append items (item ∷ []) ∙ rw (q, packs.others) (sym (length-append others (other_of item l))) in
    (bytes_are, others_are)
