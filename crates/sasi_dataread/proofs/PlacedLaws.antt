-- For callers: the partitions of the keys of a token stand at their offsets.
use Rattle.std.proofs.Common.{◌≡◌, ℕ, ◌+◌, nat_eq, Bool, true, false, if◌then◌else◌, List, [], ◌∷◌, ◌++◌, length, refl, sym, ap, ◌∙◌, append_assoc, append-nil, length-append}
use Rattle.std.specs.List.{AllByRecursion}
use Rattle.sasi_types.specs.declared.partitioner.Partitioner.{Partitioner}
use Rattle.sasi_types.specs.Token.{token_of}
use Rattle.sasi_model.specs.Cells.{Partition}
use Rattle.sasi_host.specs.Names.{Bytes}
use Rattle.sasi_datawrite.specs.Format.{Content, front, header, partition_bytes}
use Rattle.sasi_datawrite.proofs.Laws.{front_push}
use Rattle.sasi_dataread.specs.declared.token_keys.PlacedKey.{PlacedKey}
use Rattle.sasi_dataread.specs.Opened.{StandsAt}
use Rattle.sasi_dataread.specs.PlacedKeys.{keys_at}

-- the content has a partition of the key at the offset
abbrev pub IsPlaced : Content → PlacedKey → Type 0
IsPlaced content placed = (part : Partition) × StandsAt content placed.place placed.key part

placed_behind : (partitioner : Partitioner) (token at : ℕ) (content before others : Content) → content ≡ before ++ others → at ≡ length (front before) → AllByRecursion (IsPlaced content) (keys_at partitioner token at others)
placed_behind partitioner token at content before [] is begins = tt
placed_behind partitioner token at content before (one ∷ others) is begins =
    by (nat_eq (token_of partitioner one.0) token)
    (placed_behind partitioner token (at + length (partition_bytes one.0 one.1)) content (before ++ one ∷ []) others (is ∙ regroup before one others)
    (ap (λ (n : ℕ). n + length (partition_bytes one.0 one.1)) begins ∙ sym (ap (λ (b : Bytes). length b) (front_push before one.0 one.1) ∙ length-append (front before) (partition_bytes one.0 one.1))))
  where
    left : List PlacedKey
    left = keys_at partitioner token (at + length (partition_bytes one.0 one.1)) others

    by : (t : Bool) → AllByRecursion (IsPlaced content) left → AllByRecursion (IsPlaced content) ((if t then record { place = at; key = one.0 } ∷ [] else []) ++ left)
    by true rest = ((one.1, record { before = before; behind = others; is = is; begins = begins }), rest)
    by false rest = rest

    regroup : (a : Content) (x : Bytes × Partition) (b : Content) → a ++ x ∷ b ≡ (a ++ x ∷ []) ++ b
    regroup a x b = simp append_assoc

-- **Each key of a token is that of a partition, which stands at its offset.**
pub keys_placed : (partitioner : Partitioner) (token : ℕ) (content : Content) → AllByRecursion (IsPlaced content) (keys_at partitioner token (length header) content)
keys_placed partitioner token content = placed_behind partitioner token (length header) content [] content refl (sym (ap (λ (b : Bytes). length b) (append-nil header)))
