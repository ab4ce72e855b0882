-- A search for a key among the keys of a token.
use Rattle.std.specs.Prelude.{◌≡◌, ℕ, false, List, map, Contains, Option, None, Some}
use Rattle.std.specs.List.{AllByRecursion}
use Rattle.std.specs.List.Sorted.{IsStrictlySortedBy}
use Rattle.sasi_types.specs.Key.{key_cmp, key_eq}
use Rattle.sasi_host.specs.Names.{Bytes}
use Rattle.sasi_dataread.specs.declared.token_keys.PlacedKey.{PlacedKey}

-- each key is below those after it
abbrev pub KeysRise : List PlacedKey → Type 0
KeysRise keys = IsStrictlySortedBy key_cmp (map (λ (placed : PlacedKey). placed.key) keys)

-- no key is this one
abbrev pub HasNo : Bytes → List PlacedKey → Type 0
HasNo key = AllByRecursion (λ (placed : PlacedKey). key_eq key placed.key ≡ false)

-- The offset is that of the key. Where the keys rise, none is given only if the key isn't among them.
abbrev pub FindsOffset : List PlacedKey → Bytes → Option ℕ → Type 0
FindsOffset keys key None = KeysRise keys → HasNo key keys
FindsOffset keys key (Some place) = Contains keys (record { place = place; key = key })
