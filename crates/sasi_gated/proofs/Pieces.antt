-- One more part of a payload, from the buffered page.
use Rattle.std.proofs.Common.{◌≡◌, ℕ, ◌+◌, ◌-◌, ◌*◌, ◌/◌, ◌%◌, ◌<◌, ◌≤◌, ◌++◌, length, take, drop, sym, ◌∙◌, ap, arith, length-drop}
use Rattle.std.specs.Prelude.{min}
use Rattle.std.proofs.lemmas.List.{drop-drop}
use Rattle.std.proofs.Math.Seq.{take-add}
use Rattle.sasi_host.specs.Names.{Bytes}
use Rattle.sasi_host.proofs.Pages.{page_gives, page_long}

module _ (bytes page part : Bytes) (at : ℕ) (page_is : page ≡ take 4096 (drop (4096 * (at / 4096)) bytes)) (part_is : part ≡ drop (at % 4096) page) where
  -- the part from an offset on: up to the end of the page or of the file
  pub part_long : length part ≡ min (4096 - at % 4096) (length bytes - at)
  part_long = omega (arith, ap length part_is, length-drop (at % 4096) page, page_long bytes page at page_is)

  -- and its bytes are those of the file
  pub part_front : (count : ℕ) → count ≤ length part → take count part ≡ take count (drop at bytes)
  part_front count le = ap (λ (l : Bytes). take count l) part_is ∙ page_gives bytes page at count page_is (omega (arith, le, part_long))

  pub part_within : (count : ℕ) → 0 < count → count ≤ length part → at + count ≤ length bytes
  part_within count some le = omega (arith, some, le, part_long)

  -- an empty one shows that the file ends there
  pub part_none : length part ≡ 0 → at ≤ length bytes → length bytes ≡ at
  part_none none le = omega (arith, none, le, part_long)

-- the parts so far and the next one are a longer part
pub piece_joins : (bytes out new : Bytes) (at done count : ℕ) → out ≡ take done (drop at bytes) → new ≡ out ++ take count (drop (at + done) bytes)
    → new ≡ take (done + count) (drop at bytes)
piece_joins bytes out new at done count is grown =
    grown ∙ ap (λ (l : Bytes). l ++ take count (drop (at + done) bytes)) is ∙ ap (λ (l : Bytes). take done (drop at bytes) ++ take count l) (sym (drop-drop done at bytes))
    ∙ sym (take-add done count (drop at bytes))

-- a part that ends too early shows that the payload does
pub piece_short : (bytes : Bytes) (at done count : ℕ) → length bytes ≡ at + done → done < count → length (drop at bytes) < count
piece_short bytes at done count ends less = omega (arith, ends, less, length-drop at bytes)
