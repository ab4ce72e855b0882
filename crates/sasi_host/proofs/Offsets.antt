-- Bytes that stand at an offset of a file.
use Rattle.std.specs.Prelude.{◌≡◌, ◌≢◌, ℕ, ◌+◌, ◌≤◌, ◌++◌, length, take, drop, refl}
use Rattle.std.proofs.Common.{sym, ◌∙◌, ap, subst, arith, append_assoc, length-append, length-drop, take-append-drop}
use Rattle.std.proofs.lemmas.List.{take_at, drop_at, drop-drop, length-take-le}
use Rattle.std.proofs.Math.Seq.{take-add}
use Rattle.sasi_host.specs.declared.name.FileName.{FileName}
use Rattle.sasi_host.specs.declared.damage.Damage.{Damage}
use Rattle.sasi_host.specs.declared.damage.FormatRule.{FormatRule}
use Rattle.sasi_host.specs.Names.{Bytes}
use Rattle.sasi_host.specs.Damages.{HasAt, Differs, IsOther, seen_bytes}

-- a part of bytes stands in them
pub part_stands : (bytes : Bytes) (at n : ℕ) → at + n ≤ length bytes → HasAt bytes at (take n (drop at bytes))
part_stands bytes at n le = record {
  front = take at bytes;
  rest = drop n (drop at bytes);
  is =
      sym
      (append_assoc (take at bytes) (take n (drop at bytes)) (drop n (drop at bytes)) ∙ ap (λ (l : Bytes). take at bytes ++ l) (take-append-drop n (drop at bytes)) ∙ take-append-drop at bytes);
  offset_is = length-take-le at bytes (omega arith);
}

-- and so does what was read there
pub window_at : (bytes window : Bytes) (at n : ℕ) → window ≡ take n (drop at bytes) → at + n ≤ length bytes → HasAt bytes at window
window_at bytes window at n is le = subst (λ (l : Bytes). HasAt bytes at l) (sym is) (part_stands bytes at n le)

-- what stands somewhere is read there
pub at_window : (bytes : Bytes) (at : ℕ) (part : Bytes) → HasAt bytes at part → take (length part) (drop at bytes) ≡ part
at_window bytes at part has =
    ap (λ (l : Bytes). take (length part) (drop at l)) (has.is ∙ append_assoc has.front part has.rest) ∙ ap (λ (l : Bytes). take (length part) l)
    (drop_at has.front (part ++ has.rest) at has.offset_is) ∙ take_at part has.rest (length part) refl

-- and ends within
pub at_ends : (bytes : Bytes) (at : ℕ) (part : Bytes) → HasAt bytes at part → at + length part ≤ length bytes
at_ends bytes at part has = omega (arith, ap length has.is, has.offset_is, length-append (has.front ++ part) has.rest, length-append has.front part)

-- as many bytes at the same offset are the same
pub same_at : (bytes : Bytes) (at : ℕ) (p q : Bytes) → HasAt bytes at p → HasAt bytes at q → length p ≡ length q → p ≡ q
same_at bytes at p q hp hq long = sym (at_window bytes at p hp) ∙ ap (λ (n : ℕ). take n (drop at bytes)) long ∙ at_window bytes at q hq

-- the first of two parts, and the second
pub first_at : (bytes : Bytes) (at : ℕ) (p q : Bytes) → HasAt bytes at (p ++ q) → HasAt bytes at p
first_at bytes at p q has = record { front = has.front; rest = q ++ has.rest; is = has.is ∙ regroup has.front p q has.rest; offset_is = has.offset_is }
  where
    regroup : (a b c d : Bytes) → a ++ (b ++ c) ++ d ≡ a ++ b ++ (c ++ d)
    regroup a b c d = simp append_assoc

pub second_at : (bytes : Bytes) (at : ℕ) (p q : Bytes) → HasAt bytes at (p ++ q) → HasAt bytes (at + length p) q
second_at bytes at p q has = record {
  front = has.front ++ p;
  rest = has.rest;
  is = has.is
      ∙ regroup has.front p q has.rest;
  offset_is = length-append has.front p ∙ ap (λ (n : ℕ). n + length p) has.offset_is;
}
  where
    regroup : (a b c d : Bytes) → a ++ (b ++ c) ++ d ≡ (a ++ b) ++ c ++ d
    regroup a b c d = simp append_assoc

-- both, one behind the other
pub both_at : (bytes : Bytes) (at next : ℕ) (p q : Bytes) → HasAt bytes at p → next ≡ at + length p → HasAt bytes next q → HasAt bytes at (p ++ q)
both_at bytes at next p q hp is hq =
    window_at bytes (p ++ q) at (length p + length q)
    (ap (λ (l : Bytes). l ++ q) (sym (at_window bytes at p hp))
    ∙ ap (λ (l : Bytes). take (length p) (drop at bytes) ++ l)
    (sym (at_window bytes next q hq) ∙ ap (λ (n : ℕ). take (length q) (drop n bytes)) (omega (arith, is)) ∙ ap (λ (l : Bytes). take (length q) l)
    (sym (drop-drop (length p) at bytes)))
    ∙ sym (take-add (length p) (length q) (drop at bytes)))
    (omega (arith, at_ends bytes next q hq, is))

-- what stands in a part of the bytes stands in them
pub inner_at : (whole : Bytes) (offset : ℕ) (bytes : Bytes) (at : ℕ) (part : Bytes) → HasAt whole offset bytes → HasAt bytes at part
    → HasAt whole (offset + at) part
inner_at whole offset bytes at part outer inner = record {
  front = outer.front ++ inner.front;
  rest = inner.rest ++ outer.rest;
  is = outer.is ∙ ap (λ (l : Bytes). outer.front ++ l ++ outer.rest) inner.is ∙ regroup outer.front inner.front part inner.rest outer.rest;
  offset_is = length-append outer.front inner.front ∙ omega (arith, outer.offset_is, inner.offset_is);
}
  where
    regroup : (a b c d e : Bytes) → (a ++ ((b ++ c) ++ d)) ++ e ≡ ((a ++ b) ++ c) ++ (d ++ e)
    regroup a b c d e = simp append_assoc

pub differs_in : (whole : Bytes) (offset : ℕ) (bytes : Bytes) (at : ℕ) (seen wanted : Bytes) → HasAt whole offset bytes → Differs bytes at seen wanted
    → Differs whole (offset + at) seen wanted
differs_in whole offset bytes at seen wanted outer inner = record { stands = inner_at whole offset bytes at seen outer inner.stands; long = inner.long; differs = inner.differs }

-- at an offset of the bytes others stand than the wanted ones
pub other_at : (file : FileName) (at : ℕ) (bytes : Bytes) (start n : ℕ) (wanted : Bytes) (rule : FormatRule) (damage : Damage) → n ≡ length wanted
    → start + n ≤ length bytes → damage.file ≡ file → damage.at ≡ at + start → damage.rule ≡ rule
    → seen_bytes damage.seen ≡ take n (drop start bytes) → take (length wanted) (drop start bytes) ≢ wanted
    → IsOther file at bytes start wanted rule damage
other_at file at bytes start n wanted rule damage long le named offset rule_is seen other = record {
  named = named;
  rule_is = rule_is;
  offset_is = offset;
  differs = record {
    stands = window_at bytes (seen_bytes damage.seen) start n seen le;
    long = ap length seen ∙ length-take-le n (drop start bytes) (omega (arith, length-drop start bytes, le)) ∙ long;
    differs = λ same. other (ap (λ (k : ℕ). take k (drop start bytes)) (sym long) ∙ sym seen ∙ same);
  };
}
