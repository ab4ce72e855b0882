-- The bytes of a few pairs that stand in the entry of their term.
use Rattle.std.specs.Prelude.{Bool, true, ◌&&◌, ◌||◌, ◌==◌, nat_lt, List, Option, Some, None, refl}
use Rattle.std.specs.Int.{w8, w64}
use Rattle.sasi_types.specs.declared.tree.Pair.{Pair}
use Rattle.sasi_host.specs.declared.damage.FormatRule.TheVariants as rule
use Rattle.sasi_formats.specs.Formats.{Format, Counted}
use Rattle.sasi_formats.specs.Fields.{◌&◌, last, checked, mapped, number, in_range}

-- by token, and then by place
abbrev pub is_before : Pair → Pair → Bool
is_before a b = nat_lt a.token b.token || (a.token == b.token && nat_lt a.place b.place)

abbrev pub is_behind : Option Pair → Pair → Bool
is_behind None pair = true
is_behind (Some before) pair = is_before before pair

-- a token and a place
abbrev pub pair : Format Pair
pair = mapped (λ p. record { token = p.0; place = p.1 }) (λ p. (p.token, p.place)) (λ _. refl) (number w64 & number w64)

-- a count of one byte, and one to five pairs, which rise
abbrev pub few_pairs : Format (List Pair)
few_pairs = Counted (in_range w8 1 5) (λ before. checked rule.Order 8 (is_behind (last before)) pair)
