-- The number of a type that is nearest to another one.
use Rattle.std.specs.Prelude.{◌≡◌, ◌-◌, ◌^◌, ℤ, pos, negsuc, ◌≤ℤ◌, FitsSigned}
use Rattle.std.proofs.Common.{ap, arith, pow_pos}
use Rattle.std.specs.Int.{Width, w32, int_max, int_min, saturate_signed}
use Rattle.std.proofs.lemmas.Int.{clamps, ints}
use mir.Val.{hbits}

pub nearest_fits : (w : Width) (z : ℤ) → FitsSigned w (saturate_signed w z)
nearest_fits w (pos n) = record { sfits = omega (arith, pow_pos (hbits w)) }
nearest_fits w (negsuc n) = record { sfits = omega (arith, pow_pos (hbits w)) }

-- no number of the type is between the two
pub nearest_below : (w : Width) (z x : ℤ) → FitsSigned w x → z ≤ℤ x → saturate_signed w z ≤ℤ x
nearest_below w (pos n) (pos m) fits le = omega (arith, ints, le, fits.sfits)
nearest_below w (pos n) (negsuc m) fits le = omega (arith, ints, le)
nearest_below w (negsuc n) (pos m) fits le = omega (arith, ints)
nearest_below w (negsuc n) (negsuc m) fits le = omega (arith, ints, le, fits.sfits)

pub nearest_above : (w : Width) (z x : ℤ) → FitsSigned w x → x ≤ℤ z → x ≤ℤ saturate_signed w z
nearest_above w (pos n) (pos m) fits le = omega (arith, ints, le, fits.sfits)
nearest_above w (pos n) (negsuc m) fits le = omega (arith, ints)
nearest_above w (negsuc n) (pos m) fits le = omega (arith, ints, le)
nearest_above w (negsuc n) (negsuc m) fits le = omega (arith, ints, le, fits.sfits)

-- where the type has a number below or above, that is the side of the nearest one
pub not_beyond : (w : Width) (z x : ℤ) → FitsSigned w x → x ≤ℤ z → saturate_signed w z ≤ℤ z
not_beyond w (pos n) x fits le = omega (arith, ints)
not_beyond w (negsuc n) (pos m) fits le = omega (arith, ints, le)
not_beyond w (negsuc n) (negsuc m) fits le = omega (arith, ints, le, fits.sfits)

pub not_short : (w : Width) (z x : ℤ) → FitsSigned w x → z ≤ℤ x → z ≤ℤ saturate_signed w z
not_short w (pos n) (pos m) fits le = omega (arith, ints, le, fits.sfits)
not_short w (pos n) (negsuc m) fits le = omega (arith, ints, le)
not_short w (negsuc n) x fits le = omega (arith, ints)

-- a number of the type is its own
pub nearest_same : (w : Width) (z : ℤ) → FitsSigned w z → saturate_signed w z ≡ z
nearest_same w (pos n) fits = ap pos (omega (arith, fits.sfits))
nearest_same w (negsuc n) fits = ap negsuc (omega (arith, fits.sfits))

-- what the code computes
pub nearest_clamped : (z : ℤ) → int_max (negsuc (2 ^ 31 - 1)) (int_min z (pos (2 ^ 31 - 1))) ≡ saturate_signed w32 z
nearest_clamped (pos n) = omega (arith, ints, clamps)
nearest_clamped (negsuc n) = omega (arith, ints, clamps)
