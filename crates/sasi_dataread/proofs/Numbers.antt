-- Numbers at offsets of a file.
use Rattle.std.proofs.Common.{◌≡◌, ℕ, ◌^◌, ◌<◌, refl, sym, ◌∙◌, ap}
use Rattle.std.proofs.lemmas.Nat.{from_be_bytes-to_be_bytes_4}
use Rattle.std.specs.Int.{to_be_bytes, from_be_bytes, w32}
use Rattle.sasi_host.specs.Names.{Bytes}
use Rattle.sasi_host.specs.Damages.{HasAt}
use Rattle.sasi_host.proofs.Offsets.{same_at}

pub same_32 : (n m : ℕ) → n < 2 ^ 32 → m < 2 ^ 32 → to_be_bytes w32 n ≡ to_be_bytes w32 m → n ≡ m
same_32 n m n_fits m_fits same = sym (from_be_bytes-to_be_bytes_4 n n_fits) ∙ ap (from_be_bytes w32) same ∙ from_be_bytes-to_be_bytes_4 m m_fits

-- one number of four bytes stands at an offset
pub number_at : (bytes : Bytes) (at n m : ℕ) → n < 2 ^ 32 → m < 2 ^ 32 → HasAt bytes at (to_be_bytes w32 n) → HasAt bytes at (to_be_bytes w32 m) → n ≡ m
number_at bytes at n m n_fits m_fits hn hm = same_32 n m n_fits m_fits (same_at bytes at (to_be_bytes w32 n) (to_be_bytes w32 m) hn hm refl)
