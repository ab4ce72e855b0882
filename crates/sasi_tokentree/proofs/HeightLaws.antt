-- Laws of heights: how many levels a tree has, and how many bytes they take.
use Rattle.std.specs.Prelude.{◌≡◌, ℕ, zero, suc, ◌+◌, ◌*◌, ◌<◌, ◌≤◌, List, length, refl}
use Rattle.std.proofs.Common.{ap, arith, add-one, subst, sym, length-append, lit≤, ⊎_elim, ◌-◌, ◌∙◌}
use Rattle.std.proofs.lemmas.Bool.{le-leb, lt-leb}
use Rattle.std.proofs.lemmas.Bool.Decides.{leb_tells}
use Rattle.sasi_types.specs.declared.tree.Pair.{Pair}
use Rattle.sasi_tokentree.specs.Format.{above, level_bytes, levels, nodes, size, top, tree_bytes}
use Rattle.sasi_tokentree.proofs.Sizes.{first_above_length, level_length, more_levels, one_level, top_one, top_more}
use Rattle.sasi_tokentree.specs.Heights.{height, bytes_below_root, level_limit, levels_size}

few : (more level : ℕ) → level ≡ more + 8 → level_limit level ≤ 256
few zero level is = subst (λ (n : ℕ). level_limit n ≤ 256) (sym is) (lit≤ tt)
few (suc more) zero is = absurd (omega arith)
few (suc more) (suc level) is = let before = few more level (omega arith) in omega (arith, before)

-- a level of more than one node is below the ninth
pub is_low : (level count : ℕ) → 256 < count → count ≤ level_limit level → level < 8
is_low level count many le = ⊎_elim (λ high. let less = few (level - 8) level (omega (arith, high.1)) in absurd (omega (arith, less))) (λ low. low.1) (leb_tells 8 level)

-- the level above has so few that no more than its number allows
pub rises : (level count next : ℕ) → 255 < count → count ≤ level_limit level → next ≡ nodes count → next ≤ level_limit (level + 1)
rises level count next many le is = rw add-one (omega (arith, is))

pub one_high : (most count : ℕ) → count ≤ 255 → height (suc most) count ≡ 1
unfolding height
one_high most count le = rw (le-leb count 255 le)

pub more_high : (most count : ℕ) → 255 < count → height (suc most) count ≡ 1 + height most (nodes count)
unfolding height
more_high most count lt = rw (lt-leb count 255 lt)

pub none_below_root : (most count : ℕ) → count ≤ 255 → bytes_below_root (suc most) count ≡ 0
unfolding bytes_below_root
none_below_root most count le = rw (le-leb count 255 le)

pub more_below_root : (most count : ℕ) → 255 < count → bytes_below_root (suc most) count ≡ size count + bytes_below_root most (nodes count)
unfolding bytes_below_root
more_below_root most count lt = rw (lt-leb count 255 lt)

-- the last level begins behind the others
pub top_is : (most at count : ℕ) → 0 < count → count ≤ most → top most at count ≡ at + bytes_below_root most count
top_is zero at count some le = absurd (omega arith)
top_is (suc most) at count some le = ⊎_elim
    (λ one. top_one most at count one.1 ∙ omega (arith, none_below_root most count one.1))
    (λ more. top_more most at count more.1 ∙ top_is most (at + size count) (nodes count) (omega arith) (omega (arith, more.1, le)) ∙ omega (arith, more_below_root most count more.1))
    (leb_tells count 255)

-- the others take less than 17 bytes for each entry
pub below_root_short : (most count : ℕ) → count ≤ most → bytes_below_root most count ≤ 17 * count
unfolding bytes_below_root
below_root_short zero count le = omega arith
below_root_short (suc most) count le = ⊎_elim
    (λ one. omega (arith, none_below_root most count one.1))
    (λ more. omega (arith, more.1, more_below_root most count more.1, below_root_short most (nodes count) (omega (arith, more.1, le))))
    (leb_tells count 255)

-- ---- sizes

pub one_size : (most count : ℕ) → count ≤ 255 → levels_size (suc most) count ≡ size count
unfolding levels_size
one_size most count le = rw (le-leb count 255 le)

pub more_size : (most count : ℕ) → 255 < count → levels_size (suc most) count ≡ size count + levels_size most (nodes count)
unfolding levels_size
more_size most count lt = rw (lt-leb count 255 lt)

levels_length : (most level at : ℕ) (entries : List Pair) → length entries ≤ most → length (levels most level at entries) ≡ levels_size most (length entries)
unfolding levels levels_size
levels_length zero level at entries le = refl
levels_length (suc most) level at entries le = ⊎_elim
    (λ one. ap length (one_level most level at entries one.1) ∙ level_length level entries ∙ sym (one_size most (length entries) one.1))
    (λ more.
    let next = at + size (length entries) in
    let count : length (above at entries) ≡ nodes (length entries) = first_above_length at entries (nodes (length entries)) in
    let higher : length (levels most (suc level) next (above at entries)) ≡ levels_size most (nodes (length entries)) =
    levels_length most (suc level) next (above at entries) (omega (arith, more.1, count, le)) ∙ ap (λ (n : ℕ). levels_size most n) count
    in
    omega (
      arith,
      higher,
      ap length (more_levels most level at entries more.1),
      length-append (level_bytes level entries) (levels most (suc level) next (above at entries)),
      level_length level entries,
      more_size most (length entries) more.1,
    ))
    (leb_tells (length entries) 255)

-- how many bytes a tree has
pub tree_length : (at : ℕ) (pairs : List Pair) → length (tree_bytes at pairs) ≡ levels_size (length pairs) (length pairs)
tree_length at pairs = levels_length (length pairs) 0 at pairs (omega arith)

-- 16 at least for each pair
pub levels_least : (most count : ℕ) → count ≤ most → 16 * count ≤ levels_size most count
unfolding levels_size
levels_least zero count le = omega arith
levels_least (suc most) count le = ⊎_elim (λ one. omega (arith, one_size most count one.1)) (λ more. omega (arith, more_size most count more.1)) (leb_tells count 255)
