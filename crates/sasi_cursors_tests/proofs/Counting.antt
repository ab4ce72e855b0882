-- What the numbers tell of the session's cursors.
use Rattle.std.proofs.Common.{◌≡◌, ℕ, ◌-◌, min, List, [], drop, length, take, Some, find, refl, sym, ap, ◌∙◌, arith, length-drop, length-take}
use Rattle.std.specs.Option.{option_map_or}
use Rattle.sasi_cursors.proofs.Agreement.{agree_changed, agree_some}
use Rattle.sasi_cursors.specs.Agreement.{has_name}
use Rattle.sasi_cursors.specs.Cursors.{cursor_of, with_cursor, IsOnce}
use Rattle.sasi_cursors_tests.specs.Counts.{given_on, rows_left, Counts, Session}

module _ (name : List ℕ) (counts : List (List ℕ × ℕ)) (session : Session) (agrees : Counts counts session) (left : ℕ) (is : Some left ≡ cursor_of name counts) where
  -- the session's cursor of the name has as many rows left as the number says
  found : (d : List ℕ × List ℕ) × (find (has_name (λ cursor. cursor.0) name) session ≡ Some d) × (left ≡ length d.1)
  found = agree_some (λ cursor. cursor.0) (λ c cursor. c ≡ length cursor.1) name counts session left is agrees

  -- the least of both numbers are given
  pub rows_given : (count : ℕ) → min count left ≡ length (take count (rows_left name session))
  rows_given count =
      ap (λ n. min count n) found.2 ∙ sym (length-take count found.0.1)
      ∙ ap (λ o. length (take count (option_map_or (λ cursor. cursor.1) o []))) (sym found.1)

  -- and the others are left
  pub rows_gone : (count : ℕ) → IsOnce counts → Counts (with_cursor name counts (left - min count left)) (given_on name count session)
  rows_gone count once =
      agree_changed (λ cursor. cursor.0) (λ c cursor. c ≡ length cursor.1) name (left - min count left) (λ cursor. (cursor.0, drop count cursor.1)) (λ d. refl)
      counts session once agrees by
    where
      by : (d : List ℕ × List ℕ) → find (has_name (λ cursor. cursor.0) name) session ≡ Some d → left - min count left ≡ length (drop count d.1)
      by d is_d =
          let less : left - min count left ≡ left - count = omega arith in
          less ∙ ap (λ n. n - count) found.2 ∙ sym (length-drop count found.0.1)
          ∙ ap (λ o. length (drop count (option_map_or (λ cursor. cursor.1) o []))) (sym found.1 ∙ is_d)
