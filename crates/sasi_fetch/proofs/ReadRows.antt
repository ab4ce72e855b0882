-- The rows of a reader are printed one after another.
use Rattle.std.proofs.Common.{◌≡◌, ◌+◌, ◌++◌, ◌≤◌, ℕ, true, false, is_some, List, [], ◌∷◌, drop, length, map, take, Option, None, Some, append_assoc, drop_of_length-le, length-append, refl, sym, ap, subst, ◌∙◌, arith}
use Rattle.std.proofs.Math.Seq.{drop-append_seam, take-append_seam}
use Rattle.std.proofs.lemmas.Grind.{flat_map-append}
use Rattle.std.proofs.lemmas.List.{append-nil, length-map, map-append, take-append-drop}
use Rattle.std.specs.List.{flat_map}
use Rattle.std.specs.Option.{option_to_list}
use Rattle.sasi_types.specs.declared.value.Value.{Value}
use Rattle.sasi_cells.specs.declared.picked.Picked.{Picked}
use Rattle.sasi_model.specs.Abbreviations.{count_line, row_line}
use Rattle.sasi_model.specs.Cells.{Partition}
use Rattle.sasi_machine.proofs.Printed.{answer_is}
use Rattle.sasi_machine.specs.TableRows.{ArePrinted}
use Rattle.sasi_plan.specs.Answers.{GivesNext}
use Rattle.sasi_fetch.specs.Printing.{KnowsAfter, PrintsAtMost, PrintsFirst, PrintsNext, picked_lines, row_picked}
use Rattle.sasi_fetch.specs.declared.rows.RowsAfter.TheVariants.{Nothing, Perhaps}

abbrev Row : Type 0
Row = List ℕ × Partition

module _ (picked : Picked) where
  -- these rows were printed, so many, and what is left behind them is left now
  pub record HasPrinted (Left Now : List Row → Type 0) (reply_old reply : List ℕ) (count : ℕ) : Type 0 where
    pub done : List Row
    pub printed : ArePrinted (map (row_picked picked) done) reply_old reply count
    pub left : (rows : List Row) → Left rows → (rest : List Row) × (rows ≡ done ++ rest) × Now rest

  pub printing_begins : (Left : List Row → Type 0) (reply : List ℕ) → HasPrinted Left Left reply reply 0
  printing_begins Left reply = record { done = []; printed = record { reply_is = sym (append-nil reply); count_is = refl }; left = λ rows is. (rows, refl, is) }

  module _ (Left Now : List Row → Type 0) (reply_old reply : List ℕ) (count : ℕ) (on : HasPrinted Left Now reply_old reply count) where
    abbrev values : List (List (Option Value))
    values = map (row_picked picked) on.done

    -- these are the lines of the rows that were printed,
    lines_are : (reply_end : List ℕ) → reply_end ≡ reply ++ count_line count → reply_end ≡ reply_old ++ picked_lines picked on.done
    lines_are reply_end counted = answer_is values reply_old reply reply_end count on.printed counted

    many : length on.done ≡ count
    many = sym (length-map on.done (row_picked picked)) ∙ sym on.printed.count_is

    -- **Where so many were asked for, the number of rows behind them: the others are left.**
    module _ (most : ℕ) (full : count ≡ most) where
      pub stopping_knows : KnowsAfter most Left Perhaps
      stopping_knows rows is = (let before = on.left rows is in omega (arith, full, many, ap length before.1, length-append on.done before.0))

      module _ (reply_end : List ℕ) (counted : reply_end ≡ reply ++ count_line most) where
        lines_full : reply_end ≡ reply_old ++ picked_lines picked on.done
        lines_full = lines_are reply_end (counted ∙ ap (λ n. reply ++ count_line n) (sym full))

        pub stopping_prints : PrintsFirst picked most Left Now reply_old reply_end
        stopping_prints rows is =
            let before = on.left rows is in
            let size : most ≡ length on.done = sym full ∙ sym many in
            let taken : take most rows ≡ on.done = ap (λ n. take n rows) size ∙ ap (take (length on.done)) before.1 ∙ take-append_seam on.done before.0 in
            let others : drop most rows ≡ before.0 = ap (λ n. drop n rows) size ∙ ap (drop (length on.done)) before.1 ∙ drop-append_seam on.done before.0 in
            (lines_full ∙ ap (λ (l : List Row). reply_old ++ picked_lines picked l) (sym taken), subst Now (sym others) before.2)

        pub stopping_few : PrintsAtMost picked most reply_old reply_end
        stopping_few = record { rows = on.done; few = omega (arith, full, many); reply_is = lines_full }

    module _ (Next : List Row → Type 0) (reply_new : List ℕ) where
      -- one row more is printed
      pub printing_more : PrintsNext picked Now Next reply reply_new true → HasPrinted Left Next reply_old reply_new (count + 1)
      printing_more next = by next.found next.printed_is next.reply_is next.gives
        where
          by : (found : Option Row) → true ≡ is_some found → reply_new ≡ reply ++ flat_map row_line (map (row_picked picked) (option_to_list found)) → ((rows : List Row) → Now rows → GivesNext Next rows found) → HasPrinted Left Next reply_old reply_new (count + 1)
          by None some reply_is gives = cc
          by (Some row) some reply_is gives = record {
            done = on.done ++ row ∷ [];
            printed = record {
              reply_is =
                  reply_is
                  ∙ ap (λ (x : List ℕ). x ++ flat_map row_line (row_picked picked row ∷ [])) on.printed.reply_is
                  ∙ append_assoc reply_old (flat_map row_line values) (flat_map row_line (row_picked picked row ∷ []))
                  ∙ ap (λ (x : List ℕ). reply_old ++ x) (sym (flat_map-append row_line values (row_picked picked row ∷ [])) ∙ ap (flat_map row_line) (sym (map-append (row_picked picked) on.done (row ∷ []))));
              count_is = omega (arith, on.printed.count_is, ap length (map-append (row_picked picked) on.done (row ∷ [])), length-append values (row_picked picked row ∷ []));
            };
            left = λ rows is.
                let before = on.left rows is in
                let next = gives before.0 before.2 in
                (next.0, before.1 ∙ ap (λ (l : List Row). on.done ++ l) next.1 ∙ sym (append_assoc on.done (row ∷ []) next.0), next.2);
          }

      -- **At the end it is the number of all that were left.**
      module _ (next : PrintsNext picked Now Next reply reply_new false) (most : ℕ) (within : count ≤ most) where
        unprinted : reply_new ≡ reply
        unprinted = by next.found next.printed_is next.reply_is
          where
            by : (found : Option Row) → false ≡ is_some found → reply_new ≡ reply ++ flat_map row_line (map (row_picked picked) (option_to_list found)) → reply_new ≡ reply
            by None none is = is ∙ append-nil reply
            by (Some row) none is = cc

        all_are : (rows : List Row) → Left rows → (rows ≡ on.done) × Next []
        all_are rows is = (let before = on.left rows is in by next.found next.printed_is before.0 before.1 (next.gives before.0 before.2))
          where
            by : (found : Option Row) → false ≡ is_some found → (rest : List Row) → rows ≡ on.done ++ rest → GivesNext Next rest found → (rows ≡ on.done) × Next []
            by None none rest parts gives = (parts ∙ ap (λ (l : List Row). on.done ++ l) gives.0 ∙ append-nil on.done, gives.1)
            by (Some row) none rest parts gives = cc

        none_further : (rows : List Row) → rows ≡ on.done → drop most rows ≡ []
        none_further rows are = drop_of_length-le rows (omega (arith, within, many, ap length are))

        all_taken : (rows : List Row) → rows ≡ on.done → take most rows ≡ rows
        all_taken rows are = sym (append-nil (take most rows)) ∙ ap (λ (l : List Row). take most rows ++ l) (sym (none_further rows are)) ∙ take-append-drop most rows

        pub ending_knows : KnowsAfter most Left Nothing
        ending_knows rows is = all_taken rows (all_are rows is).0

        module _ (reply_end : List ℕ) (counted : reply_end ≡ reply_new ++ count_line count) where
          lines : reply_end ≡ reply_old ++ picked_lines picked on.done
          lines = lines_are reply_end (counted ∙ ap (λ (x : List ℕ). x ++ count_line count) unprinted)

          pub ending_prints : PrintsFirst picked most Left Next reply_old reply_end
          ending_prints rows is =
              let all = all_are rows is in
              (lines ∙ ap (λ (l : List Row). reply_old ++ picked_lines picked l) (sym (all_taken rows all.0 ∙ all.0)), subst Next (sym (none_further rows all.0)) all.1)

          pub ending_few : PrintsAtMost picked most reply_old reply_end
          ending_few = record { rows = on.done; few = omega (arith, within, many); reply_is = lines }
