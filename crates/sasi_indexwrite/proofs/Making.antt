-- An index file from its header to its footer.
use Rattle.std.proofs.Common.{◌≡◌, ◌≢◌, ℕ, zero, suc, List, [], ◌++◌, length, refl, ap, sym, ◌∙◌, subst, arith}
use Rattle.sasi_types.specs.declared.column.ColumnType.{ColumnType}
use Rattle.sasi_types.specs.declared.column.ColumnType.TheVariants.{Uuid}
use Rattle.sasi_types.specs.declared.mode.Mode.{Mode}
use Rattle.sasi_types.specs.declared.mode.Mode.TheVariants.{Prefix, Contains, Sparse}
use Rattle.sasi_types.specs.declared.tree.Pair.{Pair}
use Rattle.sasi_host.specs.declared.name.FileName.{FileName}
use Rattle.sasi_host.specs.Names.{Bytes}
use Rattle.sasi_host.specs.View.{Holds, Reaches, View}
use Rattle.sasi_host.proofs.ContentLaws.{reaches_held}
use Rattle.sasi_segments.specs.declared.posting.Posting.{Posting}
use Rattle.sasi_tokentree.specs.Format.{IsRising}
use Rattle.sasi_termblocks.specs.Blocks.{cut_of}
use Rattle.sasi_termblocks.specs.Scans.{IsRising as AreRisingTerms}
use Rattle.sasi_termblocks.specs.Writing.{HasPushed}
use Rattle.sasi_indexwrite.specs.declared.term_writer.TermWriter.{TermWriter}
use Rattle.sasi_indexwrite.specs.Appending.{IsAppending}
use Rattle.sasi_indexwrite.specs.Content.{TermPairs, terms_in}
use Rattle.sasi_indexwrite.specs.Grouped.{HasListed}
use Rattle.sasi_indexwrite.specs.Kept.{common_pairs, kept_spill, kept_terms}
use Rattle.sasi_indexwrite.specs.Stored.{stored}
use Rattle.sasi_indexwrite.specs.Superblocks.{lists_of}
use Rattle.sasi_indexwrite.specs.Files.{HoldsIndex}
use Rattle.sasi_indexwrite.specs.Format.{header_bytes}
use Rattle.sasi_indexwrite.specs.TermsSoFar.{AreSortedPostings, all_terms, gathered, with_pairs}
use Rattle.sasi_indexwrite.specs.Writing.{EndsFile, HasSuperblocks, HasTrees, HasWritten, IsWritten, KeepsGathered, spill_of}
use Rattle.sasi_indexwrite.proofs.Endings.{header_length, index_ends}
use Rattle.sasi_indexwrite.proofs.Grouping.{gathered_is}
use Rattle.sasi_indexwrite.proofs.Joined.{union_rising}
use Rattle.sasi_indexwrite.proofs.Storing.{rare_rising, stored_back}

-- ---- the header alone

pub begin_room : (v : View) (writer : TermWriter) (file : FileName) (mode : Mode) (kind : ColumnType) → writer.trees.file ≡ file → writer.trees.end ≡ 16 → Holds v file (header_bytes mode kind) → Reaches v writer.trees.file writer.trees.end
begin_room v writer file mode kind same at holds =
    subst (λ (f : FileName). Reaches v f writer.trees.end) (sym same) (reaches_held v file writer.trees.end (header_bytes mode kind) (omega (arith, at, header_length mode kind)) holds)

pub begin_written : (v : View) (writer : TermWriter) (file : FileName) (mode : Mode) (kind : ColumnType) → writer.trees.file ≡ file → writer.trees.end ≡ 16 → writer.trees.unwritten.items ≡ [] → HasPushed writer.blocks [] → writer.groups.pairs ≡ []
    → writer.groups.trees.items ≡ [] → writer.common ≡ [] → Holds v file (header_bytes mode kind) → HasWritten v writer (header_bytes mode kind) []
unfolding cut_of
begin_written v writer file mode kind same at none pushed no_pairs no_table no_common holds = by_mode writer.mode
  where
    appended : IsAppending v writer.trees (header_bytes mode kind ++ [])
    appended = record {
      written = header_bytes mode kind;
      ends = header_length mode kind ∙ sym at;
      holds = subst (λ (f : FileName). Holds v f (header_bytes mode kind)) (sym same) holds;
      whole = ap (λ (l : Bytes). header_bytes mode kind ++ l) none;
    }

    of_trees : HasTrees v writer (header_bytes mode kind) []
    of_trees = record { begins = header_length mode kind; appended = appended; next_is = omega (arith, at, ap length none); pushed = pushed; each = tt; no_pairs = no_pairs; no_table = no_table }

    of_superblocks : (n : ℕ) → length writer.groups.trees.items ≡ n → n ≡ 0 → HasSuperblocks v writer (header_bytes mode kind) []
    of_superblocks zero is end = record {
      begins = header_length mode kind;
      grouped = record {
        listed =
            subst (λ (k : ℕ). HasListed v writer.trees writer.groups.trees.items (header_bytes mode kind) (lists_of [] k)) (sym is)
            (record { appended = appended; next_is = omega (arith, at, ap length none); table_is = no_table });
        grouped = record {
          pairs_are = no_pairs;
          count_is = is;
          some = λ some. absurd (omega (arith, some));
          within = tt;
          long = refl;
        };
      };
      pushed = pushed;
      each = tt;
      few = tt;
      common_is = no_common;
    }
    of_superblocks (suc n) is end = absurd (omega (arith, end))

    by_mode : (m : Mode) → IsWritten m v writer.trees writer.blocks writer.groups writer.common (header_bytes mode kind) []
    by_mode Prefix = of_trees
    by_mode Contains = of_trees
    by_mode Sparse = of_superblocks (length writer.groups.trees.items) refl (ap length no_table)

-- ---- what is kept rises

kept_rising : (mode : Mode) (terms : List TermPairs) → AreRisingTerms (terms_in terms) → AreRisingTerms (terms_in (kept_terms mode terms))
kept_rising Prefix terms rising = rising
kept_rising Contains terms rising = rising
kept_rising Sparse terms rising = rare_rising terms rising

kept_spill_rising : (mode : Mode) (terms : List TermPairs) (spill : List Pair) → IsRising spill → IsRising (kept_spill mode terms spill)
kept_spill_rising Prefix terms spill rising = rising
kept_spill_rising Contains terms spill rising = rising
kept_spill_rising Sparse terms spill rising = union_rising (common_pairs terms ++ spill)

-- and so does the spill with the pairs of common terms
pub spill_rising : (mode : Mode) (common spill : List Pair) → IsRising spill → IsRising (spill_of mode common spill)
spill_rising Prefix common spill rising = rising
spill_rising Contains common spill rising = rising
spill_rising Sparse common spill rising = union_rising (common ++ spill)

-- ---- the whole

-- what is kept of all postings is in the file
pub index_made : (v : View) (file : FileName) (mode : Mode) (kind : ColumnType) (postings : List Posting) (writer : TermWriter) (spill : List Pair) → kind ≢ Uuid → AreSortedPostings postings → writer.trees.file ≡ file → writer.mode ≡ mode
    → KeepsGathered writer spill (gathered postings)
    → EndsFile v writer.trees.file writer.mode (header_bytes mode kind) (kept_terms writer.mode ((gathered postings).closed ++ with_pairs writer.term writer.pairs)) (kept_spill writer.mode ((gathered postings).closed ++ with_pairs writer.term writer.pairs) spill)
    → HoldsIndex v file mode kind (stored mode postings)
index_made v file mode kind postings writer spill has_terms valid same mode_is keeps ends =
    let is = gathered_is postings valid in
    let all = all_terms (gathered postings) in
    let header = header_bytes mode kind in
    let whole : (gathered postings).closed ++ with_pairs writer.term writer.pairs ≡ all =
    ap (λ (t : Bytes). (gathered postings).closed ++ with_pairs t writer.pairs) keeps.term ∙ ap (λ (l : List Pair). (gathered postings).closed ++ with_pairs (gathered postings).term l) keeps.pairs
    in
    let one = subst (λ (l : List TermPairs). EndsFile v writer.trees.file writer.mode header (kept_terms writer.mode l) (kept_spill writer.mode l spill)) whole ends in
    let two = subst (λ (l : List Pair). EndsFile v writer.trees.file writer.mode header (kept_terms writer.mode all) (kept_spill writer.mode all l)) keeps.spill_is one in
    let three = subst (λ (m : Mode). EndsFile v writer.trees.file m header (kept_terms m all) (kept_spill m all (gathered postings).spill)) mode_is two in
    let four = subst (λ (f : FileName). EndsFile v f mode header (kept_terms mode all) (kept_spill mode all (gathered postings).spill)) same three in
    index_ends mode kind (kept_terms mode all) (kept_spill mode all (gathered postings).spill) v file (stored mode postings) has_terms
    (stored_back mode all (gathered postings).spill is.rising ∙ ap (λ (l : List Posting). stored mode l) is.postings_are) (kept_rising mode all is.rising) (kept_spill_rising mode all (gathered postings).spill is.spill) four
