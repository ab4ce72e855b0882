-- The terms that are asked for, and the lists of their pairs.
use Rattle.std.specs.Prelude.{◌≡◌, ℤ, Bool, true, false, ◌&&◌, not, Some, List, [], ◌∷◌, length, map}
use Rattle.std.specs.Int.{w32, w64, saturate_signed}
use Rattle.std.specs.List.{filter, AllByRecursion}
use Rattle.sasi_types.specs.declared.column.ColumnType.{ColumnType}
use Rattle.sasi_types.specs.declared.column.ColumnType.TheVariants.{Text, Int, BigInt, Uuid}
use Rattle.sasi_types.specs.declared.tree.Pair.{Pair}
use Rattle.sasi_types.specs.Token.{AreBytes}
use Rattle.sasi_host.specs.Names.{Bytes}
use Rattle.sasi_terms.specs.declared.op.Op.{Op}
use Rattle.sasi_terms.specs.declared.op.Op.TheVariants.{Eq, Prefix, Suffix, Contains, Range}
use Rattle.sasi_terms.specs.Holds.{holds, is_between}
use Rattle.sasi_terms.specs.Numbers.{bigint_term, int_term}
use Rattle.sasi_termblocks.specs.Entries.{is_below}
use Rattle.sasi_indexwrite.specs.Content.{IndexContent, TermPairs}

-- ---- ranges

-- a column of this type has a number in the range, where its number that is nearest to the least one is in it; texts and uuids are no numbers
abbrev pub has_number : ColumnType → ℤ → ℤ → Bool
has_number Text least greatest = false
has_number Int least greatest = is_between least greatest (Some (saturate_signed w32 least))
has_number BigInt least greatest = is_between least greatest (Some (saturate_signed w64 least))
has_number Uuid least greatest = false

-- the term of the type's number that is nearest to this one
abbrev pub nearest_term : ColumnType → ℤ → Bytes
nearest_term Text number = []
nearest_term Int number = int_term (saturate_signed w32 number)
nearest_term BigInt number = bigint_term (saturate_signed w64 number)
nearest_term Uuid number = []

-- the term is neither below the one nor above the other, in the order of terms
abbrev pub is_from_to : Bytes → Bytes → Bytes → Bool
is_from_to least greatest term = not (is_below term least) && not (is_below greatest term)

-- ---- terms

-- no term of an index of this type is asked for: it has no number in the range
abbrev pub asks_none : ColumnType → Op → Bool
asks_none kind (Range least greatest) = not (has_number kind least greatest)
asks_none kind op = false

-- a range asks for the terms from that of its least number to that of its greatest one, each brought into the type
abbrev pub is_match : ColumnType → Op → Bytes → Bytes → Bool
is_match kind (Range least greatest) body term = is_from_to (nearest_term kind least) (nearest_term kind greatest) term
is_match kind op body term = holds op term body

-- a term of an index of this type is asked for
abbrev pub is_asked : ColumnType → Op → Bytes → Bytes → Bool
is_asked kind op body term = not (asks_none kind op) && is_match kind op body term

abbrev pub is_asked_term : IndexContent → Op → Bytes → TermPairs → Bool
is_asked_term content op body one = is_asked content.kind op body one.0

-- the lists of pairs of some of the terms that are asked for, and of the spill, which always joins them
abbrev pub lists_of : IndexContent → Op → Bytes → List TermPairs → List (List Pair)
lists_of content op body terms = content.spill ∷ map (λ (one : TermPairs). one.1) (filter (is_asked_term content op body) terms)

abbrev pub asked_lists : IndexContent → Op → Bytes → List (List Pair)
asked_lists content op body = lists_of content op body content.terms

-- ---- the scan of the terms

-- the terms that are asked for aren't below this one
abbrev pub lower : ColumnType → Op → Bytes → Bytes
lower kind Eq body = body
lower kind Prefix body = body
lower kind Suffix body = []
lower kind Contains body = []
lower kind (Range least greatest) body = nearest_term kind least

-- and from there on they follow one another
abbrev pub is_run : Op → Bool
is_run Eq = true
is_run Prefix = true
is_run Suffix = false
is_run Contains = false
is_run (Range least greatest) = true

-- ---- an index of numbers

-- it is the term of a number of this type: four bytes of an int, eight of a bigint
abbrev pub IsNumberTerm : ColumnType → Bytes → Type 0
IsNumberTerm Text term = ⊥
IsNumberTerm Int term = (length term ≡ 4) × AreBytes term
IsNumberTerm BigInt term = (length term ≡ 8) × AreBytes term
IsNumberTerm Uuid term = ⊥

abbrev pub AreNumberTerms : IndexContent → Type 0
AreNumberTerms content = AllByRecursion (λ (one : TermPairs). IsNumberTerm content.kind one.0) content.terms

-- the lists of the terms for which the operator holds, a range of their numbers, and that of the spill
abbrev pub holding_lists : IndexContent → Op → Bytes → List (List Pair)
holding_lists content op body = content.spill ∷ map (λ (one : TermPairs). one.1) (filter (λ (one : TermPairs). holds op one.0 body) content.terms)
