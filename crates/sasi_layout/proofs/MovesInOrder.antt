-- Each move leaves the numbers of a layout in order.
use Rattle.std.specs.Prelude.{◌≡◌, ◌≤◌, ◌+◌, ℕ, suc, List, [], ◌∷◌, ◌++◌, length, map, refl}
use Rattle.std.proofs.Common.{sym, ap, ◌∙◌, subst, arith}
use Rattle.std.proofs.lemmas.List.{length-append, map-append}
use Rattle.std.specs.List.{AllByRecursion}
use Rattle.sasi_model.specs.State.{Definition, Index}
use Rattle.sasi_manifest.specs.declared.files.ListedFile.{ListedFile}
use Rattle.sasi_manifest.specs.ListedDefinition.{ListedDefinition}
use Rattle.sasi_model.specs.Changes.{at_number}
use Rattle.sasi_layout.specs.Layout.{File, Layout, TableParts, listed_of, listing_of}
use Rattle.sasi_layout.specs.Moves.{AreLegal, Compact, Create, Define, Draw, Flush, Freeze, IsLegal, Move, Put, after_create, after_define, after_draw, define_table, after_flush, after_moves, flush_table, flushed_file, freeze_table, moved, new_parts, put_table}
use Rattle.sasi_layout.specs.NumbersInOrder.{HasFilesInOrder, HasIndexesNumbered, HasNumbersInOrder, Rising}
use Rattle.sasi_layout.proofs.CompactLaws.{compact_in_order, of_parts, to_parts}
use Rattle.sasi_layout.proofs.Numbered.{all_changed, unseen_at}

all_push : {A : Type 0} (P : A → Type 0) (xs : List A) (x : A) → AllByRecursion P xs → P x → AllByRecursion P (xs ++ x ∷ [])
all_push P [] x all is = (is, tt)
all_push P (y ∷ xs) x all is = (all.0, all_push P xs x all.1 is)

-- ---- numbers

pub rising_higher : (low a b : ℕ) (fs : List ListedFile) → a ≤ b → Rising low a fs → Rising low b fs
rising_higher low a b [] le rise = omega (arith, le, rise)
rising_higher low a b (f ∷ fs) le rise = (rise.0, rising_higher f.number a b fs le rise.1)

pub rising_push : (low high : ℕ) (fs : List ListedFile) (g : ListedFile) → Rising low high fs → g.number ≡ suc high → Rising low (suc high) (fs ++ g ∷ [])
rising_push low high [] g rise is = (omega (arith, rise, is), omega (arith, is))
rising_push low high (f ∷ fs) g rise is = (rise.0, rising_push f.number high fs g rise.1 is)

numbers_higher : (a b : ℕ) (ns : List ℕ) → a ≤ b → AllByRecursion (λ (n : ℕ). n ≤ a) ns → AllByRecursion (λ (n : ℕ). n ≤ b) ns
numbers_higher a b [] le within = tt
numbers_higher a b (n ∷ ns) le within = (omega (arith, le, within.0), numbers_higher a b ns le within.1)

-- ---- moves

-- a change of a table's parts that lists the same
unlisted_in_order : (l : Layout) (table : ℕ) (f : TableParts → TableParts) → ((t : TableParts) → listed_of (f t) ≡ listed_of t) → HasNumbersInOrder l → HasNumbersInOrder (record l { tables = at_number 1 table f l.tables })
unlisted_in_order l table f same in_order =
    let listed : map listed_of (at_number 1 table f l.tables) ≡ map listed_of l.tables = unseen_at listed_of f same 1 table l.tables in
    record {
      files = subst (AllByRecursion (HasFilesInOrder l.used.«data» l.last)) (sym listed) in_order.files;
      indexes = subst (AllByRecursion (HasIndexesNumbered l.used.index)) (sym listed) in_order.indexes;
    }

flush_files : (high part last : ℕ) (t : TableParts) → HasFilesInOrder high last (listed_of t) → HasFilesInOrder (suc high) (suc last) (listed_of (flush_table (suc high) part (suc last) t))
flush_files high part last t is = record {
  rise = subst (Rising 0 (suc high)) (sym (map-append (λ (f : File). f.listed) t.files (flushed_file (suc high) part t ∷ []))) (rising_push 0 high (map (λ (f : File). f.listed) t.files) (flushed_file (suc high) part t).listed is.rise refl);
  since = omega arith;
}

flush_in_order : (table : ℕ) (l : Layout) → HasNumbersInOrder l → HasNumbersInOrder (after_flush table l)
flush_in_order table l in_order =
    let high : ℕ = l.used.«data» in
    let flushed = at_number 1 table (flush_table (suc high) l.used.part (suc l.last)) l.tables in
    record {
      files = of_parts (HasFilesInOrder (suc high) (suc l.last)) flushed
          (all_changed (λ t. HasFilesInOrder high l.last (listed_of t)) (λ t. HasFilesInOrder (suc high) (suc l.last) (listed_of t)) (flush_table (suc high) l.used.part (suc l.last))
          (λ t is. flush_files high l.used.part l.last t is)
          (λ t is. record { rise = rising_higher 0 high (suc high) (map (λ (f : File). f.listed) t.files) (omega arith) is.rise; since = omega (arith, is.since) })
          1 table l.tables (to_parts (HasFilesInOrder high l.last) l.tables in_order.files));
      indexes = of_parts (HasIndexesNumbered l.used.index) flushed
          (all_changed (λ t. HasIndexesNumbered l.used.index (listed_of t)) (λ t. HasIndexesNumbered l.used.index (listed_of t)) (flush_table (suc high) l.used.part (suc l.last))
          (λ t is. record { counted = is.counted; within = is.within }) (λ t is. is) 1 table l.tables (to_parts (HasIndexesNumbered l.used.index) l.tables in_order.indexes));
    }

create_in_order : (d : Definition) (l : Layout) → d.indexes ≡ [] → HasNumbersInOrder l → HasNumbersInOrder (after_create d l)
create_in_order d l none in_order = record {
  files = of_parts (HasFilesInOrder l.used.«data» l.last) (l.tables ++ new_parts d l.last ∷ [])
      (all_push (λ t. HasFilesInOrder l.used.«data» l.last (listed_of t)) l.tables (new_parts d l.last) (to_parts (HasFilesInOrder l.used.«data» l.last) l.tables in_order.files) (record { rise = omega arith; since = omega arith }));
  indexes = of_parts (HasIndexesNumbered l.used.index) (l.tables ++ new_parts d l.last ∷ [])
      (all_push (λ t. HasIndexesNumbered l.used.index (listed_of t)) l.tables (new_parts d l.last) (to_parts (HasIndexesNumbered l.used.index) l.tables in_order.indexes) (record { counted = ap length (sym none); within = tt }));
}

define_indexes : (high : ℕ) (index : Index) (t : TableParts) → HasIndexesNumbered high (listed_of t) → HasIndexesNumbered (suc high) (listed_of (define_table (suc high) index t))
define_indexes high index t is = record {
  counted = length-append t.numbers (suc high ∷ []) ∙ ap (λ n. n + 1) is.counted ∙ sym (length-append t.definition.indexes (index ∷ []));
  within = all_push (λ (n : ℕ). n ≤ suc high) t.numbers (suc high) (numbers_higher high (suc high) t.numbers (omega arith) is.within) (omega arith);
}

define_in_order : (table : ℕ) (index : Index) (l : Layout) → HasNumbersInOrder l → HasNumbersInOrder (after_define table index l)
define_in_order table index l in_order =
    let high : ℕ = l.used.index in
    let defined = at_number 1 table (define_table (suc high) index) l.tables in
    record {
      files = of_parts (HasFilesInOrder l.used.«data» l.last) defined
          (all_changed (λ t. HasFilesInOrder l.used.«data» l.last (listed_of t)) (λ t. HasFilesInOrder l.used.«data» l.last (listed_of t)) (define_table (suc high) index)
          (λ t is. record { rise = is.rise; since = is.since }) (λ t is. is) 1 table l.tables (to_parts (HasFilesInOrder l.used.«data» l.last) l.tables in_order.files));
      indexes = of_parts (HasIndexesNumbered (suc high)) defined
          (all_changed (λ t. HasIndexesNumbered high (listed_of t)) (λ t. HasIndexesNumbered (suc high) (listed_of t)) (define_table (suc high) index)
          (λ t is. define_indexes high index t is)
          (λ t is. record { counted = is.counted; within = numbers_higher high (suc high) t.numbers (omega arith) is.within }) 1 table l.tables (to_parts (HasIndexesNumbered high) l.tables in_order.indexes));
    }

draw_in_order : (l : Layout) → HasNumbersInOrder l → HasNumbersInOrder (after_draw l)
draw_in_order l in_order = record { files = by (listing_of l).tables in_order.files; indexes = in_order.indexes }
  where
    by : (ts : List ListedDefinition) → AllByRecursion (HasFilesInOrder l.used.«data» l.last) ts → AllByRecursion (HasFilesInOrder (suc l.used.«data») l.last) ts
    by [] all = tt
    by (t ∷ ts) all = (record { rise = rising_higher 0 l.used.«data» (suc l.used.«data») t.files (omega arith) all.0.rise; since = all.0.since }, by ts all.1)

pub moved_in_order : (m : Move) (l : Layout) → IsLegal m l → HasNumbersInOrder l → HasNumbersInOrder (moved m l)
moved_in_order (Put m) l legal in_order = unlisted_in_order l m.table (put_table l.partitioner l.last m) (λ t. refl) in_order
moved_in_order (Freeze table) l legal in_order = unlisted_in_order l table freeze_table (λ t. refl) in_order
moved_in_order (Flush table) l legal in_order = flush_in_order table l in_order
moved_in_order (Create d) l legal in_order = create_in_order d l legal in_order
moved_in_order (Define table index) l legal in_order = define_in_order table index l in_order
moved_in_order Draw l legal in_order = draw_in_order l in_order
moved_in_order (Compact c) l legal in_order = compact_in_order c l legal in_order

pub moves_in_order : (ms : List Move) (l : Layout) → AreLegal ms l → HasNumbersInOrder l → HasNumbersInOrder (after_moves ms l)
moves_in_order [] l legal in_order = in_order
moves_in_order (m ∷ ms) l legal in_order = moves_in_order ms (moved m l) legal.1 (moved_in_order m l legal.0 in_order)

-- the first ones of legal moves are legal
pub legal_front : (ms more : List Move) (l : Layout) → AreLegal (ms ++ more) l → AreLegal ms l
legal_front [] more l legal = tt
legal_front (m ∷ ms) more l legal = (legal.0, legal_front ms more (moved m l) legal.1)
