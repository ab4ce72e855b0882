-- The ends of files, one after another.
use Rattle.std.proofs.Common.{◌≡◌, ◌⊎◌, ℕ, zero, suc, ◌+◌, ◌<◌, ◌≤◌, List, [], ◌∷◌, ◌++◌, length, take, get_or, Contains, Some, refl, sym, ◌∙◌, ap, subst, inl, inr, ⊎_elim, arith}
use Rattle.std.specs.Prelude.{max, min}
use Rattle.std.specs.declared.result.Result.{Result}
use Rattle.std.proofs.lemmas.List.{take_all, take_more}
use Rattle.std.proofs.lemmas.List.Elements.{All-contains_itself, Contains-append_left, Contains-push, Contains-push_cases}
use Rattle.std.proofs.lemmas.List.Sums.{sum_by-take-le, sum_by_more}
use Rattle.sasi_host.specs.declared.fault.ReadFault.{ReadFault}
use Rattle.sasi_host.specs.declared.fault.ReadFault.TheVariants.{Damaged, Failed, OutOfMemory}
use Rattle.sasi_host.specs.declared.name.FileName.{FileName}
use Rattle.sasi_host.specs.declared.name.Kind.{Kind}
use Rattle.sasi_host.specs.declared.name.Kind.TheVariants as kinds
use Rattle.sasi_host.specs.Damages.{DamageShown}
use Rattle.sasi_host.specs.Names.{Bytes}
use Rattle.sasi_host.specs.View.{ReadCost, View, contents}
use Rattle.sasi_host.specs.Disk.{Changes, Same}
use Rattle.sasi_host.proofs.ContentLaws.{contents_same}
use Rattle.sasi_indexwrite.specs.Content.{IndexContent}
use Rattle.sasi_indexwrite.specs.Files.{IsIndexFile}
use Rattle.sasi_indexread.specs.HeaderAndFooter as index_file
use Rattle.sasi_indexread.specs.Opened.{HasHeaderAndFooterOf, NoFalseIndexDamage, OpenIndexFile}
use Rattle.sasi_dataread.specs.Damages as data_file
use Rattle.sasi_dataread.specs.HeaderAndFooter.{EndsAsDataFile, TellsMaxTimestamp}
use Rattle.sasi_dataread.specs.Reads.{NoFalseDataDamage}
use Rattle.sasi_model.specs.Abbreviations.{TIME_LIMIT}
use Rattle.sasi_folder.specs.Damages.{ShowsEnds, ShowsEndsOf}
use Rattle.sasi_folder.specs.Opens.{EndsAs}
use Rattle.sasi_recover.specs.FileEnds.{HasEnd, IsLargestOf, IsSomeDataFile, IsWhole, NoFalseDamage, NoFalseEndDamage, ShowsEndDamage, TellsTime, TellsTimeOf}
use Rattle.sasi_recover.specs.OpeningReads.{end_reads, ends_reads, kind_reads}
use Rattle.sasi_folder.proofs.IndexEnds.{ends_as_index}

-- ---- the largest of some timestamps

pub largest_none : (v : View) → IsLargestOf v [] 0
largest_none v = record { limit = omega arith; bound = λ file has. absurd (omega (arith, has.1)); attained = inl refl }

either_way : (m n : ℕ) → (m ≤ n) ⊎ (n < m)
either_way zero n = inl (omega arith)
either_way (suc m) zero = inr (omega arith)
either_way (suc m) (suc n) = ⊎_elim (λ le. inl (omega (arith, le))) (λ lt. inr (omega (arith, lt))) (either_way m n)

one_more : (v : View) (xs : List FileName) (file : FileName) (time own : ℕ) → IsLargestOf v xs time → TellsTime v file own → IsLargestOf v (xs ++ file ∷ []) (max time own)
one_more v xs file time own largest tells = record {
  limit = omega (arith, largest.limit, tells.limit);
  bound = λ other has. ⊎_elim
      (λ old. (let before = largest.bound other old in (before.0, before.1, omega (arith, before.2))))
      (λ same. (own, subst (λ (n : FileName). TellsTime v n own) same tells, omega arith))
      (Contains-push_cases xs file other has);
  attained = ⊎_elim
      (λ le. subst (λ t. (t ≡ 0) ⊎ ((n : FileName) × Contains (xs ++ file ∷ []) n × TellsTime v n t)) (stays time own le)
      (⊎_elim (λ none. inl none) (λ (one : (n : FileName) × Contains xs n × TellsTime v n time). inr (one.0, Contains-append_left xs (file ∷ []) one.0 one.1, one.2)) largest.attained))
      (λ lt. subst (λ t. (t ≡ 0) ⊎ ((n : FileName) × Contains (xs ++ file ∷ []) n × TellsTime v n t)) (grows time own lt) (inr (file, Contains-push xs file, tells)))
      (either_way own time);
}
  where
    stays : (time own : ℕ) → own ≤ time → time ≡ max time own
    stays time own le = omega (arith, le)

    grows : (time own : ℕ) → time < own → own ≡ max time own
    grows time own lt = omega (arith, lt)

pub largest_more : (v : View) (xs : List FileName) (i : ℕ) (d : FileName) (time own : ℕ) → i < length xs → IsLargestOf v (take i xs) time → TellsTime v (get_or xs i d) own → IsLargestOf v (take (i + 1) xs) (max time own)
largest_more v xs i d time own within largest tells = subst (λ (l : List FileName). IsLargestOf v l (max time own)) (sym (take_more xs i d within)) (one_more v (take i xs) (get_or xs i d) time own largest tells)

pub largest_next : (v : View) (xs : List FileName) (i : ℕ) (d : FileName) (time own most : ℕ) → i < length xs → IsLargestOf v (take i xs) time → TellsTime v (get_or xs i d) own → most ≡ max time own → IsLargestOf v (take (i + 1) xs) most
largest_next v xs i d time own most within largest tells is = subst (λ t. IsLargestOf v (take (i + 1) xs) t) (sym is) (largest_more v xs i d time own within largest tells)

pub largest_all : (v : View) (xs : List FileName) (i time : ℕ) → length xs ≤ i → IsLargestOf v (take i xs) time → IsLargestOf v xs time
largest_all v xs i time past largest = subst (λ (l : List FileName). IsLargestOf v l time) (take_all i xs past) largest

-- the reads of the ends of the files so far, and of one more
pub reads_more : (xs : List FileName) (i : ℕ) (d : FileName) (before now later : ℕ) → i < length xs → now ≤ before + ends_reads (take i xs) → later ≤ now + end_reads (get_or xs i d) → later ≤ before + ends_reads (take (i + 1) xs)
reads_more xs i d before now later within first next = omega (arith, first, next, sum_by_more end_reads xs i d within)

-- are no more than those of all
pub reads_within : (xs : List FileName) (i : ℕ) → ends_reads (take i xs) ≤ ends_reads xs
reads_within xs i = sum_by-take-le end_reads xs i

-- ---- over calls that leave the folder as it is

module _ (a b : View) (same : Changes Same a b) where
  pub end_before : (file : FileName) → HasEnd b file → HasEnd a file
  end_before file end bytes is = end bytes (contents_same a b file same ∙ is)

  tells_before : (kind : Kind) (file : FileName) (time : ℕ) → TellsTimeOf kind b file time → TellsTimeOf kind a file time
  tells_before kinds.Manifest file time tells = tells
  tells_before kinds.Seal file time tells = tells
  tells_before kinds.Log file time tells = tells
  tells_before kinds.Data file time tells = λ bytes partitioner types content is of. tells bytes partitioner types content (contents_same a b file same ∙ is) of
  tells_before kinds.Index file time tells = tells
  tells_before kinds.Segment file time tells = tells

  pub time_before : (file : FileName) (time : ℕ) → TellsTime b file time → TellsTime a file time
  time_before file time told = record { limit = told.limit; tells = tells_before file.kind file time told.tells }

  pub end_damage : (xs : List FileName) (i : ℕ) (d : FileName) (fault : ReadFault) → i < length xs → DamageShown b (get_or xs i d) (ShowsEnds (get_or xs i d)) fault → ShowsEndDamage a xs fault
  end_damage xs i d Failed within shown = tt
  end_damage xs i d OutOfMemory within shown = tt
  end_damage xs i d (Damaged damage) within shown = (get_or xs i d, All-contains_itself xs i d within, λ bytes is. shown bytes (contents_same a b (get_or xs i d) same ∙ is))

  pub no_false_end : (xs : List FileName) (i : ℕ) (d : FileName) (fault : ReadFault) → i < length xs → NoFalseDamage b (get_or xs i d) fault → NoFalseEndDamage a xs fault
  no_false_end xs i d Failed within no_false = tt
  no_false_end xs i d OutOfMemory within no_false = tt
  no_false_end xs i d (Damaged damage) within no_false = λ all.
      let file = all (get_or xs i d) (All-contains_itself xs i d within) in
      no_false file.0 (contents_same a b (get_or xs i d) same ∙ file.1) file.2

  -- damage of one of them, and that it isn't a file of its kind
  pub no_false_before : (file : FileName) (fault : ReadFault) → NoFalseDamage b file fault → NoFalseDamage a file fault
  no_false_before file Failed no_false = tt
  no_false_before file OutOfMemory no_false = tt
  no_false_before file (Damaged damage) no_false = λ bytes is of. no_false bytes (contents_same a b file same ∙ is) of

-- ---- by the kind of a file

module _ (v : View) (file : FileName) where
  -- a data file has the end of one
  pub data_end : file.kind ≡ kinds.Data → ((bytes : Bytes) → contents v file ≡ Some bytes → EndsAsDataFile bytes) → HasEnd v file
  data_end kind end = subst (λ (k : Kind). (bytes : Bytes) → contents v file ≡ Some bytes → EndsAs k bytes) (sym kind) end

  -- and tells the timestamp of its footer, at most the limit
  pub data_time : (time least : ℕ) → file.kind ≡ kinds.Data → TellsMaxTimestamp v file time → least ≡ min time TIME_LIMIT → TellsTime v file least
  data_time time least kind tells least_is = subst (TellsTime v file) (sym least_is) (record {
    limit = omega arith;
    tells = subst (λ (k : Kind). TellsTimeOf k v file (min time TIME_LIMIT)) (sym kind) (λ bytes partitioner types content is of. ap (λ t. min t TIME_LIMIT) (tells bytes partitioner types content is of));
  })

  -- its damage is that of its end
  pub data_damage : (fault : ReadFault) → file.kind ≡ kinds.Data → DamageShown v file (data_file.ShowsHeaderOrFooter file) fault → DamageShown v file (ShowsEnds file) fault
  data_damage fault kind shown = subst (λ (k : Kind). DamageShown v file (ShowsEndsOf k file) fault) (sym kind) shown

  pub data_no_false : (fault : ReadFault) → file.kind ≡ kinds.Data → NoFalseDataDamage v file fault → NoFalseDamage v file fault
  data_no_false Failed kind no_false = tt
  data_no_false OutOfMemory kind no_false = tt
  data_no_false (Damaged damage) kind no_false = λ bytes is whole.
      let some : IsSomeDataFile bytes = subst (λ (k : Kind). IsWhole k bytes) kind whole in
      no_false bytes some.0 some.1 some.2 is some.3

  -- an index file has the end of one
  pub index_end : (opened : OpenIndexFile) → file.kind ≡ kinds.Index → ((bytes : Bytes) → contents v file ≡ Some bytes → HasHeaderAndFooterOf bytes opened) → HasEnd v file
  index_end opened kind end = subst (λ (k : Kind). (bytes : Bytes) → contents v file ≡ Some bytes → EndsAs k bytes) (sym kind) (λ bytes is. ends_as_index bytes opened.mode opened.kind _ (end bytes is).1)

  -- and tells no timestamp
  pub index_time : file.kind ≡ kinds.Index → TellsTime v file 0
  index_time kind = record { limit = omega arith; tells = subst (λ (k : Kind). TellsTimeOf k v file 0) (sym kind) refl }

  pub index_damage : (fault : ReadFault) → file.kind ≡ kinds.Index → DamageShown v file (index_file.ShowsHeaderOrFooter file) fault → DamageShown v file (ShowsEnds file) fault
  index_damage fault kind shown = subst (λ (k : Kind). DamageShown v file (ShowsEndsOf k file) fault) (sym kind) shown

  pub index_no_false : (fault : ReadFault) → file.kind ≡ kinds.Index → NoFalseIndexDamage v file fault → NoFalseDamage v file fault
  index_no_false Failed kind no_false = tt
  index_no_false OutOfMemory kind no_false = tt
  index_no_false (Damaged damage) kind no_false = λ bytes is whole.
      let some : (content : IndexContent) × IsIndexFile bytes content = subst (λ (k : Kind). IsWhole k bytes) kind whole in
      no_false bytes some.0 is some.1

-- how often the end of a file of this kind is read
pub data_reads : {T : Type 0} (file : FileName) (a b : View) (result : Result T ReadFault) → file.kind ≡ kinds.Data → ReadCost 2 a b result → ReadCost (end_reads file) a b result
data_reads file a b result kind cost = subst (λ (k : Kind). ReadCost (kind_reads k) a b result) (sym kind) cost

pub index_reads : {T : Type 0} (file : FileName) (a b : View) (result : Result T ReadFault) → file.kind ≡ kinds.Index → ReadCost 3 a b result → ReadCost (end_reads file) a b result
index_reads file a b result kind cost = subst (λ (k : Kind). ReadCost (kind_reads k) a b result) (sym kind) cost
