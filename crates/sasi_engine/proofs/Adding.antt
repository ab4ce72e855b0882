-- The streams that are added one after another.
use Rattle.std.proofs.Common.{◌≡◌, ℕ, suc, ◌+◌, ◌<◌, ◌≤◌, Bool, true, false, if◌then◌else◌, is_some, List, [], ◌∷◌, ◌++◌, length, map, drop, get_or, Option, None, Some, refl, sym, ap, ap₂, subst, ◌∙◌, add-one, arith, append_assoc, append-nil, length-append}
use Rattle.std.proofs.Math.Seq.{drop-cons}
use Rattle.std.proofs.lemmas.List.{drop_all, map-append}
use Rattle.std.specs.FinMap as map_
use Rattle.std.specs.List.{AllByRecursion}
use Rattle.sasi_types.specs.declared.column.ColumnType.{ColumnType}
use Rattle.sasi_types.specs.declared.decorated_key.DecoratedKey.{DecoratedKey}
use Rattle.sasi_manifest.specs.declared.files.PartNumber.{PartNumber}
use Rattle.sasi_memindex.specs.Book.{Book}
use Rattle.sasi_memindex.specs.declared.map_part.MapPart.{MapPart}
use Rattle.sasi_views.specs.declared.part.Part.{Part}
use Rattle.sasi_views.specs.declared.part.Part.TheVariants.{File, Map}
use Rattle.sasi_hits.specs.declared.hits.Hits.{Hits}
use Rattle.sasi_narrow.specs.declared.part_hits.PartHits.{PartHits}
use Rattle.sasi_engine.specs.declared.relation.IndexedRelation.{IndexedRelation}
use Rattle.sasi_engine.specs.Asked.{first_lacking}
use Rattle.sasi_engine.specs.HitLists.{key_count, own_count, own_positions, part_positions, position_rows}
use Rattle.sasi_engine.specs.Parts.{hits_in}
use Rattle.sasi_engine.specs.Findable.{CanFind, HasIndexFor, HasIndexes, HasWords}
use Rattle.sasi_engine.specs.inside.Found.{found_in}
use Rattle.sasi_engine.specs.inside.Sources.{Adds, AreStreams, IsStream, OfMap, Planned, all_hits, all_sources, files_with, found_sources, has_part, key_source, map_sources, own_source, own_sources, part_bits, part_for, part_hits, part_sources}

-- ---- streams behind one another

pub streams_long : (ps : List Planned) (ss : List Hits) → AreStreams ps ss → length ss ≡ length ps
streams_long [] [] are = refl
streams_long [] (s ∷ ss) are = absurd are
streams_long (p ∷ ps) [] are = absurd are
streams_long (p ∷ ps) (s ∷ ss) are = ap suc (streams_long ps ss are.1)

streams_append : (ps : List Planned) (ss : List Hits) (qs : List Planned) (ts : List Hits) → AreStreams ps ss → AreStreams qs ts → AreStreams (ps ++ qs) (ss ++ ts)
streams_append [] [] qs ts are others = others
streams_append [] (s ∷ ss) qs ts are others = absurd are
streams_append (p ∷ ps) [] qs ts are others = absurd are
streams_append (p ∷ ps) (s ∷ ss) qs ts are others = (are.0, streams_append ps ss qs ts are.1 others)

pub adds_none : (old : List Hits) → Adds [] old old
adds_none old = record { added = []; new_is = sym (append-nil old); are = tt }

pub adds_one : (source : Planned) (old new : List Hits) (s : Hits) → IsStream source.source source.leaf source.part s → new ≡ old ++ s ∷ [] → Adds (source ∷ []) old new
adds_one source old new s is pushed = record { added = s ∷ []; new_is = pushed; are = (is, tt) }

pub adds_then : (ps qs : List Planned) (a b c : List Hits) → Adds ps a b → Adds qs b c → Adds (ps ++ qs) a c
adds_then ps qs a b c first later = record {
  added = first.added ++ later.added;
  new_is = later.new_is ∙ ap (λ l. l ++ later.added) first.new_is ∙ append_assoc a first.added later.added;
  are = streams_append ps first.added qs later.added first.are later.are;
}

-- so many more
adds_long : (ps : List Planned) (old new : List Hits) → Adds ps old new → length new ≡ length old + length ps
adds_long ps old new adds = ap (λ (l : List Hits). length l) adds.new_is ∙ length-append old adds.added ∙ ap (λ n. length old + n) (streams_long ps adds.added adds.are)

-- some of those that are planned are added, and the others are left
pub record AddsSome (whole rest : List Planned) (old new : List Hits) : Type 0 where
  pub done : List Planned
  pub parts : done ++ rest ≡ whole
  pub adds : Adds done old new

pub some_none : (whole : List Planned) (old : List Hits) → AddsSome whole whole old old
some_none whole old = record { done = []; parts = refl; adds = adds_none old }

some_more : (whole one rest : List Planned) (old mid new : List Hits) → AddsSome whole (one ++ rest) old mid → Adds one mid new → AddsSome whole rest old new
some_more whole one rest old mid new so_far more = record {
  done = so_far.done ++ one;
  parts = append_assoc so_far.done one rest ∙ so_far.parts;
  adds = adds_then so_far.done one old mid new so_far.adds more;
}

pub some_all : (whole : List Planned) (old new : List Hits) → AddsSome whole [] old new → Adds whole old new
some_all whole old new all = subst (λ (l : List Planned). Adds l old new) (sym (append-nil all.done) ∙ all.parts) all.adds

-- ---- lists that grow

pub item_next : {A : Type 0} (xs : List A) (n : ℕ) (x : A) → n < length xs → x ≡ get_or xs n x → drop n xs ≡ x ∷ drop (n + 1) xs
item_next xs n x inside is = rw (add-one, drop-cons xs n x inside, ← is) refl

pub grown : {A : Type 0} (out new left later whole : List A) (x : A) → new ≡ out ++ x ∷ [] → left ≡ x ∷ later → out ++ left ≡ whole → new ++ later ≡ whole
grown out new left later whole x pushed next so_far = ap (λ l. l ++ later) pushed ∙ append_assoc out (x ∷ []) later ∙ ap (λ l. out ++ l) (sym next) ∙ so_far

all_after : {A : Type 0} (P : A → Type 0) (xs : List A) (n : ℕ) (x : A) → n < length xs → x ≡ get_or xs n x → AllByRecursion P (drop n xs) → P x × AllByRecursion P (drop (n + 1) xs)
all_after P xs n x inside is all = let both = subst (λ l. AllByRecursion P l) (item_next xs n x inside is) all in (both.0, both.1)

pushed_long : {A : Type 0} (out new : List A) (x : A) (n : ℕ) → new ≡ out ++ x ∷ [] → length out ≡ n → length new ≡ n + 1
pushed_long out new x n pushed long = ap length pushed ∙ length-append out (x ∷ []) ∙ ap (λ k. k + 1) long

-- ---- a data file

-- of the relations before this one, all is there
pub record InFileLoop (relations : List IndexedRelation) (number : ℕ) (parts : List PartNumber) (at keys n : ℕ) (indexed : List Bool) (positions : List ℕ) (old streams : List Hits) : Type 0 where
  pub long : length indexed ≡ n
  pub indexed_are : indexed ++ map (has_part parts) (drop n relations) ≡ map (has_part parts) relations
  pub positions_are : positions ++ own_positions keys (length streams) (map (has_part parts) (drop n relations)) ≡ own_positions keys (length old) (map (has_part parts) relations)
  pub words : AllByRecursion HasWords (drop n relations)
  pub adds : AddsSome (own_sources number parts at 0 relations) (own_sources number parts at n (drop n relations)) old streams

source_long : (number at leaf : ℕ) (r : IndexedRelation) (o : Option PartNumber) → length (own_source number at leaf r o) ≡ (if is_some o then 1 else 0)
source_long number at leaf r None = refl
source_long number at leaf r (Some p) = refl

module _ (relations : List IndexedRelation) (number : ℕ) (parts : List PartNumber) (at keys n : ℕ) (indexed : List Bool) (positions : List ℕ) (old streams : List Hits) (so_far : InFileLoop relations number parts at keys n indexed positions old streams) where
  pub file_word : (r : IndexedRelation) → n < length relations → r ≡ get_or relations n r → HasWords r
  file_word r inside is = (all_after HasWords relations n r inside is so_far.words).0

  module _ (r : IndexedRelation) (inside : n < length relations) (is : r ≡ get_or relations n r) (has : Bool) (more_indexed : List Bool) (more_positions : List ℕ) (new : List Hits) where
    next_relations : drop n relations ≡ r ∷ drop (n + 1) relations
    next_relations = item_next relations n r inside is

    abbrev later : List Bool
    later = map (has_part parts) (drop (n + 1) relations)

    next_position : (t : Bool) → length new ≡ length streams + (if t then 1 else 0) → own_positions keys (length streams) (t ∷ later) ≡ (if t then length streams else keys) ∷ own_positions keys (length new) later
    next_position true long = (let same : suc (length streams) ≡ length new = omega (arith, long) in ap (λ k. length streams ∷ own_positions keys k later) same)
    next_position false long = (let same : length streams ≡ length new = omega (arith, long) in ap (λ k. keys ∷ own_positions keys k later) same)

    pub one_file : has ≡ has_part parts r → (leaf : ℕ) → leaf ≡ length indexed → Adds (own_source number at leaf r (part_for r.index parts)) streams new → more_indexed ≡ indexed ++ has ∷ []
        → (own : ℕ) → own ≡ length streams → more_positions ≡ positions ++ (if has then own else keys) ∷ []
        → InFileLoop relations number parts at keys (n + 1) more_indexed more_positions old new
    one_file has_is leaf leaf_is added indexed_is own own_is positions_is =
        let n_is : leaf ≡ n = leaf_is ∙ so_far.long in
        let one_more : suc n ≡ n + 1 = omega arith in
        let mine = own_source number at n r (part_for r.index parts) in
        let added_here : Adds mine streams new = subst (λ k. Adds (own_source number at k r (part_for r.index parts)) streams new) n_is added in
        let long : length new ≡ length streams + (if has_part parts r then 1 else 0) = adds_long mine streams new added_here ∙ ap (λ k. length streams + k) (source_long number at n r (part_for r.index parts)) in
        record {
          long = pushed_long indexed more_indexed has n indexed_is so_far.long;
          indexed_are =
              grown indexed more_indexed (map (has_part parts) (drop n relations)) later (map (has_part parts) relations) has indexed_is
              (ap (map (has_part parts)) next_relations ∙ ap (λ b. b ∷ later) (sym has_is)) so_far.indexed_are;
          positions_are =
              grown positions more_positions (own_positions keys (length streams) (map (has_part parts) (drop n relations))) (own_positions keys (length new) later)
              (own_positions keys (length old) (map (has_part parts) relations)) (if has_part parts r then length streams else keys)
              (positions_is ∙ ap₂ (λ t k. positions ++ (if t then k else keys) ∷ []) has_is own_is)
              (ap (λ l. own_positions keys (length streams) (map (has_part parts) l)) next_relations ∙ next_position (has_part parts r) long) so_far.positions_are;
          words = (all_after HasWords relations n r inside is so_far.words).1;
          adds =
              some_more (own_sources number parts at 0 relations) mine (own_sources number parts at (n + 1) (drop (n + 1) relations)) old streams new
              (subst (λ l. AddsSome (own_sources number parts at 0 relations) l old streams)
              (ap (own_sources number parts at n) next_relations ∙ ap (λ k. mine ++ own_sources number parts at k (drop (n + 1) relations)) one_more) so_far.adds)
              added_here;
        }

  module _ (end : length relations ≤ n) where
    none_left : drop n relations ≡ []
    none_left = drop_all n relations end

    pub all_indexed : indexed ≡ map (has_part parts) relations
    all_indexed = sym (append-nil indexed) ∙ ap (λ l. indexed ++ map (has_part parts) l) (sym none_left) ∙ so_far.indexed_are

    pub all_positions : positions ≡ own_positions keys (length old) (map (has_part parts) relations)
    all_positions = sym (append-nil positions) ∙ ap (λ l. positions ++ own_positions keys (length streams) (map (has_part parts) l)) (sym none_left) ∙ so_far.positions_are

    pub file_added : Adds (own_sources number parts at 0 relations) old streams
    file_added = some_all (own_sources number parts at 0 relations) old streams (subst (λ l. AddsSome (own_sources number parts at 0 relations) (own_sources number parts at n l) old streams) none_left so_far.adds)

pub file_begun : (relations : List IndexedRelation) (number : ℕ) (parts : List PartNumber) (at keys : ℕ) (old : List Hits) → AllByRecursion HasWords relations → InFileLoop relations number parts at keys 0 [] [] old old
file_begun relations number parts at keys old words = record { long = refl; indexed_are = refl; positions_are = refl; words = words; adds = some_none (own_sources number parts at 0 relations) old }

-- the positions behind the stream of all keys
pub file_positions : (number at keys : ℕ) (types : List ColumnType) (bits : List Bool) (old mid : List Hits) → keys ≡ length old → Adds (key_source number types at (first_lacking 0 bits)) old mid
    → own_positions keys (length mid) bits ≡ part_positions (length old) bits
file_positions number at keys types bits old mid keys_is added =
    ap₂ (λ k n. own_positions k n bits) keys_is (adds_long (key_source number types at (first_lacking 0 bits)) old mid added ∙ ap (λ n. length old + n) (by (first_lacking 0 bits)))
  where
    by : (o : Option ℕ) → length (key_source number types at o) ≡ key_count o
    by None = refl
    by (Some leaf) = refl

-- ---- a map

pub record InMapLoop (relations : List IndexedRelation) (part : MapPart) (at n : ℕ) (found : List (List DecoratedKey)) (positions : List ℕ) (old streams : List Hits) : Type 0 where
  pub long : length found ≡ n
  pub found_are : found ++ map (found_in part) (drop n relations) ≡ map (found_in part) relations
  pub positions_are : positions ++ own_positions (length old) (length streams) (map (λ (r : IndexedRelation). true) (drop n relations)) ≡ own_positions (length old) (length old) (map (λ (r : IndexedRelation). true) relations)
  pub words : AllByRecursion HasWords (drop n relations)
  pub has : AllByRecursion (HasIndexFor part) (drop n relations)
  pub adds : AddsSome (found_sources part at 0 relations) (found_sources part at n (drop n relations)) old streams

none_lacking : (n : ℕ) (relations : List IndexedRelation) → first_lacking n (map (λ (r : IndexedRelation). true) relations) ≡ None
none_lacking n [] = refl
none_lacking n (r ∷ relations) = none_lacking (suc n) relations

module _ (relations : List IndexedRelation) (part : MapPart) (at n : ℕ) (found : List (List DecoratedKey)) (positions : List ℕ) (old streams : List Hits) (so_far : InMapLoop relations part at n found positions old streams) where
  pub map_word : (r : IndexedRelation) → n < length relations → r ≡ get_or relations n r → HasWords r
  map_word r inside is = (all_after HasWords relations n r inside is so_far.words).0

  pub map_index : (r : IndexedRelation) → n < length relations → r ≡ get_or relations n r → HasIndexFor part r
  map_index r inside is = (all_after (HasIndexFor part) relations n r inside is so_far.has).0

  module _ (r : IndexedRelation) (inside : n < length relations) (is : r ≡ get_or relations n r) (keys : List DecoratedKey) (more_found : List (List DecoratedKey)) (more_positions : List ℕ) (new : List Hits) (s : Hits) where
    more_relations : drop n relations ≡ r ∷ drop (n + 1) relations
    more_relations = item_next relations n r inside is

    pub one_map : keys ≡ found_in part r → (leaf : ℕ) → leaf ≡ length found → IsStream (OfMap keys) leaf at s → new ≡ streams ++ s ∷ [] → more_found ≡ found ++ keys ∷ []
        → (own : ℕ) → own ≡ length streams → more_positions ≡ positions ++ own ∷ []
        → InMapLoop relations part at (n + 1) more_found more_positions old new
    one_map keys_are leaf leaf_is stream streams_are found_is own own_is positions_is =
        let n_is : leaf ≡ n = leaf_is ∙ so_far.long in
        let one_more : suc n ≡ n + 1 = omega arith in
        let mine : Planned = record { source = OfMap (found_in part r); leaf = n; part = at } in
        let added : Adds (mine ∷ []) streams new = adds_one mine streams new s (subst (λ (ks : List DecoratedKey). IsStream (OfMap ks) n at s) keys_are (subst (λ k. IsStream (OfMap keys) k at s) n_is stream)) streams_are in
        let longer : length new ≡ length streams + 1 = adds_long (mine ∷ []) streams new added in
        let next_long : suc (length streams) ≡ length new = omega (arith, longer) in
        record {
          long = pushed_long found more_found keys n found_is so_far.long;
          found_are =
              grown found more_found (map (found_in part) (drop n relations)) (map (found_in part) (drop (n + 1) relations)) (map (found_in part) relations) keys found_is
              (ap (map (found_in part)) more_relations ∙ ap (λ (ks : List DecoratedKey). ks ∷ map (found_in part) (drop (n + 1) relations)) (sym keys_are)) so_far.found_are;
          positions_are =
              grown positions more_positions (own_positions (length old) (length streams) (map (λ (q : IndexedRelation). true) (drop n relations))) (own_positions (length old) (length new) (map (λ (q : IndexedRelation). true) (drop (n + 1) relations)))
              (own_positions (length old) (length old) (map (λ (q : IndexedRelation). true) relations)) (length streams)
              (positions_is ∙ ap (λ k. positions ++ k ∷ []) own_is)
              (ap (λ l. own_positions (length old) (length streams) (map (λ (q : IndexedRelation). true) l)) more_relations
              ∙ ap (λ k. length streams ∷ own_positions (length old) k (map (λ (q : IndexedRelation). true) (drop (n + 1) relations))) next_long) so_far.positions_are;
          words = (all_after HasWords relations n r inside is so_far.words).1;
          has = (all_after (HasIndexFor part) relations n r inside is so_far.has).1;
          adds =
              some_more (found_sources part at 0 relations) (mine ∷ []) (found_sources part at (n + 1) (drop (n + 1) relations)) old streams new
              (subst (λ l. AddsSome (found_sources part at 0 relations) l old streams)
              (ap (found_sources part at n) more_relations ∙ ap (λ k. mine ∷ found_sources part at k (drop (n + 1) relations)) one_more) so_far.adds)
              added;
        }

  module _ (end : length relations ≤ n) where
    map_left : drop n relations ≡ []
    map_left = drop_all n relations end

    pub all_found : found ≡ map (found_in part) relations
    all_found = sym (append-nil found) ∙ ap (λ l. found ++ map (found_in part) l) (sym map_left) ∙ so_far.found_are

    pub map_positions : positions ≡ part_positions (length old) (map (λ (r : IndexedRelation). true) relations)
    map_positions =
        let none : length old + 0 ≡ length old = omega arith in
        sym (append-nil positions) ∙ ap (λ l. positions ++ own_positions (length old) (length streams) (map (λ (r : IndexedRelation). true) l)) (sym map_left) ∙ so_far.positions_are
        ∙ ap (λ k. own_positions (length old) k (map (λ (r : IndexedRelation). true) relations)) (sym none)
        ∙ ap (λ (o : Option ℕ). own_positions (length old) (length old + key_count o) (map (λ (r : IndexedRelation). true) relations)) (sym (none_lacking 0 relations))

    pub map_added : Adds (found_sources part at 0 relations) old streams
    map_added = some_all (found_sources part at 0 relations) old streams (subst (λ l. AddsSome (found_sources part at 0 relations) (found_sources part at n l) old streams) map_left so_far.adds)

pub map_begun : (relations : List IndexedRelation) (part : MapPart) (at : ℕ) (old : List Hits) → AllByRecursion HasWords relations → AllByRecursion (HasIndexFor part) relations → InMapLoop relations part at 0 [] [] old old
map_begun relations part at old words has = record { long = refl; found_are = refl; positions_are = refl; words = words; has = has; adds = some_none (found_sources part at 0 relations) old }

-- ---- all parts

pub record InPartsLoop (relations : List IndexedRelation) (parts : List Part) (types : List ColumnType) (book : Book) (n files : ℕ) (hits : List PartHits) (rows : List (List ℕ)) (streams : List Hits) : Type 0 where
  pub long : length rows ≡ n
  pub few : files ≤ n
  pub hits_are : map hits_in hits ++ all_hits book relations files (drop n parts) ≡ all_hits book relations 0 parts
  pub rows_are : rows ++ position_rows (length streams) (map (part_bits relations) (drop n parts)) ≡ position_rows 0 (map (part_bits relations) parts)
  pub can : AllByRecursion (CanFind book relations) (drop n parts)
  pub adds : AddsSome (all_sources book types relations 0 parts) (all_sources book types relations n (drop n parts)) [] streams

own_long : (number at leaf : ℕ) (parts : List PartNumber) (relations : List IndexedRelation) → length (own_sources number parts at leaf relations) ≡ own_count (map (has_part parts) relations)
own_long number at leaf parts [] = refl
own_long number at leaf parts (r ∷ relations) =
    length-append (own_source number at leaf r (part_for r.index parts)) (own_sources number parts at (suc leaf) relations)
    ∙ ap₂ (λ a b. a + b) (source_long number at leaf r (part_for r.index parts)) (own_long number at (suc leaf) parts relations)
    ∙ by (has_part parts r)
  where
    by : (t : Bool) → (if t then 1 else 0) + own_count (map (has_part parts) relations) ≡ own_count (t ∷ map (has_part parts) relations)
    by true = omega arith
    by false = omega arith

found_long : (part : MapPart) (at leaf : ℕ) (relations : List IndexedRelation) → length (found_sources part at leaf relations) ≡ own_count (map (λ (r : IndexedRelation). true) relations)
found_long part at leaf [] = refl
found_long part at leaf (r ∷ relations) = ap suc (found_long part at (suc leaf) relations)

key_long : (number at : ℕ) (types : List ColumnType) (o : Option ℕ) → length (key_source number types at o) ≡ key_count o
key_long number at types None = refl
key_long number at types (Some leaf) = refl

map_long : (relations : List IndexedRelation) (at : ℕ) (o : Option MapPart) → HasIndexes relations o → length (map_sources relations at o) ≡ own_count (map (λ (r : IndexedRelation). true) relations)
map_long relations at None can = absurd can
map_long relations at (Some part) can = found_long part at 0 relations

part_long : (book : Book) (types : List ColumnType) (relations : List IndexedRelation) (at : ℕ) (part : Part) → CanFind book relations part
    → length (part_sources book types relations at part) ≡ key_count (first_lacking 0 (part_bits relations part)) + own_count (part_bits relations part)
part_long book types relations at (File number parts) can =
    length-append (key_source number types at (first_lacking 0 (map (has_part parts) relations))) (own_sources number parts at 0 relations)
    ∙ ap₂ (λ a b. a + b) (key_long number at types (first_lacking 0 (map (has_part parts) relations))) (own_long number at 0 parts relations)
part_long book types relations at (Map number) can =
    let none : key_count (first_lacking 0 (map (λ (r : IndexedRelation). true) relations)) ≡ 0 = ap key_count (none_lacking 0 relations) in
    omega (arith, map_long relations at (map_.get book number) can, none)

counted : (files n : ℕ) (part : Part) → files ≤ n → files_with files part ≤ n + 1
counted files n (File number parts) le = omega (arith, le)
counted files n (Map number) le = omega (arith, le)

module _ (relations : List IndexedRelation) (parts : List Part) (types : List ColumnType) (book : Book) (n files : ℕ) (hits : List PartHits) (rows : List (List ℕ)) (streams : List Hits) (so_far : InPartsLoop relations parts types book n files hits rows streams) where
  pub part_can : (part : Part) → n < length parts → part ≡ get_or parts n part → CanFind book relations part
  part_can part inside is = (all_after (CanFind book relations) parts n part inside is so_far.can).0

  module _ (part : Part) (inside : n < length parts) (is : part ≡ get_or parts n part) (hit : PartHits) (row : List ℕ) (more_hits : List PartHits) (more_rows : List (List ℕ)) (new : List Hits) where
    next_parts : drop n parts ≡ part ∷ drop (n + 1) parts
    next_parts = item_next parts n part inside is

    pub one_part : hits_in hit ≡ part_hits book relations files part → row ≡ part_positions (length streams) (part_bits relations part) → (at : ℕ) → at ≡ length rows → Adds (part_sources book types relations at part) streams new
        → more_hits ≡ hits ++ hit ∷ [] → more_rows ≡ rows ++ row ∷ [] → (more_files : ℕ) → more_files ≡ files_with files part
        → InPartsLoop relations parts types book (n + 1) more_files more_hits more_rows new
    one_part hit_is row_is at at_is added hits_is rows_is more_files files_are =
        let n_is : at ≡ n = at_is ∙ so_far.long in
        let one_more : suc n ≡ n + 1 = omega arith in
        let here : Adds (part_sources book types relations n part) streams new = subst (λ k. Adds (part_sources book types relations k part) streams new) n_is added in
        let bits = part_bits relations part in
        let long : length new ≡ length streams + (key_count (first_lacking 0 bits) + own_count bits) =
        adds_long (part_sources book types relations n part) streams new here ∙ ap (λ k. length streams + k) (part_long book types relations n part (part_can part inside is)) in
        record {
          long = pushed_long rows more_rows row n rows_is so_far.long;
          few = subst (λ k. k ≤ n + 1) (sym files_are) (counted files n part so_far.few);
          hits_are =
              grown (map hits_in hits) (map hits_in more_hits) (all_hits book relations files (drop n parts)) (all_hits book relations more_files (drop (n + 1) parts)) (all_hits book relations 0 parts) (hits_in hit)
              (ap (map hits_in) hits_is ∙ map-append hits_in hits (hit ∷ []))
              (ap (all_hits book relations files) next_parts ∙ ap₂ (λ h k. h ∷ all_hits book relations k (drop (n + 1) parts)) (sym hit_is) (sym files_are)) so_far.hits_are;
          rows_are =
              grown rows more_rows (position_rows (length streams) (map (part_bits relations) (drop n parts))) (position_rows (length new) (map (part_bits relations) (drop (n + 1) parts))) (position_rows 0 (map (part_bits relations) parts)) row rows_is
              (ap (λ l. position_rows (length streams) (map (part_bits relations) l)) next_parts
              ∙ ap₂ (λ (r : List ℕ) k. r ∷ position_rows k (map (part_bits relations) (drop (n + 1) parts))) (sym row_is) (sym long)) so_far.rows_are;
          can = (all_after (CanFind book relations) parts n part inside is so_far.can).1;
          adds =
              some_more (all_sources book types relations 0 parts) (part_sources book types relations n part) (all_sources book types relations (n + 1) (drop (n + 1) parts)) [] streams new
              (subst (λ l. AddsSome (all_sources book types relations 0 parts) l [] streams)
              (ap (all_sources book types relations n) next_parts ∙ ap (λ k. part_sources book types relations n part ++ all_sources book types relations k (drop (n + 1) parts)) one_more) so_far.adds)
              here;
        }

  module _ (end : length parts ≤ n) where
    parts_left : drop n parts ≡ []
    parts_left = drop_all n parts end

    pub all_streams : AreStreams (all_sources book types relations 0 parts) streams
    all_streams =
        let all = some_all (all_sources book types relations 0 parts) [] streams (subst (λ l. AddsSome (all_sources book types relations 0 parts) (all_sources book types relations n l) [] streams) parts_left so_far.adds) in
        subst (λ (ss : List Hits). AreStreams (all_sources book types relations 0 parts) ss) (sym all.new_is) all.are

    pub all_parts : map hits_in hits ≡ all_hits book relations 0 parts
    all_parts = sym (append-nil (map hits_in hits)) ∙ ap (λ l. map hits_in hits ++ all_hits book relations files l) (sym parts_left) ∙ so_far.hits_are

    pub all_rows : rows ≡ position_rows 0 (map (part_bits relations) parts)
    all_rows = sym (append-nil rows) ∙ ap (λ l. rows ++ position_rows (length streams) (map (part_bits relations) l)) (sym parts_left) ∙ so_far.rows_are

pub parts_begun : (relations : List IndexedRelation) (parts : List Part) (types : List ColumnType) (book : Book) → AllByRecursion (CanFind book relations) parts → InPartsLoop relations parts types book 0 0 [] [] []
parts_begun relations parts types book can = record { long = refl; few = omega arith; hits_are = refl; rows_are = refl; can = can; adds = some_none (all_sources book types relations 0 parts) [] }
