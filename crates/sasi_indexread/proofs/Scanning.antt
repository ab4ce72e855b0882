-- The scan of the terms of a file that was opened.
use Rattle.std.specs.Prelude.{◌≡◌, ℕ, ◌+◌, ◌^◌, ◌≤◌, Bool, true, false, List, [], ◌∷◌, ◌++◌, length, All, Option, None, Some, refl}
use Rattle.std.proofs.Common.{◌∙◌, sym, ap, subst, arith}
use Rattle.std.specs.List.Sorted.{IsPermutation}
use Rattle.std.specs.Option.{option_to_list}
use Rattle.std.proofs.lemmas.List.{drop_all}
use Rattle.std.proofs.lemmas.List.Elements.{All-cons}
use Rattle.std.proofs.lemmas.List.Sorted.{All-permutation}
use Rattle.sasi_types.specs.declared.column.ColumnType.{ColumnType}
use Rattle.sasi_types.specs.declared.tree.Pair.{Pair}
use Rattle.sasi_types.specs.declared.tree.TreeRef.{TreeRef}
use Rattle.sasi_host.specs.declared.name.FileName.{FileName}
use Rattle.sasi_host.specs.declared.fault.ReadFault.{ReadFault}
use Rattle.sasi_host.specs.declared.fault.ReadFault.TheVariants as fault
use Rattle.sasi_host.specs.Names.{Bytes}
use Rattle.sasi_host.specs.Damages.{DamageShown}
use Rattle.sasi_host.specs.View.{View, contents}
use Rattle.sasi_host.specs.Disk.{Changes, Same}
use Rattle.sasi_host.proofs.DamageLaws.{shown_as, shown_before}
use Rattle.sasi_terms.specs.declared.op.Op.{Op}
use Rattle.sasi_tokentree.specs.Damages.{ShowsPairs}
use Rattle.sasi_tokentree.specs.Format.{HasTree}
use Rattle.sasi_tokentree.specs.Reads.{NoFalseTreeDamage}
use Rattle.sasi_tokentree.proofs.AfterRead.{reads_still}
use Rattle.sasi_treemerge.specs.declared.tree_source.TreeSource.{TreeSource}
use Rattle.sasi_treemerge.specs.Merges.{Adds, AddsIf as AddsSize, AddsSource, AdvancesTo, Gives, Parts}
use Rattle.sasi_termblocks.specs.declared.block_ref.BlockRef.{BlockRef}
use Rattle.sasi_termblocks.specs.declared.list_form.ListForm.{ListForm}
use Rattle.sasi_termblocks.specs.declared.term_entry.TermEntry.{TermEntry}
use Rattle.sasi_termblocks.specs.Forms.{HasForm}
use Rattle.sasi_types.specs.declared.mode.Mode.{Mode}
use Rattle.std.specs.List.{AllByRecursion}
use Rattle.sasi_termblocks.specs.Damages.{ShowsBlocks}
use Rattle.sasi_termblocks.specs.Windows.{RefersWithin}
use Rattle.sasi_termblocks.specs.Scans.{CountsBelow, GivesTree, HasBlocks, HasPassed, NoFalseDamage, ReadsFirst, ReadsNext, ReadsSome, StepsTo, terms_of}
use Rattle.sasi_indexwrite.specs.Content.{IndexContent}
use Rattle.sasi_indexwrite.specs.Format.{entries, form_of, is_spill}
use Rattle.sasi_indexread.specs.Asked.{asked_lists, asks_none, is_match, lower}
use Rattle.sasi_indexread.specs.Collects.{AddsEntry, AddsIf, AddsList, HasListOf, NoFalseListDamage, ShowsList}
use Rattle.sasi_indexread.specs.Damages.{IsListedTree, ShowsIndex}
use Rattle.sasi_indexread.specs.Damages.IsListedTree.{of_spill, of_term}
use Rattle.sasi_indexread.specs.Damages.ShowsIndex.{in_blocks, in_tree}
use Rattle.sasi_indexread.specs.Opened.{IsOpenOn, OpenIndexFile}
use Rattle.sasi_indexread.specs.Searches.{AreListed, NoFalseSearchDamage}
use Rattle.sasi_indexread.proofs.Collecting.{Collects, all_passed, begins, collects_next, entry_here, none_left, some_same, stops}
use Rattle.sasi_indexread.proofs.Laws.{HasPairsOf, has_blocks, have_forms, spill_tree}
use Rattle.sasi_indexread.proofs.Laws.HasPairsOf.{by_entry, by_tree}
use Rattle.sasi_indexread.proofs.Standing.{few_terms}

-- no file is longer
abbrev pub IsShort : View → FileName → Type 0
IsShort v file = (bytes : Bytes) → contents v file ≡ Some bytes → length bytes ≤ 2 ^ 62

-- ---- trees to which the file leads

source_listed : (v w : View) (opened : OpenIndexFile) (file : FileName) (list : TreeRef) (old new : List TreeSource) → AddsSource w file list old new → ((bytes : Bytes) → contents v opened.file ≡ Some bytes → IsListedTree opened bytes list)
    → AreListed v opened old → AreListed v opened new
source_listed v w opened file list old new adds leads listed = λ bytes is. from adds.next adds.advances adds.put bytes is
  where
    from : (next : Option TreeSource) → AdvancesTo w (record { buffered = record { file = file; page = None; bytes = [] }; tree = list; passed = 0; last = None }) next → IsPermutation (option_to_list next ++ old) new → (bytes : Bytes) → contents v opened.file ≡ Some bytes
        → All (λ (s : TreeSource). IsListedTree opened bytes s.tree.value.tree) new
    from None advances put bytes is = All-permutation (λ (s : TreeSource). IsListedTree opened bytes s.tree.value.tree) old new put (listed bytes is)
    from (Some next) advances put bytes is =
        All-permutation (λ (s : TreeSource). IsListedTree opened bytes s.tree.value.tree) (next ∷ old) new put
        (All-cons (λ (s : TreeSource). IsListedTree opened bytes s.tree.value.tree) next old (subst (λ (t : TreeRef). IsListedTree opened bytes t) (sym advances.0) (leads bytes is)) (listed bytes is))

pub adds_listed : (v w : View) (opened : OpenIndexFile) (file : FileName) (list : TreeRef) (old new : Parts) → Adds w file list old new → ((bytes : Bytes) → contents v opened.file ≡ Some bytes → IsListedTree opened bytes list)
    → AreListed v opened old.sources → AreListed v opened new.sources
adds_listed v w opened file list old new adds leads listed = by_size _ adds
  where
    by_size : (small : Bool) → AddsSize w file list small old new → AreListed v opened new.sources
    by_size true (stay, holds) = subst (λ (l : List TreeSource). AreListed v opened l) (sym stay) listed
    by_size false (stay, adds_one) = source_listed v w opened file list old.sources new.sources adds_one leads listed

-- an entry that stands in the file, and whose tree can stand there, leads to its tree
pub entry_leads : (v : View) (opened : OpenIndexFile) (entry : TermEntry) (list : TreeRef) → ReadsSome v opened.file (Some entry) → GivesTree opened.blocks.first (Some entry) → entry.list ≡ Some list → (bytes : Bytes) → contents v opened.file ≡ Some bytes → IsListedTree opened bytes list
entry_leads v opened entry list stands possible is bytes reads =
    let h = stands bytes reads in
    of_term (record { page = h.0; block = h.2; stands = h.3; index = h.1; entry = entry; has = h.5; list = is; possible = subst (λ (o : Option TreeRef). RefersWithin opened.blocks.first o) is possible })

pub entry_listed : (v w : View) (opened : OpenIndexFile) (file : FileName) (op : Op) (body : Bytes) (entry : TermEntry) (more : Bool) (old new : Parts) → AddsEntry w file opened.kind op body entry more old new → ReadsSome v opened.file (Some entry)
    → GivesTree opened.blocks.first (Some entry) → AreListed v opened old.sources → AreListed v opened new.sources
entry_listed v w opened file op body entry more old new adds stands possible listed = by (is_match opened.kind op body entry.term) adds
  where
    with_list : (list : Option TreeRef) (inline : Option (List Pair)) → entry.list ≡ list → AddsList w file list inline old new → AreListed v opened new.sources
    with_list None None is adds = absurd adds
    with_list None (Some pairs) is adds = subst (λ (l : List TreeSource). AreListed v opened l) (sym adds.sources_stay) listed
    with_list (Some list) inline is adds = adds_listed v w opened file list old new adds (entry_leads v opened entry list stands possible is) listed

    by : (test : Bool) → AddsIf w file op entry test more old new → AreListed v opened new.sources
    by false added = subst (λ (l : Parts). AreListed v opened l.sources) (sym added.1) listed
    by true added = with_list entry.list entry.inline refl added.1

-- ---- damage

-- of the tree of an entry
pub list_shown : (v w : View) (opened : OpenIndexFile) (file : FileName) (entry : TermEntry) (f : ReadFault) → Changes Same v w → file ≡ opened.file → ReadsSome v opened.file (Some entry) → GivesTree opened.blocks.first (Some entry)
    → DamageShown w file (ShowsList file entry) f → DamageShown v opened.file (ShowsIndex opened) f
list_shown v w opened file entry f same named stands possible shown =
    shown_as (ShowsList opened.file entry) (ShowsIndex opened) v opened.file f (λ bytes damage is shows. in_tree shows.0 (entry_leads v opened entry shows.0 stands possible shows.1 bytes is) shows.2)
    (shown_before (ShowsList opened.file entry) v w opened.file f same (subst (λ (n : FileName). DamageShown w n (ShowsList n entry) f) named shown))

-- of the spill tree
pub spill_shown : (v : View) (opened : OpenIndexFile) (file : FileName) (list : TreeRef) (f : ReadFault) → file ≡ opened.file → list ≡ opened.spill → is_spill opened.blocks.first opened.spill ≡ true
    → DamageShown v file (ShowsPairs file list) f → DamageShown v opened.file (ShowsIndex opened) f
spill_shown v opened file list f named is possible shown =
    shown_as (ShowsPairs opened.file list) (ShowsIndex opened) v opened.file f (λ bytes damage told shows. in_tree list (of_spill is possible) shows) (subst (λ (n : FileName). DamageShown v n (ShowsPairs n list) f) named shown)

-- of the blocks
pub blocks_shown : (v w : View) (opened : OpenIndexFile) (file : FileName) (ref : BlockRef) (form : ListForm) (f : ReadFault) → Changes Same v w → file ≡ opened.file → ref ≡ opened.blocks → form ≡ form_of opened.mode → DamageShown w file (ShowsBlocks file ref form) f
    → DamageShown v opened.file (ShowsIndex opened) f
blocks_shown v w opened file ref form f same named is form_is shown =
    let own = form_of opened.mode in
    shown_as (ShowsBlocks opened.file opened.blocks own) (ShowsIndex opened) v opened.file f (λ bytes damage told shows. in_blocks shows)
    (shown_before (ShowsBlocks opened.file opened.blocks own) v w opened.file f same
    (subst (λ (o : ListForm). DamageShown w opened.file (ShowsBlocks opened.file opened.blocks o) f) form_is
    (subst (λ (r : BlockRef). DamageShown w opened.file (ShowsBlocks opened.file r form) f) is (subst (λ (n : FileName). DamageShown w n (ShowsBlocks n ref form) f) named shown))))

-- ---- what the file has

pub blocks_there : (v : View) (opened : OpenIndexFile) (content : IndexContent) (on : IsOpenOn v opened content) → IsShort v opened.file → HasBlocks on.bytes opened.blocks (entries content)
blocks_there v opened content on short = subst (λ (r : BlockRef). HasBlocks on.bytes r (entries content)) (sym on.blocks) (has_blocks on.bytes content on.index_file (short on.bytes on.reads))

pub spill_there : (v : View) (opened : OpenIndexFile) (content : IndexContent) (on : IsOpenOn v opened content) → IsShort v opened.file → HasTree on.bytes opened.spill content.spill
spill_there v opened content on short = subst (λ (t : TreeRef). HasTree on.bytes t content.spill) (sym on.spill) (spill_tree on.bytes content on.index_file (short on.bytes on.reads))

pub no_false_spill : (v : View) (opened : OpenIndexFile) (file : FileName) (list : TreeRef) (f : ReadFault) → IsShort v opened.file → file ≡ opened.file → list ≡ opened.spill → NoFalseTreeDamage v file list f → NoFalseSearchDamage v opened f
no_false_spill v opened file list fault.Failed short named is right = tt
no_false_spill v opened file list fault.OutOfMemory short named is right = tt
no_false_spill v opened file list (fault.Damaged damage) short named is right = λ content on.
    right on.bytes content.spill (ap (λ (n : FileName). contents v n) named ∙ on.reads) (subst (λ (t : TreeRef). HasTree on.bytes t content.spill) (sym is) (spill_there v opened content on short))

-- each entry has its pairs where those of the mode do
forms_there : (v : View) (opened : OpenIndexFile) (content : IndexContent) → IsOpenOn v opened content → AllByRecursion (HasForm (form_of opened.mode)) (entries content)
forms_there v opened content on = subst (λ (m : Mode). AllByRecursion (HasForm (form_of m)) (entries content)) (sym on.mode) (have_forms content)

pub no_false_blocks : (v w : View) (opened : OpenIndexFile) (file : FileName) (ref : BlockRef) (form : ListForm) (f : ReadFault) → IsShort v opened.file → Changes Same v w → file ≡ opened.file → ref ≡ opened.blocks → form ≡ form_of opened.mode
    → NoFalseDamage w file ref form f → NoFalseSearchDamage v opened f
no_false_blocks v w opened file ref form fault.Failed short same named is form_is right = tt
no_false_blocks v w opened file ref form fault.OutOfMemory short same named is form_is right = tt
no_false_blocks v w opened file ref form (fault.Damaged damage) short same named is form_is right = λ content on.
    right on.bytes (entries content) (reads_still v w opened.file file on.bytes same named on.reads) (subst (λ (r : BlockRef). HasBlocks on.bytes r (entries content)) (sym is) (blocks_there v opened content on short))
    (subst (λ (o : ListForm). AllByRecursion (HasForm o) (entries content)) (sym form_is) (forms_there v opened content on))

pub gives_at : (bytes : Bytes) (lists : List (List Pair)) (last now : Option Pair) (floor floor_now : ℕ) (sources : Parts) → now ≡ last → floor_now ≡ floor → Gives bytes lists last floor sources → Gives bytes lists now floor_now sources
gives_at bytes lists last now floor floor_now sources same below gives =
    subst (λ (l : Option Pair). Gives bytes lists l floor_now sources) (sym same) (subst (λ (n : ℕ). Gives bytes lists last n sources) (sym below) gives)

-- ---- the scan

module _ (v : View) (opened : OpenIndexFile) (op : Op) (body : Bytes) (short : IsShort v opened.file) (some : asks_none opened.kind op ≡ false) (content : IndexContent) (on : IsOpenOn v opened content) where
  pub some_here : asks_none content.kind op ≡ false
  some_here = ap (λ (k : ColumnType). asks_none k op) (sym on.kind) ∙ some

  pub starts : (last : Option Pair) (floor page index : ℕ) (entry : Option TermEntry) (sources : Parts) (file : FileName) (ref : BlockRef) (sought : Bytes) → file ≡ opened.file → ref ≡ opened.blocks → sought ≡ lower opened.kind op body
      → ReadsFirst v file ref sought page index entry → Gives on.bytes (content.spill ∷ []) last floor sources → Collects on.bytes content opened.blocks op body last floor 0 page index entry sources
  starts last floor page index entry sources file ref sought named is from first gives =
      let has = subst (λ (r : BlockRef). HasBlocks on.bytes r (entries content)) (sym is) (blocks_there v opened content on short) in
      let r = first on.bytes (entries content) (ap (λ (n : FileName). contents v n) named ∙ on.reads) has in
      begins v opened.file on.bytes content on.index_file (short on.bytes on.reads) on.reads op body some_here opened.blocks last floor r.0 page index entry sources
      (subst (λ (t : Bytes). CountsBelow (terms_of (entries content)) t r.0) (from ∙ ap (λ (k : ColumnType). lower k op body) on.kind) r.1) (subst (λ (b : BlockRef). StepsTo b (entries content) r.0 page index entry) is r.2) gives

  pub collects_further : (w : View) (last : Option Pair) (floor turn page index new_page new_index : ℕ) (entry : TermEntry) (next : Option TermEntry) (old new : Parts) (added file : FileName) (ref : BlockRef) → file ≡ opened.file → ref ≡ opened.blocks
      → added ≡ opened.file → (u : View) → Changes Same v u → Changes Same v w → Collects on.bytes content opened.blocks op body last floor turn page index (Some entry) old → AddsEntry u added opened.kind op body entry true old new
      → ReadsNext w file ref page index new_page new_index next → Collects on.bytes content opened.blocks op body last floor (turn + 1) new_page new_index next new
  collects_further w last floor turn page index new_page new_index entry next old new added file ref named is adds_named u same_u same_w was adds reads =
      let has = subst (λ (r : BlockRef). HasBlocks on.bytes r (entries content)) (sym is) (blocks_there v opened content on short) in
      collects_next u added on.bytes content on.index_file (short on.bytes on.reads) (reads_still v u opened.file added on.bytes same_u adds_named on.reads) op body some_here opened.blocks last floor turn page index new_page new_index entry next old new was
      (subst (λ (k : ColumnType). AddsEntry u added k op body entry true old new) on.kind adds)
      (λ passed has_passed. subst (λ (b : BlockRef). StepsTo b (entries content) passed new_page new_index next) is
      (reads on.bytes (entries content) passed (reads_still v w opened.file file on.bytes same_w named on.reads) has (subst (λ (b : BlockRef). HasPassed b (entries content) page index passed) (sym is) has_passed)))

  pub comes_to_end : (last : Option Pair) (floor turn page index : ℕ) (entry : Option TermEntry) (sources : Parts) → entry ≡ None → Collects on.bytes content opened.blocks op body last floor turn page index entry sources → Gives on.bytes (asked_lists content op body) last floor sources
  comes_to_end last floor turn page index entry sources none was =
      none_left v opened.file on.bytes content on.index_file (short on.bytes on.reads) on.reads op body some_here opened.blocks last floor turn page index sources
      (subst (λ (o : Option TermEntry). Collects on.bytes content opened.blocks op body last floor turn page index o sources) none was)

  pub stops_here : (last : Option Pair) (floor turn page index : ℕ) (entry : TermEntry) (old new : Parts) (added : FileName) → added ≡ opened.file → (u : View) → Changes Same v u
      → Collects on.bytes content opened.blocks op body last floor turn page index (Some entry) old → AddsEntry u added opened.kind op body entry false old new → Gives on.bytes (asked_lists content op body) last floor new
  stops_here last floor turn page index entry old new added named u same was adds =
      stops u added on.bytes content on.index_file (short on.bytes on.reads) (reads_still v u opened.file added on.bytes same named on.reads) op body some_here opened.blocks last floor turn page index entry old new was
      (subst (λ (k : ColumnType). AddsEntry u added k op body entry false old new) on.kind adds)

  pub passes_all : (last : Option Pair) (floor turn page index : ℕ) (entry : Option TermEntry) (sources : Parts) → 2 ^ 62 ≤ turn → Collects on.bytes content opened.blocks op body last floor turn page index entry sources
      → Gives on.bytes (asked_lists content op body) last floor sources
  passes_all last floor turn page index entry sources le was =
      all_passed v opened.file on.bytes content on.index_file (short on.bytes on.reads) on.reads op body some_here opened.blocks last floor turn page index entry sources was
      (drop_all turn (entries content) (omega (arith, le, few_terms on.bytes content on.index_file (short on.bytes on.reads))))

-- the tree of the entry that was read last is there, if it has one
pub entry_there : (v : View) (opened : OpenIndexFile) (op : Op) (body : Bytes) (short : IsShort v opened.file) (some : asks_none opened.kind op ≡ false) (content : IndexContent) (on : IsOpenOn v opened content) (last : Option Pair) (floor turn page index : ℕ) (entry : TermEntry)
    (sources : Parts) → Collects on.bytes content opened.blocks op body last floor turn page index (Some entry) sources → HasListOf on.bytes entry
entry_there v opened op body short some content on last floor turn page index entry sources was =
    of_pairs _ (entry_here v opened.file on.bytes content on.index_file (short on.bytes on.reads) on.reads op body (some_here v opened op body short some content on) opened.blocks last floor turn page index (was.from + turn) entry was.steps.0).is_entry.has
  where
    none_some : (t : TreeRef) → None ≡ Some t → ⊥
    none_some t e = cc

    of_pairs : (pairs : List Pair) → HasPairsOf on.bytes pairs entry → HasListOf on.bytes entry
    of_pairs pairs (by_tree tree is has) list list_is = (pairs, subst (λ (t : TreeRef). HasTree on.bytes t pairs) (some_same tree list (sym is ∙ list_is)) has)
    of_pairs pairs (by_entry none is) list list_is = absurd (none_some list (sym none ∙ list_is))

pub no_false_list : (v w : View) (opened : OpenIndexFile) (file : FileName) (entry : TermEntry) (f : ReadFault) → IsShort v opened.file → Changes Same v w → file ≡ opened.file
    → ((content : IndexContent) (on : IsOpenOn v opened content) → HasListOf on.bytes entry) → NoFalseListDamage w file entry f → NoFalseSearchDamage v opened f
no_false_list v w opened file entry fault.Failed short same named has right = tt
no_false_list v w opened file entry fault.OutOfMemory short same named has right = tt
no_false_list v w opened file entry (fault.Damaged damage) short same named has right = λ content on. right on.bytes (reads_still v w opened.file file on.bytes same named on.reads) (has content on)

pub no_false_tree : (v : View) (file : FileName) (entry : TermEntry) (list : TreeRef) (f : ReadFault) → entry.list ≡ Some list → NoFalseTreeDamage v file list f → NoFalseListDamage v file entry f
no_false_tree v file entry list fault.Failed is right = tt
no_false_tree v file entry list fault.OutOfMemory is right = tt
no_false_tree v file entry list (fault.Damaged damage) is right = λ bytes told there. (let own = there list is in right bytes own.0 told own.1)
