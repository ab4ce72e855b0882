-- A search, step by step.
use Rattle.std.specs.Prelude.{◌≡◌, ℕ, ◌+◌, ◌-◌, Bool, true, false, not, ◌&&◌, map, List, [], ◌∷◌, All, Contains, Option, Some, Ok, Err, refl}
use Rattle.std.proofs.Common.{◌∙◌, sym, ap, subst, arith, cond, length}
use Rattle.std.specs.List.{filter}
use Rattle.sasi_types.specs.declared.column.ColumnType.{ColumnType}
use Rattle.std.proofs.lemmas.List.Elements.{All-contains, All-nil, All-weaker}
use Rattle.sasi_types.specs.declared.tree.Pair.{Pair}
use Rattle.sasi_types.specs.declared.tree.TreeRef.{TreeRef}
use Rattle.sasi_host.specs.declared.name.FileName.{FileName}
use Rattle.sasi_host.specs.declared.fault.ReadFault.{ReadFault}
use Rattle.sasi_host.specs.declared.fault.ReadFault.TheVariants as fault
use Rattle.sasi_host.specs.Names.{Bytes}
use Rattle.sasi_host.specs.Damages.{DamageShown}
use Rattle.sasi_host.specs.View.{View, ReadCost, contents}
use Rattle.sasi_host.specs.Disk.{Changes, Same}
use Rattle.sasi_host.proofs.ContentLaws.{contents_same}
use Rattle.sasi_host.proofs.CauseLaws.{fault_reads, reads_behind}
use Rattle.sasi_host.proofs.DamageLaws.{shown_as, shown_before}
use Rattle.sasi_terms.specs.declared.op.Op.{Op}
use Rattle.sasi_tokentree.specs.Format.{HasTree}
use Rattle.sasi_treemerge.specs.declared.held_pair.HeldPair.{HeldPair}
use Rattle.sasi_treemerge.specs.declared.merge.TreeMerge.{TreeMerge}
use Rattle.sasi_treemerge.specs.declared.tree_source.TreeSource.{TreeSource}
use Rattle.sasi_treemerge.specs.MergeDamages.{NoFalseDamageOf, ShowsSources}
use Rattle.sasi_treemerge.specs.Merges.{Adds, CanMerge, Gives, IsLeast, IsSourceIn, Parts, TreesStay, parts_of, sources_of}
use Rattle.sasi_treemerge.proofs.Taking.{adds_list}
use Rattle.sasi_indexwrite.specs.Content.{IndexContent, TermPairs}
use Rattle.sasi_indexwrite.specs.Format.{is_spill}
use Rattle.sasi_indexread.specs.Asked.{asked_lists, asks_none, is_asked_term, is_match}
use Rattle.sasi_indexread.specs.Damages.{IsListedTree, ShowsIndex}
use Rattle.sasi_indexread.specs.Damages.IsListedTree.{of_spill}
use Rattle.sasi_indexread.specs.Damages.ShowsIndex.{in_tree}
use Rattle.sasi_indexread.specs.Opened.{IsOpenOn, OpenIndexFile}
use Rattle.sasi_indexread.specs.Searches.{AreListed, CanSearch, FailsAsRead, IsSearching, NoFalseSearchDamage, NoFalseSearchingDamage, Searching, searching}
use Rattle.sasi_indexread.proofs.Callers.{open_back, open_still}
use Rattle.sasi_indexread.proofs.Scanning.{IsShort, adds_listed, spill_there}

differ : true ≡ false → ⊥
differ e = cc

-- ---- the spill

no_lists : (bytes : Bytes) (last : Option Pair) (floor : ℕ) (parts : Parts) → parts.sources ≡ [] → parts.pairs ≡ [] → Gives bytes [] last floor parts
no_lists bytes last floor parts none empty = record {
  each = subst (λ (l : List TreeSource). All (IsSourceIn bytes []) l) (sym none) (All-nil (IsSourceIn bytes []));
  held = λ pair is. absurd (omega (arith, is.1, ap (λ (l : List HeldPair). length l) empty));
  all = λ pairs pair listed has left. absurd (omega (arith, listed.1));
}

pub spill_gives : (v : View) (opened : OpenIndexFile) (file : FileName) (list : TreeRef) (last : Option Pair) (floor : ℕ) (old new : Parts) → IsShort v opened.file → file ≡ opened.file → list ≡ opened.spill → old.sources ≡ [] → old.pairs ≡ [] → Adds v file list old new
    → (content : IndexContent) (on : IsOpenOn v opened content) → Gives on.bytes (content.spill ∷ []) last floor new
spill_gives v opened file list last floor old new short named is none empty adds content on =
    adds_list v file on.bytes [] last floor list content.spill old new adds (ap (λ (n : FileName). contents v n) named ∙ on.reads)
    (subst (λ (t : TreeRef). HasTree on.bytes t content.spill) (sym is) (spill_there v opened content on short)) (no_lists on.bytes last floor old none empty)

pub spill_listed : (v : View) (opened : OpenIndexFile) (file : FileName) (list : TreeRef) (old new : Parts) → list ≡ opened.spill → is_spill opened.blocks.first opened.spill ≡ true → old.sources ≡ [] → Adds v file list old new
    → AreListed v opened new.sources
spill_listed v opened file list old new is possible none adds =
    adds_listed v v opened file list old new adds (λ bytes told. of_spill is possible) (λ bytes told. subst (λ (l : List TreeSource). All (λ (s : TreeSource). IsListedTree opened bytes s.tree.value.tree) l) (sym none) (All-nil (λ (s : TreeSource). IsListedTree opened bytes s.tree.value.tree)))

none_kept : (test : TermPairs → Bool) (terms : List TermPairs) → ((one : TermPairs) → test one ≡ false) → filter test terms ≡ []
none_kept test [] none = refl
none_kept test (one ∷ others) none = ap (λ (b : Bool). cond b (one ∷ filter test others) (filter test others)) (none one) ∙ none_kept test others none

pub spill_gives_now : (v w : View) (opened : OpenIndexFile) (file : FileName) (list : TreeRef) (last : Option Pair) (floor : ℕ) (old new : Parts) → Changes Same v w → IsShort v opened.file → file ≡ opened.file → list ≡ opened.spill → old.sources ≡ [] → old.pairs ≡ []
    → Adds v file list old new → (content : IndexContent) (on : IsOpenOn w opened content) → Gives on.bytes (content.spill ∷ []) last floor new
unfolding open_back
spill_gives_now v w opened file list last floor old new same short named is none empty adds content on = spill_gives v opened file list last floor old new short named is none empty adds content (open_back v w opened content same on)

pub gives_before : (v w : View) (opened : OpenIndexFile) (op : Op) (body : Bytes) (last : Option Pair) (floor : ℕ) (parts : Parts) → Changes Same v w → ((content : IndexContent) (on : IsOpenOn w opened content) → Gives on.bytes (asked_lists content op body) last floor parts)
    → (content : IndexContent) (on : IsOpenOn v opened content) → Gives on.bytes (asked_lists content op body) last floor parts
unfolding open_still
gives_before v w opened op body last floor parts same gives content on = gives content (open_still v w opened content same on)

pub no_false_before : (v w : View) (opened : OpenIndexFile) (f : ReadFault) → Changes Same v w → NoFalseSearchDamage w opened f → NoFalseSearchDamage v opened f
no_false_before v w opened fault.Failed same right = tt
no_false_before v w opened fault.OutOfMemory same right = tt
no_false_before v w opened (fault.Damaged damage) same right = λ content on. right content (open_still v w opened content same on)

-- where no term is asked for, the spill is all
pub spill_alone : (content : IndexContent) (opened : OpenIndexFile) (op : Op) (body : Bytes) (bytes : Bytes) (last : Option Pair) (floor : ℕ) (sources : Parts) → opened.kind ≡ content.kind → asks_none opened.kind op ≡ true → Gives bytes (content.spill ∷ []) last floor sources
    → Gives bytes (asked_lists content op body) last floor sources
spill_alone content opened op body bytes last floor sources kind asks gives =
    let none : filter (is_asked_term content op body) content.terms ≡ [] =
    none_kept (is_asked_term content op body) content.terms (λ one. ap (λ (b : Bool). not b && is_match content.kind op body one.0) (ap (λ (k : ColumnType). asks_none k op) (sym kind) ∙ asks)) in
    subst (λ (l : List (List Pair)). Gives bytes l last floor sources) (ap (λ (l : List TermPairs). content.spill ∷ map (λ (one : TermPairs). one.1) l) (sym none)) gives

-- ---- one search

pub listed_now : (a b : View) (opened : OpenIndexFile) (sources : List TreeSource) → Changes Same a b → AreListed a opened sources → AreListed b opened sources
listed_now a b opened sources same listed = λ bytes is. listed bytes (sym (contents_same a b opened.file same) ∙ is)

pub listed_stay : (v : View) (opened : OpenIndexFile) (old new : List TreeSource) → TreesStay old new → AreListed v opened old → AreListed v opened new
listed_stay v opened old new stay listed = λ bytes is.
    All-weaker (λ (s : TreeSource). (was : TreeSource) × Contains old was × (s.tree.value.tree ≡ was.tree.value.tree)) (λ (s : TreeSource). IsListedTree opened bytes s.tree.value.tree)
    (λ s was. subst (λ (t : TreeRef). IsListedTree opened bytes t) (sym was.2) (All-contains (λ (t : TreeSource). IsListedTree opened bytes t.tree.value.tree) old was.0 (listed bytes is) was.1)) new stay

pub now_collected : (a b : View) (index : OpenIndexFile) (op : Op) (body : Bytes) (was : Bool) (old new : TreeMerge) (content : IndexContent) → Changes Same a b
    → ((content : IndexContent) (on : IsOpenOn a index content) → Gives on.bytes (asked_lists content op body) new.last new.floor (parts_of new))
    → IsSearching a (searching index op body was old) content → IsSearching b (searching index op body true new) content
unfolding open_still
now_collected a b index op body was old new content same collects is = record { is_open = open_still a b index content same is.is_open; gives = λ _. collects content is.is_open }

pub collected_can : (a b : View) (index : OpenIndexFile) (op : Op) (body : Bytes) (was : Bool) (old new : TreeMerge) → Changes Same a b → CanSearch a (searching index op body was old) → new.file ≡ old.file → CanMerge b new → AreListed a index (sources_of new)
    → CanSearch b (searching index op body true new)
collected_can a b index op body was old new same can file merge listed = record {
  named = file ∙ can.named;
  merge = merge;
  listed = listed_now a b index (sources_of new) same listed;
  fresh = λ no_more. absurd (differ no_more);
}

pub next_can : (a b : View) (index : OpenIndexFile) (op : Op) (body : Bytes) (done : Bool) (old new : TreeMerge) → done ≡ true → Changes Same a b → CanSearch a (searching index op body done old) → new.file ≡ old.file → CanMerge b new
    → TreesStay (sources_of old) (sources_of new) → CanSearch b (searching index op body done new)
next_can a b index op body done old new is same can file merge stay = record {
  named = file ∙ can.named;
  merge = merge;
  listed = listed_now a b index (sources_of new) same (listed_stay a index (sources_of old) (sources_of new) stay can.listed);
  fresh = λ no_more. absurd (differ (sym is ∙ no_more));
}

-- the merge's pair is that of the search
pub next_gives : (a b c : View) (index : OpenIndexFile) (op : Op) (body : Bytes) (was done : Bool) (first old new : TreeMerge) (found : Option Pair) (content : IndexContent) → done ≡ true → Changes Same b c → old.file ≡ index.file → old.last ≡ first.last → old.floor ≡ first.floor
    → (IsSearching a (searching index op body was first) content → IsSearching b (searching index op body done old) content)
    → ((bytes : Bytes) (lists : List (List Pair)) → contents b old.file ≡ Some bytes → Gives bytes lists old.last old.floor (parts_of old) → IsLeast lists old.last old.floor found × Gives bytes lists new.last new.floor (parts_of new))
    → IsSearching a (searching index op body was first) content
    → IsLeast (asked_lists content op body) first.last first.floor found × IsSearching c (searching index op body done new) content
unfolding open_still
next_gives a b c index op body was done first old new found content is same named last floor before gives searches =
    let now = before searches in
    let both = gives now.is_open.bytes (asked_lists content op body) (ap (λ (n : FileName). contents b n) named ∙ now.is_open.reads) (now.gives is) in (
      subst (λ (l : Option Pair). IsLeast (asked_lists content op body) l first.floor found) last (subst (λ (n : ℕ). IsLeast (asked_lists content op body) old.last n found) floor both.0),
      record { is_open = open_still b c index content same now.is_open; gives = λ _. both.1 },
    )

-- ---- damage

pub merge_shown : (a b : View) (index : OpenIndexFile) (file : FileName) (sources : List TreeSource) (f : ReadFault) → Changes Same a b → file ≡ index.file → AreListed b index sources → DamageShown b file (ShowsSources sources file) f
    → DamageShown a index.file (ShowsIndex index) f
merge_shown a b index file sources f same named listed shown =
    shown_before (ShowsIndex index) a b index.file f same
    (shown_as (ShowsSources sources index.file) (ShowsIndex index) b index.file f
    (λ bytes damage is shows. in_tree shows.source.tree.value.tree (All-contains (λ (s : TreeSource). IsListedTree index bytes s.tree.value.tree) sources shows.source (listed bytes is) shows.there) shows.shows)
    (subst (λ (n : FileName). DamageShown b n (ShowsSources sources n) f) named shown))

pub no_false_merge : (a b : View) (index : OpenIndexFile) (op : Op) (body : Bytes) (was done : Bool) (first old : TreeMerge) (f : ReadFault) → done ≡ true → old.file ≡ index.file
    → ((content : IndexContent) → IsSearching a (searching index op body was first) content → IsSearching b (searching index op body done old) content) → NoFalseDamageOf b old.file (sources_of old) f
    → NoFalseSearchingDamage a (searching index op body was first) f
no_false_merge a b index op body was done first old fault.Failed is named before right = tt
no_false_merge a b index op body was done first old fault.OutOfMemory is named before right = tt
no_false_merge a b index op body was done first old (fault.Damaged damage) is named before right = λ content searches.
    (let now = before content searches in
    right now.is_open.bytes (asked_lists content op body) (ap (λ (n : FileName). contents b n) named ∙ now.is_open.reads) (now.gives is).each)

pub no_false_open : (a : View) (asked : Searching) (f : ReadFault) → NoFalseSearchDamage a asked.index f → NoFalseSearchingDamage a asked f
no_false_open a asked fault.Failed right = tt
no_false_open a asked fault.OutOfMemory right = tt
no_false_open a asked (fault.Damaged damage) right = λ content is. right content is.is_open

-- ---- causes

pub reads_as_told : {T : Type 0} (a b : View) (most : ℕ) (f : ReadFault) → ReadCost {T = T} most a b (Err f) → ReadCost {T = T} (b.reads - a.reads) a b (Err f)
reads_as_told a b most f causes = record { disk = causes.disk; out = causes.out; reads = omega arith; ok = tt; failed = causes.failed; memory = causes.memory; damaged = causes.damaged }

pub first_fails : {S T : Type 0} (a b : View) (most : ℕ) (f : ReadFault) → ReadCost {T = S} most a b (Err f) → FailsAsRead {T = T} a b (Err f)
first_fails {T = T} a b most f causes = reads_as_told {T = T} a b most f (fault_reads a b most most f (omega arith) causes)

pub then_fails : {R S T : Type 0} (a b c : View) (n m : ℕ) (x : R) (f : ReadFault) → ReadCost n a b (Ok x) → ReadCost {T = S} m b c (Err f) → FailsAsRead {T = T} a c (Err f)
then_fails {S = S} {T = T} a b c n m x f one two = first_fails {S = S} {T = T} a c (n + m) f (reads_behind a b c m (n + m) (Err f) one.ok one.out (omega (arith, one.reads)) two)

pub then_succeeds : {R S T : Type 0} (a b c : View) (n m : ℕ) (x : R) (y : S) (z : T) → ReadCost n a b (Ok x) → ReadCost m b c (Ok y) → FailsAsRead a c (Ok z)
then_succeeds a b c n m x y z one two = record { disk = omega (arith, one.disk, two.disk); out = two.out ∙ one.out; reads = omega arith; ok = two.ok ∙ one.ok; failed = tt; memory = tt; damaged = tt }
