-- The scan of the terms, entry by entry: the parts of the merge are those of the lists that are asked for so far.
use Rattle.std.specs.Prelude.{◌≡◌, ℕ, zero, suc, ◌+◌, ◌-◌, ◌^◌, ◌<◌, ◌≤◌, Bool, true, false, ◌&&◌, not, List, [], ◌∷◌, ◌++◌, length, map, take, drop, get_or, Option, None, Some, refl}
use Rattle.std.proofs.Common.{◌∙◌, sym, ap, subst, arith, length-drop, take-append-drop, cond}
use Rattle.std.specs.List.{filter}
use Rattle.std.proofs.lemmas.List.{append-nil, get_or-drop, length-map, map-append}
use Rattle.std.proofs.lemmas.List.Elements.{filter-append, filter_more}
use Rattle.sasi_types.specs.declared.tree.Pair.{Pair}
use Rattle.sasi_types.specs.declared.tree.TreeRef.{TreeRef}
use Rattle.sasi_host.specs.declared.name.FileName.{FileName}
use Rattle.sasi_host.specs.Names.{Bytes}
use Rattle.sasi_host.specs.View.{View, contents}
use Rattle.sasi_terms.specs.declared.op.Op.{Op}
use Rattle.sasi_termblocks.specs.declared.block_ref.BlockRef.{BlockRef}
use Rattle.sasi_termblocks.specs.declared.term_entry.TermEntry.{TermEntry}
use Rattle.sasi_termblocks.specs.Entries.{is_below}
use Rattle.sasi_termblocks.specs.Scans.{CountsBelow, HasPassed, StepsTo, terms_of}
use Rattle.sasi_indexwrite.specs.Content.{IndexContent, TermPairs, terms_in}
use Rattle.sasi_indexwrite.specs.Files.{IsIndexFile}
use Rattle.sasi_indexwrite.specs.Format.{entries}
use Rattle.sasi_indexread.specs.Asked.{asked_lists, asks_none, is_asked_term, is_match, is_run, lists_of, lower}
use Rattle.sasi_indexread.specs.Collects.{AddsEntry, AddsIf, AddsList}
use Rattle.sasi_treemerge.specs.Merges.{Gives, Parts}
use Rattle.sasi_indexread.proofs.AskedLaws.{below_lower, past_run}
use Rattle.sasi_indexread.proofs.Laws.{HasPairsOf, IsEntryOf, entries_length, none, term_trees, terms_same}
use Rattle.sasi_indexread.proofs.Laws.HasPairsOf.{by_entry, by_tree}
use Rattle.sasi_treemerge.proofs.Taking.{adds_list, adds_pairs_list}

-- ---- what a test keeps

none_front : (test : TermPairs → Bool) (n : ℕ) (terms : List TermPairs) → ((k : ℕ) → k < n → k < length terms → test (get_or terms k ([], [])) ≡ false) → filter test (take n terms) ≡ []
none_front test zero terms none = refl
none_front test (suc n) [] none = refl
none_front test (suc n) (one ∷ others) none =
    ap (λ (b : Bool). cond b (one ∷ filter test (take n others)) (filter test (take n others))) (none 0 (omega arith) (omega arith))
    ∙ none_front test n others (λ k lt within. none (suc k) (omega (arith, lt)) (omega (arith, within)))

none_behind : (test : TermPairs → Bool) (n : ℕ) (terms : List TermPairs) → ((k : ℕ) → n ≤ k → k < length terms → test (get_or terms k ([], [])) ≡ false) → filter test (drop n terms) ≡ []
none_behind test zero [] none = refl
none_behind test zero (one ∷ others) none =
    ap (λ (b : Bool). cond b (one ∷ filter test others) (filter test others)) (none 0 (omega arith) (omega arith))
    ∙ none_behind test zero others (λ k le within. none (suc k) (omega arith) (omega (arith, within)))
none_behind test (suc n) [] none = refl
none_behind test (suc n) (one ∷ others) none = none_behind test n others (λ k le within. none (suc k) (omega (arith, le)) (omega (arith, within)))

-- the scan began at an entry, and is so many further on; it read this entry last, and the parts are those of the lists that
-- were asked for so far
pub record Collects (bytes : Bytes) (content : IndexContent) (ref : BlockRef) (op : Op) (body : Bytes) (last : Option Pair) (floor turn page index : ℕ) (entry : Option TermEntry) (parts : Parts) : Type 0 where
  pub from : ℕ
  pub above : (k : ℕ) → from ≤ k → k < length content.terms → is_below (get_or content.terms k ([], [])).0 (lower content.kind op body) ≡ false
  pub steps : StepsTo ref (entries content) (from + turn) page index entry
  pub gives : Gives bytes (lists_of content op body (take (from + turn) content.terms)) last floor parts

pub some_same : (s t : TreeRef) → Some s ≡ Some t → s ≡ t
some_same s t e = cc

no_truth : false ≡ true → ⊥
no_truth e = cc

turned : (b : Bool) → false ≡ not b → b ≡ true
turned true e = refl
turned false e = absurd cc

-- the pairs of an entry are one list more
list_gives : (v : View) (file : FileName) (bytes : Bytes) (lists : List (List Pair)) (pairs : List Pair) (last : Option Pair) (floor : ℕ) (entry : TermEntry) (old new : Parts) → contents v file ≡ Some bytes → HasPairsOf bytes pairs entry
    → AddsList v file entry.list entry.inline old new → Gives bytes lists last floor old → Gives bytes (lists ++ pairs ∷ []) last floor new
list_gives v file bytes lists pairs last floor entry old new reads (by_tree tree is has) adds gives =
    adds_list v file bytes lists last floor tree pairs old new (subst (λ (o : Option TreeRef). AddsList v file o entry.inline old new) is adds) reads has gives
list_gives v file bytes lists pairs last floor entry old new reads (by_entry none is) adds gives =
    adds_pairs_list bytes lists last floor pairs old new (subst (λ (o : Option (List Pair)). AddsList v file None o old new) is (subst (λ (o : Option TreeRef). AddsList v file o entry.inline old new) none adds)) gives

-- ---- an index file that is searched

module _ (v : View) (file : FileName) (bytes : Bytes) (content : IndexContent) (is : IsIndexFile bytes content) (short : length bytes ≤ 2 ^ 62) (reads : contents v file ≡ Some bytes) (op : Op) (body : Bytes)
    (some : asks_none content.kind op ≡ false) (ref : BlockRef) where
  abbrev terms : List TermPairs
  terms = content.terms

  abbrev term_at : ℕ → Bytes
  term_at k = (get_or content.terms k ([], [])).0

  asked_is : (one : TermPairs) → is_asked_term content op body one ≡ is_match content.kind op body one.0
  asked_is one = ap (λ (b : Bool). not b && is_match content.kind op body one.0) some

  named : (l : List TermPairs) (k : ℕ) → k < length l → get_or (terms_in l) k [] ≡ (get_or l k ([], [])).0
  named [] k lt = absurd (omega (arith, lt))
  named (one ∷ others) zero lt = refl
  named (one ∷ others) (suc k) lt = named others k (omega (arith, lt))

  term_is : (k : ℕ) → k < length terms → get_or (terms_of (entries content)) k [] ≡ term_at k
  term_is k lt = ap (λ (l : List Bytes). get_or l k []) (terms_same content) ∙ named terms k lt

  terms_long : length (terms_of (entries content)) ≡ length content.terms
  terms_long = ap (λ (l : List Bytes). length l) (terms_same content) ∙ length-map content.terms (λ (one : TermPairs). one.0)

  entries_long : length (entries content) ≡ length content.terms
  entries_long = entries_length content

  front_lists : (n : ℕ) → ((k : ℕ) → k < n → k < length content.terms → is_match content.kind op body (get_or content.terms k ([], [])).0 ≡ false) → content.spill ∷ [] ≡ lists_of content op body (take n content.terms)
  front_lists n out =
      ap (λ (l : List TermPairs). content.spill ∷ map (λ (one : TermPairs). one.1) l)
      (sym (none_front (is_asked_term content op body) n content.terms (λ k lt within. asked_is (get_or content.terms k ([], [])) ∙ out k lt within)))

  -- where it begins, no term before is asked for
  pub begins : (last : Option Pair) (floor passed page index : ℕ) (entry : Option TermEntry) (sources : Parts) → CountsBelow (terms_of (entries content)) (lower content.kind op body) passed → StepsTo ref (entries content) passed page index entry
      → Gives bytes (content.spill ∷ []) last floor sources → Collects bytes content ref op body last floor 0 page index entry sources
  begins last floor passed page index entry sources counts steps gives =
      let base : passed ≡ passed + 0 = omega arith in
      record {
        from = passed;
        above = λ k le lt. ap (λ (t : Bytes). is_below t (lower content.kind op body)) (sym (term_is k lt)) ∙ counts.above k le (omega (arith, lt, terms_long));
        steps = subst (λ (n : ℕ). StepsTo ref (entries content) n page index entry) base steps;
        gives = subst (λ (n : ℕ). Gives bytes (lists_of content op body (take n content.terms)) last floor sources) base
            (subst (λ (l : List (List Pair)). Gives bytes l last floor sources)
            (front_lists passed (λ k lt within. below_lower content.kind op body (get_or content.terms k ([], [])).0 (ap (λ (t : Bytes). is_below t (lower content.kind op body)) (sym (term_is k within)) ∙ counts.below k lt))) gives);
      }

  -- the entry that was read last is that of the next term
  pub record IsHere (last : Option Pair) (floor turn page index : ℕ) (entry : TermEntry) (k : ℕ) : Type 0 where
    pub within : k < length content.terms
    pub is_entry : IsEntryOf bytes (get_or content.terms k ([], [])) entry

  pub entry_here : (last : Option Pair) (floor turn page index k : ℕ) (entry : TermEntry) → drop k (entries content) ≡ entry ∷ drop (k + 1) (entries content) → IsHere last floor turn page index entry k
  entry_here last floor turn page index k entry left =
      let within : k < length content.terms = omega (arith, entries_long, length-drop k (entries content), ap (λ (l : List TermEntry). length l) left) in
      let same : get_or (entries content) k none ≡ entry =
      ap (λ (n : ℕ). get_or (entries content) n none) (omega arith) ∙ sym (get_or-drop k (entries content) 0 none) ∙ ap (λ (l : List TermEntry). get_or l 0 none) left in
      record { within = within; is_entry = subst (λ (e : TermEntry). IsEntryOf bytes (get_or content.terms k ([], [])) e) same (term_trees bytes content is short k within) }

  lists_more : (k : ℕ) → k < length content.terms → lists_of content op body (take (k + 1) content.terms)
      ≡ lists_of content op body (take k content.terms) ++ map (λ (one : TermPairs). one.1) (cond (is_asked_term content op body (get_or content.terms k ([], []))) (get_or content.terms k ([], []) ∷ []) [])
  lists_more k lt =
      let test = is_asked_term content op body in
      let f = λ (one : TermPairs). one.1 in
      ap (λ (l : List TermPairs). content.spill ∷ map f l) (filter_more test content.terms k ([], []) lt)
      ∙ ap (λ (l : List (List Pair)). content.spill ∷ l) (map-append f (filter test (take k content.terms)) (cond (test (get_or content.terms k ([], []))) (get_or content.terms k ([], []) ∷ []) []))

  lists_asked : (k : ℕ) → k < length content.terms → is_match content.kind op body (get_or content.terms k ([], [])).0 ≡ true
      → lists_of content op body (take k content.terms) ++ (get_or content.terms k ([], [])).1 ∷ [] ≡ lists_of content op body (take (k + 1) content.terms)
  lists_asked k lt holds_so =
      sym (lists_more k lt ∙ ap (λ (b : Bool). lists_of content op body (take k content.terms) ++ map (λ (one : TermPairs). one.1) (cond b (get_or content.terms k ([], []) ∷ []) [])) (asked_is (get_or content.terms k ([], [])) ∙ holds_so))

  lists_not : (k : ℕ) → k < length content.terms → is_match content.kind op body (get_or content.terms k ([], [])).0 ≡ false → lists_of content op body (take k content.terms) ≡ lists_of content op body (take (k + 1) content.terms)
  lists_not k lt out =
      sym (lists_more k lt ∙ ap (λ (b : Bool). lists_of content op body (take k content.terms) ++ map (λ (one : TermPairs). one.1) (cond b (get_or content.terms k ([], []) ∷ []) [])) (asked_is (get_or content.terms k ([], [])) ∙ out)
      ∙ append-nil (lists_of content op body (take k content.terms)))

  -- an entry more
  pub collects_next : (last : Option Pair) (floor turn page index new_page new_index : ℕ) (entry : TermEntry) (next : Option TermEntry) (old new : Parts) → Collects bytes content ref op body last floor turn page index (Some entry) old
      → AddsEntry v file content.kind op body entry true old new → ((passed : ℕ) → HasPassed ref (entries content) page index passed → StepsTo ref (entries content) passed new_page new_index next)
      → Collects bytes content ref op body last floor (turn + 1) new_page new_index next new
  collects_next last floor turn page index new_page new_index entry next old new was adds steps =
      let k = was.from + turn in
      let here = entry_here last floor turn page index k entry was.steps.0 in
      let up : was.from + turn + 1 ≡ was.from + (turn + 1) = omega arith in
      record {
        from = was.from;
        above = was.above;
        steps = subst (λ (n : ℕ). StepsTo ref (entries content) n new_page new_index next) up (steps (k + 1) was.steps.1);
        gives = subst (λ (n : ℕ). Gives bytes (lists_of content op body (take n content.terms)) last floor new) up
            (by (is_match content.kind op body entry.term) refl adds here);
      }
    where
      by : (test : Bool) → is_match content.kind op body entry.term ≡ test → AddsIf v file op entry test true old new → IsHere last floor turn page index entry (was.from + turn)
          → Gives bytes (lists_of content op body (take (was.from + turn + 1) content.terms)) last floor new
      by false out added here =
          subst (λ (l : List (List Pair)). Gives bytes l last floor new) (lists_not (was.from + turn) here.within (ap (λ (t : Bytes). is_match content.kind op body t) (sym here.is_entry.term) ∙ out))
          (subst (λ (l : Parts). Gives bytes (lists_of content op body (take (was.from + turn) content.terms)) last floor l) (sym added.1) was.gives)
      by true holds_so added here =
          subst (λ (l : List (List Pair)). Gives bytes l last floor new) (lists_asked (was.from + turn) here.within (ap (λ (t : Bytes). is_match content.kind op body t) (sym here.is_entry.term) ∙ holds_so))
          (list_gives v file bytes (lists_of content op body (take (was.from + turn) content.terms)) (get_or content.terms (was.from + turn) ([], [])).1 last floor entry old new reads here.is_entry.has added.1 was.gives)

  whole_lists : (n : ℕ) → ((k : ℕ) → n ≤ k → k < length content.terms → is_match content.kind op body (get_or content.terms k ([], [])).0 ≡ false) → lists_of content op body (take n content.terms) ≡ asked_lists content op body
  whole_lists n out =
      let test = is_asked_term content op body in
      let none = none_behind test n content.terms (λ k le lt. asked_is (get_or content.terms k ([], [])) ∙ out k le lt) in
      ap (λ (l : List TermPairs). content.spill ∷ map (λ (one : TermPairs). one.1) l)
      (sym (append-nil (filter test (take n content.terms))) ∙ ap (λ (l : List TermPairs). filter test (take n content.terms) ++ l) (sym none) ∙ sym (filter-append test (take n content.terms) (drop n content.terms))
      ∙ ap (λ (l : List TermPairs). filter test l) (take-append-drop n content.terms))

  -- at the end all are collected
  pub all_passed : (last : Option Pair) (floor turn page index : ℕ) (entry : Option TermEntry) (sources : Parts) → Collects bytes content ref op body last floor turn page index entry sources → drop turn (entries content) ≡ []
      → Gives bytes (asked_lists content op body) last floor sources
  all_passed last floor turn page index entry sources was none =
      let few : length content.terms ≤ turn = omega (arith, entries_long, length-drop turn (entries content), ap (λ (l : List TermEntry). length l) none) in
      subst (λ (l : List (List Pair)). Gives bytes l last floor sources) (whole_lists (was.from + turn) (λ k le lt. absurd (omega (arith, le, lt, few)))) was.gives

  pub none_left : (last : Option Pair) (floor turn page index : ℕ) (sources : Parts) → Collects bytes content ref op body last floor turn page index None sources → Gives bytes (asked_lists content op body) last floor sources
  none_left last floor turn page index sources was =
      let few : length content.terms ≤ was.from + turn = omega (arith, entries_long, length-drop (was.from + turn) (entries content), ap (λ (l : List TermEntry). length l) was.steps.0) in
      subst (λ (l : List (List Pair)). Gives bytes l last floor sources) (whole_lists (was.from + turn) (λ k le lt. absurd (omega (arith, le, lt, few)))) was.gives

  -- behind the last one of a run no term is asked for
  out_behind : (from more : ℕ) → is_run op ≡ true → ((k : ℕ) → from ≤ k → k < length content.terms → is_below (get_or content.terms k ([], [])).0 (lower content.kind op body) ≡ false) → from + more < length content.terms
      → is_match content.kind op body (get_or content.terms from ([], [])).0 ≡ false → is_match content.kind op body (get_or content.terms (from + more) ([], [])).0 ≡ false
  out_behind from zero run above lt out = ap (λ (n : ℕ). is_match content.kind op body (get_or content.terms n ([], [])).0) (omega arith) ∙ out
  out_behind from (suc more) run above lt out =
      let before = out_behind from more run above (omega (arith, lt)) out in
      let step : is_below (get_or (terms_in content.terms) (from + more) []) (get_or (terms_in content.terms) (from + more + 1) []) ≡ true =
      is.content_is.rising (from + more) (omega (arith, lt, length-map content.terms (λ (one : TermPairs). one.0))) in
      let first = named content.terms (from + more) (omega (arith, lt)) in
      let second = named content.terms (from + more + 1) (omega (arith, lt)) in
      let rise : is_below (get_or content.terms (from + more) ([], [])).0 (get_or content.terms (from + more + 1) ([], [])).0 ≡ true =
      ap (λ (t : Bytes). is_below t (get_or content.terms (from + more + 1) ([], [])).0) (sym first) ∙ ap (λ (t : Bytes). is_below (get_or (terms_in content.terms) (from + more) []) t) (sym second) ∙ step in
      ap (λ (n : ℕ). is_match content.kind op body (get_or content.terms n ([], [])).0) (omega arith)
      ∙ past_run content.kind op body (get_or content.terms (from + more) ([], [])).0 (get_or content.terms (from + more + 1) ([], [])).0 run (above (from + more) (omega arith) (omega (arith, lt))) before rise

  pub stops : (last : Option Pair) (floor turn page index : ℕ) (entry : TermEntry) (old new : Parts) → Collects bytes content ref op body last floor turn page index (Some entry) old → AddsEntry v file content.kind op body entry false old new
      → Gives bytes (asked_lists content op body) last floor new
  stops last floor turn page index entry old new was adds = by (is_match content.kind op body entry.term) refl adds (entry_here last floor turn page index (was.from + turn) entry was.steps.0)
    where
      by : (test : Bool) → is_match content.kind op body entry.term ≡ test → AddsIf v file op entry test false old new → IsHere last floor turn page index entry (was.from + turn) → Gives bytes (asked_lists content op body) last floor new
      by true holds_so added here = absurd (no_truth added.0)
      by false out added here =
          let run : is_run op ≡ true = turned (is_run op) added.0 in
          let k = was.from + turn in
          let first = ap (λ (t : Bytes). is_match content.kind op body t) (sym here.is_entry.term) ∙ out in
          let behind = λ (n : ℕ) (le : was.from + turn ≤ n) (lt : n < length content.terms).
          ap (λ (m : ℕ). is_match content.kind op body (get_or content.terms m ([], [])).0) (omega (arith, le)) ∙ out_behind (was.from + turn) (n - (was.from + turn)) run (λ m low within. was.above m (omega (arith, low)) within) (omega (arith, le, lt)) first in
          subst (λ (l : Parts). Gives bytes (asked_lists content op body) last floor l) (sym added.1)
          (subst (λ (l : List (List Pair)). Gives bytes l last floor old) (whole_lists (was.from + turn) behind) was.gives)
