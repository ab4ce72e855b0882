-- The pairs that a scan gives rise, or the file shows that they don't.
use Rattle.std.specs.Prelude.{◌≡◌, ℕ, ◌+◌, ◌-◌, ◌^◌, ◌≤◌, List, length, Option, None, Some, refl}
use Rattle.std.proofs.Common.{◌∙◌, sym, ap, subst, arith}
use Rattle.std.specs.Option.{option_or}
use Rattle.sasi_types.specs.declared.tree.Pair.{Pair}
use Rattle.sasi_types.specs.declared.tree.TreeRef.{TreeRef}
use Rattle.sasi_host.specs.declared.name.FileName.{FileName}
use Rattle.sasi_host.specs.declared.damage.Damage.{Damage}
use Rattle.sasi_host.specs.declared.fault.ReadFault.{ReadFault}
use Rattle.sasi_host.specs.declared.fault.ReadFault.TheVariants as fault
use Rattle.sasi_host.specs.Names.{Bytes}
use Rattle.sasi_host.specs.Buffered.{Buffered}
use Rattle.sasi_host.specs.Damages.{DamageShown}
use Rattle.sasi_host.specs.Disk.{Changes, Same}
use Rattle.sasi_host.specs.View.{View, contents}
use Rattle.sasi_host.proofs.ContentLaws.{contents_same}
use Rattle.sasi_host.proofs.DamageLaws.{shown_as}
use Rattle.sasi_tokentree.specs.Format.{HasTree, IsBefore, pair_at}
use Rattle.sasi_tokentree.specs.Damages.{HasEntry, ShowsPairs, ShowsPairsBy, ShowsTreeBy, TellsDisorder, pair_offset, start}
use Rattle.sasi_tokentree.specs.Damages.ShowsPairsBy.{of_order, of_tree}
use Rattle.sasi_tokentree.specs.Damages.ShowsTreeBy.{in_entry, in_node}
use Rattle.sasi_tokentree.specs.Reads.{NoFalseTreeDamage}
use Rattle.sasi_tokentree.specs.Scans.{HasLast, IsLastEntry, PairScan, PassesOne, ReadsEntry}
use Rattle.sasi_tokentree.proofs.LeafPairs.{count_is, pair_is, tree_stands}

-- ---- the last entry after a read

pub last_still : (a b : View) (was now : FileName) (tree : TreeRef) (passed : ℕ) (last : Option Pair) → Changes Same a b → now ≡ was → IsLastEntry a.files was tree passed last
    → IsLastEntry b.files now tree passed last
last_still a b was now tree passed last change same is = λ bytes told. is bytes (sym (contents_same a b now change ∙ ap (λ (f : FileName). contents a f) same) ∙ told)

-- the pair that was read
pub last_read : (v : View) (file : FileName) (tree : TreeRef) (passed : ℕ) (found : Option Pair) → ReadsEntry v file tree passed found → IsLastEntry v.files file tree passed found
last_read v file tree passed None reads = λ bytes told. tt
last_read v file tree passed (Some pair) reads = λ bytes told. (reads.0, reads.1, reads.2 bytes told)

-- or where none was left the one before
pub last_next : (a b : View) (was now : FileName) (tree : TreeRef) (old new : Buffered) (before after : ℕ) (last found : Option Pair) → Changes Same a b → now ≡ was → IsLastEntry a.files was tree before last
    → ReadsEntry a was tree after found → PassesOne (record { buffered = old; tree = tree; passed = before; last = None }) (record { buffered = new; tree = tree; passed = after; last = None }) found
    → IsLastEntry b.files now tree after (option_or found last)
last_next a b was now tree old new before after last None change same is reads ends =
    subst (λ (n : ℕ). IsLastEntry b.files now tree n last) (sym (ap (λ (w : PairScan). w.passed) ends.1)) (last_still a b was now tree before last change same is)
last_next a b was now tree old new before after last (Some pair) change same is reads ends = last_still a b was now tree after (Some pair) change same (last_read a was tree after (Some pair) reads)

-- what a scan passes is the same, whatever it gave last
pub passes_with : (tree : TreeRef) (old new : Buffered) (before after : ℕ) (last found : Option Pair)
    → PassesOne (record { buffered = old; tree = tree; passed = before; last = None }) (record { buffered = new; tree = tree; passed = after; last = None }) found
    → PassesOne (record { buffered = old; tree = tree; passed = before; last = last }) (record { buffered = new; tree = tree; passed = after; last = option_or found last }) found
passes_with tree old new before after last None ends = (ends.0, ap (λ (w : PairScan). record { buffered = w.buffered; tree = w.tree; passed = w.passed; last = last }) ends.1)
passes_with tree old new before after last (Some pair) ends = ends

-- ---- damage

-- damage of the tree is one that a scan may meet
pub pairs_shown : (These : ℕ → Type 0) (v : View) (file : FileName) (tree : TreeRef) (f : ReadFault) → DamageShown v file (ShowsTreeBy These file tree) f → DamageShown v file (ShowsPairsBy These file tree) f
pairs_shown These v file tree f shown = shown_as (ShowsTreeBy These file tree) (ShowsPairsBy These file tree) v file f (λ bytes damage is shows. of_tree shows) shown

pub disorder_shown : (v : View) (file : FileName) (tree : TreeRef) (old new : Buffered) (before after : ℕ) (last found : Option Pair) (damage : Damage) → IsLastEntry v.files file tree before last
    → ReadsEntry v file tree after found → PassesOne (record { buffered = old; tree = tree; passed = before; last = None }) (record { buffered = new; tree = tree; passed = after; last = None }) found
    → TellsDisorder file tree after last found damage → DamageShown v file (ShowsPairsBy (λ index. index ≡ before) file tree) (fault.Damaged damage)
disorder_shown v file tree old new before after last found damage was read ends tells = λ bytes told.
    (let here : HasLast bytes tree before (Some tells.last) = subst (λ (o : Option Pair). HasLast bytes tree before o) tells.was (was bytes told) in
    let there : ReadsEntry v file tree after (Some tells.pair) = subst (λ (o : Option Pair). ReadsEntry v file tree after o) tells.is read in
    let step : after ≡ before + 1 =
    (subst (λ (o : Option Pair). PassesOne (record { buffered = old; tree = tree; passed = before; last = None }) (record { buffered = new; tree = tree; passed = after; last = None }) o) tells.is ends).1 in
    let index : there.0 ≡ before = omega (arith, there.1, step) in
    let at : after - 1 ≡ before = omega (arith, step) in
    of_order before refl (record {
      named = tells.named;
      rule_is = tells.rule_is;
      before = here.0;
      follows = here.1;
      last = tells.last;
      pair = tells.pair;
      has_last = here.2;
      has_pair = subst (λ (n : ℕ). HasEntry bytes tree n tells.pair) index (there.2 bytes told);
      disorder = tells.disorder;
      at_is = tells.at_is ∙ ap (λ (n : ℕ). pair_offset tree n) at;
      seen_is = tells.seen_is;
    }))

-- an entry of a file that has the tree is its pair
entry_is : (bytes : Bytes) (tree : TreeRef) (pairs : List Pair) (index : ℕ) (pair : Pair) → HasTree bytes tree pairs → length bytes ≤ 2 ^ 62 → HasEntry bytes tree index pair → pair ≡ pair_at pairs index
entry_is bytes tree pairs index pair has short entry =
    pair_is bytes (start tree) index pairs pair (tree_stands bytes tree pairs has (omega (arith, entry.within)) short) (omega (arith, entry.within, count_is bytes tree pairs has))
    (entry.fit 0).0 (entry.fit 0).1 entry.stands

-- in such a file pairs rise
pub no_false_disorder : (v : View) (file : FileName) (tree : TreeRef) (old new : Buffered) (before after : ℕ) (last found : Option Pair) (damage : Damage)
    → ((bytes : Bytes) → contents v file ≡ Some bytes → length bytes ≤ 2 ^ 62) → IsLastEntry v.files file tree before last
    → ReadsEntry v file tree after found → PassesOne (record { buffered = old; tree = tree; passed = before; last = None }) (record { buffered = new; tree = tree; passed = after; last = None }) found
    → TellsDisorder file tree after last found damage → NoFalseTreeDamage v file tree (fault.Damaged damage)
no_false_disorder v file tree old new before after last found damage short was read ends tells = λ bytes pairs told has.
    (let here : HasLast bytes tree before (Some tells.last) = subst (λ (o : Option Pair). HasLast bytes tree before o) tells.was (was bytes told) in
    let there : ReadsEntry v file tree after (Some tells.pair) = subst (λ (o : Option Pair). ReadsEntry v file tree after o) tells.is read in
    let step : after ≡ before + 1 =
    (subst (λ (o : Option Pair). PassesOne (record { buffered = old; tree = tree; passed = before; last = None }) (record { buffered = new; tree = tree; passed = after; last = None }) o) tells.is ends).1 in
    let index : there.0 ≡ here.0 + 1 = omega (arith, there.1, here.1, step) in
    let second : HasEntry bytes tree (here.0 + 1) tells.pair = subst (λ (n : ℕ). HasEntry bytes tree n tells.pair) index (there.2 bytes told) in
    let a = entry_is bytes tree pairs here.0 tells.last has (short bytes told) here.2 in
    let b = entry_is bytes tree pairs (here.0 + 1) tells.pair has (short bytes told) second in
    let rises = has.rising here.0 (omega (arith, second.within, count_is bytes tree pairs has)) in
    tells.disorder (subst (λ (p : Pair). IsBefore p tells.pair) (sym a) (subst (λ (p : Pair). IsBefore (pair_at pairs here.0) p) (sym b) rises)))

-- ---- said of callers

-- damage at one pair is damage at some pair
pub shows_more : (These : ℕ → Type 0) (file : FileName) (tree : TreeRef) (bytes : Bytes) (damage : Damage) → ShowsPairsBy These file tree bytes damage → ShowsPairs file tree bytes damage
shows_more These file tree bytes damage (of_tree (in_node shows)) = of_tree (in_node shows)
shows_more These file tree bytes damage (of_tree (in_entry index alone lt ends)) = of_tree (in_entry index tt lt ends)
shows_more These file tree bytes damage (of_order index here shows) = of_order index tt shows

pub pairs_shown_more : (These : ℕ → Type 0) (v : View) (file : FileName) (tree : TreeRef) (f : ReadFault) → DamageShown v file (ShowsPairsBy These file tree) f → DamageShown v file (ShowsPairs file tree) f
pairs_shown_more These v file tree f shown = shown_as (ShowsPairsBy These file tree) (ShowsPairs file tree) v file f (λ bytes damage is shows. shows_more These file tree bytes damage shows) shown
