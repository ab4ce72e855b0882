-- The hits of a relation in any part.
use Rattle.std.specs.Prelude.{◌≡◌, ℕ, List, Option, IsSome}
use Rattle.std.proofs.Common.{subst, sym}
use Rattle.sasi_host.specs.declared.name.FileName.{FileName}
use Rattle.sasi_host.specs.declared.damage.Damage.{Damage}
use Rattle.sasi_host.specs.Names.{Folder}
use Rattle.sasi_host.specs.View.{contents_in}
use Rattle.sasi_ranges.specs.declared.entry.Entry.{Entry}
use Rattle.sasi_ranges.specs.Entries.{Rises}
use Rattle.sasi_hits.specs.declared.hits.Hits.{Hits}
use Rattle.sasi_hits.specs.declared.hits.Hits.TheVariants.{Index, Keys, Map}
use Rattle.sasi_hits.specs.Calls.{IsFile}
use Rattle.sasi_hits.specs.IndexHits.{HitEntries, HitsPay, HitsReady, HitsShow}
use Rattle.sasi_hits.specs.KeyTrees.{KeyEntries, KeysPay, KeysReady, KeysShow}
use Rattle.sasi_hits.specs.inside.KeepingHits.{hit_entries_rise, hits_keep}
use Rattle.sasi_hits.specs.inside.KeepingKeys.{key_entries_rise, keys_keep}

-- what each leaves, as a stream of its own
abbrev pub Leaves : Hits → Option Folder → List Entry → Type 0
Leaves (Index s) files es = HitEntries s.file s.op s.words s.leaf s.part s.floor s.searches files es
Leaves (Keys s) files es = KeyEntries s.file s.types s.leaf s.part s.floor s.tree files es
Leaves (Map s) files es = (es ≡ s) × Rises s

abbrev pub Pays : Hits → Option Folder → ℕ → Type 0
Pays (Index s) files most = HitsPay s.file s.op s.words s.searches files most
Pays (Keys s) files most = KeysPay s.file s.types s.tree files most
Pays (Map s) files most = Unit {0}

abbrev pub Opens : Hits → FileName → Type 0
Opens (Index s) name = IsFile s.file name
Opens (Keys s) name = IsFile s.file name
Opens (Map s) name = ⊥

abbrev pub Ready : Hits → Option Folder → Type 0
Ready (Index s) files = HitsReady s.file s.searches files
Ready (Keys s) files = KeysReady s.file s.tree files
Ready (Map s) files = Unit {0}

abbrev pub Shows : Hits → Option Folder → Damage → Type 0
Shows (Index s) files damage = HitsShow s.file files damage
Shows (Keys s) files damage = KeysShow s.file files damage
Shows (Map s) files damage = ⊥

-- ---- laws

pub leaves_rise : (s : Hits) (files : Option Folder) (es : List Entry) → Leaves s files es → Rises es
leaves_rise (Index s) files es is = hit_entries_rise s.file s.op s.words s.leaf s.part s.floor s.searches files es is
leaves_rise (Keys s) files es is = key_entries_rise s.file s.types s.leaf s.part s.floor s.tree files es is
leaves_rise (Map s) files es is = subst Rises (sym is.0) is.1

pub stays : (s : Hits) (old new : Option Folder) → (IsSome new → IsSome old) → ((name : FileName) → Opens s name → contents_in new name ≡ contents_in old name)
    → (Ready s old → Ready s new) × ((es : List Entry) → Leaves s old es → Leaves s new es) × ((most : ℕ) → Pays s old most → Pays s new most)
stays (Index s) old new told same = hits_keep old new s.file s.op s.words s.leaf s.part s.floor s.searches same
stays (Keys s) old new told same = keys_keep old new s.file s.types s.leaf s.part s.floor s.tree same
stays (Map s) old new told same = (λ ready. ready, λ es is. is, λ most is. is)
