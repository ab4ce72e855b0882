-- One step of a source of candidates: the next key in hand is looked up, or the next token is taken.
use Rattle.std.specs.Prelude.{◌≡◌, ◌⊎◌, ℕ, ◌+◌, ◌≤◌, ◌^◌, List, [], ◌∷◌, drop, length, map, reverse, Option, None, Some, Result, Ok, Err}
use Rattle.std.specs.List.{AllByRecursion}
use Rattle.std.specs.List.Sorted.{IsStrictlySortedBy}
use Rattle.sasi_types.specs.declared.column.ColumnType.{ColumnType}
use Rattle.sasi_types.specs.Key.{key_cmp}
use Rattle.sasi_host.specs.declared.name.FileName.{FileName}
use Rattle.sasi_host.specs.declared.damage.Damage.{Damage}
use Rattle.sasi_host.specs.declared.fault.ReadFault.{ReadFault}
use Rattle.sasi_host.specs.Names.{Folder}
use Rattle.sasi_model.specs.Cells.{Partition}
use Rattle.sasi_memindex.specs.Book.{Book}
use Rattle.sasi_ranges.specs.declared.entry.Entry.{Entry}
use Rattle.sasi_narrow.specs.Narrowing.{AreInOrder, AreThose, TellsOf, has_entry, is_left}
use Rattle.sasi_lookup.specs.Files.{LookedFile}
use Rattle.sasi_lookup.specs.Lookups.{IsOfSameFiles, IsReady, Opens, Shows}
use Rattle.sasi_recheck.specs.Sources.{Candidate, GivesFirst, IsPrintable, first_price}
use Rattle.sasi_engine.specs.declared.hand.Hand.{Hand}
use Rattle.sasi_engine.specs.declared.step.Outcome.{Outcome}
use Rattle.sasi_engine.specs.declared.step.Outcome.TheVariants.{Ended, Passed, Found}
use Rattle.sasi_engine.specs.HitCandidates.{IsLeft, IsOwing, PlanWorld}

-- ---- a source

-- in some world these candidates are left
abbrev pub SourceLeaves : (List Entry → Type 0) → Option Entry → Hand → Option Folder → Book → List Candidate → Type 0
SourceLeaves Hits ahead hand files book left = (w : PlanWorld) × IsLeft w files book Hits ahead hand left

-- what is left takes at most so many reads, and beside them these prices, where so much is owed
abbrev pub SourceOwes : (List Entry → Type 0) → (ℕ → Type 0) → Option Entry → Hand → Option Folder → Book → ℕ → ℕ → List ℕ → Type 0
SourceOwes Hits Pays ahead hand files book most owed prices = (w : PlanWorld) × IsOwing w files book Hits Pays ahead hand most owed prices

-- it reads the files of the stream of hits, and the data files
abbrev pub SourceOpens : (FileName → Type 0) → Hand → FileName → Type 0
SourceOpens Hits hand name = Hits name ⊎ Opens hand.lookup name

abbrev pub SourceShows : (Damage → Type 0) → Hand → Option Folder → Damage → Type 0
SourceShows Hits hand files damage = Hits damage ⊎ Shows hand.lookup files damage

-- the data files that are open are open as they read, and what is told of the parts fits them
pub record IsHandReady (hand : Hand) (files : Option Folder) : Type 0 where
  pub looks : IsReady hand.lookup files
  pub some : 1 ≤ hand.relations
  pub few : hand.relations ≤ 2 ^ 32
  pub told : AllByRecursion (TellsOf hand.relations (length hand.lookup.files)) hand.parts.items

-- ---- what is in hand

-- the same table and parts
pub record IsSameHand (old new : Hand) : Type 0 where
  pub relations_are : new.relations ≡ old.relations
  pub parts_are : new.parts.items ≡ old.parts.items
  pub maps_are : new.maps.items ≡ old.maps.items
  pub files_are : IsOfSameFiles old.lookup new.lookup

-- these keys, the next one last, rise, and are those that all relations leave of the token
pub record AreKeysLeft (hand : Hand) (token : ℕ) (entries : List Entry) : Type 0 where
  pub token_is : hand.token ≡ token
  pub rise : IsStrictlySortedBy key_cmp (reverse hand.keys.items)
  pub are : AreInOrder entries hand.parts.items → AreThose (is_left token (has_entry entries) (map (λ (file : LookedFile). file.keys) hand.lookup.files) hand.parts.items hand.relations) (reverse hand.keys.items)

-- ---- a step

-- the token of the first entry
abbrev pub first_token : List Entry → Option ℕ
first_token [] = None
first_token (e ∷ es) = Some e.token

-- what a look-up of a key comes to
abbrev pub step_of : List ℕ → Option Partition → Outcome
step_of key None = Passed
step_of key (Some part) = Found key part

-- the first candidate is given, or the candidates are still left, or there is none
abbrev pub StepGives : (List Candidate → Type 0) → List Candidate → Outcome → Type 0
StepGives Left left Ended = (left ≡ []) × Left []
StepGives Left left Passed = Left left
StepGives Left left (Found key part) = GivesFirst Left left (Some (key, part))

-- what is read is paid by the next price, or still owed
abbrev pub StepSpends : (ℕ → ℕ → List ℕ → Type 0) → ℕ → ℕ → List ℕ → ℕ → ℕ → Result Outcome ReadFault → Type 0
StepSpends Pays most owed prices before now (Ok Ended) = (rest : ℕ) × Pays rest 0 (drop 1 prices) × (now + rest + owed ≤ before + (most + first_price prices))
StepSpends Pays most owed prices before now (Ok Passed) = (rest more : ℕ) × Pays rest more prices × (now + rest + owed ≤ before + (most + more))
StepSpends Pays most owed prices before now (Ok (Found key part)) = (rest : ℕ) × Pays rest 0 (drop 1 prices) × (now + rest + owed ≤ before + (most + first_price prices))
StepSpends Pays most owed prices before now (Err fault) = now + owed ≤ before + (most + first_price prices)

abbrev pub StepPrintable : ColumnType → Outcome → Type 0
StepPrintable kind Ended = Unit {0}
StepPrintable kind Passed = Unit {0}
StepPrintable kind (Found key part) = IsPrintable kind key part
