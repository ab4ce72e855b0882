-- Which files are kept after a change that makes some names and lets go of others: one law for every move, and what a flush makes and
-- lets go of.
use Rattle.std.specs.Prelude.{◌≡◌, ◌||◌, ◌&&◌, ◌<◌, ◌≤◌, ℕ, suc, Bool, true, false, nat_le, nat_lt, is_some, refl}
use Rattle.std.proofs.Common.{sym, ap, subst, ◌∙◌, inl, arith}
use Rattle.std.proofs.lemmas.Bool.Decides.{nat_tests}
use Rattle.std.specs.FinMap.{get}
use Rattle.sasi_host.specs.declared.name.FileName.{FileName}
use Rattle.sasi_host.specs.Names.{Folder, log_name, manifest_name, name_eq, rank, seal_name}
use Rattle.sasi_manifest.specs.declared.files.ListedFile.{ListedFile}
use Rattle.sasi_manifest.specs.FileNames.{has_name}
use Rattle.sasi_layout.specs.Flushed.{flush_drops, flush_makes}
use Rattle.sasi_manifest.specs.ListedFiles.{is_name_of}
use Rattle.sasi_layout.specs.Kept.{AreAside, HasKeptBeside, Kept, has_segment, is_kept}
use Rattle.sasi_layout.proofs.KeptLaws.{aside_kind, dead_segment, keeps_segment, name_itself, name_same}

-- ---- a change of names

-- the second keeps the names that are made, not those that go, and of all others those that the first keeps
pub record TurnsInto (made gone : FileName → Bool) (k next : Kept) : Type 0 where
  pub new : (name : FileName) → made name ≡ true → is_kept next name ≡ true
  pub old : (name : FileName) → made name ≡ false → gone name ≡ true → is_kept next name ≡ false
  pub same : (name : FileName) → made name ≡ false → gone name ≡ false → is_kept next name ≡ is_kept k name

-- and so the folders have them
pub record Turned (made gone : FileName → Bool) (x y : Folder) : Type 0 where
  pub new : (name : FileName) → made name ≡ true → is_some (get y name) ≡ true
  pub old : (name : FileName) → made name ≡ false → gone name ≡ true → is_some (get y name) ≡ false
  pub same : (name : FileName) → made name ≡ false → gone name ≡ false → is_some (get y name) ≡ is_some (get x name)

-- **The folder has what is kept afterwards**, where no name that goes is aside.
pub kept_on : (made gone : FileName → Bool) (aside : FileName → Bool) (k next : Kept) (x y : Folder) → ((name : FileName) → gone name ≡ true → aside name ≡ false) → TurnsInto made gone k next → Turned made gone x y → HasKeptBeside aside k x → HasKeptBeside aside next y
kept_on made gone aside k next x y apart turns turned has name = by (made name) (gone name) refl refl
  where
    or_true : (a : Bool) → (a || true) ≡ true
    or_true true = refl
    or_true false = refl

    by : (m g : Bool) → made name ≡ m → gone name ≡ g → is_some (get y name) ≡ (aside name || is_kept next name)
    by true g is goes = turned.new name is ∙ sym (or_true (aside name)) ∙ ap (λ b. aside name || b) (sym (turns.new name is))
    by false true is goes = turned.old name is goes ∙ sym (λ i. apart name goes i || turns.old name is goes i)
    by false false is goes = turned.same name is goes ∙ has name ∙ ap (λ b. aside name || b) (sym (turns.same name is goes))

-- ---- a flush

both_true : (a b : Bool) → (a && b) ≡ true → (a ≡ true) × (b ≡ true)
both_true true b is = (refl, is)
both_true false b is = cc

-- no segment that a flush lets go is aside
pub dropped_apart : (used first floor : ℕ) (aside : FileName → Bool) (name : FileName) → AreAside used aside → flush_drops first floor name ≡ true → aside name ≡ false
dropped_apart used first floor aside name are is =
    let log = both_true (name_eq name (log_name name.number)) (nat_le first name.number && nat_lt name.number floor) is in
    aside_kind used aside name are (subst (λ (n : FileName). rank n.kind < 3) (sym (name_same name (log_name name.number) log.0)) (omega arith))

never : true ≡ false → ⊥
never e = cc

-- a name that another isn't
other_name : (name other : FileName) → name_eq name other ≡ false → name ≡ other → ⊥
other_name name other is same = never (sym (ap (λ (n : FileName). name_eq n other) same ∙ name_itself other) ∙ is)

both_false : (a b : Bool) → (a || b) ≡ false → (a ≡ false) × (b ≡ false)
both_false true b is = cc
both_false false b is = (refl, is)

module _ (k next : Kept) (f : ListedFile) (manifest : next.manifest ≡ k.manifest) (last : next.listing.last ≡ suc k.listing.last) (raised : k.listing.floor ≤ next.listing.floor) (below : next.listing.floor ≤ next.listing.last)
    (listed : (name : FileName) → has_name next.listing.tables name ≡ (is_name_of f name || has_name k.listing.tables name)) where
  new_kept : (name : FileName) → flush_makes f next.listing.last name ≡ true → is_kept next name ≡ true
  new_kept name = by (name_eq name (log_name next.listing.last)) (is_name_of f name) refl refl
    where
      fourth : (a b c d : Bool) → d ≡ true → (a || (b || (c || d))) ≡ true
      fourth true b c d is = refl
      fourth false true c d is = refl
      fourth false false true d is = refl
      fourth false false false d is = is

      by : (a b : Bool) → name_eq name (log_name next.listing.last) ≡ a → is_name_of f name ≡ b → (a || b) ≡ true → is_kept next name ≡ true
      by true b log of_file is = ap (is_kept next) (name_same name (log_name next.listing.last) log) ∙ keeps_segment next next.listing.last below (omega arith)
      by false true log of_file is =
          fourth (name_eq name (manifest_name next.manifest)) (name_eq name (seal_name next.manifest)) (has_segment next.listing.floor next.listing.last name) (has_name next.listing.tables name)
          (listed name ∙ ap (λ b. b || has_name k.listing.tables name) of_file)
      by false false log of_file is = cc

  gone_kept : (name : FileName) → flush_drops k.listing.floor next.listing.floor name ≡ true → is_kept next name ≡ false
  gone_kept name is =
      let first = both_true (name_eq name (log_name name.number)) (nat_le k.listing.floor name.number && nat_lt name.number next.listing.floor) is in
      let second = both_true (nat_le k.listing.floor name.number) (nat_lt name.number next.listing.floor) first.1 in
      let under : name.number < next.listing.floor = grind (arith, nat_tests, second.1) in
      ap (is_kept next) (name_same name (log_name name.number) first.0) ∙ dead_segment next name.number (inl under)

  same_segment : (name : FileName) → name_eq name (log_name next.listing.last) ≡ false → flush_drops k.listing.floor next.listing.floor name ≡ false → has_segment next.listing.floor next.listing.last name ≡ has_segment k.listing.floor k.listing.last name
  same_segment name new = by (name_eq name (log_name name.number)) refl
    where
      by : (b : Bool) → name_eq name (log_name name.number) ≡ b → (b && (nat_le k.listing.floor name.number && nat_lt name.number next.listing.floor)) ≡ false
          → (b && (nat_le next.listing.floor name.number && nat_le name.number next.listing.last)) ≡ (b && (nat_le k.listing.floor name.number && nat_le name.number k.listing.last))
      by false is goes = refl
      by true is goes =
          let same = name_same name (log_name name.number) is in
          let apart : name.number ≡ next.listing.last → ⊥ = λ e. other_name name (log_name next.listing.last) new (same ∙ ap log_name e) in
          tests (nat_le k.listing.floor name.number) (nat_le next.listing.floor name.number) (nat_le name.number next.listing.last) (nat_le name.number k.listing.last) refl refl refl refl apart
        where
          tests : (a b c d : Bool) → nat_le k.listing.floor name.number ≡ a → nat_le next.listing.floor name.number ≡ b → nat_le name.number next.listing.last ≡ c → nat_le name.number k.listing.last ≡ d → (name.number ≡ next.listing.last → ⊥) → (b && c) ≡ (a && d)
          tests true true true true is_a is_b is_c is_d apart = refl
          tests true true false false is_a is_b is_c is_d apart = refl
          tests true true true false is_a is_b is_c is_d apart =
              let over : k.listing.last < name.number = grind (arith, nat_tests, is_d) in
              let under : name.number ≤ next.listing.last = grind (arith, nat_tests, is_c) in
              absurd (apart (omega (arith, over, under, last)))
          tests true true false true is_a is_b is_c is_d apart =
              let over : next.listing.last < name.number = grind (arith, nat_tests, is_c) in
              let under : name.number ≤ k.listing.last = grind (arith, nat_tests, is_d) in
              absurd (omega (arith, over, under, last))
          tests true false c d is_a is_b is_c is_d apart =
              let under : name.number < next.listing.floor = grind (arith, nat_tests, is_b) in
              let gone : nat_lt name.number next.listing.floor ≡ true = grind (arith, nat_tests, under) in
              absurd (never (sym (λ i. is_a i && gone i) ∙ goes))
          tests false true c d is_a is_b is_c is_d apart =
              let over : name.number < k.listing.floor = grind (arith, nat_tests, is_a) in
              let under : next.listing.floor ≤ name.number = grind (arith, nat_tests, is_b) in
              absurd (omega (arith, over, under, raised))
          tests false false c d is_a is_b is_c is_d apart = refl

  same_kept : (name : FileName) → flush_makes f next.listing.last name ≡ false → flush_drops k.listing.floor next.listing.floor name ≡ false → is_kept next name ≡ is_kept k name
  same_kept name is goes =
      let apart = both_false (name_eq name (log_name next.listing.last)) (is_name_of f name) is in
      let a = same_segment name apart.0 goes in
      let b : has_name next.listing.tables name ≡ has_name k.listing.tables name = listed name ∙ ap (λ b. b || has_name k.listing.tables name) apart.1 in
      λ i. name_eq name (manifest_name (manifest i)) || (name_eq name (seal_name (manifest i)) || (a i || b i))

  -- **What is kept after a flush**: the names of its file and the new segment more, and none of the segments before the new floor.
  pub flush_turns : TurnsInto (flush_makes f next.listing.last) (flush_drops k.listing.floor next.listing.floor) k next
  flush_turns = record { new = new_kept; old = λ name is goes. gone_kept name goes; same = same_kept }
