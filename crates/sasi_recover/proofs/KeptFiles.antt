-- A folder that has the files that a store keeps, and no other.
use Rattle.std.proofs.Common.{◌≡◌, ℕ, ◌≤◌, Bool, true, false, List, Option, None, IsSome, is_some, refl, sym, ◌∙◌, ap, subst, rules}
use Rattle.std.specs.Prelude.{◌||◌, ◌&&◌, nat_le}
use Rattle.std.specs.FinMap.{get}
use Rattle.std.specs.List.{list_any}
use Rattle.sasi_host.specs.declared.name.FileName.{FileName}
use Rattle.sasi_host.specs.Names.{Bytes, Folder, log_name, manifest_name, name_eq, seal_name}
use Rattle.sasi_manifest.specs.declared.listing.Listing.{Listing}
use Rattle.sasi_manifest.specs.FileNames.{has_name}
use Rattle.sasi_layout.specs.Kept.{HasKept, Kept, has_segment, is_kept}
use Rattle.sasi_recover.specs.declared.unlisted_files.Keep.TheVariants.{Store}
use Rattle.sasi_recover.specs.Deletion.{keeps}
use Rattle.sasi_layout.proofs.KeptLaws.{name_same}

-- what the deletion keeps are the files of the store
pub keeps_is : (number : ℕ) (listing : Listing) (files : List FileName) (name : FileName) → list_any (name_eq name) files ≡ has_name listing.tables name
    → keeps (Store number listing.floor listing.last) files name ≡ is_kept (record { manifest = number; listing = listing }) name
keeps_is number listing files name listed =
    ap (λ b. name_eq name (manifest_name number) || (name_eq name (seal_name number) || (has_segment listing.floor listing.last name || b))) listed

module _ (k : Kept) (x : Folder) (manifest : IsSome (get x (manifest_name k.manifest))) (seal : IsSome (get x (seal_name k.manifest)))
    (segments : (segment : ℕ) → k.listing.floor ≤ segment → segment ≤ k.listing.last → IsSome (get x (log_name segment)))
    (files : (name : FileName) → has_name k.listing.tables name ≡ true → IsSome (get x name)) where
  named : (name other : FileName) → name_eq name other ≡ true → IsSome (get x other) → IsSome (get x name)
  named name other is there = subst (λ (n : FileName). IsSome (get x n)) (sym (name_same name other is)) there

  segment_is : (name : FileName) → has_segment k.listing.floor k.listing.last name ≡ true → IsSome (get x name)
  segment_is name is = by (name_eq name (log_name name.number)) (nat_le k.listing.floor name.number) (nat_le name.number k.listing.last) refl refl refl is
    where
      by : (a b c : Bool) → name_eq name (log_name name.number) ≡ a → nat_le k.listing.floor name.number ≡ b → nat_le name.number k.listing.last ≡ c → (a && (b && c)) ≡ true → IsSome (get x name)
      by true true true p q r is = named name (log_name name.number) p (segments name.number (search (rules, q)) (search (rules, r)))
      by true true false p q r is = cc
      by true false c p q r is = cc
      by false b c p q r is = cc

  kept_there : (name : FileName) → is_kept k name ≡ true → IsSome (get x name)
  kept_there name is = by (name_eq name (manifest_name k.manifest)) (name_eq name (seal_name k.manifest)) (has_segment k.listing.floor k.listing.last name) (has_name k.listing.tables name) refl refl refl refl is
    where
      by : (a b c d : Bool) → name_eq name (manifest_name k.manifest) ≡ a → name_eq name (seal_name k.manifest) ≡ b → has_segment k.listing.floor k.listing.last name ≡ c → has_name k.listing.tables name ≡ d
          → (a || (b || (c || d))) ≡ true → IsSome (get x name)
      by true b c d p q r s is = named name (manifest_name k.manifest) p manifest
      by false true c d p q r s is = named name (seal_name k.manifest) q seal
      by false false true d p q r s is = segment_is name r
      by false false false true p q r s is = files name s
      by false false false false p q r s is = cc

  -- **Such a folder has what is kept.**
  pub has_kept : ((name : FileName) → is_kept k name ≡ false → get x name ≡ None) → HasKept k x
  has_kept gone name = by (is_kept k name) refl
    where
      by : (b : Bool) → is_kept k name ≡ b → is_some (get x name) ≡ is_kept k name
      by true is = kept_there name is ∙ sym is
      by false is = ap (λ (o : Option Bytes). is_some o) (gone name is) ∙ sym is
