-- Names that compare alike are one, and what a folder holds after a change at a name.
use Rattle.std.specs.Prelude.{◌≡◌, ◌≢◌, ℕ, zero, suc, Bool, true, false, Some, None, refl}
use Rattle.std.proofs.Common.{sym, ◌∙◌, ap}
use Rattle.std.specs.Ordering.{nat_cmp, eq_by_cmp, is_eq}
use Rattle.std.specs.declared.cmp.Ordering.{Ordering}
use Rattle.std.specs.declared.cmp.Ordering.TheVariants.{Less, Equal, Greater}
use Rattle.std.specs.Cmp.{IsTotalOrder, nat_cmp_total, eq_by_cmp_equiv}
use Rattle.std.proofs.lemmas.Cmp.{on_total, then_total}
use Rattle.std.proofs.lemmas.Map.Lookups.{CmpEqualImpliesEq, exact_pairs, exact_unsigned}
use Rattle.std.specs.FinMap.{get, insert, remove, get-insert, get-remove}
use Rattle.sasi_host.specs.declared.name.Kind.{Kind}
use Rattle.sasi_host.specs.declared.name.Kind.TheVariants.{Manifest, Seal, Log, Data, Index, Segment}
use Rattle.sasi_host.specs.declared.name.FileName.{FileName}
use Rattle.sasi_host.specs.Names.{rank, name_cmp, Bytes, Folder}

-- the kind of a rank
abbrev pub kind_of : ℕ → Kind
kind_of zero = Manifest
kind_of (suc zero) = Seal
kind_of (suc (suc zero)) = Log
kind_of (suc (suc (suc zero))) = Data
kind_of (suc (suc (suc (suc zero)))) = Index
kind_of (suc (suc (suc (suc (suc n))))) = Segment

-- a kind is the one of its rank
ranked_back : (k : Kind) → kind_of (rank k) ≡ k
ranked_back Manifest = refl
ranked_back Seal = refl
ranked_back Log = refl
ranked_back Data = refl
ranked_back Index = refl
ranked_back Segment = refl

-- any two names are in order
pub names_total : IsTotalOrder name_cmp
names_total =
    then_total (on_total (λ (n : FileName). rank n.kind) nat_cmp_total)
    (then_total (on_total (λ (n : FileName). n.number) nat_cmp_total) (then_total (on_total (λ (n : FileName). n.index) nat_cmp_total) (on_total (λ (n : FileName). n.part) nat_cmp_total)))

-- the numbers that order a name
abbrev pub name_numbers : FileName → ℕ × (ℕ × (ℕ × ℕ))
name_numbers n = (rank n.kind, (n.number, (n.index, n.part)))

-- the name with these numbers
abbrev pub named : ℕ × (ℕ × (ℕ × ℕ)) → FileName
named p = record { kind = kind_of p.0; number = p.1.0; index = p.1.1.0; part = p.1.1.1 }

-- a name is the one with its numbers
pub named_back : (n : FileName) → named (name_numbers n) ≡ n
named_back n = ap (λ (k : Kind). record { kind = k; number = n.number; index = n.index; part = n.part }) (ranked_back n.kind)

-- names that compare alike are one
pub names_exact : CmpEqualImpliesEq name_cmp
names_exact a b alike =
    sym (named_back a)
    ∙ ap named (exact_pairs nat_cmp _ exact_unsigned (exact_pairs nat_cmp _ exact_unsigned (exact_pairs nat_cmp nat_cmp exact_unsigned exact_unsigned)) (name_numbers a) (name_numbers b) alike)
    ∙ named_back b

from_is_eq : (r : Ordering) → is_eq r ≡ true → r ≡ Equal
from_is_eq Less e = cc
from_is_eq Equal e = refl
from_is_eq Greater e = cc

-- and so by the test
pub same_name : (a b : FileName) → eq_by_cmp name_cmp a b ≡ true → a ≡ b
same_name a b e = names_exact a b (from_is_eq (name_cmp a b) e)

-- a name compares alike with itself
pub test_here : (a : FileName) → eq_by_cmp name_cmp a a ≡ true
test_here a = (eq_by_cmp_equiv names_total).refl a

-- two names do not
pub test_apart : (a b : FileName) → a ≢ b → eq_by_cmp name_cmp a b ≡ false
test_apart a b apart = from (eq_by_cmp name_cmp a b) refl
  where
    from : (t : Bool) → eq_by_cmp name_cmp a b ≡ t → t ≡ false
    from false e = refl
    from true e = absurd (apart (same_name a b e))

-- a file that was put is there
pub insert_here : (f : Folder) (file : FileName) (bytes : Bytes) → get (insert f file bytes) file ≡ Some bytes
insert_here f file bytes = rw (get-insert names_total f file bytes file, test_here file) refl

-- the others stay
pub insert_apart : (f : Folder) (file name : FileName) (bytes : Bytes) → name ≢ file → get (insert f file bytes) name ≡ get f name
insert_apart f file name bytes apart = rw (get-insert names_total f file bytes name, test_apart name file apart) refl

-- a file that was taken out is not there
pub remove_here : (f : Folder) (file : FileName) → get (remove f file) file ≡ None
remove_here f file = rw (get-remove names_total f file file, test_here file) refl

-- the others stay
pub remove_apart : (f : Folder) (file name : FileName) → name ≢ file → get (remove f file) name ≡ get f name
remove_apart f file name apart = rw (get-remove names_total f file name, test_apart name file apart) refl
