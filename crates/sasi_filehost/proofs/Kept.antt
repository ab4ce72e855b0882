-- Which files are kept open after one was closed.
use Rattle.std.proofs.Common.{◌≡◌, ◌∙◌, Bool, true, false, List, [], ◌∷◌, Contains, None, cond, refl, ap, subst, ⊎_elim, rules}
use Rattle.std.specs.Cmp.{IsEquivalence}
use Rattle.std.specs.Cmp.Rules.{comparing}
use Rattle.std.specs.List.{IsDistinct}
use Rattle.std.specs.Map.{keys_of, lookup, remove_entry}
use Rattle.std.proofs.lemmas.Map.{lookup-remove_entry}
use Rattle.lru.proofs.Splits.{Contains-cons, Contains-nil}
use Rattle.sasi_filehost.specs.OpenFiles.{key_eq}
use Rattle.sasi_filehost.specs.declared.file_key.FileKey.{FileKey}

key_equal : IsEquivalence key_eq
key_equal = search (comparing, rules)

module _ {V : Type 0} where
  -- where none is found no key passes
  none_passes : (test : FileKey → Bool) (es : List (FileKey × V)) → lookup test es ≡ None → (e : FileKey × V) → Contains es e → test e.0 ≡ false
  none_passes test [] none e has = absurd (Contains-nil e has)
  none_passes test (f ∷ es) none e has = (elim (test f.0) as (λ b. test f.0 ≡ b → test e.0 ≡ false) [
    | true ↦ λ is. absurd (let no = rw is at none in cc)
    | false ↦ λ is. ⊎_elim (λ same. subst (λ (g : FileKey × V). test g.0 ≡ false) same is) (λ later. none_passes test es (rw is at none) e later) (Contains-cons f es e has)
  ]) refl

  -- the key that was taken out is gone
  pub gone : (key : FileKey) (es : List (FileKey × V)) → IsDistinct key_eq (keys_of es) → (e : FileKey × V) → Contains (remove_entry (key_eq key) es) e → key_eq key e.0 ≡ false
  gone key es distinct = none_passes (key_eq key) (remove_entry (key_eq key) es)
      (lookup-remove_entry key_equal (key_eq key) (λ x y. key_equal.congr key x y) key es distinct
      ∙ ap (λ (b : Bool). cond b None (lookup (key_eq key) es)) (key_equal.refl key))
