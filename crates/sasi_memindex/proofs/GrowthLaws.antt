-- Laws of maps to which indexes were added.
use Rattle.std.proofs.Common.{◌≡◌, Bool, true, false, cond, List, [], ◌∷◌, ◌++◌, Option, None, Some, refl, sym, ap, ◌∙◌, append-nil, append_assoc}
use Rattle.std.specs.Map.{lookup}
use Rattle.std.specs.Option.{option_map_or}
use Rattle.sasi_memindex.specs.declared.map_part.MapPart.{MapPart}
use Rattle.sasi_memindex.specs.MemIndexView.{Numbered}
use Rattle.sasi_memtable.specs.MemtableView.{MemtableView}
use Rattle.sasi_memindex.specs.Growth.{HasGrown, IsGrown}

-- **A map that is unchanged counts,**
pub grown_not : (o : Option MapPart) → IsGrown o o
grown_not None = tt
grown_not (Some m) = record { same = refl; added = []; indexes_are = sym (append-nil m.indexes) }

both_grown : (a b c : MapPart) → HasGrown a b → HasGrown b c → HasGrown a c
both_grown a b c first second = record {
  same = second.same ∙ first.same;
  added = first.added ++ second.added;
  indexes_are = second.indexes_are ∙ ap (λ (is : Numbered). is ++ second.added) first.indexes_are ∙ append_assoc a.indexes first.added second.added;
}

-- **indexes may be added again,**
pub grown_again : (a b c : Option MapPart) → IsGrown a b → IsGrown b c → IsGrown a c
grown_again None None None first second = tt
grown_again None None (Some c) first second = absurd second
grown_again None (Some b) c first second = absurd first
grown_again (Some a) None c first second = absurd first
grown_again (Some a) (Some b) None first second = absurd second
grown_again (Some a) (Some b) (Some c) first second = both_grown a b c first second

-- **and what is made of the map's partitions alone stays.**
pub grown_seen : {T : Type 0} (of : MemtableView → T) (missing : T) (was now : Option MapPart) → IsGrown was now
    → option_map_or (λ (part : MapPart). of part.map) now missing ≡ option_map_or (λ (part : MapPart). of part.map) was missing
grown_seen of missing None None grown = refl
grown_seen of missing None (Some now) grown = absurd grown
grown_seen of missing (Some was) None grown = absurd grown
grown_seen of missing (Some was) (Some now) grown = ap of grown.same

-- what is looked up in a list is found in a longer one, too
pub found_before : {K X : Type 0} (test : K → Bool) (xs ys : List (K × X)) (x : X) → lookup test xs ≡ Some x → lookup test (xs ++ ys) ≡ Some x
found_before test [] ys x found = cc
found_before {K} {X} test (e ∷ es) ys x found = by (test e.0) found (λ later. found_before test es ys x later)
  where
    by : (b : Bool) → cond b (Some e.1) (lookup test es) ≡ Some x → (lookup test es ≡ Some x → lookup test (es ++ ys) ≡ Some x) → cond b (Some e.1) (lookup test (es ++ ys)) ≡ Some x
    by true here rest = here
    by false later rest = rest later
