-- What one change of the tree makes of the folder.
use Rattle.std.proofs.Common.{◌≡◌, ◌≤◌, ◌+◌, ◌^◌, inl, inr, if◌then◌else◌, length, ℕ, Bool, true, false, cond, List, [], ◌∷◌, ◌++◌, take, drop, sym, ◌∙◌, ap, subst, Option, Some, None, refl, Result, Ok, Err, OnOk, OnErr, arith, length-append, length-drop}
use Rattle.std.proofs.lemmas.Bool.{le-leb}
use Rattle.std.proofs.lemmas.List.{length-take}
use Rattle.std.specs.Prelude.{nat_le}
use Rattle.std.proofs.Common.{Contains, ◌↔◌, IsSome, is_some, Decides}
use Rattle.std.specs.Ordering.{eq_by_cmp}
use Rattle.std.specs.Set.{is_member}
use Rattle.std.proofs.lemmas.Map.Made.{is_member-Decides}
use Rattle.std.specs.BTreeMap.{is_at}
use Rattle.std.specs.Cmp.{eq_by_cmp_equiv}
use Rattle.std.specs.FinMap.{get, insert, remove, empty, get-empty, get-insert, get-remove, get-from_entries, same_map, find}
use Rattle.sasi_host.specs.declared.name.FileName.{FileName}
use Rattle.sasi_host.specs.Names.{Bytes, Folder, name_cmp}
use Rattle.sasi_host.specs.NameLaws.{names_total, names_exact, same_name, test_here, insert_here, insert_apart, remove_here, remove_apart}
use Rattle.sasi_host.proofs.NameCases.{name_cases}
use Rattle.sasi_host.specs.Disk.{overlay}
use Rattle.sasi_host.specs.Files.{Entries, folder_of, look_up, FitsAll, overwritten, written}

find_entry : (es : Entries) (q : FileName) → find name_cmp q es ≡ look_up es q
find_entry [] q = refl
find_entry (e ∷ es) q = ap (cond (is_at (name_cmp q) e.0) (Some e.1)) (find_entry es q)

pub get_entry : (es : Entries) (q : FileName) → get (folder_of es) q ≡ look_up es q
get_entry es q = get-from_entries names_total _ q ∙ find_entry es q

pub folder_insert : (es fs : Entries) (name : FileName) (v : Bytes)
    → ((q : FileName) → look_up fs q ≡ cond (is_at (name_cmp name) q) (Some v) (look_up es q)) → folder_of fs ≡ insert (folder_of es) name v
folder_insert es fs name v h = same_map names_total names_exact _ _ (λ q.
    get_entry fs q ∙ h q
    ∙ ap (λ b. cond b (Some v) (look_up es q)) ((eq_by_cmp_equiv names_total).symm name q)
    ∙ sym (get-insert names_total (folder_of es) name v q ∙ ap (cond (is_at (name_cmp q) name) (Some v)) (get_entry es q)))

pub folder_remove : (es fs : Entries) (name : FileName) → ((q : FileName) → look_up fs q ≡ cond (is_at (name_cmp name) q) None (look_up es q))
    → folder_of fs ≡ remove (folder_of es) name
folder_remove es fs name h = same_map names_total names_exact _ _ (λ q.
    get_entry fs q ∙ h q
    ∙ ap (λ b. cond b None (look_up es q)) ((eq_by_cmp_equiv names_total).symm name q)
    ∙ sym (get-remove names_total (folder_of es) name q ∙ ap (cond (is_at (name_cmp q) name) None) (get_entry es q)))

pub overwritten_there : (old : Bytes) (at : ℕ) (bytes : Bytes) → at ≤ length old → overwritten old at bytes ≡ overlay old at bytes
overwritten_there old at bytes le = ap (λ (t : Bool). if t then overlay old at bytes else old) (le-leb at (length old) le)

pub written_to : (f : Folder) (file : FileName) (at : ℕ) (bytes old : Bytes) → get f file ≡ Some old
    → written (get f file) file at bytes f ≡ insert f file (overwritten old at bytes)
written_to f file at bytes old is = ap (λ (o : Option Bytes). written o file at bytes f) is

pub written_none : (f : Folder) (file : FileName) (at : ℕ) (bytes : Bytes) → get f file ≡ None → written (get f file) file at bytes f ≡ f
written_none f file at bytes is = ap (λ (o : Option Bytes). written o file at bytes f) is

-- ---- files stay short

some_same : (a b : Bytes) → Some a ≡ Some b → a ≡ b
some_same a b is = cc

none_some : (b : Bytes) → None ≡ Some b → ⊥
none_some b e = cc

pub fits_empty : FitsAll empty
fits_empty = record { each = λ name bytes is. absurd (none_some bytes (sym (get-empty name_cmp name) ∙ is)) }

pub fits_insert : (f : Folder) (file : FileName) (v : Bytes) → FitsAll f → length v ≤ 2 ^ 62 → FitsAll (insert f file v)
fits_insert f file v fits short = record {
  each = λ name bytes is. elim (name_cases name file) [
    | inl same ↦ let e : v ≡ bytes = some_same _ _ (sym (ap (λ (n : FileName). get (insert f file v) n) same ∙ insert_here f file v) ∙ is) in subst (λ (b : Bytes). length b ≤ 2 ^ 62) e short
    | inr apart ↦ fits.each name bytes (sym (insert_apart f file name v apart) ∙ is)
  ];
}

pub fits_remove : (f : Folder) (file : FileName) → FitsAll f → FitsAll (remove f file)
fits_remove f file fits = record {
  each = λ name bytes is. elim (name_cases name file) [
    | inl same ↦ absurd (none_some bytes (sym (ap (λ (n : FileName). get (remove f file) n) same ∙ remove_here f file) ∙ is))
    | inr apart ↦ fits.each name bytes (sym (remove_apart f file name apart) ∙ is)
  ];
}

overwritten_short : (old : Bytes) (at : ℕ) (bytes : Bytes) → length old ≤ 2 ^ 62 → at + length bytes ≤ 2 ^ 62
    → length (overwritten old at bytes) ≤ 2 ^ 62
overwritten_short old at bytes short fits = test (nat_le at (length old))
  where
    test : (t : Bool) → length (if t then overlay old at bytes else old) ≤ 2 ^ 62
    test true =
        omega
        (arith, short, fits, length-append (take at old ++ bytes) (drop (at + length bytes) old), length-append (take at old) bytes, length-drop (at + length bytes) old, length-take at old)
    test false = short

pub fits_written : (f : Folder) (file : FileName) (at : ℕ) (bytes : Bytes) → FitsAll f → at + length bytes ≤ 2 ^ 62
    → FitsAll (written (get f file) file at bytes f)
fits_written f file at bytes fits short = from (get f file) refl
  where
    from : (o : Option Bytes) → get f file ≡ o → FitsAll (written o file at bytes f)
    from None is = fits
    from (Some old) is = fits_insert f file (overwritten old at bytes) fits (overwritten_short old at bytes (fits.each file old is) short)

-- ---- a write through the tree

-- what the tree has after the file at a name was set to w
abbrev pub SetsTo : Entries → Entries → FileName → Bytes → Type 0
SetsTo es fs name w = (q : FileName) → look_up fs q ≡ cond (is_at (name_cmp name) q) (Some w) (look_up es q)

pub folder_write : (es fs : Entries) (name : FileName) (at : ℕ) (bytes old w : Bytes) → look_up es name ≡ Some old → SetsTo es fs name w
    → w ≡ overwritten old at bytes → folder_of fs ≡ written (get (folder_of es) name) name at bytes (folder_of es)
folder_write es fs name at bytes old w is sets new =
    folder_insert es fs name w sets ∙ ap (λ (b : Bytes). insert (folder_of es) name b) new ∙ sym (written_to (folder_of es) name at bytes old (get_entry es name ∙ is))

-- a file that is set to what it was
pub folder_still : (es fs : Entries) (name : FileName) (old w : Bytes) → look_up es name ≡ Some old → SetsTo es fs name w → w ≡ old
    → folder_of fs ≡ folder_of es
folder_still es fs name old w is sets same = folder_insert es fs name w sets ∙ same_map names_total names_exact _ _ (λ q. elim (name_cases q name) [
  | inl here ↦ ap (λ (n : FileName). get (insert (folder_of es) name w) n) here ∙ insert_here (folder_of es) name w
      ∙ ap (λ (b : Bytes). Some b) same ∙ sym (ap (λ (n : FileName). get (folder_of es) n) here ∙ get_entry es name ∙ is)
  | inr apart ↦ insert_apart (folder_of es) name q w apart
])

-- a write that was done or refused leaves each file short
pub fits_set : {T E : Type 0} (r : Result T E) (es fs : Entries) (name : FileName) (at : ℕ) (bytes old w : Bytes) → FitsAll (folder_of es)
    → at + length bytes ≤ 2 ^ 62 → look_up es name ≡ Some old → SetsTo es fs name w → OnOk r (w ≡ overwritten old at bytes) → OnErr r (w ≡ old)
    → FitsAll (folder_of fs)
fits_set (Ok u) es fs name at bytes old w fits short is sets new same =
    subst FitsAll (sym (folder_write es fs name at bytes old w is sets new)) (fits_written (folder_of es) name at bytes fits short)
fits_set (Err e) es fs name at bytes old w fits short is sets new same = subst FitsAll (sym (folder_still es fs name old w is sets same)) fits

-- ---- what the tree lists

names_decide : (a b : FileName) → Decides (eq_by_cmp name_cmp a b) (a ≡ b)
names_decide a b = (λ e. same_name a b e, λ e. subst (λ (n : FileName). eq_by_cmp name_cmp a n ≡ true) e (test_here a))

pub lists_names : (es : Entries) (f : Folder) (names : List FileName) → folder_of es ≡ f
    → ((name : FileName) → is_some (look_up es name) ≡ is_member (eq_by_cmp name_cmp) names name) → (name : FileName)
    → Contains names name ↔ IsSome (get f name)
lists_names es f names is has name =
    let there : is_some (get f name) ≡ is_member (eq_by_cmp name_cmp) names name = ap is_some (sym (ap (λ (m : Folder). get m name) is) ∙ get_entry es name) ∙ has name in
    let member = is_member-Decides names_decide names name in
    (λ c. there ∙ member.1 c, λ s. member.0 (sym there ∙ s))
