-- Where the open cursors agree with another list, they do so after each call. For callers, whose session is defined over a list of its own.
use Rattle.std.proofs.Common.{◌≡◌, ℕ, Bool, true, false, cond, ◌++◌, List, [], ◌∷◌, map, length, not, Option, None, Some, find, refl, sym, ap, subst, ◌∙◌}
use Rattle.std.proofs.lemmas.Slice.Zip.{AllZip-long, all_zipped_more}
use Rattle.std.specs.Cmp.Lexicographic.{bytes_decides}
use Rattle.std.specs.List.{AllByRecursion, IsDistinct}
use Rattle.std.specs.Map.{keys_of}
use Rattle.std.specs.Option.{MatchOption}
use Rattle.sasi_types.specs.Key.{key_eq}
use Rattle.sasi_cursors.specs.Agreement.{Agrees, changed, dropped, has_name}
use Rattle.sasi_cursors.specs.Cursors.{cursor_of, with_cursor, without, IsOnce}

module _ {C D : Type 0} (name_of : D → List ℕ) (R : C → D → Type 0) where
  -- the names are the same, so that a test over the names of either list tells the same
  pub agree_names : (entries : List (List ℕ × C)) (cursors : List D) → Agrees name_of R entries cursors → keys_of entries ≡ map name_of cursors
  agree_names [] [] a = refl
  agree_names [] (d ∷ ds) a = absurd a
  agree_names (e ∷ es) [] a = absurd a
  agree_names (e ∷ es) (d ∷ ds) a = λ i. a.0.0 i ∷ agree_names es ds a.1 i

  -- as many are open
  pub agree_length : (entries : List (List ℕ × C)) (cursors : List D) → Agrees name_of R entries cursors → length entries ≡ length cursors
  agree_length entries cursors a = sym (AllZip-long (λ entry cursor. (entry.0 ≡ name_of cursor) × R entry.1 cursor) entries cursors a)

  -- another relation that holds wherever the first does
  pub agree_still : (S : C → D → Type 0) → ((c : C) (d : D) → R c d → S c d) → (entries : List (List ℕ × C)) (cursors : List D)
      → Agrees name_of R entries cursors → Agrees name_of S entries cursors
  agree_still S still [] [] a = tt
  agree_still S still [] (d ∷ ds) a = absurd a
  agree_still S still (e ∷ es) [] a = absurd a
  agree_still S still (e ∷ es) (d ∷ ds) a = ((a.0.0, still e.1 d a.0.1), agree_still S still es ds a.1)

  -- a cursor that is opened last in both
  pub agree_opened : (name : List ℕ) (c : C) (d : D) → name ≡ name_of d → R c d → (entries : List (List ℕ × C)) (cursors : List D)
      → Agrees name_of R entries cursors → Agrees name_of R (entries ++ (name, c) ∷ []) (cursors ++ d ∷ [])
  agree_opened name c d named met entries cursors a =
      all_zipped_more (λ entry cursor. (entry.0 ≡ name_of cursor) × R entry.1 cursor) entries cursors (name, c) d a (named, met)

  module _ (name : List ℕ) where
    -- a cursor of the name is found in both, and the two meet the relation, or in neither
    agree_found : (entries : List (List ℕ × C)) (cursors : List D) → Agrees name_of R entries cursors
        → MatchOption (cursor_of name entries) (find (has_name name_of name) cursors ≡ None)
        (λ c. (d : D) × (find (has_name name_of name) cursors ≡ Some d) × R c d)
    agree_found [] [] a = refl
    agree_found [] (d ∷ ds) a = absurd a
    agree_found (e ∷ es) [] a = absurd a
    agree_found (e ∷ es) (d ∷ ds) a = subst (Found (key_eq name e.0)) (ap (key_eq name) a.0.0) (by (key_eq name e.0) (agree_found es ds a.1))
      where
        Found : Bool → Bool → Type 0
        Found here there = MatchOption (cond {A = Option C} here (Some e.1) (cursor_of name es))
            (cond {A = Option D} there (Some d) (find (has_name name_of name) ds) ≡ None)
            (λ c. (x : D) × (cond {A = Option D} there (Some d) (find (has_name name_of name) ds) ≡ Some x) × R c x)

        by : (b : Bool) → MatchOption (cursor_of name es) (find (has_name name_of name) ds ≡ None)
            (λ c. (x : D) × (find (has_name name_of name) ds ≡ Some x) × R c x) → Found b b
        by true _ = (d, refl, a.0.1)
        by false rest = rest

    -- the cursor that a call gave or lent is that of the other list with the name
    pub agree_some : (entries : List (List ℕ × C)) (cursors : List D) (c : C) → Some c ≡ cursor_of name entries → Agrees name_of R entries cursors
        → (d : D) × (find (has_name name_of name) cursors ≡ Some d) × R c d
    agree_some entries cursors c is a = subst (λ o. MatchOption o (find (has_name name_of name) cursors ≡ None)
        (λ x. (d : D) × (find (has_name name_of name) cursors ≡ Some d) × R x d)) (sym is) (agree_found entries cursors a)

    -- where a call found none, the other list has none of the name
    pub agree_none : (entries : List (List ℕ × C)) (cursors : List D) → None ≡ cursor_of name entries → Agrees name_of R entries cursors
        → find (has_name name_of name) cursors ≡ None
    agree_none entries cursors is a = subst (λ o. MatchOption o (find (has_name name_of name) cursors ≡ None)
        (λ x. (d : D) × (find (has_name name_of name) cursors ≡ Some d) × R x d)) (sym is) (agree_found entries cursors a)

    -- where no cursor has the name, none is changed
    changed_none : (change : D → D) (cursors : List D) → AllByRecursion (λ n. key_eq name n ≡ false) (map name_of cursors) → changed name_of name change cursors ≡ cursors
    changed_none change [] none = refl
    changed_none change (d ∷ ds) none = λ i. cond (none.0 i) (change d) d ∷ changed_none change ds none.1 i

    -- and none is left out
    dropped_none : (cursors : List D) → AllByRecursion (λ n. key_eq name n ≡ false) (map name_of cursors) → dropped name_of name cursors ≡ cursors
    dropped_none [] none = refl
    dropped_none (d ∷ ds) none = (λ i. cond (not (none.0 i)) (d ∷ dropped name_of name ds) (dropped name_of name ds)) ∙ ap (λ l. d ∷ l) (dropped_none ds none.1)

    -- behind the entry of the name no other has it, so none in the other list
    others : (e : List ℕ × C) (es : List (List ℕ × C)) (ds : List D) → IsOnce (e ∷ es) → key_eq name e.0 ≡ true → Agrees name_of R es ds
        → AllByRecursion (λ n. key_eq name n ≡ false) (map name_of ds)
    unfolding IsDistinct
    others e es ds once is a = subst (AllByRecursion (λ n. key_eq name n ≡ false)) (agree_names es ds a)
        (subst (λ x. AllByRecursion (λ n. key_eq x n ≡ false) (keys_of es)) (sym ((bytes_decides name e.0).0 is)) once.0)

    once_behind : (e : List ℕ × C) (es : List (List ℕ × C)) → IsOnce (e ∷ es) → IsOnce es
    unfolding IsDistinct
    once_behind e es once = once.1

    -- a cursor that was moved on in its place, beside a list in which those of the name are changed
    pub agree_changed : (c : C) (change : D → D) → ((d : D) → name_of (change d) ≡ name_of d) → (entries : List (List ℕ × C)) (cursors : List D)
        → IsOnce entries → Agrees name_of R entries cursors → ((d : D) → find (has_name name_of name) cursors ≡ Some d → R c (change d))
        → Agrees name_of R (with_cursor name entries c) (changed name_of name change cursors)
    agree_changed c change named [] [] once a met = tt
    agree_changed c change named [] (d ∷ ds) once a met = absurd a
    agree_changed c change named (e ∷ es) [] once a met = absurd a
    agree_changed c change named (e ∷ es) (d ∷ ds) once a met =
        subst (λ t. Agrees name_of R (with_cursor name (e ∷ es) c) (cond t (change d) d ∷ changed name_of name change ds)) (ap (key_eq name) a.0.0)
        (by (key_eq name e.0) refl (agree_changed c change named es ds (once_behind e es once) a.1))
      where
        here : (b : Bool) → key_eq name e.0 ≡ b
            → find (has_name name_of name) (d ∷ ds) ≡ cond {A = Option D} b (Some d) (find (has_name name_of name) ds)
        here b p = λ i. cond {A = Option D} ((sym (ap (key_eq name) a.0.0) ∙ p) i) (Some d) (find (has_name name_of name) ds)

        by : (b : Bool) → key_eq name e.0 ≡ b
            → (((x : D) → find (has_name name_of name) ds ≡ Some x → R c (change x)) → Agrees name_of R (with_cursor name es c) (changed name_of name change ds))
            → Agrees name_of R (cond b ((e.0, c) ∷ es) (e ∷ with_cursor name es c)) (cond b (change d) d ∷ changed name_of name change ds)
        by true p rest =
            ((a.0.0 ∙ sym (named d), met d (here true p)), subst (Agrees name_of R es) (sym (changed_none change ds (others e es ds once p a.1))) a.1)
        by false p rest = (a.0, rest (λ x h. met x (here false p ∙ h)))

    -- a cursor that was closed, beside a list from which those of the name are left out
    pub agree_closed : (entries : List (List ℕ × C)) (cursors : List D) → IsOnce entries → Agrees name_of R entries cursors
        → Agrees name_of R (without name entries) (dropped name_of name cursors)
    agree_closed [] [] once a = tt
    agree_closed [] (d ∷ ds) once a = absurd a
    agree_closed (e ∷ es) [] once a = absurd a
    agree_closed (e ∷ es) (d ∷ ds) once a =
        subst (λ t. Agrees name_of R (without name (e ∷ es)) (cond (not t) (d ∷ dropped name_of name ds) (dropped name_of name ds))) (ap (key_eq name) a.0.0)
        (by (key_eq name e.0) refl (agree_closed es ds (once_behind e es once) a.1))
      where
        by : (b : Bool) → key_eq name e.0 ≡ b → Agrees name_of R (without name es) (dropped name_of name ds)
            → Agrees name_of R (cond b es (e ∷ without name es)) (cond (not b) (d ∷ dropped name_of name ds) (dropped name_of name ds))
        by true p _ = subst (Agrees name_of R es) (sym (dropped_none ds (others e es ds once p a.1))) a.1
        by false p rest = (a.0, rest)
