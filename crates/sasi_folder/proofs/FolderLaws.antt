-- Laws of what folders hold: other files don't matter, and a sealed folder has one highest seal and one content of each segment.
use Rattle.std.specs.Prelude.{◌≡◌, ◌≢◌, ◌⊎◌, ℕ, zero, suc, ◌+◌, ◌≤◌, ◌<◌, List, [], ◌∷◌, length, Option, Some, None, IsSome, refl}
use Rattle.std.proofs.Common.{sym, ap, subst, ◌∙◌, inl, inr, ⊎_elim, arith}
use Rattle.std.specs.FinMap.{get}
use Rattle.sasi_host.specs.declared.name.FileName.{FileName}
use Rattle.sasi_host.specs.Names.{Bytes, Folder, rank, log_name, seal_name}
use Rattle.sasi_cells.specs.declared.mutation.Mutation.{Mutation}
use Rattle.sasi_commitlog.specs.Format.{IsLog, Tables}
use Rattle.sasi_commitlog.proofs.Laws.{logs_same}
use Rattle.sasi_folder.specs.FolderContents.{HasSegments, IsFresh, IsSealed}

-- ---- names

pub kinds_apart : (a b : FileName) → rank a.kind ≢ rank b.kind → a ≢ b
kinds_apart a b apart same = apart (ap (λ (n : FileName). rank n.kind) same)

pub numbers_apart : (a b : FileName) → a.number ≢ b.number → a ≢ b
numbers_apart a b apart same = apart (ap (λ (n : FileName). n.number) same)

-- ---- other files don't matter

pub segments_kept : (x y : Folder) (tables : Tables) (number : ℕ) (logs : List (List Mutation)) → ((segment : ℕ) → number ≤ segment → segment < number + length logs → get y (log_name segment) ≡ get x (log_name segment))
    → HasSegments x tables number logs → HasSegments y tables number logs
segments_kept x y tables number [] same has = tt
segments_kept x y tables number (ms ∷ logs) same has = (
  (has.0.0, same number (omega arith) (omega arith) ∙ has.0.1, has.0.2),
  segments_kept x y tables (suc number) logs (λ segment above below. same segment (omega arith) (omega (arith, below))) has.1,
)

pub sealed_kept : (x y : Folder) (number : ℕ) → ((other : ℕ) → get y (seal_name other) ≡ get x (seal_name other)) → IsSealed x number → IsSealed y number
sealed_kept x y number same sealed = record {
  there = subst (λ (o : Option Bytes). IsSome o) (sym (same number)) sealed.there;
  highest = λ other above. same other ∙ sealed.highest other above;
}

-- ---- a sealed folder holds one thing

pub highest_same : (x : Folder) (n m : ℕ) → IsSealed x n → IsSealed x m → n ≡ m
highest_same x n m first second = by (below_or n m)
  where
    below_or : (a b : ℕ) → (a < b) ⊎ ((a ≡ b) ⊎ (b < a))
    below_or zero zero = inr (inl refl)
    below_or zero (suc b) = inl (omega arith)
    below_or (suc a) zero = inr (inr (omega arith))
    below_or (suc a) (suc b) = ⊎_elim (λ l. inl (omega arith)) (λ r. inr (⊎_elim (λ e. inl (ap (λ k. suc k) e)) (λ l. inr (omega arith)) r)) (below_or a b)

    none : (k : ℕ) → IsSome (get x (seal_name k)) → get x (seal_name k) ≡ None → ⊥
    none k some is = let e : IsSome {T = Bytes} None = subst (λ (o : Option Bytes). IsSome o) is some in cc

    by : (n < m) ⊎ ((n ≡ m) ⊎ (m < n)) → n ≡ m
    by (inl less) = absurd (none m second.there (first.highest m less))
    by (inr (inl is)) = is
    by (inr (inr more)) = absurd (none n first.there (second.highest n more))

pub one_content : (a b : Bytes) (o : Option Bytes) → o ≡ Some a → o ≡ Some b → a ≡ b
one_content a b o first second = let e : Some a ≡ Some b = sym first ∙ second in cc

pub segments_same : (x : Folder) (tables : Tables) (number : ℕ) (a b : List (List Mutation)) → length a ≡ length b → HasSegments x tables number a → HasSegments x tables number b → a ≡ b
segments_same x tables number [] [] sizes first second = refl
segments_same x tables number [] (m ∷ b) sizes first second = absurd (omega (arith, sizes))
segments_same x tables number (m ∷ a) [] sizes first second = absurd (omega (arith, sizes))
segments_same x tables number (m ∷ a) (k ∷ b) sizes first second =
    let bytes : second.0.0 ≡ first.0.0 = one_content second.0.0 first.0.0 (get x (log_name number)) second.0.1 first.0.1 in
    let here : m ≡ k = logs_same number tables first.0.0 m k first.0.2 (subst (λ (l : Bytes). IsLog number tables l k) bytes second.0.2) in
    let later : a ≡ b = segments_same x tables (suc number) a b (omega (arith, sizes)) first.1 second.1 in
    ap (λ (m : List Mutation). m ∷ a) here ∙ ap (λ (l : List (List Mutation)). k ∷ l) later

-- a sealed folder isn't fresh
pub sealed_not_fresh : (x : Folder) (number : ℕ) → IsSealed x number → IsFresh x → ⊥
sealed_not_fresh x number sealed fresh =
    let none : get x (seal_name number) ≡ None = fresh (seal_name number) (kinds_apart _ _ (omega arith)) (kinds_apart _ _ (omega arith)) in
    let e : IsSome {T = Bytes} None = subst (λ (o : Option Bytes). IsSome o) none sealed.there in
    cc
