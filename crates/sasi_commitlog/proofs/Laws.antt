-- A segment of the log has one list of mutations.
use Rattle.std.specs.Prelude.{◌≡◌, ℕ, ◌^◌, ◌<◌, List, [], ◌∷◌, ◌++◌, map, Some, refl}
use Rattle.std.proofs.Common.{sym, ◌∙◌, ap, subst}
use Rattle.std.specs.Int.{to_be_bytes, w32}
use Rattle.std.specs.List.{AllByRecursion}
use Rattle.sasi_host.specs.Names.{Bytes, log_name}
use Rattle.sasi_types.specs.declared.column.ColumnType.{ColumnType}
use Rattle.sasi_model.specs.Cells.{Partition}
use Rattle.sasi_gated.proofs.Laws.{records_same}
use Rattle.sasi_formats.proofs.NumberLaws.{same_number}
use Rattle.sasi_body.specs.Body.{body, IsBodyOf}
use Rattle.sasi_body.proofs.Bodies.{bodies_same}
use Rattle.sasi_cells.specs.declared.mutation.Mutation.{Mutation}
use Rattle.sasi_commitlog.specs.Format.{payload_of, types_in, Tables, IsMutationOf, IsLog}
use Rattle.sasi_commitlog.proofs.Payloads.{opened_mutation, payload_is}

pub same_32 : (n m : ℕ) (a b : Bytes) → n < 2 ^ 32 → m < 2 ^ 32 → to_be_bytes w32 n ++ a ≡ to_be_bytes w32 m ++ b → (n ≡ m) × (a ≡ b)
same_32 n m a b n_fits m_fits same = same_number w32 n m a b n_fits m_fits same

-- one table has one list of types
pub types_same : (tables : Tables) (n m : ℕ) (a b : List ColumnType) → n ≡ m → types_in tables n ≡ Some a → types_in tables m ≡ Some b → a ≡ b
types_same tables n m a b same first second = let between = ap (types_in tables) same in cc

-- two mutations with one payload are one
pub payloads_same : (tables : Tables) (m n : Mutation) → IsMutationOf tables m → IsMutationOf tables n → payload_of m ≡ payload_of n → m ≡ n
payloads_same tables m n m_is n_is same =
    let first = opened_mutation tables m m_is in
    let second = opened_mutation tables n n_is in
    let numbers = same_32 m.table n.table (body m.key m.change) (body n.key n.change) first.number second.number (sym (payload_is m) ∙ same ∙ payload_is n) in
    let types = types_same tables m.table n.table first.types second.types numbers.0 first.listed second.listed in
    let bodies = bodies_same second.types m.key n.key m.change n.change [] []
    (subst (λ (t : List ColumnType). IsBodyOf t m.key m.change) types first.body_is) second.body_is (ap (λ (l : Bytes). l ++ []) numbers.1) in
    let mutation : ℕ → Bytes → Partition → Mutation = λ table key change. record { table = table; key = key; change = change } in
    ap (λ (t : ℕ). mutation t m.key m.change) numbers.0 ∙ ap (λ (k : Bytes). mutation n.table k m.change) bodies.0 ∙ ap (λ (p : Partition). mutation n.table n.key p) bodies.1

-- and so are two lists of them
pub mutations_same : (tables : Tables) (ms ns : List Mutation) → AllByRecursion (IsMutationOf tables) ms → AllByRecursion (IsMutationOf tables) ns → map payload_of ms ≡ map payload_of ns → ms ≡ ns
mutations_same tables [] [] ms_are ns_are same = refl
mutations_same tables [] (n ∷ ns) ms_are ns_are same = cc
mutations_same tables (m ∷ ms) [] ms_are ns_are same = cc
mutations_same tables (m ∷ ms) (n ∷ ns) ms_are ns_are same =
    let one = payloads_same tables m n ms_are.0 ns_are.0 cc in
    let others = mutations_same tables ms ns ms_are.1 ns_are.1 cc in
    ap (λ (x : Mutation). x ∷ ms) one ∙ ap (λ (l : List Mutation). n ∷ l) others

-- the bytes of a segment tell its mutations
pub logs_same : (number : ℕ) (tables : Tables) (bytes : Bytes) (ms ns : List Mutation) → IsLog number tables bytes ms → IsLog number tables bytes ns → ms ≡ ns
logs_same number tables bytes ms ns first second =
    mutations_same tables ms ns first.of_tables second.of_tables
    (records_same (log_name number) bytes (map payload_of ms) (map payload_of ns) first.gated second.gated)
