-- Why partitions can't be written, where an analyzer is there for each index.
use Rattle.std.proofs.Common.{◌≡◌, ℕ, List, ap, ◌∙◌, subst, arith}
use Rattle.std.specs.Prelude.{Option, Some, Err}
use Rattle.std.specs.List.{AllByRecursion}
use Rattle.std.proofs.lemmas.List.Elements.{All-contains, All-from_recursion}
use Rattle.sasi_types.specs.declared.class.Class.{Class}
use Rattle.sasi_host.specs.View.{View, counted}
use Rattle.sasi_datawrite.specs.Causes.{PushCauses}
use Rattle.sasi_datawrite.specs.declared.fault.PairFault.{PairFault}
use Rattle.sasi_datawrite.specs.declared.fault.PairFault.TheVariants as pair
use Rattle.sasi_layout.specs.Classes.{HasNeeded}
use Rattle.sasi_types.specs.declared.index_def.IndexDef.{IndexDef}
use Rattle.sasi_pairs.specs.Gathered.{LacksClass}
use Rattle.sasi_tables.specs.Held.{KnowsDef}

-- no index lacks a class
pub lacks_none : (kinds : List Class) (defs : List IndexDef) → AllByRecursion (KnowsDef kinds) defs → (class : Class) → LacksClass kinds defs class → ⊥
lacks_none kinds defs known class lacks =
    let all = All-from_recursion (KnowsDef kinds) defs known in
    let knows : KnowsDef kinds lacks.def = All-contains (KnowsDef kinds) defs lacks.def all lacks.listed in
    let has : HasNeeded kinds (Some class) = subst (λ (o : Option Class). HasNeeded kinds o) lacks.missing.needed knows in
    let lacking = lacks.missing.lacking in
    cc

-- a push that fails, behind others that succeeded
pub push_stops : (Lacks : Class → Type 0) (a b c : View) (f : PairFault) → b.disk_faults ≡ a.disk_faults → b.out_faults ≡ a.out_faults → b.reads ≡ a.reads → ((class : Class) → Lacks class → ⊥)
    → PushCauses {T = Unit {0}} Lacks b c (Err f) → PushCauses {T = Unit {0}} (λ _. ⊥) a c (Err f)
push_stops Lacks a b c f disk out reads none causes = record {
  disk = omega (arith, disk, causes.disk);
  out = causes.out ∙ out;
  reads = causes.reads ∙ reads;
  ok = tt;
  failed = λ is. (let failed = causes.failed is in record { once = failed.once ∙ ap (λ (n : ℕ). counted n) disk; is_last = failed.is_last });
  memory = λ is. causes.memory is ∙ disk;
  undamaged = causes.undamaged;
  missing = λ class is. none class (causes.missing class is);
  lacking = λ class is. causes.lacking class is ∙ disk;
}

-- memory that runs out behind pushes that succeeded
pub memory_stops : (a b : View) → b.disk_faults ≡ a.disk_faults → b.out_faults ≡ a.out_faults → b.reads ≡ a.reads → PushCauses {T = Unit {0}} (λ _. ⊥) a b (Err pair.OutOfMemory)
memory_stops a b disk out reads = record {
  disk = omega (arith, disk);
  out = out;
  reads = reads;
  ok = tt;
  failed = λ is. cc;
  memory = λ is. disk;
  undamaged = λ damage is. cc;
  missing = λ class is. cc;
  lacking = λ class is. disk;
}
