use Rattle.std.proofs.Common.{◌≡◌, ◌+◌, ◌≤◌, ℕ, List, Option, Ok, drop, map, sum, take}
use Rattle.sasi_types.specs.declared.column.ColumnType.{ColumnType}
use Rattle.sasi_host.specs.declared.damage.Damage.{Damage}
use Rattle.sasi_host.specs.Names.{Folder}
use Rattle.sasi_model.specs.Filters.{answers, where_of}
use Rattle.sasi_ranges.specs.StreamCalls.{CanStream, HasStreamed, StreamFaults}
use Rattle.sasi_recheck.specs.Rows.{counted_on}
use Rattle.sasi_recheck.specs.Sources.{Candidate}
use Rattle.sasi_recheck.proofs.TurnLaws.{HasPassed}
use Rattle.sasi_recheck.proofs.next_row.next_row.Given as goal

-- as many candidates as there were turns were looked at, and none of them passed
abbrev pub invariant-loop-turn : goal.invariant-loop-turn
invariant-loop-turn g l =
    let view = g.H.Host.view in
    let C = g.C.Candidates in
    let u = view l.fn.host in
    let v = view l.host in
    let test = answers (where_of l.filter) in
    record {
      can : CanStream (g.P.PageReader.agrees l.pages) (C.opens l.candidates) v;
      ready : C.ready l.candidates v.files l.maps;
      passed : (left : List Candidate) → C.leaves l.fn.candidates u.files l.maps left → HasPassed test (C.leaves l.candidates v.files l.maps) left l._turn;
      count : l.checked ≡ counted_on l.fn.checked l._turn;
      paid : (most : ℕ) (prices : List ℕ) → C.pays l.fn.candidates u.files l.maps most prices
          → (rest : ℕ) × C.pays l.candidates v.files l.maps rest (drop l._turn prices) × (v.reads + rest ≤ u.reads + most + sum (take l._turn prices));
      uses : (number : ℕ) → C.uses l.candidates number → C.uses l.fn.candidates number;
      kept : C.kept l.candidates ≡ C.kept l.fn.candidates;
      prints : (kind : ColumnType) → C.prints l.fn.candidates u.files l.maps kind → C.prints l.candidates v.files l.maps kind;
      kinds : map (λ b. (goal.Analyzer-dyn g (b.vtable, b.value)).kind b.value) l.kit.objects.items ≡ map (λ b. (goal.Analyzer-dyn g (b.vtable, b.value)).kind b.value) l.fn.kit.objects.items;
      read : HasStreamed (g.P.PageReader.agrees l.pages) (g.P.PageReader.covers l.fn.pages) (g.P.PageReader.covers l.pages) (C.opens l.fn.candidates) (C.opens l.candidates) u v;
      faults : (n : ℕ) → StreamFaults (C.shows l.fn.candidates u.files) (C.shows l.candidates v.files) (C.leaves l.fn.candidates u.files l.maps) u v (Ok n);
      shows_less : (files : Option Folder) (damage : Damage) → C.shows l.candidates files damage → C.shows l.fn.candidates files damage;
    }
