-- A hand is ready again after a turn to another token.
use Rattle.std.proofs.Common.{◌≡◌, ◌∙◌, ◌≤◌, ◌^◌, List, length, Option, OnOk, Result, Ok, Err, refl, sym, ap, subst}
use Rattle.std.proofs.lemmas.List.{length-map}
use Rattle.std.specs.List.{AllByRecursion}
use Rattle.sasi_host.specs.declared.name.FileName.{FileName}
use Rattle.sasi_host.specs.declared.fault.ReadFault.{ReadFault}
use Rattle.sasi_host.specs.Names.{Folder}
use Rattle.sasi_narrow.specs.declared.part_hits.PartHits.{PartHits}
use Rattle.sasi_narrow.specs.Narrowing.{TellsOf}
use Rattle.sasi_lookup.specs.Files.{LookedFile}
use Rattle.sasi_lookup.specs.Lookups.{IsOfSameFiles, IsReady, LookupView}
use Rattle.sasi_engine.specs.declared.hand.Hand.{Hand}
use Rattle.sasi_engine.specs.inside.Steps.{IsHandReady, IsSameHand}

pub same_count : (old new : LookupView) → IsOfSameFiles old new → length new.files ≡ length old.files
same_count old new same =
    sym (length-map new.files (λ (file : LookedFile). file.name)) ∙ ap (λ (names : List FileName). length names) same.names_are ∙ length-map old.files (λ (file : LookedFile). file.name)

-- what is told of the parts fits the files, as they are the same
pub turned_ready : (old new : Hand) (before after : Option Folder) → IsSameHand old new → IsReady new.lookup after → IsHandReady old before → IsHandReady new after
turned_ready old new before after same looks ready = record {
  looks = looks;
  some = subst (λ n. 1 ≤ n) (sym same.relations_are) ready.some;
  few = subst (λ n. n ≤ 2 ^ 32) (sym same.relations_are) ready.few;
  told = subst (λ n. AllByRecursion (TellsOf n (length new.lookup.files)) new.parts.items) (sym same.relations_are)
      (subst (λ n. AllByRecursion (TellsOf old.relations n) new.parts.items) (sym (same_count old.lookup new.lookup same.files_are))
      (subst (λ (parts : List PartHits). AllByRecursion (TellsOf old.relations (length old.lookup.files)) parts) (sym same.parts_are) ready.told));
}

-- nothing was turned
pub same_hand : (hand : Hand) → IsSameHand hand hand
same_hand hand = record { relations_are = refl; parts_are = refl; maps_are = refl; files_are = record { types_are = refl; names_are = refl } }

-- one turn after another
pub same_then : (a b c : Hand) → IsSameHand a b → IsSameHand b c → IsSameHand a c
same_then a b c first second = record {
  relations_are = second.relations_are ∙ first.relations_are;
  parts_are = second.parts_are ∙ first.parts_are;
  maps_are = second.maps_are ∙ first.maps_are;
  files_are = record { types_are = second.files_are.types_are ∙ first.files_are.types_are; names_are = second.files_are.names_are ∙ first.files_are.names_are };
}

pub always_ok : {T : Type 0} (P : Type 0) (r : Result T ReadFault) → P → OnOk r P
always_ok P (Ok x) is = is
always_ok P (Err f) is = tt

pub both_ok : {T : Type 0} (P Q : Type 0) (r : Result T ReadFault) → OnOk r P → OnOk r Q → OnOk r (P × Q)
both_ok P Q (Ok x) first second = (first, second)
both_ok P Q (Err f) first second = tt
