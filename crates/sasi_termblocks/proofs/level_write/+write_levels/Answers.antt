use Rattle.std.proofs.Common.{◌+◌, ◌∙◌, List, ap, arith, length, refl, subst, sym}
use Rattle.sasi_host.specs.Names.{Bytes}
use Rattle.sasi_tokentree.proofs.WriteLaws.{changes_past_on}
use Rattle.sasi_termblocks.specs.Blocks.{pointers_to}
use Rattle.sasi_termblocks.specs.Writing.{AreShort}
use Rattle.sasi_termblocks.proofs.LevelLaws.{fewer_above, level_as, more_end, more_top, more_written, one_ends, one_top, one_written}
use Rattle.sasi_termblocks.proofs.level_write.+write_levels.Goals as goal

pub returns-then-first_terms-le1-clause-ok : goal.returns-then-first_terms-le1-clause-ok
returns-then-first_terms-le1-clause-ok g t c items level = one_written _ _ c.args.file c.args.at items c.args.bytes.now c.args.first_terms.now level c.in_ok-write_bytes.ensures.ok

pub returns-then-first_terms-le1-clause-ends : goal.returns-then-first_terms-le1-clause-ends
returns-then-first_terms-le1-clause-ends g t c items level = one_ends c.args.at items c.args.bytes.now c.args.first_terms.now level (omega arith)

pub returns-then-first_terms-le1-clause-top : goal.returns-then-first_terms-le1-clause-top
returns-then-first_terms-le1-clause-top g t c items level = one_top c.args.at items

pub write_levels-requires : goal.write_levels-requires
write_levels-requires g t c κs within =
    let less = fewer_above c.args.at c.args.first_terms.now c.deref-2.result.now c.requires.short (omega arith) (c.deref-2.ensures.value ∙ c.in_ok-level.ensures.level.terms_are) in (
      omega (arith, less),
      (
        within,
        (
          c.in_ok-write_bytes.ensures.ok.reaches,
          (
            subst (λ (l : List Bytes). AreShort l) (sym c.deref-2.ensures.value) c.in_ok-level.ensures.short,
            omega (arith, c.in_ok-level.ensures.few, ap (λ (l : Bytes). length l) c.deref.ensures.value, ap (λ (l : List Bytes). length l) c.deref-2.ensures.value),
          ),
        ),
      ),
    )

pub returns-in_err-above-clause-changes : goal.returns-in_err-above-clause-changes
returns-in_err-above-clause-changes g t c =
    changes_past_on _ _ _ c.args.file c.args.at (c.args.at + length c.args.bytes.now) (omega arith) c.write_bytes.ensures.changes c.write_levels.ensures.changes

pub returns-clause-changes : goal.returns-clause-changes
returns-clause-changes g t c =
    changes_past_on _ _ _ c.args.file c.args.at (c.args.at + length c.args.bytes.now) (omega arith) c.write_bytes.ensures.changes c.write_levels.ensures.changes

pub returns-clause-ok : goal.returns-clause-ok
returns-clause-ok g t c items level =
    let above = level_as _ c.deref.result.now _ c.deref-2.result.now (pointers_to c.args.at c.args.first_terms.now) c.deref.ensures.value c.deref-2.ensures.value c.in_ok-level.ensures.level in
    more_written _ _ _ c.args.file c.args.at (c.args.at + length c.args.bytes.now) c.in_ok-above.above.levels items c.args.bytes.now c.args.first_terms.now level refl
    c.requires.room c.in_ok-write_bytes.ensures.ok (c.in_ok-above.ensures.ok (pointers_to c.args.at c.args.first_terms.now) above)

pub returns-clause-ends : goal.returns-clause-ends
returns-clause-ends g t c items level =
    let above = level_as _ c.deref.result.now _ c.deref-2.result.now (pointers_to c.args.at c.args.first_terms.now) c.deref.ensures.value c.deref-2.ensures.value c.in_ok-level.ensures.level in
    more_end c.args.at (c.args.at + length c.args.bytes.now) c.in_ok-above.above.levels items c.args.bytes.now c.args.first_terms.now level refl (omega arith)
    (c.in_ok-above.ensures.ends (pointers_to c.args.at c.args.first_terms.now) above)

pub returns-clause-top : goal.returns-clause-top
returns-clause-top g t c items level =
    let above = level_as _ c.deref.result.now _ c.deref-2.result.now (pointers_to c.args.at c.args.first_terms.now) c.deref.ensures.value c.deref-2.ensures.value c.in_ok-level.ensures.level in
    more_top c.args.at (c.args.at + length c.args.bytes.now) c.in_ok-above.above.levels c.in_ok-above.above.top items c.args.bytes.now c.args.first_terms.now level refl
    (c.in_ok-above.ensures.top (pointers_to c.args.at c.args.first_terms.now) above)

pub returns-clause-few : goal.returns-clause-few
returns-clause-few g t c =
    let less = fewer_above c.args.at c.args.first_terms.now c.deref-2.result.now c.requires.short (omega arith) (c.deref-2.ensures.value ∙ c.in_ok-level.ensures.level.terms_are) in
    omega (arith, less, c.in_ok-above.ensures.few)
