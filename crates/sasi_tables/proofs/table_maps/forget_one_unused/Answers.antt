use Rattle.std.proofs.Common.{inl, inr, refl, sym, ◌∙◌, ◌≡◌, true, false}
use Rattle.sasi_tables.proofs.EachMap.{forgot_unless}
use Rattle.sasi_tables.proofs.table_maps.forget_one_unused.Goals as goal

pub returns-then-has_map : goal.returns-then-has_map
returns-then-has_map c = inr (refl, inl (c.has_map.ensures.0 c.if-has_map.true))

pub returns : goal.returns
returns c =
    forgot_unless c.args.tables.now c.args.views.now c.args.number c.args.maps.now c.forget_one.new.maps (λ of. let never : true ≡ false = sym (c.has_map.ensures.1 of) ∙ c.if-has_map.false in cc) c.forget_one.ensures.gone c.forget_one.ensures.listed
