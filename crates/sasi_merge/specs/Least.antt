-- The search for the least key of heads.
use Rattle.std.specs.Prelude.{if◌then◌else◌, List, [], ◌∷◌, Option, None, Some}
use Rattle.std.specs.Ordering.{is_gt}
use Rattle.sasi_types.specs.declared.decorated_key.DecoratedKey.{DecoratedKey}
use Rattle.sasi_types.specs.DecoratedKey.{decorated_cmp}
use Rattle.sasi_merge.specs.Merging.{Head, with_token}

-- the lesser of a key and that of a head
abbrev pub lesser : Option DecoratedKey → Head → Option DecoratedKey
lesser least None = least
lesser None (Some h) = Some (with_token h.0 h.1)
lesser (Some key) (Some h) = if is_gt (decorated_cmp key (with_token h.0 h.1)) then Some (with_token h.0 h.1) else Some key

-- the least of a key and those of heads
abbrev pub least_from : Option DecoratedKey → List Head → Option DecoratedKey
least_from least [] = least
least_from least (h ∷ hs) = least_from (lesser least h) hs
