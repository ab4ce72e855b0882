-- Keys that an index doesn't have yet.
use Rattle.std.specs.Prelude.{ℕ, ◌≤◌, []}
use Rattle.sasi_types.specs.declared.decorated_key.DecoratedKey.{DecoratedKey}
use Rattle.sasi_memindex.specs.IndexOf.{HasTermsAt}
use Rattle.sasi_memindex.specs.MemIndexView.{MemIndexView}

-- no key has this token or a larger one
abbrev pub HasNothingFrom : ℕ → MemIndexView → Type 0
HasNothingFrom token index = (key : DecoratedKey) → token ≤ key.token → HasTermsAt index key []
