-- What a change of one component makes of what the book knows of another one, and what changes of a list of components make of it.
use Rattle.std.specs.Prelude.{ℕ, ◌+◌, ◌-◌, Bool, false, cond, List, [], ◌∷◌, Option, None, Some, option_map}
use Rattle.sasi_views.specs.declared.component.Component.{Component}
use Rattle.sasi_views.specs.declared.counted.Counted.{Counted}
use Rattle.sasi_views.specs.Components.{same}

-- the changed component, another one, and what is known of that
abbrev pub Step : Type 0
Step = Component → Component → Option Counted → Option Counted

-- where the two are one, this
abbrev pub at : (Option Counted → Option Counted) → Step
at change x c known = cond (same x c) (change known) known

abbrev pub more : ℕ → Counted → Counted
more n s = record { count = s.count + n; current = s.current }

abbrev pub with_current : Bool → Counted → Counted
with_current b s = record { count = s.count; current = b }

-- a component that no view lists and that isn't current
abbrev pub unlisted : Counted
unlisted = record { count = 0; current = false }

abbrev pub known_so : Option Counted → Option Counted
known_so None = Some unlisted
known_so (Some s) = Some s

abbrev pub learnt : Step
learnt = at known_so

abbrev pub forgotten : Step
forgotten = at (λ known. None)

abbrev pub raised : Step
raised = at (option_map (more 1))

abbrev pub less_one : Counted → Counted
less_one s = record { count = s.count - 1; current = s.current }

abbrev pub lowered : Step
lowered = at (option_map less_one)

abbrev pub marked : Bool → Step
marked b = at (option_map (with_current b))

-- one change after another
abbrev pub each : Step → List Component → Component → Option Counted → Option Counted
each step [] c known = known
each step (x ∷ xs) c known = each step xs c (step x c known)
