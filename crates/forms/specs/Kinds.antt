-- The kinds by which heads name what a series is about.
use Rattle.std.specs.Prelude.{◌≡◌, ◌≢◌, ℕ, Result, MatchResult}
use Rattle.forms.specs.declared.kind.Kind.{Kind}
use Rattle.forms.specs.declared.kind.Kind.TheVariants.{Out, In, Cons, Prod, Pump}
use Rattle.forms.specs.declared.kind.UnknownKind.{UnknownKind}

-- a trade out, a trade in, and a forecast of consumption, production or pump power
abbrev pub number_of : Kind → ℕ
number_of Out = 1
number_of In = 2
number_of Cons = 3
number_of Prod = 4
number_of Pump = 5

-- the kind of this number, or an error for a number that no kind has
abbrev pub KindRead : ℕ → Result Kind UnknownKind → Type 0
KindRead number r = MatchResult r (λ kind. number_of kind ≡ number) (λ _. (number ≢ number_of Out) × (number ≢ number_of In) × (number ≢ number_of Cons) × (number ≢ number_of Prod) × (number ≢ number_of Pump))
