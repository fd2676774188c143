-- What a read leaves to come.
use Rattle.std.proofs.Common.{◌≡◌, ℕ, ◌+◌, List, ◌++◌, None, Some, Option, take, drop, ap, sym, ◌∙◌, append_assoc}
use Rattle.std.proofs.Math.Seq.{take-add}
use Rattle.std.specs.Io.KnownBytes.{Keeps, Consumes, prepend_known}

-- what the input gave stands behind what was held
pub kept_by_read : (a b c : Option (List ℕ)) (held more after : List ℕ) → Keeps a (prepend_known held b) → Consumes b c more → after ≡ held ++ more
    → Keeps a (prepend_known after c)
kept_by_read None b c held more after p q e = tt
kept_by_read (Some x) None c held more after p q e = absurd p
kept_by_read (Some x) (Some y) None held more after p q e = absurd q
kept_by_read (Some x) (Some y) (Some z) held more after p q e =
    ap (λ l. l ++ z) e ∙ append_assoc held more z ∙ ap (λ l. held ++ l) (sym q) ∙ p

-- the first bytes and those read behind them
pub front_and_read : (e n : ℕ) (old new : List ℕ) → take e new ≡ take e old → take (e + n) new ≡ take e old ++ take n (drop e new)
front_and_read e n old new same = take-add e n new ∙ ap (λ l. l ++ take n (drop e new)) same

-- what stood at the front is taken
pub consumed_front : (a b : Option (List ℕ)) (held front left : List ℕ) → Keeps a (prepend_known held b) → held ≡ front ++ left → Consumes a (prepend_known left b) front
consumed_front None b held front left p e = tt
consumed_front (Some x) None held front left p e = absurd p
consumed_front (Some x) (Some y) held front left p e = sym p ∙ ap (λ l. l ++ y) e ∙ append_assoc front left y
