-- The laws of stages, for each of the rules.
use Rattle.std.proofs.Common.{arith}
use Rattle.stage.specs.declared.any_rule.AnyRule.{AnyRule}
use Rattle.stage.specs.declared.any_rule.AnyRule.TheVariants as made
use Rattle.stage.specs.declared.rolling.Rolling.{Rolling}
use Rattle.stage.specs.declared.run.Run.{Run}
use Rattle.stage.specs.Asked.{meaning_of}
use Rattle.stage.specs.LawProofs.Gaps.{run_le, run_under}
use Rattle.stage.specs.Laws.{Bounded, Monotone}
use Rattle.stage.specs.Rules.{rolling, run}
use Rattle.stage.specs.LawProofs.Windows.{rolling_le, rolling_under}

pub rolling_bounded : (s : Rolling) → Bounded (rolling s.window)
rolling_bounded s xs h = omega (arith, rolling_le s.window xs)

pub rolling_monotone : (s : Rolling) → Monotone (rolling s.window)
rolling_monotone s xs ys _ h = rolling_under s.window xs ys h

pub run_bounded : (s : Run) → Bounded (run s.gap)
run_bounded s xs h = omega (arith, run_le s.gap xs)

pub run_monotone : (s : Run) → Monotone (run s.gap)
run_monotone s xs ys _ h = run_under s.gap xs ys h

pub any_bounded : (s : AnyRule) → Bounded (meaning_of s)
any_bounded (made.Rolling s) xs h = rolling_bounded s xs h
any_bounded (made.Run s) xs h = run_bounded s xs h

pub any_monotone : (s : AnyRule) → Monotone (meaning_of s)
any_monotone (made.Rolling s) xs ys l h = rolling_monotone s xs ys l h
any_monotone (made.Run s) xs ys l h = run_monotone s xs ys l h
