-- What chains over `1..=n` give, as entries, and what they add to the lines.
use Rattle.std.proofs.Common.{◌≡◌, ℕ, zero, suc, ◌+◌, ◌-◌, Bool, true, false, not, ◌==◌, cond, List, [], ◌∷◌, ◌++◌, map, filter, Option, Result, MatchResult, OnOk, Vec, vec_items, refl, ap, sym, subst, ◌∙◌, arith}
use denote.Param.Members.{Mut}
use denote.Ref.{Bor}
use Rattle.std.specs.Fn.{Called, CalledAt}
use Rattle.std.specs.Iterator.{AlwaysYields, Yields, Drains}
use Rattle.std.specs.Iterator.Adapters.{map_source, map_callee, filter_source, filter_callee, filter_steps}
use Rattle.std.specs.List.{range_with_len, flat_map}
use Rattle.std.specs.Range.{range_inclusive_len, range_inclusive_start, range_inclusive_end, range_inclusive_exhausted}
use Rattle.std.specs.declared.alloc.Global.{Global}
use Rattle.std.specs.declared.iter.Filter.{Filter}
use Rattle.std.specs.declared.iter.Map.{Map}
use Rattle.std.specs.declared.ops.RangeInclusive.{RangeInclusive}
use Rattle.std.proofs.iter.runs.Sources.{nat_range_inclusive_steps}
use Rattle.std.proofs.lemmas.Iterator.{YieldsList, YieldsList-from_map_by, maps}
use Rattle.std.proofs.lemmas.Iterator.Adapters.{fact_from_extend}
use Rattle.std.proofs.lemmas.Iterator.Consumers.{YieldsList-at, YieldsList-from_filter}
use Rattle.std.proofs.lemmas.List.{map-append}
use Rattle.std.proofs.lemmas.List.Concat.{flat_map_single}
use Rattle.inquire.specs.declared.line.Line.{Line}
use Rattle.inquire.specs.Entries.{TableEntry, entry_of, entries_in}
use Rattle.inquire.specs.Table.{each_to}

-- what `extend` adds at Ok
pub extended : {T E : Type 0} {steps : T → Option Line → T → Type 0} {es : List TableEntry} {P : List Line → Type 0} {s : T} (old new : Vec Line Global) (r : Result (Unit {0}) E)
    → ((it : T) × (xs : List Line) × (it ≡ s) × P xs × MatchResult r (λ _. Drains steps it xs) (λ _. (t : T) × Yields steps it xs t))
    → ((xs : List Line) → P xs → vec_items new ≡ vec_items old ++ xs) → YieldsList steps entry_of s es → OnOk r (entries_in new ≡ entries_in old ++ es)
extended old new r ran adds road =
    fact_from_extend entry_of r ran (λ it b. YieldsList-at b road)
    (λ xs e h. ap (map entry_of) (adds xs h) ∙ map-append entry_of (vec_items old) xs ∙ ap (λ (zs : List TableEntry). entries_in old ++ zs) e)

abbrev left : RangeInclusive ℕ → ℕ
left s = range_inclusive_len (λ x y. y - x) (range_inclusive_start s) (range_inclusive_end s) (range_inclusive_exhausted s)

-- an exhausted range gives nothing more, so where it starts does not matter
from_start : (b : Bool) (s : RangeInclusive ℕ) (a n : ℕ) → range_inclusive_exhausted s ≡ b → left s ≡ n → (range_inclusive_exhausted s ≡ false → range_inclusive_start s ≡ a)
    → range_with_len (range_inclusive_start s) n ≡ range_with_len a n
from_start false s a n e l h = ap (λ k. range_with_len k n) (h e)
from_start true s a n e l h = ap (range_with_len (range_inclusive_start s)) none ∙ ap (range_with_len a) (sym none)
  where
    none : n ≡ 0
    none = sym l ∙ ap (range_inclusive_len (λ x y. y - x) (range_inclusive_start s) (range_inclusive_end s)) e

counts : (n : ℕ) (s : RangeInclusive ℕ) → left s ≡ n → AlwaysYields nat_range_inclusive_steps (λ x. x) s (range_with_len (range_inclusive_start s) n)
counts zero s l = λ x j p. omega (arith, p.1.1)
counts (suc n) s l = (
  (λ j p. omega (arith, p.1.0)),
  λ x j p.
      let fewer : left j ≡ n = omega (arith, p.1.1) in
      (p.1.0, subst (AlwaysYields nat_range_inclusive_steps (λ x. x) j) (from_start _ j (range_inclusive_start s + 1) n refl fewer p.1.2) (counts n j fewer)),
)

-- `1..=n`, of which nothing is taken yet
abbrev pub IsFrom1To : ℕ → RangeInclusive ℕ → Type 0
IsFrom1To n s = (range_inclusive_start s ≡ 1) × (range_inclusive_end s ≡ n) × (range_inclusive_exhausted s ≡ false)

pub from_1_to : {s : RangeInclusive ℕ} (n : ℕ) → IsFrom1To n s → YieldsList nat_range_inclusive_steps (λ x. x) s (range_with_len 1 n)
from_1_to {s} n h =
    let whole : left s ≡ n = ap (range_inclusive_len (λ x y. y - x) (range_inclusive_start s) (range_inclusive_end s)) h.2 ∙ omega (arith, h.0, h.1) in
    record { runs = subst (λ k. AlwaysYields nat_range_inclusive_steps (λ x. x) s (range_with_len k n)) h.0 (counts n s whole) }

module _ {F : Type 0} (g : Mut F (ℕ × Unit {0}) Line) (h : ℕ → TableEntry) (f : F) (acts : (x : ℕ) (r : Line) (q : F) → Called g f (x, tt) r q → (q ≡ f) × (entry_of r ≡ h x)) where
  -- a line for each number
  pub line_each : {s : Map (RangeInclusive ℕ) F} (n : ℕ) → IsFrom1To n (map_source s) → map_callee s ≡ f
      → YieldsList (maps nat_range_inclusive_steps g) entry_of s (each_to n (λ a. h a ∷ []))
  line_each {s} n counted callee =
      subst (YieldsList (maps nat_range_inclusive_steps g) entry_of s) (sym (flat_map_single h (range_with_len 1 n)))
      (YieldsList-from_map_by g entry_of h (from_1_to n counted) callee acts)

  but_one : (b : ℕ) (ks : List ℕ) → map h (filter (λ k. not (k == b)) ks) ≡ flat_map (λ k. cond (k == b) [] (h k ∷ [])) ks
  but_one b [] = refl
  but_one b (k ∷ ks) = by (k == b) (but_one b ks)
    where
      kept : List ℕ
      kept = filter (λ j. not (j == b)) ks

      by : (t : Bool) → map h kept ≡ flat_map (λ j. cond (j == b) [] (h j ∷ [])) ks
          → map h (cond (not t) (k ∷ kept) kept) ≡ cond t [] (h k ∷ []) ++ flat_map (λ j. cond (j == b) [] (h j ∷ [])) ks
      by true e = e
      by false e = ap (λ es. h k ∷ es) e

  -- and none for b
  pub line_each_but : {T : Type 0} (k : Mut T (Bor ℕ × Unit {0}) Bool) (b : ℕ) (test : T) → ((x : ℕ) (t : Bool) (q : T) → CalledAt k test x t q → (q ≡ test) × (t ≡ not (x == b)))
      → {s : Map (Filter (RangeInclusive ℕ) T) F} (n : ℕ) → IsFrom1To n (filter_source (map_source s)) → filter_callee (map_source s) ≡ test → map_callee s ≡ f
      → YieldsList (maps (filter_steps nat_range_inclusive_steps k) g) entry_of s (each_to n (λ a. cond (a == b) [] (h a ∷ [])))
  line_each_but k b test keeps {s} n counted chosen callee =
      subst (YieldsList (maps (filter_steps nat_range_inclusive_steps k) g) entry_of s) (but_one b (range_with_len 1 n))
      (YieldsList-from_map_by g entry_of h (YieldsList-from_filter k (λ x. not (x == b)) (from_1_to n counted) chosen keeps) callee acts)
