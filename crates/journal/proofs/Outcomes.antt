-- What an answer says of the tests behind it.
use Rattle.std.proofs.Common.{◌≡◌, ℕ, Ok, Err, refl, arith}
use Rattle.forms.specs.declared.fault.Fault.{Fault}
use Rattle.forms.specs.Checks.{Verdict, answer_if}

pub passed_by : {A : Type 0} (v : Verdict) (x y : A) → Ok x ≡ answer_if v y → v ≡ Ok tt
passed_by (Ok _) x y h = refl
passed_by (Err e) x y h = absurd (let z : ◌≡◌ {A = ℕ} 0 1 = cc in omega arith)

pub value_by : {A : Type 0} (v : Verdict) (x y : A) → Ok x ≡ answer_if v y → x ≡ y
value_by (Ok _) x y h = cc
value_by (Err e) x y h = absurd (let z : ◌≡◌ {A = ℕ} 0 1 = cc in omega arith)

pub refused_by : {A : Type 0} (v : Verdict) (e : Fault) (y : A) → Err e ≡ answer_if v y → v ≡ Err e
refused_by (Ok _) e y h = absurd (let z : ◌≡◌ {A = ℕ} 0 1 = cc in omega arith)
refused_by (Err f) e y h = cc
