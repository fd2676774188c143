use Rattle.std.proofs.Common.{◌≡◌, ℕ, ◌<◌, false, ◌&&◌, ltb, [], get_or}
use Rattle.forms.specs.Bytes.{be32}
use Rattle.message.proofs.AllBits.{BytesWithin}
use Rattle.message.proofs.scan.scan_both.Given as goal

abbrev pub invariant-loop-t : goal.invariant-loop-t
invariant-loop-t l = record {
  outs : (k : ℕ) → k < l.t → BytesWithin (get_or l.outs k []) l.bits;
  intos : (k : ℕ) → k < l.t → BytesWithin (get_or l.intos k []) l.bits;
  apart : l.lower ≡ 0 → (k : ℕ) → k < l.t → (ltb 0 (be32 (get_or l.outs k []) 0) && ltb 0 (be32 (get_or l.intos k []) 0)) ≡ false;
}
