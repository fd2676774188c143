use Rattle.std.proofs.Common.{◌≡◌, ◌-◌, ◌≤◌, take, vec_len, vec_items}
use Rattle.std.specs.Io.KnownBytes.{Keeps, prepend_known}
use Rattle.serve.specs.Capacity.{capacity}
use Rattle.serve.proofs.input_buffer.InputBuffer.fill.Given as goal

-- what was held stands at the front, more stands behind it, and no byte is lost
abbrev pub invariant-loop-self : goal.invariant-loop-self
invariant-loop-self g l =
    (l.self-inside.start ≡ 0) × (l.initial.self-inside.end ≤ l.self-inside.end) × (l.self-inside.end ≤ capacity) × (vec_len l.self-inside.bytes ≡ capacity)
    × (take l.initial.self-inside.end (vec_items l.self-inside.bytes) ≡ take l.initial.self-inside.end (vec_items l.initial.self-inside.bytes))
    × Keeps (prepend_known (take l.initial.self-inside.end (vec_items l.initial.self-inside.bytes)) (g.R.Read.remaining l.initial.self-inside.input))
    (prepend_known (take l.self-inside.end (vec_items l.self-inside.bytes)) (g.R.Read.remaining l.self-inside.input))

abbrev pub decreases-loop-self : goal.decreases-loop-self
decreases-loop-self g l = l.wanted - l.self-inside.end
