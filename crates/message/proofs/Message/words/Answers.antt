use Rattle.std.proofs.Common.{◌≡◌, ◌*◌, length, ap, ◌∙◌, arith}
use Rattle.forms.specs.Bytes.{be32}
use Rattle.message.proofs.Spans.{value_of_bytes, length_values}
use Rattle.message.proofs.Message.words.Goals as goal

pub returns : goal.returns
returns c =
    let q = c.args.self.now.quarters in
    let s = c.args.self.now.bytes.now in
    let long : length c.values.result.now ≡ 4 * q = ap length c.values.ensures ∙ length_values q s c.args.i c.args.self.now.formed c.requires in
    record {
      count = omega (arith, c.words_of.ensures.count, long);
      each = λ t l.
          c.words_of.ensures.each t (omega (arith, c.words_of.ensures.count, long)) ∙ ap (λ b. be32 b (4 * t)) c.values.ensures ∙ value_of_bytes q s c.args.i t l;
    }
