use Rattle.std.proofs.Common.{◌≡◌, length, map, refl, ap, sym, ◌∙◌, arith}
use Rattle.std.proofs.lemmas.List.{take_all, length-map}
use Rattle.lines.specs.Hex.{bytes_of}
use Rattle.lines.proofs.Digits.{bytes_half}
use Rattle.lines.proofs.Pairs.{byte_of, bytes_of_pairs}
use Rattle.lines.proofs.hex.write_bytes.Goals as goal

pub loop-i-init : goal.loop-i-init
loop-i-init c = record { front = refl; short = omega (arith, c.as_chunks.ensures.front_len, bytes_half c.args.line.now, c.requires); back = refl }

pub returns : goal.returns
returns c =
    let pairs = c.as_chunks.result.0.now in
    let bytes : map byte_of pairs ≡ bytes_of c.args.line.now = rw c.as_chunks.ensures.front (sym (bytes_of_pairs c.args.line.now)) in
    let count : length pairs ≡ length (bytes_of c.args.line.now) = rw (← bytes) (sym (length-map pairs byte_of)) in
    let end : c.loop-i.i ≡ length pairs = omega arith in
    record {
      count = count;
      spelt = record {
        front = rw (← count, ← end) (c.loop-i.invariant.front ∙ ap (map byte_of) (take_all c.loop-i.i pairs (omega arith)) ∙ bytes);
        rest = rw (← count, ← end) c.loop-i.invariant.back;
      };
    }
