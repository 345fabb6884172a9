use Rattle.std.proofs.Common.{◌≡◌, ◌+◌, ◌-◌, ◌<◌, min, ◌==◌, length, take, drop, refl, arith, length-drop}
use Rattle.std.specs.List.{position_or_len}
use Rattle.std.proofs.lemmas.List.{take_rest, drop_min, drop-drop, length-take-le}
use Rattle.lines.specs.Texts.{line_end, front, after}
use Rattle.lines.proofs.Cuts.{first_line}
use Rattle.lines.proofs.reader.Reader.next_line.Goals as goal

pub returns : goal.returns
returns c =
    let text = c.args.self.now.text.now in
    let at = c.args.self.now.at in
    let n = c.line_len.result in
    let rest = drop at text in
    let same_rest : take (length text - at) rest ≡ rest = take_rest text at in
    let some : 0 < length rest = omega (arith, length-drop at text) in
    let len : n ≡ position_or_len (λ c. c == line_end) rest = rw same_rest at c.line_len.ensures.value in
    let part : take n (take (length text - at) rest) ≡ front rest = rw (same_rest, len) refl in
    let step : c.min-self.result ≡ min (at + (n + 1)) (length text) = omega (arith, length-take-le n (take (length text - at) rest) c.line_len.ensures.within) in
    let left : drop c.min-self.result text ≡ after rest = rw (step, drop_min (at + (n + 1)) text, ← drop-drop (n + 1) at text, len) refl in
    record {
      part = part;
      rest = left;
      line = rw (part, left) (first_line rest some);
      number = refl;
      count = refl;
    }
