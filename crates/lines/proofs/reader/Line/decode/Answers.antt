use Rattle.std.proofs.Common.{◌≡◌, take, None, arith}
use Rattle.std.proofs.lemmas.Bool.Decides.{nat_tests}
use Rattle.lines.specs.Hex.{bad_place, bytes_of}
use Rattle.lines.proofs.Digits.{bytes_half, digits_bytes, all_or_place}
use Rattle.lines.proofs.reader.Line.decode.Goals as goal

pub write_bytes-requires : goal.write_bytes-requires
write_bytes-requires c = omega (arith, bytes_half c.args.self.part.now)

pub returns : goal.returns
returns c =
    let line = c.args.self.part.now in
    let good : bad_place line ≡ None = cc in
    let count = c.write_bytes.ensures.count in
    let front : take c.write_bytes.result c.write_bytes.new.buffer ≡ bytes_of line = rw count c.write_bytes.ensures.spelt.front in
    record {
      bytes = simp (good, front) (grind (arith, nat_tests));
      within = omega (arith, count, bytes_half line);
      rest = simp count c.write_bytes.ensures.spelt.rest;
      again = rw front (digits_bytes line (cc (all_or_place 1 line, good)) c.if-digits-ne0.false);
    }
