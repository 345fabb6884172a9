use Rattle.std.proofs.Common.{◌≡◌, ◌≤◌, length, take, drop, map}
use Rattle.lines.proofs.Pairs.{byte_of}
use Rattle.lines.proofs.hex.write_bytes.Given as goal

abbrev pub invariant-loop-i : goal.invariant-loop-i
invariant-loop-i l = record {
  front : take l.i l.buffer ≡ map byte_of (take l.i l.pairs);
  short : length l.pairs ≤ 123;
  back : drop l.i l.buffer ≡ drop l.i l.initial.buffer;
}
