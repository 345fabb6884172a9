-- Plain time: 0 to 99,999,999 seconds. Assumes nothing.
use Rattle.std.specs.Prelude.{ℕ, ◌+◌, min, Bool, nat_le, List, decimal}
use Rattle.times.specs.declared.plain.Plain.{Plain}

-- the last second
abbrev pub last_second : ℕ
last_second = 99_999_999

-- the time of s seconds: the last where s is past it
abbrev pub plain : ℕ → Plain
plain s = record { seconds = min s last_second }

-- a value means the time of its seconds
abbrev pub plain_meaning : Plain → Plain
plain_meaning t = plain t.seconds

-- seconds add up
abbrev pub plain_sum : Plain → Plain → Plain
plain_sum t u = plain ((plain_meaning t).seconds + (plain_meaning u).seconds)

-- a time is not after another that has no fewer seconds
abbrev pub plain_not_after : Plain → Plain → Bool
plain_not_after t u = nat_le (plain_meaning t).seconds (plain_meaning u).seconds

-- how a time is written: its seconds
abbrev pub plain_text : Plain → List ℕ
plain_text t = decimal (plain_meaning t).seconds
