-- Ranked time: plain time, then a weight of 0 to 9,999. Assumes nothing.
use Rattle.std.specs.Prelude.{ℕ, ◌+◌, min, Bool, cond, ◌&&◌, ◌||◌, ◌==◌, nat_le, nat_lt, List, ◌++◌, codes, decimal}
use Rattle.times.specs.declared.plain.Plain.{Plain}
use Rattle.times.specs.declared.ranked.Ranked.{Ranked}
use Rattle.times.specs.Plain.{last_second, plain, plain_meaning, plain_sum}

-- the greatest weight
abbrev pub greatest_weight : ℕ
greatest_weight = 9_999

-- a plain time with the weight w: the weight is cut at its end, and at the last second it is 0
abbrev pub weighed : Plain → ℕ → Ranked
weighed t w = record { time = t; weight = cond (nat_lt t.seconds last_second) (min w greatest_weight) 0 }

-- the time of s seconds and the weight w
abbrev pub ranked : ℕ → ℕ → Ranked
ranked s w = weighed (plain s) w

-- a value means the time that its plain time means, with its weight
abbrev pub ranked_meaning : Ranked → Ranked
ranked_meaning t = weighed (plain_meaning t.time) t.weight

-- plain times add up, and weights add up
abbrev pub ranked_sum : Ranked → Ranked → Ranked
ranked_sum t u = weighed (plain_sum t.time u.time) ((ranked_meaning t).weight + (ranked_meaning u).weight)

-- a time is not after another that has more seconds, or as many and no less weight
abbrev pub ranked_not_after : Ranked → Ranked → Bool
ranked_not_after t u =
    nat_lt (ranked_meaning t).time.seconds (ranked_meaning u).time.seconds
    || ((ranked_meaning t).time.seconds == (ranked_meaning u).time.seconds && nat_le (ranked_meaning t).weight (ranked_meaning u).weight)

-- how a time is written: its seconds, a space and its weight
abbrev pub ranked_text : Ranked → List ℕ
ranked_text t = decimal (ranked_meaning t).time.seconds ++ (codes " " ++ decimal (ranked_meaning t).weight)
